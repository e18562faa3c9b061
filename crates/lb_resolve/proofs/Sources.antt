-- The first table that a permission or mask may not read is the first that the pass over sources refuses.
use Rattle.std.proofs.Common.{◌≡◌, refl, ap, sym, ◌∙◌, ℕ, cond, true, false, List, [], ◌∷◌, Some, None, option_map}
use Rattle.std.specs.Prelude.{find}
use Rattle.lb_tree.specs.declared.query.Atom.{Atom}
use Rattle.lb_tree.specs.declared.query.Atom.TheVariants as atoms
use Rattle.lb_tree.specs.declared.query.Cond.{Cond}
use Rattle.lb_tree.specs.declared.query.Expr.{Expr}
use Rattle.lb_tree.specs.declared.query.Tab.{Tab}
use Rattle.lb_cat.specs.Catalog.{Cat}
use Rattle.lb_alter.specs.ChangeControl.{is_bad_source}
use Rattle.lb_names.specs.declared.refused.Refused.TheVariants as refused
use Rattle.lb_names.specs.Marks.{Marks, enter, item, column, star, call, cond_marks, expr_marks}
use Rattle.lb_names.specs.Mentions.{in_cond, in_expr, mentions, tables_in}
use Rattle.lb_names.specs.Passes.{first}
use Rattle.lb_names.specs.SortNames.{or_else}
use Rattle.lb_names.specs.StatementMarks.{over, permission_marks, mask_marks}
use Rattle.lb_names.proofs.Mentioned.{mentioned_cond, mentioned_expr}
use Rattle.lb_resolve.specs.Passing.{source_refusal}

-- a call names no table
no_table : (a : Atom) (ms : Marks) → tables_in (mentions (call a ∷ ms)) ≡ tables_in (mentions ms)
no_table atoms.Null ms = refl
no_table (atoms.Int n) ms = refl
no_table (atoms.Text t) ms = refl
no_table (atoms.Date d) ms = refl
no_table atoms.CurrentDate ms = refl
no_table atoms.SessionUser ms = refl
no_table (atoms.Column c) ms = refl
no_table atoms.CountRows ms = refl
no_table (atoms.VerifyRole roles) ms = refl
no_table (atoms.VerifyGroup groups) ms = refl
no_table (atoms.SecLabel p t) ms = refl
no_table (atoms.SecLabelByName p l) ms = refl
no_table (atoms.SecLabelToChar p c) ms = refl

module _ (C : Cat) (protected : List ℕ) where
  sources : (ms : Marks) → first (source_refusal C protected) ms ≡ option_map refused.Unknown (find (is_bad_source C protected) (tables_in (mentions ms)))
  sources [] = refl
  sources (enter items ∷ ms) = sources ms
  sources (item before around tab ∷ ms) =
      elim (is_bad_source C protected tab.table) as (λ b. or_else (cond b (Some (refused.Unknown tab.table)) None) (first (source_refusal C protected) ms) ≡ option_map refused.Unknown (cond b (Some tab.table) (find (is_bad_source C protected) (tables_in (mentions ms))))) [
        | true ↦ refl
        | false ↦ sources ms
      ]
  sources (column seen c ∷ ms) = sources ms
  sources (star items x ∷ ms) = sources ms
  sources (call a ∷ ms) = sources ms ∙ ap (λ ns. option_map refused.Unknown (find (is_bad_source C protected) ns)) (sym (no_table a ms))

  pub condition_sources : (tab : Tab) (c : Cond) → first (source_refusal C protected) (permission_marks tab c) ≡ option_map refused.Unknown (find (is_bad_source C protected) (tables_in (in_cond c)))
  unfolding cond_marks in_cond
  condition_sources tab c = sources (cond_marks c (over tab)) ∙ ap (λ ms. option_map refused.Unknown (find (is_bad_source C protected) (tables_in ms))) (mentioned_cond c (over tab))

  pub value_sources : (tab : Tab) (e : Expr) → first (source_refusal C protected) (mask_marks tab e) ≡ option_map refused.Unknown (find (is_bad_source C protected) (tables_in (in_expr e)))
  unfolding expr_marks in_expr
  value_sources tab e = sources (expr_marks e (over tab)) ∙ ap (λ ms. option_map refused.Unknown (find (is_bad_source C protected) (tables_in ms))) (mentioned_expr e (over tab))
