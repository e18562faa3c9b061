-- What is mentioned is there where the names are not refused.
use Rattle.std.proofs.Common.{◌≡◌, refl, subst, [], ◌∷◌, Bool, true, false, cond, Option, Some, None}
use Rattle.lb_tree.specs.declared.query.Atom.{Atom}
use Rattle.lb_tree.specs.declared.query.Atom.TheVariants as atoms
use Rattle.lb_tree.specs.declared.query.Tab.{Tab}
use Rattle.lb_tree.specs.declared.query.Cond.{Cond}
use Rattle.lb_tree.specs.declared.query.Expr.{Expr}
use Rattle.lb_stmt.specs.declared.write.Stmt.{Stmt}
use Rattle.lb_names.specs.declared.refused.Refused.{Refused}
use Rattle.lb_names.specs.declared.refused.Refused.TheVariants.{Unknown, Exists}
use Rattle.lb_names.specs.Sights.{Name, correlation}
use Rattle.lb_names.specs.SortNames.{or_else}
use Rattle.lb_names.specs.Marks.{enter, item, column, star, call, Marks}
use Rattle.lb_names.specs.StatementMarks.{over, marks_of, permission_marks, mask_marks}
use Rattle.lb_names.specs.Mentions.{Mentions, mentions, in_cond, in_expr, in_stmt}
use Rattle.lb_names.specs.Scopes.{Catalogue, is_some}
use Rattle.lb_names.specs.Passes.{first, is_taken, refusal_if, item_refusal, column_refusal, call_refusal, text_refusal, unless_known, passes}
use Rattle.lb_names.specs.Statements.{target_columns_refused, names_refused, permission_names_refused, mask_names_refused}
use Rattle.lb_names.specs.Agreeing.{AreThere}
use Rattle.lb_names.proofs.Mentioning.{of_cond, of_expr, of_stmt}

pub neither : {A : Type 0} (a b : Option A) → or_else a b ≡ None → (a ≡ None) × (b ≡ None)
neither None b h = (refl, h)
neither (Some x) b h = absurd cc

known : (b : Bool) (n : Name) → unless_known b n ≡ None → b ≡ true
known true n h = refl
known false n h = absurd cc

-- a test whose failure refuses
passed : (b : Bool) (then : Option Refused) (r : Refused) → cond b then (Some r) ≡ None → (b ≡ true) × (then ≡ None)
passed true then r h = (refl, h)
passed false then r h = absurd cc

module _ (C : Catalogue) (stored : Bool) where
  call_there : (a : Atom) (rest : Mentions) (ms : Marks) → call_refusal C (call a) ≡ None → AreThere C (mentions ms) → AreThere C (mentions (call a ∷ ms))
  call_there (atoms.SecLabel p t) rest ms h k = (known (C.has_policy p) p h, k)
  call_there (atoms.SecLabelByName p l) rest ms h k = let both : (C.has_policy p ≡ true) × (unless_known (C.has_label p l) l ≡ None) = passed (C.has_policy p) (unless_known (C.has_label p l) l) (Unknown p) h in ((both.0, known (C.has_label p l) l both.1), k)
  call_there (atoms.SecLabelToChar p c) rest ms h k = (known (C.has_policy p) p h, k)
  call_there atoms.Null rest ms h k = k
  call_there (atoms.Int n) rest ms h k = k
  call_there (atoms.Text t) rest ms h k = k
  call_there (atoms.Date d) rest ms h k = k
  call_there atoms.CurrentDate rest ms h k = k
  call_there atoms.SessionUser rest ms h k = k
  call_there (atoms.Column c) rest ms h k = k
  call_there atoms.CountRows rest ms h k = k
  call_there (atoms.VerifyRole r) rest ms h k = k
  call_there (atoms.VerifyGroup g) rest ms h k = k

  marks_there : (ms : Marks) → first (item_refusal C stored) ms ≡ None → first (call_refusal C) ms ≡ None → AreThere C (mentions ms)
  marks_there [] h k = tt
  marks_there (enter items ∷ ms) h k = marks_there ms h k
  marks_there (item before around tab ∷ ms) h k =
      let here : (item_refusal C stored (item before around tab) ≡ None) × (first (item_refusal C stored) ms ≡ None) = neither (item_refusal C stored (item before around tab)) (first (item_refusal C stored) ms) h in
      ((passed (is_some (C.columns tab.table)) (refusal_if (is_taken stored before around (correlation tab)) (Exists (correlation tab))) (Unknown tab.table) here.0).0, marks_there ms here.1 k)
  marks_there (column seen c ∷ ms) h k = marks_there ms h k
  marks_there (star items x ∷ ms) h k = marks_there ms h k
  marks_there (call a ∷ ms) h k =
      let here : (call_refusal C (call a) ≡ None) × (first (call_refusal C) ms ≡ None) = neither (call_refusal C (call a)) (first (call_refusal C) ms) k in
      call_there a [] ms here.0 (marks_there ms h here.1)

  passes_there : (ms : Marks) (targets : Option Refused) → passes C stored ms targets ≡ None → AreThere C (mentions ms)
  passes_there ms targets h =
      let items : (first (item_refusal C stored) ms ≡ None) × (or_else (first (column_refusal C) ms) (or_else targets (or_else (first (call_refusal C) ms) (first (text_refusal C) ms))) ≡ None) = neither (first (item_refusal C stored) ms) (or_else (first (column_refusal C) ms) (or_else targets (or_else (first (call_refusal C) ms) (first (text_refusal C) ms)))) h in
      let columns : (first (column_refusal C) ms ≡ None) × (or_else targets (or_else (first (call_refusal C) ms) (first (text_refusal C) ms)) ≡ None) = neither (first (column_refusal C) ms) (or_else targets (or_else (first (call_refusal C) ms) (first (text_refusal C) ms))) items.1 in
      let given : (targets ≡ None) × (or_else (first (call_refusal C) ms) (first (text_refusal C) ms) ≡ None) = neither targets (or_else (first (call_refusal C) ms) (first (text_refusal C) ms)) columns.1 in
      marks_there ms items.0 (neither (first (call_refusal C) ms) (first (text_refusal C) ms) given.1).0

pub stmt_there : (C : Catalogue) (q : Stmt) → names_refused C q ≡ None → AreThere C (in_stmt q)
stmt_there C q h = subst (AreThere C) (of_stmt q) (passes_there C false (marks_of q) (target_columns_refused C q) h)

pub permission_there : (C : Catalogue) (tab : Tab) (c : Cond) → permission_names_refused C tab c ≡ None → AreThere C (in_cond c)
permission_there C tab c h = subst (AreThere C) (of_cond c (over tab)) (passes_there C true (permission_marks tab c) None h)

pub mask_there : (C : Catalogue) (tab : Tab) (e : Expr) → mask_names_refused C tab e ≡ None → AreThere C (in_expr e)
mask_there C tab e h = subst (AreThere C) (of_expr e (over tab)) (passes_there C true (mask_marks tab e) None h)
