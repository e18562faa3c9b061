-- What the labels of a session decide of writes, and their refusals, depend on what it holds of the policies that they mention.
use Rattle.std.proofs.Common.{ℕ, ◌≡◌, refl, ap, List, [], ◌∷◌, ◌++◌, Bool, true, Option, Some, None, map}
use Rattle.std.specs.Prelude.{filter, option_map}
use Rattle.std.specs.List.{AllByRecursion, flat_map}
use Rattle.std.specs.Option.{option_and_then}
use Rattle.lb_base.specs.declared.value.Value.{Value}
use Rattle.lb_base.specs.declared.value.Value.TheVariants as values
use Rattle.lb_tree.specs.declared.query.Cond.{Cond}
use Rattle.lb_tree.specs.declared.query.Tab.{Tab}
use Rattle.lb_stmt.specs.declared.write.Assignment.{Assignment}
use Rattle.lb_stmt.specs.declared.write.Delete.{Delete}
use Rattle.lb_stmt.specs.declared.write.Insert.{Insert}
use Rattle.lb_stmt.specs.declared.write.InsertSource.{InsertSource}
use Rattle.lb_stmt.specs.declared.write.InsertSource.TheVariants as sources
use Rattle.lb_stmt.specs.declared.write.Stmt.TheVariants as stmts
use Rattle.lb_stmt.specs.declared.write.Update.{Update}
use Rattle.lb_cat.specs.declared.catalog.ColumnRec.{ColumnRec}
use Rattle.lb_cat.specs.declared.cred.Cred.{Cred}
use Rattle.lb_cat.specs.declared.cred.CredLabel.{CredLabel}
use Rattle.lb_cat.specs.declared.refusal.NeededPrivilege.TheVariants as needed
use Rattle.lb_cat.specs.declared.refusal.Refusal.TheVariants as refusals
use Rattle.lb_cat.specs.Catalog.{Cat, Table, Policy, table_named}
use Rattle.lb_names.specs.Mentions.{Mentions, table, in_assignment, in_where, in_source}
use Rattle.lb_mean.specs.Answer.{Checks}
use Rattle.lb_mean.specs.Named.{Uses, if_used}
use Rattle.lb_mean.specs.Uses.{uses_in, uses_in_cond}
use Rattle.lb_mean.specs.Refused.{policy_of_table, first_some, columns_of, component_at, label_securing}
use Rattle.lb_mean.specs.Frame.{Agrees}
use Rattle.lb_mean.specs.Laws.{SameHeldIn}
use Rattle.lb_mean.proofs.Agreeing.{first, second}
use Rattle.lb_mean.proofs.Lists.{all_two, all_flat}
use Rattle.lb_mean.proofs.Used.{AtUse, InUses, expr_uses_held, cond_uses_held}
use Rattle.lb_mean.proofs.Holding.{other, Alike, Holds, write_same, policy_alike, all_used, columns_same}
use Rattle.lb_answer.specs.Bases.{label_failure, label_held}
use Rattle.lb_answer.specs.Before.{privileges_refused, uses_of_parts, tables_read, reads_refused, write_refused, writes_refused_in, writes_refused, is_listed_column, is_set, source_reads_refused, source_masks_refused, insert_refused, update_refused, delete_refused}

-- ---- labels of writes

module _ (c : Cred) (labels : List CredLabel) where
  pub fails_same : (o : Option Policy) → Alike c labels o → label_failure c o ≡ label_failure (other c labels) o
  fails_same o h = λ i x. go o x h i
    where
      go : (p : Option Policy) (x : Value) → Alike c labels p → label_failure c p x ≡ label_failure (other c labels) p x
      go None x k = refl
      go (Some p) values.Null k = refl
      go (Some p) (values.Int n) k = refl
      go (Some p) (values.Text t) k = refl
      go (Some p) (values.Date d) k = refl
      go (Some p) (values.Label parts) k = write_same c labels p k parts.items

  pub own_same : (o : Option Policy) → Alike c labels o → label_held c o ≡ label_held (other c labels) o
  own_same None h = refl
  own_same (Some p) h = λ i. option_map values.Label (h i).write

  column_same : (o : Option Policy) → Alike c labels o → (column : ColumnRec) → write_refused c o column ≡ write_refused (other c labels) o column
  column_same None h column = refl
  column_same (Some p) h column = λ i. option_and_then (λ l. option_map (λ f. refusals.ColumnWrite column.name (component_at p f.component) f.rule) (write_same c labels p h l.parts.items i)) (label_securing p column)

-- ---- refusals

module _ (C : Cat) (c : Cred) (labels : List CredLabel) where
  abbrev pub d : Cred
  d = other c labels

  abbrev Keeps : Mentions → Type 0
  Keeps = Agrees (Holds c labels C)

  writes_in_same : (is_written : ColumnRec → Bool) (o : Option Table) → SameHeldIn C c d o → option_and_then (writes_refused_in C c is_written) o ≡ option_and_then (writes_refused_in C d is_written) o
  writes_in_same is_written None h = refl
  writes_in_same is_written (Some t) h = λ i. first_some (map (λ column. column_same c labels (policy_of_table C t) (policy_alike c labels C t h) column i) (filter is_written t.columns))

  writes_same : (is_written : ColumnRec → Bool) (n : List ℕ) → Holds c labels C (table n) → writes_refused C c is_written n ≡ writes_refused C d is_written n
  writes_same is_written n h = writes_in_same is_written (table_named C n) h

  abbrev Held : Uses → Type 0
  Held = InUses (columns_of C) (Holds c labels C)

  set_held : (xs : List Assignment) → Keeps (flat_map in_assignment xs) → AllByRecursion Held (map (λ a. uses_in (columns_of C) a.value) xs)
  set_held [] k = tt
  set_held (x ∷ xs) k = (
    expr_uses_held (columns_of C) (Holds c labels C) x.value (first (Holds c labels C) (in_assignment x) (flat_map in_assignment xs) k),
    set_held xs (second (Holds c labels C) (in_assignment x) (flat_map in_assignment xs) k),
  )

  where_held : (f : Option Cond) → Keeps (in_where f) → Held (if_used (option_map (uses_in_cond (columns_of C)) f))
  where_held None k = tt
  where_held (Some e) k = cond_uses_held (columns_of C) (Holds c labels C) e k

  reads_same : (tab : Tab) (xs : List Assignment) (f : Option Cond) → Holds c labels C (table tab.table) → Keeps (flat_map in_assignment xs) → Keeps (in_where f)
      → reads_refused C c tab xs f ≡ reads_refused C d tab xs f
  reads_same tab xs f target set kept = ap first_some (all_used c labels C (tables_read C tab xs f) (
    target,
    all_flat (AtUse (columns_of C) (Holds c labels C)) (λ u. u.tables) (uses_of_parts C xs f)
        (all_two Held (map (λ a. uses_in (columns_of C) a.value) xs) (if_used (option_map (uses_in_cond (columns_of C)) f) ∷ []) (set_held xs set) (where_held f kept, tt)),
  ))

  source_reads_same : (s : InsertSource) → Keeps (in_source s) → source_reads_refused C c s ≡ source_reads_refused C d s
  source_reads_same (sources.Rows rows) k = refl
  source_reads_same (sources.Query s) k = columns_same c labels C s k

  module _ (checks : Checks) where
    pub insert_refused_same : (n : Insert) → Keeps (table n.table ∷ in_source n.source) → insert_refused checks C c n ≡ insert_refused checks C d n
    insert_refused_same n k = λ i. first_some (
        checks C.tables C.policies (stmts.Insert n)
        ∷ privileges_refused C c needed.Insert n.table (in_source n.source)
        ∷ source_reads_same n.source k.1 i
        ∷ writes_same (is_listed_column n.columns) n.table k.0 i
        ∷ source_masks_refused C n.source
        ∷ [])

    pub update_refused_same : (u : Update) → Keeps (table u.target.table ∷ (flat_map in_assignment u.assignments ++ in_where u.filter)) → update_refused checks C c u ≡ update_refused checks C d u
    update_refused_same u k = λ i. first_some (
        checks C.tables C.policies (stmts.Update u)
        ∷ privileges_refused C c needed.Update u.target.table (flat_map in_assignment u.assignments ++ in_where u.filter)
        ∷ reads_same u.target u.assignments u.filter k.0 (first (Holds c labels C) (flat_map in_assignment u.assignments) (in_where u.filter) k.1) (second (Holds c labels C) (flat_map in_assignment u.assignments) (in_where u.filter) k.1) i
        ∷ writes_same (is_set u.assignments) u.target.table k.0 i
        ∷ [])

    pub delete_refused_same : (x : Delete) → Keeps (table x.target.table ∷ in_where x.filter) → delete_refused checks C c x ≡ delete_refused checks C d x
    delete_refused_same x k = λ i. first_some (
        checks C.tables C.policies (stmts.Delete x)
        ∷ privileges_refused C c needed.Delete x.target.table (in_where x.filter)
        ∷ reads_same x.target [] x.filter k.0 tt k.1 i
        ∷ writes_same (λ column. true) x.target.table k.0 i
        ∷ [])
