-- Refusals of writes, and the masked columns of their values, depend on the records of what the statement mentions.
use Rattle.std.proofs.Common.{ℕ, ◌≡◌, refl, ap, ◌∙◌, List, [], ◌∷◌, ◌++◌, Bool, true, false, Option, Some, None, map}
use Rattle.std.specs.Prelude.{filter, filter_map, option_map}
use Rattle.std.specs.List.{AllByRecursion, flat_map}
use Rattle.std.specs.Option.{option_and_then}
use Rattle.lb_tree.specs.declared.query.Cond.{Cond}
use Rattle.lb_tree.specs.declared.query.Expr.{Expr}
use Rattle.lb_tree.specs.declared.query.Select.{Select}
use Rattle.lb_tree.specs.declared.query.Tab.{Tab}
use Rattle.lb_stmt.specs.declared.write.Assignment.{Assignment}
use Rattle.lb_stmt.specs.declared.write.Delete.{Delete}
use Rattle.lb_stmt.specs.declared.write.Insert.{Insert}
use Rattle.lb_stmt.specs.declared.write.InsertSource.{InsertSource}
use Rattle.lb_stmt.specs.declared.write.InsertSource.TheVariants as sources
use Rattle.lb_stmt.specs.declared.write.Stmt.TheVariants as stmts
use Rattle.lb_stmt.specs.declared.write.Update.{Update}
use Rattle.lb_cat.specs.declared.catalog.ColumnRec.{ColumnRec}
use Rattle.lb_cat.specs.declared.cred.Cred.{Cred}
use Rattle.lb_cat.specs.declared.refusal.NeededPrivilege.{NeededPrivilege}
use Rattle.lb_cat.specs.declared.refusal.NeededPrivilege.TheVariants as needed
use Rattle.lb_cat.specs.Catalog.{Cat, Table, table_named}
use Rattle.lb_names.specs.Mentions.{Mentions, table, in_expr, in_select, in_assignment, in_where, in_source}
use Rattle.lb_rows.specs.Tables.{Tables}
use Rattle.lb_mean.specs.Answer.{Checks}
use Rattle.lb_mean.specs.Frame.{Agrees}
use Rattle.lb_mean.specs.Named.{Use, Uses, if_used, named_through}
use Rattle.lb_mean.specs.Refused.{first_some, columns_in, columns_of, use_refused, Shown, MaskedUse, masked_use, shown_by, shown_by_name}
use Rattle.lb_mean.specs.Setting.{Frame}
use Rattle.lb_mean.specs.Uses.{uses_in, uses_in_cond, uses_in_query, from_item}
use Rattle.lb_mean.proofs.Agreeing.{first, second}
use Rattle.lb_mean.specs.Laws.{SameMention, SameStored}
use Rattle.lb_mean.proofs.Lists.{all_two, all_flat, all_true}
use Rattle.lb_mean.proofs.Used.{AtUse, InUses, cond_uses_same, expr_uses_held, cond_uses_held}
use Rattle.lb_mean.proofs.Access.{agreed_columns, expr_uses_agree, lacked_same, all_lacked, policy_of_same, all_used, body_same, body_held, AtShown, shown_named, all_masked, query_shown, columns_refused_same, masks_refused_same}
use Rattle.lb_answer.specs.Basis.{MaskedValue}
use Rattle.lb_answer.specs.Bases.{masked_values}
use Rattle.lb_answer.specs.Before.{privileges_refused, uses_of_parts, tables_read, reads_refused, write_refused, writes_refused_in, writes_refused, is_listed_column, is_set, source_reads_refused, source_masks_refused, insert_refused, update_refused, delete_refused}

module _ (C D : Cat) (T U : Tables) where
  abbrev Alike : Mentions → Type 0
  Alike = Agrees (SameMention C D T U)

  -- ---- masked columns in values

  abbrev masked_by : Cat → Tab → Expr → List MaskedUse
  masked_by E tab e = filter_map (masked_use E) (flat_map (shown_by_name (from_item (columns_of E) tab ∷ [])) (uses_in (columns_of E) e).columns)

  value_masked : (tab : Tab) → SameMention C D T U (table tab.table) → (e : Expr) → Alike (in_expr e) → masked_by C tab e ≡ masked_by D tab e
  value_masked tab target e k =
      all_masked C D T U (flat_map (shown_by_name (from_item (columns_of C) tab ∷ [])) (uses_in (columns_of C) e).columns)
      (all_flat (AtShown C D T U) (shown_by_name (from_item (columns_of C) tab ∷ [])) (uses_in (columns_of C) e).columns
      (all_true (λ n. AllByRecursion (AtShown C D T U) (shown_by_name (from_item (columns_of C) tab ∷ []) n)) (λ n. shown_named C D T U (from_item (columns_of C) tab ∷ []) n (target, tt)) (uses_in (columns_of C) e).columns))
      ∙ λ i. filter_map (masked_use D) (flat_map (shown_by_name (record { tab = tab; columns = columns_in (target.0.0 i) } ∷ [])) (expr_uses_agree C D T U e k i).columns)

  abbrev set_values : Cat → Tab → Frame → List Assignment → List MaskedValue
  set_values E tab f xs = flat_map (λ a. flat_map (masked_values f) (masked_by E tab a.value)) xs

  pub set_masked : (tab : Tab) → SameMention C D T U (table tab.table) → {f f' : Frame} → f ≡ f' → (xs : List Assignment) → Alike (flat_map in_assignment xs) → set_values C tab f xs ≡ set_values D tab f' xs
  set_masked tab target e [] k = refl
  set_masked tab target e (x ∷ xs) k = λ i. flat_map (masked_values (e i)) (value_masked tab target x.value (first (SameMention C D T U) (in_assignment x) (flat_map in_assignment xs) k) i)
      ++ set_masked tab target e xs (second (SameMention C D T U) (in_assignment x) (flat_map in_assignment xs) k) i

  abbrev shown_in : Cat → Select → List Shown
  shown_in E s = flat_map (shown_by (uses_in_query (columns_of E) s.query).from) (uses_in_query (columns_of E) s.query).items

  pub query_masked : (s : Select) → Alike (in_select s) → filter_map (masked_use C) (shown_in C s) ≡ filter_map (masked_use D) (shown_in D s)
  query_masked s k = all_masked C D T U (shown_in C s) (query_shown C D T U (uses_in_query (columns_of C) s.query) (body_held C D T U s k))
      ∙ λ i. filter_map (masked_use D) (flat_map (shown_by (body_same C D T U s k i).from) (body_same C D T U s k i).items)

  -- ---- privileges and protected columns

  module _ (c : Cred) where
    privileges_same : (which : NeededPrivilege) (n : List ℕ) (ms : Mentions) → SameMention C D T U (table n) → Alike ms → privileges_refused C c which n ms ≡ privileges_refused D c which n ms
    privileges_same which n ms target k = λ i. first_some (lacked_same C D T U c which n target i ∷ all_lacked C D T U c needed.Select ms k i)

    writes_in_same : (is_written : ColumnRec → Bool) (o : Option Table) → SameStored C D T U o → option_and_then (writes_refused_in C c is_written) o ≡ option_and_then (writes_refused_in D c is_written) o
    writes_in_same is_written None h = refl
    writes_in_same is_written (Some t) h = λ i. first_some (map (write_refused c (policy_of_same C D T U t h i)) (filter is_written t.columns))

    writes_same : (is_written : ColumnRec → Bool) (n : List ℕ) → SameMention C D T U (table n) → writes_refused C c is_written n ≡ writes_refused D c is_written n
    writes_same is_written n h = writes_in_same is_written (table_named C n) h.1 ∙ λ i. option_and_then (writes_refused_in D c is_written) (h.0.0 i)

    set_uses : (xs : List Assignment) → Alike (flat_map in_assignment xs) → map (λ a. uses_in (columns_of C) a.value) xs ≡ map (λ a. uses_in (columns_of D) a.value) xs
    set_uses [] k = refl
    set_uses (x ∷ xs) k = λ i. expr_uses_agree C D T U x.value (first (SameMention C D T U) (in_assignment x) (flat_map in_assignment xs) k) i
        ∷ set_uses xs (second (SameMention C D T U) (in_assignment x) (flat_map in_assignment xs) k) i

    where_uses : (f : Option Cond) → Alike (in_where f) → if_used (option_map (uses_in_cond (columns_of C)) f) ≡ if_used (option_map (uses_in_cond (columns_of D)) f)
    where_uses None k = refl
    where_uses (Some e) k = cond_uses_same (columns_of C) (columns_of D) e (agreed_columns C D T U (in_where (Some e)) k)

    abbrev Held : Uses → Type 0
    Held = InUses (columns_of C) (SameMention C D T U)

    abbrev AtKept : Use → Type 0
    AtKept = AtUse (columns_of C) (SameMention C D T U)

    set_held : (xs : List Assignment) → Alike (flat_map in_assignment xs) → AllByRecursion Held (map (λ a. uses_in (columns_of C) a.value) xs)
    set_held [] k = tt
    set_held (x ∷ xs) k = (
      expr_uses_held (columns_of C) (SameMention C D T U) x.value (first (SameMention C D T U) (in_assignment x) (flat_map in_assignment xs) k),
      set_held xs (second (SameMention C D T U) (in_assignment x) (flat_map in_assignment xs) k),
    )

    where_held : (f : Option Cond) → Alike (in_where f) → Held (if_used (option_map (uses_in_cond (columns_of C)) f))
    where_held None k = tt
    where_held (Some e) k = cond_uses_held (columns_of C) (SameMention C D T U) e k

    module _ (tab : Tab) (xs : List Assignment) (f : Option Cond) (target : SameMention C D T U (table tab.table)) (set : Alike (flat_map in_assignment xs)) (kept : Alike (in_where f)) where
      parts_same : uses_of_parts C xs f ≡ uses_of_parts D xs f
      parts_same = λ i. set_uses xs set i ++ (where_uses f kept i ∷ [])

      parts_held : AllByRecursion Held (uses_of_parts C xs f)
      parts_held = all_two Held (map (λ a. uses_in (columns_of C) a.value) xs) (if_used (option_map (uses_in_cond (columns_of C)) f) ∷ []) (set_held xs set) (where_held f kept, tt)

      read_same : tables_read C tab xs f ≡ tables_read D tab xs f
      read_same = λ i.
          record {
            item = record { tab = tab; columns = columns_in (target.0.0 i) };
            columns = named_through (record { tab = tab; columns = columns_in (target.0.0 i) }) (flat_map (λ u. u.columns) (parts_same i));
            everything = false;
          } ∷ flat_map (λ u. u.tables) (parts_same i)

      read_held : AllByRecursion AtKept (tables_read C tab xs f)
      read_held = (target, all_flat AtKept (λ u. u.tables) (uses_of_parts C xs f) parts_held)

      reads_same : reads_refused C c tab xs f ≡ reads_refused D c tab xs f
      reads_same = ap first_some (all_used C D T U c (tables_read C tab xs f) read_held) ∙ λ i. first_some (map (use_refused D c) (read_same i))

    source_reads_same : (s : InsertSource) → Alike (in_source s) → source_reads_refused C c s ≡ source_reads_refused D c s
    source_reads_same (sources.Rows rows) k = refl
    source_reads_same (sources.Query s) k = columns_refused_same C D T U s k c

    source_masks_same : (s : InsertSource) → Alike (in_source s) → source_masks_refused C s ≡ source_masks_refused D s
    source_masks_same (sources.Rows rows) k = refl
    source_masks_same (sources.Query s) k = masks_refused_same C D T U s k

-- ---- all of them

module _ (checks : Checks) (C D : Cat) (c : Cred) (T U : Tables) where
  pub insert_refused_same : (n : Insert) → Alike C D T U (table n.table ∷ in_source n.source) → checks C.tables C.policies (stmts.Insert n) ≡ checks D.tables D.policies (stmts.Insert n)
      → insert_refused checks C c n ≡ insert_refused checks D c n
  insert_refused_same n k same = λ i. first_some (
      same i
      ∷ privileges_same C D T U c needed.Insert n.table (in_source n.source) k.0 k.1 i
      ∷ source_reads_same C D T U c n.source k.1 i
      ∷ writes_same C D T U c (is_listed_column n.columns) n.table k.0 i
      ∷ source_masks_same C D T U c n.source k.1 i
      ∷ [])

  pub update_refused_same : (u : Update) → Alike C D T U (table u.target.table ∷ (flat_map in_assignment u.assignments ++ in_where u.filter)) → checks C.tables C.policies (stmts.Update u) ≡ checks D.tables D.policies (stmts.Update u)
      → update_refused checks C c u ≡ update_refused checks D c u
  update_refused_same u k same = λ i. first_some (
      same i
      ∷ privileges_same C D T U c needed.Update u.target.table (flat_map in_assignment u.assignments ++ in_where u.filter) k.0 k.1 i
      ∷ reads_same C D T U c u.target u.assignments u.filter k.0 (first (SameMention C D T U) (flat_map in_assignment u.assignments) (in_where u.filter) k.1) (second (SameMention C D T U) (flat_map in_assignment u.assignments) (in_where u.filter) k.1) i
      ∷ writes_same C D T U c (is_set u.assignments) u.target.table k.0 i
      ∷ [])

  pub delete_refused_same : (d : Delete) → Alike C D T U (table d.target.table ∷ in_where d.filter) → checks C.tables C.policies (stmts.Delete d) ≡ checks D.tables D.policies (stmts.Delete d)
      → delete_refused checks C c d ≡ delete_refused checks D c d
  delete_refused_same d k same = λ i. first_some (
      same i
      ∷ privileges_same C D T U c needed.Delete d.target.table (in_where d.filter) k.0 k.1 i
      ∷ reads_same C D T U c d.target [] d.filter k.0 tt k.1 i
      ∷ writes_same C D T U c (λ column. true) d.target.table k.0 i
      ∷ [])
