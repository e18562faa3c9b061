-- Two sessions that hold the same of the policies that a statement mentions have one answer to it.
use Rattle.std.proofs.Common.{ℕ, ℤ, ◌≡◌, refl, ◌∙◌, List, [], ◌∷◌, ◌++◌, false, Option, Some, None, map, Ok}
use Rattle.std.specs.Prelude.{filter, option_map}
use Rattle.std.specs.List.{AllByRecursion, flat_map}
use Rattle.std.specs.Option.{option_and_then}
use Rattle.lb_base.specs.declared.value.Value.{Value}
use Rattle.lb_tree.specs.declared.query.Cond.{Cond}
use Rattle.lb_tree.specs.declared.query.Expr.{Expr}
use Rattle.lb_tree.specs.declared.query.Tab.{Tab}
use Rattle.lb_stmt.specs.declared.write.Assignment.{Assignment}
use Rattle.lb_stmt.specs.declared.write.Delete.{Delete}
use Rattle.lb_stmt.specs.declared.write.Insert.{Insert}
use Rattle.lb_stmt.specs.declared.write.InsertSource.{InsertSource}
use Rattle.lb_stmt.specs.declared.write.InsertSource.TheVariants as sources
use Rattle.lb_stmt.specs.declared.write.Stmt.{Stmt}
use Rattle.lb_stmt.specs.declared.write.Stmt.TheVariants as stmts
use Rattle.lb_stmt.specs.declared.write.Update.{Update}
use Rattle.lb_cat.specs.declared.cred.Cred.{Cred}
use Rattle.lb_cat.specs.declared.cred.CredLabel.{CredLabel}
use Rattle.lb_cat.specs.declared.reply.Verb.TheVariants as verbs
use Rattle.lb_cat.specs.Catalog.{Cat, Table, Policy, table_named}
use Rattle.lb_names.specs.Mentions.{Mentions, table, in_expr, in_cond, in_select, in_assignment, in_where, in_source, in_stmt}
use Rattle.lb_rows.specs.Tables.{Tables, rows_of}
use Rattle.lb_mean.specs.Answer.{Checks}
use Rattle.lb_mean.specs.Setting.{Setting, row_frame}
use Rattle.lb_mean.specs.Conditions.{outputs}
use Rattle.lb_mean.specs.Expressions.{all_values}
use Rattle.lb_mean.specs.Joined.{piece}
use Rattle.lb_names.specs.Sights.{correlation}
use Rattle.lb_mean.specs.Queries.{where_true}
use Rattle.lb_mean.specs.Meaning.{says, means}
use Rattle.lb_mean.specs.Uses.{uses_in, uses_in_query, from_item}
use Rattle.lb_mean.specs.Visible.{is_visible, is_permitted}
use Rattle.lb_mean.specs.Refused.{policy_of_table, columns_of, shown_by, shown_by_name}
use Rattle.lb_mean.specs.Frame.{Agrees}
use Rattle.lb_mean.specs.Laws.{SameHeldIn}
use Rattle.lb_mean.proofs.Agreeing.{first, second}
use Rattle.lb_mean.proofs.Holding.{Holds, policy_alike}
use Rattle.lb_mean.proofs.Sessions.{W, V, G, H, allowed_same, visible_same, columns, permissions, mention_same, seen_all, expr_means, cond_says, body_same, chosen_same, query_same}
use Rattle.lb_answer.specs.OrRefused.{all_made}
use Rattle.lb_cat.specs.OrRefused.{OrRefused, ◌>>=◌}
use Rattle.lb_answer.specs.Answer.{answer, done, unless_refused, with_target, places_given, places_of, insert_into, update_in, delete_from}
use Rattle.lb_answer.specs.Bases.{label_failure, label_held, masked_among, values_basis}
use Rattle.lb_answer.specs.Checks.{new_row}
use Rattle.lb_answer.specs.Writes.{Written, updated, deleted, inserted, is_unique, is_within_cells}
use Rattle.lb_answer.specs.Laws.{SessionsAlike}
use Rattle.lb_answer.proofs.Apart.{d, fails_same, own_same, insert_refused_same, update_refused_same, delete_refused_same}

module _ (C : Cat) (c : Cred) (labels : List CredLabel) (T : Tables) (day : ℤ) where
  abbrev g : Setting
  g = G C c labels T day

  abbrev h : Setting
  h = H C c labels T day

  abbrev w : Setting
  w = W C c labels T day

  abbrev v : Setting
  v = V C c labels T day

  abbrev Keep : Mentions → Type 0
  Keep = Agrees (Holds c labels C)

  expr_alike : (e : Expr) → Keep (in_expr e) → means g e ≡ means h e
  expr_alike e k = expr_means C c labels T day e (seen_all C c labels T day (in_expr e) k)

  where_alike : (f : Option Cond) → Keep (in_where f) → option_map (says g) f ≡ option_map (says h) f
  where_alike None k = refl
  where_alike (Some e) k = λ i. Some (cond_says C c labels T day e (seen_all C c labels T day (in_cond e) k) i)

  -- ---- the target

  abbrev Stored : Table → Type 0
  Stored t = SameHeldIn C c (d C c labels) (Some t)

  module _ (t : Table) (stored : Stored t) where
    sees_alike : is_visible w t ≡ is_visible v t
    sees_alike = λ i row. visible_same C c labels T day t row (columns C c labels T day t stored) (permissions C c labels T day t stored) i

    permits_alike : is_permitted w t ≡ is_permitted v t
    permits_alike = λ i row. allowed_same C c labels T day t row (permissions C c labels T day t stored) i

    fails_alike : label_failure c (policy_of_table C t) ≡ label_failure (d C c labels) (policy_of_table C t)
    fails_alike = fails_same c labels (policy_of_table C t) (policy_alike c labels C t stored)

    own_alike : label_held c (policy_of_table C t) ≡ label_held (d C c labels) (policy_of_table C t)
    own_alike = own_same c labels (policy_of_table C t) (policy_alike c labels C t stored)

  -- the row that an UPDATE or DELETE tests
  old_alike : (tab : Tab) → Holds c labels C (table tab.table) → (row : List Value) → row_frame (piece (g.sources tab.table) (correlation tab) row ∷ []) ≡ row_frame (piece (h.sources tab.table) (correlation tab) row ∷ [])
  old_alike tab target row = λ i. row_frame (piece (mention_same C c labels T day (table tab.table) target i) (correlation tab) row ∷ [])

  -- ---- UPDATE

  assigned_alike : (xs : List Assignment) → Keep (flat_map in_assignment xs) → map (λ a. means g a.value) xs ≡ map (λ a. means h a.value) xs
  assigned_alike [] k = refl
  assigned_alike (x ∷ xs) k = λ i. expr_alike x.value (first (Holds c labels C) (in_assignment x) (flat_map in_assignment xs) k) i
      ∷ assigned_alike xs (second (Holds c labels C) (in_assignment x) (flat_map in_assignment xs) k) i

  update_alike : (u : Update) (t : Table) → Holds c labels C (table u.target.table) → Stored t → Keep (flat_map in_assignment u.assignments ++ in_where u.filter)
      → update_in C c T day u t ≡ update_in C (d C c labels) T day u t
  update_alike u t target stored k = λ i. updated (policy_of_table C t)
      (record {
        sees = sees_alike t stored i;
        keeps = λ row. where_true (where_alike u.filter (second (Holds c labels C) (flat_map in_assignment u.assignments) (in_where u.filter) k) i) (old_alike u.target target row i ∷ []);
        values = λ row. all_values (assigned_alike u.assignments (first (Holds c labels C) (flat_map in_assignment u.assignments) (in_where u.filter) k) i) (old_alike u.target target row i ∷ []);
        masked = λ row. flat_map (λ a. masked_among C (old_alike u.target target row i) (flat_map (shown_by_name (from_item (columns_of C) u.target ∷ [])) (uses_in (columns_of C) a.value).columns)) u.assignments;
        permits = permits_alike t stored i;
        fails = fails_alike t stored i;
        own_label = own_alike t stored i;
      })
      t (places_of t (map (λ a. a.column) u.assignments)) (rows_of u.target.table T)

  -- ---- DELETE

  delete_alike : (x : Delete) (t : Table) → Holds c labels C (table x.target.table) → Stored t → Keep (in_where x.filter) → delete_from C c T day x t ≡ delete_from C (d C c labels) T day x t
  delete_alike x t target stored k = λ i. deleted (policy_of_table C t)
      (record {
        sees = sees_alike t stored i;
        keeps = λ row. where_true (where_alike x.filter k i) (old_alike x.target target row i ∷ []);
        values = λ row. Ok [];
        masked = λ row. [];
        permits = permits_alike t stored i;
        fails = fails_alike t stored i;
        own_label = own_alike t stored i;
      })
      t (rows_of x.target.table T)

  -- ---- INSERT

  values_alike : (es : List Expr) → Keep (flat_map in_expr es) → map (means g) es ≡ map (means h) es
  values_alike [] k = refl
  values_alike (e ∷ es) k = λ i. expr_alike e (first (Holds c labels C) (in_expr e) (flat_map in_expr es) k) i
      ∷ values_alike es (second (Holds c labels C) (in_expr e) (flat_map in_expr es) k) i

  module _ (t : Table) (stored : Stored t) (places : List ℕ) where
    abbrev p : Option Policy
    p = policy_of_table C t

    rows_alike : (rows : List (List Expr)) → Keep (flat_map (flat_map in_expr) rows)
        → map (new_row p (values_basis C c w g t p) t places None) rows ≡ map (new_row p (values_basis C (d C c labels) v h t p) t places None) rows
    rows_alike [] k = refl
    rows_alike (es ∷ rows) k = λ i. new_row p
        (record {
          sees = λ row. Ok false;
          keeps = λ row. Ok false;
          values = λ x. all_values (values_alike es (first (Holds c labels C) (flat_map in_expr es) (flat_map (flat_map in_expr) rows) k) i) [];
          masked = λ x. [];
          permits = permits_alike t stored i;
          fails = fails_alike t stored i;
          own_label = own_alike t stored i;
        })
        t places None es
        ∷ rows_alike rows (second (Holds c labels C) (flat_map in_expr es) (flat_map (flat_map in_expr) rows) k) i

  insert_alike : (n : Insert) (source : InsertSource) (t : Table) → Stored t → Keep (in_source source) → insert_into C c T day n source t ≡ insert_into C (d C c labels) T day n source t
  insert_alike n (sources.Rows rows) t stored k = λ i.
      all_made (rows_alike t stored (places_given t n.columns) rows k i) >>= λ news.
      is_unique t (rows_of n.table T ++ news) >>= λ unique.
      is_within_cells t (rows_of n.table T ++ news) >>= λ within.
      Ok (record { count = Rattle.std.specs.Prelude.length news; rows = rows_of n.table T ++ news })
  insert_alike n (sources.Query s) t stored k = λ i. inserted (policy_of_table C t)
      (record {
        sees = λ row. Ok false;
        keeps = λ row. Ok false;
        values = λ f. outputs (body_same C c labels T day s (seen_all C c labels T day (in_select s) k) i).items (f ∷ []);
        masked = λ f. masked_among C f (flat_map (shown_by (uses_in_query (columns_of C) s.query).from) (uses_in_query (columns_of C) s.query).items);
        permits = permits_alike t stored i;
        fails = fails_alike t stored i;
        own_label = own_alike t stored i;
      })
      t (places_given t n.columns) (chosen_same C c labels T day s (seen_all C c labels T day (in_select s) k) i) (rows_of n.table T)

  -- ---- statements

  target_alike : (o : Option Table) (n : List ℕ) (verb : _) (f f' : Table → OrRefused Written) → SameHeldIn C c (d C c labels) o → ((t : Table) → Stored t → f t ≡ f' t)
      → with_target o n (λ t. done verb n (f t)) ≡ with_target o n (λ t. done verb n (f' t))
  target_alike None n verb f f' stored same = refl
  target_alike (Some t) n verb f f' stored same = λ i. done verb n (same t stored i)

  statement_alike : (checks : Checks) (s : Stmt) → Keep (in_stmt s) → answer checks C c T day s ≡ answer checks C (d C c labels) T day s
  statement_alike checks (stmts.Select s) k = λ i. record { reply = query_same C c labels T day checks s k i; table = None }
  statement_alike checks (stmts.Insert n) k = λ i. unless_refused (insert_refused_same C c labels checks n k i)
      (target_alike (table_named C n.table) n.table verbs.Inserted (insert_into C c T day n n.source) (insert_into C (d C c labels) T day n n.source) k.0 (λ t stored. insert_alike n n.source t stored k.1) i)
  statement_alike checks (stmts.Update u) k = λ i. unless_refused (update_refused_same C c labels checks u k i)
      (target_alike (table_named C u.target.table) u.target.table verbs.Updated (update_in C c T day u) (update_in C (d C c labels) T day u) k.0 (λ t stored. update_alike u t k.0 stored k.1) i)
  statement_alike checks (stmts.Delete x) k = λ i. unless_refused (delete_refused_same C c labels checks x k i)
      (target_alike (table_named C x.target.table) x.target.table verbs.Deleted (delete_from C c T day x) (delete_from C (d C c labels) T day x) k.0 (λ t stored. delete_alike x t k.0 stored k.1) i)
  statement_alike checks (stmts.Change change) k = refl

pub sessions_alike : SessionsAlike
sessions_alike checks C c d T day s same k =
    statement_alike C c d.labels T day checks s k
    ∙ (λ i. answer checks C (record { user = same.user i; groups = same.groups i; roles = same.roles i; secadm = same.secadm i; privileges = same.privileges i; labels = d.labels }) T day s)
