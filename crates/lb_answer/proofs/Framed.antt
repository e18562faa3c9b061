-- What a statement is answered depends on what it mentions.
use Rattle.std.proofs.Common.{ℕ, ℤ, ◌≡◌, refl, ◌∙◌, List, [], ◌∷◌, ◌++◌, false, Option, Some, None, map, Ok}
use Rattle.std.specs.Prelude.{option_map}
use Rattle.std.specs.List.{flat_map}
use Rattle.lb_base.specs.declared.value.Value.{Value}
use Rattle.lb_tree.specs.declared.query.Cond.{Cond}
use Rattle.lb_tree.specs.declared.query.Expr.{Expr}
use Rattle.lb_stmt.specs.declared.write.Assignment.{Assignment}
use Rattle.lb_stmt.specs.declared.write.Delete.{Delete}
use Rattle.lb_stmt.specs.declared.write.Insert.{Insert}
use Rattle.lb_stmt.specs.declared.write.InsertSource.{InsertSource}
use Rattle.lb_stmt.specs.declared.write.InsertSource.TheVariants as sources
use Rattle.lb_stmt.specs.declared.write.Stmt.TheVariants as stmts
use Rattle.lb_stmt.specs.declared.write.Update.{Update}
use Rattle.lb_cat.specs.declared.cred.Cred.{Cred}
use Rattle.lb_cat.specs.declared.reply.Verb.TheVariants as verbs
use Rattle.lb_cat.specs.Catalog.{Cat, Table, Policy, table_named}
use Rattle.lb_names.specs.Mentions.{Mentions, table, in_expr, in_cond, in_query, in_select, in_assignment, in_where, in_source}
use Rattle.lb_rows.specs.Tables.{Tables}
use Rattle.lb_mean.specs.Setting.{Setting, row_frame}
use Rattle.lb_mean.specs.Conditions.{outputs}
use Rattle.lb_mean.specs.Expressions.{all_values}
use Rattle.lb_mean.specs.Joined.{piece}
use Rattle.lb_names.specs.Sights.{correlation}
use Rattle.lb_mean.specs.Queries.{where_true}
use Rattle.lb_mean.specs.Meaning.{says, means}
use Rattle.lb_mean.specs.Visible.{is_visible, is_permitted}
use Rattle.lb_mean.specs.Refused.{policy_of_table}
use Rattle.lb_mean.specs.Frame.{Agrees, SameIn}
use Rattle.lb_mean.specs.Laws.{SameMention, SameNamed, SameStored, mention_of, mentioned_by_columns, mentioned_by_permissions, mentioned_by_masks}
use Rattle.lb_mean.proofs.Agreeing.{first, second, weaker}
use Rattle.lb_mean.proofs.Meant.{expr_of_session, cond_of_session}
use Rattle.lb_mean.proofs.Seen.{G, H, W, V, Same, mention_same, visible_same, allowed_same, query_same, from_keys, chosen_same}
use Rattle.lb_mean.proofs.Access.{policy_of_same}
use Rattle.lb_mean.proofs.Across.{across_frame}
use Rattle.lb_cat.specs.OrRefused.{OrRefused, ◌>>=◌}
use Rattle.lb_answer.specs.Answer.{done, unless_refused, with_target, places_given, places_of, insert_into, update_in, delete_from}
use Rattle.lb_answer.specs.Bases.{label_failure, label_held, masked_values, values_basis}
use Rattle.lb_answer.specs.Checks.{new_row}
use Rattle.lb_answer.specs.OrRefused.{all_made}
use Rattle.lb_answer.specs.Writes.{Written, updated, deleted, inserted, is_unique, is_within_cells}
use Rattle.lb_answer.specs.Laws.{StatementFrame, StatementsAcross}
use Rattle.lb_answer.proofs.Refusing.{set_masked, query_masked, insert_refused_same, update_refused_same, delete_refused_same}

module _ (C D : Cat) (c : Cred) (T U : Tables) (day : ℤ) where
  abbrev g : Setting
  g = G C D c T U day

  abbrev h : Setting
  h = H C D c T U day

  abbrev w : Setting
  w = W C D c T U day

  abbrev v : Setting
  v = V C D c T U day

  abbrev Alike : Mentions → Type 0
  Alike = Agrees (SameMention C D T U)

  abbrev seen : (ms : Mentions) → Alike ms → Agrees (SameIn g h) ms
  seen = weaker (SameMention C D T U) (SameIn g h) (mention_same C D c T U day)

  expr_alike : (e : Expr) → Alike (in_expr e) → means g e ≡ means h e
  expr_alike e k = expr_of_session c day g.policies h.policies g.sources h.sources e (seen (in_expr e) k)

  cond_alike : (e : Cond) → Alike (in_cond e) → says g e ≡ says h e
  cond_alike e k = cond_of_session c day g.policies h.policies g.sources h.sources e (seen (in_cond e) k)

  where_alike : (f : Option Cond) → Alike (in_where f) → option_map (says g) f ≡ option_map (says h) f
  where_alike None k = refl
  where_alike (Some e) k = λ i. Some (cond_alike e k i)

  -- ---- the target

  abbrev Stored : Table → Type 0
  Stored t = SameStored C D T U (Some t)

  module _ (t : Table) (stored : Stored t) where
    abbrev rest : Mentions
    rest = mentioned_by_columns t.columns ++ (mentioned_by_permissions t.permissions ++ mentioned_by_masks t.masks)

    after : Same C D c T U day rest
    after = second (SameNamed C D T U) (mention_of t.policy) rest stored

    columns : Same C D c T U day (mentioned_by_columns t.columns)
    columns = first (SameNamed C D T U) (mentioned_by_columns t.columns) (mentioned_by_permissions t.permissions ++ mentioned_by_masks t.masks) after

    permissions : Same C D c T U day (mentioned_by_permissions t.permissions)
    permissions = first (SameNamed C D T U) (mentioned_by_permissions t.permissions) (mentioned_by_masks t.masks)
        (second (SameNamed C D T U) (mentioned_by_columns t.columns) (mentioned_by_permissions t.permissions ++ mentioned_by_masks t.masks) after)

    sees_alike : is_visible w t ≡ is_visible v t
    sees_alike = λ i row. visible_same C D c T U day t row columns permissions i

    permits_alike : is_permitted w t ≡ is_permitted v t
    permits_alike = λ i row. allowed_same C D c T U day t row permissions i

    policy_alike : policy_of_table C t ≡ policy_of_table D t
    policy_alike = policy_of_same C D T U t stored

  -- ---- UPDATE

  assigned_alike : (xs : List Assignment) → Alike (flat_map in_assignment xs) → map (λ a. means g a.value) xs ≡ map (λ a. means h a.value) xs
  assigned_alike [] k = refl
  assigned_alike (x ∷ xs) k = λ i. expr_alike x.value (first (SameMention C D T U) (in_assignment x) (flat_map in_assignment xs) k) i
      ∷ assigned_alike xs (second (SameMention C D T U) (in_assignment x) (flat_map in_assignment xs) k) i

  update_alike : (u : Update) (t : Table) → SameMention C D T U (table u.target.table) → Stored t → Alike (flat_map in_assignment u.assignments ++ in_where u.filter)
      → update_in C c T day u t ≡ update_in D c U day u t
  update_alike u t target stored k = λ i. updated (policy_alike t stored i)
      (record {
        sees = sees_alike t stored i;
        keeps = λ row. where_true (filter i) (old row i ∷ []);
        values = λ row. all_values (assigned_alike u.assignments assigned i) (old row i ∷ []);
        masked = λ row. set_masked C D T U u.target target (old row) u.assignments assigned i;
        permits = permits_alike t stored i;
        fails = label_failure c (policy_alike t stored i);
        own_label = label_held c (policy_alike t stored i);
      })
      t (places_of t (map (λ a. a.column) u.assignments)) (target.0.1 i)
    where
      assigned : Alike (flat_map in_assignment u.assignments)
      assigned = first (SameMention C D T U) (flat_map in_assignment u.assignments) (in_where u.filter) k

      filter : option_map (says g) u.filter ≡ option_map (says h) u.filter
      filter = where_alike u.filter (second (SameMention C D T U) (flat_map in_assignment u.assignments) (in_where u.filter) k)

      old : (row : List Value) → row_frame (piece (g.sources u.target.table) (correlation u.target) row ∷ []) ≡ row_frame (piece (h.sources u.target.table) (correlation u.target) row ∷ [])
      old row = λ i. row_frame (piece (mention_same C D c T U day (table u.target.table) target i) (correlation u.target) row ∷ [])

  -- ---- DELETE

  delete_alike : (d : Delete) (t : Table) → SameMention C D T U (table d.target.table) → Stored t → Alike (in_where d.filter) → delete_from C c T day d t ≡ delete_from D c U day d t
  delete_alike d t target stored k = λ i. deleted (policy_alike t stored i)
      (record {
        sees = sees_alike t stored i;
        keeps = λ row. where_true (where_alike d.filter k i) (row_frame (piece (mention_same C D c T U day (table d.target.table) target i) (correlation d.target) row ∷ []) ∷ []);
        values = λ row. Ok [];
        masked = λ row. [];
        permits = permits_alike t stored i;
        fails = label_failure c (policy_alike t stored i);
        own_label = label_held c (policy_alike t stored i);
      })
      t (target.0.1 i)

  -- ---- INSERT

  values_alike : (es : List Expr) → Alike (flat_map in_expr es) → map (means g) es ≡ map (means h) es
  values_alike [] k = refl
  values_alike (e ∷ es) k = λ i. expr_alike e (first (SameMention C D T U) (in_expr e) (flat_map in_expr es) k) i
      ∷ values_alike es (second (SameMention C D T U) (in_expr e) (flat_map in_expr es) k) i

  module _ (t : Table) (stored : Stored t) (places : List ℕ) where
    abbrev p : Option Policy
    p = policy_of_table C t

    abbrev q : Option Policy
    q = policy_of_table D t

    rows_alike : (rows : List (List Expr)) → Alike (flat_map (flat_map in_expr) rows)
        → map (new_row p (values_basis C c w g t p) t places None) rows ≡ map (new_row q (values_basis D c v h t q) t places None) rows
    rows_alike [] k = refl
    rows_alike (es ∷ rows) k = λ i. new_row (policy_alike t stored i)
        (record {
          sees = λ row. Ok false;
          keeps = λ row. Ok false;
          values = λ x. all_values (values_alike es (first (SameMention C D T U) (flat_map in_expr es) (flat_map (flat_map in_expr) rows) k) i) [];
          masked = λ x. [];
          permits = permits_alike t stored i;
          fails = label_failure c (policy_alike t stored i);
          own_label = label_held c (policy_alike t stored i);
        })
        t places None es
        ∷ rows_alike rows (second (SameMention C D T U) (flat_map in_expr es) (flat_map (flat_map in_expr) rows) k) i

  insert_alike : (n : Insert) (source : InsertSource) (t : Table) → SameMention C D T U (table n.table) → Stored t → Alike (in_source source) → insert_into C c T day n source t ≡ insert_into D c U day n source t
  insert_alike n (sources.Rows rows) t target stored k = λ i.
      all_made (rows_alike t stored (places_given t n.columns) rows k i) >>= λ news.
      is_unique t (target.0.1 i ++ news) >>= λ unique.
      is_within_cells t (target.0.1 i ++ news) >>= λ within.
      Ok (record { count = Rattle.std.specs.Prelude.length news; rows = target.0.1 i ++ news })
  insert_alike n (sources.Query s) t target stored k = λ i. inserted (policy_alike t stored i)
      (record {
        sees = λ row. Ok false;
        keeps = λ row. Ok false;
        values = λ f. outputs (query_same C D c T U day s (first (SameIn g h) (in_query s.query) (from_keys C D c T U day s) (seen (in_select s) k)) i).items (f ∷ []);
        masked = λ f. flat_map (masked_values f) (query_masked C D T U s k i);
        permits = permits_alike t stored i;
        fails = label_failure c (policy_alike t stored i);
        own_label = label_held c (policy_alike t stored i);
      })
      t (places_given t n.columns) (chosen_same C D c T U day s (seen (in_select s) k) i) (target.0.1 i)

  -- ---- statements

  target_alike : (o : Option Table) (n : List ℕ) (verb : _) (f f' : Table → OrRefused Written) → SameStored C D T U o → ((t : Table) → Stored t → f t ≡ f' t)
      → with_target o n (λ t. done verb n (f t)) ≡ with_target o n (λ t. done verb n (f' t))
  target_alike None n verb f f' stored same = refl
  target_alike (Some t) n verb f f' stored same = λ i. done verb n (same t stored i)

  written_alike : (n : List ℕ) (verb : _) (f f' : Table → OrRefused Written) → SameMention C D T U (table n) → ((t : Table) → Stored t → f t ≡ f' t)
      → with_target (table_named C n) n (λ t. done verb n (f t)) ≡ with_target (table_named D n) n (λ t. done verb n (f' t))
  written_alike n verb f f' k same = target_alike (table_named C n) n verb f f' k.1 same ∙ λ i. with_target (k.0.0 i) n (λ t. done verb n (f' t))

pub statements_across : StatementsAcross
statements_across checks C D c T U day (stmts.Select s) k same = λ i. record { reply = across_frame checks C D c T U day s k same i; table = None }
statements_across checks C D c T U day (stmts.Insert n) k same = λ i. unless_refused (insert_refused_same checks C D c T U n k same i)
    (written_alike C D c T U day n.table verbs.Inserted (insert_into C c T day n n.source) (insert_into D c U day n n.source) k.0 (λ t stored. insert_alike C D c T U day n n.source t k.0 stored k.1) i)
statements_across checks C D c T U day (stmts.Update u) k same = λ i. unless_refused (update_refused_same checks C D c T U u k same i)
    (written_alike C D c T U day u.target.table verbs.Updated (update_in C c T day u) (update_in D c U day u) k.0 (λ t stored. update_alike C D c T U day u t k.0 stored k.1) i)
statements_across checks C D c T U day (stmts.Delete d) k same = λ i. unless_refused (delete_refused_same checks C D c T U d k same i)
    (written_alike C D c T U day d.target.table verbs.Deleted (delete_from C c T day d) (delete_from D c U day d) k.0 (λ t stored. delete_alike C D c T U day d t k.0 stored k.1) i)
statements_across checks C D c T U day (stmts.Change change) k same = refl

pub statement_frame : StatementFrame
statement_frame checks C c T U day s k = statements_across checks C C c T U day s k refl
