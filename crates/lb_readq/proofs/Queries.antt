-- Queries, and all levels of brackets.
use Rattle.std.proofs.Common.{Bool, true, false, inl, inr, ◌≡◌, ℕ, zero, suc, List, [], ◌∷◌, ◌++◌, Option, Some, refl, sym, ap, subst, ◌∙◌, append_assoc}
use Rattle.std.specs.Prelude.{pos}
use Rattle.lb_tree.specs.declared.query.Expr.{Expr}
use Rattle.lb_tree.specs.declared.query.Cond.TheViews.{roll-Query, roll-Chain}
use Rattle.lb_tree.specs.declared.query.Item.{Item}
use Rattle.lb_tree.specs.declared.query.Item.TheVariants as items
use Rattle.lb_tree.specs.declared.query.Join.{Join}
use Rattle.lb_tree.specs.declared.query.Join.TheVariants as joins
use Rattle.lb_tree.specs.declared.query.Direction.TheVariants as directions
use Rattle.lb_tok.specs.declared.kind.Kind.TheVariants as kinds
use Rattle.lb_tok.specs.declared.call.Call.{Call}
use Rattle.lb_tok.specs.declared.token.Token.{Token}
use Rattle.lb_tok.specs.Kinds.{Kinds, only, names}
use Rattle.lb_tok.specs.Words.{name_in, word_in, call_of}
use Rattle.lb_tok.specs.Form.{Lang, One, Seq, Either, Word, After, Made, Means, Parens}
use Rattle.lb_tok.specs.Grammar.{level, of_table, a_column, InExpr, InCond, InQuery, IsName, IsFact, IsLiteral, IsExpr, IsCond, IsAlias, IsTab, IsItem, IsItems, IsOn, IsJoin, IsChain, IsWhere, IsGroup, IsHaving, IsQuery, IsDirection, IsSortKey, IsOrder, IsFetch, IsSelect}
use Rattle.lb_reade.specs.Expressions.{Readers, unnamed_at}
use Rattle.lb_readq.specs.Queries.{readers, alias_at, tab_at, value_on, starred_on, item_at, items_at, joined_at, join_at, in_join, chain_at, where_at, group_at, having_at, query_at, direction_at, sort_key_at, order_at, row_count_at, fetch_at, may_fetch_at, select_at}
use Rattle.lb_readt.proofs.Joined.{Within}
use Rattle.lb_readt.proofs.Combined.{IsReaderOf, word_reads, give_reads, then_reads, same_reads, pick_reads, many_reads, wide, made_reads, after_reads, means_reads, may_reads, flag_reads, optional_reads, listed_reads}
use Rattle.lb_reade.proofs.Inner.{in_literal, in_fact, MixedOf, InMixed, expr_tongue, cond_tongue, mixed_tongue, query_tongue, down_reads}
use Rattle.lb_readt.proofs.Tokens.{name_reads, count_reads, word_at_reads, column_reads}
use Rattle.lb_reade.proofs.Expressions.{after_expr, after_cond, after_query, Lower, Ready, parens_reads, in_parens, called_reads, Called, literal_reads, expr_reads, rest_reads, Rest, in_rest, Named, NamedOn, named_view, view_name, to_named, of_named}
use Rattle.lb_readt.proofs.Languages.{made_is, made_of}
use Rattle.lb_reade.proofs.Conditions.{cond_reads, mixed_reads, to_exprs, of_exprs}

-- ---- aliases and tables

pub alias_reads : {b : Bool} {d : ℕ} → IsReaderOf b d alias_at IsAlias true (only kinds.As ++ names) (only kinds.As ++ names)
unfolding alias_at
alias_reads = wide _ _ refl refl refl (pick_reads (after_reads kinds.As refl (made_reads Some name_reads)) (optional_reads name_reads) refl)

pub tab_reads : {b : Bool} {d : ℕ} → IsReaderOf b d tab_at IsTab false names (only kinds.As ++ names)
unfolding tab_at
tab_reads = wide _ _ refl refl refl (then_reads name_reads (λ t. made_reads (λ c. record { table = t; correlation = c }) alias_reads) refl)

-- ---- items

abbrev ValueOn : Expr → Lang Item
ValueOn x = Seq (Rest x) (λ e. Made (items.Value e) IsAlias)

abbrev after_item : Kinds
after_item = only kinds.As ++ names ++ after_expr

abbrev in_value : Kinds
in_value = in_rest ++ only kinds.As ++ names

value_reads : {b : Bool} {d : ℕ} {w : Readers} → Ready d w → (x : Expr) → IsReaderOf b d (value_on w x) (ValueOn x) true in_value after_item
unfolding value_on
value_reads r x = wide _ _ refl refl refl (then_reads (rest_reads r x) (λ e. made_reads (items.Value e) alias_reads) refl)

abbrev Starred : Option Call × List ℕ → Lang Item
Starred p = Either (After kinds.Dot (Either (Means kinds.Star (items.AllOf p.1)) (Seq IsName (λ m. ValueOn (a_column (of_table p.1 m))))))
    (Seq (Called p.0 p.1) ValueOn)

abbrev in_starred : Kinds
in_starred = only kinds.Dot ++ only kinds.Open ++ only kinds.Text ++ in_value

starred_reads : {b : Bool} {d : ℕ} {w : Readers} → Ready d w → (p : Option Call × List ℕ) → IsReaderOf b d (starred_on w p) (Starred p) true in_starred after_item
unfolding starred_on
starred_reads r p = wide _ _ refl refl refl (pick_reads (after_reads kinds.Dot refl (pick_reads (means_reads kinds.Star (items.AllOf p.1) refl) (then_reads name_reads (λ m. value_reads r (a_column (of_table p.1 m))) refl) refl))
    (then_reads (called_reads r p.0 p.1) (value_reads r) refl) refl)

abbrev Unnamed : Lang Expr
Unnamed = Either (Parens InExpr) IsLiteral

unnamed_reads : {b : Bool} {d : ℕ} {w : Readers} → Ready d w → IsReaderOf b d (unnamed_at w) Unnamed false (only kinds.Open ++ in_literal) []
unfolding unnamed_at
unnamed_reads {b} {d} {w} r = wide _ _ refl refl refl (pick_reads (parens_reads r (in_parens w) refl) (literal_reads r) refl)

abbrev ItemOf : Lang Item
ItemOf = Either (Seq (One names word_in) Starred) (Seq Unnamed ValueOn)

-- an expression and its alias, from its first fact on
abbrev Aliased : Expr → Lang Item
Aliased e = Made (items.Value e) IsAlias

to_value : Within (Seq IsFact ValueOn) (Seq IsExpr Aliased)
to_value = to_exprs Aliased

of_value : Within (Seq IsExpr Aliased) (Seq IsFact ValueOn)
of_value = of_exprs Aliased

to_item : Within ItemOf IsItem
to_item s ts x (inr p) = inr (to_value s ts x (p.0, p.1, p.2, fact p.3, p.4, p.5))
  where
    fact : Unnamed s p.0 p.2 → IsFact s p.0 p.2
    fact (inl q) = inl q
    fact (inr q) = inr (inr q)
to_item s ts x (inl p) = go p.2 p.3 p.4
  where
    name_of : (w : Option Call × List ℕ) → (t : One names word_in s p.0 w) → name_in t.0.content ≡ Some w.1
    name_of w t = (view_name (name_in t.0.content) (call_of t.0.kind) w.0 w.1 t.3).0

    named : (w : Option Call × List ℕ) (u v : List Token) (e : Expr) → One names word_in s p.0 w → Named s u e → ValueOn e s v x → ts ≡ u ++ v → IsItem s ts x
    named w u v e t n q h = inr (to_value s ts x (u, v, e, inr (inl (to_named s u e n)), q, h))

    go : (w : Option Call × List ℕ) → One names word_in s p.0 w → Starred w s p.1 x → IsItem s ts x
    go w t (inr q) = named w (p.0 ++ q.0) q.1 q.2 t (p.0, q.0, w, t, inr q.3, refl) q.4 (p.5 ∙ ap (λ (u : List Token). p.0 ++ u) q.5 ∙ sym (append_assoc p.0 q.0 q.1))
    go w t (inl q) = dotted w t q.0 q.1 q.3 q.4 q.5
      where
        dotted : (w : Option Call × List ℕ) → One names word_in s p.0 w → (a c : List Token) → Word kinds.Dot s a tt → Either (Means kinds.Star (items.AllOf w.1)) (Seq IsName (λ m. ValueOn (a_column (of_table w.1 m)))) s c x → p.1 ≡ a ++ c → IsItem s ts x
        dotted w t a c dot (inl z) h = inl (p.0, p.1, w.1, (t.0, t.1, t.2, name_of w t), (a, c, tt, dot, z, h), p.5)
        dotted w t a c dot (inr z) h =
            let col = a_column (of_table w.1 z.2) in
            let whole : ts ≡ (p.0 ++ (a ++ z.0)) ++ z.1 = p.5 ∙ ap (λ (u : List Token). p.0 ++ u) (h ∙ ap (λ (u : List Token). a ++ u) z.5 ∙ sym (append_assoc a z.0 z.1)) ∙ sym (append_assoc p.0 (a ++ z.0) z.1) in
            named w (p.0 ++ (a ++ z.0)) z.1 col t (p.0, a ++ z.0, w, t, inl (a, z.0, tt, dot, made_is (λ m. a_column (of_table w.1 m)) IsName s z.0 z.2 z.3, refl), refl) z.4 whole

of_item : Within IsItem ItemOf
of_item s ts x (inl p) =
    let t = p.3 in
    let q = p.4 in
    inl (p.0, p.1, (call_of t.0.kind, p.2), (t.0, t.1, t.2, named_view t.0.content (call_of t.0.kind) p.2 t.3), inl (q.0, q.1, q.2, q.3, inl q.4, q.5), p.5)
of_item s ts x (inr p) = let q = of_value s ts x p in go q q.3
  where
    go : (q : Seq IsFact ValueOn s ts x) → IsFact s q.0 q.2 → ItemOf s ts x
    go q (inl b) = inr (q.0, q.1, q.2, inl b, q.4, q.5)
    go q (inr (inr l)) = inr (q.0, q.1, q.2, inr l, q.4, q.5)
    go q (inr (inl n)) = let m = of_named s q.0 q.2 n in on m m.4
      where
        on : (m : Named s q.0 q.2) → NamedOn m.2 s m.1 q.2 → ItemOf s ts x
        on m (inr c) = inl (m.0, m.1 ++ q.1, m.2, m.3, inr (m.1, q.1, q.2, c, q.4, refl), q.5 ∙ ap (λ (u : List Token). u ++ q.1) m.5 ∙ append_assoc m.0 m.1 q.1)
        on m (inl d) =
            let n = made_of (λ k. a_column (of_table (m.2).1 k)) IsName s d.1 q.2 d.4 in
            inl (
              m.0,
              m.1 ++ q.1,
              m.2,
              m.3,
              inl (d.0, d.1 ++ q.1, d.2, d.3, inr (d.1, q.1, n.0, n.1, subst (λ (e : Expr). ValueOn e s q.1 x) n.2 q.4, refl), ap (λ (u : List Token). u ++ q.1) d.5 ∙ append_assoc d.0 d.1 q.1),
              q.5 ∙ ap (λ (u : List Token). u ++ q.1) m.5 ∙ append_assoc m.0 m.1 q.1,
            )

pub item_reads : {b : Bool} {d : ℕ} {w : Readers} → Ready d w → IsReaderOf b d (item_at w) IsItem false in_fact after_item
unfolding item_at
item_reads r = wide _ _ refl refl refl (same_reads IsItem to_item of_item (pick_reads (then_reads word_at_reads (starred_reads r) refl) (then_reads (unnamed_reads r) (value_reads r) refl) refl))

abbrev after_items : Kinds
after_items = only kinds.Comma ++ after_item

items_reads : {b : Bool} {d : ℕ} {w : Readers} → Ready d w → IsReaderOf b d (items_at w) IsItems false (only kinds.Star ++ in_fact) after_items
unfolding items_at
items_reads r = wide _ _ refl refl refl (pick_reads (means_reads kinds.Star (items.Everything ∷ []) refl) (listed_reads (item_reads r) refl) refl)

-- ---- FROM

joined_reads : {b : Bool} {d : ℕ} {w : Readers} → Ready d w → IsReaderOf b d (joined_at w) IsOn false (only kinds.Join) after_cond
unfolding joined_at
joined_reads r = wide _ _ refl refl refl (after_reads kinds.Join refl (then_reads tab_reads (λ t. after_reads kinds.On refl (made_reads (λ c. (t, c)) (cond_reads r))) refl))

abbrev after_join : Kinds
after_join = only kinds.As ++ names ++ after_cond

join_reads : {b : Bool} {d : ℕ} {w : Readers} → Ready d w → IsReaderOf b d (join_at w) IsJoin false in_join after_join
unfolding join_at
join_reads r = wide _ _ refl refl refl (
    pick_reads (after_reads kinds.Left refl (then_reads (may_reads kinds.Outer refl) (λ _. made_reads (λ p. joins.Left p.0 p.1) (joined_reads r)) refl))
    (pick_reads (after_reads kinds.Cross refl (after_reads kinds.Join refl (made_reads joins.Cross tab_reads)))
    (then_reads (may_reads kinds.Inner refl) (λ _. made_reads (λ p. joins.Inner p.0 p.1) (joined_reads r)) refl) refl) refl)

abbrev after_chain : Kinds
after_chain = in_join ++ after_join

chain_reads : {b : Bool} {d : ℕ} {w : Readers} → Ready d w → IsReaderOf b d (chain_at w) IsChain false names after_chain
unfolding chain_at
chain_reads r = wide _ _ refl refl refl (then_reads tab_reads (λ t. made_reads (λ js. roll-Chain (record { first = t; joins = js })) (many_reads (join_reads r) refl)) refl)

-- ---- queries

pub where_reads : {b : Bool} {d : ℕ} {w : Readers} → Ready d w → IsReaderOf b d (where_at w) IsWhere true (only kinds.Where) (only kinds.Where ++ after_cond)
unfolding where_at
where_reads r = wide _ _ refl refl refl (optional_reads (after_reads kinds.Where refl (cond_reads r)))

abbrev after_group : Kinds
after_group = only kinds.Group ++ only kinds.Comma ++ only kinds.Dot

group_reads : {b : Bool} {d : ℕ} → IsReaderOf b d group_at IsGroup true (only kinds.Group) after_group
unfolding group_at
group_reads = wide _ _ refl refl refl (pick_reads (after_reads kinds.Group refl (after_reads kinds.By refl (listed_reads column_reads refl))) (give_reads []) refl)

having_reads : {b : Bool} {d : ℕ} {w : Readers} → Ready d w → IsReaderOf b d (having_at w) IsHaving true (only kinds.Having) (only kinds.Having ++ after_cond)
unfolding having_at
having_reads r = wide _ _ refl refl refl (optional_reads (after_reads kinds.Having refl (cond_reads r)))

pub query_reads : {b : Bool} {d : ℕ} {w : Readers} → Ready d w → IsReaderOf b d (query_at w) IsQuery false (only kinds.Select) after_query
unfolding query_at
query_reads r = wide _ _ refl refl refl (after_reads kinds.Select refl (then_reads (flag_reads kinds.Distinct refl) (λ d. then_reads (items_reads r) (λ is. after_reads kinds.From refl (then_reads (listed_reads (chain_reads r) refl) (λ cs.
    then_reads (where_reads r) (λ f. then_reads group_reads (λ g. made_reads (λ h. roll-Query (record { distinct = d; items = is; from = cs; filter = f; group = g; having = h })) (having_reads r)) refl) refl) refl)) refl) refl))

direction_reads : {b : Bool} {d : ℕ} → IsReaderOf b d direction_at IsDirection true (only kinds.Asc ++ only kinds.Desc) (only kinds.Asc ++ only kinds.Desc)
unfolding direction_at
direction_reads = wide _ _ refl refl refl (pick_reads (means_reads kinds.Asc directions.Ascending refl) (pick_reads (means_reads kinds.Desc directions.Descending refl) (give_reads directions.Ascending) refl) refl)

abbrev after_key : Kinds
after_key = only kinds.Asc ++ only kinds.Desc ++ after_expr

key_reads : {b : Bool} {d : ℕ} {w : Readers} → Ready d w → IsReaderOf b d (sort_key_at w) IsSortKey false in_fact after_key
unfolding sort_key_at
key_reads r = wide _ _ refl refl refl (then_reads (expr_reads r) (λ e. made_reads (λ d. record { by = e; direction = d }) direction_reads) refl)

abbrev after_order : Kinds
after_order = only kinds.Order ++ only kinds.Comma ++ after_key

order_reads : {b : Bool} {d : ℕ} {w : Readers} → Ready d w → IsReaderOf b d (order_at w) IsOrder true (only kinds.Order) after_order
unfolding order_at
order_reads r = wide _ _ refl refl refl (pick_reads (after_reads kinds.Order refl (after_reads kinds.By refl (listed_reads (key_reads r) refl))) (give_reads []) refl)

fetch_reads : {b : Bool} {d : ℕ} → IsReaderOf b d fetch_at IsFetch false (only kinds.Fetch) []
unfolding fetch_at row_count_at
fetch_reads = wide _ _ refl refl refl (after_reads kinds.Fetch refl (after_reads kinds.First refl (then_reads (pick_reads count_reads (give_reads (pos 1)) refl) (λ n.
    then_reads (pick_reads (word_reads kinds.Row refl) (word_reads kinds.Rows refl) refl) (λ _. means_reads kinds.Only n refl) refl) refl)))

abbrev pub after_select : Kinds
after_select = only kinds.Fetch ++ after_order ++ after_query

pub select_reads : {b : Bool} {d : ℕ} {w : Readers} → Ready d w → IsReaderOf b d (select_at w) IsSelect false (only kinds.Select) after_select
unfolding select_at may_fetch_at
select_reads r = wide _ _ refl refl refl (then_reads (query_reads r) (λ q. then_reads (order_reads r) (λ o. made_reads (λ f. record { query = q; order = o; fetch = f }) (optional_reads fetch_reads)) refl) refl)

-- ---- all levels of brackets

lower : (d : ℕ) → Ready d (readers d) → Lower true d (readers (suc d))
unfolding readers level
lower d r =
    record {
      expr = down_reads InExpr (λ ts x p. p) (λ k ts x p. p) (λ k ts x p. p) expr_tongue (expr_reads r);
      condition = down_reads InCond (λ ts x p. p) (λ k ts x p. p) (λ k ts x p. p) cond_tongue (cond_reads r);
      mixed = down_reads InMixed none down up mixed_tongue (mixed_reads r);
      query = down_reads InQuery (λ ts x p. p) (λ k ts x p. p) (λ k ts x p. p) query_tongue (query_reads r);
    }
  where
    none : (ts : List Token) (x : _) → InMixed (level 0) ts x → ⊥
    none ts (inl c) p = p
    none ts (inr e) p = p

    down : (k : ℕ) (ts : List Token) (x : _) → InMixed (level (suc k)) ts x → MixedOf IsCond IsExpr (level k) ts x
    down k ts (inl c) p = p
    down k ts (inr e) p = p

    up : (k : ℕ) (ts : List Token) (x : _) → MixedOf IsCond IsExpr (level k) ts x → InMixed (level (suc k)) ts x
    up k ts (inl c) p = p
    up k ts (inr e) p = p

-- whatever room there is
pub ready : (d : ℕ) → Ready d (readers d)
unfolding readers
ready zero = record { inner = refl }
ready (suc d) = record { inner = (refl, lower d (ready d)) }
