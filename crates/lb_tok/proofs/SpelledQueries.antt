-- Queries and writes, spelled by canonical pieces.
use Rattle.std.proofs.Common.{◌≡◌, ℕ, List, [], ◌∷◌, ◌++◌, map, Option, Some, None, refl, sym, subst, arith, ℤ, pos}
use Rattle.lb_tree.specs.declared.query.Expr.{Expr}
use Rattle.lb_tree.specs.declared.query.Cond.{Cond}
use Rattle.lb_tree.specs.declared.query.Cond.TheViews.{roll-Query, roll-Chain}
use Rattle.lb_tree.specs.declared.query.Query.{Query}
use Rattle.lb_tree.specs.declared.query.Chain.{Chain}
use Rattle.lb_tree.specs.declared.query.Item.{Item}
use Rattle.lb_tree.specs.declared.query.Item.TheVariants as items
use Rattle.lb_tree.specs.declared.query.Join.{Join}
use Rattle.lb_tree.specs.declared.query.Join.TheVariants as joins
use Rattle.lb_tree.specs.declared.query.Tab.{Tab}
use Rattle.lb_tree.specs.declared.query.Column.{Column}
use Rattle.lb_tree.specs.declared.query.Select.{Select}
use Rattle.lb_tree.specs.declared.query.SortKey.{SortKey}
use Rattle.lb_tree.specs.declared.query.Direction.{Direction}
use Rattle.lb_tree.specs.declared.query.Direction.TheVariants as directions
use Rattle.lb_stmt.specs.declared.write.InsertSource.{InsertSource}
use Rattle.lb_stmt.specs.declared.write.Insert.{Insert}
use Rattle.lb_stmt.specs.declared.write.Assignment.{Assignment}
use Rattle.lb_stmt.specs.declared.write.Update.{Update}
use Rattle.lb_stmt.specs.declared.write.Delete.{Delete}
use Rattle.lb_stmt.specs.declared.write.Stmt.{Stmt}
use Rattle.lb_tok.specs.declared.kind.Kind.TheVariants as kinds
use Rattle.lb_tok.specs.declared.token.Token.{Token}
use Rattle.lb_tok.specs.Kinds.{has}
use Rattle.lb_tok.specs.Form.{Below, Optional}
use Rattle.lb_tok.specs.Spacing.{Piece, mark, name, all_of}
use Rattle.lb_tok.specs.QueryPieces.{listed, clause, option_of, alias_pieces, tab_pieces, column_pieces, name_pieces, int_piece, expr_pieces, cond_pieces, item_pieces, join_pieces, chain_pieces, group_pieces, query_pieces, direction_pieces, key_pieces, order_pieces, fetch_pieces, select_pieces, where_pieces}
use Rattle.lb_tok.specs.Canonical.{targets_pieces, row_pieces, source_pieces, insert_pieces, assignment_pieces, update_pieces, delete_pieces, stmt_pieces}
use Rattle.lb_tok.specs.Grammar.{IsName, IsAlias, IsTab, IsItem, IsItems, IsOn, IsJoin, IsChain, IsWhere, IsGroup, IsHaving, IsQuery, IsDirection, IsSortKey, IsOrder, IsCount, IsFetch, IsSelect, IsRow, IsSource, IsTargets, IsInsert, IsAssignment, IsUpdate, IsDelete, IsQueryOrWrite}
use Rattle.lb_tok.proofs.Opens.{item_pieces-Everything, item_pieces-AllOf, item_pieces-Value, join_pieces-Inner, join_pieces-Left, join_pieces-Cross, chain_pieces-rolled, query_pieces-rolled}
use Rattle.lb_tok.specs.Lexing.{number_token}
use Rattle.lb_tok.proofs.Fitting.{all_of_run, digits_run}
use Rattle.lb_tok.proofs.SpelledPieces.{Got, split, follow, unmake, meant, nothing_is, which, inside, Spells, seq, give, made, word, after, means, left, right, bracket, regroup, many, listing, optional, flagged}
use Rattle.lb_tok.proofs.Contents.{Turns}
use Rattle.lb_tok.proofs.SpelledWords.{free, name-turn, column-turn, count-turn}
use Rattle.lb_tok.proofs.SpelledExpressions.{whole_expr}
use Rattle.lb_tok.proofs.SpelledConditions.{Room, whole_cond}

-- ---- tables

alias-turn : {s t : Below} (ts : List Token) (x : Option (List ℕ)) → Got IsAlias s ts x → Spells IsAlias t (alias_pieces x) x
unfolding has
alias-turn {s} {t} ts x g =
    which g
    (λ a. let q = unmake (follow a).got in as_name q.tokens q.tree q.got x q.is)
    (λ b. which b
    (λ a. let q = unmake a in as_name q.tokens q.tree q.got x q.is)
    (λ a. subst (λ (y : Option (List ℕ)). Spells IsAlias t (alias_pieces y) y) (sym (nothing_is a)) (right (right (give None)))))
  where
    as_name : (ts : List Token) (n : List ℕ) → Got IsName s ts n → (x : Option (List ℕ)) → x ≡ Some n → Spells IsAlias t (alias_pieces x) x
    as_name ts n h x e = subst (λ (y : Option (List ℕ)). Spells IsAlias t (alias_pieces y) y) (sym e) (left (after kinds.As refl (made (name-turn ts n h))))

pub tab-turn : {s t : Below} (ts : List Token) (x : Tab) → Got IsTab s ts x → Spells IsTab t (tab_pieces x) x
tab-turn {s} {t} ts x g =
    let p = split g in
    let q = unmake p.right in
    subst (λ (y : Tab). Spells IsTab t (tab_pieces y) y) (sym q.is) (seq (name-turn p.front p.tree p.left) (made (alias-turn q.tokens q.tree q.got)))

-- ---- select lists

item-turn : {s t : Below} → Turns s t → (ts : List Token) (x : Item) → Got IsItem s ts x → Spells IsItem t (item_pieces x) x
unfolding has
item-turn {s} {t} u ts x g =
    which g
    (λ a. let p = split a in
    let whole : Spells IsItem t (name p.tree ∷ mark kinds.Dot ∷ mark kinds.Star ∷ []) (items.AllOf p.tree) = left (seq (name-turn p.front p.tree p.left) (after kinds.Dot refl (means kinds.Star (items.AllOf p.tree) refl))) in
    subst (λ (y : Item). Spells IsItem t (item_pieces y) y) (sym (meant (follow p.right).got))
    (subst (λ (ps : List Piece). Spells IsItem t ps (items.AllOf p.tree)) (sym (item_pieces-AllOf p.tree)) (regroup (all_of p.tree ∷ []) refl (all_of_run p.tree (free p.left), tt) whole)))
    (λ a. let p = split a in let q = unmake p.right in
    subst (λ (y : Item). Spells IsItem t (item_pieces y) y) (sym q.is)
    (subst (λ (ps : List Piece). Spells IsItem t ps (items.Value p.tree q.tree)) (sym (item_pieces-Value p.tree q.tree))
    (right (seq (whole_expr u p.front p.tree p.left) (made (alias-turn q.tokens q.tree q.got))))))

items-turn : {s t : Below} → Turns s t → (ts : List Token) (xs : List Item) → Got IsItems s ts xs → Spells IsItems t (listed (map item_pieces xs)) xs
unfolding has
items-turn {s} {t} u ts xs g =
    which g
    (λ a. subst (λ (ys : List Item). Spells IsItems t (listed (map item_pieces ys)) ys) (sym (meant a))
    (subst (λ (ps : List Piece). Spells IsItems t (ps ++ []) (items.Everything ∷ [])) (sym item_pieces-Everything) (left (means kinds.Star (items.Everything ∷ []) refl))))
    (λ a. right (listing item_pieces (item-turn u) xs ts a))

-- ---- FROM

on-turn : {s t : Below} → Room s t → (ts : List Token) (x : Tab × Cond) → Got IsOn s ts x → Spells IsOn t (mark kinds.Join ∷ (tab_pieces x.0 ++ mark kinds.On ∷ cond_pieces x.1)) x
unfolding has
on-turn {s} {t} r ts x g =
    let p = split (follow g).got in
    let q = unmake (follow p.right).got in
    subst (λ (y : Tab × Cond). Spells IsOn t (mark kinds.Join ∷ (tab_pieces y.0 ++ mark kinds.On ∷ cond_pieces y.1)) y) (sym q.is)
    (after kinds.Join refl (seq (tab-turn p.front p.tree p.left) (after kinds.On refl (made (whole_cond r q.tokens q.tree q.got)))))

join-turn : {s t : Below} → Room s t → (ts : List Token) (x : Join) → Got IsJoin s ts x → Spells IsJoin t (join_pieces x) x
unfolding has
join-turn {s} {t} r ts x g =
    which g
    (λ a. let q = unmake (split (follow a).got).right in
    subst (λ (y : Join). Spells IsJoin t (join_pieces y) y) (sym q.is)
    (subst (λ (ps : List Piece). Spells IsJoin t ps (joins.Left q.tree.0 q.tree.1)) (sym (join_pieces-Left q.tree.0 q.tree.1))
    (left (after kinds.Left refl (seq {x = tt} (right (give tt)) (made (on-turn r q.tokens q.tree q.got)))))))
    (λ b. which b
    (λ a. let q = unmake (follow (follow a).got).got in
    subst (λ (y : Join). Spells IsJoin t (join_pieces y) y) (sym q.is)
    (subst (λ (ps : List Piece). Spells IsJoin t ps (joins.Cross q.tree)) (sym (join_pieces-Cross q.tree))
    (right (left (after kinds.Cross refl (after kinds.Join refl (made (tab-turn q.tokens q.tree q.got))))))))
    (λ a. let q = unmake (split a).right in
    subst (λ (y : Join). Spells IsJoin t (join_pieces y) y) (sym q.is)
    (subst (λ (ps : List Piece). Spells IsJoin t ps (joins.Inner q.tree.0 q.tree.1)) (sym (join_pieces-Inner q.tree.0 q.tree.1))
    (right (right (seq {x = tt} (right (give tt)) (made (on-turn r q.tokens q.tree q.got))))))))

chain-turn : {s t : Below} → Room s t → (ts : List Token) (x : Chain) → Got IsChain s ts x → Spells IsChain t (chain_pieces x) x
chain-turn {s} {t} r ts x g =
    let p = split g in
    let q = unmake p.right in
    subst (λ (y : Chain). Spells IsChain t (chain_pieces y) y) (sym q.is)
    (subst (λ (ps : List Piece). Spells IsChain t ps (roll-Chain (record { first = p.tree; joins = q.tree }))) (sym (chain_pieces-rolled p.tree q.tree))
    (seq (tab-turn p.front p.tree p.left) (made (many join_pieces (join-turn r) q.tree q.tokens q.got))))

-- ---- queries

pub where-turn : {s t : Below} → Room s t → (ts : List Token) (x : Option Cond) → Got IsWhere s ts x → Spells IsWhere t (where_pieces x) x
unfolding has
where-turn r ts x g = optional kinds.Where refl cond_pieces (whole_cond r) ts x g

having-turn : {s t : Below} → Room s t → (ts : List Token) (x : Option Cond) → Got IsHaving s ts x → Spells IsHaving t (clause kinds.Having (option_of cond_pieces x)) x
unfolding has
having-turn r ts x g = optional kinds.Having refl cond_pieces (whole_cond r) ts x g

group-turn : {s t : Below} (ts : List Token) (xs : List Column) → Got IsGroup s ts xs → Spells IsGroup t (group_pieces xs) xs
unfolding has
group-turn {s} {t} ts xs g =
    which g
    (λ a. let q = follow (follow a).got in let l = split q.got in let m = unmake l.right in
    subst (λ (ps : List Piece). Spells IsGroup t ps xs) (sym (shape xs l.tree m.tree m.is)) (left (after kinds.Group refl (after kinds.By refl (listing column_pieces column-turn xs q.tokens q.got)))))
    (λ a. subst (λ (ys : List Column). Spells IsGroup t (group_pieces ys) ys) (sym (nothing_is a)) (right (give [])))
  where
    shape : (xs : List Column) (y : Column) (ys : List Column) → xs ≡ y ∷ ys → group_pieces xs ≡ mark kinds.Group ∷ mark kinds.By ∷ listed (map column_pieces xs)
    shape xs y ys e = subst (λ (zs : List Column). group_pieces zs ≡ mark kinds.Group ∷ mark kinds.By ∷ listed (map column_pieces zs)) (sym e) refl

pub query-turn : {s t : Below} → Room s t → (ts : List Token) (q : Query) → Got IsQuery s ts q → Spells IsQuery t (query_pieces q) q
unfolding has
query-turn {s} {t} r ts x g =
    let d = split (follow g).got in
    let i = split d.right in
    let f = split (follow i.right).got in
    let w = split f.right in
    let c = split w.right in
    let h = unmake c.right in
    subst (λ (y : Query). Spells IsQuery t (query_pieces y) y) (sym h.is)
    (subst (λ (ps : List Piece). Spells IsQuery t ps (roll-Query (record { distinct = d.tree; items = i.tree; from = f.tree; filter = w.tree; group = c.tree; having = h.tree })))
    (sym (query_pieces-rolled d.tree i.tree f.tree w.tree c.tree h.tree))
    (after kinds.Select refl (seq (flagged kinds.Distinct refl d.front d.tree d.left) (seq (items-turn r.here i.front i.tree i.left) (after kinds.From refl
    (seq (listing chain_pieces (chain-turn r) f.tree f.front f.left) (seq (where-turn r w.front w.tree w.left) (seq (group-turn c.front c.tree c.left)
    (made (having-turn r h.tokens h.tree h.got))))))))))

-- ---- ORDER BY and FETCH

direction-turn : {s t : Below} (ts : List Token) (x : Direction) → Got IsDirection s ts x → Spells IsDirection t (direction_pieces x) x
unfolding has
direction-turn {s} {t} ts directions.Ascending g = right (right (give directions.Ascending))
direction-turn {s} {t} ts directions.Descending g = right (left (means kinds.Desc directions.Descending refl))

key-turn : {s t : Below} → Turns s t → (ts : List Token) (x : SortKey) → Got IsSortKey s ts x → Spells IsSortKey t (key_pieces x) x
key-turn {s} {t} u ts x g =
    let p = split g in
    let q = unmake p.right in
    subst (λ (y : SortKey). Spells IsSortKey t (key_pieces y) y) (sym q.is) (seq (whole_expr u p.front p.tree p.left) (made (direction-turn q.tokens q.tree q.got)))

order-turn : {s t : Below} → Turns s t → (ts : List Token) (xs : List SortKey) → Got IsOrder s ts xs → Spells IsOrder t (order_pieces xs) xs
unfolding has
order-turn {s} {t} u ts xs g =
    which g
    (λ a. let q = follow (follow a).got in let l = split q.got in let m = unmake l.right in
    subst (λ (ps : List Piece). Spells IsOrder t ps xs) (sym (shape xs l.tree m.tree m.is)) (left (after kinds.Order refl (after kinds.By refl (listing key_pieces (key-turn u) xs q.tokens q.got)))))
    (λ a. subst (λ (ys : List SortKey). Spells IsOrder t (order_pieces ys) ys) (sym (nothing_is a)) (right (give [])))
  where
    shape : (xs : List SortKey) (y : SortKey) (ys : List SortKey) → xs ≡ y ∷ ys → order_pieces xs ≡ mark kinds.Order ∷ mark kinds.By ∷ listed (map key_pieces xs)
    shape xs y ys e = subst (λ (zs : List SortKey). order_pieces zs ≡ mark kinds.Order ∷ mark kinds.By ∷ listed (map key_pieces zs)) (sym e) refl

abbrev Numbered : ℤ → List Piece
Numbered n = mark kinds.Fetch ∷ mark kinds.First ∷ int_piece n ∷ mark kinds.Rows ∷ mark kinds.Only ∷ []

counted : {t : Below} (n : ℤ) → Spells IsCount t (int_piece n ∷ []) n → Spells IsFetch t (Numbered n) n
unfolding has
counted n p = after kinds.Fetch refl (after kinds.First refl (seq {x = n} (left p) (seq {x = tt} (right (word kinds.Rows refl)) (means kinds.Only n refl))))

one_spells : {t : Below} → Spells IsCount t (int_piece (pos 1) ∷ []) (pos 1)
unfolding has
one_spells = record { spelled = (number_token 1, refl, refl, refl); runs = (digits_run 1 (omega arith), tt) }

fetch_one : {s t : Below} (ts : List Token) (n : ℤ) → Got IsFetch s ts n → Spells IsFetch t (Numbered n) n
fetch_one {s} {t} ts n g =
    let p = split (follow (follow g).got).got in
    let e : n ≡ p.tree = meant (split p.right).right in
    subst (λ (m : ℤ). Spells IsFetch t (Numbered m) m) (sym e)
    (counted p.tree (which p.left
    (λ a. count-turn p.front p.tree a)
    (λ a. subst (λ (m : ℤ). Spells IsCount t (int_piece m ∷ []) m) (sym (nothing_is a)) one_spells)))

fetch-turn : {s t : Below} (ts : List Token) (x : Option ℤ) → Got (Optional IsFetch) s ts x → Spells (Optional IsFetch) t (fetch_pieces x) x
fetch-turn {s} {t} ts x g =
    which g
    (λ a. let q = unmake a in subst (λ (y : Option ℤ). Spells (Optional IsFetch) t (fetch_pieces y) y) (sym q.is) (left (made (fetch_one q.tokens q.tree q.got))))
    (λ a. subst (λ (y : Option ℤ). Spells (Optional IsFetch) t (fetch_pieces y) y) (sym (nothing_is a)) (right (give None)))

pub select-turn : {s t : Below} → Room s t → (ts : List Token) (x : Select) → Got IsSelect s ts x → Spells IsSelect t (select_pieces x) x
select-turn {s} {t} r ts x g =
    let p = split g in
    let q = split p.right in
    let f = unmake q.right in
    subst (λ (y : Select). Spells IsSelect t (select_pieces y) y) (sym f.is)
    (seq (query-turn r p.front p.tree p.left) (seq (order-turn r.here q.front q.tree q.left) (made (fetch-turn f.tokens f.tree f.got))))

-- ---- writes

row-turn : {s t : Below} → Turns s t → (ts : List Token) (xs : List Expr) → Got IsRow s ts xs → Spells IsRow t (row_pieces xs) xs
unfolding has
row-turn u ts xs g = let q = inside g in bracket kinds.Open kinds.Close refl refl (listing expr_pieces (λ ts x h. (u.expr ts x h).inner) xs q.tokens q.got)

source-turn : {s t : Below} → Room s t → (ts : List Token) (x : InsertSource) → Got IsSource s ts x → Spells IsSource t (source_pieces x) x
unfolding has
source-turn {s} {t} r ts x g =
    which g
    (λ a. let q = unmake (follow a).got in
    subst (λ (y : InsertSource). Spells IsSource t (source_pieces y) y) (sym q.is) (left (after kinds.Values refl (made (listing row_pieces (row-turn r.here) q.tree q.tokens q.got)))))
    (λ a. let q = unmake a in
    subst (λ (y : InsertSource). Spells IsSource t (source_pieces y) y) (sym q.is) (right (made (select-turn r q.tokens q.tree q.got))))

targets-turn : {s t : Below} (ts : List Token) (x : Option (List (List ℕ))) → Got IsTargets s ts x → Spells IsTargets t (targets_pieces x) x
unfolding has
targets-turn {s} {t} ts x g =
    which g
    (λ a. let q = unmake a in let i = inside q.got in
    subst (λ (y : Option (List (List ℕ))). Spells IsTargets t (targets_pieces y) y) (sym q.is) (left (made (bracket kinds.Open kinds.Close refl refl (listing name_pieces name-turn q.tree i.tokens i.got)))))
    (λ a. subst (λ (y : Option (List (List ℕ))). Spells IsTargets t (targets_pieces y) y) (sym (nothing_is a)) (right (give None)))

insert-turn : {s t : Below} → Room s t → (ts : List Token) (x : Insert) → Got IsInsert s ts x → Spells IsInsert t (insert_pieces x) x
unfolding has
insert-turn {s} {t} r ts x g =
    let p = split (follow (follow g).got).got in
    let q = split p.right in
    let f = unmake q.right in
    subst (λ (y : Insert). Spells IsInsert t (insert_pieces y) y) (sym f.is)
    (after kinds.Insert refl (after kinds.Into refl (seq (name-turn p.front p.tree p.left) (seq (targets-turn q.front q.tree q.left) (made (source-turn r f.tokens f.tree f.got))))))

assignment-turn : {s t : Below} → Turns s t → (ts : List Token) (x : Assignment) → Got IsAssignment s ts x → Spells IsAssignment t (assignment_pieces x) x
unfolding has
assignment-turn {s} {t} u ts x g =
    let p = split g in
    let q = unmake (follow p.right).got in
    subst (λ (y : Assignment). Spells IsAssignment t (assignment_pieces y) y) (sym q.is)
    (seq (name-turn p.front p.tree p.left) (after kinds.Equal refl (made (whole_expr u q.tokens q.tree q.got))))

update-turn : {s t : Below} → Room s t → (ts : List Token) (x : Update) → Got IsUpdate s ts x → Spells IsUpdate t (update_pieces x) x
unfolding has
update-turn {s} {t} r ts x g =
    let p = split (follow g).got in
    let q = split (follow p.right).got in
    let f = unmake q.right in
    subst (λ (y : Update). Spells IsUpdate t (update_pieces y) y) (sym f.is)
    (after kinds.Update refl (seq (tab-turn p.front p.tree p.left) (after kinds.Set refl (seq (listing assignment_pieces (assignment-turn r.here) q.tree q.front q.left) (made (where-turn r f.tokens f.tree f.got))))))

delete-turn : {s t : Below} → Room s t → (ts : List Token) (x : Delete) → Got IsDelete s ts x → Spells IsDelete t (delete_pieces x) x
unfolding has
delete-turn {s} {t} r ts x g =
    let p = split (follow (follow g).got).got in
    let f = unmake p.right in
    subst (λ (y : Delete). Spells IsDelete t (delete_pieces y) y) (sym f.is)
    (after kinds.Delete refl (after kinds.From refl (seq (tab-turn p.front p.tree p.left) (made (where-turn r f.tokens f.tree f.got)))))

pub query_or_write-turn : {s t : Below} → Room s t → (ts : List Token) (x : Stmt) → Got IsQueryOrWrite s ts x → Spells IsQueryOrWrite t (stmt_pieces x) x
query_or_write-turn {s} {t} r ts x g =
    which g
    (λ a. let q = unmake a in subst (λ (y : Stmt). Spells IsQueryOrWrite t (stmt_pieces y) y) (sym q.is) (left (made (select-turn r q.tokens q.tree q.got))))
    (λ b. which b
    (λ a. let q = unmake a in subst (λ (y : Stmt). Spells IsQueryOrWrite t (stmt_pieces y) y) (sym q.is) (right (left (made (insert-turn r q.tokens q.tree q.got)))))
    (λ b. which b
    (λ a. let q = unmake a in subst (λ (y : Stmt). Spells IsQueryOrWrite t (stmt_pieces y) y) (sym q.is) (right (right (left (made (update-turn r q.tokens q.tree q.got))))))
    (λ a. let q = unmake a in subst (λ (y : Stmt). Spells IsQueryOrWrite t (stmt_pieces y) y) (sym q.is) (right (right (right (made (delete-turn r q.tokens q.tree q.got))))))))
