-- What each node of a query's tree gives, by what its parts give.
use Rattle.std.proofs.Common.{◌≡◌, refl, ap, sym, ◌∙◌, ℕ, List, [], ◌∷◌, ◌++◌, Bool, Option, Some, None, map}
use Rattle.std.specs.List.{flat_map}
use Rattle.lb_tree.specs.declared.query.Comparison.{Comparison}
use Rattle.lb_tree.specs.declared.query.Aggregate.{Aggregate}
use Rattle.lb_tree.specs.declared.query.Function.{Function}
use Rattle.lb_tree.specs.declared.query.Atom.{Atom}
use Rattle.lb_tree.specs.declared.query.Column.{Column}
use Rattle.lb_tree.specs.declared.query.Tab.{Tab}
use Rattle.lb_tree.specs.declared.query.Expr.{Expr}
use Rattle.lb_tree.specs.declared.query.Expr.TheVariants as exprs
use Rattle.lb_tree.specs.declared.query.Cond.{Cond}
use Rattle.lb_tree.specs.declared.query.Cond.TheVariants as conds
use Rattle.lb_tree.specs.declared.query.Item.{Item}
use Rattle.lb_tree.specs.declared.query.Item.TheVariants as items
use Rattle.lb_tree.specs.declared.query.Join.{Join}
use Rattle.lb_tree.specs.declared.query.Join.TheVariants as joins
use Rattle.lb_tree.specs.declared.query.Arm.{Arm}
use Rattle.lb_tree.specs.declared.query.Chain.{Chain}
use Rattle.lb_tree.specs.declared.query.Choice.{Choice}
use Rattle.lb_tree.specs.declared.query.Query.{Query}
use Rattle.lb_tree.specs.declared.query.Signed.{Signed}
use Rattle.lb_tree.specs.declared.query.Cond.TheOpen as layers
use Rattle.lb_tree.specs.declared.query.Cond.TheViews.{out-Query, roll-Cond, roll-Expr, roll-Item, roll-Join, roll-Chain, roll-Query}
use Rattle.lb_tree.specs.declared.query.Cond.TheFolds.{map-Cond, fold-roll-Cond, map-Expr, fold-roll-Expr, map-Item, fold-roll-Item, map-Join, fold-roll-Join, fold_out-Arm, fold-roll-Chain, fold_out-Chain, fold_out-Choice, map-Query, fold-roll-Query, fold_out-Query, fold_out-Signed}
use Rattle.lb_tok.specs.declared.kind.Kind.TheVariants as kinds
use Rattle.lb_tok.specs.Spacing.{Piece, mark, all_of}
use Rattle.lb_tok.specs.QueryPieces.{separated, listed, parens, call, clause, flag, option_of, alias_pieces, tab_pieces, atom_pieces, Phrase, at_least, pieces_of, sum_pieces, case_pieces, aggregate_pieces, function_kind, comparison_kind, group_pieces, cond_layer, expr_layer, item_layer, join_layer, arm_layer, chain_layer, choice_layer, query_layer, signed_layer, cond_phrase, expr_phrase, item_pieces, join_pieces, arm_pieces, chain_pieces, choice_pieces, query_pieces, signed_part, expr_pieces, cond_pieces}

abbrev phrase : List Piece → ℕ → Phrase
phrase ps r = record { pieces = ps; rank = r }

fused : {A B C : Type 0} (g : B → C) (f : A → B) (xs : List A) → map g (map f xs) ≡ map (λ x. g (f x)) xs
fused g f [] = refl
fused g f (x ∷ xs) = ap (λ (ys : List _). g (f x) ∷ ys) (fused g f xs)

pub flat_fused : {A B C : Type 0} (g : B → List C) (f : A → B) (xs : List A) → flat_map g (map f xs) ≡ flat_map (λ x. g (f x)) xs
flat_fused g f [] = refl
flat_fused g f (x ∷ xs) = ap (λ (ys : List _). g (f x) ++ ys) (flat_fused g f xs)

option_fused : {A B C : Type 0} (g : B → C) (f : A → B) (x : Option A) → option_of g (option_of f x) ≡ option_of (λ y. g (f y)) x
option_fused g f None = refl
option_fused g f (Some x) = refl

cond_phrase-roll : (x : layers.Cond-F Cond Expr Item Join Arm Chain Choice Query Signed) → cond_phrase (roll-Cond x) ≡ cond_layer (map-Cond Cond Expr Item Join Arm Chain Choice Query Signed Phrase Phrase (List Piece) (List Piece) (List Piece) (List Piece) (List Piece) (List Piece) (Bool × Phrase) cond_phrase expr_phrase item_pieces join_pieces arm_pieces chain_pieces choice_pieces query_pieces signed_part x)
unfolding cond_phrase expr_phrase item_pieces join_pieces arm_pieces chain_pieces choice_pieces query_pieces signed_part
cond_phrase-roll x = fold-roll-Cond Phrase Phrase (List Piece) (List Piece) (List Piece) (List Piece) (List Piece) (List Piece) (Bool × Phrase) cond_layer expr_layer item_layer join_layer arm_layer chain_layer choice_layer query_layer signed_layer x

expr_phrase-roll : (x : layers.Expr-F Cond Expr Item Join Arm Chain Choice Query Signed) → expr_phrase (roll-Expr x) ≡ expr_layer (map-Expr Cond Expr Item Join Arm Chain Choice Query Signed Phrase Phrase (List Piece) (List Piece) (List Piece) (List Piece) (List Piece) (List Piece) (Bool × Phrase) cond_phrase expr_phrase item_pieces join_pieces arm_pieces chain_pieces choice_pieces query_pieces signed_part x)
unfolding cond_phrase expr_phrase item_pieces join_pieces arm_pieces chain_pieces choice_pieces query_pieces signed_part
expr_phrase-roll x = fold-roll-Expr Phrase Phrase (List Piece) (List Piece) (List Piece) (List Piece) (List Piece) (List Piece) (Bool × Phrase) cond_layer expr_layer item_layer join_layer arm_layer chain_layer choice_layer query_layer signed_layer x

item_pieces-roll : (x : layers.Item-F Cond Expr Item Join Arm Chain Choice Query Signed) → item_pieces (roll-Item x) ≡ item_layer (map-Item Cond Expr Item Join Arm Chain Choice Query Signed Phrase Phrase (List Piece) (List Piece) (List Piece) (List Piece) (List Piece) (List Piece) (Bool × Phrase) cond_phrase expr_phrase item_pieces join_pieces arm_pieces chain_pieces choice_pieces query_pieces signed_part x)
unfolding cond_phrase expr_phrase item_pieces join_pieces arm_pieces chain_pieces choice_pieces query_pieces signed_part
item_pieces-roll x = fold-roll-Item Phrase Phrase (List Piece) (List Piece) (List Piece) (List Piece) (List Piece) (List Piece) (Bool × Phrase) cond_layer expr_layer item_layer join_layer arm_layer chain_layer choice_layer query_layer signed_layer x

join_pieces-roll : (x : layers.Join-F Cond Expr Item Join Arm Chain Choice Query Signed) → join_pieces (roll-Join x) ≡ join_layer (map-Join Cond Expr Item Join Arm Chain Choice Query Signed Phrase Phrase (List Piece) (List Piece) (List Piece) (List Piece) (List Piece) (List Piece) (Bool × Phrase) cond_phrase expr_phrase item_pieces join_pieces arm_pieces chain_pieces choice_pieces query_pieces signed_part x)
unfolding cond_phrase expr_phrase item_pieces join_pieces arm_pieces chain_pieces choice_pieces query_pieces signed_part
join_pieces-roll x = fold-roll-Join Phrase Phrase (List Piece) (List Piece) (List Piece) (List Piece) (List Piece) (List Piece) (Bool × Phrase) cond_layer expr_layer item_layer join_layer arm_layer chain_layer choice_layer query_layer signed_layer x

pub expr_phrase-Atom : (x : Atom) → expr_phrase (exprs.Atom x) ≡ record { pieces = atom_pieces x; rank = 3 }
expr_phrase-Atom x = ap expr_phrase (sym (exprs.rolls-Atom x)) ∙ expr_phrase-roll (layers.Expr-F.Atom x)

pub expr_phrase-Sum : (xs : List Signed) → expr_phrase (exprs.Sum xs) ≡ record { pieces = sum_pieces (map signed_part xs); rank = 0 }
expr_phrase-Sum xs = ap expr_phrase (sym (exprs.rolls-Sum xs)) ∙ expr_phrase-roll (layers.Expr-F.Sum xs)

pub expr_phrase-Concat : (xs : List Expr) → expr_phrase (exprs.Concat xs) ≡ record { pieces = separated kinds.Bars (map (λ x. at_least 2 (expr_phrase x)) xs); rank = 1 }
expr_phrase-Concat xs = ap expr_phrase (sym (exprs.rolls-Concat xs)) ∙ expr_phrase-roll (layers.Expr-F.Concat xs) ∙ ap (λ (ys : List (List Piece)). phrase (separated kinds.Bars ys) 1) (fused (at_least 2) expr_phrase xs)

pub expr_phrase-Product : (xs : List Expr) → expr_phrase (exprs.Product xs) ≡ record { pieces = separated kinds.Star (map (λ x. at_least 3 (expr_phrase x)) xs); rank = 2 }
expr_phrase-Product xs = ap expr_phrase (sym (exprs.rolls-Product xs)) ∙ expr_phrase-roll (layers.Expr-F.Product xs) ∙ ap (λ (ys : List (List Piece)). phrase (separated kinds.Star ys) 2) (fused (at_least 3) expr_phrase xs)

pub expr_phrase-Case : (arms : List Arm) (other : Option Expr) → expr_phrase (exprs.Case arms other) ≡ record { pieces = case_pieces [] (map arm_pieces arms) (option_of expr_phrase other); rank = 3 }
expr_phrase-Case arms None = ap expr_phrase (sym (exprs.rolls-Case arms None)) ∙ expr_phrase-roll (layers.Expr-F.Case arms None)
expr_phrase-Case arms (Some other) = ap expr_phrase (sym (exprs.rolls-Case arms (Some other))) ∙ expr_phrase-roll (layers.Expr-F.Case arms (Some other))

pub expr_phrase-Match : (operand : Expr) (choices : List Choice) (other : Option Expr) → expr_phrase (exprs.Match operand choices other) ≡ record { pieces = case_pieces (expr_pieces operand) (map choice_pieces choices) (option_of expr_phrase other); rank = 3 }
expr_phrase-Match operand choices None = ap expr_phrase (sym (exprs.rolls-Match operand choices None)) ∙ expr_phrase-roll (layers.Expr-F.Match operand choices None)
expr_phrase-Match operand choices (Some other) = ap expr_phrase (sym (exprs.rolls-Match operand choices (Some other))) ∙ expr_phrase-roll (layers.Expr-F.Match operand choices (Some other))

pub expr_phrase-Aggregate : (a : Aggregate) (x : Expr) → expr_phrase (exprs.Aggregate a x) ≡ record { pieces = aggregate_pieces a (expr_pieces x); rank = 3 }
expr_phrase-Aggregate a x = ap expr_phrase (sym (exprs.rolls-Aggregate a x)) ∙ expr_phrase-roll (layers.Expr-F.Aggregate a x)

pub expr_phrase-Substr : (text : Expr) (from : Expr) (length : Option Expr) → expr_phrase (exprs.Substr text from length) ≡ record { pieces = call kinds.Substr (expr_pieces text ++ mark kinds.Comma ∷ (expr_pieces from ++ clause kinds.Comma (option_of expr_pieces length))); rank = 3 }
expr_phrase-Substr text from None = ap expr_phrase (sym (exprs.rolls-Substr text from None)) ∙ expr_phrase-roll (layers.Expr-F.Substr text from None)
expr_phrase-Substr text from (Some length) = ap expr_phrase (sym (exprs.rolls-Substr text from (Some length))) ∙ expr_phrase-roll (layers.Expr-F.Substr text from (Some length))

pub expr_phrase-Apply : (f : Function) (x : Expr) → expr_phrase (exprs.Apply f x) ≡ record { pieces = call (function_kind f) (expr_pieces x); rank = 3 }
expr_phrase-Apply f x = ap expr_phrase (sym (exprs.rolls-Apply f x)) ∙ expr_phrase-roll (layers.Expr-F.Apply f x)

pub expr_phrase-Coalesce : (xs : List Expr) → expr_phrase (exprs.Coalesce xs) ≡ record { pieces = call kinds.Coalesce (listed (map expr_pieces xs)); rank = 3 }
expr_phrase-Coalesce xs = ap expr_phrase (sym (exprs.rolls-Coalesce xs)) ∙ expr_phrase-roll (layers.Expr-F.Coalesce xs) ∙ ap (λ (ys : List (List Piece)). phrase (call kinds.Coalesce (listed ys)) 3) (fused pieces_of expr_phrase xs)

pub cond_phrase-Or : (xs : List Cond) → cond_phrase (conds.Or xs) ≡ record { pieces = separated kinds.Or (map (λ x. at_least 1 (cond_phrase x)) xs); rank = 0 }
cond_phrase-Or xs = ap cond_phrase (sym (conds.rolls-Or xs)) ∙ cond_phrase-roll (layers.Cond-F.Or xs) ∙ ap (λ (ys : List (List Piece)). phrase (separated kinds.Or ys) 0) (fused (at_least 1) cond_phrase xs)

pub cond_phrase-And : (xs : List Cond) → cond_phrase (conds.And xs) ≡ record { pieces = separated kinds.And (map (λ x. at_least 2 (cond_phrase x)) xs); rank = 1 }
cond_phrase-And xs = ap cond_phrase (sym (conds.rolls-And xs)) ∙ cond_phrase-roll (layers.Cond-F.And xs) ∙ ap (λ (ys : List (List Piece)). phrase (separated kinds.And ys) 1) (fused (at_least 2) cond_phrase xs)

pub cond_phrase-Not : (x : Cond) → cond_phrase (conds.Not x) ≡ record { pieces = mark kinds.Not ∷ at_least 3 (cond_phrase x); rank = 2 }
cond_phrase-Not x = ap cond_phrase (sym (conds.rolls-Not x)) ∙ cond_phrase-roll (layers.Cond-F.Not x)

pub cond_phrase-Exists : (q : Query) → cond_phrase (conds.Exists q) ≡ record { pieces = mark kinds.Exists ∷ parens (query_pieces q); rank = 3 }
cond_phrase-Exists q = ap cond_phrase (sym (conds.rolls-Exists q)) ∙ cond_phrase-roll (layers.Cond-F.Exists q)

pub cond_phrase-Compare : (by : Comparison) (a : Expr) (b : Expr) → cond_phrase (conds.Compare by a b) ≡ record { pieces = expr_pieces a ++ mark (comparison_kind by) ∷ expr_pieces b; rank = 3 }
cond_phrase-Compare by a b = ap cond_phrase (sym (conds.rolls-Compare by a b)) ∙ cond_phrase-roll (layers.Cond-F.Compare by a b)

pub cond_phrase-CompareQuery : (by : Comparison) (a : Expr) (q : Query) → cond_phrase (conds.CompareQuery by a q) ≡ record { pieces = expr_pieces a ++ mark (comparison_kind by) ∷ parens (query_pieces q); rank = 3 }
cond_phrase-CompareQuery by a q = ap cond_phrase (sym (conds.rolls-CompareQuery by a q)) ∙ cond_phrase-roll (layers.Cond-F.CompareQuery by a q)

pub cond_phrase-IsNull : (a : Expr) → cond_phrase (conds.IsNull a) ≡ record { pieces = expr_pieces a ++ mark kinds.Is ∷ mark kinds.Null ∷ []; rank = 3 }
cond_phrase-IsNull a = ap cond_phrase (sym (conds.rolls-IsNull a)) ∙ cond_phrase-roll (layers.Cond-F.IsNull a)

pub cond_phrase-InQuery : (a : Expr) (q : Query) → cond_phrase (conds.InQuery a q) ≡ record { pieces = expr_pieces a ++ mark kinds.In ∷ parens (query_pieces q); rank = 3 }
cond_phrase-InQuery a q = ap cond_phrase (sym (conds.rolls-InQuery a q)) ∙ cond_phrase-roll (layers.Cond-F.InQuery a q)

pub cond_phrase-InList : (a : Expr) (xs : List Expr) → cond_phrase (conds.InList a xs) ≡ record { pieces = expr_pieces a ++ mark kinds.In ∷ parens (listed (map expr_pieces xs)); rank = 3 }
cond_phrase-InList a xs = ap cond_phrase (sym (conds.rolls-InList a xs)) ∙ cond_phrase-roll (layers.Cond-F.InList a xs) ∙ ap (λ (ys : List (List Piece)). phrase (expr_pieces a ++ mark kinds.In ∷ parens (listed ys)) 3) (fused pieces_of expr_phrase xs)

pub cond_phrase-Between : (a : Expr) (low : Expr) (high : Expr) → cond_phrase (conds.Between a low high) ≡ record { pieces = expr_pieces a ++ mark kinds.Between ∷ (expr_pieces low ++ mark kinds.And ∷ expr_pieces high); rank = 3 }
cond_phrase-Between a low high = ap cond_phrase (sym (conds.rolls-Between a low high)) ∙ cond_phrase-roll (layers.Cond-F.Between a low high)

pub item_pieces-Everything : item_pieces items.Everything ≡ mark kinds.Star ∷ []
item_pieces-Everything = ap item_pieces (sym items.rolls-Everything) ∙ item_pieces-roll layers.Item-F.Everything

pub item_pieces-AllOf : (n : List ℕ) → item_pieces (items.AllOf n) ≡ all_of n ∷ []
item_pieces-AllOf n = ap item_pieces (sym (items.rolls-AllOf n)) ∙ item_pieces-roll (layers.Item-F.AllOf n)

pub item_pieces-Value : (x : Expr) (alias : Option (List ℕ)) → item_pieces (items.Value x alias) ≡ expr_pieces x ++ alias_pieces alias
item_pieces-Value x alias = ap item_pieces (sym (items.rolls-Value x alias)) ∙ item_pieces-roll (layers.Item-F.Value x alias)

pub join_pieces-Inner : (t : Tab) (on : Cond) → join_pieces (joins.Inner t on) ≡ mark kinds.Join ∷ (tab_pieces t ++ mark kinds.On ∷ cond_pieces on)
join_pieces-Inner t on = ap join_pieces (sym (joins.rolls-Inner t on)) ∙ join_pieces-roll (layers.Join-F.Inner t on)

pub join_pieces-Left : (t : Tab) (on : Cond) → join_pieces (joins.Left t on) ≡ mark kinds.Left ∷ mark kinds.Join ∷ (tab_pieces t ++ mark kinds.On ∷ cond_pieces on)
join_pieces-Left t on = ap join_pieces (sym (joins.rolls-Left t on)) ∙ join_pieces-roll (layers.Join-F.Left t on)

pub join_pieces-Cross : (t : Tab) → join_pieces (joins.Cross t) ≡ mark kinds.Cross ∷ mark kinds.Join ∷ tab_pieces t
join_pieces-Cross t = ap join_pieces (sym (joins.rolls-Cross t)) ∙ join_pieces-roll (layers.Join-F.Cross t)

pub arm_pieces-out : (x : Arm) → arm_pieces x ≡ mark kinds.When ∷ (cond_pieces x.when ++ mark kinds.Then ∷ expr_pieces x.result)
unfolding cond_phrase expr_phrase item_pieces join_pieces arm_pieces chain_pieces choice_pieces query_pieces signed_part
arm_pieces-out x = fold_out-Arm Phrase Phrase (List Piece) (List Piece) (List Piece) (List Piece) (List Piece) (List Piece) (Bool × Phrase) cond_layer expr_layer item_layer join_layer arm_layer chain_layer choice_layer query_layer signed_layer x

pub choice_pieces-out : (x : Choice) → choice_pieces x ≡ mark kinds.When ∷ (expr_pieces x.when ++ mark kinds.Then ∷ expr_pieces x.result)
unfolding cond_phrase expr_phrase item_pieces join_pieces arm_pieces chain_pieces choice_pieces query_pieces signed_part
choice_pieces-out x = fold_out-Choice Phrase Phrase (List Piece) (List Piece) (List Piece) (List Piece) (List Piece) (List Piece) (Bool × Phrase) cond_layer expr_layer item_layer join_layer arm_layer chain_layer choice_layer query_layer signed_layer x

pub signed_part-out : (x : Signed) → signed_part x ≡ (x.minus, expr_phrase x.part)
unfolding cond_phrase expr_phrase item_pieces join_pieces arm_pieces chain_pieces choice_pieces query_pieces signed_part
signed_part-out x = fold_out-Signed Phrase Phrase (List Piece) (List Piece) (List Piece) (List Piece) (List Piece) (List Piece) (Bool × Phrase) cond_layer expr_layer item_layer join_layer arm_layer chain_layer choice_layer query_layer signed_layer x

pub chain_pieces-out : (x : Chain) → chain_pieces x ≡ tab_pieces x.first ++ flat_map join_pieces x.joins
unfolding cond_phrase expr_phrase item_pieces join_pieces arm_pieces chain_pieces choice_pieces query_pieces signed_part
chain_pieces-out x = fold_out-Chain Phrase Phrase (List Piece) (List Piece) (List Piece) (List Piece) (List Piece) (List Piece) (Bool × Phrase) cond_layer expr_layer item_layer join_layer arm_layer chain_layer choice_layer query_layer signed_layer x ∙ ap (λ (ps : List Piece). tab_pieces x.first ++ ps) (flat_fused (λ j. j) join_pieces x.joins)

abbrev pub asked : Bool → List Item → List Chain → Option Cond → List Column → Option Cond → List Piece
asked d items from filter group having =
    mark kinds.Select ∷ (flag kinds.Distinct d ++ (listed (map item_pieces items)
    ++ mark kinds.From ∷ (listed (map chain_pieces from)
    ++ (clause kinds.Where (option_of cond_pieces filter)
    ++ (group_pieces group
    ++ clause kinds.Having (option_of cond_pieces having))))))

opened : (d : Bool) (items : List Item) (from : List Chain) (filter : Option Cond) (group : List Column) (having : Option Cond)
    → query_layer (map-Query Cond Expr Item Join Arm Chain Choice Query Signed Phrase Phrase (List Piece) (List Piece) (List Piece) (List Piece) (List Piece) (List Piece) (Bool × Phrase) cond_phrase expr_phrase item_pieces join_pieces arm_pieces chain_pieces choice_pieces query_pieces signed_part (record { distinct = d; items = items; from = from; filter = filter; group = group; having = having })) ≡ asked d items from filter group having
opened d items from None group None = refl
opened d items from None group (Some b) = refl
opened d items from (Some a) group None = refl
opened d items from (Some a) group (Some b) = refl

pub query_pieces-out : (q : Query) → query_pieces q ≡ asked (out-Query q).distinct (out-Query q).items (out-Query q).from (out-Query q).filter (out-Query q).group (out-Query q).having
unfolding cond_phrase expr_phrase item_pieces join_pieces arm_pieces chain_pieces choice_pieces query_pieces signed_part
query_pieces-out q = fold_out-Query Phrase Phrase (List Piece) (List Piece) (List Piece) (List Piece) (List Piece) (List Piece) (Bool × Phrase) cond_layer expr_layer item_layer join_layer arm_layer chain_layer choice_layer query_layer signed_layer q ∙ opened (out-Query q).distinct (out-Query q).items (out-Query q).from (out-Query q).filter (out-Query q).group (out-Query q).having

pub query_pieces-rolled : (d : Bool) (items : List Item) (from : List Chain) (filter : Option Cond) (group : List Column) (having : Option Cond)
    → query_pieces (roll-Query (record { distinct = d; items = items; from = from; filter = filter; group = group; having = having })) ≡ asked d items from filter group having
unfolding cond_phrase expr_phrase item_pieces join_pieces arm_pieces chain_pieces choice_pieces query_pieces signed_part
query_pieces-rolled d items from filter group having =
    fold-roll-Query Phrase Phrase (List Piece) (List Piece) (List Piece) (List Piece) (List Piece) (List Piece) (Bool × Phrase) cond_layer expr_layer item_layer join_layer arm_layer chain_layer choice_layer query_layer signed_layer (record { distinct = d; items = items; from = from; filter = filter; group = group; having = having }) ∙ opened d items from filter group having

pub chain_pieces-rolled : (t : Tab) (js : List Join) → chain_pieces (roll-Chain (record { first = t; joins = js })) ≡ tab_pieces t ++ flat_map join_pieces js
unfolding cond_phrase expr_phrase item_pieces join_pieces arm_pieces chain_pieces choice_pieces query_pieces signed_part
chain_pieces-rolled t js =
    fold-roll-Chain Phrase Phrase (List Piece) (List Piece) (List Piece) (List Piece) (List Piece) (List Piece) (Bool × Phrase) cond_layer expr_layer item_layer join_layer arm_layer chain_layer choice_layer query_layer signed_layer (record { first = t; joins = js }) ∙ ap (λ (ps : List Piece). tab_pieces t ++ ps) (flat_fused (λ j. j) join_pieces js)
