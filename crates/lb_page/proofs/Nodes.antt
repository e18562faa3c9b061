-- The pieces of each node of a tree, in the form in which they are printed.
use Rattle.std.proofs.Common.{◌≡◌, refl, ap, sym, ◌∙◌, ℕ, List, [], ◌∷◌, ◌++◌, Bool, true, false, Option, Some, None, map, ◌≤◌, ◌<◌, arith}
use Rattle.std.specs.Prelude.{nat_le}
use Rattle.std.specs.List.{flat_map}
use Rattle.std.proofs.lemmas.Bool.Decides.{nat_tests}
use Rattle.lb_tree.specs.declared.query.Comparison.{Comparison}
use Rattle.lb_tree.specs.declared.query.Aggregate.{Aggregate}
use Rattle.lb_tree.specs.declared.query.Function.{Function}
use Rattle.lb_tree.specs.declared.query.Atom.{Atom}
use Rattle.lb_tree.specs.declared.query.Column.{Column}
use Rattle.lb_tree.specs.declared.query.Expr.{Expr}
use Rattle.lb_tree.specs.declared.query.Expr.TheVariants as exprs
use Rattle.lb_tree.specs.declared.query.Cond.{Cond}
use Rattle.lb_tree.specs.declared.query.Cond.TheVariants as conds
use Rattle.lb_tree.specs.declared.query.Arm.{Arm}
use Rattle.lb_tree.specs.declared.query.Choice.{Choice}
use Rattle.lb_tree.specs.declared.query.Query.{Query}
use Rattle.lb_tree.specs.declared.query.Signed.{Signed}
use Rattle.lb_tree.specs.declared.query.SortKey.{SortKey}
use Rattle.lb_tok.specs.declared.kind.Kind.TheVariants as kinds
use Rattle.lb_tok.specs.Spacing.{Piece, mark, opening, Layout, lay, laid}
use Rattle.lb_tok.specs.QueryPieces.{separated, listed, parens, clause, option_of, atom_pieces, Phrase, enclosed, at_least, sum_pieces, else_pieces, aggregate_front, function_kind, comparison_kind, column_pieces, group_pieces, key_pieces, order_pieces, expr_phrase, expr_pieces, cond_phrase, cond_pieces, query_pieces, arm_pieces, choice_pieces, signed_part}
use Rattle.lb_tok.proofs.Layouts.{laid-append}
use Rattle.lb_tok.proofs.Opens.{flat_fused, expr_phrase-Atom, expr_phrase-Sum, expr_phrase-Concat, expr_phrase-Product, expr_phrase-Case, expr_phrase-Match, expr_phrase-Aggregate, expr_phrase-Substr, expr_phrase-Apply, expr_phrase-Coalesce, cond_phrase-Or, cond_phrase-And, cond_phrase-Not, cond_phrase-Exists, cond_phrase-Compare, cond_phrase-CompareQuery, cond_phrase-IsNull, cond_phrase-InQuery, cond_phrase-InList, cond_phrase-Between}

pieces : {x y : Phrase} → x ≡ y → x.pieces ≡ y.pieces
pieces e = ap (λ (p : Phrase). p.pieces) e

rank : {x y : Phrase} → x ≡ y → x.rank ≡ y.rank
rank e = ap (λ (p : Phrase). p.rank) e

else_same : (x : Option Expr) → else_pieces (option_of expr_phrase x) ≡ clause kinds.Else (option_of expr_pieces x)
else_same None = refl
else_same (Some e) = refl

pub is_atom : (x : Atom) → expr_pieces (exprs.Atom x) ≡ atom_pieces x
is_atom x = pieces (expr_phrase-Atom x)

pub rank_atom : (x : Atom) → (expr_phrase (exprs.Atom x)).rank ≡ 3
rank_atom x = rank (expr_phrase-Atom x)

pub is_sum : (xs : List Signed) → expr_pieces (exprs.Sum xs) ≡ sum_pieces (map signed_part xs)
is_sum xs = pieces (expr_phrase-Sum xs)

pub rank_sum : (xs : List Signed) → (expr_phrase (exprs.Sum xs)).rank ≡ 0
rank_sum xs = rank (expr_phrase-Sum xs)

pub is_concat : (xs : List Expr) → expr_pieces (exprs.Concat xs) ≡ separated kinds.Bars (map (λ x. at_least 2 (expr_phrase x)) xs)
is_concat xs = pieces (expr_phrase-Concat xs)

pub rank_concat : (xs : List Expr) → (expr_phrase (exprs.Concat xs)).rank ≡ 1
rank_concat xs = rank (expr_phrase-Concat xs)

pub is_product : (xs : List Expr) → expr_pieces (exprs.Product xs) ≡ separated kinds.Star (map (λ x. at_least 3 (expr_phrase x)) xs)
is_product xs = pieces (expr_phrase-Product xs)

pub rank_product : (xs : List Expr) → (expr_phrase (exprs.Product xs)).rank ≡ 2
rank_product xs = rank (expr_phrase-Product xs)

pub rank_case : (arms : List Arm) (other : Option Expr) → (expr_phrase (exprs.Case arms other)).rank ≡ 3
rank_case arms other = rank (expr_phrase-Case arms other)

pub rank_match : (x : Expr) (arms : List Choice) (other : Option Expr) → (expr_phrase (exprs.Match x arms other)).rank ≡ 3
rank_match x arms other = rank (expr_phrase-Match x arms other)

pub is_aggregate : (a : Aggregate) (x : Expr) → expr_pieces (exprs.Aggregate a x) ≡ aggregate_front a ++ (expr_pieces x ++ mark kinds.Close ∷ [])
is_aggregate a x = pieces (expr_phrase-Aggregate a x)

pub rank_aggregate : (a : Aggregate) (x : Expr) → (expr_phrase (exprs.Aggregate a x)).rank ≡ 3
rank_aggregate a x = rank (expr_phrase-Aggregate a x)

pub rank_substr : (text from : Expr) (length : Option Expr) → (expr_phrase (exprs.Substr text from length)).rank ≡ 3
rank_substr text from length = rank (expr_phrase-Substr text from length)

pub is_apply : (f : Function) (x : Expr) → expr_pieces (exprs.Apply f x) ≡ opening (function_kind f) ∷ (expr_pieces x ++ mark kinds.Close ∷ [])
is_apply f x = pieces (expr_phrase-Apply f x)

pub rank_apply : (f : Function) (x : Expr) → (expr_phrase (exprs.Apply f x)).rank ≡ 3
rank_apply f x = rank (expr_phrase-Apply f x)

pub is_coalesce : (xs : List Expr) → expr_pieces (exprs.Coalesce xs) ≡ opening kinds.Coalesce ∷ (listed (map expr_pieces xs) ++ mark kinds.Close ∷ [])
is_coalesce xs = pieces (expr_phrase-Coalesce xs)

pub rank_coalesce : (xs : List Expr) → (expr_phrase (exprs.Coalesce xs)).rank ≡ 3
rank_coalesce xs = rank (expr_phrase-Coalesce xs)

pub is_case : (arms : List Arm) (other : Option Expr) → expr_pieces (exprs.Case arms other) ≡ mark kinds.Case ∷ (flat_map arm_pieces arms ++ (clause kinds.Else (option_of expr_pieces other) ++ mark kinds.End ∷ []))
is_case arms other =
    pieces (expr_phrase-Case arms other)
    ∙ ap (λ (ps : List Piece). mark kinds.Case ∷ (ps ++ (else_pieces (option_of expr_phrase other) ++ mark kinds.End ∷ []))) (flat_fused (λ a. a) arm_pieces arms)
    ∙ ap (λ (ps : List Piece). mark kinds.Case ∷ (flat_map arm_pieces arms ++ (ps ++ mark kinds.End ∷ []))) (else_same other)

pub is_match : (x : Expr) (arms : List Choice) (other : Option Expr) → expr_pieces (exprs.Match x arms other) ≡ mark kinds.Case ∷ (expr_pieces x ++ (flat_map choice_pieces arms ++ (clause kinds.Else (option_of expr_pieces other) ++ mark kinds.End ∷ [])))
is_match x arms other =
    pieces (expr_phrase-Match x arms other)
    ∙ ap (λ (ps : List Piece). mark kinds.Case ∷ (expr_pieces x ++ (ps ++ (else_pieces (option_of expr_phrase other) ++ mark kinds.End ∷ [])))) (flat_fused (λ a. a) choice_pieces arms)
    ∙ ap (λ (ps : List Piece). mark kinds.Case ∷ (expr_pieces x ++ (flat_map choice_pieces arms ++ (ps ++ mark kinds.End ∷ [])))) (else_same other)

substr_shape : (a b c z : List Piece) (k : Piece) → (a ++ k ∷ (b ++ c)) ++ z ≡ a ++ k ∷ (b ++ (c ++ z))
substr_shape [] b c z k = ap (λ (ps : List Piece). k ∷ ps) (assoc b c z)
  where
    assoc : (b c z : List Piece) → (b ++ c) ++ z ≡ b ++ (c ++ z)
    assoc [] c z = refl
    assoc (p ∷ b) c z = ap (λ (ps : List Piece). p ∷ ps) (assoc b c z)
substr_shape (p ∷ a) b c z k = ap (λ (ps : List Piece). p ∷ ps) (substr_shape a b c z k)

pub is_substr : (text from : Expr) (length : Option Expr) → expr_pieces (exprs.Substr text from length) ≡ opening kinds.Substr ∷ (expr_pieces text ++ mark kinds.Comma ∷ (expr_pieces from ++ (clause kinds.Comma (option_of expr_pieces length) ++ mark kinds.Close ∷ [])))
is_substr text from length =
    pieces (expr_phrase-Substr text from length)
    ∙ ap (λ (ps : List Piece). opening kinds.Substr ∷ ps) (substr_shape (expr_pieces text) (expr_pieces from) (clause kinds.Comma (option_of expr_pieces length)) (mark kinds.Close ∷ []) (mark kinds.Comma))

pub of_or : (xs : List Cond) → cond_pieces (conds.Or xs) ≡ separated kinds.Or (map (λ x. at_least 1 (cond_phrase x)) xs)
of_or xs = pieces (cond_phrase-Or xs)

pub cond_rank_or : (xs : List Cond) → (cond_phrase (conds.Or xs)).rank ≡ 0
cond_rank_or xs = rank (cond_phrase-Or xs)

pub of_and : (xs : List Cond) → cond_pieces (conds.And xs) ≡ separated kinds.And (map (λ x. at_least 2 (cond_phrase x)) xs)
of_and xs = pieces (cond_phrase-And xs)

pub cond_rank_and : (xs : List Cond) → (cond_phrase (conds.And xs)).rank ≡ 1
cond_rank_and xs = rank (cond_phrase-And xs)

pub of_not : (x : Cond) → cond_pieces (conds.Not x) ≡ mark kinds.Not ∷ at_least 3 (cond_phrase x)
of_not x = pieces (cond_phrase-Not x)

pub cond_rank_not : (x : Cond) → (cond_phrase (conds.Not x)).rank ≡ 2
cond_rank_not x = rank (cond_phrase-Not x)

pub of_exists : (q : Query) → cond_pieces (conds.Exists q) ≡ mark kinds.Exists ∷ parens (query_pieces q)
of_exists q = pieces (cond_phrase-Exists q)

pub cond_rank_exists : (q : Query) → (cond_phrase (conds.Exists q)).rank ≡ 3
cond_rank_exists q = rank (cond_phrase-Exists q)

pub of_compare : (by : Comparison) (a b : Expr) → cond_pieces (conds.Compare by a b) ≡ expr_pieces a ++ mark (comparison_kind by) ∷ expr_pieces b
of_compare by a b = pieces (cond_phrase-Compare by a b)

pub cond_rank_compare : (by : Comparison) (a b : Expr) → (cond_phrase (conds.Compare by a b)).rank ≡ 3
cond_rank_compare by a b = rank (cond_phrase-Compare by a b)

pub of_comparequery : (by : Comparison) (a : Expr) (q : Query) → cond_pieces (conds.CompareQuery by a q) ≡ expr_pieces a ++ mark (comparison_kind by) ∷ parens (query_pieces q)
of_comparequery by a q = pieces (cond_phrase-CompareQuery by a q)

pub cond_rank_comparequery : (by : Comparison) (a : Expr) (q : Query) → (cond_phrase (conds.CompareQuery by a q)).rank ≡ 3
cond_rank_comparequery by a q = rank (cond_phrase-CompareQuery by a q)

pub of_isnull : (a : Expr) → cond_pieces (conds.IsNull a) ≡ expr_pieces a ++ mark kinds.Is ∷ mark kinds.Null ∷ []
of_isnull a = pieces (cond_phrase-IsNull a)

pub cond_rank_isnull : (a : Expr) → (cond_phrase (conds.IsNull a)).rank ≡ 3
cond_rank_isnull a = rank (cond_phrase-IsNull a)

pub of_inquery : (a : Expr) (q : Query) → cond_pieces (conds.InQuery a q) ≡ expr_pieces a ++ mark kinds.In ∷ parens (query_pieces q)
of_inquery a q = pieces (cond_phrase-InQuery a q)

pub cond_rank_inquery : (a : Expr) (q : Query) → (cond_phrase (conds.InQuery a q)).rank ≡ 3
cond_rank_inquery a q = rank (cond_phrase-InQuery a q)

pub of_inlist : (a : Expr) (xs : List Expr) → cond_pieces (conds.InList a xs) ≡ expr_pieces a ++ mark kinds.In ∷ parens (listed (map expr_pieces xs))
of_inlist a xs = pieces (cond_phrase-InList a xs)

pub cond_rank_inlist : (a : Expr) (xs : List Expr) → (cond_phrase (conds.InList a xs)).rank ≡ 3
cond_rank_inlist a xs = rank (cond_phrase-InList a xs)

pub of_between : (a low high : Expr) → cond_pieces (conds.Between a low high) ≡ expr_pieces a ++ mark kinds.Between ∷ (expr_pieces low ++ mark kinds.And ∷ expr_pieces high)
of_between a low high = pieces (cond_phrase-Between a low high)

pub cond_rank_between : (a low high : Expr) → (cond_phrase (conds.Between a low high)).rank ≡ 3
cond_rank_between a low high = rank (cond_phrase-Between a low high)

-- ---- operands

is_most : (r n : ℕ) → r ≤ n → nat_le r n ≡ true
is_most r n h = grind (arith, nat_tests)

is_less : (r n : ℕ) → n < r → nat_le r n ≡ false
is_less r n h = grind (arith, nat_tests)

pub bare : (r n : ℕ) (x : Phrase) → n ≡ x.rank → r ≤ n → at_least r x ≡ x.pieces
bare r n x e h = ap (λ (b : Bool). enclosed b x.pieces) (ap (nat_le r) (sym e) ∙ is_most r n h)

pub in_brackets : (r n : ℕ) (x : Phrase) → n ≡ x.rank → n < r → at_least r x ≡ parens x.pieces
in_brackets r n x e h = ap (λ (b : Bool). enclosed b x.pieces) (ap (nat_le r) (sym e) ∙ is_less r n h)

-- ---- lists that are not empty

pub grouped : (xs : List Column) → (xs ≡ [] → ⊥) → group_pieces xs ≡ mark kinds.Group ∷ mark kinds.By ∷ listed (map column_pieces xs)
grouped [] h = absurd (h refl)
grouped (x ∷ xs) h = refl

pub ordered : (xs : List SortKey) → (xs ≡ [] → ⊥) → order_pieces xs ≡ mark kinds.Order ∷ mark kinds.By ∷ listed (map key_pieces xs)
ordered [] h = absurd (h refl)
ordered (x ∷ xs) h = refl

-- ---- expressions of several parts, laid one after the other

then : (l a b : Layout) (ps qs : List Piece) → a ≡ laid l ps → b ≡ laid a qs → b ≡ laid l (ps ++ qs)
then l a b ps qs h k = k ∙ ap (λ (x : Layout). laid x qs) h ∙ sym (laid-append l ps qs)

-- the ELSE part, and END
ended : (b c : Layout) (other : Option Expr) → c ≡ laid b (clause kinds.Else (option_of expr_pieces other)) → lay c (mark kinds.End) ≡ laid b (clause kinds.Else (option_of expr_pieces other) ++ mark kinds.End ∷ [])
ended b c other h = then b c (lay c (mark kinds.End)) (clause kinds.Else (option_of expr_pieces other)) (mark kinds.End ∷ []) h refl

pub case_laid : (l a b c : Layout) (e : Expr) (arms : List Arm) (other : Option Expr) → e ≡ exprs.Case arms other → a ≡ lay l (mark kinds.Case) → b ≡ laid a (flat_map arm_pieces arms)
    → c ≡ laid b (clause kinds.Else (option_of expr_pieces other)) → lay c (mark kinds.End) ≡ laid l (expr_pieces e)
case_laid l a b c e arms other is h k m =
    then l a (lay c (mark kinds.End)) (mark kinds.Case ∷ []) (flat_map arm_pieces arms ++ (clause kinds.Else (option_of expr_pieces other) ++ mark kinds.End ∷ [])) h (then a b (lay c (mark kinds.End)) (flat_map arm_pieces arms) (clause kinds.Else (option_of expr_pieces other) ++ mark kinds.End ∷ []) k (ended b c other m))
    ∙ ap (laid l) (sym (is_case arms other) ∙ ap expr_pieces (sym is))

pub match_laid : (l a o b c : Layout) (e x : Expr) (arms : List Choice) (other : Option Expr) → e ≡ exprs.Match x arms other → a ≡ lay l (mark kinds.Case) → o ≡ laid a (expr_pieces x)
    → b ≡ laid o (flat_map choice_pieces arms) → c ≡ laid b (clause kinds.Else (option_of expr_pieces other)) → lay c (mark kinds.End) ≡ laid l (expr_pieces e)
match_laid l a o b c e x arms other is h i k m =
    then l a (lay c (mark kinds.End)) (mark kinds.Case ∷ []) (expr_pieces x ++ (flat_map choice_pieces arms ++ (clause kinds.Else (option_of expr_pieces other) ++ mark kinds.End ∷ []))) h
    (then a o (lay c (mark kinds.End)) (expr_pieces x) (flat_map choice_pieces arms ++ (clause kinds.Else (option_of expr_pieces other) ++ mark kinds.End ∷ [])) i (then o b (lay c (mark kinds.End)) (flat_map choice_pieces arms) (clause kinds.Else (option_of expr_pieces other) ++ mark kinds.End ∷ []) k (ended b c other m)))
    ∙ ap (laid l) (sym (is_match x arms other) ∙ ap expr_pieces (sym is))

pub substr_laid : (l a b c d f : Layout) (e text from : Expr) (length : Option Expr) → e ≡ exprs.Substr text from length → a ≡ lay l (opening kinds.Substr) → b ≡ laid a (expr_pieces text)
    → c ≡ lay b (mark kinds.Comma) → d ≡ laid c (expr_pieces from) → f ≡ laid d (clause kinds.Comma (option_of expr_pieces length)) → lay f (mark kinds.Close) ≡ laid l (expr_pieces e)
substr_laid l a b c d f e text from length is h i j k m =
    let tail : List Piece = clause kinds.Comma (option_of expr_pieces length) ++ mark kinds.Close ∷ [] in
    let last : lay f (mark kinds.Close) ≡ laid d (clause kinds.Comma (option_of expr_pieces length) ++ mark kinds.Close ∷ []) = then d f (lay f (mark kinds.Close)) (clause kinds.Comma (option_of expr_pieces length)) (mark kinds.Close ∷ []) m refl in
    then l a (lay f (mark kinds.Close)) (opening kinds.Substr ∷ []) (expr_pieces text ++ mark kinds.Comma ∷ (expr_pieces from ++ tail)) h
    (then a b (lay f (mark kinds.Close)) (expr_pieces text) (mark kinds.Comma ∷ (expr_pieces from ++ tail)) i
    (then b c (lay f (mark kinds.Close)) (mark kinds.Comma ∷ []) (expr_pieces from ++ tail) j (then c d (lay f (mark kinds.Close)) (expr_pieces from) tail k last)))
    ∙ ap (laid l) (sym (is_substr text from length) ∙ ap expr_pieces (sym is))
