-- What stands in brackets: something does, and what begins it.
use Rattle.std.proofs.Common.{Bool, true, false, ◌⊎◌, inl, inr, ◌≡◌, ℕ, zero, suc, ◌+◌, List, [], ◌∷◌, ◌++◌, Option, Some, None, refl, sym, subst, codes, arith}
use Rattle.lb_tree.specs.declared.query.Expr.{Expr}
use Rattle.lb_tree.specs.declared.query.Expr.TheVariants as exprs
use Rattle.lb_tree.specs.declared.query.Atom.TheVariants as atoms
use Rattle.lb_tree.specs.declared.query.Cond.{Cond}
use Rattle.lb_tree.specs.declared.query.Cond.TheVariants as conds
use Rattle.lb_tree.specs.declared.query.Cond.TheViews.{roll-Query, roll-Chain}
use Rattle.lb_tree.specs.declared.query.Query.{Query}
use Rattle.lb_tree.specs.declared.query.Chain.{Chain}
use Rattle.lb_tree.specs.declared.query.Item.TheVariants as items
use Rattle.lb_tree.specs.declared.query.Tab.{Tab}
use Rattle.lb_tok.specs.declared.kind.Kind.{Kind}
use Rattle.lb_tok.specs.declared.kind.Kind.TheVariants as kinds
use Rattle.lb_tok.specs.declared.token.Token.{Token}
use Rattle.lb_tok.specs.Kinds.{Kinds, only, names, has}
use Rattle.lb_tok.specs.Form.{Below, Lang, One, Seq, Either, Word}
use Rattle.lb_tok.specs.Grammar.{InExpr, InCond, InQuery, IsFact, IsTerm, IsConcat, IsExpr, IsLiteral, IsPred, IsNullTest, IsPrim, IsConj, IsCond, IsTab, IsChain, IsQuery, level}
use Rattle.lb_readt.specs.Readers.{Reader, heads}
use Rattle.lb_reade.specs.Expressions.{Mixed}
use Rattle.lb_readt.proofs.Sets.{subset, has_only}
use Rattle.lb_readt.proofs.Joined.{Ev, Begins, Tongue, Exact, Meets, via}
use Rattle.lb_readt.proofs.Combined.{IsReaderOf, plain_token, begins_wide}
use Rattle.lb_readt.proofs.Tokens.{name_token}

-- what begins a language, whatever stands in brackets

pub record Starts {A : Type 0} (P : Lang A) (F : Kinds) : Type 1 where
  pub begins : (s : Below) (ts : List Token) (x : A) → P s ts x → Begins false F ts

starts_seq : {A B : Type 0} {P : Lang A} {Q : A → Lang B} {F : Kinds} → Starts P F → Starts (Seq P Q) F
starts_seq {A} {B} {P} {Q} {F} h = record { begins = λ s ts y p. subst (λ (u : List Token). Begins false F u) (sym p.5) (go p.0 p.1 (h.begins s p.0 p.2 p.3)) }
  where
    go : (a b : List Token) → Begins false F a → Begins false F (a ++ b)
    go [] b p = absurd cc
    go (t ∷ a) b p = p

starts_one : {A : Type 0} (ks : Kinds) (view : Token → Option A) → Starts (One ks view) ks
starts_one ks view = record { begins = λ s ts t p. subst (λ (u : List Token). Begins false ks u) (sym p.1) p.2 }

starts_either : {A : Type 0} {P Q : Lang A} {F G : Kinds} (H : Kinds) → subset F H ≡ true → subset G H ≡ true → Starts P F → Starts Q G → Starts (Either P Q) H
starts_either {A} {P} {Q} {F} {G} H e f p q = record { begins = go }
  where
    go : (s : Below) (ts : List Token) (x : A) → P s ts x ⊎ Q s ts x → Begins false H ts
    go s ts x (inl h) = begins_wide false false F H ts e (λ z. z) (p.begins s ts x h)
    go s ts x (inr h) = begins_wide false false G H ts f (λ z. z) (q.begins s ts x h)

starts_word : {A : Type 0} (k : Kind) {Q : Unit {0} → Lang A} → Starts (Seq (Word k) Q) (only k)
starts_word k = starts_seq (starts_one (only k) (λ t. Some tt))

abbrev pub in_literal : Kinds
in_literal = only kinds.Null ++ only kinds.Numeral ++ only kinds.Minus ++ only kinds.Text ++ only kinds.Current ++ only kinds.CurrentDate ++ only kinds.SessionUser ++ only kinds.Case

abbrev pub in_fact : Kinds
in_fact = only kinds.Open ++ names ++ in_literal

abbrev pub in_cond : Kinds
in_cond = only kinds.Not ++ only kinds.Exists ++ in_fact

literal_starts : Starts IsLiteral in_literal
literal_starts =
    starts_either in_literal refl refl (starts_word kinds.Null) (
    starts_either in_literal refl refl (starts_either in_literal refl refl (starts_word kinds.Minus) (starts_seq (starts_one (only kinds.Numeral) _))) (
    starts_either in_literal refl refl (starts_seq (starts_one (only kinds.Text) _)) (
    starts_either in_literal refl refl (starts_either in_literal refl refl (starts_word kinds.Current) (starts_word kinds.CurrentDate)) (
    starts_either in_literal refl refl (starts_word kinds.SessionUser) (starts_word kinds.Case)))))

fact_starts : Starts IsFact in_fact
fact_starts =
    starts_either in_fact refl refl (starts_word kinds.Open) (
    starts_either in_fact refl refl (
    starts_either names refl refl (starts_seq (starts_seq (starts_one names _))) (starts_seq (starts_one names _))) literal_starts)

expr_starts : Starts IsExpr in_fact
expr_starts = starts_seq (starts_seq (starts_seq fact_starts))

prim_starts : Starts IsPrim in_cond
prim_starts = starts_either in_cond refl refl (starts_word kinds.Open) (starts_either in_cond refl refl (starts_word kinds.Exists) (starts_seq expr_starts))

cond_starts : Starts IsCond in_cond
cond_starts = starts_seq (starts_seq (starts_either in_cond refl refl (starts_word kinds.Not) prim_starts))

query_starts : Starts IsQuery (only kinds.Select)
query_starts = starts_word kinds.Select

-- the languages one level down

pub down_first : {A : Type 0} (P Q : Lang A) (F : Kinds) → ((ts : List Token) (x : A) → Q (level 0) ts x → ⊥) → ((k : ℕ) (ts : List Token) (x : A) → Q (level (suc k)) ts x → P (level k) ts x) → Starts P F → (k : ℕ) (ts : List Token) (x : A) → Q (level k) ts x → Begins false F ts
down_first P Q F none down h zero ts x p = absurd (none ts x p)
down_first P Q F none down h (suc k) ts x p = h.begins (level k) ts x (down k ts x p)

pub up_ev : {A : Type 0} (P Q : Lang A) (ts : List Token) (x : A) → ((k : ℕ) → P (level k) ts x → Q (level (suc k)) ts x) → Ev level P ts x → Ev level Q ts x
up_ev P Q ts x up p = (suc p.0, λ m. subst (λ (j : ℕ). Q (level j) ts x) (step m) (up (p.0 + m) (p.1 m)))
  where
    step : (m : ℕ) → suc (p.0 + m) ≡ suc p.0 + m
    step m = omega arith

a_word : (s : Below) (k : Kind) → Word k s (plain_token k ∷ []) tt
a_word s k = (plain_token k, refl, has_only k, refl)

abbrev null : Expr
null = exprs.Atom atoms.Null

a_null : (s : Below) → IsExpr s (plain_token kinds.Null ∷ []) null
a_null s =
    let ts = plain_token kinds.Null ∷ [] in
    let fact : IsFact s ts null = inr (inr (inl (ts, [], tt, a_word s kinds.Null, (refl, refl), refl))) in
    let term : IsTerm s ts null = (ts, [], null, fact, ([], [], [], refl, (refl, refl), refl), refl) in
    let concat : IsConcat s ts null = (ts, [], null, term, ([], [], [], refl, (refl, refl), refl), refl) in
    (ts, [], null, concat, ([], [], [], refl, (refl, refl), refl), refl)

abbrev test : Cond
test = conds.IsNull null

abbrev tested : List Token
tested = plain_token kinds.Null ∷ plain_token kinds.Is ∷ plain_token kinds.Null ∷ []

a_test : (s : Below) → IsCond s tested test
a_test s =
    let ts = plain_token kinds.Null ∷ [] in
    let is_null : IsNullTest null s ts test = inr (ts, [], tt, a_word s kinds.Null, (refl, refl), refl) in
    let pred : IsPred null s (plain_token kinds.Is ∷ ts) test = inr (inl (plain_token kinds.Is ∷ [], ts, tt, a_word s kinds.Is, is_null, refl)) in
    let prim : IsPrim s tested test = inr (inr (ts, plain_token kinds.Is ∷ ts, null, a_null s, pred, refl)) in
    let conj : IsConj s tested test = (tested, [], test, inr prim, ([], [], [], refl, (refl, refl), refl), refl) in
    (tested, [], test, conj, ([], [], [], refl, (refl, refl), refl), refl)

abbrev a_tab : Tab
a_tab = record { table = codes "A"; correlation = None }

abbrev a_chain : Chain
a_chain = roll-Chain (record { first = a_tab; joins = [] })

abbrev selected : Query
selected = roll-Query (record { distinct = false; items = items.Everything ∷ []; from = a_chain ∷ []; filter = None; group = []; having = None })

abbrev select_tokens : List Token
select_tokens = plain_token kinds.Select ∷ plain_token kinds.Star ∷ plain_token kinds.From ∷ name_token ∷ []

a_select : (s : Below) → IsQuery s select_tokens selected
unfolding has
a_select s =
    let n = name_token ∷ [] in
    let tab : IsTab s n a_tab = (n, [], codes "A", (name_token, refl, refl, refl), ([], [], None, inr (inr (refl, refl)), (refl, refl), refl), refl) in
    let chain : IsChain s n a_chain = (n, [], a_tab, tab, ([], [], [], refl, (refl, refl), refl), refl) in (
      plain_token kinds.Select ∷ [],
      plain_token kinds.Star ∷ plain_token kinds.From ∷ n,
      tt,
      a_word s kinds.Select,
      (
        [],
        plain_token kinds.Star ∷ plain_token kinds.From ∷ n,
        false,
        inr (refl, refl),
        (
          plain_token kinds.Star ∷ [],
          plain_token kinds.From ∷ n,
          items.Everything ∷ [],
          inl (plain_token kinds.Star ∷ [], [], tt, a_word s kinds.Star, (refl, refl), refl),
          (
            plain_token kinds.From ∷ [],
            n,
            tt,
            a_word s kinds.From,
            (
              n,
              [],
              a_chain ∷ [],
              (n, [], a_chain, chain, ([], [], [], refl, (refl, refl), refl), refl),
              (
                [],
                [],
                None,
                inr (refl, refl),
                (
                  [],
                  [],
                  [],
                  inr (refl, refl),
                  ([], [], None, inr (refl, refl), (refl, refl), refl),
                  refl,
                ),
                refl,
              ),
              refl,
            ),
            refl,
          ),
          refl,
        ),
        refl,
      ),
      refl,
    )

pub expr_tongue : Tongue level InExpr false in_fact
unfolding level
expr_tongue = record { tokens = plain_token kinds.Null ∷ []; tree = null; some = up_ev IsExpr InExpr _ _ (λ k p. p) (0, λ m. a_null (level (0 + m))); first = down_first IsExpr InExpr in_fact (λ ts x p. p) (λ k ts x p. p) expr_starts }

pub cond_tongue : Tongue level InCond false in_cond
unfolding level
cond_tongue = record { tokens = tested; tree = test; some = up_ev IsCond InCond _ _ (λ k p. p) (0, λ m. a_test (level (0 + m))); first = down_first IsCond InCond in_cond (λ ts x p. p) (λ k ts x p. p) cond_starts }

pub query_tongue : Tongue level InQuery false (only kinds.Select)
unfolding level
query_tongue = record { tokens = select_tokens; tree = selected; some = up_ev IsQuery InQuery _ _ (λ k p. p) (0, λ m. a_select (level (0 + m))); first = down_first IsQuery InQuery (only kinds.Select) (λ ts x p. p) (λ k ts x p. p) query_starts }

-- a condition or an expression in brackets
abbrev pub MixedOf : Lang Cond → Lang Expr → Lang Mixed
MixedOf P Q s ts (inl c) = P s ts c
MixedOf P Q s ts (inr e) = Q s ts e

abbrev pub InMixed : Lang Mixed
InMixed = MixedOf InCond InExpr

pub mixed_tongue : Tongue level InMixed false in_cond
mixed_tongue = record { tokens = expr_tongue.tokens; tree = inr expr_tongue.tree; some = expr_tongue.some; first = first }
  where
    first : (k : ℕ) (ts : List Token) (x : Mixed) → InMixed (level k) ts x → Begins false in_cond ts
    first k ts (inl c) p = cond_tongue.first k ts c p
    first k ts (inr e) p = begins_wide false false in_fact in_cond ts refl (λ z. z) (expr_tongue.first k ts e p)

-- from the languages to those in brackets
pub down_reads : {b : Bool} {d : ℕ} {A : Type 0} {f : Reader A} {P : Lang A} {F E : Kinds} (Q : Lang A) → ((ts : List Token) (x : A) → Q (level 0) ts x → ⊥) → ((k : ℕ) (ts : List Token) (x : A) → Q (level (suc k)) ts x → P (level k) ts x) → ((k : ℕ) (ts : List Token) (x : A) → P (level k) ts x → Q (level (suc k)) ts x)
    → Tongue level Q false F → IsReaderOf b d f P false F E → IsReaderOf b d f Q false F E
down_reads {b} {d} {A} {f} {P} {F} {E} Q none down up t p =
    record { tongue = t; exact = λ e. let q = p.exact e in record { tongue = t; sound = λ ts. via level d d f f P Q ts (f ts) (λ u x. up_ev P Q u x (λ k. up k u x)) (λ front rest r w al. refl) (q.sound ts); only = only q } }
  where
    only : Exact level d d f P false F E → (k : ℕ) (front : List Token) (x : A) (rest : List Token) → Q (level k) front x → heads E rest ≡ false → Meets (f (front ++ rest)) x rest
    only q zero front x rest s c = absurd (none front x s)
    only q (suc k) front x rest s c = q.only k front x rest (down k front x s) c
