-- How the grammar is put together: which token lists spell which values.
use Rattle.std.specs.Prelude.{◌≡◌, List, [], ◌∷◌, ◌++◌, Bool, true, false, Option, Some, None, ◌⊎◌}
use Rattle.lb_tree.specs.declared.query.Expr.{Expr}
use Rattle.lb_tree.specs.declared.query.Cond.{Cond}
use Rattle.lb_tree.specs.declared.query.Query.{Query}
use Rattle.lb_tok.specs.declared.kind.Kind.{Kind}
use Rattle.lb_tok.specs.declared.kind.Kind.TheVariants as kinds
use Rattle.lb_tok.specs.declared.token.Token.{Token}
use Rattle.lb_tok.specs.Kinds.{Kinds, only, has}

-- what can stand in a bracket
pub data Inner : Type 0 where
  an_expr : Expr → Inner
  a_cond : Cond → Inner
  a_query : Query → Inner

-- which tokens spell what in a bracket
abbrev pub Below : Type 1
Below = List Token → Inner → Type 0

-- which tokens spell which A, where brackets hold what s says
abbrev pub Lang : Type 0 → Type 1
Lang A = Below → List Token → A → Type 0

-- no token
abbrev pub Nothing : {A : Type 0} → A → Lang A
Nothing x s ts y = (ts ≡ []) × (y ≡ x)

-- one token whose kind is among ks, and what is seen of it
abbrev pub One : {A : Type 0} → Kinds → (Token → Option A) → Lang A
One ks view s ts x = (t : Token) × (ts ≡ t ∷ []) × (has ks t.kind ≡ true) × (view t ≡ Some x)

-- P and then Q, which may look at what P spells
abbrev pub Seq : {A B : Type 0} → Lang A → (A → Lang B) → Lang B
Seq {A} P Q s ts y = (a : List Token) × (b : List Token) × (x : A) × P s a x × Q x s b y × (ts ≡ a ++ b)

-- P | Q
abbrev pub Either : {A : Type 0} → Lang A → Lang A → Lang A
Either P Q s ts x = P s ts x ⊎ Q s ts x

-- { P }
abbrev pub Many : {A : Type 0} → Lang A → Lang (List A)
Many P s ts [] = ts ≡ []
Many P s ts (x ∷ xs) = (a : List Token) × (b : List Token) × P s a x × Many P s b xs × (ts ≡ a ++ b)

-- a keyword or a symbol
abbrev pub Word : Kind → Lang (Unit {0})
Word k = One (only k) (λ t. Some tt)

-- the word k, and then P
abbrev pub After : {A : Type 0} → Kind → Lang A → Lang A
After k P = Seq (Word k) (λ _. P)

-- P, whose value is made into another
abbrev pub Made : {A B : Type 0} → (A → B) → Lang A → Lang B
Made f P = Seq P (λ x. Nothing (f x))

-- a keyword that stands for a value
abbrev pub Means : {A : Type 0} → Kind → A → Lang A
Means k x = Seq (Word k) (λ _. Nothing x)

-- [ k ], a word that changes nothing
abbrev pub May : Kind → Lang (Unit {0})
May k = Either (Word k) (Nothing tt)

-- [ k ], and whether it is written
abbrev pub Flag : Kind → Lang Bool
Flag k = Either (Means k true) (Nothing false)

-- [ P ]
abbrev pub Optional : {A : Type 0} → Lang A → Lang (Option A)
Optional P = Either (Made Some P) (Nothing None)

-- P {, P}
abbrev pub Listed : {A : Type 0} → Lang A → Lang (List A)
Listed P = Seq P (λ x. Made (λ xs. x ∷ xs) (Many (After kinds.Comma P)))

-- the bracket o, then P, then the bracket c
abbrev pub Bracket : {A : Type 0} → Kind → Kind → Lang A → Lang A
Bracket o c P = Seq (Word o) (λ _. Seq P (λ x. Seq (Word c) (λ _. Nothing x)))

-- "(" P ")"
abbrev pub Parens : {A : Type 0} → Lang A → Lang A
Parens P = Bracket kinds.Open kinds.Close P
