-- Readers: what reading from left to right answers, and how readers are put together in the grammar's own words.
use Rattle.std.specs.Prelude.{ℕ, zero, suc, List, [], ◌∷◌, length, Bool, true, false, Option, Some, None, if◌then◌else◌}
use Rattle.lb_tok.specs.declared.kind.Kind.{Kind}
use Rattle.lb_tok.specs.declared.kind.Kind.TheVariants as kinds
use Rattle.lb_tok.specs.declared.token.Token.{Token}
use Rattle.lb_tok.specs.Kinds.{Kinds, only, has}

-- why reading stops: no statement goes on so, or one bracket too many would open
pub data Why : Type 0 where
  bad : Why
  deep : Why

-- what reading answers, and the tokens that are left
pub data Answer (A : Type 0) : Type 0 where
  got : A → List Token → Answer A
  stop : Why → List Token → Answer A

-- a reader answers something of each list of tokens
abbrev pub Reader : Type 0 → Type 0
Reader A = List Token → Answer A

-- g goes on where an answer is got; where reading stopped it stays stopped
abbrev pub bind : {A B : Type 0} → Answer A → (A → Reader B) → Answer B
bind (got x rest) g = g x rest
bind (stop c rest) g = stop c rest

-- f, and then what g reads with f's value
abbrev pub seq : {A B : Type 0} → Reader A → (A → Reader B) → Reader B
seq f g ts = bind (f ts) g

-- x, where no token is read
abbrev pub give : {A : Type 0} → A → Reader A
give x ts = got x ts

-- whether the next token's kind is among ks
abbrev pub heads : Kinds → List Token → Bool
heads ks [] = false
heads ks (t ∷ ts) = has ks t.kind

-- the token is taken where something is seen of it
abbrev pub seen : {A : Type 0} → Option A → Token → List Token → Answer A
seen (Some x) t ts = got x ts
seen None t ts = stop bad (t ∷ ts)

-- the next token, if its kind is among ks and something is seen of it
abbrev pub one : {A : Type 0} → Kinds → (Token → Option A) → Reader A
one ks view [] = stop bad []
one ks view (t ∷ ts) = if has ks t.kind then seen (view t) t ts else stop bad (t ∷ ts)

-- f where the next kind is among ks, else g
abbrev pub pick : {A : Type 0} → Kinds → Reader A → Reader A → Reader A
pick ks f g ts = if heads ks ts then f ts else g ts

-- f or g, as b says
abbrev pub choose : {A : Type 0} → Bool → Reader A → Reader A → Reader A
choose b f g ts = if b then f ts else g ts

-- f as long as the next kind is among ks, at most so many times
unfoldable pub turns : {A : Type 0} → ℕ → Kinds → Reader A → Reader (List A)
turns zero ks f ts = got [] ts
turns (suc n) ks f ts = if heads ks ts then bind (f ts) (λ x. seq (turns n ks f) (λ xs. give (x ∷ xs))) else got [] ts

-- f as long as the next kind is among ks; the number of tokens bounds the turns, since f takes one each time
abbrev pub many : {A : Type 0} → Kinds → Reader A → Reader (List A)
many ks f ts = turns (length ts) ks f ts

-- a token of this kind
abbrev pub word : Kind → Reader (Unit {0})
word k = one (only k) (λ t. Some tt)

-- a token of this kind, and then f
abbrev pub after : {A : Type 0} → Kind → Reader A → Reader A
after k f = seq (word k) (λ _. f)

-- f of what p reads
abbrev pub made : {A B : Type 0} → (A → B) → Reader A → Reader B
made f p = seq p (λ x. give (f x))

-- a token of this kind, which means x
abbrev pub means : {A : Type 0} → Kind → A → Reader A
means k x = seq (word k) (λ _. give x)

-- [k]: a token that changes nothing
abbrev pub may : Kind → Reader (Unit {0})
may k = pick (only k) (word k) (give tt)

-- [k]: whether it is there
abbrev pub flag : Kind → Reader Bool
flag k = pick (only k) (means k true) (give false)

-- [f], where f begins with one of ks
abbrev pub optional : {A : Type 0} → Kinds → Reader A → Reader (Option A)
optional ks f = pick ks (made Some f) (give None)

-- {, f}
unfoldable pub commas : {A : Type 0} → Reader A → Reader (List A)
commas f = many (only kinds.Comma) (after kinds.Comma f)

-- f {, f}
abbrev pub listed : {A : Type 0} → Reader A → Reader (List A)
listed f = seq f (λ x. made (λ xs. x ∷ xs) (commas f))

-- an opener: where there is no room for it reading stops there, as too deep
abbrev pub open_at : Bool → Kind → Reader (Unit {0})
open_at true o ts = word o ts
open_at false o ts = if heads (only o) ts then stop deep ts else stop bad ts

-- an opener, what f reads, and the closer
abbrev pub bracket : {A : Type 0} → Bool → Kind → Kind → Reader A → Reader A
bracket room o c f = seq (open_at room o) (λ _. seq f (λ x. seq (word c) (λ _. give x)))
