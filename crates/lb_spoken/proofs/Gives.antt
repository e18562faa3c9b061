-- What holds of everything that a language spells, by what holds of its parts.
use Rattle.std.proofs.Common.{ℕ, ◌+◌, ◌≤◌, List, [], ◌∷◌, ◌++◌, length, Option, Some, None, sym, subst, arith}
use Rattle.std.specs.List.{AllByRecursion}
use Rattle.lb_stmt.specs.declared.write.Stmt.{Stmt}
use Rattle.lb_tok.specs.declared.token.Token.{Token}
use Rattle.lb_tok.specs.declared.token.Span.{Span}
use Rattle.lb_tok.specs.Lexing.{LexedFrom}
use Rattle.lb_tok.specs.Form.{Below, Lang, Nothing, Seq, Either, Many, Made, Optional, Listed}
use Rattle.lb_tok.specs.Grammar.{level}
use Rattle.lb_tok.specs.Changes.{IsStmt}
use Rattle.lb_tok.specs.Spelled.{IsSpoken}
use Rattle.lb_tok.proofs.SpelledPieces.{Got, AreTokens, split, follow, unmake, meant, nothing_is, which, inside}

-- C holds of all that P spells
pub record Gives {A : Type 0} (P : Lang A) (s : Below) (C : A → Type 0) : Type 0 where
  pub of : (ts : List Token) (x : A) → Got P s ts x → C x

-- of a part that may be missing
abbrev pub IfGiven : {A : Type 0} → (A → Type 0) → Option A → Type 0
IfGiven C None = Unit {0}
IfGiven C (Some x) = C x

pub anything : {A : Type 0} {P : Lang A} {s : Below} {C : A → Type 0} → ((x : A) → C x) → Gives P s C
anything h = record { of = λ ts x g. h x }

pub nothing : {A : Type 0} {v : A} {s : Below} {C : A → Type 0} → C v → Gives (Nothing v) s C
nothing {A} {v} {s} {C} c = record { of = λ ts x g. subst C (sym (nothing_is g)) c }

pub means : {A B : Type 0} {W : Lang B} {v : A} {s : Below} {C : A → Type 0} → C v → Gives (Seq W (λ _. Nothing v)) s C
means {A} {B} {W} {v} {s} {C} c = record { of = λ ts x g. subst C (sym (meant g)) c }

pub after : {A B : Type 0} {W : Lang B} {P : Lang A} {s : Below} {C : A → Type 0} → Gives P s C → Gives (Seq W (λ _. P)) s C
after p = record { of = λ ts x g. let q = follow g in p.of q.tokens x q.got }

pub made : {A B : Type 0} {f : A → B} {P : Lang A} {s : Below} {C : B → Type 0} → Gives P s (λ x. C (f x)) → Gives (Made f P) s C
made {A} {B} {f} {P} {s} {C} p = record { of = λ ts y g. let q = unmake g in subst C (sym q.is) (p.of q.tokens q.tree q.got) }

pub either : {A : Type 0} {P Q : Lang A} {s : Below} {C : A → Type 0} → Gives P s C → Gives Q s C → Gives (Either P Q) s C
either p q = record { of = λ ts x g. which g (λ a. p.of ts x a) (λ b. q.of ts x b) }

-- what the first part keeps is known of what follows
pub seq : {A B : Type 0} {P : Lang A} {Q : A → Lang B} {s : Below} {D : A → Type 0} {C : B → Type 0} → Gives P s D → ((x : A) → D x → Gives (Q x) s C) → Gives (Seq P Q) s C
seq p f = record { of = λ ts y g. let q = split g in (f q.tree (p.of q.front q.tree q.left)).of q.rest y q.right }

-- nothing is asked of the first part
pub past : {A B : Type 0} {P : Lang A} {Q : A → Lang B} {s : Below} {C : B → Type 0} → ((x : A) → Gives (Q x) s C) → Gives (Seq P Q) s C
past f = record { of = λ ts y g. let q = split g in (f q.tree).of q.rest y q.right }

pub bracket : {A B D : Type 0} {W : Lang B} {V : Lang D} {P : Lang A} {s : Below} {C : A → Type 0} → Gives P s C → Gives (Seq W (λ _. Seq P (λ y. Seq V (λ _. Nothing y)))) s C
bracket p = record { of = λ ts x g. let q = inside g in p.of q.tokens x q.got }

front_of : (a b : List Token) → AreTokens (a ++ b) → AreTokens a
front_of [] b h = tt
front_of (t ∷ a) b h = (h.0, front_of a b h.1)

rest_of : (a b : List Token) → AreTokens (a ++ b) → AreTokens b
rest_of [] b h = h
rest_of (t ∷ a) b h = rest_of a b h.1

many_of : {A : Type 0} {P : Lang A} {s : Below} {C : A → Type 0} → Gives P s C → (xs : List A) (ts : List Token) → Got (Many P) s ts xs → AllByRecursion C xs
many_of p [] ts g = tt
many_of {A} {P} {s} {C} p (x ∷ xs) ts g =
    let h = g.spelled in
    let w = subst AreTokens h.4 g.written in
    (p.of h.0 x (record { written = front_of h.0 h.1 w; spelled = h.2 }), many_of p xs h.1 (record { written = rest_of h.0 h.1 w; spelled = h.3 }))

pub many : {A : Type 0} {P : Lang A} {s : Below} {C : A → Type 0} → Gives P s C → Gives (Many P) s (AllByRecursion C)
many p = record { of = λ ts xs g. many_of p xs ts g }

pub listed : {A : Type 0} {P : Lang A} {s : Below} {C : A → Type 0} → Gives P s C → Gives (Listed P) s (AllByRecursion C)
listed p = seq p (λ x c. made (record { of = λ ts xs g. (c, (many (after p)).of ts xs g) }))

-- there is one at least
pub some_listed : {A : Type 0} {P : Lang A} {s : Below} → Gives (Listed P) s (λ xs. 1 ≤ length xs)
some_listed = past (λ x. made (anything (λ xs. omega arith)))

pub optional : {A : Type 0} {P : Lang A} {s : Below} {C : A → Type 0} → Gives P s C → Gives (Optional P) s (IfGiven C)
optional p = either (made p) (nothing tt)

-- ---- statements

-- the tokens of a text are tokens that some text has
are_tokens : (ts : List Token) (spans : List Span) (at : ℕ) (bs : List ℕ) (stop : Option ℕ) → LexedFrom at bs ts spans stop → AreTokens ts
are_tokens [] spans at bs stop h = tt
are_tokens (t ∷ ts) [] at bs stop h = absurd h
are_tokens (t ∷ ts) (s ∷ ss) at bs stop h = ((h.1, h.4), are_tokens ts ss (at + length h.0 + length h.1) h.2 stop h.8)

-- what holds of all that the grammar spells holds of each statement that some text spells
pub spoken_gives : {C : Stmt → Type 0} → ((depth : ℕ) → Gives IsStmt (level depth) C) → (s : Stmt) → IsSpoken s → C s
spoken_gives h s (text, (ts, (spans, lexed), (depth, spelled))) = (h depth).of ts s (record { written = are_tokens ts spans 0 text None lexed; spelled = spelled })
