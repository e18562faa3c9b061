-- How what a language spells is spelled by canonical pieces.
use Rattle.std.proofs.Common.{Bool, true, false, ◌⊎◌, inl, inr, ◌≡◌, ℕ, List, [], ◌∷◌, ◌++◌, map, Option, None, refl, sym, ap, subst, ◌∙◌, append_assoc, eq-eqb}
use Rattle.std.specs.List.{flat_map}
use Rattle.lb_tok.specs.declared.kind.Kind.{Kind}
use Rattle.lb_tok.specs.declared.kind.Kind.TheVariants as kinds
use Rattle.lb_tok.specs.declared.token.Token.{Token}
use Rattle.lb_tok.specs.Kinds.{only, has, number}
use Rattle.lb_tok.specs.Lexing.{Writes}
use Rattle.lb_tok.specs.Form.{Below, Lang, Nothing, Seq, Either, Many, Word, After, Made, Means, Flag, Optional, Listed, Bracket}
use Rattle.lb_tok.specs.Spacing.{Piece, mark, keyword, tokens_in}
use Rattle.lb_tok.specs.QueryPieces.{behind, listed, clause, flag, option_of}
use Rattle.lb_tok.proofs.Sets.{alone}
use Rattle.lb_tok.proofs.Signs.{signs}
use Rattle.lb_tok.proofs.Fitting.{AreRuns, runs_append, mark_run}

-- ---- what is spelled by tokens that some text has

abbrev pub IsToken : Token → Type 0
IsToken t = (front : List ℕ) × Writes front t

abbrev pub AreTokens : List Token → Type 0
AreTokens [] = Unit {0}
AreTokens (t ∷ ts) = IsToken t × AreTokens ts

pub record Got {A : Type 0} (P : Lang A) (s : Below) (ts : List Token) (x : A) : Type 0 where
  pub written : AreTokens ts
  pub spelled : P s ts x

pub record Split {A B : Type 0} (P : Lang A) (Q : A → Lang B) (s : Below) (y : B) : Type 0 where
  pub front : List Token
  pub rest : List Token
  pub tree : A
  pub left : Got P s front tree
  pub right : Got (Q tree) s rest y

written_left : (a b : List Token) → AreTokens (a ++ b) → AreTokens a
written_left [] b h = tt
written_left (t ∷ a) b h = (h.0, written_left a b h.1)

written_right : (a b : List Token) → AreTokens (a ++ b) → AreTokens b
written_right [] b h = h
written_right (t ∷ a) b h = written_right a b h.1

pub split : {A B : Type 0} {P : Lang A} {Q : A → Lang B} {s : Below} {ts : List Token} {y : B} → Got (Seq P Q) s ts y → Split P Q s y
split g =
    let p = g.spelled in
    let w = subst AreTokens p.5 g.written in
    record { front = p.0; rest = p.1; tree = p.2; left = record { written = written_left p.0 p.1 w; spelled = p.3 }; right = record { written = written_right p.0 p.1 w; spelled = p.4 } }

-- P, of the tokens that are left
pub record Some' {A : Type 0} (P : Lang A) (s : Below) (x : A) : Type 0 where
  pub tokens : List Token
  pub got : Got P s tokens x

-- what follows a word
pub follow : {A B : Type 0} {W : Lang B} {P : Lang A} {s : Below} {ts : List Token} {x : A} → Got (Seq W (λ _. P)) s ts x → Some' P s x
follow g = let p = split g in record { tokens = p.rest; got = p.right }

pub record Unmade {A B : Type 0} (f : A → B) (P : Lang A) (s : Below) (y : B) : Type 0 where
  pub tokens : List Token
  pub tree : A
  pub got : Got P s tokens tree
  pub is : y ≡ f tree

pub unmake : {A B : Type 0} {f : A → B} {P : Lang A} {s : Below} {ts : List Token} {y : B} → Got (Made f P) s ts y → Unmade f P s y
unmake g = let p = split g in record { tokens = p.front; tree = p.tree; got = p.left; is = p.right.spelled.1 }

-- a word that stands for a value
pub meant : {A B : Type 0} {W : Lang B} {v : A} {s : Below} {ts : List Token} {x : A} → Got (Seq W (λ _. Nothing v)) s ts x → x ≡ v
meant g = (split g).right.spelled.1

pub nothing_is : {A : Type 0} {v : A} {s : Below} {ts : List Token} {x : A} → Got (Nothing v) s ts x → x ≡ v
nothing_is g = g.spelled.1

pub which : {A C : Type 0} {P Q : Lang A} {s : Below} {ts : List Token} {x : A} → Got (Either P Q) s ts x → (Got P s ts x → C) → (Got Q s ts x → C) → C
which {A} {C} {P} {Q} {s} {ts} {x} g f h = go g.spelled
  where
    go : P s ts x ⊎ Q s ts x → C
    go (inl p) = f (record { written = g.written; spelled = p })
    go (inr q) = h (record { written = g.written; spelled = q })

pub inside : {A B C : Type 0} {W : Lang B} {V : Lang C} {P : Lang A} {s : Below} {ts : List Token} {x : A} → Got (Seq W (λ _. Seq P (λ y. Seq V (λ _. Nothing y)))) s ts x → Some' P s x
inside {A} {B} {C} {W} {V} {P} {s} {ts} {x} g =
    let p = split (follow g).got in
    let e : x ≡ p.tree = nothing_is (follow p.right).got in
    record { tokens = p.front; got = subst (λ (y : A). Got P s p.front y) (sym e) p.left }

-- ---- what is spelled by pieces

pub record Spells {A : Type 0} (P : Lang A) (t : Below) (ps : List Piece) (x : A) : Type 0 where
  pub spelled : P t (tokens_in ps) x
  pub runs : AreRuns ps

nil : (a : List Token) → a ++ [] ≡ a
nil [] = refl
nil (t ∷ a) = ap (λ (u : List Token). t ∷ u) (nil a)

pub tokens-append : (ps qs : List Piece) → tokens_in (ps ++ qs) ≡ tokens_in ps ++ tokens_in qs
tokens-append [] qs = refl
tokens-append (p ∷ ps) qs = ap (λ (u : List Token). p ++ u) (tokens-append ps qs) ∙ sym (append_assoc p (tokens_in ps) (tokens_in qs))

pub seq : {A B : Type 0} {P : Lang A} {Q : A → Lang B} {t : Below} {ps qs : List Piece} {x : A} {y : B} → Spells P t ps x → Spells (Q x) t qs y → Spells (Seq P Q) t (ps ++ qs) y
seq {A} {B} {P} {Q} {t} {ps} {qs} {x} {y} p q =
    record { spelled = (tokens_in ps, tokens_in qs, x, p.spelled, q.spelled, tokens-append ps qs); runs = runs_append ps qs p.runs q.runs }

pub give : {A : Type 0} {t : Below} (x : A) → Spells (Nothing x) t [] x
give x = record { spelled = (refl, refl); runs = tt }

pub made : {A B : Type 0} {f : A → B} {P : Lang A} {t : Below} {ps : List Piece} {x : A} → Spells P t ps x → Spells (Made f P) t ps (f x)
made {A} {B} {f} {P} {t} {ps} {x} p = record { spelled = (tokens_in ps, [], x, p.spelled, (refl, refl), sym (nil (tokens_in ps))); runs = p.runs }

pub has_only : (k : Kind) → has (only k) k ≡ true
has_only k = alone k k ∙ eq-eqb (number k) (number k) refl

pub word : {t : Below} (k : Kind) → has signs k ≡ true → Spells (Word k) t (mark k ∷ []) tt
word k e = record { spelled = (keyword k, refl, has_only k, refl); runs = (mark_run k e, tt) }

pub after : {A : Type 0} {P : Lang A} {t : Below} {ps : List Piece} {x : A} (k : Kind) → has signs k ≡ true → Spells P t ps x → Spells (After k P) t (mark k ∷ ps) x
after k e p = seq (word k e) p

pub means : {A : Type 0} {t : Below} (k : Kind) (x : A) → has signs k ≡ true → Spells (Means k x) t (mark k ∷ []) x
means k x e = seq (word k e) (give x)

pub left : {A : Type 0} {P Q : Lang A} {t : Below} {ps : List Piece} {x : A} → Spells P t ps x → Spells (Either P Q) t ps x
left p = record { spelled = inl p.spelled; runs = p.runs }

pub right : {A : Type 0} {P Q : Lang A} {t : Below} {ps : List Piece} {x : A} → Spells Q t ps x → Spells (Either P Q) t ps x
right p = record { spelled = inr p.spelled; runs = p.runs }

pub bracket : {A : Type 0} {P : Lang A} {t : Below} {ps : List Piece} {x : A} (o c : Kind) → has signs o ≡ true → has signs c ≡ true → Spells P t ps x → Spells (Bracket o c P) t (mark o ∷ (ps ++ mark c ∷ [])) x
bracket {A} {P} {t} {ps} {x} o c e f p = after o e (seq p (means c x f))

-- the same tokens in other pieces
pub regroup : {A : Type 0} {P : Lang A} {t : Below} {ps : List Piece} {x : A} (qs : List Piece) → tokens_in ps ≡ tokens_in qs → AreRuns qs → Spells P t ps x → Spells P t qs x
regroup {A} {P} {t} {ps} {x} qs e r p = record { spelled = subst (λ (ts : List Token). P t ts x) e p.spelled; runs = r }

-- ---- repetitions

pub many : {A : Type 0} {P R : Lang A} {s t : Below} (f : A → List Piece) → ((ts : List Token) (x : A) → Got P s ts x → Spells R t (f x) x) → (xs : List A) (ts : List Token) → Got (Many P) s ts xs → Spells (Many R) t (flat_map f xs) xs
many f h [] ts g = record { spelled = refl; runs = tt }
many {A} {P} {R} {s} {t} f h (x ∷ xs) ts g =
    let p = g.spelled in
    let w = subst AreTokens p.4 g.written in
    let one = h p.0 x (record { written = written_left p.0 p.1 w; spelled = p.2 }) in
    let more = many f h xs p.1 (record { written = written_right p.0 p.1 w; spelled = p.3 }) in
    record { spelled = (tokens_in (f x), tokens_in (flat_map f xs), one.spelled, more.spelled, tokens-append (f x) (flat_map f xs)); runs = runs_append (f x) (flat_map f xs) one.runs more.runs }

behind_is : {A : Type 0} (k : Kind) (f : A → List Piece) (xs : List A) → flat_map (λ x. mark k ∷ f x) xs ≡ behind k (map f xs)
behind_is k f [] = refl
behind_is k f (x ∷ xs) = ap (λ (ps : List Piece). mark k ∷ (f x ++ ps)) (behind_is k f xs)

pub many_after : {A : Type 0} {P R : Lang A} {s t : Below} (k : Kind) → has signs k ≡ true → (f : A → List Piece) → ((ts : List Token) (x : A) → Got P s ts x → Spells R t (f x) x)
    → (xs : List A) (ts : List Token) → Got (Many (After k P)) s ts xs → Spells (Many (After k R)) t (behind k (map f xs)) xs
many_after {A} {P} {R} {s} {t} k e f h xs ts g =
    subst (λ (ps : List Piece). Spells (Many (After k R)) t ps xs) (behind_is k f xs)
    (many {P = After k P} {R = After k R} (λ x. mark k ∷ f x) (λ ts x g. after k e (h (follow g).tokens x (follow g).got)) xs ts g)

pub listing : {A : Type 0} {P R : Lang A} {s t : Below} (f : A → List Piece) → ((ts : List Token) (x : A) → Got P s ts x → Spells R t (f x) x)
    → (xs : List A) (ts : List Token) → Got (Listed P) s ts xs → Spells (Listed R) t (listed (map f xs)) xs
unfolding has
listing {A} {P} {R} {s} {t} f h xs ts g =
    let p = split g in
    let q = unmake p.right in
    subst (λ (ys : List A). Spells (Listed R) t (listed (map f ys)) ys) (sym q.is)
    (seq (h p.front p.tree p.left) (made (many_after kinds.Comma refl f h q.tree q.tokens q.got)))

-- one part alone
pub lone : {A B : Type 0} {P : Lang A} {Q : Lang B} {t : Below} {ps : List Piece} {x : A} (f : A → List B → A) → Spells P t ps x → Spells (Seq P (λ y. Made (f y) (Many Q))) t ps (f x [])
lone {A} {B} {P} {Q} {t} {ps} {x} f p = record { spelled = (tokens_in ps, [], x, p.spelled, ([], [], [], refl, (refl, refl), refl), sym (nil (tokens_in ps))); runs = p.runs }

-- ---- what may be left out

pub optional : {A : Type 0} {P R : Lang A} {s t : Below} (k : Kind) → has signs k ≡ true → (f : A → List Piece) → ((ts : List Token) (x : A) → Got P s ts x → Spells R t (f x) x)
    → (ts : List Token) (x : Option A) → Got (Optional (After k P)) s ts x → Spells (Optional (After k R)) t (clause k (option_of f x)) x
optional {A} {P} {R} {s} {t} k e f h ts x g =
    which g
    (λ a. let q = unmake a in let r = follow q.got in subst (λ (y : Option A). Spells (Optional (After k R)) t (clause k (option_of f y)) y) (sym q.is) (left (made (after k e (h r.tokens q.tree r.got)))))
    (λ b. subst (λ (y : Option A). Spells (Optional (After k R)) t (clause k (option_of f y)) y) (sym (nothing_is b)) (right (give None)))

pub flagged : {s t : Below} (k : Kind) → has signs k ≡ true → (ts : List Token) (x : Bool) → Got (Flag k) s ts x → Spells (Flag k) t (flag k x) x
flagged {s} {t} k e ts x g =
    which g
    (λ a. subst (λ (y : Bool). Spells (Flag k) t (flag k y) y) (sym (meant a)) (left (means k true e)))
    (λ b. subst (λ (y : Bool). Spells (Flag k) t (flag k y) y) (sym (nothing_is b)) (right (give false)))
