-- What holds of a reader of a language, at all levels of brackets. The reader's own exactness is there where b is true;
-- that the language spells something, and what begins it, always.
use Rattle.std.proofs.Common.{Bool, true, false, ◌≡◌, ℕ, List, [], ◌∷◌, ◌++◌, Option, Some, None, refl, subst}
use Rattle.std.proofs.lemmas.List.{append-nil}
use Rattle.lb_tok.specs.declared.kind.Kind.{Kind}
use Rattle.lb_tok.specs.declared.kind.Kind.TheVariants as kinds
use Rattle.lb_tok.specs.declared.token.Token.{Token}
use Rattle.lb_tok.specs.declared.token.Content.TheVariants as contents
use Rattle.lb_tok.specs.Kinds.{Kinds, only, has, openers, closers}
use Rattle.lb_tok.specs.Form.{Lang, Nothing, One, Seq, Either, Many, Word, After, Made, Means, May, Flag, Optional, Listed}
use Rattle.lb_tok.specs.Grammar.{level}
use Rattle.lb_readt.specs.Readers.{Reader, seq, give, heads, one, pick, many, word, after, made, means, may, flag, optional, commas, listed}
use Rattle.lb_readt.proofs.Sets.{disjoint, subset, within, without, has_only, empty}
use Rattle.lb_readt.proofs.Joined.{Begins, Tongue, Exact, Within, firsts, lasts, both, kept, one_exact, one_tongue, give_exact, give_tongue, then_exact, then_tongue, pick_exact, either_tongue, same_exact}
use Rattle.lb_readt.proofs.Repeats.{many_exact, many_tongue}

pub record IsReaderOf (b : Bool) (d : ℕ) {A : Type 0} (f : Reader A) (P : Lang A) (n : Bool) (F E : Kinds) : Type 0 where
  pub tongue : Tongue level P n F
  pub exact : b ≡ true → Exact level d d f P n F E

-- a token of the kind that says nothing
abbrev pub plain_token : Kind → Token
plain_token k = record { kind = k; content = contents.Nothing }

-- the set has no bracket
abbrev pub is_plain : Kinds → Bool
is_plain ks = both (disjoint ks openers) (disjoint ks closers)

no_opener : (b c : Bool) → both b c ≡ true → b ≡ true
no_opener true c h = refl
no_opener false c h = absurd cc

no_closer : (b c : Bool) → both b c ≡ true → c ≡ true
no_closer true c h = h
no_closer false c h = absurd cc

pub one_reads : {b : Bool} {d : ℕ} {A : Type 0} {ks : Kinds} {view : Token → Option A} (w : Token) {v : A} → has ks w.kind ≡ true → view w ≡ Some v → is_plain ks ≡ true → IsReaderOf b d (one ks view) (One ks view) false ks []
one_reads {b} {d} {A} {ks} {view} w {v} h s o = record { tongue = one_tongue ks view w v h s; exact = λ _. one_exact ks view w v h s (no_opener _ _ o) (no_closer _ _ o) }

pub word_reads : {b : Bool} {d : ℕ} (k : Kind) → is_plain (only k) ≡ true → IsReaderOf b d (word k) (Word k) false (only k) []
word_reads k o = one_reads (plain_token k) (has_only k) refl o

pub give_reads : {b : Bool} {d : ℕ} {A : Type 0} (x : A) → IsReaderOf b d (give x) (Nothing x) true [] []
give_reads x = record { tongue = give_tongue x; exact = λ _. give_exact x }

pub then_reads : {b : Bool} {d : ℕ} {A B : Type 0} {f : Reader A} {P : Lang A} {g : A → Reader B} {Q : A → Lang B} {n m : Bool} {F G D E : Kinds}
    → IsReaderOf b d f P n F D → ((x : A) → IsReaderOf b d (g x) (Q x) m G E) → disjoint G D ≡ true → IsReaderOf b d (seq f g) (Seq P Q) (both n m) (firsts n F G) (lasts m D E)
then_reads p q h = record { tongue = then_tongue p.tongue (λ x. (q x).tongue); exact = λ e. then_exact (p.exact e) (λ x. (q x).exact e) h }

pub same_reads : {b : Bool} {d : ℕ} {A : Type 0} {f : Reader A} {P : Lang A} {n : Bool} {F E : Kinds} (Q : Lang A) → Within P Q → Within Q P → IsReaderOf b d f P n F E → IsReaderOf b d f Q n F E
same_reads {b} {d} {A} {f} {P} {n} {F} {E} Q into back p =
    record {
      tongue = record { tokens = p.tongue.tokens; tree = p.tongue.tree; some = (p.tongue.some.0, λ m. into _ _ _ (p.tongue.some.1 m)); first = λ k ts x s. p.tongue.first k ts x (back _ _ _ s) };
      exact = λ e. same_exact Q into back (p.exact e);
    }

pub pick_reads : {b : Bool} {d : ℕ} {A : Type 0} {f g : Reader A} {P Q : Lang A} {m : Bool} {F G D E : Kinds}
    → IsReaderOf b d f P false F D → IsReaderOf b d g Q m G E → disjoint G F ≡ true → IsReaderOf b d (pick F f g) (Either P Q) m (F ++ G) (kept m F ++ (D ++ E))
pick_reads p q h = record { tongue = either_tongue p.tongue q.tongue; exact = λ e. pick_exact (p.exact e) (q.exact e) h }

pub many_reads : {b : Bool} {d : ℕ} {A : Type 0} {f : Reader A} {P : Lang A} {F D : Kinds} → IsReaderOf b d f P false F D → disjoint F D ≡ true → IsReaderOf b d (many F f) (Many P) true F (F ++ D)
many_reads p h = record { tongue = many_tongue p.tongue; exact = λ e. many_exact (p.exact e) h }

-- larger sets

pub begins_wide : (n m : Bool) (F G : Kinds) (ts : List Token) → subset F G ≡ true → (n ≡ true → m ≡ true) → Begins n F ts → Begins m G ts
begins_wide n m F G [] e h p = h p
begins_wide n m F G (t ∷ ts) e h p = within F G t.kind e p

heads_wide : (D E : Kinds) (ts : List Token) → subset D E ≡ true → heads E ts ≡ false → heads D ts ≡ false
heads_wide D E [] e h = refl
heads_wide D E (t ∷ ts) e h = without D E t.kind e h

abbrev pub fits : Bool → Bool → Bool
fits true m = m
fits false m = true

fits_is : (n m : Bool) → fits n m ≡ true → n ≡ true → m ≡ true
fits_is true m e h = e
fits_is false m e h = absurd cc

pub wide_tongue : {A : Type 0} {P : Lang A} {n m : Bool} {F : Kinds} (G : Kinds) → fits n m ≡ true → subset F G ≡ true → Tongue level P n F → Tongue level P m G
wide_tongue {A} {P} {n} {m} {F} G h u p = record { tokens = p.tokens; tree = p.tree; some = p.some; first = λ k ts x s. begins_wide n m F G ts u (fits_is n m h) (p.first k ts x s) }

pub wide : {b : Bool} {d : ℕ} {A : Type 0} {f : Reader A} {P : Lang A} {n m : Bool} {F D : Kinds} (G E : Kinds) → fits n m ≡ true → subset F G ≡ true → subset D E ≡ true → IsReaderOf b d f P n F D → IsReaderOf b d f P m G E
wide {b} {d} {A} {f} {P} {n} {m} {F} {D} G E h u v p =
    record {
      tongue = wide_tongue G h u p.tongue;
      exact = λ e. let q = p.exact e in record { tongue = wide_tongue G h u q.tongue; sound = q.sound; only = λ k front x rest s c. q.only k front x rest s (heads_wide D E rest v c) };
    }

-- the other words of the grammar

both_true : (n : Bool) → both n true ≡ n
both_true true = refl
both_true false = refl

firsts_nil : (n : Bool) (F : Kinds) → firsts n F [] ≡ F
firsts_nil true F = append-nil F
firsts_nil false F = refl

lasts_nil : (m : Bool) (E : Kinds) → lasts m [] E ≡ E
lasts_nil true E = refl
lasts_nil false E = refl

pub made_reads : {b : Bool} {d : ℕ} {A B : Type 0} {f : Reader A} {P : Lang A} {n : Bool} {F D : Kinds} (h : A → B) → IsReaderOf b d f P n F D → IsReaderOf b d (made h f) (Made h P) n F D
made_reads {b} {d} {A} {B} {f} {P} {n} {F} {D} h p =
    let r = then_reads p (λ x. give_reads (h x)) refl in
    subst (λ (m : Bool). IsReaderOf b d (made h f) (Made h P) m F D) (both_true n)
    (subst (λ (G : Kinds). IsReaderOf b d (made h f) (Made h P) (both n true) G D) (firsts_nil n F)
    (subst (λ (G : Kinds). IsReaderOf b d (made h f) (Made h P) (both n true) (firsts n F []) G) (append-nil D) r))

pub after_reads : {b : Bool} {d : ℕ} {A : Type 0} {f : Reader A} {P : Lang A} {m : Bool} {G E : Kinds} (k : Kind) → is_plain (only k) ≡ true → IsReaderOf b d f P m G E → IsReaderOf b d (after k f) (After k P) false (only k) E
after_reads {b} {d} {A} {f} {P} {m} {G} {E} k o p = subst (λ (H : Kinds). IsReaderOf b d (after k f) (After k P) false (only k) H) (lasts_nil m E) (then_reads (word_reads k o) (λ _. p) (empty G))

pub means_reads : {b : Bool} {d : ℕ} {A : Type 0} (k : Kind) (x : A) → is_plain (only k) ≡ true → IsReaderOf b d (means k x) (Means k x) false (only k) []
means_reads k x o = then_reads (word_reads k o) (λ _. give_reads x) refl

pub may_reads : {b : Bool} {d : ℕ} (k : Kind) → is_plain (only k) ≡ true → IsReaderOf b d (may k) (May k) true (only k) (only k)
may_reads k o = pick_reads (word_reads k o) (give_reads tt) refl

pub flag_reads : {b : Bool} {d : ℕ} (k : Kind) → is_plain (only k) ≡ true → IsReaderOf b d (flag k) (Flag k) true (only k) (only k)
flag_reads k o = pick_reads (means_reads k true o) (give_reads false) refl

pub optional_reads : {b : Bool} {d : ℕ} {A : Type 0} {f : Reader A} {P : Lang A} {F D : Kinds} → IsReaderOf b d f P false F D → IsReaderOf b d (optional F f) (Optional P) true F (F ++ D)
optional_reads {b} {d} {A} {f} {P} {F} {D} p =
    let r = pick_reads (made_reads Some p) (give_reads None) refl in
    subst (λ (G : Kinds). IsReaderOf b d (optional F f) (Optional P) true G (F ++ D)) (append-nil F)
    (subst (λ (G : Kinds). IsReaderOf b d (optional F f) (Optional P) true (F ++ []) (F ++ G)) (append-nil D) r)

pub commas_reads : {b : Bool} {d : ℕ} {A : Type 0} {f : Reader A} {P : Lang A} {F D : Kinds} → IsReaderOf b d f P false F D → disjoint (only kinds.Comma) D ≡ true → IsReaderOf b d (commas f) (Many (After kinds.Comma P)) true (only kinds.Comma) (only kinds.Comma ++ D)
unfolding commas
commas_reads p h = many_reads (after_reads kinds.Comma refl p) h

pub listed_reads : {b : Bool} {d : ℕ} {A : Type 0} {f : Reader A} {P : Lang A} {F D : Kinds} → IsReaderOf b d f P false F D → disjoint (only kinds.Comma) D ≡ true → IsReaderOf b d (listed f) (Listed P) false F (D ++ (only kinds.Comma ++ D))
listed_reads p h = then_reads p (λ x. made_reads (λ xs. x ∷ xs) (commas_reads p h)) h
