-- Keywords that may be names: the word after decides what they are.
use Rattle.std.proofs.Common.{Bool, true, false, inl, inr, ◌≡◌, ℕ, List, [], ◌++◌, Option, Some, None, refl, sym, ap, subst, ◌∙◌}
use Rattle.std.specs.Option.{option_and_then}
use Rattle.lb_tok.specs.declared.kind.Kind.{Kind}
use Rattle.lb_tok.specs.declared.token.Token.{Token}
use Rattle.lb_tok.specs.Kinds.{Kinds, only, names, has}
use Rattle.lb_tok.specs.Words.{name_in}
use Rattle.lb_tok.specs.Form.{Lang, One, Seq, Either}
use Rattle.lb_tok.specs.Grammar.{IsName}
use Rattle.lb_tok.specs.Changes.{Named, AfterNamed, MayNamed}
use Rattle.lb_readt.specs.Readers.{Reader, seq}
use Rattle.lb_readg.specs.Granting.{marked, name_or, named_at}
use Rattle.lb_readt.proofs.Sets.{subset, within, apart, disjoint, has_only}
use Rattle.lb_readt.proofs.Joined.{Within, lasts}
use Rattle.lb_readt.proofs.Combined.{IsReaderOf, is_plain, one_reads, then_reads, same_reads}
use Rattle.lb_readt.proofs.Tokens.{name_token}

-- a name, and what its keyword is taken for
abbrev pub Marked : {A : Type 0} → (Kind → A) → Lang (A × List ℕ)
Marked f = One names (λ t. option_and_then (λ n. Some (f t.kind, n)) (name_in t.content))

pub marked_reads : {b : Bool} {d : ℕ} {A : Type 0} (f : Kind → A) → IsReaderOf b d (marked f) (Marked f) false names []
unfolding has
marked_reads f = one_reads name_token refl refl refl

pub name_or_reads : {b : Bool} {d : ℕ} (k : Kind) → IsReaderOf b d (name_or k) (Marked (has (only k))) false names []
unfolding name_or
name_or_reads k = marked_reads (has (only k))

-- a token that is the keyword, and a name
abbrev pub keyword_token : Kind → Token
keyword_token k = record name_token { kind = k }

pub named_reads : {b : Bool} {d : ℕ} (k : Kind) → is_plain (only k) ≡ true → IsReaderOf b d (named_at k) (Named k) false (only k) []
unfolding named_at
named_reads k o = one_reads (keyword_token k) (has_only k) refl o

-- what is seen of such tokens

pub marked_name : {A : Type 0} (v : Option (List ℕ)) (o a : A) (n : List ℕ) → option_and_then {U = A × List ℕ} (λ m. Some (o, m)) v ≡ Some (a, n) → (v ≡ Some n) × (o ≡ a)
marked_name None o a n e = absurd cc
marked_name {A} (Some m) o a n e = let q : ◌≡◌ {A = A × List ℕ} (o, m) (a, n) = cc in (ap (λ (z : A × List ℕ). Some z.1) q, ap (λ (z : A × List ℕ). z.0) q)

pub name_marked : {A : Type 0} (v : Option (List ℕ)) (o a : A) (n : List ℕ) → v ≡ Some n → o ≡ a → option_and_then {U = A × List ℕ} (λ m. Some (o, m)) v ≡ Some (a, n)
name_marked {A} v o a n e h = ap (λ (u : Option (List ℕ)). option_and_then {U = A × List ℕ} (λ m. Some (o, m)) u) e ∙ ap (λ (x : A). Some (x, n)) h

named_name : (v : Option (List ℕ)) (u : Unit {0}) → option_and_then {U = Unit {0}} (λ n. Some tt) v ≡ Some u → (n : List ℕ) × (v ≡ Some n)
named_name None u e = absurd cc
named_name (Some n) u e = (n, refl)

name_named : (v : Option (List ℕ)) (n : List ℕ) → v ≡ Some n → option_and_then {U = Unit {0}} (λ m. Some tt) v ≡ Some tt
name_named v n e = ap (λ (u : Option (List ℕ)). option_and_then {U = Unit {0}} (λ m. Some tt) u) e

-- a word that may be left out

abbrev pub MayAfter : {A : Type 0} → Kind → Lang A → Lang A
MayAfter k P = Seq (MayNamed k) (λ _. P)

pub to_may : {A : Type 0} (k : Kind) (P : Lang A) → Within (Either (AfterNamed k P) P) (MayAfter k P)
to_may k P s ts x (inl p) = (p.0, p.1, p.2, inl p.3, p.4, p.5)
to_may k P s ts x (inr p) = ([], ts, tt, inr (refl, refl), p, refl)

pub of_may : {A : Type 0} (k : Kind) (P : Lang A) → Within (MayAfter k P) (Either (AfterNamed k P) P)
of_may k P s ts x p = go p.3
  where
    go : MayNamed k s p.0 p.2 → Either (AfterNamed k P) P s ts x
    go (inl q) = inl (p.0, p.1, p.2, q, p.4, p.5)
    go (inr q) = inr (subst (λ (u : List Token). P s u x) (sym (p.5 ∙ ap (λ (u : List Token). u ++ p.1) q.0)) p.4)

-- Q after the keyword k, or R after a name

abbrev pub Ahead : {A : Type 0} → Kind → Lang A → (List ℕ → Lang A) → Lang A
Ahead k Q R = Either (AfterNamed k Q) (Seq IsName R)

-- what goes on after the name
abbrev pub Chosen : {A : Type 0} → Lang A → (List ℕ → Lang A) → Bool × List ℕ → Lang A
Chosen Q R (true, n) = Either Q (R n)
Chosen Q R (false, n) = R n

to_ahead : {A : Type 0} (k : Kind) (Q : Lang A) (R : List ℕ → Lang A) → Within (Seq (Marked (has (only k))) (Chosen Q R)) (Ahead k Q R)
to_ahead {A} k Q R s ts x p = go p.2 p.3 p.4
  where
    go : (w : Bool × List ℕ) → Marked (has (only k)) s p.0 w → Chosen Q R w s p.1 x → Ahead k Q R s ts x
    go (true, n) t (inl q) =
        let v = marked_name (name_in t.0.content) (has (only k) t.0.kind) true n t.3 in
        inl (p.0, p.1, tt, (t.0, t.1, v.1, name_named (name_in t.0.content) n v.0), q, p.5)
    go (true, n) t (inr q) =
        let v = marked_name (name_in t.0.content) (has (only k) t.0.kind) true n t.3 in
        inr (p.0, p.1, n, (t.0, t.1, t.2, v.0), q, p.5)
    go (false, n) t q =
        let v = marked_name (name_in t.0.content) (has (only k) t.0.kind) false n t.3 in
        inr (p.0, p.1, n, (t.0, t.1, t.2, v.0), q, p.5)

of_ahead : {A : Type 0} (k : Kind) (Q : Lang A) (R : List ℕ → Lang A) → subset (only k) names ≡ true → Within (Ahead k Q R) (Seq (Marked (has (only k))) (Chosen Q R))
of_ahead {A} k Q R h s ts x (inl p) =
    let t = p.3 in
    let n = named_name (name_in t.0.content) p.2 t.3 in
    (p.0, p.1, (true, n.0), (t.0, t.1, within (only k) names t.0.kind h t.2, name_marked (name_in t.0.content) (has (only k) t.0.kind) true n.0 n.1 t.2), inl p.4, p.5)
of_ahead {A} k Q R h s ts x (inr p) = go (has (only k) p.3.0.kind) refl
  where
    go : (b : Bool) → has (only k) p.3.0.kind ≡ b → Seq (Marked (has (only k))) (Chosen Q R) s ts x
    go true e = (p.0, p.1, (true, p.2), (p.3.0, p.3.1, p.3.2, name_marked (name_in p.3.0.content) (has (only k) p.3.0.kind) true p.2 p.3.3 e), inr p.4, p.5)
    go false e = (p.0, p.1, (false, p.2), (p.3.0, p.3.1, p.3.2, name_marked (name_in p.3.0.content) (has (only k) p.3.0.kind) false p.2 p.3.3 e), p.4, p.5)

pub ahead_reads : {b : Bool} {d : ℕ} {A : Type 0} {on : Bool × List ℕ → Reader A} {m : Bool} {F E : Kinds} (k : Kind) (Q : Lang A) (R : List ℕ → Lang A) → subset (only k) names ≡ true → ((p : Bool × List ℕ) → IsReaderOf b d (on p) (Chosen Q R p) m F E) → disjoint F [] ≡ true
    → IsReaderOf b d (seq (name_or k) on) (Ahead k Q R) false names (lasts m [] E)
ahead_reads k Q R h on e = same_reads (Ahead k Q R) (to_ahead k Q R) (of_ahead k Q R h) (then_reads (name_or_reads k) on e)

-- Q after the keyword k, or O after the keyword j, or R after a name

abbrev pub Ahead2 : {A : Type 0} → Kind → Lang A → Kind → Lang A → (List ℕ → Lang A) → Lang A
Ahead2 k Q j O R = Either (AfterNamed k Q) (Either (AfterNamed j O) (Seq IsName R))

abbrev pub Chosen2 : {A : Type 0} → Lang A → Lang A → (List ℕ → Lang A) → (Bool × Bool) × List ℕ → Lang A
Chosen2 Q O R ((true, c), n) = Either Q (R n)
Chosen2 Q O R ((false, true), n) = Either O (R n)
Chosen2 Q O R ((false, false), n) = R n

-- whether the keyword is k, and whether it is j
abbrev pub either_of : Kind → Kind → Kind → Bool × Bool
either_of k j l = (has (only k) l, has (only j) l)

to_ahead2 : {A : Type 0} (k : Kind) (Q : Lang A) (j : Kind) (O : Lang A) (R : List ℕ → Lang A) → Within (Seq (Marked (either_of k j)) (Chosen2 Q O R)) (Ahead2 k Q j O R)
to_ahead2 {A} k Q j O R s ts x p = go p.2 p.3 p.4
  where
    name_of : (w : (Bool × Bool) × List ℕ) (t : Marked (either_of k j) s p.0 w) → name_in t.0.content ≡ Some w.1
    name_of w t = (marked_name (name_in t.0.content) (either_of k j t.0.kind) w.0 w.1 t.3).0

    marks_of : (w : (Bool × Bool) × List ℕ) (t : Marked (either_of k j) s p.0 w) → either_of k j t.0.kind ≡ w.0
    marks_of w t = (marked_name (name_in t.0.content) (either_of k j t.0.kind) w.0 w.1 t.3).1

    named : (w : (Bool × Bool) × List ℕ) → Marked (either_of k j) s p.0 w → R w.1 s p.1 x → Ahead2 k Q j O R s ts x
    named w t q = inr (inr (p.0, p.1, w.1, (t.0, t.1, t.2, name_of w t), q, p.5))

    go : (w : (Bool × Bool) × List ℕ) → Marked (either_of k j) s p.0 w → Chosen2 Q O R w s p.1 x → Ahead2 k Q j O R s ts x
    go ((true, c), n) t (inl q) = inl (p.0, p.1, tt, (t.0, t.1, ap (λ (z : Bool × Bool). z.0) (marks_of ((true, c), n) t), name_named (name_in t.0.content) n (name_of ((true, c), n) t)), q, p.5)
    go ((true, c), n) t (inr q) = named ((true, c), n) t q
    go ((false, true), n) t (inl q) = inr (inl (p.0, p.1, tt, (t.0, t.1, ap (λ (z : Bool × Bool). z.1) (marks_of ((false, true), n) t), name_named (name_in t.0.content) n (name_of ((false, true), n) t)), q, p.5))
    go ((false, true), n) t (inr q) = named ((false, true), n) t q
    go ((false, false), n) t q = named ((false, false), n) t q

of_ahead2 : {A : Type 0} (k : Kind) (Q : Lang A) (j : Kind) (O : Lang A) (R : List ℕ → Lang A) → subset (only k) names ≡ true → subset (only j) names ≡ true → disjoint (only j) (only k) ≡ true → Within (Ahead2 k Q j O R) (Seq (Marked (either_of k j)) (Chosen2 Q O R))
of_ahead2 {A} k Q j O R h i d s ts x (inl p) =
    let t = p.3 in
    let n = named_name (name_in t.0.content) p.2 t.3 in
    (p.0, p.1, ((true, has (only j) t.0.kind), n.0), (t.0, t.1, within (only k) names t.0.kind h t.2, name_marked (name_in t.0.content) (either_of k j t.0.kind) (true, has (only j) t.0.kind) n.0 n.1 (ap (λ (b : Bool). (b, has (only j) t.0.kind)) t.2)), inl p.4, p.5)
of_ahead2 {A} k Q j O R h i d s ts x (inr (inl p)) =
    let t = p.3 in
    let n = named_name (name_in t.0.content) p.2 t.3 in
    let no = apart (only j) (only k) t.0.kind d t.2 in
    (p.0, p.1, ((false, true), n.0), (t.0, t.1, within (only j) names t.0.kind i t.2, name_marked (name_in t.0.content) (either_of k j t.0.kind) (false, true) n.0 n.1 (ap (λ (b : Bool). (b, has (only j) t.0.kind)) no ∙ ap (λ (b : Bool). (false, b)) t.2)), inl p.4, p.5)
of_ahead2 {A} k Q j O R h i d s ts x (inr (inr p)) = go (has (only k) p.3.0.kind) refl (has (only j) p.3.0.kind) refl
  where
    pair : (a b : Bool) → has (only k) p.3.0.kind ≡ a → has (only j) p.3.0.kind ≡ b → either_of k j p.3.0.kind ≡ (a, b)
    pair a b e f = ap (λ (c : Bool). (c, has (only j) p.3.0.kind)) e ∙ ap (λ (c : Bool). (a, c)) f

    mark : (a b : Bool) → has (only k) p.3.0.kind ≡ a → has (only j) p.3.0.kind ≡ b → Marked (either_of k j) s p.0 ((a, b), p.2)
    mark a b e f = (p.3.0, p.3.1, p.3.2, name_marked (name_in p.3.0.content) (either_of k j p.3.0.kind) (a, b) p.2 p.3.3 (pair a b e f))

    go : (a : Bool) → has (only k) p.3.0.kind ≡ a → (b : Bool) → has (only j) p.3.0.kind ≡ b → Seq (Marked (either_of k j)) (Chosen2 Q O R) s ts x
    go true e b f = (p.0, p.1, ((true, b), p.2), mark true b e f, inr p.4, p.5)
    go false e true f = (p.0, p.1, ((false, true), p.2), mark false true e f, inr p.4, p.5)
    go false e false f = (p.0, p.1, ((false, false), p.2), mark false false e f, p.4, p.5)

pub ahead2_reads : {b : Bool} {d : ℕ} {A : Type 0} {on : (Bool × Bool) × List ℕ → Reader A} {m : Bool} {F E : Kinds} (k : Kind) (Q : Lang A) (j : Kind) (O : Lang A) (R : List ℕ → Lang A) → subset (only k) names ≡ true → subset (only j) names ≡ true → disjoint (only j) (only k) ≡ true
    → ((p : (Bool × Bool) × List ℕ) → IsReaderOf b d (on p) (Chosen2 Q O R p) m F E) → disjoint F [] ≡ true → IsReaderOf b d (seq (marked (either_of k j)) on) (Ahead2 k Q j O R) false names (lasts m [] E)
ahead2_reads k Q j O R h i e on z = same_reads (Ahead2 k Q j O R) (to_ahead2 k Q j O R) (of_ahead2 k Q j O R h i e) (then_reads (marked_reads (either_of k j)) on z)
