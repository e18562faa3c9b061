-- A reader of a list, and of what stands in brackets, is exact where the reader of an item is.
use Rattle.std.proofs.Common.{Bool, true, false, cond, inl, inr, ◌≡◌, ℕ, zero, suc, ◌≤◌, ◌<◌, List, [], ◌∷◌, ◌++◌, length, refl, sym, ap, subst, ◌∙◌, append_assoc, arith}
use Rattle.std.proofs.lemmas.List.{length-append}
use Rattle.lb_tok.specs.declared.kind.Kind.{Kind}
use Rattle.lb_tok.specs.declared.token.Token.{Token}
use Rattle.lb_tok.specs.Kinds.{Kinds, only, has, openers, closers}
use Rattle.lb_tok.specs.Form.{Below, Lang, Nothing, Seq, Many, Bracket}
use Rattle.lb_readt.specs.Readers.{bad, deep, Answer, got, stop, Reader, bind, seq, give, heads, turns, many, word, bracket}
use Rattle.lb_tok.specs.Limit.{walk}
use Rattle.lb_readt.proofs.Sets.{disjoint, only_is, empty}
use Rattle.lb_readt.proofs.Joined.{Begins, SoundAt, Meets, Tongue, Exact, swap_cond, heads_alike, begun, not_begun, then_at, then_exact, give_exact, via, meets_then, opens_exact, closes_exact, heads_none_left, heads_none_right, StopsAt}

-- more of them, where f takes at least one token
abbrev pub more : {A : Type 0} → Kinds → Reader A → Reader (List A)
more ks f = seq f (λ x. seq (many ks f) (λ xs. give (x ∷ xs)))

abbrev pub More : {A : Type 0} → Lang A → Lang (List A)
More P = Seq P (λ x. Seq (Many P) (λ xs. Nothing (x ∷ xs)))

abbrev pub Shrinks : {A : Type 0} → Reader A → Type 0
Shrinks {A} f = (ts : List Token) (x : A) (rest : List Token) → f ts ≡ got x rest → length rest < length ts

turns_same : {A : Type 0} (ks : Kinds) (f : Reader A) → Shrinks f → (n m : ℕ) (ts : List Token) → length ts ≤ n → length ts ≤ m → turns n ks f ts ≡ turns m ks f ts
unfolding turns
turns_same ks f s zero zero ts a b = refl
turns_same ks f s zero (suc m) [] a b = refl
turns_same ks f s zero (suc m) (t ∷ ts) a b = absurd (omega arith)
turns_same ks f s (suc n) zero [] a b = refl
turns_same ks f s (suc n) zero (t ∷ ts) a b = absurd (omega arith)
turns_same {A} ks f s (suc n) (suc m) ts a b = ap (λ (u : Answer (List A)). cond (heads ks ts) u (got [] ts)) (go (f ts) refl (turns_same ks f s n m))
  where
    go : (v : Answer A) → f ts ≡ v → ((us : List Token) → length us ≤ n → length us ≤ m → turns n ks f us ≡ turns m ks f us)
        → bind v (λ x. seq (turns n ks f) (λ xs. give (x ∷ xs))) ≡ bind v (λ x. seq (turns m ks f) (λ xs. give (x ∷ xs)))
    go (got x rest) e same =
        let less = s ts x rest e in
        ap (λ (u : Answer (List A)). bind u (λ xs. give (x ∷ xs))) (same rest (omega arith) (omega arith))
    go (stop c rest) e same = refl

pub unroll : {A : Type 0} (ks : Kinds) (f : Reader A) → Shrinks f → (ts : List Token) → many ks f ts ≡ cond (heads ks ts) (more ks f ts) (got [] ts)
unfolding turns
unroll ks f s [] = refl
unroll {A} ks f s (t ∷ ts) = turns_same ks f s (length (t ∷ ts)) (suc (length (t ∷ ts))) (t ∷ ts) (omega arith) (omega arith) ∙ ap (λ (u : Answer (List A)). cond (has ks t.kind) u (got [] (t ∷ ts))) (go (f (t ∷ ts)) refl)
  where
    go : (v : Answer A) → f (t ∷ ts) ≡ v → bind v (λ x. seq (turns (length (t ∷ ts)) ks f) (λ xs. give (x ∷ xs))) ≡ bind v (λ x. seq (many ks f) (λ xs. give (x ∷ xs)))
    go (got x rest) e =
        let less = s (t ∷ ts) x rest e in
        ap (λ (u : Answer (List A)). bind u (λ xs. give (x ∷ xs))) (turns_same ks f s (length (t ∷ ts)) (length rest) rest (omega arith) (omega arith))
    go (stop c rest) e = refl

shorter : (F : Kinds) (front rest ts : List Token) → Begins false F front → ts ≡ front ++ rest → length rest < length ts
shorter F [] rest ts p e = absurd cc
shorter F (t ∷ front) rest ts p e =
    let l = length-append front rest in
    let k : length ts ≡ suc (length (front ++ rest)) = ap (λ (u : List Token). length u) e in omega arith

pub shrinks : {lvl : ℕ → Below} {d e : ℕ} {A : Type 0} {f : Reader A} {P : Lang A} {F D : Kinds} → Exact lvl d e f P false F D → Shrinks f
shrinks {lvl} {d} {e} {A} {f} {P} {F} p ts x rest h = go (f ts) h (p.sound ts)
  where
    go : (a : Answer A) → a ≡ got x rest → SoundAt lvl d e f P ts a → length rest < length ts
    go a h s = let k : SoundAt lvl d e f P ts (got x rest) = subst (λ (u : Answer A). SoundAt lvl d e f P ts u) h s in
        shorter F k.front rest ts (p.tongue.first _ k.front x (k.spelled.1 0)) k.whole

many_first : (lvl : ℕ → Below) {A : Type 0} (P : Lang A) (F : Kinds) → ((k : ℕ) (ts : List Token) (x : A) → P (lvl k) ts x → Begins false F ts) → (k : ℕ) (ts : List Token) (xs : List A) → Many P (lvl k) ts xs → Begins true F ts
many_first lvl P F first k ts [] s = subst (λ (u : List Token). Begins true F u) (sym s) refl
many_first lvl P F first k ts (x ∷ xs) s = subst (λ (u : List Token). Begins true F u) (sym s.4) (go s.0 s.1 (first k s.0 x s.2))
  where
    go : (a b : List Token) → Begins false F a → Begins true F (a ++ b)
    go [] b p = absurd cc
    go (t ∷ a) b p = p

to_many : {A : Type 0} (P : Lang A) (s : Below) (ts : List Token) (xs : List A) → More P s ts xs → Many P s ts xs
to_many {A} P s ts xs m = subst (λ (ys : List A). Many P s ts ys) (sym m.4.4.1) (m.0, m.4.0, m.3, m.4.3, m.5 ∙ ap (λ (u : List Token). m.0 ++ u) (m.4.5 ∙ ap (λ (u : List Token). m.4.0 ++ u) m.4.4.0 ∙ end m.4.0))
  where
    end : (ys : List Token) → ys ++ [] ≡ ys
    end [] = refl
    end (y ∷ ys) = ap (λ (u : List Token). y ∷ u) (end ys)

pub many_tongue : {lvl : ℕ → Below} {A : Type 0} {P : Lang A} {F : Kinds} → Tongue lvl P false F → Tongue lvl (Many P) true F
many_tongue {lvl} {A} {P} {F} p = record { tokens = []; tree = []; some = (0, λ m. refl); first = many_first lvl P F p.first }

list_tongue : {lvl : ℕ → Below} {A : Type 0} {P : Lang A} {F : Kinds} → Tongue lvl P false F → (x : A) → Tongue lvl (Seq (Many P) (λ xs. Nothing (x ∷ xs))) true F
list_tongue {lvl} {A} {P} {F} p x =
    record {
      tokens = [];
      tree = x ∷ [];
      some = (0, λ j. ([], [], [], refl, (refl, refl), refl));
      first = λ k us ys s. subst (λ (u : List Token). Begins true F u) (sym s.5) (ends s.0 s.1 (many_first lvl P F p.first k s.0 s.2 s.3) s.4.0);
    }
  where
    ends : (a b : List Token) → Begins true F a → b ≡ [] → Begins true F (a ++ b)
    ends [] b h e = subst (λ (u : List Token). Begins true F u) (sym e) refl
    ends (t ∷ a) b h e = h

many_step : (lvl : ℕ → Below) (d : ℕ) {A : Type 0} (f : Reader A) (P : Lang A) (F D : Kinds) → Exact lvl d d f P false F D → (ts : List Token) → ((us : List Token) → length us < length ts → SoundAt lvl d d (many F f) (Many P) us (many F f us)) → SoundAt lvl d d (many F f) (Many P) ts (many F f ts)
unfolding walk
many_step lvl d {A} f P F D p ts ih = subst (λ (a : Answer (List A)). SoundAt lvl d d (many F f) (Many P) ts a) (sym (unroll F f (shrinks p) ts)) (go (heads F ts) refl)
  where
    rolled : (b : Bool) (us : List Token) → heads F us ≡ b → many F f us ≡ cond b (more F f us) (got [] us)
    rolled b us e = unroll F f (shrinks p) us ∙ swap_cond (heads F us) b _ _ e

    gives : (x : A) (xs : List A) → Exact lvl d d (give (x ∷ xs)) (Nothing (x ∷ xs)) true [] []
    gives x xs = give_exact (x ∷ xs)

    add : (x : A) (us : List Token) → SoundAt lvl d d (many F f) (Many P) us (many F f us) → SoundAt lvl d d (seq (many F f) (λ xs. give (x ∷ xs))) (Seq (Many P) (λ xs. Nothing (x ∷ xs))) us (bind (many F f us) (λ xs. give (x ∷ xs)))
    add x us s = then_at lvl d d d (many F f) (Many P) (λ xs. give (x ∷ xs)) (λ xs. Nothing (x ∷ xs)) true [] (λ xs. (gives x xs).tongue) us (many F f us) (λ xs rest w. (gives x xs).sound rest) s

    go : (b : Bool) → heads F ts ≡ b → SoundAt lvl d d (many F f) (Many P) ts (cond b (more F f ts) (got [] ts))
    go false e = record { front = []; whole = refl; spelled = (0, λ j. refl); even = refl; same = λ r al. rolled false r (heads_alike F ts [] ts r refl al ∙ e) }
    go true e =
        via lvl d d (more F f) (many F f) (More P) (Many P) ts (more F f ts) (λ u x s. (s.0, λ m. to_many P _ u x (s.1 m))) (λ front rest r w al. rolled true (front ++ r) (heads_alike F ts front rest r w al ∙ e))
        (then_at lvl d d d f P (λ x. seq (many F f) (λ xs. give (x ∷ xs))) (λ x. Seq (Many P) (λ xs. Nothing (x ∷ xs))) true F (list_tongue p.tongue) ts (f ts) (λ x rest w. add x rest (ih rest (shrinks p ts x rest w))) (p.sound ts))

many_sound : (lvl : ℕ → Below) (d : ℕ) {A : Type 0} (f : Reader A) (P : Lang A) (F D : Kinds) → Exact lvl d d f P false F D → (n : ℕ) (ts : List Token) → length ts ≤ n → SoundAt lvl d d (many F f) (Many P) ts (many F f ts)
many_sound lvl d f P F D p zero ts le = many_step lvl d f P F D p ts (λ us lt. absurd (omega arith))
many_sound lvl d f P F D p (suc n) ts le = many_step lvl d f P F D p ts (λ us lt. many_sound lvl d f P F D p n us (omega arith))

many_only : (lvl : ℕ → Below) (d : ℕ) {A : Type 0} (f : Reader A) (P : Lang A) (F D : Kinds) → Exact lvl d d f P false F D → disjoint F D ≡ true → (k : ℕ) (xs : List A) (front rest : List Token) → Many P (lvl k) front xs → heads (F ++ D) rest ≡ false → Meets (many F f (front ++ rest)) xs rest
many_only lvl d {A} f P F D p h k [] front rest s c =
    inl (ap (λ (u : List Token). many F f (u ++ rest)) s ∙ unroll F f (shrinks p) rest ∙ swap_cond (heads F rest) false _ _ (heads_none_left F D rest c))
many_only lvl d {A} f P F D p h k (x ∷ xs) front rest s c =
    let ih = many_only lvl d f P F D p h k xs s.1 rest s.3 c in
    let begins = p.tongue.first k s.0 x s.2 in
    let clear : heads D (s.1 ++ rest) ≡ false = not_begun true D F s.1 rest h (many_first lvl P F p.tongue.first k s.1 xs s.3) (λ e. heads_none_right F D rest c) in
    let one = p.only k s.0 x (s.1 ++ rest) s.2 clear in
    let whole : many F f (front ++ rest) ≡ more F f (s.0 ++ (s.1 ++ rest)) =
    ap (λ (u : List Token). many F f (u ++ rest)) s.4 ∙ ap (λ (u : List Token). many F f u) (append_assoc s.0 s.1 rest) ∙ unroll F f (shrinks p) (s.0 ++ (s.1 ++ rest)) ∙ swap_cond _ true _ _ (begun F s.0 (s.1 ++ rest) begins) in
    subst (λ (a : Answer (List A)). Meets a (x ∷ xs) rest) (sym whole)
    (meets_then (λ y. seq (many F f) (λ ys. give (y ∷ ys))) x (s.1 ++ rest) (f (s.0 ++ (s.1 ++ rest))) (x ∷ xs) rest one
    (meets_then (λ ys. give (x ∷ ys)) xs rest (many F f (s.1 ++ rest)) (x ∷ xs) rest ih (inl refl)))

pub many_exact : {lvl : ℕ → Below} {d : ℕ} {A : Type 0} {f : Reader A} {P : Lang A} {F D : Kinds} → Exact lvl d d f P false F D → disjoint F D ≡ true → Exact lvl d d (many F f) (Many P) true F (F ++ D)
many_exact {lvl} {d} {A} {f} {P} {F} {D} p h =
    record {
      tongue = many_tongue p.tongue;
      sound = λ ts. many_sound lvl d f P F D p (length ts) ts (omega arith);
      only = λ k front x rest s c. many_only lvl d f P F D p h k x front rest s c;
    }

-- brackets

pub bracket_tongue : {lvl : ℕ → Below} {A : Type 0} {P : Lang A} {n : Bool} {F : Kinds} (o c : Kind) (v w : Token) → has (only o) v.kind ≡ true → has (only c) w.kind ≡ true → Tongue lvl P n F → Tongue lvl (Bracket o c P) false (only o)
bracket_tongue {lvl} {A} {P} {n} {F} o c v w ho hc p =
    record {
      tokens = v ∷ (p.tokens ++ (w ∷ []));
      tree = p.tree;
      some = (p.some.0, λ m. (v ∷ [], p.tokens ++ (w ∷ []), tt, (v, refl, ho, refl), (p.tokens, w ∷ [], p.tree, p.some.1 m, (w ∷ [], [], tt, (w, refl, hc, refl), (refl, refl), refl), refl), refl));
      first = λ k ts x s. let t = s.3 in subst (λ (u : List Token). Begins false (only o) u) (sym (s.5 ∙ ap (λ (u : List Token). u ++ s.1) t.1)) t.2;
    }

pub deep_exact : {lvl : ℕ → Below} {A : Type 0} (f : Reader A) {P : Lang A} {n : Bool} {F : Kinds} (o c : Kind) (v w : Token) → has (only o) v.kind ≡ true → has (only c) w.kind ≡ true → has openers o ≡ true → Tongue lvl P n F → Exact lvl 0 0 (bracket false o c f) (Bracket o c P) false (only o) []
unfolding walk
deep_exact {lvl} {A} f {P} o c v w ho hc op p =
    let tongue = bracket_tongue o c v w ho hc p in
    record {
      tongue = tongue;
      sound = λ ts. subst (λ (a : Answer A). SoundAt lvl 0 0 (bracket false o c f) (Bracket o c P) ts a) (sym (shut ts)) (sound ts (heads (only o) ts) refl tongue);
      only = λ k front x rest s e. inr (front ++ rest, shut (front ++ rest) ∙ swap_cond _ true _ _ (begun (only o) front rest (tongue.first k front x s)));
    }
  where
    shut : (ts : List Token) → bracket false o c f ts ≡ cond (heads (only o) ts) (stop deep ts) (stop bad ts)
    shut ts = go (heads (only o) ts)
      where
        go : (b : Bool) → bind {A = Unit {0}} (cond b (stop deep ts) (stop bad ts)) (λ t. seq f (λ x. seq (word c) (λ e. give x))) ≡ cond b (stop deep ts) (stop bad ts)
        go true = refl
        go false = refl

    opener : (ts : List Token) → heads (only o) ts ≡ true → StopsAt deep 0 [] ts
    opener [] h = absurd cc
    opener (t ∷ ts) h = (refl, sym (only_is o t.kind h openers) ∙ op)

    sound : (ts : List Token) (b : Bool) → heads (only o) ts ≡ b → Tongue lvl (Bracket o c P) false (only o) → SoundAt lvl 0 0 (bracket false o c f) (Bracket o c P) ts (cond b (stop deep ts) (stop bad ts))
    sound ts true h q = record { front = []; whole = refl; more = q.tokens; tree = q.tree; spelled = q.some; at = opener ts h; same = λ r al. shut r ∙ swap_cond _ true _ _ (heads_alike (only o) ts [] ts r refl al ∙ h) }
    sound ts false h q = record { front = []; whole = refl; more = q.tokens; tree = q.tree; spelled = q.some; at = (0, refl); same = λ r al. shut r ∙ swap_cond _ false _ _ (heads_alike (only o) ts [] ts r refl al ∙ h) }

pub room_exact : {lvl : ℕ → Below} {d : ℕ} {A : Type 0} {f : Reader A} {P : Lang A} {F D : Kinds} (o c : Kind) (v w : Token) → has (only o) v.kind ≡ true → has (only c) w.kind ≡ true → has openers o ≡ true → has openers c ≡ false → has closers c ≡ true → disjoint (only c) D ≡ true
    → Exact lvl d d f P false F D → Exact lvl (suc d) (suc d) (bracket true o c f) (Bracket o c P) false (only o) []
room_exact {lvl} {d} {A} {f} {P} {F} {D} o c v w ho hc op nop cl h p = then_exact (opens_exact o v ho op) (λ t. then_exact p (λ x. then_exact (closes_exact c w hc nop cl) (λ e. give_exact x) refl) h) (empty F)

-- what the brackets hold, where d more may open
abbrev pub Inside : (ℕ → Below) → ℕ → {A : Type 0} → Bool → Reader A → Lang A → Kinds → Kinds → Type 0
Inside lvl zero room f P F D = room ≡ false
Inside lvl (suc d) room f P F D = (room ≡ true) × Exact lvl d d f P false F D

pub bracket_exact : {lvl : ℕ → Below} (d : ℕ) {A : Type 0} (room : Bool) (f : Reader A) {P : Lang A} (F D : Kinds) (o c : Kind) (v w : Token) → has (only o) v.kind ≡ true → has (only c) w.kind ≡ true → has openers o ≡ true → has openers c ≡ false → has closers c ≡ true → disjoint (only c) D ≡ true
    → Tongue lvl P false F → Inside lvl d room f P F D → Exact lvl d d (bracket room o c f) (Bracket o c P) false (only o) []
bracket_exact {lvl} zero {A} room f {P} F D o c v w ho hc op nop cl h p i = subst (λ (b : Bool). Exact lvl 0 0 (bracket b o c f) (Bracket o c P) false (only o) []) (sym i) (deep_exact f o c v w ho hc op p)
bracket_exact {lvl} (suc d) {A} room f {P} F D o c v w ho hc op nop cl h p i = subst (λ (b : Bool). Exact lvl (suc d) (suc d) (bracket b o c f) (Bracket o c P) false (only o) []) (sym i.0) (room_exact o c v w ho hc op nop cl h i.1)
