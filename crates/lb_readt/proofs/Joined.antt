-- What holds of a reader and its language, and how it carries over to what is put together of them.
use Rattle.std.proofs.Common.{Bool, true, false, cond, ◌⊎◌, inl, inr, ◌≡◌, ℕ, suc, ◌+◌, List, [], ◌∷◌, ◌++◌, Option, Some, None, refl, sym, ap, subst, ◌∙◌, append_assoc, arith}
use Rattle.lb_tok.specs.declared.kind.Kind.{Kind}
use Rattle.lb_tok.specs.declared.token.Token.{Token}
use Rattle.lb_tok.specs.Kinds.{Kinds, only, has, openers, closers}
use Rattle.lb_tok.specs.Form.{Below, Lang, Nothing, One, Seq, Either, Word}
use Rattle.lb_readt.specs.Readers.{Why, bad, deep, Answer, got, stop, Reader, bind, seq, give, heads, seen, one, pick, word}
use Rattle.lb_tok.specs.Limit.{passed, walk_on, walk}
use Rattle.lb_readt.proofs.Sets.{has_left, has_right, none_left, none_right, apart, disjoint, only_is}

-- spelled by all levels from one on
abbrev pub Ev : (ℕ → Below) → {A : Type 0} → Lang A → List Token → A → Type 0
Ev lvl P ts x = (k : ℕ) × ((m : ℕ) → P (lvl (k + m)) ts x)

abbrev pub Alike : List Token → List Token → Type 0
Alike [] r = ⊥
Alike (t ∷ ts) [] = ⊥
Alike (t ∷ ts) (u ∷ us) = t ≡ u

abbrev pub Begins : Bool → Kinds → List Token → Type 0
Begins n ks [] = n ≡ true
Begins n ks (t ∷ ts) = has ks t.kind ≡ true

-- what f took is spelled so; what it answers hangs on no token after the next one
pub record GotSo (lvl : ℕ → Below) (d e : ℕ) {A : Type 0} (f : Reader A) (P : Lang A) (ts : List Token) (x : A) (rest : List Token) : Type 0 where
  pub front : List Token
  pub whole : ts ≡ front ++ rest
  pub spelled : Ev lvl P front x
  pub even : walk front d ≡ Some e
  pub same : (r : List Token) → Alike rest r → f (front ++ r) ≡ got x r

abbrev pub StopsAt : Why → ℕ → List Token → List Token → Type 0
StopsAt bad d front rest = (e : ℕ) × (walk front d ≡ Some e)
StopsAt deep d front [] = ⊥
StopsAt deep d front (t ∷ ts) = (walk front d ≡ Some 0) × (has openers t.kind ≡ true)

-- what f took before it stopped can be completed
pub record StopSo (lvl : ℕ → Below) (d : ℕ) {A : Type 0} (f : Reader A) (P : Lang A) (ts : List Token) (c : Why) (rest : List Token) : Type 0 where
  pub front : List Token
  pub whole : ts ≡ front ++ rest
  pub more : List Token
  pub tree : A
  pub spelled : Ev lvl P (front ++ more) tree
  pub at : StopsAt c d front rest
  pub same : (r : List Token) → Alike rest r → f (front ++ r) ≡ stop c r

abbrev pub SoundAt : (ℕ → Below) → ℕ → ℕ → {A : Type 0} → Reader A → Lang A → List Token → Answer A → Type 0
SoundAt lvl d e f P ts (got x rest) = GotSo lvl d e f P ts x rest
SoundAt lvl d e f P ts (stop c rest) = StopSo lvl d f P ts c rest

abbrev pub Meets : {A : Type 0} → Answer A → A → List Token → Type 0
Meets a x rest = (a ≡ got x rest) ⊎ ((r : List Token) × (a ≡ stop deep r))

-- a language that spells something, and what begins it
pub record Tongue (lvl : ℕ → Below) {A : Type 0} (P : Lang A) (n : Bool) (F : Kinds) : Type 0 where
  pub tokens : List Token
  pub tree : A
  pub some : Ev lvl P tokens tree
  pub first : (k : ℕ) (ts : List Token) (x : A) → P (lvl k) ts x → Begins n F ts

pub record Exact (lvl : ℕ → Below) (d e : ℕ) {A : Type 0} (f : Reader A) (P : Lang A) (n : Bool) (F E : Kinds) : Type 0 where
  pub tongue : Tongue lvl P n F
  pub sound : (ts : List Token) → SoundAt lvl d e f P ts (f ts)
  pub only : (k : ℕ) (front : List Token) (x : A) (rest : List Token) → P (lvl k) front x → heads E rest ≡ false → Meets (f (front ++ rest)) x rest

-- put together

pub heads_none_left : (xs ys : Kinds) (ts : List Token) → heads (xs ++ ys) ts ≡ false → heads xs ts ≡ false
heads_none_left xs ys [] e = refl
heads_none_left xs ys (t ∷ ts) e = none_left xs ys t.kind e

pub heads_none_right : (xs ys : Kinds) (ts : List Token) → heads (xs ++ ys) ts ≡ false → heads ys ts ≡ false
heads_none_right xs ys [] e = refl
heads_none_right xs ys (t ∷ ts) e = none_right xs ys t.kind e

abbrev pub both : Bool → Bool → Bool
both true b = b
both false b = false

abbrev pub firsts : Bool → Kinds → Kinds → Kinds
firsts true F G = F ++ G
firsts false F G = F

abbrev pub lasts : Bool → Kinds → Kinds → Kinds
lasts true D E = D ++ E
lasts false D E = E

pub walk-append : (a b : List Token) (d e : ℕ) → walk a d ≡ Some e → walk (a ++ b) d ≡ walk b e
unfolding walk
walk-append [] b d e h = ap (λ (o : Option ℕ). walk_on o (walk b)) h
walk-append (t ∷ a) b d e h = go (passed (has openers t.kind) (has closers t.kind) d) h (λ c. walk-append a b c e)
  where
    go : (o : Option ℕ) → walk_on o (walk a) ≡ Some e → ((c : ℕ) → walk a c ≡ Some e → walk (a ++ b) c ≡ walk b e) → walk_on o (walk (a ++ b)) ≡ walk b e
    go None p f = absurd cc
    go (Some c) p f = f c p

pub alike-append : (rest front rest2 r : List Token) → rest ≡ front ++ rest2 → Alike rest2 r → Alike rest (front ++ r)
alike-append rest front rest2 r e al = subst (λ (u : List Token). Alike u (front ++ r)) (sym e) (go front rest2 r al)
  where
    go : (front rest2 r : List Token) → Alike rest2 r → Alike (front ++ rest2) (front ++ r)
    go [] rest2 r al = al
    go (t ∷ front) rest2 r al = refl

pub ev_seq : (lvl : ℕ → Below) {A B : Type 0} (P : Lang A) (Q : A → Lang B) (a b ts : List Token) (x : A) (y : B) → Ev lvl P a x → Ev lvl (Q x) b y → ts ≡ a ++ b → Ev lvl (Seq P Q) ts y
ev_seq lvl P Q a b ts x y p q e =
    (p.0 + q.0, λ m. (a, b, x, subst (λ (j : ℕ). P (lvl j) a x) (one m) (p.1 (q.0 + m)), subst (λ (j : ℕ). Q x (lvl j) b y) (two m) (q.1 (p.0 + m)), e))
  where
    one : (m : ℕ) → p.0 + (q.0 + m) ≡ (p.0 + q.0) + m
    one m = omega arith

    two : (m : ℕ) → q.0 + (p.0 + m) ≡ (p.0 + q.0) + m
    two m = omega arith

stops_on : (c : Why) (a b : List Token) (rest : List Token) (d e : ℕ) → walk a d ≡ Some e → StopsAt c e b rest → StopsAt c d (a ++ b) rest
stops_on bad a b rest d e h s = (s.0, walk-append a b d e h ∙ s.1)
stops_on deep a b [] d e h s = absurd s
stops_on deep a b (t ∷ ts) d e h s = (walk-append a b d e h ∙ s.0, s.1)

then_more : (lvl : ℕ → Below) (d e i : ℕ) {A B : Type 0} (f : Reader A) (P : Lang A) (g : A → Reader B) (Q : A → Lang B) (ts : List Token) (x : A) (rest : List Token) (s : GotSo lvl d e f P ts x rest) (b : Answer B)
    → SoundAt lvl e i (g x) (Q x) rest b → SoundAt lvl d i (seq f g) (Seq P Q) ts b
then_more lvl d e i f P g Q ts x rest s (got y rest2) t =
    record {
      front = s.front ++ t.front;
      whole = s.whole ∙ ap (λ (u : List Token). s.front ++ u) t.whole ∙ sym (append_assoc s.front t.front rest2);
      spelled = ev_seq lvl P Q s.front t.front (s.front ++ t.front) x y s.spelled t.spelled refl;
      even = walk-append s.front t.front d e s.even ∙ t.even;
      same = λ r al. ap (λ (u : List Token). bind (f u) g) (append_assoc s.front t.front r) ∙ ap (λ (a : Answer _). bind a g) (s.same (t.front ++ r) (alike-append rest t.front rest2 r t.whole al)) ∙ t.same r al;
    }
then_more lvl d e i f P g Q ts x rest s (stop c rest2) t =
    record {
      front = s.front ++ t.front;
      whole = s.whole ∙ ap (λ (u : List Token). s.front ++ u) t.whole ∙ sym (append_assoc s.front t.front rest2);
      more = t.more;
      tree = t.tree;
      spelled = ev_seq lvl P Q s.front (t.front ++ t.more) ((s.front ++ t.front) ++ t.more) x t.tree s.spelled t.spelled (append_assoc s.front t.front t.more);
      at = stops_on c s.front t.front rest2 d e s.even t.at;
      same = λ r al. ap (λ (u : List Token). bind (f u) g) (append_assoc s.front t.front r) ∙ ap (λ (a : Answer _). bind a g) (s.same (t.front ++ r) (alike-append rest t.front rest2 r t.whole al)) ∙ t.same r al;
    }

pub then_at : (lvl : ℕ → Below) (d e i : ℕ) {A B : Type 0} (f : Reader A) (P : Lang A) (g : A → Reader B) (Q : A → Lang B) (n : Bool) (F : Kinds)
    → ((x : A) → Tongue lvl (Q x) n F) → (ts : List Token) (a : Answer A) → ((x : A) (rest : List Token) → a ≡ got x rest → SoundAt lvl e i (g x) (Q x) rest (g x rest))
    → SoundAt lvl d e f P ts a → SoundAt lvl d i (seq f g) (Seq P Q) ts (bind a g)
then_at lvl d e i f P g Q n F some ts (got x rest) sound s = then_more lvl d e i f P g Q ts x rest s (g x rest) (sound x rest refl)
then_at lvl d e i f P g Q n F some ts (stop c rest) sound s =
    let q = some s.tree in
    record {
      front = s.front;
      whole = s.whole;
      more = s.more ++ q.tokens;
      tree = q.tree;
      spelled = ev_seq lvl P Q (s.front ++ s.more) q.tokens (s.front ++ (s.more ++ q.tokens)) s.tree q.tree s.spelled q.some (sym (append_assoc s.front s.more q.tokens));
      at = s.at;
      same = λ r al. ap (λ (a : Answer _). bind a g) (s.same r al);
    }

pub then_first : (n m : Bool) (F G : Kinds) (ts a b : List Token) → ts ≡ a ++ b → Begins n F a → Begins m G b → Begins (both n m) (firsts n F G) ts
then_first n m F G ts a b e p q = subst (λ (u : List Token). Begins (both n m) (firsts n F G) u) (sym e) (go n m a b p q)
  where
    go : (n m : Bool) (a b : List Token) → Begins n F a → Begins m G b → Begins (both n m) (firsts n F G) (a ++ b)
    go true m [] [] p q = q
    go true m [] (t ∷ b) p q = has_right F G t.kind q
    go false m [] b p q = absurd cc
    go true m (t ∷ a) b p q = has_left F G t.kind p
    go false m (t ∷ a) b p q = p

pub then_clear : (m : Bool) (G D E : Kinds) (b rest : List Token) → disjoint G D ≡ true → Begins m G b → heads (lasts m D E) rest ≡ false → heads D (b ++ rest) ≡ false
then_clear m G D E (t ∷ b) rest h q c = apart G D t.kind h q
then_clear true G D E [] rest h q c = heads_none_left D E rest c
then_clear false G D E [] rest h q c = absurd cc

pub last_clear : (m : Bool) (D E : Kinds) (rest : List Token) → heads (lasts m D E) rest ≡ false → heads E rest ≡ false
last_clear true D E rest c = heads_none_right D E rest c
last_clear false D E rest c = c

pub meets_then : {A B : Type 0} (g : A → Reader B) (x : A) (left : List Token) (a : Answer A) (y : B) (rest : List Token) → Meets a x left → Meets (g x left) y rest → Meets (bind a g) y rest
meets_then g x left a y rest (inl e) k = subst (λ (u : Answer _). Meets (bind u g) y rest) (sym e) k
meets_then g x left a y rest (inr e) k = inr (e.0, ap (λ (u : Answer _). bind u g) e.1)

pub then_exact : {lvl : ℕ → Below} {d e i : ℕ} {A B : Type 0} {f : Reader A} {P : Lang A} {g : A → Reader B} {Q : A → Lang B} {n m : Bool} {F G D E : Kinds}
    → Exact lvl d e f P n F D → ((x : A) → Exact lvl e i (g x) (Q x) m G E) → disjoint G D ≡ true → Exact lvl d i (seq f g) (Seq P Q) (both n m) (firsts n F G) (lasts m D E)
then_exact {lvl} {d} {e} {i} {A} {B} {f} {P} {g} {Q} {n} {m} {F} {G} {D} {E} p q h =
    record {
      tongue = record {
        tokens = p.tongue.tokens ++ (q p.tongue.tree).tongue.tokens;
        tree = (q p.tongue.tree).tongue.tree;
        some = ev_seq lvl P Q p.tongue.tokens (q p.tongue.tree).tongue.tokens _ p.tongue.tree (q p.tongue.tree).tongue.tree p.tongue.some (q p.tongue.tree).tongue.some refl;
        first = λ k ts y s. then_first n m F G ts s.0 s.1 s.5 (p.tongue.first k s.0 s.2 s.3) ((q s.2).tongue.first k s.1 y s.4);
      };
      sound = λ ts. then_at lvl d e i f P g Q m G (λ x. (q x).tongue) ts (f ts) (λ x rest w. (q x).sound rest) (p.sound ts);
      only = λ k front y rest s c.
          let clear = then_clear m G D E s.1 rest h ((q s.2).tongue.first k s.1 y s.4) c in
          subst (λ (u : List Token). Meets (bind (f u) g) y rest) (sym (ap (λ (u : List Token). u ++ rest) s.5 ∙ append_assoc s.0 s.1 rest))
          (meets_then g s.2 (s.1 ++ rest) (f (s.0 ++ (s.1 ++ rest))) y rest (p.only k s.0 s.2 (s.1 ++ rest) s.3 clear) ((q s.2).only k s.1 y rest s.4 (last_clear m D E rest c)));
    }

pub then_tongue : {lvl : ℕ → Below} {A B : Type 0} {P : Lang A} {Q : A → Lang B} {n m : Bool} {F G : Kinds} → Tongue lvl P n F → ((x : A) → Tongue lvl (Q x) m G) → Tongue lvl (Seq P Q) (both n m) (firsts n F G)
then_tongue {lvl} {A} {B} {P} {Q} {n} {m} {F} {G} p q =
    record {
      tokens = p.tokens ++ (q p.tree).tokens;
      tree = (q p.tree).tree;
      some = ev_seq lvl P Q p.tokens (q p.tree).tokens _ p.tree (q p.tree).tree p.some (q p.tree).some refl;
      first = λ k ts y s. then_first n m F G ts s.0 s.1 s.5 (p.first k s.0 s.2 s.3) ((q s.2).first k s.1 y s.4);
    }

pub give_tongue : {lvl : ℕ → Below} {A : Type 0} (x : A) → Tongue lvl (Nothing x) true []
give_tongue x = record { tokens = []; tree = x; some = (0, λ m. (refl, refl)); first = λ k ts y s. subst (λ (u : List Token). Begins true [] u) (sym s.0) refl }

-- nothing

pub give_exact : {lvl : ℕ → Below} {d : ℕ} {A : Type 0} (x : A) → Exact lvl d d (give x) (Nothing x) true [] []
unfolding walk
give_exact x =
    record {
      tongue = record { tokens = []; tree = x; some = (0, λ m. (refl, refl)); first = λ k ts y s. subst (λ (u : List Token). Begins true [] u) (sym s.0) refl };
      sound = λ ts. record { front = []; whole = refl; spelled = (0, λ m. (refl, refl)); even = refl; same = λ r al. refl };
      only = λ k front y rest s c. inl (ap (λ (u : List Token). got x (u ++ rest)) s.0 ∙ ap (λ z. got z rest) (sym s.1));
    }

-- one token

pub swap_cond : {A : Type 0} (b c : Bool) (x y : A) → b ≡ c → cond b x y ≡ cond c x y
swap_cond b c x y e = ap (λ (u : Bool). cond u x y) e

one_sound : (lvl : ℕ → Below) (d e : ℕ) {A : Type 0} (ks : Kinds) (view : Token → Option A) (w : Token) (v : A) → has ks w.kind ≡ true → view w ≡ Some v → ((k : Kind) → has ks k ≡ true → passed (has openers k) (has closers k) d ≡ Some e)
    → (ts : List Token) → SoundAt lvl d e (one ks view) (One ks view) ts (one ks view ts)
unfolding walk
one_sound lvl d e ks view w v h s pass [] = record { front = []; whole = refl; more = w ∷ []; tree = v; spelled = (0, λ m. (w, refl, h, s)); at = (d, refl); same = λ r al. absurd al }
one_sound lvl d e {A} ks view w v h s pass (t ∷ ts) = go (has ks t.kind) refl
  where
    here : has ks t.kind ≡ true → (r : List Token) → one ks view (t ∷ r) ≡ seen (view t) t r
    here q r = swap_cond (has ks t.kind) true (seen (view t) t r) (stop bad (t ∷ r)) q

    not_there : has ks t.kind ≡ false → (r : List Token) → Alike (t ∷ ts) r → one ks view r ≡ stop bad r
    not_there q [] al = absurd al
    not_there q (u ∷ us) al = swap_cond (has ks u.kind) false (seen (view u) u us) (stop bad (u ∷ us)) (ap (λ (x : Token). has ks x.kind) (sym al) ∙ q)

    unseen : has ks t.kind ≡ true → view t ≡ None → (r : List Token) → Alike (t ∷ ts) r → one ks view r ≡ stop bad r
    unseen q n [] al = absurd al
    unseen q n (u ∷ us) al = subst (λ (x : Token). one ks view (x ∷ us) ≡ stop bad (x ∷ us)) al (here q us ∙ ap (λ (o : Option A). seen o t us) n)

    look : has ks t.kind ≡ true → (o : Option A) → view t ≡ o → SoundAt lvl d e (one ks view) (One ks view) (t ∷ ts) (seen o t ts)
    look q (Some x) n = record { front = t ∷ []; whole = refl; spelled = (0, λ m. (t, refl, q, n)); even = ap (λ (o : Option ℕ). walk_on o (walk [])) (pass t.kind q); same = λ r al. here q r ∙ ap (λ (o : Option A). seen o t r) n }
    look q None n = record { front = []; whole = refl; more = w ∷ []; tree = v; spelled = (0, λ m. (w, refl, h, s)); at = (d, refl); same = unseen q n }

    go : (b : Bool) → has ks t.kind ≡ b → SoundAt lvl d e (one ks view) (One ks view) (t ∷ ts) (cond b (seen (view t) t ts) (stop bad (t ∷ ts)))
    go true q = look q (view t) refl
    go false q = record { front = []; whole = refl; more = w ∷ []; tree = v; spelled = (0, λ m. (w, refl, h, s)); at = (d, refl); same = not_there q }

pub one_tongue : {lvl : ℕ → Below} {A : Type 0} (ks : Kinds) (view : Token → Option A) (w : Token) (v : A) → has ks w.kind ≡ true → view w ≡ Some v → Tongue lvl (One ks view) false ks
one_tongue ks view w v h s = record { tokens = w ∷ []; tree = v; some = (0, λ m. (w, refl, h, s)); first = λ k ts y p. subst (λ (u : List Token). Begins false ks u) (sym p.1) p.2 }

one_is : (lvl : ℕ → Below) (d e : ℕ) {A : Type 0} (ks : Kinds) (view : Token → Option A) (w : Token) (v : A) → has ks w.kind ≡ true → view w ≡ Some v → ((k : Kind) → has ks k ≡ true → passed (has openers k) (has closers k) d ≡ Some e) → Exact lvl d e (one ks view) (One ks view) false ks []
one_is lvl d e {A} ks view w v h s pass =
    record {
      tongue = one_tongue ks view w v h s;
      sound = one_sound lvl d e ks view w v h s pass;
      only = λ k front y rest p c. inl (ap (λ (u : List Token). one ks view (u ++ rest)) p.1 ∙ swap_cond (has ks p.0.kind) true (seen (view p.0) p.0 rest) (stop bad (p.0 ∷ rest)) p.2 ∙ ap (λ (o : Option A). seen o p.0 rest) p.3);
    }

plain_pass : (ks : Kinds) (d : ℕ) → disjoint ks openers ≡ true → disjoint ks closers ≡ true → (k : Kind) → has ks k ≡ true → passed (has openers k) (has closers k) d ≡ Some d
plain_pass ks d a b k h =
    let o : has openers k ≡ false = apart ks openers k a h in
    let c : has closers k ≡ false = apart ks closers k b h in
    rw (o, c) refl

pub one_exact : {lvl : ℕ → Below} {d : ℕ} {A : Type 0} (ks : Kinds) (view : Token → Option A) (w : Token) (v : A) → has ks w.kind ≡ true → view w ≡ Some v → disjoint ks openers ≡ true → disjoint ks closers ≡ true → Exact lvl d d (one ks view) (One ks view) false ks []
one_exact {lvl} {d} ks view w v h s a b = one_is lvl d d ks view w v h s (plain_pass ks d a b)

passes : (o k : Kind) (d e : ℕ) → passed (has openers o) (has closers o) d ≡ Some e → has (only o) k ≡ true → passed (has openers k) (has closers k) d ≡ Some e
passes o k d e h q = let j = only_is o k q in subst (λ (b : Bool). passed b (has closers k) d ≡ Some e) (j openers) (subst (λ (b : Bool). passed (has openers o) b d ≡ Some e) (j closers) h)

pub opens_exact : {lvl : ℕ → Below} {d : ℕ} (o : Kind) (w : Token) → has (only o) w.kind ≡ true → has openers o ≡ true → Exact lvl (suc d) d (word o) (Word o) false (only o) []
opens_exact {lvl} {d} o w h p = one_is lvl (suc d) d (only o) (λ t. Some tt) w tt h refl
    (λ k q. passes o k (suc d) d (ap (λ (b : Bool). passed b (has closers o) (suc d)) p) q)

pub closes_exact : {lvl : ℕ → Below} {d : ℕ} (c : Kind) (w : Token) → has (only c) w.kind ≡ true → has openers c ≡ false → has closers c ≡ true → Exact lvl d (suc d) (word c) (Word c) false (only c) []
closes_exact {lvl} {d} c w h p r = one_is lvl d (suc d) (only c) (λ t. Some tt) w tt h refl
    (λ k q. passes c k d (suc d) (ap (λ (b : Bool). passed b (has closers c) d) p ∙ ap (λ (b : Bool). passed false b d) r) q)

-- the same language, the same reader

abbrev pub Within : {A : Type 0} → Lang A → Lang A → Type 1
Within {A} P Q = (s : Below) (ts : List Token) (x : A) → P s ts x → Q s ts x

pub via : (lvl : ℕ → Below) (d e : ℕ) {A : Type 0} (f h : Reader A) (P Q : Lang A) (ts : List Token) (a : Answer A) → ((u : List Token) (x : A) → Ev lvl P u x → Ev lvl Q u x)
    → ((front rest r : List Token) → ts ≡ front ++ rest → Alike rest r → h (front ++ r) ≡ f (front ++ r)) → SoundAt lvl d e f P ts a → SoundAt lvl d e h Q ts a
via lvl d e f h P Q ts (got x rest) into also s = record { front = s.front; whole = s.whole; spelled = into _ _ s.spelled; even = s.even; same = λ r al. also s.front rest r s.whole al ∙ s.same r al }
via lvl d e f h P Q ts (stop c rest) into also s = record { front = s.front; whole = s.whole; more = s.more; tree = s.tree; spelled = into _ _ s.spelled; at = s.at; same = λ r al. also s.front rest r s.whole al ∙ s.same r al }

pub same_exact : {lvl : ℕ → Below} {d e : ℕ} {A : Type 0} {f : Reader A} {P : Lang A} {n : Bool} {F E : Kinds} (Q : Lang A) → Within P Q → Within Q P → Exact lvl d e f P n F E → Exact lvl d e f Q n F E
same_exact {lvl} {d} {e} {A} {f} {P} Q into back p =
    record {
      tongue = record { tokens = p.tongue.tokens; tree = p.tongue.tree; some = (p.tongue.some.0, λ m. into _ _ _ (p.tongue.some.1 m)); first = λ k ts x s. p.tongue.first k ts x (back _ _ _ s) };
      sound = λ ts. via lvl d e f f P Q ts (f ts) (λ u x s. (s.0, λ m. into _ _ _ (s.1 m))) (λ front rest r w al. refl) (p.sound ts);
      only = λ k front x rest s c. p.only k front x rest (back _ _ _ s) c;
    }

-- by the first token

pub heads_alike : (ks : Kinds) (ts front rest r : List Token) → ts ≡ front ++ rest → Alike rest r → heads ks (front ++ r) ≡ heads ks ts
heads_alike ks ts front rest r e al = go front rest r al ∙ ap (λ (u : List Token). heads ks u) (sym e)
  where
    go : (front rest r : List Token) → Alike rest r → heads ks (front ++ r) ≡ heads ks (front ++ rest)
    go (t ∷ front) rest r al = refl
    go [] [] r al = absurd al
    go [] (t ∷ rest) [] al = absurd al
    go [] (t ∷ rest) (u ∷ us) al = ap (λ (v : Token). has ks v.kind) (sym al)

pub begun : (F : Kinds) (a rest : List Token) → Begins false F a → heads F (a ++ rest) ≡ true
begun F [] rest p = absurd cc
begun F (t ∷ a) rest p = p

pub not_begun : (m : Bool) (F G : Kinds) (a rest : List Token) → disjoint G F ≡ true → Begins m G a → (m ≡ true → heads F rest ≡ false) → heads F (a ++ rest) ≡ false
not_begun m F G [] rest h p c = c p
not_begun m F G (t ∷ a) rest h p c = apart G F t.kind h p

abbrev pub kept : Bool → Kinds → Kinds
kept true F = F
kept false F = []

pub kept_clear : (m : Bool) (F rest_set : Kinds) (rest : List Token) → heads (kept m F ++ rest_set) rest ≡ false → m ≡ true → heads F rest ≡ false
kept_clear true F S rest c e = heads_none_left F S rest c
kept_clear false F S rest c e = absurd cc

either_first : (m : Bool) (F G : Kinds) (ts : List Token) → Begins false F ts → Begins m (F ++ G) ts
either_first m F G [] p = absurd cc
either_first m F G (t ∷ ts) p = has_left F G t.kind p

or_first : (m : Bool) (F G : Kinds) (ts : List Token) → Begins m G ts → Begins m (F ++ G) ts
or_first m F G [] p = p
or_first m F G (t ∷ ts) p = has_right F G t.kind p

pick_sound : (lvl : ℕ → Below) (d e : ℕ) {A : Type 0} (f g : Reader A) (P Q : Lang A) (F : Kinds) (ts : List Token) (b : Bool) → heads F ts ≡ b → SoundAt lvl d e f P ts (f ts) → SoundAt lvl d e g Q ts (g ts) → SoundAt lvl d e (pick F f g) (Either P Q) ts (cond b (f ts) (g ts))
pick_sound lvl d e f g P Q F ts true h p q = via lvl d e f (pick F f g) P (Either P Q) ts (f ts) (λ u x s. (s.0, λ m. inl (s.1 m))) (λ front rest r w al. swap_cond _ true _ _ (heads_alike F ts front rest r w al ∙ h)) p
pick_sound lvl d e f g P Q F ts false h p q = via lvl d e g (pick F f g) Q (Either P Q) ts (g ts) (λ u x s. (s.0, λ m. inr (s.1 m))) (λ front rest r w al. swap_cond _ false _ _ (heads_alike F ts front rest r w al ∙ h)) q

pub pick_exact : {lvl : ℕ → Below} {d e : ℕ} {A : Type 0} {f g : Reader A} {P Q : Lang A} {m : Bool} {F G D E : Kinds}
    → Exact lvl d e f P false F D → Exact lvl d e g Q m G E → disjoint G F ≡ true → Exact lvl d e (pick F f g) (Either P Q) m (F ++ G) (kept m F ++ (D ++ E))
pick_exact {lvl} {d} {e} {A} {f} {g} {P} {Q} {m} {F} {G} {D} {E} p q h =
    record {
      tongue = record { tokens = p.tongue.tokens; tree = p.tongue.tree; some = (p.tongue.some.0, λ j. inl (p.tongue.some.1 j)); first = first };
      sound = λ ts. pick_sound lvl d e f g P Q F ts (heads F ts) refl (p.sound ts) (q.sound ts);
      only = only;
    }
  where
    first : (k : ℕ) (ts : List Token) (x : A) → P (lvl k) ts x ⊎ Q (lvl k) ts x → Begins m (F ++ G) ts
    first k ts x (inl s) = either_first m F G ts (p.tongue.first k ts x s)
    first k ts x (inr s) = or_first m F G ts (q.tongue.first k ts x s)

    only : (k : ℕ) (front : List Token) (x : A) (rest : List Token) → P (lvl k) front x ⊎ Q (lvl k) front x → heads (kept m F ++ (D ++ E)) rest ≡ false → Meets (pick F f g (front ++ rest)) x rest
    only k front x rest (inl s) c =
        subst (λ (a : Answer A). Meets a x rest) (sym (swap_cond _ true _ _ (begun F front rest (p.tongue.first k front x s))))
        (p.only k front x rest s (heads_none_left D E rest (heads_none_right (kept m F) (D ++ E) rest c)))
    only k front x rest (inr s) c =
        subst (λ (a : Answer A). Meets a x rest) (sym (swap_cond _ false _ _ (not_begun m F G front rest h (q.tongue.first k front x s) (kept_clear m F (D ++ E) rest c))))
        (q.only k front x rest s (heads_none_right D E rest (heads_none_right (kept m F) (D ++ E) rest c)))

pub either_tongue : {lvl : ℕ → Below} {A : Type 0} {P Q : Lang A} {m : Bool} {F G : Kinds} → Tongue lvl P false F → Tongue lvl Q m G → Tongue lvl (Either P Q) m (F ++ G)
either_tongue {lvl} {A} {P} {Q} {m} {F} {G} p q = record { tokens = p.tokens; tree = p.tree; some = (p.some.0, λ j. inl (p.some.1 j)); first = first }
  where
    first : (k : ℕ) (ts : List Token) (x : A) → P (lvl k) ts x ⊎ Q (lvl k) ts x → Begins m (F ++ G) ts
    first k ts x (inl s) = either_first m F G ts (p.first k ts x s)
    first k ts x (inr s) = or_first m F G ts (q.first k ts x s)
