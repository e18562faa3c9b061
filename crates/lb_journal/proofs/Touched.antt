-- A stamp is one more than the last place that touches its key: the proof of the law `stamps_are_last_touches`.
use Rattle.std.proofs.Common.{◌≡◌, ◌⊎◌, inl, inr, refl, sym, ap, subst, ◌∙◌, ℕ, zero, suc, ◌+◌, ◌<◌, ◌≤◌, Bool, true, false, List, [], ◌∷◌, take, drop, Some, arith}
use Rattle.std.specs.Prelude.{slice_get}
use Rattle.lb_base.specs.declared.key.Key.{Key}
use Rattle.lb_stmt.specs.declared.write.Stmt.{Stmt}
use Rattle.lb_cat.specs.declared.entry.Said.{Said}
use Rattle.lb_cat.specs.declared.entry.Entry.{Entry}
use Rattle.lb_cat.specs.declared.entry.Entry.TheVariants as entries
use Rattle.lb_cat.specs.Keys.{has_key}
use Rattle.lb_alter.specs.Refusing.{Changed}
use Rattle.lb_journal.specs.State.{State, first, step, after, is_there, stamp_after, left_by}
use Rattle.lb_journal.specs.Journal.{Speaks}
use Rattle.lb_journal.specs.Replay.{Steps, Runs, Replay}
use Rattle.lb_journal.specs.Touched.{Touches, IsStamp, StampsAreLastTouches, HasOneStamp}
use Rattle.lb_journal.proofs.Stamps.{By, entry_by, there_stays, absent_is_zero}

-- ---- a stamp above 0 is a touch

-- the same as `Touches`, of entries that begin at a place, from a state
record Within (n : ℕ) (S : State) (J : List Entry) (T : State) (k : Key) (i : ℕ) : Type 0 where
  state : State
  before : Runs n S (take i J) state
  said : Said
  there : slice_get J i ≡ Some (entries.Said said)
  stmt : Stmt
  speaks : Speaks said.text stmt
  touches : has_key k (step state said.user said.groups said.day stmt).touched ≡ true
  rest : Runs (n + i + 1) (after (n + i) state said.user said.groups said.day stmt) (drop (i + 1) J) T

-- a stamp after some entries: 0, or what it was, or the place of a touch
Traced : (n : ℕ) (S : State) (J : List Entry) (T : State) (k : Key) → Type 0
Traced n S J T k = (T.stamp k ≡ 0) ⊎ (T.stamp k ≡ S.stamp k) ⊎ ((i : ℕ) × (T.stamp k ≡ n + i + 1) × Within n S J T k i)

-- one entry more in front
within_more : (n : ℕ) (S : State) (e : Entry) (U : State) (es : List Entry) (T : State) (k : Key) (i : ℕ) → Steps n S e U → Within (n + 1) U es T k i → Within n S (e ∷ es) T k (suc i)
within_more n S e U es T k i s w =
    record {
      state = w.state;
      before = (U, s, w.before);
      said = w.said;
      there = w.there;
      stmt = w.stmt;
      speaks = w.speaks;
      touches = w.touches;
      rest = subst (λ (m : ℕ). Runs (n + suc i + 1) (after (n + suc i) w.state w.said.user w.said.groups w.said.day w.stmt) (drop m (e ∷ es)) T) dropped moved;
    }
  where
    dropped : suc (i + 1) ≡ suc i + 1
    dropped = omega arith

    place : n + 1 + i ≡ n + suc i
    place = omega arith

    moved : Runs (n + suc i + 1) (after (n + suc i) w.state w.said.user w.said.groups w.said.day w.stmt) (drop (i + 1) es) T
    moved = subst (λ (p : ℕ). Runs (p + 1) (after p w.state w.said.user w.said.groups w.said.day w.stmt) (drop (i + 1) es) T) place w.rest

-- the stamp after one entry
stamp_by : (at : ℕ) (d : Changed) (S : State) (k : Key)
    → ((left_by at S.stamp d).stamp k ≡ 0) ⊎ ((left_by at S.stamp d).stamp k ≡ S.stamp k) ⊎ (((left_by at S.stamp d).stamp k ≡ at + 1) × (has_key k d.touched ≡ true))
stamp_by at d S k = go (is_there d.cat d.tables k) (has_key k d.touched) refl refl
  where
    go : (there touched : Bool) → is_there d.cat d.tables k ≡ there → has_key k d.touched ≡ touched
        → (stamp_after (is_there d.cat d.tables k) (has_key k d.touched) at (S.stamp k) ≡ 0)
        ⊎ (stamp_after (is_there d.cat d.tables k) (has_key k d.touched) at (S.stamp k) ≡ S.stamp k)
        ⊎ ((stamp_after (is_there d.cat d.tables k) (has_key k d.touched) at (S.stamp k) ≡ at + 1) × (has_key k d.touched ≡ true))
    go true true e f = inr (inr (ap (λ (b : Bool). stamp_after b (has_key k d.touched) at (S.stamp k)) e ∙ ap (λ (b : Bool). stamp_after true b at (S.stamp k)) f, f))
    go true false e f = inr (inl (ap (λ (b : Bool). stamp_after b (has_key k d.touched) at (S.stamp k)) e ∙ ap (λ (b : Bool). stamp_after true b at (S.stamp k)) f))
    go false touched e f = inl (ap (λ (b : Bool). stamp_after b (has_key k d.touched) at (S.stamp k)) e)

-- the stamp after an entry and those that follow it
entry_traced : (n : ℕ) (S : State) (e : Entry) (U : State) (J : List Entry) (T : State) (k : Key) → Steps n S e U → Runs (n + 1) U J T → T.stamp k ≡ U.stamp k → Traced n S (e ∷ J) T k
unfolding Traced
entry_traced n S (entries.Open user groups) U J T k s r same = inr (inl (same ∙ ap (λ (V : State). V.stamp k) s))
entry_traced n S (entries.Said d) U J T k s r same = go (stamp_by n (step S d.user d.groups d.day s.0) S k)
  where
    now : T.stamp k ≡ (after n S d.user d.groups d.day s.0).stamp k
    now = same ∙ ap (λ (V : State). V.stamp k) s.2

    go : ((after n S d.user d.groups d.day s.0).stamp k ≡ 0) ⊎ ((after n S d.user d.groups d.day s.0).stamp k ≡ S.stamp k)
        ⊎ (((after n S d.user d.groups d.day s.0).stamp k ≡ n + 1) × (has_key k (step S d.user d.groups d.day s.0).touched ≡ true))
        → (T.stamp k ≡ 0) ⊎ (T.stamp k ≡ S.stamp k) ⊎ ((i : ℕ) × (T.stamp k ≡ n + i + 1) × Within n S (entries.Said d ∷ J) T k i)
    go (inl z) = inl (now ∙ z)
    go (inr (inl o)) = inr (inl (now ∙ o))
    go (inr (inr t)) =
        inr (inr (
          0,
          (let p = now ∙ t.0 in omega (arith, p)),
          record {
            state = S;
            before = refl;
            said = d;
            there = refl;
            stmt = s.0;
            speaks = s.1;
            touches = t.1;
            rest = subst (λ (p : ℕ). Runs (p + 1) (after p S d.user d.groups d.day s.0) J T) (omega arith) (subst (λ (V : State). Runs (n + 1) V J T) s.2 r);
          },
        ))

traced : (n : ℕ) (S : State) (J : List Entry) (T : State) (k : Key) → Runs n S J T → Traced n S J T k
unfolding Traced
traced n S [] T k h = inr (inl (ap (λ (V : State). V.stamp k) h))
traced n S (e ∷ es) T k h = go (traced (n + 1) h.0 es T k h.2)
  where
    go : (T.stamp k ≡ 0) ⊎ (T.stamp k ≡ h.0.stamp k) ⊎ ((i : ℕ) × (T.stamp k ≡ n + 1 + i + 1) × Within (n + 1) h.0 es T k i) → Traced n S (e ∷ es) T k
    go (inl z) = inl z
    go (inr (inl same)) = entry_traced n S e h.0 es T k h.1 h.2 same
    go (inr (inr w)) = inr (inr (suc w.0, (let p = w.1 in omega (arith, p)), within_more n S e h.0 es T k w.0 h.1 w.2))

touches_there : (J : List Entry) (S : State) (k : Key) (i : ℕ) → Within 0 first J S k i → Touches J S k i
touches_there J S k i w =
    record {
      state = w.state;
      before = w.before;
      said = w.said;
      there = w.there;
      stmt = w.stmt;
      speaks = w.speaks;
      touches = w.touches;
      rest = subst (λ (p : ℕ). Runs (p + 1) (after p w.state w.said.user w.said.groups w.said.day w.stmt) (drop (i + 1) J) S) (omega arith) w.rest;
    }

-- where a stamp is above 0, the place before it touches the key
touched_at : (J : List Entry) (S : State) (k : Key) (at : ℕ) → Replay J S → S.stamp k ≡ suc at → Touches J S k at
unfolding Traced
touched_at J S k at h e = go (traced 0 first J S k h)
  where
    go : (S.stamp k ≡ 0) ⊎ (S.stamp k ≡ first.stamp k) ⊎ ((i : ℕ) × (S.stamp k ≡ 0 + i + 1) × Within 0 first J S k i) → Touches J S k at
    go (inl z) = absurd (omega (arith, z, e))
    go (inr (inl z)) = absurd (let p : S.stamp k ≡ 0 = z in omega (arith, p, e))
    go (inr (inr w)) = subst (λ (p : ℕ). Touches J S k p) (let p = w.1 in omega (arith, p, e)) (touches_there J S k w.0 w.2)

-- ---- a touch is before the stamp

-- where the key is there, its stamp is of that place or a later one
IsRecent : ℕ → Key → State → Type 0
IsRecent at k S = is_there S.cat S.tables k ≡ true → at < S.stamp k

recent_by : (at n : ℕ) (S U : State) (k : Key) → By n k S U → at ≤ n → IsRecent at k S → IsRecent at k U
unfolding By IsRecent
recent_by at n S U k (inl b) le h there = omega (arith, b.1, le)
recent_by at n S U k (inr (inl b)) le h there = absurd (let j : true ≡ false = sym there ∙ b.0 in cc)
recent_by at n S U k (inr (inr b)) le h there = let p = h (sym (there_stays k S U b.0) ∙ there) in omega (arith, p, b.1)

all_recent : (at n : ℕ) (S : State) (es : List Entry) (T : State) (k : Key) → Runs n S es T → at ≤ n → IsRecent at k S → IsRecent at k T
all_recent at n S [] T k h le i = subst (λ (U : State). IsRecent at k U) (sym h) i
all_recent at n S (e ∷ es) T k h le i = all_recent at (n + 1) h.0 es T k h.2 (omega (arith, le)) (recent_by at n S h.0 k (entry_by n S e h.0 k h.1) le i)

touch_recent : (at : ℕ) (S : State) (d : Changed) (k : Key) → has_key k d.touched ≡ true → IsRecent at k (left_by at S.stamp d)
unfolding IsRecent
touch_recent at S d k touched there =
    let e : stamp_after (is_there d.cat d.tables k) (has_key k d.touched) at (S.stamp k) ≡ at + 1
    = ap (λ (b : Bool). stamp_after b (has_key k d.touched) at (S.stamp k)) there ∙ ap (λ (b : Bool). stamp_after true b at (S.stamp k)) touched in
    omega (arith, e)

-- where a place touches the key, which is there, the stamp is above that place
stamp_above : (J : List Entry) (S : State) (k : Key) (at : ℕ) → Touches J S k at → is_there S.cat S.tables k ≡ true → at < S.stamp k
unfolding IsRecent
stamp_above J S k at t there =
    all_recent at (at + 1) (after at t.state t.said.user t.said.groups t.said.day t.stmt) (drop (at + 1) J) S k t.rest (omega arith)
    (touch_recent at t.state (step t.state t.said.user t.said.groups t.said.day t.stmt) k t.touches) there

-- ---- so the stamp is one more than the last touch

is_stamp : (J : List Entry) (S : State) (k : Key) (n : ℕ) (there : Bool) → Replay J S → S.stamp k ≡ n → is_there S.cat S.tables k ≡ there → IsStamp J S k n
is_stamp J S k zero false h e i = inl i
is_stamp J S k zero true h e i = inr (λ at t. let p = stamp_above J S k at t i in absurd (omega (arith, p, e)))
is_stamp J S k (suc last) false h e i = absurd (let z = absent_is_zero J S k h i in omega (arith, z, e))
is_stamp J S k (suc last) true h e i = (i, touched_at J S k last h e, λ at t. let p = stamp_above J S k at t i in omega (arith, p, e))

pub stamps_are_last_touches : StampsAreLastTouches
stamps_are_last_touches J S k h = is_stamp J S k (S.stamp k) (is_there S.cat S.tables k) h refl refl

-- ---- and no other number is

pub one_stamp : HasOneStamp
one_stamp J S k zero h (inl gone) = sym (absent_is_zero J S k h gone)
one_stamp J S k zero h (inr none) = go (S.stamp k) refl
  where
    go : (n : ℕ) → S.stamp k ≡ n → 0 ≡ S.stamp k
    go zero e = sym e
    go (suc at) e = absurd (none at (touched_at J S k at h e))
one_stamp J S k (suc last) h i = go (S.stamp k) refl
  where
    go : (n : ℕ) → S.stamp k ≡ n → suc last ≡ S.stamp k
    go zero e = absurd (let p = stamp_above J S k last i.1 i.0 in omega (arith, p, e))
    go (suc at) e =
        let p = stamp_above J S k last i.1 i.0 in
        let q = i.2 at (touched_at J S k at h e) in
        omega (arith, p, q, e)
