-- Stamps tell what changed: where a key's stamp is what it was, so are its record and its rows.
use Rattle.std.proofs.Common.{◌≡◌, ◌⊎◌, inl, inr, refl, sym, ap, subst, ◌∙◌, ℕ, zero, suc, ◌+◌, ◌<◌, ◌≤◌, Bool, true, false, List, [], ◌∷◌, length, Option, Some, None, is_some, arith}
use Rattle.std.specs.Prelude.{ℤ, find}
use Rattle.std.specs.Str.{bytes_eq}
use Rattle.lb_base.specs.declared.key.Key.{Key}
use Rattle.lb_base.specs.declared.key.Key.TheVariants as keys
use Rattle.lb_stmt.specs.declared.write.Stmt.{Stmt}
use Rattle.lb_stmt.specs.declared.write.Stmt.TheVariants as stmts
use Rattle.lb_rows.specs.Tables.{Tables, Version, is_version}
use Rattle.lb_cat.specs.declared.entry.Entry.{Entry}
use Rattle.lb_cat.specs.declared.entry.Entry.TheVariants as entries
use Rattle.lb_cat.specs.Catalog.{Cat, table_named, policy_named, component_named, user_named}
use Rattle.lb_cat.specs.Credentials.{cred}
use Rattle.lb_cat.specs.Keys.{has_key}
use Rattle.lb_alter.specs.Refusing.{Changed}
use Rattle.lb_alter.specs.Frame.{SameRecord, SameRows}
use Rattle.lb_alter.proofs.Untouched.{or_left, turned, put_other, untouched_stays, users_stay}
use Rattle.lb_answer.specs.Answer.{Answered}
use Rattle.lb_alter.specs.Naming.{stored_rules}
use Rattle.lb_journal.specs.Rules.{answered_to}
use Rattle.lb_journal.specs.State.{State, first, put_maybe, rows_touched, answered, step, is_there, stamp_after, left_by}
use Rattle.lb_journal.specs.Replay.{Steps, Runs}
use Rattle.lb_journal.specs.Laws.{SameAt, AbsentIsZero, StampsTell, SameStampSameRecord}

-- ---- the same record and the same rows

-- of a catalogue and rows
Kept : Key → Cat → Tables → Cat → Tables → Type 0
Kept k C T D U = SameRecord C D k × SameRows T U k

same_self : (k : Key) (C : Cat) (T : Tables) → SameRecord C C k × SameRows T T k
same_self (keys.Table n) C T = (refl, tt)
same_self (keys.Rows n) C T = (tt, refl)
same_self (keys.Policy n) C T = (refl, tt)
same_self (keys.Component n) C T = (refl, tt)
same_self (keys.User n) C T = (refl, tt)

same_then : (k : Key) (S T U : State) → SameAt k S T → SameAt k T U → SameAt k S U
same_then (keys.Table n) S T U h i = (i.0 ∙ h.0, tt)
same_then (keys.Rows n) S T U h i = (tt, i.1 ∙ h.1)
same_then (keys.Policy n) S T U h i = (i.0 ∙ h.0, tt)
same_then (keys.Component n) S T U h i = (i.0 ∙ h.0, tt)
same_then (keys.User n) S T U h i = (i.0 ∙ h.0, tt)

-- what is there stays there
pub there_stays : (k : Key) (S T : State) → SameAt k S T → is_there T.cat T.tables k ≡ is_there S.cat S.tables k
there_stays (keys.Table n) S T h = ap is_some h.0
there_stays (keys.Rows n) S T h = ap is_some h.1
there_stays (keys.Policy n) S T h = ap is_some h.0
there_stays (keys.Component n) S T h = ap is_some h.0
there_stays (keys.User n) S T h = ap is_some h.0

-- ---- a step

-- a query or a write leaves the record and the rows of every key that it doesn't touch
answered_stays : (C : Cat) (T : Tables) (a : Answered) (k : Key) → has_key k (answered C T a).touched ≡ false → SameRecord C (answered C T a).cat k × SameRows T (answered C T a).tables k
answered_stays C T a k h = go a.table k h
  where
    go : (v : Option Version) (k : Key) → has_key k (rows_touched v) ≡ false → SameRecord C C k × SameRows T (put_maybe v T) k
    go None k h = same_self k C T
    go (Some v) (keys.Table n) h = (refl, tt)
    go (Some v) (keys.Rows n) h = (tt, put_other (λ (x : Version). x.name) v n T (turned n v.name (or_left (bytes_eq n v.name) false h)))
    go (Some v) (keys.Policy n) h = (refl, tt)
    go (Some v) (keys.Component n) h = (refl, tt)
    go (Some v) (keys.User n) h = (refl, tt)

-- and so does every statement
step_stays : (S : State) (user : List ℕ) (groups : List (List ℕ)) (day : ℤ) (s : Stmt) (k : Key) → has_key k (step S user groups day s).touched ≡ false
    → SameRecord S.cat (step S user groups day s).cat k × SameRows S.tables (step S user groups day s).tables k
step_stays S user groups day (stmts.Change c) k h = untouched_stays stored_rules S.cat S.tables user c k h
step_stays S user groups day (stmts.Select s) k h = answered_stays S.cat S.tables (answered_to S.cat (cred S.cat user groups) S.tables day (stmts.Select s)) k h
step_stays S user groups day (stmts.Insert s) k h = answered_stays S.cat S.tables (answered_to S.cat (cred S.cat user groups) S.tables day (stmts.Insert s)) k h
step_stays S user groups day (stmts.Update s) k h = answered_stays S.cat S.tables (answered_to S.cat (cred S.cat user groups) S.tables day (stmts.Update s)) k h
step_stays S user groups day (stmts.Delete s) k h = answered_stays S.cat S.tables (answered_to S.cat (cred S.cat user groups) S.tables day (stmts.Delete s)) k h

-- What an entry does to a key: it touches it, and then the key is new or gone; or it leaves its record and rows, and its stamp where it is there.
unfoldable pub By : ℕ → Key → State → State → Type 0
By at k S T =
    ((is_there T.cat T.tables k ≡ true) × (T.stamp k ≡ at + 1))
    ⊎ ((is_there T.cat T.tables k ≡ false) × (T.stamp k ≡ 0))
    ⊎ (SameAt k S T × (T.stamp k ≡ S.stamp k))

after_by : (at : ℕ) (S : State) (d : Changed) (k : Key) → (has_key k d.touched ≡ false → SameRecord S.cat d.cat k × SameRows S.tables d.tables k) → By at k S (left_by at S.stamp d)
unfolding By
after_by at S d k stays = go (is_there d.cat d.tables k) (has_key k d.touched) refl refl
  where
    go : (there touched : Bool) → is_there d.cat d.tables k ≡ there → has_key k d.touched ≡ touched
        → By at k S (left_by at S.stamp d)
    go true true e f = inl (e, ap (λ (b : Bool). stamp_after b (has_key k d.touched) at (S.stamp k)) e ∙ ap (λ (b : Bool). stamp_after true b at (S.stamp k)) f)
    go true false e f = inr (inr (stays f, ap (λ (b : Bool). stamp_after b (has_key k d.touched) at (S.stamp k)) e ∙ ap (λ (b : Bool). stamp_after true b at (S.stamp k)) f))
    go false touched e f = inr (inl (e, ap (λ (b : Bool). stamp_after b (has_key k d.touched) at (S.stamp k)) e))

pub entry_by : (at : ℕ) (S : State) (e : Entry) (T : State) (k : Key) → Steps at S e T → By at k S T
unfolding By
entry_by at S (entries.Open user groups) T k h =
    subst (λ (U : State). By at k S U) (sym h) (inr (inr (same_self k S.cat S.tables, refl)))
entry_by at S (entries.Said d) T k h =
    subst (λ (U : State). By at k S U) (sym h.2) (after_by at S (step S d.user d.groups d.day h.0) k (step_stays S d.user d.groups d.day h.0 k))

-- ---- some entries

bounded_by : (at : ℕ) (S U : State) (k : Key) → By at k S U → S.stamp k ≤ at → U.stamp k ≤ at + 1
unfolding By
bounded_by at S U k (inl b) le = omega (arith, b.1)
bounded_by at S U k (inr (inl b)) le = omega (arith, b.1)
bounded_by at S U k (inr (inr b)) le = omega (arith, b.1, le)

-- a stamp is at most the number of entries
bounded : (at : ℕ) (S : State) (es : List Entry) (T : State) (k : Key) → Runs at S es T → S.stamp k ≤ at → T.stamp k ≤ at + length es
bounded at S [] T k h le = let e : T.stamp k ≡ S.stamp k = ap (λ (U : State). U.stamp k) h in omega (arith, e, le)
bounded at S (e ∷ es) T k h le = let p = bounded (at + 1) h.0 es T k h.2 (bounded_by at S h.0 k (entry_by at S e h.0 k h.1) le) in omega (arith, p)

-- gone, or touched after the stamp was v
Newer : ℕ → ℕ → Type 0
Newer v stamp = (stamp ≡ 0) ⊎ (v < stamp)

newer_by : (v at : ℕ) (S U : State) (k : Key) → By at k S U → v ≤ at → Newer v (S.stamp k) → Newer v (U.stamp k)
unfolding By Newer
newer_by v at S U k (inl b) le n = inr (omega (arith, b.1, le))
newer_by v at S U k (inr (inl b)) le n = inl b.1
newer_by v at S U k (inr (inr b)) le (inl n) = inl (b.1 ∙ n)
newer_by v at S U k (inr (inr b)) le (inr n) = inr (omega (arith, b.1, n))

-- what was gone or touched stays so
newer : (v at : ℕ) (S : State) (es : List Entry) (T : State) (k : Key) → Runs at S es T → v ≤ at → Newer v (S.stamp k) → Newer v (T.stamp k)
newer v at S [] T k h le n = subst (λ (U : State). Newer v (U.stamp k)) (sym h) n
newer v at S (e ∷ es) T k h le n = newer v (at + 1) h.0 es T k h.2 (omega (arith, le)) (newer_by v at S h.0 k (entry_by at S e h.0 k h.1) le n)

not_newer : (v stamp : ℕ) → 0 < v → stamp ≡ v → Newer v stamp → ⊥
unfolding Newer
not_newer v stamp lt e (inl n) = absurd (omega (arith, lt, e, n))
not_newer v stamp lt e (inr n) = absurd (omega (arith, e, n))

kept_by : (at : ℕ) (S U : State) (k : Key) → By at k S U → S.stamp k ≤ at → (SameAt k S U × (U.stamp k ≡ S.stamp k)) ⊎ Newer (S.stamp k) (U.stamp k)
unfolding By Newer
kept_by at S U k (inl b) le = inr (inr (omega (arith, b.1, le)))
kept_by at S U k (inr (inl b)) le = inr (inl b.1)
kept_by at S U k (inr (inr b)) le = inl b

-- a stamp above 0 that is again what it was: nothing has touched the key
still : (at : ℕ) (S : State) (es : List Entry) (T : State) (k : Key) → Runs at S es T → S.stamp k ≤ at → 0 < S.stamp k → T.stamp k ≡ S.stamp k → SameAt k S T
still at S [] T k h le lt e = subst (λ (U : State). SameAt k S U) (sym h) (same_self k S.cat S.tables)
still at S (f ∷ es) T k h le lt e = go (kept_by at S h.0 k (entry_by at S f h.0 k h.1) le) (λ le' lt' e'. still (at + 1) h.0 es T k h.2 le' lt' e')
  where
    go : (SameAt k S h.0 × (h.0.stamp k ≡ S.stamp k)) ⊎ Newer (S.stamp k) (h.0.stamp k)
        → (h.0.stamp k ≤ at + 1 → 0 < h.0.stamp k → T.stamp k ≡ h.0.stamp k → SameAt k h.0 T) → SameAt k S T
    go (inl b) later = same_then k S h.0 T b.0 (later (omega (arith, b.1, le)) (omega (arith, b.1, lt)) (e ∙ sym b.1))
    go (inr n) later = absurd (not_newer (S.stamp k) (T.stamp k) lt e (newer (S.stamp k) (at + 1) h.0 es T k h.2 (omega (arith, le)) n))

-- ---- what is there has a stamp, or is as it was at first

IsStamped : Key → State → Type 0
IsStamped k S = is_there S.cat S.tables k ≡ true → (0 < S.stamp k) ⊎ SameAt k first S

stamped_by : (at : ℕ) (S U : State) (k : Key) → By at k S U → IsStamped k S → IsStamped k U
unfolding By IsStamped
stamped_by at S U k (inl b) h there = inl (omega (arith, b.1))
stamped_by at S U k (inr (inl b)) h there = absurd (let j : true ≡ false = sym there ∙ b.0 in cc)
stamped_by at S U k (inr (inr b)) h there = go (h (sym (there_stays k S U b.0) ∙ there))
  where
    go : (0 < S.stamp k) ⊎ SameAt k first S → (0 < U.stamp k) ⊎ SameAt k first U
    go (inl lt) = inl (omega (arith, b.1, lt))
    go (inr same) = inr (same_then k first S U same b.0)

all_stamped : (at : ℕ) (S : State) (es : List Entry) (T : State) (k : Key) → Runs at S es T → IsStamped k S → IsStamped k T
all_stamped at S [] T k h i = subst (λ (U : State). IsStamped k U) (sym h) i
all_stamped at S (e ∷ es) T k h i = all_stamped (at + 1) h.0 es T k h.2 (stamped_by at S h.0 k (entry_by at S e h.0 k h.1) i)

first_stamped : (k : Key) → IsStamped k first
unfolding IsStamped
first_stamped k there = inr (same_self k first.cat first.tables)

pub stamps_tell : StampsTell
unfolding IsStamped
stamps_tell J S k h there = all_stamped 0 first J S k h (first_stamped k) there

-- ---- what was there at first stays there

IsKept : Key → State → Type 0
IsKept k S = is_there first.cat first.tables k ≡ true → is_there S.cat S.tables k ≡ true

-- no statement takes a user's record away
step_keeps : (S : State) (user : List ℕ) (groups : List (List ℕ)) (day : ℤ) (s : Stmt) (n : List ℕ) → is_some (user_named S.cat n) ≡ true → is_some (user_named (step S user groups day s).cat n) ≡ true
step_keeps S user groups day (stmts.Change c) n h = users_stay stored_rules S.cat S.tables user c n h
step_keeps S user groups day (stmts.Select s) n h = h
step_keeps S user groups day (stmts.Insert s) n h = h
step_keeps S user groups day (stmts.Update s) n h = h
step_keeps S user groups day (stmts.Delete s) n h = h

entry_keeps : (at : ℕ) (S : State) (e : Entry) (T : State) (k : Key) → Steps at S e T → IsKept k S → IsKept k T
unfolding IsKept
entry_keeps at S (entries.Open user groups) T k h i there = subst (λ (U : State). is_there U.cat U.tables k ≡ true) (sym h) (i there)
entry_keeps at S (entries.Said d) T (keys.User n) h i there =
    subst (λ (U : State). is_some (user_named U.cat n) ≡ true) (sym h.2) (step_keeps S d.user d.groups d.day h.0 n (i there))
entry_keeps at S (entries.Said d) T (keys.Table n) h i there = absurd cc
entry_keeps at S (entries.Said d) T (keys.Rows n) h i there = absurd cc
entry_keeps at S (entries.Said d) T (keys.Policy n) h i there = absurd cc
entry_keeps at S (entries.Said d) T (keys.Component n) h i there = absurd cc

all_kept : (at : ℕ) (S : State) (es : List Entry) (T : State) (k : Key) → Runs at S es T → IsKept k S → IsKept k T
all_kept at S [] T k h i = subst (λ (U : State). IsKept k U) (sym h) i
all_kept at S (e ∷ es) T k h i = all_kept (at + 1) h.0 es T k h.2 (entry_keeps at S e h.0 k h.1 i)

first_kept : (k : Key) → IsKept k first
unfolding IsKept
first_kept k there = there

-- ---- what isn't there has the stamp 0

IsZero : Key → State → Type 0
IsZero k S = is_there S.cat S.tables k ≡ false → S.stamp k ≡ 0

zero_by : (at : ℕ) (S U : State) (k : Key) → By at k S U → IsZero k S → IsZero k U
unfolding By IsZero
zero_by at S U k (inl b) h gone = absurd (let j : true ≡ false = sym b.0 ∙ gone in cc)
zero_by at S U k (inr (inl b)) h gone = b.1
zero_by at S U k (inr (inr b)) h gone = b.1 ∙ h (sym (there_stays k S U b.0) ∙ gone)

all_zero : (at : ℕ) (S : State) (es : List Entry) (T : State) (k : Key) → Runs at S es T → IsZero k S → IsZero k T
all_zero at S [] T k h i = subst (λ (U : State). IsZero k U) (sym h) i
all_zero at S (e ∷ es) T k h i = all_zero (at + 1) h.0 es T k h.2 (zero_by at S h.0 k (entry_by at S e h.0 k h.1) i)

pub absent_is_zero : AbsentIsZero
unfolding IsZero
absent_is_zero J S k h gone = all_zero 0 first J S k h (λ g. refl) gone

-- ---- equal stamps

is_none : {A : Type 0} (o : Option A) → is_some o ≡ false → o ≡ None
is_none None h = refl
is_none (Some x) h = absurd cc

absent : (k : Key) (S T : State) → is_there S.cat S.tables k ≡ false → is_there T.cat T.tables k ≡ false → SameAt k S T
absent (keys.Table n) S T h i = (is_none (table_named T.cat n) i ∙ sym (is_none (table_named S.cat n) h), tt)
absent (keys.Rows n) S T h i = (tt, is_none (find (is_version n) T.tables) i ∙ sym (is_none (find (is_version n) S.tables) h))
absent (keys.Policy n) S T h i = (is_none (policy_named T.cat n) i ∙ sym (is_none (policy_named S.cat n) h), tt)
absent (keys.Component n) S T h i = (is_none (component_named T.cat n) i ∙ sym (is_none (component_named S.cat n) h), tt)
absent (keys.User n) S T h i = (is_none (user_named T.cat n) i ∙ sym (is_none (user_named S.cat n) h), tt)

pub same_turned : (k : Key) (S T : State) → SameAt k S T → SameAt k T S
same_turned (keys.Table n) S T h = (sym h.0, tt)
same_turned (keys.Rows n) S T h = (tt, sym h.1)
same_turned (keys.Policy n) S T h = (sym h.0, tt)
same_turned (keys.Component n) S T h = (sym h.0, tt)
same_turned (keys.User n) S T h = (sym h.0, tt)

-- what is there with the stamp 0 is as it was at first
as_first : (k : Key) (S : State) → IsStamped k S → S.stamp k ≡ 0 → is_there S.cat S.tables k ≡ true → SameAt k first S
unfolding IsStamped
as_first k S h e there = go (h there)
  where
    go : (0 < S.stamp k) ⊎ SameAt k first S → SameAt k first S
    go (inl lt) = absurd (omega (arith, lt, e))
    go (inr same) = same

-- what is there with the stamp 0 in one state is there in every other one
there_too : (k : Key) (S T : State) → IsStamped k S → IsKept k T → S.stamp k ≡ 0 → is_there S.cat S.tables k ≡ true → is_there T.cat T.tables k ≡ true
unfolding IsKept
there_too k S T h kept e there = kept (sym (there_stays k first S (as_first k S h e there)) ∙ there)

-- where the stamp is 0 in both
both_zero : (k : Key) (S T : State) → IsStamped k S → IsStamped k T → IsKept k S → IsKept k T → S.stamp k ≡ 0 → T.stamp k ≡ 0 → SameAt k S T
both_zero k S T h i kept_S kept_T e f = go (is_there S.cat S.tables k) (is_there T.cat T.tables k) refl refl
  where
    go : (a b : Bool) → is_there S.cat S.tables k ≡ a → is_there T.cat T.tables k ≡ b → SameAt k S T
    go true true p q = same_then k S first T (same_turned k first S (as_first k S h e p)) (as_first k T i f q)
    go false false p q = absent k S T p q
    go true false p q = absurd (let j : true ≡ false = sym (there_too k S T h kept_T e p) ∙ q in cc)
    go false true p q = absurd (let j : true ≡ false = sym (there_too k T S i kept_S f q) ∙ p in cc)

pub same_record : SameStampSameRecord
same_record J K S T k h r e = go (S.stamp k) refl
  where
    replayed : S.stamp k ≤ length J
    replayed = let p = bounded 0 first J S k h (omega arith) in omega (arith, p)

    of_S : IsStamped k S
    of_S = all_stamped 0 first J S k h (first_stamped k)

    kept_S : IsKept k S
    kept_S = all_kept 0 first J S k h (first_kept k)

    go : (n : ℕ) → S.stamp k ≡ n → SameAt k S T
    go zero f = both_zero k S T of_S (all_stamped (length J) S K T k r of_S) kept_S (all_kept (length J) S K T k r kept_S) f (e ∙ f)
    go (suc n) f = still (length J) S K T k r replayed (omega (arith, f)) e
