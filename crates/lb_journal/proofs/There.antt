-- A well-made journal leaves a state, and has a reply at the place of each statement.
use Rattle.std.proofs.Common.{◌≡◌, ℕ, zero, suc, ◌+◌, List, [], ◌∷◌, ◌++◌, length, take, Some, refl, sym, subst, append_assoc, add-zero, arith}
use Rattle.std.specs.Prelude.{slice_get}
use Rattle.std.proofs.lemmas.List.{append-nil}
use Rattle.lb_cat.specs.declared.entry.Said.{Said}
use Rattle.lb_cat.specs.declared.entry.Entry.{Entry}
use Rattle.lb_cat.specs.declared.entry.Entry.TheVariants as entries
use Rattle.lb_cat.specs.declared.reply.Reply.{Reply}
use Rattle.lb_journal.specs.State.{State, first, after, step}
use Rattle.lb_journal.specs.Journal.{Follows, FollowsSaid, MadeFrom, IsMade}
use Rattle.lb_journal.specs.Replay.{Steps, Runs, Replay, Rep}

-- one entry more
pub runs_more : (at : ℕ) (S : State) (J : List Entry) (T : State) (e : Entry) (U : State) → Runs at S J T → Steps (at + length J) T e U → Runs at S (J ++ e ∷ []) U
runs_more at S [] T e U r s = (U, subst (λ (V : State). Steps at V e U) r (subst (λ (n : ℕ). Steps n T e U) (add-zero at) s), refl)
runs_more at S (f ∷ es) T e U r s = (r.0, r.1, runs_more (at + 1) r.0 es T e U r.2 (subst (λ (n : ℕ). Steps n T e U) (omega arith) s))

step_there : (at : ℕ) (J : List Entry) (S : State) (e : Entry) → Follows J e → (T : State) × Steps at S e T
step_there at J S (entries.Open user groups) h = (S, refl)
step_there at J S (entries.Said d) h = (after at S d.user d.groups d.day h.stmt, (h.stmt, h.speaks, refl))

runs_there : (at : ℕ) (J K : List Entry) (S : State) → MadeFrom J K → (T : State) × Runs at S K T
runs_there at J [] S h = (S, refl)
runs_there at J (e ∷ es) S h =
    let p = step_there at J S e h.0 in
    let q = runs_there (at + 1) (J ++ e ∷ []) es p.0 h.1 in
    (q.0, (p.0, p.1, q.1))

-- a well-made journal leaves a state
pub replay_there : (J : List Entry) → IsMade J → (T : State) × Replay J T
replay_there J h = runs_there 0 [] J first h

made_take : (J K : List Entry) (k : ℕ) → MadeFrom J K → MadeFrom J (take k K)
made_take J [] zero h = h
made_take J [] (suc k) h = h
made_take J (e ∷ es) zero h = tt
made_take J (e ∷ es) (suc k) h = (h.0, made_take (J ++ e ∷ []) es k h.1)

-- what an entry owes to those before it
pub made_at : (J K : List Entry) (k : ℕ) (e : Entry) → MadeFrom J K → slice_get K k ≡ Some e → Follows (J ++ take k K) e
made_at J [] k e h i = absurd cc
made_at J (f ∷ es) zero e h i =
    let j : f ≡ e = cc in
    subst (λ (x : Entry). Follows (J ++ []) x) j (subst (λ (x : List Entry). Follows x f) (sym (append-nil J)) h.0)
made_at J (f ∷ es) (suc k) e h i = subst (λ (x : List Entry). Follows x e) (append_assoc J (f ∷ []) (take k es)) (made_at (J ++ f ∷ []) es k e h.1 i)

-- at the place of a statement there is a reply
pub rep_there : (J : List Entry) (k : ℕ) (d : Said) → IsMade J → slice_get J k ≡ Some (entries.Said d) → (r : Reply) × Rep J k r
rep_there J k d h i =
    let p = replay_there (take k J) (made_take [] J k h) in
    let f : FollowsSaid ([] ++ take k J) d = made_at [] J k (entries.Said d) h i in
    ((step p.0 d.user d.groups d.day f.stmt).reply, record { state = p.0; before = p.1; entry = entries.Said d; there = i; gives = (f.stmt, f.speaks, refl) })
