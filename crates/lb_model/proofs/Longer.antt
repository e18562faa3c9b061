-- What was told of a journal stays told of it as it grows, and one answer more.
use Rattle.std.proofs.Common.{Bool, true, false, cond, ◌≡◌, ◌⊎◌, inl, inr, ℕ, zero, suc, ◌+◌, ◌<◌, ◌≤◌, List, [], ◌∷◌, ◌++◌, length, take, Option, Some, None, refl, sym, ap, subst, ◌∙◌, append_assoc, add-zero, zero-add, arith}
use Rattle.std.specs.Prelude.{ℤ, slice_get, ◌==◌, count_by}
use Rattle.std.proofs.lemmas.Option.{slice_get_within}
use Rattle.std.proofs.lemmas.Bool.Decides.{nat_tests}
use Rattle.std.proofs.Math.Seq.{take-length}
use Rattle.std.proofs.lemmas.List.{append-nil, take-append-le, length-append}
use Rattle.lb_stmt.specs.declared.write.Stmt.{Stmt}
use Rattle.lb_cat.specs.declared.entry.Entry.{Entry}
use Rattle.lb_cat.specs.declared.entry.Entry.TheVariants as entries
use Rattle.lb_cat.specs.declared.entry.Said.{Said}
use Rattle.lb_cat.specs.declared.answer.Answer.{Answer}
use Rattle.lb_cat.specs.declared.reply.Reply.{Reply}
use Rattle.lb_model.specs.Step.{State, first}
use Rattle.lb_model.specs.Journal.{Follows, MadeFrom, IsMade, mine_from, mine, opened_by, said_by, is_said_by}
use Rattle.lb_model.specs.Replay.{Replay, Runs, Rep}
use Rattle.lb_model.specs.Telling.{end_of}
use Rattle.lb_model.specs.Told.{Placed, IsUnplaced, Unplaced, Told, places, places_and, count_from}

pub get_left : {A : Type 0} (xs ys : List A) (k : ℕ) (x : A) → slice_get xs k ≡ Some x → slice_get (xs ++ ys) k ≡ Some x
get_left [] ys k x h = absurd cc
get_left (y ∷ xs) ys zero x h = h
get_left (y ∷ xs) ys (suc k) x h = get_left xs ys k x h

pub get_end : {A : Type 0} (xs : List A) (y : A) → slice_get (xs ++ y ∷ []) (length xs) ≡ Some y
get_end [] y = refl
get_end (x ∷ xs) y = get_end xs y

-- what the first entries leave hangs on them alone
pub replay_left : (J K : List Entry) (at : ℕ) (S : State) → at ≤ length J → Replay (take at J) S → Replay (take at (J ++ K)) S
replay_left J K at S le h = subst (λ (t : List Entry). Replay t S) (sym (take-append-le at J K le)) h

pub rep_left : (J K : List Entry) (k : ℕ) (r : Reply) → Rep J k r → Rep (J ++ K) k r
rep_left J K k r h =
    let within : k < length J = slice_get_within J k h.entry h.there in
    record {
      state = h.state;
      before = replay_left J K k h.state (omega arith) h.before;
      entry = h.entry;
      there = get_left J K k h.entry h.there;
      gives = h.gives;
    }

pub placed_left : (J K : List Entry) (user text : List ℕ) (day : ℤ) (e : ℕ × Said) (a : Answer) → Placed J user text day e a → Placed (J ++ K) user text day e a
placed_left J K user text day e a h =
    let within : e.0 < length J = slice_get_within J e.0 (entries.Said e.1) h.there in
    record {
      place = h.place;
      there = get_left J K e.0 (entries.Said e.1) h.there;
      stmt = h.stmt;
      state = h.state;
      before = replay_left J K e.0 h.state (omega arith) h.before;
      built = h.built;
      said = h.said;
      today = h.today;
      mark = h.mark;
      reply = elim h.reply [ inl r ↦ inl (rep_left J K e.0 a.reply r) | inr q ↦ inr q ];
    }

cause_left : (J K : List Entry) (limit at : ℕ) (S : State) (user text : List ℕ) (r : Reply) → length J < limit → IsUnplaced J limit at S user text r → IsUnplaced (J ++ K) limit at S user text r
cause_left J K limit at S user text r lt (inl h) = inl h
cause_left J K limit at S user text r lt (inr (inl h)) = inr (inl h)
cause_left J K limit at S user text r lt (inr (inr (inl h))) = inr (inr (inl h))
cause_left J K limit at S user text r lt (inr (inr (inr h))) = let full : length J ≡ limit = h.3 in absurd (omega arith)

pub unplaced_left : (J K : List Entry) (limit at : ℕ) (user text : List ℕ) (a : Answer) → length J < limit → Unplaced J limit at user text a → Unplaced (J ++ K) limit at user text a
unplaced_left J K limit at user text a lt h = record {
  place = h.place;
  mark = h.mark;
  within = omega (arith, h.within, length-append J K);
  state = h.state;
  before = replay_left J K at h.state h.within h.before;
  cause = cause_left J K limit at h.state user text a.reply lt h.cause;
}

-- what was told stays told
pub told_left : (J K : List Entry) (limit : ℕ) (user : List ℕ) (at : ℕ) (next : List (ℕ × Said)) (ts : List (List ℕ)) (ds : List ℤ) (ans : List Answer)
    → length J < limit → Told J limit user at next ts ds ans → Told (J ++ K) limit user at next ts ds ans
told_left J K limit user at next [] [] [] lt h = h
told_left J K limit user at [] (t ∷ ts) (d ∷ ds) (a ∷ ans) lt h = (unplaced_left J K limit at user t a lt h.0, told_left J K limit user at [] ts ds ans lt h.1)
told_left J K limit user at (e ∷ next) (t ∷ ts) (d ∷ ds) (a ∷ ans) lt (inl h) = inl (unplaced_left J K limit at user t a lt h.0, told_left J K limit user at (e ∷ next) ts ds ans lt h.1)
told_left J K limit user at (e ∷ next) (t ∷ ts) (d ∷ ds) (a ∷ ans) lt (inr h) = inr (placed_left J K user t d e a h.0, told_left J K limit user (e.0 + 1) next ts ds ans lt h.1)
told_left J K limit user at next [] [] (a ∷ ans) lt h = absurd h
told_left J K limit user at next [] (d ∷ ds) ans lt h = absurd h
told_left J K limit user at [] (t ∷ ts) [] ans lt h = absurd h
told_left J K limit user at (n ∷ next) (t ∷ ts) [] ans lt h = absurd h
told_left J K limit user at [] (t ∷ ts) (d ∷ ds) [] lt h = absurd h
told_left J K limit user at (n ∷ next) (t ∷ ts) (d ∷ ds) [] lt h = absurd h

-- with one entry more
pub end_of_more : (at : ℕ) (next : List (ℕ × Said)) (e : ℕ × Said) → end_of at (next ++ e ∷ []) ≡ e.0 + 1
end_of_more at [] e = refl
end_of_more at (f ∷ next) e = end_of_more (f.0 + 1) next e

-- one answer more, without a place
pub told_unplaced : (J : List Entry) (limit : ℕ) (user : List ℕ) (at : ℕ) (next : List (ℕ × Said)) (ts : List (List ℕ)) (ds : List ℤ) (ans : List Answer) (t : List ℕ) (d : ℤ) (a : Answer)
    → Told J limit user at next ts ds ans → Unplaced J limit (end_of at next) user t a → Told J limit user at next (ts ++ t ∷ []) (ds ++ d ∷ []) (ans ++ a ∷ [])
told_unplaced J limit user at [] [] [] [] t d a h u = (u, h)
told_unplaced J limit user at (e ∷ next) [] [] [] t d a h u = absurd cc
told_unplaced J limit user at [] (s ∷ ts) (c ∷ ds) (b ∷ ans) t d a h u = (h.0, told_unplaced J limit user at [] ts ds ans t d a h.1 u)
told_unplaced J limit user at (e ∷ next) (s ∷ ts) (c ∷ ds) (b ∷ ans) t d a (inl h) u = inl (h.0, told_unplaced J limit user at (e ∷ next) ts ds ans t d a h.1 u)
told_unplaced J limit user at (e ∷ next) (s ∷ ts) (c ∷ ds) (b ∷ ans) t d a (inr h) u = inr (h.0, told_unplaced J limit user (e.0 + 1) next ts ds ans t d a h.1 u)
told_unplaced J limit user at next [] [] (b ∷ ans) t d a h u = absurd h
told_unplaced J limit user at next [] (c ∷ ds) ans t d a h u = absurd h
told_unplaced J limit user at [] (s ∷ ts) [] ans t d a h u = absurd h
told_unplaced J limit user at (n ∷ next) (s ∷ ts) [] ans t d a h u = absurd h
told_unplaced J limit user at [] (s ∷ ts) (c ∷ ds) [] t d a h u = absurd h
told_unplaced J limit user at (n ∷ next) (s ∷ ts) (c ∷ ds) [] t d a h u = absurd h

-- one answer more, of one entry more
pub told_placed : (J : List Entry) (limit : ℕ) (user : List ℕ) (at : ℕ) (next : List (ℕ × Said)) (ts : List (List ℕ)) (ds : List ℤ) (ans : List Answer) (t : List ℕ) (d : ℤ) (a : Answer) (e : ℕ × Said)
    → Told J limit user at next ts ds ans → Placed J user t d e a → Told J limit user at (next ++ e ∷ []) (ts ++ t ∷ []) (ds ++ d ∷ []) (ans ++ a ∷ [])
told_placed J limit user at [] [] [] [] t d a e h p = inr (p, refl)
told_placed J limit user at (f ∷ next) [] [] [] t d a e h p = absurd cc
told_placed J limit user at [] (s ∷ ts) (c ∷ ds) (b ∷ ans) t d a e h p = inl (h.0, told_placed J limit user at [] ts ds ans t d a e h.1 p)
told_placed J limit user at (f ∷ next) (s ∷ ts) (c ∷ ds) (b ∷ ans) t d a e (inl h) p = inl (h.0, told_placed J limit user at (f ∷ next) ts ds ans t d a e h.1 p)
told_placed J limit user at (f ∷ next) (s ∷ ts) (c ∷ ds) (b ∷ ans) t d a e (inr h) p = inr (h.0, told_placed J limit user (f.0 + 1) next ts ds ans t d a e h.1 p)
told_placed J limit user at next [] [] (b ∷ ans) t d a e h p = absurd h
told_placed J limit user at next [] (c ∷ ds) ans t d a e h p = absurd h
told_placed J limit user at [] (s ∷ ts) [] ans t d a e h p = absurd h
told_placed J limit user at (n ∷ next) (s ∷ ts) [] ans t d a e h p = absurd h
told_placed J limit user at [] (s ∷ ts) (c ∷ ds) [] t d a e h p = absurd h
told_placed J limit user at (n ∷ next) (s ∷ ts) (c ∷ ds) [] t d a e h p = absurd h

shifted : (at n : ℕ) → (at + 1) + n ≡ at + suc n
shifted at n = omega arith

chosen : {A : Type 0} (b : Bool) (x : A) (xs ys : List A) → cond b (x ∷ (xs ++ ys)) (xs ++ ys) ≡ cond b (x ∷ xs) xs ++ ys
chosen true x xs ys = refl
chosen false x xs ys = refl

pub mine_from_more : (s at : ℕ) (J K : List Entry) → mine_from s at (J ++ K) ≡ mine_from s at J ++ mine_from s (at + length J) K
mine_from_more s at [] K = rw add-zero refl
mine_from_more s at (entries.Open user groups ∷ es) K = rw (← shifted at (length es)) (mine_from_more s (at + 1) es K)
mine_from_more s at (entries.Said d ∷ es) K =
    rw (← shifted at (length es)) (rw (mine_from_more s (at + 1) es K) (chosen (d.session == s) (at, d) (mine_from s (at + 1) es) (mine_from s ((at + 1) + length es) K)))

itself : (s : ℕ) → (s == s) ≡ true
itself s = grind (arith, nat_tests)

-- the session's entries, once one of its statements is after the journal
pub mine_more : (J : List Entry) (d : Said) (s : ℕ) → d.session ≡ s → mine (J ++ entries.Said d ∷ []) s ≡ mine J s ++ (length J, d) ∷ []
mine_more J d s h =
    mine_from_more s 0 J (entries.Said d ∷ []) ∙ rw (zero-add (length J), h, itself s) refl

pub made_from_more : (J K : List Entry) (e : Entry) → MadeFrom J K → Follows (J ++ K) e → MadeFrom J (K ++ e ∷ [])
made_from_more J [] e h f = (subst (λ (x : List Entry). Follows x e) (append-nil J) f, tt)
made_from_more J (g ∷ gs) e h f = (h.0, made_from_more (J ++ g ∷ []) gs e h.1 (subst (λ (x : List Entry). Follows x e) (sym (append_assoc J (g ∷ []) gs)) f))

pub made_more : (J : List Entry) (e : Entry) → IsMade J → Follows J e → IsMade (J ++ e ∷ [])
made_more J e h f = made_from_more [] J e h f

-- who opened a session stays
pub opened_more : (J K : List Entry) (s : ℕ) (who : List ℕ × List (List ℕ)) → opened_by J s ≡ Some who → opened_by (J ++ K) s ≡ Some who
opened_more [] K s who h = absurd cc
opened_more (entries.Open user groups ∷ es) K zero who h = h
opened_more (entries.Open user groups ∷ es) K (suc s) who h = opened_more es K s who h
opened_more (entries.Said d ∷ es) K s who h = opened_more es K s who h

pub places_more : (ans : List Answer) (a : Answer) → places (ans ++ a ∷ []) ≡ places ans ++ places_and a.place []
places_more [] a = refl
places_more (b ∷ ans) a = places_and_more b.place (places (ans ++ a ∷ [])) (places ans) (places_and a.place []) (places_more ans a)
  where
    places_and_more : (p : Option ℕ) (x y z : List ℕ) → x ≡ y ++ z → places_and p x ≡ places_and p y ++ z
    places_and_more None x y z h = h
    places_and_more (Some p) x y z h = ap (λ (t : List ℕ). p ∷ t) h

pub count_more : (at n : ℕ) → count_from at (n + 1) ≡ count_from at n ++ (at + n) ∷ []
count_more at zero = rw add-zero refl
count_more at (suc n) =
    let e : (at + 1) + n ≡ at + suc n = omega arith in
    let f : suc n + 1 ≡ suc (n + 1) = omega arith in
    let g : count_from (at + 1) (n + 1) ≡ count_from (at + 1) n ++ (at + suc n) ∷ [] = subst (λ (k : ℕ). count_from (at + 1) (n + 1) ≡ count_from (at + 1) n ++ k ∷ []) e (count_more (at + 1) n) in
    rw f (ap (λ (t : List ℕ). at ∷ t) g)
