-- A session told one statement after the other, after the entries that stood before it.
use Rattle.std.proofs.Common.{◌≡◌, inl, inr, ℕ, zero, suc, ◌+◌, ◌<◌, ◌≤◌, List, [], ◌∷◌, ◌++◌, length, take, Option, Some, None, refl, sym, ap, subst, ◌∙◌, append_assoc, zero-add, arith}
use Rattle.std.specs.Prelude.{ℤ, slice_get}
use Rattle.std.proofs.Math.Seq.{take-length}
use Rattle.std.proofs.lemmas.List.{append-nil, take-append-le, length-append}
use Rattle.lb_cat.specs.declared.entry.Entry.{Entry}
use Rattle.lb_cat.specs.declared.entry.Entry.TheVariants as entries
use Rattle.lb_cat.specs.declared.entry.Said.{Said}
use Rattle.lb_cat.specs.declared.answer.Answer.{Answer}
use Rattle.lb_model.specs.Journal.{IsMade, mine, opens}
use Rattle.lb_model.specs.Told.{Placed, Unplaced, Told, places, count_from}
use Rattle.lb_model.specs.Sections.{Section, SectionResult, opened, IsTold, places_in}
use Rattle.lb_model.specs.Telling.{end_of, Telling, SectionJournaled}
use Rattle.lb_model.proofs.Longer.{end_of_more, told_left, told_unplaced, told_placed, mine_more, places_more, count_more}
use Rattle.lb_model.proofs.Sessions.{opens_more, opens_open, opens_with_said, mine_later, mine_open, mine_other, get_at}

-- a session that was opened now
pub telling_first : (I : List Entry) (limit : ℕ) (user : List ℕ) (groups : List (List ℕ)) → IsMade I → Telling I (I ++ entries.Open user groups ∷ []) limit (opens I) user groups [] [] []
telling_first I limit user groups made =
    let none : mine (I ++ entries.Open user groups ∷ []) (opens I) ≡ [] = mine_open I user groups (opens I) ∙ mine_later I (opens I) made (omega arith) in
    record {
      added = [];
      grown = refl;
      others = λ n lt. mine_open I user groups n;
      of_number = refl;
      told = none;
      behind = rw none (sym (length-append I (entries.Open user groups ∷ [])));
      counted = refl;
    }

-- one answer more, without a place
pub telling_unplaced : (I J : List Entry) (limit number : ℕ) (user : List ℕ) (groups : List (List ℕ)) (texts : List (List ℕ)) (days : List ℤ) (ans : List Answer) (text : List ℕ) (day : ℤ) (a : Answer)
    → Telling I J limit number user groups texts days ans → Unplaced J limit (length J) user text a
    → Telling I J limit number user groups (texts ++ text ∷ []) (days ++ day ∷ []) (ans ++ a ∷ [])
telling_unplaced I J limit number user groups texts days ans text day a h u =
    let here : Unplaced J limit (end_of (length I + 1) (mine J number)) user text a = subst (λ (n : ℕ). Unplaced J limit n user text a) (sym h.behind) u in
    let none : places (ans ++ a ∷ []) ≡ places ans = places_more ans a ∙ rw u.place (append-nil (places ans)) in
    record {
      added = h.added;
      grown = h.grown;
      others = h.others;
      of_number = h.of_number;
      told = told_unplaced J limit user (length I + 1) (mine J number) texts days ans text day a h.told here;
      behind = h.behind;
      counted = rw none h.counted;
    }

-- one answer more, with the place of one entry more
pub telling_placed : (I J : List Entry) (limit number : ℕ) (user : List ℕ) (groups : List (List ℕ)) (texts : List (List ℕ)) (days : List ℤ) (ans : List Answer) (text : List ℕ) (day : ℤ) (a : Answer) (said : Said)
    → Telling I J limit number user groups texts days ans → said.session ≡ number → Placed (J ++ entries.Said said ∷ []) user text day (length J, said) a → length (J ++ entries.Said said ∷ []) ≤ limit
    → Telling I (J ++ entries.Said said ∷ []) limit number user groups (texts ++ text ∷ []) (days ++ day ∷ []) (ans ++ a ∷ [])
telling_placed I J limit number user groups texts days ans text day a said h own placed within =
    let K : List Entry = entries.Said said ∷ [] in
    let len : length (J ++ K) ≡ length J + 1 = length-append J K in
    let room : length J < limit = omega (arith, within, len) in
    let next : mine (J ++ K) number ≡ mine J number ++ (length J, said) ∷ [] = mine_more J said number own in
    let told = told_left J K limit user (length I + 1) (mine J number) texts days ans room h.told in
    let one : places (ans ++ a ∷ []) ≡ places ans ++ length J ∷ [] = places_more ans a ∙ rw placed.place refl in
    let before : length J ≡ length I + (length h.added + 1) = ap (λ (L : List Entry). length L) h.grown ∙ length-append I (entries.Open user groups ∷ h.added) ∙ omega arith in
    let size : length (h.added ++ K) ≡ length h.added + 1 = length-append h.added K in
    let more : count_from (length I) ((length h.added + 1) + 1) ≡ count_from (length I) (length h.added + 1) ++ (length I + (length h.added + 1)) ∷ [] = count_more (length I) (length h.added + 1) in
    record {
      added = h.added ++ K;
      grown = ap (λ (L : List Entry). L ++ K) h.grown ∙ append_assoc I (entries.Open user groups ∷ h.added) K;
      others = λ n lt. mine_other J said n (omega (arith, lt, own, h.of_number)) ∙ h.others n lt;
      of_number = h.of_number;
      told = rw next (told_placed (J ++ K) limit user (length I + 1) (mine J number) texts days ans text day a (length J, said) told placed);
      behind = rw (next, len) (end_of_more (length I + 1) (mine J number) (length J, said));
      counted = rw (one, size, more, ← before, ← h.counted) refl;
    }

-- of a session that was told, the section was run
pub ran_session : (I J : List Entry) (limit number : ℕ) (user : List ℕ) (groups : List (List ℕ)) (texts : List (List ℕ)) (days : List ℤ) (ans : List Answer) → Telling I J limit number user groups texts days ans
    → SectionJournaled I J limit (record { user = user; groups = groups; texts = texts }) (record { opening = opened (length I) number; days = days; answers = ans })
ran_session I J limit number user groups texts days ans h =
    let there : slice_get J (length I) ≡ Some (entries.Open user groups) = subst (λ (L : List Entry). slice_get L (length I) ≡ Some (entries.Open user groups)) (sym h.grown) (get_at I (entries.Open user groups) h.added) in
    let front : take (length I) J ≡ I = ap (λ (L : List Entry). take (length I) L) h.grown ∙ take-append-le (length I) I (entries.Open user groups ∷ h.added) (omega arith) ∙ take-length I in
    record {
      added = entries.Open user groups ∷ h.added;
      grown = h.grown;
      others = h.others;
      told = (refl, there, h.of_number ∙ ap (λ (L : List Entry). opens L) (sym front), h.told);
      counted = (let one : length h.added + 1 ≡ length (entries.Open user groups ∷ h.added) = omega arith in h.counted ∙ ap (λ (n : ℕ). count_from (length I) n) one);
    }
