-- Sections that were told stay told as the journal grows after them, and one section more.
use Rattle.std.proofs.Common.{◌≡◌, ℕ, zero, suc, ◌+◌, ◌<◌, ◌≤◌, List, [], ◌∷◌, ◌++◌, length, take, flat_map, Option, Some, None, refl, sym, ap, subst, ◌∙◌, append_assoc, arith}
use Rattle.std.specs.Prelude.{ℤ, slice_get}
use Rattle.std.proofs.lemmas.Option.{slice_get_within}
use Rattle.std.proofs.lemmas.List.{append-nil, take-append-le, length-append}
use Rattle.std.proofs.lemmas.List.Concat.{flat_map-append}
use Rattle.lb_cat.specs.declared.entry.Entry.{Entry}
use Rattle.lb_cat.specs.declared.entry.Entry.TheVariants as entries
use Rattle.lb_cat.specs.declared.answer.Answer.{Answer}
use Rattle.lb_model.specs.Journal.{mine, opens}
use Rattle.lb_model.specs.Told.{Told, count_from}
use Rattle.lb_model.specs.Sections.{Section, SessionOpening, opened, full, SectionResult, IsTold, AreTold, places_in, section_text, out, IsFront}
use Rattle.lb_model.specs.Sections as sections
use Rattle.lb_model.specs.Telling.{SectionJournaled, first_of}
use Rattle.lb_model.proofs.Longer.{get_left, told_left}
use Rattle.lb_model.proofs.Sessions.{opens_open, opens_said}

-- ---- as the journal grows

-- before the place of an Open fewer sessions were opened
opened_before : (J : List Entry) (place : ℕ) (user : List ℕ) (groups : List (List ℕ)) → slice_get J place ≡ Some (entries.Open user groups) → opens (take place J) < opens J
opened_before [] place user groups h = absurd cc
opened_before (entries.Open u g ∷ es) zero user groups h = let one = opens_open u g es in omega (arith, one)
opened_before (entries.Said d ∷ es) zero user groups h = absurd cc
opened_before (entries.Open u g ∷ es) (suc place) user groups h =
    let one = opens_open u g es in
    let two = opens_open u g (take place es) in
    let rest = opened_before es place user groups h in
    omega (arith, one, two, rest)
opened_before (entries.Said d ∷ es) (suc place) user groups h =
    let one = opens_said d es in
    let two = opens_said d (take place es) in
    let rest = opened_before es place user groups h in
    omega (arith, one, two, rest)

told_grown : (J K : List Entry) (limit at : ℕ) (s : Section) (o : SessionOpening) (days : List ℤ) (answers : List Answer) → length J < limit → ((n : ℕ) → n < opens J → mine (J ++ K) n ≡ mine J n)
    → IsTold J limit at s o days answers → IsTold (J ++ K) limit at s o days answers
told_grown J K limit at s (opened place number) days answers lt others h =
    let there = get_left J K place (entries.Open s.user s.groups) h.1 in
    let within : place < length J = slice_get_within J place (entries.Open s.user s.groups) h.1 in
    let front : take place (J ++ K) ≡ take place J = take-append-le place J K (omega arith) in
    let below : number < opens J = subst (λ (n : ℕ). n < opens J) (sym h.2) (opened_before J place s.user s.groups h.1) in
    let told : Told (J ++ K) limit s.user (place + 1) (mine (J ++ K) number) s.texts days answers = rw (others number below) (told_left J K limit s.user (place + 1) (mine J number) s.texts days answers lt h.3) in
    (h.0, there, h.2 ∙ ap (λ (L : List Entry). opens L) (sym front), told)
told_grown J K limit at s full days answers lt others h = absurd (omega (arith, lt, h.1))

are_told_grown : (J K : List Entry) (limit at : ℕ) (ss : List Section) (os : List SectionResult) → length J < limit → ((n : ℕ) → n < opens J → mine (J ++ K) n ≡ mine J n) → AreTold J limit at ss os → AreTold (J ++ K) limit at ss os
are_told_grown J K limit at [] [] lt others h = h
are_told_grown J K limit at (s ∷ ss) (o ∷ os) lt others h = (told_grown J K limit at s o.opening o.days o.answers lt others h.0, are_told_grown J K limit (at + length (places_in o)) ss os lt others h.1)
are_told_grown J K limit at [] (o ∷ os) lt others h = absurd h
are_told_grown J K limit at (s ∷ ss) [] lt others h = absurd h

-- entries after the journal, none of them of its sessions, leave what was told
pub are_told_behind : (J K added : List Entry) (limit at : ℕ) (ss : List Section) (os : List SectionResult) → K ≡ J ++ added → length K ≤ limit → ((n : ℕ) → n < opens J → mine K n ≡ mine J n) → AreTold J limit at ss os → AreTold K limit at ss os
are_told_behind J K [] limit at ss os e le others h = subst (λ (L : List Entry). AreTold L limit at ss os) (sym (e ∙ append-nil J)) h
are_told_behind J K (x ∷ xs) limit at ss os e le others h =
    let size : length K ≡ length J + length (x ∷ xs) = ap (λ (L : List Entry). length L) e ∙ length-append J (x ∷ xs) in
    let lt : length J < limit = omega (arith, size, le) in
    subst (λ (L : List Entry). AreTold L limit at ss os) (sym e)
    (are_told_grown J (x ∷ xs) limit at ss os lt (λ n below. ap (λ (L : List Entry). mine L n) (sym e) ∙ others n below) h)

-- ---- one section more

pub are_told_more : (K : List Entry) (limit at : ℕ) (ss : List Section) (os : List SectionResult) (s : Section) (o : SectionResult) → AreTold K limit at ss os → IsTold K limit (at + length (flat_map places_in os)) s o.opening o.days o.answers
    → AreTold K limit at (ss ++ s ∷ []) (os ++ o ∷ [])
are_told_more K limit at [] [] s o h t = (let same : at + length (flat_map places_in []) ≡ at = omega arith in subst (λ (n : ℕ). IsTold K limit n s o.opening o.days o.answers) same t, tt)
are_told_more K limit at (r ∷ ss) (p ∷ os) s o h t =
    let sum : length (flat_map places_in (p ∷ os)) ≡ length (places_in p) + length (flat_map places_in os) = length-append (places_in p) (flat_map places_in os) in
    let same : at + length (flat_map places_in (p ∷ os)) ≡ (at + length (places_in p)) + length (flat_map places_in os) = omega (arith, sum) in
    (h.0, are_told_more K limit (at + length (places_in p)) ss os s o h.1 (subst (λ (n : ℕ). IsTold K limit n s o.opening o.days o.answers) same t))
are_told_more K limit at [] (p ∷ os) s o h t = absurd h
are_told_more K limit at (r ∷ ss) [] s o h t = absurd h

pub out_more : (K : List Entry) (limit at : ℕ) (ss : List Section) (os : List SectionResult) (s : Section) (o : SectionResult) → AreTold K limit at ss os → out limit (ss ++ s ∷ []) (os ++ o ∷ []) ≡ out limit ss os ++ section_text limit s o
out_more K limit at [] [] s o h = append-nil (section_text limit s o)
out_more K limit at (r ∷ ss) (p ∷ os) s o h =
    ap (λ (t : List ℕ). section_text limit r p ++ t) (out_more K limit (at + length (places_in p)) ss os s o h.1) ∙ sym (append_assoc (section_text limit r p) (out limit ss os) (section_text limit s o))
out_more K limit at [] (p ∷ os) s o h = absurd h
out_more K limit at (r ∷ ss) [] s o h = absurd h

count_length : (at n : ℕ) → length (count_from at n) ≡ n
count_length at zero = refl
count_length at (suc n) = ap suc (count_length (at + 1) n)

count_join : (at m n : ℕ) → count_from at m ++ count_from (at + m) n ≡ count_from at (m + n)
count_join at zero n =
    let one : at + 0 ≡ at = omega arith in
    let two : 0 + n ≡ n = omega arith in
    ap (λ (k : ℕ). count_from k n) one ∙ ap (λ (k : ℕ). count_from at k) (sym two)
count_join at (suc m) n =
    let one : at + suc m ≡ (at + 1) + m = omega arith in
    let two : suc m + n ≡ suc (m + n) = omega arith in
    ap (λ (k : ℕ). at ∷ (count_from (at + 1) m ++ count_from k n)) one ∙ ap (λ (t : List ℕ). at ∷ t) (count_join (at + 1) m n) ∙ ap (λ (k : ℕ). count_from at k) (sym two)

flat_more : {A B : Type 0} (f : A → List B) (xs : List A) (x : A) → flat_map f (xs ++ x ∷ []) ≡ flat_map f xs ++ f x
flat_more f xs x = flat_map-append f xs (x ∷ []) ∙ ap (λ (t : List _). flat_map f xs ++ t) (append-nil (f x))

-- the sections so far, and one more after them
pub record Sofar (J : List Entry) (limit : ℕ) (ss : List Section) (os : List SectionResult) : Type 0 where
  pub told : AreTold J limit 0 ss os
  pub counted : flat_map places_in os ≡ count_from 0 (length J)

pub sofar_more : (J K : List Entry) (limit : ℕ) (ss : List Section) (os : List SectionResult) (s : Section) (o : SectionResult) → Sofar J limit ss os → SectionJournaled J K limit s o → length K ≤ limit → Sofar K limit (ss ++ s ∷ []) (os ++ o ∷ [])
sofar_more J K limit ss os s o h r le =
    let before : length (flat_map places_in os) ≡ length J = ap (λ (t : List ℕ). length t) h.counted ∙ count_length 0 (length J) in
    let there : 0 + length (flat_map places_in os) ≡ length J = omega (arith, before) in
    let size : length K ≡ length J + length r.added = ap (λ (L : List Entry). length L) r.grown ∙ length-append J r.added in
    let from : 0 + length J ≡ length J = omega arith in
    record {
      told = are_told_more K limit 0 ss os s o (are_told_behind J K r.added limit 0 ss os r.grown le r.others h.told) (subst (λ (n : ℕ). IsTold K limit n s o.opening o.days o.answers) (sym there) r.told);
      counted = flat_more places_in os o ∙ ap (λ (t : List ℕ). t ++ places_in o) h.counted ∙ ap (λ (t : List ℕ). count_from 0 (length J) ++ t) (r.counted ∙ ap (λ (n : ℕ). count_from n (length r.added)) (sym from))
          ∙ count_join 0 (length J) (length r.added) ∙ ap (λ (n : ℕ). count_from 0 n) (sym size);
    }

pub sofar_out : (J : List Entry) (limit : ℕ) (ss : List Section) (os : List SectionResult) (s : Section) (o : SectionResult) → Sofar J limit ss os → out limit (ss ++ s ∷ []) (os ++ o ∷ []) ≡ out limit ss os ++ section_text limit s o
sofar_out J limit ss os s o h = out_more J limit 0 ss os s o h.told

-- ---- fronts of a script

pub front_whole : (done rest : List Section) → IsFront done (done ++ rest)
front_whole [] rest = sections.none
front_whole (s ∷ ss) rest = sections.more (front_whole ss rest)

pub front_part : (done rest : List Section) (s : Section) (count : ℕ) → IsFront (done ++ first_of count s ∷ []) (done ++ s ∷ rest)
front_part [] rest s count = sections.part count
front_part (r ∷ rs) rest s count = sections.more (front_part rs rest s count)
