-- The words of a header line, read one after the other.
use Rattle.std.proofs.Common.{Bool, true, false, cond, ◌≡◌, ℕ, zero, suc, ◌+◌, ◌-◌, ◌<◌, ◌≤◌, List, [], ◌∷◌, ◌++◌, length, take, drop, get_or, filter, Option, Some, None, refl, sym, ap, subst, ◌∙◌, arith, append_assoc}
use Rattle.std.proofs.lemmas.Bool.Decides.{nat_tests}
use Rattle.std.proofs.Math.Seq.{drop-cons}
use Rattle.std.proofs.lemmas.Str.{IsUtf8-from_ascii}
use Rattle.std.specs.Prelude.{if◌then◌else◌, ◌==◌, ◌&&◌, not, nat_le, IsUtf8}
use Rattle.std.specs.List.{prefix_len, slice_split, list_all}
use Rattle.std.specs.Str.{bytes_eq, IsAscii}
use Rattle.std.specs.Char.{to_ascii_uppercase}
use Rattle.lb_base.specs.Names.{is_name, is_name_byte, name_of, folded}
use Rattle.lb_split.specs.Headers.{is_space, is_some_text, words, with_name, names_of, some_names}

-- how many bytes the first word has
abbrev pub word_len : List ℕ → ℕ
word_len t = prefix_len (λ b. not (is_space b)) t

abbrev pub later : List ℕ → List (List ℕ)
later [] = []
later (b ∷ bs) = if is_space b then slice_split is_space bs else later bs

split_first : (t : List ℕ) → slice_split is_space t ≡ take (word_len t) t ∷ later t
split_first [] = refl
split_first (b ∷ bs) = first_by (is_space b) refl (split_first bs)
  where
    first_by : (s : Bool) → is_space b ≡ s → slice_split is_space bs ≡ take (word_len bs) bs ∷ later bs
        → slice_split is_space (b ∷ bs) ≡ take (word_len (b ∷ bs)) (b ∷ bs) ∷ later (b ∷ bs)
    first_by true e hyp = rw e refl
    first_by false e hyp = let k : 1 + word_len bs ≡ suc (word_len bs) = omega arith in rw (e, hyp, k) refl

later_words : (t : List ℕ) → filter is_some_text (later t) ≡ words (drop (word_len t) t)
later_words [] = refl
later_words (b ∷ bs) = later_by (is_space b) refl (later_words bs)
  where
    later_by : (s : Bool) → is_space b ≡ s → filter is_some_text (later bs) ≡ words (drop (word_len bs) bs)
        → filter is_some_text (later (b ∷ bs)) ≡ words (drop (word_len (b ∷ bs)) (b ∷ bs))
    later_by true e hyp = rw e (rw e refl)
    later_by false e hyp = let k : 1 + word_len bs ≡ suc (word_len bs) = omega arith in rw (e, k) hyp

abbrev pub kept : List ℕ → List (List ℕ) → List (List ℕ)
kept [] ws = ws
kept (b ∷ bs) ws = (b ∷ bs) ∷ ws

filter_first : (w : List ℕ) (ws : List (List ℕ)) → filter is_some_text (w ∷ ws) ≡ kept w (filter is_some_text ws)
filter_first [] ws = refl
filter_first (b ∷ bs) ws = refl

words_front : (t : List ℕ) → words t ≡ kept (take (word_len t) t) (words (drop (word_len t) t))
words_front t = ap (filter is_some_text) (split_first t) ∙ filter_first (take (word_len t) t) (later t) ∙ ap (kept (take (word_len t) t)) (later_words t)

space_cons : (b : ℕ) (bs : List ℕ) → is_space b ≡ true → prefix_len is_space (b ∷ bs) ≡ suc (prefix_len is_space bs)
space_cons b bs e = rw e (omega arith)

space_stop : (b : ℕ) (bs : List ℕ) → is_space b ≡ false → prefix_len is_space (b ∷ bs) ≡ 0
space_stop b bs e = rw e refl

word_cons : (b : ℕ) (bs : List ℕ) → is_space b ≡ false → word_len (b ∷ bs) ≡ suc (word_len bs)
word_cons b bs e = rw e (omega arith)

words_cons : (b : ℕ) (bs : List ℕ) → is_space b ≡ true → words (b ∷ bs) ≡ words bs
words_cons b bs e = rw e refl

words_space : (t : List ℕ) → words (drop (prefix_len is_space t) t) ≡ words t
words_space [] = refl
words_space (b ∷ bs) = space_by (is_space b) refl (words_space bs)
  where
    space_by : (s : Bool) → is_space b ≡ s → words (drop (prefix_len is_space bs) bs) ≡ words bs
        → words (drop (prefix_len is_space (b ∷ bs)) (b ∷ bs)) ≡ words (b ∷ bs)
    space_by true e hyp = ap (λ (n : ℕ). words (drop n (b ∷ bs))) (space_cons b bs e) ∙ hyp ∙ sym (words_cons b bs e)
    space_by false e hyp = ap (λ (n : ℕ). words (drop n (b ∷ bs))) (space_stop b bs e)

abbrev pub unspaced : List ℕ → List ℕ
unspaced t = drop (prefix_len is_space t) t

no_other : (t : List ℕ) → take (word_len (unspaced t)) (unspaced t) ≡ [] → unspaced t ≡ []
no_other [] h = refl
no_other (b ∷ bs) h = other_by (is_space b) refl h (no_other bs)
  where
    other_by : (s : Bool) → is_space b ≡ s → take (word_len (unspaced (b ∷ bs))) (unspaced (b ∷ bs)) ≡ []
        → (take (word_len (unspaced bs)) (unspaced bs) ≡ [] → unspaced bs ≡ []) → unspaced (b ∷ bs) ≡ []
    other_by true e h hyp =
        let d : unspaced (b ∷ bs) ≡ unspaced bs = ap (λ (n : ℕ). drop n (b ∷ bs)) (space_cons b bs e) in
        d ∙ hyp (subst (λ (x : List ℕ). take (word_len x) x ≡ []) d h)
    other_by false e h hyp =
        let d : unspaced (b ∷ bs) ≡ b ∷ bs = ap (λ (n : ℕ). drop n (b ∷ bs)) (space_stop b bs e) in
        let h2 : take (word_len (b ∷ bs)) (b ∷ bs) ≡ [] = subst (λ (x : List ℕ). take (word_len x) x ≡ []) d h in
        let h3 : b ∷ take (word_len bs) bs ≡ [] = ap (λ (n : ℕ). take n (b ∷ bs)) (sym (word_cons b bs e)) ∙ h2 in
        absurd cc

drop_nil : (n : ℕ) → drop {A = ℕ} n [] ≡ []
drop_nil zero = refl
drop_nil (suc n) = refl

empty_text : (w : List ℕ) → (length w == 0) ≡ true → w ≡ []
empty_text [] h = refl
empty_text (b ∷ bs) h = absurd (grind (arith, nat_tests))

kept_some : (w : List ℕ) (ws : List (List ℕ)) → (length w == 0) ≡ false → kept w ws ≡ w ∷ ws
kept_some [] ws h = absurd cc
kept_some (b ∷ bs) ws h = refl

-- the next word of a line, where s spaces stand before it and it has n bytes
pub some_word : (t u w : List ℕ) (s n : ℕ) → s ≡ prefix_len is_space t → u ≡ drop s t → n ≡ word_len u → w ≡ take n u → (length w == 0) ≡ false
    → words t ≡ w ∷ words (drop n u)
some_word t u w s n es eu en ew h =
    let eu2 : u ≡ drop (prefix_len is_space t) t = eu ∙ ap (λ (k : ℕ). drop k t) es in
    let front : words u ≡ kept w (words (drop n u)) = words_front u ∙ ap (λ (k : ℕ). kept (take k u) (words (drop k u))) (sym en) ∙ ap (λ (x : List ℕ). kept x (words (drop n u))) (sym ew) in
    sym (words_space t) ∙ ap words (sym eu2) ∙ front ∙ kept_some w (words (drop n u)) h

pub no_word : (t u w : List ℕ) (s n : ℕ) → s ≡ prefix_len is_space t → u ≡ drop s t → n ≡ word_len u → w ≡ take n u → (length w == 0) ≡ true
    → (words t ≡ []) × (words (drop n u) ≡ [])
no_word t u w s n es eu en ew h =
    let eu2 : u ≡ drop (prefix_len is_space t) t = eu ∙ ap (λ (k : ℕ). drop k t) es in
    let ew2 : take (word_len u) u ≡ [] = ap (λ (k : ℕ). take k u) (sym en) ∙ sym ew ∙ empty_text w h in
    let eu3 : u ≡ [] = eu2 ∙ no_other t (subst (λ (x : List ℕ). take (word_len x) x ≡ []) eu2 ew2) in
    let en2 : drop n u ≡ [] = ap (drop n) eu3 ∙ drop_nil n in
    (sym (words_space t) ∙ ap words (sym eu2) ∙ ap words eu3, ap words en2)

-- names are ASCII
ascii_byte : (b : ℕ) → is_name_byte b ≡ true → b < 128
ascii_byte b h = grind (arith, nat_tests)

and_first : (a b : Bool) → (a && b) ≡ true → a ≡ true
and_first true b h = refl
and_first false b h = absurd cc

and_second : (a b : Bool) → (a && b) ≡ true → b ≡ true
and_second true b h = h
and_second false b h = absurd cc

ascii_bytes : (w : List ℕ) → list_all is_name_byte w ≡ true → IsAscii w
ascii_bytes [] h i = omega arith
ascii_bytes (b ∷ bs) h zero = ascii_byte b (and_first (is_name_byte b) (list_all is_name_byte bs) h)
ascii_bytes (b ∷ bs) h (suc i) = ascii_bytes bs (and_second (is_name_byte b) (list_all is_name_byte bs) h) i

ascii_name : (w : List ℕ) → is_name w ≡ true → IsAscii w
ascii_name [] h = absurd cc
ascii_name (b ∷ bs) h = ascii_bytes (b ∷ bs) (and_second _ (list_all is_name_byte (b ∷ bs)) h)

pub no_name : (w : List ℕ) → (IsUtf8 w → ⊥) → None ≡ name_of w
no_name w h = name_by (is_name w) refl
  where
    name_by : (n : Bool) → is_name w ≡ n → None ≡ cond n (Some (folded w)) None
    name_by true e = absurd (h (IsUtf8-from_ascii w (ascii_name w e)))
    name_by false e = refl

-- one word against another, byte by byte
drop_at : (text : List ℕ) (i : ℕ) → i < length text → drop i text ≡ get_or text i 0 ∷ drop (i + 1) text
drop_at text i lt = let k : i + 1 ≡ suc i = omega arith in rw k (drop-cons text i 0 lt)

and_true : (a b : Bool) → a ≡ true → (a && b) ≡ b
and_true a b h = rw h refl

and_false : (a b : Bool) → a ≡ false → (a && b) ≡ false
and_false a b h = rw h refl

pub spells_more : (word want : List ℕ) (i : ℕ) → i < length word → i < length want → (to_ascii_uppercase (get_or word i 0) == get_or want i 0) ≡ true
    → bytes_eq (folded (drop i word)) (drop i want) ≡ bytes_eq (folded (drop (i + 1) word)) (drop (i + 1) want)
spells_more word want i lt lt2 h =
    ap (λ (x : List ℕ). bytes_eq (folded x) (drop i want)) (drop_at word i lt)
    ∙ ap (λ (y : List ℕ). bytes_eq (folded (get_or word i 0 ∷ drop (i + 1) word)) y) (drop_at want i lt2)
    ∙ and_true (to_ascii_uppercase (get_or word i 0) == get_or want i 0) (bytes_eq (folded (drop (i + 1) word)) (drop (i + 1) want)) h

pub spells_not : (word want : List ℕ) (i : ℕ) → i < length word → i < length want → (to_ascii_uppercase (get_or word i 0) == get_or want i 0) ≡ false
    → bytes_eq (folded (drop i word)) (drop i want) ≡ false
spells_not word want i lt lt2 h =
    ap (λ (x : List ℕ). bytes_eq (folded x) (drop i want)) (drop_at word i lt)
    ∙ ap (λ (y : List ℕ). bytes_eq (folded (get_or word i 0 ∷ drop (i + 1) word)) y) (drop_at want i lt2)
    ∙ and_false (to_ascii_uppercase (get_or word i 0) == get_or want i 0) (bytes_eq (folded (drop (i + 1) word)) (drop (i + 1) want)) h

drop_none : (i : ℕ) (t : List ℕ) → length t ≤ i → drop i t ≡ []
drop_none zero [] h = refl
drop_none (suc i) [] h = refl
drop_none zero (b ∷ bs) h = absurd (omega arith)
drop_none (suc i) (b ∷ bs) h = drop_none i bs (omega arith)

pub spells_end : (word want : List ℕ) (i : ℕ) → length word ≤ i → length want ≤ i → bytes_eq (folded (drop i word)) (drop i want) ≡ true
spells_end word want i h k =
    ap (λ (x : List ℕ). bytes_eq (folded x) (drop i want)) (drop_none i word h) ∙ ap (λ (y : List ℕ). bytes_eq (folded []) y) (drop_none i want k)

pub spells_other : (word want : List ℕ) → (length word ≡ length want → ⊥) → bytes_eq (folded word) want ≡ false
spells_other [] [] h = absurd (h refl)
spells_other [] (c ∷ cs) h = refl
spells_other (b ∷ bs) [] h = refl
spells_other (b ∷ bs) (c ∷ cs) h = rw (spells_other bs cs (λ e. h (ap suc e))) (and_none (to_ascii_uppercase b == c))
  where
    and_none : (a : Bool) → (a && false) ≡ false
    and_none true = refl
    and_none false = refl

-- the names that the words spell, when some are read
abbrev pub more_names : List (List ℕ) → Option (List (List ℕ)) → Option (List (List ℕ))
more_names names None = None
more_names names (Some more) = Some (names ++ more)

pub more_one : (names : List (List ℕ)) (n : List ℕ) (more : Option (List (List ℕ))) → more_names names (with_name (Some n) more) ≡ more_names (names ++ n ∷ []) more
more_one names n None = refl
more_one names n (Some more) = ap (λ (x : List (List ℕ)). Some x) (sym (append_assoc names (n ∷ []) more))

none_by : (t : Bool) (o : Option (List (List ℕ))) → o ≡ None → cond t o None ≡ None
none_by true o e = e
none_by false o e = refl

pub names_none : (ws : List (List ℕ)) → names_of ws ≡ None → None ≡ some_names ws
names_none ws e = sym (none_by (nat_le 1 (length ws) && nat_le (length ws) 16) (names_of ws) e)

pub names_many : (ws : List (List ℕ)) → 17 ≤ length ws → None ≡ some_names ws
names_many ws h =
    let f : nat_le (length ws) 16 ≡ false = grind (arith, nat_tests) in
    rw f (many_by (nat_le 1 (length ws)))
  where
    many_by : (b : Bool) → None ≡ cond (b && false) (names_of ws) None
    many_by true = refl
    many_by false = refl

pub names_few : (ws : List (List ℕ)) → length ws ≡ 0 → None ≡ some_names ws
names_few [] h = refl
names_few (w ∷ ws) h = absurd (omega arith)

pub names_right : (ws names : List (List ℕ)) → 1 ≤ length ws → length ws ≤ 16 → names_of ws ≡ Some names → Some names ≡ some_names ws
names_right ws names h k e =
    let f : nat_le (length ws) 16 ≡ true = grind (arith, nat_tests) in
    let g : nat_le 1 (length ws) ≡ true = grind (arith, nat_tests) in
    rw (g, f) (sym e)
