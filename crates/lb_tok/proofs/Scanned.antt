-- Scanning finds the token that stands in front, and no other.
use Rattle.std.proofs.Common.{Bool, true, false, cond, ◌&&◌, ◌||◌, ◌==◌, inl, inr, ◌≡◌, ℕ, ◌+◌, ◌-◌, ◌*◌, ◌^◌, ◌≤◌, ◌<◌, List, [], ◌∷◌, ◌++◌, length, Option, Some, None, refl, sym, ap, subst, ◌∙◌, append_assoc, arith, lit<}
use Rattle.std.specs.Prelude.{nat_le, find, unwrap_or}
use Rattle.std.specs.List.{list_all}
use Rattle.std.specs.Option.{option_and_then}
use Rattle.std.specs.Char.{is_ascii_digit, is_ascii_alphabetic}
use Rattle.std.specs.Str.{bytes_eq}
use Rattle.std.proofs.lemmas.Bool.Decides.{nat_tests}
use Rattle.lb_base.specs.Names.{is_name_byte, is_name, name_of, folded}
use Rattle.lb_tok.specs.declared.kind.Kind.{Kind}
use Rattle.lb_tok.specs.declared.kind.Kind.TheVariants as kinds
use Rattle.lb_tok.specs.declared.token.Token.{Token}
use Rattle.lb_tok.specs.Kinds.{Kinds, only, from_to, has, kind_of, keywords, spelling}
use Rattle.lb_tok.specs.Lexing.{words, goes_on, begins, begins_gap, is_blank, decimal_on, doubled, word_token, symbol_token, IsNumeral, IsSymbol, Writes, StandsBefore, number_token, text_token}
use Rattle.lb_tok.specs.Scanning.{split_run, value_on, quoted_from, single, double, with_rest, or_else, symbol_from, word_from, number_from, token_from}
use Rattle.lb_tok.proofs.Gaps.{both, is_same, high_no_blank, high_no_dash}

nil : (a : List ℕ) → a ++ [] ≡ a
nil [] = refl
nil (x ∷ a) = ap (λ (u : List ℕ). x ∷ u) (nil a)

-- ---- runs

pub run_split : (p : ℕ → Bool) (bs : List ℕ) → bs ≡ (split_run p bs).0 ++ (split_run p bs).1
unfolding split_run
run_split p [] = refl
run_split p (b ∷ bs) = go (p b) (run_split p bs)
  where
    go : (v : Bool) → bs ≡ (split_run p bs).0 ++ (split_run p bs).1 → b ∷ bs ≡ (cond {A = List ℕ × List ℕ} v (b ∷ (split_run p bs).0, (split_run p bs).1) ([], b ∷ bs)).0 ++ (cond {A = List ℕ × List ℕ} v (b ∷ (split_run p bs).0, (split_run p bs).1) ([], b ∷ bs)).1
    go true h = ap (λ (u : List ℕ). b ∷ u) h
    go false h = refl

pub run_all : (p : ℕ → Bool) (bs : List ℕ) → list_all p (split_run p bs).0 ≡ true
unfolding split_run
run_all p [] = refl
run_all p (b ∷ bs) = go (p b) refl (run_all p bs)
  where
    and_true : (x y : Bool) → x ≡ true → y ≡ true → (x && y) ≡ true
    and_true true y e f = f
    and_true false y e f = absurd cc

    go : (v : Bool) → p b ≡ v → list_all p (split_run p bs).0 ≡ true → list_all p (cond {A = List ℕ × List ℕ} v (b ∷ (split_run p bs).0, (split_run p bs).1) ([], b ∷ bs)).0 ≡ true
    go true e h = and_true (p b) _ e h
    go false e h = refl

pub run_rest : (p : ℕ → Bool) (bs : List ℕ) → begins p (split_run p bs).1 ≡ false
unfolding split_run
run_rest p [] = refl
run_rest p (b ∷ bs) = go (p b) refl (run_rest p bs)
  where
    go : (v : Bool) → p b ≡ v → begins p (split_run p bs).1 ≡ false → begins p (cond {A = List ℕ × List ℕ} v (b ∷ (split_run p bs).0, (split_run p bs).1) ([], b ∷ bs)).1 ≡ false
    go true e h = h
    go false e h = e

pub run_only : (p : ℕ → Bool) (front rest : List ℕ) → list_all p front ≡ true → begins p rest ≡ false → split_run p (front ++ rest) ≡ (front, rest)
unfolding split_run
run_only p [] [] e h = refl
run_only p [] (b ∷ bs) e h = ap (λ (v : Bool). cond v (b ∷ (split_run p bs).0, (split_run p bs).1) ([], b ∷ bs)) h
run_only p (x ∷ front) rest e h =
    let q = both (p x) (list_all p front) e in
    ap (λ (v : Bool). cond v (x ∷ (split_run p (front ++ rest)).0, (split_run p (front ++ rest)).1) ([], x ∷ (front ++ rest))) q.0
    ∙ ap (λ (u : List ℕ × List ℕ). (x ∷ u.0, u.1)) (run_only p front rest q.1 h)

-- the same test, the same beginning
begins_by : (p q : ℕ → Bool) → ((b : ℕ) → p b ≡ q b) → (bs : List ℕ) → begins p bs ≡ begins q bs
begins_by p q e [] = refl
begins_by p q e (b ∷ bs) = e b

-- ---- words

all_words : list_all (λ k. has words k) keywords ≡ true
unfolding keywords has
all_words = refl

found_in : (p q : Kind → Bool) (ks : List Kind) → list_all q ks ≡ true → q kinds.Word ≡ true → q (unwrap_or (find p ks) kinds.Word) ≡ true
found_in p q [] e w = w
found_in p q (k ∷ ks) e w = let h = both (q k) (list_all q ks) e in go (p k) h.0 (found_in p q ks h.1 w)
  where
    go : (v : Bool) → q k ≡ true → q (unwrap_or (find p ks) kinds.Word) ≡ true → q (unwrap_or (cond v (Some k) (find p ks)) kinds.Word) ≡ true
    go true e f = e
    go false e f = f

pub word_kind : (n : List ℕ) → has words (kind_of n) ≡ true
unfolding kind_of has
word_kind n = found_in (λ k. bytes_eq (spelling k) n) (λ k. has words k) keywords all_words refl

word_goes_on : (k : Kind) (b : ℕ) → has words k ≡ true → goes_on k b ≡ is_name_byte b
word_goes_on k b e = ap (λ (v : Bool). cond v (is_name_byte b) (cond (has (only kinds.Numeral) k) (is_ascii_digit b) (cond (has (only kinds.Text) k) (b == 39) (cond (has (only kinds.Less) k) (b == 61 || b == 62) (cond (has (only kinds.Greater) k) (b == 61) (cond (has (only kinds.Minus) k) (b == 45) false)))))) e

-- bytes that stand in front, and a token with that reading
stands : (bs front rest rest' : List ℕ) (t t' : Token) → Writes front t → begins (goes_on t.kind) rest ≡ false → bs ≡ front ++ rest → ◌≡◌ {A = Option (Token × List ℕ)} (Some (t, rest)) (Some (t', rest')) → StandsBefore bs t' rest'
stands bs front rest rest' t t' w g e h =
    let P : Token × List ℕ → Type 0 = λ q. StandsBefore bs q.0 q.1 in
    let q : ◌≡◌ {A = Token × List ℕ} (t, rest) (t', rest') = cc in
    subst P q (front, w, g, e)

pub word_sound : (bs : List ℕ) (t : Token) (rest : List ℕ) → word_from (split_run is_name_byte bs) ≡ Some (t, rest) → StandsBefore bs t rest
word_sound bs t rest e = go (name_of (split_run is_name_byte bs).0) refl e
  where
    go : (o : Option (List ℕ)) → name_of (split_run is_name_byte bs).0 ≡ o → option_and_then {U = Token × List ℕ} (λ n. Some (word_token n, (split_run is_name_byte bs).1)) o ≡ Some (t, rest) → StandsBefore bs t rest
    go None h e = absurd cc
    go (Some n) h e =
        let k = word_kind n in
        let stops : begins (goes_on (kind_of n)) (split_run is_name_byte bs).1 ≡ false = begins_by (goes_on (kind_of n)) is_name_byte (λ b. word_goes_on (kind_of n) b k) (split_run is_name_byte bs).1 ∙ run_rest is_name_byte bs in
        stands bs (split_run is_name_byte bs).0 (split_run is_name_byte bs).1 rest (word_token n) t (inl (n, h, refl)) stops (run_split is_name_byte bs) e

name_bytes : (front n : List ℕ) → name_of front ≡ Some n → (b : ℕ) × (bs : List ℕ) × (front ≡ b ∷ bs) × (is_ascii_alphabetic b ≡ true) × (list_all is_name_byte front ≡ true)
name_bytes [] n e = absurd cc
name_bytes (b ∷ bs) n e = go (is_name (b ∷ bs)) refl e
  where
    go : (v : Bool) → is_name (b ∷ bs) ≡ v → cond v (Some (folded (b ∷ bs))) None ≡ Some n → (x : ℕ) × (xs : List ℕ) × (b ∷ bs ≡ x ∷ xs) × (is_ascii_alphabetic x ≡ true) × (list_all is_name_byte (b ∷ bs) ≡ true)
    go true h f = let p = both (is_ascii_alphabetic b && nat_le (length (b ∷ bs)) 64) (list_all is_name_byte (b ∷ bs)) h in let q = both (is_ascii_alphabetic b) (nat_le (length (b ∷ bs)) 64) p.0 in (b, bs, refl, q.0, p.1)
    go false h f = absurd cc

alphabetic_no_quote : (b : ℕ) → is_ascii_alphabetic b ≡ true → (b == 39) ≡ false
alphabetic_no_quote b e = grind (arith, nat_tests)

digit_no_quote : (b : ℕ) → is_ascii_digit b ≡ true → (b == 39) ≡ false
digit_no_quote b e = grind (arith, nat_tests)

digit_no_letter : (b : ℕ) → is_ascii_digit b ≡ true → is_ascii_alphabetic b ≡ false
digit_no_letter b e = grind (arith, nat_tests)

-- which of the four kinds of token a byte begins
at_word : (b : ℕ) (bs : List ℕ) → is_ascii_alphabetic b ≡ true → token_from (b ∷ bs) ≡ word_from (split_run is_name_byte (b ∷ bs))
unfolding token_from
at_word b bs e =
    ap (λ (v : Bool). cond v (option_and_then (λ q. Some (text_token q.0, q.1)) (quoted_from [] bs)) (cond (is_ascii_alphabetic b) (word_from (split_run is_name_byte (b ∷ bs))) (cond (is_ascii_digit b) (number_from (split_run is_ascii_digit (b ∷ bs))) (symbol_from b bs)))) (alphabetic_no_quote b e)
    ∙ ap (λ (v : Bool). cond v (word_from (split_run is_name_byte (b ∷ bs))) (cond (is_ascii_digit b) (number_from (split_run is_ascii_digit (b ∷ bs))) (symbol_from b bs))) e

at_number : (b : ℕ) (bs : List ℕ) → is_ascii_digit b ≡ true → token_from (b ∷ bs) ≡ number_from (split_run is_ascii_digit (b ∷ bs))
unfolding token_from
at_number b bs e =
    ap (λ (v : Bool). cond v (option_and_then (λ q. Some (text_token q.0, q.1)) (quoted_from [] bs)) (cond (is_ascii_alphabetic b) (word_from (split_run is_name_byte (b ∷ bs))) (cond (is_ascii_digit b) (number_from (split_run is_ascii_digit (b ∷ bs))) (symbol_from b bs)))) (digit_no_quote b e)
    ∙ ap (λ (v : Bool). cond v (word_from (split_run is_name_byte (b ∷ bs))) (cond (is_ascii_digit b) (number_from (split_run is_ascii_digit (b ∷ bs))) (symbol_from b bs))) (digit_no_letter b e)
    ∙ ap (λ (v : Bool). cond v (number_from (split_run is_ascii_digit (b ∷ bs))) (symbol_from b bs)) e

word_only : (front rest n : List ℕ) → name_of front ≡ Some n → begins (goes_on (kind_of n)) rest ≡ false → token_from (front ++ rest) ≡ Some (word_token n, rest)
word_only front rest n e h =
    let p = name_bytes front n e in
    let stops : begins is_name_byte rest ≡ false = sym (begins_by (goes_on (kind_of n)) is_name_byte (λ b. word_goes_on (kind_of n) b (word_kind n)) rest) ∙ h in
    let run = run_only is_name_byte front rest p.4 stops in
    ap (λ (u : List ℕ). token_from (u ++ rest)) p.2 ∙ at_word p.0 (p.1 ++ rest) p.3 ∙ ap (λ (u : List ℕ). word_from (split_run is_name_byte (u ++ rest))) (sym p.2)
    ∙ ap word_from run ∙ ap (λ (o : Option (List ℕ)). option_and_then {U = Token × List ℕ} (λ m. Some (word_token m, rest)) o) e

-- ---- numbers

capped : (n : ℕ) (bs : List ℕ) → value_on None bs ≡ None
unfolding value_on
capped n [] = refl
capped n (b ∷ bs) = capped n bs

grows : (n : ℕ) (bs : List ℕ) → n ≤ decimal_on n bs
grows n [] = omega arith
grows n (b ∷ bs) = let h = grows (n * 10 + (b - 48)) bs in omega arith

within : (v : ℕ) → v ≤ 2 ^ 63 → nat_le v (2 ^ 63) ≡ true
within v h = grind (arith, nat_tests)

beyond : (v : ℕ) → 2 ^ 63 < v → nat_le v (2 ^ 63) ≡ false
beyond v h = grind (arith, nat_tests)

is_at_most : (v : ℕ) → nat_le v (2 ^ 63) ≡ true → v ≤ 2 ^ 63
is_at_most v h = grind (arith, nat_tests)

pub value_is : (n : ℕ) (bs : List ℕ) → decimal_on n bs ≤ 2 ^ 63 → value_on (Some n) bs ≡ Some (decimal_on n bs)
unfolding value_on
value_is n [] h = refl
value_is n (b ∷ bs) h =
    let le = grows (n * 10 + (b - 48)) bs in
    ap (λ (v : Bool). value_on (cond v (Some (n * 10 + (b - 48))) None) bs) (within (n * 10 + (b - 48)) (omega arith)) ∙ value_is (n * 10 + (b - 48)) bs h

pub value_of : (n v : ℕ) (bs : List ℕ) → n ≤ 2 ^ 63 → value_on (Some n) bs ≡ Some v → (decimal_on n bs ≡ v) × (v ≤ 2 ^ 63)
unfolding value_on
value_of n v [] h e = let q : n ≡ v = cc in (q, omega arith)
value_of n v (b ∷ bs) h e = go (nat_le (n * 10 + (b - 48)) (2 ^ 63)) refl (λ k f. value_of (n * 10 + (b - 48)) v bs k f) e
  where
    go : (w : Bool) → nat_le (n * 10 + (b - 48)) (2 ^ 63) ≡ w → (n * 10 + (b - 48) ≤ 2 ^ 63 → value_on (Some (n * 10 + (b - 48))) bs ≡ Some v → (decimal_on (n * 10 + (b - 48)) bs ≡ v) × (v ≤ 2 ^ 63)) → value_on (cond w (Some (n * 10 + (b - 48))) None) bs ≡ Some v → (decimal_on (n * 10 + (b - 48)) bs ≡ v) × (v ≤ 2 ^ 63)
    go true k r f = r (is_at_most _ k) f
    go false k r f = let z : ◌≡◌ {A = Option ℕ} None (Some v) = sym (capped 0 bs) ∙ f in absurd cc

number_goes_on : (b : ℕ) → goes_on kinds.Numeral b ≡ is_ascii_digit b
unfolding has
number_goes_on b = refl

nonempty : (p : ℕ → Bool) (b : ℕ) (bs : List ℕ) → p b ≡ true → (split_run p (b ∷ bs)).0 ≡ b ∷ (split_run p bs).0
unfolding split_run
nonempty p b bs e = ap (λ (v : Bool). let r : List ℕ × List ℕ = cond v (b ∷ (split_run p bs).0, (split_run p bs).1) ([], b ∷ bs) in r.0) e

number_sound : (b : ℕ) (bs : List ℕ) (t : Token) (rest : List ℕ) → is_ascii_digit b ≡ true → number_from (split_run is_ascii_digit (b ∷ bs)) ≡ Some (t, rest) → StandsBefore (b ∷ bs) t rest
unfolding has
number_sound b bs t rest d e = go (value_on (Some 0) (split_run is_ascii_digit (b ∷ bs)).0) refl e
  where
    go : (o : Option ℕ) → value_on (Some 0) (split_run is_ascii_digit (b ∷ bs)).0 ≡ o → option_and_then {U = Token × List ℕ} (λ v. Some (number_token v, (split_run is_ascii_digit (b ∷ bs)).1)) o ≡ Some (t, rest) → StandsBefore (b ∷ bs) t rest
    go None h e = absurd cc
    go (Some v) h e =
        let r = split_run is_ascii_digit (b ∷ bs) in
        let q = value_of 0 v r.0 (omega arith) h in
        let le : decimal_on 0 r.0 ≤ 2 ^ 63 = omega (arith, q.0, q.1) in
        let w : IsNumeral r.0 (number_token v) = (b, (split_run is_ascii_digit bs).0, nonempty is_ascii_digit b bs d, run_all is_ascii_digit (b ∷ bs), le, ap (λ (n : ℕ). number_token n) (sym q.0)) in
        stands (b ∷ bs) r.0 r.1 rest (number_token v) t (inr (inl w)) (run_rest is_ascii_digit (b ∷ bs)) (run_split is_ascii_digit (b ∷ bs)) e

number_only : (front rest : List ℕ) (t : Token) → IsNumeral front t → begins (goes_on t.kind) rest ≡ false → token_from (front ++ rest) ≡ Some (t, rest)
unfolding has
number_only front rest t w g =
    let digits = w.3 in
    let stops : begins is_ascii_digit rest ≡ false = subst (λ (u : Token). begins (goes_on u.kind) rest ≡ false) w.5 g in
    let run = run_only is_ascii_digit front rest digits stops in
    let first : is_ascii_digit w.0 ≡ true = (both (is_ascii_digit w.0) (list_all is_ascii_digit w.1) (subst (λ (u : List ℕ). list_all is_ascii_digit u ≡ true) w.2 digits)).0 in
    ap (λ (u : List ℕ). token_from (u ++ rest)) w.2 ∙ at_number w.0 (w.1 ++ rest) first ∙ ap (λ (u : List ℕ). number_from (split_run is_ascii_digit (u ++ rest))) (sym w.2)
    ∙ ap number_from run ∙ ap (λ (o : Option ℕ). option_and_then {U = Token × List ℕ} (λ v. Some (number_token v, rest)) o) (value_is 0 front w.4)
    ∙ ap (λ (u : Token). Some (u, rest)) (sym w.5)

-- ---- quotes

stays : (x : ℕ) (xs : List ℕ) → (x == 39) ≡ false → doubled (x ∷ xs) ≡ x ∷ doubled xs
stays x xs e = ap (λ (v : Bool). cond v (39 ∷ 39 ∷ doubled xs) (x ∷ doubled xs)) e

quote_goes_on : (b : ℕ) → goes_on kinds.Text b ≡ (b == 39)
unfolding has
quote_goes_on b = refl

quoted_only : (front text rest : List ℕ) → begins (λ b. b == 39) rest ≡ false → quoted_from front (doubled text ++ 39 ∷ rest) ≡ Some (front ++ text, rest)
unfolding quoted_from
quoted_only front [] [] h = ap (λ (u : List ℕ). Some (u, [])) (sym (nil front))
quoted_only front [] (c ∷ bs) h = ap (λ (v : Bool). cond v (quoted_from (front ++ 39 ∷ []) bs) (Some (front, c ∷ bs))) h ∙ ap (λ (u : List ℕ). Some (u, c ∷ bs)) (sym (nil front))
quoted_only front (x ∷ text) rest h = go (x == 39) refl (quoted_only (front ++ x ∷ []) text rest h)
  where
    after : quoted_from (front ++ x ∷ []) (doubled text ++ 39 ∷ rest) ≡ Some ((front ++ x ∷ []) ++ text, rest) → quoted_from (front ++ x ∷ []) (doubled text ++ 39 ∷ rest) ≡ Some (front ++ x ∷ text, rest)
    after f = f ∙ ap (λ (u : List ℕ). Some (u, rest)) (append_assoc front (x ∷ []) text)

    plain : (us : List ℕ) → us ≡ doubled text ++ 39 ∷ rest → (x == 39) ≡ false → quoted_from front (x ∷ us) ≡ quoted_from (front ++ x ∷ []) us
    plain [] e n = absurd (no (doubled text) e)
      where
        no : (zs : List ℕ) → ◌≡◌ {A = List ℕ} [] (zs ++ 39 ∷ rest) → ⊥
        no [] e = cc
        no (z ∷ zs) e = cc
    plain (u ∷ us) e n = ap (λ (v : Bool). cond v (cond (u == 39) (quoted_from (front ++ 39 ∷ []) us) (Some (front, u ∷ us))) (quoted_from (front ++ x ∷ []) (u ∷ us))) n

    go : (v : Bool) → (x == 39) ≡ v → quoted_from (front ++ x ∷ []) (doubled text ++ 39 ∷ rest) ≡ Some ((front ++ x ∷ []) ++ text, rest) → quoted_from front (cond v (39 ∷ 39 ∷ doubled text) (x ∷ doubled text) ++ 39 ∷ rest) ≡ Some (front ++ x ∷ text, rest)
    go true e f = subst (λ (n : ℕ). quoted_from (front ++ n ∷ []) (doubled text ++ 39 ∷ rest) ≡ Some (front ++ x ∷ text, rest)) (is_same x 39 e) (after f)
    go false e f = plain (doubled text ++ 39 ∷ rest) refl e ∙ after f

pair_of : (a b x y : List ℕ) → ◌≡◌ {A = Option (List ℕ × List ℕ)} (Some (a, b)) (Some (x, y)) → (a ≡ x) × (b ≡ y)
pair_of a b x y e = let q : ◌≡◌ {A = List ℕ × List ℕ} (a, b) (x, y) = cc in (ap (λ (r : List ℕ × List ℕ). r.0) q, ap (λ (r : List ℕ × List ℕ). r.1) q)

pub record Quoted (front bs x rest : List ℕ) : Type 0 where
  pub text : List ℕ
  pub whole : x ≡ front ++ text
  pub written : bs ≡ doubled text ++ 39 ∷ rest
  pub ends : begins (λ b. b == 39) rest ≡ false

quoted_sound : (front bs x rest : List ℕ) → quoted_from front bs ≡ Some (x, rest) → Quoted front bs x rest
unfolding quoted_from
quoted_sound front [] x rest e = absurd cc
quoted_sound front (b ∷ []) x rest e = go (b == 39) refl e
  where
    go : (v : Bool) → (b == 39) ≡ v → cond {A = Option (List ℕ × List ℕ)} v (Some (front, [])) None ≡ Some (x, rest) → Quoted front (b ∷ []) x rest
    go true h e = let r = pair_of front [] x rest e in record { text = []; whole = sym r.0 ∙ sym (nil front); written = ap (λ (n : ℕ). n ∷ []) (is_same b 39 h) ∙ ap (λ (u : List ℕ). 39 ∷ u) r.1; ends = subst (λ (u : List ℕ). begins (λ b. b == 39) u ≡ false) r.1 refl }
    go false h e = absurd cc
quoted_sound front (b ∷ c ∷ bs) x rest e = go (b == 39) (c == 39) refl refl e (λ h. quoted_sound (front ++ 39 ∷ []) bs x rest h) (λ h. quoted_sound (front ++ b ∷ []) (c ∷ bs) x rest h)
  where
    go : (v w : Bool) → (b == 39) ≡ v → (c == 39) ≡ w → cond v (cond w (quoted_from (front ++ 39 ∷ []) bs) (Some (front, c ∷ bs))) (quoted_from (front ++ b ∷ []) (c ∷ bs)) ≡ Some (x, rest)
        → (quoted_from (front ++ 39 ∷ []) bs ≡ Some (x, rest) → Quoted (front ++ 39 ∷ []) bs x rest) → (quoted_from (front ++ b ∷ []) (c ∷ bs) ≡ Some (x, rest) → Quoted (front ++ b ∷ []) (c ∷ bs) x rest) → Quoted front (b ∷ c ∷ bs) x rest
    go true true h k e f g = let q = f e in
        record { text = 39 ∷ q.text; whole = q.whole ∙ append_assoc front (39 ∷ []) q.text; written = ap (λ (n : ℕ). n ∷ c ∷ bs) (is_same b 39 h) ∙ ap (λ (n : ℕ). 39 ∷ n ∷ bs) (is_same c 39 k) ∙ ap (λ (u : List ℕ). 39 ∷ 39 ∷ u) q.written; ends = q.ends }
    go true false h k e f g = let r = pair_of front (c ∷ bs) x rest e in
        record { text = []; whole = sym r.0 ∙ sym (nil front); written = ap (λ (n : ℕ). n ∷ c ∷ bs) (is_same b 39 h) ∙ ap (λ (u : List ℕ). 39 ∷ u) r.1; ends = subst (λ (u : List ℕ). begins (λ b. b == 39) u ≡ false) r.1 k }
    go false w h k e f g = let q = g e in
        record { text = b ∷ q.text; whole = q.whole ∙ append_assoc front (b ∷ []) q.text; written = ap (λ (u : List ℕ). b ∷ u) q.written ∙ ap (λ (u : List ℕ). u ++ 39 ∷ rest) (sym (stays b q.text h)); ends = q.ends }

-- ---- symbols

symbols : Kinds
symbols = from_to kinds.Open kinds.RightBrace

-- the byte is n, and the kind is the symbol that is written so
record Single (b : ℕ) (k : Kind) : Type 0 where
  pub spelled : spelling k ≡ b ∷ []
  pub is_symbol : has (from_to kinds.Open kinds.RightBrace) k ≡ true
  pub ends : (c : ℕ) → double b c ≡ None → (b == 45 && c == 45) ≡ false → goes_on k c ≡ false

less_ends : (x y : Bool) (j k : Kind) → cond x (Some j) (cond y (Some k) None) ≡ None → (y || x) ≡ false
less_ends true y j k e = absurd cc
less_ends false true j k e = absurd cc
less_ends false false j k e = refl

greater_ends : (x : Bool) (j : Kind) → cond x (Some j) None ≡ None → x ≡ false
greater_ends true j e = absurd cc
greater_ends false j e = refl

step : (b n : ℕ) (m k : Kind) (o : Option Kind) → Single n m → cond (b == n) (Some m) o ≡ Some k → (o ≡ Some k → Single b k) → Single b k
step b n m k o s e f = go (b == n) refl e
  where
    go : (v : Bool) → (b == n) ≡ v → cond v (Some m) o ≡ Some k → Single b k
    go true h e = let q : m ≡ k = cc in subst (λ (z : Kind). Single b z) q (subst (λ (z : ℕ). Single z m) (sym (is_same b n h)) s)
    go false h e = f e

single_sound : (b : ℕ) (k : Kind) → single b ≡ Some k → Single b k
unfolding spelling has
single_sound b k e =
    step b 40 kinds.Open k _ (record { spelled = refl; is_symbol = refl; ends = λ c d g. refl }) e (λ e.
    step b 41 kinds.Close k _ (record { spelled = refl; is_symbol = refl; ends = λ c d g. refl }) e (λ e.
    step b 44 kinds.Comma k _ (record { spelled = refl; is_symbol = refl; ends = λ c d g. refl }) e (λ e.
    step b 46 kinds.Dot k _ (record { spelled = refl; is_symbol = refl; ends = λ c d g. refl }) e (λ e.
    step b 61 kinds.Equal k _ (record { spelled = refl; is_symbol = refl; ends = λ c d g. refl }) e (λ e.
    step b 60 kinds.Less k _ (record { spelled = refl; is_symbol = refl; ends = λ c d g. less_ends (c == 62) (c == 61) kinds.NotEqual kinds.AtMost d }) e (λ e.
    step b 62 kinds.Greater k _ (record { spelled = refl; is_symbol = refl; ends = λ c d g. greater_ends (c == 61) kinds.AtLeast d }) e (λ e.
    step b 43 kinds.Plus k _ (record { spelled = refl; is_symbol = refl; ends = λ c d g. refl }) e (λ e.
    step b 45 kinds.Minus k _ (record { spelled = refl; is_symbol = refl; ends = λ c d g. g }) e (λ e.
    step b 42 kinds.Star k _ (record { spelled = refl; is_symbol = refl; ends = λ c d g. refl }) e (λ e.
    step b 91 kinds.LeftBracket k _ (record { spelled = refl; is_symbol = refl; ends = λ c d g. refl }) e (λ e.
    step b 93 kinds.RightBracket k _ (record { spelled = refl; is_symbol = refl; ends = λ c d g. refl }) e (λ e.
    step b 123 kinds.LeftBrace k _ (record { spelled = refl; is_symbol = refl; ends = λ c d g. refl }) e (λ e.
    step b 125 kinds.RightBrace k _ (record { spelled = refl; is_symbol = refl; ends = λ c d g. refl }) e (λ e. absurd cc))))))))))))))

record Double (b c : ℕ) (k : Kind) : Type 0 where
  pub writes : IsSymbol (b ∷ c ∷ []) (symbol_token k)
  pub ends : (d : ℕ) → goes_on k d ≡ false

step2 : (b c n m : ℕ) (j k : Kind) (o : Option Kind) → Double n m j → cond (b == n && c == m) (Some j) o ≡ Some k → (o ≡ Some k → Double b c k) → Double b c k
step2 b c n m j k o s e f = go (b == n && c == m) refl e
  where
    go : (v : Bool) → (b == n && c == m) ≡ v → cond v (Some j) o ≡ Some k → Double b c k
    go true h e = let p = both (b == n) (c == m) h in let q : j ≡ k = cc in
        subst (λ (z : Kind). Double b c z) q (subst (λ (z : ℕ). Double b z j) (sym (is_same c m p.1)) (subst (λ (z : ℕ). Double z m j) (sym (is_same b n p.0)) s))
    go false h e = f e

double_sound : (b c : ℕ) (k : Kind) → double b c ≡ Some k → Double b c k
unfolding spelling has
double_sound b c k e =
    step2 b c 60 62 kinds.NotEqual k _ (record { writes = inl (kinds.NotEqual, refl, refl, refl); ends = λ d. refl }) e (λ e.
    step2 b c 33 61 kinds.NotEqual k _ (record { writes = inr (refl, refl); ends = λ d. refl }) e (λ e.
    step2 b c 60 61 kinds.AtMost k _ (record { writes = inl (kinds.AtMost, refl, refl, refl); ends = λ d. refl }) e (λ e.
    step2 b c 62 61 kinds.AtLeast k _ (record { writes = inl (kinds.AtLeast, refl, refl, refl); ends = λ d. refl }) e (λ e.
    step2 b c 124 124 kinds.Bars k _ (record { writes = inl (kinds.Bars, refl, refl, refl); ends = λ d. refl }) e (λ e. absurd cc)))))

ends_always : (k : Kind) (bs : List ℕ) → ((d : ℕ) → goes_on k d ≡ false) → begins (goes_on k) bs ≡ false
ends_always k [] h = refl
ends_always k (b ∷ bs) h = h b

symbol_sound : (b : ℕ) (bs : List ℕ) (t : Token) (rest : List ℕ) → begins_gap (b ∷ bs) ≡ false → symbol_from b bs ≡ Some (t, rest) → StandsBefore (b ∷ bs) t rest
unfolding symbol_from
symbol_sound b [] t rest h e = go (single b) refl e
  where
    go : (o : Option Kind) → single b ≡ o → with_rest [] o ≡ Some (t, rest) → StandsBefore (b ∷ []) t rest
    go None k e = absurd cc
    go (Some j) k e = let s = single_sound b j k in stands (b ∷ []) (b ∷ []) [] rest (symbol_token j) t (inr (inr (inr (inl (j, s.is_symbol, sym s.spelled, refl))))) refl refl e
symbol_sound b (c ∷ bs) t rest h e = go (double b c) refl (single b) refl e
  where
    no_dash : (x y : Bool) → (x || y) ≡ false → y ≡ false
    no_dash true y e = absurd cc
    no_dash false y e = e

    go : (o : Option Kind) → double b c ≡ o → (q : Option Kind) → single b ≡ q → or_else (with_rest bs o) (with_rest (c ∷ bs) q) ≡ Some (t, rest) → StandsBefore (b ∷ c ∷ bs) t rest
    go (Some j) k q l e = let s = double_sound b c j k in stands (b ∷ c ∷ bs) (b ∷ c ∷ []) bs rest (symbol_token j) t (inr (inr (inr s.writes))) (ends_always j bs s.ends) refl e
    go None k None l e = absurd cc
    go None k (Some j) l e = let s = single_sound b j l in
        stands (b ∷ c ∷ bs) (b ∷ []) (c ∷ bs) rest (symbol_token j) t (inr (inr (inr (inl (j, s.is_symbol, sym s.spelled, refl))))) (s.ends c k (no_dash (is_blank b) (b == 45 && c == 45) h)) refl e

-- what scanning finds in front stands there
pub token_sound : (bs : List ℕ) (t : Token) (rest : List ℕ) → begins_gap bs ≡ false → token_from bs ≡ Some (t, rest) → StandsBefore bs t rest
unfolding token_from has
token_sound [] t rest h e = absurd cc
token_sound (b ∷ bs) t rest h e = go (b == 39) refl (is_ascii_alphabetic b) (is_ascii_digit b) refl e
  where
    quoted : (o : Option (List ℕ × List ℕ)) → quoted_from [] bs ≡ o → b ≡ 39 → option_and_then {U = Token × List ℕ} (λ q. Some (text_token q.0, q.1)) o ≡ Some (t, rest) → StandsBefore (b ∷ bs) t rest
    quoted None k q e = absurd cc
    quoted (Some p) k q e =
        let s = quoted_sound [] bs p.0 p.1 k in
        stands (b ∷ bs) (39 ∷ doubled s.text ++ 39 ∷ []) p.1 rest (text_token p.0) t (inr (inr (inl (s.text, refl, ap (λ (u : List ℕ). text_token u) s.whole)))) s.ends
        (ap (λ (n : ℕ). n ∷ bs) q ∙ ap (λ (u : List ℕ). 39 ∷ u) (s.written ∙ sym (append_assoc (doubled s.text) (39 ∷ []) p.1))) e

    go : (v : Bool) → (b == 39) ≡ v → (w x : Bool) → is_ascii_digit b ≡ x
        → cond v (option_and_then (λ q. Some (text_token q.0, q.1)) (quoted_from [] bs)) (cond w (word_from (split_run is_name_byte (b ∷ bs))) (cond x (number_from (split_run is_ascii_digit (b ∷ bs))) (symbol_from b bs))) ≡ Some (t, rest) → StandsBefore (b ∷ bs) t rest
    go true k w x d e = quoted (quoted_from [] bs) refl (is_same b 39 k) e
    go false k true x d e = word_sound (b ∷ bs) t rest e
    go false k false true d e = number_sound b bs t rest d e
    go false k false false d e = symbol_sound b bs t rest h e

-- ---- what stands in front is found

at_symbol : (b : ℕ) (bs : List ℕ) → (b == 39) ≡ false → is_ascii_alphabetic b ≡ false → is_ascii_digit b ≡ false → token_from (b ∷ bs) ≡ symbol_from b bs
unfolding token_from
at_symbol b bs p q r =
    ap (λ (v : Bool). cond v (option_and_then (λ q. Some (text_token q.0, q.1)) (quoted_from [] bs)) (cond (is_ascii_alphabetic b) (word_from (split_run is_name_byte (b ∷ bs))) (cond (is_ascii_digit b) (number_from (split_run is_ascii_digit (b ∷ bs))) (symbol_from b bs)))) p
    ∙ ap (λ (v : Bool). cond v (word_from (split_run is_name_byte (b ∷ bs))) (cond (is_ascii_digit b) (number_from (split_run is_ascii_digit (b ∷ bs))) (symbol_from b bs))) q
    ∙ ap (λ (v : Bool). cond v (number_from (split_run is_ascii_digit (b ∷ bs))) (symbol_from b bs)) r

less_alone : (c : ℕ) (bs : List ℕ) → (c == 61 || c == 62) ≡ false → symbol_from 60 (c ∷ bs) ≡ Some (symbol_token kinds.Less, c ∷ bs)
unfolding symbol_from
less_alone c bs e = go (c == 62) (c == 61) e
  where
    go : (x y : Bool) → (y || x) ≡ false → or_else (with_rest bs (cond x (Some kinds.NotEqual) (cond y (Some kinds.AtMost) None))) (with_rest (c ∷ bs) (Some kinds.Less)) ≡ Some (symbol_token kinds.Less, c ∷ bs)
    go x true e = absurd cc
    go true false e = absurd cc
    go false false e = refl

greater_alone : (c : ℕ) (bs : List ℕ) → (c == 61) ≡ false → symbol_from 62 (c ∷ bs) ≡ Some (symbol_token kinds.Greater, c ∷ bs)
unfolding symbol_from
greater_alone c bs e = ap (λ (x : Bool). or_else (with_rest bs (cond x (Some kinds.AtLeast) None)) (with_rest (c ∷ bs) (Some kinds.Greater))) e

-- a symbol that no longer one begins with
plain : (b : ℕ) (k : Kind) (rest : List ℕ) → ((c : ℕ) → double b c ≡ None) → single b ≡ Some k → symbol_from b rest ≡ Some (symbol_token k, rest)
unfolding symbol_from
plain b k [] d e = ap (λ (o : Option Kind). with_rest [] o) e
plain b k (c ∷ bs) d e = ap (λ (o : Option Kind). or_else (with_rest bs o) (with_rest (c ∷ bs) (single b))) (d c) ∙ ap (λ (o : Option Kind). with_rest (c ∷ bs) o) e

symbol_only : (k : Kind) (rest : List ℕ) → has (from_to kinds.Open kinds.RightBrace) k ≡ true → begins (goes_on k) rest ≡ false → token_from (spelling k ++ rest) ≡ Some (symbol_token k, rest)
unfolding spelling has symbol_from
symbol_only kinds.Open rest e h = at_symbol 40 rest refl refl refl ∙ plain 40 kinds.Open rest (λ c. refl) refl
symbol_only kinds.Close rest e h = at_symbol 41 rest refl refl refl ∙ plain 41 kinds.Close rest (λ c. refl) refl
symbol_only kinds.Comma rest e h = at_symbol 44 rest refl refl refl ∙ plain 44 kinds.Comma rest (λ c. refl) refl
symbol_only kinds.Dot rest e h = at_symbol 46 rest refl refl refl ∙ plain 46 kinds.Dot rest (λ c. refl) refl
symbol_only kinds.Equal rest e h = at_symbol 61 rest refl refl refl ∙ plain 61 kinds.Equal rest (λ c. refl) refl
symbol_only kinds.NotEqual rest e h = at_symbol 60 (62 ∷ rest) refl refl refl
symbol_only kinds.Less [] e h = at_symbol 60 [] refl refl refl
symbol_only kinds.Less (c ∷ bs) e h = at_symbol 60 (c ∷ bs) refl refl refl ∙ less_alone c bs h
symbol_only kinds.AtMost rest e h = at_symbol 60 (61 ∷ rest) refl refl refl
symbol_only kinds.Greater [] e h = at_symbol 62 [] refl refl refl
symbol_only kinds.Greater (c ∷ bs) e h = at_symbol 62 (c ∷ bs) refl refl refl ∙ greater_alone c bs h
symbol_only kinds.AtLeast rest e h = at_symbol 62 (61 ∷ rest) refl refl refl
symbol_only kinds.Plus rest e h = at_symbol 43 rest refl refl refl ∙ plain 43 kinds.Plus rest (λ c. refl) refl
symbol_only kinds.Minus rest e h = at_symbol 45 rest refl refl refl ∙ plain 45 kinds.Minus rest (λ c. refl) refl
symbol_only kinds.Star rest e h = at_symbol 42 rest refl refl refl ∙ plain 42 kinds.Star rest (λ c. refl) refl
symbol_only kinds.Bars rest e h = at_symbol 124 (124 ∷ rest) refl refl refl
symbol_only kinds.LeftBracket rest e h = at_symbol 91 rest refl refl refl ∙ plain 91 kinds.LeftBracket rest (λ c. refl) refl
symbol_only kinds.RightBracket rest e h = at_symbol 93 rest refl refl refl ∙ plain 93 kinds.RightBracket rest (λ c. refl) refl
symbol_only kinds.LeftBrace rest e h = at_symbol 123 rest refl refl refl ∙ plain 123 kinds.LeftBrace rest (λ c. refl) refl
symbol_only kinds.RightBrace rest e h = at_symbol 125 rest refl refl refl ∙ plain 125 kinds.RightBrace rest (λ c. refl) refl
symbol_only k rest e h = absurd cc

pub token_only : (bs rest : List ℕ) (t : Token) → StandsBefore bs t rest → token_from bs ≡ Some (t, rest)
unfolding token_from has symbol_from
token_only bs rest t s = ap token_from s.3 ∙ go s.1 s.2
  where
    go : Writes s.0 t → begins (goes_on t.kind) rest ≡ false → token_from (s.0 ++ rest) ≡ Some (t, rest)
    go (inl w) h = word_only s.0 rest w.0 w.1 (subst (λ (u : Token). begins (goes_on u.kind) rest ≡ false) w.2 h) ∙ ap (λ (u : Token). Some (u, rest)) (sym w.2)
    go (inr (inl w)) h = number_only s.0 rest t w h
    go (inr (inr (inl w))) h =
        let ends : begins (λ b. b == 39) rest ≡ false = subst (λ (u : Token). begins (goes_on u.kind) rest ≡ false) w.2 h in
        ap (λ (u : List ℕ). token_from (u ++ rest)) w.1 ∙ ap (λ (u : List ℕ). option_and_then {U = Token × List ℕ} (λ q. Some (text_token q.0, q.1)) (quoted_from [] u)) (append_assoc (doubled w.0) (39 ∷ []) rest)
        ∙ ap (λ (o : Option (List ℕ × List ℕ)). option_and_then {U = Token × List ℕ} (λ q. Some (text_token q.0, q.1)) o) (quoted_only [] w.0 rest ends) ∙ ap (λ (u : Token). Some (u, rest)) (sym w.2)
    go (inr (inr (inr (inl w)))) h =
        ap (λ (u : List ℕ). token_from (u ++ rest)) w.2 ∙ symbol_only w.0 rest w.1 (subst (λ (u : Token). begins (goes_on u.kind) rest ≡ false) w.3 h) ∙ ap (λ (u : Token). Some (u, rest)) (sym w.3)
    go (inr (inr (inr (inr w)))) h = ap (λ (u : List ℕ). token_from (u ++ rest)) w.0 ∙ at_symbol 33 (61 ∷ rest) refl refl refl ∙ ap (λ (u : Token). Some (u, rest)) (sym w.1)

-- no gap begins where a token stands

letter_no_gap : (b : ℕ) (v : Bool) → is_ascii_alphabetic b ≡ true → (is_blank b || (b == 45 && v)) ≡ false
letter_no_gap b v e = go (is_blank b) (b == 45) (not_blank b e) (not_dash b e)
  where
    not_blank : (b : ℕ) → is_ascii_alphabetic b ≡ true → is_blank b ≡ false
    not_blank b e = grind (arith, nat_tests)

    not_dash : (b : ℕ) → is_ascii_alphabetic b ≡ true → (b == 45) ≡ false
    not_dash b e = grind (arith, nat_tests)

    go : (x y : Bool) → x ≡ false → y ≡ false → (x || (y && v)) ≡ false
    go true y e f = absurd cc
    go false true e f = absurd cc
    go false false e f = refl

digit_no_gap : (b : ℕ) (v : Bool) → is_ascii_digit b ≡ true → (is_blank b || (b == 45 && v)) ≡ false
digit_no_gap b v e = go (is_blank b) (b == 45) (not_blank b e) (not_dash b e)
  where
    not_blank : (b : ℕ) → is_ascii_digit b ≡ true → is_blank b ≡ false
    not_blank b e = grind (arith, nat_tests)

    not_dash : (b : ℕ) → is_ascii_digit b ≡ true → (b == 45) ≡ false
    not_dash b e = grind (arith, nat_tests)

    go : (x y : Bool) → x ≡ false → y ≡ false → (x || (y && v)) ≡ false
    go true y e f = absurd cc
    go false true e f = absurd cc
    go false false e f = refl

symbol_no_gap : (k : Kind) (rest : List ℕ) → has (from_to kinds.Open kinds.RightBrace) k ≡ true → begins (goes_on k) rest ≡ false → begins_gap (spelling k ++ rest) ≡ false
unfolding spelling has
symbol_no_gap kinds.Open rest e h = refl
symbol_no_gap kinds.Close rest e h = refl
symbol_no_gap kinds.Comma rest e h = refl
symbol_no_gap kinds.Dot rest e h = refl
symbol_no_gap kinds.Equal rest e h = refl
symbol_no_gap kinds.NotEqual rest e h = refl
symbol_no_gap kinds.Less rest e h = refl
symbol_no_gap kinds.AtMost rest e h = refl
symbol_no_gap kinds.Greater rest e h = refl
symbol_no_gap kinds.AtLeast rest e h = refl
symbol_no_gap kinds.Plus rest e h = refl
symbol_no_gap kinds.Minus [] e h = refl
symbol_no_gap kinds.Minus (c ∷ bs) e h = h
symbol_no_gap kinds.Star rest e h = refl
symbol_no_gap kinds.Bars rest e h = refl
symbol_no_gap kinds.LeftBracket rest e h = refl
symbol_no_gap kinds.RightBracket rest e h = refl
symbol_no_gap kinds.LeftBrace rest e h = refl
symbol_no_gap kinds.RightBrace rest e h = refl
symbol_no_gap k rest e h = absurd cc

pub no_gap_before : (bs rest : List ℕ) (t : Token) → StandsBefore bs t rest → begins_gap bs ≡ false
no_gap_before bs rest t s = subst (λ (u : List ℕ). begins_gap u ≡ false) (sym s.3) (go s.1 s.2)
  where
    go : Writes s.0 t → begins (goes_on t.kind) rest ≡ false → begins_gap (s.0 ++ rest) ≡ false
    go (inl w) h = let p = name_bytes s.0 w.0 w.1 in subst (λ (u : List ℕ). begins_gap (u ++ rest) ≡ false) (sym p.2) (letter_no_gap p.0 _ p.3)
    go (inr (inl w)) h =
        let first : is_ascii_digit w.0 ≡ true = (both (is_ascii_digit w.0) (list_all is_ascii_digit w.1) (subst (λ (u : List ℕ). list_all is_ascii_digit u ≡ true) w.2 w.3)).0 in
        subst (λ (u : List ℕ). begins_gap (u ++ rest) ≡ false) (sym w.2) (digit_no_gap w.0 _ first)
    go (inr (inr (inl w))) h = subst (λ (u : List ℕ). begins_gap (u ++ rest) ≡ false) (sym w.1) refl
    go (inr (inr (inr (inl w)))) h = subst (λ (u : List ℕ). begins_gap (u ++ rest) ≡ false) (sym w.2) (symbol_no_gap w.0 rest w.1 (subst (λ (u : Token). begins (goes_on u.kind) rest ≡ false) w.3 h))
    go (inr (inr (inr (inr w)))) h = subst (λ (u : List ℕ). begins_gap (u ++ rest) ≡ false) (sym w.0) refl

-- a token begins with a byte below 128

first : (n b : ℕ) (vs us : List ℕ) → ◌≡◌ {A = List ℕ} (n ∷ vs) (b ∷ us) → n ≡ b
first n b vs us e = cc

small : (n b : ℕ) → n < 128 → n ≡ b → b < 128
small n b h e = omega arith

low_symbol : (k : Kind) (b : ℕ) (us rest : List ℕ) → has (from_to kinds.Open kinds.RightBrace) k ≡ true → spelling k ++ rest ≡ b ∷ us → b < 128
unfolding spelling has
low_symbol kinds.Open b us rest h e = small 40 b (lit< tt) (first 40 b _ us e)
low_symbol kinds.Close b us rest h e = small 41 b (lit< tt) (first 41 b _ us e)
low_symbol kinds.Comma b us rest h e = small 44 b (lit< tt) (first 44 b _ us e)
low_symbol kinds.Dot b us rest h e = small 46 b (lit< tt) (first 46 b _ us e)
low_symbol kinds.Equal b us rest h e = small 61 b (lit< tt) (first 61 b _ us e)
low_symbol kinds.NotEqual b us rest h e = small 60 b (lit< tt) (first 60 b _ us e)
low_symbol kinds.Less b us rest h e = small 60 b (lit< tt) (first 60 b _ us e)
low_symbol kinds.AtMost b us rest h e = small 60 b (lit< tt) (first 60 b _ us e)
low_symbol kinds.Greater b us rest h e = small 62 b (lit< tt) (first 62 b _ us e)
low_symbol kinds.AtLeast b us rest h e = small 62 b (lit< tt) (first 62 b _ us e)
low_symbol kinds.Plus b us rest h e = small 43 b (lit< tt) (first 43 b _ us e)
low_symbol kinds.Minus b us rest h e = small 45 b (lit< tt) (first 45 b _ us e)
low_symbol kinds.Star b us rest h e = small 42 b (lit< tt) (first 42 b _ us e)
low_symbol kinds.Bars b us rest h e = small 124 b (lit< tt) (first 124 b _ us e)
low_symbol kinds.LeftBracket b us rest h e = small 91 b (lit< tt) (first 91 b _ us e)
low_symbol kinds.RightBracket b us rest h e = small 93 b (lit< tt) (first 93 b _ us e)
low_symbol kinds.LeftBrace b us rest h e = small 123 b (lit< tt) (first 123 b _ us e)
low_symbol kinds.RightBrace b us rest h e = small 125 b (lit< tt) (first 125 b _ us e)
low_symbol k b us rest h e = absurd cc

letter_low : (b : ℕ) → is_ascii_alphabetic b ≡ true → b < 128
letter_low b e = grind (arith, nat_tests)

digit_low : (b : ℕ) → is_ascii_digit b ≡ true → b < 128
digit_low b e = grind (arith, nat_tests)

first_low : (bs us rest : List ℕ) (b : ℕ) (t : Token) → StandsBefore bs t rest → bs ≡ b ∷ us → b < 128
first_low bs us rest b t s e = go s.1 (sym s.3 ∙ e)
  where
    go : Writes s.0 t → s.0 ++ rest ≡ b ∷ us → b < 128
    go (inl w) f = let p = name_bytes s.0 w.0 w.1 in let h = letter_low p.0 p.3 in let g : p.0 ≡ b = first p.0 b _ us (ap (λ (u : List ℕ). u ++ rest) (sym p.2) ∙ f) in omega (arith, h, g)
    go (inr (inl w)) f =
        let d : is_ascii_digit w.0 ≡ true = (both (is_ascii_digit w.0) (list_all is_ascii_digit w.1) (subst (λ (u : List ℕ). list_all is_ascii_digit u ≡ true) w.2 w.3)).0 in
        let h = digit_low w.0 d in
        let g : w.0 ≡ b = first w.0 b _ us (ap (λ (u : List ℕ). u ++ rest) (sym w.2) ∙ f) in omega (arith, h, g)
    go (inr (inr (inl w))) f = small 39 b (lit< tt) (first 39 b _ us (ap (λ (u : List ℕ). u ++ rest) (sym w.1) ∙ f))
    go (inr (inr (inr (inl w)))) f = low_symbol w.0 b us rest w.1 (ap (λ (u : List ℕ). u ++ rest) (sym w.2) ∙ f)
    go (inr (inr (inr (inr w)))) f = small 33 b (lit< tt) (first 33 b _ us (ap (λ (u : List ℕ). u ++ rest) (sym w.0) ∙ f))

pub no_ascii_token : (bs : List ℕ) → ((b : ℕ) (us : List ℕ) → bs ≡ b ∷ us → 128 ≤ b) → token_from bs ≡ None
unfolding token_from
no_ascii_token [] h = refl
no_ascii_token (b ∷ us) h = go (token_from (b ∷ us)) refl
  where
    le : 128 ≤ b
    le = h b us refl

    no_gap : begins_gap (b ∷ us) ≡ false
    no_gap = high_gap (is_blank b) (b == 45) (high_no_blank b le) (high_no_dash b le)
      where
        high_gap : (x y : Bool) → x ≡ false → y ≡ false → (x || (y && begins (λ c. c == 45) us)) ≡ false
        high_gap true y e f = absurd cc
        high_gap false true e f = absurd cc
        high_gap false false e f = refl

    go : (o : Option (Token × List ℕ)) → token_from (b ∷ us) ≡ o → o ≡ None
    go None e = refl
    go (Some q) e = let lt = first_low (b ∷ us) us q.1 b q.0 (token_sound (b ∷ us) q.0 q.1 no_gap e) refl in absurd (omega (arith, lt, le))

filled_symbol : (k : Kind) → has (from_to kinds.Open kinds.RightBrace) k ≡ true → 0 < length (spelling k)
unfolding spelling has
filled_symbol kinds.Open h = lit< tt
filled_symbol kinds.Close h = lit< tt
filled_symbol kinds.Comma h = lit< tt
filled_symbol kinds.Dot h = lit< tt
filled_symbol kinds.Equal h = lit< tt
filled_symbol kinds.NotEqual h = lit< tt
filled_symbol kinds.Less h = lit< tt
filled_symbol kinds.AtMost h = lit< tt
filled_symbol kinds.Greater h = lit< tt
filled_symbol kinds.AtLeast h = lit< tt
filled_symbol kinds.Plus h = lit< tt
filled_symbol kinds.Minus h = lit< tt
filled_symbol kinds.Star h = lit< tt
filled_symbol kinds.Bars h = lit< tt
filled_symbol kinds.LeftBracket h = lit< tt
filled_symbol kinds.RightBracket h = lit< tt
filled_symbol kinds.LeftBrace h = lit< tt
filled_symbol kinds.RightBrace h = lit< tt
filled_symbol k h = absurd cc

-- no token is empty
pub written_filled : (front : List ℕ) (t : Token) → Writes front t → 0 < length front
written_filled front t (inl w) = let p = name_bytes front w.0 w.1 in subst (λ (u : List ℕ). 0 < length u) (sym p.2) (omega arith)
written_filled front t (inr (inl w)) = subst (λ (u : List ℕ). 0 < length u) (sym w.2) (omega arith)
written_filled front t (inr (inr (inl w))) = subst (λ (u : List ℕ). 0 < length u) (sym w.1) (omega arith)
written_filled front t (inr (inr (inr (inl w)))) = subst (λ (u : List ℕ). 0 < length u) (sym w.2) (filled_symbol w.0 w.1)
written_filled front t (inr (inr (inr (inr w)))) = subst (λ (u : List ℕ). 0 < length u) (sym w.0) (lit< tt)
