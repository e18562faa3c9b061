-- What several calls, one after the other, do to the bytes and days that are told.
use Rattle.std.proofs.Common.{◌≡◌, ℕ, ◌+◌, ◌-◌, List, [], ◌++◌, ◌↔◌, length, take, drop, Option, Some, None, refl, sym, ap, ◌∙◌, append_assoc, append-nil, arith, length-append}
use Rattle.std.proofs.lemmas.List.{nil_from_length, take_all, take_rest, take-take, take-append-le, take-append-drop, drop-take, drop-drop}
use Rattle.std.proofs.Math.Seq.{take-append-add}
use Rattle.std.specs.Io.KnownBytes.{Appends, IsAtEnd}
use Rattle.lb_wire.specs.Told.{GrewBy, Took, TookAll, AppendsPart}

-- the first i of a list, and n more
pub take-take_more : {A : Type 0} (i n : ℕ) (xs : List A) → take i xs ++ take n (drop i xs) ≡ take (i + n) xs
take-take_more i n xs =
    let front : take i (take (i + n) xs) ≡ take i xs = take-take i (i + n) xs (omega arith) in
    let rest : drop i (take (i + n) xs) ≡ take n (drop i xs) = drop-take i n xs in
    rw (← front, ← rest) (take-append-drop i (take (i + n) xs))

-- ---- what is written

pub Appends-nil : (a : Option (List ℕ)) → Appends a a []
Appends-nil None = tt
Appends-nil (Some a) = sym (append-nil a)

pub Appends-then : (a b c : Option (List ℕ)) (xs ys : List ℕ) → Appends a b xs → Appends b c ys → Appends a c (xs ++ ys)
Appends-then None b c xs ys p q = tt
Appends-then (Some a) None c xs ys p q = absurd p
Appends-then (Some a) (Some b) None xs ys p q = absurd q
Appends-then (Some a) (Some b) (Some c) xs ys p q = rw (q, p) (append_assoc a xs ys)

-- the first i bytes of a text, and then n more
pub Appends-more : (a b c : Option (List ℕ)) (text : List ℕ) (i n : ℕ) → Appends a b (take i text) → Appends b c (take n (drop i text)) → Appends a c (take (i + n) text)
Appends-more a b c text i n p q = rw (← take-take_more i n text) (Appends-then a b c (take i text) (take n (drop i text)) p q)

-- the same where the rest of the text is handed on as a slice
pub Appends-more_of_rest : (a b c : Option (List ℕ)) (text : List ℕ) (i n : ℕ) → Appends a b (take i text) → Appends b c (take n (take (length text - i) (drop i text))) → Appends a c (take (i + n) text)
Appends-more_of_rest a b c text i n p q = Appends-more a b c text i n p (rw (take_rest text i) at q)

-- ---- a part of a piece

pub AppendsPart-none : (a : Option (List ℕ)) (xs : List ℕ) → AppendsPart a a xs
AppendsPart-none a xs = record { count = 0; within = omega arith; bytes = Appends-nil a }

pub AppendsPart-whole : (a b : Option (List ℕ)) (xs : List ℕ) → Appends a b xs → AppendsPart a b xs
AppendsPart-whole a b xs p = record { count = length xs; within = omega arith; bytes = rw (take_all (length xs) xs (omega arith)) p }

-- a part of a text is a part of a longer one
pub AppendsPart-longer : (a b : Option (List ℕ)) (xs ys : List ℕ) → AppendsPart a b xs → AppendsPart a b (xs ++ ys)
AppendsPart-longer a b xs ys p = record {
  count = p.count;
  within = omega (arith, p.within, length-append xs ys);
  bytes = rw (take-append-le p.count xs ys p.within) p.bytes;
}

-- a whole text, and then a part of a piece
pub AppendsPart-then : (a b c : Option (List ℕ)) (xs ys : List ℕ) → Appends a b xs → AppendsPart b c ys → AppendsPart a c (xs ++ ys)
AppendsPart-then a b c xs ys p q = record {
  count = length xs + q.count;
  within = omega (arith, q.within, length-append xs ys);
  bytes = rw (take-append-add xs ys q.count) (Appends-then a b c xs (take q.count ys) p q.bytes);
}

-- ---- what is taken

pub Took-none : (a : Option (List ℕ)) → Took a a []
Took-none None = tt
Took-none (Some a) = refl

pub Took-then : (a b c : Option (List ℕ)) (xs ys : List ℕ) → Took a b xs → Took b c ys → Took a c (xs ++ ys)
Took-then None b c xs ys p q = tt
Took-then (Some a) None c xs ys p q = absurd p
Took-then (Some a) (Some b) None xs ys p q = absurd q
Took-then (Some a) (Some b) (Some c) xs ys p q = p ∙ ap (λ l. xs ++ l) q ∙ sym (append_assoc xs ys c)

-- the first n bytes of those that are left, and then the others
pub Took-front : (xs buf : List ℕ) (at n : ℕ) → take n buf ≡ take n (drop at xs) → drop at xs ≡ take n buf ++ drop (at + n) xs
Took-front xs buf at n e = rw (e, ← drop-drop n at xs) (sym (take-append-drop n (drop at xs)))

-- a read that gives nothing finds nothing left, and where nothing is left it gives nothing
pub Took-nothing : (before : List ℕ) (b : Option (List ℕ)) (n : ℕ) (buf : List ℕ) → Took (Some before) b (take n buf) → n ≡ length (take n buf) → (n ≡ 0 → IsAtEnd b) → (n ≡ 0) ↔ (before ≡ [])
Took-nothing before None n buf p size end = absurd p
Took-nothing before (Some rest) n buf p size end =
    let sizes : length before ≡ n + length rest = omega (arith, ap length p, length-append (take n buf) rest, size) in
    (λ none. nil_from_length before (omega (arith, sizes, none, ap length (end none))), λ e. omega (arith, sizes, ap length e))

-- where none is left, all was taken
pub TookAll-at_end : (a b : Option (List ℕ)) (xs : List ℕ) → Took a b xs → IsAtEnd b → TookAll a b xs
TookAll-at_end None b xs p e = tt
TookAll-at_end (Some a) None xs p e = absurd p
TookAll-at_end (Some a) (Some b) xs p e = (p ∙ ap (λ l. xs ++ l) e ∙ append-nil xs, ap Some e)

-- ---- what a clock gave

pub GrewBy-nil : {A : Type 0} (a : Option (List A)) → GrewBy a a []
GrewBy-nil None = tt
GrewBy-nil (Some a) = sym (append-nil a)

pub GrewBy-then : {A : Type 0} (a b c : Option (List A)) (xs ys : List A) → GrewBy a b xs → GrewBy b c ys → GrewBy a c (xs ++ ys)
GrewBy-then None b None xs ys p q = tt
GrewBy-then (Some a) b None xs ys p q = tt
GrewBy-then None None (Some c) xs ys p q = absurd q
GrewBy-then (Some a) None (Some c) xs ys p q = absurd q
GrewBy-then None (Some b) (Some c) xs ys p q = absurd p
GrewBy-then (Some a) (Some b) (Some c) xs ys p q = rw (q, p) (append_assoc a xs ys)
