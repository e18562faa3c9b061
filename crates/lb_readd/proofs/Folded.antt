-- Repetition as a loop goes through it that makes one value of what it reads: g says what the value is, of what is still read.
use Rattle.std.proofs.Common.{true, false, ◌≡◌, ℕ, suc, ◌-◌, ◌+◌, ◌≤◌, ◌<◌, List, [], ◌∷◌, length, refl, sym, ap, ◌∙◌, arith}
use Rattle.lb_tok.specs.declared.token.Token.{Token}
use Rattle.lb_tok.specs.Kinds.{Kinds}
use Rattle.lb_readt.specs.declared.fault.Fault.{Fault}
use Rattle.lb_readt.specs.declared.fault.Fault.TheVariants.{Memory, Bad, Deep}
use Rattle.lb_readt.specs.Readers.{bad, deep, Answer, got, stop, Reader, bind, give, heads, turns, many}
use Rattle.lb_readt.specs.Answering.{Faults}

-- the value of what is still read
abbrev pub with_value : {A B : Type 0} → (List A → B) → Answer (List A) → Answer B
with_value g a = bind a (λ xs. give (g xs))

pub same_value : {A B : Type 0} (g h : List A → B) (a : Answer (List A)) → ((xs : List A) → g xs ≡ h xs) → with_value g a ≡ with_value h a
same_value g h (got xs rest) e = ap (λ (y : _). got y rest) (e xs)
same_value g h (stop c rest) e = refl

regroup : {A B : Type 0} (g : List A → B) (x : A) (a : Answer (List A)) → with_value g (bind a (λ xs. give (x ∷ xs))) ≡ with_value (λ xs. g (x ∷ xs)) a
regroup g x (got xs rest) = refl
regroup g x (stop c rest) = refl

minus_none : (n : ℕ) → n - 0 ≡ n
minus_none n = omega arith

pub folds_begin : {A B : Type 0} (ks : Kinds) (f : Reader A) (g : List A → B) (ts : List Token) → with_value g (turns (length ts - 0) ks f ts) ≡ with_value g (many ks f ts)
folds_begin ks f g ts = ap (λ (n : ℕ). with_value g (turns n ks f ts)) (minus_none (length ts))

pub folds_on : {A B : Type 0} (ks : Kinds) (f : Reader A) (g h : List A → B) (count i : ℕ) (ts rest : List Token) (x : A) (total : Answer B) → i < count → heads ks ts ≡ true → f ts ≡ got x rest → ((xs : List A) → g (x ∷ xs) ≡ h xs)
    → with_value g (turns (count - i) ks f ts) ≡ total → with_value h (turns (count - (i + 1)) ks f rest) ≡ total
unfolding turns
folds_on ks f g h count i ts rest x total lt e r same so_far =
    let k : count - i ≡ suc (count - (i + 1)) = omega arith in
    let one : with_value g (turns (count - i) ks f ts) ≡ with_value (λ xs. g (x ∷ xs)) (turns (count - (i + 1)) ks f rest) = rw (k, e, r) (regroup g x (turns (count - (i + 1)) ks f rest)) in
    sym (same_value (λ xs. g (x ∷ xs)) h (turns (count - (i + 1)) ks f rest) same) ∙ sym one ∙ so_far

pub folds_end : {A B : Type 0} (ks : Kinds) (f : Reader A) (g : List A → B) (count i : ℕ) (ts : List Token) (total : Answer B) → i < count → heads ks ts ≡ false
    → with_value g (turns (count - i) ks f ts) ≡ total → total ≡ got (g []) ts
unfolding turns
folds_end ks f g count i ts total lt e so_far =
    let k : count - i ≡ suc (count - (i + 1)) = omega arith in
    let one : with_value g (turns (count - i) ks f ts) ≡ got (g []) ts = rw (k, e) refl in
    sym so_far ∙ one

pub folds_out : {A B : Type 0} (ks : Kinds) (f : Reader A) (g : List A → B) (count i : ℕ) (ts : List Token) (total : Answer B) → count ≤ i
    → with_value g (turns (count - i) ks f ts) ≡ total → total ≡ got (g []) ts
unfolding turns
folds_out ks f g count i ts total le so_far =
    let k : count - i ≡ 0 = omega arith in
    let one : with_value g (turns (count - i) ks f ts) ≡ got (g []) ts = rw k refl in
    sym so_far ∙ one

pub folds_stop : {A B : Type 0} (e : Fault) (ks : Kinds) (f : Reader A) (g : List A → B) (count i : ℕ) (ts : List Token) (total : Answer B) → i < count → heads ks ts ≡ true → Faults e (f ts)
    → with_value g (turns (count - i) ks f ts) ≡ total → Faults e total
unfolding turns
folds_stop Memory ks f g count i ts total lt h r so_far = tt
folds_stop (Bad rest) ks f g count i ts total lt h r so_far =
    let k : count - i ≡ suc (count - (i + 1)) = omega arith in
    let one : with_value g (turns (count - i) ks f ts) ≡ stop bad rest.now = rw (k, h, r) refl in
    sym so_far ∙ one
folds_stop (Deep rest) ks f g count i ts total lt h r so_far =
    let k : count - i ≡ suc (count - (i + 1)) = omega arith in
    let one : with_value g (turns (count - i) ks f ts) ≡ stop deep rest.now = rw (k, h, r) refl in
    sym so_far ∙ one
