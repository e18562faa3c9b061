-- What the loop that reads a list has read and has still to read, turn by turn; and a list after its first item.
use Rattle.std.proofs.Common.{true, false, ◌≡◌, ℕ, suc, ◌-◌, ◌+◌, ◌≤◌, ◌<◌, List, [], ◌∷◌, ◌++◌, length, refl, sym, ap, subst, ◌∙◌, append_assoc, arith}
use Rattle.std.proofs.lemmas.List.{append-nil}
use Rattle.lb_tok.specs.declared.kind.Kind.{Kind}
use Rattle.lb_tok.specs.declared.token.Token.{Token}
use Rattle.lb_tok.specs.Kinds.{Kinds}
use Rattle.lb_readt.specs.declared.fault.Fault.{Fault}
use Rattle.lb_readt.specs.declared.fault.Fault.TheVariants.{Memory, Bad, Deep}
use Rattle.lb_readt.specs.Readers.{bad, deep, Answer, got, stop, Reader, bind, give, heads, made, word, after, turns, many, commas, listed}
use Rattle.lb_readt.specs.Answering.{Faults}

-- what was read before, and what is still read
abbrev pub with_front : {A : Type 0} → List A → Answer (List A) → Answer (List A)
with_front front a = bind a (λ xs. give (front ++ xs))

regroup : {A : Type 0} (front : List A) (x : A) (a : Answer (List A)) → with_front front (bind a (λ xs. give (x ∷ xs))) ≡ with_front (front ++ x ∷ []) a
regroup front x (got xs rest) = ap (λ (ys : List _). got ys rest) (simp append_assoc)
regroup front x (stop c rest) = refl

begins : {A : Type 0} (a : Answer (List A)) → with_front [] a ≡ a
begins (got xs rest) = refl
begins (stop c rest) = refl

minus_none : (n : ℕ) → n - 0 ≡ n
minus_none n = omega arith

pub turns_begin : {A : Type 0} (ks : Kinds) (f : Reader A) (ts : List Token) → with_front [] (turns (length ts - 0) ks f ts) ≡ many ks f ts
turns_begin ks f ts = begins (turns (length ts - 0) ks f ts) ∙ ap (λ (n : ℕ). turns n ks f ts) (minus_none (length ts))

pub turns_on : {A : Type 0} (ks : Kinds) (f : Reader A) (front : List A) (count i : ℕ) (ts rest : List Token) (x : A) (total : Answer (List A)) → i < count → heads ks ts ≡ true → f ts ≡ got x rest
    → with_front front (turns (count - i) ks f ts) ≡ total → with_front (front ++ x ∷ []) (turns (count - (i + 1)) ks f rest) ≡ total
unfolding turns
turns_on ks f front count i ts rest x total lt h g so_far =
    let k : count - i ≡ suc (count - (i + 1)) = omega arith in
    let one : with_front front (turns (count - i) ks f ts) ≡ with_front (front ++ x ∷ []) (turns (count - (i + 1)) ks f rest) = rw (k, h, g) (regroup front x (turns (count - (i + 1)) ks f rest)) in
    sym one ∙ so_far

pub turns_end : {A : Type 0} (ks : Kinds) (f : Reader A) (front : List A) (count i : ℕ) (ts : List Token) (total : Answer (List A)) → i < count → heads ks ts ≡ false
    → with_front front (turns (count - i) ks f ts) ≡ total → total ≡ got front ts
unfolding turns
turns_end ks f front count i ts total lt h so_far =
    let k : count - i ≡ suc (count - (i + 1)) = omega arith in
    let one : with_front front (turns (count - i) ks f ts) ≡ got (front ++ []) ts = rw (k, h) refl in
    sym so_far ∙ one ∙ ap (λ (ys : List _). got ys ts) (append-nil front)

pub turns_out : {A : Type 0} (ks : Kinds) (f : Reader A) (front : List A) (count i : ℕ) (ts : List Token) (total : Answer (List A)) → count ≤ i
    → with_front front (turns (count - i) ks f ts) ≡ total → total ≡ got front ts
unfolding turns
turns_out ks f front count i ts total le so_far =
    let k : count - i ≡ 0 = omega arith in
    let one : with_front front (turns (count - i) ks f ts) ≡ got (front ++ []) ts = rw k refl in
    sym so_far ∙ one ∙ ap (λ (ys : List _). got ys ts) (append-nil front)

pub turns_stop : {A : Type 0} (e : Fault) (ks : Kinds) (f : Reader A) (front : List A) (count i : ℕ) (ts : List Token) (total : Answer (List A)) → i < count → heads ks ts ≡ true → Faults e (f ts)
    → with_front front (turns (count - i) ks f ts) ≡ total → Faults e total
unfolding turns
turns_stop Memory ks f front count i ts total lt h g so_far = tt
turns_stop (Bad rest) ks f front count i ts total lt h g so_far =
    let k : count - i ≡ suc (count - (i + 1)) = omega arith in
    let one : with_front front (turns (count - i) ks f ts) ≡ stop bad rest.now = rw (k, h, g) refl in
    sym so_far ∙ one
turns_stop (Deep rest) ks f front count i ts total lt h g so_far =
    let k : count - i ≡ suc (count - (i + 1)) = omega arith in
    let one : with_front front (turns (count - i) ks f ts) ≡ stop deep rest.now = rw (k, h, g) refl in
    sym so_far ∙ one

-- a word, and what follows
pub word_on : {A : Type 0} (k : Kind) (f : Reader A) (ts more : List Token) (x : A) (rest : List Token) → word k ts ≡ got tt more → f more ≡ got x rest → after k f ts ≡ got x rest
word_on k f ts more x rest e h = ap (λ (a : Answer (Unit {0})). bind a (λ b. f)) e ∙ h

pub word_stop : {A : Type 0} (k : Kind) (f : Reader A) (e : Fault) (ts more : List Token) → word k ts ≡ got tt more → Faults e (f more) → Faults e (after k f ts)
word_stop k f e ts more h p = subst (λ (a : Answer (Unit {0})). Faults e (bind a (λ b. f))) (sym h) p

-- a first item, and further ones
stops_too : {A B : Type 0} (e : Fault) (a : Answer A) (g : A → Reader B) → Faults e a → Faults e (bind a g)
stops_too Memory a g h = tt
stops_too (Bad rest) a g h = ap (λ (b : Answer _). bind b g) h
stops_too (Deep rest) a g h = ap (λ (b : Answer _). bind b g) h

pub listed_on : {A : Type 0} (f : Reader A) (ts more : List Token) (x : A) (xs : List A) (rest : List Token) → f ts ≡ got x more → commas f more ≡ got xs rest → listed f ts ≡ got (x ∷ xs) rest
listed_on f ts more x xs rest e h = ap (λ (a : Answer _). bind a (λ y. made (λ ys. y ∷ ys) (commas f))) e ∙ ap (λ (a : Answer (List _)). bind a (λ ys. give (x ∷ ys))) h

pub listed_stop : {A : Type 0} (f : Reader A) (e : Fault) (ts more : List Token) (x : A) → f ts ≡ got x more → Faults e (commas f more) → Faults e (listed f ts)
listed_stop f e ts more x g h = subst (λ (a : Answer _). Faults e (bind a (λ y. made (λ ys. y ∷ ys) (commas f)))) (sym g) (stops_too e (commas f more) (λ ys. give (x ∷ ys)) h)
