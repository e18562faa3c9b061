-- Runs of bytes and symbols: what the scanner takes is the longest token.
use Rattle.std.proofs.Common.{Bool, true, false, cond, ◌≡◌, ℕ, List, [], ◌∷◌, ◌++◌, Option, Some, None, refl, sym, ap, ◌∙◌, append_assoc}
use Rattle.std.specs.Option.{option_and_then}
use Rattle.lb_tok.specs.declared.kind.Kind.{Kind}
use Rattle.lb_tok.specs.Scanning.{value_on, value_more, split_run, symbol_from, single, double, with_rest, or_else}

-- the run so far, and what is left of it
pub record RunsOn (p : ℕ → Bool) (front all text : List ℕ) : Type 0 where
  pub same : (front ++ (split_run p all).0, (split_run p all).1) ≡ split_run p text

nil : (a : List ℕ) → a ++ [] ≡ a
nil [] = refl
nil (x ∷ a) = ap (λ (u : List ℕ). x ∷ u) (nil a)

pub run_begins : (p : ℕ → Bool) (text : List ℕ) → RunsOn p [] text text
run_begins p text = record { same = refl }

run_more : (p : ℕ → Bool) (all bs : List ℕ) (b : ℕ) → all ≡ b ∷ bs → p b ≡ true → split_run p all ≡ (b ∷ (split_run p bs).0, (split_run p bs).1)
unfolding split_run
run_more p all bs b e h = ap (λ (u : List ℕ). split_run p u) e ∙ ap (λ (v : Bool). cond v (b ∷ (split_run p bs).0, (split_run p bs).1) ([], b ∷ bs)) h

run_stops : (p : ℕ → Bool) (all : List ℕ) → ((b : ℕ) (bs : List ℕ) → all ≡ b ∷ bs → p b ≡ false) → split_run p all ≡ ([], all)
unfolding split_run
run_stops p [] h = refl
run_stops p (b ∷ bs) h = ap (λ (v : Bool). cond v (b ∷ (split_run p bs).0, (split_run p bs).1) ([], b ∷ bs)) (h b bs refl)

pub run_goes_on : (p : ℕ → Bool) (front all text bs : List ℕ) (b : ℕ) → RunsOn p front all text → all ≡ b ∷ bs → p b ≡ true → RunsOn p (front ++ b ∷ []) bs text
run_goes_on p front all text bs b r e h =
    let s = run_more p all bs b e h in
    record { same = ap (λ (u : List ℕ). (u, (split_run p bs).1)) (append_assoc front (b ∷ []) (split_run p bs).0) ∙ ap (λ (q : List ℕ × List ℕ). (front ++ q.0, q.1)) (sym s) ∙ r.same }

pub run_ends : (p : ℕ → Bool) (front all text : List ℕ) → RunsOn p front all text → ((b : ℕ) (bs : List ℕ) → all ≡ b ∷ bs → p b ≡ false) → (front, all) ≡ split_run p text
run_ends p front all text r h =
    let s = run_stops p all h in
    ap (λ (u : List ℕ). (u, all)) (sym (nil front)) ∙ ap (λ (q : List ℕ × List ℕ). (front ++ q.0, q.1)) (sym s) ∙ r.same

-- a symbol of one byte, where no longer one begins
pub no_double : (b c : ℕ) (bs : List ℕ) → double b c ≡ None → symbol_from b (c ∷ bs) ≡ with_rest (c ∷ bs) (single b)
unfolding symbol_from
no_double b c bs e = ap (λ (o : Option Kind). or_else (with_rest bs o) (with_rest (c ∷ bs) (single b))) e

-- the number so far, and what is left of its digits
pub record ValuesOn (p : ℕ → Bool) (v : Option ℕ) (all text : List ℕ) : Type 0 where
  pub value : value_on v (split_run p all).0 ≡ value_on (Some 0) (split_run p text).0
  pub rest : (split_run p all).1 ≡ (split_run p text).1

pub value_begins : (p : ℕ → Bool) (text : List ℕ) → ValuesOn p (Some 0) text text
value_begins p text = record { value = refl; rest = refl }

pub value_goes_on : (p : ℕ → Bool) (v w : Option ℕ) (all text bs : List ℕ) (b : ℕ) → ValuesOn p v all text → all ≡ b ∷ bs → p b ≡ true → w ≡ option_and_then (λ n. value_more n b) v → ValuesOn p w bs text
unfolding value_on
value_goes_on p v w all text bs b r e h k =
    let s = run_more p all bs b e h in
    record {
      value = ap (λ (u : Option ℕ). value_on u (split_run p bs).0) k ∙ ap (λ (q : List ℕ × List ℕ). value_on v q.0) (sym s) ∙ r.value;
      rest = ap (λ (q : List ℕ × List ℕ). q.1) (sym s) ∙ r.rest;
    }

pub value_ends : (p : ℕ → Bool) (v : Option ℕ) (all text : List ℕ) → ValuesOn p v all text → ((b : ℕ) (bs : List ℕ) → all ≡ b ∷ bs → p b ≡ false) → v ≡ value_on (Some 0) (split_run p text).0
unfolding value_on
value_ends p v all text r h = ap (λ (q : List ℕ × List ℕ). value_on v q.0) (sym (run_stops p all h)) ∙ r.value

pub value_rests : (p : ℕ → Bool) (v : Option ℕ) (all text : List ℕ) → ValuesOn p v all text → ((b : ℕ) (bs : List ℕ) → all ≡ b ∷ bs → p b ≡ false) → all ≡ (split_run p text).1
value_rests p v all text r h = ap (λ (q : List ℕ × List ℕ). q.1) (sym (run_stops p all h)) ∙ r.rest
