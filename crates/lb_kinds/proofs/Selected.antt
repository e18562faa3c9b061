-- DISTINCT, ORDER BY and FETCH leave rows and groups as they are.
use Rattle.std.proofs.Common.{ℕ, zero, suc, ◌≡◌, refl, subst, ap, Bool, true, false, ◌||◌, ℤ, pos, negsuc, List, [], ◌∷◌, map, take, Option, Some, None, Ok, Err, if◌then◌else◌}
use Rattle.std.specs.List.{AllByRecursion, list_any}
use Rattle.lb_base.specs.declared.value.Value.{Value}
use Rattle.lb_base.specs.Conditions.{is_same_row}
use Rattle.lb_base.specs.Evaluated.{Evaluated, ◌>>=◌, each}
use Rattle.lb_tree.specs.declared.query.SortKey.{SortKey}
use Rattle.lb_tree.specs.declared.query.Cond.TheViews.{out-Query}
use Rattle.lb_names.specs.Kinds.{Kind}
use Rattle.lb_names.specs.Scopes.{Catalogue}
use Rattle.lb_names.specs.Typed as typings
use Rattle.lb_names.specs.Typed.{Typed}
use Rattle.lb_names.specs.Places.{outermost}
use Rattle.lb_names.specs.Carriers as typed
use Rattle.lb_names.specs.Typing.{means as typed_means, answers as typed_query}
use Rattle.lb_names.specs.OrderTyping.{keys_typed, is_total_key, outermost_role, order_place}
use Rattle.lb_mean.specs.Setting.{Setting, Frame, shown_frame}
use Rattle.lb_mean.specs.Meant as meant
use Rattle.lb_mean.specs.Conditions.{outputs}
use Rattle.lb_mean.specs.Meaning.{means, answers}
use Rattle.lb_mean.specs.Ordered.{Ranked, with_outputs, first_ones, different, Sorter, sort_value, insert, sorted, with_keys, comes_before, in_order, cut, chosen, sorter}
use Rattle.lb_kinds.specs.HasKind.{GivesKinds}
use Rattle.lb_kinds.specs.Selected.{SelectsGiveTheirKinds}
use Rattle.lb_kinds.proofs.Results.{same_ok}
use Rattle.lb_kinds.proofs.Typings.{Bound, bound}
use Rattle.lb_kinds.proofs.Rows.{GivesAll, all_then, all_mapped}
use Rattle.lb_kinds.proofs.Totals.{expr_total}
use Rattle.lb_kinds.proofs.Begins.{nothing_holds}
use Rattle.lb_kinds.proofs.Outputs.{outputs_fit}

module _ (G : Frame → Type 0) where
  abbrev Of : Ranked → Type 0
  Of x = G x.frame

  -- each frame with what it is chosen or sorted by
  ranked : (r : Frame → Evaluated (List Value)) (frames : List Frame) → AllByRecursion G frames → GivesAll Of (each (map (λ f. r f >>= λ row. Ok (record { by = row; frame = f })) frames))
  ranked r [] h = tt
  ranked r (f ∷ frames) h = go (r f) (each (map (λ f. r f >>= λ row. Ok (record { by = row; frame = f })) frames)) (ranked r frames h.1)
    where
      go : (x : Evaluated (List Value)) (rest : Evaluated (List Ranked)) → GivesAll Of rest → GivesAll Of ((x >>= λ row. Ok (record { by = row; frame = f })) >>= λ v. rest >>= λ vs. Ok (v ∷ vs))
      go (Err fault) rest g = tt
      go (Ok row) (Err fault) g = tt
      go (Ok row) (Ok vs) g = (h.0, g)

  ones_step : (b : Bool) (x : Ranked) (same other : List Frame) → Of x → AllByRecursion G same → AllByRecursion G other → AllByRecursion G (if b then same else x.frame ∷ other)
  ones_step true x same other g h i = h
  ones_step false x same other g h i = (g, i)

  ones : (seen : List (List Value)) (xs : List Ranked) → AllByRecursion Of xs → AllByRecursion G (first_ones seen xs)
  ones seen [] h = tt
  ones seen (x ∷ xs) h = ones_step (list_any (is_same_row x.by) seen) x (first_ones seen xs) (first_ones (x.by ∷ seen) xs) h.0 (ones seen xs h.1) (ones (x.by ∷ seen) xs h.1)

  different_step : (b : Bool) (q : meant.Answers) (frames : List Frame) → AllByRecursion G frames → GivesAll G (if b then (each (map (with_outputs q.items) frames) >>= λ xs. Ok (first_ones [] xs)) else Ok frames)
  different_step true q frames h = all_then Of G (each (map (with_outputs q.items) frames)) (λ xs. Ok (first_ones [] xs)) (ranked (λ f. outputs q.items (f ∷ [])) frames h) (λ xs i. ones [] xs i)
  different_step false q frames h = h

  insert_step : {A : Type 0} (P : A → Type 0) (b : Bool) (x y : A) (ys more : List A) → P x → P y → AllByRecursion P ys → AllByRecursion P more → AllByRecursion P (if b then y ∷ more else x ∷ y ∷ ys)
  insert_step P true x y ys more g h i j = (h, j)
  insert_step P false x y ys more g h i j = (g, (h, i))

  insert_all : {A : Type 0} (P : A → Type 0) (less : A → A → Bool) (x : A) (ys : List A) → P x → AllByRecursion P ys → AllByRecursion P (insert less x ys)
  insert_all P less x [] g h = (g, tt)
  insert_all P less x (y ∷ ys) g h = insert_step P (less y x) x y ys (insert less x ys) g h.0 h.1 (insert_all P less x ys g h.1)

  sorted_all : {A : Type 0} (P : A → Type 0) (less : A → A → Bool) (xs : List A) → AllByRecursion P xs → AllByRecursion P (sorted less xs)
  sorted_all P less [] h = tt
  sorted_all P less (x ∷ xs) h = insert_all P less x (sorted less xs) h.0 (sorted_all P less xs h.1)

  ordered : (items : List meant.Shows) (ks : List Sorter) (frames : List Frame) → AllByRecursion G frames → GivesAll G (in_order items ks frames)
  ordered items ks frames h =
      all_then Of G (each (map (with_keys items ks) frames)) (λ xs. Ok (map (λ x. x.frame) (sorted (comes_before ks) xs)))
      (ranked (λ f. each (map (λ k. sort_value items k.by k.means (f ∷ [])) ks)) frames h)
      (λ xs i. all_mapped Of G (λ x. x.frame) (sorted (comes_before ks) xs) (λ x g. g) (sorted_all Of (comes_before ks) xs i))

  taken : (n : ℕ) (xs : List Frame) → AllByRecursion G xs → AllByRecursion G (take n xs)
  taken zero xs h = tt
  taken (suc n) [] h = tt
  taken (suc n) (x ∷ xs) h = (h.0, taken n xs h.1)

  cut_all : (fetch : Option ℤ) (xs : List Frame) → AllByRecursion G xs → AllByRecursion G (cut fetch xs)
  cut_all None xs h = h
  cut_all (Some (pos n)) xs h = taken n xs h
  cut_all (Some (negsuc n)) xs h = h

  chosen_all : (q : meant.Answers) (ks : List Sorter) (fetch : Option ℤ) → GivesAll G (q.frames (list_any (λ k. k.means.total) ks) []) → GivesAll G (chosen q ks fetch)
  chosen_all q ks fetch h =
      all_then G G (q.frames (list_any (λ k. k.means.total) ks) []) (λ frames. different q frames >>= λ ones. in_order q.items ks ones >>= λ rows. Ok (cut fetch rows)) h
      (λ frames i. all_then G G (different q frames) (λ ones. in_order q.items ks ones >>= λ rows. Ok (cut fetch rows)) (different_step q.distinct q frames i)
      (λ ones j. all_then G G (in_order q.items ks ones) (λ rows. Ok (cut fetch rows)) (ordered q.items ks ones j) (λ rows k. cut_all fetch rows k)))

-- ---- both sides agree on an aggregate in ORDER BY

same_total : (C : Catalogue) (S : Setting) (keys : List SortKey) → list_any (is_total_key C) keys ≡ list_any (λ k. k.means.total) (map (sorter S) keys)
unfolding typed_means means
same_total C S [] = refl
same_total C S (k ∷ keys) = λ i. expr_total C S k.by i || same_total C S keys i

pub selects_give : SelectsGiveTheirKinds
selects_give C S agrees s d wanted m ks e frames f =
    let R : typed.Role = outermost_role C s.order wanted in
    let rest : List Kind × ℕ → Typed (List Kind) = λ ks. typings.◌>>=◌ (keys_typed C (order_place C s wanted) (out-Query s.query).distinct (out-Query s.query).items ks.0 s.order ks.1) (λ x. Ok (ks.0, x.1)) in
    let b : Bound ((typed_query C s.query).kinds R outermost 0) rest (ks, m) = bound ((typed_query C s.query).kinds R outermost 0) rest (ks, m) e in
    let c : Bound (keys_typed C (order_place C s wanted) (out-Query s.query).distinct (out-Query s.query).items b.0.0 s.order b.0.1) (λ x. Ok (b.0.0, x.1)) (ks, m) = bound (keys_typed C (order_place C s wanted) (out-Query s.query).distinct (out-Query s.query).items b.0.0 s.order b.0.1) (λ x. Ok (b.0.0, x.1)) (ks, m) b.2 in
    let same : b.0.0 ≡ ks = ap (λ y. y.0) (same_ok {B = ℕ} (b.0.0, c.0.1) (ks, m) c.2) in
    subst (λ x. GivesAll (Shown ks) x) f (chosen_all (Shown ks) (answers S s.query) (map (sorter S) s.order) s.fetch (subst (λ t. GivesAll (Shown ks) ((answers S s.query).frames t [])) (same_total C S s.order) (subst (λ z. GivesAll (Shown z) ((answers S s.query).frames R.total [])) same (all_frames b.0.0 b.0.1 b.1 ((answers S s.query).frames R.total []) refl))))
  where
    Shown : List Kind → Frame → Type 0
    Shown z f = GivesKinds S.policies z (outputs (answers S s.query).items (f ∷ [])) × GivesKinds S.policies z (outputs (answers S s.query).items (shown_frame f ∷ []))

    all_frames : (z : List Kind) (j : ℕ) → (typed_query C s.query).kinds (outermost_role C s.order wanted) outermost 0 ≡ Ok (z, j) → (x : Evaluated (List Frame)) → (answers S s.query).frames (outermost_role C s.order wanted).total [] ≡ x → GivesAll (Shown z) x
    all_frames z j p (Ok found) q = outputs_fit C S agrees outermost None [] (nothing_holds C S outermost refl) tt s.query refl d (outermost_role C s.order wanted) 0 j z p found q
    all_frames z j p (Err fault) q = tt
