-- A column that was qualified means what it meant, where no two items in sight have one correlation name.
use Rattle.std.proofs.Common.{◌≡◌, refl, ap, sym, ◌∙◌, List, [], ◌∷◌, Bool, true, false, cond, not, ◌&&◌, ◌||◌, Option, Some, None, Ok, Err}
use Rattle.std.specs.Str.{bytes_eq}
use Rattle.std.proofs.lemmas.Slice.Eq.{bytes_eq-Decides}
use Rattle.lb_tree.specs.declared.query.Column.{Column}
use Rattle.lb_names.specs.declared.place.Seen.{Seen}
use Rattle.lb_names.specs.Sights.{Name, correlation}
use Rattle.lb_names.specs.Scopes.{Field, Catalogue, Found, Resolved, found_in, has_column, column_of, qualified, is_shared, unqualified, resolved_as, resolve}
use Rattle.lb_names.specs.Passes.{is_called}
use Rattle.lb_names.specs.Qualify.{by_item, with_item}
use Rattle.lb_names.specs.Laws.{are_apart}

split : (a b : Bool) → (a && b) ≡ true → (a ≡ true) × (b ≡ true)
split true b h = (refl, h)
split false b h = absurd cc

or_true : (b : Bool) → (b || true) ≡ true
or_true true = refl
or_true false = refl

abbrev item_or : Seen → Resolved → Seen
item_or s (Ok x) = x.item
item_or s (Err n) = s

module _ (C : Catalogue) (n : Name) (x : Found) where
  abbrev called : Name
  called = correlation x.item.tab

  of_item : (s : Seen) (f : Option Field) → found_in n s f ≡ Ok x → correlation s.tab ≡ called
  of_item s None h = absurd cc
  of_item s (Some f) h = ap (λ r. correlation (item_or s r).tab) h

  -- the item of a qualified column is called so
  qualified_step : (y : Name) (s : Seen) (seen : List Seen) (b : Bool) → bytes_eq (correlation s.tab) y ≡ b → (qualified C y n seen ≡ Ok x → called ≡ y) → cond b (column_of C n s) (qualified C y n seen) ≡ Ok x → called ≡ y
  qualified_step y s seen true e rest h = sym (of_item s _ h) ∙ (bytes_eq-Decides (correlation s.tab) y).0 e
  qualified_step y s seen false e rest h = rest h

  qualified_called : (y : Name) (seen : List Seen) → qualified C y n seen ≡ Ok x → called ≡ y
  qualified_called y [] h = absurd cc
  qualified_called y (s ∷ seen) h = qualified_step y s seen (bytes_eq (correlation s.tab) y) refl (qualified_called y seen) h

  -- a bare column belongs to an item, or to one of those after it
  by_cases : {P : Type 0} (s : Seen) (rest : Resolved) (b d : Bool) → (column_of C n s ≡ Ok x → P) → (rest ≡ Ok x → P) → cond b (cond d (Err n) (column_of C n s)) rest ≡ Ok x → P
  by_cases s rest true true f g h = absurd cc
  by_cases s rest true false f g h = f h
  by_cases s rest false d f g h = g h

  same_call : (s : Seen) → column_of C n s ≡ Ok x → bytes_eq (correlation s.tab) called ≡ true
  same_call s h = (bytes_eq-Decides (correlation s.tab) called).1 (of_item s _ h)

  is_there : (seen : List Seen) → unqualified C n seen ≡ Ok x → is_called called seen ≡ true
  is_there [] h = absurd cc
  is_there (s ∷ seen) h =
      by_cases s (unqualified C n seen) (has_column C n s) (is_shared C n s.level seen)
      (λ k i. same_call s k i || is_called called seen)
      (λ k. (λ i. bytes_eq (correlation s.tab) called || is_there seen k i) ∙ or_true (bytes_eq (correlation s.tab) called)) h

  -- an item before it is called otherwise
  past : (s : Seen) (seen : List Seen) (b : Bool) → bytes_eq (correlation s.tab) called ≡ b → not (is_called (correlation s.tab) seen) ≡ true → is_called called seen ≡ true → qualified C called n seen ≡ Ok x → cond b (column_of C n s) (qualified C called n seen) ≡ Ok x
  past s seen true e apart there k = no (is_called (correlation s.tab) seen) apart ((λ i. is_called ((bytes_eq-Decides (correlation s.tab) called).0 e i) seen) ∙ there)
    where
      no : {A : Type 0} (b : Bool) → not b ≡ true → b ≡ true → A
      no true p q = absurd cc
      no false p q = absurd cc
  past s seen false e apart there k = k

  bare_stays : (seen : List Seen) → are_apart seen ≡ true → unqualified C n seen ≡ Ok x → qualified C called n seen ≡ Ok x
  bare_stays [] a h = absurd cc
  bare_stays (s ∷ seen) a h =
      let apart : (not (is_called (correlation s.tab) seen) ≡ true) × (are_apart seen ≡ true) = split (not (is_called (correlation s.tab) seen)) (are_apart seen) a in
      by_cases s (unqualified C n seen) (has_column C n s) (is_shared C n s.level seen)
      (λ k. (λ i. cond (same_call s k i) (column_of C n s) (qualified C called n seen)) ∙ k)
      (λ k. past s seen (bytes_eq (correlation s.tab) called) refl apart.0 (is_there seen k) (bare_stays seen apart.1 k)) h

  name_stays : (seen : List Seen) → are_apart seen ≡ true → (o : Option Name) → resolved_as C o n seen ≡ Ok x → qualified C called n seen ≡ Ok x
  name_stays seen a None h = bare_stays seen a h
  name_stays seen a (Some y) h = (λ i. qualified C (qualified_called y seen h i) n seen) ∙ h

pub column_stays : (C : Catalogue) (seen : List Seen) (c : Column) (x : Found) → are_apart seen ≡ true → resolve C seen c ≡ Ok x → resolve C seen (with_item C seen c) ≡ Ok x
column_stays C seen c x a h = ap (λ d. resolve C seen d) (ap (by_item c) h) ∙ name_stays C c.name x seen a c.correlation h
