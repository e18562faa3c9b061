-- A column's name at the first FROM item that has it.
use Rattle.std.proofs.Common.{◌≡◌, ◌<◌, sym, ◌∙◌, ap, suc, length, drop, get_or, ℕ, true, false, List, ◌∷◌, Err}
use Rattle.std.specs.Prelude.{if◌then◌else◌}
use Rattle.std.proofs.Math.Seq.{drop-cons}
use Rattle.lb_names.specs.declared.place.Seen.{Seen}
use Rattle.lb_names.specs.Sights.{Name}
use Rattle.lb_names.specs.Scopes.{Catalogue, has_column, is_shared, column_of, unqualified}

module _ (C : Catalogue) (n : Name) where
  at_first : (s : Seen) (rest : List Seen) → has_column C n s ≡ true → unqualified C n (s ∷ rest) ≡ (if is_shared C n s.level rest then Err n else column_of C n s)
  at_first s rest h = ap (λ b. if b then (if is_shared C n s.level rest then Err n else column_of C n s) else unqualified C n rest) h

  at_item : (seen : List Seen) (i : ℕ) (s : Seen) → i < length seen → get_or seen i s ≡ s → has_column C n s ≡ true
      → unqualified C n (drop i seen) ≡ (if is_shared C n s.level (drop (suc i) seen) then Err n else column_of C n s)
  at_item seen i s h g k = ap (unqualified C n) (drop-cons seen i s h ∙ ap (λ x. x ∷ drop (suc i) seen) g) ∙ at_first s (drop (suc i) seen) k

  pub is_shared_there : (seen rest : List Seen) (i : ℕ) (s : Seen) → i < length seen → get_or seen i s ≡ s → has_column C n s ≡ true → rest ≡ drop (suc i) seen
      → unqualified C n seen ≡ unqualified C n (drop i seen) → is_shared C n s.level rest ≡ true → unqualified C n seen ≡ Err n
  is_shared_there seen rest i s h g k r inv b = inv ∙ at_item seen i s h g k ∙ ap (λ x. if x then Err n else column_of C n s) (ap (is_shared C n s.level) (sym r) ∙ b)

  pub is_alone_there : (seen rest : List Seen) (i : ℕ) (s : Seen) → i < length seen → get_or seen i s ≡ s → has_column C n s ≡ true → rest ≡ drop (suc i) seen
      → unqualified C n seen ≡ unqualified C n (drop i seen) → is_shared C n s.level rest ≡ false → unqualified C n seen ≡ column_of C n s
  is_alone_there seen rest i s h g k r inv b = inv ∙ at_item seen i s h g k ∙ ap (λ x. if x then Err n else column_of C n s) (ap (is_shared C n s.level) (sym r) ∙ b)
