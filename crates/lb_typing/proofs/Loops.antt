-- One key of ORDER BY after another, and one assignment of SET.
use Rattle.std.proofs.Common.{ℕ, ◌≡◌, ◌<◌, ◌+◌, ap, sym, ◌∙◌, Bool, List, ◌∷◌, drop, suc, length, get_or, arith}
use Rattle.std.proofs.Math.Seq.{drop-cons}
use Rattle.lb_tree.specs.declared.query.Item.{Item}
use Rattle.lb_tree.specs.declared.query.SortKey.{SortKey}
use Rattle.lb_stmt.specs.declared.write.Assignment.{Assignment}
use Rattle.lb_names.specs.Kinds.{Kind}
use Rattle.lb_names.specs.OrderTyping.{key_typed, keys_typed}
use Rattle.lb_names.specs.Places.{Place}
use Rattle.lb_names.specs.Scopes.{Catalogue, Field}
use Rattle.lb_names.specs.SortNames.{meant}
use Rattle.lb_names.specs.Statements.{assignments_typed, is_taken_by, kind_wanted}
use Rattle.lb_names.specs.Typed.{◌>>=◌, only_if}
use Rattle.lb_names.specs.Typing.{means}
use Rattle.lb_types.proofs.Steps.{grouped}
use Rattle.lb_typing.specs.Given.{assignment_at}

-- what is left of a list at a place
left_at : {A : Type 0} (xs : List A) (i : ℕ) (x : A) → i < length xs → x ≡ get_or xs i x → drop i xs ≡ x ∷ drop (i + 1) xs
left_at xs i x h is =
    let one : suc i ≡ i + 1 = omega arith in
    drop-cons xs i x h ∙ ap (λ z. z ∷ drop (suc i) xs) (sym is) ∙ ap (λ k. x ∷ drop k xs) one

module _ (C : Catalogue) (P : Place) where
  -- the key at that place, and then the others
  pub keys_at : (distinct : Bool) (items : List Item) (ks : List Kind) (keys : List SortKey) (i n : ℕ) (k : SortKey) → i < length keys → k ≡ get_or keys i k
      → keys_typed C P distinct items ks (drop i keys) n ≡ (key_typed C P distinct items ks k.by (meant items k.by) n >>= λ x. keys_typed C P distinct items ks (drop (i + 1) keys) x.1)
  keys_at distinct items ks keys i n k h is = ap (λ rest. keys_typed C P distinct items ks rest n) (left_at keys i k h is)

  -- the assignment at that place, and then the others
  pub assignments_at : (fields : List Field) (list : List Assignment) (i n : ℕ) (a : Assignment) → i < length list → a ≡ get_or list i a
      → assignments_typed C fields P (drop i list) n ≡ (assignment_at P (means C a.value) (kind_wanted fields a.column) n >>= λ y. assignments_typed C fields P (drop (i + 1) list) y.1)
  assignments_at fields list i n a h is =
      ap (λ rest. assignments_typed C fields P rest n) (left_at list i a h is)
      ∙ sym (grouped ((means C a.value).kind P n) (λ x. only_if (is_taken_by (kind_wanted fields a.column) x.0) n x) (λ y. assignments_typed C fields P (drop (i + 1) list) y.1))
