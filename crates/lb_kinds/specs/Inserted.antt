-- What the rules of types say of the rows that the query of an INSERT gives.
use Rattle.std.specs.Prelude.{ℕ, ◌≡◌, List, map, Some, Ok}
use Rattle.std.specs.List.{AllZip}
use Rattle.lb_base.specs.declared.key.Ty.{Ty}
use Rattle.lb_base.specs.declared.value.Value.{Value}
use Rattle.lb_tree.specs.declared.query.Query.{Query}
use Rattle.lb_names.specs.Kinds.{Kind, kind_of}
use Rattle.lb_names.specs.Scopes.{Catalogue}
use Rattle.lb_names.specs.Places.{Place}
use Rattle.lb_names.specs.Carriers.{Role}
use Rattle.lb_names.specs.Typing.{answers as typed_query}
use Rattle.lb_kinds.specs.HasKind.{Policies, HasKind, HasKinds}

-- a row of the kinds of a query without a broken node, whose outputs columns of these types are to take, fits the columns
abbrev pub InsertedRowsFit : Type 0
InsertedRowsFit = (C : Catalogue) (policies : Policies) (tys : List Ty) (q : Query) (R : Role) → R.wanted ≡ Some (map kind_of tys)
    → (P : Place) (n m : ℕ) (ks : List Kind) → (typed_query C q).kinds R P n ≡ Ok (ks, m)
    → (row : List Value) → HasKinds policies ks row → AllZip (λ ty v. HasKind policies (kind_of ty) v) tys row
