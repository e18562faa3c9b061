-- The CASE of a mask, by the column that it masks.
use Rattle.std.proofs.Common.{ℕ, ◌≡◌, ap, sym, ◌∙◌, Bool, List, Option, Ok}
use Rattle.lb_tree.specs.declared.query.Expr.{Expr}
use Rattle.lb_tree.specs.declared.query.Tab.{Tab}
use Rattle.lb_names.specs.Kinds.{Kind}
use Rattle.lb_names.specs.Places.{Place}
use Rattle.lb_names.specs.Scopes.{Catalogue, Field, columns_of, field_named}
use Rattle.lb_names.specs.Sights.{Name}
use Rattle.lb_names.specs.Statements.{broken, kind_in, kind_wanted, mask_takes, mask_types_refused, stored_place}
use Rattle.lb_names.specs.Typed.{Typed, ◌>>=◌, only_if}
use Rattle.lb_names.specs.Typing.{means}

-- the CASE has that kind, which the column takes or doesn't take
pub mask_is : (C : Catalogue) (on : Tab) (column : Name) (e : Expr) (P : Place) (k : Kind) (n : ℕ) (b : Bool) (f : Option Field) (fields : List Field)
    → P ≡ stored_place on → (means C e).kind P 0 ≡ Ok (k, n) → fields ≡ columns_of C on → f ≡ field_named column fields → b ≡ mask_takes C (kind_in f) k
    → mask_types_refused C on column e ≡ broken (only_if b 0 (k, n))
mask_is C on column e P k n b f fields there kind columns named taken =
    ap (λ Q. broken ((means C e).kind Q 0 >>= λ x. only_if (mask_takes C (kind_wanted (columns_of C on) column) x.0) 0 x)) (sym there)
    ∙ ap (λ (y : Typed Kind). broken (y >>= λ x. only_if (mask_takes C (kind_wanted (columns_of C on) column) x.0) 0 x)) kind
    ∙ ap (λ c. broken (only_if c 0 (k, n)))
    (ap (λ fs. mask_takes C (kind_in (field_named column fs)) k) (sym columns) ∙ ap (λ g. mask_takes C (kind_in g) k) (sym named) ∙ sym taken)
