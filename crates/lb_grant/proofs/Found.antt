-- A user's record that is found by its name has the name.
use Rattle.std.proofs.Common.{ℕ, ◌≡◌, sym, List, Some}
use Rattle.std.specs.Str.{bytes_eq}
use Rattle.std.proofs.lemmas.Slice.Eq.{bytes_eq-Decides}
use Rattle.lb_cat.specs.declared.catalog.UserRec.{UserRec}
use Rattle.lb_cat.specs.Stamps.{Kept, kept_user}
use Rattle.lb_changed.proofs.Found.{found_passes}

pub user_found : (K : Kept) (n : List ℕ) (u : UserRec) → Some u ≡ kept_user K n → u.name ≡ n
user_found K n u h = (bytes_eq-Decides u.name n).0 (found_passes (λ x. bytes_eq x.name n) K.users u (sym h))
