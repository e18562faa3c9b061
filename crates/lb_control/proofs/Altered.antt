-- A change of one table's record, by an equal record.
use Rattle.std.proofs.Common.{◌≡◌, subst}
use Rattle.std.specs.Prelude.{Result}
use Rattle.lb_cat.specs.Catalog.{Table}
use Rattle.lb_cat.specs.Stamps.{Kept, bare}
use Rattle.lb_rows.specs.Tables.{Tables}
use Rattle.lb_alter.specs.Refusing.{alters}
use Rattle.lb_changed.specs.declared.changed.Changed.{Changed as Made}
use Rattle.lb_changed.specs.declared.stop.Stop.{Stop}
use Rattle.lb_changed.specs.Made.{Makes}

pub altered : (K : Kept) (T : Tables) (t u : Table) (result : Result Made Stop) → Makes K T (alters (bare K) T t) result → t ≡ u → Makes K T (alters (bare K) T u) result
altered K T t u result h same = subst (λ v. Makes K T (alters (bare K) T v) result) same h
