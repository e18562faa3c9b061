-- What a change makes, in other words.
use Rattle.std.proofs.Common.{ℕ, ◌≡◌, subst, List, [], ◌∷◌}
use Rattle.lb_base.specs.declared.key.Key.TheVariants as keys
use Rattle.std.specs.Prelude.{Result}
use Rattle.lb_cat.specs.Stamps.{Kept}
use Rattle.lb_rows.specs.Tables.{Tables, Version, put_version}
use Rattle.lb_cat.specs.Catalog.{Cat, Table, put_table}
use Rattle.lb_alter.specs.Refusing.{alters, done}
use Rattle.lb_changed.specs.declared.changed.Changed.{Changed as Made}
use Rattle.lb_changed.specs.declared.stop.Stop.{Stop}
use Rattle.lb_changed.specs.Made.{Makes}

-- a table's record in other words
pub alters_same : (K : Kept) (T : Tables) (C : Cat) (t u : Table) (result : Result Made Stop) → t ≡ u → Makes K T (alters C T t) result → Makes K T (alters C T u) result
alters_same K T C t u result h g = subst (λ v. Makes K T (alters C T v) result) h g

-- a table's record and rows in other words
pub rows_same : (K : Kept) (T : Tables) (C : Cat) (t u : Table) (v w : Version) (m n : List ℕ) (result : Result Made Stop) → t ≡ u → v ≡ w → m ≡ n
    → Makes K T (done (put_table t C) (put_version v T) (keys.Table m ∷ keys.Rows m ∷ [])) result → Makes K T (done (put_table u C) (put_version w T) (keys.Table n ∷ keys.Rows n ∷ [])) result
rows_same K T C t u v w m n result h g i made =
    subst (λ x. Makes K T (done (put_table u C) (put_version w T) (keys.Table x ∷ keys.Rows x ∷ [])) result) i
    (subst (λ x. Makes K T (done (put_table u C) (put_version x T) (keys.Table m ∷ keys.Rows m ∷ [])) result) g
    (subst (λ x. Makes K T (done (put_table x C) (put_version v T) (keys.Table m ∷ keys.Rows m ∷ [])) result) h made))
