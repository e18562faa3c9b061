-- ALTER TABLE, but for access control.
use Rattle.std.specs.Prelude.{if◌then◌else◌, ℕ, nat_lt, nat_le, ◌+◌, ◌*◌, false, List, [], ◌∷◌, ◌++◌, map, length, Option, None, Some, is_some, is_none}
use Rattle.lb_base.specs.declared.value.Value.{Value}
use Rattle.lb_base.specs.declared.value.Value.TheVariants as values
use Rattle.lb_base.specs.declared.key.Key.TheVariants as keys
use Rattle.lb_stmt.specs.declared.change.PlainType.{PlainType}
use Rattle.lb_cat.specs.declared.catalog.ColumnRec.{ColumnRec}
use Rattle.lb_cat.specs.declared.refusal.Refusal.TheVariants as refusals
use Rattle.lb_cat.specs.declared.refusal.LimitOf.TheVariants as limits
use Rattle.lb_cat.specs.declared.refusal.Flaw.TheVariants as flaws
use Rattle.lb_rows.specs.Tables.{Tables, put_version, rows_of}
use Rattle.lb_cat.specs.Catalog.{Cat, column_named, is_column, put_table}
use Rattle.lb_alter.specs.ChangeTable.{width_refusal, plain_type, is_label_type, secured_refusal, policy_of}
use Rattle.lb_alter.specs.Refusing.{◌>>◌, Changed, when, found, the_policy, owner, done, alters, exists_already}
use Rattle.lb_cat.specs.OrRefused.{OrRefused, ◌>>=◌}

-- the row with a null more
abbrev pub with_null : List Value → List Value
with_null row = row ++ values.Null ∷ []

-- the columns of that name, changed; the others stay
abbrev pub change_column : (ColumnRec → ColumnRec) → List ℕ → List ColumnRec → List ColumnRec
change_column f n cs = map (λ c. if is_column n c then f c else c) cs

-- a column that takes nulls and isn't secured
abbrev pub plain_column : List ℕ → PlainType → ColumnRec
plain_column n ty = record { name = n; ty = plain_type ty; not_null = false; secured = None }

-- each row gets a null
abbrev pub add_column : Cat → Tables → List ℕ → List ℕ → List ℕ → PlainType → OrRefused Changed
add_column C T user n column ty = do
  t ← owner C user n
  when (is_some (column_named t column)) (refusals.Exists column)
  when (nat_le 64 (length t.columns)) (refusals.Limit limits.Columns 64)
  width_refusal ty
  when (nat_lt 131072 (length (rows_of n T) * (length t.columns + 1))) (refusals.Limit limits.Cells 131072)
  done
      (put_table (record t { columns = t.columns ++ plain_column column ty ∷ [] }) C)
      (put_version (record { name = t.name; rows = map with_null (rows_of n T) }) T)
      (keys.Table t.name ∷ keys.Rows t.name ∷ [])

-- ALTER TABLE .. ADD SECURITY POLICY
abbrev pub add_policy : Cat → Tables → List ℕ → List ℕ → List ℕ → OrRefused Changed
add_policy C T user n policy = do
  t ← owner C user n
  exists_already t.policy
  p ← the_policy C policy
  alters C T (record t { policy = Some policy })

-- the column with that label, or without one
abbrev pub secure : Option (List ℕ) → ColumnRec → ColumnRec
secure label c = record c { secured = label }

-- ALTER TABLE .. ALTER COLUMN .. SECURED WITH, which replaces a label
abbrev pub secure_column : Cat → Tables → List ℕ → List ℕ → List ℕ → List ℕ → OrRefused Changed
secure_column C T user n column label = do
  t ← owner C user n
  c ← found column (column_named t column)
  when (is_none t.policy) (refusals.BadTable column flaws.NoPolicy)
  when (is_label_type c.ty) (refusals.BadTable column flaws.LabelKey)
  secured_refusal (policy_of C t.policy) (Some label)
  alters C T (record t { columns = change_column (secure (Some label)) column t.columns })

-- ALTER TABLE .. ALTER COLUMN .. DROP COLUMN SECURITY
abbrev pub unsecure_column : Cat → Tables → List ℕ → List ℕ → List ℕ → OrRefused Changed
unsecure_column C T user n column = do
  t ← owner C user n
  c ← found column (column_named t column)
  alters C T (record t { columns = change_column (secure None) column t.columns })
