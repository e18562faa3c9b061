-- CREATE MASK, from one of its tests on.
use Rattle.std.proofs.Common.{ℕ, ◌≡◌, List, None}
use Rattle.std.specs.Prelude.{Result, Ok, position}
use Rattle.std.specs.List.{list_any}
use Rattle.lb_stmt.specs.declared.change.MaskDef.{MaskDef}
use Rattle.lb_alter.specs.ChangeControl.{create_mask, new_mask, other_mask, source_refusal, takes_mask_name, with_mask}
use Rattle.lb_alter.specs.Naming.{stored_rules}
use Rattle.lb_alter.specs.Refusing.{◌>>◌, Changed, alters, exists_already, found, secadm, the_table, when}
use Rattle.lb_cat.specs.Catalog.{Table, is_column}
use Rattle.lb_cat.specs.OrRefused.{OrRefused}
use Rattle.lb_cat.specs.Stamps.{Kept, bare}
use Rattle.lb_cat.specs.declared.refusal.Refusal.TheVariants as refusals
use Rattle.lb_names.specs.Mentions.{in_expr}
use Rattle.lb_rows.specs.Tables.{Tables}
use Rattle.lb_changed.specs.declared.changed.Changed.{Changed as Made}
use Rattle.lb_changed.specs.declared.stop.Stop.{Stop}
use Rattle.lb_changed.specs.Made.{Makes}
use Rattle.lb_changed.proofs.Steps.{given_then, passes_then}

module _ (K : Kept) (T : Tables) (user : List ℕ) (d : MaskDef) (t : Table) (column : ℕ) (r : Result Made Stop) where
  -- what is made
  abbrev pub made : OrRefused Changed
  made = alters (bare K) T (with_mask (new_mask stored_rules (bare K) column d) t)

  -- from the types of the CASE on
  abbrev pub types_on : OrRefused Changed
  types_on = stored_rules.mask_types (bare K) d.on d.column d.value >> made

  -- from its sources on
  abbrev pub sources_on : OrRefused Changed
  sources_on = source_refusal (bare K) d.name t.name (in_expr d.value) >> types_on

  -- from its names on
  abbrev pub names_on : OrRefused Changed
  names_on = stored_rules.mask_names (bare K) d.on d.value >> sources_on

  -- the tests before its names pass
  pub to_names : secadm (bare K) user ≡ None → the_table (bare K) d.on.table ≡ Ok t → found d.column (position (is_column d.column) t.columns) ≡ Ok column
      → when (list_any (takes_mask_name d column) (bare K).tables) (refusals.Exists d.name) ≡ None → exists_already (other_mask d.name column t) ≡ None
      → Makes K T names_on r → Makes K T (create_mask stored_rules (bare K) T user d) r
  to_names may there columned named free rest =
      passes_then K T r _ _ may (given_then K T r _ _ t there (given_then K T r _ _ column columned (passes_then K T r _ _ named (passes_then K T r _ _ free rest))))
