-- What a pass that stops, or doesn't, says of the first refusal. It stands in private contracts alone.
use Rattle.std.specs.Prelude.{◌≡◌, ℕ, List, Option, None, Some, Bool, Result, Ok, Err, if◌then◌else◌}
use Rattle.lb_cat.specs.Catalog.{Cat}
use Rattle.lb_cat.specs.Stamps.{Kept, bare}
use Rattle.lb_alter.specs.ChangeControl.{is_bad_source}
use Rattle.lb_names.specs.declared.refused.Refused.{Refused}
use Rattle.lb_names.specs.declared.refused.Refused.TheVariants as refused
use Rattle.lb_names.specs.Marks.{Mark, item}
use Rattle.lb_names.specs.Passes.{item_refusal, column_refusal, call_refusal, text_refusal}
use Rattle.lb_scope.specs.Found.{catalogue}
use Rattle.lb_resolve.specs.declared.stop.Stop.{Stop}
use Rattle.lb_resolve.specs.declared.stop.Stop.TheVariants as stops
use Rattle.lb_resolve.specs.declared.mark.Pass.{Pass}
use Rattle.lb_resolve.specs.declared.mark.Pass.TheVariants as kinds
use Rattle.lb_resolve.specs.declared.mark.Walk.{Walk}

-- what stopped the pass is the first refusal, or want of memory
abbrev pub Stops : Stop → Option Refused → Type 0
Stops (stops.Refused r) first = first ≡ Some r
Stops stops.NoMemory first = Unit {0}

-- a pass that comes to its end has no refusal
abbrev pub Passes : Result (Unit {0}) Stop → Option Refused → Type 0
Passes (Ok _) first = first ≡ None
Passes (Err stop) first = Stops stop first

-- a FROM item whose table a permission or mask of the protected table may not read, told as Unknown
abbrev pub source_refusal : Cat → List ℕ → Mark → Option Refused
source_refusal C protected (item before around tab) = if is_bad_source C protected tab.table then Some (refused.Unknown tab.table) else None
source_refusal C protected _ = None

-- the refusal of a name in a pass
abbrev pub refusal_in : Kept → Bool → Pass → Mark → Option Refused
refusal_in K stored kinds.Tables = item_refusal (catalogue K) stored
refusal_in K stored kinds.Columns = column_refusal (catalogue K)
refusal_in K stored kinds.Calls = call_refusal (catalogue K)
refusal_in K stored kinds.Texts = text_refusal (catalogue K)
refusal_in K stored (kinds.Sources protected) = source_refusal (bare K) protected.now

-- what the pass asks of a name
abbrev pub asked : Walk → Mark → Option Refused
asked w = refusal_in w.catalog.now w.stored w.pass
