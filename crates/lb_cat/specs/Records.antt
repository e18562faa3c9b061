-- Records kept in a map by their names. It stands in private contracts alone.
use Rattle.std.specs.Prelude.{ℕ, ◌≡◌, true, false, List, [], ◌∷◌, map, string_bytes}
use Rattle.std.specs.Arc.{arc_value}
use Rattle.std.specs.declared.string.String.{String}
use Rattle.std.specs.declared.sync.Arc.{Arc}
use Rattle.std.specs.declared.alloc.Global.{Global}
use Rattle.lb_base.specs.declared.key.Key.{Key}
use Rattle.lb_cat.specs.Keys.{has_key}

module _ {R : Type 0} where
  -- the record of an entry
  abbrev pub record_in : String Global × Arc R Global → R
  record_in e = arc_value e.1

  -- the records, in the map's order
  abbrev pub records_in : List (String Global × Arc R Global) → List R
  records_in es = map record_in es

  -- each entry's key is its record's name
  abbrev pub AreByName : (R → List ℕ) → List (String Global × Arc R Global) → Type 0
  AreByName name [] = Unit {0}
  AreByName name (e ∷ es) = (string_bytes e.0 ≡ name (record_in e)) × AreByName name es

  -- the second record is the first with the stamp where its key is among the keys, and else the first
  abbrev pub IsMarked : (R → Key) → (R → R → Type 0) → List Key → R → R → Type 0
  IsMarked key stamped ks old new = (has_key (key old) ks ≡ true → stamped old new) × (has_key (key old) ks ≡ false → new ≡ old)
