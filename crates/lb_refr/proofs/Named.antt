-- Look-ups by name in the records and in the rows.
use Rattle.std.proofs.Common.{true, false, ◌≡◌, ℕ, zero, suc, ◌<◌, List, [], ◌∷◌, length, take, get_or, None, refl, ap, arith}
use Rattle.std.specs.Str.{bytes_eq}
use Rattle.std.proofs.lemmas.Slice.Eq.{bytes_eq-Decides}
use Rattle.std.specs.List.{AllByRecursion}
use Rattle.lb_model.specs.declared.catalog.TableRec.{TableRec}
use Rattle.lb_model.specs.declared.catalog.TableVersion.{TableVersion}
use Rattle.lb_model.specs.Catalog.{Tables, table_named}
use Rattle.lb_refr.specs.Found.{FoundTable, FoundVersion, NoVersion}

-- no record of the front has that name
abbrev pub NoneNamed : List ℕ → List TableRec → Type 0
NoneNamed n ts = AllByRecursion (λ t. bytes_eq t.name n ≡ false) ts

pub none_named : (n : List ℕ) (ts : List TableRec) → NoneNamed n ts → table_named n ts ≡ None
none_named n [] h = refl
none_named n (t ∷ ts) h = rw h.0 (none_named n ts h.1)

pub found_table : (n : List ℕ) (ts : List TableRec) (i : ℕ) (d : TableRec) → i < length ts → NoneNamed n (take i ts) → bytes_eq (get_or ts i d).name n ≡ true → FoundTable n ts i
found_table n [] i d lt h e = absurd (omega arith)
found_table n (t ∷ ts) zero d lt h e = record { within = lt; first = t; named = rw e refl; there = λ x. refl; changed = λ f. rw e refl }
found_table n (t ∷ ts) (suc i) d lt h e =
    let p = found_table n ts i d (omega arith) h.1 e in
    record { within = lt; first = p.first; named = rw h.0 p.named; there = p.there; changed = λ f. rw h.0 (ap (λ (us : List TableRec). t ∷ us) (p.changed f)) }

pub bytes_same : (a b : List ℕ) → bytes_eq a b ≡ true → a ≡ b
bytes_same a b h = (bytes_eq-Decides a b).0 h

-- no rows of the front are those of that table
abbrev pub NoneHeld : List ℕ → Tables → Type 0
NoneHeld n vs = AllByRecursion (λ v. bytes_eq v.name n ≡ false) vs

pub none_held : (n : List ℕ) (vs : Tables) → NoneHeld n vs → NoVersion n vs
none_held n [] h = record { none = refl; put = λ rows. refl }
none_held n (v ∷ vs) h =
    let p = none_held n vs h.1 in
    record { none = rw h.0 p.none; put = λ rows. rw h.0 (ap (λ (us : Tables). v ∷ us) (p.put rows)) }

pub found_version : (n : List ℕ) (vs : Tables) (i : ℕ) (d : TableVersion) → i < length vs → NoneHeld n (take i vs) → bytes_eq (get_or vs i d).name n ≡ true → (get_or vs i d).name ≡ n → FoundVersion n vs i
found_version n [] i d lt h e same = absurd (omega arith)
found_version n (v ∷ vs) zero d lt h e same = record { within = lt; first = v; named = same; held = rw e refl; there = λ x. refl; put = λ rows. rw e refl }
found_version n (v ∷ vs) (suc i) d lt h e same =
    let p = found_version n vs i d (omega arith) h.1 e same in
    record { within = lt; first = p.first; named = p.named; held = rw h.0 p.held; there = p.there; put = λ rows. rw h.0 (ap (λ (us : Tables). v ∷ us) (p.put rows)) }
