-- A policy P over an ARRAY, a SET and a TREE, users who hold labels and exemptions of it, and a table T with a label column.
use Rattle.std.specs.Prelude.{ℕ, Bool, true, List, [], ◌∷◌, Some, None, codes}
use Rattle.lb_base.specs.declared.key.Ty.TheVariants as types
use Rattle.lb_base.specs.declared.value.Value.{Value}
use Rattle.lb_base.specs.declared.value.Value.TheVariants as values
use Rattle.lb_label.specs.declared.kind.ComponentKind.TheVariants as kinds
use Rattle.lb_label.specs.Component.{Definition}
use Rattle.lb_label.specs.Exemption.{no_exemption}
use Rattle.lb_cat.specs.declared.catalog.LabelRec.{LabelRec}
use Rattle.lb_cat.specs.Catalog.{Cat, Policy, Table, User, no_user}
use Rattle.lb_rows.specs.Tables.{Tables}
use Rattle.lb_worked.specs.Tables.{column, plain, holding, number, word, with_tables}

-- LEVEL ARRAY ['TOP', 'MID', 'LOW']
abbrev pub level : Definition
level = record { kind = kinds.Array; elements = codes "TOP" ∷ codes "MID" ∷ codes "LOW" ∷ []; order = 0 ∷ 1 ∷ 2 ∷ []; parents = None ∷ None ∷ None ∷ [] }

-- DEPT SET {'HR', 'IT', 'FIN'}
abbrev pub dept : Definition
dept = record { kind = kinds.Set; elements = codes "HR" ∷ codes "IT" ∷ codes "FIN" ∷ []; order = 0 ∷ 1 ∷ 2 ∷ []; parents = None ∷ None ∷ None ∷ [] }

-- REGION TREE ('ALL' ROOT, 'EU' UNDER 'ALL', 'FR' UNDER 'EU', 'US' UNDER 'ALL')
abbrev pub region : Definition
region = record { kind = kinds.Tree; elements = codes "ALL" ∷ codes "EU" ∷ codes "FR" ∷ codes "US" ∷ []; order = 0 ∷ 1 ∷ 2 ∷ 3 ∷ []; parents = None ∷ Some 0 ∷ Some 1 ∷ Some 0 ∷ [] }

-- a label by its parts: an ARRAY's element number plus one, and a bit for each element of a SET or TREE
abbrev pub parts : ℕ → ℕ → ℕ → List ℕ
parts a b c = a ∷ b ∷ c ∷ []

-- the record of a label
abbrev pub label_rec : List ℕ → List ℕ → LabelRec
label_rec n ps = record { name = n; parts = record { items = ps } }

-- MHE is MID:HR:EU, and FULL is TOP:(HR,IT,FIN):ALL; RESTRICT where it is said
abbrev pub policy : Bool → Policy
policy restrict = record {
  name = codes "P";
  components = codes "LEVEL" ∷ codes "DEPT" ∷ codes "REGION" ∷ [];
  shape = level ∷ dept ∷ region ∷ [];
  restrict = restrict;
  labels = label_rec (codes "MHE") (parts 2 1 2) ∷ label_rec (codes "FULL") (parts 1 7 1) ∷ [];
}

-- ANN holds MHE for reading and writing; BOB holds nothing; EVE is exempt from DB2LBACREADARRAY alone
abbrev pub users : List User
users =
    record (no_user (codes "ANN")) { held = record { policy = codes "P"; read = Some (codes "MHE"); write = Some (codes "MHE"); exempt = no_exemption } ∷ [] }
    ∷ record (no_user (codes "EVE")) { held = record { policy = codes "P"; read = None; write = None; exempt = record no_exemption { read_array = true } } ∷ [] }
    ∷ []

-- T (ID BIGINT PRIMARY KEY, V VARCHAR(20), L DB2SECURITYLABEL)
abbrev pub t : Table
t = record (plain (codes "T") (record (column (codes "ID") types.Int) { not_null = true } ∷ column (codes "V") (types.Text 20) ∷ column (codes "L") (types.Label (codes "P")) ∷ [])) { key = Some 0; policy = Some (codes "P") }

-- E (NAME VARCHAR(10), PAY BIGINT SECURED WITH FULL)
abbrev pub e : Table
e = record (plain (codes "E") (column (codes "NAME") (types.Text 10) ∷ record (column (codes "PAY") types.Int) { secured = Some (codes "FULL") } ∷ [])) { policy = Some (codes "P") }

-- ONE (A BIGINT), of one row
abbrev pub single : Table
single = plain (codes "ONE") (column (codes "A") types.Int ∷ [])

-- the catalogue with its policy, under RESTRICT or OVERRIDE
abbrev pub cat : Bool → Cat
cat restrict = record (with_tables (t ∷ e ∷ single ∷ [])) { policies = policy restrict ∷ []; users = users }

-- a label as a value
abbrev pub label : ℕ → ℕ → ℕ → Value
label a b c = values.Label (record { items = parts a b c })

-- a row with its label
abbrev pub row : ℕ → List ℕ → Value → List Value
row id v l = number id ∷ word v ∷ l ∷ []

-- MID:HR:FR, TOP:HR:FR, LOW:():(), MID:(HR,IT):EU, MID:HR:(FR,US), MID:HR:US, ():():()
abbrev pub rows : Tables
rows = holding t (row 1 (codes "a") (label 2 1 4) ∷ row 2 (codes "b") (label 1 1 4) ∷ row 3 (codes "c") (label 3 0 0) ∷ row 4 (codes "d") (label 2 3 2)
    ∷ row 5 (codes "e") (label 2 1 12) ∷ row 6 (codes "f") (label 2 1 8) ∷ row 7 (codes "g") (label 0 0 0) ∷ [])
    ∷ holding e ((word (codes "x") ∷ number 5 ∷ []) ∷ []) ∷ []
