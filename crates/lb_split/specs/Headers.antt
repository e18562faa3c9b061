-- What a header line says: who opens the session, with which groups; or that the line is malformed.
use Rattle.std.specs.Prelude.{ℕ, ◌==◌, ◌&&◌, ◌||◌, Bool, true, false, List, [], ◌∷◌, length, filter, codes, nat_le, Option, Some, None, if◌then◌else◌}
use Rattle.std.specs.List.{slice_split}
use Rattle.std.specs.Str.{bytes_eq}
use Rattle.lb_base.specs.Names.{folded, name_of}
use Rattle.lb_split.specs.declared.header.SectionKind.{SectionKind}
use Rattle.lb_split.specs.declared.header.SectionKind.TheVariants.{Setup, Session}
use Rattle.lb_split.specs.declared.header.Header.{Header}

-- a space or a tab
abbrev pub is_space : ℕ → Bool
is_space b = b == 32 || b == 9

abbrev pub is_some_text : List ℕ → Bool
is_some_text [] = false
is_some_text (b ∷ bs) = true

-- the words of a line: what stands between spaces and tabs
abbrev pub words : List ℕ → List (List ℕ)
words line = filter is_some_text (slice_split is_space line)

-- the word in upper case is this one
abbrev pub spells : List ℕ → List ℕ → Bool
spells want word = bytes_eq (folded word) want

abbrev pub is_setup : SectionKind → Bool
is_setup Setup = true
is_setup Session = false

-- the first word says of which kind the section is
abbrev pub kind_of : List ℕ → Option SectionKind
kind_of word = if spells (codes "@SETUP") word then Some Setup else if spells (codes "@SESSION") word then Some Session else None

abbrev pub with_name : Option (List ℕ) → Option (List (List ℕ)) → Option (List (List ℕ))
with_name None names = None
with_name (Some n) None = None
with_name (Some n) (Some ns) = Some (n ∷ ns)

-- the names that the words spell, if each spells one
abbrev pub names_of : List (List ℕ) → Option (List (List ℕ))
names_of [] = Some []
names_of (w ∷ ws) = with_name (name_of w) (names_of ws)

-- 1 to 16 names
abbrev pub some_names : List (List ℕ) → Option (List (List ℕ))
some_names ws = if nat_le 1 (length ws) && nat_le (length ws) 16 then names_of ws else None

-- what follows the user: nothing, or GROUPS and 1 to 16 names
abbrev pub groups_of : List (List ℕ) → Option (List (List ℕ))
groups_of [] = Some []
groups_of (w ∷ ws) = if spells (codes "GROUPS") w then some_names ws else None

abbrev pub made : Option SectionKind → Option (List ℕ) → Option (List (List ℕ)) → Option Header
made None user groups = None
made (Some k) None groups = None
made (Some k) (Some u) None = None
made (Some k) (Some u) (Some gs) = Some (record { kind = k; user = u; groups = gs })

-- what these words say: the kind, the user and the groups
abbrev pub header_by : List (List ℕ) → Option Header
header_by [] = None
header_by (k ∷ []) = None
header_by (k ∷ (u ∷ ws)) = made (kind_of k) (name_of u) (groups_of ws)

-- what a header line says, unless it is malformed
abbrev pub header_of : List ℕ → Option Header
header_of line = header_by (words line)
