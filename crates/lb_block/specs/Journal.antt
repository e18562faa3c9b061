-- The lines of a printed journal: how many entries it has, and one line for each.
use Rattle.std.specs.Prelude.{ℕ, ◌+◌, List, [], ◌∷◌, ◌++◌, length, codes}
use Rattle.std.specs.Fmt.{decimal}
use Rattle.lb_cat.specs.declared.entry.Entry.{Entry}
use Rattle.lb_cat.specs.declared.entry.Entry.TheVariants as entries
use Rattle.lb_model.specs.Out.{line}
use Rattle.lb_block.specs.Parts.{behind_blanks}

-- the first line: how many entries follow
abbrev pub journal_text : ℕ → List ℕ
journal_text count = line (codes "JOURNAL " ++ decimal count)

-- What stands after an entry's place, where so many sessions were opened before it: of an Open its session's number, OPEN, the user and the
-- groups; of a statement its session's number, its own number within the session, and its canonical text.
abbrev pub entry_words : ℕ → Entry → List (List ℕ)
entry_words opened (entries.Open user groups) = decimal opened ∷ codes "OPEN" ∷ user ∷ groups
entry_words opened (entries.Said d) = decimal d.session ∷ decimal d.number ∷ d.text ∷ []

-- the line of the entry at a place, with a blank between two words
abbrev pub entry_text : ℕ → ℕ → Entry → List ℕ
entry_text place opened e = line (decimal place ++ behind_blanks (entry_words opened e))

-- the lines of the entries from a place on
abbrev pub entries_text : ℕ → ℕ → List Entry → List ℕ
entries_text place opened [] = []
entries_text place opened (entries.Open user groups ∷ es) = entry_text place opened (entries.Open user groups) ++ entries_text (place + 1) (opened + 1) es
entries_text place opened (entries.Said d ∷ es) = entry_text place opened (entries.Said d) ++ entries_text (place + 1) opened es

-- the text of a journal
abbrev pub journal_lines : List Entry → List ℕ
journal_lines J = journal_text (length J) ++ entries_text 0 0 J
