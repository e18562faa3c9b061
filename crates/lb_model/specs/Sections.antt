-- What the sections of a script are told, one after the other, of one journal.
use Rattle.std.specs.Prelude.{ℕ, ℤ, ◌≡◌, ◌⊎◌, ◌+◌, ◌≤◌, List, [], ◌∷◌, ◌++◌, take, length, slice_get, flat_map, Option, None, Some}
use Rattle.lb_stmt.specs.declared.write.Stmt.{Stmt}
use Rattle.lb_tok.specs.Syntax.{IsRepeatable, IsSyntaxAt}
use Rattle.lb_cat.specs.declared.entry.Entry.{Entry}
use Rattle.lb_cat.specs.declared.entry.Entry.TheVariants as entries
use Rattle.lb_cat.specs.declared.answer.Answer.{Answer}
use Rattle.lb_cat.specs.declared.answer.Mark.TheVariants as marks
use Rattle.lb_cat.specs.declared.reply.Reply.{Reply}
use Rattle.lb_cat.specs.declared.reply.Reply.TheVariants as replies
use Rattle.lb_cat.specs.declared.refusal.Refusal.TheVariants as refusals
use Rattle.lb_model.specs.Journal.{IsMade, opens, mine}
use Rattle.lb_model.specs.Told.{Told, places, count_from}
use Rattle.lb_model.specs.Out.{block_text, header_text, full_text}

-- a section as it is written: who opens its session, and the texts of its statements
pub record Section : Type 0 where
  pub user : List ℕ
  pub groups : List (List ℕ)
  pub texts : List (List ℕ)

-- how its session was opened: at a place of the journal, with a number; or not, since the journal was full
pub data SessionOpening : Type 0 where
  opened : ℕ → ℕ → SessionOpening
  full : SessionOpening

-- what came of a section: how it was opened, the days that its statements took, and their answers
pub record SectionResult : Type 0 where
  pub opening : SessionOpening
  pub days : List ℤ
  pub answers : List Answer

-- the answer to a statement of a section without a session
abbrev pub IsShut : ℕ → List ℕ → Reply → Type 0
IsShut limit text reply =
    (reply ≡ replies.NoMemory)
    ⊎ ((byte : ℕ) × (reply ≡ replies.Refused (refusals.Syntax byte)) × IsSyntaxAt text byte)
    ⊎ ((reply ≡ replies.Refused (refusals.JournalFull limit)) × ((s : Stmt) × IsRepeatable text s))

abbrev pub AreShut : ℕ → List (List ℕ) → List Answer → Type 0
AreShut limit [] [] = Unit {0}
AreShut limit (text ∷ texts) (a ∷ answers) = (a.place ≡ None) × (a.mark ≡ marks.Dash) × IsShut limit text a.reply × AreShut limit texts answers
AreShut limit _ _ = ⊥

-- Of a section that begins where `at` entries stand. Its session was opened there, and its statements were told of the journal; or the journal
-- has as many entries as it may have, and then no day was asked for.
abbrev pub IsTold : List Entry → ℕ → ℕ → Section → SessionOpening → List ℤ → List Answer → Type 0
IsTold J limit at s (opened place number) days answers =
    (place ≡ at) × (slice_get J place ≡ Some (entries.Open s.user s.groups)) × (number ≡ opens (take place J))
    × Told J limit s.user (place + 1) (mine J number) s.texts days answers
IsTold J limit at s full days answers = (at ≡ limit) × (length J ≡ limit) × (days ≡ []) × AreShut limit s.texts answers

-- the place of the header's line, where it has one
abbrev pub place_of : SessionOpening → List ℕ
place_of (opened place number) = place ∷ []
place_of full = []

-- the places that the lines of a section show
abbrev pub places_in : SectionResult → List ℕ
places_in o = place_of o.opening ++ places o.answers

-- the sections are told of the journal one after the other, `at` entries standing before the first
abbrev pub AreTold : List Entry → ℕ → ℕ → List Section → List SectionResult → Type 0
AreTold J limit at [] [] = Unit {0}
AreTold J limit at (s ∷ ss) (o ∷ os) = IsTold J limit at s o.opening o.days o.answers × AreTold J limit (at + length (places_in o)) ss os
AreTold J limit at _ _ = ⊥

-- There is one journal: it is well made, has at most so many entries, the sections are told of it, and the places that the lines show are all its
-- places, from 0 on.
pub record Journaled (limit : ℕ) (sections : List Section) (results : List SectionResult) : Type 0 where
  pub journal : List Entry
  pub made : IsMade journal
  pub within : length journal ≤ limit
  pub told : AreTold journal limit 0 sections results
  pub counted : flat_map places_in results ≡ count_from 0 (length journal)

-- the line of a section
abbrev pub opening_text : ℕ → Section → SessionOpening → List ℕ
opening_text limit s (opened place number) = header_text place number s.user
opening_text limit s full = full_text limit

-- the text of a section: its line, and the block of each answer
abbrev pub section_text : ℕ → Section → SectionResult → List ℕ
section_text limit s o = opening_text limit s o.opening ++ flat_map block_text o.answers

-- the text of a run
abbrev pub out : ℕ → List Section → List SectionResult → List ℕ
out limit [] os = []
out limit (s ∷ ss) [] = []
out limit (s ∷ ss) (o ∷ os) = section_text limit s o ++ out limit ss os

-- the first sections, and of the last of them the first statements
pub data IsFront : List Section → List Section → Type 0 where
  none : {ss : List Section} → IsFront [] ss
  part : {s : Section} {ss : List Section} (count : ℕ) → IsFront (record { user = s.user; groups = s.groups; texts = take count s.texts } ∷ []) (s ∷ ss)
  more : {s : Section} {rs ss : List Section} → IsFront rs ss → IsFront (s ∷ rs) (s ∷ ss)
