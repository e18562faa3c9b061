-- The sections of a script, with the texts of their statements.
use Rattle.std.specs.Prelude.{ℕ, List, ◌∷◌, map, Option, Some, None}
use Rattle.lb_split.specs.declared.script.Section.{Section as SpanSection}
use Rattle.lb_split.specs.declared.script.Script.{Script}
use Rattle.lb_split.specs.Scripts.{text_in}
use Rattle.lb_model.specs.Sections.{Section}

-- a section with the texts of its statements, which stand in the bytes
abbrev pub section_in : List ℕ → SpanSection → Section
section_in bytes s = record { user = s.user; groups = s.groups; texts = map (text_in bytes) s.statements }

abbrev pub with_first : Option SpanSection → List SpanSection → List SpanSection
with_first None ss = ss
with_first (Some s) ss = s ∷ ss

-- the section of SETUP, if there is one, and those of the sessions
abbrev pub sections_in : List ℕ → Script → List Section
sections_in bytes script = map (section_in bytes) (with_first script.setup script.sessions)
