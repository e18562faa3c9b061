-- What a call that adds an entry leaves of a book.
use Rattle.std.specs.Prelude.{ℕ, ◌≡◌, ◌-◌, List, [], ◌∷◌, ◌++◌, length, true, Option, None, Some}
use Rattle.lb_stmt.specs.declared.write.Stmt.{Stmt}
use Rattle.lb_cat.specs.declared.answer.Answer.{Answer}
use Rattle.lb_cat.specs.declared.answer.Mark.{Mark}
use Rattle.lb_cat.specs.declared.entry.Entry.{Entry}
use Rattle.lb_cat.specs.declared.entry.Entry.TheVariants as entries
use Rattle.lb_cat.specs.declared.entry.Said.{Said}
use Rattle.lb_rows.specs.Lists.{put}
use Rattle.lb_rows.specs.Stamped.{Stamped, is_stamped}
use Rattle.lb_rows.specs.Tables.{Version}
use Rattle.lb_journal.specs.Journal.{Speaks}
use Rattle.lb_journal.specs.Replay.{Rep}
use Rattle.lb_journal.specs.Told.{is_query}
use Rattle.lb_book.specs.Content.{Content}

-- the book with an entry more, for which memory was spare
abbrev pub entered : {P : Type 0} → Entry → Content P → Content P
entered e b = record b { journal = b.journal ++ e ∷ []; spare = b.spare - 1 }

-- new rows in the place of their table's, with this stamp
abbrev pub put_stamped : ℕ → Option Version → List Stamped → List Stamped
put_stamped stamp None tables = tables
put_stamped stamp (Some v) tables = put (is_stamped v.name) (record { version = v; stamp = stamp }) tables

-- the text is that of a query
abbrev pub IsOfQuery : List ℕ → Type 0
IsOfQuery text = (s : Stmt) × Speaks text s × (is_query s ≡ true)

-- the statement's entry is added to the journal, and the answer has its place, this mark, and the reply of that place
pub record Answers (J K : List Entry) (d : Said) (mark : Mark) (a : Answer) : Type 0 where
  pub grown : K ≡ J ++ entries.Said d ∷ []
  pub place : a.place ≡ Some (length J)
  pub mark_is : a.mark ≡ mark
  pub reply : Rep K (length J) a.reply
