-- What running one statement alone adds to the journal, and its answer.
use Rattle.std.specs.Prelude.{ℕ, ℤ, ◌≡◌, ◌+◌, List, [], ◌∷◌, ◌++◌, length, Option, None, Some}
use Rattle.lb_cat.specs.declared.entry.Entry.{Entry}
use Rattle.lb_cat.specs.declared.entry.Entry.TheVariants as entries
use Rattle.lb_cat.specs.declared.entry.Said.{Said}
use Rattle.lb_cat.specs.declared.answer.Answer.{Answer}
use Rattle.lb_model.specs.Told.{Placed, Unplaced}
use Rattle.lb_front.specs.declared.book.Session.{Session}

-- the statement has no place: nothing is added, and there is a reason
pub record Left (J K : List Entry) (limit : ℕ) (session now : Session) (text : List ℕ) (a : Answer) : Type 0 where
  pub same : K ≡ J
  pub uncounted : now ≡ session
  pub unplaced : Unplaced J limit (length J) session.user text a

-- the statement has a place: the session's next entry is added there, and the answer is right by the journal
pub record Added (J K : List Entry) (session now : Session) (text : List ℕ) (day : ℤ) (a : Answer) : Type 0 where
  pub said : Said
  pub grown : K ≡ J ++ entries.Said said ∷ []
  pub own : said.session ≡ session.number
  pub counted : now ≡ record session { said = session.said + 1 }
  pub placed : Placed K session.user text day (length J, said) a

abbrev pub ExecutedAt : Option ℕ → List Entry → List Entry → ℕ → Session → Session → List ℕ → ℤ → Answer → Type 0
ExecutedAt None J K limit session now text day a = Left J K limit session now text a
ExecutedAt (Some place) J K limit session now text day a = Added J K session now text day a

-- the journal grows by at most one entry, and the answer is told of it
abbrev pub Executed : List Entry → List Entry → ℕ → Session → Session → List ℕ → ℤ → Answer → Type 0
Executed J K limit session now text day a = ExecutedAt a.place J K limit session now text day a
