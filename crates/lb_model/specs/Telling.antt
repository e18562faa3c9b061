-- What is told so far: within a session, and of one section after others.
use Rattle.std.specs.Prelude.{ℕ, ℤ, ◌≡◌, ◌+◌, ◌<◌, List, [], ◌∷◌, ◌++◌, take, length}
use Rattle.lb_cat.specs.declared.entry.Entry.{Entry}
use Rattle.lb_cat.specs.declared.entry.Entry.TheVariants as entries
use Rattle.lb_cat.specs.declared.entry.Said.{Said}
use Rattle.lb_cat.specs.declared.answer.Answer.{Answer}
use Rattle.lb_model.specs.Journal.{mine, opens}
use Rattle.lb_model.specs.Told.{Told, places, count_from}
use Rattle.lb_model.specs.Sections.{Section, SectionResult, IsTold, places_in}

-- the number of entries that stand before the next statement, once these entries have been told of
abbrev pub end_of : ℕ → List (ℕ × Said) → ℕ
end_of at [] = at
end_of at (e ∷ next) = end_of (e.0 + 1) next

-- After the entries of I stand the Open of a session and its own entries alone, which these answers show.
pub record Telling (I J : List Entry) (limit number : ℕ) (user : List ℕ) (groups : List (List ℕ)) (texts : List (List ℕ)) (days : List ℤ) (answers : List Answer) : Type 0 where
  pub added : List Entry
  pub grown : J ≡ I ++ entries.Open user groups ∷ added
  pub others : (n : ℕ) → n < opens I → mine J n ≡ mine I n
  pub of_number : number ≡ opens I
  pub told : Told J limit user (length I + 1) (mine J number) texts days answers
  pub behind : end_of (length I + 1) (mine J number) ≡ length J
  pub counted : length I ∷ places answers ≡ count_from (length I) (length added + 1)

-- The section was run after the entries of I. It is told of J, which has its own entries after those; they are the places that its lines show,
-- and none is of an earlier session.
pub record SectionJournaled (I J : List Entry) (limit : ℕ) (s : Section) (o : SectionResult) : Type 0 where
  pub added : List Entry
  pub grown : J ≡ I ++ added
  pub others : (n : ℕ) → n < opens I → mine J n ≡ mine I n
  pub told : IsTold J limit (length I) s o.opening o.days o.answers
  pub counted : places_in o ≡ count_from (length I) (length added)

-- the section with its first statements alone
abbrev pub first_of : ℕ → Section → Section
first_of count s = record { user = s.user; groups = s.groups; texts = take count s.texts }
