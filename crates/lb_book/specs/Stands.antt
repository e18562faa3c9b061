-- What the type of a book keeps.
use Rattle.std.specs.Prelude.{ℕ, ◌≡◌, ◌+◌, ◌≤◌, ◌^◌, true, false, List, take, length, slice_get, Some}
use Rattle.std.specs.List.{AllByRecursion}
use Rattle.lb_base.specs.declared.key.Key.{Key}
use Rattle.lb_base.specs.declared.key.Key.TheVariants as keys
use Rattle.lb_stmt.specs.declared.write.Stmt.{Stmt}
use Rattle.lb_cat.specs.declared.entry.Entry.{Entry}
use Rattle.lb_cat.specs.declared.entry.Entry.TheVariants as entries
use Rattle.lb_cat.specs.declared.entry.Said.{Said}
use Rattle.lb_cat.specs.Stamps.{Kept, bare, look}
use Rattle.lb_rows.specs.Stamped.{Stamped, rows_only, stamp_of}
use Rattle.lb_alter.specs.Deps.{deps}
use Rattle.lb_journal.specs.Engine.{Condition, Meaning, RightFor}
use Rattle.lb_journal.specs.Journal.{IsMade, Speaks}
use Rattle.lb_journal.specs.Lasting.{SameStamps}
use Rattle.lb_journal.specs.Replay.{Replay}
use Rattle.lb_journal.specs.State.{State}
use Rattle.lb_journal.specs.Told.{is_change, is_query}
use Rattle.lb_book.specs.Cached.{Cached}
use Rattle.lb_book.specs.Content.{Content}

-- the stamp of a key: of its record in the catalogue, or of its table's rows
abbrev pub stamp_in : Kept → List Stamped → Key → ℕ
stamp_in K tables (keys.Rows n) = stamp_of n tables
stamp_in K tables k = look K k

-- catalogue and rows are those of the state, with its stamps
pub record IsKept (K : Kept) (tables : List Stamped) (S : State) : Type 0 where
  pub cat : bare K ≡ S.cat
  pub rows : rows_only tables ≡ S.tables
  pub stamps : (k : Key) → stamp_in K tables k ≡ S.stamp k

-- catalogue and rows are what the journal leaves, which is well made
pub record IsReplayed (J : List Entry) (K : Kept) (tables : List Stamped) : Type 0 where
  pub made : IsMade J
  pub state : State
  pub replay : Replay J state
  pub kept : IsKept K tables state

-- an entry of that text stands where the keys had the stamps that they have now
pub record WasAsked (J : List Entry) (S : State) (text : List ℕ) (ks : List Key) : Type 0 where
  pub place : ℕ
  pub said : Said
  pub there : slice_get J place ≡ Some (entries.Said said)
  pub of_text : said.text ≡ text
  pub before : State
  pub replay : Replay (take place J) before
  pub same : SameStamps ks before S

module _ {P : Type 0} (means : Meaning P) (takes : Condition P) where
  -- The plan is right for its statement in what stands, which is no change, and its keys are those that the statement depends on. A
  -- query's has been asked for.
  pub record IsRight (J : List Entry) (S : State) (c : Cached P) : Type 0 where
    pub stmt : Stmt
    pub speaks : Speaks c.text stmt
    pub kind : is_change stmt ≡ false
    pub keys : c.keys ≡ deps S.cat stmt
    pub right : RightFor means takes c.plan S.cat stmt
    pub asked : is_query stmt ≡ true → WasAsked J S c.text c.keys

  -- The journal may have 1 to 1,048,576 entries, and has no more, with those for which memory is spare. Catalogue and rows are what it
  -- leaves, and each plan that is kept is right there.
  pub record Stands (b : Content P) : Type 0 where
    pub some : 1 ≤ b.limit
    pub few : b.limit ≤ 2 ^ 20
    pub room : length b.journal + b.spare ≤ b.limit
    pub replayed : IsReplayed b.journal b.catalog b.tables
    pub cached : AllByRecursion (IsRight b.journal replayed.state) b.cache
