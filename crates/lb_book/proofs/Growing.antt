-- The book with one entry more.
use Rattle.std.proofs.Common.{◌≡◌, refl, sym, subst, ap, ◌∙◌, ℕ, ℤ, ◌+◌, ◌-◌, ◌≤◌, ◌<◌, ◌^◌, true, false, cond, List, [], ◌∷◌, ◌++◌, length, Option, Some, None, append_assoc, add-zero, zero-add, arith}
use Rattle.std.specs.Prelude.{option_map, slice_get}
use Rattle.std.proofs.Math.Seq.{take-length}
use Rattle.std.proofs.lemmas.List.{append-nil, take-append-le, length-append}
use Rattle.std.proofs.lemmas.List.Sums.{fold-append}
use Rattle.lb_base.specs.declared.key.Key.{Key}
use Rattle.lb_stmt.specs.declared.write.Stmt.{Stmt}
use Rattle.lb_stmt.specs.declared.write.Stmt.TheVariants as stmts
use Rattle.lb_cat.specs.Catalog.{Cat, first_cat}
use Rattle.lb_cat.specs.Credentials.{cred}
use Rattle.lb_cat.specs.declared.cred.Cred.{Cred}
use Rattle.lb_cat.specs.declared.entry.Entry.{Entry}
use Rattle.lb_cat.specs.declared.entry.Entry.TheVariants as entries
use Rattle.lb_cat.specs.declared.entry.Said.{Said}
use Rattle.lb_cat.specs.declared.reply.Reply.{Reply}
use Rattle.lb_cat.specs.Stamps.{Kept, bare, look}
use Rattle.lb_rows.specs.Stamped.{Stamped, rows_only}
use Rattle.lb_rows.specs.Tables.{Tables, Version}
use Rattle.std.specs.Arc.{arc_value}
use Rattle.lb_cat.specs.Stamps.{marked_stamp}
use Rattle.lb_alter.specs.Laws.{AllTablesFit}
use Rattle.lb_alter.specs.Naming.{stored_rules}
use Rattle.lb_alter.specs.Refusing.{Changed}
use Rattle.lb_alter.specs.Sound.{IsSound}
use Rattle.lb_answer.specs.Answer.{Answered}
use Rattle.lb_journal.specs.Engine.{Condition, Meaning}
use Rattle.lb_journal.specs.Journal.{Follows, FollowsSaid, IsMade, MadeFrom, Speaks, is_open, opens}
use Rattle.lb_journal.specs.Replay.{Rep, Replay, Steps}
use Rattle.lb_changed.specs.Made.{IsMade as IsMadeSo}
use Rattle.lb_changed.specs.declared.changed.Changed.{Changed as Made}
use Rattle.lb_journal.specs.Rules.{answered_to, changed as changed_by}
use Rattle.lb_journal.specs.State.{State, after, first, left_by, put_maybe, step}
use Rattle.lb_journal.specs.Told.{is_change, is_query}
use Rattle.lb_journal.proofs.There.{runs_more}
use Rattle.lb_settled.specs.Statements.{LeavesOf}
use Rattle.lb_standing.specs.Laws.{ReplaysAreStanding}
use Rattle.lb_standing.specs.Standing.{IsStanding}
use Rattle.lb_book.specs.Content.{Content}
use Rattle.lb_book.specs.Grown.{IsOfQuery, put_stamped}
use Rattle.lb_book.specs.Leaving.{HasRoom, IsTold, IsWritten, LeavesKept, given_to, left_stamped}
use Rattle.lb_book.specs.Stands.{IsKept, IsReplayed, Stands}
use Rattle.lb_book.proofs.Fewer.{has_room}
use Rattle.lb_book.proofs.Keeping.{changed, kept_first, put_rows, written}

made_from : (I J : List Entry) (e : Entry) → MadeFrom I J → Follows (I ++ J) e → MadeFrom I (J ++ e ∷ [])
made_from I [] e h f = (subst (λ (x : List Entry). Follows x e) (append-nil I) f, tt)
made_from I (x ∷ J) e h f = (h.0, made_from (I ++ x ∷ []) J e h.1 (subst (λ (y : List Entry). Follows y e) (sym (append_assoc I (x ∷ []) J)) f))

-- a well-made journal with an entry that may stand after it
pub made_more : (J : List Entry) (e : Entry) → IsMade J → Follows J e → IsMade (J ++ e ∷ [])
made_more J e h f = made_from [] J e h f

-- what it leaves
pub replay_more : (J : List Entry) (S : State) (e : Entry) (T : State) → Replay J S → Steps (length J) S e T → Replay (J ++ e ∷ []) T
replay_more J S e T r s = runs_more 0 first J S e T r (subst (λ (n : ℕ). Steps n S e T) (sym (zero-add (length J))) s)

-- catalogue and rows that are those of the state after the entry
pub replayed_more : (J : List Entry) (K L : Kept) (tables left : List Stamped) (e : Entry) (h : IsReplayed J K tables) (T : State) → Follows J e → Steps (length J) h.state e T → IsKept L left T → IsReplayed (J ++ e ∷ []) L left
replayed_more J K L tables left e h T f s kept = record { made = made_more J e h.made f; state = T; replay = replay_more J h.state e T h.replay s; kept = kept }

last_there : {A : Type 0} (xs : List A) (y : A) → slice_get (xs ++ y ∷ []) (length xs) ≡ Some y
last_there [] y = refl
last_there (x ∷ xs) y = last_there xs y

-- the reply at the place of the last entry
pub rep_last : (J : List Entry) (S : State) (d : Said) (s : Stmt) (r : Reply) → Replay J S → Speaks d.text s → r ≡ (step S d.user d.groups d.day s).reply → Rep (J ++ entries.Said d ∷ []) (length J) r
rep_last J S d s r replay speaks e = record {
  state = S;
  before = subst (λ (I : List Entry). Replay I S) (sym (take-append-le (length J) J (entries.Said d ∷ []) (omega arith) ∙ take-length J)) replay;
  entry = entries.Said d;
  there = last_there J (entries.Said d);
  gives = (s, speaks, e);
}

pub one_longer : (J : List Entry) (e : Entry) → length (J ++ e ∷ []) ≡ length J + 1
one_longer J e = omega (arith, length-append J (e ∷ []))

pub opens_more : (J : List Entry) (user : List ℕ) (groups : List (List ℕ)) → opens (J ++ entries.Open user groups ∷ []) ≡ opens J + 1
opens_more J user groups = fold-append (λ a x. a + cond (is_open x) 1 0) 0 J (entries.Open user groups ∷ [])

pub opens_same : (J : List Entry) (d : Said) → opens (J ++ entries.Said d ∷ []) ≡ opens J
opens_same J d = fold-append (λ a x. a + cond (is_open x) 1 0) 0 J (entries.Said d ∷ []) ∙ add-zero (opens J)

-- ---- what a query or a write answers and leaves

module _ (at : ℕ) (S : State) (user : List ℕ) (groups : List (List ℕ)) (day : ℤ) where
  -- the tables
  tables_after : (s : Stmt) → is_change s ≡ false → (after at S user groups day s).tables ≡ put_maybe (answered_to S.cat (cred S.cat user groups) S.tables day s).table S.tables
  tables_after (stmts.Select s) k = refl
  tables_after (stmts.Insert i) k = refl
  tables_after (stmts.Update u) k = refl
  tables_after (stmts.Delete d) k = refl
  tables_after (stmts.Change c) k = absurd cc

  -- the reply
  reply_after : (s : Stmt) → is_change s ≡ false → (answered_to S.cat (cred S.cat user groups) S.tables day s).reply ≡ (step S user groups day s).reply
  reply_after (stmts.Select s) k = refl
  reply_after (stmts.Insert i) k = refl
  reply_after (stmts.Update u) k = refl
  reply_after (stmts.Delete d) k = refl
  reply_after (stmts.Change c) k = absurd cc

  -- catalogue and rows are those of the state after it
  kept_after : (K : Kept) (tables : List Stamped) → IsKept K tables S → (s : Stmt) → is_change s ≡ false
      → IsKept K (put_stamped (at + 1) (answered_to S.cat (cred S.cat user groups) S.tables day s).table tables) (after at S user groups day s)
  kept_after K tables h (stmts.Select s) k = written K tables S.cat S.tables S.stamp h.cat h.rows h.stamps at (answered_to S.cat (cred S.cat user groups) S.tables day (stmts.Select s))
  kept_after K tables h (stmts.Insert i) k = written K tables S.cat S.tables S.stamp h.cat h.rows h.stamps at (answered_to S.cat (cred S.cat user groups) S.tables day (stmts.Insert i))
  kept_after K tables h (stmts.Update u) k = written K tables S.cat S.tables S.stamp h.cat h.rows h.stamps at (answered_to S.cat (cred S.cat user groups) S.tables day (stmts.Update u))
  kept_after K tables h (stmts.Delete d) k = written K tables S.cat S.tables S.stamp h.cat h.rows h.stamps at (answered_to S.cat (cred S.cat user groups) S.tables day (stmts.Delete d))
  kept_after K tables h (stmts.Change c) k = absurd cc

-- what is answered over catalogue and rows is what is answered in the state that they are of
given_same : (K : Kept) (tables : List Stamped) (S : State) → IsKept K tables S → (d : Said) (s : Stmt) → given_to K tables d s ≡ answered_to S.cat (cred S.cat d.user d.groups) S.tables d.day s
given_same K tables S h d s =
    ap (λ (C : Cat). answered_to C (cred C d.user d.groups) (rows_only tables) d.day s) h.cat ∙ ap (λ (T : Tables). answered_to S.cat (cred S.cat d.user d.groups) T d.day s) h.rows

no_change : (s : Stmt) → is_query s ≡ true → is_change s ≡ false
no_change (stmts.Select s) h = refl
no_change (stmts.Insert i) h = absurd cc
no_change (stmts.Update u) h = absurd cc
no_change (stmts.Delete d) h = absurd cc
no_change (stmts.Change c) h = absurd cc

no_table : (s : Stmt) → is_query s ≡ true → (C : Cat) (c : Cred) (T : Tables) (day : ℤ) → (answered_to C c T day s).table ≡ None
no_table (stmts.Select s) h C c T day = refl
no_table (stmts.Insert i) h C c T day = absurd cc
no_table (stmts.Update u) h C c T day = absurd cc
no_table (stmts.Delete d) h C c T day = absurd cc
no_table (stmts.Change x) h C c T day = absurd cc

-- the reply of a write at its place
pub given_rep : (J : List Entry) (K : Kept) (tables : List Stamped) → IsReplayed J K tables → (d : Said) (s : Stmt) (r : Reply) → Speaks d.text s → is_change s ≡ false → r ≡ (given_to K tables d s).reply → Rep (J ++ entries.Said d ∷ []) (length J) r
given_rep J K tables h d s r speaks kind e =
    rep_last J h.state d s r h.replay speaks (e ∙ ap (λ (a : Answered). a.reply) (given_same K tables h.state h.kept d s) ∙ reply_after (length J) h.state d.user d.groups d.day s kind)

-- ---- room for the rows

module _ (standing : ReplaysAreStanding) where
  stands_after : (J : List Entry) (K : Kept) (tables : List Stamped) (h : IsReplayed J K tables) (d : Said) (s : Stmt) → FollowsSaid J d → Speaks d.text s → IsStanding (after (length J) h.state d.user d.groups d.day s)
  stands_after J K tables h d s f speaks =
      standing (J ++ entries.Said d ∷ []) (after (length J) h.state d.user d.groups d.day s) (made_more J (entries.Said d) h.made f) (replay_more J h.state (entries.Said d) _ h.replay (s, speaks, refl))

  -- of a write
  pub write_room : (J : List Entry) (K : Kept) (tables : List Stamped) → IsReplayed J K tables → (d : Said) (o : Option Version) → FollowsSaid J d → IsWritten K tables d o → HasRoom o tables
  write_room J K tables h d o f x =
      has_room (after (length J) h.state d.user d.groups d.day x.0) (stands_after J K tables h d x.0 f x.1) o tables
      (tables_after (length J) h.state d.user d.groups d.day x.0 x.2
      ∙ ap (λ (v : Option Version). put_maybe v h.state.tables) (sym (x.3 ∙ ap (λ (a : Answered). a.table) (given_same K tables h.state h.kept d x.0)))
      ∙ ap (put_maybe o) (sym h.kept.rows))

  -- of a change
  pub change_room : (J : List Entry) (K L : Kept) (tables : List Stamped) → IsReplayed J K tables → (d : Said) (o : Option Version) (touched : List Key) (stamp : ℕ) → FollowsSaid J d → LeavesKept (length J) K tables d L (left_stamped stamp o touched tables) → HasRoom o tables
  change_room J K L tables h d None touched stamp f x = tt
  change_room J K L tables h d (Some v) touched stamp f x =
      has_room (after (length J) h.state d.user d.groups d.day x.0) (stands_after J K tables h d x.0 f x.1) (Some v) tables
      (sym (x.2 h.state h.kept).rows ∙ put_rows (Some v) stamp tables)

  -- all tables fit
  pub tables_fit : (J : List Entry) (K : Kept) (tables : List Stamped) → IsReplayed J K tables → AllTablesFit (bare K) (rows_only tables)
  tables_fit J K tables h =
      subst (λ (C : Cat). AllTablesFit C (rows_only tables)) (sym h.kept.cat) (subst (λ (T : Tables). AllTablesFit h.state.cat T) (sym h.kept.rows) (standing J h.state h.made h.replay).tables)

  -- the catalogue is sound
  pub is_sound : (J : List Entry) (K : Kept) (tables : List Stamped) → IsReplayed J K tables → IsSound stored_rules (bare K)
  is_sound J K tables h = subst (IsSound stored_rules) (sym h.kept.cat) (standing J h.state h.made h.replay).sound

-- ---- the book

module _ {P : Type 0} (means : Meaning P) (takes : Condition P) where
  -- before the first entry
  pub begins : (limit : ℕ) (J : List Entry) (K : Kept) (tables : List Stamped) → 1 ≤ limit → limit ≤ 2 ^ 20 → J ≡ [] → tables ≡ [] → bare K ≡ first_cat → ((k : Key) → look K k ≡ 0)
      → Stands means takes (record { journal = J; limit = limit; spare = 0; catalog = K; tables = tables; cache = [] })
  begins limit J K tables some few none empty e zero =
      subst (λ (I : List Entry). Stands means takes (record { journal = I; limit = limit; spare = 0; catalog = K; tables = tables; cache = [] })) (sym none)
      (subst (λ (ts : List Stamped). Stands means takes (record { journal = []; limit = limit; spare = 0; catalog = K; tables = ts; cache = [] })) (sym empty)
      (record {
        some = some;
        few = few;
        room = omega (arith, some);
        replayed = record { made = tt; state = first; replay = refl; kept = kept_first K e zero };
        cached = tt;
      }))

  module _ (b : Content P) (h : Stands means takes b) (spare : ℕ) (room : 0 < b.spare) (less : spare ≡ b.spare - 1) where
    -- with one entry more, and with catalogue and rows that are what it leaves
    grows : (e : Entry) (K : Kept) (tables : List Stamped) → IsReplayed (b.journal ++ e ∷ []) K tables → Stands means takes (record { journal = b.journal ++ e ∷ []; limit = b.limit; spare = spare; catalog = K; tables = tables; cache = [] })
    grows e K tables replayed = record {
      some = h.some;
      few = h.few;
      room = omega (arith, h.room, one_longer b.journal e, room, less);
      replayed = replayed;
      cached = tt;
    }

    -- a session opens
    pub opened : (user : List ℕ) (groups : List (List ℕ)) → Stands means takes (record { journal = b.journal ++ entries.Open user groups ∷ []; limit = b.limit; spare = spare; catalog = b.catalog; tables = b.tables; cache = [] })
    opened user groups =
        grows (entries.Open user groups) b.catalog b.tables
        (replayed_more b.journal b.catalog b.catalog b.tables b.tables (entries.Open user groups) h.replayed h.replayed.state tt refl h.replayed.kept)

    -- a write
    pub wrote : (d : Said) (o : Option Version) → FollowsSaid b.journal d → IsWritten b.catalog b.tables d o
        → Stands means takes (record { journal = b.journal ++ entries.Said d ∷ []; limit = b.limit; spare = spare; catalog = b.catalog; tables = put_stamped (length b.journal + 1) o b.tables; cache = [] })
    wrote d o f x =
        let S : State = h.replayed.state in
        let T : State = after (length b.journal) S d.user d.groups d.day x.0 in
        let same : o ≡ (answered_to S.cat (cred S.cat d.user d.groups) S.tables d.day x.0).table = x.3 ∙ ap (λ (a : Answered). a.table) (given_same b.catalog b.tables S h.replayed.kept d x.0) in
        grows (entries.Said d) b.catalog (put_stamped (length b.journal + 1) o b.tables)
        (replayed_more b.journal b.catalog b.catalog b.tables (put_stamped (length b.journal + 1) o b.tables) (entries.Said d) h.replayed T f (x.0, x.1, refl)
        (subst (λ (v : Option Version). IsKept b.catalog (put_stamped (length b.journal + 1) v b.tables) T) (sym same) (kept_after (length b.journal) S d.user d.groups d.day b.catalog b.tables h.replayed.kept x.0 x.2)))

    -- a query
    pub asked : (d : Said) → FollowsSaid b.journal d → IsOfQuery d.text
        → Stands means takes (record { journal = b.journal ++ entries.Said d ∷ []; limit = b.limit; spare = spare; catalog = b.catalog; tables = b.tables; cache = [] })
    asked d f q = wrote d None f (q.0, q.1, no_change q.0 q.2, sym (no_table q.0 q.2 (bare b.catalog) (cred (bare b.catalog) d.user d.groups) (rows_only b.tables) d.day))

    -- a change
    pub published : (d : Said) (L : Kept) (left : List Stamped) → FollowsSaid b.journal d → LeavesKept (length b.journal) b.catalog b.tables d L left
        → Stands means takes (record { journal = b.journal ++ entries.Said d ∷ []; limit = b.limit; spare = spare; catalog = L; tables = left; cache = [] })
    published d L left f x =
        grows (entries.Said d) L left
        (replayed_more b.journal b.catalog L b.tables left (entries.Said d) h.replayed (after (length b.journal) h.replayed.state d.user d.groups d.day x.0) f (x.0, x.1, refl) (x.2 h.replayed.state h.replayed.kept))

-- ---- a change

-- what the change leaves with the stamps that were, once what it touches has the stamp of its entry, is what its entry leaves
pub change_told : (K : Kept) (tables : List Stamped) (d : Said) (s : Stmt) (at : ℕ) (m n : Made) → is_change s ≡ true → LeavesOf K (rows_only tables) d.user s m → bare n.catalog ≡ bare m.catalog → ((k : Key) → look n.catalog k ≡ marked_stamp m.touched (at + 1) m.catalog k)
    → n.table ≡ m.table → n.touched ≡ m.touched → n.reply ≡ m.reply → IsTold at K tables d s n
change_told K tables d (stmts.Change c) at m n kind h alike stamps table touched reply = record {
  leaves = λ S k.
      let same : changed_by (bare K) (rows_only tables) d.user c ≡ changed_by S.cat S.tables d.user c =
      ap (λ (C : Cat). changed_by C (rows_only tables) d.user c) k.cat ∙ ap (λ (T : Tables). changed_by S.cat T d.user c) k.rows in
      subst (λ (o : Option Version). IsKept n.catalog (left_stamped (at + 1) o n.touched tables) (left_by at S.stamp (changed_by S.cat S.tables d.user c))) (sym (ap (option_map arc_value) table))
      (subst (λ (ks : List Key). IsKept n.catalog (left_stamped (at + 1) (option_map arc_value m.table) ks tables) (left_by at S.stamp (changed_by S.cat S.tables d.user c))) (sym touched)
      (changed K tables S.cat S.tables S.stamp k.cat k.rows k.stamps at (changed_by S.cat S.tables d.user c) m (subst (λ (x : Changed). IsMadeSo K (rows_only tables) x m) same h.made) n.catalog alike stamps));
  answers = λ S k. reply ∙ h.made.reply ∙ ap (λ (x : Changed). x.reply) (ap (λ (C : Cat). changed_by C (rows_only tables) d.user c) k.cat ∙ ap (λ (T : Tables). changed_by S.cat T d.user c) k.rows);
}
change_told K tables d (stmts.Select q) at m n kind h alike stamps table touched reply = absurd h
change_told K tables d (stmts.Insert i) at m n kind h alike stamps table touched reply = absurd h
change_told K tables d (stmts.Update u) at m n kind h alike stamps table touched reply = absurd h
change_told K tables d (stmts.Delete x) at m n kind h alike stamps table touched reply = absurd h

-- the reply of a change at its place
pub told_rep : (J : List Entry) (K : Kept) (tables : List Stamped) (h : IsReplayed J K tables) (d : Said) (s : Stmt) (m : Made) → Speaks d.text s → IsTold (length J) K tables d s m → Rep (J ++ entries.Said d ∷ []) (length J) m.reply
told_rep J K tables h d s m speaks told = rep_last J h.state d s m.reply h.replay speaks (told.answers h.state h.kept)
