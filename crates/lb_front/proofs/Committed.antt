-- A statement that was run, and one that was not.
use Rattle.std.proofs.Common.{Bool, true, false, cond, ◌≡◌, ◌⊎◌, inl, inr, ℕ, zero, ◌+◌, ◌<◌, ◌≤◌, ◌^◌, List, [], ◌∷◌, ◌++◌, length, take, Option, Some, None, refl, sym, ap, subst, ◌∙◌, zero-add, arith}
use Rattle.std.specs.Prelude.{ℤ, slice_get, ◌==◌}
use Rattle.std.proofs.Math.Seq.{take-length}
use Rattle.std.proofs.lemmas.Bool.Decides.{nat_tests}
use Rattle.std.proofs.lemmas.List.Sums.{fold-append}
use Rattle.std.proofs.lemmas.List.{take-append-le, length-append}
use Rattle.lb_stmt.specs.declared.write.Stmt.{Stmt}
use Rattle.lb_tok.specs.Canonical.{canonical}
use Rattle.lb_tok.specs.Syntax.{IsRepeatable}
use Rattle.lb_read.proofs.Again.{spoken}
use Rattle.lb_base.specs.Days.{IsDay}
use Rattle.lb_cat.specs.declared.entry.Entry.{Entry}
use Rattle.lb_cat.specs.declared.entry.Entry.TheVariants as entries
use Rattle.lb_cat.specs.declared.entry.Said.{Said}
use Rattle.lb_cat.specs.declared.answer.Answer.{Answer}
use Rattle.lb_cat.specs.declared.answer.Mark.{Mark}
use Rattle.lb_cat.specs.declared.answer.Mark.TheVariants as marks
use Rattle.lb_cat.specs.declared.reply.Reply.{Reply}
use Rattle.lb_cat.specs.declared.reply.Reply.TheVariants as replies
use Rattle.lb_model.specs.Answer.{is_query}
use Rattle.lb_model.specs.Step.{State, first, after}
use Rattle.lb_model.specs.Journal.{IsMade, Speaks, FollowsSaid, opened_by, said_by, is_said_by, opens}
use Rattle.lb_model.specs.Replay.{Steps, Replay, Rep}
use Rattle.lb_model.specs.NotYet.{IsUnbuilt}
use Rattle.lb_model.specs.Told.{Placed, IsUnplaced, Unplaced, mark_of}
use Rattle.lb_model.proofs.There.{runs_more}
use Rattle.lb_model.proofs.Longer.{get_end, made_more, opened_more}
use Rattle.lb_model.proofs.Sessions.{opened_last, said_none}
use Rattle.lb_refr.specs.Stored.{Stored}
use Rattle.lb_front.specs.declared.book.Session.{Session}
use Rattle.lb_front.specs.declared.book.Prepared.{Prepared}
use Rattle.lb_front.specs.declared.stop.Stop.{Stop}
use Rattle.lb_front.specs.declared.stop.Stop.TheVariants as stops
use Rattle.lb_front.specs.Booked.{Stands, IsSessionOf}
use Rattle.lb_front.specs.Executed.{Left, Added, Executed, ExecutedAt}
use Rattle.lb_front.specs.Prepared.{stop_reply, IsReady, IsStopped, Did}

-- ---- why a statement is not run

pub no_truth : (b : Bool) → b ≡ true → b ≡ false → ⊥
no_truth true e h = absurd cc
no_truth false e h = absurd cc

pub stopped_unbuilt : (J : List Entry) (limit : ℕ) (stored : Stored) (user text : List ℕ) (s : Stmt) → IsRepeatable text s → IsUnbuilt stored.cat stored.tables user s → IsStopped J limit stored user text stops.NotYet
stopped_unbuilt J limit stored user text s h e = (s, record { reads = h; unbuilt = e })

pub stopped_full : (J : List Entry) (limit : ℕ) (stored : Stored) (user text : List ℕ) (s : Stmt) → Stands J limit stored → IsRepeatable text s → (IsUnbuilt stored.cat stored.tables user s → ⊥) → limit ≤ length J
    → IsStopped J limit stored user text (stops.JournalFull limit)
stopped_full J limit stored user text s stands h e le = (refl, (s, record { reads = h; built = e }), omega (arith, stands.within))

-- the answer of a statement that is not run
pub unplaced_by : (J : List Entry) (limit : ℕ) (stored : Stored) (user text : List ℕ) (stop : Stop) (a : Answer) → Stands J limit stored → IsStopped J limit stored user text stop
    → a.place ≡ None → a.mark ≡ marks.Dash → a.reply ≡ stop_reply stop → Unplaced J limit (length J) user text a
unplaced_by J limit stored user text stop a stands h place mark reply = record {
  place = place;
  mark = mark;
  within = omega arith;
  state = stands.state;
  before = subst (λ (t : List Entry). Replay t stands.state) (sym (take-length J)) stands.replay;
  cause = subst (λ (r : Reply). IsUnplaced J limit (length J) stands.state user text r) (sym reply) (cause_by J limit stored user text stop stands h);
}
  where
    cause_by : (J : List Entry) (limit : ℕ) (stored : Stored) (user text : List ℕ) (stop : Stop) (stands : Stands J limit stored) → IsStopped J limit stored user text stop → IsUnplaced J limit (length J) stands.state user text (stop_reply stop)
    cause_by J limit stored user text stops.NoMemory stands h = inl refl
    cause_by J limit stored user text (stops.Syntax at) stands h = inr (inl (at, refl, h))
    cause_by J limit stored user text stops.NotYet stands h = inr (inr (inl (refl, (h.0, rw (stands.cat, stands.tables) h.1))))
    cause_by J limit stored user text (stops.JournalFull n) stands h = inr (inr (inr (rw h.0 refl, (h.1.0, rw (stands.cat, stands.tables) h.1.1), h.2, h.2)))

-- ---- a statement that is run

itself : (s : ℕ) → (s == s) ≡ true
itself s = grind (arith, nat_tests)

one_if : Bool → ℕ
one_if b = cond b 1 0

chosen_one : (b : Bool) → b ≡ true → one_if b ≡ 1
unfolding one_if
chosen_one true h = refl
chosen_one false h = absurd cc

pub said_more : (J : List Entry) (d : Said) (s : ℕ) → d.session ≡ s → said_by (J ++ entries.Said d ∷ []) s ≡ said_by J s + 1
unfolding one_if
said_more J d s h =
    let one : one_if (d.session == s) ≡ 1 = rw h (chosen_one (s == s) (itself s)) in
    fold-append (λ a x. a + cond (is_said_by s x) 1 0) 0 J (entries.Said d ∷ []) ∙ ap (λ (n : ℕ). said_by J s + n) one

-- what a statement that was run leaves, of whatever text that is read as it
pub record Committed (J : List Entry) (limit : ℕ) (new : Stored) (session : Session) (p : Prepared) (r : Reply) : Type 0 where
  pub stands : Stands (J ++ entries.Said p.said ∷ []) limit new
  pub session_of : IsSessionOf (J ++ entries.Said p.said ∷ []) (record session { said = session.said + 1 })
  pub own : p.said.session ≡ session.number
  pub placed : (text : List ℕ) → IsRepeatable text p.stmt → Placed (J ++ entries.Said p.said ∷ []) session.user text p.said.day (length J, p.said) (record { place = Some (length J); mark = mark_of p.stmt; reply = r })

pub committed : (J : List Entry) (limit : ℕ) (stored new : Stored) (session : Session) (p : Prepared) (r : Reply)
    → Stands J limit stored → IsSessionOf J session → IsReady J limit stored session p.said.day p → IsDay p.said.day → Did stored new session.user p.stmt r
    → Committed J limit new session p r
committed J limit stored new session p r stands session_of ready today did =
    let d : Said = p.said in
    let e : p.said ≡ record { session = session.number; number = session.said; user = session.user; groups = session.groups; day = p.said.day; text = canonical p.stmt } = ready.said in
    let own : d.session ≡ session.number = ap (λ (x : Said). x.session) e in
    let number : d.number ≡ session.said = ap (λ (x : Said). x.number) e in
    let user : d.user ≡ session.user = ap (λ (x : Said). x.user) e in
    let groups : d.groups ≡ session.groups = ap (λ (x : Said). x.groups) e in
    let said : d.text ≡ canonical p.stmt = ap (λ (x : Said). x.text) e in
    let S : State = stands.state in
    let speaks : Speaks d.text p.stmt = (spoken (canonical p.stmt) p.stmt ready.again.reads, sym said) in
    let readable : IsRepeatable d.text p.stmt = subst (λ (t : List ℕ). IsRepeatable t p.stmt) (sym said) ready.again in
    let opened : opened_by J d.session ≡ Some (d.user, d.groups) = rw (own, user, groups) session_of.opened in
    let counted : d.number ≡ said_by J d.session = rw (own, number) session_of.counted in
    let follows : FollowsSaid J d = record { stmt = p.stmt; speaks = speaks; readable = readable; day = today; opened = opened; counted = counted } in
    let T : State = after (length J) S d.user d.groups d.day p.stmt in
    let steps : Steps (length J) S (entries.Said d) T = (p.stmt, speaks, refl) in
    let replay : Replay (J ++ entries.Said d ∷ []) T = runs_more 0 first J S (entries.Said d) T stands.replay (subst (λ (n : ℕ). Steps n S (entries.Said d) T) (sym (zero-add (length J))) steps) in
    let before : Replay (take (length J) (J ++ entries.Said d ∷ [])) S = subst (λ (t : List Entry). Replay t S) (sym (take-append-le (length J) J (entries.Said d ∷ []) (omega arith) ∙ take-length J)) stands.replay in
    let there : slice_get (J ++ entries.Said d ∷ []) (length J) ≡ Some (entries.Said d) = get_end J (entries.Said d) in
    let cat : T.cat ≡ new.cat = rw (stands.cat, stands.tables, user) (sym (did.cat d.groups d.day)) in
    let tables : T.tables ≡ new.tables = rw (stands.cat, stands.tables, user) (sym (did.tables d.groups d.day)) in
    let reply : Rep (J ++ entries.Said d ∷ []) (length J) r ⊎ ((is_query p.stmt ≡ true) × (r ≡ replies.NoMemory)) = elim did.reply [
      | inl h ↦ inl (record { state = S; before = before; entry = entries.Said d; there = there; gives = (p.stmt, speaks, rw (stands.cat, stands.tables, user) (h d.groups d.day)) })
      | inr q ↦ inr q
    ] in
    record {
      stands = record {
        made = made_more J (entries.Said d) stands.made follows;
        within = omega (arith, ready.room, length-append J (entries.Said d ∷ []));
        bounded = stands.bounded;
        state = T;
        replay = replay;
        cat = cat;
        tables = tables;
      };
      session_of = record {
        opened = opened_more J (entries.Said d ∷ []) session.number (session.user, session.groups) session_of.opened;
        counted = rw (said_more J d session.number own) (ap (λ (n : ℕ). n + 1) session_of.counted);
      };
      own = own;
      placed = λ text reads. record {
        place = refl;
        there = there;
        stmt = p.stmt;
        state = S;
        before = before;
        built = record { reads = reads; built = rw (stands.cat, stands.tables) ready.built };
        said = said;
        today = refl;
        mark = refl;
        reply = reply;
      };
    }

-- the same, said of the journal and the session as they stand afterwards
pub added_of : (J K : List Entry) (limit : ℕ) (new : Stored) (session : Session) (text : List ℕ) (p : Prepared) (r : Reply) (a : Answer)
    → Committed J limit new session p r → IsRepeatable text p.stmt → K ≡ J ++ entries.Said p.said ∷ [] → a ≡ record { place = Some (length J); mark = mark_of p.stmt; reply = r }
    → Added J K session (record session { said = session.said + 1 }) text p.said.day a
added_of J K limit new session text p r a h reads k e = record {
  said = p.said;
  grown = k;
  own = h.own;
  counted = refl;
  placed = rw (k, e) (h.placed text reads);
}

pub stands_of : (J K : List Entry) (limit : ℕ) (new : Stored) (session : Session) (p : Prepared) (r : Reply) → Committed J limit new session p r → K ≡ J ++ entries.Said p.said ∷ [] → Stands K limit new
stands_of J K limit new session p r h k = rw k h.stands

pub session_grown : (J K : List Entry) (limit : ℕ) (new : Stored) (session : Session) (p : Prepared) (r : Reply) → Committed J limit new session p r → K ≡ J ++ entries.Said p.said ∷ []
    → IsSessionOf K (record session { said = session.said + 1 })
session_grown J K limit new session p r h k = rw k h.session_of

-- nothing was added
pub left_of : (J : List Entry) (limit : ℕ) (session : Session) (text : List ℕ) (a : Answer) → Unplaced J limit (length J) session.user text a → Left J J limit session session text a
left_of J limit session text a h = record { same = refl; uncounted = refl; unplaced = h }

pub executed_left : (J K : List Entry) (limit : ℕ) (session now : Session) (text : List ℕ) (day : ℤ) (a : Answer) → a.place ≡ None → Left J K limit session now text a → Executed J K limit session now text day a
executed_left J K limit session now text day a e h = subst (λ (p : Option ℕ). ExecutedAt p J K limit session now text day a) (sym e) h

pub executed_added : (J K : List Entry) (limit : ℕ) (session now : Session) (text : List ℕ) (day : ℤ) (a : Answer) (place : ℕ) → a.place ≡ Some place → Added J K session now text day a → Executed J K limit session now text day a
executed_added J K limit session now text day a place e h = subst (λ (p : Option ℕ). ExecutedAt p J K limit session now text day a) (sym e) h

-- a statement was prepared from the text and committed: that executes the text, on the day of the statement
pub executed_by : (J K : List Entry) (limit : ℕ) (stored : Stored) (session now : Session) (text : List ℕ) (day : ℤ) (p : Prepared) (a : Answer) → IsReady J limit stored session day p → IsRepeatable text p.stmt → a.place ≡ Some (length J)
    → ((t : List ℕ) → IsRepeatable t p.stmt → Added J K session now t p.said.day a) → Executed J K limit session now text day a
executed_by J K limit stored session now text day p a ready reads place added =
    let today : p.said.day ≡ day = ap (λ (d : Said). d.day) ready.said in
    executed_added J K limit session now text day a (length J) place (subst (λ (d : ℤ). Added J K session now text d a) today (added text reads))

pub answer_is : (J : List Entry) (place : ℕ) (s : Stmt) (mark : Mark) (r : Reply) → place ≡ length J → mark ≡ mark_of s
    → ◌≡◌ {A = Answer} (record { place = Some place; mark = mark; reply = r }) (record { place = Some (length J); mark = mark_of s; reply = r })
answer_is J place s mark r h e = rw (h, e) refl

-- ---- sessions

-- an empty journal stands
pub stands_first : (J : List Entry) (limit : ℕ) (store : Stored) → J ≡ [] → limit < 2 ^ 32 → store ≡ record { cat = record { tables = [] }; tables = [] } → Stands J limit store
stands_first J limit store e bounded bare =
    rw e (record {
      made = tt;
      within = omega arith;
      bounded = bounded;
      state = first;
      replay = refl;
      cat = rw bare refl;
      tables = rw bare refl;
    })

-- an Open more leaves what stands
pub stands_opened : (J K : List Entry) (limit : ℕ) (stored : Stored) (user : List ℕ) (groups : List (List ℕ)) → Stands J limit stored → length J < limit → K ≡ J ++ entries.Open user groups ∷ [] → Stands K limit stored
stands_opened J K limit stored user groups h lt e =
    rw e (record {
      made = made_more J (entries.Open user groups) h.made tt;
      within = omega (arith, lt, length-append J (entries.Open user groups ∷ []));
      bounded = h.bounded;
      state = h.state;
      replay = runs_more 0 first J h.state (entries.Open user groups) h.state h.replay refl;
      cat = h.cat;
      tables = h.tables;
    })

-- the session that was opened now
pub session_opened : (J K : List Entry) (user : List ℕ) (groups : List (List ℕ)) (s : Session) → IsMade J → K ≡ J ++ entries.Open user groups ∷ [] → s.number ≡ opens J → s.said ≡ 0 → s.user ≡ user → s.groups ≡ groups → IsSessionOf K s
session_opened J K user groups s made e n none u g =
    rw (e) (record {
      opened = rw (n, u, g) (opened_last J user groups);
      counted = rw (n, none) (sym (said_none J user groups made));
    })
