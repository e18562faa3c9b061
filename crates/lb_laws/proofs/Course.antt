-- The course of a run: which entries each statement, each session and the whole script put after those before them. What is told of a journal
-- gives the course that led to it.
use Rattle.std.proofs.Common.{Bool, true, false, cond, ◌≡◌, ◌⊎◌, inl, inr, ℕ, zero, suc, ◌+◌, ◌<◌, ◌≤◌, List, [], ◌∷◌, ◌++◌, length, take, flat_map, Option, Some, None, refl, sym, ap, subst, ◌∙◌, zero-add, arith}
use Rattle.std.specs.Prelude.{ℤ, slice_get, ◌==◌}
use Rattle.std.proofs.lemmas.Bool.Decides.{nat_tests}
use Rattle.std.proofs.lemmas.Option.{slice_get_within, get_or_from_slice_get}
use Rattle.std.proofs.lemmas.List.{length-append, length-take-le, take_all, take_more}
use Rattle.lb_stmt.specs.declared.write.Stmt.{Stmt}
use Rattle.lb_tok.specs.Canonical.{canonical}
use Rattle.lb_model.proofs.There.{made_at}
use Rattle.lb_cat.specs.declared.entry.Entry.{Entry}
use Rattle.lb_cat.specs.declared.entry.Entry.TheVariants as entries
use Rattle.lb_cat.specs.declared.entry.Said.{Said}
use Rattle.lb_cat.specs.declared.answer.Answer.{Answer}
use Rattle.lb_cat.specs.declared.answer.Mark.TheVariants as marks
use Rattle.lb_cat.specs.declared.reply.Reply.{Reply}
use Rattle.lb_cat.specs.declared.reply.Reply.TheVariants as replies
use Rattle.lb_model.specs.Step.{State}
use Rattle.lb_model.specs.Journal.{FollowsSaid, IsMade, opens, mine_from, mine}
use Rattle.lb_model.specs.Replay.{Replay, Replies}
use Rattle.lb_model.specs.NotYet.{IsBuilt}
use Rattle.lb_model.specs.Told.{mark_of, Placed, IsUnplaced, Unplaced, Told, places, places_and, count_from}
use Rattle.lb_model.specs.Sections.{Section, SessionOpening, opened, full, SectionResult, AreShut, IsTold, AreTold, place_of, places_in, Journaled}

-- ---- the course of a run

-- after the entries of P, an answer that adds none
pub record AddsNone (P : List Entry) (limit : ℕ) (user text : List ℕ) (a : Answer) : Type 0 where
  pub place : a.place ≡ None
  pub mark : a.mark ≡ marks.Dash
  pub state : State
  pub before : Replay P state
  pub cause : IsUnplaced P limit (length P) state user text a.reply

-- after the entries of P, an answer that adds the entry of its statement
pub record AddsEntry (P : List Entry) (limit number : ℕ) (user text : List ℕ) (day : ℤ) (a : Answer) (d : Said) : Type 0 where
  pub room : length P < limit
  pub place : a.place ≡ Some (length P)
  pub follows : FollowsSaid P d
  pub own : d.session ≡ number
  pub stmt : Stmt
  pub state : State
  pub before : Replay P state
  pub built : IsBuilt state.cat state.tables user text stmt
  pub said : d.text ≡ canonical stmt
  pub today : d.day ≡ day
  pub mark : a.mark ≡ mark_of stmt
  pub reply : ((S : State) × Replay P S × Replies S (entries.Said d) a.reply) ⊎ (a.reply ≡ replies.NoMemory)

-- from the entries of P, the statements of a session lead to those of Q
abbrev pub Leads : ℕ → ℕ → List ℕ → List Entry → List (List ℕ) → List ℤ → List Answer → List Entry → Type 0
Leads limit number user P [] [] [] Q = P ≡ Q
Leads limit number user P (text ∷ texts) (day ∷ days) (a ∷ answers) Q =
    (AddsNone P limit user text a × Leads limit number user P texts days answers Q)
    ⊎ ((d : Said) × AddsEntry P limit number user text day a d × Leads limit number user (P ++ entries.Said d ∷ []) texts days answers Q)
Leads limit number user P _ _ _ Q = ⊥

-- the statements of a section do, after the Open of its session where there is one
abbrev pub SectionLeads : ℕ → List Entry → Section → SessionOpening → List ℤ → List Answer → List Entry → Type 0
SectionLeads limit P s (opened place number) days answers Q =
    (place ≡ length P) × (number ≡ opens P) × (length P < limit) × Leads limit number s.user (P ++ entries.Open s.user s.groups ∷ []) s.texts days answers Q
SectionLeads limit P s full days answers Q = (length P ≡ limit) × (days ≡ []) × AreShut limit s.texts answers × (P ≡ Q)

-- the sections of a script do, one after the other
abbrev pub ScriptLeads : ℕ → List Entry → List Section → List SectionResult → List Entry → Type 0
ScriptLeads limit P [] [] Q = P ≡ Q
ScriptLeads limit P (s ∷ ss) (o ∷ os) Q = (M : List Entry) × SectionLeads limit P s o.opening o.days o.answers M × ScriptLeads limit M ss os Q
ScriptLeads limit P _ _ Q = ⊥

-- ---- places that count up

-- the numbers count up by one, from the first on, to the end
abbrev IsCount : ℕ → List ℕ → ℕ → Type 0
IsCount at [] end = at ≡ end
IsCount at (x ∷ xs) end = (x ≡ at) × IsCount (at + 1) xs end

count_up : (at n end : ℕ) → at + n ≡ end → IsCount at (count_from at n) end
count_up at zero end h = omega (arith, h)
count_up at (suc n) end h = (refl, count_up (at + 1) n end (omega (arith, h)))

count_end : (at : ℕ) (xs : List ℕ) (end : ℕ) → IsCount at xs end → at + length xs ≡ end
count_end at [] end h = omega (arith, h)
count_end at (x ∷ xs) end h = let rest = count_end (at + 1) xs end h.1 in omega (arith, rest)

count_rest : (at : ℕ) (xs ys : List ℕ) (end : ℕ) → IsCount at (xs ++ ys) end → IsCount (at + length xs) ys end
count_rest at [] ys end h = let e : at ≡ at + 0 = omega arith in subst (λ (n : ℕ). IsCount n ys end) e h
count_rest at (x ∷ xs) ys end h = let e : (at + 1) + length xs ≡ at + length (x ∷ xs) = omega arith in subst (λ (n : ℕ). IsCount n ys end) e (count_rest (at + 1) xs ys end h.1)

-- ---- the journal up to a place

take_next : (k : ℕ) (J : List Entry) (e : Entry) → slice_get J k ≡ Some e → take (k + 1) J ≡ take k J ++ e ∷ []
take_next k J e h = take_more J k e (slice_get_within J k e h) ∙ ap (λ (x : Entry). take k J ++ x ∷ []) (get_or_from_slice_get J k e e h)

-- ---- one statement

cause_before : (J : List Entry) (limit at : ℕ) (S : State) (user text : List ℕ) (r : Reply) → at ≤ length J → IsUnplaced J limit at S user text r → IsUnplaced (take at J) limit (length (take at J)) S user text r
cause_before J limit at S user text r le (inl h) = inl h
cause_before J limit at S user text r le (inr (inl h)) = inr (inl h)
cause_before J limit at S user text r le (inr (inr (inl h))) = inr (inr (inl h))
cause_before J limit at S user text r le (inr (inr (inr h))) = let size : length (take at J) ≡ limit = length-take-le at J le ∙ h.2 in inr (inr (inr (h.0, h.1, size, size)))

adds_none : (J : List Entry) (limit at : ℕ) (user text : List ℕ) (a : Answer) → Unplaced J limit at user text a → AddsNone (take at J) limit user text a
adds_none J limit at user text a h = record {
  place = h.place;
  mark = h.mark;
  state = h.state;
  before = h.before;
  cause = cause_before J limit at h.state user text a.reply h.within h.cause;
}

adds_entry : (J : List Entry) (limit number at : ℕ) (user text : List ℕ) (day : ℤ) (a : Answer) (d : Said)
    → IsMade J → length J ≤ limit → d.session ≡ number → Placed J user text day (at, d) a → AddsEntry (take at J) limit number user text day a d
adds_entry J limit number at user text day a d made within own h =
    let below : at < length J = slice_get_within J at (entries.Said d) h.there in
    let size : length (take at J) ≡ at = length-take-le at J (omega arith) in
    record {
      room = omega arith;
      place = h.place ∙ ap (λ (n : ℕ). Some n) (sym size);
      follows = made_at [] J at (entries.Said d) made h.there;
      own = own;
      stmt = h.stmt;
      state = h.state;
      before = h.before;
      built = h.built;
      said = h.said;
      today = h.today;
      mark = h.mark;
      reply = elim h.reply [
        | inl r ↦
            let f : r.entry ≡ entries.Said d = (let j : ◌≡◌ {A = Option Entry} (Some r.entry) (Some (entries.Said d)) = sym r.there ∙ h.there in cc) in
            inl (r.state, r.before, subst (λ (e : Entry). Replies r.state e a.reply) f r.gives)
        | inr q ↦ inr q.1
      ];
    }

-- ---- the statements of a session

-- entries of the session with that number
abbrev AreOf : ℕ → List (ℕ × Said) → Type 0
AreOf s [] = Unit {0}
AreOf s (e ∷ next) = (e.1.session ≡ s) × AreOf s next

of_chosen : (s at : ℕ) (d : Said) (next : List (ℕ × Said)) (b : Bool) → (d.session == s) ≡ b → AreOf s next → AreOf s (cond b ((at, d) ∷ next) next)
of_chosen s at d next true h own = (grind (arith, nat_tests), own)
of_chosen s at d next false h own = own

of_session : (s at : ℕ) (J : List Entry) → AreOf s (mine_from s at J)
of_session s at [] = tt
of_session s at (entries.Open user groups ∷ es) = of_session s (at + 1) es
of_session s at (entries.Said d ∷ es) = of_chosen s at d (mine_from s (at + 1) es) (d.session == s) refl (of_session s (at + 1) es)

leads_unplaced : (J : List Entry) (limit number at : ℕ) (user text : List ℕ) (texts : List (List ℕ)) (day : ℤ) (days : List ℤ) (a : Answer) (answers : List Answer) (rest : List ℕ)
    → Unplaced J limit at user text a
    → (IsCount at (places answers ++ rest) (length J) → Leads limit number user (take at J) texts days answers (take (at + length (places answers)) J))
    → IsCount at (places (a ∷ answers) ++ rest) (length J) → Leads limit number user (take at J) (text ∷ texts) (day ∷ days) (a ∷ answers) (take (at + length (places (a ∷ answers))) J)
leads_unplaced J limit number at user text texts day days a answers rest h more c =
    let same : places (a ∷ answers) ≡ places answers = ap (λ (p : Option ℕ). places_and p (places answers)) h.place in
    let then = more (subst (λ (ps : List ℕ). IsCount at (ps ++ rest) (length J)) same c) in
    inl (adds_none J limit at user text a h, subst (λ (ps : List ℕ). Leads limit number user (take at J) texts days answers (take (at + length ps) J)) (sym same) then)

leads_placed : (J : List Entry) (limit number at : ℕ) (user text : List ℕ) (texts : List (List ℕ)) (day : ℤ) (days : List ℤ) (a : Answer) (answers : List Answer) (rest : List ℕ) (e : ℕ × Said)
    → IsMade J → length J ≤ limit → e.1.session ≡ number → Placed J user text day e a
    → (e.0 ≡ at → IsCount (at + 1) (places answers ++ rest) (length J) → Leads limit number user (take (at + 1) J) texts days answers (take ((at + 1) + length (places answers)) J))
    → IsCount at (places (a ∷ answers) ++ rest) (length J) → Leads limit number user (take at J) (text ∷ texts) (day ∷ days) (a ∷ answers) (take (at + length (places (a ∷ answers))) J)
leads_placed J limit number at user text texts day days a answers rest e made within own h more c =
    let d : Said = e.1 in
    let first : places (a ∷ answers) ≡ e.0 ∷ places answers = ap (λ (p : Option ℕ). places_and p (places answers)) h.place in
    let counted : IsCount at (e.0 ∷ (places answers ++ rest)) (length J) = subst (λ (ps : List ℕ). IsCount at (ps ++ rest) (length J)) first c in
    let here : Placed J user text day (at, d) a = subst (λ (n : ℕ). Placed J user text day (n, d) a) counted.0 h in
    let next : take (at + 1) J ≡ take at J ++ entries.Said d ∷ [] = take_next at J (entries.Said d) here.there in
    let size : length (places (a ∷ answers)) ≡ length (e.0 ∷ places answers) = ap (λ (ps : List ℕ). length ps) first in
    let end : (at + 1) + length (places answers) ≡ at + length (places (a ∷ answers)) = omega (arith, size) in
    let then = more counted.0 counted.1 in
    inr (
      d,
      adds_entry J limit number at user text day a d made within own here,
      subst (λ (P : List Entry). Leads limit number user P texts days answers (take (at + length (places (a ∷ answers))) J)) next
          (subst (λ (n : ℕ). Leads limit number user (take (at + 1) J) texts days answers (take n J)) end then),
    )

told_leads : (J : List Entry) (limit number : ℕ) (user : List ℕ) → IsMade J → length J ≤ limit → (at : ℕ) (next : List (ℕ × Said)) (texts : List (List ℕ)) (days : List ℤ) (answers : List Answer) (rest : List ℕ)
    → AreOf number next → IsCount at (places answers ++ rest) (length J) → Told J limit user at next texts days answers → Leads limit number user (take at J) texts days answers (take (at + length (places answers)) J)
told_leads J limit number user made within at next [] [] [] rest own c h = let e : at ≡ at + length (places []) = omega arith in ap (λ (n : ℕ). take n J) e
told_leads J limit number user made within at [] (t ∷ ts) (d ∷ ds) (a ∷ ans) rest own c h =
    leads_unplaced J limit number at user t ts d ds a ans rest h.0 (λ k. told_leads J limit number user made within at [] ts ds ans rest own k h.1) c
told_leads J limit number user made within at (e ∷ next) (t ∷ ts) (d ∷ ds) (a ∷ ans) rest own c (inl h) =
    leads_unplaced J limit number at user t ts d ds a ans rest h.0 (λ k. told_leads J limit number user made within at (e ∷ next) ts ds ans rest own k h.1) c
told_leads J limit number user made within at (e ∷ next) (t ∷ ts) (d ∷ ds) (a ∷ ans) rest own c (inr h) =
    leads_placed J limit number at user t ts d ds a ans rest e made within own.0 h.0
    (λ same k. told_leads J limit number user made within (at + 1) next ts ds ans rest own.1 k (subst (λ (n : ℕ). Told J limit user (n + 1) next ts ds ans) same h.1)) c
told_leads J limit number user made within at next [] [] (a ∷ ans) rest own c h = absurd h
told_leads J limit number user made within at next [] (d ∷ ds) ans rest own c h = absurd h
told_leads J limit number user made within at [] (t ∷ ts) [] ans rest own c h = absurd h
told_leads J limit number user made within at (e ∷ next) (t ∷ ts) [] ans rest own c h = absurd h
told_leads J limit number user made within at [] (t ∷ ts) (d ∷ ds) [] rest own c h = absurd h
told_leads J limit number user made within at (e ∷ next) (t ∷ ts) (d ∷ ds) [] rest own c h = absurd h

-- ---- a section, and the script

section_leads : (J : List Entry) (limit at : ℕ) (s : Section) (o : SessionOpening) (days : List ℤ) (answers : List Answer) (rest : List ℕ) → IsMade J → length J ≤ limit
    → IsCount at ((place_of o ++ places answers) ++ rest) (length J) → IsTold J limit at s o days answers → SectionLeads limit (take at J) s o days answers (take (at + length (place_of o ++ places answers)) J)
section_leads J limit at s (opened place number) days answers rest made within c h =
    let first : Entry = entries.Open s.user s.groups in
    let there : slice_get J at ≡ Some first = subst (λ (n : ℕ). slice_get J n ≡ Some first) h.0 h.1 in
    let below : at < length J = slice_get_within J at first there in
    let size : length (take at J) ≡ at = length-take-le at J (omega arith) in
    let next : take (at + 1) J ≡ take at J ++ first ∷ [] = take_next at J first there in
    let end : (at + 1) + length (places answers) ≡ at + length (place_of (opened place number) ++ places answers) = omega arith in
    let told : Told J limit s.user (at + 1) (mine J number) s.texts days answers = subst (λ (n : ℕ). Told J limit s.user (n + 1) (mine J number) s.texts days answers) h.0 h.3 in
    let then = told_leads J limit number s.user made within (at + 1) (mine J number) s.texts days answers rest (of_session number 0 J) c.1 told in
    let room : length (take at J) < limit = omega arith in (
      h.0 ∙ sym size,
      h.2 ∙ ap (λ (n : ℕ). opens (take n J)) h.0,
      room,
      subst (λ (P : List Entry). Leads limit number s.user P s.texts days answers (take (at + length (place_of (opened place number) ++ places answers)) J)) next
          (subst (λ (n : ℕ). Leads limit number s.user (take (at + 1) J) s.texts days answers (take n J)) end then),
    )
section_leads J limit at s full days answers rest made within c h =
    let whole : at + length (places answers ++ rest) ≡ length J = count_end at (places answers ++ rest) (length J) c in
    let parts : length (places answers ++ rest) ≡ length (places answers) + length rest = length-append (places answers) rest in
    let at_limit : at ≡ limit = h.0 in
    let last : length J ≡ limit = h.1 in
    let end : at ≡ at + length (place_of full ++ places answers) = omega arith in
    let size : length (take at J) ≡ at = length-take-le at J (omega arith) in
    (size ∙ at_limit, h.2, h.3, ap (λ (n : ℕ). take n J) end)

script_leads : (J : List Entry) (limit at : ℕ) (ss : List Section) (os : List SectionResult) → IsMade J → length J ≤ limit
    → IsCount at (flat_map places_in os) (length J) → AreTold J limit at ss os → ScriptLeads limit (take at J) ss os J
script_leads J limit at [] [] made within c h = let le : length J ≤ at = omega arith in take_all at J le
script_leads J limit at (s ∷ ss) (o ∷ os) made within c h = (
  take (at + length (places_in o)) J,
  section_leads J limit at s o.opening o.days o.answers (flat_map places_in os) made within c h.0,
  script_leads J limit (at + length (places_in o)) ss os made within (count_rest at (places_in o) (flat_map places_in os) (length J) c) h.1,
)
script_leads J limit at [] (o ∷ os) made within c h = absurd h
script_leads J limit at (s ∷ ss) [] made within c h = absurd h

-- the course of a script that is told of a journal leads from no entries to that journal
pub course : (limit : ℕ) (ss : List Section) (os : List SectionResult) (h : Journaled limit ss os) → ScriptLeads limit [] ss os h.journal
course limit ss os h =
    let all : IsCount 0 (flat_map places_in os) (length h.journal) = subst (λ (ps : List ℕ). IsCount 0 ps (length h.journal)) (sym h.counted) (count_up 0 (length h.journal) (length h.journal) (zero-add (length h.journal))) in
    script_leads h.journal limit 0 ss os h.made h.within all h.told
