-- The course of a run is determined: by the script, the limit, the days, and the lines that show NOMEMORY.
use Rattle.std.proofs.Common.{true, false, ◌≡◌, ◌⊎◌, inl, inr, ℕ, ◌<◌, List, [], ◌∷◌, ◌++◌, length, map, Option, Some, None, refl, sym, ap, subst, ◌∙◌, arith}
use Rattle.std.specs.Prelude.{ℤ, is_some}
use Rattle.lb_stmt.specs.declared.write.Stmt.{Stmt}
use Rattle.lb_tok.specs.Canonical.{canonical}
use Rattle.lb_cat.specs.declared.entry.Entry.{Entry}
use Rattle.lb_cat.specs.declared.entry.Entry.TheVariants as entries
use Rattle.lb_cat.specs.declared.entry.Said.{Said}
use Rattle.lb_cat.specs.declared.refusal.Refusal.TheVariants as refusals
use Rattle.lb_cat.specs.declared.answer.Answer.{Answer}
use Rattle.lb_cat.specs.declared.answer.Mark.{Mark}
use Rattle.lb_cat.specs.declared.reply.Reply.{Reply}
use Rattle.lb_cat.specs.declared.reply.Reply.TheVariants as replies
use Rattle.lb_model.specs.Step.{State}
use Rattle.lb_model.specs.Journal.{opened_by, said_by}
use Rattle.lb_model.specs.Replay.{Replay, Replies}
use Rattle.lb_model.specs.NotYet.{IsBuilt}
use Rattle.lb_model.specs.Told.{mark_of, IsUnplaced}
use Rattle.lb_model.specs.Sections.{Section, SessionOpening, opened, full, SectionResult, IsShut, AreShut, Journaled, out}
use Rattle.lb_laws.specs.Outside.{shortage_at, shortage, SameOutside}
use Rattle.lb_laws.proofs.Reading.{ReaderLaws, one_syntax, not_readable, not_built}
use Rattle.lb_laws.proofs.One.{replay_one, replies_one}
use Rattle.lb_laws.proofs.Course.{AddsNone, AddsEntry, Leads, SectionLeads, ScriptLeads, course}

-- ---- equal parts make equal wholes

answer_is : (a b : Answer) → a.place ≡ b.place → a.mark ≡ b.mark → a.reply ≡ b.reply → a ≡ b
answer_is a b place mark reply =
    ap (λ (x : Option ℕ). record { place = x; mark = a.mark; reply = a.reply }) place
    ∙ ap (λ (x : Mark). record { place = b.place; mark = x; reply = a.reply }) mark
    ∙ ap (λ (x : Reply). record { place = b.place; mark = b.mark; reply = x }) reply

said_is : (d e : Said) → d.session ≡ e.session → d.number ≡ e.number → d.user ≡ e.user → d.groups ≡ e.groups → d.day ≡ e.day → d.text ≡ e.text → d ≡ e
said_is d e session number user groups day text =
    ap (λ (x : ℕ). record { session = x; number = d.number; user = d.user; groups = d.groups; day = d.day; text = d.text }) session
    ∙ ap (λ (x : ℕ). record { session = e.session; number = x; user = d.user; groups = d.groups; day = d.day; text = d.text }) number
    ∙ ap (λ (x : List ℕ). record { session = e.session; number = e.number; user = x; groups = d.groups; day = d.day; text = d.text }) user
    ∙ ap (λ (x : List (List ℕ)). record { session = e.session; number = e.number; user = e.user; groups = x; day = d.day; text = d.text }) groups
    ∙ ap (λ (x : ℤ). record { session = e.session; number = e.number; user = e.user; groups = e.groups; day = x; text = d.text }) day
    ∙ ap (λ (x : List ℕ). record { session = e.session; number = e.number; user = e.user; groups = e.groups; day = e.day; text = x }) text

result_is : (o p : SectionResult) → o.opening ≡ p.opening → o.days ≡ p.days → o.answers ≡ p.answers → o ≡ p
result_is o p opening days answers =
    ap (λ (x : SessionOpening). record { opening = x; days = o.days; answers = o.answers }) opening
    ∙ ap (λ (x : List ℤ). record { opening = p.opening; days = x; answers = o.answers }) days
    ∙ ap (λ (x : List Answer). record { opening = p.opening; days = p.days; answers = x }) answers

joined : {A : Type 0} {a b : A} {xs ys : List A} → a ≡ b → xs ≡ ys → a ∷ xs ≡ b ∷ ys
joined first rest = cc

-- ---- out of memory

both_or_none : (p q : Option ℕ) (r s : Reply) → shortage_at p r ≡ shortage_at q s
    → ((r ≡ replies.NoMemory) × (s ≡ replies.NoMemory) × (is_some p ≡ is_some q)) ⊎ ((r ≡ replies.NoMemory → ⊥) × (s ≡ replies.NoMemory → ⊥))
both_or_none p q replies.NoMemory replies.NoMemory h = (let e : is_some p ≡ is_some q = cc in inl (refl, refl, e))
both_or_none p q replies.NoMemory s h = absurd cc
both_or_none p q r replies.NoMemory h = absurd cc
both_or_none p q r s h = inr (λ e. cc, λ e. cc)

-- ---- one statement

cause_one : (W : ReaderLaws) (P : List Entry) (limit at : ℕ) (S : State) (user text : List ℕ) (r q : Reply)
    → (r ≡ replies.NoMemory → ⊥) → (q ≡ replies.NoMemory → ⊥) → IsUnplaced P limit at S user text r → IsUnplaced P limit at S user text q → r ≡ q
cause_one W P limit at S user text r q m n (inl h) i = absurd (m h)
cause_one W P limit at S user text r q m n (inr h) (inl i) = absurd (n i)
cause_one W P limit at S user text r q m n (inr (inl h)) (inr (inl i)) = h.1 ∙ ap (λ (b : ℕ). replies.Refused (refusals.Syntax b)) (one_syntax W text h.0 i.0 h.2 i.2) ∙ sym i.1
cause_one W P limit at S user text r q m n (inr (inl h)) (inr (inr (inl i))) = absurd (not_readable W text h.0 i.1.0 h.2 i.1.1.reads)
cause_one W P limit at S user text r q m n (inr (inl h)) (inr (inr (inr i))) = absurd (not_readable W text h.0 i.1.0 h.2 i.1.1.reads)
cause_one W P limit at S user text r q m n (inr (inr (inl h))) (inr (inl i)) = absurd (not_readable W text i.0 h.1.0 i.2 h.1.1.reads)
cause_one W P limit at S user text r q m n (inr (inr (inr h))) (inr (inl i)) = absurd (not_readable W text i.0 h.1.0 i.2 h.1.1.reads)
cause_one W P limit at S user text r q m n (inr (inr (inl h))) (inr (inr (inl i))) = h.0 ∙ sym i.0
cause_one W P limit at S user text r q m n (inr (inr (inl h))) (inr (inr (inr i))) = absurd (not_built W S.cat S.tables user text h.1.0 i.1.0 h.1.1 i.1.1)
cause_one W P limit at S user text r q m n (inr (inr (inr h))) (inr (inr (inl i))) = absurd (not_built W S.cat S.tables user text i.1.0 h.1.0 i.1.1 h.1.1)
cause_one W P limit at S user text r q m n (inr (inr (inr h))) (inr (inr (inr i))) = h.0 ∙ sym i.0

-- two answers without a place are one
unplaced_one : (W : ReaderLaws) (P : List Entry) (limit : ℕ) (user text : List ℕ) (a b : Answer) → shortage a ≡ shortage b → AddsNone P limit user text a → AddsNone P limit user text b → a ≡ b
unplaced_one W P limit user text a b same h i =
    let state : h.state ≡ i.state = replay_one W P h.state i.state h.before i.before in
    let cause = subst (λ (S : State). IsUnplaced P limit (length P) S user text a.reply) state h.cause in
    let reply : a.reply ≡ b.reply = elim (both_or_none a.place b.place a.reply b.reply same) [
      | inl m ↦ m.0 ∙ sym m.1
      | inr m ↦ cause_one W P limit (length P) i.state user text a.reply b.reply m.0 m.1 cause i.cause
    ] in
    answer_is a b (h.place ∙ sym i.place) (h.mark ∙ sym i.mark) reply

-- a statement that gets no entry for another cause than NOMEMORY can't get one
no_room : (W : ReaderLaws) (P : List Entry) (limit : ℕ) (S : State) (user text : List ℕ) (r : Reply) (s : Stmt)
    → length P < limit → (r ≡ replies.NoMemory → ⊥) → IsBuilt S.cat S.tables user text s → IsUnplaced P limit (length P) S user text r → ⊥
no_room W P limit S user text r s lt m built (inl h) = m h
no_room W P limit S user text r s lt m built (inr (inl h)) = not_readable W text h.0 s h.2 built.reads
no_room W P limit S user text r s lt m built (inr (inr (inl h))) = not_built W S.cat S.tables user text h.1.0 s h.1.1 built
no_room W P limit S user text r s lt m built (inr (inr (inr h))) = let last : length P ≡ limit = h.3 in absurd (omega arith)

some_or_none : (p q : Option ℕ) (n : ℕ) → p ≡ None → q ≡ Some n → is_some p ≡ is_some q → ⊥
some_or_none p q n none some h =
    let first : is_some p ≡ false = ap (λ (x : Option ℕ). is_some x) none in
    let second : is_some q ≡ true = ap (λ (x : Option ℕ). is_some x) some in
    absurd cc

-- one statement does not both get an entry and get none
not_both : (W : ReaderLaws) (P : List Entry) (limit number : ℕ) (user text : List ℕ) (day : ℤ) (a b : Answer) (d : Said) → shortage a ≡ shortage b → AddsNone P limit user text a → AddsEntry P limit number user text day b d → ⊥
not_both W P limit number user text day a b d same h i = elim (both_or_none a.place b.place a.reply b.reply same) [
  | inl m ↦ some_or_none a.place b.place (length P) h.place i.place m.2
  | inr m ↦
      let state : h.state ≡ i.state = replay_one W P h.state i.state h.before i.before in
      let cause = subst (λ (S : State). IsUnplaced P limit (length P) S user text a.reply) state h.cause in
      no_room W P limit i.state user text a.reply i.stmt i.room m.0 i.built cause
]

-- the session's next entry with the statement and the day
same_said : (P : List Entry) (limit number : ℕ) (user text : List ℕ) (day : ℤ) (a b : Answer) (d e : Said)
    → (h : AddsEntry P limit number user text day a d) (i : AddsEntry P limit number user text day b e) → h.stmt ≡ i.stmt → d ≡ e
same_said P limit number user text day a b d e h i stmt =
    let session : d.session ≡ e.session = h.own ∙ sym i.own in
    let who : ◌≡◌ {A = Option (List ℕ × List (List ℕ))} (Some (d.user, d.groups)) (Some (e.user, e.groups)) = sym h.follows.opened ∙ ap (λ (s : ℕ). opened_by P s) session ∙ i.follows.opened in
    let number : d.number ≡ e.number = h.follows.counted ∙ ap (λ (s : ℕ). said_by P s) session ∙ sym i.follows.counted in
    let opened : ◌≡◌ {A = List ℕ × List (List ℕ)} (d.user, d.groups) (e.user, e.groups) = cc in
    said_is d e session number (ap (λ (p : List ℕ × List (List ℕ)). p.0) opened) (ap (λ (p : List ℕ × List (List ℕ)). p.1) opened) (h.today ∙ sym i.today) (h.said ∙ ap canonical stmt ∙ sym i.said)

-- two answers with a place are one, and so are their entries
placed_one : (W : ReaderLaws) (P : List Entry) (limit number : ℕ) (user text : List ℕ) (day : ℤ) (a b : Answer) (d e : Said)
    → shortage a ≡ shortage b → AddsEntry P limit number user text day a d → AddsEntry P limit number user text day b e → (a ≡ b) × (d ≡ e)
placed_one W P limit number user text day a b d e same h i =
    let stmt : h.stmt ≡ i.stmt = W.one_statement text h.stmt i.stmt h.built.reads.reads i.built.reads.reads in
    let said : d ≡ e = same_said P limit number user text day a b d e h i stmt in
    let replied : (a.reply ≡ replies.NoMemory → ⊥) → (b.reply ≡ replies.NoMemory → ⊥) → a.reply ≡ b.reply = λ m n. both m n h.reply i.reply said in
    let reply : a.reply ≡ b.reply = elim (both_or_none a.place b.place a.reply b.reply same) [ inl m ↦ m.0 ∙ sym m.1 | inr m ↦ replied m.0 m.1 ] in
    (answer_is a b (h.place ∙ sym i.place) (h.mark ∙ ap mark_of stmt ∙ sym i.mark) reply, said)
  where
    both : (a.reply ≡ replies.NoMemory → ⊥) → (b.reply ≡ replies.NoMemory → ⊥)
        → ((S : State) × Replay P S × Replies S (entries.Said d) a.reply) ⊎ (a.reply ≡ replies.NoMemory)
        → ((S : State) × Replay P S × Replies S (entries.Said e) b.reply) ⊎ (b.reply ≡ replies.NoMemory) → d ≡ e → a.reply ≡ b.reply
    both m n (inr r) q f = absurd (m r)
    both m n (inl r) (inr q) f = absurd (n q)
    both m n (inl r) (inl q) f =
        let state : r.0 ≡ q.0 = replay_one W P r.0 q.0 r.1 q.1 in
        replies_one W q.0 (entries.Said e) a.reply b.reply
        (subst (λ (x : Said). Replies q.0 (entries.Said x) a.reply) f (subst (λ (S : State). Replies S (entries.Said d) a.reply) state r.2)) q.2

-- ---- the statements of a session

leads_one : (W : ReaderLaws) (limit number : ℕ) (user : List ℕ) (P : List Entry) (texts : List (List ℕ)) (days : List ℤ) (xs ys : List Answer) (Q R : List Entry)
    → map shortage xs ≡ map shortage ys → Leads limit number user P texts days xs Q → Leads limit number user P texts days ys R → (xs ≡ ys) × (Q ≡ R)
leads_one W limit number user P [] [] [] [] Q R same h i = (refl, sym h ∙ i)
leads_one W limit number user P (t ∷ ts) (d ∷ ds) (a ∷ xs) (b ∷ ys) Q R same h i =
    let here : shortage a ≡ shortage b = cc in
    let later : map shortage xs ≡ map shortage ys = cc in
    elim h [
      | inl m ↦ elim i [
        | inl n ↦
            let rest = leads_one W limit number user P ts ds xs ys Q R later m.1 n.1 in
            let answer : a ≡ b = unplaced_one W P limit user t a b here m.0 n.0 in
            (joined answer rest.0, rest.1)
        | inr n ↦ absurd (not_both W P limit number user t d a b n.0 here m.0 n.1)
      ]
      | inr m ↦ elim i [
        | inl n ↦ absurd (not_both W P limit number user t d b a m.0 (sym here) n.0 m.1)
        | inr n ↦
            let both = placed_one W P limit number user t d a b m.0 n.0 here m.1 n.1 in
            let next = subst (λ (x : Said). Leads limit number user (P ++ entries.Said x ∷ []) ts ds xs Q) both.1 m.2 in
            let rest = leads_one W limit number user (P ++ entries.Said n.0 ∷ []) ts ds xs ys Q R later next n.2 in
            (joined both.0 rest.0, rest.1)
      ]
    ]
leads_one W limit number user P [] [] [] (b ∷ ys) Q R same h i = absurd i
leads_one W limit number user P [] [] (a ∷ xs) ys Q R same h i = absurd h
leads_one W limit number user P [] (d ∷ ds) xs ys Q R same h i = absurd h
leads_one W limit number user P (t ∷ ts) [] xs ys Q R same h i = absurd h
leads_one W limit number user P (t ∷ ts) (d ∷ ds) [] ys Q R same h i = absurd h
leads_one W limit number user P (t ∷ ts) (d ∷ ds) (a ∷ xs) [] Q R same h i = absurd i

-- ---- a section

shut_reply : (W : ReaderLaws) (limit : ℕ) (text : List ℕ) (r q : Reply) → (r ≡ replies.NoMemory → ⊥) → (q ≡ replies.NoMemory → ⊥) → IsShut limit text r → IsShut limit text q → r ≡ q
shut_reply W limit text r q m n (inl h) i = absurd (m h)
shut_reply W limit text r q m n (inr h) (inl i) = absurd (n i)
shut_reply W limit text r q m n (inr (inl h)) (inr (inl i)) = h.1 ∙ ap (λ (b : ℕ). replies.Refused (refusals.Syntax b)) (one_syntax W text h.0 i.0 h.2 i.2) ∙ sym i.1
shut_reply W limit text r q m n (inr (inl h)) (inr (inr i)) = absurd (not_readable W text h.0 i.1.0 h.2 i.1.1)
shut_reply W limit text r q m n (inr (inr h)) (inr (inl i)) = absurd (not_readable W text i.0 h.1.0 i.2 h.1.1)
shut_reply W limit text r q m n (inr (inr h)) (inr (inr i)) = h.0 ∙ sym i.0

shut_one : (W : ReaderLaws) (limit : ℕ) (texts : List (List ℕ)) (xs ys : List Answer) → map shortage xs ≡ map shortage ys → AreShut limit texts xs → AreShut limit texts ys → xs ≡ ys
shut_one W limit [] [] [] same h i = refl
shut_one W limit (t ∷ ts) (a ∷ xs) (b ∷ ys) same h i =
    let here : shortage a ≡ shortage b = cc in
    let later : map shortage xs ≡ map shortage ys = cc in
    let reply : a.reply ≡ b.reply = elim (both_or_none a.place b.place a.reply b.reply here) [
      | inl m ↦ m.0 ∙ sym m.1
      | inr m ↦ shut_reply W limit t a.reply b.reply m.0 m.1 h.2 i.2
    ] in
    joined (answer_is a b (h.0 ∙ sym i.0) (h.1 ∙ sym i.1) reply) (shut_one W limit ts xs ys later h.3 i.3)
shut_one W limit [] [] (b ∷ ys) same h i = absurd i
shut_one W limit [] (a ∷ xs) ys same h i = absurd h
shut_one W limit (t ∷ ts) [] ys same h i = absurd h
shut_one W limit (t ∷ ts) (a ∷ xs) [] same h i = absurd i

section_one : (W : ReaderLaws) (limit : ℕ) (P : List Entry) (s : Section) (o p : SessionOpening) (ds es : List ℤ) (xs ys : List Answer) (Q R : List Entry)
    → ds ≡ es → map shortage xs ≡ map shortage ys → SectionLeads limit P s o ds xs Q → SectionLeads limit P s p es ys R → (o ≡ p) × (xs ≡ ys) × (Q ≡ R)
section_one W limit P s (opened place number) (opened there other) ds es xs ys Q R days same h i =
    let numbers : other ≡ number = i.1 ∙ sym h.1 in
    let J : List Entry = P ++ entries.Open s.user s.groups ∷ [] in
    let next = subst (λ (n : ℕ). Leads limit n s.user J s.texts ds ys R) numbers (subst (λ (x : List ℤ). Leads limit other s.user J s.texts x ys R) (sym days) i.3) in
    let rest = leads_one W limit number s.user J s.texts ds xs ys Q R same h.3 next in
    let opening : opened place number ≡ opened there other = ap (λ (x : ℕ). opened x number) (h.0 ∙ sym i.0) ∙ ap (λ (x : ℕ). opened there x) (sym numbers) in
    (opening, rest.0, rest.1)
section_one W limit P s (opened place number) full ds es xs ys Q R days same h i = let room : length P < limit = h.2 in let none : length P ≡ limit = i.0 in absurd (omega arith)
section_one W limit P s full (opened there other) ds es xs ys Q R days same h i = let room : length P < limit = i.2 in let none : length P ≡ limit = h.0 in absurd (omega arith)
section_one W limit P s full full ds es xs ys Q R days same h i = (refl, shut_one W limit s.texts xs ys same h.2 i.2, sym h.3 ∙ i.3)

-- ---- the script

script_one : (W : ReaderLaws) (limit : ℕ) (P : List Entry) (ss : List Section) (os ps : List SectionResult) (Q R : List Entry)
    → SameOutside os ps → ScriptLeads limit P ss os Q → ScriptLeads limit P ss ps R → (Q ≡ R) × (os ≡ ps)
script_one W limit P [] [] [] Q R same h i = (sym h ∙ i, refl)
script_one W limit P (s ∷ ss) (o ∷ os) (p ∷ ps) Q R same h i =
    let days : o.days ≡ p.days = cc in
    let memory : map shortage o.answers ≡ map shortage p.answers = cc in
    let later : SameOutside os ps = record { days = cc; memory = cc } in
    let first = section_one W limit P s o.opening p.opening o.days p.days o.answers p.answers h.0 i.0 days memory h.1 i.1 in
    let next = subst (λ (M : List Entry). ScriptLeads limit M ss os Q) first.2 h.2 in
    let rest = script_one W limit i.0 ss os ps Q R later next i.2 in
    (rest.0, joined (result_is o p first.0 days first.1) rest.1)
script_one W limit P [] [] (p ∷ ps) Q R same h i = absurd i
script_one W limit P [] (o ∷ os) ps Q R same h i = absurd h
script_one W limit P (s ∷ ss) [] ps Q R same h i = absurd h
script_one W limit P (s ∷ ss) (o ∷ os) [] Q R same h i = absurd i

-- a script has one journal and one list of results
pub determined : (W : ReaderLaws) (limit : ℕ) (ss : List Section) (os ps : List SectionResult) (h : Journaled limit ss os) (i : Journaled limit ss ps) → SameOutside os ps → (h.journal ≡ i.journal) × (os ≡ ps)
determined W limit ss os ps h i same = script_one W limit [] ss os ps h.journal i.journal same (course limit ss os h) (course limit ss ps i)

pub one_journal : (W : ReaderLaws) (limit : ℕ) (ss : List Section) (os ps : List SectionResult) (h : Journaled limit ss os) (i : Journaled limit ss ps) → SameOutside os ps → h.journal ≡ i.journal
one_journal W limit ss os ps h i same = (determined W limit ss os ps h i same).0

pub one_result_list : (W : ReaderLaws) (limit : ℕ) (ss : List Section) (os ps : List SectionResult) → Journaled limit ss os → Journaled limit ss ps → SameOutside os ps → os ≡ ps
one_result_list W limit ss os ps h i same = (determined W limit ss os ps h i same).1

-- and one text
pub one_output : (W : ReaderLaws) (limit : ℕ) (ss : List Section) (os ps : List SectionResult) → Journaled limit ss os → Journaled limit ss ps → SameOutside os ps → out limit ss os ≡ out limit ss ps
one_output W limit ss os ps h i same = ap (λ (x : List SectionResult). out limit ss x) (one_result_list W limit ss os ps h i same)
