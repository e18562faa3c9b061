-- A session, one statement after the other.
use Rattle.std.proofs.Common.{◌≡◌, ℕ, ◌+◌, ◌≤◌, List, [], ◌∷◌, ◌++◌, length, take, flat_map, Option, Some, None, refl, sym, ap, subst, ◌∙◌, append_assoc, arith}
use Rattle.std.specs.Prelude.{ℤ}
use Rattle.std.specs.Io.KnownBytes.{Appends}
use Rattle.std.proofs.lemmas.List.{append-nil, take_all}
use Rattle.std.proofs.lemmas.List.Concat.{flat_map-append}
use Rattle.lb_wire.specs.Told.{GrewBy, AppendsPart}
use Rattle.lb_wire.proofs.Told.{GrewBy-nil, GrewBy-then, Appends-then, AppendsPart-then}
use Rattle.lb_cat.specs.declared.entry.Entry.{Entry}
use Rattle.lb_cat.specs.declared.entry.Entry.TheVariants as entries
use Rattle.lb_cat.specs.declared.entry.Said.{Said}
use Rattle.lb_cat.specs.declared.answer.Answer.{Answer}
use Rattle.lb_model.specs.Journal.{IsMade, opens}
use Rattle.lb_model.specs.Out.{header_text, block_text}
use Rattle.lb_model.specs.Told.{Placed, Unplaced}
use Rattle.lb_model.specs.Sections.{opened, section_text}
use Rattle.lb_model.specs.Telling.{Telling}
use Rattle.lb_model.proofs.Telling.{telling_first, telling_unplaced, telling_placed, ran_session}
use Rattle.lb_model.proofs.Sessions.{opens_with_said}
use Rattle.lb_front.specs.declared.book.Book.{Book}
use Rattle.lb_front.specs.declared.book.Session.{Session}
use Rattle.lb_front.specs.Booked.{Stands, IsSessionOf, IsOpened}
use Rattle.lb_front.specs.Executed.{Executed, ExecutedAt}
use Rattle.lb_front.specs.Headline.{Outside, outside_of}
use Rattle.lb_front.specs.Running.{SectionWritten, SectionPartWritten, session_section, SessionProgress, IsSame, SessionLoops}

-- ---- what a statement adds

same_at : (p : Option ℕ) (s now after : Session) (J K : List Entry) (limit : ℕ) (text : List ℕ) (day : ℤ) (a : Answer) → IsSame s now → ExecutedAt p J K limit now after text day a → IsSame s after
same_at None s now after J K limit text day a h x = subst (λ (n : Session). IsSame s n) (sym x.uncounted) h
same_at (Some p) s now after J K limit text day a h x = subst (λ (n : Session). IsSame s n) (sym x.counted) (record { place = h.place; number = h.number; user = h.user; groups = h.groups })

pub opens_at : (p : Option ℕ) (now after : Session) (J K : List Entry) (limit : ℕ) (text : List ℕ) (day : ℤ) (a : Answer) → ExecutedAt p J K limit now after text day a → opens K ≡ opens J
opens_at None now after J K limit text day a x = ap (λ (L : List Entry). opens L) x.same
opens_at (Some p) now after J K limit text day a x = ap (λ (L : List Entry). opens L) x.grown ∙ opens_with_said J x.said

telling_at : (p : Option ℕ) (I J K : List Entry) (limit : ℕ) (s now after : Session) (texts : List (List ℕ)) (days : List ℤ) (ans : List Answer) (text : List ℕ) (day : ℤ) (a : Answer)
    → Telling I J limit s.number s.user s.groups texts days ans → IsSame s now → ExecutedAt p J K limit now after text day a → length K ≤ limit
    → Telling I K limit s.number s.user s.groups (texts ++ text ∷ []) (days ++ day ∷ []) (ans ++ a ∷ [])
telling_at None I J K limit s now after texts days ans text day a h same x le =
    subst (λ (L : List Entry). Telling I L limit s.number s.user s.groups (texts ++ text ∷ []) (days ++ day ∷ []) (ans ++ a ∷ [])) (sym x.same)
    (telling_unplaced I J limit s.number s.user s.groups texts days ans text day a h (subst (λ (u : List ℕ). Unplaced J limit (length J) u text a) same.user x.unplaced))
telling_at (Some p) I J K limit s now after texts days ans text day a h same x le =
    let placed : Placed (J ++ entries.Said x.said ∷ []) s.user text day (length J, x.said) a =
    subst (λ (u : List ℕ). Placed (J ++ entries.Said x.said ∷ []) u text day (length J, x.said) a) same.user (subst (λ (L : List Entry). Placed L now.user text day (length J, x.said) a) x.grown x.placed) in
    subst (λ (L : List Entry). Telling I L limit s.number s.user s.groups (texts ++ text ∷ []) (days ++ day ∷ []) (ans ++ a ∷ [])) (sym x.grown)
    (telling_placed I J limit s.number s.user s.groups texts days ans text day a x.said h (x.own ∙ same.number) placed (subst (λ (L : List Entry). length L ≤ limit) x.grown le))

-- ---- texts

-- the text of the session with one block more
text_more : (limit : ℕ) (s : Session) (texts more : List (List ℕ)) (days later : List ℤ) (ans : List Answer) (a : Answer)
    → section_text limit (session_section s texts) (record { opening = opened s.place s.number; days = days; answers = ans }) ++ block_text a ≡ section_text limit (session_section s more) (record { opening = opened s.place s.number; days = later; answers = ans ++ a ∷ [] })
text_more limit s texts more days later ans a =
    let head : List ℕ = header_text s.place s.number s.user in
    let blocks : flat_map block_text (ans ++ a ∷ []) ≡ flat_map block_text ans ++ block_text a = flat_map-append block_text ans (a ∷ []) ∙ ap (λ (t : List ℕ). flat_map block_text ans ++ t) (append-nil (block_text a)) in
    append_assoc head (flat_map block_text ans) (block_text a) ∙ ap (λ (t : List ℕ). head ++ t) (sym blocks)

-- ---- a statement more

progress_more : (p : Option ℕ) (I J K : List Entry) (limit : ℕ) (s now after : Session) (texts : List (List ℕ)) (text : List ℕ) (day : ℤ) (a : Answer) (g0 g1 g2 : Option (List ℤ)) (w0 w1 w2 : Option (List ℕ))
    → SessionProgress I J limit s texts (outside_of g0 g1 w0 w1) → IsSame s now → ExecutedAt p J K limit now after text day a → length K ≤ limit
    → GrewBy g1 g2 (day ∷ []) → Appends w1 w2 (block_text a) → SessionProgress I K limit s (texts ++ text ∷ []) (outside_of g0 g2 w0 w2)
progress_more p I J K limit s now after texts text day a g0 g1 g2 w0 w1 w2 h same x le g w =
    let whole = section_text limit (session_section s texts) (record { opening = opened s.place s.number; days = h.days; answers = h.answers }) in
    record {
      days = h.days ++ day ∷ [];
      answers = h.answers ++ a ∷ [];
      telling = telling_at p I J K limit s now after texts h.days h.answers text day a h.telling same x le;
      clock = GrewBy-then g0 g1 g2 h.days (day ∷ []) h.clock g;
      bytes = subst (λ (t : List ℕ). Appends w0 w2 t) (text_more limit s texts (texts ++ text ∷ []) h.days (h.days ++ day ∷ []) h.answers a) (Appends-then w0 w1 w2 whole (block_text a) h.bytes w);
    }

-- the block of the last answer was not written whole
part_more : (p : Option ℕ) (I J K : List Entry) (limit : ℕ) (s now after : Session) (all : List (List ℕ)) (i : ℕ) (text : List ℕ) (day : ℤ) (a : Answer) (g0 g1 g2 : Option (List ℤ)) (w0 w1 w2 : Option (List ℕ)) → s.place ≡ length I
    → SessionProgress I J limit s (take i all) (outside_of g0 g1 w0 w1) → IsSame s now → ExecutedAt p J K limit now after text day a → length K ≤ limit → take (i + 1) all ≡ take i all ++ text ∷ []
    → GrewBy g1 g2 (day ∷ []) → AppendsPart w1 w2 (block_text a) → SectionPartWritten I K limit (session_section s all) (outside_of g0 g2 w0 w2)
part_more p I J K limit s now after all i text day a g0 g1 g2 w0 w1 w2 at h same x le more g w =
    let texts : List (List ℕ) = take i all in
    let days : List ℤ = h.days ++ day ∷ [] in
    let ans : List Answer = h.answers ++ a ∷ [] in
    let whole = section_text limit (session_section s texts) (record { opening = opened s.place s.number; days = h.days; answers = h.answers }) in
    let t : Telling I K limit s.number s.user s.groups (take (i + 1) all) days ans = rw more (telling_at p I J K limit s now after texts h.days h.answers text day a h.telling same x le) in
    record {
      count = i + 1;
      result = record { opening = opened s.place s.number; days = days; answers = ans };
      ran = rw at (ran_session I K limit s.number s.user s.groups (take (i + 1) all) days ans t);
      clock = GrewBy-then g0 g1 g2 h.days (day ∷ []) h.clock g;
      bytes = subst (λ (t : List ℕ). AppendsPart w0 w2 t) (text_more limit s texts (take (i + 1) all) h.days days h.answers a) (AppendsPart-then w0 w1 w2 whole (block_text a) h.bytes w);
    }

-- ---- the ends of a session's statements

-- the session was opened
told_first : (I J : List Entry) (limit : ℕ) (s : Session) → IsOpened I J s.user s.groups s → IsMade I → Telling I J limit s.number s.user s.groups [] [] []
told_first I J limit s o made =
    subst (λ (n : ℕ). Telling I J limit n s.user s.groups [] [] []) (sym o.number) (subst (λ (L : List Entry). Telling I L limit (opens I) s.user s.groups [] [] []) (sym o.grown) (telling_first I limit s.user s.groups made))

header_alone : (limit : ℕ) (s : Session) (texts : List (List ℕ)) → header_text s.place s.number s.user ≡ section_text limit (session_section s texts) (record { opening = opened s.place s.number; days = []; answers = [] })
header_alone limit s texts = sym (append-nil (header_text s.place s.number s.user))

pub looping_first : (b : Book) (s : Session) (all : List (List ℕ)) (g : Option (List ℤ)) (w0 w1 : Option (List ℕ)) (f0 f1 : ℕ) → Stands b.journal.items b.limit b.store → IsSessionOf b.journal.items s
    → Appends w0 w1 (header_text s.place s.number s.user) → f0 ≤ f1 → SessionLoops b b s s (take 0 all) (outside_of g g w0 w1) f0 f1
looping_first b s all g w0 w1 f0 f1 stands session_of w le = record {
  progress = λ I o made. record {
    days = [];
    answers = [];
    telling = told_first I b.journal.items b.limit s o made;
    clock = GrewBy-nil g;
    bytes = subst (λ (t : List ℕ). Appends w0 w1 t) (header_alone b.limit s []) w;
  };
  stands = stands;
  session_of = session_of;
  same = record { place = refl; number = refl; user = refl; groups = refl };
  same_opens = refl;
  same_limit = refl;
  same_sessions = refl;
  later = le;
}

pub looping_on : (first b book : Book) (s now after : Session) (all : List (List ℕ)) (i : ℕ) (text : List ℕ) (day : ℤ) (a : Answer) (g0 g1 g2 : Option (List ℤ)) (w0 w1 w2 : Option (List ℕ)) (f0 f1 f2 : ℕ)
    → SessionLoops first b s now (take i all) (outside_of g0 g1 w0 w1) f0 f1 → take (i + 1) all ≡ take i all ++ text ∷ []
    → Executed b.journal.items book.journal.items b.limit now after text day a → Stands book.journal.items book.limit book.store → IsSessionOf book.journal.items after → book.limit ≡ b.limit → book.sessions ≡ b.sessions
    → GrewBy g1 g2 (day ∷ []) → Appends w1 w2 (block_text a) → f1 ≤ f2
    → SessionLoops first book s after (take (i + 1) all) (outside_of g0 g2 w0 w2) f0 f2
looping_on first b book s now after all i text day a g0 g1 g2 w0 w1 w2 f0 f1 f2 h more x stands session_of same n g w le =
    let J : List Entry = b.journal.items in
    let K : List Entry = book.journal.items in
    let limit : ℕ = b.limit in
    let within : length K ≤ limit = subst (λ (m : ℕ). length K ≤ m) same stands.within in
    record {
      progress = λ I o made. rw (more, same) (progress_more a.place I J K limit s now after (take i all) text day a g0 g1 g2 w0 w1 w2 (h.progress I o made) h.same x within g w);
      stands = stands;
      session_of = session_of;
      same = same_at a.place s now after J K limit text day a h.same x;
      same_opens = opens_at a.place now after J K limit text day a x ∙ h.same_opens;
      same_limit = same ∙ h.same_limit;
      same_sessions = n ∙ h.same_sessions;
      later = omega (arith, h.later, le);
    }

pub looping_cut : (first b book : Book) (s now after : Session) (all : List (List ℕ)) (i : ℕ) (text : List ℕ) (day : ℤ) (a : Answer) (g0 g1 g2 : Option (List ℤ)) (w0 w1 w2 : Option (List ℕ)) (f0 f1 : ℕ)
    → SessionLoops first b s now (take i all) (outside_of g0 g1 w0 w1) f0 f1 → take (i + 1) all ≡ take i all ++ text ∷ []
    → Executed b.journal.items book.journal.items b.limit now after text day a → Stands book.journal.items book.limit book.store → book.limit ≡ b.limit → GrewBy g1 g2 (day ∷ []) → AppendsPart w1 w2 (block_text a)
    → (I : List Entry) → IsOpened I first.journal.items s.user s.groups s → IsMade I → SectionPartWritten I book.journal.items first.limit (session_section s all) (outside_of g0 g2 w0 w2)
looping_cut first b book s now after all i text day a g0 g1 g2 w0 w1 w2 f0 f1 h more x stands same g w I o made =
    let J : List Entry = b.journal.items in
    let K : List Entry = book.journal.items in
    let limit : ℕ = b.limit in
    let within : length K ≤ limit = subst (λ (m : ℕ). length K ≤ m) same stands.within in
    rw (← h.same_limit) (part_more a.place I J K limit s now after all i text day a g0 g1 g2 w0 w1 w2 o.place (h.progress I o made) h.same x within more g w)

-- the line of the section was not written whole
pub not_begun : (J : List Entry) (limit : ℕ) (s : Session) (all : List (List ℕ)) (g : Option (List ℤ)) (w0 w1 : Option (List ℕ)) → AppendsPart w0 w1 (header_text s.place s.number s.user)
    → (I : List Entry) → IsOpened I J s.user s.groups s → IsMade I → SectionPartWritten I J limit (session_section s all) (outside_of g g w0 w1)
not_begun J limit s all g w0 w1 w I o made = record {
  count = 0;
  result = record { opening = opened s.place s.number; days = []; answers = [] };
  ran = rw o.place (ran_session I J limit s.number s.user s.groups [] [] [] (told_first I J limit s o made));
  clock = GrewBy-nil g;
  bytes = subst (λ (t : List ℕ). AppendsPart w0 w1 t) (header_alone limit s []) w;
}

-- no statement is left
pub ended : (first b : Book) (s now : Session) (all : List (List ℕ)) (i : ℕ) (o : Outside) (f0 f1 : ℕ) → SessionLoops first b s now (take i all) o f0 f1 → length all ≤ i
    → (I : List Entry) → IsOpened I first.journal.items s.user s.groups s → IsMade I → SectionWritten I b.journal.items first.limit (session_section s all) o
ended first b s now all i o f0 f1 h le I p made =
    let whole : take i all ≡ all = take_all i all le in
    let q : SessionProgress I b.journal.items first.limit s all o = rw (← h.same_limit, ← whole) (h.progress I p made) in
    record {
      result = record { opening = opened s.place s.number; days = q.days; answers = q.answers };
      ran = rw p.place (ran_session I b.journal.items first.limit s.number s.user s.groups all q.days q.answers q.telling);
      clock = q.clock;
      bytes = q.bytes;
    }
