-- A section: its session was opened now, or it has none.
use Rattle.std.proofs.Common.{◌≡◌, inl, inr, ℕ, List, [], ◌∷◌, length, Option, Result, Ok, Err, refl, sym, ap, subst, ◌∙◌}
use Rattle.std.specs.Prelude.{ℤ, OnOk, OnErr}
use Rattle.lb_front.specs.declared.output.Cut.{Cut}
use Rattle.std.proofs.lemmas.List.{append-nil}
use Rattle.lb_wire.specs.Told.{GrewBy}
use Rattle.lb_wire.proofs.Told.{GrewBy-nil, Appends-nil}
use Rattle.lb_cat.specs.declared.entry.Entry.{Entry}
use Rattle.lb_cat.specs.declared.answer.Answer.{Answer}
use Rattle.lb_model.specs.Journal.{IsMade}
use Rattle.lb_model.specs.Told.{places, places_and}
use Rattle.lb_model.specs.Sections.{Section, full, AreShut}
use Rattle.lb_model.specs.Telling.{SectionJournaled, first_of}
use Rattle.lb_front.specs.declared.book.Session.{Session}
use Rattle.lb_front.specs.declared.stop.Stop.{Stop}
use Rattle.lb_front.specs.declared.stop.Stop.TheVariants as stops
use Rattle.lb_front.specs.Booked.{IsOpened, IsOpenRefused}
use Rattle.lb_front.specs.Headline.{Outside, outside_of}
use Rattle.lb_front.specs.Running.{SectionWritten, SectionPartWritten, SectionCut, ShutWritten, ShutPartWritten, session_section}

-- ---- without a session

-- the session was not opened, since the journal is full
pub is_full : (J : List Entry) (limit n : ℕ) (stop : Stop) → stop ≡ stops.JournalFull n → IsOpenRefused J limit stop → (n ≡ limit) × (length J ≡ limit)
is_full J limit n stop e h = subst (λ (s : Stop). IsOpenRefused J limit s) e h

places_none : (limit : ℕ) (texts : List (List ℕ)) (answers : List Answer) → AreShut limit texts answers → places answers ≡ []
places_none limit [] [] h = refl
places_none limit (t ∷ ts) (a ∷ more) h = ap (λ (p : Option ℕ). places_and p (places more)) h.0 ∙ places_none limit ts more h.3
places_none limit [] (a ∷ more) h = absurd h
places_none limit (t ∷ ts) [] h = absurd h

ran_shut : (J : List Entry) (limit : ℕ) (s : Section) (answers : List Answer) → length J ≡ limit → AreShut limit s.texts answers → SectionJournaled J J limit s (record { opening = full; days = []; answers = answers })
ran_shut J limit s answers whole h = record {
  added = [];
  grown = sym (append-nil J);
  others = λ n lt. refl;
  told = (whole, whole, refl, h);
  counted = places_none limit s.texts answers h;
}

section_ran : (J K : List Entry) (limit n : ℕ) (s : Section) (g : Option (List ℤ)) (w0 w1 : Option (List ℕ)) → n ≡ limit → length J ≡ limit → K ≡ J → ShutWritten n s.texts w0 w1
    → SectionWritten J K limit s (outside_of g g w0 w1)
section_ran J K limit n s g w0 w1 same whole still h =
    let r : ShutWritten limit s.texts w0 w1 = subst (λ (m : ℕ). ShutWritten m s.texts w0 w1) same h in
    subst (λ (L : List Entry). SectionWritten J L limit s (outside_of g g w0 w1)) (sym still) (record {
      result = record { opening = full; days = []; answers = r.answers };
      ran = ran_shut J limit s r.answers whole r.shut;
      clock = GrewBy-nil g;
      bytes = r.bytes;
    })

section_part : (J K : List Entry) (limit n : ℕ) (s : Section) (g : Option (List ℤ)) (w0 w1 : Option (List ℕ)) → n ≡ limit → length J ≡ limit → K ≡ J → ShutPartWritten n s.texts w0 w1
    → SectionCut J K limit s (outside_of g g w0 w1)
section_part J K limit n s g w0 w1 same whole still h =
    let r : ShutPartWritten limit s.texts w0 w1 = subst (λ (m : ℕ). ShutPartWritten m s.texts w0 w1) same h in
    subst (λ (L : List Entry). SectionCut J L limit s (outside_of g g w0 w1)) (sym still) (inl (record {
      count = r.count;
      result = record { opening = full; days = []; answers = r.answers };
      ran = ran_shut J limit (first_of r.count s) r.answers whole r.shut;
      clock = GrewBy-nil g;
      bytes = r.bytes;
    }))

pub section_shut : (J K : List Entry) (limit n : ℕ) (s : Section) (texts : List (List ℕ)) (g : Option (List ℤ)) (w0 w1 : Option (List ℕ)) (result : Result Unit Cut) → n ≡ limit → length J ≡ limit → K ≡ J → texts ≡ s.texts → OnOk result (ShutWritten n texts w0 w1)
    → OnOk result (SectionWritten J K limit s (outside_of g g w0 w1))
section_shut J K limit n s texts g w0 w1 (Ok done) same whole still e h = section_ran J K limit n s g w0 w1 same whole still (subst (λ (ts : List (List ℕ)). ShutWritten n ts w0 w1) e h)
section_shut J K limit n s texts g w0 w1 (Err cut) same whole still e h = tt

pub section_shut_part : (J K : List Entry) (limit n : ℕ) (s : Section) (texts : List (List ℕ)) (g : Option (List ℤ)) (w0 w1 : Option (List ℕ)) (result : Result Unit Cut) → n ≡ limit → length J ≡ limit → K ≡ J → texts ≡ s.texts → OnErr result (ShutPartWritten n texts w0 w1)
    → OnErr result (SectionCut J K limit s (outside_of g g w0 w1))
section_shut_part J K limit n s texts g w0 w1 (Ok done) same whole still e h = tt
section_shut_part J K limit n s texts g w0 w1 (Err cut) same whole still e h = section_part J K limit n s g w0 w1 same whole still (subst (λ (ts : List (List ℕ)). ShutPartWritten n ts w0 w1) e h)

pub section_not_begun : (J K : List Entry) (limit : ℕ) (s : Section) (g : Option (List ℤ)) (w : Option (List ℕ)) → K ≡ J → SectionCut J K limit s (outside_of g g w w)
section_not_begun J K limit s g w still = inr (record { same = still; clock = GrewBy-nil g; bytes = Appends-nil w })

-- ---- with a session

own : (I J : List Entry) (user : List ℕ) (groups : List (List ℕ)) (s : Session) → IsOpened I J user groups s → IsOpened I J s.user s.groups s
own I J user groups s h = subst (λ (u : List ℕ). IsOpened I J u s.groups s) (sym h.of_user) (subst (λ (g : List (List ℕ)). IsOpened I J user g s) (sym h.of_groups) h)

same_section : (I J : List Entry) (s : Section) (session : Session) → IsOpened I J s.user s.groups session → session_section session s.texts ≡ s
same_section I J s session h =
    ap (λ (u : List ℕ). record { user = u; groups = session.groups; texts = s.texts }) h.of_user ∙ ap (λ (g : List (List ℕ)). record { user = s.user; groups = g; texts = s.texts }) h.of_groups

pub section_opened : (I J K : List Entry) (limit limit_now : ℕ) (s : Section) (session : Session) (o : Outside) → IsOpened I J s.user s.groups session → IsMade I → limit_now ≡ limit
    → ((L : List Entry) → IsOpened L J session.user session.groups session → IsMade L → SectionWritten L K limit_now (session_section session s.texts) o) → SectionWritten I K limit s o
section_opened I J K limit limit_now s session o h made same ran =
    subst (λ (m : ℕ). SectionWritten I K m s o) same (subst (λ (t : Section). SectionWritten I K limit_now t o) (same_section I J s session h) (ran I (own I J s.user s.groups session h) made))

pub section_opened_part : (I J K : List Entry) (limit limit_now : ℕ) (s : Section) (session : Session) (o : Outside) → IsOpened I J s.user s.groups session → IsMade I → limit_now ≡ limit
    → ((L : List Entry) → IsOpened L J session.user session.groups session → IsMade L → SectionPartWritten L K limit_now (session_section session s.texts) o) → SectionCut I K limit s o
section_opened_part I J K limit limit_now s session o h made same ran =
    inl (subst (λ (m : ℕ). SectionPartWritten I K m s o) same (subst (λ (t : Section). SectionPartWritten I K limit_now t o) (same_section I J s session h) (ran I (own I J s.user s.groups session h) made)))
