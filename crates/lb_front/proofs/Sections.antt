-- A script, one section after the other.
use Rattle.std.proofs.Common.{◌≡◌, inl, inr, ℕ, ◌+◌, ◌≤◌, List, [], ◌∷◌, ◌++◌, length, take, flat_map, map, Option, Some, None, refl, sym, ap, subst, ◌∙◌, append_assoc, arith}
use Rattle.std.specs.Prelude.{ℤ, drop, MatchOption}
use Rattle.lb_split.specs.declared.script.Script.{Script}
use Rattle.lb_split.specs.declared.script.Section.{Section as SpanSection}
use Rattle.lb_front.specs.Scripted.{section_in, sections_in, with_first}
use Rattle.std.specs.Io.KnownBytes.{Appends}
use Rattle.std.proofs.lemmas.List.{append-nil, take_all, take-append-drop}
use Rattle.std.proofs.lemmas.List.Concat.{flat_map-append}
use Rattle.lb_wire.specs.Told.{GrewBy, AppendsPart}
use Rattle.lb_wire.proofs.Told.{GrewBy-nil, GrewBy-then, Appends-nil, Appends-then, AppendsPart-then, AppendsPart-whole}
use Rattle.lb_wire.specs.declared.status.Status.{Status}
use Rattle.lb_wire.specs.declared.status.Status.TheVariants as statuses
use Rattle.lb_cat.specs.declared.entry.Entry.{Entry}
use Rattle.lb_model.specs.Journal.{opens}
use Rattle.lb_model.specs.Sections.{Section, SectionResult, Journaled, out, section_text}
use Rattle.lb_model.specs.Telling.{first_of}
use Rattle.lb_model.proofs.Sectioned.{Sofar, sofar_more, sofar_out, front_whole, front_part}
use Rattle.lb_refr.specs.Stored.{Stored}
use Rattle.lb_front.specs.declared.book.Book.{Book}
use Rattle.lb_front.specs.declared.output.Cut.{Cut}
use Rattle.lb_front.specs.declared.output.Cut.TheVariants as cuts
use Rattle.lb_front.specs.Booked.{Stands}
use Rattle.lb_front.specs.Headline.{Outside, days_of, RunWritten, RunPartWritten, outside_of}
use Rattle.lb_front.specs.Running.{SectionWritten, SectionCut, Progress, SectionsLoop, WrittenAfter, CutAfter, ScriptEnds, cut_status}

days_more : (os : List SectionResult) (o : SectionResult) → days_of (os ++ o ∷ []) ≡ days_of os ++ o.days
days_more os o = flat_map-append (λ (x : SectionResult). x.days) os (o ∷ []) ∙ ap (λ (t : List ℤ). days_of os ++ t) (append-nil o.days)

sofar : (J : List Entry) (limit : ℕ) (done : List Section) (o : Outside) → (h : Progress J limit done o) → Sofar J limit done h.results
sofar J limit done o h = record { told = h.told; counted = h.counted }

journaled : (J : List Entry) (limit : ℕ) (stored : Stored) (done : List Section) (os : List SectionResult) → Sofar J limit done os → Stands J limit stored → Journaled limit done os
journaled J limit stored done os h stands = record { journal = J; made = stands.made; within = stands.within; told = h.told; counted = h.counted }

-- no section was run yet
progress_first : (J : List Entry) (limit : ℕ) (g : Option (List ℤ)) (w : Option (List ℕ)) → J ≡ [] → Progress J limit [] (outside_of g g w w)
progress_first J limit g w e = record { results = []; told = tt; counted = rw e refl; clock = GrewBy-nil g; bytes = Appends-nil w }

-- one section more was run
progress_more : (J K : List Entry) (limit : ℕ) (stored : Stored) (done : List Section) (s : Section) (g0 g1 g2 : Option (List ℤ)) (w0 w1 w2 : Option (List ℕ)) → Progress J limit done (outside_of g0 g1 w0 w1)
    → SectionWritten J K limit s (outside_of g1 g2 w1 w2) → Stands K limit stored → Progress K limit (done ++ s ∷ []) (outside_of g0 g2 w0 w2)
progress_more J K limit stored done s g0 g1 g2 w0 w1 w2 h r stands =
    let so : Sofar J limit done h.results = record { told = h.told; counted = h.counted } in
    let next = sofar_more J K limit done h.results s r.result so r.ran stands.within in
    record {
      results = h.results ++ r.result ∷ [];
      told = next.told;
      counted = next.counted;
      clock = subst (λ (t : List ℤ). GrewBy g0 g2 t) (sym (days_more h.results r.result)) (GrewBy-then g0 g1 g2 (days_of h.results) r.result.days h.clock r.clock);
      bytes = subst (λ (t : List ℕ). Appends w0 w2 t) (sym (sofar_out J limit done h.results s r.result so)) (Appends-then w0 w1 w2 (out limit done h.results) (section_text limit s r.result) h.bytes r.bytes);
    }

-- the run was cut short in this section
cut_in : (J K : List Entry) (limit : ℕ) (stored : Stored) (done rest : List Section) (s : Section) (g0 g1 g2 : Option (List ℤ)) (w0 w1 w2 : Option (List ℕ)) → Progress J limit done (outside_of g0 g1 w0 w1)
    → SectionCut J K limit s (outside_of g1 g2 w1 w2) → Stands K limit stored → RunPartWritten limit (done ++ s ∷ rest) (outside_of g0 g2 w0 w2)
cut_in J K limit stored done rest s g0 g1 g2 w0 w1 w2 h (inl r) stands =
    let so : Sofar J limit done h.results = record { told = h.told; counted = h.counted } in
    let part : Section = first_of r.count s in
    let next = sofar_more J K limit done h.results part r.result so r.ran stands.within in
    record {
      front = done ++ part ∷ [];
      is_front = front_part done rest s r.count;
      results = h.results ++ r.result ∷ [];
      journaled = journaled K limit stored (done ++ part ∷ []) (h.results ++ r.result ∷ []) next stands;
      clock = subst (λ (t : List ℤ). GrewBy g0 g2 t) (sym (days_more h.results r.result)) (GrewBy-then g0 g1 g2 (days_of h.results) r.result.days h.clock r.clock);
      bytes = subst (λ (t : List ℕ). AppendsPart w0 w2 t) (sym (sofar_out J limit done h.results part r.result so)) (AppendsPart-then w0 w1 w2 (out limit done h.results) (section_text limit part r.result) h.bytes r.bytes);
    }
cut_in J K limit stored done rest s g0 g1 g2 w0 w1 w2 h (inr r) stands =
    let so : Sofar J limit done h.results = record { told = h.told; counted = h.counted } in
    let here : Stands J limit stored = subst (λ (L : List Entry). Stands L limit stored) r.same stands in
    let days : GrewBy g0 g2 (days_of h.results) = subst (λ (t : List ℤ). GrewBy g0 g2 t) (append-nil (days_of h.results)) (GrewBy-then g0 g1 g2 (days_of h.results) [] h.clock r.clock) in
    let bytes : Appends w0 w2 (out limit done h.results) = subst (λ (t : List ℕ). Appends w0 w2 t) (append-nil (out limit done h.results)) (Appends-then w0 w1 w2 (out limit done h.results) [] h.bytes r.bytes) in
    record {
      front = done;
      is_front = front_whole done (s ∷ rest);
      results = h.results;
      journaled = journaled J limit stored done h.results so here;
      clock = days;
      bytes = AppendsPart-whole w0 w2 (out limit done h.results) bytes;
    }

-- ---- the loop

pub looping_first : (b : Book) (all : List Section) (g : Option (List ℤ)) (w : Option (List ℕ)) (f : ℕ) → b.sessions ≡ opens b.journal.items → Stands b.journal.items b.limit b.store
    → SectionsLoop b b (take 0 all) (outside_of g g w w) f f
looping_first b all g w f n stands = record {
  ran_after = λ done given written h. subst (λ (ss : List Section). Progress b.journal.items b.limit ss (outside_of given g written w)) (sym (append-nil done)) h;
  stands = stands;
  counted = n;
  same_limit = refl;
  later = omega arith;
}

pub looping_on : (first b book : Book) (all : List Section) (i : ℕ) (s : Section) (g0 g1 g2 : Option (List ℤ)) (w0 w1 w2 : Option (List ℕ)) (f0 f1 f2 : ℕ)
    → SectionsLoop first b (take i all) (outside_of g0 g1 w0 w1) f0 f1 → take (i + 1) all ≡ take i all ++ s ∷ []
    → SectionWritten b.journal.items book.journal.items b.limit s (outside_of g1 g2 w1 w2) → Stands book.journal.items book.limit book.store → book.sessions ≡ opens book.journal.items → book.limit ≡ b.limit → f1 ≤ f2
    → SectionsLoop first book (take (i + 1) all) (outside_of g0 g2 w0 w2) f0 f2
looping_on first b book all i s g0 g1 g2 w0 w1 w2 f0 f1 f2 h more r stands counted same le =
    let J0 : List Entry = first.journal.items in
    let J : List Entry = b.journal.items in
    let K : List Entry = book.journal.items in
    let limit : ℕ = b.limit in
    let stored_now : Stored = book.store in
    let here : Stands K limit stored_now = subst (λ (m : ℕ). Stands K m stored_now) same stands in
    let behind : WrittenAfter J0 K limit (take (i + 1) all) (outside_of g0 g2 w0 w2) = λ done given written p.
    subst (λ (ss : List Section). Progress K limit ss (outside_of given g2 written w2)) (append_assoc done (take i all) (s ∷ []) ∙ ap (λ (ss : List Section). done ++ ss) (sym more))
    (progress_more J K limit stored_now (done ++ take i all) s given g1 g2 written w1 w2 (h.ran_after done given written p) r here) in
    record {
      ran_after = subst (λ (m : ℕ). WrittenAfter J0 K m (take (i + 1) all) (outside_of g0 g2 w0 w2)) (sym same) behind;
      stands = stands;
      counted = counted;
      same_limit = same ∙ h.same_limit;
      later = omega (arith, h.later, le);
    }

-- the sections before one, it, those after it, and others after all of them
joined : (done front rest behind : List Section) (s : Section) → (done ++ front) ++ s ∷ (rest ++ behind) ≡ done ++ ((front ++ s ∷ rest) ++ behind)
joined done front rest behind s = append_assoc done front (s ∷ (rest ++ behind)) ∙ ap (λ (ss : List Section). done ++ ss) (sym (append_assoc front (s ∷ rest) behind))

parted : (all : List Section) (i : ℕ) (s : Section) → take (i + 1) all ≡ take i all ++ s ∷ [] → take i all ++ s ∷ drop (i + 1) all ≡ all
parted all i s more = sym (append_assoc (take i all) (s ∷ []) (drop (i + 1) all)) ∙ ap (λ (ss : List Section). ss ++ drop (i + 1) all) (sym more) ∙ take-append-drop (i + 1) all

pub looping_cut : (first b book : Book) (all : List Section) (i : ℕ) (s : Section) (g0 g1 g2 : Option (List ℤ)) (w0 w1 w2 : Option (List ℕ)) (f0 f1 : ℕ)
    → SectionsLoop first b (take i all) (outside_of g0 g1 w0 w1) f0 f1 → take (i + 1) all ≡ take i all ++ s ∷ []
    → SectionCut b.journal.items book.journal.items b.limit s (outside_of g1 g2 w1 w2) → Stands book.journal.items book.limit book.store → book.limit ≡ b.limit → CutAfter first.journal.items first.limit all (outside_of g0 g2 w0 w2)
looping_cut first b book all i s g0 g1 g2 w0 w1 w2 f0 f1 h more r stands same =
    let J0 : List Entry = first.journal.items in
    let J : List Entry = b.journal.items in
    let K : List Entry = book.journal.items in
    let limit : ℕ = b.limit in
    let stored_now : Stored = book.store in
    let here : Stands K limit stored_now = subst (λ (m : ℕ). Stands K m stored_now) same stands in
    let cut : CutAfter J0 limit all (outside_of g0 g2 w0 w2) = λ done behind given written p.
    subst (λ (ss : List Section). RunPartWritten limit ss (outside_of given g2 written w2))
    (joined done (take i all) (drop (i + 1) all) behind s ∙ ap (λ (ss : List Section). done ++ (ss ++ behind)) (parted all i s more))
    (cut_in J K limit stored_now (done ++ take i all) (drop (i + 1) all ++ behind) s given g1 g2 written w1 w2 (h.ran_after done given written p) r here) in
    subst (λ (m : ℕ). CutAfter J0 m all (outside_of g0 g2 w0 w2)) h.same_limit cut

pub ended : (first b : Book) (all : List Section) (i : ℕ) (o : Outside) (f0 f1 : ℕ) → SectionsLoop first b (take i all) o f0 f1 → length all ≤ i → WrittenAfter first.journal.items b.journal.items first.limit all o
ended first b all i o f0 f1 h le =
    let J0 : List Entry = first.journal.items in
    let J : List Entry = b.journal.items in
    subst (λ (m : ℕ). WrittenAfter J0 J m all o) h.same_limit (subst (λ (ss : List Section). WrittenAfter J0 J b.limit ss o) (take_all i all le) h.ran_after)

-- ---- the whole script

-- the section of SETUP, if there is one, as a list
abbrev pub IsListOf : Option SpanSection → List SpanSection → Type 0
IsListOf setup firsts = MatchOption setup (firsts ≡ []) (λ s. firsts ≡ s ∷ [])

with_firsts : (bytes : List ℕ) (setup : Option SpanSection) (firsts sessions : List SpanSection) → IsListOf setup firsts → map (section_in bytes) firsts ++ map (section_in bytes) sessions ≡ map (section_in bytes) (with_first setup sessions)
with_firsts bytes None firsts sessions e = ap (λ (ss : List SpanSection). map (section_in bytes) ss ++ map (section_in bytes) sessions) e
with_firsts bytes (Some s) firsts sessions e = ap (λ (ss : List SpanSection). map (section_in bytes) ss ++ map (section_in bytes) sessions) e

pub script_ran : (bytes : List ℕ) (script : Script) (firsts rest : List SpanSection) (J0 J1 J2 : List Entry) (limit l0 l1 l2 : ℕ) (stored : Stored) (g0 g1 g2 : Option (List ℤ)) (w0 w1 w2 : Option (List ℕ)) → IsListOf script.setup firsts → rest ≡ script.sessions → J0 ≡ []
    → l0 ≡ limit → l1 ≡ l0 → l2 ≡ l1 → WrittenAfter J0 J1 l0 (map (section_in bytes) firsts) (outside_of g0 g1 w0 w1)
    → WrittenAfter J1 J2 l1 (map (section_in bytes) rest) (outside_of g1 g2 w1 w2) → Stands J2 l2 stored
    → RunWritten limit (sections_in bytes script) (outside_of g0 g2 w0 w2)
script_ran bytes script firsts rest J0 J1 J2 limit l0 l1 l2 stored g0 g1 g2 w0 w1 w2 e r none e0 e1 e2 setup sessions stands =
    let first : List Section = map (section_in bytes) firsts in
    let later : List Section = map (section_in bytes) rest in
    let o : Outside = outside_of g0 g2 w0 w2 in
    let one : Progress J1 l0 first (outside_of g0 g1 w0 w1) = setup [] g0 w0 (progress_first J0 l0 g0 w0 none) in
    let p : Progress J2 l1 (first ++ later) o = sessions first g0 w0 (subst (λ (m : ℕ). Progress J1 m first (outside_of g0 g1 w0 w1)) (sym e1) one) in
    let here : Stands J2 l1 stored = subst (λ (m : ℕ). Stands J2 m stored) e2 stands in
    let ran : RunWritten l1 (first ++ later) o = record { results = p.results; journaled = journaled J2 l1 stored (first ++ later) p.results (record { told = p.told; counted = p.counted }) here; clock = p.clock; bytes = p.bytes } in
    subst (λ (m : ℕ). RunWritten m (sections_in bytes script) o) (e1 ∙ e0)
    (subst (λ (ss : List Section). RunWritten l1 ss o) (ap (λ (ss : List SpanSection). first ++ map (section_in bytes) ss) r ∙ with_firsts bytes script.setup firsts script.sessions e) ran)

pub setup_cut : (bytes : List ℕ) (script : Script) (firsts : List SpanSection) (J0 : List Entry) (limit l0 : ℕ) (g0 g1 : Option (List ℤ)) (w0 w1 : Option (List ℕ)) → IsListOf script.setup firsts → J0 ≡ [] → l0 ≡ limit
    → CutAfter J0 l0 (map (section_in bytes) firsts) (outside_of g0 g1 w0 w1) → RunPartWritten limit (sections_in bytes script) (outside_of g0 g1 w0 w1)
setup_cut bytes script firsts J0 limit l0 g0 g1 w0 w1 e none e0 cut =
    let o : Outside = outside_of g0 g1 w0 w1 in
    subst (λ (m : ℕ). RunPartWritten m (sections_in bytes script) o) e0
    (subst (λ (ss : List Section). RunPartWritten l0 ss o) (with_firsts bytes script.setup firsts script.sessions e) (cut [] (map (section_in bytes) script.sessions) g0 w0 (progress_first J0 l0 g0 w0 none)))

pub sessions_cut : (bytes : List ℕ) (script : Script) (firsts rest : List SpanSection) (J0 J1 : List Entry) (limit l0 l1 : ℕ) (g0 g1 g2 : Option (List ℤ)) (w0 w1 w2 : Option (List ℕ)) → IsListOf script.setup firsts → rest ≡ script.sessions → J0 ≡ []
    → l0 ≡ limit → l1 ≡ l0 → WrittenAfter J0 J1 l0 (map (section_in bytes) firsts) (outside_of g0 g1 w0 w1)
    → CutAfter J1 l1 (map (section_in bytes) rest) (outside_of g1 g2 w1 w2) → RunPartWritten limit (sections_in bytes script) (outside_of g0 g2 w0 w2)
sessions_cut bytes script firsts rest J0 J1 limit l0 l1 g0 g1 g2 w0 w1 w2 e r none e0 e1 setup cut =
    let first : List Section = map (section_in bytes) firsts in
    let later : List Section = map (section_in bytes) rest in
    let o : Outside = outside_of g0 g2 w0 w2 in
    let one : Progress J1 l0 first (outside_of g0 g1 w0 w1) = setup [] g0 w0 (progress_first J0 l0 g0 w0 none) in
    let part : RunPartWritten l1 (first ++ (later ++ [])) o = cut first [] g0 w0 (subst (λ (m : ℕ). Progress J1 m first (outside_of g0 g1 w0 w1)) (sym e1) one) in
    subst (λ (m : ℕ). RunPartWritten m (sections_in bytes script) o) (e1 ∙ e0)
    (subst (λ (ss : List Section). RunPartWritten l1 ss o) (ap (λ (ss : List Section). first ++ ss) (append-nil later) ∙ (ap (λ (ss : List SpanSection). first ++ map (section_in bytes) ss) r ∙ with_firsts bytes script.setup firsts script.sessions e)) part)

-- the status of a run that was cut short
pub cut_ends : (cut : Cut) (limit : ℕ) (sections : List Section) (o : Outside) (status : Status) → status ≡ cut_status cut → RunPartWritten limit sections o → ScriptEnds status limit sections o
cut_ends cuts.NoMemory limit sections o status e h = rw e h
cut_ends cuts.WriteFault limit sections o status e h = rw e h
