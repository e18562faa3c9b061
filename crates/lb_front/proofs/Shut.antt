-- A section without a session, one statement after the other.
use Rattle.std.proofs.Common.{◌≡◌, ℕ, ◌+◌, ◌≤◌, List, [], ◌∷◌, ◌++◌, length, take, flat_map, Option, sym, ap, subst, ◌∙◌, append_assoc, arith}
use Rattle.std.specs.Io.KnownBytes.{Appends}
use Rattle.std.proofs.lemmas.List.{append-nil, take_all}
use Rattle.std.proofs.lemmas.List.Concat.{flat_map-append}
use Rattle.lb_wire.specs.Told.{AppendsPart}
use Rattle.lb_wire.proofs.Told.{Appends-then, AppendsPart-then}
use Rattle.lb_cat.specs.declared.answer.Answer.{Answer}
use Rattle.lb_model.specs.Out.{block_text, full_text}
use Rattle.lb_model.specs.Sections.{AreShut}
use Rattle.lb_front.specs.Running.{IsShutAnswer, shut_text, ShutWritten, ShutPartWritten, ShutLoops}

-- ---- answers one after the other

are_shut_more : (limit : ℕ) (texts : List (List ℕ)) (answers : List Answer) (text : List ℕ) (a : Answer) → AreShut limit texts answers → IsShutAnswer limit text a → AreShut limit (texts ++ text ∷ []) (answers ++ a ∷ [])
are_shut_more limit [] [] text a h s = (s.0, s.1, s.2, tt)
are_shut_more limit (t ∷ ts) (b ∷ bs) text a h s = (h.0, h.1, h.2, are_shut_more limit ts bs text a h.3 s)
are_shut_more limit [] (b ∷ bs) text a h s = absurd h
are_shut_more limit (t ∷ ts) [] text a h s = absurd h

text_more : (limit : ℕ) (answers : List Answer) (a : Answer) → shut_text limit answers ++ block_text a ≡ shut_text limit (answers ++ a ∷ [])
text_more limit answers a =
    let blocks : flat_map block_text (answers ++ a ∷ []) ≡ flat_map block_text answers ++ block_text a = flat_map-append block_text answers (a ∷ []) ∙ ap (λ (t : List ℕ). flat_map block_text answers ++ t) (append-nil (block_text a)) in
    append_assoc (full_text limit) (flat_map block_text answers) (block_text a) ∙ ap (λ (t : List ℕ). full_text limit ++ t) (sym blocks)

line_alone : (limit : ℕ) → full_text limit ≡ shut_text limit []
line_alone limit = sym (append-nil (full_text limit))

pub shut_first : (limit : ℕ) (all : List (List ℕ)) (w0 w1 : Option (List ℕ)) (f0 f1 : ℕ) → Appends w0 w1 (full_text limit) → f0 ≤ f1 → ShutLoops limit (take 0 all) w0 w1 f0 f1
shut_first limit all w0 w1 f0 f1 w le = record {
  ran = record { answers = []; shut = tt; bytes = subst (λ (t : List ℕ). Appends w0 w1 t) (line_alone limit) w };
  later = le;
}

pub shut_not_begun : (limit : ℕ) (all : List (List ℕ)) (w0 w1 : Option (List ℕ)) → AppendsPart w0 w1 (full_text limit) → ShutPartWritten limit all w0 w1
shut_not_begun limit all w0 w1 w = record { count = 0; answers = []; shut = tt; bytes = subst (λ (t : List ℕ). AppendsPart w0 w1 t) (line_alone limit) w }

pub shut_on : (limit : ℕ) (all : List (List ℕ)) (i : ℕ) (text : List ℕ) (a : Answer) (w0 w1 w2 : Option (List ℕ)) (f0 f1 f2 : ℕ) → ShutLoops limit (take i all) w0 w1 f0 f1 → take (i + 1) all ≡ take i all ++ text ∷ []
    → IsShutAnswer limit text a → Appends w1 w2 (block_text a) → f1 ≤ f2 → ShutLoops limit (take (i + 1) all) w0 w2 f0 f2
shut_on limit all i text a w0 w1 w2 f0 f1 f2 h more s w le = record {
  ran = record {
    answers = h.ran.answers ++ a ∷ [];
    shut = rw more (are_shut_more limit (take i all) h.ran.answers text a h.ran.shut s);
    bytes = subst (λ (t : List ℕ). Appends w0 w2 t) (text_more limit h.ran.answers a) (Appends-then w0 w1 w2 (shut_text limit h.ran.answers) (block_text a) h.ran.bytes w);
  };
  later = omega (arith, h.later, le);
}

pub shut_cut : (limit : ℕ) (all : List (List ℕ)) (i : ℕ) (text : List ℕ) (a : Answer) (w0 w1 w2 : Option (List ℕ)) (f0 f1 : ℕ) → ShutLoops limit (take i all) w0 w1 f0 f1 → take (i + 1) all ≡ take i all ++ text ∷ []
    → IsShutAnswer limit text a → AppendsPart w1 w2 (block_text a) → ShutPartWritten limit all w0 w2
shut_cut limit all i text a w0 w1 w2 f0 f1 h more s w = record {
  count = i + 1;
  answers = h.ran.answers ++ a ∷ [];
  shut = rw more (are_shut_more limit (take i all) h.ran.answers text a h.ran.shut s);
  bytes = subst (λ (t : List ℕ). AppendsPart w0 w2 t) (text_more limit h.ran.answers a) (AppendsPart-then w0 w1 w2 (shut_text limit h.ran.answers) (block_text a) h.ran.bytes w);
}

pub shut_ended : (limit : ℕ) (all : List (List ℕ)) (i : ℕ) (w0 w1 : Option (List ℕ)) (f0 f1 : ℕ) → ShutLoops limit (take i all) w0 w1 f0 f1 → length all ≤ i → ShutWritten limit all w0 w1
shut_ended limit all i w0 w1 f0 f1 h le = rw (← take_all i all le) h.ran
