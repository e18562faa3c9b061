-- Lines, one text after the other.
use Rattle.std.proofs.Common.{◌≡◌, inl, inr, ℕ, ◌+◌, List, [], ◌∷◌, ◌++◌, take, flat_map, Option, sym, ap, subst, ◌∙◌, append-nil}
use Rattle.std.specs.Io.KnownBytes.{Appends}
use Rattle.std.proofs.lemmas.List.Concat.{flat_map-append}
use Rattle.lb_wire.specs.Told.{AppendsPart}
use Rattle.lb_wire.proofs.Told.{Appends-then, AppendsPart-whole, AppendsPart-then}
use Rattle.lbac_canonical.specs.declared.line.Line.{Line}
use Rattle.lbac_canonical.specs.Lines.{IsLineOf, AreLinesOf, IsPut, IsPutPart, printed, Printed, PrintedPart}

joined : (texts : List (List ℕ)) (told : List Line) (text : List ℕ) (line : Line) → AreLinesOf texts told → IsLineOf text line → AreLinesOf (texts ++ text ∷ []) (told ++ line ∷ [])
joined [] [] text line h k = (k, tt)
joined [] (l ∷ ls) text line h k = absurd h
joined (t ∷ ts) [] text line h k = absurd h
joined (t ∷ ts) (l ∷ ls) text line h k = (h.0, joined ts ls text line h.1 k)

bytes_more : (told : List Line) (line : Line) → flat_map printed told ++ printed line ≡ flat_map printed (told ++ line ∷ [])
bytes_more told line = ap (λ (t : List ℕ). flat_map printed told ++ t) (sym (append-nil (printed line))) ∙ sym (flat_map-append printed told (line ∷ []))

pub printed_more : (a b c : Option (List ℕ)) (all : List (List ℕ)) (i : ℕ) (text : List ℕ) → Printed (take i all) a b → take (i + 1) all ≡ take i all ++ text ∷ [] → IsPut text b c → Printed (take (i + 1) all) a c
printed_more a b c all i text h more p = record {
  told = h.told ++ p.0 ∷ [];
  right = rw more (joined (take i all) h.told text p.0 h.right p.1);
  bytes = subst (λ (t : List ℕ). Appends a c t) (bytes_more h.told p.0) (Appends-then a b c (flat_map printed h.told) (printed p.0) h.bytes p.2);
}

pub printed_cut : (a b c : Option (List ℕ)) (all : List (List ℕ)) (i : ℕ) (text : List ℕ) → Printed (take i all) a b → take (i + 1) all ≡ take i all ++ text ∷ [] → IsPutPart text b c → PrintedPart all a c
printed_cut a b c all i text h more (inl p) = record {
  count = i;
  told = h.told;
  right = h.right;
  bytes = AppendsPart-whole a c (flat_map printed h.told) (subst (λ (t : List ℕ). Appends a c t) (append-nil (flat_map printed h.told)) (Appends-then a b c (flat_map printed h.told) [] h.bytes p));
}
printed_cut a b c all i text h more (inr p) = record {
  count = i + 1;
  told = h.told ++ p.0 ∷ [];
  right = rw more (joined (take i all) h.told text p.0 h.right p.1);
  bytes = subst (λ (t : List ℕ). AppendsPart a c t) (bytes_more h.told p.0) (AppendsPart-then a b c (flat_map printed h.told) (printed p.0) h.bytes p.2);
}
