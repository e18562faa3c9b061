-- The parts of a label: after a comma a further element of the part, or a further part.
use Rattle.std.proofs.Common.{Bool, true, false, inl, inr, ◌≡◌, ℕ, List, [], ◌∷◌, ◌++◌, refl, sym, ap, subst, ◌∙◌, append_assoc}
use Rattle.std.proofs.lemmas.List.{append-nil}
use Rattle.lb_stmt.specs.declared.change.LabelPart.{LabelPart}
use Rattle.lb_tok.specs.declared.kind.Kind.TheVariants as kinds
use Rattle.lb_tok.specs.declared.token.Token.{Token}
use Rattle.lb_tok.specs.Kinds.{only}
use Rattle.lb_tok.specs.Form.{Below, Lang, Seq, Either, Many, Word, After, Made, Listed}
use Rattle.lb_tok.specs.Grammar.{IsName, IsText}
use Rattle.lb_tok.specs.Changes.{IsTexts, IsPart}
use Rattle.lb_readt.proofs.Joined.{Within}
use Rattle.lb_readt.proofs.Combined.{IsReaderOf, then_reads, same_reads, pick_reads, wide, made_reads, after_reads, commas_reads}
use Rattle.lb_readt.proofs.Tokens.{name_reads, text_reads}
use Rattle.lb_readt.proofs.Languages.{nil, made_is, made_of}
use Rattle.lb_readd.specs.Defining.{Next, part_at, piece_at, parts_from, parts_on, parts_at}

-- COMPONENT name text
abbrev First : Lang (List ℕ × List ℕ)
First = After kinds.Component (Seq IsName (λ c. Made (λ e. (c, e)) IsText))

abbrev IsPiece : Lang Next
IsPiece = Either (Made (λ e. inl e) IsText) (Made (λ p. inr p) First)

first_reads : {b : Bool} {d : ℕ} → IsReaderOf b d part_at First false (only kinds.Component) []
unfolding part_at
first_reads = after_reads kinds.Component refl (then_reads name_reads (λ c. made_reads (λ e. (c, e)) text_reads) refl)

piece_reads : {b : Bool} {d : ℕ} → IsReaderOf b d piece_at IsPiece false (only kinds.Text ++ only kinds.Component) []
unfolding piece_at
piece_reads = wide _ _ refl refl refl (pick_reads (made_reads (λ e. inl e) text_reads) (made_reads (λ p. inr p) first_reads) refl)

abbrev PartsOn : List ℕ × List ℕ → Lang (List LabelPart)
PartsOn p = Made (parts_from p.0 (p.1 ∷ [])) (Many (After kinds.Comma IsPiece))

abbrev Pieces : Lang (List LabelPart)
Pieces = Seq First PartsOn

parts_on_reads : {b : Bool} {d : ℕ} (p : List ℕ × List ℕ) → IsReaderOf b d (parts_on p) (PartsOn p) true (only kinds.Comma) (only kinds.Comma)
unfolding parts_on
parts_on_reads p = wide _ _ refl refl refl (made_reads (parts_from p.0 (p.1 ∷ [])) (commas_reads piece_reads refl))

-- ---- the same by whole parts

abbrev part_of : List ℕ → List (List ℕ) → LabelPart
part_of c es = record { component = c; elements = es }

-- the further elements of a part with its component and first elements, and further parts
pub record Further (c : List ℕ) (es : List (List ℕ)) (s : Below) (ts : List Token) (x : List LabelPart) : Type 0 where
  pub texts : List (List ℕ)
  pub parts : List LabelPart
  pub a : List Token
  pub b : List Token
  pub by_texts : Many (After kinds.Comma IsText) s a texts
  pub by_parts : Many (After kinds.Comma IsPart) s b parts
  pub whole : ts ≡ a ++ b
  pub value : x ≡ part_of c (es ++ texts) ∷ parts

-- the tokens of COMPONENT name text
pub record FirstOf (s : Below) (ts : List Token) (x : List ℕ × List ℕ) : Type 0 where
  pub k : List Token
  pub n : List Token
  pub e : List Token
  pub word : Word kinds.Component s k tt
  pub name : IsName s n x.0
  pub text : IsText s e x.1
  pub whole : ts ≡ k ++ (n ++ e)

first_of : (s : Below) (ts : List Token) (x : List ℕ × List ℕ) → First s ts x → FirstOf s ts x
first_of s ts x p =
    let q = p.4 in
    let m = made_of (λ (e : List ℕ). (q.2, e)) IsText s q.1 x q.4 in
    record {
      k = p.0;
      n = q.0;
      e = q.1;
      word = p.3;
      name = subst (λ (z : List ℕ × List ℕ). IsName s q.0 z.0) (sym m.2) q.3;
      text = subst (λ (z : List ℕ × List ℕ). IsText s q.1 z.1) (sym m.2) m.1;
      whole = p.5 ∙ ap (λ (u : List Token). p.0 ++ u) q.5;
    }

-- a part from its first element on
a_part : (s : Below) (a b : List Token) (x : List ℕ × List ℕ) (es : List (List ℕ)) → First s a x → Many (After kinds.Comma IsText) s b es → IsPart s (a ++ b) (part_of x.0 (x.1 ∷ es))
a_part s a b x es p m =
    let f = first_of s a x p in
    let texts : IsTexts s (f.e ++ b) (x.1 ∷ es) = (f.e, b, x.1, f.text, made_is (λ (l : List (List ℕ)). x.1 ∷ l) (Many (After kinds.Comma IsText)) s b es m, refl) in
    let whole : a ++ b ≡ f.k ++ (f.n ++ (f.e ++ b)) = ap (λ (u : List Token). u ++ b) f.whole ∙ append_assoc f.k (f.n ++ f.e) b ∙ ap (λ (u : List Token). f.k ++ u) (append_assoc f.n f.e b) in
    (f.k, f.n ++ (f.e ++ b), tt, f.word, (f.n, f.e ++ b, x.0, f.name, made_is (part_of x.0) IsTexts s (f.e ++ b) (x.1 ∷ es) texts, refl), whole)

pub record PartOf (s : Below) (ts : List Token) (y : LabelPart) : Type 0 where
  pub x : List ℕ × List ℕ
  pub es : List (List ℕ)
  pub a : List Token
  pub b : List Token
  pub first : First s a x
  pub more : Many (After kinds.Comma IsText) s b es
  pub whole : ts ≡ a ++ b
  pub value : y ≡ part_of x.0 (x.1 ∷ es)

part_is : (s : Below) (ts : List Token) (y : LabelPart) → IsPart s ts y → PartOf s ts y
part_is s ts y p =
    let q = p.4 in
    let m = made_of (part_of q.2) IsTexts s q.1 y q.4 in
    let t = m.1 in
    let l = made_of (λ (l : List (List ℕ)). t.2 ∷ l) (Many (After kinds.Comma IsText)) s t.1 m.0 t.4 in
    record {
      x = (q.2, t.2);
      es = l.0;
      a = p.0 ++ (q.0 ++ t.0);
      b = t.1;
      first = (p.0, q.0 ++ t.0, tt, p.3, (q.0, t.0, q.2, q.3, made_is (λ (e : List ℕ). (q.2, e)) IsText s t.0 t.2 t.3, refl), refl);
      more = l.1;
      whole = p.5 ∙ ap (λ (u : List Token). p.0 ++ u) (q.5 ∙ ap (λ (u : List Token). q.0 ++ u) t.5 ∙ sym (append_assoc q.0 t.0 t.1)) ∙ sym (append_assoc p.0 (q.0 ++ t.0) t.1);
      value = m.2 ∙ ap (λ (l : List (List ℕ)). part_of q.2 l) l.2;
    }

text_piece : (s : Below) (ts : List Token) (e : List ℕ) → IsPiece s ts (inl e) → IsText s ts e
text_piece s ts e (inl p) = let m = made_of (λ (z : List ℕ). inl z) IsText s ts (inl e) p in subst (λ (z : List ℕ). IsText s ts z) (sym (same m.0 e m.2)) m.1
  where
    same : (a b : List ℕ) → ◌≡◌ {A = Next} (inl b) (inl a) → b ≡ a
    same a b e = cc
text_piece s ts e (inr p) = let m = made_of (λ (z : List ℕ × List ℕ). inr z) First s ts (inl e) p in absurd (apart m.0 e m.2)
  where
    apart : (a : List ℕ × List ℕ) (b : List ℕ) → ◌≡◌ {A = Next} (inl b) (inr a) → ⊥
    apart a b e = cc

first_piece : (s : Below) (ts : List Token) (x : List ℕ × List ℕ) → IsPiece s ts (inr x) → First s ts x
first_piece s ts x (inr p) = let m = made_of (λ (z : List ℕ × List ℕ). inr z) First s ts (inr x) p in subst (λ (z : List ℕ × List ℕ). First s ts z) (sym (same m.0 x m.2)) m.1
  where
    same : (a b : List ℕ × List ℕ) → ◌≡◌ {A = Next} (inr b) (inr a) → b ≡ a
    same a b e = cc
first_piece s ts x (inl p) = let m = made_of (λ (z : List ℕ). inl z) IsText s ts (inr x) p in absurd (apart m.0 x m.2)
  where
    apart : (a : List ℕ) (b : List ℕ × List ℕ) → ◌≡◌ {A = Next} (inr b) (inl a) → ⊥
    apart a b e = cc

-- pieces put together

further : (ps : List Next) (c : List ℕ) (es : List (List ℕ)) (s : Below) (ts : List Token) → Many (After kinds.Comma IsPiece) s ts ps → Further c es s ts (parts_from c es ps)
unfolding parts_from
further [] c es s ts m = record { texts = []; parts = []; a = []; b = []; by_texts = refl; by_parts = refl; whole = m; value = ap (λ (l : List (List ℕ)). part_of c l ∷ []) (sym (append-nil es)) }
further (inl e ∷ ps) c es s ts m =
    let p = m.2 in
    let f = further ps c (es ++ e ∷ []) s m.1 m.3 in
    record {
      texts = e ∷ f.texts;
      parts = f.parts;
      a = m.0 ++ f.a;
      b = f.b;
      by_texts = (m.0, f.a, (p.0, p.1, tt, p.3, text_piece s p.1 e p.4, p.5), f.by_texts, refl);
      by_parts = f.by_parts;
      whole = m.4 ∙ ap (λ (u : List Token). m.0 ++ u) f.whole ∙ sym (append_assoc m.0 f.a f.b);
      value = f.value ∙ ap (λ (l : List (List ℕ)). part_of c l ∷ f.parts) (append_assoc es (e ∷ []) f.texts);
    }
further (inr x ∷ ps) c es s ts m =
    let p = m.2 in
    let f = further ps x.0 (x.1 ∷ []) s m.1 m.3 in
    let part = a_part s p.1 f.a x f.texts (first_piece s p.1 x p.4) f.by_texts in
    record {
      texts = [];
      parts = part_of x.0 (x.1 ∷ f.texts) ∷ f.parts;
      a = [];
      b = (m.0 ++ f.a) ++ f.b;
      by_texts = refl;
      by_parts = (m.0 ++ f.a, f.b, (p.0, p.1 ++ f.a, tt, p.3, part, ap (λ (u : List Token). u ++ f.a) p.5 ∙ append_assoc p.0 p.1 f.a), f.by_parts, refl);
      whole = m.4 ∙ ap (λ (u : List Token). m.0 ++ u) f.whole ∙ sym (append_assoc m.0 f.a f.b);
      value = ap (λ (l : List LabelPart). part_of c es ∷ l) f.value ∙ ap (λ (l : List (List ℕ)). part_of c l ∷ (part_of x.0 (x.1 ∷ f.texts) ∷ f.parts)) (sym (append-nil es));
    }

to_parts : Within Pieces (Listed IsPart)
to_parts s ts v p =
    let x = p.2 in
    let m = made_of (parts_from x.0 (x.1 ∷ [])) (Many (After kinds.Comma IsPiece)) s p.1 v p.4 in
    let f = further m.0 x.0 (x.1 ∷ []) s p.1 m.1 in
    let y = part_of x.0 (x.1 ∷ f.texts) in
    (p.0 ++ f.a, f.b, y, a_part s p.0 f.a x f.texts p.3 f.by_texts, (f.b, [], f.parts, f.by_parts, (refl, m.2 ∙ f.value), sym (nil f.b)), p.5 ∙ ap (λ (u : List Token). p.0 ++ u) f.whole ∙ sym (append_assoc p.0 f.a f.b))

-- parts taken to pieces

pub record Pieced (c : List ℕ) (es : List (List ℕ)) (s : Below) (ts : List Token) (x : List LabelPart) : Type 0 where
  pub pieces : List Next
  pub spelled : Many (After kinds.Comma IsPiece) s ts pieces
  pub value : parts_from c es pieces ≡ x

of_texts : (fs : List (List ℕ)) (c : List ℕ) (es : List (List ℕ)) (s : Below) (a b : List Token) (xs : List LabelPart) → Many (After kinds.Comma IsText) s a fs → ((c : List ℕ) (es : List (List ℕ)) → Pieced c es s b (part_of c es ∷ xs)) → Pieced c es s (a ++ b) (part_of c (es ++ fs) ∷ xs)
unfolding parts_from
of_texts [] c es s a b xs m last =
    let k = last c es in
    record { pieces = k.pieces; spelled = subst (λ (u : List Token). Many (After kinds.Comma IsPiece) s (u ++ b) k.pieces) (sym m) k.spelled; value = k.value ∙ ap (λ (l : List (List ℕ)). part_of c l ∷ xs) (sym (append-nil es)) }
of_texts (f ∷ fs) c es s a b xs m last =
    let p = m.2 in
    let k = of_texts fs c (es ++ f ∷ []) s m.1 b xs m.3 last in
    record {
      pieces = inl f ∷ k.pieces;
      spelled = (m.0, m.1 ++ b, (p.0, p.1, tt, p.3, inl (made_is (λ (z : List ℕ). inl z) IsText s p.1 f p.4), p.5), k.spelled, ap (λ (u : List Token). u ++ b) m.4 ∙ append_assoc m.0 m.1 b);
      value = k.value ∙ ap (λ (l : List (List ℕ)). part_of c l ∷ xs) (append_assoc es (f ∷ []) fs);
    }

of_more : (xs : List LabelPart) (s : Below) (b : List Token) → Many (After kinds.Comma IsPart) s b xs → (c : List ℕ) (es : List (List ℕ)) → Pieced c es s b (part_of c es ∷ xs)
unfolding parts_from
of_more [] s b m c es = record { pieces = []; spelled = m; value = refl }
of_more (y ∷ ys) s b m c es =
    let p = m.2 in
    let q = part_is s p.1 y p.4 in
    let k = of_texts q.es q.x.0 (q.x.1 ∷ []) s q.b m.1 ys q.more (of_more ys s m.1 m.3) in
    let whole : b ≡ (p.0 ++ q.a) ++ (q.b ++ m.1) = m.4 ∙ ap (λ (u : List Token). u ++ m.1) (p.5 ∙ ap (λ (u : List Token). p.0 ++ u) q.whole ∙ sym (append_assoc p.0 q.a q.b)) ∙ append_assoc (p.0 ++ q.a) q.b m.1 in
    record {
      pieces = inr q.x ∷ k.pieces;
      spelled = (p.0 ++ q.a, q.b ++ m.1, (p.0, q.a, tt, p.3, inr (made_is (λ (z : List ℕ × List ℕ). inr z) First s q.a q.x q.first), refl), k.spelled, whole);
      value = ap (λ (l : List LabelPart). part_of c es ∷ l) (k.value ∙ ap (λ (z : LabelPart). z ∷ ys) (sym q.value));
    }

of_parts : Within (Listed IsPart) Pieces
of_parts s ts v p =
    let q = part_is s p.0 p.2 p.3 in
    let m = made_of (λ (l : List LabelPart). p.2 ∷ l) (Many (After kinds.Comma IsPart)) s p.1 v p.4 in
    let k = of_texts q.es q.x.0 (q.x.1 ∷ []) s q.b p.1 m.0 q.more (of_more m.0 s p.1 m.1) in
    (q.a, q.b ++ p.1, q.x, q.first, (q.b ++ p.1, [], k.pieces, k.spelled, (refl, m.2 ∙ ap (λ (z : LabelPart). z ∷ m.0) q.value ∙ sym k.value), sym (nil (q.b ++ p.1))), p.5 ∙ ap (λ (u : List Token). u ++ p.1) q.whole ∙ append_assoc q.a q.b p.1)

pub parts_reads : {b : Bool} {d : ℕ} → IsReaderOf b d parts_at (Listed IsPart) false (only kinds.Component) (only kinds.Comma)
unfolding parts_at
parts_reads = wide _ _ refl refl refl (same_reads (Listed IsPart) to_parts of_parts (then_reads first_reads parts_on_reads refl))
