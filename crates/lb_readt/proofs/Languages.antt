-- Laws of the words that the grammar is put together by: sequences and choices, rearranged.
use Rattle.std.proofs.Common.{◌≡◌, List, [], ◌∷◌, ◌++◌, refl, sym, ap, subst, ◌∙◌, append_assoc}
use Rattle.lb_tok.specs.declared.kind.Kind.{Kind}
use Rattle.lb_tok.specs.declared.token.Token.{Token}
use Rattle.lb_tok.specs.Form.{Below, Lang, Seq, Made, Bracket}
use Rattle.lb_readt.proofs.Joined.{Within}

pub assoc : {A B C : Type 0} (P : Lang A) (Q : A → Lang B) (R : B → Lang C) → Within (Seq (Seq P Q) R) (Seq P (λ x. Seq (Q x) R))
assoc P Q R s ts z p =
    let q = p.3 in
    (q.0, q.1 ++ p.1, q.2, q.3, (q.1, p.1, p.2, q.4, p.4, refl), p.5 ∙ ap (λ (u : List Token). u ++ p.1) q.5 ∙ append_assoc q.0 q.1 p.1)

pub unassoc : {A B C : Type 0} (P : Lang A) (Q : A → Lang B) (R : B → Lang C) → Within (Seq P (λ x. Seq (Q x) R)) (Seq (Seq P Q) R)
unassoc P Q R s ts z p =
    let q = p.4 in
    (p.0 ++ q.0, q.1, q.2, (p.0, q.0, p.2, p.3, q.3, refl), q.4, p.5 ∙ ap (λ (u : List Token). p.0 ++ u) q.5 ∙ sym (append_assoc p.0 q.0 q.1))

pub seq_map : {A B : Type 0} (P P' : Lang A) (Q Q' : A → Lang B) → Within P P' → ((x : A) → Within (Q x) (Q' x)) → Within (Seq P Q) (Seq P' Q')
seq_map P P' Q Q' f g s ts y p = (p.0, p.1, p.2, f s p.0 p.2 p.3, g p.2 s p.1 y p.4, p.5)

-- brackets hold the same where their languages do
pub bracket_map : {A B : Type 0} (o c : Kind) (P : Lang A) (Q : Lang B) (s : Below) (x : A) (y : B) → ((ts : List Token) → P s ts x → Q s ts y) → (ts : List Token) → Bracket o c P s ts x → Bracket o c Q s ts y
bracket_map o c P Q s x y f ts p =
    let q = p.4 in
    let e = q.4 in
    let n = e.4 in
    (p.0, p.1, p.2, p.3, (q.0, q.1, y, f q.0 (subst (λ z. P s q.0 z) (sym n.1) q.3), (e.0, e.1, e.2, e.3, (n.0, refl), e.5), q.5), p.5)

pub nil : (a : List Token) → a ++ [] ≡ a
nil [] = refl
nil (t ∷ a) = ap (λ (u : List Token). t ∷ u) (nil a)

pub ends : (ts a b : List Token) → ts ≡ a ++ b → b ≡ [] → a ≡ ts
ends ts a b e h = sym (e ∙ ap (λ (u : List Token). a ++ u) h ∙ nil a)

-- made of the same value
pub made_is : {A B : Type 0} (f : A → B) (P : Lang A) (s : Below) (ts : List Token) (x : A) → P s ts x → Made f P s ts (f x)
made_is f P s ts x p = (ts, [], x, p, (refl, refl), sym (nil ts))

pub made_of : {A B : Type 0} (f : A → B) (P : Lang A) (s : Below) (ts : List Token) (y : B) → Made f P s ts y → (x : A) × P s ts x × (y ≡ f x)
made_of f P s ts y p = (p.2, subst (λ (u : List Token). P s u p.2) (ends ts p.0 p.1 p.5 p.4.0) p.3, p.4.1)
