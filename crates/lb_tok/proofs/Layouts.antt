-- Pieces laid one after the other.
use Rattle.std.proofs.Common.{Bool, true, false, cond, ◌≡◌, ℕ, List, [], ◌∷◌, ◌++◌, refl, ap, append_assoc}
use Rattle.lb_tok.specs.declared.kind.Kind.{Kind}
use Rattle.lb_tok.specs.Kinds.{names, has, spelling}
use Rattle.lb_tok.specs.Spacing.{Piece, mark, written, piece_text, begins_closing, ends_opening, Layout, gap, lay, laid}
use Rattle.lb_tok.specs.declared.token.Content.TheVariants as contents

pub laid-append : (l : Layout) (ps qs : List Piece) → laid l (ps ++ qs) ≡ laid (laid l ps) qs
laid-append l [] qs = refl
laid-append l (p ∷ ps) qs = laid-append (lay l p) ps qs

pub laid-cons : (l : Layout) (p : Piece) (qs : List Piece) → laid l (p ∷ qs) ≡ laid (laid l (p ∷ [])) qs
laid-cons l p qs = refl

pub laid-nil : (l : Layout) → laid l [] ≡ l
laid-nil l = refl

pub nil : (a : List ℕ) → a ++ [] ≡ a
nil [] = refl
nil (x ∷ a) = ap (λ (u : List ℕ). x ∷ u) (nil a)

-- how a keyword or a symbol is written
pub mark_text : (k : Kind) → piece_text (mark k) ≡ spelling k
mark_text k = go (has names k)
  where
    go : (b : Bool) → written k (cond b (contents.Word (spelling k)) contents.Nothing) ++ [] ≡ spelling k
    go true = nil (spelling k)
    go false = nil (spelling k)

-- a gap, and then the text of a piece
pub one_piece : (t one two body : List ℕ) (f c o : Bool) (p : Piece) → begins_closing p ≡ c → ends_opening p ≡ o → piece_text p ≡ body → one ≡ t ++ gap f c → two ≡ one ++ body
    → ◌≡◌ {A = Layout} (record { text = two; fresh = o }) (laid (record { text = t; fresh = f }) (p ∷ []))
unfolding lay
one_piece t one two body f c o p hc ho hb h k =
    let whole : two ≡ t ++ (gap f (begins_closing p) ++ piece_text p) = rw (k, h, hc, hb) (append_assoc t (gap f c) body) in
    rw (whole, ho) refl
