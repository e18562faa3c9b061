-- The columns that a write names, as names and types know them and as the table has them.
use Rattle.std.proofs.Common.{ℕ, suc, ◌+◌, ◌≡◌, refl, sym, subst, ap, ◌∙◌, Bool, true, false, cond, ◌⊎◌, inl, inr, List, [], ◌∷◌, ◌++◌, map, slice_get, Option, Some, None, Ok, Err, arith}
use Rattle.std.specs.List.{AllZip, position_from, cons_option}
use Rattle.std.specs.Str.{bytes_eq}
use Rattle.lb_base.specs.declared.key.Ty.{Ty}
use Rattle.lb_base.specs.declared.value.Value.{Value}
use Rattle.lb_base.specs.Evaluated.{Evaluated, ◌>>=◌, each}
use Rattle.lb_cat.specs.declared.catalog.ColumnRec.{ColumnRec}
use Rattle.lb_cat.specs.Catalog.{Cat, Table, policy_named, is_column}
use Rattle.lb_names.specs.Kinds.{Kind, kind_of}
use Rattle.lb_names.specs.Scopes.{Field, field_named}
use Rattle.lb_names.specs.Statements.{given, kind_in, kinds_wanted}
use Rattle.lb_answer.specs.Answer.{places_of, places_given}
use Rattle.lb_kinds.specs.HasKind.{HasKind, GivesKind, IfResult}
use Rattle.lb_kinds.specs.Settings.{SameColumn}
use Rattle.lb_fits.specs.Given.{FitsKindIfThere, FitsPlace, ArePlaced}

-- a name that neither knows
pub record Missing (fields : List Field) (columns : List ColumnRec) (n : List ℕ) (at : ℕ) : Type 0 where
  pub named : field_named n fields ≡ None
  pub placed : position_from (is_column n) at columns ≡ None

-- a column that both know
pub record Column (fields : List Field) (columns : List ColumnRec) (n : List ℕ) (at : ℕ) : Type 0 where
  pub field : Field
  pub place : ℕ
  pub ahead : ℕ
  pub column : ColumnRec
  pub named : field_named n fields ≡ Some field
  pub placed : position_from (is_column n) at columns ≡ Some place
  pub is : place ≡ at + ahead
  pub there : slice_get columns ahead ≡ Some column
  pub kind : field.kind ≡ kind_of column.ty

add_zero : (a : ℕ) → a ≡ a + 0
add_zero a = omega arith

step_on : (at p k : ℕ) → p ≡ (at + 1) + k → p ≡ at + suc k
step_on at p k e = omega (arith, e)

no_more : (a p : ℕ) → p ≡ 0 + a → a ≡ p
no_more a p e = omega (arith, e)

look_on : (b : Bool) (f : Field) (c : ColumnRec) (fields : List Field) (columns : List ColumnRec) (n : List ℕ) (at : ℕ) → bytes_eq f.name n ≡ b → bytes_eq c.name n ≡ b → f.kind ≡ kind_of c.ty
    → Missing fields columns n (at + 1) ⊎ Column fields columns n (at + 1) → Missing (f ∷ fields) (c ∷ columns) n at ⊎ Column (f ∷ fields) (c ∷ columns) n at
look_on true f c fields columns n at e g k rest = inr (record {
  field = f;
  place = at;
  ahead = 0;
  column = c;
  named = ap (λ (b : Bool). cond b (Some f) (field_named n fields)) e;
  placed = ap (λ (b : Bool). cond b (Some at) (position_from (is_column n) (at + 1) columns)) g;
  is = add_zero at;
  there = refl;
  kind = k;
})
look_on false f c fields columns n at e g k (inl m) = inl (record {
  named = ap (λ (b : Bool). cond b (Some f) (field_named n fields)) e ∙ m.named;
  placed = ap (λ (b : Bool). cond b (Some at) (position_from (is_column n) (at + 1) columns)) g ∙ m.placed;
})
look_on false f c fields columns n at e g k (inr m) = inr (record {
  field = m.field;
  place = m.place;
  ahead = suc m.ahead;
  column = m.column;
  named = ap (λ (b : Bool). cond b (Some f) (field_named n fields)) e ∙ m.named;
  placed = ap (λ (b : Bool). cond b (Some at) (position_from (is_column n) (at + 1) columns)) g ∙ m.placed;
  is = step_on at m.place m.ahead m.is;
  there = m.there;
  kind = m.kind;
})

pub look : (fields : List Field) (columns : List ColumnRec) → AllZip SameColumn fields columns → (n : List ℕ) (at : ℕ) → Missing fields columns n at ⊎ Column fields columns n at
look [] [] h n at = inl (record { named = refl; placed = refl })
look [] (c ∷ columns) h n at = absurd h
look (f ∷ fields) [] h n at = absurd h
look (f ∷ fields) (c ∷ columns) h n at =
    look_on (bytes_eq f.name n) f c fields columns n at refl (ap (λ (m : List ℕ). bytes_eq m n) h.0.0) h.0.1 (look fields columns h.1 n (at + 1))

-- the place has a column of the type
pub record Holds (t : Table) (ty : Ty) (at : ℕ) : Type 0 where
  pub column : ColumnRec
  pub there : slice_get t.columns at ≡ Some column
  pub type : column.ty ≡ ty

pub holds : (t : Table) (fields : List Field) (n : List ℕ) → (c : Column fields t.columns n 0) → Holds t c.column.ty c.place
holds t fields n c = record { column = c.column; there = subst (λ (k : ℕ). slice_get t.columns k ≡ Some c.column) (no_more c.ahead c.place c.is) c.there; type = refl }

-- the types of the columns that are named
pub record Targets (t : Table) (fields : List Field) (names : List (List ℕ)) : Type 0 where
  pub tys : List Ty
  pub kinds : kinds_wanted fields names ≡ map kind_of tys
  pub places : AllZip (Holds t) tys (places_of t names)

targets_on : (t : Table) (fields : List Field) (n : List ℕ) (ns : List (List ℕ)) → Missing fields t.columns n 0 ⊎ Column fields t.columns n 0 → Targets t fields ns → Targets t fields (n ∷ ns)
targets_on t fields n ns (inl m) r = record {
  tys = r.tys;
  kinds = λ i. kind_in (m.named i) ++ r.kinds i;
  places = subst (λ (o : Option ℕ). AllZip (Holds t) r.tys (cons_option o (places_of t ns))) (sym m.placed) r.places;
}
targets_on t fields n ns (inr c) r = record {
  tys = c.column.ty ∷ r.tys;
  kinds = (λ i. kind_in (c.named i) ++ r.kinds i) ∙ ap (λ (k : Kind). k ∷ map kind_of r.tys) c.kind;
  places = subst (λ (o : Option ℕ). AllZip (Holds t) (c.column.ty ∷ r.tys) (cons_option o (places_of t ns))) (sym c.placed) (holds t fields n c, r.places);
}

pub targets : (t : Table) (fields : List Field) → AllZip SameColumn fields t.columns → (names : List (List ℕ)) → Targets t fields names
targets t fields h [] = record { tys = []; kinds = refl; places = tt }
targets t fields h (n ∷ ns) = targets_on t fields n ns (look fields t.columns h n 0) (targets t fields h ns)

same_names : (fields : List Field) (columns : List ColumnRec) → AllZip SameColumn fields columns → map (λ f. f.name) fields ≡ map (λ c. c.name) columns
same_names [] [] h = refl
same_names [] (c ∷ columns) h = absurd h
same_names (f ∷ fields) [] h = absurd h
same_names (f ∷ fields) (c ∷ columns) h = λ i. sym h.0.0 i ∷ same_names fields columns h.1 i

pub same_given : (t : Table) (fields : List Field) → AllZip SameColumn fields t.columns → (names : Option (List (List ℕ))) → places_of t (given fields names) ≡ places_given t names
same_given t fields h None = ap (places_of t) (same_names fields t.columns h)
same_given t fields h (Some names) = refl

-- ---- values for these places

module _ (C : Cat) (t : Table) where
  pub place_fits : (ty : Ty) (at : ℕ) (v : Value) → Holds t ty at → HasKind (policy_named C) (kind_of ty) v → FitsPlace C t at v
  place_fits ty at v h g = subst (λ (o : Option ColumnRec). FitsKindIfThere C o v) (sym h.there) (subst (λ (x : Ty). HasKind (policy_named C) (kind_of x) v) (sym h.type) g)

  pub row_placed : (tys : List Ty) (places : List ℕ) (row : List Value) → AllZip (Holds t) tys places → AllZip (λ ty v. HasKind (policy_named C) (kind_of ty) v) tys row → ArePlaced C t places row
  row_placed [] [] [] h g = tt
  row_placed [] [] (v ∷ row) h g = absurd g
  row_placed [] (at ∷ places) row h g = absurd h
  row_placed (ty ∷ tys) [] row h g = absurd h
  row_placed (ty ∷ tys) (at ∷ places) [] h g = absurd g
  row_placed (ty ∷ tys) (at ∷ places) (v ∷ row) h g = (place_fits ty at v h.0 g.0, row_placed tys places row h.1 g.1)

  pub none_placed : (places : List ℕ) → ArePlaced C t places []
  none_placed [] = tt
  none_placed (at ∷ places) = tt

  pub value_placed : (ty : Ty) (at : ℕ) (out : Evaluated Value) → Holds t ty at → GivesKind (policy_named C) (kind_of ty) out → IfResult (FitsPlace C t at) out
  value_placed ty at (Ok v) h g = place_fits ty at v h g
  value_placed ty at (Err e) h g = tt

  pub one_more : (at : ℕ) (places : List ℕ) (out : Evaluated Value) (rest : Evaluated (List Value)) → IfResult (FitsPlace C t at) out → IfResult (ArePlaced C t places) rest → IfResult (ArePlaced C t (at ∷ places)) (out >>= λ v. rest >>= λ vs. Ok (v ∷ vs))
  one_more at places (Ok v) (Ok vs) g h = (g, h)
  one_more at places (Ok v) (Err e) g h = tt
  one_more at places (Err e) rest g h = tt

  pub each_placed : (tys : List Ty) (places : List ℕ) (outs : List (Evaluated Value)) → AllZip (Holds t) tys places → AllZip (λ ty out. GivesKind (policy_named C) (kind_of ty) out) tys outs → IfResult (ArePlaced C t places) (each outs)
  each_placed [] [] [] h g = tt
  each_placed [] [] (out ∷ outs) h g = absurd g
  each_placed [] (at ∷ places) outs h g = absurd h
  each_placed (ty ∷ tys) [] outs h g = absurd h
  each_placed (ty ∷ tys) (at ∷ places) [] h g = absurd g
  each_placed (ty ∷ tys) (at ∷ places) (out ∷ outs) h g = one_more at places out (each outs) (value_placed ty at out h.0 g.0) (each_placed tys places outs h.1 g.1)
