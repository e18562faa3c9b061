-- A column that is qualified means at a like sight what it meant: the same column of the same item.
use Rattle.std.proofs.Common.{ℕ, ◌≡◌, refl, ap, sym, subst, ◌∙◌, List, [], ◌∷◌, ◌++◌, Bool, true, false, cond, ◌&&◌, ◌||◌, ◌==◌, not, Option, Some, None, map, Ok, Err, length}
use Rattle.std.specs.List.{list_any, list_all}
use Rattle.std.specs.Str.{bytes_eq}
use Rattle.lb_tree.specs.declared.query.Column.{Column}
use Rattle.lb_names.specs.declared.place.Seen.{Seen}
use Rattle.lb_names.specs.Sights.{Name, correlation, Sight}
use Rattle.lb_names.specs.Marks.{Mark, enter, item, column, star, call, Marks}
use Rattle.lb_names.specs.Scopes.{Field, Catalogue, Resolved, listed, columns_of, field_named, has_column, found_in, column_of, qualified, is_shared, unqualified, resolved_as, resolve, spots}
use Rattle.lb_names.specs.Passes.{is_at, is_own, all_own}
use Rattle.lb_names.specs.Qualify.{by_item, with_item}
use Rattle.lb_names.specs.Typed.{next, only_if}
use Rattle.lb_names.specs.Places.{Place, is_free, all_free}
use Rattle.lb_names.specs.Carriers.{Wanted}
use Rattle.lb_names.specs.Expressions.{kind_found}
use Rattle.lb_names.specs.SelectLists.{column_kinds, fit, star_outputs, called}
use Rattle.lb_names.specs.Laws.{are_apart}
use Rattle.lb_names.proofs.Apart.{IsApart, AllApart}
use Rattle.lb_names.proofs.FormLists.{at_sight}
use Rattle.lb_names.proofs.FormMarks.{MarkLike, MarksLike}
use Rattle.lb_names.proofs.LikeSights.{SeenLike, SeenLikes}
use Rattle.lb_names.proofs.Stays.{column_stays}

pub before : (xs ys : Marks) → AllApart (xs ++ ys) → AllApart xs
before [] ys h = tt
before (x ∷ xs) ys h = (h.0, before xs ys h.1)

pub after : (xs ys : Marks) → AllApart (xs ++ ys) → AllApart ys
after [] ys h = h
after (x ∷ xs) ys h = after xs ys h.1

module _ (C : Catalogue) where
  -- the same field of like items, or unknown names both
  abbrev pub ResolvedLike : Resolved → Resolved → Type 0
  ResolvedLike (Ok x) (Ok y) = SeenLike x.item y.item × (x.field ≡ y.field)
  ResolvedLike (Err m) (Err n) = Unit {0}
  ResolvedLike _ _ = ⊥

  found_like : (n : Name) (s t : Seen) → SeenLike s t → (o : Option Field) → ResolvedLike (found_in n s o) (found_in n t o)
  found_like n s t h None = tt
  found_like n s t h (Some f) = (h, refl)

  column_like : (n : Name) (s t : Seen) → SeenLike s t → ResolvedLike (column_of C n s) (column_of C n t)
  column_like n s t h = subst (λ z. ResolvedLike (column_of C n s) (found_in n t (field_named n (listed (C.columns z))))) h.1.0 (found_like n s t h (field_named n (columns_of C s.tab)))

  -- one of two, by conditions that are the same
  choose_like : (a b : Bool) → a ≡ b → (q r q2 r2 : Resolved) → ResolvedLike q q2 → ResolvedLike r r2 → ResolvedLike (cond a q r) (cond b q2 r2)
  choose_like a b e q r q2 r2 h k =
      subst (λ z. ResolvedLike (cond a q r) (cond z q2 r2)) e
      (elim a as (λ z. ResolvedLike (cond z q r) (cond z q2 r2)) [
        | true ↦ h
        | false ↦ k
      ])

  qualified_like : (y n : Name) (seen others : List Seen) → SeenLikes seen others → ResolvedLike (qualified C y n seen) (qualified C y n others)
  qualified_like y n [] [] h = tt
  qualified_like y n (s ∷ seen) (t ∷ others) h =
      choose_like (bytes_eq (correlation s.tab) y) (bytes_eq (correlation t.tab) y) (ap (λ z. bytes_eq z y) h.0.1.1) (column_of C n s) (qualified C y n seen) (column_of C n t) (qualified C y n others) (column_like n s t h.0) (qualified_like y n seen others h.1)
  qualified_like y n [] (t ∷ others) h = absurd h
  qualified_like y n (s ∷ seen) [] h = absurd h

  has_like : (n : Name) (s t : Seen) → SeenLike s t → has_column C n s ≡ has_column C n t
  has_like n s t h = λ i. list_any (λ f. bytes_eq f.name n) (listed (C.columns (h.1.0 i)))

  shared_like : (n : Name) (level other : ℕ) → level ≡ other → (seen others : List Seen) → SeenLikes seen others → is_shared C n level seen ≡ is_shared C n other others
  shared_like n level other e [] [] h = refl
  shared_like n level other e (s ∷ seen) (t ∷ others) h = λ i. ((h.0.0 i == e i) && has_like n s t h.0 i) || shared_like n level other e seen others h.1 i
  shared_like n level other e [] (t ∷ others) h = absurd h
  shared_like n level other e (s ∷ seen) [] h = absurd h

  unqualified_like : (n : Name) (seen others : List Seen) → SeenLikes seen others → ResolvedLike (unqualified C n seen) (unqualified C n others)
  unqualified_like n [] [] h = tt
  unqualified_like n (s ∷ seen) (t ∷ others) h =
      choose_like (has_column C n s) (has_column C n t) (has_like n s t h.0) (cond (is_shared C n s.level seen) (Err n) (column_of C n s)) (unqualified C n seen) (cond (is_shared C n t.level others) (Err n) (column_of C n t)) (unqualified C n others)
      (choose_like (is_shared C n s.level seen) (is_shared C n t.level others) (shared_like n s.level t.level h.0.0 seen others h.1) (Err n) (column_of C n s) (Err n) (column_of C n t) tt (column_like n s t h.0)) (unqualified_like n seen others h.1)
  unqualified_like n [] (t ∷ others) h = absurd h
  unqualified_like n (s ∷ seen) [] h = absurd h

  named_like : (o : Option Name) (n : Name) (seen others : List Seen) → SeenLikes seen others → ResolvedLike (resolved_as C o n seen) (resolved_as C o n others)
  named_like None n seen others h = unqualified_like n seen others h
  named_like (Some y) n seen others h = qualified_like y n seen others h

  form_like : (seen others : List Seen) → SeenLikes seen others → are_apart seen ≡ true → (c : Column) (r : Resolved) → resolve C seen c ≡ r → ResolvedLike r (resolve C others (by_item c r))
  form_like seen others h a c (Ok x) e =
      let d : Column = by_item c (Ok x) in
      subst (λ r. ResolvedLike r (resolve C others d)) (ap (λ z. resolve C seen (by_item c z)) (sym e) ∙ column_stays C seen c x a e) (named_like d.correlation d.name seen others h)
  form_like seen others h a c (Err n) e = subst (λ r. ResolvedLike r (resolve C others c)) e (named_like c.correlation c.name seen others h)

  -- a column and its qualified form
  pub resolve_like : (seen others : List Seen) → SeenLikes seen others → are_apart seen ≡ true → (c : Column) → ResolvedLike (resolve C seen c) (resolve C others (with_item C seen c))
  resolve_like seen others h a c = form_like seen others h a c (resolve C seen c) refl

  -- ---- what is said of a column

  pub kind_like : (v w : Sight) (q r : Resolved) → ResolvedLike q r → (P : Place) (at : ℕ) → kind_found (at_sight P v) at q ≡ kind_found (at_sight P w) at r
  kind_like v w (Ok x) (Ok y) h P at = λ i. only_if (is_free P (record { level = h.0.0 i; correlation = h.0.1.1 i; column = (h.1 i).name })) at ((h.1 i).kind, next at)
  kind_like v w (Err m) (Err n) h P at = refl
  kind_like v w (Ok x) (Err n) h P at = absurd h
  kind_like v w (Err m) (Ok y) h P at = absurd h

  pub spots_like : (q r : Resolved) → ResolvedLike q r → spots q ≡ spots r
  spots_like (Ok x) (Ok y) h = λ i. record { level = h.0.0 i; correlation = h.0.1.1 i; column = (h.1 i).name } ∷ []
  spots_like (Err m) (Err n) h = refl
  spots_like (Ok x) (Err n) h = absurd h
  spots_like (Err m) (Ok y) h = absurd h

  at_like : (n m : ℕ) → n ≡ m → (q r : Resolved) → ResolvedLike q r → is_at n q ≡ is_at m r
  at_like n m e (Ok x) (Ok y) h = λ i. h.0.0 i == e i
  at_like n m e (Err a) (Err b) h = refl
  at_like n m e (Ok x) (Err b) h = absurd h
  at_like n m e (Err a) (Ok y) h = absurd h

  own_mark : (n m : ℕ) → n ≡ m → (a b : Mark) → MarkLike C a b → IsApart a → is_own C n a ≡ is_own C m b
  own_mark n m e (enter items) (enter others) h p = refl
  own_mark n m e (item before around tab) (item names outer other) h p = refl
  own_mark n m e (column seen c) (column others d) h p = at_like n m e (resolve C seen c) (resolve C others (with_item C seen c)) (resolve_like seen others h.0 p c) ∙ ap (λ z. is_at m (resolve C others z)) (sym h.1)
  own_mark n m e (star items x) (star others y) h p = refl
  own_mark n m e (call a) (call b) h p = refl
  own_mark n m e a b h p = absurd h

  -- the columns of one's own query are those of the other's
  pub own_like : (n m : ℕ) → n ≡ m → (ms ns : Marks) → MarksLike C ms ns → AllApart ms → all_own C n ms ≡ all_own C m ns
  own_like n m e [] [] h p = refl
  own_like n m e (a ∷ ms) (b ∷ ns) h p = λ i. own_mark n m e a b h.0 p.0 i && own_like n m e ms ns h.1 p.1 i
  own_like n m e [] (b ∷ ns) h p = absurd h
  own_like n m e (a ∷ ms) [] h p = absurd h

  -- ---- all columns of like items

  free_like : (v w : Sight) (P : Place) (items others : List Seen) → SeenLikes items others → all_free (at_sight P v) C items ≡ all_free (at_sight P w) C others
  free_like v w P [] [] h = refl
  free_like v w P (s ∷ items) (t ∷ others) h = λ i. list_all (λ f. is_free P (record { level = h.0.0 i; correlation = h.0.1.1 i; column = f.name })) (listed (C.columns (h.0.1.0 i))) && free_like v w P items others h.1 i
  free_like v w P [] (t ∷ others) h = absurd h
  free_like v w P (s ∷ items) [] h = absurd h

  kinds_like : (items others : List Seen) → SeenLikes items others → column_kinds C items ≡ column_kinds C others
  kinds_like [] [] h = refl
  kinds_like (s ∷ items) (t ∷ others) h = λ i. map (λ f. f.kind) (listed (C.columns (h.0.1.0 i))) ++ kinds_like items others h.1 i
  kinds_like [] (t ∷ others) h = absurd h
  kinds_like (s ∷ items) [] h = absurd h

  pub called_likes : (x : Name) (items others : List Seen) → SeenLikes items others → SeenLikes (called x items) (called x others)
  called_likes x [] [] h = tt
  called_likes x (s ∷ items) (t ∷ others) h =
      subst (λ z. SeenLikes (called x (s ∷ items)) (cond (bytes_eq z x) (t ∷ called x others) (called x others))) h.0.1.1
      (elim (bytes_eq (correlation s.tab) x) as (λ b. SeenLikes (cond b (s ∷ called x items) (called x items)) (cond b (t ∷ called x others) (called x others))) [
        | true ↦ (h.0, called_likes x items others h.1)
        | false ↦ called_likes x items others h.1
      ])
  called_likes x [] (t ∷ others) h = absurd h
  called_likes x (s ∷ items) [] h = absurd h

  pub star_like : (v w : Sight) (items others : List Seen) → SeenLikes items others → (W : Wanted) (P : Place) (at : ℕ) → star_outputs C items W (at_sight P v) at ≡ star_outputs C others W (at_sight P w) at
  star_like v w items others h W P at = λ i. only_if (not (P.stored && (W.one || W.grouped)) && (free_like v w P items others h i && fit W (kinds_like items others h i))) at (kinds_like items others h i, next at)

  pub width_like : (items others : List Seen) → SeenLikes items others → length (column_kinds C items) ≡ length (column_kinds C others)
  width_like items others h = ap (λ ks. length ks) (kinds_like items others h)
