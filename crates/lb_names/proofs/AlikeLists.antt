-- Lists of parts that have the same types in two catalogues, at places where these agree.
use Rattle.std.proofs.Common.{ℕ, ◌≡◌, refl, ap, ◌∙◌, List, [], ◌∷◌, ◌++◌, true, false, cond, ◌&&◌, ◌||◌, not, Option, Some, None, map, Ok, length, ◌+◌}
use Rattle.std.specs.List.{list_any, list_all}
use Rattle.std.specs.Str.{bytes_eq}
use Rattle.lb_tree.specs.declared.query.Tab.{Tab}
use Rattle.lb_tree.specs.declared.query.Column.{Column}
use Rattle.lb_names.specs.declared.place.Seen.{Seen}
use Rattle.lb_names.specs.Sights.{Name, correlation, Sight, inside, level_in, at_level}
use Rattle.lb_names.specs.Kinds.{Kind, Common, with_kind}
use Rattle.lb_names.specs.Scopes.{Catalogue, is_some, listed, spot_of}
use Rattle.lb_names.specs.Typed.{next, ◌>>=◌, only_if}
use Rattle.lb_names.specs.Places.{Place, on_place, is_free, all_free}
use Rattle.lb_names.specs.Carriers.{Means, Says, Wanted, Shows, Joins, Chains, Arms, Choices, Role, Answers}
use Rattle.lb_names.specs.Parts.{kind_of_all, kind_of_any, kind_of_arm, kind_of_arms, and_kind, kinds_of_choice, kinds_of_choices, all_typed}
use Rattle.lb_names.specs.Expressions.{kind_found, is_total, is_sure}
use Rattle.lb_names.specs.Sure.{if_any, unless_any}
use Rattle.lb_names.specs.SelectLists.{column_kinds, fit, star_outputs, called, widths, rest_of, outputs_of, joins_typed, chains_typed}
use Rattle.lb_names.specs.Typing.{maybe_typed, no_label, group_typed}
use Rattle.lb_names.proofs.NamesFrame.{resolve_same}
use Rattle.lb_names.proofs.Sighted as s

module _ (C D : Catalogue) where
  -- the catalogues agree on all items in sight at the place
  abbrev pub SightAgrees : Sight → Type 0
  SightAgrees v = s.SeenAgree C D v.seen × s.SeenAgree C D v.own

  abbrev pub PlaceAgrees : Place → Type 0
  PlaceAgrees P = SightAgrees P.sight

  abbrev pub AlikeMeans : Means → Means → Type 0
  AlikeMeans m n = ((P : Place) → PlaceAgrees P → (at : ℕ) → m.kind P at ≡ n.kind P at) × ((m.total ≡ n.total) × (m.sure ≡ n.sure))

  abbrev pub AlikeSays : Says → Says → Type 0
  AlikeSays m n = ((P : Place) → PlaceAgrees P → (at : ℕ) → m.typed P at ≡ n.typed P at) × ((m.total ≡ n.total) × (m.sure ≡ n.sure))

  abbrev pub AlikeShows : Shows → Shows → Type 0
  AlikeShows m n = ((W : Wanted) (P : Place) → PlaceAgrees P → (at : ℕ) → m.outputs W P at ≡ n.outputs W P at) × (((own : List Seen) → s.SeenAgree C D own → m.width own ≡ n.width own) × (m.total ≡ n.total))

  abbrev pub AlikeArms : Arms → Arms → Type 0
  AlikeArms a b = AlikeSays a.when b.when × AlikeMeans a.result b.result

  abbrev pub AlikeChoices : Choices → Choices → Type 0
  AlikeChoices a b = AlikeMeans a.when b.when × AlikeMeans a.result b.result

  abbrev pub AlikeJoins : Joins → Joins → Type 0
  AlikeJoins j k = (j.marked.tab ≡ k.marked.tab) × ((C.columns j.marked.tab.table ≡ D.columns j.marked.tab.table) × ((P : Place) → PlaceAgrees P → (at : ℕ) → j.typed P at ≡ k.typed P at))

  abbrev pub AlikeChains : Chains → Chains → Type 0
  AlikeChains a b = (P : Place) → PlaceAgrees P → (all : List Name) (n : ℕ) → joins_typed P all (a.first ∷ []) a.joins n ≡ joins_typed P all (b.first ∷ []) b.joins n

  abbrev pub AlikeAnswers : Answers → Answers → Type 0
  AlikeAnswers a b = ((R : Role) (P : Place) → PlaceAgrees P → (at : ℕ) → a.kinds R P at ≡ b.kinds R P at) × ((R : Role) (P : Place) → PlaceAgrees P → (a.shown R P ≡ b.shown R P) × PlaceAgrees (a.shown R P))

  -- of two lists each and each
  abbrev pub Alls : {A B : Type 0} → (A → B → Type 0) → List A → List B → Type 0
  Alls R [] [] = Unit {0}
  Alls R (x ∷ xs) (y ∷ ys) = R x y × Alls R xs ys
  Alls R _ _ = ⊥

  abbrev pub Maybe : {A B : Type 0} → (A → B → Type 0) → Option A → Option B → Type 0
  Maybe R None None = Unit {0}
  Maybe R (Some x) (Some y) = R x y
  Maybe R _ _ = ⊥

  -- ---- places

  own_agrees : (n : ℕ) (tabs : List Tab) → s.TabsAgree C D tabs → s.SeenAgree C D (map (at_level n) tabs)
  own_agrees n [] h = tt
  own_agrees n (tab ∷ tabs) h = (h.0, own_agrees n tabs h.1)

  pub inside_agrees : (v : Sight) (tabs : List Tab) → s.TabsAgree C D tabs → SightAgrees v → SightAgrees (inside v tabs)
  inside_agrees v tabs h p = (s.seen_inside C D v tabs h p.0, own_agrees (level_in v.seen) tabs h)

  -- ---- parts

  pub kinds_all : (ms ns : List Means) → Alls AlikeMeans ms ns → (so_far : Common) (P : Place) → PlaceAgrees P → (n : ℕ) → kind_of_all so_far ms P n ≡ kind_of_all so_far ns P n
  kinds_all [] [] h so_far P p n = refl
  kinds_all (m ∷ ms) (k ∷ ks) h so_far P p n = λ i. h.0.0 P p n i >>= λ x. kinds_all ms ks h.1 (with_kind so_far x.0) P p x.1 i
  kinds_all [] (k ∷ ks) h so_far P p n = absurd h
  kinds_all (m ∷ ms) [] h so_far P p n = absurd h

  pub totals_all : (ms ns : List Means) → Alls AlikeMeans ms ns → list_any is_total ms ≡ list_any is_total ns
  totals_all [] [] h = refl
  totals_all (m ∷ ms) (k ∷ ks) h = λ i. h.0.1.0 i || totals_all ms ks h.1 i
  totals_all [] (k ∷ ks) h = absurd h
  totals_all (m ∷ ms) [] h = absurd h

  pub sures_all : (ms ns : List Means) → Alls AlikeMeans ms ns → list_all is_sure ms ≡ list_all is_sure ns
  sures_all [] [] h = refl
  sures_all (m ∷ ms) (k ∷ ks) h = λ i. h.0.1.1 i && sures_all ms ks h.1 i
  sures_all [] (k ∷ ks) h = absurd h
  sures_all (m ∷ ms) [] h = absurd h

  pub typed_all : (ms ns : List Says) → Alls AlikeSays ms ns → (P : Place) → PlaceAgrees P → (n : ℕ) → all_typed ms P n ≡ all_typed ns P n
  typed_all [] [] h P p n = refl
  typed_all (m ∷ ms) (k ∷ ks) h P p n = λ i. h.0.0 P p n i >>= λ x. typed_all ms ks h.1 P p x.1 i
  typed_all [] (k ∷ ks) h P p n = absurd h
  typed_all (m ∷ ms) [] h P p n = absurd h

  pub say_totals : (ms ns : List Says) → Alls AlikeSays ms ns → list_any (λ c. c.total) ms ≡ list_any (λ c. c.total) ns
  say_totals [] [] h = refl
  say_totals (m ∷ ms) (k ∷ ks) h = λ i. h.0.1.0 i || say_totals ms ks h.1 i
  say_totals [] (k ∷ ks) h = absurd h
  say_totals (m ∷ ms) [] h = absurd h

  pub say_sures : (ms ns : List Says) → Alls AlikeSays ms ns → list_all (λ c. c.sure) ms ≡ list_all (λ c. c.sure) ns
  say_sures [] [] h = refl
  say_sures (m ∷ ms) (k ∷ ks) h = λ i. h.0.1.1 i && say_sures ms ks h.1 i
  say_sures [] (k ∷ ks) h = absurd h
  say_sures (m ∷ ms) [] h = absurd h

  -- ---- WHEN and THEN

  arm_same : (a b : Arms) → AlikeArms a b → (P : Place) → PlaceAgrees P → (n : ℕ) → kind_of_arm a P n ≡ kind_of_arm b P n
  unfolding kind_of_arm
  arm_same a b h P p n = λ i. h.0.0 P p n i >>= λ x. h.1.0 P p x.1 i

  pub arms_all : (ms ns : List Arms) → Alls AlikeArms ms ns → (so_far : Common) (P : Place) → PlaceAgrees P → (n : ℕ) → kind_of_arms so_far ms P n ≡ kind_of_arms so_far ns P n
  arms_all [] [] h so_far P p n = refl
  arms_all (m ∷ ms) (k ∷ ks) h so_far P p n = λ i. arm_same m k h.0 P p n i >>= λ x. arms_all ms ks h.1 (with_kind so_far x.0) P p x.1 i
  arms_all [] (k ∷ ks) h so_far P p n = absurd h
  arms_all (m ∷ ms) [] h so_far P p n = absurd h

  pub arm_totals : (ms ns : List Arms) → Alls AlikeArms ms ns → list_any (λ a. a.when.total || a.result.total) ms ≡ list_any (λ a. a.when.total || a.result.total) ns
  arm_totals [] [] h = refl
  arm_totals (m ∷ ms) (k ∷ ks) h = λ i. (h.0.0.1.0 i || h.0.1.1.0 i) || arm_totals ms ks h.1 i
  arm_totals [] (k ∷ ks) h = absurd h
  arm_totals (m ∷ ms) [] h = absurd h

  pub arm_sures : (ms ns : List Arms) → Alls AlikeArms ms ns → list_all (λ a. a.when.sure && a.result.sure) ms ≡ list_all (λ a. a.when.sure && a.result.sure) ns
  arm_sures [] [] h = refl
  arm_sures (m ∷ ms) (k ∷ ks) h = λ i. (h.0.0.1.1 i && h.0.1.1.1 i) && arm_sures ms ks h.1 i
  arm_sures [] (k ∷ ks) h = absurd h
  arm_sures (m ∷ ms) [] h = absurd h

  choice_same : (a b : Choices) → AlikeChoices a b → (P : Place) → PlaceAgrees P → (n : ℕ) → kinds_of_choice a P n ≡ kinds_of_choice b P n
  unfolding kinds_of_choice and_kind
  choice_same a b h P p n = λ i. h.0.0 P p n i >>= λ x. (h.1.0 P p x.1 i >>= λ y. Ok ((x.0, y.0), y.1))

  pub choices_all : (ms ns : List Choices) → Alls AlikeChoices ms ns → (operands results : Common) (P : Place) → PlaceAgrees P → (n : ℕ) → kinds_of_choices operands results ms P n ≡ kinds_of_choices operands results ns P n
  choices_all [] [] h operands results P p n = refl
  choices_all (m ∷ ms) (k ∷ ks) h operands results P p n = λ i. choice_same m k h.0 P p n i >>= λ x. choices_all ms ks h.1 (with_kind operands x.0.0) (with_kind results x.0.1) P p x.1 i
  choices_all [] (k ∷ ks) h operands results P p n = absurd h
  choices_all (m ∷ ms) [] h operands results P p n = absurd h

  pub choice_totals : (ms ns : List Choices) → Alls AlikeChoices ms ns → list_any (λ a. a.when.total || a.result.total) ms ≡ list_any (λ a. a.when.total || a.result.total) ns
  choice_totals [] [] h = refl
  choice_totals (m ∷ ms) (k ∷ ks) h = λ i. (h.0.0.1.0 i || h.0.1.1.0 i) || choice_totals ms ks h.1 i
  choice_totals [] (k ∷ ks) h = absurd h
  choice_totals (m ∷ ms) [] h = absurd h

  pub choice_sures : (ms ns : List Choices) → Alls AlikeChoices ms ns → list_all (λ a. a.when.sure && a.result.sure) ms ≡ list_all (λ a. a.when.sure && a.result.sure) ns
  choice_sures [] [] h = refl
  choice_sures (m ∷ ms) (k ∷ ks) h = λ i. (h.0.0.1.1 i && h.0.1.1.1 i) && choice_sures ms ks h.1 i
  choice_sures [] (k ∷ ks) h = absurd h
  choice_sures (m ∷ ms) [] h = absurd h

  -- ---- parts that may be missing

  pub any_kind : (m n : Option Means) → Maybe AlikeMeans m n → (so_far : Common) (P : Place) → PlaceAgrees P → (at : ℕ) → kind_of_any so_far m P at ≡ kind_of_any so_far n P at
  any_kind None None h so_far P p at = refl
  any_kind (Some m) (Some n) h so_far P p at = λ i. h.0 P p at i >>= λ x. Ok (with_kind so_far x.0, x.1)
  any_kind None (Some n) h so_far P p at = absurd h
  any_kind (Some m) None h so_far P p at = absurd h

  pub any_total : (m n : Option Means) → Maybe AlikeMeans m n → if_any is_total m ≡ if_any is_total n
  any_total None None h = refl
  any_total (Some m) (Some n) h = h.1.0
  any_total None (Some n) h = absurd h
  any_total (Some m) None h = absurd h

  pub any_sure : (m n : Option Means) → Maybe AlikeMeans m n → unless_any is_sure m ≡ unless_any is_sure n
  any_sure None None h = refl
  any_sure (Some m) (Some n) h = h.1.1
  any_sure None (Some n) h = absurd h
  any_sure (Some m) None h = absurd h

  pub maybe_same : (m n : Option Says) → Maybe AlikeSays m n → (P : Place) → PlaceAgrees P → (at : ℕ) → maybe_typed m P at ≡ maybe_typed n P at
  maybe_same None None h P p at = refl
  maybe_same (Some m) (Some n) h P p at = h.0 P p at
  maybe_same None (Some n) h P p at = absurd h
  maybe_same (Some m) None h P p at = absurd h

  pub is_some_same : (m n : Option Says) → Maybe AlikeSays m n → is_some m ≡ is_some n
  is_some_same None None h = refl
  is_some_same (Some m) (Some n) h = refl
  is_some_same None (Some n) h = absurd h
  is_some_same (Some m) None h = absurd h

  -- ---- select lists

  free_of_same : (P : Place) (items : List Seen) → s.SeenAgree C D items → all_free P C items ≡ all_free P D items
  free_of_same P [] h = refl
  free_of_same P (t ∷ items) h = λ i. list_all (λ f. is_free P (spot_of t f.name)) (listed (h.0 i)) && free_of_same P items h.1 i

  kinds_same : (items : List Seen) → s.SeenAgree C D items → column_kinds C items ≡ column_kinds D items
  kinds_same [] h = refl
  kinds_same (t ∷ items) h = λ i. map (λ f. f.kind) (listed (h.0 i)) ++ kinds_same items h.1 i

  pub called_agrees : (x : Name) (items : List Seen) → s.SeenAgree C D items → s.SeenAgree C D (called x items)
  called_agrees x [] h = tt
  called_agrees x (t ∷ items) h =
      elim (bytes_eq (correlation t.tab) x) as (λ b. s.SeenAgree C D (cond b (t ∷ called x items) (called x items))) [
        | true ↦ (h.0, called_agrees x items h.1)
        | false ↦ called_agrees x items h.1
      ]

  pub star_same : (items : List Seen) → s.SeenAgree C D items → (W : Wanted) (P : Place) (at : ℕ) → star_outputs C items W P at ≡ star_outputs D items W P at
  star_same items h W P at = λ i. only_if (not (P.stored && (W.one || W.grouped)) && (free_of_same P items h i && fit W (kinds_same items h i))) at (kinds_same items h i, next at)

  pub width_same : (items : List Seen) → s.SeenAgree C D items → length (column_kinds C items) ≡ length (column_kinds D items)
  width_same items h = ap (λ ks. length ks) (kinds_same items h)

  pub widths_all : (ms ns : List Shows) → Alls AlikeShows ms ns → (own : List Seen) → s.SeenAgree C D own → widths ms own ≡ widths ns own
  widths_all [] [] h own o = refl
  widths_all (m ∷ ms) (k ∷ ks) h own o = λ i. h.0.1.0 own o i + widths_all ms ks h.1 own o i
  widths_all [] (k ∷ ks) h own o = absurd h
  widths_all (m ∷ ms) [] h own o = absurd h

  pub show_totals : (ms ns : List Shows) → Alls AlikeShows ms ns → list_any (λ c. c.total) ms ≡ list_any (λ c. c.total) ns
  show_totals [] [] h = refl
  show_totals (m ∷ ms) (k ∷ ks) h = λ i. h.0.1.1 i || show_totals ms ks h.1 i
  show_totals [] (k ∷ ks) h = absurd h
  show_totals (m ∷ ms) [] h = absurd h

  pub outputs_all : (ms ns : List Shows) → Alls AlikeShows ms ns → (so_far : List Kind) (W : Wanted) (P : Place) → PlaceAgrees P → (n : ℕ) → outputs_of ms so_far W P n ≡ outputs_of ns so_far W P n
  outputs_all [] [] h so_far W P p n = refl
  outputs_all (m ∷ ms) (k ∷ ks) h so_far W P p n = λ i. h.0.0 W P p n i >>= λ x. outputs_all ms ks h.1 (so_far ++ x.0) (record W { kinds = rest_of W.kinds (length x.0) }) P p x.1 i
  outputs_all [] (k ∷ ks) h so_far W P p n = absurd h
  outputs_all (m ∷ ms) [] h so_far W P p n = absurd h

  -- ---- FROM and GROUP BY

  pub joins_all : (js ks : List Joins) → Alls AlikeJoins js ks → (P : Place) → PlaceAgrees P → (all : List Name) (tabs : List Tab) → s.TabsAgree C D tabs → (n : ℕ) → joins_typed P all tabs js n ≡ joins_typed P all tabs ks n
  joins_all [] [] h P p all tabs t n = refl
  joins_all (j ∷ js) (k ∷ ks) h P p all tabs t n =
      let more : s.TabsAgree C D (tabs ++ j.marked.tab ∷ []) = s.tabs_both C D tabs (j.marked.tab ∷ []) t (h.0.1.0, tt) in
      (λ i. h.0.1.1 (on_place P all (tabs ++ j.marked.tab ∷ [])) (inside_agrees P.sight (tabs ++ j.marked.tab ∷ []) more p) n i >>= λ x. joins_all js ks h.1 P p all (tabs ++ j.marked.tab ∷ []) more x.1 i)
      ∙ (λ i. k.typed (on_place P all (tabs ++ h.0.0 i ∷ [])) n >>= λ x. joins_typed P all (tabs ++ h.0.0 i ∷ []) ks x.1)
  joins_all [] (k ∷ ks) h P p all tabs t n = absurd h
  joins_all (j ∷ js) [] h P p all tabs t n = absurd h

  pub chains_all : (cs ds : List Chains) → Alls AlikeChains cs ds → (P : Place) → PlaceAgrees P → (all : List Name) (n : ℕ) → chains_typed P all cs n ≡ chains_typed P all ds n
  chains_all [] [] h P p all n = refl
  chains_all (c ∷ cs) (d ∷ ds) h P p all n = λ i. h.0 P p all n i >>= λ x. chains_all cs ds h.1 P p all x.1 i
  chains_all [] (d ∷ ds) h P p all n = absurd h
  chains_all (c ∷ cs) [] h P p all n = absurd h

  pub group_same : (P : Place) → PlaceAgrees P → (cs : List Column) (n : ℕ) → group_typed C P cs n ≡ group_typed D P cs n
  group_same P p [] n = refl
  group_same P p (c ∷ cs) n = λ i. kind_found P n (resolve_same C D P.sight.seen p.0 c i) >>= no_label n >>= λ x. group_same P p cs x.1 i
