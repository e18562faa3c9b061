-- Lists of parts whose types at one sight are those of other parts at another: their types are the same too.
use Rattle.std.proofs.Common.{ℕ, ◌≡◌, refl, List, [], ◌∷◌, ◌++◌, ◌&&◌, ◌||◌, Option, Some, None, Ok, length, ◌+◌}
use Rattle.std.specs.List.{list_any, list_all}
use Rattle.lb_names.specs.Sights.{Name, Sight}
use Rattle.lb_names.specs.Kinds.{Kind, Common, with_kind}
use Rattle.lb_names.specs.Scopes.{is_some}
use Rattle.lb_names.specs.Typed.{◌>>=◌}
use Rattle.lb_names.specs.Places.{Place}
use Rattle.lb_names.specs.Carriers.{Chains, Means, Says, Wanted, Shows, Joins, Arms, Choices, Role, Answers}
use Rattle.lb_names.specs.Parts.{kind_of_all, kind_of_any, kind_of_arm, kind_of_arms, and_kind, kinds_of_choice, kinds_of_choices, all_typed}
use Rattle.lb_names.specs.Expressions.{is_total, is_sure}
use Rattle.lb_names.specs.Sure.{if_any, unless_any}
use Rattle.lb_names.specs.SelectLists.{joins_typed, widths, rest_of, outputs_of}
use Rattle.lb_names.specs.Typing.{maybe_typed}

-- the place with something else in sight
abbrev pub at_sight : Place → Sight → Place
at_sight P v = record P { sight = v }

-- of two lists each and each
abbrev pub Alls : {A B : Type 0} → (A → B → Type 0) → List A → List B → Type 0
Alls R [] [] = Unit {0}
Alls R (x ∷ xs) (y ∷ ys) = R x y × Alls R xs ys
Alls R _ _ = ⊥

abbrev pub Maybe : {A B : Type 0} → (A → B → Type 0) → Option A → Option B → Type 0
Maybe R None None = Unit {0}
Maybe R (Some x) (Some y) = R x y
Maybe R _ _ = ⊥

module _ (v w : Sight) where
  -- the one has at the first sight the types that the other has at the second
  abbrev pub SameMeans : Means → Means → Type 0
  SameMeans m n = ((P : Place) (at : ℕ) → m.kind (at_sight P v) at ≡ n.kind (at_sight P w) at) × ((m.total ≡ n.total) × (m.sure ≡ n.sure))

  abbrev pub SameSays : Says → Says → Type 0
  SameSays m n = ((P : Place) (at : ℕ) → m.typed (at_sight P v) at ≡ n.typed (at_sight P w) at) × ((m.total ≡ n.total) × (m.sure ≡ n.sure))

  abbrev pub SameShows : Shows → Shows → Type 0
  SameShows m n = ((W : Wanted) (P : Place) (at : ℕ) → m.outputs W (at_sight P v) at ≡ n.outputs W (at_sight P w) at) × ((m.width v.own ≡ n.width w.own) × (m.total ≡ n.total))

  abbrev pub SameArms : Arms → Arms → Type 0
  SameArms a b = SameSays a.when b.when × SameMeans a.result b.result

  abbrev pub SameChoices : Choices → Choices → Type 0
  SameChoices a b = SameMeans a.when b.when × SameMeans a.result b.result

  abbrev pub SameJoins : Joins → Joins → Type 0
  SameJoins j k = (j.marked.tab ≡ k.marked.tab) × ((P : Place) (at : ℕ) → j.typed (at_sight P v) at ≡ k.typed (at_sight P w) at)

  abbrev pub SameAnswers : Answers → Answers → Type 0
  SameAnswers a b = (R : Role) (P : Place) (at : ℕ) → a.kinds R (at_sight P v) at ≡ b.kinds R (at_sight P w) at

  -- the joins of a chain, in a query with these correlation names
  abbrev pub SameChain : List Name → Chains → Chains → Type 0
  SameChain all a b = (P : Place) (n : ℕ) → joins_typed (at_sight P v) all (a.first ∷ []) a.joins n ≡ joins_typed (at_sight P w) all (b.first ∷ []) b.joins n

  -- ---- parts

  pub kinds_all : (ms ns : List Means) → Alls SameMeans ms ns → (so_far : Common) (P : Place) (n : ℕ) → kind_of_all so_far ms (at_sight P v) n ≡ kind_of_all so_far ns (at_sight P w) n
  kinds_all [] [] h so_far P n = refl
  kinds_all (m ∷ ms) (k ∷ ks) h so_far P n = λ i. h.0.0 P n i >>= λ x. kinds_all ms ks h.1 (with_kind so_far x.0) P x.1 i
  kinds_all [] (k ∷ ks) h so_far P n = absurd h
  kinds_all (m ∷ ms) [] h so_far P n = absurd h

  pub totals_all : (ms ns : List Means) → Alls SameMeans ms ns → list_any is_total ms ≡ list_any is_total ns
  totals_all [] [] h = refl
  totals_all (m ∷ ms) (k ∷ ks) h = λ i. h.0.1.0 i || totals_all ms ks h.1 i
  totals_all [] (k ∷ ks) h = absurd h
  totals_all (m ∷ ms) [] h = absurd h

  pub sures_all : (ms ns : List Means) → Alls SameMeans ms ns → list_all is_sure ms ≡ list_all is_sure ns
  sures_all [] [] h = refl
  sures_all (m ∷ ms) (k ∷ ks) h = λ i. h.0.1.1 i && sures_all ms ks h.1 i
  sures_all [] (k ∷ ks) h = absurd h
  sures_all (m ∷ ms) [] h = absurd h

  pub typed_all : (ms ns : List Says) → Alls SameSays ms ns → (P : Place) (n : ℕ) → all_typed ms (at_sight P v) n ≡ all_typed ns (at_sight P w) n
  typed_all [] [] h P n = refl
  typed_all (m ∷ ms) (k ∷ ks) h P n = λ i. h.0.0 P n i >>= λ x. typed_all ms ks h.1 P x.1 i
  typed_all [] (k ∷ ks) h P n = absurd h
  typed_all (m ∷ ms) [] h P n = absurd h

  pub say_totals : (ms ns : List Says) → Alls SameSays ms ns → list_any (λ c. c.total) ms ≡ list_any (λ c. c.total) ns
  say_totals [] [] h = refl
  say_totals (m ∷ ms) (k ∷ ks) h = λ i. h.0.1.0 i || say_totals ms ks h.1 i
  say_totals [] (k ∷ ks) h = absurd h
  say_totals (m ∷ ms) [] h = absurd h

  pub say_sures : (ms ns : List Says) → Alls SameSays ms ns → list_all (λ c. c.sure) ms ≡ list_all (λ c. c.sure) ns
  say_sures [] [] h = refl
  say_sures (m ∷ ms) (k ∷ ks) h = λ i. h.0.1.1 i && say_sures ms ks h.1 i
  say_sures [] (k ∷ ks) h = absurd h
  say_sures (m ∷ ms) [] h = absurd h

  -- ---- WHEN and THEN

  arm_same : (a b : Arms) → SameArms a b → (P : Place) (n : ℕ) → kind_of_arm a (at_sight P v) n ≡ kind_of_arm b (at_sight P w) n
  unfolding kind_of_arm
  arm_same a b h P n = λ i. h.0.0 P n i >>= λ x. h.1.0 P x.1 i

  pub arms_all : (ms ns : List Arms) → Alls SameArms ms ns → (so_far : Common) (P : Place) (n : ℕ) → kind_of_arms so_far ms (at_sight P v) n ≡ kind_of_arms so_far ns (at_sight P w) n
  arms_all [] [] h so_far P n = refl
  arms_all (m ∷ ms) (k ∷ ks) h so_far P n = λ i. arm_same m k h.0 P n i >>= λ x. arms_all ms ks h.1 (with_kind so_far x.0) P x.1 i
  arms_all [] (k ∷ ks) h so_far P n = absurd h
  arms_all (m ∷ ms) [] h so_far P n = absurd h

  pub arm_totals : (ms ns : List Arms) → Alls SameArms ms ns → list_any (λ a. a.when.total || a.result.total) ms ≡ list_any (λ a. a.when.total || a.result.total) ns
  arm_totals [] [] h = refl
  arm_totals (m ∷ ms) (k ∷ ks) h = λ i. (h.0.0.1.0 i || h.0.1.1.0 i) || arm_totals ms ks h.1 i
  arm_totals [] (k ∷ ks) h = absurd h
  arm_totals (m ∷ ms) [] h = absurd h

  pub arm_sures : (ms ns : List Arms) → Alls SameArms ms ns → list_all (λ a. a.when.sure && a.result.sure) ms ≡ list_all (λ a. a.when.sure && a.result.sure) ns
  arm_sures [] [] h = refl
  arm_sures (m ∷ ms) (k ∷ ks) h = λ i. (h.0.0.1.1 i && h.0.1.1.1 i) && arm_sures ms ks h.1 i
  arm_sures [] (k ∷ ks) h = absurd h
  arm_sures (m ∷ ms) [] h = absurd h

  choice_same : (a b : Choices) → SameChoices a b → (P : Place) (n : ℕ) → kinds_of_choice a (at_sight P v) n ≡ kinds_of_choice b (at_sight P w) n
  unfolding kinds_of_choice and_kind
  choice_same a b h P n = λ i. h.0.0 P n i >>= λ x. (h.1.0 P x.1 i >>= λ y. Ok ((x.0, y.0), y.1))

  pub choices_all : (ms ns : List Choices) → Alls SameChoices ms ns → (operands results : Common) (P : Place) (n : ℕ) → kinds_of_choices operands results ms (at_sight P v) n ≡ kinds_of_choices operands results ns (at_sight P w) n
  choices_all [] [] h operands results P n = refl
  choices_all (m ∷ ms) (k ∷ ks) h operands results P n = λ i. choice_same m k h.0 P n i >>= λ x. choices_all ms ks h.1 (with_kind operands x.0.0) (with_kind results x.0.1) P x.1 i
  choices_all [] (k ∷ ks) h operands results P n = absurd h
  choices_all (m ∷ ms) [] h operands results P n = absurd h

  pub choice_totals : (ms ns : List Choices) → Alls SameChoices ms ns → list_any (λ a. a.when.total || a.result.total) ms ≡ list_any (λ a. a.when.total || a.result.total) ns
  choice_totals [] [] h = refl
  choice_totals (m ∷ ms) (k ∷ ks) h = λ i. (h.0.0.1.0 i || h.0.1.1.0 i) || choice_totals ms ks h.1 i
  choice_totals [] (k ∷ ks) h = absurd h
  choice_totals (m ∷ ms) [] h = absurd h

  pub choice_sures : (ms ns : List Choices) → Alls SameChoices ms ns → list_all (λ a. a.when.sure && a.result.sure) ms ≡ list_all (λ a. a.when.sure && a.result.sure) ns
  choice_sures [] [] h = refl
  choice_sures (m ∷ ms) (k ∷ ks) h = λ i. (h.0.0.1.1 i && h.0.1.1.1 i) && choice_sures ms ks h.1 i
  choice_sures [] (k ∷ ks) h = absurd h
  choice_sures (m ∷ ms) [] h = absurd h

  -- ---- parts that may be missing

  pub any_kind : (m n : Option Means) → Maybe SameMeans m n → (so_far : Common) (P : Place) (at : ℕ) → kind_of_any so_far m (at_sight P v) at ≡ kind_of_any so_far n (at_sight P w) at
  any_kind None None h so_far P at = refl
  any_kind (Some m) (Some n) h so_far P at = λ i. h.0 P at i >>= λ x. Ok (with_kind so_far x.0, x.1)
  any_kind None (Some n) h so_far P at = absurd h
  any_kind (Some m) None h so_far P at = absurd h

  pub any_total : (m n : Option Means) → Maybe SameMeans m n → if_any is_total m ≡ if_any is_total n
  any_total None None h = refl
  any_total (Some m) (Some n) h = h.1.0
  any_total None (Some n) h = absurd h
  any_total (Some m) None h = absurd h

  pub any_sure : (m n : Option Means) → Maybe SameMeans m n → unless_any is_sure m ≡ unless_any is_sure n
  any_sure None None h = refl
  any_sure (Some m) (Some n) h = h.1.1
  any_sure None (Some n) h = absurd h
  any_sure (Some m) None h = absurd h

  pub maybe_same : (m n : Option Says) → Maybe SameSays m n → (P : Place) (at : ℕ) → maybe_typed m (at_sight P v) at ≡ maybe_typed n (at_sight P w) at
  maybe_same None None h P at = refl
  maybe_same (Some m) (Some n) h P at = h.0 P at
  maybe_same None (Some n) h P at = absurd h
  maybe_same (Some m) None h P at = absurd h

  pub is_some_same : (m n : Option Says) → Maybe SameSays m n → is_some m ≡ is_some n
  is_some_same None None h = refl
  is_some_same (Some m) (Some n) h = refl
  is_some_same None (Some n) h = absurd h
  is_some_same (Some m) None h = absurd h

  -- ---- select lists

  pub widths_all : (ms ns : List Shows) → Alls SameShows ms ns → widths ms v.own ≡ widths ns w.own
  widths_all [] [] h = refl
  widths_all (m ∷ ms) (k ∷ ks) h = λ i. h.0.1.0 i + widths_all ms ks h.1 i
  widths_all [] (k ∷ ks) h = absurd h
  widths_all (m ∷ ms) [] h = absurd h

  pub show_totals : (ms ns : List Shows) → Alls SameShows ms ns → list_any (λ c. c.total) ms ≡ list_any (λ c. c.total) ns
  show_totals [] [] h = refl
  show_totals (m ∷ ms) (k ∷ ks) h = λ i. h.0.1.1 i || show_totals ms ks h.1 i
  show_totals [] (k ∷ ks) h = absurd h
  show_totals (m ∷ ms) [] h = absurd h

  pub outputs_all : (ms ns : List Shows) → Alls SameShows ms ns → (so_far : List Kind) (W : Wanted) (P : Place) (n : ℕ) → outputs_of ms so_far W (at_sight P v) n ≡ outputs_of ns so_far W (at_sight P w) n
  outputs_all [] [] h so_far W P n = refl
  outputs_all (m ∷ ms) (k ∷ ks) h so_far W P n = λ i. h.0.0 W P n i >>= λ x. outputs_all ms ks h.1 (so_far ++ x.0) (record W { kinds = rest_of W.kinds (length x.0) }) P x.1 i
  outputs_all [] (k ∷ ks) h so_far W P n = absurd h
  outputs_all (m ∷ ms) [] h so_far W P n = absurd h
