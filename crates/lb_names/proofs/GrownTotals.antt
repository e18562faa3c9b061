-- Aggregates and arithmetic stay what they are in parts that keep their types.
use Rattle.std.proofs.Common.{◌≡◌, refl, [], ◌∷◌, List, ◌&&◌, ◌||◌, Option, Some, None}
use Rattle.std.specs.List.{list_any, list_all}
use Rattle.lb_names.specs.Scopes.{is_some}
use Rattle.lb_names.specs.Carriers.{Means, Says, Shows, Arms, Choices}
use Rattle.lb_names.specs.Expressions.{is_total, is_sure}
use Rattle.lb_names.specs.Sure.{if_any, unless_any}
use Rattle.lb_names.proofs.GrownLists.{Alls, Maybe, KeepMeans, KeepSays, KeepArms, KeepChoices, KeepShows}

pub show_totals : (ms ns : List Shows) → Alls KeepShows ms ns → list_any (λ c. c.total) ms ≡ list_any (λ c. c.total) ns
show_totals [] [] h = refl
show_totals (m ∷ ms) (k ∷ ks) h = λ i. h.0.1 i || show_totals ms ks h.1 i
show_totals [] (k ∷ ks) h = absurd h
show_totals (m ∷ ms) [] h = absurd h

pub totals_all : (ms ns : List Means) → Alls KeepMeans ms ns → list_any is_total ms ≡ list_any is_total ns
totals_all [] [] h = refl
totals_all (m ∷ ms) (k ∷ ks) h = λ i. h.0.1.0 i || totals_all ms ks h.1 i
totals_all [] (k ∷ ks) h = absurd h
totals_all (m ∷ ms) [] h = absurd h

pub sures_all : (ms ns : List Means) → Alls KeepMeans ms ns → list_all is_sure ms ≡ list_all is_sure ns
sures_all [] [] h = refl
sures_all (m ∷ ms) (k ∷ ks) h = λ i. h.0.1.1 i && sures_all ms ks h.1 i
sures_all [] (k ∷ ks) h = absurd h
sures_all (m ∷ ms) [] h = absurd h

pub say_totals : (ms ns : List Says) → Alls KeepSays ms ns → list_any (λ c. c.total) ms ≡ list_any (λ c. c.total) ns
say_totals [] [] h = refl
say_totals (m ∷ ms) (k ∷ ks) h = λ i. h.0.1.0 i || say_totals ms ks h.1 i
say_totals [] (k ∷ ks) h = absurd h
say_totals (m ∷ ms) [] h = absurd h

pub say_sures : (ms ns : List Says) → Alls KeepSays ms ns → list_all (λ c. c.sure) ms ≡ list_all (λ c. c.sure) ns
say_sures [] [] h = refl
say_sures (m ∷ ms) (k ∷ ks) h = λ i. h.0.1.1 i && say_sures ms ks h.1 i
say_sures [] (k ∷ ks) h = absurd h
say_sures (m ∷ ms) [] h = absurd h

pub arm_totals : (ms ns : List Arms) → Alls KeepArms ms ns → list_any (λ a. a.when.total || a.result.total) ms ≡ list_any (λ a. a.when.total || a.result.total) ns
arm_totals [] [] h = refl
arm_totals (m ∷ ms) (k ∷ ks) h = λ i. (h.0.0.1.0 i || h.0.1.1.0 i) || arm_totals ms ks h.1 i
arm_totals [] (k ∷ ks) h = absurd h
arm_totals (m ∷ ms) [] h = absurd h

pub arm_sures : (ms ns : List Arms) → Alls KeepArms ms ns → list_all (λ a. a.when.sure && a.result.sure) ms ≡ list_all (λ a. a.when.sure && a.result.sure) ns
arm_sures [] [] h = refl
arm_sures (m ∷ ms) (k ∷ ks) h = λ i. (h.0.0.1.1 i && h.0.1.1.1 i) && arm_sures ms ks h.1 i
arm_sures [] (k ∷ ks) h = absurd h
arm_sures (m ∷ ms) [] h = absurd h

pub choice_totals : (ms ns : List Choices) → Alls KeepChoices ms ns → list_any (λ a. a.when.total || a.result.total) ms ≡ list_any (λ a. a.when.total || a.result.total) ns
choice_totals [] [] h = refl
choice_totals (m ∷ ms) (k ∷ ks) h = λ i. (h.0.0.1.0 i || h.0.1.1.0 i) || choice_totals ms ks h.1 i
choice_totals [] (k ∷ ks) h = absurd h
choice_totals (m ∷ ms) [] h = absurd h

pub choice_sures : (ms ns : List Choices) → Alls KeepChoices ms ns → list_all (λ a. a.when.sure && a.result.sure) ms ≡ list_all (λ a. a.when.sure && a.result.sure) ns
choice_sures [] [] h = refl
choice_sures (m ∷ ms) (k ∷ ks) h = λ i. (h.0.0.1.1 i && h.0.1.1.1 i) && choice_sures ms ks h.1 i
choice_sures [] (k ∷ ks) h = absurd h
choice_sures (m ∷ ms) [] h = absurd h

pub any_total : (m n : Option Means) → Maybe KeepMeans m n → if_any is_total m ≡ if_any is_total n
any_total None None h = refl
any_total (Some m) (Some n) h = h.1.0
any_total None (Some n) h = absurd h
any_total (Some m) None h = absurd h

pub any_sure : (m n : Option Means) → Maybe KeepMeans m n → unless_any is_sure m ≡ unless_any is_sure n
any_sure None None h = refl
any_sure (Some m) (Some n) h = h.1.1
any_sure None (Some n) h = absurd h
any_sure (Some m) None h = absurd h

pub is_some_same : (m n : Option Says) → Maybe KeepSays m n → is_some m ≡ is_some n
is_some_same None None h = refl
is_some_same (Some m) (Some n) h = refl
is_some_same None (Some n) h = absurd h
is_some_same (Some m) None h = absurd h
