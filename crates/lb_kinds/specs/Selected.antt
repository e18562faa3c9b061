-- What a query statement answers: rows or groups after DISTINCT, ORDER BY and FETCH.
use Rattle.std.specs.Prelude.{ℕ, ◌≡◌, List, [], ◌∷◌, Option, Ok}
use Rattle.std.specs.List.{AllByRecursion}
use Rattle.lb_tree.specs.declared.query.Select.{Select}
use Rattle.lb_names.specs.Kinds.{Kind}
use Rattle.lb_names.specs.Scopes.{Catalogue}
use Rattle.lb_names.specs.OrderTyping.{select_typed}
use Rattle.lb_mean.specs.Setting.{Setting, Frame, shown_frame}
use Rattle.lb_mean.specs.Conditions.{outputs}
use Rattle.lb_mean.specs.Meaning.{answers}
use Rattle.lb_mean.specs.Ordered.{chosen_by}
use Rattle.lb_kinds.specs.HasKind.{GivesKinds}
use Rattle.lb_kinds.specs.Days.{days_in_query, AreDays}
use Rattle.lb_kinds.specs.Agreement.{AgreesOn}

-- each output of a query statement without a broken node is null or of the kind of its place, with masks or without
abbrev pub SelectsGiveTheirKinds : Type 0
SelectsGiveTheirKinds = (C : Catalogue) (S : Setting) → AgreesOn C S → (s : Select) → AreDays (days_in_query s.query)
    → (wanted : Option (List Kind)) (m : ℕ) (ks : List Kind) → select_typed C s wanted ≡ Ok (ks, m)
    → (frames : List Frame) → chosen_by S s ≡ Ok frames
    → AllByRecursion (λ f. GivesKinds S.policies ks (outputs (answers S s.query).items (f ∷ [])) × GivesKinds S.policies ks (outputs (answers S s.query).items (shown_frame f ∷ []))) frames
