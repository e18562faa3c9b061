-- A query with its keys of ORDER BY, by the place and the role that the code has.
use Rattle.std.proofs.Common.{ℕ, ◌≡◌, ap, sym, ◌∙◌, Bool, true, false, List, [], Option, Ok}
use Rattle.std.specs.List.{list_any}
use Rattle.lb_tree.specs.declared.query.Select.{Select}
use Rattle.lb_tree.specs.declared.query.Cond.TheViews.{out-Query}
use Rattle.lb_names.specs.Kinds.{Kind}
use Rattle.lb_names.specs.Scopes.{Catalogue}
use Rattle.lb_names.specs.Sights.{Sight, nothing}
use Rattle.lb_names.specs.Typed.{Typed, ◌>>=◌}
use Rattle.lb_names.specs.Places.{Place}
use Rattle.lb_names.specs.Carriers.{Role}
use Rattle.lb_names.specs.Typing.{answers}
use Rattle.lb_names.specs.OrderTyping.{is_total_key, keys_typed, select_typed}

-- outside all queries, where that is in sight
abbrev pub outside : Sight → Place
outside v = record { sight = v; groups = []; subqueries = true; aggregates = false; within = false; stored = false }

module _ (C : Catalogue) (s : Select) (wanted : Option (List Kind)) where
  -- the role of a query whose keys have an aggregate or not
  abbrev pub role_of : Bool → Role
  role_of total = record { subquery = false; one = false; total = total; wanted = wanted }

  -- the keys in that place, after outputs of these kinds
  abbrev pub keys_in : Place → List Kind → ℕ → Typed (List Kind)
  keys_in shown ks n = keys_typed C shown (out-Query s.query).distinct (out-Query s.query).items ks s.order n >>= λ x. Ok (ks, x.1)

  -- the query, and then its keys
  abbrev pub select_in : Bool → Sight → Typed (List Kind)
  select_in total v = (answers C s.query).kinds (role_of total) (outside v) 0 >>= λ ks. keys_in ((answers C s.query).shown (role_of total) (outside v)) ks.0 ks.1

  pub select_at : (total : Bool) (v : Sight) → total ≡ list_any (is_total_key C) s.order → v ≡ nothing → select_typed C s wanted ≡ select_in total v
  select_at total v h k = λ i. select_in (sym h i) (sym k i)

  -- after the query
  pub keys_at : (total : Bool) (v : Sight) (shown : Place) (ks : List Kind) (n : ℕ) → total ≡ list_any (is_total_key C) s.order → v ≡ nothing
      → (answers C s.query).kinds (role_of total) (outside v) 0 ≡ Ok (ks, n) → (answers C s.query).shown (role_of total) (outside v) ≡ shown → select_typed C s wanted ≡ keys_in shown ks n
  keys_at total v shown ks n h k done at = select_at total v h k
      ∙ ap (λ (y : Typed (List Kind)). y >>= λ x. keys_in ((answers C s.query).shown (role_of total) (outside v)) x.0 x.1) done
      ∙ ap (λ P. keys_in P ks n) at
