-- The tables of joins and chains, as the fold of marks gives them.
use Rattle.std.proofs.Common.{◌≡◌, ap, map, List, ◌∷◌, ◌∙◌}
use Rattle.std.proofs.lemmas.List.{map-id}
use Rattle.lb_tree.specs.declared.query.Cond.{Cond}
use Rattle.lb_tree.specs.declared.query.Tab.{Tab}
use Rattle.lb_tree.specs.declared.query.Chain.{Chain}
use Rattle.lb_tree.specs.declared.query.Join.TheVariants as joins
use Rattle.lb_tree.specs.Folds.{chain_of, join_of}
use Rattle.lb_tree.proofs.Opens.{join_inner, join_left, join_cross, chain_out}
use Rattle.lb_names.specs.Marks.{JoinMarks, marked, mark_steps, tables_of_chain}

pub table_of_inner : (t : Tab) (c : Cond) → (join_of marked mark_steps (joins.Inner t c)).tab ≡ t
table_of_inner t c = ap (λ j. j.tab) (join_inner marked mark_steps t c)

pub table_of_left : (t : Tab) (c : Cond) → (join_of marked mark_steps (joins.Left t c)).tab ≡ t
table_of_left t c = ap (λ j. j.tab) (join_left marked mark_steps t c)

pub table_of_cross : (t : Tab) → (join_of marked mark_steps (joins.Cross t)).tab ≡ t
table_of_cross t = ap (λ j. j.tab) (join_cross marked mark_steps t)

pub chain_is : (c : Chain) → chain_of marked mark_steps c ≡ record { first = c.first; joins = map (join_of marked mark_steps) c.joins }
chain_is c = chain_out marked mark_steps c ∙ ap (λ (js : List JoinMarks). record { first = c.first; joins = js }) (map-id (map (join_of marked mark_steps) c.joins))

pub tables_in_chain : (c : Chain) → tables_of_chain (chain_of marked mark_steps c) ≡ c.first ∷ map (λ j. j.tab) (map (join_of marked mark_steps) c.joins)
tables_in_chain c = ap tables_of_chain (chain_is c)
