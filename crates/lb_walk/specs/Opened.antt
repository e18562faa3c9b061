-- The typing of parts that stand in lists, opened by one node. Only contracts of private functions cite these.
use Rattle.std.specs.Option.{option_map}
use Rattle.std.specs.Prelude.{ℕ, Bool, true, ◌&&◌, List, [], ◌∷◌, ◌++◌, map}
use Rattle.lb_tree.specs.declared.query.Tab.{Tab}
use Rattle.lb_tree.specs.declared.query.Arm.{Arm}
use Rattle.lb_tree.specs.declared.query.Chain.{Chain}
use Rattle.lb_tree.specs.declared.query.Choice.{Choice}
use Rattle.lb_tree.specs.declared.query.Query.{Query}
use Rattle.lb_tree.specs.declared.query.Signed.{Signed}
use Rattle.lb_tree.specs.declared.query.Cond.TheOpen as layers
use Rattle.lb_tree.specs.declared.query.Cond.TheViews.{out-Query}
use Rattle.lb_tree.specs.Folds.{Layer}
use Rattle.lb_names.specs.Sights.{Name, Sight, inside_on}
use Rattle.lb_names.specs.Marks.{JoinMarks, ChainMarks}
use Rattle.lb_names.specs.Scopes.{Catalogue}
use Rattle.lb_names.specs.Passes.{all_own}
use Rattle.lb_names.specs.Carriers.{Means, Arms, Chains, Choices, typing}
use Rattle.lb_names.specs.Expressions.{arm_step, choice_step}
use Rattle.lb_names.specs.SelectLists.{chain_step}
use Rattle.lb_names.specs.Typing.{says, means, shows, joins}

module _ (C : Catalogue) where
  -- of a part of a sum
  abbrev pub part_of : Signed → Means
  part_of s = means C s.part

  -- of WHEN condition THEN result
  abbrev pub arm_of : Arm → Arms
  arm_of x = arm_step (record { when = says C x.when; result = means C x.result })

  -- of WHEN value THEN result
  abbrev pub choice_of : Choice → Choices
  choice_of x = choice_step (record { when = means C x.when; result = means C x.result })

  -- of a chain
  abbrev pub chain_of : Chain → Chains
  chain_of x = chain_step (record { first = x.first; joins = map (joins C) x.joins })

  -- of the parts of a query
  abbrev pub query_in : Query → Layer typing layers.Query-F
  query_in x = record { distinct = (out-Query x).distinct; items = map (shows C) (out-Query x).items; from = map chain_of (out-Query x).from; filter = option_map (says C) (out-Query x).filter; group = (out-Query x).group; having = option_map (says C) (out-Query x).having }

-- all columns in these ON conditions belong to the query of that level
abbrev pub own_joins : Catalogue → ℕ → Sight → List Name → List Tab → List JoinMarks → Bool
own_joins C level outer all tabs [] = true
own_joins C level outer all tabs (j ∷ joins) = all_own C level (j.on (inside_on outer all (tabs ++ j.tab ∷ []))) && own_joins C level outer all (tabs ++ j.tab ∷ []) joins

-- and in those of these chains
abbrev pub own_chains : Catalogue → ℕ → Sight → List Name → List ChainMarks → Bool
own_chains C level outer all [] = true
own_chains C level outer all (ch ∷ chains) = own_joins C level outer all (ch.first ∷ []) ch.joins && own_chains C level outer all chains
