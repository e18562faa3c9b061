-- What a statement depends on. Each list has each key once, at its first place.
use Rattle.std.specs.Prelude.{ℕ, Bool, ◌&&◌, List, [], ◌∷◌, ◌++◌, map, filter, filter_map, Option, None, Some}
use Rattle.std.specs.List.{flat_map}
use Rattle.std.specs.Str.{bytes_eq}
use Rattle.lb_base.specs.declared.key.Key.{Key}
use Rattle.lb_base.specs.declared.key.Key.TheVariants as keys
use Rattle.lb_base.specs.Names.{is_name, folded}
use Rattle.lb_stmt.specs.declared.write.Stmt.{Stmt}
use Rattle.lb_cat.specs.Keys.{once}
use Rattle.lb_cat.specs.Catalog.{Cat, Table, Policy, table_named, policy_named}
use Rattle.lb_names.specs.Mentions.{Mentions, in_stmt, tables_in, policies_in}
use Rattle.lb_alter.specs.Stored.{mentioned_in}

-- a name without record stands for nothing
abbrev pub in_table : Option Table → Mentions
in_table None = []
in_table (Some t) = mentioned_in t

-- what the permissions and masks of some tables name, table by table, enabled or not
abbrev pub in_tables : Cat → List (List ℕ) → Mentions
in_tables C ns = flat_map (λ n. in_table (table_named C n)) ns

-- the tables that a statement names, and those that their permissions and masks name
abbrev pub tables_for : Cat → Mentions → List (List ℕ)
tables_for C ms = tables_in ms ++ tables_in (in_tables C (tables_in ms))

-- the policy of a table that may be missing
abbrev pub policy_name_of : Option Table → Option (List ℕ)
policy_name_of None = None
policy_name_of (Some t) = t.policy

-- a text that is a name in upper case; another one is the name of no policy, now or ever
abbrev pub is_key_name : List ℕ → Bool
is_key_name n = is_name n && bytes_eq (folded n) n

-- the policies of these tables, and those of the calls of the statement and of the permissions and masks
abbrev pub policies_for : Cat → Mentions → List (List ℕ)
policies_for C ms =
    filter_map (λ n. policy_name_of (table_named C n)) (tables_for C ms)
    ++ filter is_key_name (policies_in ms ++ policies_in (in_tables C (tables_in ms)))

-- the components of a policy that may be missing
abbrev pub components_of : Option Policy → List (List ℕ)
components_of None = []
components_of (Some p) = p.components

-- the components of these policies
abbrev pub components_for : Cat → Mentions → List (List ℕ)
components_for C ms = flat_map (λ n. components_of (policy_named C n)) (policies_for C ms)

-- the keys of what some mentions depend on: tables, policies, components
abbrev pub deps_of : Cat → Mentions → List Key
deps_of C ms = once
    (map (λ n. keys.Table n) (tables_for C ms)
    ++ (map (λ n. keys.Policy n) (policies_for C ms)
    ++ map (λ n. keys.Component n) (components_for C ms)))

-- what the plan of a query or a write depends on
abbrev pub deps : Cat → Stmt → List Key
deps C s = deps_of C (in_stmt s)

-- what the commit of a write by the user depends on
abbrev pub write_deps : Cat → Stmt → List ℕ → List Key
write_deps C s user = once (deps C s ++ (map (λ n. keys.Rows n) (tables_for C (in_stmt s)) ++ keys.User user ∷ []))
