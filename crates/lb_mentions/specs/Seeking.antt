-- What is looked for among the mentions of a condition. It stands in private contracts alone.
use Rattle.std.specs.Prelude.{ℕ, Bool, List, find, Option, None, Some, option_map, if◌then◌else◌}
use Rattle.std.specs.List.{list_any}
use Rattle.lb_names.specs.Mentions.{Mention, is_table_mention, is_policy_mention, is_label_mention}
use Rattle.lb_cat.specs.Catalog.{Table, is_table}
use Rattle.lb_alter.specs.Stored.{Stored, names_table, stored_in, stored_name}
use Rattle.lb_mentions.specs.declared.sought.Sought.{Sought}
use Rattle.lb_mentions.specs.declared.sought.Sought.TheVariants as sought

-- the mention is one that is looked for
abbrev pub is_sought : Sought → Mention → Bool
is_sought (sought.Table n) = is_table_mention n.now
is_sought (sought.Policy p) = is_policy_mention p.now
is_sought (sought.Label p l) = is_label_mention p.now l.now

-- a permission or a mask has such a mention
abbrev pub names : Sought → Stored → Bool
names w s = list_any (is_sought w) s.mentions

-- the name of the first permission or mask of a table that reads the table of this name, unless it is that one
abbrev pub user_in : List ℕ → Option Table → Option (List ℕ)
user_in n None = None
user_in n (Some t) = if is_table n t then None else option_map stored_name (find (names_table n) (stored_in t))
