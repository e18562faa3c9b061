use Rattle.std.specs.Prelude.{refl}
use Rattle.std.proofs.Common.{◌++◌, List, [], ◌∷◌, ap, codes}
use Rattle.lb_rows.specs.Lists.{without}
use Rattle.lb_rows.specs.Tables.{is_version}
use Rattle.lb_cat.specs.Keys.{once}
use Rattle.lb_cat.specs.Catalog.{drop_table, table_named, policy_named}
use Rattle.lb_cat.specs.Privileges.{without_grant, has_grant_on}
use Rattle.lb_names.specs.Mentions.{Mentions, tables_in, policies_in}
use Rattle.lb_alter.specs.ChangeTable.{user_key}
use Rattle.lb_alter.specs.Deps.{policy_name_of, is_key_name, components_of}
use Rattle.lb_alter.specs.Refusing.{in_use, settled, done, ◌>>◌}
use Rattle.lb_alter.specs.Stored.{StoredRules, Stored, stored_name, names_table}
use Rattle.lb_alter.specs.WorkedAnswers.{bank, ReadsThrough}
use Rattle.std.specs.Prelude.{ℕ, Option, option_map, find, filter, filter_map, map}
use Rattle.std.specs.List.{flat_map}
use Rattle.lb_base.specs.declared.key.Key.{Key}
use Rattle.lb_base.specs.declared.key.Key.TheVariants as keys
use Rattle.lb_cat.specs.declared.reply.Reply.{Reply}
use Rattle.lb_alter.proofs.WorkedMentions.{asks}
use Rattle.lb_alter.proofs.laws.worked_changes.Goals as goal

pub returns-clause-refused : goal.returns-clause-refused
returns-clause-refused c K = (
  record { mismatch = refl; another = refl; again = refl; held = refl; free = refl; secadm = refl; policy = refl; component = refl },
  record { taken = refl; repeated = refl; width = refl; key = refl; policy = refl; none = refl; two = refl; keys_two = refl; label_key = refl; label = refl; owner = refl; unknown = refl },
  record { element = refl; repeated = refl; parent = refl; unknown = refl; two = refl; taken = refl },
)

pub returns-clause-touched : goal.returns-clause-touched
returns-clause-touched c K = refl

pub returns-clause-leave : goal.returns-clause-leave
returns-clause-leave c K =
    record { parts = refl; full = refl; revoked = refl; nobody = refl; somebody = refl; ends = refl; ended = refl; one_less = refl; depends = refl; missing = refl }

teller : List ℕ
teller = codes "TELLER"

-- the permission as it is stored, with what it names
stored : Mentions → Stored
stored ms = record { name = codes "TELLERS"; mentions = ms }

-- what DROP TABLE answers, by who uses the table
drop_by : StoredRules → Option Stored → Reply
drop_by K o = (settled (bank K) [] (in_use teller (option_map stored_name o)
    >> done (record (drop_table teller (bank K)) { users = map (without_grant teller) (bank K).users }) (without (is_version teller) []) (keys.Table teller ∷ keys.Rows teller ∷ map user_key (filter (has_grant_on teller) (bank K).users)))).reply

-- what a write depends on, by what its table's permission names
tables_by : Mentions → List (List ℕ)
tables_by b = codes "CUST" ∷ tables_in b

policies_by : StoredRules → Mentions → List (List ℕ)
policies_by K b = filter_map (λ n. policy_name_of (table_named (bank K) n)) (tables_by b) ++ filter is_key_name (policies_in b)

depends_by : StoredRules → Mentions → List Key
depends_by K b = once
    (once (map (λ n. keys.Table n) (tables_by b) ++ (map (λ n. keys.Policy n) (policies_by K b) ++ map (λ n. keys.Component n) (flat_map (λ n. components_of (policy_named (bank K) n)) (policies_by K b))))
    ++ (map (λ n. keys.Rows n) (tables_by b) ++ keys.User (codes "ANN") ∷ []))

through : (K : StoredRules) → ReadsThrough K
unfolding teller stored drop_by tables_by policies_by depends_by
through K = record {
  dropped = ap (λ (ms : Mentions). drop_by K (find (names_table teller) (stored ms ∷ []))) asks;
  depends = ap (λ (ms : Mentions). depends_by K ((ms ++ []) ++ [])) asks;
}

pub returns-clause-through : goal.returns-clause-through
returns-clause-through c = through
