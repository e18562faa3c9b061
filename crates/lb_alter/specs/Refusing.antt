-- What a change answers: the first refusal of its tests in order, or what it makes.
use Rattle.std.specs.Prelude.{ℕ, Bool, true, false, not, List, [], ◌∷◌, Option, None, Some, Result, Ok, Err}
use Rattle.std.specs.Str.{bytes_eq}
use Rattle.lb_base.specs.declared.key.Key.{Key}
use Rattle.lb_base.specs.declared.key.Key.TheVariants as keys
use Rattle.lb_cat.specs.declared.refusal.Refusal.{Refusal}
use Rattle.lb_cat.specs.declared.refusal.Refusal.TheVariants as refusals
use Rattle.lb_cat.specs.declared.refusal.NeededPrivilege.TheVariants as needed
use Rattle.lb_cat.specs.OrRefused.{OrRefused, ◌>>=◌}
use Rattle.lb_cat.specs.declared.reply.Reply.{Reply}
use Rattle.lb_cat.specs.declared.reply.Reply.TheVariants as replies
use Rattle.lb_cat.specs.declared.catalog.LabelRec.{LabelRec}
use Rattle.lb_rows.specs.Tables.{Tables}
use Rattle.lb_cat.specs.Catalog.{Cat, Table, Policy, User, table_named, policy_named, user_named, label_named, put_table, put_policy}

-- what a change leaves: the catalogue, the rows, the keys that it touches, and its reply
pub record Changed : Type 0 where
  pub cat : Cat
  pub tables : Tables
  pub touched : List Key
  pub reply : Reply

infixl 10 ◌>>◌
-- a test: it refuses, or what comes after it decides
abbrev pub ◌>>◌ : {A : Type 0} → Option Refusal → OrRefused A → OrRefused A
None >> rest = rest
Some r >> rest = Err r

-- refused where the condition holds
abbrev pub when : Bool → Refusal → Option Refusal
when true r = Some r
when false r = None

-- the first refusal of some tests
abbrev pub earliest : List (Option Refusal) → Option Refusal
earliest [] = None
earliest (None ∷ tests) = earliest tests
earliest (Some r ∷ tests) = Some r

-- the first refusal that an item of the list has
abbrev pub each_passes : {A : Type 0} → (A → Option Refusal) → List A → Option Refusal
each_passes test [] = None
each_passes test (x ∷ xs) = earliest (test x ∷ each_passes test xs ∷ [])

-- refused where there is one already
abbrev pub exists_already : Option (List ℕ) → Option Refusal
exists_already None = None
exists_already (Some n) = Some (refusals.Exists n)

-- refused where something uses it
abbrev pub in_use : List ℕ → Option (List ℕ) → Option Refusal
in_use n None = None
in_use n (Some by) = Some (refusals.InUse n by)

-- what is there of that name, else it is unknown
abbrev pub found : {A : Type 0} → List ℕ → Option A → OrRefused A
found n None = Err (refusals.Unknown n)
found n (Some x) = Ok x

-- the table of that name
abbrev pub the_table : Cat → List ℕ → OrRefused Table
the_table C n = found n (table_named C n)

-- the policy of that name
abbrev pub the_policy : Cat → List ℕ → OrRefused Policy
the_policy C n = found n (policy_named C n)

-- the label of that name
abbrev pub the_label : Policy → List ℕ → OrRefused LabelRec
the_label p n = found n (label_named p n)

-- ---- who may

-- the table, of which the user is the owner
abbrev pub owner : Cat → List ℕ → List ℕ → OrRefused Table
owner C user n = do
  t ← the_table C n
  when (not (bytes_eq t.owner user)) (refusals.Privilege needed.Control n)
  Ok t

-- the user is there and has SECADM authority
abbrev pub has_secadm : Option User → Bool
has_secadm None = false
has_secadm (Some u) = u.secadm

-- refused where the user has no SECADM authority
abbrev pub secadm : Cat → List ℕ → Option Refusal
secadm C user = when (not (has_secadm (user_named C user))) refusals.NotSecadm

-- ---- what is made

-- an accepted change: what it leaves, and the keys that it touches
abbrev pub done : Cat → Tables → List Key → OrRefused Changed
done C T touched = Ok (record { cat = C; tables = T; touched = touched; reply = replies.Done })

-- an accepted change of one table's record, or of one policy's
abbrev pub alters : Cat → Tables → Table → OrRefused Changed
alters C T t = done (put_table t C) T (keys.Table t.name ∷ [])

-- an accepted change of one policy's record
abbrev pub alters_policy : Cat → Tables → Policy → OrRefused Changed
alters_policy C T p = done (put_policy p C) T (keys.Policy p.name ∷ [])

-- a refused change leaves all as it was and touches nothing
abbrev pub settled : Cat → Tables → OrRefused Changed → Changed
settled C T (Ok changed) = changed
settled C T (Err r) = record { cat = C; tables = T; touched = []; reply = replies.Refused r }
