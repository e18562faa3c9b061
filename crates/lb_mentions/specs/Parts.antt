-- Whether a part of each kind has a mention that is looked for, as the code goes through it. It stands in private contracts alone.
use Rattle.std.specs.Prelude.{Option, None, Some, Bool, false}
use Rattle.std.specs.List.{list_any}
use Rattle.lb_tree.specs.declared.query.Arm.{Arm}
use Rattle.lb_tree.specs.declared.query.Atom.{Atom}
use Rattle.lb_tree.specs.declared.query.Chain.{Chain}
use Rattle.lb_tree.specs.declared.query.Choice.{Choice}
use Rattle.lb_tree.specs.declared.query.Cond.{Cond}
use Rattle.lb_tree.specs.declared.query.Expr.{Expr}
use Rattle.lb_tree.specs.declared.query.Item.{Item}
use Rattle.lb_tree.specs.declared.query.Join.{Join}
use Rattle.lb_tree.specs.declared.query.Query.{Query}
use Rattle.lb_tree.specs.declared.query.Signed.{Signed}
use Rattle.lb_tree.specs.Folds.{cond_of, expr_of, item_of, join_of, arm_of, chain_of, choice_of, query_of, signed_of}
use Rattle.lb_names.specs.Mentions as mentions
use Rattle.lb_names.specs.Mentions.{Mentions, naming, naming_steps}
use Rattle.lb_mentions.specs.declared.sought.Sought.{Sought}
use Rattle.lb_mentions.specs.Seeking.{is_sought}

-- of a part that may be missing
abbrev pub of_maybe : {A : Type 0} → (A → Bool) → Option A → Bool
of_maybe f None = false
of_maybe f (Some x) = f x

module _ (w : Sought) where
  -- one of these mentions is looked for
  abbrev pub one_of : Mentions → Bool
  one_of ms = list_any (is_sought w) ms

  -- of each kind of node
  unfoldable pub in_cond : Cond → Bool
  in_cond c = one_of (cond_of naming naming_steps c)

  unfoldable pub in_expr : Expr → Bool
  in_expr e = one_of (expr_of naming naming_steps e)

  unfoldable pub in_item : Item → Bool
  in_item i = one_of (item_of naming naming_steps i)

  unfoldable pub in_arm : Arm → Bool
  in_arm a = one_of (arm_of naming naming_steps a)

  unfoldable pub in_choice : Choice → Bool
  in_choice c = one_of (choice_of naming naming_steps c)

  unfoldable pub in_signed : Signed → Bool
  in_signed s = one_of (signed_of naming naming_steps s)

  unfoldable pub in_join : Join → Bool
  in_join j = one_of (join_of naming naming_steps j)

  unfoldable pub in_chain : Chain → Bool
  in_chain c = one_of (chain_of naming naming_steps c)

  unfoldable pub in_query : Query → Bool
  in_query q = one_of (query_of naming naming_steps q)

  -- of a leaf
  abbrev pub in_atom : Atom → Bool
  in_atom a = one_of (mentions.in_atom a)
