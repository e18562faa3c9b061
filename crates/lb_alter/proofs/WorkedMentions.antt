-- What the conditions of worked examples name.
use Rattle.std.proofs.Common.{◌≡◌, ap, ◌∙◌, [], ◌∷◌, ◌++◌, codes, false, None}
use Rattle.lb_names.specs.Mentions.{Mentions, table, policy, label, all_of, naming, naming_steps, in_cond, in_expr}
use Rattle.lb_tree.proofs.Opens.{cond_exists, cond_isnull, expr_atom, query_roll, item_everything, chain_roll}
use Rattle.lb_tree.specs.declared.query.Cond.TheViews.{roll-Chain}
use Rattle.lb_tree.specs.declared.query.Atom.TheVariants as atoms
use Rattle.lb_tree.specs.declared.query.Expr.TheVariants as exprs
use Rattle.lb_tree.specs.declared.query.Item.TheVariants as items
use Rattle.lb_tree.specs.Folds.{chain_of}
use Rattle.lb_alter.specs.WorkedAnswers.{asks_teller, reads_teller}
use Rattle.lb_alter.specs.WorkedControls.{asks_policy, names_label}

-- a query of one item and one chain, by what these name
abbrev joined : Mentions → Mentions → Mentions
joined i c = all_of (i ∷ []) ++ (all_of (c ∷ []) ++ ([] ++ []))

pub asks : in_cond asks_teller ≡ table (codes "TELLER") ∷ []
unfolding in_cond
asks =
    cond_exists naming naming_steps reads_teller
    ∙ query_roll naming naming_steps (record {
      distinct = false;
      items = items.Everything ∷ [];
      from = roll-Chain (record { first = record { table = codes "TELLER"; correlation = None }; joins = [] }) ∷ [];
      filter = None;
      group = [];
      having = None;
    })
    ∙ ap (λ (i : Mentions). joined i (chain_of naming naming_steps (roll-Chain (record { first = record { table = codes "TELLER"; correlation = None }; joins = [] })))) (item_everything naming naming_steps)
    ∙ ap (λ (c : Mentions). joined [] c) (chain_roll naming naming_steps (record { first = record { table = codes "TELLER"; correlation = None }; joins = [] }))

pub calls : in_cond asks_policy ≡ policy (codes "Q") ∷ []
unfolding in_cond
calls = cond_isnull naming naming_steps (exprs.Atom (atoms.SecLabel (codes "Q") (codes "()"))) ∙ expr_atom naming naming_steps (atoms.SecLabel (codes "Q") (codes "()"))

pub names : in_expr names_label ≡ label (codes "Q") (codes "X") ∷ []
unfolding in_expr
names = expr_atom naming naming_steps (atoms.SecLabelByName (codes "Q") (codes "X"))
