-- Exemptions from rules, as the test of a rule.
use Rattle.std.specs.Prelude.{Bool, true, false}
use Rattle.lb_label.specs.declared.exemption.Exempt.{Exempt}
use Rattle.lb_base.specs.declared.rule.Rule.{Rule}
use Rattle.lb_base.specs.declared.rule.Rule.TheVariants.{ReadArray, ReadSet, ReadTree, WriteDown, WriteUp, WriteSet, WriteTree}

-- whether a rule is among the exemptions
abbrev pub is_exempt : Exempt → Rule → Bool
is_exempt exempt ReadArray = exempt.read_array
is_exempt exempt ReadSet = exempt.read_set
is_exempt exempt ReadTree = exempt.read_tree
is_exempt exempt WriteDown = exempt.write_down
is_exempt exempt WriteUp = exempt.write_up
is_exempt exempt WriteSet = exempt.write_set
is_exempt exempt WriteTree = exempt.write_tree

-- no rule is
abbrev pub no_exemption : Exempt
no_exemption = record { read_array = false; read_set = false; read_tree = false; write_down = false; write_up = false; write_set = false; write_tree = false }

-- one rule more is
abbrev pub with_exemption : Exempt → Rule → Exempt
with_exemption exempt ReadArray = record exempt { read_array = true }
with_exemption exempt ReadSet = record exempt { read_set = true }
with_exemption exempt ReadTree = record exempt { read_tree = true }
with_exemption exempt WriteDown = record exempt { write_down = true }
with_exemption exempt WriteUp = record exempt { write_up = true }
with_exemption exempt WriteSet = record exempt { write_set = true }
with_exemption exempt WriteTree = record exempt { write_tree = true }
