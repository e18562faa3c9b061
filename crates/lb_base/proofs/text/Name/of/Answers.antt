use Rattle.std.proofs.Common.{◌≡◌, true, sym, ◌∙◌}
use Rattle.lb_base.specs.Names.{is_name}
use Rattle.lb_base.proofs.Upper.{folded_name}
use Rattle.lb_base.proofs.text.Name.of.Goals as goal

pub invariant_of-result : goal.invariant_of-result
invariant_of-result c =
    let h : is_name c.args.text.now ≡ true = rw (← c.as_bytes.ensures.value) (sym c.spells_name.ensures ∙ c.if-not-spells_name.false) in
    rw (c.make_ascii_uppercase.ensures.bytes, c.in_ok-text.ensures.ok) (folded_name c.args.text.now h)
