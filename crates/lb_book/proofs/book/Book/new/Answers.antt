use Rattle.std.proofs.Common.{rules, ◌≡◌, ap, sym, subst, ◌∙◌, ◌+◌, ◌≤◌, List, [], length, arith}
use Rattle.std.specs.Arc.{arc_value}
use Rattle.std.specs.Vec.{vec_capacity}
use Rattle.lb_base.specs.declared.key.Key.{Key}
use Rattle.lb_cat.specs.Catalog.{first_cat}
use Rattle.lb_cat.specs.Stamps.{Kept, bare, look}
use Rattle.lb_cat.specs.declared.entry.Entry.{Entry}
use Rattle.lb_journal.specs.Journal.{opens}
use Rattle.lb_book.proofs.Growing.{begins}
use Rattle.lb_book.proofs.book.Book.new.Goals as goal

pub invariant_of-result : goal.invariant_of-result
invariant_of-result g c =
    let none : c.new-2.result.items ≡ [] = search rules in
    let same : arc_value c.in_ok-catalog.catalog ≡ c.in_ok-first.field-0 = search rules in
    let bare_is : bare (arc_value c.in_ok-catalog.catalog) ≡ first_cat = ap bare same ∙ c.in_ok-first.ensures.bare in
    let zero : (k : Key) → look (arc_value c.in_ok-catalog.catalog) k ≡ 0 = (λ k. ap (λ (K : Kept). look K k) same ∙ c.in_ok-first.ensures.stamps k) in (
      begins _ _ c.args.limit _ _ _ c.requires.some c.requires.few none c.empty.ensures bare_is zero,
      subst (λ (xs : List Entry). length xs + 0 ≤ vec_capacity c.new-2.result) (sym none) (omega arith),
      ap opens (sym none),
    )
