-- A query has no higher level than there are items in sight.
use Rattle.std.proofs.Common.{ℕ, ◌≡◌, ◌≤◌, ◌+◌, List, [], ◌∷◌, ◌++◌, map, length, sym, ap, ◌∙◌, subst, arith, length-append}
use Rattle.lb_tree.specs.declared.query.Tab.{Tab}
use Rattle.lb_names.specs.declared.place.Seen.{Seen}
use Rattle.lb_names.specs.Sights.{at_level, level_in, items_in}

pub level_within : (outer : List Seen) (tabs : List Tab) → level_in outer ≤ length outer → level_in (items_in outer tabs ++ outer) ≤ length (items_in outer tabs ++ outer)
level_within outer [] h = h
level_within outer (t ∷ tabs) h = let e : length (map (at_level (level_in outer)) tabs ++ outer) ≡ length (map (at_level (level_in outer)) tabs) + length outer = length-append _ _ in omega arith

-- what the items in sight of an inner query are
pub items_inside : (outer : List Seen) (tabs : List Tab) (level : ℕ) (items copied seen : List Seen)
    → level ≡ level_in outer → items ≡ map (at_level level) tabs → copied ≡ outer → seen ≡ items ++ copied → seen ≡ items_in outer tabs ++ outer
items_inside outer tabs level items copied seen l i c s = s ∙ ap (λ (x : List Seen). x ++ copied) (i ∙ ap (λ (n : ℕ). map (at_level n) tabs) l) ∙ ap (λ (x : List Seen). items_in outer tabs ++ x) c

pub own_within : (own : ℕ) (items copied seen : List Seen) → own ≡ length items → seen ≡ items ++ copied → own ≤ length seen
own_within own items copied seen o s = let e : length seen ≡ length items + length copied = ap length s ∙ length-append items copied in omega arith

pub levels_within : (outer seen : List Seen) (tabs : List Tab) → level_in outer ≤ length outer → seen ≡ items_in outer tabs ++ outer → level_in seen ≤ length seen
levels_within outer seen tabs h e = subst (λ (s : List Seen). level_in s ≤ length s) (sym e) (level_within outer tabs h)
