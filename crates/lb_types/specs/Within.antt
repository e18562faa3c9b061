-- What private functions of typing are given, as the definitions see it.
use Rattle.std.specs.Prelude.{ℕ, ◌-◌, nat_le, Bool, true, if◌then◌else◌, List, Option, None, Some}
use Rattle.std.specs.Str.{bytes_eq}
use Rattle.lb_tree.specs.declared.query.Column.{Column}
use Rattle.lb_names.specs.declared.place.Seen.{Seen}
use Rattle.lb_names.specs.Sights.{Name, Sight, correlation}
use Rattle.lb_names.specs.Kinds as kinds
use Rattle.lb_names.specs.Scopes.{Catalogue, resolve}
use Rattle.lb_names.specs.Typed.{Typed, ◌>>=◌}
use Rattle.lb_names.specs.Expressions.{kind_found}
use Rattle.lb_names.specs.Places as places
use Rattle.lb_names.specs.Carriers as carriers
use Rattle.lb_names.specs.SelectLists.{widths}
use Rattle.lb_names.specs.Typing.{is_width, no_label}
use Rattle.lb_scope.specs.declared.kind.Kind.{Kind}
use Rattle.lb_scope.specs.Found.{kind_in}
use Rattle.lb_types.specs.declared.kind.Common.{Common}
use Rattle.lb_types.specs.declared.kind.Common.TheVariants as common
use Rattle.lb_types.specs.declared.place.Place.{Place}
use Rattle.lb_types.specs.declared.place.Wanted.{Wanted}
use Rattle.lb_types.specs.Given.{lent_kinds}

-- the kind in common
abbrev pub common_in : Common → kinds.Common
common_in (common.One k) = kinds.one (kind_in k)
common_in common.Differ = kinds.differ

-- two kinds
abbrev pub pair_in : Kind × Kind → kinds.Kind × kinds.Kind
pair_in p = (kind_in p.0, kind_in p.1)

-- two kinds in common
abbrev pub commons_in : Common × Common → kinds.Common × kinds.Common
commons_in p = (common_in p.0, common_in p.1)

-- the items that `*` or `x.*` is for
abbrev pub is_starred : Option Name → Seen → Bool
is_starred None s = true
is_starred (Some x) s = bytes_eq (correlation s.tab) x

-- what is wanted of a select list
abbrev pub wanted_in : Wanted → carriers.Wanted
wanted_in W = record { one = W.one; grouped = W.grouped; distinct = W.distinct; kinds = lent_kinds W.kinds }

-- outputs are paired with the columns that take them only where there are as many
abbrev pub paired_kinds : Catalogue → List carriers.Shows → Option (List kinds.Kind) → Sight → Option (List kinds.Kind)
paired_kinds C items wanted v = if is_width wanted (widths items v.own) then wanted else None

-- a column of GROUP BY is no label
abbrev pub group_column : Catalogue → places.Place → Column → ℕ → Typed (Unit {0})
group_column C P c at = kind_found P at (resolve C P.sight.seen c) >>= no_label at

-- what is left of a number after another one is taken from it
abbrev pub left : ℕ → ℕ → Option ℕ
left n taken = if nat_le taken n then Some (n - taken) else None
