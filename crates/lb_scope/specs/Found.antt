-- What a look-up by name gives in the code, as the definitions of names and types see it.
use Rattle.std.specs.Prelude.{Ok, Err}
use Rattle.lb_cat.specs.Stamps.{Kept, bare}
use Rattle.lb_names.specs.Kinds as kinds
use Rattle.lb_names.specs.Scopes.{Catalogue, Resolved}
use Rattle.lb_alter.specs.Naming.{field_of, named_in}
use Rattle.lb_scope.specs.declared.kind.Kind.{Kind}
use Rattle.lb_scope.specs.declared.kind.Kind.TheVariants as lent
use Rattle.lb_scope.specs.declared.column.Meaning.{Meaning}
use Rattle.lb_scope.specs.declared.column.Meaning.TheVariants as meanings

-- the tables and policies of a catalogue as names and types see them
abbrev pub catalogue : Kept → Catalogue
catalogue K = named_in (bare K)

-- the kind, with the policy's name in the place of what lends it
abbrev pub kind_in : Kind → kinds.Kind
kind_in lent.Null = kinds.null
kind_in lent.Integer = kinds.integer
kind_in lent.Text = kinds.text
kind_in lent.Date = kinds.date
kind_in (lent.Label policy) = kinds.label policy.now

-- what a column's name means
abbrev pub meaning_in : Meaning → Resolved
meaning_in (meanings.Found item column) = Ok (record { item = item.now; field = field_of column.now })
meaning_in (meanings.Unknown name) = Err name.now
