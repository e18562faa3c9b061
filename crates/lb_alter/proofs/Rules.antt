-- Rules that refuse what names anything are steady.
use Rattle.std.proofs.Common.{◌≡◌, refl, [], ◌∷◌, Some, None}
use Rattle.std.specs.List.{AllByRecursion}
use Rattle.lb_cat.specs.Catalog.{Cat}
use Rattle.lb_names.specs.Mentions.{Mentions, in_cond, tables_in, policies_in}
use Rattle.lb_alter.specs.Named.{HasTable, HasPolicy}
use Rattle.lb_alter.specs.Steady.{plain_refusal, plain_rules, IsSteady}
use Rattle.lb_cat.specs.declared.refusal.Refusal.{Refusal}
use Rattle.lb_cat.specs.declared.refusal.Refusal.TheVariants as refusals

none_named : (C : Cat) (ms : Mentions) → plain_refusal ms ≡ None → AllByRecursion (HasTable C) (tables_in ms) × AllByRecursion (HasPolicy C) (policies_in ms)
none_named C [] h = (tt, tt)
none_named C (m ∷ ms) h = absurd cc

refused_always : (r : Refusal) → Some r ≡ None → ⊥
refused_always r h = absurd cc

pub plain_rules_steady : IsSteady plain_rules
plain_rules_steady = record {
  reads = λ C D on c _ _ h i. record { names = i.names; types = refl };
  reads_mask = λ C D on column e _ _ h i. absurd (refused_always (refusals.Types 0) i.types);
  mentions = λ C on c. refl;
  mask_mentions = λ C on e. refl;
  qualifies = λ C t on c h i. record { names = i.names; types = refl; qualified = refl };
  qualifies_mask = λ C t on at c e h p i j. absurd (refused_always (refusals.Types 0) j.types);
  widens = λ C t u on c h i j k. record { names = k.names; types = refl };
  widens_mask = λ C t u on column e h i j k. absurd (refused_always (refusals.Types 0) k.types);
  stands = λ C on c h. none_named C (in_cond c) h.names;
  stands_mask = λ C on column e h. absurd (refused_always (refusals.Types 0) h.types);
  relabels = λ C p q on c h i j k. record { names = k.names; types = refl };
  relabels_mask = λ C p q on column e h i j k. absurd (refused_always (refusals.Types 0) k.types);
}
