-- The rules for stored conditions read what a condition mentions alone, and what it mentions is there.
use Rattle.std.proofs.Common.{◌≡◌, refl, sym, ap, subst, ◌∙◌, ℕ, Bool, true, List, [], ◌∷◌, Option, Some, None, is_some}
use Rattle.std.specs.Option.{option_and_then, option_map}
use Rattle.std.specs.List.{AllByRecursion}
use Rattle.lb_tree.specs.declared.query.Cond.{Cond}
use Rattle.lb_tree.specs.declared.query.Expr.{Expr}
use Rattle.lb_tree.specs.declared.query.Tab.{Tab}
use Rattle.lb_cat.specs.Catalog.{Cat, Table, Policy, table_named, policy_named, label_named, put_policy}
use Rattle.lb_names.specs.declared.refused.Refused.{Refused}
use Rattle.lb_names.specs.Mentions.{Mentions, table, policy, label, in_cond, in_expr}
use Rattle.lb_names.specs.Agreeing.{AgreeOn, AreThere}
use Rattle.lb_names.specs.Scopes as scopes
use Rattle.lb_names.specs.Statements.{permission_names_refused, mask_names_refused}
use Rattle.lb_names.proofs.NamesFrame.{permission_names_same, mask_names_same}
use Rattle.lb_names.proofs.TypesFrame.{permission_types_same, mask_types_same}
use Rattle.lb_names.proofs.KeptForms.{permission_kept, mask_kept}
use Rattle.lb_names.proofs.There.{permission_there, mask_there}
use Rattle.lb_alter.specs.Steady.{IsRelabelled, StaysNamed}
use Rattle.lb_alter.specs.Valid.{KeepsRules, KeepsMaskRules}
use Rattle.lb_alter.proofs.SoundTables.{put_case}
use Rattle.lb_alter.specs.Naming.{fields_of, fault_in, named_in, refusal_for, stored_rules}
use Rattle.lb_journal.proofs.Facts.{HasMentioned, ReadsNoMore, ReadsNoMoreInMask, KeepsMentions, KeepsMaskMentions, MentionsStand, MaskMentionsStand, OutlastsLabels, OutlastsLabelsInMask}
use Rattle.lb_journal.proofs.Agreeing.{agree_on}

-- what is told as no refusal is none
pub none_told : (o : Option Refused) → option_map refusal_for o ≡ None → o ≡ None
none_told None h = refl
none_told (Some r) h = absurd cc

-- ---- catalogues that agree

pub keeps : (C D : Cat) (on : Tab) (c : Cond) → AgreeOn (named_in C) (named_in D) (table on.table ∷ in_cond c) → KeepsRules stored_rules C on c → KeepsRules stored_rules D on c
keeps C D on c agree h = record {
  names = ap (option_map refusal_for) (sym (permission_names_same (named_in C) (named_in D) on c agree)) ∙ h.names;
  types = ap (option_map refusal_for) (sym (permission_types_same (named_in C) (named_in D) on c agree)) ∙ h.types;
}

pub keeps_mask : (C D : Cat) (on : Tab) (column : List ℕ) (e : Expr) → AgreeOn (named_in C) (named_in D) (table on.table ∷ in_expr e) → KeepsMaskRules stored_rules C on column e → KeepsMaskRules stored_rules D on column e
keeps_mask C D on column e agree h = record {
  names = ap (option_map refusal_for) (sym (mask_names_same (named_in C) (named_in D) on e agree)) ∙ h.names;
  types = ap (option_map refusal_for) (sym (mask_types_same (named_in C) (named_in D) on column e agree)) ∙ h.types;
}

pub reads : ReadsNoMore stored_rules
reads C D on c names_C names_D same h = keeps C D on c (agree_on C D names_C names_D (table on.table ∷ in_cond c) same) h

pub reads_mask : ReadsNoMoreInMask stored_rules
reads_mask C D on column e names_C names_D same h = keeps_mask C D on column e (agree_on C D names_C names_D (table on.table ∷ in_expr e) same) h

-- ---- mentions

pub mentions : KeepsMentions stored_rules
mentions C on c = permission_kept (named_in C) on c

pub mask_mentions : KeepsMaskMentions stored_rules
mask_mentions C on e = mask_kept (named_in C) on e

table_there : (o : Option Table) → scopes.is_some (option_map fields_of o) ≡ true → is_some o ≡ true
table_there None h = absurd cc
table_there (Some t) h = refl

all_there : (C : Cat) (ms : Mentions) → AreThere (named_in C) ms → HasMentioned C ms
all_there C [] h = (tt, tt)
all_there C (table n ∷ ms) h = let rest : HasMentioned C ms = all_there C ms h.1 in ((table_there (table_named C n) h.0, rest.0), rest.1)
all_there C (policy p ∷ ms) h = let rest : HasMentioned C ms = all_there C ms h.1 in (rest.0, (h.0, rest.1))
all_there C (label p l ∷ ms) h = let rest : HasMentioned C ms = all_there C ms h.1 in (rest.0, (h.0.0, rest.1))

pub stands : MentionsStand stored_rules
stands C on c h = all_there C (in_cond c) (permission_there (named_in C) on c (none_told (permission_names_refused (named_in C) on c) h.names))

pub stands_mask : MaskMentionsStand stored_rules
stands_mask C on column e h = all_there C (in_expr e) (mask_there (named_in C) on e (none_told (mask_names_refused (named_in C) on e) h.names))

-- ---- other labels

module _ (C : Cat) (p q : Policy) (found : policy_named C p.name ≡ Some p) (r : IsRelabelled p q) where
  abbrev HasLabel : List ℕ → Option Policy → Bool
  HasLabel l o = is_some (option_and_then (λ (x : Policy). label_named x l) o)

  abbrev Faults : List ℕ → Option Policy → Option ℕ
  Faults t o = option_and_then (λ (x : Policy). fault_in x t) o

  here : (n : List ℕ) → q.name ≡ n → policy_named C n ≡ Some p
  here n e = subst (λ (m : List ℕ). policy_named C m ≡ Some p) (sym r.name ∙ e) found

  same_fault : (t : List ℕ) → fault_in p t ≡ fault_in q t
  same_fault t = ap (λ s. fault_in (record p { shape = s }) t) (sym r.shape)

  same_policy : (n : List ℕ) → is_some (policy_named C n) ≡ is_some (policy_named (put_policy q C) n)
  same_policy n = put_case (λ (x : Policy). x.name) (λ o. is_some (policy_named C n) ≡ is_some o) q C.policies n (λ e. ap is_some (here n e)) refl

  same_faults : (n t : List ℕ) → Faults t (policy_named C n) ≡ Faults t (policy_named (put_policy q C) n)
  same_faults n t = put_case (λ (x : Policy). x.name) (λ o. Faults t (policy_named C n) ≡ Faults t o) q C.policies n (λ e. ap (Faults t) (here n e) ∙ same_fault t) refl

  same_label : (n l : List ℕ) → StaysNamed p q (label n l) → HasLabel l (policy_named C n) ≡ true → HasLabel l (policy_named C n) ≡ HasLabel l (policy_named (put_policy q C) n)
  same_label n l stays h =
      put_case (λ (x : Policy). x.name) (λ o. HasLabel l (policy_named C n) ≡ HasLabel l o) q C.policies n
      (λ e. h ∙ sym (stays (sym (sym r.name ∙ e)) (sym (ap (HasLabel l) (here n e)) ∙ h)))
      refl

  relabelled : (ms : Mentions) → AreThere (named_in C) ms → AllByRecursion (StaysNamed p q) ms → AgreeOn (named_in C) (named_in (put_policy q C)) ms
  relabelled [] h k = tt
  relabelled (table n ∷ ms) h k = (refl, relabelled ms h.1 k.1)
  relabelled (policy n ∷ ms) h k = ((same_policy n, same_faults n), relabelled ms h.1 k.1)
  relabelled (label n l ∷ ms) h k = ((same_policy n, same_label n l k.0 h.0.1), relabelled ms h.1 k.1)

pub relabels : OutlastsLabels stored_rules
relabels C p q on c found r stay h =
    keeps C (put_policy q C) on c (refl, relabelled C p q found r (in_cond c) (permission_there (named_in C) on c (none_told (permission_names_refused (named_in C) on c) h.names)) stay) h

pub relabels_mask : OutlastsLabelsInMask stored_rules
relabels_mask C p q on column e found r stay h =
    keeps_mask C (put_policy q C) on column e (refl, relabelled C p q found r (in_expr e) (mask_there (named_in C) on e (none_told (mask_names_refused (named_in C) on e) h.names)) stay) h
