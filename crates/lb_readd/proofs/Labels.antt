-- Permissions, masks, components, policies and labels.
use Rattle.std.proofs.Common.{Bool, true, false, inl, inr, ◌≡◌, ℕ, List, [], ◌++◌, refl, ◌∙◌}
use Rattle.lb_stmt.specs.declared.change.Switch.TheVariants as switches
use Rattle.lb_stmt.specs.declared.change.ComponentDef.TheVariants as components
use Rattle.lb_stmt.specs.declared.change.WriteOption.TheVariants as options
use Rattle.lb_stmt.specs.declared.change.LabelName.{LabelName}
use Rattle.lb_stmt.specs.declared.change.Change.{Change}
use Rattle.lb_stmt.specs.declared.change.Change.TheVariants as changes
use Rattle.lb_tok.specs.declared.kind.Kind.TheVariants as kinds
use Rattle.lb_tok.specs.Kinds.{Kinds, only, names}
use Rattle.lb_tok.specs.Form.{Lang, Nothing, Seq, Either, Made, Listed}
use Rattle.lb_tok.specs.Grammar.{IsName}
use Rattle.lb_tok.specs.Changes.{IsSwitch, IsFirstSwitch, IsReplace, IsPermission, IsMask, IsTexts, IsTreeElement, IsTree, IsComponentDef, IsPart, IsCreateLabel, IsWriteOption, IsCreatePolicy, IsDropLabel}
use Rattle.lb_tok.specs.declared.token.Token.{Token}
use Rattle.lb_readt.specs.Readers.{Reader, seq, after, made}
use Rattle.lb_readt.specs.Tokens.{name_at}
use Rattle.lb_reade.specs.Expressions.{Readers, cond_at, case_at}
use Rattle.lb_readq.specs.Queries.{tab_at}
use Rattle.lb_readt.proofs.Joined.{Within}
use Rattle.lb_readt.proofs.Combined.{IsReaderOf, give_reads, then_reads, same_reads, pick_reads, wide, made_reads, after_reads, means_reads, commas_reads, listed_reads}
use Rattle.lb_readt.proofs.Languages.{assoc, unassoc}
use Rattle.lb_readt.proofs.Tokens.{name_reads, text_reads}
use Rattle.lb_reade.proofs.Expressions.{Ready, parens_reads, case_reads}
use Rattle.lb_reade.proofs.Conditions.{cond_reads}
use Rattle.lb_readq.proofs.Queries.{tab_reads}
use Rattle.lb_readd.specs.Defining.{switch_at, first_switch_at, replace_at, permission_at, mask_at, control_at, texts_at, tree_element_at, tree_at, component_at, create_component_at, new_label_on, create_label_on, create_label_at, which_option_at, write_option_at, create_policy_at, dropped_label_on, drop_label_on, drop_label_at}
use Rattle.lb_readd.proofs.Controls.{like_reads, controlled_on, rows_on, masked_on, same_after, same_on}
use Rattle.lb_readg.proofs.Names.{Ahead, Chosen, ahead_reads}
use Rattle.lb_readd.proofs.Joined.{parts_reads}
use Rattle.lb_readg.proofs.LabelNames.{LabelOn, label_on_reads}

-- ---- permissions and masks

abbrev in_switch : Kinds
in_switch = only kinds.Enable ++ only kinds.Disable

pub switch_reads : {b : Bool} {d : ℕ} → IsReaderOf b d switch_at IsSwitch false in_switch []
unfolding switch_at
switch_reads = wide _ _ refl refl refl (pick_reads (means_reads kinds.Enable switches.Enable refl) (means_reads kinds.Disable switches.Disable refl) refl)

first_switch_reads : {b : Bool} {d : ℕ} → IsReaderOf b d first_switch_at IsFirstSwitch true in_switch in_switch
unfolding first_switch_at
first_switch_reads = wide _ _ refl refl refl (pick_reads switch_reads (give_reads switches.Disable) refl)

pub replace_reads : {b : Bool} {d : ℕ} → IsReaderOf b d replace_at IsReplace true (only kinds.Or) (only kinds.Or)
unfolding replace_at
replace_reads = wide _ _ refl refl refl (pick_reads (after_reads kinds.Or refl (means_reads kinds.Replace true refl)) (give_reads false) refl)

-- all of a production in one
abbrev Permission : Readers → Bool → Reader Change
Permission w r = after kinds.Permission (seq name_at (λ n. after kinds.On (seq tab_at (λ t. after kinds.For (after kinds.Rows (after kinds.Where (seq (cond_at w) (λ c.
    after kinds.Enforced (after kinds.For (after kinds.All (after kinds.Access
    (made (λ s. changes.CreatePermission (record { replace = r; name = n; on = t; condition = c; switch = s })) first_switch_at))))))))))))

abbrev Mask : Readers → Bool → Reader Change
Mask w r = after kinds.Mask (seq name_at (λ n. after kinds.On (seq tab_at (λ t. after kinds.For (after kinds.Column (seq name_at (λ c. after kinds.Return (seq (case_at w) (λ v.
    made (λ s. changes.CreateMask (record { replace = r; name = n; on = t; column = c; value = v; switch = s })) first_switch_at)))))))))

permission_is : (w : Readers) (r : Bool) (ts : List Token) → permission_at w r ts ≡ Permission w r ts
unfolding permission_at
permission_is w r = same_after kinds.Permission _ _ (λ ts. controlled_on _ ts ∙ same_on name_at _ _ (λ n. same_after kinds.On _ _ (same_on tab_at _ _ (λ t. same_after kinds.For _ _ (rows_on w _)))) ts)

mask_is : (w : Readers) (r : Bool) (ts : List Token) → mask_at w r ts ≡ Mask w r ts
unfolding mask_at
mask_is w r = same_after kinds.Mask _ _ (λ ts. controlled_on _ ts ∙ same_on name_at _ _ (λ n. same_after kinds.On _ _ (same_on tab_at _ _ (λ t. same_after kinds.For _ _ (masked_on w _)))) ts)

permission_reads : {b : Bool} {d : ℕ} {w : Readers} → Ready d w → (r : Bool) → IsReaderOf b d (permission_at w r) (IsPermission r) false (only kinds.Permission) in_switch
permission_reads {b} {d} {w} q r = like_reads (permission_at w r) (permission_is w r) (wide _ _ refl refl refl (after_reads kinds.Permission refl (then_reads name_reads (λ n. after_reads kinds.On refl (then_reads tab_reads (λ t. after_reads kinds.For refl (after_reads kinds.Rows refl (after_reads kinds.Where refl (then_reads (cond_reads q) (λ c.
    after_reads kinds.Enforced refl (after_reads kinds.For refl (after_reads kinds.All refl (after_reads kinds.Access refl (made_reads (λ s. changes.CreatePermission (record { replace = r; name = n; on = t; condition = c; switch = s })) first_switch_reads))))) refl)))) refl)) refl)))

mask_reads : {b : Bool} {d : ℕ} {w : Readers} → Ready d w → (r : Bool) → IsReaderOf b d (mask_at w r) (IsMask r) false (only kinds.Mask) in_switch
mask_reads {b} {d} {w} q r = like_reads (mask_at w r) (mask_is w r) (wide _ _ refl refl refl (after_reads kinds.Mask refl (then_reads name_reads (λ n. after_reads kinds.On refl (then_reads tab_reads (λ t. after_reads kinds.For refl (after_reads kinds.Column refl (then_reads name_reads (λ c. after_reads kinds.Return refl (then_reads (case_reads q) (λ v.
    made_reads (λ s. changes.CreateMask (record { replace = r; name = n; on = t; column = c; value = v; switch = s })) first_switch_reads) refl)) refl))) refl)) refl)))

pub control_reads : {b : Bool} {d : ℕ} {w : Readers} → Ready d w → (r : Bool) → IsReaderOf b d (control_at w r) (Either (IsPermission r) (IsMask r)) false (only kinds.Permission ++ only kinds.Mask) in_switch
unfolding control_at
control_reads q r = wide _ _ refl refl refl (pick_reads (permission_reads q r) (mask_reads q r) refl)

-- ---- components

texts_reads : {b : Bool} {d : ℕ} → IsReaderOf b d texts_at IsTexts false (only kinds.Text) (only kinds.Comma)
unfolding texts_at
texts_reads = wide _ _ refl refl refl (listed_reads text_reads refl)

tree_element_reads : {b : Bool} {d : ℕ} → IsReaderOf b d tree_element_at IsTreeElement false (only kinds.Text) []
unfolding tree_element_at
tree_element_reads = wide _ _ refl refl refl (then_reads text_reads (λ n. after_reads kinds.Under refl (made_reads (λ p. record { name = n; parent = p }) text_reads)) refl)

tree_reads : {b : Bool} {d : ℕ} → IsReaderOf b d tree_at IsTree false (only kinds.Text) (only kinds.Comma)
unfolding tree_at
tree_reads = wide _ _ refl refl refl (then_reads text_reads (λ r. after_reads kinds.Root refl (made_reads (components.Tree r) (commas_reads tree_element_reads refl))) refl)

component_reads : {b : Bool} {d : ℕ} {w : Readers} → Ready d w → IsReaderOf b d (component_at w) IsComponentDef false (only kinds.Set ++ only kinds.Array ++ only kinds.Tree) []
unfolding component_at
component_reads r = wide _ _ refl refl refl (
    pick_reads (after_reads kinds.Set refl (made_reads components.Set (after_reads kinds.LeftBrace refl (then_reads texts_reads (λ x. means_reads kinds.RightBrace x refl) refl))))
    (pick_reads (after_reads kinds.Array refl (made_reads components.Array (after_reads kinds.LeftBracket refl (then_reads texts_reads (λ x. means_reads kinds.RightBracket x refl) refl))))
    (after_reads kinds.Tree refl (parens_reads r (record { reads = λ b d l. tree_reads }) refl)) refl) refl)

-- ---- labels

abbrev CreateComponent : Lang Change
CreateComponent = Seq IsName (λ n. Made (changes.CreateComponent n) IsComponentDef)

create_component_reads : {b : Bool} {d : ℕ} {w : Readers} → Ready d w → IsReaderOf b d (create_component_at w) CreateComponent false names []
unfolding create_component_at
create_component_reads r = wide _ _ refl refl refl (then_reads name_reads (λ n. made_reads (changes.CreateComponent n) (component_reads r)) refl)

abbrev NewLabel : LabelName → Lang Change
NewLabel l = Made (changes.CreateLabel l) (Listed IsPart)

abbrev NewLabelOn : List ℕ → Lang Change
NewLabelOn p = Seq (LabelOn p) NewLabel

new_label_reads : {b : Bool} {d : ℕ} (p : List ℕ) → IsReaderOf b d (new_label_on p) (NewLabelOn p) false (only kinds.Dot) (only kinds.Comma)
unfolding new_label_on
new_label_reads p = wide _ _ refl refl refl (then_reads (label_on_reads p) (λ l. made_reads (changes.CreateLabel l) parts_reads) refl)

create_label_on_reads : {b : Bool} {d : ℕ} {w : Readers} → Ready d w → (p : Bool × List ℕ) → IsReaderOf b d (create_label_on w p) (Chosen CreateComponent NewLabelOn p) false (names ++ only kinds.Dot) (only kinds.Comma)
unfolding create_label_on
create_label_on_reads r (true, n) = wide _ _ refl refl refl (pick_reads (create_component_reads r) (new_label_reads n) refl)
create_label_on_reads r (false, n) = wide _ _ refl refl refl (new_label_reads n)

to_create : Within (Ahead kinds.Component CreateComponent NewLabelOn) IsCreateLabel
to_create s ts x (inl p) = inl p
to_create s ts x (inr p) = inr (unassoc IsName LabelOn NewLabel s ts x p)

of_create : Within IsCreateLabel (Ahead kinds.Component CreateComponent NewLabelOn)
of_create s ts x (inl p) = inl p
of_create s ts x (inr p) = inr (assoc IsName LabelOn NewLabel s ts x p)

pub create_label_reads : {b : Bool} {d : ℕ} {w : Readers} → Ready d w → IsReaderOf b d (create_label_at w) IsCreateLabel false names (only kinds.Comma)
unfolding create_label_at
create_label_reads r = wide _ _ refl refl refl (same_reads IsCreateLabel to_create of_create (ahead_reads kinds.Component CreateComponent NewLabelOn refl (create_label_on_reads r) refl))

abbrev DropComponent : Lang Change
DropComponent = Made changes.DropComponent IsName

abbrev Dropped : LabelName → Lang Change
Dropped l = Nothing (changes.DropLabel l)

abbrev DroppedOn : List ℕ → Lang Change
DroppedOn p = Seq (LabelOn p) Dropped

dropped_reads : {b : Bool} {d : ℕ} (p : List ℕ) → IsReaderOf b d (dropped_label_on p) (DroppedOn p) false (only kinds.Dot) []
unfolding dropped_label_on
dropped_reads p = made_reads changes.DropLabel (label_on_reads p)

drop_label_on_reads : {b : Bool} {d : ℕ} (p : Bool × List ℕ) → IsReaderOf b d (drop_label_on p) (Chosen DropComponent DroppedOn p) false (names ++ only kinds.Dot) []
unfolding drop_label_on
drop_label_on_reads (true, n) = wide _ _ refl refl refl (pick_reads (made_reads changes.DropComponent name_reads) (dropped_reads n) refl)
drop_label_on_reads (false, n) = wide _ _ refl refl refl (dropped_reads n)

to_drop : Within (Ahead kinds.Component DropComponent DroppedOn) IsDropLabel
to_drop s ts x (inl p) = inl p
to_drop s ts x (inr p) = inr (unassoc IsName LabelOn Dropped s ts x p)

of_drop : Within IsDropLabel (Ahead kinds.Component DropComponent DroppedOn)
of_drop s ts x (inl p) = inl p
of_drop s ts x (inr p) = inr (assoc IsName LabelOn Dropped s ts x p)

pub drop_label_reads : {b : Bool} {d : ℕ} → IsReaderOf b d drop_label_at IsDropLabel false names []
unfolding drop_label_at
drop_label_reads = wide _ _ refl refl refl (same_reads IsDropLabel to_drop of_drop (ahead_reads kinds.Component DropComponent DroppedOn refl drop_label_on_reads refl))

-- ---- policies

write_option_reads : {b : Bool} {d : ℕ} → IsReaderOf b d write_option_at IsWriteOption true (only kinds.Override ++ only kinds.Restrict) (only kinds.Override ++ only kinds.Restrict)
unfolding write_option_at which_option_at
write_option_reads = wide _ _ refl refl refl (pick_reads (wide (only kinds.Override ++ only kinds.Restrict) [] refl refl refl (then_reads (pick_reads (means_reads kinds.Override options.Override refl) (means_reads kinds.Restrict options.Restrict refl) refl) (λ o.
    after_reads kinds.Not refl (after_reads kinds.Authorized refl (after_reads kinds.Write refl (after_reads kinds.Security refl (means_reads kinds.Label o refl))))) refl)) (give_reads options.Override) refl)

pub create_policy_reads : {b : Bool} {d : ℕ} → IsReaderOf b d create_policy_at IsCreatePolicy false (only kinds.Policy) (only kinds.Override ++ only kinds.Restrict)
unfolding create_policy_at
create_policy_reads = wide _ _ refl refl refl (after_reads kinds.Policy refl (then_reads name_reads (λ n. after_reads kinds.Components refl (then_reads (listed_reads name_reads refl) (λ cs. after_reads kinds.With refl (after_reads kinds.Db2LbacRules refl
    (made_reads (λ o. changes.CreatePolicy (record { name = n; components = cs; option = o })) write_option_reads))) refl)) refl))
