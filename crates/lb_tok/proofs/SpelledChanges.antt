-- Statements that change the catalogue, spelled by canonical pieces.
use Rattle.std.proofs.Common.{Bool, true, false, cond, ◌≡◌, ℕ, List, [], ◌∷◌, ◌++◌, map, Option, Some, None, refl, sym, ap, subst, append_assoc}
use Rattle.std.specs.Option.{option_and_then}
use Rattle.lb_tree.specs.declared.query.Tab.{Tab}
use Rattle.lb_tree.specs.declared.query.Cond.{Cond}
use Rattle.lb_tree.specs.declared.query.Expr.{Expr}
use Rattle.lb_stmt.specs.declared.change.PlainType.{PlainType}
use Rattle.lb_stmt.specs.declared.change.PlainType.TheVariants as plains
use Rattle.lb_stmt.specs.declared.change.ColumnType.{ColumnType}
use Rattle.lb_stmt.specs.declared.change.ColumnType.TheVariants as types
use Rattle.lb_stmt.specs.declared.change.Element.{Element}
use Rattle.lb_stmt.specs.declared.change.Element.TheVariants as elements
use Rattle.lb_stmt.specs.declared.change.Switch.{Switch}
use Rattle.lb_stmt.specs.declared.change.Switch.TheVariants as switches
use Rattle.lb_stmt.specs.declared.change.ControlOf.{ControlOf}
use Rattle.lb_stmt.specs.declared.change.ControlOf.TheVariants as controls
use Rattle.lb_stmt.specs.declared.change.Activation.{Activation}
use Rattle.lb_stmt.specs.declared.change.TreeElement.{TreeElement}
use Rattle.lb_stmt.specs.declared.change.ComponentDef.{ComponentDef}
use Rattle.lb_stmt.specs.declared.change.WriteOption.{WriteOption}
use Rattle.lb_stmt.specs.declared.change.WriteOption.TheVariants as options
use Rattle.lb_stmt.specs.declared.change.LabelName.{LabelName}
use Rattle.lb_stmt.specs.declared.change.LabelPart.{LabelPart}
use Rattle.lb_stmt.specs.declared.change.Access.{Access}
use Rattle.lb_stmt.specs.declared.change.Access.TheVariants as accesses
use Rattle.lb_stmt.specs.declared.change.Exempted.{Exempted}
use Rattle.lb_base.specs.declared.rule.Rule.TheVariants as rules
use Rattle.lb_stmt.specs.declared.change.Exempted.TheVariants as exempted
use Rattle.lb_stmt.specs.declared.change.Privilege.{Privilege}
use Rattle.lb_stmt.specs.declared.change.Privilege.TheVariants as privileges
use Rattle.lb_stmt.specs.declared.change.Grantee.{Grantee}
use Rattle.lb_stmt.specs.declared.change.Grantee.TheVariants as grantees
use Rattle.lb_stmt.specs.declared.change.Change.{Change}
use Rattle.lb_stmt.specs.declared.change.Change.TheVariants as changes
use Rattle.lb_tok.specs.declared.kind.Kind.{Kind}
use Rattle.lb_tok.specs.declared.kind.Kind.TheVariants as kinds
use Rattle.lb_tok.specs.declared.token.Token.{Token}
use Rattle.lb_tok.specs.declared.token.Content.TheVariants as contents
use Rattle.lb_tok.specs.Kinds.{has, names, spelling}
use Rattle.lb_tok.specs.Words.{name_in}
use Rattle.lb_tok.specs.Form.{Below, Lang, Nothing, Seq, Either, Many, Word, After, Made, Means, Optional}
use Rattle.lb_tok.specs.Spacing.{Piece, mark, keyword, name, opening, literal, tokens_in}
use Rattle.lb_tok.specs.QueryPieces.{listed, clause, option_of, name_pieces, text_pieces, int_piece}
use Rattle.lb_tok.specs.ChangePieces.{label_piece, user_pieces, grantee_pieces, plain_pieces, type_pieces, not_null_pieces, key_option_pieces, element_pieces, policy_pieces, activate_kind, control_kind, activation_pieces, second_pieces, switch_kind, replace_pieces, texts_pieces, under_pieces, component_pieces, part_pieces, write_option_kind, access_kind, access_pieces, rule_pieces, exemption_pieces, privilege_pieces, privileges_pieces, change_pieces}
use Rattle.lb_tok.specs.Grammar.{IsName, IsCase, IsCond, IsTab}
use Rattle.lb_tok.specs.Changes.{Named, AfterNamed, IsUser, IsGrantee, IsLabelName, IsPlainType, IsType, IsOption, IsSecured, any_is, IsColumnDef, IsElement, IsCreateTable, IsActivation, IsAdded, IsAlteredColumn, IsActs, IsAlterTable, IsSwitch, IsFirstSwitch, IsReplace, IsPermission, IsMask, IsTexts, IsTreeElement, IsComponentDef, IsPart, IsCreateLabel, IsWriteOption, IsCreatePolicy, IsDropLabel, IsAccess, IsRule, IsRuleOf, IsRight, IsPrivilegesOn, IsGrant, IsRevoke, IsCreate, IsAlter, IsDrop, IsChange}
use Rattle.lb_tok.proofs.Signs.{signs}
use Rattle.lb_tok.proofs.Fitting.{IsFree, mark_run, opening_run}
use Rattle.lb_tok.proofs.SpelledPieces.{Got, split, follow, unmake, meant, nothing_is, which, inside, Spells, seq, give, made, word, after, means, left, right, bracket, regroup, many, listing, optional, has_only}
use Rattle.lb_tok.proofs.SpelledWords.{free, free_spells, name-turn, text-turn, int-turn, dotted_spells}
use Rattle.lb_tok.proofs.SpelledExpressions.{case-turn}
use Rattle.lb_tok.proofs.SpelledConditions.{Room, whole_cond}
use Rattle.lb_tok.proofs.SpelledQueries.{tab-turn}

-- ---- keywords that may be names

named : {t : Below} (k : Kind) → has signs k ≡ true → has names k ≡ true → Spells (Named k) t (mark k ∷ []) tt
named k e n = record { spelled = (keyword k, refl, has_only k, ap (λ (b : Bool). option_and_then {U = Unit {0}} (λ m. Some tt) (name_in (cond b (contents.Word (spelling k)) contents.Nothing))) n); runs = (mark_run k e, tt) }

after_named : {A : Type 0} {P : Lang A} {t : Below} {ps : List Piece} {x : A} (k : Kind) → has signs k ≡ true → has names k ≡ true → Spells P t ps x → Spells (AfterNamed k P) t (mark k ∷ ps) x
after_named k e n p = seq (named k e n) p

-- a word in front that may be left out, and is
without : {A : Type 0} {W : Lang (Unit {0})} {P : Lang A} {t : Below} {ps : List Piece} {x : A} → Spells P t ps x → Spells (Seq (Either W (Nothing tt)) (λ _. P)) t ps x
without p = seq (right (give tt)) p

-- ---- names of several parts

user-turn : {s t : Below} (ts : List Token) (x : List ℕ) → Got IsUser s ts x → Spells IsUser t (user_pieces x) x
unfolding has
user-turn ts x g = let q = follow g in seq (left (word kinds.User refl)) (name-turn q.tokens x q.got)

grantee-turn : {s t : Below} (ts : List Token) (x : Grantee) → Got IsGrantee s ts x → Spells IsGrantee t (grantee_pieces x) x
unfolding has
grantee-turn {s} {t} ts x g =
    which g
    (λ a. subst (λ (y : Grantee). Spells IsGrantee t (grantee_pieces y) y) (sym (meant a)) (left (means kinds.Public grantees.Public refl)))
    (λ a. let q = unmake a in subst (λ (y : Grantee). Spells IsGrantee t (grantee_pieces y) y) (sym q.is) (right (made (user-turn q.tokens q.tree q.got))))

label-turn : {s t : Below} (ts : List Token) (x : LabelName) → Got IsLabelName s ts x → Spells IsLabelName t (label_piece x ∷ []) x
unfolding has
label-turn {s} {t} ts x g =
    let p = split g in
    let q = unmake (follow p.right).got in
    subst (λ (y : LabelName). Spells IsLabelName t (label_piece y ∷ []) y) (sym q.is)
    (dotted_spells p.tree q.tree (free p.left) (free q.got) (seq (name-turn p.front p.tree p.left) (after kinds.Dot refl (made (name-turn q.tokens q.tree q.got)))))

-- ---- tables

plain-turn : {s t : Below} (ts : List Token) (x : PlainType) → Got IsPlainType s ts x → Spells IsPlainType t (plain_pieces x) x
unfolding has
plain-turn {s} {t} ts x g =
    which g (λ a. an_int (meant a)) (λ b. which b (λ a. an_int (meant a)) (λ b. which b (λ a. an_int (meant a)) (λ b. which b
    (λ a.
    let q = unmake (follow a).got in
    let i = inside q.got in
    let whole : Spells IsPlainType t (mark kinds.Varchar ∷ mark kinds.Open ∷ int_piece q.tree ∷ mark kinds.Close ∷ []) (plains.Text q.tree) = right (right (right (left (after kinds.Varchar refl (made (bracket kinds.Open kinds.Close refl refl (int-turn i.tokens q.tree i.got))))))) in
    subst (λ (y : PlainType). Spells IsPlainType t (plain_pieces y) y) (sym q.is) (regroup (opening kinds.Varchar ∷ int_piece q.tree ∷ mark kinds.Close ∷ []) refl (opening_run kinds.Varchar refl refl, whole.runs.1.1) whole))
    (λ a. subst (λ (y : PlainType). Spells IsPlainType t (plain_pieces y) y) (sym (meant a)) (right (right (right (right (means kinds.Date plains.Date refl)))))))))
  where
    an_int : x ≡ plains.Int → Spells IsPlainType t (plain_pieces x) x
    an_int e = subst (λ (y : PlainType). Spells IsPlainType t (plain_pieces y) y) (sym e) (left (means kinds.BigInt plains.Int refl))

type-turn : {s t : Below} (ts : List Token) (x : ColumnType) → Got IsType s ts x → Spells IsType t (type_pieces x) x
unfolding has
type-turn {s} {t} ts x g =
    which g
    (λ a. subst (λ (y : ColumnType). Spells IsType t (type_pieces y) y) (sym (meant a)) (left (means kinds.Db2SecurityLabel types.Label refl)))
    (λ a. let q = unmake a in subst (λ (y : ColumnType). Spells IsType t (type_pieces y) y) (sym q.is) (right (made (plain-turn q.tokens q.tree q.got))))

none_more : {A : Type 0} {P : Lang A} {t : Below} → Spells (Many P) t [] []
none_more = record { spelled = refl; runs = tt }

-- the options that are written, each once
abbrev options_of : Bool → Bool → List Bool
options_of true true = false ∷ true ∷ []
options_of true false = false ∷ []
options_of false true = true ∷ []
options_of false false = []

options_spells : {t : Below} (a b : Bool) → Spells (Many IsOption) t (not_null_pieces a ++ key_option_pieces b) (options_of a b)
unfolding has
options_spells {t} true true = record { spelled = (tokens_in (not_null_pieces true), tokens_in (key_option_pieces true), no_null.spelled, (tokens_in (key_option_pieces true), [], key.spelled, refl, refl), refl); runs = (no_null.runs.0, (no_null.runs.1.0, key.runs)) }
  where
    no_null : Spells IsOption t (mark kinds.Not ∷ mark kinds.Null ∷ []) false
    no_null = left (after kinds.Not refl (means kinds.Null false refl))

    key : Spells IsOption t (mark kinds.Primary ∷ mark kinds.Key ∷ []) true
    key = right (after kinds.Primary refl (means kinds.Key true refl))
options_spells {t} true false = record { spelled = (tokens_in (not_null_pieces true), [], no_null.spelled, refl, refl); runs = no_null.runs }
  where
    no_null : Spells IsOption t (mark kinds.Not ∷ mark kinds.Null ∷ []) false
    no_null = left (after kinds.Not refl (means kinds.Null false refl))
options_spells {t} false true = record { spelled = (tokens_in (key_option_pieces true), [], key.spelled, refl, refl); runs = key.runs }
  where
    key : Spells IsOption t (mark kinds.Primary ∷ mark kinds.Key ∷ []) true
    key = right (after kinds.Primary refl (means kinds.Key true refl))
options_spells false false = none_more

-- a column, with the options that are written
abbrev a_column : List ℕ → ColumnType → Bool → Bool → Option (List ℕ) → Element
a_column n ty a b l = elements.Column (record { name = n; ty = ty; not_null = a; key = b; secured = l })

secured-turn : {s t : Below} (ts : List Token) (x : List ℕ) → Got IsSecured s ts x → Spells IsSecured t (mark kinds.Secured ∷ mark kinds.With ∷ name x ∷ []) x
unfolding has
secured-turn ts x g = let q = follow (follow (follow g).got).got in without (after kinds.Secured refl (after kinds.With refl (name-turn q.tokens x q.got)))

bare_column : {t : Below} (n : List ℕ) (ty : ColumnType) (a b : Bool) → IsFree n → Spells IsType t (type_pieces ty) ty → Spells IsColumnDef t (element_pieces (a_column n ty a b None)) (a_column n ty a b None)
bare_column n ty true true f p = seq (free_spells n f) (seq p (seq (options_spells true true) (right (give (a_column n ty true true None)))))
bare_column n ty true false f p = seq (free_spells n f) (seq p (seq (options_spells true false) (right (give (a_column n ty true false None)))))
bare_column n ty false true f p = seq (free_spells n f) (seq p (seq (options_spells false true) (right (give (a_column n ty false true None)))))
bare_column n ty false false f p = seq (free_spells n f) (seq p (seq (options_spells false false) (right (give (a_column n ty false false None)))))

secured_column : {t : Below} (n : List ℕ) (ty : ColumnType) (a b : Bool) (l : List ℕ) → IsFree n → Spells IsType t (type_pieces ty) ty → Spells IsSecured t (mark kinds.Secured ∷ mark kinds.With ∷ name l ∷ []) l → Spells IsColumnDef t (element_pieces (a_column n ty a b (Some l))) (a_column n ty a b (Some l))
secured_column n ty true true l f p q = seq (free_spells n f) (seq p (seq (options_spells true true) (left (seq q (made none_more)))))
secured_column n ty true false l f p q = seq (free_spells n f) (seq p (seq (options_spells true false) (left (seq q (made none_more)))))
secured_column n ty false true l f p q = seq (free_spells n f) (seq p (seq (options_spells false true) (left (seq q (made none_more)))))
secured_column n ty false false l f p q = seq (free_spells n f) (seq p (seq (options_spells false false) (left (seq q (made none_more)))))

column_def-turn : {s t : Below} (ts : List Token) (x : Element) → Got IsColumnDef s ts x → Spells IsColumnDef t (element_pieces x) x
column_def-turn {s} {t} ts x g =
    let p = split g in
    let q = split p.right in
    let r = split q.right in
    which r.right
    (λ a. let l = split a in let m = unmake l.right in
    subst (λ (y : Element). Spells IsColumnDef t (element_pieces y) y) (sym m.is)
    (secured_column p.tree q.tree (any_is false (r.tree ++ m.tree)) (any_is true (r.tree ++ m.tree)) l.tree (free p.left) (type-turn q.front q.tree q.left) (secured-turn l.front l.tree l.left)))
    (λ a. subst (λ (y : Element). Spells IsColumnDef t (element_pieces y) y) (sym (nothing_is a))
    (bare_column p.tree q.tree (any_is false (r.tree ++ [])) (any_is true (r.tree ++ [])) (free p.left) (type-turn q.front q.tree q.left)))

element-turn : {s t : Below} (ts : List Token) (x : Element) → Got IsElement s ts x → Spells IsElement t (element_pieces x) x
unfolding has
element-turn {s} {t} ts x g =
    which g
    (λ a. let q = unmake (follow (follow a).got).got in let i = inside q.got in
    subst (λ (y : Element). Spells IsElement t (element_pieces y) y) (sym q.is)
    (left (after_named kinds.Primary refl refl (after kinds.Key refl (made (bracket kinds.Open kinds.Close refl refl (name-turn i.tokens q.tree i.got)))))))
    (λ a. right (column_def-turn ts x a))

abbrev policy_name : List ℕ → List Piece
policy_name n = mark kinds.Policy ∷ name n ∷ []

policy_same : (x : Option (List ℕ)) → clause kinds.Security (option_of policy_name x) ≡ policy_pieces x
policy_same None = refl
policy_same (Some n) = refl

policy-turn : {s t : Below} (ts : List Token) (x : Option (List ℕ)) → Got (Optional (After kinds.Security (After kinds.Policy IsName))) s ts x → Spells (Optional (After kinds.Security (After kinds.Policy IsName))) t (policy_pieces x) x
unfolding has
policy-turn {s} {t} ts x g =
    subst (λ (ps : List Piece). Spells (Optional (After kinds.Security (After kinds.Policy IsName))) t ps x) (policy_same x)
    (optional kinds.Security refl policy_name (λ ts n h. let q = follow h in after kinds.Policy refl (name-turn q.tokens n q.got)) ts x g)

-- ---- which statement it is

in_create : {t : Below} {ps : List Piece} {x : Change} → Spells IsCreate t ps x → Spells IsChange t (mark kinds.Create ∷ ps) x
unfolding has
in_create p = left (after kinds.Create refl p)

in_alter : {t : Below} {ps : List Piece} {x : Change} → Spells IsAlter t ps x → Spells IsChange t (mark kinds.Alter ∷ ps) x
unfolding has
in_alter p = right (left (after kinds.Alter refl p))

in_drop : {t : Below} {ps : List Piece} {x : Change} → Spells IsDrop t ps x → Spells IsChange t (mark kinds.Drop ∷ ps) x
unfolding has
in_drop p = right (right (left (after kinds.Drop refl p)))

in_grant : {t : Below} {ps : List Piece} {x : Change} → Spells IsGrant t ps x → Spells IsChange t (mark kinds.Grant ∷ ps) x
unfolding has
in_grant p = right (right (right (left (after kinds.Grant refl p))))

in_revoke : {t : Below} {ps : List Piece} {x : Change} → Spells IsRevoke t ps x → Spells IsChange t (mark kinds.Revoke ∷ ps) x
unfolding has
in_revoke p = right (right (right (right (after kinds.Revoke refl p))))

create_table-turn : {s t : Below} (ts : List Token) (x : Change) → Got IsCreateTable s ts x → Spells IsChange t (change_pieces x) x
unfolding has
create_table-turn {s} {t} ts x g =
    let p = split (follow g).got in
    let q = split p.right in
    let i = inside q.left in
    let r = unmake q.right in
    subst (λ (y : Change). Spells IsChange t (change_pieces y) y) (sym r.is)
    (in_create (left (after kinds.Table refl (seq (name-turn p.front p.tree p.left) (seq (bracket kinds.Open kinds.Close refl refl (listing element_pieces element-turn q.tree i.tokens i.got)) (made (policy-turn r.tokens r.tree r.got)))))))

-- ---- ALTER TABLE

activation-turn : {s t : Below} (ts : List Token) (x : Activation) → Got IsActivation s ts x → Spells IsActivation t (activation_pieces x) x
unfolding has
activation-turn {s} {t} ts x g =
    let p = split g in
    let q = split p.right in
    subst (λ (y : Activation). Spells IsActivation t (activation_pieces y) y) (sym (meant (follow q.right).got))
    (seq (on_or_off p.tree) (seq (of_what q.tree) (after kinds.Access refl (means kinds.Control (record { activate = p.tree; of = q.tree }) refl))))
  where
    on_or_off : (b : Bool) → Spells (Either (Means kinds.Activate true) (Means kinds.Deactivate false)) t (mark (activate_kind b) ∷ []) b
    on_or_off true = left (means kinds.Activate true refl)
    on_or_off false = right (means kinds.Deactivate false refl)

    of_what : (c : ControlOf) → Spells (Either (Means kinds.Row controls.Row) (Means kinds.Column controls.Column)) t (mark (control_kind c) ∷ []) c
    of_what controls.Row = left (means kinds.Row controls.Row refl)
    of_what controls.Column = right (means kinds.Column controls.Column refl)

alter_table-turn : {s t : Below} (ts : List Token) (x : Change) → Got IsAlterTable s ts x → Spells IsChange t (change_pieces x) x
unfolding has
alter_table-turn {s} {t} ts x g =
    let p = split (follow g).got in
    which p.right
    (λ a. added p.tree (name-turn p.front p.tree p.left) (follow a).tokens (follow a).got)
    (λ b. which b
    (λ a. altered p.tree (name-turn p.front p.tree p.left) (follow a).tokens (follow a).got)
    (λ a. acts p.tree (name-turn p.front p.tree p.left) p.rest a))
  where
    in_table : (n : List ℕ) {ps : List Piece} {y : Change} → Spells IsName t (name_pieces n) n → Spells (Either (After kinds.Add (IsAdded n)) (Either (After kinds.Alter (IsAlteredColumn n)) (IsActs n))) t ps y → Spells IsChange t (mark kinds.Alter ∷ mark kinds.Table ∷ name n ∷ ps) y
    in_table n f p = in_alter (left (after kinds.Table refl (seq f p)))

    added : (n : List ℕ) → Spells IsName t (name_pieces n) n → (ts : List Token) → Got (IsAdded n) s ts x → Spells IsChange t (change_pieces x) x
    added n f ts h =
        which h
        (λ a. let q = unmake (follow (follow a).got).got in
        subst (λ (y : Change). Spells IsChange t (change_pieces y) y) (sym q.is)
        (in_table n f (left (after kinds.Add refl (left (after_named kinds.Security refl refl (after kinds.Policy refl (made (name-turn q.tokens q.tree q.got)))))))))
        (λ a. let c = split (follow a).got in let q = unmake c.right in
        subst (λ (y : Change). Spells IsChange t (change_pieces y) y) (sym q.is)
        (in_table n f (left (after kinds.Add refl (right (seq (left (named kinds.Column refl refl)) (seq (name-turn c.front c.tree c.left) (made (plain-turn q.tokens q.tree q.got)))))))))

    altered : (n : List ℕ) → Spells IsName t (name_pieces n) n → (ts : List Token) → Got (IsAlteredColumn n) s ts x → Spells IsChange t (change_pieces x) x
    altered n f ts h =
        let c = split (follow h).got in
        which c.right
        (λ a. let q = unmake (follow (follow a).got).got in
        subst (λ (y : Change). Spells IsChange t (change_pieces y) y) (sym q.is)
        (in_table n f (right (left (after kinds.Alter refl (seq (left (named kinds.Column refl refl)) (seq (name-turn c.front c.tree c.left) (left (after_named kinds.Secured refl refl (after kinds.With refl (made (name-turn q.tokens q.tree q.got)))))))))))
        )
        (λ a.
        subst (λ (y : Change). Spells IsChange t (change_pieces y) y) (sym (meant (follow (follow a).got).got))
        (in_table n f (right (left (after kinds.Alter refl (seq (left (named kinds.Column refl refl)) (seq (name-turn c.front c.tree c.left) (right (after_named kinds.Drop refl refl (after kinds.Column refl (means kinds.Security (changes.UnsecureColumn n c.tree) refl)))))))))))

    second : (ts : List Token) (b : Option Activation) → Got (Optional IsActivation) s ts b → Spells (Optional IsActivation) t (second_pieces b) b
    second ts b h =
        which h
        (λ a. let q = unmake a in subst (λ (y : Option Activation). Spells (Optional IsActivation) t (second_pieces y) y) (sym q.is) (left (made (activation-turn q.tokens q.tree q.got))))
        (λ a. subst (λ (y : Option Activation). Spells (Optional IsActivation) t (second_pieces y) y) (sym (nothing_is a)) (right (give None)))

    acts : (n : List ℕ) → Spells IsName t (name_pieces n) n → (ts : List Token) → Got (IsActs n) s ts x → Spells IsChange t (change_pieces x) x
    acts n f ts h =
        let c = split h in
        let q = unmake c.right in
        subst (λ (y : Change). Spells IsChange t (change_pieces y) y) (sym q.is)
        (in_table n f (right (right (seq (activation-turn c.front c.tree c.left) (made (second q.tokens q.tree q.got))))))

-- ---- permissions and masks

switch_spells : {t : Below} (x : Switch) → Spells IsSwitch t (mark (switch_kind x) ∷ []) x
unfolding has
switch_spells switches.Enable = left (means kinds.Enable switches.Enable refl)
switch_spells switches.Disable = right (means kinds.Disable switches.Disable refl)

replace_spells : {t : Below} (r : Bool) → Spells IsReplace t (replace_pieces r) r
unfolding has
replace_spells true = left (after kinds.Or refl (means kinds.Replace true refl))
replace_spells false = right (give false)

-- after the condition of a permission
abbrev PermissionEnd : Bool → List ℕ → Tab → Cond → Lang Change
PermissionEnd r n b c = After kinds.Enforced (After kinds.For (After kinds.All (After kinds.Access
    (Made (λ s. changes.CreatePermission (record { replace = r; name = n; on = b; condition = c; switch = s })) IsFirstSwitch))))

permission_end : {t : Below} (r : Bool) (n : List ℕ) (b : Tab) (c : Cond) (s : Switch) → Spells (PermissionEnd r n b c) t (mark kinds.Enforced ∷ mark kinds.For ∷ mark kinds.All ∷ mark kinds.Access ∷ mark (switch_kind s) ∷ []) (changes.CreatePermission (record { replace = r; name = n; on = b; condition = c; switch = s }))
unfolding has
permission_end r n b c s = after kinds.Enforced refl (after kinds.For refl (after kinds.All refl (after kinds.Access refl (made (left (switch_spells s))))))

-- after the table of a permission
abbrev PermissionRows : Bool → List ℕ → Tab → Lang Change
PermissionRows r n b = After kinds.For (After kinds.Rows (After kinds.Where (Seq IsCond (PermissionEnd r n b))))

permission_rows : {t : Below} {ps qs : List Piece} {x : Change} (r : Bool) (n : List ℕ) (b : Tab) (c : Cond) → Spells IsCond t ps c → Spells (PermissionEnd r n b c) t qs x → Spells (PermissionRows r n b) t (mark kinds.For ∷ mark kinds.Rows ∷ mark kinds.Where ∷ (ps ++ qs)) x
unfolding has
permission_rows r n b c p q = after kinds.For refl (after kinds.Rows refl (after kinds.Where refl (seq p q)))

permission_front : {t : Below} {ps qs : List Piece} {x : Change} (r : Bool) (n : List ℕ) (b : Tab) → Spells IsName t (name_pieces n) n → Spells IsTab t ps b → Spells (PermissionRows r n b) t qs x → Spells (IsPermission r) t (mark kinds.Permission ∷ name n ∷ mark kinds.On ∷ (ps ++ qs)) x
unfolding has
permission_front r n b f p q = after kinds.Permission refl (seq f (after kinds.On refl (seq p q)))

in_replace : {t : Below} {ps : List Piece} {x : Change} (r : Bool) → Spells (Either (IsPermission r) (IsMask r)) t ps x → Spells IsChange t (mark kinds.Create ∷ (replace_pieces r ++ ps)) x
in_replace r p = in_create (right (right (right (seq (replace_spells r) p))))

permission-turn : {s t : Below} → Room s t → (r : Bool) (ts : List Token) (x : Change) → Got (IsPermission r) s ts x → Spells IsChange t (change_pieces x) x
permission-turn {s} {t} room r ts x g =
    let n = split (follow g).got in
    let b = split (follow n.right).got in
    let c = split (follow (follow (follow b.right).got).got).got in
    let q = unmake (follow (follow (follow (follow c.right).got).got).got).got in
    subst (λ (y : Change). Spells IsChange t (change_pieces y) y) (sym q.is)
    (in_replace r (left (permission_front r n.tree b.tree (name-turn n.front n.tree n.left) (tab-turn b.front b.tree b.left)
    (permission_rows r n.tree b.tree c.tree (whole_cond room c.front c.tree c.left) (permission_end r n.tree b.tree c.tree q.tree)))))

-- after the column of a mask
abbrev MaskEnd : Bool → List ℕ → Tab → List ℕ → Lang Change
MaskEnd r n b c = After kinds.Return (Seq IsCase (λ v. Made (λ s. changes.CreateMask (record { replace = r; name = n; on = b; column = c; value = v; switch = s })) IsFirstSwitch))

mask_end : {t : Below} {ps : List Piece} (r : Bool) (n : List ℕ) (b : Tab) (c : List ℕ) (v : Expr) (s : Switch) → Spells IsCase t ps v → Spells (MaskEnd r n b c) t (mark kinds.Return ∷ (ps ++ mark (switch_kind s) ∷ [])) (changes.CreateMask (record { replace = r; name = n; on = b; column = c; value = v; switch = s }))
unfolding has
mask_end r n b c v s p = after kinds.Return refl (seq p (made (left (switch_spells s))))

-- after the table of a mask
abbrev MaskColumn : Bool → List ℕ → Tab → Lang Change
MaskColumn r n b = After kinds.For (After kinds.Column (Seq IsName (MaskEnd r n b)))

mask_column : {t : Below} {qs : List Piece} {x : Change} (r : Bool) (n : List ℕ) (b : Tab) (c : List ℕ) → Spells IsName t (name_pieces c) c → Spells (MaskEnd r n b c) t qs x → Spells (MaskColumn r n b) t (mark kinds.For ∷ mark kinds.Column ∷ name c ∷ qs) x
unfolding has
mask_column r n b c p q = after kinds.For refl (after kinds.Column refl (seq p q))

mask_front : {t : Below} {ps qs : List Piece} {x : Change} (r : Bool) (n : List ℕ) (b : Tab) → Spells IsName t (name_pieces n) n → Spells IsTab t ps b → Spells (MaskColumn r n b) t qs x → Spells (IsMask r) t (mark kinds.Mask ∷ name n ∷ mark kinds.On ∷ (ps ++ qs)) x
unfolding has
mask_front r n b f p q = after kinds.Mask refl (seq f (after kinds.On refl (seq p q)))

mask-turn : {s t : Below} → Room s t → (r : Bool) (ts : List Token) (x : Change) → Got (IsMask r) s ts x → Spells IsChange t (change_pieces x) x
mask-turn {s} {t} room r ts x g =
    let n = split (follow g).got in
    let b = split (follow n.right).got in
    let c = split (follow (follow b.right).got).got in
    let v = split (follow c.right).got in
    let q = unmake v.right in
    subst (λ (y : Change). Spells IsChange t (change_pieces y) y) (sym q.is)
    (in_replace r (right (mask_front r n.tree b.tree (name-turn n.front n.tree n.left) (tab-turn b.front b.tree b.left)
    (mask_column r n.tree b.tree c.tree (name-turn c.front c.tree c.left) (mask_end r n.tree b.tree c.tree v.tree q.tree (case-turn room.here v.front v.tree v.left).spells)))))

-- ---- components, policies and labels

texts-turn : {s t : Below} (ts : List Token) (xs : List (List ℕ)) → Got IsTexts s ts xs → Spells IsTexts t (texts_pieces xs) xs
texts-turn ts xs g = listing text_pieces text-turn xs ts g

-- text UNDER text
tree_element : {s t : Below} (ts : List Token) (x : TreeElement) → Got IsTreeElement s ts x → Spells IsTreeElement t (literal x.name ∷ mark kinds.Under ∷ literal x.parent ∷ []) x
unfolding has
tree_element {s} {t} ts x g =
    let p = split g in
    let q = unmake (follow p.right).got in
    subst (λ (y : TreeElement). Spells IsTreeElement t (literal y.name ∷ mark kinds.Under ∷ literal y.parent ∷ []) y) (sym q.is)
    (seq (text-turn p.front p.tree p.left) (after kinds.Under refl (made (text-turn q.tokens q.tree q.got))))

component-turn : {s t : Below} (ts : List Token) (x : ComponentDef) → Got IsComponentDef s ts x → Spells IsComponentDef t (component_pieces x) x
unfolding has
component-turn {s} {t} ts x g =
    which g
    (λ a. let q = unmake (follow a).got in let i = inside q.got in
    subst (λ (y : ComponentDef). Spells IsComponentDef t (component_pieces y) y) (sym q.is)
    (left (after kinds.Set refl (made (bracket kinds.LeftBrace kinds.RightBrace refl refl (texts-turn i.tokens q.tree i.got))))))
    (λ b. which b
    (λ a. let q = unmake (follow a).got in let i = inside q.got in
    subst (λ (y : ComponentDef). Spells IsComponentDef t (component_pieces y) y) (sym q.is)
    (right (left (after kinds.Array refl (made (bracket kinds.LeftBracket kinds.RightBracket refl refl (texts-turn i.tokens q.tree i.got)))))))
    (λ a.
    let i = inside (follow a).got in
    let p = split i.got in
    let q = unmake (follow p.right).got in
    subst (λ (y : ComponentDef). Spells IsComponentDef t (component_pieces y) y) (sym q.is)
    (right (right (after kinds.Tree refl (bracket kinds.Open kinds.Close refl refl (seq (text-turn p.front p.tree p.left) (after kinds.Root refl
    (made (many under_pieces (λ ts y h. let k = follow h in after kinds.Comma refl (tree_element k.tokens y k.got)) q.tree q.tokens q.got))))))))))

part-turn : {s t : Below} (ts : List Token) (x : LabelPart) → Got IsPart s ts x → Spells IsPart t (part_pieces x) x
unfolding has
part-turn {s} {t} ts x g =
    let p = split (follow g).got in
    let q = unmake p.right in
    subst (λ (y : LabelPart). Spells IsPart t (part_pieces y) y) (sym q.is)
    (after kinds.Component refl (seq (name-turn p.front p.tree p.left) (made (texts-turn q.tokens q.tree q.got))))

create_label-turn : {s t : Below} (ts : List Token) (x : Change) → Got IsCreateLabel s ts x → Spells IsChange t (change_pieces x) x
unfolding has
create_label-turn {s} {t} ts x g =
    which g
    (λ a. let p = split (follow a).got in let q = unmake p.right in
    subst (λ (y : Change). Spells IsChange t (change_pieces y) y) (sym q.is)
    (in_create (right (left (after kinds.Security refl (left (after kinds.Label refl (left (after_named kinds.Component refl refl (seq (name-turn p.front p.tree p.left) (made (component-turn q.tokens q.tree q.got))))))))))))
    (λ a. let p = split a in let q = unmake p.right in
    subst (λ (y : Change). Spells IsChange t (change_pieces y) y) (sym q.is)
    (in_create (right (left (after kinds.Security refl (left (after kinds.Label refl (right (seq (label-turn p.front p.tree p.left) (made (listing part_pieces part-turn q.tree q.tokens q.got)))))))))))

abbrev option_pieces : WriteOption → List Piece
option_pieces o = mark (write_option_kind o) ∷ mark kinds.Not ∷ mark kinds.Authorized ∷ mark kinds.Write ∷ mark kinds.Security ∷ mark kinds.Label ∷ []

write_option_spells : {t : Below} (o : WriteOption) → Spells IsWriteOption t (option_pieces o) o
unfolding has
write_option_spells {t} o = left (seq (kind o) (after kinds.Not refl (after kinds.Authorized refl (after kinds.Write refl (after kinds.Security refl (means kinds.Label o refl))))))
  where
    kind : (o : WriteOption) → Spells (Either (Means kinds.Override options.Override) (Means kinds.Restrict options.Restrict)) t (mark (write_option_kind o) ∷ []) o
    kind options.Override = left (means kinds.Override options.Override refl)
    kind options.Restrict = right (means kinds.Restrict options.Restrict refl)

create_policy-turn : {s t : Below} (ts : List Token) (x : Change) → Got IsCreatePolicy s ts x → Spells IsChange t (change_pieces x) x
unfolding has
create_policy-turn {s} {t} ts x g =
    let p = split (follow g).got in
    let c = split (follow p.right).got in
    let q = unmake (follow (follow c.right).got).got in
    subst (λ (y : Change). Spells IsChange t (change_pieces y) y) (sym q.is)
    (in_create (right (left (after kinds.Security refl (right (after kinds.Policy refl (seq (name-turn p.front p.tree p.left) (after kinds.Components refl
    (seq (listing name_pieces name-turn c.tree c.front c.left) (after kinds.With refl (after kinds.Db2LbacRules refl (made (write_option_spells q.tree)))))))))))))

create-turn : {s t : Below} → Room s t → (ts : List Token) (x : Change) → Got IsCreate s ts x → Spells IsChange t (change_pieces x) x
unfolding has
create-turn {s} {t} room ts x g =
    which g
    (λ a. create_table-turn ts x a)
    (λ b. which b
    (λ a. let q = follow a in which q.got (λ c. create_label-turn (follow c).tokens x (follow c).got) (λ c. create_policy-turn q.tokens x c))
    (λ b. which b
    (λ a. let q = unmake (follow a).got in
    subst (λ (y : Change). Spells IsChange t (change_pieces y) y) (sym q.is) (in_create (right (right (left (after kinds.Role refl (made (name-turn q.tokens q.tree q.got))))))))
    (λ a. let p = split a in which p.right (λ c. permission-turn room p.tree p.rest x c) (λ c. mask-turn room p.tree p.rest x c))))

-- ---- ALTER and DROP

alter-turn : {s t : Below} (ts : List Token) (x : Change) → Got IsAlter s ts x → Spells IsChange t (change_pieces x) x
unfolding has
alter-turn {s} {t} ts x g =
    which g
    (λ a. alter_table-turn ts x a)
    (λ b. which b
    (λ a. let p = split (follow a).got in let q = unmake p.right in
    subst (λ (y : Change). Spells IsChange t (change_pieces y) y) (sym q.is)
    (in_alter (right (left (after kinds.Permission refl (seq (name-turn p.front p.tree p.left) (made (switch_spells q.tree))))))))
    (λ a. let p = split (follow a).got in let q = unmake p.right in
    subst (λ (y : Change). Spells IsChange t (change_pieces y) y) (sym q.is)
    (in_alter (right (right (after kinds.Mask refl (seq (name-turn p.front p.tree p.left) (made (switch_spells q.tree)))))))))

drop_label-turn : {s t : Below} (ts : List Token) (x : Change) → Got IsDropLabel s ts x → Spells IsChange t (change_pieces x) x
unfolding has
drop_label-turn {s} {t} ts x g =
    which g
    (λ a. let q = unmake (follow a).got in
    subst (λ (y : Change). Spells IsChange t (change_pieces y) y) (sym q.is)
    (in_drop (right (right (right (right (after kinds.Security refl (left (after kinds.Label refl (left (after_named kinds.Component refl refl (made (name-turn q.tokens q.tree q.got)))))))))))))
    (λ a. let q = unmake a in
    subst (λ (y : Change). Spells IsChange t (change_pieces y) y) (sym q.is)
    (in_drop (right (right (right (right (after kinds.Security refl (left (after kinds.Label refl (right (made (label-turn q.tokens q.tree q.got))))))))))))

drop_policy-turn : {s t : Below} (ts : List Token) (x : Change) → Got (After kinds.Policy (Made changes.DropPolicy IsName)) s ts x → Spells IsChange t (change_pieces x) x
unfolding has
drop_policy-turn {s} {t} ts x g =
    let q = unmake (follow g).got in
    subst (λ (y : Change). Spells IsChange t (change_pieces y) y) (sym q.is)
    (in_drop (right (right (right (right (after kinds.Security refl (right (after kinds.Policy refl (made (name-turn q.tokens q.tree q.got))))))))))

drop-turn : {s t : Below} (ts : List Token) (x : Change) → Got IsDrop s ts x → Spells IsChange t (change_pieces x) x
unfolding has
drop-turn {s} {t} ts x g =
    which g
    (λ a. let q = unmake (follow a).got in
    subst (λ (y : Change). Spells IsChange t (change_pieces y) y) (sym q.is)
    (in_drop (left (after kinds.Table refl (made (name-turn q.tokens q.tree q.got))))))
    (λ b. which b
    (λ a. let q = unmake (follow a).got in
    subst (λ (y : Change). Spells IsChange t (change_pieces y) y) (sym q.is)
    (in_drop (right (left (after kinds.Permission refl (made (name-turn q.tokens q.tree q.got)))))))
    (λ b. which b
    (λ a. let q = unmake (follow a).got in
    subst (λ (y : Change). Spells IsChange t (change_pieces y) y) (sym q.is)
    (in_drop (right (right (left (after kinds.Mask refl (made (name-turn q.tokens q.tree q.got))))))))
    (λ b. which b
    (λ a. let q = unmake (follow a).got in
    subst (λ (y : Change). Spells IsChange t (change_pieces y) y) (sym q.is)
    (in_drop (right (right (right (left (after kinds.Role refl (made (name-turn q.tokens q.tree q.got)))))))))
    (λ a. which (follow a).got (λ c. drop_label-turn (follow c).tokens x (follow c).got) (λ c. drop_policy-turn (follow a).tokens x c)))))

-- ---- grants

access_spells : {t : Below} (a : Access) → Spells IsAccess t (access_pieces a) a
unfolding has
access_spells {t} a = left (after kinds.For refl (seq (kind a) (means kinds.Access a refl)))
  where
    kind : (a : Access) → Spells (Either (Means kinds.All accesses.All) (Either (Means kinds.Read accesses.Read) (Means kinds.Write accesses.Write))) t (mark (access_kind a) ∷ []) a
    kind accesses.All = left (means kinds.All accesses.All refl)
    kind accesses.Read = right (left (means kinds.Read accesses.Read refl))
    kind accesses.Write = right (right (means kinds.Write accesses.Write refl))

rule_spells : {t : Below} (r : Exempted) → Spells IsRule t (rule_pieces r) r
unfolding has
rule_spells (exempted.Rule rules.ReadArray) = left (means kinds.Db2LbacReadArray (exempted.Rule rules.ReadArray) refl)
rule_spells (exempted.Rule rules.ReadSet) = right (left (means kinds.Db2LbacReadSet (exempted.Rule rules.ReadSet) refl))
rule_spells (exempted.Rule rules.ReadTree) = right (right (left (means kinds.Db2LbacReadTree (exempted.Rule rules.ReadTree) refl)))
rule_spells (exempted.Rule rules.WriteDown) = right (right (right (left (after kinds.Db2LbacWriteArray refl (left (means kinds.WriteDown (exempted.Rule rules.WriteDown) refl))))))
rule_spells (exempted.Rule rules.WriteUp) = right (right (right (left (after kinds.Db2LbacWriteArray refl (right (means kinds.WriteUp (exempted.Rule rules.WriteUp) refl))))))
rule_spells (exempted.Rule rules.WriteSet) = right (right (right (right (left (means kinds.Db2LbacWriteSet (exempted.Rule rules.WriteSet) refl)))))
rule_spells (exempted.Rule rules.WriteTree) = right (right (right (right (right (left (means kinds.Db2LbacWriteTree (exempted.Rule rules.WriteTree) refl))))))
rule_spells exempted.All = right (right (right (right (right (right (means kinds.All exempted.All refl))))))

-- ON RULE rule FOR name
abbrev rule_of_pieces : Exempted × List ℕ → List Piece
rule_of_pieces r = mark kinds.On ∷ mark kinds.Rule ∷ (rule_pieces r.0 ++ mark kinds.For ∷ name r.1 ∷ [])

rule_of-turn : {s t : Below} (ts : List Token) (x : Exempted × List ℕ) → Got IsRuleOf s ts x → Spells IsRuleOf t (rule_of_pieces x) x
unfolding has
rule_of-turn {s} {t} ts x g =
    let p = split (follow (follow g).got).got in
    let q = unmake (follow p.right).got in
    subst (λ (y : Exempted × List ℕ). Spells IsRuleOf t (rule_of_pieces y) y) (sym q.is)
    (after kinds.On refl (after kinds.Rule refl (seq (rule_spells p.tree) (after kinds.For refl (made (name-turn q.tokens q.tree q.got))))))

privilege_spells : {s t : Below} (ts : List Token) (r : Privilege) → Got IsRight s ts r → Spells IsRight t (privilege_pieces r) r
unfolding has
privilege_spells ts privileges.Select g = left (means kinds.Select privileges.Select refl)
privilege_spells ts privileges.Insert g = right (left (means kinds.Insert privileges.Insert refl))
privilege_spells ts privileges.Update g = right (right (left (means kinds.Update privileges.Update refl)))
privilege_spells ts privileges.Delete g = right (right (right (means kinds.Delete privileges.Delete refl)))

-- the privileges, the table, TO or FROM, and the grantee
privileges_shape : (rs : List Privilege) (n : List ℕ) (k : Piece) (g : List Piece) → listed (map privilege_pieces rs) ++ mark kinds.On ∷ name n ∷ k ∷ g ≡ privileges_pieces rs n ++ k ∷ g
privileges_shape rs n k g = sym (append_assoc (listed (map privilege_pieces rs)) (mark kinds.On ∷ name n ∷ []) (k ∷ g))

record PrivilegesOn (f : List Privilege → List ℕ → Grantee → Change) (W : Lang (Unit {0})) (k : Piece) (t : Below) (x : Change) : Type 0 where
  pub privileges : List Privilege
  pub table : List ℕ
  pub grantee : Grantee
  pub is : x ≡ f privileges table grantee
  pub spells : Spells (IsPrivilegesOn f W) t (privileges_pieces privileges table ++ k ∷ grantee_pieces grantee) (f privileges table grantee)

privileges_on : {s t : Below} (f : List Privilege → List ℕ → Grantee → Change) (W : Lang (Unit {0})) (k : Piece) → Spells W t (k ∷ []) tt → (ts : List Token) (x : Change) → Got (IsPrivilegesOn f W) s ts x → PrivilegesOn f W k t x
unfolding has
privileges_on {s} {t} f W k w ts x g =
    let p = split g in
    let n = split (follow (follow p.right).got).got in
    let q = unmake (follow n.right).got in
    record {
      privileges = p.tree;
      table = n.tree;
      grantee = q.tree;
      is = q.is;
      spells = subst (λ (ps : List Piece). Spells (IsPrivilegesOn f W) t ps (f p.tree n.tree q.tree)) (privileges_shape p.tree n.tree k (grantee_pieces q.tree))
          (seq (listing privilege_pieces privilege_spells p.tree p.front p.left) (after kinds.On refl (without (seq (name-turn n.front n.tree n.left) (seq w (made (grantee-turn q.tokens q.tree q.got)))))));
    }

exemption_shape : (r : Exempted) (n : List ℕ) (k : Piece) (u : List Piece) → mark kinds.Exemption ∷ (rule_of_pieces (r, n) ++ k ∷ u) ≡ exemption_pieces r n ++ k ∷ u
exemption_shape r n k u = refl

grant-turn : {s t : Below} (ts : List Token) (x : Change) → Got IsGrant s ts x → Spells IsChange t (change_pieces x) x
unfolding has
grant-turn {s} {t} ts x g =
    which g
    (λ a. let p = split (follow (follow a).got).got in let u = split (follow p.right).got in let q = unmake u.right in
    subst (λ (y : Change). Spells IsChange t (change_pieces y) y) (sym q.is)
    (in_grant (left (after kinds.Security refl (after kinds.Label refl (seq (label-turn p.front p.tree p.left) (after kinds.To refl (seq (user-turn u.front u.tree u.left) (made (access_spells q.tree))))))))))
    (λ b. which b
    (λ a. let p = split (follow a).got in let q = unmake (follow p.right).got in
    subst (λ (y : Change). Spells IsChange t (change_pieces y) y) (sym q.is)
    (in_grant (right (left (after kinds.Exemption refl (seq (rule_of-turn p.front p.tree p.left) (after kinds.To refl (made (user-turn q.tokens q.tree q.got)))))))))
    (λ b. which b
    (λ a. let p = split (follow a).got in let q = unmake (follow p.right).got in
    subst (λ (y : Change). Spells IsChange t (change_pieces y) y) (sym q.is)
    (in_grant (right (right (left (after kinds.Role refl (seq (name-turn p.front p.tree p.left) (after kinds.To refl (made (user-turn q.tokens q.tree q.got))))))))))
    (λ b. which b
    (λ a. let q = unmake (follow (follow (follow (follow a).got).got).got).got in
    subst (λ (y : Change). Spells IsChange t (change_pieces y) y) (sym q.is)
    (in_grant (right (right (right (left (after kinds.Secadm refl (after kinds.On refl (after kinds.Database refl (after kinds.To refl (made (user-turn q.tokens q.tree q.got))))))))))))
    (λ a. let q = privileges_on changes.GrantPrivileges (Named kinds.To) (mark kinds.To) (named kinds.To refl refl) ts x a in
    subst (λ (y : Change). Spells IsChange t (change_pieces y) y) (sym q.is)
    (in_grant (right (right (right (right (q.spells))))))))))

revoke-turn : {s t : Below} (ts : List Token) (x : Change) → Got IsRevoke s ts x → Spells IsChange t (change_pieces x) x
unfolding has
revoke-turn {s} {t} ts x g =
    which g
    (λ a. let p = split (follow (follow a).got).got in let q = unmake (follow p.right).got in
    subst (λ (y : Change). Spells IsChange t (change_pieces y) y) (sym q.is)
    (in_revoke (left (after kinds.Security refl (after kinds.Label refl (seq (label-turn p.front p.tree p.left) (after kinds.From refl (made (user-turn q.tokens q.tree q.got)))))))))
    (λ b. which b
    (λ a. let p = split (follow a).got in let q = unmake (follow p.right).got in
    subst (λ (y : Change). Spells IsChange t (change_pieces y) y) (sym q.is)
    (in_revoke (right (left (after kinds.Exemption refl (seq (rule_of-turn p.front p.tree p.left) (after kinds.From refl (made (user-turn q.tokens q.tree q.got)))))))))
    (λ b. which b
    (λ a. let p = split (follow a).got in let q = unmake (follow p.right).got in
    subst (λ (y : Change). Spells IsChange t (change_pieces y) y) (sym q.is)
    (in_revoke (right (right (left (after kinds.Role refl (seq (name-turn p.front p.tree p.left) (after kinds.From refl (made (user-turn q.tokens q.tree q.got))))))))))
    (λ b. which b
    (λ a. let q = unmake (follow (follow (follow (follow a).got).got).got).got in
    subst (λ (y : Change). Spells IsChange t (change_pieces y) y) (sym q.is)
    (in_revoke (right (right (right (left (after kinds.Secadm refl (after kinds.On refl (after kinds.Database refl (after kinds.From refl (made (user-turn q.tokens q.tree q.got))))))))))))
    (λ a. let q = privileges_on changes.RevokePrivileges (Word kinds.From) (mark kinds.From) (word kinds.From refl) ts x a in
    subst (λ (y : Change). Spells IsChange t (change_pieces y) y) (sym q.is)
    (in_revoke (right (right (right (right (q.spells))))))))))

pub change-turn : {s t : Below} → Room s t → (ts : List Token) (x : Change) → Got IsChange s ts x → Spells IsChange t (change_pieces x) x
change-turn room ts x g =
    which g
    (λ a. create-turn room (follow a).tokens x (follow a).got)
    (λ b. which b
    (λ a. alter-turn (follow a).tokens x (follow a).got)
    (λ b. which b
    (λ a. drop-turn (follow a).tokens x (follow a).got)
    (λ b. which b (λ a. grant-turn (follow a).tokens x (follow a).got) (λ a. revoke-turn (follow a).tokens x (follow a).got))))
