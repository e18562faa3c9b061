-- Labels in evaluation: which labels a session can read and write, labels from texts and names, and texts of labels.
use Rattle.std.specs.Prelude.{ℕ, Bool, true, List, [], ◌∷◌, filter, Option, None, Some, is_none, Result, Ok, Err}
use Rattle.lb_base.specs.declared.rule.Rule.{Rule}
use Rattle.lb_base.specs.declared.value.Value.{Value}
use Rattle.lb_base.specs.declared.value.Value.TheVariants.{Null, Text, Label}
use Rattle.lb_label.specs.declared.access.Fail.{Fail}
use Rattle.lb_label.specs.declared.kind.Access.TheVariants.{Read, Write}
use Rattle.lb_label.specs.Component.{Definition}
use Rattle.lb_label.specs.Exemption.{is_exempt}
use Rattle.lb_label.specs.Label.{label_of, parts_of}
use Rattle.lb_label.specs.LabelText.{label_text, read_label}
use Rattle.lb_label.specs.Rules.{failing_rule, failure}
use Rattle.lb_cat.specs.declared.catalog.LabelRec.{LabelRec}
use Rattle.lb_cat.specs.declared.cred.Cred.{Cred}
use Rattle.lb_cat.specs.Catalog.{Policy, label_named}
use Rattle.lb_cat.specs.Credentials.{held_of, label_for_reading, label_for_writing}

-- ---- what a session can read and write

-- whether the session has an exemption from a rule of the policy
abbrev pub exempt_of : Cred → Policy → Rule → Bool
exempt_of c p = is_exempt (held_of c p.name).exempt

-- the elements of the label by which the session reads; a user without a label counts as holding the empty one
abbrev pub elements_read : Cred → Policy → List (List ℕ)
elements_read c p = label_of p.shape (label_for_reading c p)

-- the first component in policy order, and the rule, by which the session can't read data with the label
abbrev pub read_failure : Cred → Policy → List ℕ → Option Fail
read_failure c p parts = failure Read p.shape (elements_read c p) (exempt_of c p) (label_of p.shape parts)

-- the first component in policy order, and the rule, by which the session can't write data with the label
abbrev pub write_failure : Cred → Policy → List ℕ → Option Fail
write_failure c p parts = failure Write p.shape (label_of p.shape (label_for_writing c p)) (exempt_of c p) (label_of p.shape parts)

-- the session can read a label of the policy; a value that is no label has nothing to test
abbrev pub is_readable : Cred → Option Policy → Value → Bool
is_readable c (Some p) (Label parts) = is_none (read_failure c p parts.items)
is_readable c _ _ = true

-- ---- labels from texts and names

-- the label with these elements; a text that is no label text is refused before
abbrev pub label_or_null : List Definition → Result (List (List ℕ)) ℕ → Value
label_or_null shape (Ok label) = Label (record { items = parts_of shape label })
label_or_null shape (Err at) = Null

-- SECLABEL: the label that the text spells in the policy
abbrev pub label_of_text : Option Policy → List ℕ → Value
label_of_text None text = Null
label_of_text (Some p) text = label_or_null p.shape (read_label p.shape text)

-- the label of a record
abbrev pub label_in : Option LabelRec → Value
label_in None = Null
label_in (Some l) = Label l.parts

-- SECLABEL_BY_NAME: the label of that name in the policy
abbrev pub label_by_name : Option Policy → List ℕ → Value
label_by_name None n = Null
label_by_name (Some p) n = label_in (label_named p n)

-- ---- texts of labels

-- a label of the policy as its text; another value as it is
abbrev pub text_told : Option Policy → Value → Value
text_told (Some p) (Label parts) = Text (label_text p.shape (label_of p.shape parts.items))
text_told _ x = x

-- the elements of one component that the session could read if the data had that element alone
abbrev pub readable_elements : (Rule → Bool) → Definition → List ℕ → List ℕ → List ℕ
readable_elements exempt c user es = filter (λ e. is_none (failing_rule Read exempt c user (e ∷ []))) es

-- the same in each component of a label
abbrev pub readable_label : (Rule → Bool) → List Definition → List (List ℕ) → List (List ℕ) → List (List ℕ)
readable_label exempt (c ∷ shape) (user ∷ users) (es ∷ label) = readable_elements exempt c user es ∷ readable_label exempt shape users label
readable_label exempt _ _ _ = []

-- SECLABEL_TO_CHAR: the text of the label without the elements that the session couldn't read alone, and null for null
abbrev pub label_to_char : Cred → Option Policy → Value → Value
label_to_char c (Some p) (Label parts) =
    Text (label_text p.shape (readable_label (exempt_of c p) p.shape (elements_read c p) (label_of p.shape parts.items)))
label_to_char c _ _ = Null
