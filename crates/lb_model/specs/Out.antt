-- The text of an answer, and of a section.
use Rattle.std.specs.Prelude.{ℕ, List, [], ◌∷◌, ◌++◌, codes, flat_map, map, length, Option, Some, None}
use Rattle.std.specs.Fmt.{decimal, signed_decimal}
use Rattle.lb_base.specs.declared.value.Value.{Value}
use Rattle.lb_base.specs.declared.value.Value.TheVariants as values
use Rattle.lb_base.specs.declared.rule.Rule.{Rule}
use Rattle.lb_base.specs.declared.rule.Rule.TheVariants as rules
use Rattle.lb_tok.specs.Dates.{date_text}
use Rattle.lb_tok.specs.Spacing.{quoted}
use Rattle.lb_cat.specs.declared.answer.Answer.{Answer}
use Rattle.lb_cat.specs.declared.answer.Mark.{Mark}
use Rattle.lb_cat.specs.declared.answer.Mark.TheVariants as marks
use Rattle.lb_cat.specs.declared.reply.Verb.{Verb}
use Rattle.lb_cat.specs.declared.reply.Verb.TheVariants as verbs
use Rattle.lb_cat.specs.declared.reply.Reply.{Reply}
use Rattle.lb_cat.specs.declared.reply.Reply.TheVariants as replies
use Rattle.lb_cat.specs.declared.refusal.Flaw.{Flaw}
use Rattle.lb_cat.specs.declared.refusal.Flaw.TheVariants as flaws
use Rattle.lb_cat.specs.declared.refusal.LimitOf.{LimitOf}
use Rattle.lb_cat.specs.declared.refusal.LimitOf.TheVariants as limits
use Rattle.lb_cat.specs.declared.refusal.Refusal.{Refusal}
use Rattle.lb_cat.specs.declared.refusal.Refusal.TheVariants as refusals
use Rattle.lb_cat.specs.declared.refusal.NeededPrivilege.{NeededPrivilege}
use Rattle.lb_cat.specs.declared.refusal.NeededPrivilege.TheVariants as needed
use Rattle.lb_cat.specs.Numbers.{refusal_number}

abbrev pub line : List ℕ → List ℕ
line text = text ++ 10 ∷ []

-- texts with a separator between two
abbrev pub joined_by : List ℕ → List (List ℕ) → List ℕ
joined_by separator [] = []
joined_by separator (t ∷ []) = t
joined_by separator (t ∷ u ∷ ts) = t ++ separator ++ joined_by separator (u ∷ ts)

-- NULL, a decimal, a text between quotes with each inner quote doubled, or yyyy-mm-dd; no reply holds a label, which is turned
-- into its text before
abbrev pub value_text : Value → List ℕ
value_text values.Null = codes "NULL"
value_text (values.Int n) = signed_decimal n
value_text (values.Text t) = quoted t
value_text (values.Date day) = date_text day
value_text (values.Label parts) = []

-- a row is a line of two blanks and its values
abbrev pub row_line : List Value → List ℕ
row_line row = line (codes "  " ++ joined_by (codes ", ") (map value_text row))

abbrev pub place_text : Option ℕ → List ℕ
place_text None = codes "-"
place_text (Some place) = decimal place

abbrev pub mark_text : Mark → List ℕ
mark_text marks.Dash = codes "-"
mark_text marks.Cached = codes "plan=cached"
mark_text marks.Compiled = codes "plan=compiled"
mark_text marks.Unkept = codes "plan=unkept"

-- the permissions that were tried, or DEFAULT where none is enabled
abbrev pub tried_text : List (List ℕ) → List ℕ
tried_text [] = codes "DEFAULT"
tried_text (n ∷ ns) = joined_by (codes ",") (n ∷ ns)

abbrev pub privilege_text : NeededPrivilege → List ℕ
privilege_text needed.Select = codes "SELECT"
privilege_text needed.Insert = codes "INSERT"
privilege_text needed.Update = codes "UPDATE"
privilege_text needed.Delete = codes "DELETE"
privilege_text needed.Control = codes "CONTROL"

-- the rules of DB2LBACRULES, by the names that exemptions give them
abbrev pub rule_text : Rule → List ℕ
rule_text rules.ReadArray = codes "DB2LBACREADARRAY"
rule_text rules.ReadSet = codes "DB2LBACREADSET"
rule_text rules.ReadTree = codes "DB2LBACREADTREE"
rule_text rules.WriteDown = codes "DB2LBACWRITEARRAY WRITEDOWN"
rule_text rules.WriteUp = codes "DB2LBACWRITEARRAY WRITEUP"
rule_text rules.WriteSet = codes "DB2LBACWRITESET"
rule_text rules.WriteTree = codes "DB2LBACWRITETREE"

abbrev pub limit_text : LimitOf → List ℕ
limit_text limits.Tables = codes "TABLES"
limit_text limits.Columns = codes "COLUMNS"
limit_text limits.Cells = codes "CELLS"
limit_text limits.Width = codes "WIDTH"
limit_text limits.Kept = codes "KEPT"
limit_text limits.Elements = codes "ELEMENTS"
limit_text limits.Components = codes "COMPONENTS"

abbrev pub flaw_text : Flaw → List ℕ
flaw_text flaws.NoPolicy = codes "NOPOLICY"
flaw_text flaws.TwoLabels = codes "TWOLABELS"
flaw_text flaws.TwoKeys = codes "TWOKEYS"
flaw_text flaws.LabelKey = codes "LABELKEY"

-- the name of a refusal
abbrev pub reason_name : Refusal → List ℕ
reason_name (refusals.Syntax at) = codes "SYNTAX"
reason_name (refusals.Unknown n) = codes "UNKNOWN"
reason_name (refusals.Exists n) = codes "EXISTS"
reason_name (refusals.Types at) = codes "TYPES"
reason_name (refusals.Privilege r t) = codes "PRIVILEGE"
reason_name refusals.NotSecadm = codes "NOTSECADM"
reason_name (refusals.ColumnRead c k r) = codes "COLUMNREAD"
reason_name (refusals.ColumnWrite c k r) = codes "COLUMNWRITE"
reason_name (refusals.RowWrite k r) = codes "ROWWRITE"
reason_name (refusals.LabelWrite k r) = codes "LABELWRITE"
reason_name (refusals.NoWriteLabel p) = codes "NOWRITELABEL"
reason_name (refusals.RowPermission t tried) = codes "ROWPERMISSION"
reason_name (refusals.MaskedSource m) = codes "MASKEDSOURCE"
reason_name (refusals.MaskGroup m) = codes "MASKGROUP"
reason_name (refusals.DuplicateKey t) = codes "DUPLICATEKEY"
reason_name refusals.Overflow = codes "OVERFLOW"
reason_name refusals.ManyRows = codes "MANYROWS"
reason_name (refusals.InUse n by) = codes "INUSE"
reason_name (refusals.BadLabel at) = codes "BADLABEL"
reason_name (refusals.GrantMismatch k) = codes "GRANTMISMATCH"
reason_name (refusals.Limit w n) = codes "LIMIT"
reason_name (refusals.JournalFull n) = codes "JOURNALFULL"
reason_name (refusals.NullValue t c) = codes "NULLVALUE"
reason_name (refusals.TooWide t c n) = codes "TOOWIDE"
reason_name (refusals.BadSource n t) = codes "BADSOURCE"
reason_name (refusals.BadTable c f) = codes "BADTABLE"
reason_name refusals.NotYet = codes "NOTYET"

-- the fields of a refusal
abbrev pub fields : Refusal → List (List ℕ)
fields (refusals.Syntax at) = decimal at ∷ []
fields (refusals.Unknown n) = n ∷ []
fields (refusals.Exists n) = n ∷ []
fields (refusals.Types at) = decimal at ∷ []
fields (refusals.Privilege r t) = privilege_text r ∷ t ∷ []
fields refusals.NotSecadm = []
fields (refusals.ColumnRead c k r) = c ∷ k ∷ rule_text r ∷ []
fields (refusals.ColumnWrite c k r) = c ∷ k ∷ rule_text r ∷ []
fields (refusals.RowWrite k r) = k ∷ rule_text r ∷ []
fields (refusals.LabelWrite k r) = k ∷ rule_text r ∷ []
fields (refusals.NoWriteLabel p) = p ∷ []
fields (refusals.RowPermission t tried) = t ∷ tried_text tried ∷ []
fields (refusals.MaskedSource m) = m ∷ []
fields (refusals.MaskGroup m) = m ∷ []
fields (refusals.DuplicateKey t) = t ∷ []
fields refusals.Overflow = []
fields refusals.ManyRows = []
fields (refusals.InUse n by) = n ∷ by ∷ []
fields (refusals.BadLabel at) = decimal at ∷ []
fields (refusals.GrantMismatch k) = k ∷ []
fields (refusals.Limit w n) = limit_text w ∷ decimal n ∷ []
fields (refusals.JournalFull n) = decimal n ∷ []
fields (refusals.NullValue t c) = t ∷ c ∷ []
fields (refusals.TooWide t c n) = t ∷ c ∷ decimal n ∷ []
fields (refusals.BadSource n t) = n ∷ t ∷ []
fields (refusals.BadTable c f) = c ∷ flaw_text f ∷ []
fields refusals.NotYet = []

-- REFUSED, its number, its name and its fields
abbrev pub refusal_text : Refusal → List ℕ
refusal_text r = joined_by (codes " ") (codes "REFUSED" ∷ decimal (refusal_number r) ∷ reason_name r ∷ fields r)

abbrev pub verb_text : Verb → List ℕ
verb_text verbs.Inserted = codes "INSERTED "
verb_text verbs.Updated = codes "UPDATED "
verb_text verbs.Deleted = codes "DELETED "

abbrev pub reply_text : Reply → List ℕ
reply_text (replies.Rows rows) = line (codes "ROWS " ++ decimal (length rows)) ++ flat_map row_line rows
reply_text (replies.Wrote verb n) = line (verb_text verb ++ decimal n)
reply_text replies.Done = line (codes "DONE")
reply_text (replies.Refused r) = line (refusal_text r)
reply_text replies.NoMemory = line (codes "NOMEMORY")

-- the block of an answer: its place, its mark and its reply
abbrev pub block_text : Answer → List ℕ
block_text a = place_text a.place ++ codes " " ++ mark_text a.mark ++ codes " " ++ reply_text a.reply

-- the line of a section whose session was opened at that place with that number
abbrev pub header_text : ℕ → ℕ → List ℕ → List ℕ
header_text place session user = line (decimal place ++ codes " - SESSION " ++ decimal session ++ codes " " ++ user)

-- the line of a section whose session was not opened, since the journal was full
abbrev pub full_text : ℕ → List ℕ
full_text limit = block_text (record { place = None; mark = marks.Dash; reply = replies.Refused (refusals.JournalFull limit) })

-- the one line of a script that breaks the form at that line
abbrev pub bad_script_text : ℕ → List ℕ
bad_script_text n = line (codes "BADSCRIPT " ++ decimal n)
