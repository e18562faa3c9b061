-- The kinds of tokens: their numbers, their spelling, and sets of them.
use Rattle.std.specs.Prelude.{ℕ, Bool, true, false, ◌&&◌, List, [], ◌∷◌, ◌++◌, codes, find, unwrap_or, nat_le, if◌then◌else◌}
use Rattle.std.specs.Str.{bytes_eq}
use Rattle.lb_tok.specs.declared.kind.Kind.{Kind}
use Rattle.lb_tok.specs.declared.kind.Kind.TheVariants as kinds

-- the place of a kind among all kinds
abbrev pub number : Kind → ℕ
number kinds.Open = 0
number kinds.Close = 1
number kinds.Comma = 2
number kinds.Dot = 3
number kinds.Equal = 4
number kinds.NotEqual = 5
number kinds.Less = 6
number kinds.AtMost = 7
number kinds.Greater = 8
number kinds.AtLeast = 9
number kinds.Plus = 10
number kinds.Minus = 11
number kinds.Star = 12
number kinds.Bars = 13
number kinds.LeftBracket = 14
number kinds.RightBracket = 15
number kinds.LeftBrace = 16
number kinds.RightBrace = 17
number kinds.Numeral = 18
number kinds.Text = 19
number kinds.And = 20
number kinds.As = 21
number kinds.Asc = 22
number kinds.Between = 23
number kinds.By = 24
number kinds.Case = 25
number kinds.Cross = 26
number kinds.Current = 27
number kinds.CurrentDate = 28
number kinds.Desc = 29
number kinds.Distinct = 30
number kinds.Else = 31
number kinds.End = 32
number kinds.Exists = 33
number kinds.Fetch = 34
number kinds.For = 35
number kinds.From = 36
number kinds.Group = 37
number kinds.Having = 38
number kinds.In = 39
number kinds.Inner = 40
number kinds.Is = 41
number kinds.Join = 42
number kinds.Left = 43
number kinds.Not = 44
number kinds.Null = 45
number kinds.On = 46
number kinds.Or = 47
number kinds.Order = 48
number kinds.Outer = 49
number kinds.Public = 50
number kinds.Select = 51
number kinds.SessionUser = 52
number kinds.Set = 53
number kinds.Then = 54
number kinds.User = 55
number kinds.Values = 56
number kinds.When = 57
number kinds.Where = 58
number kinds.Count = 59
number kinds.Sum = 60
number kinds.Min = 61
number kinds.Max = 62
number kinds.Substr = 63
number kinds.Length = 64
number kinds.Coalesce = 65
number kinds.Year = 66
number kinds.Month = 67
number kinds.Day = 68
number kinds.VerifyRoleForUser = 69
number kinds.VerifyGroupForUser = 70
number kinds.SecLabel = 71
number kinds.SecLabelByName = 72
number kinds.SecLabelToChar = 73
number kinds.Date = 74
number kinds.BigInt = 75
number kinds.Integer = 76
number kinds.Int = 77
number kinds.Varchar = 78
number kinds.First = 79
number kinds.Row = 80
number kinds.Rows = 81
number kinds.Only = 82
number kinds.Insert = 83
number kinds.Into = 84
number kinds.Update = 85
number kinds.Delete = 86
number kinds.Create = 87
number kinds.Table = 88
number kinds.Drop = 89
number kinds.Alter = 90
number kinds.Add = 91
number kinds.Column = 92
number kinds.Security = 93
number kinds.Policy = 94
number kinds.Secured = 95
number kinds.With = 96
number kinds.Replace = 97
number kinds.Permission = 98
number kinds.Enforced = 99
number kinds.All = 100
number kinds.Access = 101
number kinds.Enable = 102
number kinds.Disable = 103
number kinds.Mask = 104
number kinds.Return = 105
number kinds.Label = 106
number kinds.Component = 107
number kinds.Components = 108
number kinds.Db2LbacRules = 109
number kinds.Override = 110
number kinds.Restrict = 111
number kinds.Authorized = 112
number kinds.Write = 113
number kinds.Read = 114
number kinds.Grant = 115
number kinds.To = 116
number kinds.Revoke = 117
number kinds.Exemption = 118
number kinds.Rule = 119
number kinds.Role = 120
number kinds.Secadm = 121
number kinds.Database = 122
number kinds.Primary = 123
number kinds.Key = 124
number kinds.Db2SecurityLabel = 125
number kinds.Activate = 126
number kinds.Deactivate = 127
number kinds.Control = 128
number kinds.Array = 129
number kinds.Tree = 130
number kinds.Root = 131
number kinds.Under = 132
number kinds.Db2LbacReadArray = 133
number kinds.Db2LbacReadSet = 134
number kinds.Db2LbacReadTree = 135
number kinds.Db2LbacWriteArray = 136
number kinds.Db2LbacWriteSet = 137
number kinds.Db2LbacWriteTree = 138
number kinds.WriteDown = 139
number kinds.WriteUp = 140
number kinds.Word = 141

-- how a symbol or keyword is written
unfoldable pub spelling : Kind → List ℕ
spelling kinds.Open = codes "("
spelling kinds.Close = codes ")"
spelling kinds.Comma = codes ","
spelling kinds.Dot = codes "."
spelling kinds.Equal = codes "="
spelling kinds.NotEqual = codes "<>"
spelling kinds.Less = codes "<"
spelling kinds.AtMost = codes "<="
spelling kinds.Greater = codes ">"
spelling kinds.AtLeast = codes ">="
spelling kinds.Plus = codes "+"
spelling kinds.Minus = codes "-"
spelling kinds.Star = codes "*"
spelling kinds.Bars = codes "||"
spelling kinds.LeftBracket = codes "["
spelling kinds.RightBracket = codes "]"
spelling kinds.LeftBrace = codes "{"
spelling kinds.RightBrace = codes "}"
spelling kinds.Numeral = codes ""
spelling kinds.Text = codes ""
spelling kinds.And = codes "AND"
spelling kinds.As = codes "AS"
spelling kinds.Asc = codes "ASC"
spelling kinds.Between = codes "BETWEEN"
spelling kinds.By = codes "BY"
spelling kinds.Case = codes "CASE"
spelling kinds.Cross = codes "CROSS"
spelling kinds.Current = codes "CURRENT"
spelling kinds.CurrentDate = codes "CURRENT_DATE"
spelling kinds.Desc = codes "DESC"
spelling kinds.Distinct = codes "DISTINCT"
spelling kinds.Else = codes "ELSE"
spelling kinds.End = codes "END"
spelling kinds.Exists = codes "EXISTS"
spelling kinds.Fetch = codes "FETCH"
spelling kinds.For = codes "FOR"
spelling kinds.From = codes "FROM"
spelling kinds.Group = codes "GROUP"
spelling kinds.Having = codes "HAVING"
spelling kinds.In = codes "IN"
spelling kinds.Inner = codes "INNER"
spelling kinds.Is = codes "IS"
spelling kinds.Join = codes "JOIN"
spelling kinds.Left = codes "LEFT"
spelling kinds.Not = codes "NOT"
spelling kinds.Null = codes "NULL"
spelling kinds.On = codes "ON"
spelling kinds.Or = codes "OR"
spelling kinds.Order = codes "ORDER"
spelling kinds.Outer = codes "OUTER"
spelling kinds.Public = codes "PUBLIC"
spelling kinds.Select = codes "SELECT"
spelling kinds.SessionUser = codes "SESSION_USER"
spelling kinds.Set = codes "SET"
spelling kinds.Then = codes "THEN"
spelling kinds.User = codes "USER"
spelling kinds.Values = codes "VALUES"
spelling kinds.When = codes "WHEN"
spelling kinds.Where = codes "WHERE"
spelling kinds.Count = codes "COUNT"
spelling kinds.Sum = codes "SUM"
spelling kinds.Min = codes "MIN"
spelling kinds.Max = codes "MAX"
spelling kinds.Substr = codes "SUBSTR"
spelling kinds.Length = codes "LENGTH"
spelling kinds.Coalesce = codes "COALESCE"
spelling kinds.Year = codes "YEAR"
spelling kinds.Month = codes "MONTH"
spelling kinds.Day = codes "DAY"
spelling kinds.VerifyRoleForUser = codes "VERIFY_ROLE_FOR_USER"
spelling kinds.VerifyGroupForUser = codes "VERIFY_GROUP_FOR_USER"
spelling kinds.SecLabel = codes "SECLABEL"
spelling kinds.SecLabelByName = codes "SECLABEL_BY_NAME"
spelling kinds.SecLabelToChar = codes "SECLABEL_TO_CHAR"
spelling kinds.Date = codes "DATE"
spelling kinds.BigInt = codes "BIGINT"
spelling kinds.Integer = codes "INTEGER"
spelling kinds.Int = codes "INT"
spelling kinds.Varchar = codes "VARCHAR"
spelling kinds.First = codes "FIRST"
spelling kinds.Row = codes "ROW"
spelling kinds.Rows = codes "ROWS"
spelling kinds.Only = codes "ONLY"
spelling kinds.Insert = codes "INSERT"
spelling kinds.Into = codes "INTO"
spelling kinds.Update = codes "UPDATE"
spelling kinds.Delete = codes "DELETE"
spelling kinds.Create = codes "CREATE"
spelling kinds.Table = codes "TABLE"
spelling kinds.Drop = codes "DROP"
spelling kinds.Alter = codes "ALTER"
spelling kinds.Add = codes "ADD"
spelling kinds.Column = codes "COLUMN"
spelling kinds.Security = codes "SECURITY"
spelling kinds.Policy = codes "POLICY"
spelling kinds.Secured = codes "SECURED"
spelling kinds.With = codes "WITH"
spelling kinds.Replace = codes "REPLACE"
spelling kinds.Permission = codes "PERMISSION"
spelling kinds.Enforced = codes "ENFORCED"
spelling kinds.All = codes "ALL"
spelling kinds.Access = codes "ACCESS"
spelling kinds.Enable = codes "ENABLE"
spelling kinds.Disable = codes "DISABLE"
spelling kinds.Mask = codes "MASK"
spelling kinds.Return = codes "RETURN"
spelling kinds.Label = codes "LABEL"
spelling kinds.Component = codes "COMPONENT"
spelling kinds.Components = codes "COMPONENTS"
spelling kinds.Db2LbacRules = codes "DB2LBACRULES"
spelling kinds.Override = codes "OVERRIDE"
spelling kinds.Restrict = codes "RESTRICT"
spelling kinds.Authorized = codes "AUTHORIZED"
spelling kinds.Write = codes "WRITE"
spelling kinds.Read = codes "READ"
spelling kinds.Grant = codes "GRANT"
spelling kinds.To = codes "TO"
spelling kinds.Revoke = codes "REVOKE"
spelling kinds.Exemption = codes "EXEMPTION"
spelling kinds.Rule = codes "RULE"
spelling kinds.Role = codes "ROLE"
spelling kinds.Secadm = codes "SECADM"
spelling kinds.Database = codes "DATABASE"
spelling kinds.Primary = codes "PRIMARY"
spelling kinds.Key = codes "KEY"
spelling kinds.Db2SecurityLabel = codes "DB2SECURITYLABEL"
spelling kinds.Activate = codes "ACTIVATE"
spelling kinds.Deactivate = codes "DEACTIVATE"
spelling kinds.Control = codes "CONTROL"
spelling kinds.Array = codes "ARRAY"
spelling kinds.Tree = codes "TREE"
spelling kinds.Root = codes "ROOT"
spelling kinds.Under = codes "UNDER"
spelling kinds.Db2LbacReadArray = codes "DB2LBACREADARRAY"
spelling kinds.Db2LbacReadSet = codes "DB2LBACREADSET"
spelling kinds.Db2LbacReadTree = codes "DB2LBACREADTREE"
spelling kinds.Db2LbacWriteArray = codes "DB2LBACWRITEARRAY"
spelling kinds.Db2LbacWriteSet = codes "DB2LBACWRITESET"
spelling kinds.Db2LbacWriteTree = codes "DB2LBACWRITETREE"
spelling kinds.WriteDown = codes "WRITEDOWN"
spelling kinds.WriteUp = codes "WRITEUP"
spelling kinds.Word = codes ""

-- the words that have a kind of their own: first those that can't be names
unfoldable pub keywords : List Kind
keywords =
    kinds.And ∷ kinds.As ∷ kinds.Asc ∷ kinds.Between ∷ kinds.By ∷ kinds.Case ∷ kinds.Cross ∷ kinds.Current ∷ kinds.CurrentDate ∷
    kinds.Desc ∷ kinds.Distinct ∷ kinds.Else ∷ kinds.End ∷ kinds.Exists ∷ kinds.Fetch ∷ kinds.For ∷ kinds.From ∷ kinds.Group ∷
    kinds.Having ∷ kinds.In ∷ kinds.Inner ∷ kinds.Is ∷ kinds.Join ∷ kinds.Left ∷ kinds.Not ∷ kinds.Null ∷ kinds.On ∷ kinds.Or ∷
    kinds.Order ∷ kinds.Outer ∷ kinds.Public ∷ kinds.Select ∷ kinds.SessionUser ∷ kinds.Set ∷ kinds.Then ∷ kinds.User ∷
    kinds.Values ∷ kinds.When ∷ kinds.Where ∷ kinds.Count ∷ kinds.Sum ∷ kinds.Min ∷ kinds.Max ∷ kinds.Substr ∷ kinds.Length ∷
    kinds.Coalesce ∷ kinds.Year ∷ kinds.Month ∷ kinds.Day ∷ kinds.VerifyRoleForUser ∷ kinds.VerifyGroupForUser ∷ kinds.SecLabel ∷
    kinds.SecLabelByName ∷ kinds.SecLabelToChar ∷ kinds.Date ∷ kinds.BigInt ∷ kinds.Integer ∷ kinds.Int ∷ kinds.Varchar ∷
    kinds.First ∷ kinds.Row ∷ kinds.Rows ∷ kinds.Only ∷ kinds.Insert ∷ kinds.Into ∷ kinds.Update ∷ kinds.Delete ∷ kinds.Create ∷
    kinds.Table ∷ kinds.Drop ∷ kinds.Alter ∷ kinds.Add ∷ kinds.Column ∷ kinds.Security ∷ kinds.Policy ∷ kinds.Secured ∷
    kinds.With ∷ kinds.Replace ∷ kinds.Permission ∷ kinds.Enforced ∷ kinds.All ∷ kinds.Access ∷ kinds.Enable ∷ kinds.Disable ∷
    kinds.Mask ∷ kinds.Return ∷ kinds.Label ∷ kinds.Component ∷ kinds.Components ∷ kinds.Db2LbacRules ∷ kinds.Override ∷
    kinds.Restrict ∷ kinds.Authorized ∷ kinds.Write ∷ kinds.Read ∷ kinds.Grant ∷ kinds.To ∷ kinds.Revoke ∷ kinds.Exemption ∷
    kinds.Rule ∷ kinds.Role ∷ kinds.Secadm ∷ kinds.Database ∷ kinds.Primary ∷ kinds.Key ∷ kinds.Db2SecurityLabel ∷
    kinds.Activate ∷ kinds.Deactivate ∷ kinds.Control ∷ kinds.Array ∷ kinds.Tree ∷ kinds.Root ∷ kinds.Under ∷
    kinds.Db2LbacReadArray ∷ kinds.Db2LbacReadSet ∷ kinds.Db2LbacReadTree ∷ kinds.Db2LbacWriteArray ∷ kinds.Db2LbacWriteSet ∷
    kinds.Db2LbacWriteTree ∷ kinds.WriteDown ∷ kinds.WriteUp ∷ []

-- the kind of a word in upper case
unfoldable pub kind_of : List ℕ → Kind
kind_of word = unwrap_or (find (λ k. bytes_eq (spelling k) word) keywords) kinds.Word

-- a set of kinds: runs of their numbers, each by its first and its last
abbrev pub Kinds : Type 0
Kinds = List (ℕ × ℕ)

-- the kind alone
abbrev pub only : Kind → Kinds
only k = (number k, number k) ∷ []

-- the kinds from a first to a last
abbrev pub from_to : Kind → Kind → Kinds
from_to first last = (number first, number last) ∷ []

abbrev pub is_within : ℕ × ℕ → ℕ → Bool
is_within run n = nat_le run.0 n && nat_le n run.1

-- the kind is one of the set
unfoldable pub has : Kinds → Kind → Bool
has [] k = false
has (run ∷ runs) k = if is_within run (number k) then true else has runs k

-- the kinds that may be names: all words but the reserved ones
abbrev pub names : Kinds
names = from_to kinds.Count kinds.Word

-- brackets, of which CASE and END are a pair too
abbrev pub openers : Kinds
openers = only kinds.Open ++ only kinds.Case

abbrev pub closers : Kinds
closers = only kinds.Close ++ only kinds.End
