-- The number of each refusal, as replies print it. A number stays the same when refusals come or go.
use Rattle.std.specs.Prelude.{ℕ}
use Rattle.lb_cat.specs.declared.refusal.Refusal.{Refusal}
use Rattle.lb_cat.specs.declared.refusal.Refusal.TheVariants.{Syntax, Unknown, Exists, Types, Privilege, NotSecadm, ColumnRead, ColumnWrite, RowWrite, LabelWrite, NoWriteLabel, RowPermission, MaskedSource, MaskGroup, DuplicateKey, Overflow, ManyRows, InUse, BadLabel, GrantMismatch, Limit, JournalFull, NullValue, TooWide, BadSource, BadTable, NotYet}

-- the number of a refusal
abbrev pub refusal_number : Refusal → ℕ
refusal_number (Syntax at) = 1
refusal_number (Unknown name) = 2
refusal_number (Exists name) = 3
refusal_number (Types at) = 4
refusal_number (Privilege needed table) = 5
refusal_number NotSecadm = 6
refusal_number (ColumnRead column component rule) = 7
refusal_number (ColumnWrite column component rule) = 8
refusal_number (RowWrite component rule) = 9
refusal_number (LabelWrite component rule) = 10
refusal_number (NoWriteLabel policy) = 11
refusal_number (RowPermission table tried) = 12
refusal_number (MaskedSource mask) = 13
refusal_number (MaskGroup mask) = 14
refusal_number (DuplicateKey table) = 15
refusal_number Overflow = 16
refusal_number ManyRows = 17
refusal_number (InUse name by) = 18
refusal_number (BadLabel at) = 19
refusal_number (GrantMismatch component) = 20
refusal_number (Limit of most) = 21
refusal_number (JournalFull limit) = 22
refusal_number (NullValue table column) = 23
refusal_number (TooWide table column width) = 24
refusal_number (BadSource name table) = 25
refusal_number (BadTable column flaw) = 26
refusal_number NotYet = 99
