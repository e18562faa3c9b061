-- The statements on access control, in groups.
use Rattle.lb_stmt.specs.declared.change.Change.{Change}
use Rattle.lb_stmt.specs.declared.change.Change.TheVariants as changes

-- it is on labels and exemptions of users, on roles or on authorities
abbrev pub IsOfGrants : Change → Type 0
IsOfGrants (changes.GrantLabel l n access) = Unit {0}
IsOfGrants (changes.RevokeLabel l n) = Unit {0}
IsOfGrants (changes.GrantExemption rule policy n) = Unit {0}
IsOfGrants (changes.RevokeExemption rule policy n) = Unit {0}
IsOfGrants (changes.CreateRole n) = Unit {0}
IsOfGrants (changes.DropRole n) = Unit {0}
IsOfGrants (changes.GrantRole role n) = Unit {0}
IsOfGrants (changes.RevokeRole role n) = Unit {0}
IsOfGrants (changes.GrantSecadm n) = Unit {0}
IsOfGrants (changes.RevokeSecadm n) = Unit {0}
IsOfGrants s = ⊥

-- or on components, policies or labels
abbrev pub IsOfLabels : Change → Type 0
IsOfLabels (changes.CreateComponent n d) = Unit {0}
IsOfLabels (changes.DropComponent n) = Unit {0}
IsOfLabels (changes.CreatePolicy d) = Unit {0}
IsOfLabels (changes.DropPolicy n) = Unit {0}
IsOfLabels (changes.CreateLabel l parts) = Unit {0}
IsOfLabels (changes.DropLabel l) = Unit {0}
IsOfLabels s = IsOfGrants s
