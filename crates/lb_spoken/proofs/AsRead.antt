-- A change that some text spells is as it was read.
use Rattle.std.proofs.Common.{Bool, true, false, cond, ◌≡◌, ℕ, List, Some, None, refl}
use Rattle.lb_base.specs.Names.{is_name, folded, name_of, IsFolded}
use Rattle.lb_stmt.specs.declared.change.Change.{Change}
use Rattle.lb_stmt.specs.declared.write.Stmt.{Stmt}
use Rattle.lb_stmt.specs.declared.write.Stmt.TheVariants as stmts
use Rattle.lb_tok.specs.Form.{Below}
use Rattle.lb_tok.specs.Grammar.{IsName}
use Rattle.lb_tok.specs.Changes.{IsCreateTable, IsCreateLabel, IsCreatePolicy, IsPermission, IsMask, IsCreate, IsAdded, IsAlteredColumn, IsAlterTable, IsAlter, IsDropLabel, IsDrop, IsGrant, IsRevoke, IsChange, IsStmt}
use Rattle.lb_tok.specs.Spelled.{IsSpoken}
use Rattle.lb_tok.proofs.SpelledWords.{free}
use Rattle.lb_alter.specs.Laws.{IsAsRead}
use Rattle.lb_spoken.proofs.Gives.{Gives, anything, means, after, made, either, seq, past, bracket, some_listed, spoken_gives}

folded_of : (n : List ℕ) → name_of n ≡ Some n → IsFolded n
folded_of n e = go (is_name n) refl e
  where
    go : (b : Bool) → is_name n ≡ b → cond b (Some (folded n)) None ≡ Some n → IsFolded n
    go true h e = (h, cc)
    go false h e = absurd cc

name_folded : {s : Below} → Gives IsName s IsFolded
name_folded = record { of = λ ts n g. folded_of n (free g).folded }

module _ {s : Below} where
  table : Gives IsCreateTable s IsAsRead
  table = after (past (λ t. seq (bracket some_listed) (λ es some. made (anything (λ p. some)))))

  policy : Gives IsCreatePolicy s IsAsRead
  policy = after (seq name_folded (λ n named. after (seq some_listed (λ cs some. after (after (made (anything (λ o. (named, some)))))))))

  label : Gives IsCreateLabel s IsAsRead
  label = either (after (past (λ n. made (anything (λ c. tt))))) (past (λ l. made (anything (λ ps. tt))))

  permission : (r : Bool) → Gives (IsPermission r) s IsAsRead
  permission r = after (past (λ n. after (past (λ t. after (after (after (past (λ c. after (after (after (after (made (anything (λ w. tt))))))))))))))

  mask : (r : Bool) → Gives (IsMask r) s IsAsRead
  mask r = after (past (λ n. after (past (λ t. after (after (past (λ c. after (past (λ v. made (anything (λ w. tt)))))))))))

  create : Gives IsCreate s IsAsRead
  create = either table (either (after (either (after label) policy)) (either (after (made (anything (λ r. tt)))) (past (λ r. either (permission r) (mask r)))))

  added : (t : List ℕ) → Gives (IsAdded t) s IsAsRead
  added t = either (after (after (made (anything (λ p. tt))))) (past (λ k. past (λ c. made (anything (λ ty. tt)))))

  altered : (t : List ℕ) → Gives (IsAlteredColumn t) s IsAsRead
  altered t = past (λ k. past (λ c. either (after (after (made (anything (λ l. tt))))) (after (after (means tt)))))

  alter_table : Gives IsAlterTable s IsAsRead
  alter_table = after (past (λ t. either (after (added t)) (either (after (altered t)) (past (λ a. made (anything (λ b. tt)))))))

  alter : Gives IsAlter s IsAsRead
  alter = either alter_table (either (after (past (λ n. made (anything (λ w. tt))))) (after (past (λ n. made (anything (λ w. tt))))))

  drop_label : Gives IsDropLabel s IsAsRead
  drop_label = either (after (made (anything (λ n. tt)))) (made (anything (λ n. tt)))

  drop : Gives IsDrop s IsAsRead
  drop =
      either (after (made (anything (λ n. tt))))
      (either (after (made (anything (λ n. tt))))
      (either (after (made (anything (λ n. tt))))
      (either (after (made (anything (λ n. tt))))
      (after (either (after drop_label) (after (made (anything (λ n. tt)))))))))

  grant : Gives IsGrant s IsAsRead
  grant =
      either (after (after (past (λ l. after (past (λ u. made (anything (λ a. tt))))))))
      (either (after (past (λ r. after (made (anything (λ u. tt))))))
      (either (after (past (λ r. after (made (anything (λ u. tt))))))
      (either (after (after (after (after (made (anything (λ u. tt)))))))
      (past (λ rs. after (past (λ k. past (λ t. past (λ k. made (anything (λ g. tt)))))))))))

  revoke : Gives IsRevoke s IsAsRead
  revoke =
      either (after (after (past (λ l. after (made (anything (λ u. tt)))))))
      (either (after (past (λ r. after (made (anything (λ u. tt))))))
      (either (after (past (λ r. after (made (anything (λ u. tt))))))
      (either (after (after (after (after (made (anything (λ u. tt)))))))
      (past (λ rs. after (past (λ k. past (λ t. past (λ k. made (anything (λ g. tt)))))))))))

  pub change_is_as_read : Gives IsChange s IsAsRead
  change_is_as_read = either (after create) (either (after alter) (either (after drop) (either (after grant) (after revoke))))

-- what is said of a whole statement
abbrev ChangeIsAsRead : Stmt → Type 0
ChangeIsAsRead (stmts.Change c) = IsAsRead c
ChangeIsAsRead s = Unit {0}

stmt_is_as_read : {s : Below} → Gives IsStmt s ChangeIsAsRead
stmt_is_as_read = either (either (made (anything (λ x. tt))) (either (made (anything (λ x. tt))) (either (made (anything (λ x. tt))) (made (anything (λ x. tt)))))) (made change_is_as_read)

pub changes_are_as_read : (c : Change) → IsSpoken (stmts.Change c) → IsAsRead c
changes_are_as_read c h = spoken_gives {C = ChangeIsAsRead} (λ depth. stmt_is_as_read) (stmts.Change c) h
