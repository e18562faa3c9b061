-- Sound catalogues with the same records under what a statement depends on answer it alike.
use Rattle.std.proofs.Common.{◌≡◌, refl, sym, ℕ, List}
use Rattle.std.specs.Prelude.{option_map}
use Rattle.std.specs.List.{AllByRecursion}
use Rattle.std.specs.Option.{option_or}
use Rattle.lb_stmt.specs.declared.write.Stmt.{Stmt}
use Rattle.lb_rows.specs.Tables.{Tables, rows_of}
use Rattle.lb_cat.specs.Catalog.{Cat, table_named, policy_named}
use Rattle.lb_names.specs.Mentions.{Mentions, in_stmt}
use Rattle.lb_names.specs.Agreeing.{AgreeOn}
use Rattle.lb_names.proofs.NamesFrame.{names_same}
use Rattle.lb_names.proofs.TypesFrame.{types_same}
use Rattle.lb_mean.specs.Frame.{Agrees}
use Rattle.lb_mean.specs.Laws.{SameNamed, SameStored, SameMention}
use Rattle.lb_answer.proofs.Framed.{statements_across}
use Rattle.lb_alter.specs.Deps.{deps_of, tables_for}
use Rattle.lb_alter.specs.Frame.{SameOn}
use Rattle.lb_alter.specs.Sound.{IsSound}
use Rattle.lb_alter.proofs.SoundUsers.{all_follow}
use Rattle.lb_alter.proofs.Steady.{tables_same}
use Rattle.lb_alter.specs.Naming.{named_in, refusal_for, statement_refused, stored_rules}
use Rattle.lb_journal.specs.Lasting.{AnswerStays}
use Rattle.lb_journal.proofs.Agreeing.{agree_on}
use Rattle.lb_journal.proofs.Mentioned.{all_agree, of_owners, of_calls}

-- a table has the same record and the same rows
abbrev pub SameTable : Cat → Cat → Tables → Tables → List ℕ → Type 0
SameTable C D T U n = (table_named D n ≡ table_named C n) × (rows_of n T ≡ rows_of n U)

-- the same of all that is mentioned
pub mentions_same : (C D : Cat) (T U : Tables) → IsSound stored_rules C → IsSound stored_rules D → (ms : Mentions) → SameOn (deps_of C ms) C D
    → AllByRecursion (SameTable C D T U) (tables_for C ms) → Agrees (SameMention C D T U) ms
mentions_same C D T U sound sound_D ms same tables =
    all_agree C (SameNamed C D T U) (SameMention C D T U) (SameStored C D T U) (SameTable C D T U) (λ p. policy_named D p ≡ policy_named C p)
    (λ n t. (sym t.0, t.1)) (λ p e. sym e) (λ p l e. sym e) tt (λ t h. h) (λ n t h. ((sym t.0, t.1), h)) (λ p e. sym e) (λ p l e. sym e) sound ms
    tables (of_owners C D sound sound_D ms same) (of_calls C D sound sound_D ms same)

-- names and types are refused alike
pub rules_agree : (C D : Cat) (s : Stmt) → AgreeOn (named_in C) (named_in D) (in_stmt s) → statement_refused C.tables C.policies s ≡ statement_refused D.tables D.policies s
rules_agree C D s h = λ i. option_map refusal_for (option_or (names_same (named_in C) (named_in D) s h i) (types_same (named_in C) (named_in D) s h i))

pub answer_stays : AnswerStays
answer_stays C D c T day s sound_C sound_D same =
    statements_across statement_refused C D c T T day s
    (mentions_same C D T T sound_C sound_D (in_stmt s) same (all_follow (λ (n : List ℕ). table_named D n ≡ table_named C n) (SameTable C D T T) (λ n e. (e, refl)) (tables_for C (in_stmt s)) (tables_same C D (in_stmt s) same)))
    (rules_agree C D s (agree_on C D sound_C.folded sound_D.folded (in_stmt s) same))
