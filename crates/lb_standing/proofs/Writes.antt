-- A query or a write keeps that what stands is sound and its tables fit.
use Rattle.std.proofs.Common.{ℕ, ℤ, ◌≡◌, refl, sym, subst, ap, ◌∙◌, true, false, List, [], ◌∷◌, map, Option, Some, None, is_some}
use Rattle.std.specs.Prelude.{find, option_map}
use Rattle.std.specs.List.{AllZip}
use Rattle.lb_base.specs.Days.{IsDay}
use Rattle.lb_base.specs.declared.key.Ty.{Ty}
use Rattle.lb_base.specs.declared.key.Ty.TheVariants as types
use Rattle.lb_stmt.specs.declared.write.Stmt.{Stmt}
use Rattle.lb_stmt.specs.declared.write.Stmt.TheVariants as stmts
use Rattle.lb_tok.specs.Spelled.{IsSpoken}
use Rattle.lb_cat.specs.declared.catalog.ColumnRec.{ColumnRec}
use Rattle.lb_cat.specs.Catalog.{Cat, Table, table_named}
use Rattle.lb_cat.specs.Credentials.{cred}
use Rattle.lb_names.specs.Scopes.{listed}
use Rattle.lb_names.specs.Statements.{mask_types_refused}
use Rattle.lb_rows.specs.Tables.{Tables, Version, is_version, put_version, rows_in}
use Rattle.lb_answer.specs.Answer.{Answered}
use Rattle.lb_alter.specs.Laws.{CredentialsFit}
use Rattle.lb_alter.specs.Named.{HasTable}
use Rattle.lb_alter.proofs.SoundGrants.{different_kept}
use Rattle.lb_alter.proofs.SoundTables.{put_case}
use Rattle.lb_kinds.specs.Settings.{SameColumn, columns_in}
use Rattle.lb_names.specs.Kinds.{kind_of}
use Rattle.lb_fits.specs.Masks.{RefusesUntypedMasks, SoundMasksFit}
use Rattle.lb_fits.specs.Statements.{FitsAreKnown, IsReady, WritesFit}
use Rattle.lb_spoken.specs.Laws.{StatementsHaveDays}
use Rattle.lb_alter.specs.Naming.{field_of, fields_of, named_in, stored_rules, statement_refused}
use Rattle.lb_journal.specs.Rules.{answered_to}
use Rattle.lb_journal.specs.State.{State, answered, left_by, put_maybe}
use Rattle.lb_journal.proofs.Steady.{none_told}
use Rattle.lb_standing.specs.Standing.{IsStanding}
use Rattle.lb_standing.specs.Laws.{WritesStayStanding}
use Rattle.lb_standing.proofs.Wrote.{Wrote, wrote, types_passed}

-- ---- names and types see the columns of the catalogue

same_kind : (ty : Ty) → kind_of ty ≡ kind_of ty
same_kind types.Int = refl
same_kind (types.Text width) = refl
same_kind types.Date = refl
same_kind (types.Label policy) = refl

same_columns : (cs : List ColumnRec) → AllZip SameColumn (map field_of cs) cs
same_columns [] = tt
same_columns (c ∷ cs) = ((refl, same_kind c.ty), same_columns cs)

columns_there : (o : Option Table) → AllZip SameColumn (listed (option_map fields_of o)) (columns_in o)
columns_there None = tt
columns_there (Some t) = same_columns t.columns

pub columns_seen : (C : Cat) (n : List ℕ) → AllZip SameColumn (listed ((named_in C).columns n)) (columns_in (table_named C n))
columns_seen C n = columns_there (table_named C n)

-- the rules by which changes check the types of a mask are those of types
pub refuses_untyped : (C : Cat) → RefusesUntypedMasks stored_rules (named_in C) C
refuses_untyped C on column e h = none_told (mask_types_refused (named_in C) on column e) h

-- ---- what a write leaves

module _ (credentials : CredentialsFit stored_rules) (writes : WritesFit) (known : FitsAreKnown) (masks : SoundMasksFit) (days : StatementsHaveDays) where
  -- a session is ready to write
  ready : (S : State) → IsStanding S → (user : List ℕ) (groups : List (List ℕ)) (day : ℤ) → IsDay day → IsReady stored_rules (named_in S.cat) S.cat (cred S.cat user groups) S.tables day
  ready S h user groups day d = record {
    sound = h.sound;
    tables = h.tables;
    masks = masks stored_rules (named_in S.cat) S.cat h.sound (refuses_untyped S.cat) h.days (columns_seen S.cat);
    knows = known stored_rules (named_in S.cat) S.cat S.tables h.sound h.tables (columns_seen S.cat) (λ n none. ap rows_in (h.nowhere n none));
    credentials = λ ks. credentials S.cat h.sound user groups ks;
    is_day = d;
  }

  -- the rows that are put stand under a table's name
  put_nowhere : (C : Cat) (T : Tables) (v : Version) → HasTable C v.name → ((n : List ℕ) → table_named C n ≡ None → find (is_version n) T ≡ None) → (n : List ℕ) → table_named C n ≡ None → find (is_version n) (put_version v T) ≡ None
  put_nowhere C T v there h n none =
      put_case (λ (x : Version). x.name) (λ (o : Option Version). o ≡ None) v T n
      (λ same. absurd (let both : false ≡ true = sym (ap is_some (subst (λ (m : List ℕ). table_named C m ≡ None) (sym same) none)) ∙ there in cc))
      (h n none)

  answer_stands : (at : ℕ) (S : State) (user : List ℕ) (groups : List (List ℕ)) (day : ℤ) (s : Stmt) → IsDay day → IsSpoken s → IsStanding S
      → (a : Answered) → answered_to S.cat (cred S.cat user groups) S.tables day s ≡ a → (o : Option Version) → a.table ≡ o → IsStanding (left_by at S.stamp (record { cat = S.cat; tables = put_maybe o S.tables; touched = []; reply = a.reply }))
  answer_stands at S user groups day s d spoken h a is None e = record { sound = h.sound; tables = h.tables; days = h.days; nowhere = h.nowhere; one_each = h.one_each }
  answer_stands at S user groups day s d spoken h a is (Some v) e =
      let left : (answered_to S.cat (cred S.cat user groups) S.tables day s).table ≡ Some v = ap (λ (x : Answered). x.table) is ∙ e in
      let w : Wrote S.cat (statement_refused S.cat.tables S.cat.policies s) v = wrote S.cat statement_refused (cred S.cat user groups) S.tables day s v left in
      record {
        sound = h.sound;
        tables = writes stored_rules (named_in S.cat) statement_refused S.cat (cred S.cat user groups) S.tables day s (ready S h user groups day d) (days s spoken) (types_passed S.cat s w.passed) v left;
        days = h.days;
        nowhere = put_nowhere S.cat S.tables v w.there h.nowhere;
        one_each = different_kept (λ (x : Version). x.name) v false S.tables h.one_each;
      }

  stands : (at : ℕ) (S : State) (user : List ℕ) (groups : List (List ℕ)) (day : ℤ) (s : Stmt) → IsDay day → IsSpoken s → IsStanding S
      → IsStanding (left_by at S.stamp (answered S.cat S.tables (answered_to S.cat (cred S.cat user groups) S.tables day s)))
  stands at S user groups day s d spoken h =
      let x = answer_stands at S user groups day s d spoken h (answered_to S.cat (cred S.cat user groups) S.tables day s) refl (answered_to S.cat (cred S.cat user groups) S.tables day s).table refl in
      record { sound = x.sound; tables = x.tables; days = x.days; nowhere = x.nowhere; one_each = x.one_each }

  pub writes_stay : WritesStayStanding
  writes_stay (stmts.Select s) k at S user groups day d spoken h = stands at S user groups day (stmts.Select s) d spoken h
  writes_stay (stmts.Insert i) k at S user groups day d spoken h = stands at S user groups day (stmts.Insert i) d spoken h
  writes_stay (stmts.Update u) k at S user groups day d spoken h = stands at S user groups day (stmts.Update u) d spoken h
  writes_stay (stmts.Delete x) k at S user groups day d spoken h = stands at S user groups day (stmts.Delete x) d spoken h
  writes_stay (stmts.Change c) k at S user groups day d spoken h = absurd k
