-- What changes keep beside soundness: the DATE literals of permissions and masks are days, and rows stand under the name of a table alone, once under each.
use Rattle.std.proofs.Common.{◌≡◌, refl, sym, subst, ◌∙◌, ℕ, true, false, not, List, [], ◌∷◌, map, Option, Some, None, Ok, Err}
use Rattle.std.specs.Prelude.{find}
use Rattle.std.specs.List.{AllByRecursion}
use Rattle.std.specs.Str.{bytes_eq}
use Rattle.std.proofs.lemmas.Slice.Eq.{bytes_eq-Decides}
use Rattle.lb_base.specs.declared.key.Key.{Key}
use Rattle.lb_base.specs.declared.key.Key.TheVariants as keys
use Rattle.lb_cat.specs.declared.refusal.Refusal.{Refusal}
use Rattle.lb_cat.specs.declared.refusal.Refusal.TheVariants as refusals
use Rattle.lb_cat.specs.declared.refusal.NeededPrivilege.TheVariants as needed
use Rattle.lb_rows.specs.Lists.{put, without}
use Rattle.lb_rows.specs.Tables.{Tables, Version, is_version, put_version}
use Rattle.lb_cat.specs.Catalog.{Cat, Table, User, table_named, is_table, user_named, put_table}
use Rattle.lb_alter.specs.Named.{AreDifferent}
use Rattle.lb_alter.specs.ChangeGrant.{grants, revokes, taken_from}
use Rattle.lb_alter.specs.Refusing.{Changed, ◌>>◌, when, found, owner, done, alters}
use Rattle.lb_cat.specs.OrRefused.{OrRefused, ◌>>=◌}
use Rattle.lb_alter.proofs.SoundGrants.{different_kept}
use Rattle.lb_alter.proofs.SoundTables.{put_case, found_put, found_without}
use Rattle.lb_alter.proofs.SoundUsers.{all_put, all_filter}
use Rattle.lb_alter.proofs.Untouched.{without_other}
use Rattle.lb_fits.specs.Dated.{StoresDays}

-- the DATE literals of the tables' permissions and masks are days, and rows stand under the tables' names alone, once under each
pub record Kept (ts : List Table) (T : Tables) : Type 0 where
  pub days : AllByRecursion StoresDays ts
  pub nowhere : (n : List ℕ) → find (is_table n) ts ≡ None → find (is_version n) T ≡ None
  pub one_each : AreDifferent (map (λ v. v.name) T)

-- ---- blocks

-- so it is after an accepted statement
pub record LeavesKept (m : OrRefused Changed) : Type 0 where
  pub kept : (d : Changed) → m ≡ Ok d → Kept d.cat.tables d.tables

pub test_kept : (o : Option Refusal) (rest : OrRefused Changed) → (o ≡ None → LeavesKept rest) → LeavesKept (o >> rest)
test_kept None rest h = h refl
test_kept (Some r) rest h = record { kept = λ d e. absurd cc }

pub done_kept : (C : Cat) (T : Tables) (touched : List Key) → Kept C.tables T → LeavesKept (done C T touched)
done_kept C T touched s = record { kept = λ d e. subst Of e s }
  where
    Of : OrRefused Changed → Type 0
    Of (Ok d) = Kept d.cat.tables d.tables
    Of (Err r) = Unit {0}

pub found_kept : {A : Type 0} (n : List ℕ) (o : Option A) (f : A → OrRefused Changed) → ((x : A) → o ≡ Some x → LeavesKept (f x)) → LeavesKept (found n o >>= f)
found_kept n None f h = record { kept = λ d e. absurd cc }
found_kept n (Some x) f h = h x refl

pub made_kept : {A : Type 0} (o : OrRefused A) (f : A → OrRefused Changed) → ((x : A) → LeavesKept (f x)) → LeavesKept (o >>= f)
made_kept (Err r) f h = record { kept = λ d e. absurd cc }
made_kept (Ok x) f h = h x

owns_kept : (user n : List ℕ) (o : Option Table) (f : Table → OrRefused Changed) → ((t : Table) → o ≡ Some t → LeavesKept (f t))
    → LeavesKept ((found n o >>= (λ t. when (not (bytes_eq t.owner user)) (refusals.Privilege needed.Control n) >> Ok t)) >>= f)
owns_kept user n None f h = record { kept = λ d e. absurd cc }
owns_kept user n (Some t) f h =
    elim (bytes_eq t.owner user) as (λ b. LeavesKept ((when (not b) (refusals.Privilege needed.Control n) >> Ok t) >>= f)) [
      | true ↦ h t refl
      | false ↦ record { kept = λ d e. absurd cc }
    ]

pub owner_kept : (C : Cat) (user n : List ℕ) (f : Table → OrRefused Changed) → ((t : Table) → table_named C n ≡ Some t → LeavesKept (f t)) → LeavesKept (owner C user n >>= f)
owner_kept C user n f h = owns_kept user n (table_named C n) f h

-- ---- tables put and dropped

-- a name that is no table's afterwards was none's before, and isn't that of the table that is put
module _ (u : Table) (ts : List Table) (n : List ℕ) where
  other : find (is_table n) (put (is_table u.name) u ts) ≡ None → u.name ≡ n → ⊥
  other none same =
      let there : find (is_table u.name) (put (is_table u.name) u ts) ≡ Some u = found_put (λ (x : Table). x.name) u ts in
      let gone : find (is_table u.name) (put (is_table u.name) u ts) ≡ None = subst (λ (m : List ℕ). find (is_table m) (put (is_table u.name) u ts) ≡ None) (sym same) none in
      let both : Some u ≡ None = sym there ∙ gone in
      absurd cc

  before : find (is_table n) (put (is_table u.name) u ts) ≡ None → find (is_table n) ts ≡ None
  before = put_case (λ (x : Table). x.name) (λ (o : Option Table). o ≡ None → find (is_table n) ts ≡ None) u ts n (λ same none. absurd cc) (λ none. none)

module _ (C : Cat) (T : Tables) (f : Kept C.tables T) where
  -- the record of a table is put
  put_kept : (u : Table) → StoresDays u → Kept (put_table u C).tables T
  put_kept u days = record {
    days = all_put StoresDays (is_table u.name) u C.tables f.days days;
    nowhere = λ n none. f.nowhere n (before u C.tables n none);
    one_each = f.one_each;
  }

  pub alters_kept : (u : Table) → StoresDays u → LeavesKept (alters C T u)
  alters_kept u days = done_kept (put_table u C) T (keys.Table u.name ∷ []) (put_kept u days)

  -- so are its rows
  pub put_both : (u : Table) (v : Version) → u.name ≡ v.name → StoresDays u → Kept (put_table u C).tables (put_version v T)
  put_both u v same days = record {
    days = all_put StoresDays (is_table u.name) u C.tables f.days days;
    nowhere = λ n none. put_case (λ (x : Version). x.name) (λ (o : Option Version). o ≡ None) v T n
        (λ e. absurd (other u C.tables n none (same ∙ e)))
        (f.nowhere n (before u C.tables n none));
    one_each = different_kept (λ (x : Version). x.name) v false T f.one_each;
  }

  -- a table goes with its rows
  pub without_table : (n : List ℕ) → Kept (without (is_table n) C.tables) (without (is_version n) T)
  without_table n = record {
    days = all_filter StoresDays (λ t. not (is_table n t)) C.tables f.days;
    nowhere = λ m none.
        elim (bytes_eq n m) as (λ b. bytes_eq n m ≡ b → find (is_version m) (without (is_version n) T) ≡ None) [
          | true ↦ λ e. subst (λ (k : List ℕ). find (is_version k) (without (is_version n) T) ≡ None) ((bytes_eq-Decides n m).0 e)
              (found_without (λ (x : Version). x.name) n T)
          | false ↦ λ e. subst (λ (o : Option Version). o ≡ None) (sym (without_other (λ (x : Version). x.name) n m T e))
              (f.nowhere m (sym (without_other (λ (x : Table). x.name) n m C.tables e) ∙ none))
        ] refl;
    one_each = different_kept (λ (x : Version). x.name) (record { name = n; rows = [] }) true T f.one_each;
  }

  -- ---- users

  pub grants_kept : (n : List ℕ) (g : User → User) → LeavesKept (grants C T n g)
  grants_kept n g = done_kept _ T (keys.User n ∷ []) f

  pub revokes_kept : (n : List ℕ) (g : User → User) → LeavesKept (revokes C T n g)
  revokes_kept n g =
      elim (user_named C n) as (λ o. LeavesKept (done (taken_from C o g) T (keys.User n ∷ []))) [
        | None ↦ done_kept C T (keys.User n ∷ []) f
        | Some u ↦ done_kept _ T (keys.User n ∷ []) f
      ]
