-- Where no stamp of what a write depends on moves, it is answered as before.
use Rattle.std.proofs.Common.{◌≡◌, refl, sym, ap, subst, ◌∙◌, ℕ, List, [], ◌∷◌, ◌++◌, map, Option, Some, None}
use Rattle.std.specs.List.{AllByRecursion}
use Rattle.std.proofs.lemmas.Slice.Eq.{bytes_eq-Decides}
use Rattle.lb_base.specs.declared.key.Key.{Key}
use Rattle.lb_base.specs.declared.key.Key.TheVariants as keys
use Rattle.lb_rows.specs.Tables.{Version, rows_in}
use Rattle.lb_cat.specs.declared.cred.Cred.{Cred}
use Rattle.lb_cat.specs.Catalog.{Cat, Policy, is_policy, table_named, policy_named, user_named}
use Rattle.lb_cat.specs.Credentials.{cred}
use Rattle.lb_names.specs.Mentions.{Mentions, in_stmt}
use Rattle.lb_mean.specs.Frame.{Agrees}
use Rattle.lb_mean.specs.Laws.{SameSession, HoldsSame, SameHeld, SameHeldIn, SameHolding}
use Rattle.lb_answer.proofs.Framed.{statements_across}
use Rattle.lb_answer.proofs.Sessions.{sessions_alike}
use Rattle.lb_alter.specs.Deps.{deps, deps_of, tables_for}
use Rattle.lb_alter.specs.Frame.{SameRecord, SameOn}
use Rattle.lb_alter.specs.Sound.{IsSound}
use Rattle.lb_alter.proofs.SoundUsers.{all_follow}
use Rattle.lb_alter.proofs.Steady.{all_once, all_front, all_after, all_mapped, tables_same}
use Rattle.lb_alter.specs.Naming.{statement_refused, stored_rules}
use Rattle.lb_journal.specs.Laws.{SameAt}
use Rattle.lb_journal.specs.Lasting.{SameCredentials, WriteStays, WritesAgain}
use Rattle.lb_journal.proofs.Agreeing.{agree_on, find_passes}
use Rattle.lb_journal.proofs.Answering.{SameTable, mentions_same, rules_agree}
use Rattle.lb_journal.proofs.Mentioned.{all_agree, of_owners, of_calls}
use Rattle.lb_journal.proofs.Writes.{same_held, write_dependencies_last}

-- ---- the sessions of a user whose record stays

module _ (C D : Cat) (user : List ℕ) (groups : List (List ℕ)) (stays : user_named D user ≡ user_named C user) where
  abbrev c : Cred
  c = cred C user groups

  abbrev d : Cred
  d = cred D user groups

  abbrev Alike : List ℕ → Type 0
  Alike p = HoldsSame c d (policy_named C p)

  holds_same : (p : List ℕ) → policy_named D p ≡ policy_named C p → Alike p
  holds_same p same = go (policy_named C p) refl
    where
      go : (o : Option Policy) → policy_named C p ≡ o → HoldsSame c d o
      go None e = tt
      go (Some q) e =
          let is : q.name ≡ p = (bytes_eq-Decides q.name p).0 (find_passes (is_policy p) C.policies q e) in
          sym (same_held C D q.name (subst (λ (n : List ℕ). policy_named D n ≡ policy_named C n) (sym is) same) user groups stays)

  all_holding : IsSound stored_rules C → IsSound stored_rules D → (ms : Mentions) → SameOn (deps_of C ms) C D → Agrees (SameHolding C c d) ms
  all_holding sound sound_D ms same =
      all_agree C (SameHeld C c d) (SameHolding C c d) (SameHeldIn C c d) (λ n. Unit {0}) Alike
      (λ n t. tt) (λ p h. h) (λ p l h. h) tt (λ t h. h) (λ n t h. h) (λ p h. h) (λ p l h. h) sound ms
      (all_follow (λ (n : List ℕ). table_named D n ≡ table_named C n) (λ n. Unit {0}) (λ n e. tt) (tables_for C ms) (tables_same C D ms same))
      (all_follow (λ (p : List ℕ). policy_named D p ≡ policy_named C p) Alike holds_same _ (of_owners C D sound sound_D ms same))
      (all_follow (λ (p : List ℕ). policy_named D p ≡ policy_named C p) Alike holds_same _ (of_calls C D sound sound_D ms same))

same_session : {ks : List Key} {c d : Cred} → SameCredentials ks c d → SameSession c d
same_session h = record { user = sym h.user; groups = sym h.groups; roles = sym h.roles; secadm = sym h.secadm; privileges = sym h.privileges }

-- ---- tables

all_both : (P Q : List ℕ → Type 0) (ns : List (List ℕ)) → AllByRecursion P ns → AllByRecursion Q ns → AllByRecursion (λ (n : List ℕ). P n × Q n) ns
all_both P Q [] g h = tt
all_both P Q (n ∷ ns) g h = ((g.0, h.0), all_both P Q ns g.1 h.1)

pub writes_again : WritesAgain
writes_again J K S T s user groups day replay runs sound sound_then stamps =
    let w : WriteStays S T s user = write_dependencies_last J K S T s user replay runs stamps in
    let P : Key → Type 0 = λ k. SameAt k S T in
    let ns : List (List ℕ) = tables_for S.cat (in_stmt s) in
    let rows : List Key = map (λ n. keys.Rows n) ns in
    let all : AllByRecursion P (deps S.cat s ++ (rows ++ keys.User user ∷ [])) = all_once P _ w.records in
    let rest : AllByRecursion P (rows ++ keys.User user ∷ []) = all_after P (deps S.cat s) _ all in
    let stays : user_named T.cat user ≡ user_named S.cat user = (all_after P rows (keys.User user ∷ []) rest).0.0 in
    let same : SameOn (deps S.cat s) S.cat T.cat = all_follow P (SameRecord S.cat T.cat) (λ k h. h.0) (deps S.cat s) (all_front P (deps S.cat s) _ all) in
    let same_rows : AllByRecursion (λ (n : List ℕ). SameAt (keys.Rows n) S T) ns = all_mapped P (λ n. keys.Rows n) ns (all_front P rows _ rest) in
    let tables : AllByRecursion (SameTable S.cat T.cat S.tables T.tables) ns =
    all_both (λ n. table_named T.cat n ≡ table_named S.cat n) _ ns (tables_same S.cat T.cat (in_stmt s) same)
    (all_follow (λ (n : List ℕ). SameAt (keys.Rows n) S T) _ (λ n h. ap (λ (v : Option Version). rows_in v) (sym h.1)) ns same_rows) in
    sessions_alike statement_refused S.cat (cred S.cat user groups) (cred T.cat user groups) S.tables day s
    (same_session (w.credentials groups))
    (all_holding S.cat T.cat user groups stays sound sound_then (in_stmt s) same)
    ∙ statements_across statement_refused S.cat T.cat (cred T.cat user groups) S.tables T.tables day s
    (mentions_same S.cat T.cat S.tables T.tables sound sound_then (in_stmt s) same tables)
    (rules_agree S.cat T.cat s (agree_on S.cat T.cat sound.folded sound_then.folded (in_stmt s) same))
