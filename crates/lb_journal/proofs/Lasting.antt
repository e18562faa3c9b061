-- A plan that is right stays right as long as no stamp of what its statement depends on moves.
use Rattle.std.proofs.Common.{◌≡◌, sym, subst, ◌∙◌, List, [], ◌∷◌}
use Rattle.lb_base.specs.declared.key.Key.{Key}
use Rattle.lb_base.specs.declared.key.Key.TheVariants as keys
use Rattle.lb_stmt.specs.declared.write.Stmt.{Stmt}
use Rattle.lb_cat.specs.Catalog.{Cat}
use Rattle.lb_alter.specs.Deps.{deps}
use Rattle.lb_alter.specs.Frame.{SameRecord, SameOn}
use Rattle.lb_alter.specs.Naming.{stored_rules}
use Rattle.lb_alter.proofs.Following.{fits_follow}
use Rattle.lb_alter.proofs.Steady.{deps_stay}
use Rattle.lb_alter.specs.Sound.{IsSound}
use Rattle.lb_journal.specs.State.{State}
use Rattle.lb_journal.specs.Laws.{SameAt}
use Rattle.lb_journal.specs.Engine.{Meaning, Condition, RightFor, RightGives}
use Rattle.lb_journal.specs.Lasting.{SameStamps, RightLasts}
use Rattle.lb_journal.proofs.Answering.{answer_stays}
use Rattle.lb_journal.proofs.Stamps.{same_record}

same_records : (S T : State) (ks : List Key) → ((k : Key) → T.stamp k ≡ S.stamp k → SameAt k S T) → SameStamps ks S T → SameOn ks S.cat T.cat
same_records S T [] f e = tt
same_records S T (k ∷ ks) f e = ((f k e.0).0, same_records S T ks f e.1)

-- from one catalogue to another one with the same records
carried : {P : Type 0} (means : Meaning P) (takes : Condition P) → (p : P) (s : Stmt) (C D : Cat) → IsSound stored_rules C → IsSound stored_rules D → SameOn (deps C s) C D → RightFor means takes p C s → RightFor means takes p D s
unfolding RightFor
carried means takes p s C D sound_C sound_D same right c T day creds tables is_day =
    let moved = fits_follow stored_rules C D s sound_C same in
    let r = right c T day (moved.credentials c creds) (moved.rows T tables) is_day in
    (r.0, r.1 ∙ answer_stays C D c T day s sound_C sound_D same)

record_turned : (C D : Cat) (k : Key) → SameRecord C D k → SameRecord D C k
record_turned C D (keys.Table n) e = sym e
record_turned C D (keys.Rows n) e = e
record_turned C D (keys.Policy n) e = sym e
record_turned C D (keys.Component n) e = sym e
record_turned C D (keys.User n) e = sym e

records_turned : (C D : Cat) (ks : List Key) → SameOn ks C D → SameOn ks D C
records_turned C D [] e = tt
records_turned C D (k ∷ ks) e = (record_turned C D k e.0, records_turned C D ks e.1)

pub right_lasts : {P : Type 0} (means : Meaning P) (takes : Condition P) → RightLasts means takes
right_lasts means takes p s J K S T replay sound sound_then runs stamps =
    let same : SameOn (deps S.cat s) S.cat T.cat = same_records S T (deps S.cat s) (λ k e. same_record J K S T k replay runs e) stamps in
    let turned : SameOn (deps T.cat s) T.cat S.cat = subst (λ (ks : List Key). SameOn ks T.cat S.cat) (sym (deps_stay S.cat T.cat s same)) (records_turned S.cat T.cat (deps S.cat s) same) in
    (carried means takes p s S.cat T.cat sound sound_then same, carried means takes p s T.cat S.cat sound_then sound turned)

pub right_gives : {P : Type 0} (means : Meaning P) (takes : Condition P) → RightGives means takes
unfolding RightFor
right_gives means takes p C s c T day right creds tables is_day = right c T day creds tables is_day
