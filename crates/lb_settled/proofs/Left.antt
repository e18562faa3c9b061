-- From what the definitions say of a change, what it leaves.
use Rattle.std.proofs.Common.{sym, subst, ◌∙◌, ap, ℕ, List}
use Rattle.lb_stmt.specs.declared.change.Change.{Change}
use Rattle.lb_cat.specs.Keys.{has_key}
use Rattle.lb_cat.specs.Stamps.{Kept, bare}
use Rattle.lb_rows.specs.Tables.{Tables}
use Rattle.lb_alter.specs.Frame.{SameRecord, SameRows, UntouchedStays}
use Rattle.lb_alter.specs.Laws.{StaysSound}
use Rattle.lb_alter.specs.Naming.{stored_rules}
use Rattle.lb_alter.specs.Refusing.{Changed}
use Rattle.lb_alter.specs.Sound.{IsSound}
use Rattle.lb_alter.specs.Steady.{IsSteady}
use Rattle.lb_changed.specs.declared.changed.Changed.{Changed as Made}
use Rattle.lb_changed.specs.Made.{IsMade}
use Rattle.lb_journal.specs.Rules.{changed}
use Rattle.lb_settled.specs.Leaves.{Leaves}

module _ (untouched : UntouchedStays stored_rules) (stays : StaysSound stored_rules) (steady : IsSteady stored_rules) where
  -- a change that is made as the definitions say
  pub leaves : (K : Kept) (T : Tables) (user : List ℕ) (s : Change) (m : Made) → IsSound stored_rules (bare K) → IsMade K T (changed (bare K) T user s) m → Leaves K T user s m
  leaves K T user s m h made =
      let said : Changed = changed (bare K) T user s in
      record {
        made = made;
        record_stays = λ k e. subst (λ C. SameRecord (bare K) C k) (sym made.cat) (untouched (bare K) T user s k (ap (has_key k) (sym made.touched) ∙ e)).0;
        rows_stay = λ k e. subst (λ U. SameRows T U k) (sym made.tables) (untouched (bare K) T user s k (ap (has_key k) (sym made.touched) ∙ e)).1;
        sound = λ read. subst (IsSound stored_rules) (sym made.cat) (stays steady (bare K) T user s read h);
      }
