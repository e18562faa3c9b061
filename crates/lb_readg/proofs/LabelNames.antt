-- Names of labels: a policy's name and a label's.
use Rattle.std.proofs.Common.{Bool, false, ℕ, List, [], refl}
use Rattle.lb_stmt.specs.declared.change.LabelName.{LabelName}
use Rattle.lb_tok.specs.declared.kind.Kind.TheVariants as kinds
use Rattle.lb_tok.specs.Kinds.{only, names}
use Rattle.lb_tok.specs.Form.{Lang, After, Made}
use Rattle.lb_tok.specs.Grammar.{IsName}
use Rattle.lb_tok.specs.Changes.{IsLabelName}
use Rattle.lb_readt.proofs.Combined.{IsReaderOf, then_reads, wide, made_reads, after_reads}
use Rattle.lb_readt.proofs.Tokens.{name_reads}
use Rattle.lb_readg.specs.Granting.{label_on, label_name_at}

abbrev pub LabelOn : List ℕ → Lang LabelName
LabelOn p = After kinds.Dot (Made (λ l. record { policy = p; label = l }) IsName)

pub label_on_reads : {b : Bool} {d : ℕ} (p : List ℕ) → IsReaderOf b d (label_on p) (LabelOn p) false (only kinds.Dot) []
unfolding label_on
label_on_reads p = after_reads kinds.Dot refl (made_reads (λ l. record { policy = p; label = l }) name_reads)

pub label_name_reads : {b : Bool} {d : ℕ} → IsReaderOf b d label_name_at IsLabelName false names []
unfolding label_name_at
label_name_reads = wide _ _ refl refl refl (then_reads name_reads label_on_reads refl)
