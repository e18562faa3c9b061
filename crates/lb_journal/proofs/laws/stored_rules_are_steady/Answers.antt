use Rattle.lb_journal.proofs.Steady.{reads, reads_mask, mentions, mask_mentions, stands, stands_mask, relabels, relabels_mask}
use Rattle.lb_journal.proofs.Qualifies.{qualifies, qualifies_mask}
use Rattle.lb_journal.proofs.Wider.{widens, widens_mask}
use Rattle.lb_journal.proofs.laws.stored_rules_are_steady.Goals as goal

pub returns : goal.returns
returns c = record {
  reads = reads;
  reads_mask = reads_mask;
  mentions = mentions;
  mask_mentions = mask_mentions;
  qualifies = qualifies;
  qualifies_mask = qualifies_mask;
  widens = widens;
  widens_mask = widens_mask;
  stands = stands;
  stands_mask = stands_mask;
  relabels = relabels;
  relabels_mask = relabels_mask;
}
