use Rattle.lb_cat.proofs.Stamping.{stamps_follow}
use Rattle.lb_cat.proofs.laws.stamps_follow_their_records.Goals as goal

pub returns : goal.returns
returns c = stamps_follow
