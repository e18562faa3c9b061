use Rattle.lb_alter.proofs.Following.{fits_follow}
use Rattle.lb_alter.proofs.laws.fits_follow.Goals as goal

pub returns : goal.returns
returns c = fits_follow
