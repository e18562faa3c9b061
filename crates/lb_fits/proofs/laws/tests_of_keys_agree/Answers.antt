use Rattle.lb_fits.proofs.KeyTests.{tests_of_keys_agree}
use Rattle.lb_fits.proofs.laws.tests_of_keys_agree.Goals as goal

pub returns : goal.returns
returns c = tests_of_keys_agree
