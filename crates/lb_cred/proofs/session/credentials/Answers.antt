use Rattle.std.proofs.Common.{sym, subst}
use Rattle.lb_cat.specs.Stamps.{bare}
use Rattle.lb_alter.specs.Fits.{CredFits}
use Rattle.lb_cred.proofs.session.credentials.Goals as goal

pub returns-clause-fits : goal.returns-clause-fits
returns-clause-fits c K sound ks = subst (CredFits ks (bare c.args.catalog.now)) (sym c.in_ok-cred.ensures) (c.credentials_fit.ensures K (bare c.args.catalog.now) sound c.args.user.now c.args.groups.now ks)
