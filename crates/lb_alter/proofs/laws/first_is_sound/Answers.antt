use Rattle.std.proofs.Common.{refl, arith}
use Rattle.lb_alter.proofs.laws.first_is_sound.Goals as goal

pub returns : goal.returns
returns c K = record {
  one_each = record { tables = refl; policies = refl; components = refl; users = refl; roles = refl };
  folded = tt;
  sources = tt;
  limits = record { tables = omega arith; columns = tt; policies = tt; components = tt };
  records = record { tables = tt; policies = tt; users = (record { roles = tt; granted = tt; held = tt }, tt) };
  columns = tt;
  label_columns = tt;
  names = record { stored = refl; labels = tt; users = (record { privileges = refl; held = refl }, tt) };
  belonging = tt;
  stored = tt;
  shapes = tt;
  held = (tt, tt);
  entries = (record { privileges = tt; held = tt }, tt);
}
