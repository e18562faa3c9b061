use Rattle.lb_fits.proofs.Masks.{sound_masks_fit}
use Rattle.lb_fits.proofs.laws.sound_masks_fit.Goals as goal

pub returns : goal.returns
returns c = sound_masks_fit c.typed_writes_give_values_of_their_columns.ensures.masks
