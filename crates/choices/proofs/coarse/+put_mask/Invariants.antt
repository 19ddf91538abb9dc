use Rattle.std.proofs.Common.{length}
use Rattle.choices.proofs.coarse.+put_mask.Given as goal

abbrev pub decreases-put_mask : goal.decreases-put_mask
decreases-put_mask l = length l.lots.now
