use Rattle.std.proofs.Common.{length}
use Rattle.choices.proofs.coarse.+put_deep_mask.Given as goal

abbrev pub decreases-put_deep_mask : goal.decreases-put_deep_mask
decreases-put_deep_mask l = length l.lots.now
