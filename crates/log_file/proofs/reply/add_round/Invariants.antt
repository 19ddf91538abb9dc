use Rattle.std.proofs.Common.{◌≡◌, ◌++◌, codes, drop}
use Rattle.std.specs.Fmt.{decimal}
use Rattle.line_format.specs.Decimals.{decimals_text}
use Rattle.log_file.proofs.reply.add_round.Given as goal

abbrev pub invariant-loop-price : goal.invariant-loop-price
invariant-loop-price l = l.text ++ decimals_text (drop l.price-index l.prices) ≡ l.fn.text ++ (codes "round " ++ decimal l.round ++ decimals_text l.prices)
