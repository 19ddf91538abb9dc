use Rattle.std.proofs.Common.{codes}
use Rattle.std.specs.Fmt.{decimal}
use Rattle.line_format.specs.Decimals.{decimals_text}
use Rattle.log_file.proofs.ReplyLaws.{regroup}
use Rattle.log_file.proofs.reply.add_round.Goals as goal

pub loop-price-init : goal.loop-price-init
loop-price-init c = regroup c.args.text.now (codes "round ") (decimal c.args.round) (decimals_text c.args.prices.now) c.add.new.self c.add_decimal.new.text
    c.in_ok-add.ensures c.in_ok-add_decimal.ensures
