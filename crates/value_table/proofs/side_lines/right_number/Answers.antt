use Rattle.value_table.proofs.LineLaws.{zeros-part}
use Rattle.value_table.proofs.side_lines.right_number.Goals as goal

pub plain_number-requires-clause-zeros : goal.plain_number-requires-clause-zeros
plain_number-requires-clause-zeros c = λ k. zeros-part 16 c.bidders.result k
