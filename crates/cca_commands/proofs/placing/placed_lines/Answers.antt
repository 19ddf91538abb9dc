use Rattle.std.proofs.lemmas.Result.{IfOk-weaker}
use Rattle.cca_commands.proofs.placing.placed_lines.Goals as goal

pub returns : goal.returns
returns c = IfOk-weaker c.after_rounds.result _ _ (λ text part. record {
  lines = part.0;
  are_rounds = part.1;
  prices = c.in_ok-prices.prices;
  are_prices = c.in_ok-prices.ensures;
  whole = part.2;
}) c.after_rounds.ensures
