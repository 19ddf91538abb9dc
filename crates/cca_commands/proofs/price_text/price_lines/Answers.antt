use Rattle.std.proofs.Common.{arith}
use Rattle.std.proofs.lemmas.Result.{IfOk-weaker}
use Rattle.cca_commands.proofs.price_text.price_lines.Goals as goal

pub after_rounds-requires-clause-few : goal.after_rounds-requires-clause-few
after_rounds-requires-clause-few c = let kept = c.kept.ensures in let shape = c.requires.shape in omega (arith, kept.bidders, shape.bidders_are)

pub returns : goal.returns
returns c = IfOk-weaker c.after_rounds.result _ _ (λ text part. record {
  lines = part.0;
  are_rounds = part.1;
  prices = c.in_ok-prices.prices;
  are_prices = c.in_ok-prices.ensures;
  whole = part.2;
}) c.after_rounds.ensures
