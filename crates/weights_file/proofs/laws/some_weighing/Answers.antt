use Rattle.std.proofs.Common.{length}
use Rattle.line_format.proofs.SomeAnswer.{some_answer}
use Rattle.auction_model.specs.Prices.{AreWeights}
use Rattle.weights_file.specs.Stages.{Step, excess}
use Rattle.weights_file.specs.WeightsForm.{lines}
use Rattle.weights_file.proofs.Reading.{IsSound, begin, finish, reads}
use Rattle.weights_file.proofs.WeightsDecided.{ends, leads}
use Rattle.weights_file.proofs.laws.some_weighing.Goals as goal

pub returns : goal.returns
returns c = λ book bytes rules.
    some_answer (IsSound book rules) (Step book) excess begin finish (AreWeights (length book.bidders)) (lines book) (reads book rules)
    (leads book rules) ends bytes
