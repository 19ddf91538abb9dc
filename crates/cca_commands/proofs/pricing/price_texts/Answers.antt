use Rattle.std.proofs.lemmas.Result.{IfOk-weaker}
use Rattle.cca_commands.proofs.Priced.{can-print, priced}
use Rattle.cca_commands.proofs.pricing.price_texts.Goals as goal

pub priced_texts-requires-clause-turns : goal.priced_texts-requires-clause-turns
priced_texts-requires-clause-turns c = can-print c.in_ok-priced.priced.cert.choice c.args.weights.now c.in_ok-priced.priced.turns
    c.in_ok-priced.ensures.priced.each_turn

pub returns-clause-done : goal.returns-clause-done
returns-clause-done c = IfOk-weaker c.priced_texts.result _ _ (λ p shown. priced c.args.book.now c.args.weights.now c.args.form c.in_ok-priced.priced
    p.printed p.cert c.in_ok-priced.ensures.priced shown.0 shown.1) c.priced_texts.ensures.done
