use Rattle.std.proofs.lemmas.Result.{IfOk-weaker}
use Rattle.place_price.specs.Ones.{ones}
use Rattle.cca_commands.proofs.Priced.{can-print}
use Rattle.cca_commands.proofs.Placed.{placed}
use Rattle.cca_commands.proofs.placing.placed_texts.Goals as goal

pub slot_texts-requires-clause-holds : goal.slot_texts-requires-clause-holds
slot_texts-requires-clause-holds c = let priced = c.in_ok-priced.ensures.cert in priced.holds

pub slot_texts-requires-clause-turns : goal.slot_texts-requires-clause-turns
slot_texts-requires-clause-turns c = can-print c.in_ok-priced.priced.cert.choice (ones c.args.slots.now) c.in_ok-priced.priced.turns
    c.in_ok-priced.ensures.each_turn

pub returns : goal.returns
returns c = IfOk-weaker c.slot_texts.result _ _ (λ p shown. placed c.args.slots.now c.args.rounds c.in_ok-priced.priced.cert
    c.in_ok-priced.priced.turns p.printed p.cert c.in_ok-priced.ensures.shape c.in_ok-priced.ensures.cert c.in_ok-priced.ensures.run
    c.in_ok-priced.ensures.last_turn shown.0 shown.1) c.slot_texts.ensures
