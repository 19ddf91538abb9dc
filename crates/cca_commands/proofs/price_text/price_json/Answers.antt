use Rattle.cert_text.specs.CertValues.{cert_value}
use Rattle.cca_commands.proofs.Priced.{can_print-facts, has-facts}
use Rattle.cca_commands.proofs.price_text.price_json.Goals as goal

pub facts-requires : goal.facts-requires
facts-requires c = record { has = has-facts c.args.book.now c.requires.holds.0 c.args.cert.now c.requires.shape c.requires.holds.1 }

pub facts_json-requires-clause-facts : goal.facts_json-requires-clause-facts
facts_json-requires-clause-facts c = (cert_value c.args.cert.now, c.in_ok-facts.ensures)

pub facts_json-requires-clause-turns : goal.facts_json-requires-clause-turns
facts_json-requires-clause-turns c = can_print-facts c.args.book.now (cert_value c.args.cert.now) c.in_ok-facts.facts c.args.turns.now c.in_ok-facts.ensures
    c.requires.turns

pub returns : goal.returns
returns c = c.facts_json.ensures (cert_value c.args.cert.now) c.in_ok-facts.ensures
