use Rattle.cert_text.specs.CertValues.{cert_value}
use Rattle.cca_commands.proofs.Priced.{has-facts}
use Rattle.cca_commands.proofs.price_text.cert_lines.Goals as goal

pub facts-requires : goal.facts-requires
facts-requires c = record { has = has-facts c.args.book.now c.requires.holds.0 c.args.cert.now c.requires.shape c.requires.holds.1 }

pub outcome_text-requires : goal.outcome_text-requires
outcome_text-requires c = record { facts = (cert_value c.args.cert.now, c.in_ok-facts.ensures) }

pub returns : goal.returns
returns c = c.outcome_text.ensures (cert_value c.args.cert.now) c.in_ok-facts.ensures
