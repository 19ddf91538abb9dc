use Rattle.std.proofs.Common.{◌≡◌, inr, subst}
use Rattle.cca_cli.specs.Reading.{IsStop}
use Rattle.cca_cli.specs.declared.status.Status.TheVariants.{Memory}
use Rattle.cca_commands.proofs.Feeding.{judged-shown}
use Rattle.cca_commands.proofs.checked.judge_cert.Goals as goal

pub read_facts-requires-clause-yes : goal.read_facts-requires-clause-yes
read_facts-requires-clause-yes c =
    let text = c.requires.stands.0 in
    let stands = c.requires.stands.1 in
    let passes = c.in-Ok.ensures.yes text stands in
    (text, stands, (passes.0, passes.1, passes.2))

pub returns-in_ok-facts-in-Ok-clause-judged : goal.returns-in_ok-facts-in-Ok-clause-judged
returns-in_ok-facts-in-Ok-clause-judged c = λ text stands.
    let k = c.args.checker.now in
    judged-shown c.one_cert.ensures k.book.now k.weights.now text c.in_ok-facts-in-Ok.facts (c.in-Ok.ensures.yes text stands)
    (c.in_ok-facts-in-Ok.ensures text stands)

pub returns-in-Err-clause-judged : goal.returns-in-Err-clause-judged
returns-in-Err-clause-judged c = λ text stands. inr (c.in-Err.ensures.stop text stands)

pub returns-in-Err-clause-memory : goal.returns-in-Err-clause-memory
returns-in-Err-clause-memory c = λ memory text stands.
    let same : c.in-Err.status ≡ Memory = cc in
    absurd (subst IsStop same (c.in-Err.ensures.stop text stands).0)
