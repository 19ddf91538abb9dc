use Rattle.stream_check.proofs.WholeCerts.{has-ended, read-whole}
use Rattle.stream_check.proofs.check.StreamCheck.read_facts.Goals as goal

pub facts_in-requires-clause-some : goal.facts_in-requires-clause-some
facts_in-requires-clause-some c =
    let text = c.requires.yes.0 in
    let stands = c.requires.yes.1 in
    let (cert, states_it, holds) = c.requires.yes.2 in
    let ended = has-ended c.args.self.now c.args.room.now text c.one_cert.ensures c.one_verdict.ensures.not_both cert states_it holds stands in
    let read = read-whole c.args.self.now c.args.room.now text ended stands in
    (read.cert, read.all)

pub returns : goal.returns
returns c = λ text stands.
    let (cert, states_it, holds) = c.requires.yes.2 in
    let ended = has-ended c.args.self.now c.args.room.now c.requires.yes.0 c.one_cert.ensures c.one_verdict.ensures.not_both cert states_it holds
    c.requires.yes.1 in
    let read = read-whole c.args.self.now c.args.room.now text ended stands in
    (read.cert, read.says_it, c.in_ok-facts_in.ensures read.cert read.all)
