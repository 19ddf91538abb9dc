use Rattle.std.proofs.Common.{◌≡◌, rules}
use Rattle.std.specs.Prelude.{None}
use Rattle.cert_stream.specs.declared.due.NextLine.TheVariants.{Nothing}
use Rattle.cert_stream.proofs.Standing.{stopped, still_reading, not_yet, whole_text}
use Rattle.cert_stream.proofs.Stated.{states_one}
use Rattle.cert_stream.proofs.reader.Reader.finish.Goals as goal

pub returns-in-Some-clause-stops : goal.returns-in-Some-clause-stops
returns-in-Some-clause-stops c = λ room text (items, is).
    let r = c.args.self.now in
    stopped r.shape.bidders r.shape.states r.due r.part r.place r.read room text items r.stop c.in-Some.stop c.in-Some.is is

pub returns-then-ne-clause-stops : goal.returns-then-ne-clause-stops
returns-then-ne-clause-stops c = λ room text (items, is).
    let r = c.args.self.now in
    let none : c.args.self.now.stop ≡ None = search rules in
    let some : c.args.self.now.due ≡ Nothing → ⊥ = search rules in
    let reading = still_reading r.shape.bidders r.shape.states r.due r.part r.place r.read room text items r.stop none is in
    not_yet r.shape.bidders r.shape.states r.due r.part r.place r.read room text items reading some

pub returns-clause-says : goal.returns-clause-says
returns-clause-says c = λ room text (items, is).
    let r = c.args.self.now in
    let none : c.args.self.now.stop ≡ None = search rules in
    let done : c.args.self.now.due ≡ Nothing = search rules in
    let reading = still_reading r.shape.bidders r.shape.states r.due r.part r.place r.read room text items r.stop none is in
    states_one r.shape.bidders r.shape.states text items (whole_text r.shape.bidders r.shape.states r.due r.part r.place r.read room text items reading done)
