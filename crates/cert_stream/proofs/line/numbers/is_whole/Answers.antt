use Rattle.std.proofs.Common.{subst, sym, refl}
use Rattle.std.specs.Prelude.{◌↔◌, IsTrue, nat_eq, true}
use Rattle.cert_grammar.specs.Lines.{FitNumbers}
use Rattle.cert_stream.specs.declared.line.form.Form.{Form}
use Rattle.cert_stream.specs.Forms.{numbers_of, MayBegin}
use Rattle.cert_stream.proofs.Following.{nothing_whole, just_whole, just_one, two_whole, two_there}
use Rattle.cert_stream.proofs.line.numbers.is_whole.Goals as goal

pub returns-in-Nothing : goal.returns-in-Nothing
returns-in-Nothing c = λ ns many. subst (λ (f : Form). MayBegin (numbers_of f) ns → IsTrue true ↔ FitNumbers (numbers_of f) ns) (sym c.in-Nothing.is)
    (λ begins. (λ yes. nothing_whole ns begins, λ fit. refl))

pub returns-in-Just : goal.returns-in-Just
returns-in-Just c = λ ns many. subst (λ (f : Form). MayBegin (numbers_of f) ns → IsTrue (nat_eq c.args.count 1) ↔ FitNumbers (numbers_of f) ns)
    (sym c.in-Just.is)
    (λ begins. (λ yes. just_whole c.in-Just.field-0 ns c.args.count many begins yes, λ fit. just_one c.in-Just.field-0 ns c.args.count many fit))

pub returns-in-Both : goal.returns-in-Both
returns-in-Both c = λ ns many. subst (λ (f : Form). MayBegin (numbers_of f) ns → IsTrue (nat_eq c.args.count 2) ↔ FitNumbers (numbers_of f) ns)
    (sym c.in-Both.is)
    (λ begins. (
      λ yes. two_whole c.in-Both.field-0 c.in-Both.field-1 ns c.args.count many begins yes,
      λ fit. two_there c.in-Both.field-0 c.in-Both.field-1 ns c.args.count many fit,
    ))
