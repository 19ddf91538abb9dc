use Rattle.std.proofs.Common.{List, ℕ, sym, subst}
use Rattle.cert_grammar.specs.CertText.{IsChoice}
use Rattle.cert_text.specs.Readers.{LeadsChosen}
use Rattle.cert_text.proofs.read.fields.take_choice.Goals as goal

pub returns-clause-leads : goal.returns-clause-leads
returns-clause-leads c =
    subst (λ (ns : List ℕ). LeadsChosen c.args.bytes.now c.args.place c.args.bidders c.in_ok-read.read.next ns) (sym c.new.ensures) c.in_ok-read.ensures.leads

pub returns-clause-choice : goal.returns-clause-choice
returns-clause-choice c = subst (IsChoice c.args.bidders) (sym c.new.ensures) c.in_ok-read.ensures.numbers
