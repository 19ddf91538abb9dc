-- The lemmas on numbers of names.
use Rattle.std.proofs.Common.{◌≡◌, ◌∙◌, ap, subst, arith}
use Rattle.auction_rules.specs.Terms.{Terms}
use Rattle.award_file.specs.Award.{number_of, AreNamedApart}
use Rattle.award_file.proofs.Names.{number-found, number-only}
use Rattle.award_file.proofs.award.Award.number_of.Goals as goal

-- the number that is given is that of the definition
given : (c : goal.After-number_of) → c.number_of.result ≡ number_of c.args.self.now c.args.name.now
given c = c.number_of.ensures ∙ ap (λ (terms : Terms). number_of terms c.args.name.now) c.self.view_is

pub returns-clause-found : goal.returns-clause-found
returns-clause-found c = λ some.
    rw (given c) (number-found c.args.self.now.bidders c.args.name.now (omega (arith, given c)))

pub returns-clause-only : goal.returns-clause-only
returns-clause-only c = λ j low high is.
    let apart = subst (λ (terms : Terms). AreNamedApart terms.bidders) c.self.view_is c.self.invariant.apart in
    given c ∙ number-only c.args.self.now.bidders c.args.name.now j apart low high is
