use Rattle.std.proofs.Common.{◌≡◌, ◌∙◌, ◌≤◌, ℕ, List, length, ap, arith}
use Rattle.std.specs.Prelude.{ℤ}
use Rattle.cert_grammar.proofs.Written.{long_numbers}
use Rattle.stream_check.proofs.room.choice_in.Goals as goal

pub of-requires-clause-few : goal.of-requires-clause-few
of-requires-clause-few c =
    let choice = c.requires.choice in
    let long = ap (λ (l : List ℤ). length l) (c.numbers_in.ensures ∙ choice.1) ∙ long_numbers choice.0 ∙ choice.2.0 in
    omega (arith, c.kept.ensures.bidders, long)

pub of-requires-clause-numbers : goal.of-requires-clause-numbers
of-requires-clause-numbers c = (c.requires.choice.0, c.numbers_in.ensures ∙ c.requires.choice.1, c.requires.choice.2.1)

pub returns-clause-choice : goal.returns-clause-choice
returns-clause-choice c = λ ns is. c.of.ensures ns (c.numbers_in.ensures ∙ is)

pub returns-clause-count : goal.returns-clause-count
returns-clause-count c = ap (λ (l : List ℕ). length l) (c.of.ensures c.requires.choice.0 (c.numbers_in.ensures ∙ c.requires.choice.1)) ∙ c.requires.choice.2.0
