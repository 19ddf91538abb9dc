-- Each clause is a lemma on packages.
use Rattle.auction_model.proofs.PackageTestLaws.{comes-is_before, first_over-within, is_before-comes, is_same-refl, is_same-true, within-first_over}
use Rattle.auction_rules.proofs.package_tests.Goals as goal

pub returns-clause-same : goal.returns-clause-same
returns-clause-same c = is_same-true

pub returns-clause-is_same : goal.returns-clause-is_same
returns-clause-is_same c = is_same-refl

pub returns-clause-before : goal.returns-clause-before
returns-clause-before c = is_before-comes

pub returns-clause-comes : goal.returns-clause-comes
returns-clause-comes c = comes-is_before

pub returns-clause-within : goal.returns-clause-within
returns-clause-within c = within-first_over

pub returns-clause-none_over : goal.returns-clause-none_over
returns-clause-none_over c = first_over-within
