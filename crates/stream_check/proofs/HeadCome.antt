-- The value and the head's choice have come.
use Rattle.std.proofs.Common.{◌≡◌, ℕ, [], ◌∷◌, refl, subst, arith}
use Rattle.std.specs.Prelude.{Option, None}
use Rattle.auction_model.specs.Prices.{weight_of}
use Rattle.cert_grammar.specs.Certificate.{CertValue}
use Rattle.cert_grammar.specs.CertText.{as_numbers}
use Rattle.cert_soundness.specs.Tests.{bidders_of, states}
use Rattle.cert_check.specs.declared.failure.Failure.{Failure}
use Rattle.cert_check.specs.Partway.{HoldsTo, IsJudged}
use Rattle.cert_stream.specs.declared.due.NextLine.{NextLine}
use Rattle.cert_stream.specs.declared.due.NextLine.TheVariants.{Den, Value, Choice, Title}
use Rattle.cert_stream.specs.declared.due.Table.TheVariants.{Head}
use Rattle.cert_stream.specs.Rooms.{segment}
use Rattle.stream_check.specs.declared.moment.LineContext.{LineContext}
use Rattle.stream_check.specs.Lines.{IsNext}
use Rattle.stream_check.specs.Moments.{IsAt}
use Rattle.stream_check.specs.Tests.{IsFound}
use Rattle.stream_check.proofs.NextLaws.{at-due, next-due, found-by, found-next}

module _ (at : LineContext) (c : CertValue) (is : IsAt at c) where
  abbrev w : ℕ → ℕ
  w = weight_of at.weights.now

  module _ (due : at.due ≡ Value) where
    -- the room has the denominator
    pub den-there : segment (bidders_of at.book.now) (states at.book.now) Den at.room.now ≡ c.den ∷ []
    den-there = (at-due at c Value due is).known.in_room.den (omega arith)

    -- the room has the value
    pub value-there : segment (bidders_of at.book.now) (states at.book.now) Value at.room.now ≡ c.value ∷ []
    value-there = (at-due at c Value due is).own.whole tt

    -- what comes before the first test holds
    pub value-holds : HoldsTo at.book.now (weight_of at.weights.now) c 1 0
    value-holds = (at-due at c Value due is).known.tested.holds

    -- what fails first in the first test is what is found when the next line is due
    pub value-shows : (next : NextLine) (failed : Option Failure) → IsNext at.book.now c at.due next → IsJudged at.book.now (weight_of at.weights.now) c 2 0 failed
        → IsFound at.book.now (weight_of at.weights.now) c next failed None
    value-shows next failed follows judged =
        found-next at.book.now (weight_of at.weights.now) c Choice next failed None (next-due at c Value next due follows)
        (found-by at.book.now (weight_of at.weights.now) c 2 0 Choice failed None judged (λ holds. record { holds = holds; early = refl; part = tt }))

  module _ (due : at.due ≡ Choice) where
    -- the room has the value
    pub value-known : segment (bidders_of at.book.now) (states at.book.now) Value at.room.now ≡ c.value ∷ []
    value-known = (at-due at c Choice due is).known.in_room.value (omega arith)

    -- the room has the head's choice
    pub choice-there : segment (bidders_of at.book.now) (states at.book.now) Choice at.room.now ≡ as_numbers c.choice
    choice-there = (at-due at c Choice due is).own.whole tt

    -- the first test holds
    pub choice-holds : HoldsTo at.book.now (weight_of at.weights.now) c 2 0
    choice-holds = (at-due at c Choice due is).known.tested.holds

    -- what fails first of the first two tests is what is found when the next line is due
    pub choice-shows : (next : NextLine) (failed : Option Failure) → IsNext at.book.now c at.due next → IsJudged at.book.now
        (weight_of at.weights.now) c 3 0 failed → IsFound at.book.now (weight_of at.weights.now) c next failed None
    choice-shows next failed follows judged =
        found-next at.book.now (weight_of at.weights.now) c (Title Head) next failed None (next-due at c Choice next due follows)
        (found-by at.book.now (weight_of at.weights.now) c 3 0 (Title Head) failed None judged
        (λ holds. record { holds = subst (HoldsTo at.book.now (weight_of at.weights.now) c 3) {x = 0} (omega arith) holds; early = refl; part = tt }))
