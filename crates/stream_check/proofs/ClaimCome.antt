-- What a line has whose tests need the first three.
use Rattle.std.proofs.Common.{◌≡◌, ℕ, suc, ◌<◌, ◌≤◌, List, [], ◌∷◌, inl, inr, refl, sym, subst, arith}
use Rattle.std.specs.Prelude.{ℤ, Option, None, IsTrue}
use Rattle.auction_model.specs.Book.{Book}
use Rattle.auction_model.specs.Prices.{weight_of}
use Rattle.bid_book.specs.Kept.{IsBidBook}
use Rattle.auction_model.specs.Market.{uses}
use Rattle.cert_grammar.specs.Certificate.{CertValue, part_of}
use Rattle.cert_grammar.specs.CertText.{IsChoice, as_numbers}
use Rattle.cert_soundness.specs.Tests.{Asks, C4, IsPart, bidders_of, states}
use Rattle.cert_check.specs.declared.claim.Claim.{Claim}
use Rattle.cert_check.specs.Head.{HeadHolds, IsHead}
use Rattle.cert_check.specs.declared.failure.Failure.{Failure}
use Rattle.cert_check.specs.Partway.{HoldsTo, IsJudged}
use Rattle.cert_check.proofs.HeadLaws.{head-shown}
use Rattle.cert_stream.specs.declared.due.NextLine.{NextLine}
use Rattle.cert_stream.specs.declared.due.NextLine.TheVariants.{Choice, Den, PartChoice, Payments, Rows, Value}
use Rattle.cert_stream.specs.Rooms.{segment}
use Rattle.stream_check.specs.declared.moment.LineContext.{LineContext}
use Rattle.stream_check.specs.ClaimLines.{due_of}
use Rattle.stream_check.specs.declared.judging.claims.ClaimLine.{ClaimLine}
use Rattle.stream_check.specs.declared.judging.claims.ClaimLine.TheVariants as claim
use Rattle.stream_check.specs.InRoom.{fields_come, parts_come}
use Rattle.stream_check.specs.Lines.{IsNext}
use Rattle.stream_check.specs.Moments.{IsAt, IsClaimOf}
use Rattle.stream_check.specs.Tests.{IsFound, IsRowsEnd, test_due}
use Rattle.stream_check.proofs.NextLaws.{at-due, next-due, found-by, found-next, part-choice}

-- the head and its choice have come, and the first four tests are made
record IsLater (due : NextLine) : Type 0 where
  fields : 3 ≤ fields_come due
  tests : 5 ≤ test_due due

later : (line : ClaimLine) → IsLater (due_of line)
later claim.Payments = record { fields = omega arith; tests = omega arith }
later claim.Rows = record { fields = omega arith; tests = omega arith }
later (claim.Row left) = record { fields = omega arith; tests = omega arith }
later (claim.Lowered k) = record { fields = omega arith; tests = omega arith }

-- with which the rows may end
pub ends-claimed : (due : NextLine) → IsRowsEnd due → (line : ClaimLine) × (due ≡ due_of line)
ends-claimed due (inl is) = (claim.Rows, is)
ends-claimed due (inr (left, is)) = (claim.Row left, is)

-- and all parts and the payments have come before it
record IsBehindParts (b : ℕ) (due : NextLine) : Type 0 where
  paid : 4 ≤ fields_come due
  come : suc b ≤ parts_come b due
  place : test_due due ≡ 6

ends-behind : (b : ℕ) (due : NextLine) → IsRowsEnd due → IsBehindParts b due
ends-behind b due (inl is) = subst (IsBehindParts b) (sym is) (record { paid = omega arith; come = omega arith; place = refl })
ends-behind b due (inr (left, is)) = subst (IsBehindParts b) (sym is) (record { paid = omega arith; come = omega arith; place = refl })

module _ (at : LineContext) (c : CertValue) (is : IsAt at c) (line : IsRowsEnd at.due) where
  -- the room has the payments
  pub pay-known : segment (bidders_of at.book.now) (states at.book.now) Payments at.room.now ≡ c.pay
  pay-known = is.known.in_room.pay (ends-behind (bidders_of at.book.now) at.due line).paid

  -- the room has the choice without each winner
  pub part-known : (j : ℕ) → 0 < j → j ≤ bidders_of at.book.now → IsTrue (uses c.choice j) → segment (bidders_of at.book.now) (states at.book.now)
      (PartChoice j) at.room.now ≡ as_numbers (part_of c.withouts j).choice
  part-known j some inside wins = is.known.in_room.parts j some inside (omega (arith, inside, (ends-behind (bidders_of at.book.now) at.due line).come)) wins

module _ (at : LineContext) (c : CertValue) (is : IsAt at c) (line : ClaimLine) (due : at.due ≡ due_of line) where
  here : IsLater at.due
  here = subst IsLater (sym due) (later line)

  -- the room has the denominator
  pub den-there : segment (bidders_of at.book.now) (states at.book.now) Den at.room.now ≡ c.den ∷ []
  den-there = is.known.in_room.den (omega (arith, here.fields))

  -- the room has the value
  pub value-there : segment (bidders_of at.book.now) (states at.book.now) Value at.room.now ≡ c.value ∷ []
  value-there = is.known.in_room.value (omega (arith, here.fields))

  -- the room has the head's choice
  pub choice-there : segment (bidders_of at.book.now) (states at.book.now) Choice at.room.now ≡ as_numbers c.choice
  choice-there = is.known.in_room.choice (omega (arith, here.fields))

  held : (t place : ℕ) → t < 5 → Asks at.book.now (weight_of at.weights.now) c t place
  held t place low = is.known.tested.holds t place (inl (omega (arith, low, here.tests)))

  -- the first three tests hold
  pub head-holds : HeadHolds at.book.now c
  head-holds = record {
    sizes = λ place. (held 1 place (omega arith)).0 refl;
    choice = λ place. (held 2 place (omega arith)).1 refl;
    table =
        λ place. (held 3 place (omega arith)).2 refl;
  }

  -- and the fourth
  pub parts-hold : (place : ℕ) → C4 at.book.now c place
  parts-hold place = (held 4 place (omega arith)).3 refl

  -- so these numbers are those of a claim
  pub claimed : (den value : ℤ) (choice : List ℕ) → IsBidBook at.book.now → c.den ≡ den → c.value ≡ value → c.choice ≡ choice
      → IsHead at.book.now den value choice
  claimed den value choice kept den_is value_is choice_is =
      subst (λ (z : ℤ). IsHead at.book.now z value choice) den_is
      (subst (λ (z : ℤ). IsHead at.book.now c.den z choice) value_is
      (subst (λ (l : List ℕ). IsHead at.book.now c.den c.value l) choice_is (head-shown at.book.now c kept is.kept.choice.0 head-holds)))

-- each winner has a part
pub part-whole : (at : LineContext) (c : CertValue) (is : IsAt at c) (j : ℕ) → 0 < j → j ≤ bidders_of at.book.now → IsTrue (uses c.choice j)
    → IsChoice (bidders_of at.book.now) (part_of c.withouts j).choice
part-whole at c is = part-choice (bidders_of at.book.now) (states at.book.now) c is.kept

-- in the words of the claim
pub parts_of-claim : (at : LineContext) (c : CertValue) (is : IsAt at c) (line : ClaimLine) (due : at.due ≡ due_of line) (a : Claim) → IsClaimOf at a → (j : ℕ) → 0 < j
    → j ≤ bidders_of a.book.now → IsTrue (uses a.choice.now j) → IsPart a.book.now j (part_of c.withouts j)
parts_of-claim at c is line due a claim =
    subst (λ (b : Book). (j : ℕ) → 0 < j → j ≤ bidders_of b → IsTrue (uses a.choice.now j) → IsPart b j (part_of c.withouts j)) (sym claim.book)
    (λ j some inside wins. (parts-hold at c is line due j).part some inside (subst (λ (l : List ℕ). IsTrue (uses l j)) (sym (claim.each c is).choice_is) wins))

module _ (at : LineContext) (c : CertValue) (is : IsAt at c) (due : at.due ≡ Payments) where
  -- the room has the payments, whose line has come
  pub pay-own : segment (bidders_of at.book.now) (states at.book.now) Payments at.room.now ≡ c.pay
  pay-own = (at-due at c Payments due is).own.whole tt

  -- the first four tests hold
  pub pay-holds : HoldsTo at.book.now (weight_of at.weights.now) c 5 0
  pay-holds = (at-due at c Payments due is).known.tested.holds

  -- what fails first of the first five tests is what is found when the next line is due
  pub pay-shows : (next : NextLine) (failed : Option Failure) → IsNext at.book.now c at.due next → IsJudged at.book.now (weight_of at.weights.now) c 6 0 failed
      → IsFound at.book.now (weight_of at.weights.now) c next failed None
  pay-shows next failed follows judged =
      found-next at.book.now (weight_of at.weights.now) c Rows next failed None (next-due at c Payments next due follows)
      (found-by at.book.now (weight_of at.weights.now) c 6 0 Rows failed None judged (λ holds. record { holds = holds; early = refl; part = tt }))
