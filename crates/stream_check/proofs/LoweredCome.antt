-- What the lowered table has when a line of it has come.
use Rattle.std.proofs.Common.{◌≡◌, ℕ, zero, suc, ◌+◌, ◌*◌, ◌<◌, ◌≤◌, List, [], refl, sym, ap, subst, ◌∙◌, arith}
use Rattle.std.specs.Prelude.{ℤ, ◌≤ℤ◌, ◌↔◌, Bool, IsTrue, slice_index_or}
use Rattle.auction_model.specs.Book.{Book}
use Rattle.auction_model.specs.Lowered.{of_bidder}
use Rattle.auction_model.specs.Prices.{everyone, sum_over, weight_of}
use Rattle.auction_model.specs.Table.{entry_at}
use Rattle.cert_grammar.specs.Certificate.{CertValue}
use Rattle.cert_soundness.specs.Tests.{Asks, bidders_of, full, lowered_net, states}
use Rattle.cert_check.specs.Partway.{IsLate}
use Rattle.table_check.specs.Worths.{worth_with}
use Rattle.cert_check.specs.Gains.{gain_of}
use Rattle.cert_check.specs.declared.claim.Claim.{Claim}
use Rattle.cert_check.proofs.LoweredLines.{top-C9}
use Rattle.cert_check.proofs.Worths.{lowered-worth}
use Rattle.cert_stream.specs.declared.due.NextLine.TheVariants.{Payments, Entries}
use Rattle.cert_stream.specs.declared.due.Table.TheVariants.{Lowered}
use Rattle.cert_stream.specs.Rooms.{segment}
use Rattle.stream_check.specs.declared.moment.LineContext.{LineContext}
use Rattle.stream_check.specs.Moments.{IsAt, IsClaimOf}
use Rattle.stream_check.specs.Tests.{one_of}
use Rattle.stream_check.proofs.NextLaws.{at-due}
use Rattle.stream_check.proofs.TableCome.{lowered-late}

module _ (at : LineContext) (c : CertValue) (is : IsAt at c) (k : ℕ) (due : at.due ≡ Entries Lowered k) where
  -- the room has the payments
  pub pay-there : segment (bidders_of at.book.now) (states at.book.now) Payments at.room.now ≡ c.pay
  pay-there = (at-due at c (Entries Lowered k) due is).known.in_room.pay (omega arith)

  -- the room has line k of the lowered table
  pub line-there : segment (bidders_of at.book.now) (states at.book.now) (Entries Lowered k) at.room.now ≡ slice_index_or c.lowered k []
  line-there = (at-due at c (Entries Lowered k) due is).own.whole tt

  -- the worths are those of the lowered table
  pub worths-are : (a : Claim) (den : ℤ) (pay gains : List ℤ) → IsClaimOf at a → den ≡ a.den → pay ≡ c.pay
      → ((j : ℕ) → 0 < j → j ≤ bidders_of a.book.now → of_bidder gains j ≡ gain_of a.book.now a.den a.choice.now pay j)
      → (j i : ℕ) → 0 < j → j ≤ bidders_of at.book.now → worth_with at.book.now den gains j i ≡ lowered_net at.book.now c j i
  worths-are a den pay gains claim den_is pay_is are j i some inside =
      let of = claim.each c is in
      let own : (j : ℕ) → 0 < j → j ≤ bidders_of at.book.now → of_bidder gains j ≡ gain_of at.book.now c.den c.choice c.pay j =
      rw (of.den_is, of.choice_is, sym pay_is) (subst (λ (b : Book). (j : ℕ) → 0 < j → j ≤ bidders_of b
      → of_bidder gains j ≡ gain_of b a.den a.choice.now pay j) claim.book are) in
      ap (λ (z : ℤ). worth_with at.book.now z gains j i) (den_is ∙ sym of.den_is) ∙ lowered-worth at.book.now c gains own j i some inside

  -- after line 0 nothing more is found early
  pub late-one : (k ≡ 0 → ⊥) → IsLate at.book.now (weight_of at.weights.now) c 9 ((bidders_of at.book.now + 1) * states at.book.now) 1 at.late
  late-one some = one k some (lowered-late at c is k due)
    where
      one : (k : ℕ) → (k ≡ 0 → ⊥) → IsLate at.book.now (weight_of at.weights.now) c 9 ((bidders_of at.book.now + 1) * states at.book.now) (one_of k) at.late
          → IsLate at.book.now (weight_of at.weights.now) c 9 ((bidders_of at.book.now + 1) * states at.book.now) 1 at.late
      one zero some late = absurd (some refl)
      one (suc k) some late = late

-- line 0 against the sum of the payments
pub keeps-sum : (book : Book) (w : ℕ → ℕ) (c : CertValue) (number most : ℤ) (b : Bool) → number ≡ entry_at c.lowered 0 (full book)
    → most ≡ sum_over everyone (of_bidder c.pay) (bidders_of book) → (IsTrue b ↔ (number ≤ℤ most)) → IsTrue b ↔ Asks book w c 9
    ((bidders_of book + 1) * states book + 0)
keeps-sum book w c number most b is most_is test =
    let low = subst (λ (z : ℤ). IsTrue b ↔ (z ≤ℤ sum_over everyone (of_bidder c.pay) (bidders_of book))) is
    (subst (λ (z : ℤ). IsTrue b ↔ (number ≤ℤ z)) most_is test) in
    (λ t. (top-C9 book w c).0 (low.0 t), λ asks. low.1 ((top-C9 book w c).1 asks))
