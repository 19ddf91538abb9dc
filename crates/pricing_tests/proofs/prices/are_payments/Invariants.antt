use Rattle.std.proofs.Common.{ℕ, ◌<◌, ◌≤ℤ◌, slice_index_or, pos}
use Rattle.pricing_tests.proofs.prices.are_payments.Given as goal

abbrev pub invariant-loop-payment : goal.invariant-loop-payment
invariant-loop-payment l = (k : ℕ) → k < l.payment-index → (pos 0 ≤ℤ slice_index_or l.paid k (pos 0)) × (slice_index_or l.paid k (pos 0) ≤ℤ pos 1000000)
