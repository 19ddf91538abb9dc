-- In a table over sets that obeys the rules no entry is below 0 or above the first, and no bid that can be given is worth more.
use Rattle.std.specs.Prelude.{◌≡◌, ℕ, zero, suc, ◌+◌, ◌-◌, ◌^◌, ◌≤◌, ◌<◌, false, IsTrue, List, ℤ, pos, ◌≤ℤ◌, refl}
use Rattle.std.proofs.Common.{inl, inr, sym, subst, arith}
use Rattle.std.proofs.lemmas.Bool.{cases_lt}
use Rattle.std.proofs.lemmas.Int.{ints}
use native.Mathlib.Nat.{pow-suc}
use Rattle.auction_model.specs.Table.{entry_at}
use Rattle.slot_places.specs.Board.{Board, joined, outside}
use Rattle.slot_places.specs.SetTable.{holds}
use Rattle.slot_places.proofs.SameLaws.{IsSame, outside-same}
use Rattle.slot_places.proofs.SetBits.{holds-joined, holds-within, joined-small}
use Rattle.slot_places.proofs.SetLaws.{outside-joined, outside-some}
use Rattle.placement_check.specs.PlaceTests.{ObeysSets}
use Rattle.placement_check.proofs.SetBounds.{all-inside}

module _ (b : Board) (worth : ℕ → ℕ → ℤ) (table : List (List ℤ)) (rules : ObeysSets b worth table) where
  -- from the set of all bidders to sets with more outside
  least : (left bits : ℕ) → bits < 2 ^ b.bidders → outside (holds bits) b.bidders ≡ left → pos 0 ≤ℤ entry_at table 0 bits
  least zero bits below none = (rules bits below).last (all-inside b.bidders bits below none)
  least (suc left) bits below some =
      let q = outside-some (holds bits) b.bidders (omega (arith, some)) in
      let j = q.0 in
      let more = bits + 2 ^ (j - 1) in
      let fewer = outside-joined j (holds bits) b.bidders q.1 q.2 q.3 in
      let same : IsSame (joined j (holds bits)) (holds more) = λ i positive. holds-joined bits j i q.1 q.3 positive in
      let count = outside-same (joined j (holds bits)) (holds more) b.bidders same in
      let rest : pos 0 ≤ℤ entry_at table 0 more = least left more (joined-small b.bidders bits j below q.1 q.2 q.3) (omega (arith, some, fewer, count)) in
      let step = (rules bits below).none j q.1 q.2 q.3 in
      omega (arith, ints, rest, step)

  -- no entry is below 0
  pub entry-least : (bits : ℕ) → bits < 2 ^ b.bidders → pos 0 ≤ℤ entry_at table 0 bits
  entry-least bits below = least (outside (holds bits) b.bidders) bits below refl

  -- from the sets of the first k bidders to those of one more
  most : (k bits : ℕ) → k ≤ b.bidders → bits < 2 ^ k → bits < 2 ^ b.bidders → entry_at table 0 bits ≤ℤ entry_at table 0 0
  most zero bits le low below =
      let none : bits ≡ 0 = omega (arith, low) in
      subst (λ (n : ℕ). entry_at table 0 n ≤ℤ entry_at table 0 0) (sym none) (omega (arith, ints))
  most (suc k) bits le low below =
      elim (cases_lt bits (2 ^ k)) [
        | inl first ↦ most k bits (omega (arith, le)) first below
        | inr last ↦ (
            let rest = bits - 2 ^ k in
            let twice = pow-suc 2 k in
            let small : rest < 2 ^ k = omega (arith, low, twice, last) in
            let inside : rest < 2 ^ b.bidders = omega (arith, below) in
            let back : suc k - 1 ≡ k = omega arith in
            let whole : rest + 2 ^ (suc k - 1) ≡ bits = subst (λ (n : ℕ). rest + 2 ^ n ≡ bits) (sym back) (omega (arith, last)) in
            let step : entry_at table 0 bits ≤ℤ entry_at table 0 rest =
            subst (λ (n : ℕ). entry_at table 0 n ≤ℤ entry_at table 0 rest) whole
            ((rules rest inside).none (suc k) (omega arith) le (holds-within rest k (suc k) small (omega arith))) in
            let before : entry_at table 0 rest ≤ℤ entry_at table 0 0 = most k rest (omega (arith, le)) small inside in
            omega (arith, ints, step, before))
      ]

  -- no entry is above the first
  pub entry-most : (bits : ℕ) → bits < 2 ^ b.bidders → entry_at table 0 bits ≤ℤ entry_at table 0 0
  entry-most bits below = most b.bidders bits (omega arith) below below

  -- no bid that can be given after a set is worth more than the first entry
  pub worth-most : (bits j i : ℕ) → bits < 2 ^ b.bidders → 0 < j → j ≤ b.bidders → holds bits j ≡ false → 0 < i → i ≤ b.bids j
      → IsTrue (b.may (holds bits) j i) → worth j i ≤ℤ entry_at table 0 0
  worth-most bits j i below some low new positive known may =
      let step = (rules bits below).bid j i some low new positive known may in
      let rest = entry-least (bits + 2 ^ (j - 1)) (joined-small b.bidders bits j below some low new) in
      let top = entry-most bits below in
      omega (arith, ints, step, rest, top)
