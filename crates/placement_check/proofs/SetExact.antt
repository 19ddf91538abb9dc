-- Exact tables over sets obey the rules.
use Rattle.std.specs.Prelude.{◌≡◌, ℕ, ◌+◌, ◌-◌, ◌^◌, ◌≤◌, ◌<◌, Bool, true, false, IsTrue, List, replicate, set, ℤ, pos, ◌+ℤ◌, ◌≤ℤ◌}
use Rattle.std.proofs.Common.{sym, ◌∙◌, subst, arith}
use Rattle.std.proofs.lemmas.Int.{ints}
use Rattle.auction_model.specs.Table.{entry_at}
use Rattle.slot_places.specs.Board.{Board, joined}
use Rattle.slot_places.specs.SetTable.{holds, fits_behind, IsSetTable}
use Rattle.slot_places.proofs.SameLaws.{IsSame, AsksBidders, fits-same, sum_outside-same}
use Rattle.slot_places.proofs.SetBits.{holds-joined, holds-everyone, joined-small}
use Rattle.slot_places.proofs.StepLaws.{fits-length, fits-with, sum-set}
use Rattle.slot_places.proofs.WholeLaws.{none-fits, sum-full}
use Rattle.placement_check.specs.PlaceTests.{ObeysSets}

module _ (b : Board) (asks : AsksBidders b) (idle : (s : ℕ → Bool) (j : ℕ) → IsTrue (b.may s j 0)) (counts : ℕ → ℕ → ℤ) (table : List (List ℤ))
    (exact : IsSetTable b counts table) where
  -- a bidder outside with a number that it can be given, and the best choice after the set with it
  with_next : (bits j i : ℕ) → bits < 2 ^ b.bidders → 0 < j → j ≤ b.bidders → holds bits j ≡ false → i ≤ b.bids j → IsTrue (b.may (holds bits) j i)
      → (counts j i +ℤ entry_at table 0 (bits + 2 ^ (j - 1))) ≤ℤ entry_at table 0 bits
  with_next bits j i below some low new known may =
      let more = bits + 2 ^ (j - 1) in
      let same : IsSame (holds more) (joined j (holds bits)) = λ h positive. sym (holds-joined bits j h some new positive) in
      let rest = (exact.exact more (joined-small b.bidders bits j below some low new)).reached in
      let d = rest.0 in
      let behind : IsTrue (fits_behind b (joined j (holds bits)) d) = sym (fits-same b asks (holds more) (joined j (holds bits)) same d) ∙ rest.1 in
      let bound = (exact.exact bits below).bound (set d (j - 1) i) (fits-with b idle counts (holds bits) j some low new d i known may behind) in
      let count = fits-length b (joined j (holds bits)) d behind in
      let sums = sum-set (holds bits) counts 0 d (j - 1) i j (omega (arith, some)) (omega (arith, some, low, count)) new in
      let moved = sum_outside-same counts (holds more) (joined j (holds bits)) same d in
      omega (arith, ints, bound, sums, moved, rest.2)

  -- an exact table obeys the rules, if number 0 counts nothing
  pub set-obeys : ((j : ℕ) → 0 < j → j ≤ b.bidders → counts j 0 ≡ pos 0) → ObeysSets b counts table
  set-obeys none bits below = record {
    last = λ whole.
        let bound = (exact.exact bits below).bound (replicate b.bidders 0) (none-fits b idle counts (holds bits)) in
        let sum = sum-full b idle counts (holds bits) (λ j some low. subst (λ (m : ℕ). holds m j ≡ true) (sym whole) (holds-everyone b.bidders j some low)) in
        omega (arith, ints, bound, sum);
    none = λ j some low new.
        let step = with_next bits j 0 below some low new (omega arith) (idle (holds bits) j) in
        let zero_counts = none j some low in
        omega (arith, ints, step, zero_counts);
    bid = λ j i some low new positive known may. with_next bits j i below some low new known may;
  }

-- rules for other worths that are the same at each bid
pub sets-same : (b : Board) (v w : ℕ → ℕ → ℤ) (table : List (List ℤ)) → ((j i : ℕ) → 0 < j → j ≤ b.bidders → 0 < i → v j i ≡ w j i) → ObeysSets b v table
    → ObeysSets b w table
sets-same b v w table same rules bits below = record {
  last = (rules bits below).last;
  none = (rules bits below).none;
  bid = λ j i some low new positive known may. let r = (rules bits below).bid j i some low new positive known may in let e = same j i some low positive in
      omega (arith, ints, r, e);
}
