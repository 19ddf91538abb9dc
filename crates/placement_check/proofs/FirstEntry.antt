-- The first entry of an exact table, that of nobody, is the greatest sum of a placed choice.
use Rattle.std.specs.Prelude.{ℕ, suc, ◌+◌, ◌<◌, IsTrue, List, ℤ, ◌≤ℤ◌}
use Rattle.std.proofs.Common.{sym, ◌∙◌, subst}
use Rattle.std.proofs.lemmas.Bool.{false≢true, and_parts, and_from}
use Rattle.auction_model.specs.Greatest.{IsGreatestValue}
use Rattle.auction_model.specs.Market.{sum_after}
use Rattle.auction_model.specs.Prices.{allowed_without}
use Rattle.auction_model.specs.Table.{entry_at}
use Rattle.auction_model.proofs.TableLaws.{IsGreatestValue-same}
use Rattle.slot_places.specs.Board.{Board, nobody, is_known, can_place, is_placed, board_of, board_without, market_of_slots}
use Rattle.slot_places.specs.SetTable.{holds, fits_behind, IsSetTable}
use Rattle.slot_places.specs.Slots.{SlotList}
use Rattle.slot_places.proofs.PlainSearch.{placed-without}
use Rattle.slot_places.proofs.SameLaws.{AsksBidders, slots-ask}
use Rattle.slot_places.proofs.SetBits.{holds-nobody, power-positive}
use Rattle.slot_places.proofs.StepLaws.{fits-says, fits-from, idle-from}
use Rattle.placement_check.proofs.Nobody.{nobody-outside, nobody-place, nobody-sum}

module _ (b : Board) (asks : AsksBidders b) where
  placed-fits : (c : List ℕ) → IsTrue (is_placed b c) → IsTrue (fits_behind b (holds 0) c)
  placed-fits c t =
      let p = and_parts (is_known b c) (can_place b c b.bidders nobody) t in
      fits-from b (holds 0) c (record {
        known = p.0;
        idle = idle-from (holds 0) 0 c (λ i inside in_set. absurd (false≢true (sym (holds-nobody (suc (0 + i))) ∙ in_set)));
        place = subst (λ (n : ℕ). IsTrue (can_place b c n (holds 0))) (sym (nobody-outside b.bidders)) (nobody-place b asks c ∙ p.1);
      })

  fits-placed : (c : List ℕ) → IsTrue (fits_behind b (holds 0) c) → IsTrue (is_placed b c)
  fits-placed c t =
      let f = fits-says b (holds 0) c t in
      and_from (is_known b c) (can_place b c b.bidders nobody) f.known
      (sym (nobody-place b asks c) ∙ subst (λ (n : ℕ). IsTrue (can_place b c n (holds 0))) (nobody-outside b.bidders) f.place)

  -- the first entry of an exact table is the greatest sum of a placed choice
  pub first-entry : (counts : ℕ → ℕ → ℤ) (table : List (List ℤ)) → IsSetTable b counts table → IsGreatestValue (is_placed b) (sum_after counts 0)
      (entry_at table 0 0)
  first-entry counts table exact =
      let e = exact.exact 0 (power-positive b.bidders) in
      record {
        reached = (e.reached.0, fits-placed e.reached.0 e.reached.1, sym (nobody-sum counts e.reached.0) ∙ e.reached.2);
        bound = λ c t. subst (λ (x : ℤ). x ≤ℤ entry_at table 0 0) (nobody-sum counts c) (e.bound c (placed-fits c t));
      }

-- the first entry of an exact table of slots is the greatest sum of an allowed choice
pub whole-entry : (slots : SlotList) (counts : ℕ → ℕ → ℤ) (table : List (List ℤ)) → IsSetTable (board_of slots) counts table
    → IsGreatestValue (market_of_slots slots).allowed (sum_after counts 0) (entry_at table 0 0)
whole-entry slots = first-entry (board_of slots) (slots-ask slots 0)

-- without a bidder's bids it is the greatest sum of an allowed choice that doesn't use the bidder
pub without-entry : (slots : SlotList) (j : ℕ) (counts : ℕ → ℕ → ℤ) (table : List (List ℤ)) → 0 < j → IsSetTable (board_without slots j) counts table
    → IsGreatestValue (allowed_without (market_of_slots slots) j) (sum_after counts 0) (entry_at table 0 0)
without-entry slots j counts table some exact =
    IsGreatestValue-same (is_placed (board_without slots j)) (allowed_without (market_of_slots slots) j) (sum_after counts 0) (entry_at table 0 0)
    (λ c. placed-without slots j c some)
    (first-entry (board_without slots j) (slots-ask slots j) counts table exact)
