-- The set of no bits is that of nobody: all bidders are outside, and all count.
use Rattle.std.specs.Prelude.{◌≡◌, ℕ, Bool, cond, List, ℤ, pos}
use Rattle.std.proofs.Common.{◌∙◌, ap}
use Rattle.auction_model.specs.Market.{sum_after}
use Rattle.slot_places.specs.Board.{Board, nobody, outside, can_place}
use Rattle.slot_places.specs.SetTable.{holds, counts_outside, sum_outside}
use Rattle.slot_places.proofs.SameLaws.{IsSame, AsksBidders, outside-same, place-same}
use Rattle.slot_places.proofs.SetBits.{holds-nobody}
use Rattle.slot_places.proofs.SetLaws.{outside-nobody}
use Rattle.slot_places.proofs.StepLaws.{sum-same}

nobody-same : IsSame (holds 0) nobody
nobody-same i positive = holds-nobody i

-- all bidders are outside the set of no bits
pub nobody-outside : (n : ℕ) → outside (holds 0) n ≡ n
nobody-outside n = outside-same (holds 0) nobody n nobody-same ∙ outside-nobody n

-- all bidders can be placed after the set of no bits just if they can after nobody
pub nobody-place : (b : Board) → AsksBidders b → (c : List ℕ) → can_place b c b.bidders (holds 0) ≡ can_place b c b.bidders nobody
nobody-place b asks c = place-same b asks c b.bidders (holds 0) nobody nobody-same

-- outside the set of no bits a choice counts its whole sum
pub nobody-sum : (counts : ℕ → ℕ → ℤ) (c : List ℕ) → sum_outside (holds 0) counts c ≡ sum_after counts 0 c
nobody-sum counts c = sum-same (counts_outside (holds 0) counts) counts 0 c (λ j i some. ap (λ (t : Bool). cond t (pos 0) (counts j i)) (holds-nobody j))
