-- The winners of a choice in order, lists with a number for each winner, and sets of winners as bits.
use Rattle.std.specs.Prelude.{ℕ, zero, suc, ◌+◌, ◌-◌, ◌*◌, ◌/◌, ◌%◌, ◌==◌, if◌then◌else◌, Bool, false, ◌&&◌, not, List, [], ◌∷◌, ◌++◌, ℤ, pos, ◌*ℤ◌, int_le}
use Rattle.auction_model.specs.Market.{Market, uses, worth_in}
use Rattle.auction_model.specs.Lowered.{of_bidder}
use Rattle.auction_model.specs.Prices.{Point}

-- how many winners the choice has
abbrev pub winners_in : List ℕ → ℕ
winners_in [] = 0
winners_in (zero ∷ z) = winners_in z
winners_in (suc i ∷ z) = suc (winners_in z)

-- a number for each winner, in order, as a number for each bidder: 0 for losers
abbrev pub for_bidders : List ℕ → List ℤ → List ℤ
for_bidders [] xs = []
for_bidders (zero ∷ z) xs = pos 0 ∷ for_bidders z xs
for_bidders (suc i ∷ z) [] = pos 0 ∷ for_bidders z []
for_bidders (suc i ∷ z) (x ∷ xs) = x ∷ for_bidders z xs

-- a number for each bidder as a number for each winner, in order
abbrev pub for_winners : List ℕ → List ℤ → List ℤ
for_winners [] ys = []
for_winners (zero ∷ z) [] = for_winners z []
for_winners (zero ∷ z) (y ∷ ys) = for_winners z ys
for_winners (suc i ∷ z) [] = pos 0 ∷ for_winners z []
for_winners (suc i ∷ z) (y ∷ ys) = y ∷ for_winners z ys

-- the set of bits has the bidder k + 1; bit i stands for the winner i + 1 in order
abbrev pub has_bit : List ℕ → ℕ → ℕ → Bool
has_bit [] bits k = false
has_bit (zero ∷ z) bits zero = false
has_bit (zero ∷ z) bits (suc k) = has_bit z bits k
has_bit (suc i ∷ z) bits zero = (bits % 2) == 1
has_bit (suc i ∷ z) bits (suc k) = has_bit z (bits / 2) k

-- the bidders of a set of bits
abbrev pub has_member : List ℕ → ℕ → ℕ → Bool
has_member z bits j = has_bit z bits (j - 1)

-- the members among the bidders 1 to n, rising
abbrev pub members_of : (ℕ → Bool) → ℕ → List ℕ
members_of members zero = []
members_of members (suc n) = if members (suc n) then members_of members n ++ suc n ∷ [] else members_of members n

-- the bits of a set of bidders, k bidders being passed
abbrev pub bits_after : List ℕ → (ℕ → Bool) → ℕ → ℕ
bits_after [] s k = 0
bits_after (zero ∷ z) s k = bits_after z s (suc k)
bits_after (suc i ∷ z) s k = (if s (suc k) then 1 else 0) + 2 * bits_after z s (suc k)

-- the winners that the choice f doesn't use and that pay no more than their bid: the set that f gets at the point
abbrev pub idle_row : Market → List ℕ → Point → List ℕ → ℕ → Bool
idle_row m z p f j = uses z j && (not (uses f j) && int_le (of_bidder p.at j) (p.den *ℤ worth_in m z j))
