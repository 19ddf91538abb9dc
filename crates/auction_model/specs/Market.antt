-- What the definitions of winners and prices need of an auction: its bidders, how many bids each has, which choices are
-- allowed, and what each bid is worth. A book of bids is one market; another kind of auction can be another.
use Rattle.std.specs.Prelude.{ℕ, suc, ◌-◌, Bool, false, ◌&&◌, ◌||◌, not, nat_lt, ◌==◌, List, [], ◌∷◌, slice_index, ℤ, pos, ◌+ℤ◌}

-- A choice is the list of its numbers, one for each bidder: the number of one of its bids, or 0 for none. Bidders and
-- bids are numbered from 1.
pub record Market : Type 0 where
  -- how many bidders there are
  pub bidders : ℕ
  -- how many bids each bidder has
  pub bids : ℕ → ℕ
  -- the choices that may be taken
  pub allowed : List ℕ → Bool
  -- what a bid is worth, by its bidder and its number; number 0 is worth 0
  pub worth : ℕ → ℕ → ℤ

-- the sum over the bidders after k of what each counts, by its number in the choice
abbrev pub sum_after : (ℕ → ℕ → ℤ) → ℕ → List ℕ → ℤ
sum_after counts k [] = pos 0
sum_after counts k (i ∷ c) = counts (suc k) i +ℤ sum_after counts (suc k) c

-- the value of a choice
abbrev pub value_of : Market → List ℕ → ℤ
value_of m c = sum_after m.worth 0 c

-- of two numbers of one bidder the smaller comes first, and 0 comes last
abbrev pub is_number_before : ℕ → ℕ → Bool
is_number_before i j = nat_lt 0 i && ((j == 0) || nat_lt i j)

-- the order of ties: at the first bidder where they differ, the number of c comes first
abbrev pub is_earlier : List ℕ → List ℕ → Bool
is_earlier [] d = false
is_earlier (i ∷ c) [] = false
is_earlier (i ∷ c) (j ∷ d) = is_number_before i j || ((i == j) && is_earlier c d)

-- the number that the choice gives to bidder j
abbrev pub number_of : List ℕ → ℕ → ℕ
number_of c j = slice_index c (j - 1)

-- the choice uses bidder j
abbrev pub uses : List ℕ → ℕ → Bool
uses c j = not (number_of c j == 0)

-- what the bid that the choice gives to bidder j is worth
abbrev pub worth_in : Market → List ℕ → ℕ → ℤ
worth_in m c j = m.worth j (number_of c j)
