-- Two tests that say the same of all bidders are one set.
use Rattle.std.specs.Prelude.{◌≡◌, ℕ, zero, suc, ◌+◌, ◌<◌, Bool, cond, ◌&&◌, ◌||◌, not, ◌==◌, List, [], ◌∷◌, length, refl, ℤ, pos}
use Rattle.std.proofs.Common.{◌∙◌, ap, arith}
use Rattle.auction_model.specs.Market.{number_of}
use Rattle.auction_model.specs.Lowered.{sum_to}
use Rattle.auction_model.proofs.PlainLaws.{IsFirstGreatest-same}
use Rattle.slot_places.specs.Slots.{SlotList, width_of}
use Rattle.slot_places.specs.Board.{Board, joined, some_of, outside, is_known, can_place, start_after, starts_at, board_without}
use Rattle.slot_places.specs.SetTable.{is_idle_in, fits_behind, counts_outside, sum_outside, IsSetBest}
use Rattle.slot_places.proofs.StepLaws.{sum-same}

-- both say the same of each bidder
abbrev pub IsSame : (ℕ → Bool) → (ℕ → Bool) → Type 0
IsSame s t = (i : ℕ) → 0 < i → s i ≡ t i

-- if two tests say the same, some bidder passes the one just if some bidder passes the other
pub some-same : (p q : ℕ → Bool) (n : ℕ) → ((j : ℕ) → 0 < j → p j ≡ q j) → some_of p n ≡ some_of q n
some-same p q zero same = refl
some-same p q (suc n) same = rw (some-same p q n same, same (suc n) (omega arith)) refl

-- as many bidders are outside the one set as outside the other
pub outside-same : (s t : ℕ → Bool) (n : ℕ) → IsSame s t → outside s n ≡ outside t n
outside-same s t zero same = refl
outside-same s t (suc n) same = rw (outside-same s t n same, same (suc n) (omega arith)) refl

-- with one bidder more they are still one set
pub joined-same : (j : ℕ) (s t : ℕ → Bool) → IsSame s t → IsSame (joined j s) (joined j t)
joined-same j s t same i some = ap (λ b. (i == j) || b) (same i some)

idle-same : (s t : ℕ → Bool) (k : ℕ) (c : List ℕ) → IsSame s t → is_idle_in s k c ≡ is_idle_in t k c
idle-same s t k [] same = refl
idle-same s t k (i ∷ c) same = rw (idle-same s t (suc k) c same, same (suc k) (omega arith)) refl

-- the board asks only which bidders are in the set
abbrev pub AsksBidders : Board → Type 0
AsksBidders b = (s t : ℕ → Bool) (j i : ℕ) → IsSame s t → b.may s j i ≡ b.may t j i

widths-same : (slots : SlotList) (s t : ℕ → Bool) (n : ℕ) → IsSame s t → sum_to (λ j. cond (s j) (width_of slots j) 0) n ≡ sum_to
    (λ j. cond (t j) (width_of slots j) 0) n
widths-same slots s t zero same = refl
widths-same slots s t (suc n) same = rw (widths-same slots s t n same, same (suc n) (omega arith)) refl

-- the first slot after the one is that after the other
pub start-same : (slots : SlotList) (s t : ℕ → Bool) → IsSame s t → start_after slots s ≡ start_after slots t
start-same slots s t same = ap (λ w. 1 + w) (widths-same slots s t (length slots.bidders) same)

-- what a bidder of slots can be given depends on the bidders of the set alone
pub slots-ask : (slots : SlotList) (skip : ℕ) → AsksBidders (board_without slots skip)
slots-ask slots skip s t j i same = ap (λ start. starts_at slots start j i) (start-same slots s t same)

-- a choice counts the same outside the one as outside the other
pub sum_outside-same : (counts : ℕ → ℕ → ℤ) (s t : ℕ → Bool) → IsSame s t → (d : List ℕ) → sum_outside s counts d ≡ sum_outside t counts d
sum_outside-same counts s t same d = sum-same (counts_outside s counts) (counts_outside t counts) 0 d
    (λ j i some. ap (λ x. cond x (pos 0) (counts j i)) (same j some))

module _ (b : Board) (asks : AsksBidders b) where
  -- that many others can be placed after the one just if they can after the other
  pub place-same : (c : List ℕ) (left : ℕ) (s t : ℕ → Bool) → IsSame s t → can_place b c left s ≡ can_place b c left t
  place-same c zero s t same = refl
  place-same c (suc left) s t same =
      some-same (λ j. not (s j) && (b.may s j (number_of c j) && can_place b c left (joined j s)))
      (λ j. not (t j) && (b.may t j (number_of c j) && can_place b c left (joined j t))) b.bidders
      (λ j some. three (s j) (b.may s j (number_of c j)) (can_place b c left (joined j s)) (t j) (b.may t j (number_of c j)) (can_place b c left (joined j t))
      (same j some) (asks s t j (number_of c j) same) (place-same c left (joined j s) (joined j t) (joined-same j s t same)))
    where
      three : (x y z u v w : Bool) → x ≡ u → y ≡ v → z ≡ w → not x && (y && z) ≡ not u && (v && w)
      three x y z u v w p q r = rw (p, q, r) refl

  -- a choice fits after the one just if it fits after the other
  pub fits-same : (s t : ℕ → Bool) → IsSame s t → (c : List ℕ) → fits_behind b s c ≡ fits_behind b t c
  fits-same s t same c =
      ap (λ x. (is_known b c && x) && can_place b c (outside s b.bidders) s) (idle-same s t 0 c same)
      ∙ ap (λ x. (is_known b c && is_idle_in t 0 c) && x) (ap (λ n. can_place b c n s) (outside-same s t b.bidders same)
      ∙ place-same c (outside t b.bidders) s t same)

  -- the best choice after the one is the best after the other
  pub best-same : (counts : ℕ → ℕ → ℤ) (s t : ℕ → Bool) → IsSame s t → (c : List ℕ) → IsSetBest b counts s c → IsSetBest b counts t c
  best-same counts s t same c best =
      IsFirstGreatest-same (fits_behind b s) (fits_behind b t) (sum_outside s counts) (sum_outside t counts) c (fits-same s t same)
      (λ d. sum_outside-same counts s t same d) best
