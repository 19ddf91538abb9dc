-- Rows that ask the same of the bidders give a turn the same point.
use Rattle.std.proofs.Common.{◌≡◌, ℕ, ◌<◌, ◌≤◌, List, [], ◌∷◌, ◌++◌, ℤ, ◌*ℤ◌, ◌≤ℤ◌, ◌<ℤ◌, refl, sym, ap, arith}
use Rattle.std.specs.List.{AllByRecursion}
use Rattle.std.proofs.lemmas.Int.{ints, by_lt_z}
use Rattle.auction_model.specs.Market.{Market}
use Rattle.auction_model.specs.Lowered.{of_bidder}
use Rattle.auction_model.specs.Prices.{Point, SamePoint, paid}
use Rattle.auction_model.specs.PricingRun.{BidderRow, IsTurnPoint, MeetsBidderRows, MeetsRow}
use Rattle.core_laws.proofs.Rows.{over-same}

-- the same bound of the same members among the bidders
pub record IsAlike (m : Market) (row other : BidderRow) : Type 0 where
  pub bound : row.bound ≡ other.bound
  pub members : (j : ℕ) → 0 < j → j ≤ m.bidders → row.members j ≡ other.members j

-- row by row
abbrev pub AreAlike : Market → List BidderRow → List BidderRow → Type 0
AreAlike m [] [] = Unit {0}
AreAlike m [] (other ∷ others) = ⊥
AreAlike m (row ∷ rows) [] = ⊥
AreAlike m (row ∷ rows) (other ∷ others) = IsAlike m row other × AreAlike m rows others

alike-turned : (m : Market) (row other : BidderRow) → IsAlike m row other → IsAlike m other row
alike-turned m row other a = record { bound = sym a.bound; members = λ j some inside. sym (a.members j some inside) }

-- what is alike is alike the other way round
pub all-turned : (m : Market) (rows others : List BidderRow) → AreAlike m rows others → AreAlike m others rows
all-turned m [] [] a = tt
all-turned m [] (other ∷ others) a = absurd a
all-turned m (row ∷ rows) [] a = absurd a
all-turned m (row ∷ rows) (other ∷ others) a = (alike-turned m row other a.0, all-turned m rows others a.1)

-- rows are alike to themselves
pub all-own : (m : Market) (rows : List BidderRow) → AreAlike m rows rows
all-own m [] = tt
all-own m (row ∷ rows) = (record { bound = refl; members = λ j some inside. refl }, all-own m rows)

-- and stay alike with one more
pub all-more : (m : Market) (rows others : List BidderRow) (row other : BidderRow) → AreAlike m rows others → IsAlike m row other
    → AreAlike m (rows ++ row ∷ []) (others ++ other ∷ [])
all-more m [] [] row other a b = (b, tt)
all-more m [] (o ∷ others) row other a b = absurd a
all-more m (r ∷ rows) [] row other a b = absurd a
all-more m (r ∷ rows) (o ∷ others) row other a b = (a.0, all-more m rows others row other a.1 b)

meets-alike : (m : Market) (p : Point) (row other : BidderRow) → IsAlike m row other → MeetsRow m p row → MeetsRow m p other
meets-alike m p row other a h =
    let sums = over-same row.members other.members (of_bidder p.at) m.bidders a.members in
    let bounds = ap (λ (x : ℤ). p.den *ℤ x) a.bound in
    omega (arith, ints, sums, bounds, h)

each-alike : (m : Market) (p : Point) (rows others : List BidderRow) → AreAlike m rows others → AllByRecursion (MeetsRow m p) rows
    → AllByRecursion (MeetsRow m p) others
each-alike m p [] [] a h = tt
each-alike m p [] (other ∷ others) a h = absurd a
each-alike m p (row ∷ rows) [] a h = absurd a
each-alike m p (row ∷ rows) (other ∷ others) a h = (meets-alike m p row other a.0 h.0, each-alike m p rows others a.1 h.1)

rows-alike : (m : Market) (z : List ℕ) (p : Point) (rows others : List BidderRow) → AreAlike m rows others → MeetsBidderRows m z rows p → MeetsBidderRows m z others p
rows-alike m z p rows others a h = record { den_positive = h.den_positive; bidders = h.bidders; losers = h.losers; each = each-alike m p rows others a h.each }

-- two points that are each the nearest of least sum are the same
module _ (m : Market) (w : ℕ → ℕ) (z : List ℕ) (v : ℕ → ℤ) (rows others : List BidderRow) (p q : Point) (alike : AreAlike m rows others)
    (a : IsTurnPoint m w z v rows p) (b : IsTurnPoint m w z v others q) where
  strict : (x y : ℤ) → x <ℤ y → y ≤ℤ x → ⊥
  strict x y h k = omega (arith, ints, h, k)

  even : (x y : ℤ) → y ≤ℤ x → x ≤ℤ y → x ≡ y
  even x y h k = omega (arith, ints, h, k)

  weaker : (x y : ℤ) → x <ℤ y → x ≤ℤ y
  weaker x y h = omega (arith, ints, h)

  most : (x y : ℤ) → x ≡ y → y ≤ℤ x
  most x y e = omega (arith, ints, e)

  q-meets : MeetsBidderRows m z rows q
  q-meets = rows-alike m z q others rows (all-turned m rows others alike) b.meets

  p-meets : MeetsBidderRows m z others p
  p-meets = rows-alike m z p rows others alike a.meets

  equal-sums : q.den *ℤ paid m p ≡ p.den *ℤ paid m q
  equal-sums = even _ _ (b.least p p-meets) (a.least q q-meets)

  not_apart : (SamePoint m p q → ⊥) → ⊥
  not_apart apart =
      strict _ _ (a.nearest q q-meets equal-sums apart) (weaker _ _ (b.nearest p p-meets (sym equal-sums)
      (λ same. apart (λ j some inside. sym (same j some inside)))))

  -- turns with alike rows have the same point
  pub same-point : SamePoint m p q
  same-point j some inside =
      by_lt_z (q.den *ℤ of_bidder p.at j) (p.den *ℤ of_bidder q.at j)
      (λ less. absurd (not_apart (λ same. strict _ _ less (most _ _ (same j some inside)))))
      (λ high. by_lt_z (p.den *ℤ of_bidder q.at j) (q.den *ℤ of_bidder p.at j) (λ less. absurd
      (not_apart (λ same. strict _ _ less (most _ _ (sym (same j some inside)))))) (λ low. even _ _ high low))
