-- The same point has the same block, whatever its denominator.
use Rattle.std.proofs.Common.{Bool, IsTrue, List, None, Option, Some, ap, arith, false, inl, inr, not, pos, refl, subst, sym, true, ℕ, ℤ, ◌*ℤ◌, ◌-ℤ◌}
use Rattle.std.proofs.Common.{◌<ℤ◌, ◌<◌, ◌∙◌, ◌≡◌, ◌≤ℤ◌, ◌≤◌}
use Rattle.std.proofs.lemmas.Int.{ints}
use Rattle.std.proofs.Math.IntN.{*ℤ_comm}
use Rattle.auction_model.specs.Blocks.{IsGreatestExcess, IsIdleSet, excess_of, row_bound}
use Rattle.auction_model.specs.Lawful.{IsMarket}
use Rattle.auction_model.specs.Lowered.{of_bidder}
use Rattle.auction_model.specs.Market.{Market, is_earlier, value_of, worth_in}
use Rattle.auction_model.specs.Prices.{Point, SamePoint, sum_over}
use Rattle.auction_model.specs.PricingRun.{BidderBlock, IsBlockOf}
use Rattle.auction_model.proofs.OrderLaws.{earlier-cases}
use Rattle.projection_laws.proofs.Order.{mul_nonneg, mul_positive}
use Rattle.core_laws.proofs.Rows.{excess-bound, over-same}
use Rattle.wide_num.proofs.Ints.{lin, mul-sub, mul_cancel, swap_mul}
use Rattle.print_grammar.proofs.AlikePoints.{IsAlike}
use Rattle.print_grammar.proofs.Sums.{sums}

-- the same choice and row, and the same excess over the denominators d and e
pub record IsSameBlock (m : Market) (d e : ℤ) (block other : BidderBlock) : Type 0 where
  pub choices : block.choice ≡ other.choice
  pub rows : IsAlike m block.row other.row
  pub excesses : block.excess *ℤ e ≡ other.excess *ℤ d

-- what blocks at both, or nothing at either
abbrev pub IsSameEnd : Market → ℤ → ℤ → Option BidderBlock → Option BidderBlock → Type 0
IsSameEnd m d e None None = Unit {0}
IsSameEnd m d e None (Some other) = ⊥
IsSameEnd m d e (Some block) None = ⊥
IsSameEnd m d e (Some block) (Some other) = IsSameBlock m d e block other

-- a bound and a sum paid, over both denominators
over-both : (d e bound p q x y : ℤ) → x ≡ (d *ℤ bound) -ℤ p → y ≡ (e *ℤ bound) -ℤ q → p *ℤ e ≡ q *ℤ d → x *ℤ e ≡ y *ℤ d
over-both d e bound p q x y f g same =
    omega (
      arith,
      lin,
      *ℤ_comm x e,
      *ℤ_comm y d,
      ap (λ (t : ℤ). e *ℤ t) f,
      ap (λ (t : ℤ). d *ℤ t) g,
      mul-sub e (d *ℤ bound) p,
      mul-sub d (e *ℤ bound) q,
      swap_mul e d bound,
      *ℤ_comm p e,
      *ℤ_comm q d,
      same,
    )

-- if each of two numbers is at most what the other gives, it is that
reached-by : (d e x y given taken : ℤ) → pos 1 ≤ℤ d → pos 1 ≤ℤ e → x *ℤ e ≡ given *ℤ d → taken *ℤ e ≡ y *ℤ d → given ≤ℤ y → taken ≤ℤ x → given ≡ y
reached-by d e x y given taken dp ep first second low high =
    let up = mul_nonneg d (y -ℤ given) (omega (arith, lin, dp)) (omega (arith, lin, low)) in
    let down = mul_nonneg e (x -ℤ taken) (omega (arith, lin, ep)) (omega (arith, lin, high)) in
    let same : d *ℤ given ≡ d *ℤ y = omega (
      arith,
      lin,
      up,
      down,
      mul-sub d y given,
      mul-sub e x taken,
      *ℤ_comm x e,
      *ℤ_comm given d,
      *ℤ_comm taken e,
      *ℤ_comm y d,
      first,
      second,
    ) in
    mul_cancel d given y (λ zero. omega (arith, lin, zero, dp)) same

-- a number above 0 has only numbers above 0 over other denominators
stays-positive : (d e x y : ℤ) → pos 1 ≤ℤ d → pos 1 ≤ℤ e → x *ℤ e ≡ y *ℤ d → x ≤ℤ pos 0 → pos 0 <ℤ y → ⊥
stays-positive d e x y dp ep same low high =
    let up = mul_positive y d high (omega (arith, lin, dp)) in
    let down = mul_nonneg (pos 0 -ℤ x) e (omega (arith, lin, low)) (omega (arith, lin, ep)) in
    omega (arith, lin, up, down, same, *ℤ_comm (pos 0 -ℤ x) e, mul-sub e (pos 0) x, *ℤ_comm x e, *ℤ_comm e (pos 0), zero-times e)
  where
    zero-times : (a : ℤ) → pos 0 *ℤ a ≡ pos 0
    zero-times a = omega (arith, ints)

not_below : (x y : ℤ) → x ≡ y → x <ℤ y → ⊥
not_below x y e h = omega (arith, ints, e, h)

same-truth : (a b : Bool) → (IsTrue a → IsTrue b) → (IsTrue b → IsTrue a) → a ≡ b
same-truth true b there back = sym (there refl)
same-truth false false there back = refl
same-truth false true there back = back refl

-- a row's bound depends on its members among the bidders
same-bound : (m : Market) (z : List ℕ) (s t : ℕ → Bool) (f g : List ℕ) → ((j : ℕ) → 0 < j → j ≤ m.bidders → s j ≡ t j) → f ≡ g
    → row_bound m z s f ≡ row_bound m z t g
same-bound m z s t f g members e =
    ap (λ (x : ℤ). value_of m f -ℤ x) (over-same (λ j. not (s j)) (λ j. not (t j)) (worth_in m z) m.bidders (λ j some inside. ap not (members j some inside)))
    ∙ ap (row_bound m z t) e

-- the excess at both points is the same fraction
scaled : (m : Market) (z : List ℕ) (p q : Point) → SamePoint m p q → (s : ℕ → Bool) (f : List ℕ) → excess_of m z p s f *ℤ q.den ≡ excess_of m z q s f *ℤ p.den
scaled m z p q same s f =
    over-both p.den q.den (row_bound m z s f) (sum_over s (of_bidder p.at) m.bidders) (sum_over s (of_bidder q.at) m.bidders) (excess_of m z p s f)
    (excess_of m z q s f) (excess-bound m z p s f) (excess-bound m z q s f)
    (sums s (of_bidder p.at) (of_bidder q.at) q.den p.den m.bidders (λ j some inside. *ℤ_comm (of_bidder p.at j) q.den ∙ same j some inside
    ∙ *ℤ_comm p.den (of_bidder q.at j)))

-- points that are the same are the same the other way round
pub same-turned : (m : Market) (p q : Point) → SamePoint m p q → SamePoint m q p
same-turned m p q same j some inside = sym (same j some inside)

-- a block of one point reaches the excess of the other's
reaches : (m : Market) (z : List ℕ) (p q : Point) → pos 1 ≤ℤ p.den → pos 1 ≤ℤ q.den → SamePoint m p q → (b c : BidderBlock) → IsBlockOf m z p b → IsBlockOf m z q c
    → excess_of m z q b.row.members b.choice ≡ c.excess
reaches m z p q dp dq same b c of-p of-q =
    reached-by p.den q.den b.excess c.excess (excess_of m z q b.row.members b.choice) (excess_of m z p c.row.members c.choice) dp dq
    (ap (λ (x : ℤ). x *ℤ q.den) (sym of-p.taken.reached) ∙ scaled m z p q same b.row.members b.choice)
    (scaled m z p q same c.row.members c.choice ∙ ap (λ (x : ℤ). x *ℤ p.den) of-q.taken.reached)
    (of-q.taken.greatest b.row.members b.choice of-p.taken.allowed of-p.taken.idle)
    (of-p.taken.greatest c.row.members c.choice of-q.taken.allowed of-q.taken.idle)

-- so it isn't earlier
not_earlier :
    (m : Market) (z : List ℕ) (p q : Point) → pos 1 ≤ℤ p.den → pos 1 ≤ℤ q.den → SamePoint m p q → (b c : BidderBlock) → IsBlockOf m z p b
    → IsBlockOf m z q c → IsTrue (is_earlier b.choice c.choice) → ⊥
not_earlier m z p q dp dq same b c of-p of-q before =
    not_below _ _ (reaches m z p q dp dq same b c of-p of-q) (of-q.taken.first b.choice b.row.members of-p.taken.allowed of-p.taken.idle before)

-- and with the same choice its members are among the other's
members-within :
    (m : Market) (z : List ℕ) (p q : Point) → pos 1 ≤ℤ p.den → pos 1 ≤ℤ q.den → SamePoint m p q → (b c : BidderBlock) → IsBlockOf m z p b
    → IsBlockOf m z q c → b.choice ≡ c.choice
    → (j : ℕ) → 0 < j → j ≤ m.bidders → IsTrue (b.row.members j) → IsTrue (c.row.members j)
members-within m z p q dp dq same b c of-p of-q e =
    of-q.taken.largest b.row.members (subst (λ f. IsIdleSet m z f b.row.members) e of-p.taken.idle)
    (ap (excess_of m z q b.row.members) (sym e) ∙ reaches m z p q dp dq same b c of-p of-q)

module _ (m : Market) (law : IsMarket m) (z : List ℕ) (p q : Point) (dp : pos 1 ≤ℤ p.den) (dq : pos 1 ≤ℤ q.den) (same : SamePoint m p q) where
  same-choice : (b c : BidderBlock) → IsBlockOf m z p b → IsBlockOf m z q c → b.choice ≡ c.choice
  same-choice b c of-p of-q =
      elim (earlier-cases b.choice c.choice (law.lengths b.choice of-p.taken.allowed ∙ sym (law.lengths c.choice of-q.taken.allowed))) [
        | inl e ↦ e
        | inr (inl before) ↦ absurd (not_earlier m z p q dp dq same b c of-p of-q before)
        | inr (inr after) ↦ absurd (not_earlier m z q p dq dp (same-turned m p q same) c b of-q of-p after)
      ]

  same-members : (b c : BidderBlock) → IsBlockOf m z p b → IsBlockOf m z q c → (j : ℕ) → 0 < j → j ≤ m.bidders → b.row.members j ≡ c.row.members j
  same-members b c of-p of-q j some inside =
      let e = same-choice b c of-p of-q in
      same-truth (b.row.members j) (c.row.members j) (members-within m z p q dp dq same b c of-p of-q e j some inside)
      (members-within m z q p dq dp (same-turned m p q same) c b of-q of-p (sym e) j some inside)

  -- the blocks of the same point are the same
  pub same-block : (b c : BidderBlock) → IsBlockOf m z p b → IsBlockOf m z q c → IsSameBlock m p.den q.den b c
  same-block b c of-p of-q = record {
    choices = same-choice b c of-p of-q;
    rows = record {
      bound = of-p.bound ∙ same-bound m z b.row.members c.row.members b.choice c.choice (same-members b c of-p of-q) (same-choice b c of-p of-q)
          ∙ sym of-q.bound;
      members = same-members b c of-p of-q;
    };
    excesses = ap (λ (x : ℤ). x *ℤ q.den) (sym of-p.taken.reached) ∙ scaled m z p q same b.row.members b.choice
        ∙ ap (λ (x : ℤ). x *ℤ p.den) (reaches m z p q dp dq same b c of-p of-q);
  }

-- if nothing has an excess at one point, nothing blocks the other
pub free-both : (m : Market) (z : List ℕ) (p q : Point) → pos 1 ≤ℤ p.den → pos 1 ≤ℤ q.den → SamePoint m p q → IsGreatestExcess m z p (pos 0) → (c : BidderBlock)
    → IsBlockOf m z q c → ⊥
free-both m z p q dp dq same none c of-q =
    stays-positive p.den q.den (excess_of m z p c.row.members c.choice) c.excess dp dq
    (scaled m z p q same c.row.members c.choice ∙ ap (λ (x : ℤ). x *ℤ p.den) of-q.taken.reached)
    (none c.row.members c.choice of-q.taken.allowed of-q.taken.idle) of-q.some
