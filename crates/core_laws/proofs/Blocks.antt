-- Rows and blocks: the row of a block is new, and core points meet each row.
use Rattle.std.specs.Prelude.{◌≡◌, ◌≢◌, ℕ, suc, ◌-◌, ◌<◌, ◌≤◌, Bool, true, not, ◌&&◌, IsTrue, List, length, ℤ, pos, ◌+ℤ◌, ◌-ℤ◌, ◌*ℤ◌, ◌≤ℤ◌, ◌<ℤ◌}
use Rattle.std.proofs.Common.{sym, ◌∙◌, ap, arith, subst}
use Rattle.std.proofs.lemmas.Int.{ints}
use Rattle.auction_model.specs.Market.{Market, uses}
use Rattle.auction_model.specs.Lawful.{IsMarket}
use Rattle.auction_model.specs.Lowered.{of_bidder}
use Rattle.auction_model.specs.Prices.{Point, sum_over, IsUnblocked, IsCorePoint}
use Rattle.auction_model.specs.Blocks.{IsIdleSet, row_bound, excess_of, IsTakenBlock}
use Rattle.auction_model.specs.PricingRun.{MeetsRow}
use Rattle.far_num.specs.Members.{holds}
use Rattle.far_num.specs.declared.Row.{Row}
use Rattle.wide_num.specs.Sums.{dot, nth}
use Rattle.wide_num.proofs.Ints.{mul-add}
use Rattle.projection_laws.proofs.Order.{mul_nonneg}
use Rattle.core_laws.specs.Winners.{winners_in, for_bidders, for_winners, has_member}
use Rattle.core_laws.specs.Rows.{row_in, HasWinners, IsGivenBy, Meets}
use Rattle.core_laws.proofs.Excess.{offer-is, excess-is}
use Rattle.core_laws.proofs.Rows.{excess-bound, bound-by_excess}
use Rattle.core_laws.proofs.Bits.{row-sum}
use Rattle.core_laws.proofs.Winners.{there_and_back}

times_le : (d a b : ℤ) → pos 0 ≤ℤ d → a ≤ℤ b → (d *ℤ a) ≤ℤ (d *ℤ b)
times_le d a b p h =
    let q = mul_nonneg d (b -ℤ a) p (omega (arith, ints)) in
    let e = mul-add d (b -ℤ a) a in
    let f : b -ℤ a +ℤ a ≡ b = omega (arith, ints) in
    let g = ap (λ (t : ℤ). d *ℤ t) f in
    omega (arith, ints)

-- the row of a taken block is given by its choice
pub block-row : (m : Market) (z : List ℕ) (p : Point) → pos 1 ≤ℤ p.den → (f : List ℕ) (row : Row) (x : ℤ) → IsTakenBlock m z p f (has_member z row.members) x
    → HasWinners z row.members → row.bound ≡ row_bound m z (has_member z row.members) f → IsGivenBy m z row f
block-row m z p dp f row x t members is = record {
  members = members;
  allowed = t.allowed;
  idle = t.idle;
  given = is;
  greatest = λ g ok idle. let h = bound-by_excess m z p (has_member z row.members) f g dp
      (let a = t.greatest (has_member z row.members) g ok idle in let b = t.reached in omega (arith, ints)) in omega (arith, ints);
}

-- what a row asks for at a point with a number for each winner, over the bidders
pub row-asks : (m : Market) (z : List ℕ) → length z ≡ m.bidders → (at : List ℤ) (bits : ℕ) → sum_over (has_member z bits)
    (of_bidder (for_bidders z at)) m.bidders ≡ dot (winners_in z) (holds bits) (nth at)
row-asks m z len at bits = sym (ap (sum_over (has_member z bits) (of_bidder (for_bidders z at))) len) ∙ row-sum z at bits

-- the winners' numbers meet the row if the bidders' do
pub meets-winners :
    (m : Market) (z : List ℕ) → length z ≡ m.bidders → (den : ℤ) (at : List ℤ) (row : Row)
    → MeetsRow m (record { den = den; at = for_bidders z at }) (row_in z row) → Meets z row den at
meets-winners m z len den at row h = let e = row-asks m z len at row.members in omega (arith, ints)

-- the bidders' numbers meet the row if the winners' do
pub meets-bidders :
    (m : Market) (z : List ℕ) → length z ≡ m.bidders → (den : ℤ) (at : List ℤ) (row : Row)
    → Meets z row den at → MeetsRow m (record { den = den; at = for_bidders z at }) (row_in z row)
meets-bidders m z len den at row h = let e = row-asks m z len at row.members in omega (arith, ints)

-- the excess of a choice over a row is what the row asks for beyond what it gets
pub excess-row : (m : Market) (z : List ℕ) → length z ≡ m.bidders → (den : ℤ) (at : List ℤ) (bits : ℕ) (f : List ℕ)
    → excess_of m z (record { den = den; at = for_bidders z at }) (has_member z bits) f ≡ den *ℤ row_bound m z (has_member z bits) f -ℤ dot (winners_in z)
    (holds bits) (nth at)
excess-row m z len den at bits f =
    let a = excess-bound m z (record { den = den; at = for_bidders z at }) (has_member z bits) f in
    let b = row-asks m z len at bits in
    omega (arith, ints)

-- no row comes twice
pub row-is_new : (m : Market) (z : List ℕ) → length z ≡ m.bidders → (den : ℤ) (at : List ℤ) → pos 1 ≤ℤ den → (bits : ℕ) (old : Row) (c f : List ℕ) (x : ℤ)
    → IsGivenBy m z old c → Meets z old den at → IsTakenBlock m z (record { den = den; at = for_bidders z at }) f (has_member z bits) x → pos 0 <ℤ x
    → bits ≢ old.members
row-is_new m z len den at dp bits old c f x row meets t above same =
    let idle : IsIdleSet m z f (has_member z old.members) = subst (λ b. IsIdleSet m z f (has_member z b)) same t.idle in
    let g = row.greatest f t.allowed idle in
    let e = excess-row m z len den at bits f in
    let r = t.reached in
    let o : dot (winners_in z) (holds bits) (nth at) ≡ dot (winners_in z) (holds old.members) (nth at) = ap (λ b. dot (winners_in z) (holds b) (nth at)) same in
    let w : row_bound m z (has_member z bits) f ≡ row_bound m z (has_member z old.members) f = ap (λ b. row_bound m z (has_member z b) f) same in
    let ww = ap (λ (t : ℤ). den *ℤ t) w in
    let le = times_le den (row_bound m z (has_member z old.members) f) old.bound (omega (arith, ints)) g in
    absurd (omega (arith, ints))

-- an unblocked point has no excess over any set
pub free-excess : (m : Market) → IsMarket m → (z : List ℕ) (p : Point) → IsUnblocked m z p → (f : List ℕ) → IsTrue (m.allowed f) → (s : ℕ → Bool)
    → ((j : ℕ) → 0 < j → j ≤ m.bidders → IsTrue (uses f j) → IsTrue (not (s j))) → excess_of m z p s f ≤ℤ pos 0
free-excess m lawful z p free f t s outside =
    let e = excess-is m lawful z p f t s in
    let o = offer-is m lawful z p f t (λ j. not (s j)) in
    let h = free (λ j. not (s j)) f t outside in
    omega (arith, ints)

-- a set of winners that a choice doesn't use has no bidder that the choice uses
pub idle-outside : (m : Market) (z f : List ℕ) (s : ℕ → Bool) → IsIdleSet m z f s → (j : ℕ) → 0 < j → j ≤ m.bidders → IsTrue (uses f j) → IsTrue (not (s j))
idle-outside m z f s idle j q le u = by (s j) (uses z j) (uses f j) (λ e. idle j q le e) u
  where
    by : (s w u : Bool) → (s ≡ true → (w && not u) ≡ true) → u ≡ true → not s ≡ true
    by s w u h e = grind (arith)

-- the winners' numbers of a core point
pub core-back : (m : Market) (z : List ℕ) → length z ≡ m.bidders → (q : Point) → IsCorePoint m z q → for_bidders z (for_winners z q.at) ≡ q.at
core-back m z len q core = there_and_back z q.at (omega (arith, core.bidders, len))
    (λ k lt e. let b : suc k - 1 ≡ k = omega arith in let h = core.losers (suc k) (omega arith) (omega (arith, len)) e in rw b at h)

-- a core point meets each row
pub core-meets : (m : Market) → IsMarket m → (z : List ℕ) → length z ≡ m.bidders → (q : Point) → IsCorePoint m z q → (row : Row) (c : List ℕ)
    → IsGivenBy m z row c → Meets z row q.den (for_winners z q.at)
core-meets m lawful z len q core row c by =
    let x = free-excess m lawful z q core.unblocked c by.allowed (has_member z row.members) (idle-outside m z c (has_member z row.members) by.idle) in
    let e = excess-row m z len q.den (for_winners z q.at) row.members c in
    let f : excess_of m z q (has_member z row.members) c ≡ excess_of m z (record { den = q.den; at = for_bidders z (for_winners z q.at) })
    (has_member z row.members) c = ap (λ l. excess_of m z (record { den = q.den; at = l }) (has_member z row.members) c) (sym (core-back m z len q core)) in
    let g = ap (λ (t : ℤ). q.den *ℤ t) by.given in
    omega (arith, ints)
