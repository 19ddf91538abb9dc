-- The drafts of a made auction have the reply Ok.
use Rattle.std.proofs.Common.{List, [], arith, false, inl, inr, map, min, refl, subst, suc, sym, true, ℕ, ◌*◌, ◌++◌, ◌+◌, ◌-◌, ◌/◌, ◌<◌, ◌||◌, ◌∙◌}
use Rattle.std.proofs.Common.{◌∷◌, ◌≡◌, ◌≤◌}
use Rattle.std.specs.Prelude.{◌⊎◌, nat_le, slice_index, sum}
use Rattle.std.specs.List.{AllByRecursion}
use Rattle.std.proofs.lemmas.Bool.{cases_Bool, le-leb, ne_eqb, or_parts, false≢true}
use Rattle.std.proofs.Math.Nat.{mul-le-mul_left}
use Rattle.auction_model.specs.Package.{cost_of, is_within}
use Rattle.auction_rules.specs.declared.Event.TheVariants.{Draft, Submit}
use Rattle.auction_model.specs.PackageTests.{is_empty, is_same}
use Rattle.auction_rules.specs.Rounds.{OwnRound}
use Rattle.auction_rules.specs.Caps.{clock_bid}
use Rattle.auction_rules.specs.State.{DeskState, Round, own_of}
use Rattle.auction_model.proofs.PackageTestLaws.{is_same-refl, is_same-true, within-first_over}
use Rattle.big_auction.specs.Draws.{advanced, drawn, drawn_package}
use Rattle.big_auction.specs.MadeAward.{made_terms}
use Rattle.big_auction.specs.MadeLog.{reduced, staying, amount_of, drawn_draft, drawn_drafts, last_draft, lines_from}
use Rattle.big_auction.proofs.Caps.{greatest-few}
use Rattle.big_auction.proofs.Drawing.{IsOwn, IsOwn-drawn, drawn-below}
use Rattle.big_auction.proofs.Forward.{Goes, goes-on, goes-listing}
use Rattle.big_auction.proofs.PriceBounds.{IsBetween, cost-small}
use Rattle.big_auction.proofs.SealedRound.{IsKnown, HasRounds, IsDue, Between, Within, begins, draft-goes, submit-goes}

-- ---- packages

-- a package of the first rounds is within the supply
pub own-within : (lots : List ℕ) → IsOwn lots → is_within lots made_terms.supply ≡ true
own-within lots own = rw (
  own.are,
  le-leb own.a 4 (omega (arith, own.few_a)),
  le-leb own.b 1 own.few_b,
  le-leb own.c 14 (omega (arith, own.few_c)),
  le-leb own.e 9 (omega (arith, own.few_e)),
) refl

-- it has at most 41 points
pub own-points : (lots : List ℕ) → IsOwn lots → cost_of made_terms.points lots ≤ 41
own-points lots own = rw own.are (omega (arith, own.few_a, own.few_b, own.few_c, own.few_e))

-- it isn't empty
pub own-some : (lots : List ℕ) → IsOwn lots → is_empty lots ≡ false
own-some lots own = rw (own.are, ne_eqb own.a 0 (λ none. absurd (omega (arith, own.some, none)))) refl

-- it has a lot of the first category
pub own-lot : (lots : List ℕ) → IsOwn lots → 1 ≤ slice_index lots 0
own-lot lots own = rw own.are own.some

own-sum : (lots : List ℕ) → IsOwn lots → sum lots ≤ 14
own-sum lots own = rw own.are (omega (arith, own.few_a, own.few_b, own.few_c, own.few_e))

-- and what is drawn within it is such a package
pub drawn-own : (state : ℕ) (own : List ℕ) → IsOwn own → IsOwn (drawn_package state own)
drawn-own state own is =
    subst (λ (p : List ℕ). IsOwn (drawn_package state p)) (sym is.are) (IsOwn-drawn state is.a is.b is.c is.e is.some is.few_a is.few_b is.few_c is.few_e)

points-within : (state a b c e : ℕ) → 1 ≤ a → cost_of made_terms.points (drawn_package state (a ∷ b ∷ c ∷ e ∷ [])) ≤ cost_of made_terms.points
    (a ∷ b ∷ c ∷ e ∷ [])
points-within state a b c e some =
    omega (
      arith,
      drawn-below state 1 a (omega arith),
      drawn-below state 2 (suc b) (omega arith),
      drawn-below state 3 (suc c) (omega arith),
      drawn-below state 4 (suc e) (omega arith),
    )

drawn-points : (state : ℕ) (own : List ℕ) → IsOwn own → cost_of made_terms.points (drawn_package state own) ≤ cost_of made_terms.points own
drawn-points state own is =
    subst (λ (p : List ℕ). cost_of made_terms.points (drawn_package state p) ≤ cost_of made_terms.points p) (sym is.are)
    (points-within state is.a is.b is.c is.e is.some)

-- what a bidder that stays asks for at last is of the same kind as its own package
pub reduced-own : (own : List ℕ) → IsOwn own → IsOwn (reduced own)
reduced-own own is = record {
  a = 1;
  b = 0;
  c = min 3 (slice_index own 2);
  e = min 2 (slice_index own 3);
  are = refl;
  some = omega arith;
  few_a = omega arith;
  few_b = omega arith;
  few_c = omega arith;
  few_e = omega arith;
}

points-reduced : (a b c e : ℕ) → 1 ≤ a → cost_of made_terms.points (reduced (a ∷ b ∷ c ∷ e ∷ [])) ≤ cost_of made_terms.points (a ∷ b ∷ c ∷ e ∷ [])
points-reduced a b c e some = omega arith

-- and it has no more points than that package
pub reduced-points : (own : List ℕ) → IsOwn own → cost_of made_terms.points (reduced own) ≤ cost_of made_terms.points own
reduced-points own is =
    subst (λ (p : List ℕ). cost_of made_terms.points (reduced p) ≤ cost_of made_terms.points p) (sym is.are) (points-reduced is.a is.b is.c is.e is.some)

-- ---- amounts

-- a clock round where the bidder held one of its two packages, which costs no more in it than at last
pub record IsClockRound (prices own final : List ℕ) (r : OwnRound) : Type 0 where
  pub held : (r.held ≡ own) ⊎ (r.held ≡ final)
  pub cost : cost_of r.prices r.held ≤ cost_of prices r.held

-- what the amount of a draft keeps
record IsAmount (prices own final lots : List ℕ) (amount : ℕ) : Type 0 where
  pub low : amount ≤ cost_of prices lots
  pub reserve : cost_of made_terms.reserves lots ≤ amount
  pub of_own : is_same lots own ≡ true → amount ≡ cost_of prices lots
  pub of_final : is_same lots final ≡ true → amount ≡ cost_of prices lots

share-low : (cost permille : ℕ) → permille ≤ 1000 → cost * permille / 1000 ≤ cost
share-low cost permille few = let up : cost * permille ≤ cost * 1000 = mul-le-mul_left cost few in omega (arith, up)

IsAmount-amount_of : (prices own final lots : List ℕ) (permille : ℕ) → permille ≤ 1000 → cost_of made_terms.reserves lots ≤ cost_of prices lots
    → IsAmount prices own final lots (amount_of prices own final lots permille)
IsAmount-amount_of prices own final lots permille few up =
    elim (cases_Bool (is_same lots own || is_same lots final)) [
      | inl same ↦ rw same (record { low = omega arith; reserve = up; of_own = λ h. refl; of_final = λ h. refl })
      | inr other ↦
          let neither : (is_same lots own ≡ false) × (is_same lots final ≡ false) = or_parts (is_same lots own) (is_same lots final) other in
          let share : cost_of prices lots * permille / 1000 ≤ cost_of prices lots = share-low (cost_of prices lots) permille few in
          rw other (record {
            low = omega (arith, share, up);
            reserve = omega arith;
            of_own = λ h. absurd (false≢true (sym neither.0 ∙ h));
            of_final = λ h. absurd (false≢true (sym neither.1 ∙ h));
          })
    ]

-- the clock bids for the package are at most the amount
clock-low : (prices own final lots : List ℕ) (amount : ℕ) (rounds : List OwnRound) → AllByRecursion (IsClockRound prices own final) rounds
    → (is_same lots own ≡ true → cost_of prices lots ≤ amount) → (is_same lots final ≡ true → cost_of prices lots ≤ amount)
    → AllByRecursion (λ b. is_same b.lots lots ≡ true → b.amount ≤ amount) (map clock_bid rounds)
clock-low prices own final lots amount [] are of_own of_final = tt
clock-low prices own final lots amount (r ∷ rounds) are of_own of_final = (
  (λ same.
      let is : r.held ≡ lots = is_same-true r.held lots same in
      let cost : cost_of r.prices r.held ≤ cost_of prices lots = subst (λ (p : List ℕ). cost_of r.prices r.held ≤ cost_of prices p) is are.0.cost in
      elim are.0.held [
        | inl held ↦ let mine : is_same lots own ≡ true = subst (λ (p : List ℕ). is_same p own ≡ true) is (rw held (is_same-refl own)) in
            omega (arith, cost, of_own mine)
        | inr held ↦ let mine : is_same lots final ≡ true = subst (λ (p : List ℕ). is_same p final ≡ true) is (rw held (is_same-refl final)) in
            omega (arith, cost, of_final mine)
      ]),
  clock-low prices own final lots amount rounds are.1 of_own of_final,
)

-- the last round of a bidder
abbrev pub last_with : List ℕ → List ℕ → List ℕ → OwnRound
last_with prices own final = record { prices = prices; eligibility = cost_of made_terms.points own; held = final }

-- what a bidder has after the clock
pub record IsBidding (rounds : List OwnRound) (prices own final : List ℕ) (k : ℕ) : Type 0 where
  pub kind : IsOwn own
  pub small : AllByRecursion (IsBetween 768000) prices
  pub reserve : (lots : List ℕ) → cost_of made_terms.reserves lots ≤ cost_of prices lots
  pub clock : AllByRecursion (IsClockRound prices own final) rounds
  pub last : HasRounds rounds (last_with prices own final)
  pub stays : nat_le k staying ≡ true → final ≡ reduced own

-- a drawn draft has the reply Ok
pub due-drawn : (rounds : List OwnRound) (prices own final : List ℕ) (k state permille : ℕ) → permille ≤ 1000 → IsBidding rounds prices own final k
    → IsDue rounds (last_with prices own final) (drawn_package state own) (amount_of prices own final (drawn_package state own) permille)
due-drawn rounds prices own final k state permille few bidding =
    let lots : List ℕ = drawn_package state own in
    let is : IsOwn lots = drawn-own state own bidding.kind in
    let amount : ℕ = amount_of prices own final lots permille in
    let kept : IsAmount prices own final lots amount = IsAmount-amount_of prices own final lots permille few (bidding.reserve lots) in
    let small : cost_of prices lots ≤ 768000 * sum lots = cost-small prices lots bidding.small in
    record {
      within = within-first_over 1 lots made_terms.supply (own-within lots is);
      points = omega (arith, own-points lots is);
      some = own-some lots is;
      reserve = kept.reserve;
      clock = greatest-few lots amount (map clock_bid rounds) (clock-low prices own final lots amount rounds bidding.clock
          (λ same. omega (arith, kept.of_own same)) (λ same. omega (arith, kept.of_final same)));
      top = omega (arith, kept.low, small, own-sum lots is);
      fair = record { low = λ h. kept.low; eligible = λ h. drawn-points state own bidding.kind };
      lot = own-lot lots is;
    }

-- and so is the draft more of a bidder that stays
pub due-last : (rounds : List OwnRound) (prices own final : List ℕ) (k more : ℕ) → more < 1000 → nat_le k staying ≡ true → IsBidding rounds prices own final k
    → IsDue rounds (last_with prices own final) final (cost_of prices final + more)
due-last rounds prices own final k more few stay bidding =
    let is : IsOwn final = subst IsOwn (sym (bidding.stays stay)) (reduced-own own bidding.kind) in
    let amount : ℕ = cost_of prices final + more in
    let small : cost_of prices final ≤ 768000 * sum final = cost-small prices final bidding.small in
    let no : is_same final final ≡ false → ⊥ = λ h. false≢true (sym h ∙ is_same-refl final) in
    record {
      within = within-first_over 1 final made_terms.supply (own-within final is);
      points = omega (arith, own-points final is);
      some = own-some final is;
      reserve = omega (arith, bidding.reserve final);
      clock = greatest-few final amount (map clock_bid rounds) (clock-low prices own final final amount rounds bidding.clock (λ same. omega arith)
          (λ same. omega arith));
      top = omega (arith, small, own-sum final is);
      fair = record { low = λ h. absurd (no h); eligible = λ h. absurd (no h) };
      lot = own-lot final is;
    }

-- ---- the lines of a bidder

drafts-go : (rounds : List Round) (prices eligibility : List ℕ) (held : List (List ℕ)) (state : ℕ) (q own final : List ℕ) (k n : ℕ) (s : DeskState) → n ≤ 100
    → IsKnown k
    → IsBidding (map (own_of k) rounds) q own final k → Within rounds prices eligibility held (last_with q own final) k 0 s
    → Goes s (drawn_drafts state q k own final n) (Within rounds prices eligibility held (last_with q own final) k n)
unfolding drawn_drafts
drafts-go rounds prices eligibility held state q own final k n s few known bidding start =
    goes-listing (λ i. drawn_draft (advanced state (5 * (i - 1))) q k own final) n s (λ i. Within rounds prices eligibility held (last_with q own final) k i)
    start
    (λ i t low within.
    let x : ℕ = advanced state (5 * (suc i - 1)) in
    let f : ℕ = 500 + drawn x 5 501 in
    let permille : f ≤ 1000 = omega (arith, drawn-below x 5 501 (omega arith)) in
    draft-goes rounds prices eligibility held (last_with q own final) k i (drawn_package x own) (amount_of q own final (drawn_package x own) f) t known
    (omega arith)
    (due-drawn (map (own_of k) rounds) q own final k x f permille bidding) within)

last-goes : (rounds : List Round) (prices eligibility : List ℕ) (held : List (List ℕ)) (state : ℕ) (q own final : List ℕ) (k n : ℕ) (s : DeskState) → n < 300
    → IsKnown k
    → IsBidding (map (own_of k) rounds) q own final k → Within rounds prices eligibility held (last_with q own final) k n s
    → Goes s (last_draft state q k final ++ Submit k ∷ []) (Between rounds prices eligibility held k)
last-goes rounds prices eligibility held state q own final k n s few known bidding within =
    elim (cases_Bool (nat_le k staying)) [
      | inl stay ↦
          let more : drawn state 1 1000 < 1000 = drawn-below state 1 1000 (omega arith) in
          rw stay (goes-on s (Draft k final (cost_of q final + drawn state 1 1000) ∷ []) (Submit k ∷ [])
          (Within rounds prices eligibility held (last_with q own final) k (suc n)) (Between rounds prices eligibility held k)
          (draft-goes rounds prices eligibility held (last_with q own final) k n final (cost_of q final + drawn state 1 1000) s known few
          (due-last (map (own_of k) rounds) q own final k (drawn state 1 1000) more stay bidding) within)
          (λ t. submit-goes rounds prices eligibility held (last_with q own final) k (suc n) t known bidding.last))
      | inr go ↦ rw go (submit-goes rounds prices eligibility held (last_with q own final) k n s known bidding.last within)
    ]

-- all lines of a bidder in the sealed round have the reply Ok, after those of the bidder before it
pub part-goes : (rounds : List Round) (prices eligibility : List ℕ) (held : List (List ℕ)) (state : ℕ) (q own final : List ℕ) (k : ℕ) (s : DeskState)
    → IsKnown k
    → IsBidding (map (own_of k) rounds) q own final k → Between rounds prices eligibility held (k - 1) s
    → Goes s (lines_from state q k own final) (Between rounds prices eligibility held k)
part-goes rounds prices eligibility held state q own final k s known bidding between =
    goes-on s (drawn_drafts state q k own final 100) (last_draft (advanced state 500) q k final ++ Submit k ∷ [])
    (Within rounds prices eligibility held (last_with q own final) k 100) (Between rounds prices eligibility held k)
    (drafts-go rounds prices eligibility held state q own final k 100 s (omega arith) known bidding
    (begins rounds prices eligibility held (last_with q own final) k s known.some between))
    (λ t within. last-goes rounds prices eligibility held (advanced state 500) q own final k 100 t (omega arith) known bidding within)
