-- Caps and greatest amounts over the rounds of one bidder.
use Rattle.std.proofs.Common.{◌≡◌, ℕ, suc, ◌≤◌, true, false, List, [], ◌∷◌, ◌++◌, Option, None, length, map, refl, ◌∙◌, ap, inl, inr, arith}
use Rattle.std.specs.Prelude.{nat_le}
use Rattle.std.specs.List.{AllByRecursion}
use Rattle.std.proofs.lemmas.Bool.{cases_Bool, le-leb}
use Rattle.std.proofs.lemmas.List.{map-append}
use Rattle.auction_model.specs.Book.{BookBid}
use Rattle.auction_model.specs.Package.{cost_of}
use Rattle.auction_model.specs.PackageTests.{is_before, is_empty, is_same}
use Rattle.auction_rules.specs.Step.{last_or}
use Rattle.auction_rules.specs.Rounds.{OwnRound}
use Rattle.auction_rules.specs.Caps.{cap_by, cap_of, clock_bid, constraining, enough, excess_cap, first_excess, greatest, highest, last_round}
use Rattle.auction_rules.specs.Caps.{list_fault, no_round}
use Rattle.auction_model.specs.Entries.{with_entry}
use Rattle.auction_model.proofs.PackageTestLaws.{is_same-refl}
use Rattle.auction_rules.proofs.BookCaps.{cost_of-empty}
use Rattle.big_auction.specs.MadeAward.{made_terms}

-- the last of a list with one more after it is that one
pub last_or-append : {A : Type 0} (d : A) (xs : List A) (x : A) → last_or d (xs ++ x ∷ []) ≡ x
last_or-append d [] x = refl
last_or-append d (y ∷ xs) x = last_or-append y xs x

enough-append : (points : ℕ) (rounds : List OwnRound) (r : OwnRound) → points ≤ r.eligibility → enough points (rounds ++ r ∷ []) ≡ enough points rounds
    ++ r ∷ []
enough-append points [] r reached = rw (le-leb points r.eligibility reached) refl
enough-append points (s ∷ rounds) r reached =
    elim (cases_Bool (nat_le points s.eligibility)) [
      | inl here ↦ rw here (ap (λ (rs : List OwnRound). s ∷ rs) (enough-append points rounds r reached))
      | inr not_here ↦ rw not_here (enough-append points rounds r reached)
    ]

-- the last round constrains what it is enough for
pub constraining-last : (points : ℕ) (rounds : List OwnRound) (r : OwnRound) → points ≤ r.eligibility → constraining points (rounds ++ r ∷ []) ≡ r
constraining-last points rounds r reached = ap (last_or no_round) (enough-append points rounds r reached) ∙ last_or-append no_round (enough points rounds) r

-- if no bid for a package is above an amount, the greatest isn't
pub greatest-few : (lots : List ℕ) (most : ℕ) (bids : List BookBid) → AllByRecursion (λ b. is_same b.lots lots ≡ true → b.amount ≤ most) bids
    → greatest lots bids ≤ most
greatest-few lots most [] few = omega arith
greatest-few lots most (b ∷ bids) few =
    elim (cases_Bool (is_same b.lots lots)) [
      | inl same ↦ rw same (omega (arith, few.0 same, greatest-few lots most bids few.1))
      | inr other ↦ rw other (omega (arith, greatest-few lots most bids few.1))
    ]

greatest-left : (lots : List ℕ) (bids more : List BookBid) → greatest lots bids ≤ greatest lots (bids ++ more)
greatest-left lots [] more = omega arith
greatest-left lots (b ∷ bids) more = omega (arith, greatest-left lots bids more)

greatest-last : (b : BookBid) (bids : List BookBid) → b.amount ≤ greatest b.lots (bids ++ b ∷ [])
greatest-last b [] = rw (is_same-refl b.lots) (omega arith)
greatest-last b (c ∷ bids) = omega (arith, greatest-last b bids)

-- what was bid in the last round is at most the highest amount for it
pub highest-last : (before : List OwnRound) (r : OwnRound) (list : List BookBid) → cost_of r.prices r.held ≤ highest (before ++ r ∷ []) list r.held
highest-last before r list =
    elim (cases_Bool (is_empty r.held)) [
      | inl empty ↦ rw empty (omega (arith, cost_of-empty r.prices r.held empty))
      | inr some ↦
          let bids : map clock_bid (before ++ r ∷ []) ≡ map clock_bid before ++ clock_bid r ∷ [] = map-append clock_bid before (r ∷ []) in
          let there : cost_of r.prices r.held ≤ greatest r.held (map clock_bid before ++ clock_bid r ∷ []) =
          greatest-last (clock_bid r) (map clock_bid before) in
          rw (some, bids) (omega (arith, there, greatest-left r.held (map clock_bid before ++ clock_bid r ∷ []) list))
    ]

-- an entry that may be submitted: for the last package, or at most what it costs in the last round, and within its eligibility
pub record IsFair (r : OwnRound) (b : BookBid) : Type 0 where
  pub low : is_same b.lots r.held ≡ false → b.amount ≤ cost_of r.prices b.lots
  pub eligible : is_same b.lots r.held ≡ false → cost_of made_terms.points b.lots ≤ r.eligibility

below-cap : (before : List OwnRound) (r : OwnRound) (list : List BookBid) (b : BookBid) → IsFair r b
    → excess_cap (cap_of false made_terms.points (before ++ r ∷ []) list b.lots) b.amount ≡ None
below-cap before r list b fair =
    let last : last_round (before ++ r ∷ []) ≡ r = last_or-append no_round before r in
    elim (cases_Bool (is_same b.lots r.held)) [
      | inl same ↦ rw (last, same) refl
      | inr other ↦
          let by : constraining (cost_of made_terms.points b.lots) (before ++ r ∷ []) ≡ r = constraining-last (cost_of made_terms.points b.lots) before r
          (fair.eligible other) in
          let within : b.amount ≤ cap_by (before ++ r ∷ []) list r b.lots = omega (arith, fair.low other, highest-last before r list) in
          rw (last, other, by, le-leb b.amount (cap_by (before ++ r ∷ []) list r b.lots) within) refl
    ]

no-excess : (cap : List ℕ → Option ℕ) (entry : ℕ) (bids : List BookBid) → AllByRecursion (λ b. excess_cap (cap b.lots) b.amount ≡ None) bids
    → first_excess cap entry bids ≡ None
no-excess cap entry [] low = refl
no-excess cap entry (b ∷ bids) low = rw low.0 (no-excess cap (suc entry) bids low.1)

each-below : (before : List OwnRound) (r : OwnRound) (list bids : List BookBid) → AllByRecursion (IsFair r) bids
    → AllByRecursion (λ b. excess_cap (cap_of false made_terms.points (before ++ r ∷ []) list b.lots) b.amount ≡ None) bids
each-below before r list [] fair = tt
each-below before r list (b ∷ bids) fair = (below-cap before r list b fair.0, each-below before r list bids fair.1)

-- a list of such entries may be submitted
pub no-fault : (before : List OwnRound) (r : OwnRound) (list : List BookBid) → AllByRecursion (IsFair r) list
    → list_fault false made_terms.points (before ++ r ∷ []) list ≡ None
no-fault before r list fair = no-excess (cap_of false made_terms.points (before ++ r ∷ []) list) 1 list (each-below before r list list fair)

-- ---- lists with one entry more

-- what each entry of a list keeps, and the new one, each keeps of the list with it
pub each-with_entry : (P : BookBid → Type 0) (lots : List ℕ) (amount : ℕ) (list : List BookBid) → AllByRecursion P list
    → P (record { lots = lots; amount = amount }) → AllByRecursion P (with_entry lots amount list)
each-with_entry P lots amount [] each new = (new, tt)
each-with_entry P lots amount (b ∷ list) each new =
    elim (cases_Bool (is_same lots b.lots)) [
      | inl same ↦ rw same (new, each.1)
      | inr other ↦ elim (cases_Bool (is_before lots b.lots)) [
        | inl first ↦ rw (other, first) (new, each)
        | inr later ↦ rw (other, later) (each.0, each-with_entry P lots amount list each.1 new)
      ]
    ]

-- such a list is at most one entry longer
pub length-with_entry : (lots : List ℕ) (amount : ℕ) (list : List BookBid) → length (with_entry lots amount list) ≤ suc (length list)
length-with_entry lots amount [] = omega arith
length-with_entry lots amount (b ∷ list) =
    elim (cases_Bool (is_same lots b.lots)) [
      | inl same ↦ rw same (omega arith)
      | inr other ↦ elim (cases_Bool (is_before lots b.lots)) [
        | inl first ↦ rw (other, first) (omega arith)
        | inr later ↦ rw (other, later) (omega (arith, length-with_entry lots amount list))
      ]
    ]
