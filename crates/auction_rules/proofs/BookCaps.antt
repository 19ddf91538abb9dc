-- The bids of a book are within their caps over themselves.
use Rattle.std.proofs.Common.{Bool, List, None, Option, Some, [], ap, arith, false, inl, inr, map, max, min, not, refl, suc, sym, true, ℕ, ◌++◌, ◌+◌}
use Rattle.std.proofs.Common.{◌-◌, ◌<◌, ◌||◌, ◌∙◌, ◌∷◌, ◌≡◌, ◌≤◌}
use Rattle.std.specs.Prelude.{if◌then◌else◌, filter, nat_le, ◌==◌}
use Rattle.std.proofs.lemmas.Bool.{cases_Bool, cond-true, cond-false, leb-true, leb-false, le-leb, eqb-true, and_parts}
use Rattle.auction_model.specs.Book.{BookBid}
use Rattle.auction_model.specs.Package.{cost_of}
use Rattle.auction_model.specs.PackageTests.{is_before, is_empty, is_same}
use Rattle.auction_rules.specs.Step.{last_or}
use Rattle.auction_rules.specs.Rounds.{OwnRound}
use Rattle.auction_rules.specs.Caps.{cap_among, cap_by, cap_of, clock_bid, constraining, enough, excess_cap, excess_or, first_excess, greatest}
use Rattle.auction_rules.specs.Caps.{highest, last_round, list_fault, no_round}
use Rattle.auction_rules.specs.Lines.{placed, in_order, priced}
use Rattle.auction_rules.specs.BookOfLog.{bid_lots, best_bids}
use Rattle.auction_model.proofs.PackageTestLaws.{is_same-refl, is_same-true}
use Rattle.auction_rules.proofs.Agree.{Some-injective}

-- the greatest amount for a package over two lists is the greater of those over each
pub greatest-append : (lots : List ℕ) (xs ys : List BookBid) → greatest lots (xs ++ ys) ≡ max (greatest lots xs) (greatest lots ys)
greatest-append lots [] ys = omega arith
greatest-append lots (b ∷ xs) ys = omega (arith, greatest-append lots xs ys)

-- the package is among the packages
abbrev pub among : List ℕ → List (List ℕ) → Bool
among lots [] = false
among lots (p ∷ ps) = is_same p lots || among lots ps

or_twice : (a b : Bool) → (a || b) ≡ (a || (a || b))
or_twice true b = refl
or_twice false b = refl

or_swap : (a b c : Bool) → (a || (b || c)) ≡ (b || (a || c))
or_swap true true c = refl
or_swap true false c = refl
or_swap false true c = refl
or_swap false false c = refl

placed-apart : (lots x p : List ℕ) (ps : List (List ℕ)) (first : Bool) → among lots (placed x ps) ≡ (is_same x lots || among lots ps)
    → among lots (if first then x ∷ p ∷ ps else p ∷ placed x ps) ≡ (is_same x lots || (is_same p lots || among lots ps))
placed-apart lots x p ps true h = refl
placed-apart lots x p ps false h = ap (λ (b : Bool). is_same p lots || b) h ∙ or_swap (is_same p lots) (is_same x lots) (among lots ps)

among-placed : (lots x : List ℕ) (ps : List (List ℕ)) → among lots (placed x ps) ≡ (is_same x lots || among lots ps)
among-placed lots x [] = refl
among-placed lots x (p ∷ ps) =
    elim (cases_Bool (is_same x p)) [
      | inl same ↦ ap (among lots) (cond-true (is_same x p) (p ∷ ps) _ same)
          ∙ or_twice (is_same p lots) (among lots ps)
          ∙ ap (λ (q : List ℕ). is_same q lots || (is_same p lots || among lots ps)) (sym (is_same-true x p same))
      | inr apart ↦ ap (among lots) (cond-false (is_same x p) (p ∷ ps) _ apart) ∙ placed-apart lots x p ps (is_before x p) (among-placed lots x ps)
    ]

-- a package is among packages put in order exactly if it is among these packages
pub among-in_order : (lots : List ℕ) (ps : List (List ℕ)) → among lots (in_order ps) ≡ among lots ps
among-in_order lots [] = refl
among-in_order lots (p ∷ ps) = among-placed lots p (in_order ps) ∙ ap (λ (b : Bool). is_same p lots || b) (among-in_order lots ps)

-- the greatest amount of a list of packages with their greatest amounts
greatest-priced : (lots : List ℕ) (bids : List BookBid) (ps : List (List ℕ)) → greatest lots (priced (λ p. Some (greatest p bids)) ps) ≡
    (if among lots ps then greatest lots bids else 0)
greatest-priced lots bids [] = refl
greatest-priced lots bids (p ∷ ps) =
    elim (cases_Bool (is_same p lots)) [
      | inl same ↦
          let now : greatest p bids ≡ greatest lots bids = ap (λ (q : List ℕ). greatest q bids) (is_same-true p lots same) in
          rw (same, greatest-priced lots bids ps) (elim (cases_Bool (among lots ps))
          [ inl more ↦ rw more (omega (arith, now)) | inr none ↦ rw none (omega (arith, now)) ])
      | inr apart ↦ rw (apart, greatest-priced lots bids ps) (omega arith)
    ]

absent-step : (lots q : List ℕ) (rest : List (List ℕ)) (empty : Bool) → is_same q lots ≡ false → among lots (if not empty then q ∷ rest else rest) ≡ false
    → among lots rest ≡ false
absent-step lots q rest true apart h = h
absent-step lots q rest false apart h = rw apart at h

-- a package that is not empty and is in no bid has no amount
greatest-absent : (lots : List ℕ) (bids : List BookBid) → is_empty lots ≡ false → among lots (filter (λ lots. not (is_empty lots)) (map bid_lots bids)) ≡
    false → greatest lots bids ≡ 0
greatest-absent lots [] some none = refl
greatest-absent lots (b ∷ bids) some none =
    elim (cases_Bool (is_same b.lots lots)) [
      | inl same ↦
          let full : is_empty b.lots ≡ false = ap is_empty (is_same-true b.lots lots same) ∙ some in
          let rest : Bool = among lots (filter (λ lots. not (is_empty lots)) (map bid_lots bids)) in
          let none' : (is_same b.lots lots || rest) ≡ false = rw full at none in
          let no : (true || rest) ≡ false = rw same at none' in cc
      | inr apart ↦ let later : greatest lots bids ≡ 0 = greatest-absent lots bids some
          (absent-step lots b.lots (filter (λ lots. not (is_empty lots)) (map bid_lots bids)) (is_empty b.lots) apart none) in rw apart (omega (arith, later))
    ]

-- the bids of a book have the greatest amounts
pub greatest-best_bids : (lots : List ℕ) (bids : List BookBid) → is_empty lots ≡ false → greatest lots (best_bids bids) ≡ greatest lots bids
greatest-best_bids lots bids some =
    let ps : List (List ℕ) = filter (λ lots. not (is_empty lots)) (map bid_lots bids) in
    greatest-priced lots bids (in_order ps)
    ∙ elim (cases_Bool (among lots (in_order ps))) [
      | inl there ↦ cond-true (among lots (in_order ps)) (greatest lots bids) 0 there
      | inr absent ↦ cond-false (among lots (in_order ps)) (greatest lots bids) 0 absent
          ∙ sym (greatest-absent lots bids some (sym (among-in_order lots ps) ∙ absent))
    ]

-- the highest amounts over the bids of the book are those over the submitted list
pub highest-best_bids : (rounds : List OwnRound) (list : List BookBid) (lots : List ℕ) → highest rounds
    (best_bids (map clock_bid rounds ++ list)) lots ≡ highest rounds list lots
highest-best_bids rounds list lots =
    elim (cases_Bool (is_empty lots)) [
      | inl empty ↦ cond-true (is_empty lots) 0 _ empty ∙ sym (cond-true (is_empty lots) 0 _ empty)
      | inr some ↦
          let clock : List BookBid = map clock_bid rounds in
          let a : greatest lots (clock ++ best_bids (clock ++ list)) ≡ max (greatest lots clock) (greatest lots (best_bids (clock ++ list))) =
          greatest-append lots clock (best_bids (clock ++ list)) in
          let b : greatest lots (best_bids (clock ++ list)) ≡ greatest lots (clock ++ list) = greatest-best_bids lots (clock ++ list) some in
          let c : greatest lots (clock ++ list) ≡ max (greatest lots clock) (greatest lots list) = greatest-append lots clock list in
          cond-false (is_empty lots) 0 _ some ∙ (omega (arith, a, b, c)) ∙ sym (cond-false (is_empty lots) 0 _ some)
    ]

-- whether a package has a cap, and which, is the same over the book's bids as over the submitted list
pub cap_of-best_bids : (final_cap : Bool) (points : List ℕ) (rounds : List OwnRound) (list : List BookBid) (lots : List ℕ)
    → cap_of final_cap points rounds (best_bids (map clock_bid rounds ++ list)) lots ≡ cap_of final_cap points rounds list lots
cap_of-best_bids final_cap points rounds list lots = ap (λ (a : ℕ). if is_same lots (last_round rounds).held then None else Some a) (among final_cap)
  where
    by : (r : OwnRound) → cap_by rounds (best_bids (map clock_bid rounds ++ list)) r lots ≡ cap_by rounds list r lots
    by r = ap (λ (h : ℕ). h + cost_of r.prices lots - cost_of r.prices r.held) (highest-best_bids rounds list r.held)

    among : (final_cap : Bool)
        → cap_among final_cap points rounds (best_bids (map clock_bid rounds ++ list)) lots ≡ cap_among final_cap points rounds list lots
    among true =
        let others : List BookBid = best_bids (map clock_bid rounds ++ list) in
        ap (λ (n : ℕ). min n (cap_by rounds others (last_round rounds) lots)) (by (constraining (cost_of points lots) rounds))
        ∙ ap (min (cap_by rounds list (constraining (cost_of points lots) rounds) lots)) (by (last_round rounds))
    among false = by (constraining (cost_of points lots) rounds)

-- Rounds whose prices never fall, and in which the bidder is eligible for what it holds.
pub data RisesTo : OwnRound → OwnRound → Type 0 where
  rises : {r s : OwnRound} → ((lots : List ℕ) → cost_of r.prices lots ≤ cost_of s.prices lots) → RisesTo r s

abbrev pub RisesToEach : OwnRound → List OwnRound → Type 0
RisesToEach r [] = Unit {0}
RisesToEach r (s ∷ rounds) = RisesTo r s × RisesToEach r rounds

abbrev pub AreRising : List OwnRound → Type 0
AreRising [] = Unit {0}
AreRising (r ∷ rounds) = RisesToEach r rounds × AreRising rounds

abbrev pub AreEligible : List ℕ → List OwnRound → Type 0
AreEligible points [] = Unit {0}
AreEligible points (r ∷ rounds) = (cost_of points r.held ≤ r.eligibility) × AreEligible points rounds

rise : (r s : OwnRound) (lots : List ℕ) → RisesTo r s → cost_of r.prices lots ≤ cost_of s.prices lots
rise r s lots (rises h) = h lots

own_at : (r : OwnRound) (lots : List ℕ) → (if is_same r.held lots then cost_of r.prices r.held else 0) ≤ cost_of r.prices lots
own_at r lots =
    elim (cases_Bool (is_same r.held lots)) [
      | inl same ↦ let h : cost_of r.prices r.held ≡ cost_of r.prices lots = ap (cost_of r.prices) (is_same-true r.held lots same) in rw same (omega (arith, h))
      | inr apart ↦ rw apart (omega arith)
    ]

own_none : (points : List ℕ) (r : OwnRound) (lots : List ℕ) → cost_of points r.held ≤ r.eligibility → nat_le (cost_of points lots) r.eligibility ≡ false
    → (if is_same r.held lots then cost_of r.prices r.held else 0) ≡ 0
own_none points r lots eligible short =
    elim (cases_Bool (is_same r.held lots)) [
      | inl same ↦ let h : cost_of points r.held ≡ cost_of points lots = ap (cost_of points) (is_same-true r.held lots same) in
          let less : r.eligibility < cost_of points lots = leb-false (cost_of points lots) r.eligibility short in absurd (omega (arith, h, less, eligible))
      | inr apart ↦ rw apart refl
    ]

-- a clock bid for the package is at most its price in the last of the rounds that are enough for its points; d is a round
-- before these
floors : (points lots : List ℕ) (d : OwnRound) (rounds : List OwnRound) → RisesToEach d rounds → AreRising rounds → AreEligible points rounds
    → (cost_of d.prices lots ≤ cost_of (last_or d (enough (cost_of points lots) rounds)).prices lots)
    × (greatest lots (map clock_bid rounds) ≤ cost_of (last_or d (enough (cost_of points lots) rounds)).prices lots)
floors points lots d [] first rising eligible = (omega arith, omega arith)
floors points lots d (r ∷ rounds) first rising eligible =
    elim (cases_Bool (nat_le (cost_of points lots) r.eligibility)) [
      | inl long ↦
          let later : (cost_of r.prices lots ≤ cost_of (last_or r (enough (cost_of points lots) rounds)).prices lots)
          × (greatest lots (map clock_bid rounds) ≤ cost_of (last_or r (enough (cost_of points lots) rounds)).prices lots) =
          floors points lots r rounds rising.0 rising.1 eligible.1 in
          let up : cost_of d.prices lots ≤ cost_of r.prices lots = rise d r lots first.0 in
          let own : (if is_same r.held lots then cost_of r.prices r.held else 0) ≤ cost_of r.prices lots = own_at r lots in
          rw long (omega (arith, later.0, up), omega (arith, later.0, later.1, own))
      | inr short ↦
          let later : (cost_of d.prices lots ≤ cost_of (last_or d (enough (cost_of points lots) rounds)).prices lots)
          × (greatest lots (map clock_bid rounds) ≤ cost_of (last_or d (enough (cost_of points lots) rounds)).prices lots) =
          floors points lots d rounds first.1 rising.1 eligible.1 in
          let own : (if is_same r.held lots then cost_of r.prices r.held else 0) ≡ 0 = own_none points r lots eligible.0 short in
          rw short (later.0, omega (arith, later.1, own))
    ]

-- and at most its price in the last of the rounds
floors_last : (lots : List ℕ) (d : OwnRound) (rounds : List OwnRound) → RisesToEach d rounds → AreRising rounds
    → (cost_of d.prices lots ≤ cost_of (last_or d rounds).prices lots) × (greatest lots (map clock_bid rounds) ≤ cost_of (last_or d rounds).prices lots)
floors_last lots d [] first rising = (omega arith, omega arith)
floors_last lots d (r ∷ rounds) first rising =
    let later : (cost_of r.prices lots ≤ cost_of (last_or r rounds).prices lots)
    × (greatest lots (map clock_bid rounds) ≤ cost_of (last_or r rounds).prices lots) = floors_last lots r rounds rising.0 rising.1 in
    let up : cost_of d.prices lots ≤ cost_of r.prices lots = rise d r lots first.0 in
    let own : (if is_same r.held lots then cost_of r.prices r.held else 0) ≤ cost_of r.prices lots = own_at r lots in
    (omega (arith, later.0, up), omega (arith, later.0, later.1, own))

-- what holds of each round, and of d, holds of the last of those that are enough
abbrev EachRound : (OwnRound → Type 0) → List OwnRound → Type 0
EachRound P [] = Unit {0}
EachRound P (r ∷ rounds) = P r × EachRound P rounds

EachRound-last_enough : (P : OwnRound → Type 0) (n : ℕ) (d : OwnRound) (rounds : List OwnRound) → P d → EachRound P rounds → P (last_or d (enough n rounds))
EachRound-last_enough P n d [] h each = h
EachRound-last_enough P n d (r ∷ rounds) h each =
    elim (cases_Bool (nat_le n r.eligibility)) [
      | inl long ↦ rw long (EachRound-last_enough P n r rounds each.0 each.1)
      | inr short ↦ rw short (EachRound-last_enough P n d rounds h each.1)
    ]

EachRound-last : (P : OwnRound → Type 0) (d : OwnRound) (rounds : List OwnRound) → P d → EachRound P rounds → P (last_or d rounds)
EachRound-last P d [] h each = h
EachRound-last P d (r ∷ rounds) h each = EachRound-last P r rounds each.0 each.1

EachRound-weaker : (P Q : OwnRound → Type 0) (rounds : List OwnRound) → ((r : OwnRound) → P r → Q r) → EachRound P rounds → EachRound Q rounds
EachRound-weaker P Q [] weaker each = tt
EachRound-weaker P Q (r ∷ rounds) weaker each = (weaker r each.0, EachRound-weaker P Q rounds weaker each.1)

-- each clock bid is among the bids
clock_bids-there : (rounds : List OwnRound) (list : List BookBid) → EachRound (λ r. cost_of r.prices r.held ≤ greatest r.held (map clock_bid rounds ++ list))
    rounds
clock_bids-there [] list = tt
clock_bids-there (r ∷ rounds) list =
    let own : (if is_same r.held r.held then cost_of r.prices r.held else 0) ≡ cost_of r.prices r.held =
    cond-true (is_same r.held r.held) (cost_of r.prices r.held) 0 (is_same-refl r.held) in (
      omega (arith, own),
      EachRound-weaker (λ s. cost_of s.prices s.held ≤ greatest s.held (map clock_bid rounds ++ list))
          (λ s. cost_of s.prices s.held ≤ greatest s.held (map clock_bid (r ∷ rounds) ++ list)) rounds (λ s h. omega (arith, h)) (clock_bids-there rounds list),
    )

-- the empty package costs nothing at any prices
pub cost_of-empty : (prices lots : List ℕ) → is_empty lots ≡ true → cost_of prices lots ≡ 0
cost_of-empty [] lots h = refl
cost_of-empty (p ∷ prices) [] h = refl
cost_of-empty (p ∷ prices) (a ∷ lots) h =
    let both : ((a == 0) ≡ true) × (is_empty lots ≡ true) = and_parts (a == 0) (is_empty lots) h in
    rw (eqb-true a 0 both.0, cost_of-empty prices lots both.1) (omega arith)

-- what is held in a round has at least its price as its highest amount
abbrev IsFloored : List OwnRound → List BookBid → OwnRound → Type 0
IsFloored rounds list r = cost_of r.prices r.held ≤ highest rounds list r.held

IsFloored-there : (rounds : List OwnRound) (list : List BookBid) (r : OwnRound) → cost_of r.prices r.held ≤ greatest r.held (map clock_bid rounds ++ list)
    → IsFloored rounds list r
IsFloored-there rounds list r h =
    elim (cases_Bool (is_empty r.held)) [
      | inl empty ↦ let e : highest rounds list r.held ≡ 0 = cond-true (is_empty r.held) 0 _ empty in omega (arith, cost_of-empty r.prices r.held empty)
      | inr some ↦ let e : highest rounds list r.held ≡ greatest r.held (map clock_bid rounds ++ list) = cond-false (is_empty r.held) 0 _ some in
          omega (arith, e, h)
    ]

each_floored : (rounds : List OwnRound) (list : List BookBid) → EachRound (IsFloored rounds list) rounds
each_floored rounds list = EachRound-weaker (λ r. cost_of r.prices r.held ≤ greatest r.held (map clock_bid rounds ++ list)) (IsFloored rounds list) rounds
    (λ r h. IsFloored-there rounds list r h) (clock_bids-there rounds list)

no_round-floored : (rounds : List OwnRound) (list : List BookBid) → IsFloored rounds list no_round
no_round-floored rounds list = omega arith

cap_by-floor : (rounds : List OwnRound) (list : List BookBid) (r : OwnRound) (lots : List ℕ) → IsFloored rounds list r
    → cost_of r.prices lots ≤ cap_by rounds list r lots
cap_by-floor rounds list r lots h = omega (arith, h)

no_round-rises : (rounds : List OwnRound) → RisesToEach no_round rounds
no_round-rises [] = tt
no_round-rises (r ∷ rounds) = (rises (λ lots. omega arith), no_round-rises rounds)

cap_cases : (same : Bool) (a least cap : ℕ) → (if same then None else Some a) ≡ Some cap → least ≤ a → least ≤ cap
cap_cases true a least cap h low = cc
cap_cases false a least cap h low = let e : a ≡ cap = Some-injective h in omega (arith, e, low)

among-least : (final_cap : Bool) (points : List ℕ) (rounds : List OwnRound) (list : List BookBid) (lots : List ℕ) (least : ℕ)
    → least ≤ cap_by rounds list (constraining (cost_of points lots) rounds) lots
    → least ≤ cap_by rounds list (last_round rounds) lots → least ≤ cap_among final_cap points rounds list lots
among-least true points rounds list lots least low low' = omega (arith, low, low')
among-least false points rounds list lots least low low' = low

-- a clock bid is within the cap
pub clock-within_cap : (final_cap : Bool) (points : List ℕ) (rounds : List OwnRound) (list : List BookBid) (lots : List ℕ) (cap : ℕ) → AreRising rounds
    → AreEligible points rounds
    → cap_of final_cap points rounds list lots ≡ Some cap → greatest lots (map clock_bid rounds) ≤ cap
clock-within_cap final_cap points rounds list lots cap rising eligible h =
    let n : OwnRound = constraining (cost_of points lots) rounds in
    let f : OwnRound = last_round rounds in
    let below_n : greatest lots (map clock_bid rounds) ≤ cost_of n.prices lots =
    (floors points lots no_round rounds (no_round-rises rounds) rising eligible).1 in
    let below_f : greatest lots (map clock_bid rounds) ≤ cost_of f.prices lots = (floors_last lots no_round rounds (no_round-rises rounds) rising).1 in
    let floor_n : cost_of n.prices lots ≤ cap_by rounds list n lots = cap_by-floor rounds list n lots
    (EachRound-last_enough (IsFloored rounds list) (cost_of points lots) no_round rounds (no_round-floored rounds list) (each_floored rounds list)) in
    let floor_f : cost_of f.prices lots ≤ cap_by rounds list f lots = cap_by-floor rounds list f lots
    (EachRound-last (IsFloored rounds list) no_round rounds (no_round-floored rounds list) (each_floored rounds list)) in
    cap_cases (is_same lots (last_round rounds).held) (cap_among final_cap points rounds list lots) (greatest lots (map clock_bid rounds)) cap h
    (among-least final_cap points rounds list lots (greatest lots (map clock_bid rounds)) (omega (arith, below_n, floor_n)) (omega (arith, below_f, floor_f)))

-- a valid list is within its caps
excess-within : (o : Option ℕ) (amount entry : ℕ) (later : Option (ℕ × ℕ)) (cap : ℕ) → excess_or entry (excess_cap o amount) later ≡ None → o ≡ Some cap
    → amount ≤ cap
excess-within None amount entry later cap h e = cc
excess-within (Some c) amount entry later cap h e =
    let same : c ≡ cap = Some-injective e in
    elim (cases_Bool (nat_le amount c)) [
      | inl within ↦ let le : amount ≤ c = leb-true amount c within in omega (arith, le, same)
      | inr above ↦ let no : excess_or entry (Some c) later ≡ None = rw above at h in cc
    ]

excess-later : (o : Option ℕ) (entry : ℕ) (later : Option (ℕ × ℕ)) → excess_or entry o later ≡ None → later ≡ None
excess-later None entry later h = h
excess-later (Some c) entry later h = cc

-- if no entry is above its cap, the greatest amount for a package that has a cap is at most this cap
pub list-within_cap : (cap_at : List ℕ → Option ℕ) (entry : ℕ) (bids : List BookBid) (lots : List ℕ) (cap : ℕ) → first_excess cap_at entry bids ≡ None
    → cap_at lots ≡ Some cap → greatest lots bids ≤ cap
list-within_cap cap_at entry [] lots cap valid h = omega arith
list-within_cap cap_at entry (b ∷ bids) lots cap valid h =
    let later : greatest lots bids ≤ cap = list-within_cap cap_at (suc entry) bids lots cap (excess-later (excess_cap (cap_at b.lots) b.amount) entry _ valid)
    h in
    elim (cases_Bool (is_same b.lots lots)) [
      | inl same ↦
          let here : b.amount ≤ cap = excess-within (cap_at b.lots) b.amount entry _ cap valid (ap cap_at (is_same-true b.lots lots same) ∙ h) in
          let own : (if is_same b.lots lots then b.amount else 0) ≡ b.amount = cond-true (is_same b.lots lots) b.amount 0 same in
          omega (arith, later, here, own)
      | inr apart ↦ let own : (if is_same b.lots lots then b.amount else 0) ≡ 0 = cond-false (is_same b.lots lots) b.amount 0 apart in omega (arith, later, own)
    ]

-- a list of amounts within the caps is valid
within-excess : (o : Option ℕ) (amount : ℕ) → ((cap : ℕ) → o ≡ Some cap → amount ≤ cap) → excess_cap o amount ≡ None
within-excess None amount h = refl
within-excess (Some c) amount h = cond-true (nat_le amount c) None (Some c) (le-leb amount c (h c refl))

-- amounts that all are within the caps make a valid list
within-first_excess : (cap_at : List ℕ → Option ℕ) (amount : List ℕ → ℕ) (entry : ℕ) (ps : List (List ℕ))
    → ((p : List ℕ) (cap : ℕ) → cap_at p ≡ Some cap → amount p ≤ cap)
    → first_excess cap_at entry (priced (λ p. Some (amount p)) ps) ≡ None
within-first_excess cap_at amount entry [] within = refl
within-first_excess cap_at amount entry (p ∷ ps) within =
    ap (λ (o : Option ℕ). excess_or entry o (first_excess cap_at (suc entry) (priced (λ p. Some (amount p)) ps)))
    (within-excess (cap_at p) (amount p) (within p))
    ∙ within-first_excess cap_at amount (suc entry) ps within

-- The bids of a book are a valid list: each is at most its cap over the book's own bids, except for what is held in the final round.
pub list_fault-best_bids : (final_cap : Bool) (points : List ℕ) (rounds : List OwnRound) (list : List BookBid) → AreRising rounds → AreEligible points rounds
    → list_fault final_cap points rounds list ≡ None → list_fault final_cap points rounds (best_bids (map clock_bid rounds ++ list)) ≡ None
list_fault-best_bids final_cap points rounds list rising eligible valid =
    let all : List BookBid = map clock_bid rounds ++ list in
    within-first_excess (cap_of final_cap points rounds (best_bids all)) (λ p. greatest p all) 1 _
    (λ p cap h.
    let same : cap_of final_cap points rounds list p ≡ Some cap = sym (cap_of-best_bids final_cap points rounds list p) ∙ h in
    let clock : greatest p (map clock_bid rounds) ≤ cap = clock-within_cap final_cap points rounds list p cap rising eligible same in
    let given : greatest p list ≤ cap = list-within_cap (cap_of final_cap points rounds list) 1 list p cap valid same in
    omega (arith, clock, given, greatest-append p (map clock_bid rounds) list))
