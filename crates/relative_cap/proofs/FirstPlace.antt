-- The first place where a package was held.
use Rattle.std.proofs.Common.{List, [], ap, arith, drop, false, get_or, inl, inr, length, subst, suc, sym, true, zero, ℕ, ◌+◌, ◌-◌, ◌<◌, ◌∙◌}
use Rattle.std.proofs.Common.{◌∷◌, ◌≡◌, ◌≤◌}
use Rattle.std.specs.Prelude.{if◌then◌else◌}
use Rattle.std.proofs.lemmas.Bool.{cases_Bool, cond-true, cond-false}
use Rattle.std.proofs.lemmas.List.{length-map, drop_more, drop_all}
use Rattle.auction_model.specs.PackageTests.{is_empty, is_same}
use Rattle.auction_rules.specs.Rounds.{OwnRound}
use Rattle.auction_rules.specs.State.{Round, own_of}
use Rattle.auction_rules.specs.Caps.{no_round}
use Rattle.auction_model.proofs.PackageTestLaws.{is_same-refl, is_same-true}
use Rattle.clock_stage.specs.Kept as kept
use Rattle.relative_cap.specs.OwnRounds.{rounds_of, own_in}
use Rattle.relative_cap.specs.RoundsOfPackage.{first_place, own_place}
use Rattle.relative_cap.proofs.RoundLaws.{own-at, own-before}

-- one round more, counted from the place on
first-step : (history : List Round) (j k : ℕ) (lots held : List ℕ) → k < length history → held ≡ (own_in history j (k + 1)).held
    → first_place (rounds_of j (drop k history)) lots ≡ (if is_same held lots then 0 else suc (first_place (rounds_of j (drop (k + 1) history)) lots))
first-step history j k lots held inside by_held =
    let place : k + 1 - 1 ≡ k = omega arith in
    let own : (own_of j (get_or history k kept.no_round)).held ≡ held = ap (λ m. (own_of j (get_or history m kept.no_round)).held) (sym place) ∙ sym by_held in
    ap (λ (h : List Round). first_place (rounds_of j h) lots) (drop_more history k kept.no_round inside)
    ∙ ap (λ (q : List ℕ). if is_same q lots then 0 else suc (first_place (rounds_of j (drop (k + 1) history)) lots)) own

-- there is none
pub first-none : (history : List Round) (j k : ℕ) (lots : List ℕ) (whole : ℕ) → length history ≤ k → k + first_place
    (rounds_of j (drop k history)) lots ≡ whole → k ≡ whole
first-none history j k lots whole past sum =
    let none : first_place (rounds_of j (drop k history)) lots ≡ 0 = ap (λ (h : List Round). first_place (rounds_of j h) lots) (drop_all k history past) in
    omega (arith, none, sum)

-- at the first place the package was held
first-same : (rounds : List OwnRound) (lots : List ℕ) → first_place rounds lots < length rounds → is_same
    (get_or rounds (first_place rounds lots) no_round).held lots ≡ true
first-same [] lots inside = absurd (omega arith)
first-same (r ∷ rounds) lots inside =
    elim (cases_Bool (is_same r.held lots)) [
      | inl same ↦ subst (λ n. is_same (get_or (r ∷ rounds) n no_round).held lots ≡ true)
          (sym (cond-true (is_same r.held lots) 0 (suc (first_place rounds lots)) same)) same
      | inr apart ↦
          let is : first_place (r ∷ rounds) lots ≡ suc (first_place rounds lots) = cond-false (is_same r.held lots) 0 (suc (first_place rounds lots)) apart in
          subst (λ n. is_same (get_or (r ∷ rounds) n no_round).held lots ≡ true) (sym is) (first-same rounds lots (omega (arith, is, inside)))
    ]

-- in the round at the first place of a package the bidder held it
pub first-held : (history : List Round) (j : ℕ) (lots : List ℕ) → first_place (rounds_of j history) lots < length history
    → (own_in history j (first_place (rounds_of j history) lots + 1)).held ≡ lots
first-held history j lots inside =
    let place : ℕ = first_place (rounds_of j history) lots in
    let count : length (rounds_of j history) ≡ length history = length-map history (own_of j) in
    let next : suc place ≡ place + 1 = omega arith in
    let same : is_same (get_or (rounds_of j history) place no_round).held lots ≡ true = first-same (rounds_of j history) lots (omega (arith, count, inside)) in
    ap (λ n. (own_in history j n).held) (sym next) ∙ sym (ap (λ (o : OwnRound). o.held) (own-before j history place inside))
    ∙ is_same-true (get_or (rounds_of j history) place no_round).held lots same

-- what was held in a round has a first place
first_inside-from : (rounds : List OwnRound) (k : ℕ) → k < length rounds → first_place rounds (get_or rounds k no_round).held < length rounds
first_inside-from [] k inside = absurd (omega arith)
first_inside-from (r ∷ rounds) zero inside =
    let is : first_place (r ∷ rounds) r.held ≡ 0 = cond-true (is_same r.held r.held) 0 (suc (first_place rounds r.held)) (is_same-refl r.held) in
    omega (arith, is)
first_inside-from (r ∷ rounds) (suc k) inside =
    let lots : List ℕ = (get_or rounds k no_round).held in
    let rest : first_place rounds lots < length rounds = first_inside-from rounds k (omega arith) in
    elim (cases_Bool (is_same r.held lots)) [
      | inl same ↦ let is : first_place (r ∷ rounds) lots ≡ 0 = cond-true (is_same r.held lots) 0 (suc (first_place rounds lots)) same in omega (arith, is)
      | inr apart ↦ let is : first_place (r ∷ rounds) lots ≡ suc (first_place rounds lots) = cond-false (is_same r.held lots) 0
          (suc (first_place rounds lots)) apart in omega (arith, is, rest)
    ]

-- what a bidder held in a round has a first place among the rounds
pub first-inside : (history : List Round) (j r : ℕ) → 1 ≤ r → r ≤ length history → first_place (rounds_of j history) (own_in history j r).held < length history
first-inside history j r low high =
    let count : length (rounds_of j history) ≡ length history = length-map history (own_of j) in
    let is : first_place (rounds_of j history) (get_or (rounds_of j history) (r - 1) no_round).held ≡ first_place (rounds_of j history)
    (own_in history j r).held
    = ap (λ (o : OwnRound). first_place (rounds_of j history) o.held) (own-at j history r low high) in
    omega (arith, is, count, first_inside-from (rounds_of j history) (r - 1) (omega (arith, count, low, high)))

-- the place of the empty package, and of another one
pub own-empty : (history : List Round) (j rounds : ℕ) (lots : List ℕ) → is_empty lots ≡ true → rounds ≡ length history → rounds ≡ own_place history j lots
own-empty history j rounds lots empty is = is ∙ sym (cond-true (is_empty lots) (length history) (first_place (rounds_of j history) lots) empty)

-- the place of a package with a lot is the first at which it was held
pub own-some : (history : List Round) (j place : ℕ) (lots : List ℕ) → is_empty lots ≡ false → place ≡ first_place (rounds_of j history) lots
    → place ≡ own_place history j lots
own-some history j place lots some is = is ∙ sym (cond-false (is_empty lots) (length history) (first_place (rounds_of j history) lots) some)
