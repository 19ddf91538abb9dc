-- The constraining round and the final round, by the rounds of a history.
use Rattle.std.proofs.Common.{◌≡◌, ℕ, zero, suc, ◌+◌, ◌-◌, ◌<◌, ◌≤◌, List, [], ◌∷◌, length, get_or, refl, sym, ◌∙◌, ap, inl, inr, arith}
use Rattle.std.specs.Prelude.{nat_le}
use Rattle.std.proofs.lemmas.Bool.{cases_Bool, le-leb, lt-leb}
use Rattle.std.proofs.lemmas.List.{length-map, get_or-map}
use Rattle.auction_rules.specs.Step.{last_or}
use Rattle.auction_rules.specs.Rounds.{OwnRound}
use Rattle.auction_rules.specs.State.{Round, own_of}
use Rattle.auction_rules.specs.Caps.{constraining, constraining_number, enough_numbers, last_round, no_round, round_at}
use Rattle.auction_rules.proofs.Constraining.{round_at-constraining_number}
use Rattle.clock_stage.specs.Kept as kept
use Rattle.relative_cap.specs.OwnRounds.{rounds_of, own_in, IsConstraining}

none-enough : (p number d : ℕ) (rounds : List OwnRound) → ((k : ℕ) → k < length rounds → (get_or rounds k no_round).eligibility < p)
    → last_or d (enough_numbers p number rounds) ≡ d
none-enough p number d [] short = refl
none-enough p number d (r ∷ rounds) short =
    rw (lt-leb p r.eligibility (short 0 (omega arith))) (none-enough p (suc number) d rounds (λ k inside. short (suc k) (omega arith)))

-- the last round that is enough, where the first of the rounds has the given number
last-enough : (p number d : ℕ) (rounds : List OwnRound) (i : ℕ) → i < length rounds → p ≤ (get_or rounds i no_round).eligibility
    → ((k : ℕ) → i < k → k < length rounds → (get_or rounds k no_round).eligibility < p) → last_or d (enough_numbers p number rounds) ≡ number + i
last-enough p number d [] i inside long later = absurd (omega arith)
last-enough p number d (r ∷ rounds) zero inside long later =
    rw (le-leb p r.eligibility long) (none-enough p (suc number) number rounds (λ k below. later (suc k) (omega arith) (omega arith)) ∙ (omega arith))
last-enough p number d (r ∷ rounds) (suc i) inside long later =
    let rest : (e : ℕ) → last_or e (enough_numbers p (suc number) rounds) ≡ number + suc i
    = λ e. last-enough p (suc number) e rounds i (omega arith) long (λ k low high. later (suc k) (omega arith) (omega arith)) ∙ (omega arith) in
    elim (cases_Bool (nat_le p r.eligibility)) [
      | inl own ↦ rw own (rest number)
      | inr short ↦ rw short (rest d)
    ]

-- round r as a bidder has it is at place r - 1 of its rounds
pub own-at : (j : ℕ) (history : List Round) (r : ℕ) → 1 ≤ r → r ≤ length history → get_or (rounds_of j history) (r - 1) no_round ≡ own_in history j r
own-at j history r low high = get_or-map (own_of j) history (r - 1) kept.no_round no_round (omega arith)

-- at place k of the rounds of a bidder stands round k + 1
pub own-before : (j : ℕ) (history : List Round) (k : ℕ) → k < length history → get_or (rounds_of j history) k no_round ≡ own_in history j (suc k)
own-before j history k inside =
    let e : suc k - 1 ≡ k = omega arith in
    sym (ap (λ m. get_or (rounds_of j history) m no_round) e) ∙ own-at j history (suc k) (omega arith) (omega arith)

-- the number of the constraining round
pub constraining_number-is :
    (needed : ℕ) (history : List Round) (j r : ℕ) → IsConstraining needed history j r
    → constraining_number needed (rounds_of j history) ≡ r
constraining_number-is needed history j r is =
    let count : length (rounds_of j history) ≡ length history = length-map history (own_of j) in
    last-enough needed 1 0 (rounds_of j history) (r - 1) (omega (arith, is.first, is.last))
    (omega (arith, is.enough, ap (λ (o : OwnRound). o.eligibility) (own-at j history r is.first is.last)))
    (λ k low high. omega (arith, is.later (suc k) (omega arith) (omega arith), ap (λ (o : OwnRound). o.eligibility) (own-before j history k (omega arith))))
    ∙ (omega (arith, is.first))

round_at-place : (rounds : List OwnRound) (r : ℕ) → 1 ≤ r → round_at rounds r ≡ get_or rounds (r - 1) no_round
round_at-place rounds zero low = absurd (omega arith)
round_at-place rounds (suc k) low = let e : k ≡ suc k - 1 = omega arith in ap (λ m. get_or rounds m no_round) e

-- and that round
pub constraining-is :
    (needed : ℕ) (history : List Round) (j r : ℕ) → IsConstraining needed history j r
    → constraining needed (rounds_of j history) ≡ own_in history j r
constraining-is needed history j r is =
    round_at-constraining_number needed (rounds_of j history)
    ∙ ap (round_at (rounds_of j history)) (constraining_number-is needed history j r is)
    ∙ round_at-place (rounds_of j history) r is.first
    ∙ own-at j history r is.first is.last

last_or-place : (d e x : OwnRound) (rest : List OwnRound) → last_or d (x ∷ rest) ≡ get_or (x ∷ rest) (length rest) e
last_or-place d e x [] = refl
last_or-place d e x (y ∷ rest) = last_or-place x e y rest

-- the final round is the last one of the history
pub last_round-is : (history : List Round) (j : ℕ) → 1 ≤ length history → last_round (rounds_of j history) ≡ own_in history j (length history)
last_round-is [] j some = absurd (omega arith)
last_round-is (h ∷ history) j some =
    last_or-place no_round no_round (own_of j h) (rounds_of j history)
    ∙ ap (λ n. get_or (rounds_of j (h ∷ history)) n no_round) (length-map history (own_of j))
    ∙ own-before j (h ∷ history) (length history) (omega arith)
