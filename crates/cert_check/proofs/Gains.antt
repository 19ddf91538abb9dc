-- What a winner gains at the payments, and its size.
use Rattle.std.specs.Prelude.{◌≡◌, ℕ, ◌+◌, ◌-◌, ◌^◌, true, ◌<◌, ◌≤◌, not, List, get_or, ℤ, pos, ◌-ℤ◌, ◌*ℤ◌, unsigned_abs, refl}
use Rattle.std.proofs.Common.{inl, inr, sym, ap, arith}
use Rattle.std.proofs.lemmas.Bool.{cond-true, cond-false, ne_eqb, cases_Bool}
use Rattle.std.proofs.lemmas.Int.{ints}
use Rattle.auction_model.specs.Book.{Book, market_of, net_of}
use Rattle.auction_model.specs.Lowered.{of_bidder}
use Rattle.auction_model.specs.Market.{number_of, uses, worth_in}
use Rattle.cert_soundness.specs.Tests.{bidders_of}
use Rattle.cert_check.specs.Gains.{CanLower, gain_of}

-- a winner gains the denominator times its net amount, less what it pays
pub gain-won : (book : Book) (den : ℤ) (choice : List ℕ) (pay : List ℤ) (j : ℕ) (net : ℤ) → (number_of choice j ≡ 0 → ⊥)
    → net ≡ net_of book j (number_of choice j)
    → (den *ℤ net) -ℤ get_or pay (j - 1) (pos 0) ≡ gain_of book den choice pay j
gain-won book den choice pay j net some e =
    let used : uses choice j ≡ true = ap not (ne_eqb (number_of choice j) 0 some) in
    rw e (sym (cond-true (uses choice j) ((den *ℤ worth_in (market_of book) choice j) -ℤ of_bidder pay j) (pos 0) used))

-- a loser gains nothing
pub gain-lost : (book : Book) (den : ℤ) (choice : List ℕ) (pay : List ℤ) (j : ℕ) → number_of choice j ≡ 0 → pos 0 ≡ gain_of book den choice pay j
gain-lost book den choice pay j none = rw none refl

abs-less : (a b : ℤ) (m n : ℕ) → unsigned_abs a < m → unsigned_abs b < n → unsigned_abs (a -ℤ b) < m + n
abs-less a b m n h k = omega (arith, ints, h, k)

-- what a bidder gains has at most 121 bits
pub gain-small : (book : Book) (den : ℤ) (choice : List ℕ) (pay : List ℤ) (j : ℕ) → CanLower book den choice pay → 0 < j → j ≤ bidders_of book
    → unsigned_abs (gain_of book den choice pay j) < 2 ^ 121
gain-small book den choice pay j can some inside =
    elim (cases_Bool (uses choice j)) [
      | inl wins ↦ rw (cond-true (uses choice j) ((den *ℤ worth_in (market_of book) choice j) -ℤ of_bidder pay j) (pos 0) wins)
          (abs-less (den *ℤ worth_in (market_of book) choice j) (of_bidder pay j) (2 ^ 120) (2 ^ 120)
          (can.nets j (number_of choice j) some inside (can.known j some inside)) (can.paid j))
      | inr loses ↦ rw (cond-false (uses choice j) ((den *ℤ worth_in (market_of book) choice j) -ℤ of_bidder pay j) (pos 0) loses) (omega arith)
    ]
