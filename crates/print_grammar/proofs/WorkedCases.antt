-- What fractions, prices and turns print, by hand.
use Rattle.std.proofs.Common.{◌≡◌, ℕ, zero, suc, ◌+◌, ◌*◌, List, [], ◌∷◌, Some, None, not, ◌==◌, pos, codes, refl, ap, arith}
use Rattle.std.specs.Fmt.{digits}
use Rattle.serde_json.specs.Data.{Data, Members, member, object, string}
use Rattle.serde_json.proofs.OnLiterals.{serde_json_on_literals}
use Rattle.auction_model.specs.Book.{Book, BookBid}
use Rattle.auction_model.specs.Prices.{Point}
use Rattle.auction_model.specs.PricingRun.{BidderTurn}
use Rattle.print_grammar.specs.Fractions.{IsFractionText, parts_text}
use Rattle.print_grammar.specs.Json.{AreWinners, IsOutcomeJson, amount_json, winner_json, with_winners}
use Rattle.print_grammar.specs.Prices.{IsPriceText}
use Rattle.print_grammar.specs.Turns.{ArePoints, AreTurnLines}

one-left : (g b : ℕ) → 1 ≡ g * b → g ≡ 1
one-left g b e = grind arith

two-three : (g a b : ℕ) → 2 ≡ g * a → 3 ≡ g * b → g ≡ 1
two-three zero a b two three = absurd (omega arith)
two-three (suc zero) a b two three = refl
two-three (suc (suc g)) zero b two three = absurd (omega arith)
two-three (suc (suc g)) (suc a) zero two three = absurd (omega arith)
two-three (suc (suc g)) (suc a) (suc zero) two three = absurd (omega arith)
two-three (suc (suc g)) (suc a) (suc (suc b)) two three = absurd (omega arith)

whole : IsFractionText (pos 33) (pos 3) (codes "11")
unfolding digits
whole = (11, 0, 1, record { value = refl; proper = omega arith; lowest = λ g a b none one. one-left g b one }, refl)

thirds : IsFractionText (pos 11) (pos 3) (codes "3+2/3")
unfolding digits
thirds = (3, 2, 3, record { value = refl; proper = omega arith; lowest = λ g a b two three. two-three g a b two three }, refl)

nothing : IsFractionText (pos 0) (pos 5) (codes "0")
unfolding digits
nothing = (0, 0, 1, record { value = refl; proper = omega arith; lowest = λ g a b none one. one-left g b one }, refl)

half : (n whole : ℕ) (text : List ℕ) → n ≡ whole * 2 + 1 → text ≡ parts_text whole 1 2 → IsFractionText (pos n) (pos 2) text
half n whole text e is = (whole, 1, 2, record { value = ap pos (omega arith); proper = omega arith; lowest = λ g a b one two. one-left g a one }, is)

even : (n whole : ℕ) (text : List ℕ) → n ≡ whole * 2 → text ≡ parts_text whole 0 1 → IsFractionText (pos n) (pos 2) text
even n whole text e is = (whole, 0, 1, record { value = ap pos (omega arith); proper = omega arith; lowest = λ g a b none one. one-left g b one }, is)

bids : ℕ → List BookBid
bids amount = record { lots = 1 ∷ []; amount = amount } ∷ []

-- a reserve of 10, and three bidders for two lots
book : Book
book = record {
  supply = 2 ∷ [];
  reserves = 10 ∷ [];
  bidders = record { name = codes "a"; bids = bids 25 } ∷ record { name = codes "b"; bids = bids 12 } ∷ record { name = codes "c"; bids = bids 30 } ∷ [];
}

-- net they pay 3 and a half, and 4
point : Point
point = record { den = pos 2; at = pos 7 ∷ pos 0 ∷ pos 8 ∷ [] }

prices : IsPriceText book (1 ∷ 0 ∷ 1 ∷ []) (λ j. pos 2) point
    (codes "winner a 1 bid 25 vickrey 12 pays 13+1/2\nwinner c 1 bid 30 vickrey 12 pays 14\nnet 35\nrevenue 27+1/2\n")
unfolding digits book bids point
prices = (
  codes "winner a 1 bid 25 vickrey 12 pays 13+1/2\nwinner c 1 bid 30 vickrey 12 pays 14\n",
  codes "27+1/2",
  (
    codes "13+1/2",
    codes "winner c 1 bid 30 vickrey 12 pays 14\n",
    half 27 13 (codes "13+1/2") refl refl,
    (codes "14", [], even 28 14 (codes "14") refl refl, refl, refl),
    refl,
  ),
  half 55 27 (codes "27+1/2") refl refl,
  refl,
)

-- a coalition blocks once
turns : List BidderTurn
turns =
    record { point = point; block = Some (record { choice = 0 ∷ 1 ∷ 0 ∷ []; row = record { members = λ j. not (j == 2); bound = pos 9 }; excess = pos 3 }) }
    ∷ record { point = point; block = None } ∷ []

lines : AreTurnLines (1 ∷ 0 ∷ 1 ∷ []) 0 turns (codes "round 1 point 3+1/2 4 row 1 3 choice 0 1 0 excess 1+1/2\nround 2 point 3+1/2 4 end\n")
unfolding digits turns point
lines =
    let at : ArePoints point 0 (1 ∷ 0 ∷ 1 ∷ []) (codes " 3+1/2 4") = (
      codes "3+1/2",
      codes " 4",
      half 7 3 (codes "3+1/2") refl refl,
      (codes "4", [], even 8 4 (codes "4") refl refl, refl, refl),
      refl,
    ) in (
      codes "round 1 point 3+1/2 4 row 1 3 choice 0 1 0 excess 1+1/2\n",
      codes "round 2 point 3+1/2 4 end\n",
      (codes " 3+1/2 4", codes " row 1 3 choice 0 1 0 excess 1+1/2\n", at, (codes "1+1/2", half 3 1 (codes "1+1/2") refl refl, refl), refl),
      (codes "round 2 point 3+1/2 4 end\n", [], (codes " 3+1/2 4", codes " end\n", at, refl, refl), refl, refl),
      refl,
    )

-- ---- JSON
first : Data
first = winner_json (codes "a") (record { lots = 1 ∷ []; amount = 25 }) (pos 12) (codes "13+1/2")

second : Data
second = winner_json (codes "c") (record { lots = 1 ∷ []; amount = 30 }) (pos 12) (codes "14")

winners : AreWinners book (1 ∷ 0 ∷ 1 ∷ []) (λ j. pos 2) point 0 (1 ∷ 0 ∷ 1 ∷ []) (first ∷ second ∷ [])
unfolding digits book bids point first second
winners = (codes "13+1/2", second ∷ [], half 27 13 (codes "13+1/2") refl refl, (codes "14", [], even 28 14 (codes "14") refl refl, refl, refl), refl)

-- the members of the outcome after the revenue
rest : Members
rest = with_winners (first ∷ second ∷ [])

json : IsOutcomeJson book (1 ∷ 0 ∷ 1 ∷ []) (λ j. pos 2) point None
    (codes "{\"net\":35,\"revenue\":\"27+1/2\",\"winners\":[{\"bid\":25,\"name\":\"a\",\"package\":[1],\"pays\":\"13+1/2\",\"vickrey\":12},{\"bid\":30,\"name\":\"c\",\"package\":[1],\"pays\":\"14\",\"vickrey\":12}]}\n")
unfolding serde_json_on_literals digits book bids point first second rest
json = (
  object (member (codes "net") (amount_json (pos 35)) (member (codes "revenue") (string (codes "27+1/2")) rest)),
  record {
    winners = first ∷ second ∷ [];
    are_winners = winners;
    revenue = codes "27+1/2";
    is_revenue = half 55 27 (codes "27+1/2") refl refl;
    last = rest;
    are_last = refl;
    whole = refl;
  },
  refl,
)
