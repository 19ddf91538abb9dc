-- A certificate of which its facts can be reported: its choice and its parts are known, and their numbers are small.
use Rattle.std.proofs.Common.{FitsSigned, IsTrue, List, [], ap, arith, eq-eqb, get_or, length, nat_le, of_z, pos, refl, subst, suc, to_z}
use Rattle.std.proofs.Common.{unsigned_abs, ℕ, ℤ, ◌*◌, ◌+ℤ◌, ◌+◌, ◌-ℤ◌, ◌-◌, ◌<◌, ◌^◌, ◌∙◌, ◌∷◌, ◌≡◌, ◌≤ℤ◌, ◌≤◌}
use Rattle.std.specs.Int.{w128}
use Rattle.std.proofs.lemmas.Int.{ints}
use Rattle.std.proofs.lemmas.Bool.{and_from, and_parts, le-leb}
use Rattle.auction_model.specs.Book.{Book, bids_of, market_of, menu_of}
use Rattle.auction_model.specs.Market.{number_of, uses, value_of}
use Rattle.auction_model.specs.Menu.{Menu, is_known_after}
use Rattle.bid_book.specs.Kept.{IsBidBook}
use Rattle.cert_grammar.specs.Certificate.{CertValue, part_of}
use Rattle.cert_soundness.specs.Tests.{bidders_of, won, vickrey_of}
use Rattle.cert_summary.specs.Facts.{HasFacts}
use Rattle.cert_summary.proofs.Ranges.{value-between}

known-from : (m : Menu) (k : ℕ) (z : List ℕ) → k + length z ≡ m.bidders → ((i : ℕ) → i < length z → get_or z i 0 ≤ m.bids (suc k + i))
    → IsTrue (is_known_after m k z)
known-from m k [] e h = eq-eqb k m.bidders (omega (arith, e))
known-from m k (x ∷ z) e h =
    let here : suc k + 0 ≡ suc k = omega arith in
    let own : x ≤ m.bids (suc k) = rw here at (h 0 (omega arith)) in
    and_from (nat_le x (m.bids (suc k))) (is_known_after m (suc k) z) (le-leb x (m.bids (suc k)) own)
    (known-from m (suc k) z (omega (arith, e)) (λ i lt. let same : suc k + suc i ≡ suc (suc k) + i = omega arith in rw same at (h (suc i) (omega arith))))

module _ (book : Book) (c : CertValue) (has : HasFacts book c) where
  -- its choice has a number for each bidder
  pub long : length c.choice ≡ bidders_of book
  long = has.certificate.choice.0

  -- its choice is known
  pub choice-known : IsTrue (is_known_after (menu_of book) 0 c.choice)
  choice-known = known-from (menu_of book) 0 c.choice (omega (arith, long)) (λ i lt.
      let same : suc i - 1 ≡ i = omega arith in
      let place : suc i ≡ suc 0 + i = omega arith in
      let most : number_of c.choice (suc i) ≤ length (bids_of book (suc i)) = (has.choice (suc i)).known (omega arith) (omega (arith, lt, long)) in
      subst (λ (j : ℕ). get_or c.choice i 0 ≤ length (bids_of book j)) place (subst (λ (k : ℕ). get_or c.choice k 0 ≤ length (bids_of book (suc i))) same most))

  -- its value is that of its choice
  pub value-is : value_of (market_of book) c.choice ≡ c.value
  value-is = (has.choice (length book.bidders + 2)).value refl

  -- the winner j
  module _ (j : ℕ) (some : 0 < j) (most : j ≤ length c.choice) (wins : IsTrue (uses c.choice j)) where
    -- it is a bidder of the book
    pub in-book : j ≤ length book.bidders
    in-book = omega (arith, most, long)

    -- its number in the choice is that of one of its bids
    pub number-in : number_of c.choice j ≤ length (bids_of book j)
    number-in = (has.choice j).known some in-book

    -- the choice of its part is known
    pub part-known : IsTrue (is_known_after (menu_of book) 0 (part_of c.withouts j).choice)
    part-known = (and_parts _ _ ((has.parts j).part some in-book wins).allowed).0

    module _ (kept : IsBidBook book) where
      -- in a book within the limits, the value is from 0 to 16 times 2 ^ 42
      pub value-small : (pos 0 ≤ℤ c.value) × (c.value ≤ℤ pos (16 * 2 ^ 42))
      value-small = let v = value-between book kept c.choice choice-known in (omega (arith, ints, value-is, v.0), omega (arith, ints, value-is, v.1))

      -- what its bid is worth is from 0 to 2 ^ 42
      pub won-small : (pos 0 ≤ℤ won book c j) × (won book c j ≤ℤ pos (2 ^ 42))
      won-small = (kept.not_negative j (number_of c.choice j) number-in, kept.most j (number_of c.choice j) number-in)

      -- its Vickrey price is small
      pub vickrey-small : unsigned_abs (vickrey_of book c j) ≤ 2 ^ 47
      vickrey-small =
          let other = value-between book kept (part_of c.withouts j).choice part-known in
          omega (arith, ints, other.0, other.1, value-small.0, value-small.1, won-small.0, won-small.1)

      -- x is the value of the choice without the winner, and n the net amount of its bid
      module _ (x n : ℤ) (value : x ≡ value_of (market_of book) (part_of c.withouts j).choice) (net : n ≡ won book c j) where
        other : (pos 0 ≤ℤ x) × (x ≤ℤ pos (16 * 2 ^ 42))
        other = let v = value-between book kept (part_of c.withouts j).choice part-known in (omega (arith, ints, value, v.0), omega (arith, ints, value, v.1))

        own : (pos 0 ≤ℤ n) × (n ≤ℤ pos (2 ^ 42))
        own = (omega (arith, ints, net, won-small.0), omega (arith, ints, net, won-small.1))

        -- the price is put together without leaving the range
        pub price-fits : FitsSigned w128 (to_z w128 (of_z w128 (to_z w128 (of_z w128 x) -ℤ to_z w128 (of_z w128 c.value))) +ℤ to_z w128 (of_z w128 n))
        price-fits = omega (arith, ints, other.0, other.1, value-small.0, value-small.1, own.0, own.1)

        -- and what is put together is the Vickrey price
        pub price-is : to_z w128 (of_z w128 (to_z w128 (of_z w128 (to_z w128 (of_z w128 x) -ℤ to_z w128 (of_z w128 c.value))) +ℤ to_z w128 (of_z w128 n))) ≡
            vickrey_of book c j
        price-is =
            let sum : to_z w128 (of_z w128 (to_z w128 (of_z w128 (to_z w128 (of_z w128 x) -ℤ to_z w128 (of_z w128 c.value))) +ℤ to_z w128 (of_z w128 n))) ≡
            (x -ℤ c.value) +ℤ n =
            omega (arith, ints, other.0, other.1, value-small.0, value-small.1, own.0, own.1) in
            sum ∙ ap (λ (y : ℤ). (y -ℤ c.value) +ℤ n) value ∙ ap (λ (y : ℤ). (value_of (market_of book) (part_of c.withouts j).choice -ℤ c.value) +ℤ y) net
