-- The JSON values of winners and rounds, list by list, and that an outcome has no float.
use Rattle.std.proofs.Common.{List, None, Option, Some, [], ap, append_assoc, arith, codes, drop, false, get_or, length, map, negsuc, pos, refl}
use Rattle.std.proofs.Common.{subst, suc, sym, unsigned_abs, zero, ℕ, ℤ, ◌*◌, ◌++◌, ◌+ℤ◌, ◌+◌, ◌<◌, ◌^◌, ◌∙◌, ◌∷◌, ◌≡◌, ◌≤ℤ◌, ◌≤◌}
use Rattle.std.proofs.lemmas.Int.{ints}
use Rattle.std.proofs.lemmas.List.{append-nil, drop_more}
use Rattle.serde_json.specs.Data.{Data, Members, member, object, string}
use Rattle.serde_json.specs.Find.{is_float, of_integer}
use Rattle.serde_json.specs.View.{items_of}
use Rattle.serde_json.specs.Written.{has_float, items_have_float, members_have_float}
use Rattle.auction_model.specs.Book.{Book, BookBid, bid_of, bidder_of, market_of}
use Rattle.auction_model.specs.Market.{value_of}
use Rattle.auction_model.specs.Prices.{Point}
use Rattle.auction_model.specs.PricingRun.{BidderTurn}
use Rattle.choices.specs.declared.chooser.Single.{Single}
use Rattle.choices.specs.Singles.{winners_after}
use Rattle.core_price.specs.Turns.{turn_of, turns_of}
use Rattle.core_price.specs.declared.priced.Turn.{Turn}
use Rattle.print_grammar.specs.Json.{AreLastMembers, AreRounds, AreWinners, IsOutcome, IsRound, amount_json, count_json, winner_json}
use Rattle.print_grammar.specs.Fractions.{IsFractionText}
use Rattle.print_grammar.specs.Prices.{reserve_of, gross_of, revenue_of}
use Rattle.outcome.specs.declared.prices.WinnerPrice.{WinnerPrice}
use Rattle.outcome.specs.declared.fraction.Fraction.{Fraction}
use Rattle.outcome.specs.Fractions.{IsFractionOf, fraction_text}
use Rattle.outcome.specs.Json.{winner_data}
use Rattle.outcome.specs.Prices.{AreWinnerPrices}
use Rattle.outcome.specs.Printable.{HavePrices}
use Rattle.outcome.proofs.PriceLists.{IsOwn, names, no-winner, some-winner, first-winner, head-of, own-price}
use Rattle.outcome.proofs.TurnLaws.{nothing-left}

-- ---- winners
module _ (book : Book) (z : List ℕ) (v : ℕ → ℤ) (p : Point) where
  own-data : (k i : ℕ) (w : WinnerPrice) → IsOwn book z p v k i w → winner_data book w ≡ winner_json (bidder_of book (suc k)).name
      (bid_of book (suc k) (suc i)) (v (suc k) +ℤ reserve_of book (suc k) (suc i)) (fraction_text w.pays)
  own-data k i w own =
      ap (λ (j : ℕ). winner_json (bidder_of book j).name (bid_of book j w.bid) w.vickrey (fraction_text w.pays)) own.bidder
      ∙ ap (λ (b : ℕ). winner_json (bidder_of book (suc k)).name (bid_of book (suc k) b) w.vickrey (fraction_text w.pays)) own.bid
      ∙ ap (λ (x : ℤ). winner_json (bidder_of book (suc k)).name (bid_of book (suc k) (suc i)) x (fraction_text w.pays)) own.vickrey

  -- their objects are those of the winners
  pub winners-are : (k : ℕ) (c : List ℕ) (ss : List Single) (ws : List WinnerPrice) → c ≡ drop k z → names ss ≡ winners_after k c → HavePrices v ss
      → AreWinnerPrices book z p ss ws → AreWinners book z v p k c (map (winner_data book) ws)
  winners-are k [] [] ws at who have are = ap (map (winner_data book)) are
  winners-are k [] (s ∷ ss) ws at who have are = absurd (no-winner s ss who)
  winners-are k (zero ∷ c) ss ws at who have are = winners-are (suc k) c ss ws (head-of z k zero c at).1 who have are
  winners-are k (suc i ∷ c) [] ws at who have are = absurd (some-winner (suc k) (winners_after (suc k) c) who)
  winners-are k (suc i ∷ c) (s ∷ ss) [] at who have are = absurd are
  winners-are k (suc i ∷ c) (s ∷ ss) (w ∷ ws) at who have are =
      let head = head-of z k (suc i) c at in
      let first = first-winner s ss (suc k) (winners_after (suc k) c) who in (
        fraction_text w.pays,
        map (winner_data book) ws,
        subst (λ (j : ℕ). IsFractionText (gross_of book z p j) p.den (fraction_text w.pays)) first.0
            (w.pays.whole, w.pays.rest, w.pays.parts, are.0.pays_is, refl),
        winners-are (suc k) c ss ws head.1 first.1 have.1 are.1,
        ap (λ (d : Data). d ∷ map (winner_data book) ws) (own-data k i w (own-price book z p v k i s w first.0 head.0 have.0 are.0)),
      )

-- ---- rounds
module _ (z : List ℕ) (turns : List Turn) (i : ℕ) (made : List Data) (so-far : (rest : List Data) → AreRounds z i (turns_of z (drop i turns)) rest
    → AreRounds z 0 (turns_of z turns) (made ++ rest)) where
  -- one round more
  pub next-round : (t : Turn) (new : List Data) (round : Data) → i < length turns → t ≡ get_or turns i t → IsRound z (i + 1) (turn_of z t) round
      → new ≡ made ++ round ∷ []
      → (rest : List Data) → AreRounds z (i + 1) (turns_of z (drop (i + 1) turns)) rest → AreRounds z 0 (turns_of z turns) (new ++ rest)
  next-round t new round inside item is grown rest are =
      let up : i + 1 ≡ suc i = omega arith in
      let split : drop i turns ≡ t ∷ drop (i + 1) turns = drop_more turns i t inside ∙ ap (λ (x : Turn). x ∷ drop (i + 1) turns) (sym item) in
      let own : IsRound z (suc i) (turn_of z t) round = subst (λ (n : ℕ). IsRound z n (turn_of z t) round) up is in
      let tail : AreRounds z (suc i) (turns_of z (drop (i + 1) turns)) rest = subst (λ (n : ℕ). AreRounds z n (turns_of z (drop (i + 1) turns)) rest) up are in
      let all = so-far (round ∷ rest) (subst (λ (l : List Turn). AreRounds z i (turns_of z l) (round ∷ rest)) (sym split) (round, rest, own, tail, refl)) in
      subst (AreRounds z 0 (turns_of z turns)) (regroup made round rest ∙ ap (λ (l : List Data). l ++ rest) (sym grown)) all
    where
      regroup : (a : List Data) (x : Data) (b : List Data) → a ++ x ∷ b ≡ (a ++ x ∷ []) ++ b
      regroup a x b = simp append_assoc

  -- no turn is left
  pub all-rounds : length turns ≤ i → AreRounds z 0 (turns_of z turns) made
  all-rounds past =
      subst (AreRounds z 0 (turns_of z turns)) (append-nil made) (so-far [] (subst (λ (l : List Turn). AreRounds z i (turns_of z l) [])
      (sym (nothing-left i turns past)) refl))

-- ---- no float
counts-whole : (ns : List ℕ) → items_have_float (items_of (map count_json ns)) ≡ false
counts-whole [] = refl
counts-whole (n ∷ ns) = counts-whole ns

amount-whole : (x : ℤ) → is_float (of_integer x) ≡ false
amount-whole (pos n) = refl
amount-whole (negsuc n) = refl

winner-whole : (name : List ℕ) (bid : BookBid) (vickrey : ℤ) (pays : List ℕ) → has_float (winner_json name bid vickrey pays) ≡ false
winner-whole name bid vickrey pays = rw (counts-whole bid.lots, amount-whole vickrey)

winners-whole : (book : Book) (ws : List WinnerPrice) → items_have_float (items_of (map (winner_data book) ws)) ≡ false
winners-whole book [] = refl
winners-whole book (w ∷ ws) = rw (
  winner-whole (bidder_of book w.bidder).name (bid_of book w.bidder w.bid) w.vickrey (fraction_text w.pays),
  winners-whole book ws,
)

rounds-whole : (z : List ℕ) (k : ℕ) (turns : List BidderTurn) (rounds : List Data) → AreRounds z k turns rounds → items_have_float (items_of rounds) ≡ false
rounds-whole z k [] rounds are = ap (λ (l : List Data). items_have_float (items_of l)) are
rounds-whole z k (t ∷ turns) rounds are =
    ap (λ (l : List Data). items_have_float (items_of l)) (are.4 ∙ ap (λ (d : Data). d ∷ are.1) are.2.2) ∙ rounds-whole z (suc k) turns are.1 are.3

-- ---- the whole
-- what its members are has no float and makes an outcome
pub whole-outcome : (book : Book) (z : List ℕ) (p : Point) (ss : List Single) (ws : List WinnerPrice) → names ss ≡ winners_after 0 z
    → AreWinnerPrices book z p ss ws
    → (revenue : Fraction) → IsFractionOf (revenue_of book z p (market_of book).bidders) p.den revenue → (turns : Option (List BidderTurn)) (last : Members)
    → AreLastMembers z turns (map (winner_data book) ws) last
    → (net paid : Data) → net ≡ amount_json (value_of (market_of book) z) → paid ≡ string (fraction_text revenue)
    → (d : Data) → d ≡ object (member (codes "net") net (member (codes "revenue") paid last)) → (has_float d ≡ false)
    × ((v : ℕ → ℤ) → HavePrices v ss → IsOutcome book z v p turns d)
whole-outcome book z p ss ws who are revenue is turns last are_last net paid net-is paid-is d made = (
  ap has_float whole ∙ rw (amount-whole (value_of (market_of book) z), last-whole turns last are_last),
  λ v have. record {
    winners = map (winner_data book) ws;
    are_winners = winners-are book z v p 0 z ss ws refl who have are;
    revenue = fraction_text revenue;
    is_revenue = (revenue.whole, revenue.rest, revenue.parts, is, refl);
    last = last;
    are_last = are_last;
    whole = whole;
  },
)
  where
    whole : d ≡ object (member (codes "net") (amount_json (value_of (market_of book) z)) (member (codes "revenue") (string (fraction_text revenue)) last))
    whole = made ∙ ap (λ (x : Data). object (member (codes "net") x (member (codes "revenue") paid last))) net-is
        ∙ ap (λ (x : Data). object (member (codes "net") (amount_json (value_of (market_of book) z)) (member (codes "revenue") x last))) paid-is

    winners : items_have_float (items_of (map (winner_data book) ws)) ≡ false
    winners = winners-whole book ws

    last-whole : (turns : Option (List BidderTurn)) (last : Members) → AreLastMembers z turns (map (winner_data book) ws) last → members_have_float last ≡ false
    last-whole None last are = ap members_have_float are ∙ rw winners
    last-whole (Some runs) last are = ap members_have_float are.2 ∙ rw (rounds-whole z 0 runs are.0 are.1, winners)

-- the net value is small
pub net-small : (x v : ℤ) → x ≡ v → pos 0 ≤ℤ v → v ≤ℤ pos (16 * 2 ^ 42) → unsigned_abs x < 2 ^ 63
net-small x v e low high = omega (arith, ints, e, low, high)
