-- The JSON of an outcome depends on the points, the Vickrey prices and the turns alone.
use Rattle.std.proofs.Common.{List, None, Option, Some, [], ap, arith, codes, length, pos, subst, suc, sym, zero, ℕ, ℤ, ◌*ℤ◌, ◌++◌, ◌+ℤ◌, ◌+◌, ◌<◌}
use Rattle.std.proofs.Common.{◌∙◌, ◌∷◌, ◌≡◌, ◌≤ℤ◌, ◌≤◌}
use Rattle.std.proofs.lemmas.List.{append_cancel_right}
use Rattle.serde_json.specs.Data.{Data, Members, array, member, object, string}
use Rattle.serde_json.specs.View.{items_of}
use Rattle.serde_json.specs.Written.{compact_text}
use Rattle.auction_model.specs.Book.{Book, bid_of, bidder_of, market_of}
use Rattle.auction_model.specs.Lawful.{IsMarket}
use Rattle.auction_model.specs.Market.{Market, value_of}
use Rattle.auction_model.specs.Prices.{AreVickreyPrices, Point, SamePoint, everyone}
use Rattle.auction_model.specs.PricingRun.{BidderTurn, IsPricingRun}
use Rattle.print_grammar.specs.Json.{AreLastMembers, AreRounds, AreWinners, IsOutcomeJson, amount_json, winner_json, with_winners}
use Rattle.print_grammar.specs.Prices.{reserve_of, gross_of}
use Rattle.print_grammar.proofs.FractionLaws.{one-text}
use Rattle.print_grammar.proofs.PriceTextLaws.{same-gross}
use Rattle.print_grammar.proofs.RunTextLaws.{same-line, same-runs}
use Rattle.print_grammar.proofs.SameTurns.{AreSameTurns}
use Rattle.print_grammar.proofs.Sums.{sums}

-- the rounds of the same turns
module _ (m : Market) (z : List ℕ) (long : length z ≡ m.bidders) where
  same-rounds : (k : ℕ) (turns others : List BidderTurn) → AreSameTurns m turns others → (a b : List Data) → AreRounds z k turns a → AreRounds z k others b → a ≡ b
  same-rounds k [] [] same a b these those = these ∙ sym those
  same-rounds k [] (other ∷ others) same a b these those = absurd same
  same-rounds k (turn ∷ turns) [] same a b these those = absurd same
  same-rounds k (turn ∷ turns) (other ∷ others) same a b (round, rest, (line, is, own), are, whole) (round', rest', (line', is', own'), are', whole') =
      let lines : line ≡ line' = append_cancel_right line line' (codes "\n") (same-line m z long (suc k) turn other same.0 (line ++ codes "\n")
      (line' ++ codes "\n") is is') in
      let rounds : round ≡ round' = own ∙ ap string lines ∙ sym own' in
      let others : rest ≡ rest' = same-rounds (suc k) turns others same.1 rest rest' are are' in
      whole ∙ ap (λ (d : Data). d ∷ rest) rounds ∙ ap (λ (d : List Data). round' ∷ d) others ∙ sym whole'

-- the members after the revenue
pub last-plain : (z : List ℕ) (winners : List Data) (a b : Members) → AreLastMembers z None winners a → AreLastMembers z None winners b → a ≡ b
last-plain z winners a b these those = these ∙ sym those

-- they are the same for two runs of one choice, with the same winners
pub last-turns : (m : Market) (law : IsMarket m) (w : ℕ → ℕ) (z : List ℕ) (v : ℕ → ℤ) → AreVickreyPrices m z v → (runs others : List BidderTurn)
    → IsPricingRun m w z runs → IsPricingRun m w z others
    → (winners : List Data) (a b : Members) → AreLastMembers z (Some runs) winners a → AreLastMembers z (Some others) winners b → a ≡ b
last-turns m law w z v prices runs others x y winners a b these those =
    let rounds : these.0 ≡ those.0 = same-rounds m z (law.lengths z x.winning.passed) 0 runs others (same-runs m law w z v prices runs others x y) these.0
    those.0 these.1 those.1 in
    these.2 ∙ ap (λ (i : List Data). member (codes "rounds") (array (items_of i)) (with_winners winners)) rounds ∙ sym those.2

module _ (book : Book) (z : List ℕ) (v w : ℕ → ℤ) (p q : Point) (dp : pos 1 ≤ℤ p.den) (dq : pos 1 ≤ℤ q.den) (same : SamePoint (market_of book) p q)
    (agree : (j : ℕ) → 0 < j → j ≤ (market_of book).bidders → v j ≡ w j) where
  gross : (j : ℕ) → 0 < j → j ≤ (market_of book).bidders → gross_of book z p j *ℤ q.den ≡ gross_of book z q j *ℤ p.den
  gross = same-gross book z v w p q dp dq same agree

  same-winner : (k i : ℕ) (pays pays' : List ℕ) (rest rest' : List Data) → suc k ≤ (market_of book).bidders → pays ≡ pays' → rest ≡ rest'
      → winner_json (bidder_of book (suc k)).name (bid_of book (suc k) (suc i)) (v (suc k) +ℤ reserve_of book (suc k) (suc i)) pays ∷ rest
      ≡ winner_json (bidder_of book (suc k)).name (bid_of book (suc k) (suc i)) (w (suc k) +ℤ reserve_of book (suc k) (suc i)) pays' ∷ rest'
  same-winner k i pays pays' rest rest' inside e f =
      ap (λ (x : ℤ). winner_json (bidder_of book (suc k)).name (bid_of book (suc k) (suc i)) (x +ℤ reserve_of book (suc k) (suc i)) pays ∷ rest)
      (agree (suc k) (omega arith) inside)
      ∙ ap (λ (l : List ℕ). winner_json (bidder_of book (suc k)).name (bid_of book (suc k) (suc i)) (w (suc k) +ℤ reserve_of book (suc k) (suc i)) l ∷ rest) e
      ∙ ap (λ (r : List Data). winner_json (bidder_of book (suc k)).name (bid_of book (suc k) (suc i))
      (w (suc k) +ℤ reserve_of book (suc k) (suc i)) pays' ∷ r) f

  same-winners : (k : ℕ) (c : List ℕ) (a b : List Data) → k + length c ≡ (market_of book).bidders → AreWinners book z v p k c a → AreWinners book z w q k c b
      → a ≡ b
  same-winners k [] a b long these those = these ∙ sym those
  same-winners k (zero ∷ c) a b long these those = same-winners (suc k) c a b (omega arith) these those
  same-winners k (suc i ∷ c) a b long these those =
      let pays : these.0 ≡ those.0 = one-text _ p.den _ q.den these.0 those.0 dp dq (gross (suc k) (omega arith) (omega arith)) these.2 those.2 in
      let rest : these.1 ≡ those.1 = same-winners (suc k) c these.1 those.1 (omega arith) these.3 those.3 in
      these.4 ∙ same-winner k i these.0 those.0 these.1 those.1 (omega arith) pays rest ∙ sym those.4

  -- if the members after the revenue are the same for the same winners
  pub same-json : (turns others : Option (List BidderTurn)) → ((winners : List Data) (a b : Members) → AreLastMembers z turns winners a
      → AreLastMembers z others winners b → a ≡ b)
      → (t u : List ℕ) → length z ≡ (market_of book).bidders → IsOutcomeJson book z v p turns t → IsOutcomeJson book z w q others u → t ≡ u
  same-json turns others one t u long (d, a, these) (e, b, those) =
      let winners : b.winners ≡ a.winners = sym (same-winners 0 z a.winners b.winners (omega arith) a.are_winners b.are_winners) in
      let all = sums everyone (gross_of book z p) (gross_of book z q) q.den p.den (market_of book).bidders gross in
      let revenue : a.revenue ≡ b.revenue = one-text _ p.den _ q.den a.revenue b.revenue dp dq all a.is_revenue b.is_revenue in
      let last : a.last ≡ b.last = one a.winners a.last b.last a.are_last (subst (λ (i : List Data). AreLastMembers z others i b.last) winners b.are_last) in
      let net = amount_json (value_of (market_of book) z) in
      let same-data : d ≡ e =
      a.whole
      ∙ ap (λ (l : List ℕ). object (member (codes "net") net (member (codes "revenue") (string l) a.last))) revenue
      ∙ ap (λ (r : Members). object (member (codes "net") net (member (codes "revenue") (string b.revenue) r))) last
      ∙ sym b.whole in
      these ∙ ap (λ (x : Data). compact_text x ++ codes "\n") same-data ∙ sym those
