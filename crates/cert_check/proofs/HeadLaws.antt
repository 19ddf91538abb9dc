-- What the first three tests say of the amounts of a book.
use Rattle.std.specs.Prelude.{Bool, IsTrue, List, cond, false, length, pos, refl, suc, true, unsigned_abs, zero, ℕ, ℤ, ◌*ℤ◌, ◌+ℤ◌, ◌-ℤ◌, ◌<◌, ◌^◌}
use Rattle.std.specs.Prelude.{◌≡◌, ◌≤ℤ◌, ◌≤◌}
use Rattle.std.proofs.Common.{inl, inr, sym, ◌∙◌, ap, subst, arith}
use Rattle.std.proofs.lemmas.Bool.{cases_lt, cases_Bool, cond-true, cond-false}
use Rattle.std.proofs.lemmas.Int.{ints}
use Rattle.auction_model.specs.Book.{Book, bids_of, market_of, menu_of, net_of}
use Rattle.auction_model.specs.Lawful.{IsMarket}
use Rattle.auction_model.specs.Lowered.{of_bidder}
use Rattle.auction_model.specs.Market.{number_of, uses, value_of, worth_in}
use Rattle.auction_model.specs.Menu.{is_known_after}
use Rattle.auction_model.specs.Prices.{everyone, sum_over}
use Rattle.auction_model.proofs.BookMarket.{fits-known, market-of_book}
use Rattle.bid_book.specs.Kept.{IsBidBook}
use Rattle.core_laws.proofs.Sizes.{worth-nonneg}
use Rattle.core_laws.proofs.Sums.{choice-is, over-is}
use Rattle.wide_num.specs.Sums.{total}
use Rattle.cert_grammar.specs.Certificate.{CertValue, WithoutValue, part_of}
use Rattle.cert_soundness.specs.Tests.{IsPart, bidders_of}
use Rattle.cert_soundness.proofs.Sizes.{net-most}
use Rattle.cert_soundness.proofs.Winning.{allowed, most, value_is}
use Rattle.cert_check.specs.Fields.{AreValuesWithout}
use Rattle.cert_check.specs.Head.{HeadHolds, IsHead}
use Rattle.cert_check.specs.declared.claim.Claim.{Claim}
use Rattle.cert_check.proofs.MemberLaws.{known-number}
use Rattle.cert_check.proofs.Products.{product-small}

-- no bid is above the value
nets-shown : (book : Book) (c : CertValue) → IsBidBook book → length c.choice ≡ bidders_of book → HeadHolds book c
    → (j i : ℕ) → 0 < j → j ≤ bidders_of book → i ≤ length (bids_of book j) → (pos 0 ≤ℤ net_of book j i) × (net_of book j i ≤ℤ c.value)
nets-shown book c kept length_is h zero i some inside known = absurd (omega (arith, some))
nets-shown book c kept length_is h (suc k) zero some inside known = (omega (arith, ints), (h.sizes 2).value refl)
nets-shown book c kept length_is h (suc k) (suc i) some inside known = (
  kept.not_negative (suc k) (suc i) known,
  net-most book c length_is h.choice h.table k (suc i) (omega (arith, inside)) (omega arith) known (kept.within (suc k) i (omega (arith, known))),
)

-- the first three tests show an allowed choice of greatest value, above which no bid is
pub head-shown : (book : Book) (c : CertValue) → IsBidBook book → length c.choice ≡ bidders_of book → HeadHolds book c → IsHead book c.den c.value c.choice
head-shown book c kept length_is h = record {
  count = length_is;
  den_least = (h.sizes 1).den refl;
  value_least = (h.sizes 2).value refl;
  small = (h.sizes 3).size refl;
  allowed = allowed book c length_is h.choice h.table;
  reached = value_is book c length_is h.choice h.table;
  most = λ d t. (let high = most book c length_is h.choice h.table d t in let whole = value_is book c length_is h.choice h.table in
      omega (arith, ints, high, whole));
  nets = nets-shown book c kept length_is h;
}

-- the sum over some bidders of numbers that aren't negative is between 0 and that over all
pub some-sum : (s : ℕ → Bool) (f : ℕ → ℤ) (n : ℕ) → ((j : ℕ) → 0 < j → j ≤ n → pos 0 ≤ℤ f j) → (pos 0 ≤ℤ sum_over s f n)
    × (sum_over s f n ≤ℤ sum_over everyone f n)
some-sum s f zero h = (omega (arith, ints), omega (arith, ints))
some-sum s f (suc n) h =
    let rest = some-sum s f n (λ j some le. h j some (omega arith)) in
    one (s (suc n)) (sum_over s f n) (sum_over everyone f n) (f (suc n)) rest.0 rest.1 (h (suc n) (omega arith) (omega arith))
  where
    one : (b : Bool) (x y z : ℤ) → pos 0 ≤ℤ x → x ≤ℤ y → pos 0 ≤ℤ z → (pos 0 ≤ℤ (x +ℤ cond b z (pos 0))) × ((x +ℤ cond b z (pos 0)) ≤ℤ (y +ℤ z))
    one true x y z p q r = (omega (arith, ints), omega (arith, ints))
    one false x y z p q r = (omega (arith, ints), omega (arith, ints))

-- none of them is above their sum
one-most : (f : ℕ → ℤ) (n j : ℕ) → ((i : ℕ) → 0 < i → i ≤ n → pos 0 ≤ℤ f i) → 0 < j → j ≤ n → f j ≤ℤ sum_over everyone f n
one-most f zero j h some le = absurd (omega (arith, some, le))
one-most f (suc n) j h some le =
    let own = h (suc n) (omega arith) (omega arith) in
    let below = (some-sum everyone f n (λ i si li. h i si (omega (arith, li)))).0 in
    elim (cases_lt j (suc n)) [
      | inl earlier ↦ (let rest = one-most f n j (λ i si li. h i si (omega (arith, li))) some (omega (arith, earlier)) in
          up (f j) (sum_over everyone f n) (f (suc n)) rest own)
      | inr here ↦ (let same : suc n ≡ j = omega (arith, le, here) in subst (λ (x : ℕ). f x ≤ℤ (sum_over everyone f n +ℤ f (suc n))) same
          (last (sum_over everyone f n) (f (suc n)) below))
    ]
  where
    up : (x y z : ℤ) → x ≤ℤ y → pos 0 ≤ℤ z → x ≤ℤ (y +ℤ z)
    up x y z a b = omega (arith, ints, a, b)

    last : (y z : ℤ) → pos 0 ≤ℤ y → z ≤ℤ (y +ℤ z)
    last y z a = omega (arith, ints, a)

module _ (a : Claim) where
  -- each number of the claim's choice is that of a bid, or 0
  pub claim-known : IsTrue (is_known_after (menu_of a.book.now) 0 a.choice.now)
  claim-known = fits-known (menu_of a.book.now) a.book.now.supply a.choice.now a.shown.allowed

  -- a product of den and a number whose size is at most the value
  pub times-small : (amount : ℤ) → unsigned_abs amount ≤ unsigned_abs a.value → unsigned_abs (a.den *ℤ amount) < 2 ^ 120
  times-small amount low = product-small a.den a.value amount a.shown.den_least a.shown.value_least a.shown.small low

module _ (a : Claim) (kept : IsBidBook a.book.now) where
  -- the number of a bidder is within its bids
  pub number-known : (j : ℕ) → 0 < j → j ≤ bidders_of a.book.now → number_of a.choice.now j ≤ length (bids_of a.book.now j)
  number-known j some le = known-number (menu_of a.book.now) a.choice.now j (claim-known a) some le

  -- no winner bids less than 0 net
  pub won-least : (j : ℕ) → 0 < j → j ≤ bidders_of a.book.now → pos 0 ≤ℤ worth_in (market_of a.book.now) a.choice.now j
  won-least j some le = kept.not_negative j (number_of a.choice.now j) (number-known j some le)

  won-sum : sum_over everyone (worth_in (market_of a.book.now) a.choice.now) (bidders_of a.book.now) ≡ a.value
  won-sum =
      over-is everyone (worth_in (market_of a.book.now) a.choice.now) (bidders_of a.book.now)
      ∙ sym (choice-is (net_of a.book.now) a.choice.now ∙ ap (λ n. total n (λ j. worth_in (market_of a.book.now) a.choice.now (suc j))) a.shown.count)
      ∙ a.shown.reached

  -- no winner bids more than the value
  pub won-most : (j : ℕ) → 0 < j → j ≤ bidders_of a.book.now → worth_in (market_of a.book.now) a.choice.now j ≤ℤ a.value
  won-most j some le = subst (λ (z : ℤ). worth_in (market_of a.book.now) a.choice.now j ≤ℤ z) won-sum
      (one-most (worth_in (market_of a.book.now) a.choice.now) (bidders_of a.book.now) j won-least some le)

  -- the denominator times a winner's net amount is in the range
  pub won-times : (j : ℕ) → 0 < j → j ≤ bidders_of a.book.now → unsigned_abs (a.den *ℤ worth_in (market_of a.book.now) a.choice.now j) < 2 ^ 120
  won-times j some le = times-small a (worth_in (market_of a.book.now) a.choice.now j) (between _ _ (won-least j some le) (won-most j some le))
    where
      between : (x v : ℤ) → pos 0 ≤ℤ x → x ≤ℤ v → unsigned_abs x ≤ unsigned_abs v
      between x v p q = omega (arith, ints, p, q)

  market : IsMarket (market_of a.book.now)
  market = let few = kept.bidders in market-of_book a.book.now (omega (arith, few)) kept.not_negative

  -- what an allowed choice counts
  pub allowed-value : (d : List ℕ) → IsTrue ((market_of a.book.now).allowed d) → (pos 0 ≤ℤ value_of (market_of a.book.now) d)
      × (value_of (market_of a.book.now) d ≤ℤ a.value)
  allowed-value d t = (worth-nonneg (market_of a.book.now) market d t, a.shown.most d t)

  -- what the bids of some bidders count
  pub some-won : (s : ℕ → Bool) → (pos 0 ≤ℤ sum_over s (worth_in (market_of a.book.now) a.choice.now) (bidders_of a.book.now))
      × (sum_over s (worth_in (market_of a.book.now) a.choice.now) (bidders_of a.book.now) ≤ℤ a.value)
  some-won s =
      let part = some-sum s (worth_in (market_of a.book.now) a.choice.now) (bidders_of a.book.now) won-least in
      (part.0, subst (λ (z : ℤ). sum_over s (worth_in (market_of a.book.now) a.choice.now) (bidders_of a.book.now) ≤ℤ z) won-sum part.1)

  -- a Vickrey price
  pub vickrey-times : (without : ℤ) (j : ℕ) → pos 0 ≤ℤ without → without ≤ℤ a.value → 0 < j → j ≤ bidders_of a.book.now
      → unsigned_abs (a.den *ℤ ((without -ℤ a.value) +ℤ worth_in (market_of a.book.now) a.choice.now j)) < 2 ^ 120
  vickrey-times without j least most some le =
      times-small a _ (between without a.value (worth_in (market_of a.book.now) a.choice.now j) least most (won-least j some le) (won-most j some le))
    where
      between : (x v w : ℤ) → pos 0 ≤ℤ x → x ≤ℤ v → pos 0 ≤ℤ w → w ≤ℤ v → unsigned_abs ((x -ℤ v) +ℤ w) ≤ unsigned_abs v
      between x v w p q r s = omega (arith, ints, p, q, r, s)

  -- so is the value of the choice without a bidder, and 0 for a loser
  pub values-range : (withouts : List WithoutValue) (values : List ℤ) → ((j : ℕ) → 0 < j → j ≤ bidders_of a.book.now → IsTrue (uses a.choice.now j)
      → IsPart a.book.now j (part_of withouts j))
      → AreValuesWithout a.book.now a.choice.now withouts values → (j : ℕ) → 0 < j → j ≤ bidders_of a.book.now
      → (pos 0 ≤ℤ of_bidder values j) × (of_bidder values j ≤ℤ a.value)
  values-range withouts values parts are j some inside =
      subst (λ (z : ℤ). (pos 0 ≤ℤ z) × (z ≤ℤ a.value)) (sym (are j some inside))
      (elim (cases_Bool (uses a.choice.now j)) [
        | inl wins ↦ subst (λ (z : ℤ). (pos 0 ≤ℤ z) × (z ≤ℤ a.value)) (sym (cond-true (uses a.choice.now j)
            (value_of (market_of a.book.now) (part_of withouts j).choice) (pos 0) wins))
            (allowed-value (part_of withouts j).choice (parts j some inside wins).allowed)
        | inr loses ↦ subst (λ (z : ℤ). (pos 0 ≤ℤ z) × (z ≤ℤ a.value)) (sym (cond-false (uses a.choice.now j)
            (value_of (market_of a.book.now) (part_of withouts j).choice) (pos 0) loses))
            (omega (arith, ints), a.shown.value_least)
      ])
