-- Bids at their net amounts and at lowered ones, by what their bidders gain.
use Rattle.std.specs.Prelude.{◌≡◌, ℕ, suc, ◌-◌, ◌^◌, ◌<◌, ◌≤◌, List, length, replicate, ℤ, pos, ◌-ℤ◌, ◌*ℤ◌, ◌≤ℤ◌, unsigned_abs, Option}
use Rattle.std.proofs.Common.{sym, ap, subst, arith}
use Rattle.std.proofs.lemmas.Int.{ints}
use Rattle.std.proofs.lemmas.List.{length-replicate}
use Rattle.auction_model.specs.Book.{Book, net_of}
use Rattle.auction_model.specs.Lowered.{of_bidder}
use Rattle.auction_model.specs.Menu.{Menu}
use Rattle.auction_model.proofs.ListLaws.{zeros-at}
use Rattle.bid_book.specs.Kept.{IsBidBook}
use Rattle.cert_grammar.specs.Certificate.{CertValue}
use Rattle.cert_soundness.specs.Tests.{ObeysAt, bidders_of, lowered_net}
use Rattle.table_check.specs.LineTests.{TableAt}
use Rattle.cert_check.specs.Places.{IsFirstFailing}
use Rattle.limits.specs.declared.TheConstants.{MOST_AMOUNT}
use Rattle.table_check.specs.Worths.{worth_with, HasSmallWorths}
use Rattle.cert_check.specs.Gains.{CanLower, gain_of}
use Rattle.cert_check.proofs.Gains.{gain-small}
use Rattle.cert_check.proofs.PlaceTests.{failing-same}

no-gain : (gains : List ℤ) (n j : ℕ) → gains ≡ replicate n (pos 0) → of_bidder gains j ≡ pos 0
no-gain gains n j is = rw is (zeros-at n (j - 1))

-- a bid of a bidder that gains nothing is worth its net amount
pub once : (net gain : ℤ) → gain ≡ pos 0 → (pos 1 *ℤ net) -ℤ gain ≡ net
once net gain none = omega (arith, ints, none)

once-small : (net : ℤ) → pos 0 ≤ℤ net → net ≤ℤ pos MOST_AMOUNT → unsigned_abs (pos 1 *ℤ net) < 2 ^ 120
once-small net least most = omega (arith, ints, least, most)

-- with a denominator of 1 and no gains, bids are worth their net amounts
pub plain-worth : (book : Book) (gains : List ℤ) (n : ℕ) → gains ≡ replicate n (pos 0) → (j i : ℕ) → worth_with book (pos 1) gains j i ≡ net_of book j i
plain-worth book gains n is j i = once (net_of book j i) (of_bidder gains j) (no-gain gains n j is)

-- and no net amount of a bid book is too large
pub plain-small : (book : Book) (gains : List ℤ) (n : ℕ) → IsBidBook book → gains ≡ replicate n (pos 0) → bidders_of book ≤ n
    → HasSmallWorths book (pos 1) gains
plain-small book gains n kept is many = record {
  count = rw (is, length-replicate n (pos 0)) many;
  nets = λ j i some inside known. once-small (net_of book j i) (kept.not_negative j i known) (kept.most j i known);
  gained = λ j some inside. rw (no-gain gains n j is) (omega arith);
}

-- with what the bidders gain at the payments, they are worth the lowered amounts
pub lowered-worth : (book : Book) (c : CertValue) (gains : List ℤ) → ((j : ℕ) → 0 < j → j ≤ bidders_of book
    → of_bidder gains j ≡ gain_of book c.den c.choice c.pay j)
    → (j i : ℕ) → 0 < j → j ≤ bidders_of book → worth_with book c.den gains j i ≡ lowered_net book c j i
lowered-worth book c gains same j i some inside = ap (λ (z : ℤ). (c.den *ℤ net_of book j i) -ℤ z) (same j some inside)

-- and with these gains no worth is too large
pub lowered-small : (book : Book) (den : ℤ) (choice : List ℕ) (pay gains : List ℤ) → CanLower book den choice pay → bidders_of book ≤ length gains
    → ((j : ℕ) → 0 < j → j ≤ bidders_of book → of_bidder gains j ≡ gain_of book den choice pay j) → HasSmallWorths book den gains
lowered-small book den choice pay gains can many same = record {
  count = many;
  nets = can.nets;
  gained = λ j some inside. subst (λ (z : ℤ). unsigned_abs z < 2 ^ 121) (sym (same j some inside)) (gain-small book den choice pay j can some inside);
}

-- equal worths ask the same of a table
module _ (m : Menu) (f g : ℕ → ℕ → ℤ) (supply : List ℕ) (table : List (List ℤ)) (same : (j i : ℕ) → 0 < j → j ≤ m.bidders → f j i ≡ g j i) where
  -- a place that keeps the rules for one keeps them for the other
  pub obeys-same : (k s : ℕ) → ObeysAt m f supply table k s → ObeysAt m g supply table k s
  obeys-same k s o = record {
    last = o.last;
    none = o.none;
    bid = λ lt i some few fits. (let own = o.bid lt i some few fits in let e = same (suc k) i (omega arith) (omega (arith, lt)) in omega (arith, ints, own, e));
  }

  at-same : (most : ℤ) (place : ℕ) → TableAt m f supply table most place → TableAt m g supply table most place
  at-same most place t = record { rules = λ k s le lt e. obeys-same k s (t.rules k s le lt e); top = t.top }

-- the test of a whole table fails first at the same place for equal worths
pub table-same : (m : Menu) (f g : ℕ → ℕ → ℤ) (supply : List ℕ) (table : List (List ℤ)) (most : ℤ) (r : Option ℕ)
    → ((j i : ℕ) → 0 < j → j ≤ m.bidders → f j i ≡ g j i)
    → IsFirstFailing (TableAt m f supply table most) r → IsFirstFailing (TableAt m g supply table most) r
table-same m f g supply table most r same t =
    failing-same (TableAt m f supply table most) (TableAt m g supply table most) (at-same m f g supply table same most)
    (at-same m g f supply table (λ j i some inside. sym (same j i some inside)) most) r t
