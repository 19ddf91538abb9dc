-- Exact tables of lowered worths, and of the net amounts, obey the rules.
use Rattle.std.specs.Prelude.{◌≡◌, ℕ, suc, ◌<◌, List, length, ℤ, refl}
use Rattle.std.proofs.Common.{arith}
use Rattle.std.proofs.lemmas.Int.{ints}
use Rattle.auction_model.specs.Menu.{Menu, without}
use Rattle.auction_model.specs.Table.{IsExactTable}
use Rattle.auction_model.specs.Lowered.{lowered}
use Rattle.auction_model.specs.Book.{Book, market_of, menu_of, net_of}
use Rattle.core_laws.specs.Surplus.{surpluses_of}
use Rattle.cert_grammar.specs.Certificate.{CertValue}
use Rattle.cert_soundness.specs.Tests.{Obeys, bidders_of, C5, lowered_net}
use Rattle.cert_soundness.proofs.Sizes.{exact_obeys}
use Rattle.cert_soundness.proofs.Gains.{none-counted, bid-counted}

-- the exact table of the net amounts obeys the rules
pub plain-obeys : (book : Book) (table : List (List ℤ)) → IsExactTable (menu_of book) (net_of book) book.supply table
    → Obeys (menu_of book) (net_of book) book.supply table
plain-obeys book table exact = exact_obeys (menu_of book) (net_of book) book.supply table (λ j. refl) (λ j. refl) exact

-- and so does that without the bids of bidder j
pub without-obeys : (book : Book) (j : ℕ) (table : List (List ℤ)) → IsExactTable (without (menu_of book) j) (net_of book) book.supply table
    → Obeys (without (menu_of book) j) (net_of book) book.supply table
without-obeys book j table exact = exact_obeys (without (menu_of book) j) (net_of book) book.supply table (λ i. refl) (λ i. refl) exact

-- rules for other worths that are the same at each bid
pub obeys-same : (m : Menu) (v w : ℕ → ℕ → ℤ) (supply : List ℕ) (table : List (List ℤ)) → ((k i : ℕ) → k < m.bidders → 0 < i → v (suc k) i ≡ w (suc k) i)
    → Obeys m v supply table → Obeys m w supply table
obeys-same m v w supply table same obeys k s le lt = record {
  last = (obeys k s le lt).last;
  none = (obeys k s le lt).none;
  bid = λ k_in i some known fits. let b = (obeys k s le lt).bid k_in i some known fits in let e = same k i k_in some in omega (arith, ints, b, e);
}

-- the exact table of the worths lowered by the gains obeys the rules for the lowered amounts of the tests
pub lowered-obeys : (book : Book) (c : CertValue) → length c.pay ≡ bidders_of book → ((place : ℕ) → C5 book c place) → (table : List (List ℤ))
    → IsExactTable (menu_of book) (lowered c.den (net_of book) (surpluses_of (market_of book) c.choice c.den c.pay)) book.supply table
    → Obeys (menu_of book) (lowered_net book c) book.supply table
lowered-obeys book c pay_is h5 table exact =
    let m = market_of book in
    let counts = lowered c.den (net_of book) (surpluses_of m c.choice c.den c.pay) in
    obeys-same (menu_of book) counts (lowered_net book c) book.supply table
    (λ k i lt some. bid-counted m (λ j. refl) c pay_is h5 (suc k) i (omega arith) (omega (arith, lt)) some)
    (exact_obeys (menu_of book) counts book.supply table (none-counted m (λ j. refl) c pay_is h5) (λ j. refl) exact)
