-- All tests together: a certificate of a book that passes them is sound.
use Rattle.std.specs.Prelude.{◌≡◌, ℕ, suc, ◌+◌, ◌-◌, ◌*◌, IsTrue, List, length, ◌≤ℤ◌, refl}
use Rattle.std.proofs.Common.{sym, subst, arith}
use Rattle.std.proofs.lemmas.Int.{ints}
use Rattle.auction_model.specs.Book.{Book, market_of, menu_of}
use Rattle.auction_model.specs.Lowered.{of_bidder}
use Rattle.auction_model.specs.Market.{sum_after}
use Rattle.auction_model.specs.Menu.{fits_after}
use Rattle.auction_model.specs.Prices.{AreWeights, everyone, sum_over, weight_of}
use Rattle.auction_model.specs.Table.{entry_at}
use Rattle.auction_model.proofs.PlaceLaws.{left_at-whole}
use Rattle.cert_grammar.specs.Certificate.{CertValue}
use Rattle.cert_soundness.specs.Tests.{bidders_of, states, full, C9, lowered_net, Holds}
use Rattle.cert_soundness.specs.Sound.{IsSound}
use Rattle.cert_soundness.proofs.Bounds.{counted, bounded}
use Rattle.cert_soundness.proofs.MarketOutcome.{ShowsOutcome, vickrey, outcome}
use Rattle.cert_soundness.proofs.Winning.{full-below, allowed-length, winning, value_is, part_greatest}

-- after C9 no choice that fits counts more than all that is paid
lowered-most : (book : Book) (c : CertValue) → ((place : ℕ) → C9 book c place) → (f : List ℕ) → IsTrue ((market_of book).allowed f)
    → sum_after (counted (lowered_net book c)) 0 f ≤ℤ sum_over everyone (of_bidder c.pay) (bidders_of book)
lowered-most book c h9 f t =
    let b : sum_after (counted (lowered_net book c)) 0 f ≤ℤ entry_at c.lowered 0 (full book) =
    bounded (menu_of book) (lowered_net book c) book.supply c.lowered (λ j. refl) (λ k s le lt. (h9 (k * states book + s)).rules k s le lt refl) f 0
    (full book) (omega arith) (full-below book.supply)
    (subst (λ (l : List ℕ). IsTrue (fits_after (menu_of book) 0 l f)) (sym (left_at-whole book.supply)) t) in
    let top = (h9 ((bidders_of book + 1) * states book)).top refl in
    omega (arith, ints, b, top)

-- a certificate for which all tests pass is sound
pub sound : (book : Book) (weights : List ℕ) (c : CertValue) → AreWeights (bidders_of book) weights → length c.choice ≡ bidders_of book
    → length c.pay ≡ bidders_of book
    → Holds book (weight_of weights) c → IsSound book (weight_of weights) c
sound book weights c are length_is pay_is h =
    let m = market_of book in
    let w = weight_of weights in
    let win = winning book c length_is h.c2 h.c3 in
    let value = value_is book c length_is h.c2 h.c3 in
    let shown : ShowsOutcome m w c = record {
      none = λ j. refl;
      lengths = allowed-length book;
      weights = λ k lt. (let b : suc k - 1 ≡ k = omega arith in rw b (are.some k lt, are.most k lt));
      den_positive = (h.c1 1).den refl;
      pay_is = pay_is;
      greatest = record { passed = win.passed; greatest = win.greatest };
      value = value;
      parts = part_greatest book c length_is h.c2 h.c3 h.c4;
      pays = h.c5;
      rows = h.c6;
      least = h.c7;
      nearest = h.c8;
      most = lowered-most book c h.c9;
    } in
    record { winning = win; value = value; vickrey = vickrey m w c shown; outcome = outcome m w c shown }
