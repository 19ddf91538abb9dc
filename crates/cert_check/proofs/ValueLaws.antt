-- C3 from the tests of the table and of the earlier bids.
use Rattle.std.specs.Prelude.{Bool, IsTrue, List, None, Option, Some, if◌then◌else◌, length, pos, refl, replicate, slice_index_or, suc, ℕ, ℤ, ◌*◌}
use Rattle.std.specs.Prelude.{◌+◌, ◌<◌, ◌≡◌, ◌≤◌}
use Rattle.std.proofs.Common.{inl, inr, sym, ap, subst, arith}
use Rattle.std.proofs.lemmas.Bool.{cases_lt, and_from, ne_eqb}
use Rattle.auction_model.specs.Package.{is_within}
use Rattle.auction_model.specs.Menu.{Menu, is_known_after, packages_after, without}
use Rattle.auction_model.specs.Book.{Book, bids_of, market_of, menu_of, net_of}
use Rattle.cert_grammar.specs.Certificate.{CertValue}
use Rattle.cert_grammar.specs.CertText.{IsCertificate}
use Rattle.cert_soundness.specs.Tests.{C2, C3, ObeysAt, bidders_of, states}
use Rattle.cert_soundness.proofs.Winning.{known_from}
use Rattle.cert_text.specs.CertValues.{cert_value, IsFor}
use Rattle.cert_text.specs.declared.certificate.Certificate.{Certificate}
use Rattle.cert_check.specs.EarlierBids.{NoneEarlier}
use Rattle.table_check.specs.LineTests.{TableAt}
use Rattle.cert_check.specs.Places.{IsFirstFailing}
use Rattle.table_check.specs.Worths.{worth_with}
use Rattle.cert_check.proofs.TableLaws.{number-below}
use Rattle.cert_check.proofs.Worths.{plain-worth, table-same}

-- what the type of a certificate keeps, for the book's numbers of bidders and states
pub cert-kept : (b s : ℕ) (c : Certificate) → IsFor b s c → IsCertificate b s (cert_value c)
cert-kept b s c is =
    subst (λ (n : ℕ). IsCertificate n s (cert_value c)) is.bidders_are
    (subst (λ (n : ℕ). IsCertificate (length c.choice) n (cert_value c)) is.states_are c.rules)

-- a choice of which C2 holds is allowed
pub allowed-by : (book : Book) (c : CertValue) → length c.choice ≡ bidders_of book → ((place : ℕ) → C2 book c place)
    → IsTrue ((market_of book).allowed c.choice)
allowed-by book c length_is h2 =
    and_from (is_known_after (menu_of book) 0 c.choice) (is_within (packages_after (menu_of book) 0 c.choice) book.supply)
    (known_from (menu_of book) 0 c.choice (omega (arith, length_is))
    (λ n lt. subst (λ (x : ℕ). slice_index_or c.choice x 0 ≤ length (bids_of book (suc (0 + n)))) (omega arith)
    ((h2 (suc (0 + n))).known (omega arith) (omega (arith, length_is)))))
    ((h2 (bidders_of book + 1)).fits refl)

-- if bidder 0, which isn't there, has no bids
module _ (m : Menu) (worth : ℕ → ℕ → ℤ) (supply : List ℕ) (table : List (List ℤ)) where
  bids-all : (k : ℕ) → (without m 0).bids (suc k) ≡ m.bids (suc k)
  bids-all k = ap (λ (b : Bool). if b then 0 else m.bids (suc k)) (ne_eqb (suc k) 0 (λ e. omega (arith, e)))

  -- what the rules ask with bidder 0 left out they ask of all bids
  pub obeys-all : (k s : ℕ) → ObeysAt (without m 0) worth supply table k s → ObeysAt m worth supply table k s
  obeys-all k s obeys = record {
    last = obeys.last;
    none = obeys.none;
    bid = λ lt i some few. obeys.bid lt i some
        (subst (λ (n : ℕ). i ≤ n) (sym (bids-all k)) few);
  }

  -- and the other way round
  pub obeys-none_less : (k s : ℕ) → ObeysAt m worth supply table k s → ObeysAt (without m 0) worth supply table k s
  obeys-none_less k s obeys = record {
    last = obeys.last;
    none = obeys.none;
    bid = λ lt i some few. obeys.bid lt i some
        (subst (λ (n : ℕ). i ≤ n) (bids-all k) few);
  }

module _ (book : Book) (c : CertValue) where
  abbrev pub ShowsValue : ℕ → Type 0
  ShowsValue place = TableAt (without (menu_of book) 0) (net_of book) book.supply c.table c.value place

  from-table : (place : ℕ) → ShowsValue place → ((k : ℕ) → k < bidders_of book → place ≡ (bidders_of book + 1) * states book + suc k → ⊥) → C3 book c place
  from-table place t other = record {
    rules = λ k s le lt e. obeys-all (menu_of book) (net_of book) book.supply c.table k s (t.rules k s le lt e);
    top = t.top;
    first = λ k lt e. absurd (other k lt e);
  }

  to-table : (place : ℕ) → C3 book c place → ShowsValue place
  to-table place t = record {
    rules = λ k s le lt e. obeys-none_less (menu_of book) (net_of book) book.supply c.table k s (t.rules k s le lt e);
    top = t.top;
  }

  past-table : (place : ℕ) → (bidders_of book + 1) * states book < place → ShowsValue place
  past-table place past = record {
    rules = λ k s le lt e. absurd (omega (arith, past, e, number-below (bidders_of book) k s (states book) le lt));
    top = λ e. absurd (omega (arith, past, e));
  }

  -- the table fails
  pub value-table : (p : ℕ) → IsFirstFailing ShowsValue (Some p) → IsFirstFailing (C3 book c) (Some p)
  value-table p f =
      elim (cases_lt ((bidders_of book + 1) * states book) p) [
        | inl past ↦ absurd (f.0 (past-table p past))
        | inr low ↦ (
          λ t. f.0 (to-table p t),
          λ q lt. from-table q (f.1 q lt) (λ k in_book e. omega (arith, lt, low, e)),
        )
      ]

  -- the table holds
  whole : (place : ℕ) → IsFirstFailing ShowsValue None → ((k : ℕ) → k < bidders_of book → place ≡ (bidders_of book + 1) * states book + suc k
      → NoneEarlier book c (suc k)) → C3 book c place
  whole place t own = record {
    rules = λ k s le lt e. obeys-all (menu_of book) (net_of book) book.supply c.table k s ((t place).rules k s le lt e);
    top = (t place).top;
    first = λ k lt e. own k lt e k lt refl;
  }

  -- the table holds: the first bidder with an earlier bid that reaches the value is where C3 fails
  pub value-bidder : (j : ℕ) → IsFirstFailing ShowsValue None → IsFirstFailing (NoneEarlier book c) (Some j)
      → IsFirstFailing (C3 book c) (Some ((bidders_of book + 1) * states book + j))
  value-bidder j t f = (
    λ all. f.0 (λ k lt e. all.first k lt (omega (arith, e))),
    λ q low. whole q t (λ k lt e. f.1 (suc k) (omega (arith, low, e))),
  )

  -- the table holds, and no earlier bid reaches the value: C3 holds
  pub value-holds : IsFirstFailing ShowsValue None → IsFirstFailing (NoneEarlier book c) None → IsFirstFailing (C3 book c) None
  value-holds t f place = whole place t (λ k lt e. f (suc k))

-- the test of the table of all bids, with a denominator of 1 and no gains
pub value-plain : (book : Book) (c : CertValue) (gains : List ℤ) (n : ℕ) (r : Option ℕ) → gains ≡ replicate n (pos 0)
    → IsFirstFailing (TableAt (without (menu_of book) 0) (worth_with book (pos 1) gains) book.supply c.table c.value) r → IsFirstFailing (ShowsValue book c) r
value-plain book c gains n r none t =
    table-same (without (menu_of book) 0) (worth_with book (pos 1) gains) (net_of book) book.supply c.table c.value r
    (λ j i some inside. plain-worth book gains n none j i) t
