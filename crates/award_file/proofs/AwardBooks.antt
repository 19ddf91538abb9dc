-- The book of a log on an award keeps the rules and the limits of a book.
use Rattle.std.proofs.Common.{List, [], append_assoc, arith, false, get_or, inl, inr, length, map, replicate, subst, suc, sym, true, zero, ℕ, ◌++◌}
use Rattle.std.proofs.Common.{◌-◌, ◌<◌, ◌∙◌, ◌∷◌, ◌≡◌, ◌≢◌, ◌≤◌}
use Rattle.std.specs.Prelude.{◌==◌}
use Rattle.std.specs.List.{AllByRecursion}
use Rattle.std.specs.Str.{bytes_eq}
use Rattle.std.proofs.lemmas.Bool.{cases_Bool, eqb-true, true≢false}
use Rattle.std.proofs.lemmas.List.{append-nil, length-map}
use Rattle.std.proofs.lemmas.List.Elements.{recursion_from_All}
use Rattle.std.proofs.lemmas.Map.Keys.{apart_from_distinct}
use Rattle.std.proofs.lemmas.Slice.Eq.{bytes_eq-Decides}
use Rattle.auction_model.specs.Book.{Bidder, BookBid}
use Rattle.auction_model.specs.Package.{ComesBefore}
use Rattle.auction_model.proofs.ListLaws.{each-push}
use Rattle.book_grammar.specs.BookForm.{AreBidders, AreBids, IsBidder, IsName, empty_package}
use Rattle.book_grammar.specs.BookLines.{IsBookWithinLimits}
use Rattle.auction_rules.specs.declared.Event.{Event}
use Rattle.auction_model.specs.PackageTests.{AllAfter, InOrder, is_before, is_empty}
use Rattle.auction_rules.specs.Terms.{Terms, Entrant, entrant}
use Rattle.auction_rules.specs.Rounds.{listing}
use Rattle.auction_rules.specs.Lawful.{AreLimited, IsLawfulBid}
use Rattle.auction_rules.specs.BookOfLog.{bid_lots, bids_in_book, book_bidder, book_by, book_of_log}
use Rattle.auction_rules.proofs.States.{length-listing}
use Rattle.bid_book.proofs.PutLaws.{HasFew, lines-within}
use Rattle.bid_book.proofs.SupplyLaws.{offer_of, supply_within}
use Rattle.award_file.specs.Award.{IsAward, names_of, entrant_with}
use Rattle.award_file.proofs.Names.{name-at}

-- an award keeps the limits on which amounts rest
pub is_limited : (terms : Terms) → IsAward terms → AreLimited terms
is_limited terms award = record { reserves = recursion_from_All _ terms.reserves award.most_reserve; lots = award.supply.lots }

-- what the laws say of the bids in a book
pub record AreKnown (terms : Terms) (bids : ℕ → List BookBid) : Type 0 where
  pub comes : (p q : List ℕ) → length p ≡ length q → is_before p q ≡ true → ComesBefore p q
  pub lawful : (j : ℕ) → AllByRecursion (IsLawfulBid terms) (bids j)
  pub order : (j : ℕ) → InOrder (map bid_lots (bids j))
  pub some : (j : ℕ) → AllByRecursion (λ (b : BookBid). is_empty b.lots ≡ false) (bids j)
  pub few : (j : ℕ) → length (bids j) ≤ 600

-- ---- the supply

-- ---- the bids

-- the empty package comes before each other one
empty-before : (n : ℕ) (lots : List ℕ) → length lots ≡ n → is_empty lots ≡ false → ComesBefore (replicate n 0) lots
empty-before zero [] count some = cc
empty-before zero (a ∷ lots) count some = absurd (omega arith)
empty-before (suc n) [] count some = absurd (omega arith)
empty-before (suc n) (a ∷ lots) count some =
    elim (cases_Bool (a == 0)) [
      | inl none ↦ let rest : is_empty lots ≡ false = rw none at some in inr (sym (eqb-true a 0 none), empty-before n lots (omega arith) rest)
      | inr there ↦ inl (above_none a there)
    ]
  where
    above_none : (a : ℕ) → (a == 0) ≡ false → 0 < a
    above_none zero there = cc
    above_none (suc a) there = omega arith

-- the first of the bids comes after this package
abbrev FirstAfter : List ℕ → List BookBid → Type 0
FirstAfter before [] = Unit {0}
FirstAfter before (b ∷ bids) = ComesBefore before b.lots

module _ (terms : Terms) (comes : (p q : List ℕ) → length p ≡ length q → is_before p q ≡ true → ComesBefore p q) where
  first-after : (b : BookBid) (bids : List BookBid) → IsLawfulBid terms b → AllByRecursion (IsLawfulBid terms) bids → AllAfter b.lots (map bid_lots bids)
      → FirstAfter b.lots bids
  first-after b [] is lawful after = tt
  first-after b (d ∷ bids) is lawful after = comes b.lots d.lots (is.categories ∙ sym lawful.0.categories) after.0

  -- lawful bids in order are bids of a book
  bids-are : (before : List ℕ) (bids : List BookBid) → FirstAfter before bids → AllByRecursion (IsLawfulBid terms) bids → InOrder (map bid_lots bids)
      → AreBids terms.supply terms.reserves before bids
  bids-are before [] first lawful order = tt
  bids-are before (b ∷ bids) first lawful order = (
    record { categories = lawful.0.categories; within = lawful.0.within; after = first; reserve = lawful.0.reserve; top = lawful.0.top },
    bids-are b.lots bids (first-after b bids lawful.0 lawful.1 order.0) lawful.1 order.1,
  )

  some-first : (bids : List BookBid) → AllByRecursion (IsLawfulBid terms) bids → AllByRecursion (λ (b : BookBid). is_empty b.lots ≡ false) bids
      → FirstAfter (empty_package terms.supply) bids
  some-first [] lawful some = tt
  some-first (b ∷ bids) lawful some = empty-before (length terms.supply) b.lots lawful.0.categories some.0

-- ---- the bidders

abbrev no_entrant : Entrant
no_entrant = entrant_with [] 0 []

-- bidders of an award have names
named : (terms : Terms) (n : ℕ) → IsAward terms → n < length terms.bidders → IsName (entrant terms (suc n)).name
named terms n award less =
    let e : suc n - 1 ≡ n = omega arith in
    rw e (award.bidders n no_entrant less).name

-- and no two have one name
apart : (terms : Terms) (k n : ℕ) → IsAward terms → k < n → n < length terms.bidders → (entrant terms (suc k)).name ≢ (entrant terms (suc n)).name
apart terms k n award less inside =
    let e : suc k - 1 ≡ k = omega arith in
    let f : suc n - 1 ≡ n = omega arith in
    let names : List (List ℕ) = names_of terms.bidders in
    let long : length names ≡ length terms.bidders = length-map terms.bidders _ in
    let differ : bytes_eq (get_or names k []) (get_or names n []) ≡ false = apart_from_distinct bytes_eq names k n [] award.apart less (omega (arith, long)) in
    let first : get_or names k [] ≡ (entrant terms (suc k)).name = rw e (name-at terms.bidders k (omega arith)) in
    let second : get_or names n [] ≡ (entrant terms (suc n)).name = rw f (name-at terms.bidders n inside) in
    λ same. true≢false (sym ((bytes_eq-Decides (get_or names k []) (get_or names n [])).1 (first ∙ same ∙ sym second)) ∙ differ)

-- none of the bidders before has the name
unused : (terms : Terms) (bids : ℕ → List BookBid) (m n : ℕ) → IsAward terms → m ≤ n → n < length terms.bidders
    → AllByRecursion (λ (b : Bidder). b.name ≢ (entrant terms (suc n)).name) (listing (book_bidder terms bids) m)
unused terms bids zero n award few inside = tt
unused terms bids (suc m) n award few inside =
    each-push (λ (b : Bidder). b.name ≢ (entrant terms (suc n)).name) (listing (book_bidder terms bids) m) (book_bidder terms bids (suc m))
    (unused terms bids m n award (omega arith) inside) (apart terms m n award (omega arith) inside)

bidders-push :
    (supply reserves : List ℕ) (earlier xs : List Bidder) (x : Bidder) → AreBidders supply reserves earlier xs
    → IsBidder supply reserves (earlier ++ xs) x
    → AreBidders supply reserves earlier (xs ++ x ∷ [])
bidders-push supply reserves earlier [] x are last = (subst (λ (before : List Bidder). IsBidder supply reserves before x) (append-nil earlier) last, tt)
bidders-push supply reserves earlier (y ∷ xs) x are last = (
  are.0,
  bidders-push supply reserves (earlier ++ y ∷ []) xs x are.1 (subst (λ (before : List Bidder). IsBidder supply reserves before x)
      (sym (append_assoc earlier (y ∷ []) xs)) last),
)

module _ (terms : Terms) (bids : ℕ → List BookBid) (award : IsAward terms) (known : AreKnown terms bids) where
  bidders-are : (n : ℕ) → n ≤ length terms.bidders → AreBidders terms.supply terms.reserves [] (listing (book_bidder terms bids) n)
  bidders-are zero few = tt
  bidders-are (suc n) few =
      bidders-push terms.supply terms.reserves [] (listing (book_bidder terms bids) n) (book_bidder terms bids (suc n)) (bidders-are n (omega arith)) (record {
        name = named terms n award (omega arith);
        unused = unused terms bids n n award (omega arith) (omega arith);
        bids = bids-are terms known.comes (empty_package terms.supply) (bids (suc n))
            (some-first terms known.comes (bids (suc n)) (known.lawful (suc n)) (known.some (suc n))) (known.lawful (suc n)) (known.order (suc n));
      })

-- ---- the limits

listed-few : (terms : Terms) (bids : ℕ → List BookBid) (n : ℕ) → ((j : ℕ) → length (bids j) ≤ 600) → AllByRecursion HasFew (listing (book_bidder terms bids) n)
listed-few terms bids zero few = tt
listed-few terms bids (suc n) few = each-push HasFew (listing (book_bidder terms bids) n) (book_bidder terms bids (suc n)) (listed-few terms bids n few)
    (few (suc n))

book_by-within : (terms : Terms) (bids : ℕ → List BookBid) → IsAward terms → AreKnown terms bids → IsBookWithinLimits (book_by terms bids)
book_by-within terms bids award known =
    let few : length (listing (book_bidder terms bids) (length terms.bidders)) ≤ 16 =
    omega (arith, length-listing (book_bidder terms bids) (length terms.bidders), award.few_bidders) in
    record {
      form = record {
        supply = offer_of terms.supply award.supply;
        reserves = record { count = award.reserves; each = recursion_from_All _ terms.reserves award.most_reserve };
        bidders = bidders-are terms bids award known (length terms.bidders) (omega arith);
      };
      limits = lines-within (book_by terms bids) (supply_within terms.supply award.supply) few (listed-few terms bids (length terms.bidders) known.few);
    }

-- the book of a log
pub book-within : (terms : Terms) (log : List Event) → IsAward terms → AreKnown terms (bids_in_book terms log) → IsBookWithinLimits (book_of_log terms log)
unfolding book_of_log
book-within terms log award known = book_by-within terms (bids_in_book terms log) award known
