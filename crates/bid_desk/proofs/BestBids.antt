-- The bids of a bidder in the book: what one bid more changes of them.
use Rattle.std.proofs.Common.{◌≡◌, ℕ, max, true, false, not, List, [], ◌∷◌, Option, Some, refl, sym, ◌∙◌, ap, inl, inr, arith, map}
use Rattle.std.specs.Prelude.{filter}
use Rattle.std.specs.List.{AllByRecursion}
use Rattle.std.proofs.lemmas.Bool.{cases_Bool, cond-true, cond-false}
use Rattle.auction_model.specs.Book.{BookBid}
use Rattle.auction_model.specs.PackageTests.{AllAfter, InOrder, is_empty, is_same}
use Rattle.auction_rules.specs.Caps.{greatest}
use Rattle.auction_rules.specs.Lines.{in_order, priced}
use Rattle.auction_model.specs.Entries.{with_entry}
use Rattle.auction_rules.specs.BookOfLog.{best_bids, bid_lots}
use Rattle.auction_model.proofs.PackageTestLaws.{is_before-not_same, is_same-refl, is_same-true, not_same-sym}
use Rattle.auction_rules.proofs.Drafts.{InOrder-in_order, priced-placed}
use Rattle.auction_rules.proofs.BookCaps.{greatest-best_bids}
use Rattle.auction_rules.proofs.LawfulBids.{each-in_order}
use Rattle.auction_rules.proofs.BookPairs.{some-some}
use Rattle.bid_desk.specs.BookBids.{with_most}

-- the packages of the bids that are not empty
abbrev some_lots : List BookBid → List (List ℕ)
some_lots bids = filter (λ lots. not (is_empty lots)) (map bid_lots bids)

-- the greatest amount for each package
abbrev best_of : List BookBid → List ℕ → Option ℕ
best_of bids lots = Some (greatest lots bids)

-- amounts that are the same for packages with a lot
priced-some : (f g : List ℕ → Option ℕ) (ps : List (List ℕ)) → ((q : List ℕ) → is_empty q ≡ false → g q ≡ f q)
    → AllByRecursion (λ (lots : List ℕ). is_empty lots ≡ false) ps
    → priced g ps ≡ priced f ps
priced-some f g [] same some = refl
priced-some f g (q ∷ ps) same some = rw (same q some.0, priced-some f g ps same some.1) refl

-- an empty package is none of the others
empty-apart : (x q : List ℕ) → is_empty x ≡ true → is_empty q ≡ false → is_same x q ≡ false
empty-apart x q empty some =
    elim (cases_Bool (is_same x q)) [
      | inl same ↦ let no : true ≡ false = sym empty ∙ ap is_empty (is_same-true x q same) ∙ some in cc
      | inr apart ↦ apart
    ]

-- a bid for another package doesn't count
greatest-other : (b : BookBid) (bids : List BookBid) (q : List ℕ) → is_same b.lots q ≡ false → greatest q (b ∷ bids) ≡ greatest q bids
greatest-other b bids q apart = rw apart (omega arith)

-- and one for the package does
greatest-own : (b : BookBid) (bids : List BookBid) → greatest b.lots (b ∷ bids) ≡ max b.amount (greatest b.lots bids)
greatest-own b bids = rw (is_same-refl b.lots) refl

-- a bid for the empty package
best_bids-empty : (b : BookBid) (bids : List BookBid) → is_empty b.lots ≡ true → best_bids (b ∷ bids) ≡ best_bids bids
best_bids-empty b bids empty =
    let same : some_lots (b ∷ bids) ≡ some_lots bids = rw empty refl in
    ap (λ (ps : List (List ℕ)). priced (best_of (b ∷ bids)) (in_order ps)) same
    ∙ priced-some (best_of bids) (best_of (b ∷ bids)) (in_order (some_lots bids))
    (λ q some. ap Some (greatest-other b bids q (empty-apart b.lots q empty some)))
    (each-in_order (λ (lots : List ℕ). is_empty lots ≡ false) (some_lots bids) (some-some (map bid_lots bids)))

-- a bid for a package with a lot
best_bids-some : (b : BookBid) (bids : List BookBid) → is_empty b.lots ≡ false
    → best_bids (b ∷ bids) ≡ with_entry b.lots (max b.amount (greatest b.lots (best_bids bids))) (best_bids bids)
best_bids-some b bids some =
    let more : some_lots (b ∷ bids) ≡ b.lots ∷ some_lots bids = rw some refl in
    ap (λ (ps : List (List ℕ)). priced (best_of (b ∷ bids)) (in_order ps)) more
    ∙ priced-placed (best_of bids) (best_of (b ∷ bids)) b.lots (max b.amount (greatest b.lots bids)) (in_order (some_lots bids))
    (ap Some (greatest-own b bids)) (λ q apart. ap Some (greatest-other b bids q apart)) (InOrder-in_order (some_lots bids))
    ∙ ap (λ (n : ℕ). with_entry b.lots (max b.amount n) (best_bids bids)) (sym (greatest-best_bids b.lots bids some))

-- one bid more
pub best_bids-more : (b : BookBid) (bids : List BookBid) → best_bids (b ∷ bids) ≡ with_most b (best_bids bids)
best_bids-more b bids =
    elim (cases_Bool (is_empty b.lots)) [
      | inl empty ↦ best_bids-empty b bids empty ∙ sym (cond-true (is_empty b.lots) (best_bids bids) _ empty)
      | inr some ↦ best_bids-some b bids some ∙ sym (cond-false (is_empty b.lots) (best_bids bids) _ some)
    ]

-- ---- a list in order is its own

-- a package before all others of a list has no amount there
greatest-before : (x : List ℕ) (list : List BookBid) → AllAfter x (map bid_lots list) → greatest x list ≡ 0
greatest-before x [] after = refl
greatest-before x (b ∷ list) after =
    greatest-other b list x (not_same-sym x b.lots (is_before-not_same x b.lots after.0)) ∙ greatest-before x list after.1

-- and its entry goes to the start
with_entry-before : (x : List ℕ) (a : ℕ) (list : List BookBid) → AllAfter x (map bid_lots list) → with_entry x a list ≡ record { lots = x; amount = a } ∷ list
with_entry-before x a [] after = refl
with_entry-before x a (b ∷ list) after = rw (is_before-not_same x b.lots after.0, after.0) refl

bid-same : (b : BookBid) (n : ℕ) → n ≡ b.amount → record { lots = b.lots; amount = n } ≡ b
bid-same b n is = ap (λ (n : ℕ). record { lots = b.lots; amount = n }) is

-- the best bids of a list in order without the empty package are the list
pub best_bids-own : (list : List BookBid) → InOrder (map bid_lots list) → AllByRecursion (λ (b : BookBid). is_empty b.lots ≡ false) list → best_bids list ≡ list
best_bids-own [] order some = refl
best_bids-own (b ∷ list) order some =
    best_bids-more b list
    ∙ ap (with_most b) (best_bids-own list order.1 some.1)
    ∙ cond-false (is_empty b.lots) list _ some.0
    ∙ with_entry-before b.lots (max b.amount (greatest b.lots list)) list order.0
    ∙ ap (λ (x : BookBid). x ∷ list) (bid-same b _ (omega (arith, greatest-before b.lots list order.0)))
