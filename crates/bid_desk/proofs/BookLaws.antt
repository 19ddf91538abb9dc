-- The bids of a bidder in the book, made from its submitted list and its clock bids.
use Rattle.std.proofs.Common.{List, [], ap, arith, drop, get_or, inl, inr, length, map, max, refl, subst, suc, sym, ℕ, ◌++◌, ◌+◌, ◌-◌, ◌<◌, ◌^◌, ◌∙◌}
use Rattle.std.proofs.Common.{◌∷◌, ◌≡◌, ◌≤◌}
use Rattle.std.specs.List.{All, AllByRecursion}
use Rattle.std.proofs.lemmas.Bool.{cases_Bool}
use Rattle.std.proofs.lemmas.List.{drop_more, drop_all, get_or-map, length-map}
use Rattle.auction_model.specs.Book.{Bidder, BookBid}
use Rattle.auction_model.specs.PackageTests.{InOrder, is_before, is_same}
use Rattle.auction_rules.specs.Caps.{clock_bid, greatest}
use Rattle.auction_rules.specs.Lines.{placed}
use Rattle.auction_model.specs.Entries.{with_entry}
use Rattle.auction_rules.specs.Rounds.{listing}
use Rattle.auction_rules.specs.State.{Round, own_of}
use Rattle.auction_rules.specs.Terms.{Terms, entrant}
use Rattle.auction_rules.specs.BookOfLog.{best_bids, bid_lots, book_bidder}
use Rattle.auction_model.proofs.PackageTestLaws.{is_same-true}
use Rattle.auction_rules.proofs.Drafts.{InOrder-placed}
use Rattle.auction_rules.proofs.LawfulBids.{with_entry-each}
use Rattle.clock_stage.specs.Kept.{IsHeld, no_round}
use Rattle.relative_cap.specs.OwnRounds.{own_in, rounds_of}
use Rattle.bid_desk.specs.Lists.{IsKept, IsKeptEntry, Lists}
use Rattle.bid_desk.specs.BookBids.{IsBooked, bids_by, submitted_in, with_most}
use Rattle.bid_desk.proofs.BestBids.{best_bids-more, best_bids-own}

-- ---- kept lists

-- the packages of a list with an entry more
lots-with_entry : (x : List ℕ) (a : ℕ) (list : List BookBid) → map bid_lots (with_entry x a list) ≡ placed x (map bid_lots list)
lots-with_entry x a [] = refl
lots-with_entry x a (b ∷ list) =
    elim (cases_Bool (is_same x b.lots)) [
      | inl same ↦ rw same (ap (λ (p : List ℕ). p ∷ map bid_lots list) (is_same-true x b.lots same))
      | inr apart ↦ elim (cases_Bool (is_before x b.lots)) [
        | inl first ↦ rw (apart, first) refl
        | inr later ↦ rw (apart, later) (ap (λ (ps : List (List ℕ)). b.lots ∷ ps) (lots-with_entry x a list))
      ]
    ]

-- a kept list with an entry more
kept-with_entry : (categories : ℕ) (x : List ℕ) (a : ℕ) (list : List BookBid) → IsKeptEntry categories (record { lots = x; amount = a })
    → IsKept categories list
    → IsKept categories (with_entry x a list)
kept-with_entry categories x a list new kept = record {
  each = with_entry-each (IsKeptEntry categories) x a list new kept.each;
  order = subst InOrder (sym (lots-with_entry x a list)) (InOrder-placed x (map bid_lots list) kept.order);
}

-- no amount of a kept list is above the greatest amount
greatest-kept : (categories : ℕ) (x : List ℕ) (list : List BookBid) → AllByRecursion (IsKeptEntry categories) list → greatest x list ≤ 2 ^ 42
greatest-kept categories x [] each = omega arith
greatest-kept categories x (b ∷ list) each =
    elim (cases_Bool (is_same b.lots x)) [
      | inl same ↦ rw same (omega (arith, each.0.amount, greatest-kept categories x list each.1))
      | inr apart ↦ rw apart (omega (arith, greatest-kept categories x list each.1))
    ]

-- ---- clock bids

-- and the list stays kept
pub put-kept : (categories : ℕ) (held : List ℕ) (amount : ℕ) (list new : List BookBid) → IsHeld categories held → amount ≤ 2 ^ 42
    → new ≡ with_entry held (max amount (greatest held list)) list
    → IsKept categories list → IsKept categories new
put-kept categories held amount list new is_held most made kept =
    subst (IsKept categories) (sym made) (kept-with_entry categories held (max amount (greatest held list)) list
    (record { count = is_held.count; few = is_held.few; amount = omega (arith, most, greatest-kept categories held list kept.each) }) kept)

-- ---- from the last round to the first

-- the bids of the clock after the first k rounds, and of the list
abbrev pub bids_from : List Round → ℕ → List BookBid → ℕ → List BookBid
bids_from history j list k = best_bids (map clock_bid (rounds_of j (drop k history)) ++ list)

-- after the last round the list alone is left
pub bids-none : (history : List Round) (j : ℕ) (categories k : ℕ) (list bids : List BookBid) → IsBooked categories list → bids ≡ list → k ≡ length history
    → bids ≡ bids_from history j list k
bids-none history j categories k list bids booked is all =
    let none : drop k history ≡ [] = drop_all k history (omega (arith, all)) in
    is ∙ sym (best_bids-own list booked.kept.order booked.some) ∙ sym (ap (λ (rounds : List Round). best_bids (map clock_bid (rounds_of j rounds) ++ list))
    none)

-- one round more
pub bids-more : (history : List Round) (j : ℕ) (k next : ℕ) (list bids new : List BookBid) → 0 < k → k ≤ length history → next ≡ k - 1 + 1
    → bids ≡ bids_from history j list k
    → new ≡ with_most (clock_bid (own_in history j next)) bids → new ≡ bids_from history j list (k - 1)
bids-more history j k next list bids new some inside at is made =
    let before : ℕ = k - 1 in
    let low : before < length history = omega (arith, some, inside) in
    let up : k ≡ before + 1 = omega (arith, some) in
    let own : next - 1 ≡ before = omega (arith, at) in
    let more : drop before history ≡ get_or history before no_round ∷ drop (before + 1) history = drop_more history before no_round low in
    made ∙ ap (with_most (clock_bid (own_in history j next))) (is ∙ ap (bids_from history j list) up)
    ∙ ap (λ (n : ℕ). with_most (clock_bid (own_of j (get_or history n no_round))) (bids_from history j list (before + 1))) own
    ∙ sym (best_bids-more (clock_bid (own_of j (get_or history before no_round))) (map clock_bid (rounds_of j (drop (before + 1) history)) ++ list))
    ∙ sym (ap (λ (rounds : List Round). best_bids (map clock_bid (rounds_of j rounds) ++ list)) more)

-- ---- the bidders

-- the submitted list of a bidder
pub booked-at : (categories : ℕ) (lists : List Lists) (k : ℕ) (own : Lists) (list : List BookBid) → All (IsBooked categories) (map submitted_in lists)
    → k < length lists
    → own ≡ get_or lists k own → list ≡ own.submitted → IsBooked categories list
booked-at categories lists k own list booked inside at is =
    subst (IsBooked categories) (get_or-map submitted_in lists k own own.submitted inside ∙ ap submitted_in (sym at) ∙ sym is)
    (booked k own.submitted (omega (arith, inside, length-map lists submitted_in)))

abbrev bidder_with : List ℕ → List BookBid → Bidder
bidder_with name bids = record { name = name; bids = bids }

-- one bidder more
pub bidders-more : (terms : Terms) (rounds : List Round) (lists : List Lists) (k : ℕ) (own : Lists) (name : List ℕ) (list bids : List BookBid)
    (before all : List Bidder) → k < length lists
    → own ≡ get_or lists k own → list ≡ own.submitted → name ≡ (entrant terms (k + 1)).name → bids ≡ best_bids
    (map clock_bid (rounds_of (k + 1) rounds) ++ list)
    → before ≡ listing (book_bidder terms (bids_by rounds (map submitted_in lists))) k → all ≡ before ++ bidder_with name bids ∷ []
    → all ≡ listing (book_bidder terms (bids_by rounds (map submitted_in lists))) (k + 1)
bidders-more terms rounds lists k own name list bids before all inside at is by_name by_bids so_far more =
    let F : ℕ → Bidder = book_bidder terms (bids_by rounds (map submitted_in lists)) in
    let place : k + 1 - 1 ≡ k = omega arith in
    let listed : get_or (map submitted_in lists) (k + 1 - 1) [] ≡ list
    = ap (λ (n : ℕ). get_or (map submitted_in lists) n []) place ∙ get_or-map submitted_in lists k own [] inside ∙ ap submitted_in (sym at) ∙ sym is in
    let own_bids : bids ≡ bids_by rounds (map submitted_in lists) (k + 1) = by_bids
    ∙ sym (ap (λ (l : List BookBid). best_bids (map clock_bid (rounds_of (k + 1) rounds) ++ l)) listed) in
    let bidder : bidder_with name bids ≡ F (k + 1) = ap (λ (n : List ℕ). bidder_with n bids) by_name ∙ ap (bidder_with (entrant terms (k + 1)).name) own_bids in
    let next : suc k ≡ k + 1 = omega arith in
    more ∙ ap (λ (bs : List Bidder). bs ++ bidder_with name bids ∷ []) so_far ∙ ap (λ (b : Bidder). listing F k ++ b ∷ []) (bidder ∙ sym (ap F next))
    ∙ ap (listing F) next
