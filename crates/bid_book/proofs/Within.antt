-- What follows for a book from its form and the limits.
use Rattle.std.proofs.Common.{◌≡◌, ℕ, zero, suc, ◌+◌, ◌-◌, ◌≤◌, ◌<◌, ◌^◌, Option, None, List, [], ◌∷◌, ◌++◌, length, get_or, sym, ap, ◌∙◌, arith}
use Rattle.std.specs.Prelude.{codes, pos, ◌≤ℤ◌, ◌-ℤ◌}
use Rattle.std.specs.Option.{option_or}
use Rattle.std.specs.List.{AllByRecursion}
use Rattle.std.proofs.lemmas.Int.{ints}
use Rattle.std.proofs.lemmas.Bool.Decides.{nat_tests}
use Rattle.line_format.specs.LineText.{first_excess}
use Rattle.line_format.proofs.Lines.{first_excess-append}
use Rattle.auction_model.specs.Book.{Bidder, Book, BookBid, bid_of, bidder_of, bids_of, lots_of, net_of, no_bid, no_bidder}
use Rattle.auction_model.specs.Package.{cost_of}
use Rattle.book_grammar.specs.BookForm.{AreReserves, AreBids, empty_package, AreBidders}
use Rattle.book_grammar.specs.BookLines.{Excess, IsBookWithinLimits, Line, bid_excess, bid_lines, bidder_excess, bidder_line, bidder_lines, head_lines}
use Rattle.book_grammar.specs.BookLines.{supply_excess}
use Rattle.lots.specs.Limits.{IsSupply}
use Rattle.bid_book.specs.Kept.{IsBidBook}
use Rattle.bid_book.specs.Sound.{IsSoundBid, IsSoundBidder}
use Rattle.bid_book.specs.Stages.{Adds, last_excess, opened}
use Rattle.bid_book.proofs.Growth.{listed, adds_one}
use Rattle.bid_book.proofs.SupplyLaws.{none_first, none_second, offer_of, supply_within, supply_kept}

-- of lines without an excess neither part has one
pub parts_none : (xs ys : List Line) → first_excess (xs ++ ys) ≡ None → (first_excess xs ≡ None) × (first_excess ys ≡ None)
parts_none xs ys none =
    let both : option_or (first_excess xs) (first_excess ys) ≡ None = sym (first_excess-append xs ys) ∙ none in
    (none_first (first_excess xs) (first_excess ys) both, none_second (first_excess xs) (first_excess ys) both)

bid_few : (n : ℕ) → bid_excess n ≡ None → n ≤ 600
bid_few n none = grind (arith, nat_tests)

bidder_few : (n : ℕ) → bidder_excess n ≡ None → n ≤ 16
bidder_few n none = grind (arith, nat_tests)

bids_few : (before : ℕ) (bs : List BookBid) → first_excess (bid_lines before bs) ≡ None → before ≤ 600 → before + length bs ≤ 600
bids_few before [] none few = omega arith
bids_few before (b ∷ bs) none few =
    let here = bid_few (before + 1) (none_first (bid_excess (before + 1)) (first_excess (bid_lines (before + 1) bs)) none) in
    omega (arith, bids_few (before + 1) bs (none_second (bid_excess (before + 1)) (first_excess (bid_lines (before + 1) bs)) none) here)

-- each bid of a bidder keeps the rules
bids_sound : (supply reserves before : List ℕ) (bs : List BookBid) → AreBids supply reserves before bs → AllByRecursion (IsSoundBid supply reserves) bs
bids_sound supply reserves before [] all = tt
bids_sound supply reserves before (b ∷ bs) all =
    (record { categories = all.0.categories; within = all.0.within; reserve = all.0.reserve; top = all.0.top }, bids_sound supply reserves b.lots bs all.1)

own_lines : ℕ → Bidder → List Line
own_lines before b = bidder_line before b.name ∷ bid_lines 0 b.bids

pub record Found (supply reserves : List ℕ) (before : ℕ) (bs : List Bidder) : Type 0 where
  pub few : before + length bs ≤ 16
  pub each : AllByRecursion (IsSoundBidder supply reserves) bs

bidders_sound : (supply reserves : List ℕ) (earlier bs : List Bidder) (before : ℕ) → AreBidders supply reserves earlier bs
    → first_excess (bidder_lines before bs) ≡ None → before ≤ 16 → Found supply reserves before bs
bidders_sound supply reserves earlier [] before all none few = record { few = omega arith; each = tt }
bidders_sound supply reserves earlier (b ∷ bs) before all none few =
    let parts = parts_none (bidder_line before b.name ∷ bid_lines 0 b.bids) (bidder_lines (before + 1) bs) none in
    let here = bidder_few (before + 1) (none_first (bidder_excess (before + 1)) (first_excess (bid_lines 0 b.bids)) parts.0) in
    let bids = bids_few 0 b.bids (none_second (bidder_excess (before + 1)) (first_excess (bid_lines 0 b.bids)) parts.0) (omega arith) in
    let rest = bidders_sound supply reserves (earlier ++ b ∷ []) bs (before + 1) all.1 parts.1 here in
    record {
      few = omega (arith, rest.few);
      each = (record { few = omega arith; each = bids_sound supply reserves (empty_package supply) b.bids all.0.bids }, rest.each);
    }

-- what holds of each element holds of the one at a place in the list
pub each_at : {X : Type 0} (P : X → Type 0) (xs : List X) (i : ℕ) (d : X) → AllByRecursion P xs → i < length xs → P (get_or xs i d)
each_at P [] i d all lt = absurd (omega arith)
each_at P (x ∷ xs) zero d all lt = all.0
each_at P (x ∷ xs) (suc i) d all lt = each_at P xs i d all.1 (omega arith)

-- what holds of each element and of the default holds at any place, in the list or past it
pub each_or : {X : Type 0} (P : X → Type 0) (xs : List X) (i : ℕ) (d : X) → AllByRecursion P xs → P d → P (get_or xs i d)
each_or P [] i d all is = is
each_or P (x ∷ xs) zero d all is = all.0
each_or P (x ∷ xs) (suc i) d all is = each_or P xs i d all.1 is

-- each book of the program

net_kept : (a r : ℕ) → r ≤ a → a ≤ 2 ^ 42 → (pos 0 ≤ℤ (pos a -ℤ pos r)) × ((pos a -ℤ pos r) ≤ℤ pos (2 ^ 42))
net_kept a r low top = (omega (arith, ints), omega (arith, ints))

module _ (book : Book) (found : Found book.supply book.reserves 0 book.bidders) where
  bidder_sound : (j : ℕ) → IsSoundBidder book.supply book.reserves (bidder_of book j)
  bidder_sound j = each_or (IsSoundBidder book.supply book.reserves) book.bidders (j - 1) no_bidder found.each (record { few = omega arith; each = tt })

  bid_sound : (j i : ℕ) → i < length (bids_of book j) → IsSoundBid book.supply book.reserves (bid_of book j (suc i))
  bid_sound j i lt = each_at (IsSoundBid book.supply book.reserves) (bids_of book j) i no_bid (bidder_sound j).each lt

  net_sound : (j i : ℕ) → i ≤ length (bids_of book j) → (pos 0 ≤ℤ net_of book j i) × (net_of book j i ≤ℤ pos (2 ^ 42))
  net_sound j zero le = (omega (arith, ints), omega (arith, ints))
  net_sound j (suc i) le =
      let bid = bid_sound j i (omega arith) in
      net_kept (bid_of book j (suc i)).amount (cost_of book.reserves (lots_of book j (suc i))) bid.reserve bid.top

-- each bidder of a book within the limits keeps the rules
pub sound : (book : Book) → IsBookWithinLimits book → AllByRecursion (IsSoundBidder book.supply book.reserves) book.bidders
sound book is =
    let listed_none = (parts_none (listed book) ((codes "end", None) ∷ []) is.limits).0 in
    let parts = parts_none (head_lines book) (bidder_lines 0 book.bidders) listed_none in
    (bidders_sound book.supply book.reserves [] book.bidders 0 is.form.bidders parts.1 (omega arith)).each

-- the facts that callers use follow from the form and the limits
pub kept : (book : Book) → IsBookWithinLimits book → IsBidBook book
kept book is =
    let listed_none = (parts_none (listed book) ((codes "end", None) ∷ []) is.limits).0 in
    let parts = parts_none (head_lines book) (bidder_lines 0 book.bidders) listed_none in
    let supply = none_first (supply_excess book.supply) None parts.0 in
    let found = bidders_sound book.supply book.reserves [] book.bidders 0 is.form.bidders parts.1 (omega arith) in
    record {
      rules = is;
      supply = supply_kept book.supply is.form.supply supply;
      reserves = is.form.reserves.count;
      bidders = omega (arith, found.few);
      bids = λ j. (bidder_sound book found j).few;
      categories = λ j i lt. (bid_sound book found j i lt).categories;
      within = λ j i lt. (bid_sound book found j i lt).within;
      not_negative = λ j i le. (net_sound book found j i le).0;
      most = λ j i le. (net_sound book found j i le).1;
    }

-- a line more that exceeds nothing
pub grown : (old new : Book) (line : List ℕ) → IsBookWithinLimits old → Adds old new line → last_excess 0 new.bidders ≡ None → IsBookWithinLimits new
grown old new line is adds none =
    let both = adds_one old new line is.form adds in
    let before = (parts_none (listed old) ((codes "end", None) ∷ []) is.limits).0 in
    let here : first_excess (listed new) ≡ None =
    ap first_excess both.1 ∙ first_excess-append (listed old) ((line, last_excess 0 new.bidders) ∷ [])
    ∙ ap (λ (o : Option Excess). option_or o (option_or (last_excess 0 new.bidders) None)) before ∙ ap (λ (o : Option Excess). option_or o None) none in
    record { form = both.0; limits = first_excess-append (listed new) ((codes "end", None) ∷ []) ∙ ap (λ (o : Option Excess). option_or o None) here }

-- the book before its first bidder
pub opened_within : (supply reserves : List ℕ) → IsSupply supply → AreReserves supply reserves → IsBookWithinLimits (opened supply reserves)
opened_within supply reserves is are =
    record {
      form = record { supply = offer_of supply is; reserves = are; bidders = tt };
      limits = ap (λ (o : Option Excess). option_or o None)
          (supply_within supply is);
    }
