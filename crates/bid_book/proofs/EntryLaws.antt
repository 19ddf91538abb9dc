-- What the lines of bidders and bids say.
use Rattle.std.proofs.Common.{Err, List, None, Ok, Option, Result, Some, [], ap, arith, get_or, inl, inr, length, length-append, refl, subst, sym}
use Rattle.std.proofs.Common.{take, ℕ, ◌++◌, ◌+◌, ◌<◌, ◌^◌, ◌∙◌, ◌∷◌, ◌≡◌, ◌≢◌, ◌≤◌}
use Rattle.std.specs.Prelude.{IfNone, IsTrue, MatchResult, codes, sum, pos, ◌-ℤ◌}
use mir.Syntax.{w128}
use mir.Val.{to_z, of_z}
use Rattle.std.proofs.lemmas.Int.{ints}
use Rattle.std.specs.List.{AllByRecursion}
use Rattle.std.specs.Result.{result_ok}
use Rattle.std.specs.Str.{IsUtf8}
use Rattle.std.proofs.lemmas.Bool.Decides.{nat_tests}
use Rattle.std.proofs.lemmas.List.{take_more}
use Rattle.std.proofs.lemmas.List.Sums.{sum_by-cons}
use Rattle.std.proofs.lemmas.Str.{IsUtf8-from_ascii}
use Rattle.std.proofs.lemmas.Str.Ascii.{IsAscii-from_all}
use Rattle.auction_model.specs.Book.{Bidder, Book, BookBid, bidder_of, bidder_with, no_bidder, with_bidders}
use Rattle.auction_model.specs.Package.{is_within}
use Rattle.book_grammar.specs.BookForm.{IsNameByte, IsName, IsBid}
use Rattle.book_grammar.specs.BookLines.{bid_excess, bidder_excess, bid_line}
use Rattle.line_format.specs.Decimals.{decimals_text}
use Rattle.limits.specs.declared.LimitKind.TheVariants.{Bidders, Bids}
use Rattle.lots.specs.Limits.{IsSupply}
use Rattle.bid_book.specs.declared.read.Stage.{Stage}
use Rattle.bid_book.specs.declared.read.Stage.TheVariants.{Listing}
use Rattle.bid_book.specs.Stages.{Step, Adds, AddsBidder, AddsBid, with_bid, last_bids, lots_before, last_excess}
use Rattle.bid_book.specs.Stops.{AreNumbers}
use Rattle.bid_book.proofs.Numbers.{snoc_one}
use Rattle.auction_model.proofs.ListLaws.{each-push}
use Rattle.bid_book.proofs.FieldReads.{each_all}
use Rattle.bid_book.proofs.Spelled.{within_parts}
use Rattle.bid_book.proofs.Growth.{parts_of, last_of, with_last, last_excess-push, bids_excess-push}
use Rattle.bid_book.proofs.HeadLaws.{one_list}
use Rattle.bid_book.proofs.Within.{each_at}
use Rattle.bid_book.proofs.OneLine.{not_bid}

byte_low : (c : ℕ) → IsNameByte c → c < 128
byte_low c (inl letter) = omega arith
byte_low c (inr (inl digit)) = omega arith
byte_low c (inr (inr low)) = omega arith

bytes_low : (cs : List ℕ) → AllByRecursion IsNameByte cs → AllByRecursion (λ c. c < 128) cs
bytes_low [] all = tt
bytes_low (c ∷ cs) all = (byte_low c all.0, bytes_low cs all.1)

-- a name is text
pub name_utf8 : (name : List ℕ) → IsName name → IsUtf8 name
name_utf8 [] is = absurd is
name_utf8 (c ∷ cs) is = IsUtf8-from_ascii (c ∷ cs) (IsAscii-from_all (c ∷ cs) (each_all (λ b. b < 128) (c ∷ cs) (omega (arith, is.0), bytes_low cs is.1)))

-- if a result can be no error, anything follows from the lack of its value
pub ok_some : {T E : Type 0} (r : Result T E) (o : Option T) (P : T → Type 0) (Q : E → Type 0) (Z : Type 0) → o ≡ result_ok r → MatchResult r P Q
    → ((e : E) → Q e → ⊥) → IfNone o Z
ok_some (Ok x) o P Q Z is match other = subst (λ (p : Option _). IfNone p Z) (sym is) tt
ok_some (Err e) o P Q Z is match other = absurd (other e match)

-- the names of the bidders up to one more
pub unused_more : (bidders : List Bidder) (name : List ℕ) (j : ℕ) → j < length bidders → AllByRecursion (λ b. b.name ≢ name) (take j bidders)
    → (get_or bidders j no_bidder).name ≢ name
    → AllByRecursion (λ b. b.name ≢ name) (take (j + 1) bidders)
unused_more bidders name j lt all other =
    subst (AllByRecursion (λ (b : Bidder). b.name ≢ name)) (sym (take_more bidders j no_bidder lt))
    (each-push (λ (b : Bidder). b.name ≢ name) (take j bidders) (get_or bidders j no_bidder) all other)

-- the name of bidder j + 1 is that at place j in the list of bidders
pub name_at : (book : Book) (j : ℕ) → (bidder_of book (j + 1)).name ≡ (get_or book.bidders j no_bidder).name
name_at book j = ap (λ (k : ℕ). (get_or book.bidders k no_bidder).name) (omega arith)

-- the numbers of a bid

-- a package within a supply of at most 40 lots has at most 999 lots in each category
pub within_low : (p s : List ℕ) → length p ≡ length s → IsTrue (is_within p s) → sum s ≤ 40 → AllByRecursion (λ n. n ≤ 999) p
within_low [] s same within few = tt
within_low (a ∷ p) [] same within few = absurd (omega arith)
within_low (a ∷ p) (b ∷ s) same within few =
    let parts = within_parts a b p s within in
    let whole : sum (b ∷ s) ≡ b + sum s = sum_by-cons (λ (n : ℕ). n) b s in
    (omega (arith, parts.0), within_low p s (omega arith) parts.1 (omega arith))

-- so none of its counts is above 999
pub not_above : (p s : List ℕ) → length p ≡ length s → IsTrue (is_within p s) → sum s ≤ 40 → (i : ℕ) → i < length p → 999 < get_or p i 0 → ⊥
not_above p s same within few i low above =
    let most : get_or p i 0 ≤ 999 = each_at (λ (n : ℕ). n ≤ 999) p i 0 (within_low p s same within few) low in omega (arith, most, above)

low_numbers : (lots : List ℕ) (amount : ℕ) → AllByRecursion (λ n. n ≤ 999) lots → amount ≤ 2 ^ 42 → AreNumbers (lots ++ amount ∷ [])
low_numbers [] amount all top = (top, tt)
low_numbers (n ∷ lots) amount all top = (omega (arith, all.0), low_numbers lots amount all.1 top)

-- what a line that spells these numbers says of a bid
pub record BidRead (counts : List ℕ) (amount : ℕ) (bid : BookBid) : Type 0 where
  pub lots : counts ≡ bid.lots
  pub amount_is : amount ≡ bid.amount

module _ (supply reserves before : List ℕ) (kept : IsSupply supply) (line : List ℕ) (bid : BookBid) (spelled : line ≡ (bid_line 0 bid).0)
    (valid : IsBid supply reserves before bid) where
  -- no number in the line of a valid bid is above the greatest amount
  pub bid_numbers : AreNumbers (bid.lots ++ bid.amount ∷ [])
  bid_numbers = low_numbers bid.lots bid.amount (within_low bid.lots supply valid.categories valid.within kept.lots) valid.top

  module _ (numbers : List ℕ) (are : AreNumbers numbers) (stated : line ≡ codes "bid" ++ decimals_text numbers) where
    numbers_are : numbers ≡ bid.lots ++ bid.amount ∷ []
    numbers_are = one_list line (codes "bid") numbers (bid.lots ++ bid.amount ∷ []) stated are spelled bid_numbers

    -- the line of a bid has at least one number
    pub bid_some : 0 < length numbers
    bid_some = omega (arith, ap length numbers_are, length-append bid.lots (bid.amount ∷ []))

    -- the numbers of the line before the last are the lots of the bid, and the last is its amount
    pub bid_read : (counts : List ℕ) (amount : ℕ) → numbers ≡ counts ++ amount ∷ [] → BidRead counts amount bid
    bid_read counts amount is = let parts = snoc_one counts bid.lots amount bid.amount (sym is ∙ numbers_are) in record { lots = parts.0; amount_is = parts.1 }

-- an amount that comes last among numbers of a line is at most 2 ^ 42
pub numbers_last : (counts : List ℕ) (amount : ℕ) → AreNumbers (counts ++ amount ∷ []) → amount ≤ 2 ^ 42
numbers_last [] amount are = are.0
numbers_last (c ∷ counts) amount are = numbers_last counts amount are.1

-- in 128 bits an amount up to 2 ^ 42, less a reserve no higher than it, is the exact difference
pub net_is : (amount reserve : ℕ) → amount ≤ 2 ^ 42 → reserve ≤ amount → to_z w128 (of_z w128 (to_z w128 amount -ℤ to_z w128 reserve)) ≡ pos amount -ℤ pos
    reserve
net_is amount reserve top low = omega (arith, ints)

-- what a bid more, and a bidder more, exceed

-- with a bid more, the last line exceeds what the count of the last bidder's bids and one exceeds
pub bid_marks : (old : Book) (bid : BookBid) → 0 < length old.bidders → last_excess 0 (with_bid old bid).bidders ≡ bid_excess (length (last_bids old) + 1)
bid_marks old bid some =
    let parts = parts_of old.bidders some in
    let own = last_of old parts.front parts.bidder parts.whole in
    ap (λ (b : Book). last_excess 0 b.bidders) (with_last old parts.front parts.bidder bid parts.whole)
    ∙ last_excess-push 0 parts.front (bidder_with parts.bidder.name (parts.bidder.bids ++ bid ∷ []))
    ∙ bids_excess-push (0 + length parts.front + 1) parts.bidder.bids bid
    ∙ ap (λ (b : Bidder). bid_excess (length b.bids + 1)) (sym own)

-- with a bidder more, the last line exceeds what the count of the bidders and one exceeds
pub bidder_marks : (old : Book) (name : List ℕ) → last_excess 0 (old.bidders ++ bidder_with name [] ∷ []) ≡ bidder_excess (length old.bidders + 1)
bidder_marks old name = last_excess-push 0 old.bidders (bidder_with name []) ∙ ap bidder_excess (omega arith)

-- above 600 bids the limit of bids is exceeded, with 601 as the count
pub many_bids : (n : ℕ) → 600 ≤ n → bid_excess (n + 1) ≡ Some (Bids, 601)
many_bids n many = grind (arith, nat_tests)

-- up to 600 bids no limit is exceeded
pub few_bids : (n : ℕ) → n < 600 → bid_excess (n + 1) ≡ None
few_bids n few = grind (arith, nat_tests)

-- above 16 bidders the limit of bidders is exceeded, with 17 as the count
pub many_bidders : (n : ℕ) → 16 ≤ n → bidder_excess (n + 1) ≡ Some (Bidders, 17)
many_bidders n many = grind (arith, nat_tests)

-- up to 16 bidders no limit is exceeded
pub few_bidders : (n : ℕ) → n < 16 → bidder_excess (n + 1) ≡ None
few_bidders n few = grind (arith, nat_tests)

-- the line of a bid, as what it adds
pub adds_entry : (old : Book) (line : List ℕ) (bid : BookBid) → 0 < length old.bidders → line ≡ (bid_line 0 bid).0
    → IsBid old.supply old.reserves (lots_before old) bid → AddsBid old (with_bid old bid) line
adds_entry old line bid some spelled valid = record { bid = bid; some = some; spelled = spelled; valid = valid; new_is = refl }

-- the line of a bidder, as what it adds
pub adds_name : (old : Book) (line name : List ℕ) → IsName name → AllByRecursion (λ b. b.name ≢ name) old.bidders → line ≡ codes "bidder " ++ name
    → AddsBidder old (with_bidders old (old.bidders ++ bidder_with name [] ∷ [])) line
adds_name old line name valid unused spelled = record { name = name; spelled = spelled; valid = valid; unused = unused; new_is = refl }

-- a line that begins so is a bidder's, and each other is a bid's

-- a line that adds to the book and begins as a bidder's adds a bidder
pub adds_named : (old new : Book) (line name : List ℕ) → line ≡ codes "bidder " ++ name → Adds old new line → AddsBidder old new (codes "bidder " ++ name)
adds_named old new line name is (inl adds) = subst (AddsBidder old new) is adds
adds_named old new line name is (inr adds) = absurd (not_bid name adds.bid.lots adds.bid.amount (sym is ∙ adds.spelled))

-- a line that adds to the book and doesn't begin as a bidder's adds a bid
pub adds_unnamed : (old new : Book) (line : List ℕ) → ((name : List ℕ) → line ≢ codes "bidder " ++ name) → Adds old new line → AddsBid old new line
adds_unnamed old new line other (inl adds) = absurd (other adds.name adds.spelled)
adds_unnamed old new line other (inr adds) = adds

-- a line that isn't the last adds an entry

-- a step from the listing by a line other than `end` adds a bidder or a bid to the book
pub adds_step : (old : Book) (line : List ℕ) (t : Stage) → line ≢ codes "end" → Step (Listing old) line t → (new : Book) × Adds old new line
adds_step old line t other (inl last) = absurd (other last.0)
adds_step old line t other (inr step) = (step.0, step.1)
