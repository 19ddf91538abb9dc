-- How a text grows line by line to that of a book.
use Rattle.std.specs.Prelude.{◌≡◌, ℕ, suc, ◌+◌, ◌<◌, List, [], ◌∷◌, ◌++◌, None, codes, drop, get_or, length}
use Rattle.std.specs.Fmt.{decimal}
use Rattle.std.proofs.Common.{refl, sym, ap, ◌∙◌, arith, append_assoc}
use Rattle.std.proofs.lemmas.List.{append-nil}
use Rattle.line_format.specs.LineText.{Says, stated, text_of}
use Rattle.line_format.proofs.Lines.{text_of-append}
use Rattle.auction_model.specs.Book.{Bidder, Book, BookBid, bid_of, bidder_of, bids_of, lots_of, no_bid, no_bidder}
use Rattle.book_grammar.specs.BookForm.{IsBook}
use Rattle.book_grammar.specs.BookLines.{bid_line, bid_lines, bidder_line, bidder_lines, book_lines}
use Rattle.line_format.specs.Decimals.{decimals_text}
use Rattle.line_format.proofs.NumberRuns.{one_more}
use Rattle.book_grammar.proofs.TextLaws.{numbers-append}
use Rattle.lots.specs.declared.package.Bid.{Bid}
use Rattle.bid_book.specs.Kept.{IsBidBook}
use Rattle.bid_book.specs.Lists as given
use Rattle.bid_book.specs.Written.{bid_text, bidder_text, bidders_text}

-- the text of bids doesn't depend on how many come before them
bids_text : (m n : ℕ) (bs : List BookBid) → text_of (bid_lines m bs) ≡ text_of (bid_lines n bs)
bids_text m n [] = refl
bids_text m n (b ∷ bs) = ap (λ (t : List ℕ). (bid_line 0 b).0 ++ 10 ∷ t) (bids_text (m + 1) (n + 1) bs)

-- nor does that of bidders
bidders_same : (m n : ℕ) (bs : List Bidder) → text_of (bidder_lines m bs) ≡ text_of (bidder_lines n bs)
bidders_same m n [] = refl
bidders_same m n (b ∷ bs) =
    text_of-append (bidder_line m b.name ∷ bid_lines 0 b.bids) (bidder_lines (m + 1) bs)
    ∙ ap (λ (t : List ℕ). bidder_text b ++ t) (bidders_same (m + 1) (n + 1) bs)
    ∙ sym (text_of-append (bidder_line n b.name ∷ bid_lines 0 b.bids) (bidder_lines (n + 1) bs))

-- the bid of the next number
pub next_bid : (bs : List BookBid) (i : ℕ) (whole before behind : List ℕ) → i < length bs → before ++ text_of (bid_lines 0 (drop i bs)) ≡ whole
    → behind ≡ before ++ bid_text (get_or bs i no_bid) → behind ++ text_of (bid_lines 0 (drop (i + 1) bs)) ≡ whole
next_bid bs i whole before behind inside so_far step =
    let b = get_or bs i no_bid in
    let more = drop (i + 1) bs in
    let split : text_of (bid_lines 0 (b ∷ more)) ≡ bid_text b ++ text_of (bid_lines 0 more) =
    ap (λ (t : List ℕ). (bid_line 0 b).0 ++ 10 ∷ t) (bids_text 1 0 more) ∙ sym (append_assoc (bid_line 0 b).0 (10 ∷ []) (text_of (bid_lines 0 more))) in
    one_more (λ (l : List BookBid). text_of (bid_lines 0 l)) bs i no_bid whole before behind (bid_text b) inside split so_far step

-- the next bidder
pub next_bidder : (bs : List Bidder) (k : ℕ) (whole before behind : List ℕ) → k < length bs → before ++ bidders_text (drop k bs) ≡ whole
    → behind ≡ before ++ bidder_text (get_or bs k no_bidder) → behind ++ bidders_text (drop (k + 1) bs) ≡ whole
next_bidder bs k whole before behind inside so_far step =
    let b = get_or bs k no_bidder in
    let more = drop (k + 1) bs in
    let split : bidders_text (b ∷ more) ≡ bidder_text b ++ bidders_text more =
    text_of-append (bidder_line 0 b.name ∷ bid_lines 0 b.bids) (bidder_lines 1 more) ∙ ap (λ (t : List ℕ). bidder_text b ++ t) (bidders_same 1 0 more) in
    one_more bidders_text bs k no_bidder whole before behind (bidder_text b) inside split so_far step

-- the bid that a call gave, among those of its bidder
pub bid_is : (book : Book) (bid : Bid) (j i : ℕ) → bid.package ≡ lots_of book j (i + 1) → bid.amount ≡ (bid_of book j (i + 1)).amount
    → given.bid_of bid ≡ get_or (bids_of book j) i no_bid
bid_is book bid j i lots amount =
    let given_is : given.bid_of bid ≡ bid_of book j (i + 1) = λ k. record { lots = lots k; amount = amount k } in
    let more : i + 1 ≡ suc i = omega arith in
    given_is ∙ ap (bid_of book j) more

-- the bidder of the next number, among all
pub bidder_is : (book : Book) (k : ℕ) → bidder_of book (k + 1) ≡ get_or book.bidders k no_bidder
bidder_is book k = ap (λ (n : ℕ). get_or book.bidders n no_bidder) (omega arith)

-- the line of a bid, piece by piece
pub whole_bid : (bid : BookBid) (a b c d e : List ℕ) → b ≡ a ++ codes "bid" → c ≡ b ++ decimals_text bid.lots → d ≡ c ++ 32 ∷ decimal bid.amount
    → e ≡ d ++ codes "\n" → e ≡ a ++ bid_text bid
whole_bid bid a b c d e one two three four =
    let last : decimals_text (bid.lots ++ bid.amount ∷ []) ≡ decimals_text bid.lots ++ 32 ∷ decimal bid.amount =
    numbers-append bid.lots (bid.amount ∷ []) ∙ ap (λ (t : List ℕ). decimals_text bid.lots ++ 32 ∷ t) (append-nil (decimal bid.amount)) in
    rw (four, three, two, one, last) (simp append_assoc)

-- the lines of a bidder: the first, and those of its bids
pub whole_bidder : (bidder : Bidder) (a b c d e : List ℕ) → b ≡ a ++ codes "bidder " → c ≡ b ++ bidder.name → d ≡ c ++ codes "\n"
    → e ≡ d ++ text_of (bid_lines 0 bidder.bids) → e ≡ a ++ bidder_text bidder
whole_bidder bidder a b c d e one two three four = rw (four, three, two, one) (simp append_assoc)

-- the whole text, piece by piece
pub whole_text : (book : Book) (a b c d e f g : List ℕ) → a ≡ codes "book 1\nsupply" → b ≡ a ++ decimals_text book.supply → c ≡ b ++ codes "\nreserve"
    → d ≡ c ++ decimals_text book.reserves → e ≡ d ++ codes "\n" → f ≡ e ++ bidders_text book.bidders → g ≡ f ++ codes "end\n"
    → IsBidBook book → Says IsBook book_lines g (stated book)
whole_text book a b c d e f g one two three four five six seven kept =
    record {
      valid = kept.rules.form;
      spelled = spelled;
      within = kept.rules.limits;
    }
  where
    tail : text_of (bidder_lines 0 book.bidders ++ (codes "end", None) ∷ []) ≡ bidders_text book.bidders ++ codes "end\n"
    tail = text_of-append (bidder_lines 0 book.bidders) ((codes "end", None) ∷ [])

    spelled : g ≡ text_of (book_lines book)
    spelled = rw (seven, six, five, four, three, two, one, tail) (simp append_assoc)
