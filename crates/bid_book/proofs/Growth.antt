-- What a line of a book adds: one bidder more, or one bid more of the last bidder.
use Rattle.std.proofs.Common.{List, Option, [], ap, append_assoc, arith, get_or, length, length-append, refl, set, subst, suc, sym, take, ℕ, ⊎_elim}
use Rattle.std.proofs.Common.{◌++◌, ◌+◌, ◌-◌, ◌<◌, ◌∙◌, ◌∷◌, ◌≡◌}
use Rattle.std.specs.Prelude.{codes}
use Rattle.std.proofs.lemmas.List.{append-nil, take_all, take_more, get_or_at, set_at}
use Rattle.auction_model.specs.Book.{Bidder, Book, BookBid, bidder_of, bidder_with, no_bidder, with_bidders}
use Rattle.book_grammar.specs.BookForm.{IsBid, AreBids, empty_package, IsBidder, AreBidders, IsBook}
use Rattle.book_grammar.specs.BookLines.{Excess, Line, bid_excess, bid_line, bid_lines, bidder_line, bidder_lines, head_lines}
use Rattle.bid_book.specs.Stages.{with_bid, last_lots, AddsBidder, AddsBid, Adds, bids_excess, last_excess}

-- all lines of a book but the last
abbrev pub listed : Book → List Line
listed book = head_lines book ++ bidder_lines 0 book.bidders

-- one more at the end

-- the lines of bids and one more are theirs and the line of that bid
pub bid_lines-push : (before : ℕ) (bs : List BookBid) (b : BookBid) → bid_lines before (bs ++ b ∷ []) ≡ bid_lines before bs
    ++ bid_line (before + length bs) b ∷ []
bid_lines-push before [] b = ap (λ (k : ℕ). bid_line k b ∷ []) (omega arith)
bid_lines-push before (c ∷ bs) b =
    ap (λ (l : List Line). bid_line before c ∷ l) (bid_lines-push (before + 1) bs b ∙ ap (λ (k : ℕ). bid_lines (before + 1) bs ++ bid_line k b ∷ [])
    (omega arith))

-- the lines of bidders and one more are theirs, and then the line of that bidder and those of its bids
pub bidder_lines-push : (before : ℕ) (bs : List Bidder) (b : Bidder)
    → bidder_lines before (bs ++ b ∷ []) ≡ bidder_lines before bs ++ (bidder_line (before + length bs) b.name ∷ bid_lines 0 b.bids)
bidder_lines-push before [] b = append-nil (bidder_line before b.name ∷ bid_lines 0 b.bids) ∙ ap (λ (k : ℕ). bidder_line k b.name ∷ bid_lines 0 b.bids)
    (omega arith)
bidder_lines-push before (c ∷ bs) b =
    let own = bidder_line before c.name ∷ bid_lines 0 c.bids in
    ap (λ (l : List Line). own ++ l) (bidder_lines-push (before + 1) bs b ∙ ap (λ (k : ℕ). bidder_lines (before + 1) bs
    ++ (bidder_line k b.name ∷ bid_lines 0 b.bids)) (omega arith))
    ∙ sym (append_assoc own (bidder_lines (before + 1) bs) (bidder_line (before + suc (length bs)) b.name ∷ bid_lines 0 b.bids))

-- what the last line exceeds, with a bidder at the end, depends on the bids and the number of that bidder
pub last_excess-push : (before : ℕ) (bs : List Bidder) (b : Bidder) → last_excess before (bs ++ b ∷ []) ≡ bids_excess (before + length bs + 1) b.bids
last_excess-push before [] b = ap (λ (k : ℕ). bids_excess k b.bids) (omega arith)
last_excess-push before (c ∷ []) b = ap (λ (k : ℕ). bids_excess k b.bids) (omega arith)
last_excess-push before (c ∷ d ∷ bs) b = last_excess-push (before + 1) (d ∷ bs) b ∙ ap (λ (k : ℕ). bids_excess k b.bids) (omega arith)

-- with a bid at the end, the last line exceeds what the count of the bids and one exceeds
pub bids_excess-push : (bidders : ℕ) (bs : List BookBid) (b : BookBid) → bids_excess bidders (bs ++ b ∷ []) ≡ bid_excess (length bs + 1)
bids_excess-push bidders [] b = refl
bids_excess-push bidders (c ∷ bs) b = ap bid_excess (omega (arith, length-append bs (b ∷ [])))

-- the package of the last bid, with a bid at the end, is that of this bid
pub last_lots-push : (before : List ℕ) (bs : List BookBid) (b : BookBid) → last_lots before (bs ++ b ∷ []) ≡ b.lots
last_lots-push before [] b = refl
last_lots-push before (c ∷ bs) b = last_lots-push c.lots bs b

-- valid bids and one more that is valid after the last of them are valid bids
pub bids_push : (supply reserves before : List ℕ) (bs : List BookBid) (b : BookBid) → AreBids supply reserves before bs
    → IsBid supply reserves (last_lots before bs) b → AreBids supply reserves before (bs ++ b ∷ [])
bids_push supply reserves before [] b all is = (is, tt)
bids_push supply reserves before (c ∷ bs) b all is = (all.0, bids_push supply reserves c.lots bs b all.1 is)

-- valid bidders and one more that is valid after them are valid bidders
pub bidders_push :
    (supply reserves : List ℕ) (earlier bs : List Bidder) (b : Bidder) → AreBidders supply reserves earlier bs
    → IsBidder supply reserves (earlier ++ bs) b → AreBidders supply reserves earlier (bs ++ b ∷ [])
bidders_push supply reserves earlier [] b all is = (subst (λ (e : List Bidder). IsBidder supply reserves e b) (append-nil earlier) is, tt)
bidders_push supply reserves earlier (c ∷ bs) b all is = (
  all.0,
  bidders_push supply reserves (earlier ++ c ∷ []) bs b all.1 (subst (λ (e : List Bidder). IsBidder supply reserves e b)
      (sym (append_assoc earlier (c ∷ []) bs)) is),
)

-- the last bidder, and those before it
pub bidders_last : (supply reserves : List ℕ) (earlier bs : List Bidder) (b : Bidder) → AreBidders supply reserves earlier (bs ++ b ∷ [])
    → AreBidders supply reserves earlier bs × IsBidder supply reserves (earlier ++ bs) b
bidders_last supply reserves earlier [] b all = (tt, subst (λ (e : List Bidder). IsBidder supply reserves e b) (sym (append-nil earlier)) all.0)
bidders_last supply reserves earlier (c ∷ bs) b all =
    let rest = bidders_last supply reserves (earlier ++ c ∷ []) bs b all.1 in
    ((all.0, rest.0), subst (λ (e : List Bidder). IsBidder supply reserves e b) (append_assoc earlier (c ∷ []) bs) rest.1)

-- what a line adds

-- a line that adds a bidder to a valid book leaves it valid, and its lines are the old ones and that line
pub adds_bidder : (old new : Book) (line : List ℕ) → IsBook old → AddsBidder old new line
    → IsBook new × (listed new ≡ listed old ++ (line, last_excess 0 new.bidders) ∷ [])
adds_bidder old new line valid adds =
    let bidder = bidder_with adds.name [] in
    let book = with_bidders old (old.bidders ++ bidder ∷ []) in
    let here : IsBook book × (listed book ≡ listed old ++ ((bidder_line 0 adds.name).0, last_excess 0 book.bidders) ∷ []) = (
      record {
        supply = valid.supply;
        reserves = valid.reserves;
        bidders = bidders_push old.supply old.reserves [] old.bidders bidder valid.bidders
            (record { name = adds.valid; unused = adds.unused; bids = tt });
      },
      ap (λ (l : List Line). head_lines old ++ l) (bidder_lines-push 0 old.bidders bidder)
          ∙ sym (append_assoc (head_lines old) (bidder_lines 0 old.bidders) (bidder_line (0 + length old.bidders) adds.name ∷ []))
          ∙ ap (λ (m : Option Excess). listed old ++ (codes "bidder " ++ adds.name, m) ∷ []) (sym (last_excess-push 0 old.bidders bidder)),
    ) in
    subst (λ (b : Book). IsBook b × (listed b ≡ listed old ++ (line, last_excess 0 b.bidders) ∷ [])) (sym adds.new_is)
    (subst (λ (l : List ℕ). IsBook book × (listed book ≡ listed old ++ (l, last_excess 0 book.bidders) ∷ [])) (sym adds.spelled) here)

-- with a bid more of the last bidder
pub bid_added : (old : Book) (front : List Bidder) (bidder : Bidder) (bid : BookBid) → old.bidders ≡ front ++ bidder ∷ [] → IsBook old
    → IsBid old.supply old.reserves (last_lots (empty_package old.supply) bidder.bids) bid
    → IsBook (with_bidders old (front ++ bidder_with bidder.name (bidder.bids ++ bid ∷ []) ∷ []))
bid_added old front bidder bid last valid is =
    let parts = bidders_last old.supply old.reserves [] front bidder (subst (λ (bs : List Bidder). AreBidders old.supply old.reserves [] bs) last
    valid.bidders) in
    record {
      supply = valid.supply;
      reserves = valid.reserves;
      bidders = bidders_push old.supply old.reserves [] front (bidder_with bidder.name (bidder.bids ++ bid ∷ [])) parts.0
          (record {
            name = parts.1.name;
            unused = parts.1.unused;
            bids = bids_push old.supply old.reserves
                (empty_package old.supply) bidder.bids bid parts.1.bids is;
          });
    }

-- a bid more of the last bidder is one line more at the end, with what it exceeds
pub bid_behind : (head : List Line) (front : List Bidder) (bidder : Bidder) (bid : BookBid)
    → head ++ bidder_lines 0 (front ++ bidder_with bidder.name (bidder.bids ++ bid ∷ []) ∷ [])
    ≡ (head ++ bidder_lines 0 (front ++ bidder ∷ [])) ++ ((bid_line 0 bid).0, last_excess 0 (front ++ bidder_with bidder.name (bidder.bids ++ bid ∷ []) ∷ []))
    ∷ []
bid_behind head front bidder bid =
    let new = bidder_with bidder.name (bidder.bids ++ bid ∷ []) in
    let own = bidder_line (0 + length front) bidder.name ∷ bid_lines 0 bidder.bids in
    let line = bid_line (0 + length bidder.bids) bid in
    let grown : bidder_line (0 + length front) bidder.name ∷ bid_lines 0 (bidder.bids ++ bid ∷ []) ≡ own ++ line ∷ [] =
    ap (λ (l : List Line). bidder_line (0 + length front) bidder.name ∷ l) (bid_lines-push 0 bidder.bids bid) in
    let mark : bid_excess (0 + length bidder.bids + 1) ≡ last_excess 0 (front ++ new ∷ []) =
    ap bid_excess (omega arith) ∙ sym (last_excess-push 0 front new ∙ bids_excess-push (0 + length front + 1) bidder.bids bid) in
    ap (λ (l : List Line). head ++ l) (bidder_lines-push 0 front new ∙ ap (λ (l : List Line). bidder_lines 0 front ++ l) grown
    ∙ sym (append_assoc (bidder_lines 0 front) own (line ∷ [])))
    ∙ sym (append_assoc head (bidder_lines 0 front ++ own) (line ∷ []))
    ∙ ap (λ (l : List Line). (head ++ l) ++ line ∷ []) (sym (bidder_lines-push 0 front bidder))
    ∙ ap (λ (m : Option Excess). (head ++ bidder_lines 0 (front ++ bidder ∷ [])) ++ ((bid_line 0 bid).0, m) ∷ []) mark

-- the last bidder, and those before it
pub record Parts (bidders : List Bidder) : Type 0 where
  pub front : List Bidder
  pub bidder : Bidder
  pub whole : bidders ≡ front ++ bidder ∷ []

-- if there is a bidder, the list of bidders is a prefix and a last one
pub parts_of : (bidders : List Bidder) → 0 < length bidders → Parts bidders
parts_of bidders some =
    let all : take (length bidders - 1 + 1) bidders ≡ bidders = take_all (length bidders - 1 + 1) bidders (omega arith) in
    record {
      front = take (length bidders - 1) bidders;
      bidder = get_or bidders (length bidders - 1) no_bidder;
      whole =
          sym all ∙ take_more bidders (length bidders - 1) no_bidder (omega arith);
    }

last_place : (front : List Bidder) (bidder : Bidder) → length front ≡ length (front ++ bidder ∷ []) - 1
last_place front bidder = omega (arith, length-append front (bidder ∷ []))

-- the bidder whose number is the count of the bidders is the one after the prefix
pub last_of : (book : Book) (front : List Bidder) (bidder : Bidder) → book.bidders ≡ front ++ bidder ∷ [] → bidder_of book (length book.bidders) ≡ bidder
last_of book front bidder whole =
    ap (λ (bs : List Bidder). get_or bs (length bs - 1) no_bidder) whole ∙ get_or_at front bidder [] no_bidder (length (front ++ bidder ∷ []) - 1)
    (last_place front bidder)

-- the book with a bid more has the prefix as before, and the last bidder with that bid
pub with_last : (book : Book) (front : List Bidder) (bidder : Bidder) (bid : BookBid) → book.bidders ≡ front ++ bidder ∷ []
    → with_bid book bid ≡ with_bidders book (front ++ bidder_with bidder.name (bidder.bids ++ bid ∷ []) ∷ [])
with_last book front bidder bid whole =
    let own = last_of book front bidder whole in
    ap (λ (b : Bidder). with_bidders book (set book.bidders (length book.bidders - 1) (bidder_with b.name (b.bids ++ bid ∷ [])))) own
    ∙ ap (λ (bs : List Bidder). with_bidders book (set bs (length bs - 1) (bidder_with bidder.name (bidder.bids ++ bid ∷ [])))) whole
    ∙ ap (with_bidders book) (set_at front bidder [] (bidder_with bidder.name (bidder.bids ++ bid ∷ [])) (length (front ++ bidder ∷ []) - 1)
    (last_place front bidder))

-- with a line that adds a bid a valid book stays valid, and that line comes after the old ones
pub adds_bid : (old new : Book) (line : List ℕ) → IsBook old → AddsBid old new line
    → IsBook new × (listed new ≡ listed old ++ (line, last_excess 0 new.bidders) ∷ [])
adds_bid old new line valid adds =
    let parts = parts_of old.bidders adds.some in
    let own : IsBid old.supply old.reserves (last_lots (empty_package old.supply) parts.bidder.bids) adds.bid =
    subst (λ (b : Bidder). IsBid old.supply old.reserves (last_lots (empty_package old.supply) b.bids) adds.bid)
    (last_of old parts.front parts.bidder parts.whole) adds.valid in
    let book = with_bidders old (parts.front ++ bidder_with parts.bidder.name (parts.bidder.bids ++ adds.bid ∷ []) ∷ []) in
    let here : IsBook book × (listed book ≡ listed old ++ ((bid_line 0 adds.bid).0, last_excess 0 book.bidders) ∷ []) = (
      bid_added old parts.front parts.bidder adds.bid parts.whole valid own,
      bid_behind (head_lines old) parts.front parts.bidder adds.bid
          ∙ ap (λ (bs : List Bidder). (head_lines old ++ bidder_lines 0 bs) ++ ((bid_line 0 adds.bid).0, last_excess 0 book.bidders) ∷ []) (sym parts.whole),
    ) in
    subst (λ (b : Book). IsBook b × (listed b ≡ listed old ++ (line, last_excess 0 b.bidders) ∷ []))
    (sym (adds.new_is ∙ with_last old parts.front parts.bidder adds.bid parts.whole))
    (subst (λ (l : List ℕ). IsBook book × (listed book ≡ listed old ++ (l, last_excess 0 book.bidders) ∷ [])) (sym adds.spelled) here)

-- a line that adds anything to a valid book leaves it valid, and comes after the old lines
pub adds_one : (old new : Book) (line : List ℕ) → IsBook old → Adds old new line
    → IsBook new × (listed new ≡ listed old ++ (line, last_excess 0 new.bidders) ∷ [])
adds_one old new line valid adds = ⊎_elim (adds_bidder old new line valid) (adds_bid old new line valid) adds
