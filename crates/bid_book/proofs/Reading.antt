-- The stages read the form of a book.
use Rattle.std.proofs.Common.{List, None, [], ap, append_assoc, arith, inl, inr, length, length-append, refl, replicate, subst, suc, sym, zero, ℕ}
use Rattle.std.proofs.Common.{◌++◌, ◌+◌, ◌^◌, ◌∙◌, ◌∷◌, ◌≡◌, ◌≤◌}
use Rattle.std.specs.Prelude.{codes}
use Rattle.std.specs.List.{AllByRecursion}
use Rattle.std.proofs.lemmas.List.{append-nil, take_at, take_all, length-replicate}
use Rattle.line_format.specs.Reading.{Runs}
use Rattle.line_format.proofs.Runs.{FrontOf, Reads, StepsBehind, StepsOnce, front_reached, runs_append}
use Rattle.auction_model.specs.Book.{Bidder, Book, BookBid, bidder_with, with_bidders}
use Rattle.book_grammar.specs.BookForm.{IsOffer, IsBid, AreBids, empty_package, IsBidder, AreBidders, IsBook}
use Rattle.book_grammar.specs.BookLines.{Line, bid_excess, bid_line, bid_lines, bidder_excess, bidder_line, bidder_lines, book_lines, head_lines}
use Rattle.book_grammar.specs.BookLines.{reserve_line, supply_line}
use Rattle.line_format.specs.Decimals.{decimals_text}
use Rattle.bid_book.specs.declared.read.Stage.{Stage}
use Rattle.bid_book.specs.declared.read.Stage.TheVariants.{Start, Headed, Supplied, Listing, Ended}
use Rattle.bid_book.specs.Stages.{last_lots, opened, AddsBid, Step, last_excess, excess}
use Rattle.bid_book.proofs.Numbers.{AreSmall}
use Rattle.line_format.proofs.Lines.{line_append}
use Rattle.bid_book.proofs.Spelled.{bid_word, bidder_word, book_word, end_word, name_line, numbers_line, reserve_word, small_counts, small_reserves}
use Rattle.bid_book.proofs.Spelled.{small_supply, supply_word}
use Rattle.bid_book.proofs.Growth.{listed, last_excess-push, bids_excess-push, last_lots-push, last_of, with_last, adds_one}
use Rattle.bid_book.proofs.OneLine.{end_adds_none, supplies_one, reserves_one, new_one}

abbrev pub begin : Stage
begin = Start

abbrev pub finish : Book → Stage
finish book = Ended book

-- the lines that a stage has after it
abbrev pub behind : Stage → List Line
behind Start = []
behind Headed = (codes "book 1", None) ∷ []
behind (Supplied supply) = (codes "book 1", None) ∷ supply_line supply ∷ []
behind (Listing book) = listed book
behind (Ended book) = book_lines book

abbrev pub IsSound : Stage → Type 0
IsSound Start = Unit {0}
IsSound Headed = Unit {0}
IsSound (Supplied supply) = IsOffer supply
IsSound (Listing book) = IsBook book
IsSound (Ended book) = IsBook book

-- a step keeps a stage sound, and its line comes after the next stage
step_behind : StepsBehind IsSound Step excess behind
step_behind s t l = by_stage s
  where
    F : List Line → List ℕ → Stage → Type 0
    F before line u = IsSound u × (behind u ≡ before ++ (line, excess u) ∷ [])

    move : (before : List Line) (line : List ℕ) (u : Stage) → l ≡ line → t ≡ u → F before line u → F before l t
    move before line u line_is stage_is here = subst (λ (v : Stage). F before l v) (sym stage_is) (subst (λ (m : List ℕ). F before m u) (sym line_is) here)

    by_stage : (s : Stage) → IsSound s → Step s l t → F (behind s) l t
    by_stage Start sound step = move [] (codes "book 1") Headed step.0 step.1 (tt, refl)
    by_stage Headed sound step = move ((codes "book 1", None) ∷ []) (supply_line step.0).0 (Supplied step.0) step.1 step.3 (step.2, refl)
    by_stage (Supplied supply) sound step =
        move ((codes "book 1", None) ∷ supply_line supply ∷ []) (reserve_line step.0).0 (Listing (opened supply step.0)) step.1 step.3
        (record { supply = sound; reserves = step.2; bidders = tt }, refl)
    by_stage (Listing book) sound (inl last) = move (listed book) (codes "end") (Ended book) last.0 last.1 (sound, refl)
    by_stage (Listing book) sound (inr step) = move (listed book) l (Listing step.0) refl step.2 (adds_one book step.0 l sound step.1)
    by_stage (Ended book) sound step = absurd step

-- each stage has the prefix of a text after it: a book with as much as is read, and nothing else

zeros_small : (n : ℕ) → AllByRecursion (λ n. n ≤ 2 ^ 36) (replicate n 0)
zeros_small zero = tt
zeros_small (suc n) = (omega arith, zeros_small n)

free_book : (supply : List ℕ) → IsOffer supply → IsBook (opened supply (empty_package supply))
free_book supply is = record { supply = is; reserves = record { count = length-replicate (length supply) 0; each = zeros_small (length supply) }; bidders = tt }

one_lot : IsOffer (1 ∷ [])
one_lot = record { some = omega arith; each = ((omega arith, omega arith), tt) }

front_of : (s : Stage) → IsSound s → FrontOf IsBook book_lines (behind s)
front_of Start sound = record { value = opened (1 ∷ []) (empty_package (1 ∷ [])); count = 0; valid = free_book (1 ∷ []) one_lot; same = refl }
front_of Headed sound = record { value = opened (1 ∷ []) (empty_package (1 ∷ [])); count = 1; valid = free_book (1 ∷ []) one_lot; same = refl }
front_of (Supplied supply) sound = record { value = opened supply (empty_package supply); count = 2; valid = free_book supply sound; same = refl }
front_of (Listing book) sound = record {
  value = book;
  count = length (listed book);
  valid = sound;
  same =
      take_at (listed book) ((codes "end", None) ∷ []) _ refl;
}
front_of (Ended book) sound = record {
  value = book;
  count = length (book_lines book);
  valid = sound;
  same =
      take_all (length (book_lines book)) (book_lines book) (omega arith);
}

-- the stages go over the lines of a book

bid_added_line : (book : Book) (front : List Bidder) (name : List ℕ) (had : List BookBid) (b : BookBid)
    → IsBid book.supply book.reserves (last_lots (empty_package book.supply) had) b
    → AddsBid (with_bidders book (front ++ bidder_with name had ∷ [])) (with_bidders book (front ++ bidder_with name (had ++ b ∷ []) ∷ [])) (bid_line 0 b).0
bid_added_line book front name had b is =
    let old = with_bidders book (front ++ bidder_with name had ∷ []) in
    record {
      bid = b;
      some = omega (arith, length-append front (bidder_with name had ∷ []));
      spelled = refl;
      valid = subst (λ (x : Bidder). IsBid book.supply book.reserves (last_lots (empty_package book.supply) x.bids) b)
          (sym (last_of old front (bidder_with name had) refl)) is;
      new_is = sym (with_last old front (bidder_with name had) b refl);
    }

bids_run : (book : Book) (front : List Bidder) (name : List ℕ) (had bs : List BookBid) → IsOffer book.supply
    → AreBids book.supply book.reserves (last_lots (empty_package book.supply) had) bs
    → Runs Step excess (Listing (with_bidders book (front ++ bidder_with name had ∷ []))) (bid_lines (length had) bs)
    (Listing (with_bidders book (front ++ bidder_with name (had ++ bs) ∷ [])))
bids_run book front name had [] supply all = ap (λ (r : List BookBid). Listing (with_bidders book (front ++ bidder_with name r ∷ []))) (sym (append-nil had))
bids_run book front name had (b ∷ bs) supply all =
    let more = had ++ b ∷ [] in
    let rest = bids_run book front name (had ++ b ∷ []) bs supply (subst (λ (p : List ℕ). AreBids book.supply book.reserves p bs)
    (sym (last_lots-push (empty_package book.supply) had b)) all.1) in
    let small : AreSmall (b.lots ++ b.amount ∷ []) = small_counts b.lots book.supply b.amount all.0.categories all.0.within supply.each all.0.top in
    let mark : bid_excess (length had + 1) ≡ last_excess 0 (front ++ bidder_with name (had ++ b ∷ []) ∷ []) =
    sym (last_excess-push 0 front (bidder_with name (had ++ b ∷ [])) ∙ bids_excess-push (0 + length front + 1) had b) in (
      Listing (with_bidders book (front ++ bidder_with name (had ++ b ∷ []) ∷ [])),
      line_append (codes "bid") (decimals_text (b.lots ++ b.amount ∷ [])) bid_word (numbers_line _ small),
      inr (
        with_bidders book (front ++ bidder_with name (had ++ b ∷ []) ∷ []),
        inr (bid_added_line book front name had b all.0),
        refl,
      ),
      mark,
      subst (λ (r : List BookBid). Runs Step excess (Listing (with_bidders book (front ++ bidder_with name (had ++ b ∷ []) ∷ [])))
          (bid_lines (length had + 1) bs) (Listing (with_bidders book (front ++ bidder_with name r ∷ [])))) (append_assoc had (b ∷ []) bs)
          (subst (λ (k : ℕ). Runs Step excess (Listing (with_bidders book (front ++ bidder_with name (had ++ b ∷ []) ∷ []))) (bid_lines k bs)
          (Listing (with_bidders book (front ++ bidder_with name ((had ++ b ∷ []) ++ bs) ∷ [])))) (length-append had (b ∷ [])) rest),
    )

bidder_run : (book : Book) (front : List Bidder) (b : Bidder) → IsOffer book.supply → IsBidder book.supply book.reserves front b
    → Runs Step excess (Listing (with_bidders book front)) (bidder_line (length front) b.name ∷ bid_lines 0 b.bids)
    (Listing (with_bidders book (front ++ b ∷ [])))
bidder_run book front b supply is =
    let mark : bidder_excess (length front + 1) ≡ last_excess 0 (front ++ bidder_with b.name [] ∷ []) =
    ap bidder_excess (omega arith) ∙ sym (last_excess-push 0 front (bidder_with b.name [])) in (
      Listing (with_bidders book (front ++ bidder_with b.name [] ∷ [])),
      line_append (codes "bidder ") b.name bidder_word (name_line b.name is.name),
      inr (
        with_bidders book (front ++ bidder_with b.name [] ∷ []),
        inl (record { name = b.name; spelled = refl; valid = is.name; unused = is.unused; new_is = refl }),
        refl,
      ),
      mark,
      bids_run book front b.name [] b.bids supply is.bids,
    )

bidders_run : (book : Book) (front bs : List Bidder) → IsOffer book.supply → AreBidders book.supply book.reserves front bs
    → Runs Step excess (Listing (with_bidders book front)) (bidder_lines (length front) bs) (Listing (with_bidders book (front ++ bs)))
bidders_run book front [] supply all = ap (λ (r : List Bidder). Listing (with_bidders book r)) (sym (append-nil front))
bidders_run book front (b ∷ bs) supply all =
    let first = bidder_run book front b supply all.0 in
    let rest = bidders_run book (front ++ b ∷ []) bs supply all.1 in
    let moved : Runs Step excess (Listing (with_bidders book (front ++ b ∷ []))) (bidder_lines (length front + 1) bs)
    (Listing (with_bidders book (front ++ b ∷ bs))) =
    subst (λ (r : List Bidder). Runs Step excess (Listing (with_bidders book (front ++ b ∷ []))) (bidder_lines (length front + 1) bs)
    (Listing (with_bidders book r))) (append_assoc front (b ∷ []) bs)
    (subst (λ (k : ℕ). Runs Step excess (Listing (with_bidders book (front ++ b ∷ []))) (bidder_lines k bs)
    (Listing (with_bidders book ((front ++ b ∷ []) ++ bs)))) (length-append front (b ∷ [])) rest) in
    runs_append Step excess (Listing (with_bidders book front)) (Listing (with_bidders book (front ++ b ∷ [])))
    (Listing (with_bidders book (front ++ b ∷ bs))) (bidder_line (length front) b.name ∷ bid_lines 0 b.bids)
    (bidder_lines (length front + 1) bs) first moved

complete : (book : Book) → IsBook book → Runs Step excess begin (book_lines book) (finish book)
complete book valid =
    let free = opened book.supply book.reserves in
    let head : Runs Step excess begin (head_lines book) (Listing free) = (
      Headed,
      book_word,
      (refl, refl),
      refl,
      (
        Supplied book.supply,
        line_append (codes "supply") (decimals_text book.supply) supply_word (numbers_line book.supply (small_supply book.supply valid.supply.each)),
        (book.supply, refl, valid.supply, refl),
        refl,
        (
          Listing free,
          line_append (codes "reserve") (decimals_text book.reserves) reserve_word
              (numbers_line book.reserves (small_reserves book.reserves valid.reserves.each)),
          (book.reserves, refl, valid.reserves, refl),
          refl,
          refl,
        ),
      ),
    ) in
    let body = bidders_run book [] book.bidders valid.supply valid.bidders in
    let last : Runs Step excess (Listing book) ((codes "end", None) ∷ []) (finish book) = (finish book, end_word, inl (refl, refl), refl, refl) in
    runs_append Step excess begin (Listing book) (finish book) (head_lines book ++ bidder_lines 0 book.bidders) ((codes "end", None) ∷ [])
    (runs_append Step excess begin (Listing free) (Listing book) (head_lines book) (bidder_lines 0 book.bidders) head body) last

one_step : StepsOnce IsSound Step
one_step s t u l = by_stage s
  where
    by_stage : (s : Stage) → IsSound s → Step s l t → Step s l u → t ≡ u
    by_stage Start sound a b = a.1 ∙ sym b.1
    by_stage Headed sound a b = a.3 ∙ ap (λ (x : List ℕ). Supplied x) (supplies_one l a.0 b.0 a.2 b.2 a.1 b.1) ∙ sym b.3
    by_stage (Supplied supply) sound a b = a.3 ∙ ap (λ (x : List ℕ). Listing (opened supply x)) (reserves_one supply l a.0 b.0 a.2 b.2 a.1 b.1) ∙ sym b.3
    by_stage (Listing book) sound (inl a) (inl b) = a.1 ∙ sym b.1
    by_stage (Listing book) sound (inl a) (inr b) = absurd (end_adds_none book b.0 l a.0 b.1)
    by_stage (Listing book) sound (inr a) (inl b) = absurd (end_adds_none book a.0 l b.0 a.1)
    by_stage (Listing book) sound (inr a) (inr b) = a.2 ∙ ap (λ (x : Book). Listing x) (new_one book a.0 b.0 l sound.supply a.1 b.1) ∙ sym b.2
    by_stage (Ended book) sound a b = absurd a

one_value : (v w : Book) → finish v ≡ finish w → v ≡ w
one_value v w is = cc

-- the reader that goes from stage to stage reads the form of books, line by line
pub reads : Reads IsSound Step excess begin finish IsBook book_lines
reads = record {
  complete = complete;
  sound = front_reached IsSound Step excess behind IsBook book_lines step_behind front_of begin tt refl;
  begins = tt;
  keeps = λ s t l sound step. (step_behind s t l sound step).0;
  one_step = one_step;
  closed = λ v l t step. step;
  one_value = one_value;
}
