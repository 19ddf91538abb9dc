-- Whether a line of a book leads on is known at each stage.
use Rattle.std.proofs.Common.{inl, inr, ◌⊎◌, ◌≡◌, ◌≢◌, ℕ, ◌≤◌, ◌<◌, ◌^◌, List, [], ◌∷◌, ◌++◌, length, refl, sym, ap, subst, ◌∙◌, arith, length-append}
use Rattle.std.specs.Prelude.{codes}
use Rattle.std.specs.List.{AllByRecursion}
use Rattle.std.proofs.lemmas.Bool.{cases_eq}
use Rattle.std.proofs.lemmas.List.{append_cancel_left}
use Rattle.auction_model.specs.Book.{Bidder, Book, BookBid, bidder_with, with_bidders}
use Rattle.auction_model.specs.Package.{ComesBefore, cost_of, is_within}
use Rattle.limits.specs.declared.TheConstants.{MOST_AMOUNT, MOST_COUNT, MOST_NAME_BYTES, MOST_PRICE}
use Rattle.book_grammar.specs.BookForm.{AreReserves, IsBid, IsLetter, IsName, IsNameByte, IsOffer}
use Rattle.line_format.specs.Decimals.{decimals_text}
use Rattle.line_format.proofs.Decided.{Decided, StepsDecided, after_word, decided_all, decided_as, decided_both, decided_either, decided_le, decided_lt}
use Rattle.line_format.proofs.Decided.{decided_not, decided_same, decided_three, decided_true, some_fields}
use Rattle.bid_book.specs.declared.read.Stage.{Stage}
use Rattle.bid_book.specs.declared.read.Stage.TheVariants.{Start, Headed, Supplied, Listing, Ended}
use Rattle.bid_book.specs.Stages.{AddsBid, AddsBidder, Step, lots_before, opened, with_bid}
use Rattle.bid_book.proofs.Numbers.{AreSmall, snoc_one}
use Rattle.bid_book.proofs.Reading.{IsSound, finish}
use Rattle.bid_book.proofs.Spelled.{small_counts, small_reserves, small_supply}

decided_letter : (c : ℕ) → Decided (IsLetter c)
decided_letter c = decided_both (decided_le 97 c) (decided_le c 122)

decided_name_byte : (c : ℕ) → Decided (IsNameByte c)
decided_name_byte c = decided_either (decided_letter c) (decided_either (decided_both (decided_le 48 c) (decided_le c 57)) (cases_eq c 95))

-- that a name is one
pub decided_name : (name : List ℕ) → Decided (IsName name)
decided_name [] = inr (λ is. is)
decided_name (c ∷ cs) = decided_three (decided_letter c) (decided_all IsNameByte decided_name_byte cs) (decided_lt (length cs) MOST_NAME_BYTES)

-- that no bidder before has it
decided_unused : (name : List ℕ) (bidders : List Bidder) → Decided (AllByRecursion (λ b. b.name ≢ name) bidders)
decided_unused name bidders = decided_all (λ b. b.name ≢ name) (λ b. decided_not (decided_same b.name name)) bidders

-- numbers below 2 ^ 120 are at most that
pub at_most : (ns : List ℕ) → AreSmall ns → AllByRecursion (λ n. n ≤ 2 ^ 120) ns
at_most [] small = tt
at_most (n ∷ ns) small = (omega (arith, small.0), at_most ns small.1)

-- the last of some numbers
pub last_number : (ns : List ℕ) → (ns ≡ []) ⊎ ((front : List ℕ) × (last : ℕ) × (ns ≡ front ++ last ∷ []))
last_number [] = inl refl
last_number (n ∷ ns) = by (last_number ns)
  where
    by : (ns ≡ []) ⊎ ((front : List ℕ) × (last : ℕ) × (ns ≡ front ++ last ∷ []))
        → (n ∷ ns ≡ []) ⊎ ((front : List ℕ) × (last : ℕ) × (n ∷ ns ≡ front ++ last ∷ []))
    by (inl none) = inr ([], n, ap (λ (r : List ℕ). n ∷ r) none)
    by (inr (front, last, is)) = inr (n ∷ front, last, ap (λ (r : List ℕ). n ∷ r) is)

-- no numbers have no last one
pub no_last : (ns front : List ℕ) (last : ℕ) → ns ≡ [] → ns ≡ front ++ last ∷ [] → ⊥
no_last ns front last none is = omega (arith, ap length none, ap length is, length-append front (last ∷ []))

decided_offer : (supply : List ℕ) → Decided (IsOffer supply)
decided_offer supply =
    decided_as (decided_both (decided_lt 0 (length supply)) (decided_all (λ n. (1 ≤ n) × (n ≤ MOST_COUNT))
    (λ n. decided_both (decided_le 1 n) (decided_le n MOST_COUNT)) supply))
    (λ both. record { some = both.0; each = both.1 }) (λ is. (is.some, is.each))

decided_reserves : (supply reserves : List ℕ) → Decided (AreReserves supply reserves)
decided_reserves supply reserves =
    decided_as (decided_both (cases_eq (length reserves) (length supply)) (decided_all (λ n. n ≤ MOST_PRICE) (λ n. decided_le n MOST_PRICE) reserves))
    (λ both. record { count = both.0; each = both.1 }) (λ are. (are.count, are.each))

decided_before : (p q : List ℕ) → Decided (ComesBefore p q)
decided_before [] q = inr (λ comes. comes)
decided_before (a ∷ p) [] = inr (λ comes. comes)
decided_before (a ∷ p) (b ∷ q) = decided_either (decided_lt a b) (decided_both (cases_eq a b) (decided_before p q))

decided_bid : (supply reserves before : List ℕ) (bid : BookBid) → Decided (IsBid supply reserves before bid)
decided_bid supply reserves before bid =
    decided_as
    (decided_both (decided_three (cases_eq (length bid.lots) (length supply)) (decided_true (is_within bid.lots supply)) (decided_before before bid.lots))
    (decided_both (decided_le (cost_of reserves bid.lots) bid.amount) (decided_le bid.amount MOST_AMOUNT)))
    (λ all. record { categories = all.0.0; within = all.0.1; after = all.0.2; reserve = all.1.0; top = all.1.1 })
    (λ is. ((is.categories, is.within, is.after), (is.reserve, is.top)))

-- that a line adds a bidder to a book
bidder_known : (book : Book) (line : List ℕ) → Decided ((new : Book) × AddsBidder book new line)
bidder_known book line = by (after_word (codes "bidder ") line)
  where
    by : Decided ((name : List ℕ) × (line ≡ codes "bidder " ++ name)) → Decided ((new : Book) × AddsBidder book new line)
    by (inr never) = inr (λ found. never (found.1.name, found.1.spelled))
    by (inl (name, is)) =
        decided_as (decided_both (decided_name name) (decided_unused name book.bidders))
        (λ both. (
          with_bidders book (book.bidders ++ bidder_with name [] ∷ []),
          record { name = name; spelled = is; valid = both.0; unused = both.1; new_is = refl },
        ))
        (λ found. (
        let adds = found.1 in
        let same : adds.name ≡ name = append_cancel_left (codes "bidder ") adds.name name (sym adds.spelled ∙ is) in
        (subst IsName same adds.valid, subst (λ (n : List ℕ). AllByRecursion (λ b. b.name ≢ n) book.bidders) same adds.unused)
        ))

-- the numbers of a bid that may come next
abbrev AreOfBid : Book → List ℕ → Type 0
AreOfBid book ns = (bid : BookBid) × (ns ≡ bid.lots ++ bid.amount ∷ []) × (0 < length book.bidders) × IsBid book.supply book.reserves (lots_before book) bid

decided_of_bid : (book : Book) (ns : List ℕ) → Decided (AreOfBid book ns)
decided_of_bid book ns = by (last_number ns)
  where
    by : (ns ≡ []) ⊎ ((front : List ℕ) × (last : ℕ) × (ns ≡ front ++ last ∷ [])) → Decided (AreOfBid book ns)
    by (inl none) = inr (λ found. no_last ns found.0.lots found.0.amount none found.1)
    by (inr (lots, amount, is)) =
        decided_as (decided_both (decided_lt 0 (length book.bidders)) (decided_bid book.supply book.reserves (lots_before book)
        (record { lots = lots; amount = amount })))
        (λ both. (record { lots = lots; amount = amount }, is, both.0, both.1))
        (λ found. (
        let parts = snoc_one found.0.lots lots found.0.amount amount (sym found.1 ∙ is) in
        let same : found.0 ≡ record { lots = lots; amount = amount } = λ i. record { lots = parts.0 i; amount = parts.1 i } in
        (found.2, subst (IsBid book.supply book.reserves (lots_before book)) same found.3)
        ))

few_of_bid : (book : Book) → IsOffer book.supply → (ns : List ℕ) → AreOfBid book ns → AllByRecursion (λ n. n ≤ 2 ^ 120) ns
few_of_bid book offer ns (bid, is, some, valid) =
    subst (λ (r : List ℕ). AllByRecursion (λ n. n ≤ 2 ^ 120) r) (sym is)
    (at_most (bid.lots ++ bid.amount ∷ []) (small_counts bid.lots book.supply bid.amount valid.categories valid.within offer.each valid.top))

-- that it adds a bid
bid_known : (book : Book) → IsOffer book.supply → (line : List ℕ) → Decided ((new : Book) × AddsBid book new line)
bid_known book offer line =
    decided_as (some_fields (2 ^ 120) (codes "bid") (AreOfBid book) (decided_of_bid book) (few_of_bid book offer) line)
    (λ found. (
    let of = found.2 in (
      with_bid book of.0,
      record { bid = of.0; some = of.2; spelled = found.1 ∙ ap (λ (ns : List ℕ). codes "bid" ++ decimals_text ns) of.1; valid = of.3; new_is = refl },
    )
    ))
    (λ found. let adds = found.1 in (adds.bid.lots ++ adds.bid.amount ∷ [], adds.spelled, (adds.bid, refl, adds.some, adds.valid)))

-- whether a line leads on from a stage
pub leads : StepsDecided IsSound Step
leads Start l sound = decided_as (decided_same l (codes "book 1")) (λ is. (Headed, (is, refl))) (λ found. found.1.0)
leads Headed l sound =
    decided_as (some_fields (2 ^ 120) (codes "supply") IsOffer decided_offer (λ ns is. at_most ns (small_supply ns is.each)) l)
    (λ found. (Supplied found.0, (found.0, found.1, found.2, refl))) (λ found. (found.1.0, found.1.1, found.1.2))
leads (Supplied supply) l sound =
    decided_as (some_fields (2 ^ 120) (codes "reserve") (AreReserves supply) (decided_reserves supply) (λ ns are. at_most ns (small_reserves ns are.each)) l)
    (λ found. (Listing (opened supply found.0), (found.0, found.1, found.2, refl))) (λ found. (found.1.0, found.1.1, found.1.2))
leads (Listing book) l sound = by (decided_same l (codes "end")) (bidder_known book l) (bid_known book sound.supply l)
  where
    neither : (l ≡ codes "end" → ⊥) → ((new : Book) × AddsBidder book new l → ⊥) → ((new : Book) × AddsBid book new l → ⊥) → (t : Stage)
        → Step (Listing book) l t → ⊥
    neither end bidder bid t (inl last) = end last.0
    neither end bidder bid t (inr (new, inl adds, is)) = bidder (new, adds)
    neither end bidder bid t (inr (new, inr adds, is)) = bid (new, adds)

    by : Decided (l ≡ codes "end") → Decided ((new : Book) × AddsBidder book new l) → Decided ((new : Book) × AddsBid book new l)
        → Decided ((t : Stage) × Step (Listing book) l t)
    by (inl is) bidder bid = inl (Ended book, inl (is, refl))
    by (inr end) (inl (new, adds)) bid = inl (Listing new, inr (new, inl adds, refl))
    by (inr end) (inr bidder) (inl (new, adds)) = inl (Listing new, inr (new, inr adds, refl))
    by (inr end) (inr bidder) (inr bid) = inr (λ found. neither end bidder bid found.0 found.1)
leads (Ended book) l sound = inr (λ found. found.1)

-- whether it is the end of a book
pub ends : (s : Stage) → Decided ((book : Book) × (s ≡ finish book))
ends Start = inr (λ found. absurd (cc found.1))
ends Headed = inr (λ found. absurd (cc found.1))
ends (Supplied supply) = inr (λ found. absurd (cc found.1))
ends (Listing book) = inr (λ found. absurd (cc found.1))
ends (Ended book) = inl (book, refl)
