-- The order of packages as a test, and the package after which the next bid's has to come.
use Rattle.std.proofs.Common.{Bool, List, [], ap, arith, false, get_or, inl, inr, length, refl, replicate, suc, sym, true, zero, ℕ, ⊎_elim, ◌-◌, ◌<◌}
use Rattle.std.proofs.Common.{◌∙◌, ◌∷◌, ◌≡◌, ◌⊎◌}
use Rattle.std.specs.Prelude.{IsTrue, nat_lt, ◌&&◌, ◌||◌, ◌==◌}
use Rattle.std.proofs.lemmas.Bool.Decides.{nat_tests}
use Rattle.auction_model.specs.Book.{Book, BookBid, bids_of, lots_of, no_bid}
use Rattle.auction_model.specs.Package.{ComesBefore, is_within}
use Rattle.book_grammar.specs.BookForm.{empty_package}
use Rattle.bid_book.specs.Stages.{last_lots, last_bids, lots_before}

-- the first list comes first, also if it is a prefix of the other
abbrev pub is_before : List ℕ → List ℕ → Bool
is_before [] [] = false
is_before [] (y ∷ ys) = true
is_before (x ∷ xs) [] = false
is_before (x ∷ xs) (y ∷ ys) = nat_lt x y || (x == y && is_before xs ys)

head_before : (x y : ℕ) (b : Bool) → IsTrue (nat_lt x y || (x == y && b)) → (x < y) ⊎ ((x ≡ y) × IsTrue b)
head_before x y b is = grind (arith, nat_tests)

-- of two packages of as many categories, the one that the test puts first comes first
pub before_comes : (p q : List ℕ) → length p ≡ length q → IsTrue (is_before p q) → ComesBefore p q
before_comes [] [] same is = let e : false ≡ true = is in absurd (cc e)
before_comes [] (b ∷ q) same is = absurd (omega arith)
before_comes (a ∷ p) [] same is = absurd (omega arith)
before_comes (a ∷ p) (b ∷ q) same is =
    ⊎_elim (λ (lt : a < b). inl lt) (λ (eq : (a ≡ b) × IsTrue (is_before p q)). inr (eq.0, before_comes p q (omega arith) eq.1))
    (head_before a b (is_before p q) is)

-- the test puts first the package that comes first
pub comes_before : (p q : List ℕ) → ComesBefore p q → IsTrue (is_before p q)
comes_before [] q comes = absurd comes
comes_before (a ∷ p) [] comes = absurd comes
comes_before (a ∷ p) (b ∷ q) (inl lt) = grind (arith, nat_tests)
comes_before (a ∷ p) (b ∷ q) (inr eq) = grind (arith, nat_tests, eq.0, comes_before p q eq.1)

-- the empty package comes before each that isn't empty

-- a package with some lot comes after that of as many categories without any
pub empty_comes : (p : List ℕ) → is_within p [] ≡ false → ComesBefore (replicate (length p) 0) p
empty_comes [] some = let e : true ≡ false = some in absurd (cc e)
empty_comes (zero ∷ p) some = inr (refl, empty_comes p some)
empty_comes (suc n ∷ p) some = inl (omega arith)

-- a package after one without lots has some lot
pub comes_some : (n : ℕ) (p : List ℕ) → ComesBefore (replicate n 0) p → is_within p [] ≡ false
comes_some zero p comes = absurd comes
comes_some (suc n) [] comes = absurd comes
comes_some (suc n) (zero ∷ p) (inl lt) = absurd (omega arith)
comes_some (suc n) (zero ∷ p) (inr eq) = comes_some n p eq.1
comes_some (suc n) (suc a ∷ p) comes = grind (arith, nat_tests)

-- the package of the last bid

-- without bids it is the package that comes before the first
pub last_lots-none : (before : List ℕ) (bs : List BookBid) → length bs ≡ 0 → last_lots before bs ≡ before
last_lots-none before [] none = refl
last_lots-none before (b ∷ bs) none = absurd (omega arith)

-- with bids it is the package at the last place among them
pub last_lots-at : (before : List ℕ) (bs : List BookBid) → 0 < length bs → last_lots before bs ≡ (get_or bs (length bs - 1) no_bid).lots
last_lots-at before [] some = absurd (omega arith)
last_lots-at before (b ∷ []) some = refl
last_lots-at before (b ∷ c ∷ bs) some =
    let place : suc (length (c ∷ bs) - 1) ≡ length (b ∷ c ∷ bs) - 1 = omega arith in
    last_lots-at b.lots (c ∷ bs) (omega arith) ∙ ap (λ (k : ℕ). (get_or (b ∷ c ∷ bs) k no_bid).lots) place

-- the package of a bid is that at its place
pub lots_at : (book : Book) (j i : ℕ) → 0 < i → lots_of book j i ≡ (get_or (bids_of book j) (i - 1) no_bid).lots
lots_at book j zero some = absurd (omega arith)
lots_at book j (suc i) some = ap (λ (k : ℕ). (get_or (bids_of book j) k no_bid).lots) (omega arith)

-- if the last bidder, of number n, has that many bids
pub lots_none : (book : Book) (n last : ℕ) → n ≡ length book.bidders → last ≡ length (bids_of book n) → last ≡ 0 → lots_before book ≡ empty_package book.supply
lots_none book n last is count none = last_lots-none (empty_package book.supply) (last_bids book)
    (ap (λ (k : ℕ). length (bids_of book k)) (sym is) ∙ sym count ∙ none)

-- if the last bidder has bids, the next bid's package has to come after that of the last one
pub lots_some : (book : Book) (n last : ℕ) → n ≡ length book.bidders → last ≡ length (bids_of book n) → 0 < last → lots_before book ≡ lots_of book n last
lots_some book n last is count some =
    let own : last ≡ length (last_bids book) = count ∙ ap (λ (k : ℕ). length (bids_of book k)) is in
    last_lots-at (empty_package book.supply) (last_bids book) (omega arith)
    ∙ ap (λ (k : ℕ). (get_or (last_bids book) (k - 1) no_bid).lots) (sym own)
    ∙ ap (λ (k : ℕ). (get_or (bids_of book k) (last - 1) no_bid).lots) (sym is)
    ∙ sym (lots_at book n last some)
