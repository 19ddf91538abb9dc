-- The list without the bid for a package is that without the bid of its number.
use Rattle.std.specs.Prelude.{◌≡◌, ℕ, zero, suc, ◌<◌, true, false, List, [], ◌∷◌, length, get_or, refl}
use Rattle.std.proofs.Common.{ap, subst, arith}
use Rattle.std.specs.List.{remove}
use Rattle.auction_model.specs.Book.{BookBid, no_bid}
use Rattle.auction_model.specs.Entries.{without_entry}
use Rattle.auction_model.specs.PackageTests.{is_before, is_same}
use Rattle.auction_model.proofs.PackageTestLaws.{is_before-not_same, is_same-refl, not_same-sym}
use Rattle.bid_book.specs.Changes.{InPackageOrder}

-- bids after a package have none for it
behind-without : (lots : List ℕ) (bids : List BookBid) → ((k : ℕ) → k < length bids → is_before lots (get_or bids k no_bid).lots ≡ true)
    → without_entry lots bids ≡ bids
behind-without lots [] behind = refl
behind-without lots (b ∷ bids) behind =
    let apart : is_same lots b.lots ≡ false = is_before-not_same lots b.lots (behind 0 (omega arith)) in
    rw apart (ap (λ (l : List BookBid). b ∷ l) (behind-without lots bids (λ k inside. behind (suc k) (omega (arith, inside)))))

-- bids in package order without the one for a package are those without the bid of its number
pub without-removed : (bids : List BookBid) (lots : List ℕ) (i : ℕ) → InPackageOrder bids → i < length bids → (get_or bids i no_bid).lots ≡ lots
    → without_entry lots bids ≡ remove bids i
without-removed [] lots i order inside own = absurd (omega (arith, inside))
without-removed (b ∷ bids) lots zero order inside own =
    let same : is_same lots b.lots ≡ true = subst (λ (x : List ℕ). is_same x b.lots ≡ true) own (is_same-refl b.lots) in
    rw same (behind-without lots bids (λ k less. subst (λ (x : List ℕ). is_before x (get_or bids k no_bid).lots ≡ true) own
    (order 0 (suc k) (omega arith) (omega (arith, less)))))
without-removed (b ∷ bids) lots (suc i) order inside own =
    let early : is_before b.lots lots ≡ true = subst (λ (x : List ℕ). is_before b.lots x ≡ true) own (order 0 (suc i) (omega arith) inside) in
    rw (not_same-sym b.lots lots (is_before-not_same b.lots lots early))
    (ap (λ (l : List BookBid). b ∷ l) (without-removed bids lots i (λ k h low less. order (suc k) (suc h) (omega (arith, low)) (omega (arith, less)))
    (omega (arith, inside)) own))
