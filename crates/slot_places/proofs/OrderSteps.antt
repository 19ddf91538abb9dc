-- The first order is found bidder by bidder.
use Rattle.std.specs.Prelude.{◌≡◌, ℕ, suc, ◌+◌, ◌-◌, ◌^◌, ◌≤◌, ◌<◌, true, false, List, [], ◌∷◌, ◌++◌, length, drop, get_or, refl}
use Rattle.std.proofs.Common.{sym, ◌∙◌, subst, append_assoc}
use Rattle.std.proofs.lemmas.List.{drop_all, drop_more}
use Rattle.slot_places.specs.Slots.{SlotList}
use Rattle.slot_places.specs.Board.{nobody, joined, is_known, board_of}
use Rattle.slot_places.specs.Orders.{allows}
use Rattle.slot_places.specs.SetTable.{holds}
use Rattle.slot_places.specs.Steps.{CanFollow, IsFirstNext}
use Rattle.slot_places.proofs.SameLaws.{slots-ask}
use Rattle.slot_places.proofs.SetBits.{holds-joined, joined-small, power-positive}
use Rattle.slot_places.proofs.NextLaws.{next-places, placed-by}
use Rattle.slot_places.proofs.FirstOrders.{FirstOrder, Passes, SoPlaced, allowed-by, first-same, first-with, passes-back, passes-begins, passes-on}
use Rattle.slot_places.proofs.FirstOrders.{passes-says, passes-start, refused-by}

-- one bidder more
pub so-next : (slots : SlotList) (c order : List ℕ) (left n j : ℕ) → SoPlaced slots c order (suc left) n → IsFirstNext (board_of slots) c left (holds n) j
    → SoPlaced slots c (order ++ j ∷ []) left (n + 2 ^ (j - 1))
so-next slots c order left n j so is =
    let b = board_of slots in
    let asks = slots-ask slots 0 in
    record {
      small = joined-small (length slots.bidders) n j so.small is.next.some is.next.low is.next.new;
      same = next-places b asks c left n j is.next ∙ sym (placed-by b asks c left n j is.next) ∙ so.same;
      on = λ rest first.
          subst (λ (l : List ℕ). FirstOrder b c (length slots.bidders) nobody l) (sym (append_assoc order (j ∷ []) rest))
          (so.on (j ∷ rest) (first-with b c left (holds n) j rest is
          (first-same b asks c left (holds (n + 2 ^ (j - 1))) (joined j (holds n)) rest (λ i some. sym (holds-joined n j i is.next.some is.next.new some))
          first)));
    }

-- the same by the values at hand
pub so-more : (slots : SlotList) (c order new : List ℕ) (rest left less n j w : ℕ) → rest ≡ suc left → left ≡ less → new ≡ order ++ j ∷ [] → w ≡ 2 ^ (j - 1)
    → SoPlaced slots c order rest n → IsFirstNext (board_of slots) c left (holds n) j → SoPlaced slots c new less (n + w)
so-more slots c order new rest left less n j w more fewer pushed weight so is =
    subst (λ (l : List ℕ). SoPlaced slots c l less (n + w)) (sym pushed)
    (subst (λ m. SoPlaced slots c (order ++ j ∷ []) less (n + m)) (sym weight)
    (subst (λ m. SoPlaced slots c (order ++ j ∷ []) m (n + 2 ^ (j - 1))) fewer
    (so-next slots c order left n j (subst (λ m. SoPlaced slots c order m n) more so) is)))

-- Of an order that many entries are tested: the whole passes just if what is left passes after their set.
pub record SoTested (slots : SlotList) (c order : List ℕ) (i n : ℕ) : Type 0 where
  pub whole : Passes (board_of slots) c (holds n) (drop i order) → Passes (board_of slots) c nobody order
  pub part : Passes (board_of slots) c nobody order → Passes (board_of slots) c (holds n) (drop i order)
  pub small : n < 2 ^ length slots.bidders

-- no entry of the order is tested yet
pub tests-begin : (slots : SlotList) (c order : List ℕ) → SoTested slots c order 0 0
tests-begin slots c order = record { whole = passes-start slots c order; part = passes-begins slots c order; small = power-positive (length slots.bidders) }

-- one entry more can follow
pub tests-more : (slots : SlotList) (c order : List ℕ) (i n w : ℕ) → i < length order → w ≡ 2 ^ (get_or order i 0 - 1)
    → CanFollow (board_of slots) c (holds n) (get_or order i 0) → SoTested slots c order i n → SoTested slots c order (i + 1) (n + w)
tests-more slots c order i n w inside weight f so =
    let b = board_of slots in
    let j = get_or order i 0 in
    let rest = drop (i + 1) order in
    let next : drop i order ≡ j ∷ rest = drop_more order i 0 inside in
    subst (λ m. SoTested slots c order (i + 1) (n + m)) (sym weight)
    (record {
      whole = λ p. so.whole (subst (Passes b c (holds n)) (sym next) (passes-back slots c n j rest f p));
      part = λ p. passes-on slots c n j rest (subst (Passes b c (holds n)) next (so.part p));
      small = joined-small (length slots.bidders) n j so.small f.some f.low f.new;
    })

-- one that can't
pub tests-fail : (slots : SlotList) (c order : List ℕ) (i n : ℕ) → i < length order → (CanFollow (board_of slots) c (holds n) (get_or order i 0) → ⊥)
    → SoTested slots c order i n → false ≡ allows slots order c
tests-fail slots c order i n inside not so =
    let b = board_of slots in
    let rest = drop (i + 1) order in
    refused-by slots c order (λ a. not (passes-says b c (holds n) (get_or order i 0) rest
    (subst (Passes b c (holds n)) (drop_more order i 0 inside) (so.part a.passes))).0)

-- all can follow
pub tests-end : (slots : SlotList) (c order : List ℕ) (i n : ℕ) → length order ≤ i → length order ≡ length slots.bidders → is_known (board_of slots) c ≡ true
    → SoTested slots c order i n → true ≡ allows slots order c
tests-end slots c order i n all count known so =
    sym (allowed-by slots c order count known (so.whole (subst (Passes (board_of slots) c (holds n)) (sym (drop_all i order all)) (refl, refl))))
