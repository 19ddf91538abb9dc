-- What is read of the lines of both sides, and its size.
use Rattle.std.specs.Prelude.{◌≡◌, ℕ, ◌-◌, ◌≤◌, ◌<◌, true, List, length, get_or, ℤ, pos, unsigned_abs}
use Rattle.std.proofs.Common.{sym, ◌∙◌, subst, arith, Vec, Global}
use Rattle.auction_model.specs.Book.{Book, menu_of, net_of}
use Rattle.auction_model.proofs.BoundLaws.{line-sizes}
use Rattle.auction_model.proofs.PlainLaws.{sum_to-at_most}
use Rattle.bid_book.specs.Kept.{IsBidBook}
use Rattle.limits.specs.declared.TheConstants.{MOST_AMOUNT, MOST_VALUE}
use Rattle.value_table.specs.SideLines.{IsLeftLine, IsRightLine}
use Rattle.value_table.specs.Turned.{bidder_at, in_order, worths_in_order}
use Rattle.value_table.proofs.LineLaws.{line-turned}
use Rattle.value_table.proofs.Plain.{net-small}
use Rattle.review.specs.declared.lines.SideLines.{SideLines}
use Rattle.review.specs.Reviewed.{AreSideLines}
use Rattle.review.proofs.LineSets.{count-of, read-own}

module _ (book : Book) (k : ℕ) (line : List ℤ) (kept : IsBidBook book) where
  -- no number of a line is above that of all bidders at the greatest amount
  pub right-small : IsRightLine book k line → (s : ℕ) → unsigned_abs (get_or line s (pos 0)) ≤ MOST_VALUE
  right-small is s =
      omega (
        arith,
        kept.bidders,
        sum_to-at_most (λ _. MOST_AMOUNT) (length book.bidders) MOST_AMOUNT (λ _. omega arith),
        line-sizes (menu_of book) (net_of book) book.supply k line (λ _. MOST_AMOUNT) (λ j i known. net-small book j i kept known) is s,
      )

  pub left-small : k ≤ length book.bidders → IsLeftLine book k line → (s : ℕ) → unsigned_abs (get_or line s (pos 0)) ≤ MOST_VALUE
  left-small inside is s =
      let n = length book.bidders in
      omega (
        arith,
        kept.bidders,
        sum_to-at_most (λ _. MOST_AMOUNT) n MOST_AMOUNT (λ _. omega arith),
        line-sizes (in_order true (menu_of book))
            (worths_in_order true n (net_of book)) book.supply (n - k) line (λ _. MOST_AMOUNT) (λ j i known. net-small book (bidder_at true n j) i kept known)
            (line-turned book k line inside is) s,
      )

module _ (book : Book) (lines : SideLines) (k : ℕ) (v : Vec ℤ Global) (line : List ℤ) where
  -- a line of the right side that isn't stale
  pub right-line : k ≤ length book.bidders → lines.right_from ≤ k → v ≡ get_or lines.right.items k v → line ≡ v.items → AreSideLines book lines
      → IsRightLine book k line
  right-line known low read is are =
      let inside : k < length lines.right.items = omega (arith, known, are.after.full.count, count-of lines.right.items k) in
      subst (λ (l : List ℤ). IsRightLine book k l) (sym (is ∙ read-own lines.right.items k v inside read)) (are.after.exact k low known)

  -- and one of the left side
  pub left-line : k ≤ length book.bidders → k ≤ lines.left_to → v ≡ get_or lines.left.items k v → line ≡ v.items → AreSideLines book lines
      → IsLeftLine book k line
  left-line known high read is are =
      let inside : k < length lines.left.items = omega (arith, known, are.before.full.count, count-of lines.left.items k) in
      subst (λ (l : List ℤ). IsLeftLine book k l) (sym (is ∙ read-own lines.left.items k v inside read)) (are.before.exact k high known)
