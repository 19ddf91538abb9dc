-- The kept rows of any market pass the test of rows.
use Rattle.std.specs.Prelude.{◌≡◌, ℕ, zero, suc, ◌-◌, ◌<◌, ◌≤◌, not, ◌&&◌, IsTrue, List, [], length, map, slice_index_or, ℤ, pos, ◌-ℤ◌, ◌*ℤ◌}
use Rattle.std.specs.List.{AllByRecursion}
use Rattle.std.proofs.Common.{sym, ◌∙◌, ap, arith, subst}
use Rattle.std.proofs.lemmas.Bool.{and_parts, eqb-true, not-false, not-true}
use Rattle.std.proofs.lemmas.List.{get_or-map, length-map}
use Rattle.auction_model.specs.Lowered.{of_bidder}
use Rattle.auction_model.specs.Prices.{sum_over}
use Rattle.auction_model.specs.Market.{Market, number_of, uses, value_of, worth_in}
use Rattle.cert_grammar.specs.Certificate.{RowValue, is_member, row_of as row_at_place}
use Rattle.cert_soundness.specs.MarketTests.{HasTightRow, IsTight}
use Rattle.choices.specs.declared.chooser.Single.{Single}
use Rattle.core_price.specs.Kept.{IsKept}
use Rattle.core_price.specs.declared.priced.PricedRow.{PricedRow}
use Rattle.core_laws.specs.Winners.{for_bidders, has_member}
use Rattle.core_laws.proofs.Blocks.{row-asks}
use Rattle.core_laws.proofs.Rows.{over-same}
use Rattle.book_price.specs.Made.{cert_made, row_from}
use Rattle.book_price.proofs.Members.{member-inside, member-is}
use Rattle.book_price.proofs.Places.{each-at}

abbrev pub no_row : PricedRow
no_row = record { row = record { members = 0; bound = pos 0 }; choice = []; first = pos 0; second = pos 0 }

-- the kept row at a place, counted from 0
abbrev pub priced_at : List PricedRow → ℕ → PricedRow
priced_at rows i = slice_index_or rows i no_row

-- the rows of the certificate, counted from 1
pub row-is : (z : List ℕ) (rows : List PricedRow) (i : ℕ) → i < length rows → row_at_place (map (row_from z) rows) (suc i) ≡ row_from z (priced_at rows i)
row-is z rows i lt = let b : suc i - 1 ≡ i = omega arith in rw b (get_or-map (row_from z) rows i no_row
    (record { members = []; first = pos 0; second = pos 0; choice = [] }) lt)

-- a member is a winner that the choice of the row doesn't use
module _ (m : Market) (z : List ℕ) (long : length z ≡ m.bidders) (den : ℤ) (at : List ℤ) (r : PricedRow) (kept : IsKept m z den at r) (j : ℕ)
    (member : IsTrue (is_member (row_from z r).members j)) where
  idle : IsTrue (uses z j && not (uses r.choice j))
  idle =
      let inside = member-inside (has_member z r.row.members) (length z) j member in
      kept.given.idle j inside.0 (omega (arith, inside.1, long)) (sym (member-is (has_member z r.row.members) (length z) j inside.0 inside.1) ∙ member)

  -- a member of a row wins
  pub member-wins : IsTrue (uses z j)
  member-wins = (and_parts (uses z j) (not (uses r.choice j)) idle).0

  -- the choice of a row doesn't use a member
  pub member-unused : number_of r.choice j ≡ 0
  member-unused = eqb-true (number_of r.choice j) 0 (not-false _ (not-true (uses r.choice j) ((and_parts (uses z j) (not (uses r.choice j)) idle).1)))

module _ (m : Market) (z : List ℕ) (long : length z ≡ m.bidders) (den : ℤ) (at : List ℤ) (r : PricedRow) (kept : IsKept m z den at r) where
  -- the list of members is the set of the row
  same : (j : ℕ) → 0 < j → j ≤ m.bidders → is_member (row_from z r).members j ≡ has_member z r.row.members j
  same j some inside = member-is (has_member z r.row.members) (length z) j some (omega (arith, long))

  -- what the members pay is what the choice asks of them
  pub row-tight : sum_over (is_member (row_from z r).members) (of_bidder (for_bidders z at)) m.bidders
      ≡ den *ℤ (value_of m r.choice -ℤ sum_over (λ j. not (is_member (row_from z r).members j)) (worth_in m z) m.bidders)
  row-tight =
      let paid = over-same (is_member (row_from z r).members) (has_member z r.row.members) (of_bidder (for_bidders z at)) m.bidders same in
      let won = over-same (λ j. not (is_member (row_from z r).members j)) (λ j. not (has_member z r.row.members j)) (worth_in m z) m.bidders
      (λ j some inside. ap not (same j some inside)) in
      paid
      ∙ row-asks m z long at r.row.members
      ∙ kept.tight
      ∙ ap (λ (x : ℤ). den *ℤ x) (kept.given.given ∙ ap (λ (x : ℤ). value_of m r.choice -ℤ x) (sym won))

module _ (m : Market) (z : List ℕ) (long : length z ≡ m.bidders) (value : ℤ) (table : List (List ℤ)) (singles : List Single) (tables : List (List (List ℤ)))
    (den : ℤ) (at : List ℤ) (rows : List PricedRow) (lowered : List (List ℤ)) where
  row_passes : (r : PricedRow) → IsKept m z den at r → IsTight m (cert_made z value table singles tables den at rows lowered) (row_from z r)
  row_passes r kept = record {
    winners = λ j member. member-wins m z long den at r kept j member;
    allowed = kept.given.allowed;
    unused = λ j member. member-unused m z long den at r kept j member;
    tight = row-tight m z long den at r kept;
  }

  row_at-passes : AllByRecursion (IsKept m z den at) rows → (place : ℕ) → 0 < place → place ≤ length rows
      → IsTight m (cert_made z value table singles tables den at rows lowered) (row_at_place (map (row_from z) rows) place)
  row_at-passes kept zero some inside = absurd (omega arith)
  row_at-passes kept (suc i) some inside =
      subst (λ (r : RowValue). IsTight m (cert_made z value table singles tables den at rows lowered) r) (sym (row-is z rows i inside))
      (row_passes (priced_at rows i) (each-at (IsKept m z den at) rows kept i no_row inside))

  -- the members of each kept row win, aren't used by its choice, and pay just what it asks of them
  pub kept_rows : AllByRecursion (IsKept m z den at) rows → (place : ℕ) → HasTightRow m (cert_made z value table singles tables den at rows lowered) place
  kept_rows kept place = record { row = λ some inside. row_at-passes kept place some (omega (arith, inside, length-map rows (row_from z))) }
