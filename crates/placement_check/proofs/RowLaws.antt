-- The rows of a certificate by their places, and the sizes of their multipliers.
use Rattle.std.specs.Prelude.{List, [], get_or, if◌then◌else◌, length, map, pos, replicate, suc, unsigned_abs, zero, ℕ, ℤ, ◌+ℤ◌, ◌+◌, ◌-◌, ◌<◌, ◌^◌}
use Rattle.std.specs.Prelude.{◌∷◌, ◌≡◌, ◌≤◌}
use Rattle.std.proofs.Common.{inl, inr, sym, ◌∙◌, ap, subst, arith}
use Rattle.std.proofs.lemmas.Bool.{cases_lt}
use Rattle.std.proofs.lemmas.Int.{ints}
use Rattle.std.proofs.lemmas.List.{get_or-map, get_or-replicate, get_or_past, length-map, length-replicate}
use Rattle.auction_model.specs.Lowered.{of_bidder}
use Rattle.wide_num.specs.Sums.{nth}
use Rattle.cert_check.proofs.SumLaws.{counted-same, counted-size, holding-next}
use Rattle.cert_grammar.specs.Certificate.{RowValue, is_member, row_of}
use Rattle.cert_grammar.specs.CertText.{IsRow}
use Rattle.placement_cert.specs.Parts.{row_value, AreRows}
use Rattle.placement_cert.specs.declared.certificate.PlaceRow.{PlaceRow}
use Rattle.cert_soundness.specs.MarketTests.{sum_holding}
use Rattle.placement_check.specs.RowSums.{AreSumsOf}

rows-at : (bidders : ℕ) (rows : List PlaceRow) (k : ℕ) (d : PlaceRow) → AreRows bidders rows → k < length rows → IsRow bidders (row_value (get_or rows k d))
rows-at bidders [] k d h lt = absurd (omega arith)
rows-at bidders (r ∷ rows) zero d h lt = h.0
rows-at bidders (r ∷ rows) (suc k) d h lt = rows-at bidders rows k d h.2 (omega arith)

-- each row of a certificate has the form of a row for that many bidders
pub each-row :
    (bidders : ℕ) (rows : List PlaceRow) (k : ℕ) (row : PlaceRow) → AreRows bidders rows → k < length rows → row ≡ get_or rows k row
    → IsRow bidders (row_value row)
each-row bidders rows k row are lt is = subst (λ (r : PlaceRow). IsRow bidders (row_value r)) (sym is) (rows-at bidders rows k row are lt)

-- the row that is at a place, counted from 1
pub row-place : (rows : List PlaceRow) (place : ℕ) (row : PlaceRow) → 0 < place → place ≤ length rows → row ≡ get_or rows (place - 1) row
    → row_of (map row_value rows) place ≡ row_value row
row-place rows place row some low is =
    let none : RowValue = record { members = []; first = pos 0; second = pos 0; choice = [] } in
    get_or-map row_value rows (place - 1) row none (omega (arith, some, low)) ∙ ap row_value (sym is)

-- the row after k others is row k + 1
pub row-at : (rows : List PlaceRow) (k : ℕ) (row : PlaceRow) → k < length rows → row ≡ get_or rows k row → row_of (map row_value rows) (k + 1) ≡ row_value row
row-at rows k row lt is =
    let back : k ≡ k + 1 - 1 = omega arith in
    row-place rows (k + 1) row (omega arith) (omega (arith, lt)) (is ∙ ap (λ (n : ℕ). get_or rows n row) back)

-- no multiplier of a row is above 2^120 in size
pub multipliers-size :
    (bidders : ℕ) (rows : List PlaceRow) (k : ℕ) (row : PlaceRow) → AreRows bidders rows → k < length rows → row ≡ get_or rows k row
    → (unsigned_abs row.first ≤ 2 ^ 120) × (unsigned_abs row.second ≤ 2 ^ 120)
multipliers-size bidders rows k row are lt is =
    let range = (each-row bidders rows k row are lt is).range in
    (omega (arith, range.0), omega (arith, range.1))

-- no row is counted yet
pub sums-none : (number : RowValue → ℤ) (rows : List RowValue) → AreSumsOf number rows 0 (replicate 6 (pos 0))
sums-none number rows = record { each = λ j some low. none (j - 1); small = λ k. omega (arith, ints, none k) }
  where
    none : (k : ℕ) → get_or (replicate 6 (pos 0)) k (pos 0) ≡ pos 0
    none k = elim (cases_lt k 6) [
      | inl inside ↦ get_or-replicate 6 k (pos 0) (pos 0) inside
      | inr past ↦ get_or_past (replicate 6 (pos 0)) k (pos 0) (omega (arith, past, length-replicate 6 (pos 0)))
    ]

-- one row more is counted at each of its members
pub sums-more : (number : RowValue → ℤ) (rows : List PlaceRow) (k : ℕ) (row : PlaceRow) (members : List ℕ) (old new : List ℤ) (multiplier : ℤ)
    → k < length rows → row ≡ get_or rows k row
    → members ≡ row.members → multiplier ≡ number (row_value row) → unsigned_abs multiplier ≤ 2 ^ 120 → length new ≡ 6
    → ((j : ℕ) → 0 < j → j ≤ 6 → of_bidder new j ≡ of_bidder old j +ℤ (if is_member members j then multiplier else pos 0))
    → AreSumsOf number (map row_value rows) k old → AreSumsOf number (map row_value rows) (k + 1) new
sums-more number rows k row members old new multiplier lt is same own small long add sums = record {
  each = λ j some low.
      let here = row-at rows k row lt is in
      let among : is_member members j ≡ is_member (row_of (map row_value rows) (k + 1)).members j =
      ap (λ (l : List ℕ). is_member l j) same ∙ ap (λ (r : RowValue). is_member r.members j) (sym here) in
      let item = counted-same (is_member members j) _ multiplier _ among (own ∙ ap number (sym here)) in
      omega (arith, ints, add j some low, item, sums.each j some low, holding-next (map row_value rows) j number k);
  small = λ i. elim (cases_lt i 6) [
    | inl inside ↦
        let back : i ≡ i + 1 - 1 = omega arith in
        let counted : ℤ = if is_member members (i + 1) then multiplier else pos 0 in
        let sum : nth new i ≡ nth old i +ℤ counted = ap (nth new) back ∙ add (i + 1) (omega arith) (omega (arith, inside))
        ∙ ap (λ (n : ℕ). nth old n +ℤ counted) (sym back) in
        omega (arith, ints, sum, sums.small i, counted-size (is_member members (i + 1)) multiplier (2 ^ 120) small)
    | inr past ↦ let none : nth new i ≡ pos 0 = get_or_past new i (pos 0) (omega (arith, past, long)) in omega (arith, ints, none)
  ];
}

-- there are as many values of rows as rows
pub count-rows : (rows others : List PlaceRow) → others ≡ rows → length others ≡ length (map row_value rows)
count-rows rows others e = ap (λ (l : List PlaceRow). length l) e ∙ sym (length-map rows row_value)

-- equal rows give the same sum over those that hold a bidder
pub holding-same : (rows others : List PlaceRow) (j : ℕ) (number : RowValue → ℤ) → others ≡ rows → sum_holding (map row_value others) j number
    (length others) ≡ sum_holding (map row_value rows) j number (length (map row_value rows))
holding-same rows others j number e =
    ap (λ (l : List PlaceRow). sum_holding (map row_value l) j number (length l)) e
    ∙ ap (λ (n : ℕ). sum_holding (map row_value rows) j number n) (sym (length-map rows row_value))
