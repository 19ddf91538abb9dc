-- Sums of some bidders and of some rows, step by step.
use Rattle.std.specs.Prelude.{Bool, IsTrue, List, [], cond, false, get_or, if◌then◌else◌, length, map, pos, refl, suc, true, unsigned_abs, zero, ℕ, ℤ}
use Rattle.std.specs.Prelude.{◌*◌, ◌+ℤ◌, ◌+◌, ◌-ℤ◌, ◌-◌, ◌<◌, ◌==◌, ◌^◌, ◌↔◌, ◌∷◌, ◌≡◌, ◌≤◌}
use Rattle.std.proofs.Common.{sym, subst, ◌∙◌, ap, arith, add-one, FitsSigned, to_z, of_z}
use Rattle.std.specs.Int.{w128}
use Rattle.std.proofs.lemmas.Bool.{eqb-true, eq-eqb}
use Rattle.std.proofs.lemmas.Int.{ints, to_z-of_z}
use Rattle.std.proofs.lemmas.List.{get_or-map, length-map}
use Rattle.auction_model.specs.Prices.{sum_over}
use Rattle.cert_grammar.specs.CertText.{AllInRange, AreRows, InRange, IsRow}
use Rattle.cert_grammar.specs.Certificate.{RowValue, is_member, row_of}
use Rattle.cert_soundness.specs.Tests.{sum_holding}
use Rattle.cert_text.specs.declared.certificate.CertRow.{CertRow}
use Rattle.cert_text.specs.Parts.{row_value}
use Rattle.cert_check.specs.declared.sums.Multiplier.{Multiplier}
use Rattle.cert_check.specs.declared.sums.Multiplier.TheVariants.{First, Second}
use Rattle.cert_check.specs.Multipliers.{multiplier_of}

-- a sum over one bidder more adds its number if it is counted, else 0
pub over-next : (s : ℕ → Bool) (f : ℕ → ℤ) (n : ℕ) → sum_over s f (n + 1) ≡ sum_over s f n +ℤ (if s (n + 1) then f (n + 1) else pos 0)
over-next s f n = rw add-one refl

-- a sum over one row more adds its number if it holds bidder j, else 0
pub holding-next : (rows : List RowValue) (j : ℕ) (number : RowValue → ℤ) (n : ℕ) → sum_holding rows j number (n + 1) ≡ sum_holding rows j number n +ℤ
    (if is_member (row_of rows (n + 1)).members j then number (row_of rows (n + 1)) else pos 0)
holding-next rows j number n = rw add-one refl

-- each number of a list of numbers in range is in range
pub in-range : (zs : List ℤ) (k : ℕ) → AllInRange zs → unsigned_abs (get_or zs k (pos 0)) < 2 ^ 120
in-range [] k h = omega (arith, ints)
in-range (z ∷ zs) zero h = h.0
in-range (z ∷ zs) (suc k) h = in-range zs k h.1

-- both multipliers of each row are in the range
pub rows-range : (bidders : ℕ) (rows : List RowValue) (k : ℕ) (d : RowValue) → AreRows bidders rows → k < length rows
    → InRange (get_or rows k d).first × InRange (get_or rows k d).second
rows-range bidders [] k d h lt = absurd (omega arith)
rows-range bidders (r ∷ rows) zero d h lt = h.0.range
rows-range bidders (r ∷ rows) (suc k) d h lt = rows-range bidders rows k d h.1 (omega arith)

-- the row that is at a place
pub row-at : (rows : List CertRow) (k : ℕ) (row : CertRow) → k < length rows → row ≡ get_or rows k row → row_of (map row_value rows) (k + 1) ≡ row_value row
row-at rows k row lt is =
    let back : k + 1 - 1 ≡ k = omega arith in
    let none : RowValue = record { members = []; first = pos 0; second = pos 0; choice = [] } in
    ap (λ (n : ℕ). get_or (map row_value rows) n none) back ∙ get_or-map row_value rows k row none lt ∙ ap row_value (sym is)

-- the same for a place counted from 1
pub row-place : (rows others : List CertRow) (place : ℕ) (row : CertRow) → 0 < place → place ≤ length others → others ≡ rows
    → row ≡ get_or others (place - 1) row → row_of (map row_value rows) place ≡ row_value row
row-place rows others place row some le same is =
    let back : place - 1 + 1 ≡ place = omega arith in
    let lt : place - 1 < length others = omega arith in
    subst (λ (n : ℕ). row_of (map row_value rows) n ≡ row_value row) back
    (row-at rows (place - 1) row (subst (λ (l : List CertRow). place - 1 < length l) same lt)
    (subst (λ (l : List CertRow). row ≡ get_or l (place - 1) row) same is))

-- no multiplier of a row is larger than the range allows
pub multiplier-size : (bidders : ℕ) (rows : List CertRow) (k : ℕ) (row : CertRow) (which : Multiplier) → AreRows bidders (map row_value rows)
    → k < length rows → row ≡ get_or rows k row
    → unsigned_abs (multiplier_of which (row_value row)) ≤ 2 ^ 120
multiplier-size bidders rows k row which are lt is =
    let whole : get_or (map row_value rows) k (row_value row) ≡ row_value row = get_or-map row_value rows k row (row_value row) lt ∙ ap row_value (sym is) in
    let both = rows-range bidders (map row_value rows) k (row_value row) are (omega (arith, lt, length-map rows row_value)) in
    by which (subst (λ (r : RowValue). InRange r.first × InRange r.second) whole both)
  where
    by : (which : Multiplier) → InRange row.first × InRange row.second → unsigned_abs (multiplier_of which (row_value row)) ≤ 2 ^ 120
    by First h = omega (arith, h.0)
    by Second h = omega (arith, h.1)

-- a number that is counted or isn't is no larger than the number
pub counted-size : (b : Bool) (z : ℤ) (n : ℕ) → unsigned_abs z ≤ n → unsigned_abs (if b then z else pos 0) ≤ n
counted-size true z n h = h
counted-size false z n h = omega (arith, ints)

-- equal numbers, counted alike, count the same
pub counted-same : (b d : Bool) (x y : ℤ) → b ≡ d → x ≡ y → (if b then x else pos 0) ≡ (if d then y else pos 0)
counted-same b d x y e h = ap (λ (t : Bool). cond t x (pos 0)) e ∙ ap (λ (z : ℤ). cond d z (pos 0)) h

-- a sum of a few numbers of the range fits 128 bits
module _ (sum item : ℤ) (k : ℕ) (few : k < 16) (own : unsigned_abs item ≤ 2 ^ 120) (size : unsigned_abs sum ≤ k * 2 ^ 120) where
  -- the next sum fits 128 bits
  pub next-fits : FitsSigned w128 (sum +ℤ to_z w128 (of_z w128 item))
  next-fits = omega (arith, ints)

  -- in 128 bits it is the sum and the item
  pub next-is : to_z w128 (of_z w128 (sum +ℤ to_z w128 (of_z w128 item))) ≡ sum +ℤ item
  next-is = omega (arith, ints)

  -- it is at most one number of the range larger
  pub next-size : unsigned_abs (to_z w128 (of_z w128 (sum +ℤ to_z w128 (of_z w128 item)))) ≤ (k + 1) * 2 ^ 120
  next-size = omega (arith, ints)

-- equal lists of rows have the same sums over the rows that hold a bidder
pub holding-same : (rows others : List CertRow) (j : ℕ) (number : RowValue → ℤ) → others ≡ rows → sum_holding (map row_value others) j number
    (length others) ≡ sum_holding (map row_value rows) j number (length (map row_value rows))
holding-same rows others j number e =
    ap (λ (l : List CertRow). sum_holding (map row_value l) j number (length l)) e
    ∙ ap (λ (n : ℕ). sum_holding (map row_value rows) j number n) (sym (length-map rows row_value))

-- numbers that fit are equal if their bits are
pub bits-same : (a b x y : ℤ) → FitsSigned w128 a → FitsSigned w128 b → a ≡ x → b ≡ y → IsTrue (of_z w128 a == of_z w128 b) ↔ (x ≡ y)
bits-same a b x y f g a_is b_is = (
  λ t. sym a_is ∙ sym (to_z-of_z w128 a f) ∙ ap (to_z w128) (eqb-true (of_z w128 a) (of_z w128 b) t) ∙ to_z-of_z w128 b g ∙ b_is,
  λ e. eq-eqb (of_z w128 a) (of_z w128 b) (ap (of_z w128) (a_is ∙ e ∙ sym b_is)),
)

-- each row of a list of rows is one for these bidders
pub each-row : (bidders : ℕ) (rows : List CertRow) (k : ℕ) (row : CertRow) → AreRows bidders (map row_value rows) → k < length rows → row ≡ get_or rows k row
    → IsRow bidders (row_value row)
each-row bidders rows k row are lt is =
    let whole : get_or (map row_value rows) k (row_value row) ≡ row_value row = get_or-map row_value rows k row (row_value row) lt ∙ ap row_value (sym is) in
    subst (IsRow bidders) whole (at bidders (map row_value rows) k (row_value row) are (omega (arith, lt, length-map rows row_value)))
  where
    at : (bidders : ℕ) (rows : List RowValue) (k : ℕ) (d : RowValue) → AreRows bidders rows → k < length rows → IsRow bidders (get_or rows k d)
    at bidders [] k d h lt = absurd (omega arith)
    at bidders (r ∷ rows) zero d h lt = h.0
    at bidders (r ∷ rows) (suc k) d h lt = at bidders rows k d h.1 (omega arith)

-- a difference of numbers of the range
module _ (x y : ℤ) (x_small : unsigned_abs x < 2 ^ 120) (y_small : unsigned_abs y < 2 ^ 120) where
  -- it fits 128 bits
  pub difference-fits : FitsSigned w128 (to_z w128 (of_z w128 x) -ℤ to_z w128 (of_z w128 y))
  difference-fits = omega (arith, ints)

  -- in 128 bits it is the difference of the numbers
  pub difference-is : to_z w128 (of_z w128 x) -ℤ to_z w128 (of_z w128 y) ≡ x -ℤ y
  difference-is = omega (arith, ints)
