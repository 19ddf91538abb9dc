-- Which lines are to come after a line.
use Rattle.std.proofs.Common.{List, [], ap, append_assoc, arith, drop, drop-cons, get_or, length, refl, suc, sym, zero, ℕ, ◌++◌, ◌+◌, ◌<◌, ◌∙◌, ◌∷◌}
use Rattle.std.proofs.Common.{◌≡◌, ◌≢◌, ◌≤◌}
use Rattle.std.proofs.lemmas.List.{drop_all}
use Rattle.std.specs.Prelude.{ℤ, pos, negsuc}
use Rattle.cert_grammar.specs.Lines.{FitNumbers, Kind, part_plan, parts_plan, unless_zero}
use Rattle.cert_stream.specs.declared.due.NextLine.TheVariants.{Without, Rows}
use Rattle.cert_stream.specs.Dues.{IsKnown, ending, from_part, numbers_due, plan_due}

module _ (b s : ℕ) (choice : List ℤ) where
  -- the bidder after the first k has no part
  pub no_part : (k : ℕ) → k < length choice → get_or choice k (pos 0) ≡ pos 0 → from_part b s choice k ≡ from_part b s choice (k + 1)
  no_part k lt none =
      ap (λ (l : List ℤ). parts_plan b s (suc k) l ++ ending b s) (drop-cons choice k (pos 0) lt)
      ∙ ap (λ (z : ℤ). (unless_zero z (part_plan b s (suc k)) ++ parts_plan b s (suc (suc k)) (drop (suc k) choice)) ++ ending b s) none
      ∙ ap (λ (n : ℕ). parts_plan b s (suc n) (drop n choice) ++ ending b s) same
    where
      same : suc k ≡ k + 1
      same = omega arith

  -- the bidder after the first k has one
  pub a_part : (k : ℕ) → k < length choice → get_or choice k (pos 0) ≢ pos 0 → from_part b s choice k ≡ plan_due b s choice (Without (k + 1))
  a_part k lt some =
      ap (λ (l : List ℤ). parts_plan b s (suc k) l ++ ending b s) (drop-cons choice k (pos 0) lt)
      ∙ ap (λ (l : List Kind). (l ++ parts_plan b s (suc (suc k)) (drop (suc k) choice)) ++ ending b s) (full (get_or choice k (pos 0)) some)
      ∙ append_assoc (part_plan b s (suc k)) (parts_plan b s (suc (suc k)) (drop (suc k) choice)) (ending b s)
      ∙ ap (λ (l : List Kind). l) (whole k)
      ∙ ap (λ (n : ℕ). plan_due b s choice (Without n)) same
    where
      same : suc k ≡ k + 1
      same = omega arith

      full : (z : ℤ) → z ≢ pos 0 → unless_zero z (part_plan b s (suc k)) ≡ part_plan b s (suc k)
      full (pos zero) some = absurd (some refl)
      full (pos (suc n)) some = refl
      full (negsuc n) some = refl

      whole : (k : ℕ) → part_plan b s (suc k) ++ (parts_plan b s (suc (suc k)) (drop (suc k) choice) ++ ending b s) ≡ plan_due b s choice (Without (suc k))
      whole k = refl

  -- no bidder is left
  pub last_part : (k : ℕ) → length choice ≤ k → from_part b s choice k ≡ ending b s
  last_part k le = ap (λ (l : List ℤ). parts_plan b s (suc k) l ++ ending b s) (drop_all k choice le)

-- a count of rows above 0 has a bidder
pub rows_bidder : (b s : ℕ) (ns choice : List ℤ) (first : ℤ) (count : ℕ) → FitNumbers (numbers_due b s Rows) ns → IsKnown Rows ns choice first
    → ((r : ℕ) → first ≡ pos r → r ≤ 10 → count ≡ r) → 0 < count → 0 < b
rows_bidder b s ns choice first count (r, e, few, has) known counted some =
    let same : first ∷ [] ≡ pos r ∷ [] = sym known ∙ e in
    let is : first ≡ pos r = cc in
    let here : count ≡ r = counted r is few in
    has (omega (arith, some, here))
