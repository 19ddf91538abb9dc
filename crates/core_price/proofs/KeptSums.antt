-- What the kept rows keep: their order, what holds of each used row, and all sums, since rows with a pair of 0, 0 add nothing.
use Rattle.std.specs.Prelude.{◌≡◌, ◌≢◌, ℕ, zero, suc, ◌<◌, ◌⊎◌, Bool, true, false, not, ◌||◌, filter, List, [], ◌∷◌, length, get_or, ℤ, pos, ◌*ℤ◌, ◌≤ℤ◌, refl}
use Rattle.std.specs.List.{AllByRecursion}
use Rattle.std.specs.Ordering.{int_eq}
use Rattle.std.proofs.Common.{sym, ◌∙◌, ap, arith, subst, inl, inr}
use Rattle.std.proofs.Math.IntN.{*ℤ-zero}
use Rattle.std.proofs.lemmas.Bool.{cases_Bool, false≢true}
use Rattle.std.proofs.lemmas.Bool.Decides.{Decides-int_eq}
use Rattle.std.proofs.lemmas.Int.{ints}
use Rattle.std.proofs.lemmas.List.{get_or-map, length-map}
use Rattle.far_num.specs.Members.{holds}
use Rattle.far_num.specs.declared.Row.{Row}
use Rattle.nearest_point.specs.Problem.{bounds, coefficients, row_at}
use Rattle.projection_laws.specs.Multipliers.{AreFirst, AreSecond, sum_at}
use Rattle.projection_laws.proofs.PointLaws.{zero_times}
use Rattle.wide_num.specs.Range.{Divides}
use Rattle.wide_num.specs.Sums.{dot, nth, total}
use Rattle.wide_num.proofs.Sums.{total-first, total-same}
use Rattle.core_price.specs.Kept.{AreAmong, firsts, is_used, pair_used, rows_in, seconds, with_pairs}
use Rattle.core_price.specs.Lowest.{IsLowest}
use Rattle.core_price.specs.declared.priced.PricedRow.{PricedRow}
use Rattle.core_price.proofs.KeptLaws.{entry}

-- in a used pair one multiplier isn't 0
pub used-some : (f s : ℤ) → pair_used f s ≡ true → (f ≢ pos 0) ⊎ (s ≢ pos 0)
used-some f s e = by (int_eq f (pos 0)) (int_eq s (pos 0)) (Decides-int_eq f (pos 0)).1 (Decides-int_eq s (pos 0)).1 e
  where
    by : (a b : Bool) → (f ≡ pos 0 → a ≡ true) → (s ≡ pos 0 → b ≡ true) → (not a || not b) ≡ true → (f ≢ pos 0) ⊎ (s ≢ pos 0)
    by true true p q e = absurd (false≢true e)
    by true false p q e = inr (λ z. false≢true (q z))
    by false b p q e = inl (λ z. false≢true (p z))

-- in a pair that isn't used both multipliers are 0
pub unused-none : (f s : ℤ) → pair_used f s ≡ false → (f ≡ pos 0) × (s ≡ pos 0)
unused-none f s e = by (int_eq f (pos 0)) (int_eq s (pos 0)) (Decides-int_eq f (pos 0)).0 (Decides-int_eq s (pos 0)).0 e
  where
    by : (a b : Bool) → (a ≡ true → f ≡ pos 0) → (b ≡ true → s ≡ pos 0) → (not a || not b) ≡ false → (f ≡ pos 0) × (s ≡ pos 0)
    by true true p q e = (p refl, q refl)
    by true false p q e = absurd (false≢true (sym e))
    by false b p q e = absurd (false≢true (sym e))

-- lists of the same length
pub record AreLong (rows : List Row) (choices : List (List ℕ)) (first second : List ℤ) : Type 0 where
  pub choices_long : length choices ≡ length rows
  pub first_long : length first ≡ length rows
  pub second_long : length second ≡ length rows

-- the kept ones of these rows
abbrev pub kept_of : List Row → List (List ℕ) → List ℤ → List ℤ → List PricedRow
kept_of rows choices first second = filter is_used (with_pairs rows choices first second)

-- the first row is used and kept, or is neither
pub take_or_skip : (x : PricedRow) (xs : List PricedRow) → ((is_used x ≡ true) × (filter is_used (x ∷ xs) ≡ x ∷ filter is_used xs))
    ⊎ ((is_used x ≡ false) × (filter is_used (x ∷ xs) ≡ filter is_used xs))
take_or_skip x xs = by (cases_Bool (is_used x))
  where
    by : (is_used x ≡ true) ⊎ (is_used x ≡ false) → ((is_used x ≡ true) × (filter is_used (x ∷ xs) ≡ x ∷ filter is_used xs))
        ⊎ ((is_used x ≡ false) × (filter is_used (x ∷ xs) ≡ filter is_used xs))
    by (inl e) = inl (e, rw e refl)
    by (inr e) = inr (e, rw e refl)

among-skip : (row : Row) (c : List ℕ) (rows : List Row) (choices : List (List ℕ)) (kept : List PricedRow) → AreAmong rows choices kept
    → AreAmong (row ∷ rows) (c ∷ choices) kept
among-skip row c rows choices [] h = tt
among-skip row c rows choices (r ∷ kept) h = inr h

among-take : (row : Row) (c : List ℕ) (f s : ℤ) (rows : List Row) (choices : List (List ℕ)) (kept : List PricedRow) → AreAmong rows choices kept
    → AreAmong (row ∷ rows) (c ∷ choices) (record { row = row; choice = c; first = f; second = s } ∷ kept)
among-take row c f s rows choices kept h = inl (refl, refl, h)

-- the kept rows are in order among all
pub kept-among :
    (rows : List Row) (choices : List (List ℕ)) (first second : List ℤ) → AreLong rows choices first second
    → AreAmong rows choices (kept_of rows choices first second)
kept-among [] choices first second h = tt
kept-among (row ∷ rows) [] first second h = absurd (let e = h.choices_long in omega arith)
kept-among (row ∷ rows) (c ∷ choices) [] second h = absurd (let e = h.first_long in omega arith)
kept-among (row ∷ rows) (c ∷ choices) (f ∷ first) [] h = absurd (let e = h.second_long in omega arith)
kept-among (row ∷ rows) (c ∷ choices) (f ∷ first) (s ∷ second) h =
    let rest = kept-among rows choices first second (record {
      choices_long = let e = h.choices_long in omega arith;
      first_long = let e = h.first_long in
          omega arith;
      second_long = let e = h.second_long in omega arith;
    }) in
    elim (take_or_skip (record { row = row; choice = c; first = f; second = s }) (with_pairs rows choices first second)) [
      | inl t ↦ subst (λ k. AreAmong (row ∷ rows) (c ∷ choices) k) (sym t.1) (among-take row c f s rows choices (kept_of rows choices first second) rest)
      | inr t ↦ subst (λ k. AreAmong (row ∷ rows) (c ∷ choices) k) (sym t.1) (among-skip row c rows choices (kept_of rows choices first second) rest)
    ]

-- what holds of each used row holds of the kept ones
pub kept-each :
    (Q : PricedRow → Type 0) (rows : List Row) (choices : List (List ℕ)) (first second : List ℤ) → AreLong rows choices first second
    → ((i : ℕ) → i < length rows → is_used (entry rows choices first second i) ≡ true → Q (entry rows choices first second i))
    → AllByRecursion Q (kept_of rows choices first second)
kept-each Q [] choices first second h q = tt
kept-each Q (row ∷ rows) [] first second h q = absurd (let e = h.choices_long in omega arith)
kept-each Q (row ∷ rows) (c ∷ choices) [] second h q = absurd (let e = h.first_long in omega arith)
kept-each Q (row ∷ rows) (c ∷ choices) (f ∷ first) [] h q = absurd (let e = h.second_long in omega arith)
kept-each Q (row ∷ rows) (c ∷ choices) (f ∷ first) (s ∷ second) h q =
    let rest = kept-each Q rows choices first second (record {
      choices_long = let e = h.choices_long in omega arith;
      first_long = let e = h.first_long in
          omega arith;
      second_long = let e = h.second_long in omega arith;
    }) (λ i lt u. q (suc i) (omega arith) u) in
    elim (take_or_skip (record { row = row; choice = c; first = f; second = s }) (with_pairs rows choices first second)) [
      | inl t ↦ subst (λ k. AllByRecursion Q k) (sym t.1) (q 0 (omega arith) t.0, rest)
      | inr t ↦ subst (λ k. AllByRecursion Q k) (sym t.1) rest
    ]

-- what holds of the kept rows and of the rows left out holds of each
all-each :
    (Q : PricedRow → Type 0) (rows : List Row) (choices : List (List ℕ)) (first second : List ℤ) → AreLong rows choices first second
    → AllByRecursion Q (kept_of rows choices first second)
    → ((i : ℕ) → i < length rows → is_used (entry rows choices first second i) ≡ false → Q (entry rows choices first second i)) → (i : ℕ) → i < length rows
    → Q (entry rows choices first second i)
all-each Q [] choices first second h k q i lt = absurd (omega arith)
all-each Q (row ∷ rows) [] first second h k q i lt = absurd (let e = h.choices_long in omega arith)
all-each Q (row ∷ rows) (c ∷ choices) [] second h k q i lt = absurd (let e = h.first_long in omega arith)
all-each Q (row ∷ rows) (c ∷ choices) (f ∷ first) [] h k q i lt = absurd (let e = h.second_long in omega arith)
all-each Q (row ∷ rows) (c ∷ choices) (f ∷ first) (s ∷ second) h k q i lt =
    let rest = λ (kept : AllByRecursion Q (kept_of rows choices first second)). all-each Q rows choices first second
    (record {
      choices_long = let e = h.choices_long in omega arith;
      first_long = let e = h.first_long in omega arith;
      second_long = let e =
          h.second_long in omega arith;
    }) kept (λ j lj u. q (suc j) (omega arith) u) in
    elim (take_or_skip (record { row = row; choice = c; first = f; second = s }) (with_pairs rows choices first second)) [
      | inl t ↦ (let both = subst (λ l. AllByRecursion Q l) t.1 k in at i lt both.0 (rest both.1))
      | inr t ↦ at i lt (q 0 (omega arith) t.0) (rest (subst (λ l. AllByRecursion Q l) t.1 k))
    ]
  where
    at : (i : ℕ) → i < length (row ∷ rows) → Q (record { row = row; choice = c; first = f; second = s })
        → ((j : ℕ) → j < length rows → Q (entry rows choices first second j)) → Q (entry (row ∷ rows) (c ∷ choices) (f ∷ first) (s ∷ second) i)
    at zero lt front rest = front
    at (suc i) lt front rest = rest i (omega arith)

-- the row that is read past the end
abbrev pub no_row : PricedRow
no_row = record { row = record { members = 0; bound = pos 0 }; choice = []; first = pos 0; second = pos 0 }

-- a sum in which rows that aren't used add nothing
pub kept-total : (F : PricedRow → ℤ) → ((x : PricedRow) → is_used x ≡ false → F x ≡ pos 0) → (rows : List Row) (choices : List (List ℕ))
    (first second : List ℤ) → AreLong rows choices first second
    → total (length (kept_of rows choices first second)) (λ i. F (get_or (kept_of rows choices first second) i no_row)) ≡ total (length rows)
    (λ i. F (entry rows choices first second i))
kept-total F none [] choices first second h = refl
kept-total F none (row ∷ rows) [] first second h = absurd (let e = h.choices_long in omega arith)
kept-total F none (row ∷ rows) (c ∷ choices) [] second h = absurd (let e = h.first_long in omega arith)
kept-total F none (row ∷ rows) (c ∷ choices) (f ∷ first) [] h = absurd (let e = h.second_long in omega arith)
kept-total F none (row ∷ rows) (c ∷ choices) (f ∷ first) (s ∷ second) h =
    let rest = kept-total F none rows choices first second (record {
      choices_long = let e = h.choices_long in omega arith;
      first_long = let e =
          h.first_long in omega arith;
      second_long = let e = h.second_long in omega arith;
    }) in
    let right = total-first (length rows) (λ i. F (entry (row ∷ rows) (c ∷ choices) (f ∷ first) (s ∷ second) i)) in
    elim (take_or_skip (record { row = row; choice = c; first = f; second = s }) (with_pairs rows choices first second)) [
      | inl t ↦ (let a = ap (λ l. total (length l) (λ i. F (get_or l i no_row))) t.1 in
          let b = total-first (length (kept_of rows choices first second)) (λ i. F
          (get_or (record { row = row; choice = c; first = f; second = s } ∷ kept_of rows choices first second) i no_row)) in
          omega (arith, ints, a, b, rest, right))
      | inr t ↦ (let a = ap (λ l. total (length l) (λ i. F (get_or l i no_row))) t.1 in
          let b = none (record { row = row; choice = c; first = f; second = s }) t.0 in
          omega (arith, ints, a, b, rest, right))
    ]

each-at : (Q : PricedRow → Type 0) (xs : List PricedRow) → AllByRecursion Q xs → (i : ℕ) → i < length xs → Q (get_or xs i no_row)
each-at Q [] h i lt = absurd (omega arith)
each-at Q (x ∷ xs) h zero lt = h.0
each-at Q (x ∷ xs) h (suc i) lt = each-at Q xs h.1 i (omega arith)

each-from : (Q : PricedRow → Type 0) (xs : List PricedRow) → ((i : ℕ) → i < length xs → Q (get_or xs i no_row)) → AllByRecursion Q xs
each-from Q [] h = tt
each-from Q (x ∷ xs) h = (h 0 (omega arith), each-from Q xs (λ i lt. h (suc i) (omega arith)))

row-in : (kept : List PricedRow) (i : ℕ) → i < length kept → row_at (rows_in kept) i ≡ (get_or kept i no_row).row
row-in kept i lt = get_or-map (λ r. r.row) kept i no_row (record { members = 0; bound = pos 0 }) lt

first-in : (kept : List PricedRow) (i : ℕ) → i < length kept → nth (firsts kept) i ≡ (get_or kept i no_row).first
first-in kept i lt = get_or-map (λ r. r.first) kept i no_row (pos 0) lt

second-in : (kept : List PricedRow) (i : ℕ) → i < length kept → nth (seconds kept) i ≡ (get_or kept i no_row).second
second-in kept i lt = get_or-map (λ r. r.second) kept i no_row (pos 0) lt

-- the multipliers of all rows, at their point
module _ (m : ℕ) (rows : List Row) (choices : List (List ℕ)) (first second : List ℤ) (long : AreLong rows choices first second) (den : ℤ) (at : ℕ → ℤ) where
  -- at each coordinate the first multipliers of the kept rows come to what those of all rows come to
  pub first_sum : (j : ℕ) → sum_at (length (kept_of rows choices first second)) (coefficients (rows_in (kept_of rows choices first second)))
      (nth (firsts (kept_of rows choices first second))) j ≡ sum_at (length rows) (coefficients rows) (nth first) j
  first_sum j =
      total-same (length (kept_of rows choices first second)) (λ i. nth (firsts (kept_of rows choices first second)) i *ℤ coefficients
      (rows_in (kept_of rows choices first second)) i j) (λ i. (get_or (kept_of rows choices first second) i no_row).first *ℤ holds
      (get_or (kept_of rows choices first second) i no_row).row.members j)
      (λ i lt. ap (λ (t : ℤ). t *ℤ coefficients (rows_in (kept_of rows choices first second)) i j) (first-in (kept_of rows choices first second) i lt)
      ∙ ap (λ (r : Row). (get_or (kept_of rows choices first second) i no_row).first *ℤ holds r.members j)
      (row-in (kept_of rows choices first second) i lt))
      ∙ kept-total (λ x. x.first *ℤ holds x.row.members j) (λ x u. zero_times x.first (holds x.row.members j) (unused-none x.first x.second u).0) rows choices
      first second long

  -- and so do the second multipliers
  pub second_sum : (j : ℕ) → sum_at (length (kept_of rows choices first second)) (coefficients (rows_in (kept_of rows choices first second)))
      (nth (seconds (kept_of rows choices first second))) j ≡ sum_at (length rows) (coefficients rows) (nth second) j
  second_sum j =
      total-same (length (kept_of rows choices first second)) (λ i. nth (seconds (kept_of rows choices first second)) i *ℤ coefficients
      (rows_in (kept_of rows choices first second)) i j) (λ i. (get_or (kept_of rows choices first second) i no_row).second *ℤ holds
      (get_or (kept_of rows choices first second) i no_row).row.members j)
      (λ i lt. ap (λ (t : ℤ). t *ℤ coefficients (rows_in (kept_of rows choices first second)) i j) (second-in (kept_of rows choices first second) i lt)
      ∙ ap (λ (r : Row). (get_or (kept_of rows choices first second) i no_row).second *ℤ holds r.members j)
      (row-in (kept_of rows choices first second) i lt))
      ∙ kept-total (λ x. x.second *ℤ holds x.row.members j) (λ x u. zero_times x.second (holds x.row.members j) (unused-none x.first x.second u).1) rows
      choices first second long

  module _ (a : AreFirst m (length rows) (coefficients rows) (bounds rows) den at (nth first)) where
    -- if all rows have first multipliers for the point, so have the kept rows
    pub kept-first : AreFirst m (length (kept_of rows choices first second)) (coefficients (rows_in (kept_of rows choices first second)))
        (bounds (rows_in (kept_of rows choices first second))) den at (nth (firsts (kept_of rows choices first second)))
    kept-first = record {
      positive = a.positive;
      not_negative = λ i lt. subst (λ (t : ℤ). pos 0 ≤ℤ t) (sym (first-in (kept_of rows choices first second) i lt))
          (each-at (λ x. pos 0 ≤ℤ x.first) (kept_of rows choices first second) (kept-each (λ x. pos 0 ≤ℤ x.first) rows choices first second long
          (λ j lj u. a.not_negative j lj)) i lt);
      tight = λ i lt some. subst (λ (r : Row). dot m (holds r.members) at ≡ den *ℤ r.bound) (sym (row-in (kept_of rows choices first second) i lt))
          (each-at (λ x. x.first ≢ pos 0 → dot m (holds x.row.members) at ≡ den *ℤ x.row.bound) (kept_of rows choices first second)
          (kept-each (λ x. x.first ≢ pos 0 → dot m (holds x.row.members) at ≡ den *ℤ x.row.bound) rows choices first second long (λ j lj u d. a.tight j lj d))
          i lt (λ z. some (first-in (kept_of rows choices first second) i lt ∙ z)));
    }

    module _ (target weight : ℕ → ℤ) (b : AreSecond m (length rows) (coefficients rows) (bounds rows) den at (nth first) (nth second) target weight) where
      -- and the same of the second multipliers
      pub kept-second : AreSecond m (length (kept_of rows choices first second)) (coefficients (rows_in (kept_of rows choices first second)))
          (bounds (rows_in (kept_of rows choices first second))) den at (nth (firsts (kept_of rows choices first second)))
          (nth (seconds (kept_of rows choices first second))) target weight
      kept-second = record {
        sign = λ i lt z. subst (λ (t : ℤ). pos 0 ≤ℤ t) (sym (second-in (kept_of rows choices first second) i lt))
            (each-at (λ x. x.first ≡ pos 0 → pos 0 ≤ℤ x.second) (kept_of rows choices first second)
            (kept-each (λ x. x.first ≡ pos 0 → pos 0 ≤ℤ x.second) rows choices first second long (λ j lj u e. b.sign j lj e)) i lt
            (sym (first-in (kept_of rows choices first second) i lt) ∙ z));
        tight = λ i lt some. subst (λ (r : Row). dot m (holds r.members) at ≡ den *ℤ r.bound) (sym (row-in (kept_of rows choices first second) i lt))
            (each-at (λ x. x.second ≢ pos 0 → dot m (holds x.row.members) at ≡ den *ℤ x.row.bound) (kept_of rows choices first second)
            (kept-each (λ x. x.second ≢ pos 0 → dot m (holds x.row.members) at ≡ den *ℤ x.row.bound) rows choices first second long
            (λ j lj u d. b.tight j lj d)) i lt (λ z. some (second-in (kept_of rows choices first second) i lt ∙ z)));
        sums = λ j lt. ap (λ (t : ℤ). weight j *ℤ t) (second_sum j) ∙ b.sums j lt;
      }

      -- each used row is tight
      pub tight-used : (i : ℕ) → i < length rows → is_used (entry rows choices first second i) ≡ true
          → (dot m (coefficients rows i) at ≡ den *ℤ bounds rows i) × ((nth first i ≢ pos 0) ⊎ (nth second i ≢ pos 0))
      tight-used i lt u = by (used-some (nth first i) (nth second i) u)
        where
          by : (nth first i ≢ pos 0) ⊎ (nth second i ≢ pos 0) → (dot m (coefficients rows i) at ≡ den *ℤ bounds rows i)
              × ((nth first i ≢ pos 0) ⊎ (nth second i ≢ pos 0))
          by (inl d) = (a.tight i lt d, inl d)
          by (inr d) = (b.tight i lt d, inr d)

divides-none : (g x : ℤ) → x ≡ pos 0 → Divides g x
divides-none g x e = (pos 0, *ℤ-zero g ∙ sym e)

-- what divides the pairs of the kept rows divides all pairs
pub kept-lowest : (rows : List Row) (choices : List (List ℕ)) (first second : List ℤ) → AreLong rows choices first second → (den : ℤ) (at : List ℤ)
    → IsLowest den at first second → IsLowest den at (firsts (kept_of rows choices first second)) (seconds (kept_of rows choices first second))
kept-lowest rows choices first second long den at lowest g d = lowest g (record {
  den_is = d.den_is;
  at_is = d.at_is;
  first_is = λ i lt. all-each (λ x. Divides (pos g) x.first) rows choices first second long
      (each-from (λ x. Divides (pos g) x.first) (kept_of rows choices first second)
      (λ j lj. subst (λ t. Divides (pos g) t) (first-in (kept_of rows choices first second) j lj)
      (d.first_is j (let l = length-map (kept_of rows choices first second) (λ r. r.first) in omega (arith, lj, l)))))
      (λ j lj u. divides-none (pos g) (nth first j) (unused-none (nth first j) (nth second j) u).0) i (omega (arith, lt, long.first_long));
  second_is = λ i lt. all-each (λ x. Divides (pos g) x.second) rows choices first second long
      (each-from (λ x. Divides (pos g) x.second) (kept_of rows choices first second)
      (λ j lj. subst (λ t. Divides (pos g) t) (second-in (kept_of rows choices first second) j lj)
      (d.second_is j (let l = length-map (kept_of rows choices first second) (λ r. r.second) in omega (arith, lj, l)))))
      (λ j lj u. divides-none (pos g) (nth second j) (unused-none (nth first j) (nth second j) u).1) i (omega (arith, lt, long.second_long));
})
