-- The rows that are kept: one row more, what they are, and that the rows left out add nothing.
use Rattle.std.specs.Prelude.{◌≡◌, ℕ, zero, suc, ◌+◌, ◌<◌, true, false, filter, List, [], ◌∷◌, ◌++◌, length, drop, get_or, ℤ, pos, refl}
use Rattle.std.proofs.Common.{sym, ◌∙◌, ap, arith, add-one, append_assoc, drop-cons}
use Rattle.far_num.specs.declared.Row.{Row}
use Rattle.core_price.specs.Kept.{is_used, pair_used, with_pairs}
use Rattle.core_price.specs.declared.priced.PricedRow.{PricedRow}

-- inside a list the default doesn't matter
pub any-default : {A : Type 0} (xs : List A) (i : ℕ) (d e : A) → i < length xs → get_or xs i d ≡ get_or xs i e
any-default [] i d e lt = absurd (omega arith)
any-default (x ∷ xs) zero d e lt = refl
any-default (x ∷ xs) (suc i) d e lt = any-default xs i d e (omega arith)

-- the row at a place with its choice and pair
abbrev pub entry : List Row → List (List ℕ) → List ℤ → List ℤ → ℕ → PricedRow
entry rows choices first second i = record {
  row = get_or rows i (record { members = 0; bound = pos 0 });
  choice = get_or choices i [];
  first =
      get_or first i (pos 0);
  second = get_or second i (pos 0);
}

pairs-step : (rows : List Row) (choices : List (List ℕ)) (first second : List ℤ) (i : ℕ) → i < length rows → i < length choices → i < length first
    → i < length second
    → with_pairs (drop i rows) (drop i choices) (drop i first) (drop i second) ≡ entry rows choices first second i ∷ with_pairs (drop (i + 1) rows)
    (drop (i + 1) choices) (drop (i + 1) first) (drop (i + 1) second)
pairs-step rows choices first second i r c f s =
    rw (add-one, drop-cons rows i (record { members = 0; bound = pos 0 }), drop-cons choices i [], drop-cons first i (pos 0), drop-cons second i (pos 0)) refl

module _ (rows : List Row) (choices : List (List ℕ)) (first second : List ℤ) (kept all : List PricedRow) (i : ℕ) (r : i < length rows)
    (c : i < length choices) (f : i < length first) (s : i < length second)
    (far : kept ++ filter is_used (with_pairs (drop i rows) (drop i choices) (drop i first) (drop i second)) ≡ all) where
  rest : List PricedRow
  rest = with_pairs (drop (i + 1) rows) (drop (i + 1) choices) (drop (i + 1) first) (drop (i + 1) second)

  filter-true : (x : PricedRow) (xs : List PricedRow) → is_used x ≡ true → filter is_used (x ∷ xs) ≡ x ∷ filter is_used xs
  filter-true x xs e = rw e refl

  filter-false : (x : PricedRow) (xs : List PricedRow) → is_used x ≡ false → filter is_used (x ∷ xs) ≡ filter is_used xs
  filter-false x xs e = rw e refl

  kept-entry : (x : PricedRow) → x ≡ entry rows choices first second i → is_used x ≡ true → (kept ++ x ∷ [])
      ++ filter is_used (with_pairs (drop (i + 1) rows) (drop (i + 1) choices) (drop (i + 1) first) (drop (i + 1) second)) ≡ all
  kept-entry x is used =
      append_assoc kept (x ∷ []) (filter is_used (with_pairs (drop (i + 1) rows) (drop (i + 1) choices) (drop (i + 1) first) (drop (i + 1) second)))
      ∙ ap (λ l. kept ++ l) (sym (filter-true x (with_pairs (drop (i + 1) rows) (drop (i + 1) choices) (drop (i + 1) first) (drop (i + 1) second)) used)
      ∙ ap (λ (y : PricedRow). filter is_used (y ∷ with_pairs (drop (i + 1) rows) (drop (i + 1) choices) (drop (i + 1) first) (drop (i + 1) second))) is
      ∙ ap (filter is_used) (sym (pairs-step rows choices first second i r c f s)))
      ∙ far

  -- a row whose pair isn't 0, 0 is kept, and those after it follow
  pub kept-one : (row : Row) (choice : List ℕ) (one two : ℤ) → row ≡ get_or rows i (record { members = 0; bound = pos 0 }) → choice ≡ get_or choices i []
      → one ≡ get_or first i (pos 0) → two ≡ get_or second i (pos 0) → pair_used one two ≡ true
      → (kept ++ record { row = row; choice = choice; first = one; second = two } ∷ []) ++ filter is_used
      (with_pairs (drop (i + 1) rows) (drop (i + 1) choices) (drop (i + 1) first) (drop (i + 1) second)) ≡ all
  kept-one row choice one two a b c d used = kept-entry (record { row = row; choice = choice; first = one; second = two }) (cc) used

  -- a row whose pair is 0, 0 is left out, and those after it follow
  pub kept-none : pair_used (get_or first i (pos 0)) (get_or second i (pos 0)) ≡ false → kept ++ filter is_used
      (with_pairs (drop (i + 1) rows) (drop (i + 1) choices) (drop (i + 1) first) (drop (i + 1) second)) ≡ all
  kept-none unused =
      ap (λ l. kept ++ l) (sym (filter-false (entry rows choices first second i)
      (with_pairs (drop (i + 1) rows) (drop (i + 1) choices) (drop (i + 1) first) (drop (i + 1) second)) unused)
      ∙ ap (filter is_used) (sym (pairs-step rows choices first second i r c f s)))
      ∙ far
