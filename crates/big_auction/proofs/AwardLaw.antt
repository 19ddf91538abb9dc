-- The made award keeps the rules of an award.
use Rattle.std.proofs.Common.{◌≡◌, ℕ, ◌+◌, ◌/◌, ◌%◌, ◌<◌, ◌≤◌, Bool, true, false, not, ◌&&◌, List, [], ◌∷◌, ◌++◌, refl, sym, ◌∙◌, ap, subst, inl, inr, arith}
use Rattle.std.specs.Fmt.{decimal}
use Rattle.std.specs.List.{AllByRecursion, IsDistinct}
use Rattle.std.specs.Str.{bytes_eq}
use Rattle.std.proofs.lemmas.List.Elements.{All-from_recursion}
use Rattle.std.proofs.lemmas.Bool.{cases_lt, and_parts, not-true}
use Rattle.std.proofs.lemmas.Fmt.{decimal_digit, decimal_step}
use Rattle.book_grammar.specs.BookForm.{IsName}
use Rattle.limits.specs.declared.TheConstants.{MOST_COUNT, MOST_POINTS, MOST_PRICE}
use Rattle.auction_rules.specs.Rounds.{listing}
use Rattle.award_file.specs.Award.{IsAward, IsCap, IsEntrant, names_of}
use Rattle.big_auction.specs.MadeAward.{made_entrant, made_terms}

-- a number of two digits at most, after a letter
IsName-digit : (n : ℕ) → n < 10 → IsName (98 ∷ decimal n)
IsName-digit n few = rw (decimal_digit n few) ((omega arith, omega arith), (inr (inl (omega arith, omega arith)), tt), omega arith)

IsName-digits : (n : ℕ) → 10 ≤ n → n < 100 → IsName (98 ∷ decimal n)
IsName-digits n more few =
    let tens : n / 10 < 10 = omega arith in
    let ones : n % 10 < 10 = omega arith in
    rw (decimal_step n more (omega arith), decimal_digit (n / 10) tens) (
      (omega arith, omega arith),
      (inr (inl (omega arith, omega arith)), (inr (inl (omega arith, omega arith)), tt)),
      omega arith,
    )

-- a made bidder keeps the rules of one
pub entrant-lawful : (k : ℕ) → k < 100 → IsEntrant 4 (made_entrant k)
entrant-lawful k few = record {
  name = elim (cases_lt k 10) [ inl low ↦ IsName-digit k low | inr more ↦ IsName-digits k more few ];
  eligibility = omega arith;
  holding = refl;
  most_held = All-from_recursion (λ n. n ≤ MOST_COUNT) (0 ∷ 0 ∷ 0 ∷ 0 ∷ []) (omega arith, (omega arith, (omega arith, (omega arith, tt))));
}

-- the names, digit by digit
abbrev names : List (List ℕ)
names =
    (98 ∷ 49 ∷ []) ∷ (98 ∷ 50 ∷ []) ∷ (98 ∷ 51 ∷ []) ∷ (98 ∷ 52 ∷ []) ∷ (98 ∷ 53 ∷ []) ∷ (98 ∷ 54 ∷ []) ∷ (98 ∷ 55 ∷ []) ∷ (98 ∷ 56 ∷ []) ∷ (98 ∷ 57 ∷ [])
    ∷ (98 ∷ 49 ∷ 48 ∷ []) ∷ (98 ∷ 49 ∷ 49 ∷ []) ∷ (98 ∷ 49 ∷ 50 ∷ []) ∷ []

two-digits : (n : ℕ) → 10 ≤ n → n < 100 → decimal n ≡ (48 + n / 10) ∷ (48 + n % 10) ∷ []
two-digits n more few = let tens : n / 10 < 10 = omega arith in decimal_step n more (omega arith) ∙ ap (λ (ds : List ℕ). ds ++ (48 + n % 10) ∷ [])
    (decimal_digit (n / 10) tens)

names-are : names_of (listing made_entrant 12) ≡ names
names-are = rw (
  decimal_digit 1 (omega arith),
  decimal_digit 2 (omega arith),
  decimal_digit 3 (omega arith),
  decimal_digit 4 (omega arith),
  decimal_digit 5 (omega arith),
  decimal_digit 6 (omega arith),
  decimal_digit 7 (omega arith),
  decimal_digit 8 (omega arith),
  decimal_digit 9 (omega arith),
  two-digits 10 (omega arith) (omega arith),
  two-digits 11 (omega arith) (omega arith),
  two-digits 12 (omega arith) (omega arith),
) refl

abbrev apart_from : List ℕ → List (List ℕ) → Bool
apart_from x [] = true
apart_from x (y ∷ ys) = not (bytes_eq x y) && apart_from x ys

abbrev are_apart : List (List ℕ) → Bool
are_apart [] = true
are_apart (x ∷ xs) = apart_from x xs && are_apart xs

each-apart : (x : List ℕ) (ys : List (List ℕ)) → apart_from x ys ≡ true → AllByRecursion (λ y. bytes_eq x y ≡ false) ys
each-apart x [] apart = tt
each-apart x (y ∷ ys) apart =
    let both : (not (bytes_eq x y) ≡ true) × (apart_from x ys ≡ true) = and_parts (not (bytes_eq x y)) (apart_from x ys) apart in
    (not-true (bytes_eq x y) both.0, each-apart x ys both.1)

all-apart : (xs : List (List ℕ)) → are_apart xs ≡ true → IsDistinct bytes_eq xs
unfolding IsDistinct
all-apart [] apart = tt
all-apart (x ∷ xs) apart =
    let both : (apart_from x xs ≡ true) × (are_apart xs ≡ true) = and_parts (apart_from x xs) (are_apart xs) apart in
    (each-apart x xs both.0, all-apart xs both.1)

-- the made award keeps all rules and limits of an award
pub IsAward-made_terms : IsAward made_terms
IsAward-made_terms = record {
  version = (omega arith, omega arith);
  supply = record { allowed = refl; some = omega arith; categories = omega arith; lots = omega arith; states = omega arith };
  points = refl;
  most_points = All-from_recursion (λ p. p ≤ MOST_POINTS) (10 ∷ 10 ∷ 1 ∷ 1 ∷ []) (omega arith, (omega arith, (omega arith, (omega arith, tt))));
  reserves = refl;
  most_reserve = All-from_recursion (λ p. p ≤ MOST_PRICE) (1000 ∷ 1500 ∷ 100 ∷ 10 ∷ []) (omega arith, (omega arith, (omega arith, (omega arith, tt))));
  steps = record {
    some_tick = omega arith;
    tick_top = omega arith;
    few = omega arith;
    thresholds = (refl, (omega arith, omega arith, omega arith, omega arith, (omega arith, omega arith, omega arith, omega arith, tt)));
  };
  few_bidders = omega arith;
  bidders = All-from_recursion (IsEntrant 4) (listing made_entrant 12) (
    entrant-lawful 1 (omega arith),
    (
      entrant-lawful 2 (omega arith),
      (
        entrant-lawful 3 (omega arith),
        (
          entrant-lawful 4 (omega arith),
          (
            entrant-lawful 5 (omega arith),
            (
              entrant-lawful 6 (omega arith),
              (
                entrant-lawful 7 (omega arith),
                (
                  entrant-lawful 8 (omega arith),
                  (
                    entrant-lawful 9 (omega arith),
                    (entrant-lawful 10 (omega arith), (entrant-lawful 11 (omega arith), (entrant-lawful 12 (omega arith), tt))),
                  ),
                ),
              ),
            ),
          ),
        ),
      ),
    ),
  );
  apart = subst (IsDistinct bytes_eq) (sym names-are) (all-apart names refl);
  few_caps = omega arith;
  caps = All-from_recursion (IsCap 4) [] tt;
}
