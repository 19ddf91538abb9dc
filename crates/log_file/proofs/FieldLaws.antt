-- The fields of a record spell one value.
use Rattle.std.proofs.Common.{◌≡◌, ℕ, suc, ◌-◌, ◌≤◌, ◌<◌, List, [], ◌∷◌, ◌++◌, length, take, drop, take-append-drop, refl, sym, ap, subst, ◌∙◌, arith}
use Rattle.std.specs.List.{AllByRecursion}
use Rattle.std.specs.Fmt.{decimal}
use Rattle.std.proofs.lemmas.List.{take_all}
use Rattle.line_format.specs.Decimals.{decimals_text}
use Rattle.line_format.specs.Fields.{FieldEnds}
use Rattle.line_format.proofs.DecimalFields.{NoSpace, decimals_stop, number_own, one_field}
use Rattle.log_file.specs.LogForm.{AreCounts, counts_text}

-- ---- counts

-- the first count that a text spells comes before its first space
pub record FirstCount (field more ns : List ℕ) : Type 0 where
  pub count : ℕ
  pub later : List ℕ
  pub whole : ns ≡ count ∷ later
  pub low : count ≤ 65535
  pub all_low : AllByRecursion (λ n. n ≤ 65535) later
  pub field_is : field ≡ decimal count
  pub more_is : more ≡ decimals_text later

-- of a text of counts the field before the first space is the first count, and the rest spells the others
pub first_count : (categories : ℕ) (text field more ns : List ℕ) → 0 < categories → text ≡ field ++ more → NoSpace field → FieldEnds more
    → AreCounts categories ns → text ≡ counts_text ns → FirstCount field more ns
first_count categories text field more [] some split own stops are is = absurd (omega (arith, some, are.0))
first_count categories text field more (n ∷ ns) some split own stops are is =
    let parts = one_field field (decimal n) more (decimals_text ns) own (number_own n (omega (arith, are.1.0))) stops (decimals_stop ns) (sym split ∙ is) in
    record { count = n; later = ns; whole = refl; low = are.1.0; all_low = are.1.1; field_is = parts.0; more_is = parts.1 }

-- the text falls apart at its first space
pub record Splits (text field more : List ℕ) : Type 0 where
  pub split : text ≡ field ++ more
  pub own : NoSpace field
  pub stops : FieldEnds more

-- cut at its first space a text is a field without a space and what follows it
pub splits : (text field more : List ℕ) (n : ℕ) → field ≡ take n text → more ≡ drop n text → NoSpace (take n text) → FieldEnds (drop n text)
    → Splits text field more
splits text field more n front back own stops = record {
  split = sym (take-append-drop n text) ∙ ap (λ (l : List ℕ). l ++ drop n text) (sym front) ∙ ap (λ (l : List ℕ). field ++ l) (sym back);
  own = subst NoSpace (sym front) own;
  stops = subst FieldEnds (sym back) stops;
}

-- a text of counts that falls apart at its first space has its first count before it
pub first_of : (categories : ℕ) (text field more ns : List ℕ) → 0 < categories → Splits text field more → AreCounts categories ns → text ≡ counts_text ns
    → FirstCount field more ns
first_of categories text field more ns some at are is = first_count categories text field more ns some at.split at.own at.stops are is

-- with nothing after the first count it is the only one
pub only_count : (categories : ℕ) (field more ns : List ℕ) → FirstCount field more ns → AreCounts categories ns → length more < 1 → categories ≡ 1
only_count categories field more ns first are short = only categories more first.later short first.more_is (sym are.0 ∙ ap length first.whole)
  where
    only : (categories : ℕ) (more later : List ℕ) → length more < 1 → more ≡ decimals_text later → categories ≡ suc (length later) → categories ≡ 1
    only categories more [] short is count = count
    only categories more (n ∷ later) short is count = absurd (omega (arith, short, ap length is))

-- with something after it there is another one
pub other_counts : (categories : ℕ) (field more ns : List ℕ) (first : FirstCount field more ns) → AreCounts categories ns → 1 ≤ length more
    → (1 < categories) × AreCounts (categories - 1) first.later × (take (length more - 1) (drop 1 more) ≡ counts_text first.later)
other_counts categories field more ns first are long =
    let count : categories ≡ suc (length first.later) = sym are.0 ∙ ap length first.whole in
    let spaced = other more first.later long first.more_is in
    (omega (arith, count, spaced.0), (omega (arith, count), first.all_low), spaced.1)
  where
    other : (more later : List ℕ) → 1 ≤ length more → more ≡ decimals_text later → (0 < length later)
        × (take (length more - 1) (drop 1 more) ≡ counts_text later)
    other more [] long is = absurd (omega (arith, long, ap length is))
    other more (n ∷ later) long is = (
      omega arith,
      ap (λ (l : List ℕ). take (length l - 1) (drop 1 l)) is
          ∙ take_all (length (decimals_text (n ∷ later)) - 1) (counts_text (n ∷ later)) (omega arith),
    )

-- counts after a space are spelled as those after the first count
pub behind_space : (ns : List ℕ) → 0 < length ns → decimals_text ns ≡ 32 ∷ counts_text ns
behind_space [] some = absurd (omega (arith, some))
behind_space (n ∷ ns) some = refl
