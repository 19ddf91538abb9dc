-- Numbers that are written one after the other.
use Rattle.std.proofs.Common.{List, [], ap, append_assoc, arith, drop, get_or, length, pos, refl, subst, suc, sym, take, unsigned_abs, zero, ℕ, ℤ}
use Rattle.std.proofs.Common.{◌++◌, ◌+◌, ◌-◌, ◌<◌, ◌^◌, ◌∙◌, ◌∷◌, ◌≡◌, ◌≤◌}
use Rattle.std.proofs.lemmas.List.{append-nil, at_drop_more, drop_all, drop-drop, length-drop, take-append-drop, take_all, take_more}
use Rattle.std.specs.Fmt.{decimal, signed_decimal}
use Rattle.line_format.specs.Numeral.{numbers_text, signed_numeral}
use Rattle.line_format.specs.Range.{AllInRange}
use Rattle.line_format.specs.Decimals.{decimals_text}
use Rattle.line_format.proofs.Decimals.{signed_decimal_numeral}

-- A word for each item makes up the text of all: one item more.
pub one_more : {X : Type 0} (F : List X → List ℕ) (xs : List X) (i : ℕ) (d : X) (whole before behind piece : List ℕ) → i < length xs
    → F (get_or xs i d ∷ drop (i + 1) xs) ≡ piece ++ F (drop (i + 1) xs)
    → before ++ F (drop i xs) ≡ whole → behind ≡ before ++ piece → behind ++ F (drop (i + 1) xs) ≡ whole
one_more F xs i d whole before behind piece inside splits so_far step =
    ap (λ (t : List ℕ). t ++ F (drop (i + 1) xs)) step
    ∙ append_assoc before piece (F (drop (i + 1) xs))
    ∙ ap (λ (t : List ℕ). before ++ t) (sym splits ∙ sym (at_drop_more F xs i d inside))
    ∙ so_far

-- all pieces
pub all_added : {X : Type 0} (F : List X → List ℕ) (xs : List X) (i : ℕ) (whole before : List ℕ) → length xs ≤ i → F [] ≡ [] → before ++ F (drop i xs) ≡ whole
    → before ≡ whole
all_added F xs i whole before end empty so_far =
    sym (append-nil before) ∙ ap (λ (t : List ℕ). before ++ t) (sym (ap F (drop_all i xs end) ∙ empty)) ∙ so_far

range_at : (ns : List ℤ) (i : ℕ) → AllInRange ns → i < length ns → unsigned_abs (get_or ns i (pos 0)) < 2 ^ 120
range_at [] i all inside = absurd (omega arith)
range_at (n ∷ ns) zero all inside = all.0
range_at (n ∷ ns) (suc i) all inside = range_at ns i all.1 (omega arith)

numbers_append : (xs ys : List ℤ) → numbers_text (xs ++ ys) ≡ numbers_text xs ++ numbers_text ys
numbers_append [] ys = refl
numbers_append (x ∷ xs) ys = ap (λ (t : List ℕ). 32 ∷ signed_numeral x ++ t) (numbers_append xs ys) ∙ ap (λ (t : List ℕ). 32 ∷ t)
    (sym (append_assoc (signed_numeral x) (numbers_text xs) (numbers_text ys)))

-- the next number of a run
pub next_in_run : (ns : List ℤ) (i : ℕ) (start before behind : List ℕ) → AllInRange ns → i < length ns → before ≡ start ++ numbers_text (take i ns)
    → behind ≡ (before ++ 32 ∷ []) ++ signed_decimal (get_or ns i (pos 0)) → behind ≡ start ++ numbers_text (take (i + 1) ns)
next_in_run ns i start before behind all inside so_far step =
    let n = get_or ns i (pos 0) in
    let same : signed_decimal n ≡ signed_numeral n = signed_decimal_numeral n (omega (arith, range_at ns i all inside)) in
    let one : numbers_text (take (i + 1) ns) ≡ numbers_text (take i ns) ++ 32 ∷ signed_numeral n =
    ap numbers_text (take_more ns i (pos 0) inside) ∙ numbers_append (take i ns) (n ∷ []) ∙ ap (λ (t : List ℕ). numbers_text (take i ns) ++ 32 ∷ t)
    (append-nil (signed_numeral n)) in
    step
    ∙ append_assoc before (32 ∷ []) (signed_decimal n)
    ∙ ap (λ (t : List ℕ). before ++ 32 ∷ t) same
    ∙ ap (λ (t : List ℕ). t ++ 32 ∷ signed_numeral n) so_far
    ∙ append_assoc start (numbers_text (take i ns)) (32 ∷ signed_numeral n)
    ∙ ap (λ (t : List ℕ). start ++ t) (sym one)

-- the numbers from here on, as a slice that ends where the list does
tail_whole : (ns : List ℤ) (done : ℕ) → take (length ns - done) (drop done ns) ≡ drop done ns
tail_whole ns done = take_all (length ns - done) (drop done ns) (omega (arith, length-drop done ns))

range_drop : (done : ℕ) (ns : List ℤ) → AllInRange ns → AllInRange (drop done ns)
range_drop zero ns all = all
range_drop (suc done) [] all = tt
range_drop (suc done) (n ∷ ns) all = range_drop done ns all.1

-- if all numbers are in range, those from a place on are
pub tail_range : (ns : List ℤ) (done : ℕ) → AllInRange ns → AllInRange (take (length ns - done) (drop done ns))
tail_range ns done all = subst AllInRange (sym (tail_whole ns done)) (range_drop done ns all)

-- one run more
pub next_run : (ns : List ℤ) (done n : ℕ) (whole before behind : List ℕ) → before ++ numbers_text (drop done ns) ≡ whole
    → behind ≡ before ++ numbers_text (take n (take (length ns - done) (drop done ns)))
    → behind ++ numbers_text (drop (done + n) ns) ≡ whole
next_run ns done n whole before behind so_far step =
    let rest = drop done ns in
    let added : behind ≡ before ++ numbers_text (take n rest) = step ∙ ap (λ (l : List ℤ). before ++ numbers_text (take n l)) (tail_whole ns done) in
    let parts : numbers_text (take n rest) ++ numbers_text (drop (done + n) ns) ≡ numbers_text rest =
    ap (λ (l : List ℤ). numbers_text (take n rest) ++ numbers_text l) (sym (drop-drop n done ns)) ∙ sym (numbers_append (take n rest) (drop n rest))
    ∙ ap numbers_text (take-append-drop n rest) in
    ap (λ (t : List ℕ). t ++ numbers_text (drop (done + n) ns)) added
    ∙ append_assoc before (numbers_text (take n rest)) (numbers_text (drop (done + n) ns))
    ∙ ap (λ (t : List ℕ). before ++ t) parts
    ∙ so_far

-- the next number of a list
pub next_number : (ns : List ℕ) (i : ℕ) (whole before behind : List ℕ) → i < length ns → before ++ decimals_text (drop i ns) ≡ whole
    → behind ≡ before ++ 32 ∷ decimal (get_or ns i 0) → behind ++ decimals_text (drop (i + 1) ns) ≡ whole
next_number ns i whole before behind inside so_far step = one_more decimals_text ns i 0 whole before behind
    (32 ∷ decimal (get_or ns i 0)) inside refl so_far step
