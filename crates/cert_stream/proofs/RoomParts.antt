-- The parts of the room, in order, and what a line leaves alone: all parts but its own.
use Rattle.std.proofs.Common.{List, [], ap, arith, drop, drop-drop, get_or, inl, inr, length, refl, suc, sym, take, zero, ℕ, ◌%◌, ◌*◌, ◌+◌, ◌-◌, ◌<◌}
use Rattle.std.proofs.Common.{◌∙◌, ◌∷◌, ◌≡◌, ◌≢◌, ◌≤◌}
use Rattle.std.proofs.Math.Nat.{mul-le-mul}
use Rattle.std.proofs.lemmas.Bool.{cases_lt}
use Rattle.std.specs.Prelude.{ℤ, false}
use Rattle.cert_stream.specs.declared.due.NextLine.{NextLine}
use Rattle.cert_stream.specs.declared.due.NextLine.TheVariants.{Choice, Den, End, Entries, Limits, Members, Multipliers, Nothing, PartChoice, Payments}
use Rattle.cert_stream.specs.declared.due.NextLine.TheVariants.{RowChoice, Rows, Title, Value, Version, Without}
use Rattle.cert_grammar.specs.Lines.{FitNumbers}
use Rattle.cert_stream.specs.declared.line.form.Form.{Form}
use Rattle.cert_stream.specs.declared.line.form.Form.TheVariants as form
use Rattle.cert_stream.specs.declared.line.form.Form.TheVariants.{Just, Both, Signed, Chosen, Counted}
use Rattle.cert_stream.specs.declared.line.LinePart.{LinePart}
use Rattle.cert_stream.specs.LineParts.{IsWholeLine}
use Rattle.cert_stream.specs.Dues.{IsDue}
use Rattle.cert_stream.specs.Forms.{numbers_of, room_for}
use Rattle.cert_stream.specs.Rooms.{KeepsOthers, den_start, entries_start, form_due, members_start, part_start, payments_start, row_choice_start}
use Rattle.cert_stream.specs.Rooms.{rows_start, segment, start_due, value_start}
use Rattle.cert_stream.proofs.Segments.{part_fits, line_of}

-- fewer of the first numbers
take_less : (size start : ℕ) (xs : List ℤ) → size ≤ start → take size xs ≡ take size (take start xs)
take_less zero start xs le = refl
take_less (suc size) zero xs le = absurd (omega (arith, le))
take_less (suc size) (suc start) [] le = refl
take_less (suc size) (suc start) (x ∷ xs) le = ap (λ (l : List ℤ). x ∷ l) (take_less size start xs (omega (arith, le)))

-- numbers within the first ones
within_front : (from size start : ℕ) (xs : List ℤ) → from + size ≤ start → take size (drop from xs) ≡ take size (drop from (take start xs))
within_front zero size start xs le = take_less size start xs (omega (arith, le))
within_front (suc from) size zero xs le = absurd (omega (arith, le))
within_front (suc from) size (suc start) [] le = refl
within_front (suc from) size (suc start) (x ∷ xs) le = within_front from size start xs (omega (arith, le))

-- numbers after a place
within_back : (from end : ℕ) (xs : List ℤ) → end ≤ from → drop from xs ≡ drop (from - end) (drop end xs)
within_back from end xs le = sym (drop-drop (from - end) end xs ∙ ap (λ (n : ℕ). drop n xs) {y = from} (omega (arith, le)))

-- where the parts of the room begin, and the end of the last one
abbrev bounds : ℕ → ℕ → List ℕ
bounds b s = 0 ∷ b ∷ den_start b ∷ value_start b ∷ payments_start b ∷ (2 * b + 4) ∷ members_start b ∷ row_choice_start b ∷ rows_start b ∷ entries_start b s 0
    ∷ (entries_start b s 0 + 2 * s) ∷ []

-- each number is at least the one before it
abbrev Ascends : ℕ → List ℕ → Type 0
Ascends m [] = Unit {0}
Ascends m (x ∷ xs) = (m ≤ x) × Ascends x xs

-- all are at least the first
at_least : (m : ℕ) (xs : List ℕ) (i : ℕ) → Ascends m xs → i < length xs → m ≤ get_or xs i 0
at_least m [] i up lt = absurd (omega (arith, lt))
at_least m (x ∷ xs) zero up lt = up.0
at_least m (x ∷ xs) (suc i) up lt = omega (arith, up.0, at_least x xs i up.1 (omega (arith, lt)))

-- a later number is at least an earlier one
ascending : (m : ℕ) (xs : List ℕ) (i j : ℕ) → Ascends m xs → i ≤ j → j < length xs → get_or xs i 0 ≤ get_or xs j 0
ascending m [] i j up le lt = absurd (omega (arith, lt))
ascending m (x ∷ xs) zero zero up le lt = omega arith
ascending m (x ∷ xs) zero (suc j) up le lt = at_least x xs j up.1 (omega (arith, lt))
ascending m (x ∷ xs) (suc i) zero up le lt = absurd (omega (arith, le))
ascending m (x ∷ xs) (suc i) (suc j) up le lt = ascending x xs i j up.1 (omega (arith, le)) (omega (arith, lt))

-- the parts of the room are in order
bounds_ascend : (b s : ℕ) → Ascends 0 (bounds b s)
bounds_ascend b s = (
  omega arith,
  (
    omega arith,
    (
      omega arith,
      (
        omega arith,
        (
          omega arith,
          (omega arith, (omega arith, (omega arith, (omega arith, (omega arith, (omega arith, tt)))))),
        ),
      ),
    ),
  ),
)

-- the part of the room in which the line's numbers are, counted from 0
abbrev pub part_due : NextLine → ℕ
part_due Choice = 0
part_due Den = 2
part_due Value = 3
part_due Payments = 4
part_due (PartChoice j) = 5
part_due (Members r) = 6
part_due (RowChoice r) = 7
part_due (Entries table k) = 9
part_due due = 1

-- there are ten
few_parts : (due : NextLine) → part_due due ≤ 9
few_parts Version = omega arith
few_parts Limits = omega arith
few_parts Den = omega arith
few_parts Value = omega arith
few_parts Choice = omega arith
few_parts (Title table) = omega arith
few_parts (Entries table k) = omega arith
few_parts (Without j) = omega arith
few_parts (PartChoice j) = omega arith
few_parts Payments = omega arith
few_parts Rows = omega arith
few_parts (Members r) = omega arith
few_parts (Multipliers r) = omega arith
few_parts (RowChoice r) = omega arith
few_parts End = omega arith
few_parts Nothing = omega arith

module _ (b s : ℕ) where
  -- the line's numbers are in their part
  from_bound : (due : NextLine) → get_or (bounds b s) (part_due due) 0 ≤ start_due b s due
  from_bound Version = omega arith
  from_bound Limits = omega arith
  from_bound Den = omega arith
  from_bound Value = omega arith
  from_bound Choice = omega arith
  from_bound (Title table) = omega arith
  from_bound (Entries table k) = omega arith
  from_bound (Without j) = omega arith
  from_bound (PartChoice j) = omega arith
  from_bound Payments = omega arith
  from_bound Rows = omega arith
  from_bound (Members r) = omega arith
  from_bound (Multipliers r) = omega arith
  from_bound (RowChoice r) = omega arith
  from_bound End = omega arith
  from_bound Nothing = omega arith

  -- and end in it
  to_bound : (due : NextLine) → IsDue b due → start_due b s due + room_for (form_due b s due) ≤ get_or (bounds b s) (suc (part_due due)) 0
  to_bound Version is = omega arith
  to_bound Limits is = omega arith
  to_bound Den is = omega arith
  to_bound Value is = omega arith
  to_bound Choice is = omega arith
  to_bound (Title table) is = omega arith
  to_bound (Entries table k) is = omega (arith, line_of k s)
  to_bound (Without j) is = omega arith
  to_bound (PartChoice j) is = omega (arith, part_fits b j is.0 is.1)
  to_bound Payments is = omega arith
  to_bound Rows is = omega arith
  to_bound (Members r) is = omega arith
  to_bound (Multipliers r) is = omega arith
  to_bound (RowChoice r) is = omega arith
  to_bound End is = omega arith
  to_bound Nothing is = omega arith

  -- A line has been read, and the room has other numbers only in the line's segment.
  module _ (due : NextLine) (is : IsDue b due) (old new : List ℤ) (others : KeepsOthers b s due old new) where
    -- numbers before the segment
    before_line : (from size : ℕ) → from + size ≤ start_due b s due → take size (drop from new) ≡ take size (drop from old)
    before_line from size le =
        within_front from size (start_due b s due) new le ∙ ap (λ (l : List ℤ). take size (drop from l)) others.front
        ∙ sym (within_front from size (start_due b s due) old le)

    -- numbers after it
    behind_line : (from size : ℕ) → start_due b s due + room_for (form_due b s due) ≤ from → take size (drop from new) ≡ take size (drop from old)
    behind_line from size le =
        let end = start_due b s due + room_for (form_due b s due) in
        ap (λ (l : List ℤ). take size l) (within_back from end new le ∙ ap (λ (l : List ℤ). drop (from - end) l) others.back
        ∙ sym (within_back from end old le))

    -- numbers of another part stay
    pub others_kept : (part from size : ℕ) → part ≤ 9 → (part ≡ part_due due → ⊥) → get_or (bounds b s) part 0 ≤ from
        → from + size ≤ get_or (bounds b s) (suc part) 0 → take size (drop from new) ≡ take size (drop from old)
    others_kept part from size few other low high =
        elim (cases_lt part (part_due due)) [
          | inl lt ↦ before_line from size (omega (
            arith,
            high,
            ascending 0 (bounds b s) (suc part) (part_due due) (bounds_ascend b s) (omega (arith, lt))
                (omega (arith, few_parts due)),
            from_bound due,
          ))
          | inr ge ↦ elim (cases_lt (part_due due) part) [
            | inl lt ↦ behind_line from size (omega (
              arith,
              low,
              ascending 0 (bounds b s) (suc (part_due due)) part (bounds_ascend b s) (omega (arith, lt))
                  (omega (arith, few)),
              to_bound due is,
            ))
            | inr le ↦ absurd (other (omega (arith, ge, le)))
          ]
        ]

    -- a line whose numbers are in another part keeps its numbers
    pub other_line_kept : (other : NextLine) → IsDue b other → (part_due other ≡ part_due due → ⊥) → segment b s other new ≡ segment b s other old
    other_line_kept other named apart = others_kept (part_due other) (start_due b s other) (room_for (form_due b s other)) (few_parts other) apart
        (from_bound other) (to_bound other named)

  -- the choice of a part leaves those of other parts alone
  pub part_kept : (i j : ℕ) (old new : List ℤ) → 0 < i → 0 < j → (i ≡ j → ⊥)
      → take (part_start b j) new ≡ take (part_start b j) old → drop (part_start b j + b) new ≡ drop (part_start b j + b) old
      → take b (drop (part_start b i) new) ≡ take b (drop (part_start b i) old)
  part_kept i j old new some_i some_j other front back =
      elim (cases_lt i j) [
        | inl lt ↦ let apart = part_apart i j some_i lt in
            within_front (part_start b i) b (part_start b j) new (omega (arith, apart)) ∙ ap (λ (l : List ℤ). take b (drop (part_start b i) l)) front
            ∙ sym (within_front (part_start b i) b (part_start b j) old (omega (arith, apart)))
        | inr ge ↦ let apart = part_apart j i some_j (after i j ge other) in
            ap (λ (l : List ℤ). take b l) (within_back (part_start b i) (part_start b j + b) new (omega (arith, apart))
            ∙ ap (λ (l : List ℤ). drop (part_start b i - (part_start b j + b)) l) back
            ∙ sym (within_back (part_start b i) (part_start b j + b) old (omega (arith, apart))))
      ]
    where
      after : (i j : ℕ) → j ≤ i → (i ≡ j → ⊥) → j < i
      after i j le other = elim (cases_lt j i) [ inl lt ↦ lt | inr ge ↦ absurd (other (omega (arith, le, ge))) ]

      part_apart : (i j : ℕ) → 0 < i → i < j → (i - 1) * b + b ≤ (j - 1) * b
      part_apart i j some lt =
          let le : suc (i - 1) * b ≤ (j - 1) * b = (let x : suc (i - 1) ≤ j - 1 = omega (arith, some, lt) in let y : b ≤ b = omega arith in mul-le-mul x y) in
          omega (arith, le)

  -- a line of a table leaves the one before it alone
  pub line_kept : (i k : ℕ) (old new : List ℤ) → i % 2 ≢ k % 2
      → take (entries_start b s k) new ≡ take (entries_start b s k) old → drop (entries_start b s k + s) new ≡ drop (entries_start b s k + s) old
      → take s (drop (entries_start b s i) new) ≡ take s (drop (entries_start b s i) old)
  line_kept i k old new other front back =
      elim (cases_lt (i % 2) (k % 2)) [
        | inl lt ↦ let apart : (i % 2) * s + s ≤ (k % 2) * s = line_apart (i % 2) (k % 2) lt in
            within_front (entries_start b s i) s (entries_start b s k) new (omega (arith, apart)) ∙ ap
            (λ (l : List ℤ). take s (drop (entries_start b s i) l)) front ∙ sym
            (within_front (entries_start b s i) s (entries_start b s k) old (omega (arith, apart)))
        | inr ge ↦ let apart : (k % 2) * s + s ≤ (i % 2) * s = line_apart (k % 2) (i % 2) (after (i % 2) (k % 2) ge other) in
            ap (λ (l : List ℤ). take s l) (within_back (entries_start b s i) (entries_start b s k + s) new (omega (arith, apart))
            ∙ ap (λ (l : List ℤ). drop (entries_start b s i - (entries_start b s k + s)) l) back
            ∙ sym (within_back (entries_start b s i) (entries_start b s k + s) old (omega (arith, apart))))
      ]
    where
      after : (i j : ℕ) → j ≤ i → (i ≡ j → ⊥) → j < i
      after i j le other = elim (cases_lt j i) [ inl lt ↦ lt | inr ge ↦ absurd (other (omega (arith, le, ge))) ]

      line_apart : (i j : ℕ) → i < j → i * s + s ≤ j * s
      line_apart i j lt =
          let le : suc i * s ≤ j * s = (let x : suc i ≤ j = omega (arith, lt) in let y : s ≤ s = omega arith in mul-le-mul x y) in
          omega (arith, le)

-- lines of which each has as many numbers as it may have: all but that of a row's members
abbrev pub IsFixed : Form → Type 0
IsFixed form.Nothing = Unit {0}
IsFixed (Just number) = Unit {0}
IsFixed (Both first second) = Unit {0}
IsFixed (Signed count) = Unit {0}
IsFixed (Chosen bidders) = Unit {0}
IsFixed (Counted bidders) = Unit {0}
IsFixed (form.Members bidders) = ⊥

-- how many numbers such a line has
fixed_long : (f : Form) (ns : List ℤ) → IsFixed f → FitNumbers (numbers_of f) ns → length ns ≡ room_for f
fixed_long form.Nothing ns fixed fit = ap (λ (l : List ℤ). length l) fit
fixed_long (Just number) ns fixed fit = ap (λ (l : List ℤ). length l) fit
fixed_long (Both first second) ns fixed fit = ap (λ (l : List ℤ). length l) fit
fixed_long (Signed count) ns fixed fit = fit
fixed_long (Chosen bidders) ns fixed fit = fit.0
fixed_long (Counted bidders) ns fixed fit = ap (λ (l : List ℤ). length l) fit.1
fixed_long (form.Members bidders) ns fixed fit = absurd fixed

-- the first numbers, twice
take_twice : (n : ℕ) (xs : List ℤ) → take n (take n xs) ≡ take n xs
take_twice zero xs = refl
take_twice (suc n) [] = refl
take_twice (suc n) (x ∷ xs) = ap (λ (l : List ℤ). x ∷ l) (take_twice n xs)

-- the numbers of a line that came whole, in range, are in its segment
pub came_whole : (b s : ℕ) (due : NextLine) (word bytes : List ℕ) (part : LinePart) (room : List ℤ)
    (is : IsWholeLine word (form_due b s due) part (segment b s due room) bytes)
    → IsFixed (form_due b s due) → part.beyond ≡ false → segment b s due room ≡ is.numbers
came_whole b s due word bytes part room is fixed within =
    let many : room_for (form_due b s due) ≡ part.count = sym (fixed_long (form_due b s due) is.numbers fixed is.fit) ∙ is.keeps.many in
    sym (take_twice (room_for (form_due b s due)) (drop (start_due b s due) room)) ∙ ap (λ (n : ℕ). take n (segment b s due room)) many ∙ is.keeps.same within
