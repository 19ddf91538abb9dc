-- Numbers of a line in the room.
use Rattle.std.proofs.Common.{List, [], ap, arith, drop, drop-drop, inl, inr, length, length-drop, length-take, refl, subst, suc, sym, take, zero, ℕ}
use Rattle.std.proofs.Common.{◌%◌, ◌*◌, ◌++◌, ◌+◌, ◌-◌, ◌<◌, ◌∙◌, ◌∷◌, ◌≡◌, ◌≤◌}
use Rattle.std.proofs.Math.Nat.{mul-le-mul}
use Rattle.std.proofs.lemmas.Bool.{cases_lt}
use Rattle.std.specs.Prelude.{ℤ}
use Rattle.cert_stream.specs.declared.due.NextLine.{NextLine}
use Rattle.cert_stream.specs.declared.due.NextLine.TheVariants.{Choice, Den, End, Entries, Limits, Members, Multipliers, Nothing, PartChoice, Payments}
use Rattle.cert_stream.specs.declared.due.NextLine.TheVariants.{RowChoice, Rows, Title, Value, Version, Without}
use Rattle.cert_stream.specs.declared.line.form.Form.{Form}
use Rattle.cert_stream.specs.declared.line.LinePart.{LinePart}
use Rattle.cert_stream.specs.Dues.{word_of, IsDue}
use Rattle.cert_stream.specs.LineParts.{IsPart}
use Rattle.cert_stream.specs.Forms.{room_for}
use Rattle.cert_stream.specs.Rooms.{room_size, form_due, start_due, segment}

-- a line of a table is one of two
pub line_of : (k s : ℕ) → (k % 2) * s ≤ s
line_of k s = elim (cases_lt (k % 2) 1) [
  | inl low ↦ subst (λ (n : ℕ). n * s ≤ s) (zero_is (k % 2) low) (omega arith)
  | inr high ↦ subst (λ (n : ℕ). n * s ≤ s) (one_is k high) (omega arith)
]
  where
    zero_is : (n : ℕ) → n < 1 → 0 ≡ n
    zero_is n low = omega (arith, low)

    one_is : (k : ℕ) → 1 ≤ k % 2 → 1 ≡ k % 2
    one_is k high = omega (arith, high)

-- the choice of a part comes before those of the bidders after it
pub part_fits : (b j : ℕ) → 0 < j → j ≤ b → (j - 1) * b + b ≤ b * b
part_fits b j some le =
    let up : suc (j - 1) ≡ j = omega (arith, some) in
    let own : suc (j - 1) * b ≤ b * b = (let x : suc (j - 1) ≤ b = omega (arith, up, le) in let y : b ≤ b = omega arith in mul-le-mul x y) in
    omega (arith, own)

-- each segment is within the room
pub in_room : (b s : ℕ) (due : NextLine) → IsDue b due → start_due b s due + room_for (form_due b s due) < room_size b s
in_room b s Version is = omega arith
in_room b s Limits is = omega arith
in_room b s Den is = omega arith
in_room b s Value is = omega arith
in_room b s Choice is = omega arith
in_room b s (Title table) is = omega arith
in_room b s (Entries table k) is = omega (arith, line_of k s)
in_room b s (Without j) is = omega arith
in_room b s (PartChoice j) is = omega (arith, part_fits b j is.0 is.1)
in_room b s Payments is = omega arith
in_room b s Rows is = omega arith
in_room b s (Members r) is = omega arith
in_room b s (Multipliers r) is = omega arith
in_room b s (RowChoice r) is = omega arith
in_room b s End is = omega arith
in_room b s Nothing is = omega arith

-- the first list of two
take_front : (xs ys : List ℤ) → take (length xs) (xs ++ ys) ≡ xs
take_front [] ys = refl
take_front (x ∷ xs) ys = ap (λ (l : List ℤ). x ∷ l) (take_front xs ys)

-- what follows the first numbers
drop_front : (n : ℕ) (xs ys : List ℤ) → n ≤ length xs → drop n (take n xs ++ ys) ≡ ys
drop_front zero xs ys le = refl
drop_front (suc n) [] ys le = absurd (omega (arith, le))
drop_front (suc n) (x ∷ xs) ys le = drop_front n xs ys (omega (arith, le))

-- what was written into a segment
pub written : (start size : ℕ) (room out post : List ℤ) → start ≤ length room → length out ≡ size → take size
    (drop start (take start room ++ (out ++ post))) ≡ out
written start size room out post le is = ap (λ (l : List ℤ). take size l) (drop_front start room (out ++ post) le)
    ∙ ap (λ (n : ℕ). take n (out ++ post)) (sym is) ∙ take_front out post

-- what comes before it
pub before : (n start : ℕ) (room rest : List ℤ) → n ≤ start → start ≤ length room → take n (take start room ++ rest) ≡ take n room
before zero start room rest le inside = refl
before (suc n) zero room rest le inside = absurd (omega (arith, le))
before (suc n) (suc start) [] rest le inside = absurd (omega (arith, inside))
before (suc n) (suc start) (x ∷ room) rest le inside = ap (λ (l : List ℤ). x ∷ l) (before n start room rest (omega (arith, le)) (omega (arith, inside)))

-- what is stated about the line that is due, and about what was written into its part of
-- the room
pub in_segment : (P : List ℕ → Form → List ℤ → Type 0) (b s : ℕ) (due : NextLine) (part : LinePart) (room out post : List ℤ) (bytes word : List ℕ) (form : Form)
    (start end : ℕ)
    → IsDue b due → word ≡ word_of due → form ≡ form_due b s due → start ≡ start_due b s due → end ≡ start_due b s due + room_for (form_due b s due)
    → length room ≡ room_size b s
    → length out ≡ length (take (end - start) (drop start room))
    → (IsPart word form part (take (end - start) (drop start room)) bytes → P word form out)
    → IsPart (word_of due) (form_due b s due) part (segment b s due room) bytes → P (word_of due) (form_due b s due)
    (segment b s due (take start room ++ (out ++ post)))
in_segment P b s due part room out post bytes word form start end named words forms starts ends rooms longs goes is =
    let size : end - start ≡ room_for (form_due b s due) = omega (arith, starts, ends) in
    let same : segment b s due room ≡ take (end - start) (drop start room) = ap (λ (n : ℕ). take n (drop (start_due b s due) room)) (sym size)
    ∙ ap (λ (n : ℕ). take (end - start) (drop n room)) (sym starts) in
    let le : start ≤ length room = omega (arith, starts, rooms, in_room b s due named) in
    let long : length out ≡ room_for (form_due b s due) = omega (
      arith,
      longs,
      length-take (end - start) (drop start room),
      length-drop start room,
      size,
      starts,
      rooms,
      in_room b s due named,
    ) in
    let here : segment b s due (take start room ++ (out ++ post)) ≡ out = ap (λ (n : ℕ). take (room_for (form_due b s due))
    (drop n (take start room ++ (out ++ post)))) (sym starts) ∙ written start (room_for (form_due b s due)) room out post le long in
    let old : IsPart word form part (take (end - start) (drop start room)) bytes =
    subst (λ (w : List ℕ). IsPart w form part (take (end - start) (drop start room)) bytes) (sym words)
    (subst (λ (f : Form). IsPart (word_of due) f part (take (end - start) (drop start room)) bytes) (sym forms)
    (subst (λ (l : List ℤ). IsPart (word_of due) (form_due b s due) part l bytes) same is)) in
    subst (P (word_of due) (form_due b s due)) (sym here) (subst (λ (f : Form). P (word_of due) f out) forms
    (subst (λ (w : List ℕ). P w form out) words (goes old)))

-- what follows it
pub behind : (start size : ℕ) (room out post : List ℤ) → start ≤ length room → length out ≡ size → post ≡ drop size (drop start room)
    → drop (start + size) (take start room ++ (out ++ post)) ≡ drop (start + size) room
behind start size room out post le is same =
    sym (drop-drop size start (take start room ++ (out ++ post)) ∙ ap (λ (n : ℕ). drop n (take start room ++ (out ++ post))) {y = start + size} (omega arith))
    ∙ ap (λ (l : List ℤ). drop size l) (drop_front start room (out ++ post) le)
    ∙ ap (λ (n : ℕ). drop n (out ++ post)) (sym is)
    ∙ drop_exact out post
    ∙ same
    ∙ drop-drop size start room
    ∙ ap (λ (n : ℕ). drop n room) {y = start + size} (omega arith)
  where
    drop_exact : (xs ys : List ℤ) → drop (length xs) (xs ++ ys) ≡ ys
    drop_exact [] ys = refl
    drop_exact (x ∷ xs) ys = drop_exact xs ys
