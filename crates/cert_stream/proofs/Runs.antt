-- Runs of digits in a piece.
use Rattle.std.proofs.Common.{Bool, List, [], ap, append_assoc, arith, drop, drop-drop, get_or, length, length-drop, length-take, refl, subst, suc}
use Rattle.std.proofs.Common.{sym, take, zero, ℕ, ◌++◌, ◌+◌, ◌-◌, ◌<◌, ◌∙◌, ◌∷◌, ◌≡◌, ◌≢◌, ◌≤◌}
use Rattle.std.proofs.Math.Seq.{take-add}
use Rattle.std.proofs.lemmas.List.{take_more, get_or-drop}
use Rattle.std.specs.Prelude.{ℤ, pos, negsuc, unsigned_abs}
use Rattle.line_format.specs.LineText.{IsLine}
use Rattle.line_format.proofs.Lines.{line_append}
use Rattle.line_format.specs.Numeral.{numbers_text, numeral, signed_numeral}
use Rattle.line_format.proofs.Numerals.{numeral-on}
use Rattle.wide_num.proofs.Decimal.{AreDigits, read_on, read_on-ge}
use Rattle.cert_stream.specs.declared.line.tally.Magnitude.{Magnitude}
use Rattle.cert_stream.specs.Tallies.{IsTally}
use Rattle.cert_stream.specs.Partway.{IsOpen}
use Rattle.cert_stream.specs.Pieces.{between}
use Rattle.cert_stream.specs.declared.line.form.Form.{Form}
use Rattle.cert_stream.specs.declared.line.LinePart.{LinePart}
use Rattle.cert_stream.specs.declared.line.Outcome.{Outcome}
use Rattle.cert_stream.specs.declared.line.Outcome.TheVariants.{Open, Whole, Fault}
use Rattle.cert_stream.specs.LineParts.{IsPart, Becomes, ReadsOn}
use Rattle.line_format.proofs.FieldRuns.{numbers-push}

-- one byte more of a piece
pub between_more : (at i : ℕ) (piece : List ℕ) → at ≤ i → i < length piece → between at (i + 1) piece ≡ between at i piece ++ get_or piece i 0 ∷ []
between_more at i piece le lt =
    ap (λ (n : ℕ). take n (drop at piece)) (omega (arith, le))
    ∙ take_more (drop at piece) (i - at) 0 (omega (arith, length-drop at piece, le, lt))
    ∙ ap (λ (x : ℕ). between at i piece ++ x ∷ []) (get_or-drop at piece (i - at) 0 ∙ ap (λ (j : ℕ). get_or piece j 0) (omega (arith, le)))

-- a number with more digits
pub open_on : (negative : Bool) (t u : Magnitude) (z : ℤ) (ds : List ℕ) → IsOpen negative t z → (unsigned_abs z ≡ 0 → ⊥) → AreDigits ds
    → IsTally u (read_on (unsigned_abs z) ds) → (x : ℤ) × IsOpen negative u x × (signed_numeral x ≡ signed_numeral z ++ ds)
open_on negative t u (pos n) ds last some all tally = (pos (read_on n ds), record { sign = last.sign; size = tally }, numeral-on n ds (positive n some) all)
  where
    positive : (n : ℕ) → (n ≡ 0 → ⊥) → 0 < n
    positive zero some = absurd (some refl)
    positive (suc n) some = omega arith
open_on negative t u (negsuc n) ds last some all tally =
    let back : suc (read_on (suc n) ds - 1) ≡ read_on (suc n) ds = omega (arith, read_on-ge (suc n) ds) in (
      negsuc (read_on (suc n) ds - 1),
      record { sign = last.sign; size = subst (IsTally u) (sym back) tally },
      ap (λ (l : List ℕ). 45 ∷ l) (ap numeral back ∙ numeral-on (suc n) ds (omega arith) all),
    )

-- a line with more digits
pub line_on : (word : List ℕ) (ns : List ℤ) (z x : ℤ) (bytes ds : List ℕ) → bytes ≡ word ++ numbers_text (ns ++ z ∷ [])
    → signed_numeral x ≡ signed_numeral z ++ ds → bytes ++ ds ≡ word ++ numbers_text (ns ++ x ∷ [])
line_on word ns z x bytes ds is e =
    ap (λ (l : List ℕ). l ++ ds) (is ∙ ap (λ (l : List ℕ). word ++ l) (numbers-push ns z))
    ∙ append_assoc word (numbers_text ns ++ 32 ∷ signed_numeral z) ds
    ∙ ap (λ (l : List ℕ). word ++ l) (append_assoc (numbers_text ns) (32 ∷ signed_numeral z) ds ∙ ap (λ (l : List ℕ). numbers_text ns ++ 32 ∷ l) (sym e)
    ∙ sym (numbers-push ns x))

-- digits are no line feed
pub digits_line : (ds : List ℕ) → AreDigits ds → IsLine ds
digits_line [] all = tt
digits_line (d ∷ ds) all = (λ e. omega (arith, e, all.0.0), digits_line ds all.1)

-- bytes up to a place and from there on
pub between_join : (at mid end : ℕ) (piece : List ℕ) → at ≤ mid → mid ≤ end → between at mid piece ++ between mid end piece ≡ between at end piece
between_join at mid end piece from to =
    let there : drop (mid - at) (drop at piece) ≡ drop mid piece = drop-drop (mid - at) at piece ∙ ap (λ (n : ℕ). drop n piece) (omega (arith, from)) in
    ap (λ (l : List ℕ). between at mid piece ++ take (end - mid) l) (sym there)
    ∙ sym (take-add (mid - at) (end - mid) (drop at piece))
    ∙ ap (λ (n : ℕ). take n (drop at piece)) (omega (arith, from, to))

module _ (word : List ℕ) (form : Form) where
  -- two pieces, one after another
  pub part_join : (part : LinePart) (out : List ℤ) (bytes piece : List ℕ) (at mid end : ℕ) → at ≤ mid → mid ≤ end
      → IsPart word form part out ((bytes ++ between at mid piece) ++ between mid end piece) → IsPart word form part out (bytes ++ between at end piece)
  part_join part out bytes piece at mid end from to is =
      subst (IsPart word form part out) (append_assoc bytes (between at mid piece) (between mid end piece)
      ∙ ap (λ (l : List ℕ). bytes ++ l) (between_join at mid end piece from to)) is

  -- one byte more
  pub part_next : (part : LinePart) (out : List ℤ) (bytes piece : List ℕ) (at end : ℕ) → at ≤ end → end < length piece
      → IsPart word form part out ((bytes ++ between at end piece) ++ get_or piece end 0 ∷ []) → IsPart word form part out (bytes ++ between at (end + 1) piece)
  part_next part out bytes piece at end from lt is =
      subst (IsPart word form part out) (append_assoc bytes (between at end piece) (get_or piece end 0 ∷ [])
      ∙ ap (λ (l : List ℕ). bytes ++ l) (sym (between_more at end piece from lt))) is

  -- and it is no line feed
  pub line_next : (piece : List ℕ) (at end : ℕ) → at ≤ end → end < length piece → get_or piece end 0 ≢ 10 → IsLine (between at end piece)
      → IsLine (between at (end + 1) piece)
  line_next piece at end from lt other is = subst IsLine (sym (between_more at end piece from lt))
      (line_append (between at end piece) (get_or piece end 0 ∷ []) is (other, tt))

  -- a byte that ends a line or makes it wrong
  pub reads_stop : (part : LinePart) (out : List ℤ) (bytes piece : List ℕ) (at end : ℕ) (outcome : Outcome) → (outcome ≡ Open → ⊥) → end < length piece
      → Becomes word form part out (bytes ++ between at end piece) (get_or piece end 0) outcome → ReadsOn word form part out bytes piece at end outcome
  reads_stop part out bytes piece at end Open other lt becomes = absurd (other refl)
  reads_stop part out bytes piece at end Whole other lt becomes = (lt, becomes.0, becomes.1)
  reads_stop part out bytes piece at end Fault other lt becomes = (lt, becomes)

-- digits one after another
pub digits_join : (xs ys : List ℕ) → AreDigits xs → AreDigits ys → AreDigits (xs ++ ys)
digits_join [] ys a b = b
digits_join (x ∷ xs) ys a b = (a.0, digits_join xs ys a.1 b)

-- how many bytes are between two places
pub between_long : (at end : ℕ) (piece : List ℕ) → at ≤ end → end ≤ length piece → length (between at end piece) ≡ end - at
between_long at end piece from to = omega (arith, from, to, length-take (end - at) (drop at piece), length-drop at piece)

-- the bytes up to a place, and the one there
pub and_one : (text piece : List ℕ) (at end : ℕ) → at ≤ end → end < length piece → (text ++ between at end piece) ++ get_or piece end 0 ∷ [] ≡ text
    ++ between at (end + 1) piece
and_one text piece at end from lt = append_assoc text (between at end piece) (get_or piece end 0 ∷ [])
    ∙ ap (λ (l : List ℕ). text ++ l) (sym (between_more at end piece from lt))

-- and the first one
pub first_one : (text piece : List ℕ) (at : ℕ) → at < length piece → text ++ get_or piece at 0 ∷ [] ≡ text ++ between at (at + 1) piece
first_one text piece at lt = ap (λ (l : List ℕ). text ++ l) (sym (between_more at at piece (omega arith) lt
    ∙ ap (λ (l : List ℕ). l ++ get_or piece at 0 ∷ []) (none at piece)))
  where
    none : (at : ℕ) (piece : List ℕ) → between at at piece ≡ []
    none at piece = ap (λ (n : ℕ). take n (drop at piece)) {y = 0} (omega arith)
