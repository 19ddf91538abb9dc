-- Whole numbers of a piece, one after another.
use Rattle.std.proofs.Common.{Bool, List, [], ap, append_assoc, arith, drop, false, get_or, length, refl, set, subst, sym, take, true, ℕ, ◌*◌, ◌++◌}
use Rattle.std.proofs.Common.{◌+◌, ◌-◌, ◌<◌, ◌^◌, ◌∙◌, ◌∷◌, ◌≡◌, ◌≤◌}
use Rattle.std.proofs.lemmas.Bool.Decides.{nat_tests}
use Rattle.std.specs.Prelude.{ℤ, pos, ◌||◌}
use Rattle.line_format.specs.LineText.{IsLine}
use Rattle.line_format.proofs.Lines.{line_append}
use Rattle.line_format.specs.Numeral.{numbers_text, numeral}
use Rattle.line_format.specs.Range.{is_out}
use Rattle.line_format.proofs.Numerals.{numeral-one, numeral_is}
use Rattle.line_format.proofs.FieldRuns.{numbers-push}
use Rattle.wide_num.proofs.Decimal.{IsDigit}
use Rattle.cert_grammar.specs.Lines.{signed}
use Rattle.cert_stream.specs.declared.line.fields.Field.{Field}
use Rattle.cert_stream.specs.declared.line.form.Form.TheVariants.{Signed}
use Rattle.cert_stream.specs.Fields.{IsField, after_space}
use Rattle.cert_stream.specs.LineParts.{IsPart}
use Rattle.cert_stream.specs.Pieces.{between}
use Rattle.cert_stream.proofs.Following.{follows, keeps_more, kept_now}
use Rattle.cert_stream.proofs.Fronts.{numeral_push}
use Rattle.cert_stream.proofs.Runs.{between_join, between_more, digits_line, part_join}
use Rattle.cert_stream.proofs.Steps.{longer}

-- the first digit of a number
pub field_first : (piece : List ℕ) (at : ℕ) → at < length piece → IsDigit (get_or piece at 0) → between at (at + 1) piece ≡ numeral (get_or piece at 0 - 48)
field_first piece at lt digit =
    between_more at at piece (omega arith) lt
    ∙ ap (λ (l : List ℕ). l ++ get_or piece at 0 ∷ []) (nothing at piece)
    ∙ ap (λ (c : ℕ). c ∷ []) (omega (arith, digit))
    ∙ sym (numeral-one (get_or piece at 0 - 48) (omega (arith, digit)))
  where
    nothing : (at : ℕ) (piece : List ℕ) → between at at piece ≡ []
    nothing at piece = ap (λ (n : ℕ). take n (drop at piece)) {y = 0} (omega arith)

-- one digit more, after a number above 0
pub field_more : (piece : List ℕ) (at i size : ℕ) → at ≤ i → i < length piece → IsDigit (get_or piece i 0) → 0 < size → between at i piece ≡ numeral size
    → between at (i + 1) piece ≡ numeral (10 * size + (get_or piece i 0 - 48))
field_more piece at i size le lt digit some is =
    between_more at i piece le lt
    ∙ ap (λ (l : List ℕ). l ++ get_or piece i 0 ∷ []) is
    ∙ ap (λ (c : ℕ). numeral size ++ c ∷ []) (omega (arith, digit))
    ∙ sym (numeral_push size (get_or piece i 0 - 48) some (omega (arith, digit)))

-- a number and its space
with_space : (piece : List ℕ) (at : ℕ) (f : Field) → IsField piece at f → between at (f.end + 1) piece ≡ numeral f.size ++ 32 ∷ []
with_space piece at f is = between_more at f.end piece is.from is.within ∙ ap (λ (l : List ℕ). l ++ get_or piece f.end 0 ∷ []) is.spelled
    ∙ ap (λ (c : ℕ). numeral f.size ++ c ∷ []) is.space

-- a number with its space has no line feed
pub field_line : (piece : List ℕ) (from at : ℕ) (f : Field) → IsField piece at f → from ≤ at → IsLine (between from at piece)
    → IsLine (between from (f.end + 1) piece)
field_line piece from at f is le line =
    subst IsLine (between_join from at (f.end + 1) piece le (omega (arith, is.from)))
    (line_append (between from at piece) (between at (f.end + 1) piece) line
    (subst IsLine (sym (with_space piece at f is)) (line_append (numeral f.size) (32 ∷ []) (digits_line (numeral f.size) (numeral_is f.size).digits)
    (λ e. omega (arith, e), tt))))

module _ (word : List ℕ) (most : ℕ) (beyond : Bool) where
  -- one whole number more is kept
  pub field_kept : (count : ℕ) (out now : List ℤ) (bytes piece : List ℕ) (at : ℕ) (f : Field) → IsField piece at f → f.size < 2 ^ 64 → count < most
      → most ≤ length out → now ≡ set out count (pos f.size)
      → IsPart word (Signed most) (after_space count beyond) out bytes → IsPart word (Signed most) (after_space (count + 1) beyond) now
      (bytes ++ between at (f.end + 1) piece)
  field_kept count out now bytes piece at f is small few room stored part = record {
    numbers = part.numbers ++ pos f.size ∷ [];
    partway = ap (λ (l : List ℕ). bytes ++ l) (with_space piece at f is)
        ∙ longer word part.numbers (32 ∷ []) bytes part.partway (numeral f.size ++ 32 ∷ [])
        ∙ ap (λ (l : List ℕ). word ++ l) (sym (append_assoc (numbers_text part.numbers) (32 ∷ numeral f.size) (32 ∷ []))
        ∙ ap (λ (l : List ℕ). l ++ 32 ∷ []) (sym (numbers-push part.numbers (pos f.size))));
    keeps = kept_now (part.numbers ++ pos f.size ∷ []) (set out count (pos f.size)) now (count + 1) (count + 1) (beyond || false) beyond
        (keeps_more part.numbers out count beyond (record { number = pos f.size; beyond = false }) (pos f.size) part.keeps
        (record { beyond = inside f.size small; same = λ e. refl }) (omega (arith, few, room)))
        (sym stored)
        refl
        (plain beyond);
    begins = follows (signed most) part.numbers (pos f.size) part.begins (omega (arith, part.keeps.many, few));
  }
    where
      plain : (b : Bool) → b || false ≡ b
      plain true = refl
      plain false = refl

      inside : (n : ℕ) → n < 2 ^ 64 → is_out (pos n) ≡ false
      inside n lt = grind (arith, nat_tests, lt)

  -- the same after others
  pub field_join : (count : ℕ) (out now : List ℤ) (bytes piece : List ℕ) (from at : ℕ) (f : Field) → IsField piece at f → f.size < 2 ^ 64 → count < most
      → most ≤ length out → now ≡ set out count (pos f.size) → from ≤ at
      → IsPart word (Signed most) (after_space count beyond) out (bytes ++ between from at piece) → IsPart word (Signed most)
      (after_space (count + 1) beyond) now (bytes ++ between from (f.end + 1) piece)
  field_join count out now bytes piece from at f is small few room stored le part =
      part_join word (Signed most) (after_space (count + 1) beyond) now bytes piece from at (f.end + 1) le (omega (arith, is.from))
      (field_kept count out now (bytes ++ between from at piece) piece at f is small few room stored part)
