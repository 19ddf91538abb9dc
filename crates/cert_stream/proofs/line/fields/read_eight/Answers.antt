use Rattle.std.proofs.Common.{◌≡◌, ◌∙◌, ℕ, ◌-◌, ap, arith, get_or, take, drop}
use Rattle.std.proofs.lemmas.Simd.{length-chunk}
use Rattle.wide_num.proofs.Decimal.{AreDigits, IsDigit}
use Rattle.line_format.specs.Numeral.{numeral}
use Rattle.cert_stream.proofs.DigitWords.{digits_between, digits_spell, eight_front}
use Rattle.cert_stream.proofs.WholeFields.{field_first}
use Rattle.cert_stream.proofs.line.fields.read_eight.Goals as goal

pub returns-then-piece-at-eq48 : goal.returns-then-piece-at-eq48
returns-then-piece-at-eq48 c =
    let zero : get_or c.args.piece.now c.args.at 0 ≡ 48 = c.if-piece-at-eq48.true in
    let digit : IsDigit (get_or c.args.piece.now c.args.at 0) = (omega (arith, zero), omega (arith, zero)) in
    record {
      spelled = field_first c.args.piece.now c.args.at (omega arith) digit ∙ ap (λ (b : ℕ). numeral (b - 48)) zero;
      from = omega arith;
      within = omega arith;
      low = omega arith;
    }

pub returns : goal.returns
returns c =
    let piece = c.args.piece.now in
    let at = c.args.at in
    let count = c.digit_count-count.result in
    let bytes = take 8 (drop at piece) in
    let digits : AreDigits (take count bytes) = rw (eight_front piece at count c.digit_count-count.ensures.most) (digits_between piece at count
    c.digit_count-count.ensures.digits) in
    let size = c.spelled.ensures.spelled bytes (length-chunk at 8 piece c.requires) c.word_at.ensures digits in
    record {
      spelled = digits_spell piece at count c.spelled.result c.requires (omega arith) c.digit_count-count.ensures.most c.digit_count-count.ensures.digits
          (λ e. c.if-piece-at-eq48.false e) size;
      from = omega arith;
      within = omega (arith, c.digit_count-count.ensures.most, c.requires);
      low = c.spelled.ensures.low;
    }
