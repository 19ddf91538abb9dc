use Rattle.std.proofs.Common.{◌<◌, ◌^◌, ℕ, take, drop, sym, ap, subst, ◌∙◌}
use Rattle.std.proofs.lemmas.Simd.{length-chunk}
use Rattle.std.specs.Int.{bit_at}
use Rattle.cert_stream.proofs.DigitMasks.{digit_set, digits_mask, mask_small}
use Rattle.cert_stream.proofs.line.words.digits_at.Goals as goal

pub returns-clause-small : goal.returns-clause-small
returns-clause-small c =
    let eight = take 8 (drop c.args.at c.args.piece.now) in
    let long = length-chunk c.args.at 8 c.args.piece.now c.requires in
    subst (λ (m : ℕ). m < 2 ^ 8) (sym (digits_mask eight long)) (mask_small eight long)

pub returns-clause-digits : goal.returns-clause-digits
returns-clause-digits c i one =
    let piece = c.args.piece.now in
    let at = c.args.at in
    let mask = digits_mask (take 8 (drop at piece)) (length-chunk at 8 piece c.requires) in
    digit_set piece at i c.requires c.type_inv.piece (ap (λ (m : ℕ). bit_at m i) (sym mask) ∙ one)
