use Rattle.cert_stream.proofs.DigitMasks.{ones_few}
use Rattle.cert_stream.proofs.line.words.digit_count.Goals as goal

pub returns-clause-most : goal.returns-clause-most
returns-clause-most c = (ones_few c.digits_at.result c.trailing_ones.result c.digits_at.ensures.small c.trailing_ones.ensures).0

pub returns-clause-digits : goal.returns-clause-digits
returns-clause-digits c i lt =
    c.digits_at.ensures.digits i ((ones_few c.digits_at.result c.trailing_ones.result c.digits_at.ensures.small c.trailing_ones.ensures).1 i lt)
