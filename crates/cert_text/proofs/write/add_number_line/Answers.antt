use Rattle.std.proofs.Common.{rules, ℕ, ◌<◌, ◌^◌, ◌∙◌, ◌++◌, List, length, get_or, ap}
use Rattle.cert_grammar.specs.CertText.{as_numbers}
use Rattle.line_format.specs.Numeral.{numbers_text}
use Rattle.cert_text.proofs.Written.{added_line, small_decimals}
use Rattle.cert_text.proofs.write.add_number_line.Goals as goal

pub returns : goal.returns
returns c =
    let ns = c.args.numbers.now in
    let small : (i : ℕ) → i < length ns → get_or ns i 0 < 2 ^ 16 = λ i inside. search rules in
    added_line c.args.text.now c.args.word.now (numbers_text (as_numbers ns)) _ _ _ c.in_ok-add.ensures
    (c.in_ok-add_numbers.ensures ∙ ap (λ (t : List ℕ). c.add.new.self ++ t) (small_decimals ns small)) c.in_ok-push.ensures
