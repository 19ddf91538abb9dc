use Rattle.std.proofs.Common.{◌≡◌, List, length, take, ap, ◌∙◌, ℕ}
use Rattle.line_format.specs.Numeral.{numbers_text}
use Rattle.line_format.proofs.Words.{word_front}
use Rattle.line_format.proofs.line.numbers_after.Goals as goal

pub returns-then-not-begins_with-clause-form : goal.returns-then-not-begins_with-clause-form
returns-then-not-begins_with-clause-form c = λ _ ns e.
    let front : take (length c.args.word.now) c.args.line.now ≡ c.args.word.now = ap (λ (l : List ℕ). take (length c.args.word.now) l) e
    ∙ word_front c.args.word.now (numbers_text ns) in
    let yes = c.begins_with.ensures.1 front in
    cc (yes, c.if-not-begins_with.true)
