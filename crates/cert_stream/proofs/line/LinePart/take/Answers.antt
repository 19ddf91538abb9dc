use Rattle.std.proofs.Common.{◌≡◌, List, [], ◌∷◌, ◌++◌, length, subst, sym, ap, ◌∙◌, ℤ}
use Rattle.std.proofs.lemmas.List.{append-nil}
use Rattle.line_format.specs.Numeral.{numbers_text}
use Rattle.cert_stream.specs.Forms.{numbers_of}
use Rattle.cert_stream.specs.LineParts.{Accepts}
use Rattle.cert_stream.proofs.Unfit.{unfit_number, unfit_whole}
use Rattle.cert_stream.proofs.line.LinePart.take.Goals as goal

pub returns-then-not-keep-clause-becomes : goal.returns-then-not-keep-clause-becomes
returns-then-not-keep-clause-becomes c = λ bytes part.
    let (space, (z, kept, spelled, on)) = c.in-Field.ensures part.numbers bytes part.partway in
    let other = subst (Accepts c.args.form part.numbers z c.keep.new.out c.keep.new.self) c.if-not-keep.true
    (c.keep.ensures.accepts part.numbers z part.keeps part.begins kept) in
    unfit_number c.args.word.now (numbers_of c.args.form) part.numbers bytes c.args.byte z space spelled other

pub returns-then-not-keep-2-clause-becomes : goal.returns-then-not-keep-2-clause-becomes
returns-then-not-keep-2-clause-becomes c = λ bytes part.
    let (feed, (z, kept, spelled)) = c.in-Last.ensures part.numbers bytes part.partway in
    let other = subst (Accepts c.args.form part.numbers z c.keep-in-Last.new.out c.keep-in-Last.new.self) c.if-not-keep-2.true
    (c.keep-in-Last.ensures.accepts part.numbers z part.keeps part.begins kept) in
    unfit_whole c.args.word.now (numbers_of c.args.form) (part.numbers ++ z ∷ []) bytes c.args.byte feed spelled (λ fit. other [] fit)

pub returns-then-not-is_whole-clause-becomes : goal.returns-then-not-is_whole-clause-becomes
returns-then-not-is_whole-clause-becomes c = λ bytes part.
    let (feed, (z, kept, spelled)) = c.in-Last.ensures part.numbers bytes part.partway in
    let accepted = subst (Accepts c.args.form part.numbers z c.keep-in-Last.new.out c.keep-in-Last.new.self) c.if-not-keep-2.false
    (c.keep-in-Last.ensures.accepts part.numbers z part.keeps part.begins kept) in
    unfit_whole c.args.word.now (numbers_of c.args.form) (part.numbers ++ z ∷ []) bytes c.args.byte feed spelled
    (λ fit. let whole = (c.is_whole.ensures (part.numbers ++ z ∷ []) accepted.0.many accepted.1).1 fit in cc (whole, c.if-not-is_whole.true))

pub returns-then-not-is_whole-2-clause-becomes : goal.returns-then-not-is_whole-2-clause-becomes
returns-then-not-is_whole-2-clause-becomes c = λ bytes part.
    let (feed, none, is) = c.in-Bare.ensures part.numbers bytes part.partway in
    let spelled : bytes ≡ c.args.word.now ++ numbers_text part.numbers = is ∙ sym (append-nil c.args.word.now)
    ∙ ap (λ (ns : List ℤ). c.args.word.now ++ numbers_text ns) (sym none) in
    unfit_whole c.args.word.now (numbers_of c.args.form) part.numbers bytes c.args.byte feed spelled
    (λ fit. let whole = (c.is_whole-in-Bare.ensures part.numbers (ap (λ (ns : List ℤ). length ns) none) part.begins).1 fit in
    cc (whole, c.if-not-is_whole-2.true))
