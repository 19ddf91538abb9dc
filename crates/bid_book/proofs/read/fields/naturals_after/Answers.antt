use Rattle.std.proofs.Common.{◌≡◌, ℕ, List, ◌++◌, Some, None, sym, ap, ◌∙◌}
use Rattle.std.proofs.lemmas.Bool.Decides.{Decides-eqb}
use Rattle.std.proofs.lemmas.Slice.Eq.{strip_prefix_is}
use Rattle.std.proofs.lemmas.Result.{IfOk-weaker}
use Rattle.std.proofs.lemmas.List.{append_cancel_left}
use Rattle.line_format.specs.Decimals.{decimals_text}
use Rattle.bid_book.proofs.read.fields.naturals_after.Goals as goal

pub returns-in-Some-clause-ok : goal.returns-in-Some-clause-ok
returns-in-Some-clause-ok c =
    let is : c.args.line.now ≡ c.args.word.now ++ c.in-Some.fields.now = strip_prefix_is Decides-eqb c.args.line.now c.args.word.now
    (Some c.in-Some.fields) c.in-Some.ensures.cases in
    IfOk-weaker c.read_naturals.result _ _ (λ v ok. (ok.0, is ∙ ap (λ (l : List ℕ). c.args.word.now ++ l) ok.1)) c.read_naturals.ensures.ok

pub returns-in-Some-clause-form : goal.returns-in-Some-clause-form
returns-in-Some-clause-form c =
    let is : c.args.line.now ≡ c.args.word.now ++ c.in-Some.fields.now = strip_prefix_is Decides-eqb c.args.line.now c.args.word.now
    (Some c.in-Some.fields) c.in-Some.ensures.cases in
    λ err ns small spelled. c.read_naturals.ensures.form err ns small (append_cancel_left c.args.word.now c.in-Some.fields.now (decimals_text ns)
    (sym is ∙ spelled))

pub returns-in-None-clause-form : goal.returns-in-None-clause-form
returns-in-None-clause-form c =
    let other = strip_prefix_is Decides-eqb c.args.line.now c.args.word.now None c.in-None.ensures.cases in
    λ err ns small spelled. other (decimals_text ns) spelled
