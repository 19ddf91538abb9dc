use Rattle.std.proofs.Common.{◌≡◌, ◌∙◌, ℕ, List, sym, ap, subst, take}
use Rattle.std.specs.Prelude.{IsTrue, ◌↔◌}
use Rattle.auction_model.specs.Book.{market_of}
use Rattle.auction_model.specs.Market.{number_of}
use Rattle.cert_grammar.specs.Certificate.{part_of}
use Rattle.std.proofs.lemmas.Bool.{false≢true}
use Rattle.stream_check.proofs.PartCome.{part-there, part-kept, part-named, choice-shows}
use Rattle.stream_check.proofs.judging.parts.part_choice.Goals as goal

pub choice_in-choice-requires-clause-due : goal.choice_in-choice-requires-clause-due
choice_in-choice-requires-clause-due c = part-named c.args.at.now c.requires.some.0 c.requires.some.1 c.args.j c.requires.due

pub choice_in-choice-requires-clause-choice : goal.choice_in-choice-requires-clause-choice
choice_in-choice-requires-clause-choice c =
    let cert = c.requires.some.0 in
    let is = c.requires.some.1 in
    ((part_of cert.withouts c.args.j).choice, part-there c.args.at.now cert is c.args.j c.requires.due, part-kept c.args.at.now cert is c.args.j c.requires.due)

pub returns : goal.returns
returns c = λ cert next is follows. (
  let at = c.args.at.now in
      let choice_is = c.as_slice.ensures ∙ c.choice_in-choice.ensures.choice
      (part_of cert.withouts c.args.j).choice (part-there c.args.at.now cert is c.args.j c.requires.due) in
      choice-shows c.args.at.now cert is c.args.j c.requires.due next c.part_found.result.failed c.part_found.result.late c.is_allowed_without.result follows
      (subst (λ (l : List ℕ). IsTrue c.is_allowed_without.result ↔ (IsTrue ((market_of at.book.now).allowed l) × (number_of l c.args.j ≡ 0))) choice_is
      c.is_allowed_without.ensures)
      c.part_found.ensures.holds c.part_found.ensures.fails,
  λ seen. absurd (false≢true (sym c.part_found.ensures.grows ∙ seen)),
)
