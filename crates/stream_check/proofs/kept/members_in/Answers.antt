use Rattle.std.proofs.Common.{◌≡◌, ◌∙◌, ◌≤◌, ℕ, List, length, take, ap, arith, length-take}
use Rattle.std.specs.Prelude.{ℤ}
use Rattle.cert_soundness.specs.Tests.{bidders_of, states}
use Rattle.cert_stream.specs.LinesLeft.{row_at}
use Rattle.stream_check.proofs.MemberCome.{members-there, members-most, row-whole, segment-few}
use Rattle.stream_check.proofs.RowCome.{take-few}
use Rattle.stream_check.proofs.kept.members_in.Goals as goal

pub of-requires-clause-few : goal.of-requires-clause-few
of-requires-clause-few c =
    let at = c.args.at.now in
    let few : length c.numbers_in-in_room.result.now ≤ bidders_of c.args.at.now.book.now =
    omega (arith, ap (λ (l : List ℤ). length l) c.numbers_in-in_room.ensures, segment-few (bidders_of at.book.now) (states at.book.now) c.args.left at.room.now) in
    omega (arith, length-take c.min-count.result c.numbers_in-in_room.result.now, few, c.kept.ensures.bidders)

pub of-requires-clause-numbers : goal.of-requires-clause-numbers
of-requires-clause-numbers c =
    let at = c.args.at.now in
    let cert = c.requires.some.0 in
    let is = c.requires.some.1 in
    let whole = row-whole c.args.at.now cert is c.args.left c.requires.due in (
      (row_at cert c.args.left).members,
      ap (λ (n : ℕ). take n c.numbers_in-in_room.result.now) c.min-count.ensures ∙ take-few at.members c.numbers_in-in_room.result.now
          ∙ ap (λ (l : List ℤ). take c.args.at.now.members l) c.numbers_in-in_room.ensures ∙ members-there c.args.at.now cert is c.args.left c.requires.due,
      members-most (bidders_of at.book.now) 0 (row_at cert c.args.left).members (omega (arith, c.kept.ensures.bidders)) whole.members,
    )

pub returns : goal.returns
returns c = λ cert is.
    let at = c.args.at.now in
    c.of.ensures (row_at cert c.args.left).members
    (ap (λ (n : ℕ). take n c.numbers_in-in_room.result.now) c.min-count.ensures ∙ take-few at.members c.numbers_in-in_room.result.now
    ∙ ap (λ (l : List ℤ). take c.args.at.now.members l) c.numbers_in-in_room.ensures ∙ members-there c.args.at.now cert is c.args.left c.requires.due)
