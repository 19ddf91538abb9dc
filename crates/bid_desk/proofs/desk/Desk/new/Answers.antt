-- No line has been taken.
use Rattle.std.proofs.Common.{false, refl, length}
use Rattle.std.proofs.lemmas.Bool.{false≢true}
use Rattle.bid_desk.specs.DeskValue.{desk_value}
use Rattle.bid_desk.proofs.DeskLaws.{reached-start, start-state}
use Rattle.bid_desk.proofs.TesterLaws.{testers-start}
use Rattle.bid_desk.proofs.desk.Desk.new.Goals as goal

pub invariant_of-result : goal.invariant_of-result
invariant_of-result c =
    let s = c.in_ok-start in (
      s.ensures.award,
      reached-start c.args.award (desk_value c.args.award s.start.clock false s.start.bidders.items) refl
          (start-state c.args.award s.start.clock (length c.args.award.bidders) s.start.bidders.items s.ensures.clock refl s.ensures.bidders),
      testers-start c.args.award s.start.clock (length c.args.award.bidders) s.start.testers.items refl s.ensures.testers,
      λ closed. absurd (false≢true closed),
    )

pub returns : goal.returns
returns c =
    let s = c.in_ok-start in
    start-state c.args.award s.start.clock (length c.args.award.bidders) s.start.bidders.items s.ensures.clock refl s.ensures.bidders
