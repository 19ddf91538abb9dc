use Rattle.std.proofs.Common.{arith, pos, []}
use Rattle.cert_check.specs.Fields.{cert_of}
use Rattle.cert_check.proofs.PlaceLaws.{known-before, fits-C2}
use Rattle.cert_check.proofs.choice.choice_holds.Goals as goal

pub are_within-requires : goal.are_within-requires
are_within-requires c = known-before c.args.book.now (cert_of (pos 0) c.args.claimed c.args.choice.now [] [] []) c.args.place c.requires.count
    (omega (arith, c.bidders-bidders.ensures.bidders)) c.requires.before

pub returns-then-place-bidders-2 : goal.returns-then-place-bidders-2
returns-then-place-bidders-2 c =
    let cert = cert_of (pos 0) c.args.claimed c.args.choice.now [] [] [] in
    let known = known-before c.args.book.now cert c.args.place c.requires.count (omega (arith, c.bidders-bidders.ensures.bidders)) c.requires.before in
    fits-C2 c.args.book.now cert c.args.place c.are_within.result (omega (arith, c.bidders-bidders.ensures.bidders)) known c.are_within.ensures

pub value_among-requires : goal.value_among-requires
value_among-requires c = known-before c.args.book.now (cert_of (pos 0) c.args.claimed c.args.choice.now [] [] []) c.args.place c.requires.count
    (omega (arith, c.bidders-bidders.ensures.bidders)) c.requires.before
