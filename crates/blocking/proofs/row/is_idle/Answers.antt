use Rattle.std.proofs.Common.{◌≡◌, rules}
use Rattle.std.proofs.lemmas.Int.{to_z-of_z}
use mir.Val.{to_z, of_z}
use mir.Syntax.{w128}
use Rattle.blocking.proofs.Sizes.{low-at}
use Rattle.blocking.proofs.row.is_idle.Goals as goal

pub is_within-requires : goal.is_within-requires
is_within-requires g c =
    let m = g.C.Chooser.market c.args.chooser.now in
    let z = g.C.Chooser.chosen c.args.chooser.now in
    let d : to_z w128 (of_z w128 c.args.den) ≡ c.args.den = to_z-of_z w128 c.args.den (search rules) in
    let r : to_z w128 (of_z w128 c.winner_value-own.result) ≡ c.winner_value-own.result = to_z-of_z w128 c.winner_value-own.result (search rules) in
    let l = low-at m z c.args.den c.args.at.now (g.met.C.Chooser.lawful c.args.chooser.now) (g.met.C.Chooser.winning c.args.chooser.now) c.requires.look
    c.args.k c.requires.bidder in
    rw (d, r, c.winner_value-own.ensures) l
