use Rattle.std.proofs.Common.{arith}
use Rattle.cca_base.proofs.Entries.{place_within, place_is}
use Rattle.cca_base.proofs.named.place_of.Goals as goal

pub returns-clause-within : goal.returns-clause-within
returns-clause-within g c =
    let is = place_is _ c.args.files.now c.position_of.result c.unwrap_or.result c.requires c.position_of.ensures c.unwrap_or.ensures in
    omega (arith, is, place_within _ c.args.files.now c.requires)

pub returns-clause-first : goal.returns-clause-first
returns-clause-first g c =
    place_is _ c.args.files.now c.position_of.result c.unwrap_or.result c.requires c.position_of.ensures c.unwrap_or.ensures
