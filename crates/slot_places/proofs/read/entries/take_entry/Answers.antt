use Rattle.std.proofs.Common.{◌≡◌, ◌++◌, Some, None}
use Rattle.std.specs.Prelude.{codes}
use Rattle.std.proofs.lemmas.Bool.Decides.{Decides-eqb}
use Rattle.std.proofs.lemmas.Slice.Eq.{strip_prefix_is}
use Rattle.slot_places.proofs.EntryLaws.{adds_named, adds_unnamed}
use Rattle.slot_places.proofs.read.entries.take_entry.Goals as goal

pub returns-in-Some-clause-form : goal.returns-in-Some-clause-form
returns-in-Some-clause-form c =
    let is : c.args.line.now ≡ codes "bidder " ++ c.in-Some.fields.now = strip_prefix_is Decides-eqb c.args.line.now (codes "bidder ")
    (Some c.in-Some.fields) c.in-Some.ensures.cases in
    λ err new adds. c.take_bidder.ensures.form err new (adds_named c.args.slots.now new c.args.line.now c.in-Some.fields.now is adds)

pub returns-in-None-clause-form : goal.returns-in-None-clause-form
returns-in-None-clause-form c =
    let other = strip_prefix_is Decides-eqb c.args.line.now (codes "bidder ") None c.in-None.ensures.cases in
    λ err new adds. c.take_place.ensures.form err new (adds_unnamed c.args.slots.now new c.args.line.now other adds)
