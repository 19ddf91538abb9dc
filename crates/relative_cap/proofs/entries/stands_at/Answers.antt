-- The same counts are the same package.
use Rattle.std.proofs.Common.{[], sym, ◌∙◌}
use Rattle.std.proofs.lemmas.List.{get_or-map}
use Rattle.std.specs.Prelude.{slice_index_or}
use Rattle.auction_model.proofs.PackageTestLaws.{is_same-true}
use Rattle.relative_cap.specs.Tested.{tested_lots}
use Rattle.relative_cap.proofs.entries.stands_at.Goals as goal

pub returns-then-place-entries : goal.returns-then-place-entries
returns-then-place-entries c = λ same. (
  c.if-place-entries.true,
  get_or-map tested_lots c.args.entries.now c.args.place c.index-entries-place.result [] c.if-place-entries.true
      ∙ is_same-true (slice_index_or c.args.entries.now c.args.place c.index-entries-place.result).bid.«package» c.args.«package».now
      (sym c.is_same.ensures ∙ same),
)
