use Rattle.std.proofs.Common.{inr, Some, ◌≤◌, ◌<◌, ◌++◌, ◌∷◌, [], ◌∙◌, ap, arith, length, refl}
use Rattle.bid_book.proofs.StopLaws.{one_limit}
use Rattle.limits.specs.declared.LimitKind.TheVariants.{Records}
use Rattle.edits_file.specs.declared.read.Stage.TheVariants.{Listing}
use Rattle.edits_file.proofs.Reading.{few_edits, many_edits}
use Rattle.edits_file.proofs.read.take_listed.Goals as goal

pub returns-then-is_full-clause-limit : goal.returns-then-is_full-clause-limit
returns-then-is_full-clause-limit c = λ kind count err.
    let many : 1000 ≤ length c.args.edits = c.is_full.ensures.0 c.if-is_full.true in
    let told = one_limit (Records, 1001) (kind, count) err in
    let found = c.in-Some.ensures.found in (
      Listing (c.args.edits ++ c.in-Some.edit ∷ []),
      inr (record { named = found.0; edit = c.in-Some.edit; states = found.1; next_is = refl }),
      many_edits c.args.edits c.in-Some.edit many ∙ ap Some told,
    )

pub returns-in_err-push-clause-memory : goal.returns-in_err-push-clause-memory
returns-in_err-push-clause-memory c = λ memory.
    let few : length c.args.edits < 1000 = grind (arith, c.is_full.ensures, c.if-is_full.false) in
    let found = c.in-Some.ensures.found in (
      Listing (c.args.edits ++ c.in-Some.edit ∷ []),
      inr (record { named = found.0; edit = c.in-Some.edit; states = found.1; next_is = refl }),
      few_edits c.args.edits c.in-Some.edit few,
    )
