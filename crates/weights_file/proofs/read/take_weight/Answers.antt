use Rattle.std.proofs.Common.{rules, [], ◌∷◌, ◌++◌, refl}
use Rattle.weights_file.specs.declared.read.Stage.TheVariants.{Listing}
use Rattle.weights_file.proofs.read.take_weight.Goals as goal

pub returns-in_err-push-clause-memory : goal.returns-in_err-push-clause-memory
returns-in_err-push-clause-memory c = λ memory.
    let found = c.in-Some.ensures.found in
    (Listing (c.args.weights ++ c.in-Some.weight ∷ []), (search rules, (c.in-Some.weight, found.0, search rules, refl)))
