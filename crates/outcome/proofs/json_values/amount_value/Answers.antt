use Rattle.std.proofs.Common.{rules, ◌≡◌, ◌∙◌, ap, ℤ, arith, FitsSigned, to_z, of_z}
use Rattle.std.specs.Int.{w64, w128}
use Rattle.std.proofs.lemmas.Int.{ints, to_z-of_z}
use Rattle.print_grammar.specs.Json.{amount_json}
use Rattle.outcome.proofs.json_values.amount_value.Goals as goal

pub returns : goal.returns
returns c =
    let wide : FitsSigned w128 c.args.amount = search rules in
    let fits : FitsSigned w64 c.args.amount = omega (arith, ints, c.requires) in
    let same : to_z w64 (of_z w64 (to_z w128 (of_z w128 c.args.amount))) ≡ c.args.amount = ap (λ (x : ℤ). to_z w64 (of_z w64 x))
    (to_z-of_z w128 c.args.amount wide) ∙ to_z-of_z w64 c.args.amount fits in
    c.from.ensures ∙ ap amount_json same
