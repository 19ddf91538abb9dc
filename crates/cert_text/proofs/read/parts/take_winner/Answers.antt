use Rattle.std.proofs.Common.{◌≡◌, ℕ, [], ◌∷◌, subst, arith, to_z, codes, IfOk, IfErr}
use Rattle.std.specs.Prelude.{ℤ, pos}
use Rattle.std.specs.Int.{w128}
use Rattle.std.proofs.lemmas.Int.{ints}
use Rattle.cert_grammar.specs.Lines.{kind, these}
use Rattle.cert_grammar.specs.CertText.{line}
use Rattle.cert_text.specs.Readers.{Leads, Halts}
use Rattle.cert_text.proofs.read.parts.take_winner.Goals as goal

pub returns-clause-leads : goal.returns-clause-leads
returns-clause-leads c =
    let same : to_z w128 c.args.winner ≡ pos c.args.winner = omega (arith, ints, c.ranges.winner.fits) in
    subst (λ (z : ℤ). IfOk c.take_these.result (λ (next : ℕ). Leads c.args.bytes.now c.args.place (kind (codes "without") (these (z ∷ [])) ∷ []) next []
    (line (codes "without") (z ∷ []) ∷ []))) same c.take_these.ensures.leads

pub returns-clause-halts : goal.returns-clause-halts
returns-clause-halts c =
    let same : to_z w128 c.args.winner ≡ pos c.args.winner = omega (arith, ints, c.ranges.winner.fits) in
    subst (λ (z : ℤ). IfErr c.take_these.result (Halts c.args.bytes.now c.args.place (kind (codes "without") (these (z ∷ [])) ∷ []))) same
    c.take_these.ensures.halts
