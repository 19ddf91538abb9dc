use Rattle.std.proofs.Common.{[], ◌∷◌, rules, FitsSigned}
use Rattle.std.specs.Int.{w128}
use Rattle.std.specs.Prelude.{codes}
use Rattle.std.proofs.lemmas.Int.{to_z-of_z}
use Rattle.cert_grammar.specs.Lines.{chosen, kind, members, signed}
use Rattle.cert_grammar.specs.CertText.{as_numbers, line}
use Rattle.cert_text.proofs.PlanSteps.{same_kind}
use Rattle.placement_cert.specs.PlaceReads.{ordered_kinds, ordered_lines}
use Rattle.placement_cert.proofs.ThreePieces.{first_halts, second_halts, third_halts, all_lead}
use Rattle.placement_cert.proofs.read.rows.take_row.Goals as goal

pub returns-in_err-members-clause-halts : goal.returns-in_err-members-clause-halts
returns-in_err-members-clause-halts c =
    let b = c.args.bidders in
    let halts = first_halts c.args.bytes.now c.args.place (kind (codes "row") (members b) ∷ []) (kind (codes "mult") (signed 2) ∷ [])
    (ordered_kinds b (chosen b)) c.in_err-members.field-0.0 c.in_err-members.ensures.halts in
    search rules

pub returns-in_err-pair-clause-halts : goal.returns-in_err-pair-clause-halts
returns-in_err-pair-clause-halts c =
    let b = c.args.bidders in
    let halts = second_halts c.args.bytes.now c.args.place (kind (codes "row") (members b) ∷ []) (kind (codes "mult") (signed 2) ∷ [])
    (ordered_kinds b (chosen b))
    c.in_ok-members.members.next (line (codes "row") (as_numbers c.in_ok-members.members.members) ∷ []) c.in_ok-members.ensures.leads c.in_err-pair.field-0.0
    c.in_err-pair.ensures.halts in
    search rules

pub returns-in_err-read-clause-halts : goal.returns-in_err-read-clause-halts
returns-in_err-read-clause-halts c =
    let b = c.args.bidders in
    let p = c.in_ok-pair.pair in
    let halts = third_halts c.args.bytes.now c.args.place (kind (codes "row") (members b) ∷ []) (kind (codes "mult") (signed 2) ∷ [])
    (ordered_kinds b (chosen b))
    c.in_ok-members.members.next (line (codes "row") (as_numbers c.in_ok-members.members.members) ∷ []) c.in_ok-members.ensures.leads p.next
    (line (codes "mult") (p.first ∷ p.second ∷ []) ∷ []) c.in_ok-pair.ensures.leads
    c.in_err-read.field-0.0 (c.in_err-read.ensures.halts (chosen b) (same_kind (chosen b))) in
    search rules

pub returns-clause-leads : goal.returns-clause-leads
returns-clause-leads c =
    let b = c.args.bidders in
    let p = c.in_ok-pair.pair in
    let f : FitsSigned w128 p.first = search rules in
    let g : FitsSigned w128 p.second = search rules in
    simp to_z-of_z
    (all_lead c.args.bytes.now c.args.place (kind (codes "row") (members b) ∷ []) (kind (codes "mult") (signed 2) ∷ []) (ordered_kinds b (chosen b))
    c.in_ok-members.members.next (line (codes "row") (as_numbers c.in_ok-members.members.members) ∷ []) c.in_ok-members.ensures.leads p.next
    (line (codes "mult") (p.first ∷ p.second ∷ []) ∷ []) c.in_ok-pair.ensures.leads
    c.in_ok-read.read.next (ordered_lines c.in_ok-read.read.order c.in_ok-read.read.choice) (c.in_ok-read.ensures.leads (chosen b) (same_kind (chosen b))))
