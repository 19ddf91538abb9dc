use Rattle.std.proofs.lemmas.Grind.{common_steps}
use Rattle.std.proofs.Common.{◌≡◌, ℕ, ◌-◌, List, length, take, drop, ap, arith, length-drop, Err}
use Rattle.std.proofs.lemmas.List.{take_all}
use Rattle.cert_text.proofs.PlanSteps.{line_missing, line_none}
use Rattle.cert_text.proofs.read.lines.take_line.Goals as goal

tail-whole : (bytes : List ℕ) (place : ℕ) → take (length bytes - place) (drop place bytes) ≡ drop place bytes
tail-whole bytes place = take_all (length bytes - place) (drop place bytes) (omega (arith, length-drop place bytes))

pub returns-in-None-clause-stops : goal.returns-in-None-clause-stops
returns-in-None-clause-stops c = λ n.
    let none = rw (tail-whole c.args.bytes.now c.args.place) at c.in-None.ensures.none in
    line_missing c.args.bytes.now c.args.place c.args.word.now n none

pub returns-in-Err-Form-clause-stops : goal.returns-in-Err-Form-clause-stops
returns-in-Err-Form-clause-stops c = λ n.
    let found = rw (tail-whole c.args.bytes.now c.args.place) at c.in-Some.ensures.found in
    let none = rw (tail-whole c.args.bytes.now c.args.place) at c.in-Err-Form.ensures.form in
    line_none c.args.bytes.now c.args.place c.args.word.now n c.in-Some.len found.0 found.1 (none (ap Err c.in-Err-Form.field-0-is))

pub returns-in-Ok-clause-line : goal.returns-in-Ok-clause-line
returns-in-Ok-clause-line c = grind (arith, common_steps)
