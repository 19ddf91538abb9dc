use Rattle.std.proofs.Common.{◌≡◌, true, false, sym, ◌∙◌}
use Rattle.award_file.specs.Stated.{is_name}
use Rattle.award_file.proofs.FieldLaws.{same-test, name-passes, name-fails}
use Rattle.award_file.proofs.read.fields.name_at.Goals as goal

pub returns-then-is_name : goal.returns-then-is_name
returns-then-is_name c =
    let tested = same-test c.is_name.result c.as_bytes.result.now c.is_name.ensures in
    let passes : is_name c.in-Some.text.now ≡ true = rw c.as_bytes.ensures.value at (sym tested ∙ c.if-is_name.true) in
    rw (← c.in-Some.ensures) (sym (name-passes c.in-Some.text.now passes))

pub returns-else-is_name : goal.returns-else-is_name
returns-else-is_name c =
    let tested = same-test c.is_name.result c.as_bytes.result.now c.is_name.ensures in
    let fails : is_name c.in-Some.text.now ≡ false = rw c.as_bytes.ensures.value at (sym tested ∙ c.if-is_name.false) in
    rw (← c.in-Some.ensures) (sym (name-fails c.in-Some.text.now fails))
