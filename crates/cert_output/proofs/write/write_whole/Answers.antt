use Rattle.std.proofs.Common.{◌≡◌, ◌∙◌}
use Rattle.cert_output.proofs.write.write_whole.Goals as goal

pub returns-in-Some-clause-whole : goal.returns-in-Some-clause-whole
returns-in-Some-clause-whole g c =
    let same : c.items.result.now ≡ c.args.text.now = c.items.ensures ∙ c.in-Some.ensures ∙ c.parts.ensures.whole in
    rw same at c.append.ensures.whole

pub returns-in-Some-clause-part : goal.returns-in-Some-clause-part
returns-in-Some-clause-part g c =
    let same : c.items.result.now ≡ c.args.text.now = c.items.ensures ∙ c.in-Some.ensures ∙ c.parts.ensures.whole in
    rw same at c.append.ensures.part

pub returns-in-None-clause-whole : goal.returns-in-None-clause-whole
returns-in-None-clause-whole g c = rw c.parts-in-None.ensures.whole at c.write_with_room.ensures.whole

pub returns-in-None-clause-part : goal.returns-in-None-clause-part
returns-in-None-clause-part g c = rw c.parts-in-None.ensures.whole at c.write_with_room.ensures.part
