use Rattle.std.proofs.Common.{take}
use Rattle.std.proofs.lemmas.Result.{on_err_weaker, on_ok_weaker}
use Rattle.cert_output.specs.TextParts.{all_bytes}
use Rattle.cert_output.proofs.Joined.{known-on}
use Rattle.cert_output.proofs.Waiting.{sent-all, sent-some}
use Rattle.cert_output.proofs.write.write_through.Goals as goal

pub append_front-requires-clause-known : goal.append_front-requires-clause-known
append_front-requires-clause-known g c =
    known-on c.args.name.now (g.F.Files.folder c.args.files.now) (g.F.Files.folder c.add_parts.new.files) c.in-Ok.ensures.1.sent
    c.in-Ok.ensures.1.adds c.requires.known

pub returns-in-Ok-clause-whole : goal.returns-in-Ok-clause-whole
returns-in-Ok-clause-whole g c =
    on_ok_weaker c.append_front.result
    (sent-all c.args.name.now (g.F.Files.folder c.args.files.now) (g.F.Files.folder c.add_parts.new.files)
    (g.F.Files.folder c.append_front.new.files) (take c.in-Ok.waiting c.add_parts.new.room) (all_bytes c.args.parts.now) c.in-Ok.ensures.1)
    c.append_front.ensures.whole

pub returns-in-Ok-clause-part : goal.returns-in-Ok-clause-part
returns-in-Ok-clause-part g c =
    on_err_weaker c.append_front.result
    (sent-some c.args.name.now (g.F.Files.folder c.args.files.now) (g.F.Files.folder c.add_parts.new.files)
    (g.F.Files.folder c.append_front.new.files) (take c.in-Ok.waiting c.add_parts.new.room) (all_bytes c.args.parts.now) c.in-Ok.ensures.1)
    c.append_front.ensures.part
