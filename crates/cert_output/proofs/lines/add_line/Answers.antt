use Rattle.std.proofs.Common.{◌∷◌, [], ◌++◌, take}
use Rattle.choices.specs.LentLines.{numbers_of}
use Rattle.line_format.specs.Numeral.{numbers_text}
use Rattle.cert_output.proofs.Joined.{known-on}
use Rattle.cert_output.proofs.Waiting.{stops-longer, takes-both}
use Rattle.cert_output.proofs.lines.add_line.Goals as goal

pub add_fields-requires-clause-known : goal.add_fields-requires-clause-known
add_fields-requires-clause-known g c =
    known-on c.args.name.now (g.F.Files.folder c.args.files.now) (g.F.Files.folder c.add_bytes.new.files) c.in-Ok.ensures.1.sent
    c.in-Ok.ensures.1.adds c.requires.known

pub returns-in-Ok : goal.returns-in-Ok
returns-in-Ok g c =
    takes-both c.args.name.now (g.F.Files.folder c.args.files.now) (g.F.Files.folder c.add_bytes.new.files) (g.F.Files.folder c.add_fields.new.files)
    (take c.args.waiting c.args.room.now) (take c.in-Ok.now c.add_bytes.new.room) (116 ∷ []) (numbers_text (numbers_of c.args.numbers) ++ 10 ∷ [])
    c.add_fields.new.room c.add_fields.result c.in-Ok.ensures.1 c.add_fields.ensures

pub returns-in-Err : goal.returns-in-Err
returns-in-Err g c =
    stops-longer c.args.name.now (g.F.Files.folder c.args.files.now) (g.F.Files.folder c.add_bytes.new.files) (take c.args.waiting c.args.room.now)
    (116 ∷ []) (numbers_text (numbers_of c.args.numbers) ++ 10 ∷ []) c.in-Err.ensures
