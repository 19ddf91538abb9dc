use Rattle.std.proofs.Common.{[], ◌+◌, length, take, arith}
use Rattle.cert_output.proofs.Joined.{known-on, some-longer}
use Rattle.cert_output.proofs.Waiting.{passes-all, passes-none, takes-both}
use Rattle.cert_output.proofs.outbox.add_bytes.Goals as goal

pub returns-then-bytes-room : goal.returns-then-bytes-room
returns-then-bytes-room g c = (
  omega arith,
  passes-none c.args.name.now (g.F.Files.folder c.args.files.now) (take c.args.waiting c.args.room.now)
      (take (c.args.waiting + length c.args.bytes.now) c.put_at.new.room) c.args.bytes.now c.put_at.ensures.front,
)

pub add_first-requires : goal.add_first-requires
add_first-requires g c =
    known-on c.args.name.now (g.F.Files.folder c.args.files.now) (g.F.Files.folder c.append_front.new.files) (take c.args.waiting c.args.room.now)
    c.in-Ok.ensures.whole c.requires.known

pub returns-in-Ok : goal.returns-in-Ok
returns-in-Ok g c =
    takes-both c.args.name.now (g.F.Files.folder c.args.files.now) (g.F.Files.folder c.append_front.new.files) (g.F.Files.folder c.add_first.new.files)
    (take c.args.waiting c.args.room.now) [] [] c.args.bytes.now c.add_first.new.room c.add_first.result
    (passes-all c.args.name.now (g.F.Files.folder c.args.files.now) (g.F.Files.folder c.append_front.new.files)
    (take c.args.waiting c.args.room.now) c.in-Ok.ensures.whole) c.add_first.ensures

pub returns-in-Err : goal.returns-in-Err
returns-in-Err g c =
    some-longer c.args.name.now (g.F.Files.folder c.args.files.now) (g.F.Files.folder c.append_front.new.files) (take c.args.waiting c.args.room.now)
    c.args.bytes.now c.in-Err.ensures.part
