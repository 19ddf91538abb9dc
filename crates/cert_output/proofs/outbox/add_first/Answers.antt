use Rattle.std.proofs.Common.{[], length, take, arith, zero-add}
use Rattle.cert_output.proofs.Waiting.{passes-by, passes-none}
use Rattle.cert_output.proofs.outbox.add_first.Goals as goal

pub returns-then-bytes-room : goal.returns-then-bytes-room
returns-then-bytes-room g c = (
  omega arith,
  passes-none c.args.name.now (g.F.Files.folder c.args.files.now) [] (take (length c.args.bytes.now) c.put_at.new.room) c.args.bytes.now
      (rw (zero-add (length c.args.bytes.now)) at c.put_at.ensures.front),
)

pub returns-in-Ok : goal.returns-in-Ok
returns-in-Ok g c = (
  omega arith,
  passes-by c.args.name.now (g.F.Files.folder c.args.files.now) (g.F.Files.folder c.append.new.files) c.args.bytes.now c.in-Ok.ensures.whole,
)
