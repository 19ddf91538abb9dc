use Rattle.std.proofs.Common.{refl, sym}
use Rattle.cert_soundness.specs.Tests.{bidders_of}
use Rattle.table_check.proofs.TableLines.{last-obeys}
use Rattle.table_check.proofs.lines.last_line_fault.Goals as goal

pub returns : goal.returns
returns c = λ table is line_is. last-obeys c.args.offers.now table is (bidders_of c.args.offers.now.book.now) c.last_fault.result c.args.line.now refl
    (sym line_is) c.last_fault.ensures
