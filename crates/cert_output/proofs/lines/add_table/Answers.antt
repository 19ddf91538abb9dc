use Rattle.std.proofs.Common.{◌<◌, ◌+◌, [], List, ℤ, drop, take, get_or, length, ap, arith}
use Rattle.std.proofs.lemmas.List.{drop_all}
use Rattle.cert_grammar.specs.CertText.{table_lines}
use Rattle.cert_text.specs.Written.{bytes_of, line_bytes}
use Rattle.cert_output.proofs.LinePieces.{lines-split}
use Rattle.cert_output.proofs.Waiting.{so-far-begins, so-far-ends, so-far-goes-on, so-far-stops}
use Rattle.cert_output.proofs.lines.add_table.Goals as goal

pub loop-k-init : goal.loop-k-init
loop-k-init g c = so-far-begins c.args.name.now (g.F.Files.folder c.args.files.now) c.args.room.now c.args.begun (bytes_of (table_lines c.args.table.now))
    c.requires.known c.requires.waiting

pub add_line-requires-clause-known : goal.add_line-requires-clause-known
add_line-requires-clause-known g c = c.loop-k.invariant.known

pub add_line-requires-clause-waiting : goal.add_line-requires-clause-waiting
add_line-requires-clause-waiting g c = c.loop-k.invariant.within

pub loop-k-preserved : goal.loop-k-preserved
loop-k-preserved g c =
    let table = c.args.table.now in
    let inside : c.loop-k.k < length table = omega (arith, c.loop-k-test.true, c.lines-k-end.ensures) in
    so-far-goes-on c.args.name.now (g.F.Files.folder c.args.files.now) (g.F.Files.folder c.loop-k.files) (take c.args.begun c.args.room.now) c.loop-k.room c.loop-k.waiting
    (bytes_of (table_lines (drop c.loop-k.k table))) (bytes_of (table_lines table)) (g.F.Files.folder c.add_line.new.files) c.add_line.new.room c.in-Ok.now (line_bytes (get_or table c.loop-k.k []))
    (bytes_of (table_lines (drop (c.loop-k.k + 1) table)))
    (lines-split table c.loop-k.k inside) c.loop-k.invariant (rw c.line.ensures at c.in-Ok.ensures)

pub returns-in-Err : goal.returns-in-Err
returns-in-Err g c =
    let table = c.args.table.now in
    let inside : c.loop-k.k < length table = omega (arith, c.loop-k-test.true, c.lines-k-end.ensures) in
    so-far-stops c.args.name.now (g.F.Files.folder c.args.files.now) (g.F.Files.folder c.loop-k.files) (take c.args.begun c.args.room.now) c.loop-k.room c.loop-k.waiting
    (bytes_of (table_lines (drop c.loop-k.k table))) (bytes_of (table_lines table)) (g.F.Files.folder c.add_line.new.files) (line_bytes (get_or table c.loop-k.k []))
    (bytes_of (table_lines (drop (c.loop-k.k + 1) table))) (lines-split table c.loop-k.k inside) c.loop-k.invariant
    (rw c.line.ensures at c.in-Err.ensures)

pub returns : goal.returns
returns g c =
    so-far-ends c.args.name.now (g.F.Files.folder c.args.files.now) (g.F.Files.folder c.loop-k.files) (take c.args.begun c.args.room.now) c.loop-k.room c.loop-k.waiting
    (bytes_of (table_lines (drop c.loop-k.k c.args.table.now))) (bytes_of (table_lines c.args.table.now))
    (ap (λ (l : List (List ℤ)). bytes_of (table_lines l))
    (drop_all c.loop-k.k c.args.table.now (omega (arith, c.loop-k-test.false, c.lines-k-end.ensures)))) c.loop-k.invariant
