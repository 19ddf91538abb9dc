use Rattle.std.proofs.Common.{arith, refl, rules, subst, sym, []}
use Rattle.std.specs.Prelude.{slice_index_or}
use Rattle.line_format.specs.Numeral.{numbers_text}
use Rattle.line_format.specs.Range.{AllInRange}
use Rattle.line_format.proofs.NumberRuns.{all_added}
use Rattle.cert_text.proofs.SpelledLaws.{copied-piece, range-part, room-kept}
use Rattle.cert_text.proofs.fields.add_table_fields.Goals as goal

pub add_piece-requires-clause-range : goal.add_piece-requires-clause-range
add_piece-requires-clause-range c =
    let ns = slice_index_or c.args.table.now c.args.line [] in
    subst AllInRange (sym c.put_part.ensures) (range-part ns c.loop-done.done _ c.requires.range)

pub loop-done-preserved : goal.loop-done-preserved
loop-done-preserved c =
    let ns = slice_index_or c.args.table.now c.args.line [] in
    record {
      written = copied-piece ns c.put_part.new.to c.loop-done.done c.min-count.result _ _ c.loop-done.text c.add_piece.new.text c.loop-done.invariant.written
          (search rules) c.put_part.ensures c.in_ok-add_piece.ensures;
      within = omega (arith, c.min-count.ensures);
      room = room-kept c.loop-done.room c.put_part.new.to c.min-count.result 32 (omega (arith, c.min-count.ensures)) c.loop-done.invariant.room c.put_part.auto.to;
    }

pub returns : goal.returns
returns c =
    let ns = slice_index_or c.args.table.now c.args.line [] in
    all_added numbers_text ns c.loop-done.done _ c.loop-done.text
    (omega (arith, c.kept.ensures c.args.line c.requires.line, c.width-width.ensures, c.loop-done-test.false)) refl c.loop-done.invariant.written
