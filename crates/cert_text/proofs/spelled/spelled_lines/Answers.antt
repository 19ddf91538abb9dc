use Rattle.std.proofs.Common.{◌∙◌, ap, arith, map, rules}
use Rattle.std.proofs.lemmas.List.{take_all}
use Rattle.cert_text.specs.Written.{line_bytes}
use Rattle.cert_text.proofs.SpelledLaws.{spelled-more}
use Rattle.cert_text.proofs.spelled.spelled_lines.Goals as goal

pub loop-i-preserved : goal.loop-i-preserved
loop-i-preserved c =
    spelled-more c.args.table.now c.loop-i.i c.loop-i.lines.items c.push.new.self.items _ (omega (arith, c.lines-i-end.ensures)) c.loop-i.invariant
    c.in_ok-spelled.ensures (search rules)

pub returns : goal.returns
returns c = c.loop-i.invariant ∙ ap (map line_bytes) (take_all c.loop-i.i c.args.table.now (omega (arith, c.lines-i-end.ensures)))
