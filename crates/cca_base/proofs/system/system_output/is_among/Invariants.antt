use Rattle.std.proofs.Common.{List, map, string_bytes}
use Rattle.std.specs.Vec.Iter.{into_iter_items}
use Rattle.cca_base.specs.Barred.{AreOthers}
use Rattle.cca_base.specs.Made.{Made}
use Rattle.cca_base.proofs.system.system_output.is_among.Given as goal

abbrev pub invariant-loop-word : goal.invariant-loop-word
invariant-loop-word g l = (end : List Made) → AreOthers l.file (map string_bytes (into_iter_items l.word-iterator)) (g.S.SystemCalls.made l.system) end
    → AreOthers l.file (map string_bytes (into_iter_items l.fn.words)) (g.S.SystemCalls.made l.initial.system) end
