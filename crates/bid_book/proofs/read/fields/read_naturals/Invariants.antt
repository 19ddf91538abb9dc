use Rattle.std.proofs.Common.{◌≡◌, ℕ, List, ◌++◌, length}
use Rattle.line_format.specs.Decimals.{decimals_text}
use Rattle.bid_book.specs.Stops.{AreNumbers}
use Rattle.bid_book.proofs.FieldReads.{GoesOn}
use Rattle.bid_book.proofs.read.fields.read_naturals.Given as goal

abbrev pub invariant-loop-rest : goal.invariant-loop-rest
invariant-loop-rest l = record {
  small : AreNumbers l.numbers.items;
  spelled : l.text ≡ decimals_text l.numbers.items ++ l.rest;
  on : (ns : List ℕ) → AreNumbers ns → l.text ≡ decimals_text ns → GoesOn l.numbers.items l.rest ns;
}

abbrev pub decreases-loop-rest : goal.decreases-loop-rest
decreases-loop-rest l = length l.rest
