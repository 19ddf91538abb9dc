use Rattle.far_num.proofs.MembersLaws.{IsAtEntry}
use Rattle.far_num.proofs.arithmetic.dot01.Given as goal

abbrev pub invariant-loop-entry : goal.invariant-loop-entry
invariant-loop-entry l = IsAtEntry l.members l.list l.entry-index l.sum l.left
