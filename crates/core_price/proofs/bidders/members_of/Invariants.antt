use Rattle.std.proofs.Common.{◌≡◌, ℕ, ◌+◌, drop}
use Rattle.core_laws.specs.Winners.{has_bit, has_member, members_of}
use Rattle.core_price.proofs.bidders.members_of.Given as goal

-- the members among the bidders that were passed, and the bits of the others
abbrev pub invariant-loop-k : goal.invariant-loop-k
invariant-loop-k l = record {
  made : l.list ≡ members_of (has_member l.winners l.bits) l.k;
  others : (i : ℕ) → has_bit (drop l.k l.winners) l.rest i ≡ has_bit l.winners l.bits (l.k + i);
}
