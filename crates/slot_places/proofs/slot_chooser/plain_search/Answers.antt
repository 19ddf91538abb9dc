use Rattle.std.proofs.Common.{◌∙◌, ap, get_or, pos, ℤ, List, length}
use Rattle.slot_places.proofs.PlainSearch.{range-plain, value-plain, first-plain, table-plain}
use Rattle.slot_places.proofs.slot_chooser.plain_search.Goals as goal

pub invariant_of-search : goal.invariant_of-search
invariant_of-search c = record {
  bidders = ap length c.deref.ensures.value ∙ c.in_ok-surplus.ensures.count ∙ c.bidders.ensures.bidders;
  range = range-plain c.args.slots.now c.args.skip c.deref.result.now c.bidders.ensures.kept
      (λ k. ap (λ (l : List ℤ). get_or l k (pos 0)) c.deref.ensures.value ∙ c.in_ok-surplus.ensures.zeros k);
}

pub returns-clause-choice : goal.returns-clause-choice
returns-clause-choice c =
    first-plain c.args.slots.now c.args.skip c.deref.result.now (λ k. ap (λ (l : List ℤ). get_or l k (pos 0)) c.deref.ensures.value
    ∙ c.in_ok-surplus.ensures.zeros k) c.in_ok-found.found.choice c.in_ok-found.ensures.choice

pub returns-clause-sum : goal.returns-clause-sum
returns-clause-sum c =
    c.in_ok-found.ensures.sum
    ∙ value-plain c.args.slots.now c.args.skip c.deref.result.now (λ k. ap (λ (l : List ℤ). get_or l k (pos 0)) c.deref.ensures.value
    ∙ c.in_ok-surplus.ensures.zeros k) c.in_ok-found.found.choice

pub returns-clause-table : goal.returns-clause-table
returns-clause-table c =
    table-plain c.args.slots.now c.args.skip c.deref.result.now (λ k. ap (λ (l : List ℤ). get_or l k (pos 0)) c.deref.ensures.value
    ∙ c.in_ok-surplus.ensures.zeros k) c.in_ok-found.found.table c.in_ok-found.ensures.table
