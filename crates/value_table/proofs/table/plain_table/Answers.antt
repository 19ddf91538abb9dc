use Rattle.std.proofs.Common.{◌∙◌, ap, ℤ, pos, List, get_or}
use Rattle.value_table.proofs.Plain.{plain-range}
use Rattle.value_table.proofs.table.plain_table.Goals as goal

pub build-requires-clause-range : goal.build-requires-clause-range
build-requires-clause-range c =
    rw c.deref.ensures.value (plain-range c.args.book.now 0 c.in_ok-surplus.surplus.items c.bidders.ensures.kept c.in_ok-surplus.ensures.zeros)

pub returns-clause-plain : goal.returns-clause-plain
returns-clause-plain c =
    let made = c.in_ok-table.ensures.made in
    record {
      skip = made.0;
      den = made.1;
      zeros = λ k. ap (λ (l : List ℤ). get_or l k (pos 0)) (made.2 ∙ c.deref.ensures.value) ∙ c.in_ok-surplus.ensures.zeros k;
    }
