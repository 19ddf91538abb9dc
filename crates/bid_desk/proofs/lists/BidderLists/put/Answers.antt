-- What is known of the lists once an entry is put.
use Rattle.std.proofs.Common.{◌∙◌, ℕ, Option, Ok, ap, map}
use Rattle.relative_cap.specs.OwnRounds.{bid_value}
use Rattle.bid_desk.proofs.lists.BidderLists.put.Goals as goal

pub invariant_of-self-2 : goal.invariant_of-self-2
invariant_of-self-2 c =
    c.with_amount-self-inside.ensures (map bid_value c.self.inside.drafts.items) (map bid_value c.put_entry.new.list.items)
    (map bid_value c.self.inside.submitted.items) c.self.invariant
    (λ at is. (c.args.amount, c.put_entry.ensures.set at (c.in_ok-place.was ∙ ap (λ (p : Option ℕ). Ok p) is)))
