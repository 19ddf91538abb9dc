use Rattle.std.proofs.Common.{◌≡◌, ◌∙◌, ap, refl, ℕ, ℤ, pos, true, List, length, get_or}
use Rattle.auction_model.specs.Book.{menu_of, net_of}
use Rattle.value_table.specs.Turned.{in_order, worths_in_order}
use Rattle.value_table.proofs.SideLaws.{table-plain, turned-range}
use Rattle.value_table.proofs.sides.reversed_lines.Goals as goal

pub invariant_of-lowered : goal.invariant_of-lowered
invariant_of-lowered c =
    rw c.deref.ensures.value (record {
      bidders = c.in_ok-surplus.ensures.count ∙ c.bidders.ensures.bidders;
      range = turned-range c.args.book.now c.in_ok-surplus.surplus.items c.bidders.ensures.kept c.in_ok-surplus.ensures.zeros;
    })

pub returns : goal.returns
returns c =
    let book = c.args.book.now in
    let zeros : (k : ℕ) → get_or c.deref.result.now k (pos 0) ≡ pos 0 = λ k. ap (λ (l : List ℤ). get_or l k (pos 0)) c.deref.ensures.value
    ∙ c.in_ok-surplus.ensures.zeros k in
    record {
      exact = table-plain (in_order true (menu_of book)) (worths_in_order true (length book.bidders) (net_of book)) c.deref.result.now book.supply
          c.in_ok-lines.lines (λ j. refl) zeros c.in_ok-lines.ensures;
    }
