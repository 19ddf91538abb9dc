-- The entry in the middle decides, since the list is in order.
use Rattle.std.proofs.Common.{◌≡◌, ℕ, ◌+◌, ◌-◌, ◌/◌, ◌<◌, true, false, List, length, sym, ap, ◌∙◌, arith}
use Rattle.auction_model.specs.PackageTests.{is_before}
use Rattle.relative_cap.specs.Place.{lots_at}
use Rattle.relative_cap.proofs.PlaceLaws.{before-more, behind-more, lots-read}
use Rattle.relative_cap.proofs.amounts.place_of.Goals as goal

pub loop-low-preserved-then-is_before : goal.loop-low-preserved-then-is_before
loop-low-preserved-then-is_before c =
    let middle : ℕ = c.loop-low.low + (c.loop-low.high - c.loop-low.low) / 2 in
    let inside : middle < length c.args.list.now = omega (arith, c.loop-low-test.true, c.loop-low.invariant.high) in
    let own : is_before (lots_at c.args.list.now middle) c.args.«package».now ≡ true
    = ap (λ (p : List ℕ). is_before p c.args.«package».now) (lots-read c.args.list.now middle c.index-list-middle.result inside) ∙ sym c.is_before.ensures
    ∙ c.if-is_before.true in
    record {
      low = omega (arith, c.loop-low-test.true);
      high = c.loop-low.invariant.high;
      before = before-more c.args.list.now c.args.«package».now middle c.requires.order inside own;
      behind = c.loop-low.invariant.behind;
    }

pub loop-low-preserved : goal.loop-low-preserved
loop-low-preserved c =
    let middle : ℕ = c.loop-low.low + (c.loop-low.high - c.loop-low.low) / 2 in
    let inside : middle < length c.args.list.now = omega (arith, c.loop-low-test.true, c.loop-low.invariant.high) in
    let own : is_before (lots_at c.args.list.now middle) c.args.«package».now ≡ false
    = ap (λ (p : List ℕ). is_before p c.args.«package».now) (lots-read c.args.list.now middle c.index-list-middle.result inside) ∙ sym c.is_before.ensures
    ∙ c.if-is_before.false in
    record {
      low = omega arith;
      high = omega (arith, inside);
      before = c.loop-low.invariant.before;
      behind = behind-more c.args.list.now c.args.«package».now middle c.requires.order own;
    }
