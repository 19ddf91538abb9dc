-- One package more, by the lemmas on sums.
use Rattle.std.proofs.Common.{◌≡◌, ◌∙◌, ◌+◌, ◌*◌, ◌≤◌, ℕ, List, length, map, take, drop, ◌++◌, ap, sym, subst, arith, rules}
use Rattle.std.specs.Prelude.{All, replicate}
use Rattle.std.proofs.lemmas.List.{length-replicate}
use Rattle.std.proofs.lemmas.List.Elements.{All-replicate}
use Rattle.auction_model.specs.Package.{together}
use Rattle.clock_stage.specs.Kept.{IsHeld}
use Rattle.clock_stage.proofs.Demands.{added-most, length-together, sum_more, written, zeros-replicate}
use Rattle.clock_stage.proofs.demand.demand_of.Goals as goal

pub loop-package-init : goal.loop-package-init
loop-package-init c =
    let zeros : c.in_ok-demand.demand.items ≡ replicate (length c.args.supply.now) 0 = search rules in
    record {
      sum = zeros ∙ sym (zeros-replicate c.args.supply.now);
      most = subst (λ (d : List ℕ). All (λ n. n ≤ 0) d) (sym zeros) (All-replicate (λ n. n ≤ 0) (length c.args.supply.now) 0 (omega arith));
      count = ap length zeros ∙ length-replicate (length c.args.supply.now) 0;
    }

pub loop-package-preserved : goal.loop-package-preserved
loop-package-preserved c =
    let demand : List ℕ = c.loop-package.demand.items in
    let k : ℕ = c.loop-package.package-index in
    let held : IsHeld (length c.args.supply.now) c.package-item.result = subst (IsHeld (length c.args.supply.now)) (sym c.package-item.is)
    (c.requires.packages k c.package-item.result c.loop-package-test.true) in
    let count : length c.package-item.result ≡ length demand = held.count ∙ sym c.loop-package.invariant.count in
    let sums : c.add_package.new.sum ≡ together demand c.package-item.result = c.add_package.ensures
    ∙ ap (λ (d : List ℕ). together d c.package-item.result) c.deref_mut.ensures.value in
    let all : take c.loop-package.demand.len (c.add_package.new.sum ++ drop (length c.add_package.new.sum) demand) ≡ together demand c.package-item.result
    = written c.loop-package.demand.len c.add_package.new.sum demand c.loop-package.demand.ok.0
    (ap length sums ∙ length-together demand c.package-item.result count) ∙ sums in
    record {
      sum = all ∙ ap (λ (d : List ℕ). together d c.package-item.result) c.loop-package.invariant.sum
          ∙ sym (sum_more (map {A = ℕ} {B = ℕ} (λ n. 0) c.args.supply.now) c.args.held.now k c.package-item.result c.loop-package-test.true c.package-item.is);
      most = subst (λ (d : List ℕ). All (λ n. n ≤ 40 * (k + 1)) d) (sym all) (added-most demand c.package-item.result k count held.few
          c.loop-package.invariant.most);
      count = ap length all ∙ length-together demand c.package-item.result count ∙ c.loop-package.invariant.count;
    }
