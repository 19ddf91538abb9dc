use Rattle.std.proofs.Common.{rules, refl, sym, subst, Some, ◌≡◌, ◌∷◌, [], false, nat_eq, ℕ}
use Rattle.cca_base.specs.Settled.{folder_before}
use Rattle.cca_base.proofs.system.settling.folder_of.Goals as goal

pub returns-then-is_empty : goal.returns-then-is_empty
returns-then-is_empty c =
    let found = c.in-Some.ensures.cases in
    let none : found.0 ≡ 0 = search rules in
    record {
      slash = Some (found.0, found.1);
      found = found.2;
      is = subst (λ (at : ℕ). 47 ∷ [] ≡ folder_before c.args.name.now (Some (at, found.1))) (sym none) refl;
    }

pub returns-else-is_empty : goal.returns-else-is_empty
returns-else-is_empty c =
    let found = c.in-Some.ensures.cases in
    let some : nat_eq found.0 0 ≡ false = search rules in
    record {
      slash = Some (found.0, found.1);
      found = found.2;
      is = rw some found.3;
    }
