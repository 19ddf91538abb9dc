use Rattle.std.proofs.Common.{◌≡◌, refl, sym, ◌∙◌, arith}
use Rattle.std.specs.Ordering.{nat_cmp, is_lt}
use Rattle.std.proofs.lemmas.Cmp.{same_from_slice_cmp_tested}
use Rattle.std.proofs.lemmas.Bool.Decides.{nat_tests}
use Rattle.bid_book.proofs.PackageOrder.{is_before, before_comes, comes_before}
use Rattle.bid_book.proofs.read.entries.comes_before.Goals as goal

pub returns : goal.returns
returns c =
    let by = same_from_slice_cmp_tested nat_cmp is_lt is_before refl (λ _ _. refl) (λ _ _. refl) (λ x y xs ys o h. grind (arith, nat_tests)) in
    let is : c.lt.result ≡ is_before c.args.earlier.now c.args.later.now = by c.args.earlier.now c.args.later.now c.lt.result c.lt.ensures in
    (λ yes. before_comes c.args.earlier.now c.args.later.now c.requires (sym is ∙ yes), λ comes. is ∙ comes_before c.args.earlier.now c.args.later.now comes)
