use Rattle.std.proofs.Common.{◌≤◌, ℕ, List, length, sym, ap, subst, ◌∙◌}
use Rattle.std.specs.List.{All}
use Rattle.std.proofs.lemmas.List.Elements.{All-from_recursion}
use Rattle.limits.specs.declared.TheConstants.{MOST_PRICE}
use Rattle.review.proofs.replies.reply_to_add.Goals as goal

pub cost-reserve-requires-clause-categories : goal.cost-reserve-requires-clause-categories
cost-reserve-requires-clause-categories c = ap (λ (l : List ℕ). length l) c.reserves.ensures ∙ c.kept.ensures.reserves ∙ sym c.requires

pub cost-reserve-requires-clause-most : goal.cost-reserve-requires-clause-most
cost-reserve-requires-clause-most c =
    subst (All (λ (n : ℕ). n ≤ MOST_PRICE)) (sym c.reserves.ensures) (All-from_recursion (λ (n : ℕ). n ≤ MOST_PRICE) c.args.book.now.reserves
    c.kept.ensures.rules.form.reserves.each)
