use Rattle.std.specs.Prelude.{codes}
use Rattle.big_auction.specs.AwardText.{category_text}
use Rattle.big_auction.specs.MadeAward.{category_with}
use Rattle.big_auction.proofs.Pieces.{categories}
use Rattle.big_auction.proofs.award.add_categories.Goals as goal

pub returns : goal.returns
returns c =
    categories c.args.text.now c.add_category.new.text c.add_category-2.new.text c.add_category-3.new.text c.add_category-4.new.text
    (category_text (category_with (codes "a") 4 10 1000)) (category_text (category_with (codes "b") 1 10 1500))
    (category_text (category_with (codes "c") 14 1 100)) (category_text (category_with (codes "e") 9 1 10))
    c.in_ok-add_category.ensures c.in_ok-add_category-2.ensures c.in_ok-add_category-3.ensures c.in_ok-add_category-4.ensures
