use Rattle.std.proofs.Common.{ℕ, List, ◌++◌, ◌∙◌, ap}
use Rattle.std.specs.Prelude.{codes, flat_map}
use Rattle.auction_rules.specs.Rounds.{listing}
use Rattle.big_auction.specs.AwardText.{category_text, entrant_text, made_award_text, number_line, step_text}
use Rattle.big_auction.specs.MadeAward.{made_categories, made_entrant}
use Rattle.big_auction.proofs.Pieces.{award-pieces}
use Rattle.big_auction.proofs.award.award_text.Goals as goal

pub returns : goal.returns
unfolding made_award_text
returns c =
    award-pieces c.add_number_line.new.text c.add_number_line-2.new.text c.add_categories.new.text c.add_entrants.new.text c.add_step.new.text
    c.add_step-2.new.text
    (number_line (codes "version") 1) (number_line (codes "tick") 1) (flat_map category_text made_categories)
    (flat_map entrant_text (listing made_entrant 12)) (step_text (1, 100)) (step_text (5, 200))
    (c.in_ok-add_number_line.ensures ∙ ap (λ (t : List ℕ). t ++ number_line (codes "version") 1) c.new-text.ensures) c.in_ok-add_number_line-2.ensures
    c.in_ok-add_categories.ensures c.in_ok-add_entrants.ensures c.in_ok-add_step.ensures c.in_ok-add_step-2.ensures
