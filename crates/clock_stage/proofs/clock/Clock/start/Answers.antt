-- Round 1 is posted at the reserves.
use Rattle.std.proofs.Common.{◌≡◌, ◌∙◌, ℕ, List, [], ap, sym, subst, length, rules}
use Rattle.std.specs.Prelude.{replicate, true}
use Rattle.auction_rules.specs.Terms.{entrant, no_lots}
use Rattle.auction_rules.specs.State.{Round}
use Rattle.auction_rules.specs.Rounds.{listing}
use Rattle.auction_rules.proofs.States.{length-listing}
use Rattle.award_file.specs.Award.{IsAward}
use Rattle.clock_stage.specs.ClockState.{clock_with, round_with}
use Rattle.clock_stage.specs.Kept.{IsClock}
use Rattle.clock_stage.proofs.KeptLaws.{start-kept}
use Rattle.clock_stage.proofs.ClockLaws.{start-stands}
use Rattle.clock_stage.proofs.clock.Clock.start.Goals as goal

-- the fields hold what round 1 posts
posted : (c : goal.After-new) → clock_with true c.new.result (round_with c.in_ok-from_slice.field-0.items c.in_ok-first_eligibility.field-0.items
    c.in_ok-empty_packages.field-0.items)
    ≡ clock_with true [] (round_with c.args.award.now.reserves (listing (λ j. (entrant c.args.award.now j).eligibility) (length c.args.award.now.bidders))
    (replicate (length c.args.award.now.bidders) (no_lots c.args.award.now)))
posted c =
    let prices : c.in_ok-from_slice.field-0.items ≡ c.args.award.now.reserves = search rules in
    let eligibility : c.in_ok-first_eligibility.field-0.items ≡ listing (λ j. (entrant c.args.award.now j).eligibility) (length c.args.award.now.bidders) =
    search rules in
    let held : c.in_ok-empty_packages.field-0.items ≡ replicate (length c.args.award.now.bidders) (no_lots c.args.award.now) = search rules in
    ap (λ (rounds : List Round). clock_with true rounds (round_with c.in_ok-from_slice.field-0.items c.in_ok-first_eligibility.field-0.items
    c.in_ok-empty_packages.field-0.items)) c.new.ensures
    ∙ ap (λ (ps : List ℕ). clock_with true [] (round_with ps c.in_ok-first_eligibility.field-0.items c.in_ok-empty_packages.field-0.items)) prices
    ∙ ap (λ (es : List ℕ). clock_with true [] (round_with c.args.award.now.reserves es c.in_ok-empty_packages.field-0.items)) eligibility
    ∙ ap (λ (hs : List (List ℕ)). clock_with true [] (round_with c.args.award.now.reserves
    (listing (λ j. (entrant c.args.award.now j).eligibility) (length c.args.award.now.bidders)) hs)) held

pub invariant_of-result : goal.invariant_of-result
invariant_of-result c =
    let award : IsAward c.args.award.now = c.reserves.ensures.kept in
    subst IsClock (sym (posted c)) (start-kept c.args.award.now (listing (λ j. (entrant c.args.award.now j).eligibility) (length c.args.award.now.bidders))
    award (length-listing (λ j. (entrant c.args.award.now j).eligibility) (length c.args.award.now.bidders)))

pub returns-clause-clock : goal.returns-clause-clock
returns-clause-clock c = posted c ∙ start-stands c.args.award.now
