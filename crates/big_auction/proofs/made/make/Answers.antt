use Rattle.std.proofs.Common.{◌≡◌, ◌++◌, ◌∙◌, ℕ, List, ap, length, map, sym}
use Rattle.std.proofs.lemmas.List.{length-map}
use Rattle.auction_rules.specs.Rounds.{prices_after}
use Rattle.big_auction.specs.declared.values.Lots.{Lots}
use Rattle.big_auction.specs.LogText.{log_text}
use Rattle.big_auction.specs.MadeAward.{made_terms}
use Rattle.big_auction.specs.Parts.{counts_of, figures_of, full_rounds_for, held_from, last_bids_for, packages_from, sealed_for}
use Rattle.big_auction.proofs.MadeLines.{log-made, log-length}
use Rattle.big_auction.proofs.made.make.Goals as goal

pub returns-clause-log : goal.returns-clause-log
returns-clause-log c =
    let items : List Lots = c.in_ok-packages.packages.items in
    let s0 : ℕ = c.new-draws.result.state in
    let s : ℕ = c.draw_packages.new.draws.state in
    let pack : map counts_of items ≡ packages_from s0 12 = c.in_ok-packages.ensures.packages in
    let twelve : length items ≡ 12 = sym (length-map items counts_of) ∙ ap (λ (ps : List (List ℕ)). length ps) pack in
    let price : figures_of c.in_ok-prices.prices ≡ prices_after made_terms (held_from (map counts_of items)) 9 =
    c.in_ok-prices.ensures.prices ∙ ap (λ (xs : List Lots). prices_after made_terms (held_from (map counts_of xs)) 9) c.deref.ensures.value in
    log-made c.args.number s0 s (length items) (map counts_of items) (figures_of c.in_ok-prices.prices) c.new-log.result c.add_full_rounds.new.text
    c.add_last_bids.new.text c.add_close.new.text
    c.add_sealed_lines.new.text c.add_close-2.new.text c.new-draws.ensures pack price c.in_ok-packages.ensures.state twelve c.new-log.ensures
    (c.in_ok-add_full_rounds.ensures ∙ ap (λ (xs : List Lots). c.new-log.result ++ log_text (full_rounds_for (map counts_of xs) 9)) c.deref-2.ensures.value)
    (c.in_ok-add_last_bids.ensures ∙ ap (λ (xs : List Lots). c.add_full_rounds.new.text ++ log_text (last_bids_for (map counts_of xs) 4))
    c.deref-3.ensures.value)
    c.in_ok-add_close.ensures
    (c.in_ok-add_sealed_lines.ensures ∙ ap (λ (xs : List Lots). c.add_close.new.text
    ++ log_text (sealed_for s (figures_of c.in_ok-prices.prices) (map counts_of xs) (length xs))) c.deref-4.ensures.value)
    c.in_ok-add_close-2.ensures

pub returns-clause-lines : goal.returns-clause-lines
returns-clause-lines c = log-length c.args.number

pub returns-clause-auction : goal.returns-clause-auction
returns-clause-auction c = record {
  lawful = c.lawful_award.ensures;
  stated = c.stated_award.ensures;
  read = c.stated_log.ensures c.args.number;
  answered = c.answered_log.ensures.answered c.args.number;
  complete = c.answered_log.ensures.complete c.args.number;
  few = c.few_winners.ensures c.args.number;
}
