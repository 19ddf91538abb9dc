use Rattle.cca_run.proofs.LogBooks.{lawful-log}
use Rattle.cca_run.proofs.OneLog.{one_log-answer}
use Rattle.cca_run.proofs.OneOutcome.{one-outcome}
use Rattle.cca_run.proofs.OnePlacing.{one-place, one-place_check}
use Rattle.cca_run.proofs.laws.one_outcome.Goals as goal

pub returns : goal.returns
returns c = λ words file o p.
    let one_log = one_log-answer c.one_reading.ensures.log c.one_reading.ensures.fault c.one_reading.ensures.no_fault c.one_reading.ensures.not_many
    c.one_reading.ensures.few_before in
    let lawful = lawful-log c.book_of_award.ensures c.packages_of_log.ensures c.book_market.ensures in
    let placed = one-place c.one_slots.ensures.one c.one_place_cert.ensures c.one_place_verdict.ensures.one c.one_place_verdict.ensures.not_both
    c.sound_places.ensures c.one_pricing.ensures c.slot_market.ensures
    c.vickrey_prices.ensures.one c.one_run_text.ensures.lines c.one_place_text.ensures in
    let tested = one-place_check c.one_slots.ensures.one c.one_place_cert.ensures c.one_place_verdict.ensures.one c.one_place_verdict.ensures.not_both
    c.sound_places.ensures c.one_pricing.ensures c.slot_market.ensures
    c.vickrey_prices.ensures.one c.one_run_text.ensures.lines c.one_place_text.ensures in
    one-outcome c.one_book.ensures lawful c.one_weighing.ensures one_log c.one_cert.ensures c.one_verdict.ensures.one c.one_verdict.ensures.not_both
    c.sound_yes.ensures c.winning_choice.ensures.one c.book_market.ensures
    c.vickrey_prices.ensures.one c.core_outcome.ensures.one c.one_price_text.ensures c.one_run_text.ensures.lines c.one_outcome_json.ensures.plain
    c.one_outcome_json.ensures.rounds placed tested c.one_edits.ensures c.one_review_text.ensures words file o p
