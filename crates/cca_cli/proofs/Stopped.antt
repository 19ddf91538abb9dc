-- What the stops of the readers say of the bytes.
use Rattle.std.proofs.Common.{inl, inr, ◌≡◌, ◌⊎◌, ℕ, List, length, refl, sym, ap}
use Rattle.line_format.specs.LineText.{Says, beyond, faulty}
use Rattle.auction_model.specs.Book.{Book as BookValue}
use Rattle.book_grammar.specs.BookForm.{IsBook}
use Rattle.book_grammar.specs.BookLines.{book_lines}
use Rattle.limits.specs.declared.LimitKind.{LimitKind}
use Rattle.bid_book.specs.declared.BookStop.{BookStop}
use Rattle.bid_book.specs.declared.BookStop.TheVariants as book
use Rattle.cert_text.specs.declared.stop.CertStop.{CertStop}
use Rattle.cert_text.specs.declared.stop.CertStop.TheVariants as cert
use Rattle.auction_rules.specs.Terms.{Terms}
use Rattle.weights_file.specs.WeightsForm.{WeightsSay}
use Rattle.weights_file.specs.declared.WeightStop.{WeightStop}
use Rattle.weights_file.specs.declared.WeightStop.TheVariants as weights
use Rattle.award_file.specs.Reading as award_reading
use Rattle.award_file.specs.declared.read.AwardStop.{AwardStop}
use Rattle.award_file.specs.declared.read.AwardStop.TheVariants as award
use Rattle.log_file.specs.LogReading as log_reading
use Rattle.log_file.specs.declared.LogStop.{LogStop}
use Rattle.log_file.specs.declared.LogStop.TheVariants as log
use Rattle.slot_places.specs.SlotForm.{IsSlotText, slot_lines}
use Rattle.slot_places.specs.declared.SlotStop.{SlotStop}
use Rattle.slot_places.specs.declared.SlotStop.TheVariants as slots
use Rattle.placement_cert.specs.CertValues.{PlaceStopsAt}
use Rattle.edits_file.specs.EditsForm.{EditsSay}
use Rattle.edits_file.specs.declared.EditStop.{EditStop}
use Rattle.edits_file.specs.declared.EditStop.TheVariants as edits
use Rattle.cca_cli.specs.Answers.{AwardAnswers, BookAnswers, EditsAnswers, LogAnswers, PlaceCertAnswers, SlotsAnswers, WeightsAnswers, award_answer}
use Rattle.cca_cli.specs.Outcome.{stops}
use Rattle.cca_cli.specs.Reading.{IsStop}
use Rattle.cca_cli.specs.Stops.{award_status, book_status, cert_status, edit_status, log_status, slot_status, weight_status}
use Rattle.cca_cli.specs.declared.status.Status.TheVariants.{Memory}

-- the stop of a book is out of memory, or what its bytes answer
pub book-stop : (bytes : List ℕ) (stop : BookStop)
    → ((place : ℕ) → stop ≡ book.Form place → Says IsBook book_lines bytes (faulty place))
    → ((kind : LimitKind) (count : ℕ) → stop ≡ book.Limit kind count → Says IsBook book_lines bytes (beyond (kind, count)))
    → (book_status stop ≡ Memory) ⊎ (IsStop (book_status stop) × BookAnswers bytes (stops (book_status stop)))
book-stop bytes (book.Form place) form limit = inr (tt, (faulty place, form place refl, refl))
book-stop bytes (book.Limit kind count) form limit = inr (tt, (beyond (kind, count), limit kind count refl, refl))
book-stop bytes book.Memory form limit = inl refl

-- the stop of an award is out of memory, or what its bytes answer
pub award-stop : (bytes : List ℕ) (stop : AwardStop) → award_reading.IsStop (award_reading.reading bytes) stop
    → (award_status stop ≡ Memory) ⊎ (IsStop (award_status stop) × AwardAnswers bytes (stops (award_status stop)))
award-stop bytes award.Text is = inr (tt, (sym (ap award_answer is), tt))
award-stop bytes (award.Field number entry) is = inr (tt, (sym (ap award_answer is), tt))
award-stop bytes (award.Limit kind count) is = inr (tt, (sym (ap award_answer is), tt))
award-stop bytes award.Memory is = inl refl

-- the stop of a log is out of memory, or what its bytes answer
pub log-stop : (terms : Terms) (bytes : List ℕ) (stop : LogStop) → log_reading.IsStop terms (log_reading.log_records bytes) stop
    → (log_status stop ≡ Memory) ⊎ (IsStop (log_status stop) × LogAnswers terms bytes (stops (log_status stop)))
log-stop terms bytes (log.Form number) is = inr (tt, inl (number, is, refl))
log-stop terms bytes (log.Limit kind count) is = inr (tt, inr (is.0, cc (is.1, is.2)))
log-stop terms bytes log.Memory is = inl refl

-- the stop of weights is out of memory, or what their bytes answer
pub weights-stop : (b : BookValue) (bytes : List ℕ) (stop : WeightStop) → ((place : ℕ) → stop ≡ weights.Form place → WeightsSay b bytes (faulty place))
    → (weight_status stop ≡ Memory) ⊎ (IsStop (weight_status stop) × WeightsAnswers b bytes (stops (weight_status stop)))
weights-stop b bytes (weights.Form place) form = inr (tt, (faulty place, form place refl, refl))
weights-stop b bytes weights.Memory form = inl refl

-- the stop of slots is out of memory, or what their bytes answer
pub slots-stop : (bytes : List ℕ) (stop : SlotStop)
    → ((place : ℕ) → stop ≡ slots.Form place → Says IsSlotText slot_lines bytes (faulty place))
    → ((kind : LimitKind) (count : ℕ) → stop ≡ slots.Limit kind count → Says IsSlotText slot_lines bytes (beyond (kind, count)))
    → (slot_status stop ≡ Memory) ⊎ (IsStop (slot_status stop) × SlotsAnswers bytes (stops (slot_status stop)))
slots-stop bytes (slots.Form place) form limit = inr (tt, (faulty place, form place refl, refl))
slots-stop bytes (slots.Limit kind count) form limit = inr (tt, (beyond (kind, count), limit kind count refl, refl))
slots-stop bytes slots.Memory form limit = inl refl

-- the stop of a certificate of a placement is out of memory, or what its bytes answer
pub place-stop : (bidders : ℕ) (bytes : List ℕ) (stop : CertStop) → PlaceStopsAt bidders bytes stop
    → (cert_status stop ≡ Memory) ⊎ (IsStop (cert_status stop) × PlaceCertAnswers bidders bytes (stops (cert_status stop)))
place-stop bidders bytes (cert.Form place) says = inr (tt, (faulty place, says, refl))
place-stop bidders bytes (cert.Range place) says = inr (tt, (beyond place, says, refl))
place-stop bidders bytes cert.Memory says = inl refl

-- the stop of edits is out of memory, or what their bytes answer
pub edits-stop : (b : BookValue) (bytes : List ℕ) (stop : EditStop)
    → ((place : ℕ) → stop ≡ edits.Form place → EditsSay (length b.supply) bytes (faulty place))
    → ((kind : LimitKind) (count : ℕ) → stop ≡ edits.Limit kind count → EditsSay (length b.supply) bytes (beyond (kind, count)))
    → (edit_status stop ≡ Memory) ⊎ (IsStop (edit_status stop) × EditsAnswers b bytes (stops (edit_status stop)))
edits-stop b bytes (edits.Form place) form limit = inr (tt, (faulty place, form place refl, refl))
edits-stop b bytes (edits.Limit kind count) form limit = inr (tt, (beyond (kind, count), limit kind count refl, refl))
edits-stop b bytes edits.Memory form limit = inl refl
