-- What the bytes of each input say.
use Rattle.std.specs.Prelude.{◌≡◌, ◌⊎◌, ℕ, suc, List, length}
use Rattle.limits.specs.declared.LimitKind.TheVariants.{Records}
use Rattle.limits.specs.declared.TheConstants.{MOST_RECORDS}
use Rattle.line_format.specs.LineText.{Said, Says, beyond, faulty, stated}
use Rattle.auction_model.specs.Book.{Book as BookValue}
use Rattle.book_grammar.specs.BookForm.{IsBook}
use Rattle.book_grammar.specs.BookLines.{Excess, book_lines}
use Rattle.auction_rules.specs.Terms.{Terms}
use Rattle.auction_rules.specs.declared.Event.{Event}
use Rattle.award_file.specs.Award.{IsAward}
use Rattle.award_file.specs.Reading as award
use Rattle.log_file.specs.LogReading.{AreLog, AreTooMany, IsFirstFault, log_records}
use Rattle.cert_grammar.specs.Certificate.{CertValue}
use Rattle.cert_grammar.specs.Says.{CertSays}
use Rattle.cert_soundness.specs.Tests.{bidders_of, states}
use Rattle.weights_file.specs.WeightsForm.{WeightsSay}
use Rattle.slot_places.specs.SlotForm.{IsSlotText, slot_lines}
use Rattle.slot_places.specs.Slots.{SlotList}
use Rattle.cert_grammar.specs.PlaceCert.{PlaceCertValue}
use Rattle.placement_cert.specs.PlaceSays.{PlaceCertSays}
use Rattle.edits_file.specs.EditsForm.{EditsSay, NamedEdit, edits_of}
use Rattle.review.specs.declared.edit.Edit.{Edit}
use Rattle.cca_cli.specs.Outcome.{Answer, value, stops}
use Rattle.cca_cli.specs.declared.status.FileKind.TheVariants.{Award, Log, Book, Cert, Weights, Slots, Edits}
use Rattle.cca_cli.specs.declared.status.Status.TheVariants.{Refused, Limit}

-- a faulty line refuses the file, and a quantity above its limit is reported
abbrev pub book_answer : Said BookValue Excess → Answer BookValue
book_answer (stated book) = value book
book_answer (faulty place) = stops (Refused Book place 0)
book_answer (beyond excess) = stops (Limit excess.0 excess.1)

-- what the bytes of a book say
abbrev pub BookAnswers : List ℕ → Answer BookValue → Type 0
BookAnswers bytes answer = (said : Said BookValue Excess) × Says IsBook book_lines bytes said × (answer ≡ book_answer said)

-- a number out of range refuses the file as a faulty line does
abbrev pub cert_answer : Said CertValue ℕ → Answer CertValue
cert_answer (stated c) = value c
cert_answer (faulty place) = stops (Refused Cert place 0)
cert_answer (beyond place) = stops (Refused Cert place 0)

-- what the bytes of a certificate of this book say
abbrev pub CertAnswers : BookValue → List ℕ → Answer CertValue → Type 0
CertAnswers book bytes answer = (said : Said CertValue ℕ) × CertSays (bidders_of book) (states book) bytes said
    × (answer ≡ cert_answer said)

-- a faulty line refuses the file
abbrev pub weights_answer : Said (List ℕ) ⊥ → Answer (List ℕ)
weights_answer (stated weights) = value weights
weights_answer (faulty place) = stops (Refused Weights place 0)
weights_answer (beyond none) = absurd none

-- what the bytes of the weights of this book say
abbrev pub WeightsAnswers : BookValue → List ℕ → Answer (List ℕ) → Type 0
WeightsAnswers book bytes answer = (said : Said (List ℕ) ⊥) × WeightsSay book bytes said
    × (answer ≡ weights_answer said)

-- a broken rule refuses the file by its field and table, a text that isn't TOML refuses it by none, and a quantity above its limit is reported
abbrev pub award_answer : award.Reading → Answer Terms
award_answer award.no_toml = stops (Refused Award 0 0)
award_answer (award.broken number entry) = stops (Refused Award number entry)
award_answer (award.too_many kind count) = stops (Limit kind count)
award_answer (award.stated_terms terms) = value terms

-- a value keeps these rules
abbrev pub Keeps : {V : Type 0} → (V → Type 0) → Answer V → Type 0
Keeps rules (value v) = rules v
Keeps rules (stops status) = Unit {0}

-- what the bytes of an award say; the terms that they state keep the rules of an award
abbrev pub AwardAnswers : List ℕ → Answer Terms → Type 0
AwardAnswers bytes answer = (answer ≡ award_answer (award.reading bytes)) × Keeps IsAward answer

-- What the records of a log of this award say: their events; or the first faulty record refuses the file, or there are more than there
-- may be.
abbrev pub RecordsAnswer : Terms → List (List (List ℕ)) → Answer (List Event) → Type 0
RecordsAnswer terms rows (value events) = AreLog terms rows events
RecordsAnswer terms rows (stops status) =
    ((number : ℕ) × IsFirstFault terms rows number × (status ≡ Refused Log number 0))
    ⊎ (AreTooMany terms rows × (status ≡ Limit Records (suc MOST_RECORDS)))

-- what the bytes of a log of this award say
abbrev pub LogAnswers : Terms → List ℕ → Answer (List Event) → Type 0
LogAnswers terms bytes answer = RecordsAnswer terms (log_records bytes) answer

-- a faulty line refuses the file, and a quantity above its limit is reported
abbrev pub slots_answer : Said SlotList Excess → Answer SlotList
slots_answer (stated slots) = value slots
slots_answer (faulty place) = stops (Refused Slots place 0)
slots_answer (beyond excess) = stops (Limit excess.0 excess.1)

-- what the bytes of slots say
abbrev pub SlotsAnswers : List ℕ → Answer SlotList → Type 0
SlotsAnswers bytes answer = (said : Said SlotList Excess) × Says IsSlotText slot_lines bytes said
    × (answer ≡ slots_answer said)

-- a number out of range refuses the file as a faulty line does
abbrev pub place_cert_answer : Said PlaceCertValue ℕ → Answer PlaceCertValue
place_cert_answer (stated c) = value c
place_cert_answer (faulty place) = stops (Refused Cert place 0)
place_cert_answer (beyond place) = stops (Refused Cert place 0)

-- what the bytes of a certificate of a placement of that many bidders say
abbrev pub PlaceCertAnswers : ℕ → List ℕ → Answer PlaceCertValue → Type 0
PlaceCertAnswers bidders bytes answer = (said : Said PlaceCertValue ℕ) × PlaceCertSays bidders bytes said
    × (answer ≡ place_cert_answer said)

-- the edits that a text states, for the book. A faulty line refuses the file, and too many are reported
abbrev pub edits_answer : BookValue → Said (List NamedEdit) Excess → Answer (List Edit)
edits_answer book (stated edits) = value (edits_of book edits)
edits_answer book (faulty place) = stops (Refused Edits place 0)
edits_answer book (beyond excess) = stops (Limit excess.0 excess.1)

-- what the bytes of edits of this book say
abbrev pub EditsAnswers : BookValue → List ℕ → Answer (List Edit) → Type 0
EditsAnswers book bytes answer = (said : Said (List NamedEdit) Excess) × EditsSay (length book.supply) bytes said
    × (answer ≡ edits_answer book said)
