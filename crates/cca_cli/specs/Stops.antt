-- The status that stands for the stop of a reader.
use Rattle.std.specs.Prelude.{ℕ, ◌+◌}
use Rattle.limits.specs.declared.LimitKind.TheVariants.{Bytes}
use Rattle.cca_base.specs.declared.read.ReadStop.{ReadStop}
use Rattle.cca_base.specs.declared.read.ReadStop.TheVariants as read
use Rattle.bid_book.specs.declared.BookStop.{BookStop}
use Rattle.bid_book.specs.declared.BookStop.TheVariants as book
use Rattle.cert_text.specs.declared.stop.CertStop.{CertStop}
use Rattle.cert_text.specs.declared.stop.CertStop.TheVariants as cert
use Rattle.award_file.specs.declared.read.AwardStop.{AwardStop}
use Rattle.award_file.specs.declared.read.AwardStop.TheVariants as award
use Rattle.log_file.specs.declared.LogStop.{LogStop}
use Rattle.log_file.specs.declared.LogStop.TheVariants as log
use Rattle.weights_file.specs.declared.WeightStop.{WeightStop}
use Rattle.weights_file.specs.declared.WeightStop.TheVariants as weights
use Rattle.slot_places.specs.declared.SlotStop.{SlotStop}
use Rattle.slot_places.specs.declared.SlotStop.TheVariants as slots
use Rattle.edits_file.specs.declared.EditStop.{EditStop}
use Rattle.edits_file.specs.declared.EditStop.TheVariants as edits
use Rattle.cca_cli.specs.declared.status.FileKind.{FileKind}
use Rattle.cca_cli.specs.declared.status.FileKind.TheVariants.{Award, Log, Book, Cert, Weights, Slots, Edits}
use Rattle.cca_cli.specs.declared.status.Status.{Status}
use Rattle.cca_cli.specs.declared.status.Status.TheVariants.{Refused, ReadFault, Memory, Limit}

-- of a file of this kind, which has at most that many bytes
abbrev pub read_status : FileKind → ℕ → ReadStop → Status
read_status kind most read.Fault = ReadFault kind
read_status kind most read.TooLong = Limit Bytes (most + 1)
read_status kind most read.Memory = Memory

abbrev pub book_status : BookStop → Status
book_status (book.Form place) = Refused Book place 0
book_status (book.Limit which count) = Limit which count
book_status book.Memory = Memory

abbrev pub cert_status : CertStop → Status
cert_status (cert.Form place) = Refused Cert place 0
cert_status (cert.Range place) = Refused Cert place 0
cert_status cert.Memory = Memory

-- the place of an award is the number of the field, and its entry the number of the table
abbrev pub award_status : AwardStop → Status
award_status award.Text = Refused Award 0 0
award_status (award.Field number entry) = Refused Award number entry
award_status (award.Limit which count) = Limit which count
award_status award.Memory = Memory

-- the place of a log is the number of the record
abbrev pub log_status : LogStop → Status
log_status (log.Form number) = Refused Log number 0
log_status (log.Limit which count) = Limit which count
log_status log.Memory = Memory

abbrev pub weight_status : WeightStop → Status
weight_status (weights.Form place) = Refused Weights place 0
weight_status weights.Memory = Memory

abbrev pub slot_status : SlotStop → Status
slot_status (slots.Form place) = Refused Slots place 0
slot_status (slots.Limit which count) = Limit which count
slot_status slots.Memory = Memory

abbrev pub edit_status : EditStop → Status
edit_status (edits.Form place) = Refused Edits place 0
edit_status (edits.Limit which count) = Limit which count
edit_status edits.Memory = Memory
