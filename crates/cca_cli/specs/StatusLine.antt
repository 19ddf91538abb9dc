-- The line that is printed for each status other than Done.
use Rattle.std.specs.Prelude.{ℕ, List, [], ◌∷◌, ◌++◌, codes}
use Rattle.std.specs.Fmt.{decimal}
use Rattle.limits.specs.declared.LimitKind.{LimitKind}
use Rattle.limits.specs.declared.LimitKind.TheVariants.{Bidders, Bids, Bytes, Categories, Lots, Price, Records, Rounds, States, Winners}
use Rattle.cca_cli.specs.declared.status.CertKind.{CertKind}
use Rattle.cca_cli.specs.declared.status.CertKind.TheVariants as certs
use Rattle.cca_cli.specs.declared.status.FileKind.{FileKind}
use Rattle.cca_cli.specs.declared.status.FileKind.TheVariants.{Award, Log, Book, Cert, Weights, Slots, Edits, Out}
use Rattle.cca_cli.specs.declared.status.Status.{Status}
use Rattle.cca_cli.specs.declared.status.Status.TheVariants.{Done, No, Words, Refused, ReadFault, WriteFault, Memory, Limit}

abbrev pub file_text : FileKind → List ℕ
file_text Award = codes "award"
file_text Log = codes "log"
file_text Book = codes "book"
file_text Cert = codes "cert"
file_text Weights = codes "weights"
file_text Slots = codes "slots"
file_text Edits = codes "edits"
file_text Out = codes "out"

abbrev pub limit_text : LimitKind → List ℕ
limit_text Bytes = codes "bytes"
limit_text Categories = codes "categories"
limit_text Lots = codes "lots"
limit_text States = codes "states"
limit_text Bidders = codes "bidders"
limit_text Bids = codes "bids"
limit_text Records = codes "records"
limit_text Rounds = codes "rounds"
limit_text Price = codes "price"
limit_text Winners = codes "winners"

-- only the line of an award has the entry
abbrev pub entry_text : FileKind → ℕ → List ℕ
entry_text Award entry = 32 ∷ decimal entry
entry_text file entry = []

-- the letter of the tests of a certificate
abbrev pub test_text : CertKind → List ℕ
test_text certs.Book = codes "C"
test_text certs.Placement = codes "P"

abbrev pub status_line : Status → List ℕ
status_line Done = []
status_line (No kind test place) = codes "no " ++ test_text kind ++ decimal test ++ 32 ∷ decimal place ++ codes "\n"
status_line Words = codes "cca: words\n"
status_line (Refused file place entry) = codes "cca: refused " ++ file_text file ++ 32 ∷ decimal place ++ entry_text file entry ++ codes "\n"
status_line (ReadFault file) = codes "cca: read fault " ++ file_text file ++ codes "\n"
status_line (WriteFault file) = codes "cca: write fault " ++ file_text file ++ codes "\n"
status_line Memory = codes "cca: memory\n"
status_line (Limit which count) = codes "cca: limit " ++ limit_text which ++ 32 ∷ decimal count ++ codes "\n"
