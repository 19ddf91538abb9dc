-- What is known of how the lines of a table grow.
use Rattle.std.specs.Prelude.{◌≡◌, ℕ, suc, Bool, IsTrue, [], slice_index_or}
use Rattle.auction_model.specs.Book.{Book}
use Rattle.table_check.specs.Growth.{Grows}
use Rattle.cert_grammar.specs.Certificate.{CertValue}
use Rattle.cert_stream.specs.declared.due.NextLine.{NextLine}
use Rattle.cert_stream.specs.declared.due.NextLine.TheVariants.{Entries}
use Rattle.cert_stream.specs.declared.due.Table.{Table}
use Rattle.cert_stream.specs.LinesLeft.{table_in}

-- if this says so, the line of the table before the one that is due never falls where more is left
abbrev pub IsGrown : Book → CertValue → NextLine → Bool → Type 0
IsGrown book c due grows = IsTrue grows → (table : Table) (k : ℕ) → due ≡ Entries table (suc k) → Grows book.supply (slice_index_or (table_in c table) k [])
