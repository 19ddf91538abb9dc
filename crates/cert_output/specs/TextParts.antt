-- The bytes of a text that is kept as parts.
use Rattle.std.specs.Prelude.{ℕ, List, [], ◌∷◌, ◌++◌}
use Rattle.std.specs.List.{AllByRecursion}
use Rattle.cert_grammar.specs.CertText.{table_lines}
use Rattle.cert_text.specs.Written.{bytes_of, IsTableInRange}
use Rattle.cert_output.specs.declared.part.Part.{Part}
use Rattle.cert_output.specs.declared.part.Part.TheVariants.{Bytes, Lines}

abbrev pub part_bytes : Part → List ℕ
part_bytes (Bytes text) = text
part_bytes (Lines table) = bytes_of (table_lines table)

-- the bytes of all parts, one after another
abbrev pub all_bytes : List Part → List ℕ
all_bytes [] = []
all_bytes (p ∷ ps) = part_bytes p ++ all_bytes ps

-- the numbers of a table are in range
abbrev pub IsWritable : Part → Type 0
IsWritable (Bytes text) = Unit {0}
IsWritable (Lines table) = IsTableInRange table

abbrev pub AreWritable : List Part → Type 0
AreWritable parts = AllByRecursion IsWritable parts
