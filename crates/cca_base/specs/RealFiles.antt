-- What files of the system mean: their names and counts, but no bytes.
use Rattle.std.specs.Prelude.{ℕ, false, Option, None, List, string_bytes}
use Rattle.cca_base.specs.Entries.{Seen, entry_of, folder_of}
use Rattle.cca_base.specs.Files.{Folder}
use Rattle.cca_base.specs.declared.system.known_file.KnownFile.{KnownFile}

abbrev pub real_seen : KnownFile → Seen
real_seen f = record { name = string_bytes f.name; file = None; load_faults = f.load_faults; append_faults = f.append_faults; room = None }

-- the entry of a name
abbrev pub known : List KnownFile → List ℕ → Option KnownFile
known files name = entry_of real_seen files name

abbrev pub real_folder : List KnownFile → Folder
real_folder files = folder_of real_seen false files
