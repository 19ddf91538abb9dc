-- What files in memory over buffers of a fixed length mean.
use Rattle.std.specs.Prelude.{true, Some, List, string_bytes}
use Rattle.cca_base.specs.Buffers.{held, left}
use Rattle.cca_base.specs.Entries.{Seen, folder_of}
use Rattle.cca_base.specs.Files.{Folder}
use Rattle.cca_base.specs.declared.memory.clean_file.CleanFile.{CleanFile}

abbrev pub clean_seen : CleanFile → Seen
clean_seen f = record {
  name = string_bytes f.name;
  file = Some (held f.buffer);
  load_faults = f.load_faults;
  append_faults = f.append_faults;
  room = Some (left f.buffer);
}

abbrev pub clean_folder : List CleanFile → Folder
clean_folder files = folder_of clean_seen true files
