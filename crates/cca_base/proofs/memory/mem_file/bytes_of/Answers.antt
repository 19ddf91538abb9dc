use Rattle.std.proofs.Common.{ℕ, Some, sym, ap, ◌∙◌, Vec, Global}
use Rattle.std.specs.Option.{option_map, option_and_then}
use Rattle.cca_base.specs.MemFiles.{bytes_in, mem_seen}
use Rattle.cca_base.specs.declared.memory.mem_file.MemFile.{MemFile}
use Rattle.cca_base.proofs.Entries.{entry_here}
use Rattle.cca_base.proofs.Folders.{name_by}
use Rattle.cca_base.proofs.memory.mem_file.bytes_of.Goals as goal

pub returns-in-Some : goal.returns-in-Some
returns-in-Some c =
    let here = entry_here (name_by mem_seen) c.args.files.now c.args.name.now c.place_of.result c.index-files-place_of.result c.requires
    c.place_of.ensures.first in
    ap Some c.as_slice.ensures.value ∙ sym (ap (option_map (λ (v : Vec ℕ Global). v.items)) c.in-Some.is)
    ∙ sym (ap (option_and_then (λ (f : MemFile). bytes_in f.bytes)) here)

pub returns-in-None : goal.returns-in-None
returns-in-None c =
    let here = entry_here (name_by mem_seen) c.args.files.now c.args.name.now c.place_of.result c.index-files-place_of.result c.requires
    c.place_of.ensures.first in
    sym (ap (option_map (λ (v : Vec ℕ Global). v.items)) c.in-None.is) ∙ sym (ap (option_and_then (λ (f : MemFile). bytes_in f.bytes)) here)
