use Rattle.std.proofs.Common.{rules, ◌≡◌, Some, get_or, sym, ap, ◌∙◌}
use Rattle.std.specs.Option.{option_and_then}
use Rattle.cca_base.specs.Buffers.{held}
use Rattle.cca_base.specs.CleanFiles.{clean_seen}
use Rattle.cca_base.specs.declared.memory.clean_file.CleanFile.{CleanFile}
use Rattle.cca_base.proofs.Entries.{entry_here}
use Rattle.cca_base.proofs.Folders.{name_by}
use Rattle.cca_base.proofs.memory.clean_file.bytes_of.Goals as goal

pub returns : goal.returns
returns c =
    let is : c.held.result.now ≡ held (get_or c.args.files.now c.place_of.result c.index-files-place_of.result).buffer = search rules in
    let here = entry_here (name_by clean_seen) c.args.files.now c.args.name.now c.place_of.result c.index-files-place_of.result c.requires
    c.place_of.ensures.first in
    ap (option_and_then (λ (f : CleanFile). Some (held f.buffer))) here ∙ ap Some (sym is)
