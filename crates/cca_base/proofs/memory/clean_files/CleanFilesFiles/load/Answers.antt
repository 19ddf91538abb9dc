use Rattle.std.proofs.Common.{◌≡◌, ◌≤◌, length, Some, refl, rules}
use Rattle.cca_base.specs.Files.{Stands}
use Rattle.cca_base.specs.CleanFiles.{clean_folder}
use Rattle.cca_base.proofs.Given.{front_stands, is_file, keeps_given}
use Rattle.cca_base.proofs.memory.clean_files.CleanFilesFiles.load.Goals as goal

pub returns-clause-kept : goal.returns-clause-kept
returns-clause-kept c =
    let file = c.bytes_of.result.now in
    let buf = c.copy_from-n.new.buf in
    let n = c.copy_from-n.result in
    let here : (clean_folder c.args.self.now.files.items).file c.args.name.now ≡ Some file = search rules in
    let le : n ≤ length buf = search rules in
    let stands : Stands file c.args.at (length buf) buf n = search rules in
    keeps_given _ _ _ refl refl refl refl refl c.with-self.ensures (λ tells. is_file _ _ file here (front_stands file buf _ _ n le stands))
