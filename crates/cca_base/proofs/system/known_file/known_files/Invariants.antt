use Rattle.std.proofs.Common.{◌≡◌, All, take, string_bytes, String, Global}
use Rattle.cca_base.specs.declared.system.known_file.KnownFile.{KnownFile}
use Rattle.cca_base.proofs.Entries.{AreNames}
use Rattle.cca_base.proofs.system.known_file.known_files.Given as goal

abbrev pub invariant-loop-name : goal.invariant-loop-name
invariant-loop-name l = record {
  names : AreNames (λ (f : KnownFile). string_bytes f.name) (λ (s : String Global). string_bytes s) l.files.items (take l.name-index l.names);
  fresh : All (λ (f : KnownFile). (f.load_faults ≡ 0) × (f.append_faults ≡ 0)) l.files.items;
}
