use Rattle.std.proofs.Common.{length, ◌-◌, ◌≡◌, ◌≤◌}
use Rattle.limits.specs.declared.TheConstants.{CERT_BYTES}
use Rattle.cert_soundness.specs.Tests.{bidders_of, states}
use Rattle.cert_stream.specs.Rooms.{room_size}
use Rattle.cca_base.specs.Files.{KeepsFiles}
use Rattle.cca_commands.proofs.Feeding.{IsFedSoFar}
use Rattle.cca_commands.proofs.checked.feed_file.Given as goal

abbrev pub invariant-loop-checker : goal.invariant-loop-checker
invariant-loop-checker g l = record {
  within : l.at ≤ CERT_BYTES;
  room : length l.room ≡ room_size (bidders_of l.book) (states l.book);
  fed : IsFedSoFar l.book l.weights l.name (g.F.Files.folder l.initial.files) (g.F.Files.folder l.files) l.room l.checker l.at;
  kept : KeepsFiles (g.F.Files.folder l.initial.files) (g.F.Files.folder l.files);
  quiet : (g.F.Files.folder l.files).load_faults ≡ (g.F.Files.folder l.initial.files).load_faults;
  appends : (g.F.Files.folder l.files).append_faults ≡ (g.F.Files.folder l.initial.files).append_faults;
}

abbrev pub decreases-loop-checker : goal.decreases-loop-checker
decreases-loop-checker g l = CERT_BYTES - l.at
