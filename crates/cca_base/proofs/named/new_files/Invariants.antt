use Rattle.std.proofs.Common.{◌≡◌, All, take, string_bytes, String, Global}
use Rattle.cca_base.proofs.Entries.{AreNames, AreApart}
use Rattle.cca_base.proofs.named.new_files.Given as goal

abbrev pub invariant-loop-name : goal.invariant-loop-name
invariant-loop-name g l = record {
  names : AreNames (λ f. (g.F.Named.seen f).name) (λ (s : String Global). string_bytes s) l.files.items (take l.name-index l.names);
  apart : AreApart (λ f. (g.F.Named.seen f).name) l.files.items;
  fresh : All (λ f. g.F.Named.seen f ≡ g.F.Named.first_seen (g.F.Named.seen f).name l.room) l.files.items;
}
