use Rattle.std.proofs.Common.{◌≡◌, map, drop}
use Rattle.std.specs.List.{list_any}
use Rattle.std.specs.Str.{bytes_eq}
use Rattle.award_file.proofs.read.fields.is_known.Given as goal

abbrev pub invariant-keys : goal.invariant-keys
invariant-keys l = list_any (bytes_eq l.key) (map (λ k. k.now) (drop l.known-index l.keys)) ≡ list_any (bytes_eq l.key) (map (λ k. k.now) l.keys)
