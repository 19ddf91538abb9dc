use Rattle.std.proofs.Common.{◌≡◌, map}
use Rattle.toml.specs.View.{members_view}
use Rattle.award_file.specs.Stated.{has_other}
use Rattle.award_file.proofs.read.fields.has_other.Given as goal

abbrev pub invariant-members : goal.invariant-members
invariant-members l =
    (goal.iterator-members).can_next l.key-iterator × (goal.iterator-members).is_finite l.key-iterator
    × (has_other (map (λ k. k.now) l.keys) (members_view l.key-iterator) ≡ has_other (map (λ k. k.now) l.keys) (members_view l.table.entries))
