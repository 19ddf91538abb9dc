-- The names are the keys of the map.
use Rattle.std.proofs.Common.{◌≡◌, ◌∙◌, ap, sym, map, string_bytes}
use Rattle.std.specs.Str.{bytes_eq}
use Rattle.std.specs.List.{position}
use Rattle.indexmap.specs.IndexMap.{keys}
use Rattle.award_file.specs.Award.{from_one, names_of}
use Rattle.award_file.proofs.Names.{position-map, names-view}
use Rattle.award_file.proofs.entrants.Entrants.number_of.Goals as goal

pub returns-in-Some : goal.returns-in-Some
returns-in-Some c =
    let seen : names_of c.args.self.now ≡ map string_bytes (keys c.self.inside.by_name) = ap names_of (sym c.self.view_is)
    ∙ names-view c.self.inside.by_name.entries in
    ap from_one (sym c.in-Some.is ∙ c.get_index_of.ensures.index ∙ sym (position-map (bytes_eq c.args.name.now) string_bytes (keys c.self.inside.by_name))
    ∙ ap (position (bytes_eq c.args.name.now)) (sym seen))

pub returns-in-None : goal.returns-in-None
returns-in-None c =
    let seen : names_of c.args.self.now ≡ map string_bytes (keys c.self.inside.by_name) = ap names_of (sym c.self.view_is)
    ∙ names-view c.self.inside.by_name.entries in
    ap from_one (sym c.in-None.is ∙ c.get_index_of.ensures.index ∙ sym (position-map (bytes_eq c.args.name.now) string_bytes (keys c.self.inside.by_name))
    ∙ ap (position (bytes_eq c.args.name.now)) (sym seen))
