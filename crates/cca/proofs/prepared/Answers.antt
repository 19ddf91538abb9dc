use Rattle.std.proofs.Common.{◌∙◌, string_bytes, map, get_or, ap}
use Rattle.std.specs.List.{list_any}
use Rattle.std.specs.Str.{bytes_eq}
use Rattle.cca_base.proofs.KnownNames.{each-known}
use Rattle.cca.proofs.prepared.Goals as goal

pub returns-in-Ok-new-clause-known : goal.returns-in-Ok-new-clause-known
returns-in-Ok-new-clause-known g c = λ k d h.
    let words = c.in-Ok.words.items in
    let name = get_or (map string_bytes words) k d in
    c.in-Ok-new.ensures.names name ∙ ap (λ w. list_any (λ s. bytes_eq (string_bytes s) name) w) c.deref.ensures.value
    ∙ each-known string_bytes words k d h
