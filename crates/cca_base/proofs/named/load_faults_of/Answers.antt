use Rattle.std.proofs.Common.{◌≡◌, rules, get_or, sym, ap, ◌∙◌}
use Rattle.std.specs.Option.{option_map_or}
use Rattle.cca_base.proofs.Entries.{entry_here}
use Rattle.cca_base.proofs.Folders.{name_by}
use Rattle.cca_base.proofs.named.load_faults_of.Goals as goal

pub returns : goal.returns
returns g c =
    let seen = g.F.Named.seen in
    let is : c.load_faults.result ≡ (seen (get_or c.args.files.now c.place_of.result c.index-files-place_of.result)).load_faults = search rules in
    let here = entry_here (name_by seen) c.args.files.now c.args.name.now c.place_of.result c.index-files-place_of.result c.requires c.place_of.ensures.first in
    is ∙ sym (ap (λ o. option_map_or (λ f. (seen f).load_faults) o 0) here)
