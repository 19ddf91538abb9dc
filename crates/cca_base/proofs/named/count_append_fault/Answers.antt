use Rattle.std.proofs.Common.{◌≡◌, arith, rules, get_or}
use Rattle.std.specs.Option.{option_map_or}
use Rattle.cca_base.specs.Entries.{KeepsButAppends}
use Rattle.cca_base.proofs.Entries.{set_changes, views_same, counts_one, counts_only, counts_rose}
use Rattle.cca_base.proofs.Folders.{name_by, folder_keeps}
use Rattle.cca_base.proofs.named.count_append_fault.Goals as goal

pub returns-clause-kept : goal.returns-clause-kept
returns-clause-kept g c =
    let seen = g.F.Named.seen in
    let old = get_or c.args.files.now c.place_of-place.result c.index-files-place.result in
    let kept : KeepsButAppends (seen old) (seen c.set_append_faults.new.self) = search rules in
    let change = set_changes (name_by seen) c.args.files.now c.args.name.now c.place_of-place.result c.index-files-place.result c.set_append_faults.new.self
    c.requires c.place_of-place.ensures.first kept.name in
    folder_keeps seen g.F.Named.told c.args.name.now _ _ _ _ change kept.file kept.room

pub returns-clause-count : goal.returns-clause-count
returns-clause-count g c =
    let seen = g.F.Named.seen in
    let old = get_or c.args.files.now c.place_of-place.result c.index-files-place.result in
    let kept : KeepsButAppends (seen old) (seen c.set_append_faults.new.self) = search rules in
    let was : c.append_faults.result ≡ (seen old).append_faults = search rules in
    let change = set_changes (name_by seen) c.args.files.now c.args.name.now c.place_of-place.result c.index-files-place.result c.set_append_faults.new.self
    c.requires c.place_of-place.ensures.first kept.name in
    counts_only (λ f. (seen f).append_faults) c.args.name.now _ _ _ _ change (omega (arith, was, c.set_append_faults.ensures.set))

pub returns-clause-rose : goal.returns-clause-rose
returns-clause-rose g c =
    let seen = g.F.Named.seen in
    let old = get_or c.args.files.now c.place_of-place.result c.index-files-place.result in
    let kept : KeepsButAppends (seen old) (seen c.set_append_faults.new.self) = search rules in
    let was : c.append_faults.result ≡ (seen old).append_faults = search rules in
    let change = set_changes (name_by seen) c.args.files.now c.args.name.now c.place_of-place.result c.index-files-place.result c.set_append_faults.new.self
    c.requires c.place_of-place.ensures.first kept.name in
    counts_rose (λ f. (seen f).append_faults) c.args.name.now _ _ _ _ change (λ below. omega (arith, was, c.set_append_faults.ensures.set))

pub returns-clause-counted : goal.returns-clause-counted
returns-clause-counted g c =
    let seen = g.F.Named.seen in
    let old = get_or c.args.files.now c.place_of-place.result c.index-files-place.result in
    let kept : KeepsButAppends (seen old) (seen c.set_append_faults.new.self) = search rules in
    let was : c.append_faults.result ≡ (seen old).append_faults = search rules in
    let change = set_changes (name_by seen) c.args.files.now c.args.name.now c.place_of-place.result c.index-files-place.result c.set_append_faults.new.self
    c.requires c.place_of-place.ensures.first kept.name in
    counts_one (λ f. (seen f).append_faults) c.args.name.now _ _ _ _ change (omega (arith, was, c.set_append_faults.ensures.set))

pub returns-clause-loads : goal.returns-clause-loads
returns-clause-loads g c =
    let seen = g.F.Named.seen in
    let old = get_or c.args.files.now c.place_of-place.result c.index-files-place.result in
    let kept : KeepsButAppends (seen old) (seen c.set_append_faults.new.self) = search rules in
    let change = set_changes (name_by seen) c.args.files.now c.args.name.now c.place_of-place.result c.index-files-place.result c.set_append_faults.new.self
    c.requires c.place_of-place.ensures.first kept.name in
    views_same (λ o. option_map_or (λ f. (seen f).load_faults) o 0) c.args.name.now _ _ _ _ change kept.load_faults
