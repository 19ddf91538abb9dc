use Rattle.std.proofs.Common.{◌≡◌, [], ◌++◌, ◌+◌, drop, ap, arith, sym, ◌∙◌}
use Rattle.std.proofs.lemmas.List.{drop_all}
use Rattle.cert_output.specs.TextParts.{all_bytes, part_bytes}
use Rattle.cert_output.specs.declared.part.Part.{Part}
use Rattle.cert_output.proofs.LinePieces.{parts-split}
use Rattle.cert_output.proofs.Waiting.{so-far-begins, so-far-ends, so-far-goes-on, so-far-stops}
use Rattle.cert_output.proofs.write.add_parts.Goals as goal

pub loop-part-init : goal.loop-part-init
loop-part-init g c = so-far-begins c.args.name.now (g.F.Files.folder c.args.files.now) c.args.room.now 0 (all_bytes c.args.parts.now) c.requires.known
    (omega arith)

pub add_part-requires-clause-known : goal.add_part-requires-clause-known
add_part-requires-clause-known g c = c.loop-part.invariant.known

pub add_part-requires-clause-waiting : goal.add_part-requires-clause-waiting
add_part-requires-clause-waiting g c = c.loop-part.invariant.within

pub loop-part-preserved : goal.loop-part-preserved
loop-part-preserved g c =
    let parts = c.args.parts.now in
    let i = c.loop-part.part-index in
    let item = c.part-item.result in
    let splits : all_bytes (drop i parts) ≡ part_bytes item ++ all_bytes (drop (i + 1) parts) =
    parts-split parts i item c.loop-part-test.true ∙ ap (λ (p : Part). part_bytes p ++ all_bytes (drop (i + 1) parts)) (sym c.part-item.is) in
    so-far-goes-on c.args.name.now (g.F.Files.folder c.args.files.now) (g.F.Files.folder c.loop-part.files) [] c.loop-part.room c.loop-part.waiting
    (all_bytes (drop i parts)) (all_bytes parts) (g.F.Files.folder c.add_part.new.files) c.add_part.new.room c.in-Ok.now (part_bytes item) _ splits
    c.loop-part.invariant c.in-Ok.ensures

pub returns-in-Err : goal.returns-in-Err
returns-in-Err g c =
    let parts = c.args.parts.now in
    let i = c.loop-part.part-index in
    let item = c.part-item.result in
    let splits : all_bytes (drop i parts) ≡ part_bytes item ++ all_bytes (drop (i + 1) parts) =
    parts-split parts i item c.loop-part-test.true ∙ ap (λ (p : Part). part_bytes p ++ all_bytes (drop (i + 1) parts)) (sym c.part-item.is) in
    so-far-stops c.args.name.now (g.F.Files.folder c.args.files.now) (g.F.Files.folder c.loop-part.files) [] c.loop-part.room c.loop-part.waiting
    (all_bytes (drop i parts)) (all_bytes parts) (g.F.Files.folder c.add_part.new.files) (part_bytes item) _ splits c.loop-part.invariant c.in-Err.ensures

pub returns : goal.returns
returns g c =
    so-far-ends c.args.name.now (g.F.Files.folder c.args.files.now) (g.F.Files.folder c.loop-part.files) [] c.loop-part.room c.loop-part.waiting
    (all_bytes (drop c.loop-part.part-index c.args.parts.now)) (all_bytes c.args.parts.now)
    (ap all_bytes (drop_all c.loop-part.part-index c.args.parts.now (omega (arith, c.loop-part-test.false)))) c.loop-part.invariant
