use Rattle.std.proofs.Common.{◌≡◌, ◌≢◌, sym, Some, rules}
use Rattle.std.proofs.lemmas.Bool.{true≢false}
use Rattle.cca_cli.specs.Words.{command_value}
use Rattle.cca_cli.specs.Command.{output_as}
use Rattle.cca_cli.specs.declared.status.FileKind.TheVariants.{Out}
use Rattle.cca_run.proofs.Appends.{at-some, part-one}
use Rattle.cca_base.proofs.Given.{keeps_still}
use Rattle.cca_run.proofs.append.append_text.Goals as goal

pub returns-in-Err-clause-ends : goal.returns-in-Err-clause-ends
returns-in-Err-clause-ends g c =
    let part = c.in-Err.ensures.part in
    let output : output_as (command_value c.args.command) c.args.text.now.kind ≡ Some c.unwrap-name.result.now = search rules in
    let no_out = at-some _ c.output.result _ (c.args.text.now.kind ≢ Out) c.requires.output c.output.ensures.name c.output.ensures.no_out in
    part-one (command_value c.args.command) c.args.text.now c.unwrap-name.result.now (g.F.Files.folder c.args.files.now)
    (g.F.Files.folder c.write_long.new.files) part.0 output no_out c.in-Err.ensures.cause part.1 part.2
    (λ has. true≢false (sym (c.in-Err.ensures.room has)))

pub returns-in-Ok-clause-ends : goal.returns-in-Ok-clause-ends
returns-in-Ok-clause-ends g c =
    let new = g.F.Files.folder c.write_long.new.files in
    let output : output_as (command_value c.args.command) c.args.text.now.kind ≡ Some c.unwrap-name.result.now = search rules in
    (new, record { name = c.unwrap-name.result.now; output = output; whole = c.in-Ok.ensures.whole }, keeps_still new)
