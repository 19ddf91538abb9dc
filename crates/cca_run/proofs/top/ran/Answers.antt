use Rattle.std.proofs.Common.{Option, map, string_bytes, subst, ◌∙◌}
use Rattle.cca_cli.specs.Command.{CommandValue}
use Rattle.cca_cli.specs.Words.{command_value}
use Rattle.cca_run.specs.Ends.{RunEnds}
use Rattle.cca_run.proofs.Appends.{known-among, known-on}
use Rattle.cca_run.proofs.Commands.{command-ends, outputs-are}
use Rattle.cca_run.proofs.RunLaws.{runs}
use Rattle.cca_run.proofs.top.ran.Goals as goal

pub end_command-requires-clause-known : goal.end_command-requires-clause-known
end_command-requires-clause-known g c =
    let command = command_value c.in-Some.command in
    let old = g.F.Files.folder c.args.files.now in
    let kept = c.work_out-worked.ensures.reads.kept in
    known-on command old (g.F.Files.folder c.work_out-worked.new.files) kept.knows
    (known-among (map string_bytes c.args.words.now) command old c.requires c.in-Some.ensures.among)

pub end_command-requires-clause-outputs : goal.end_command-requires-clause-outputs
end_command-requires-clause-outputs g c =
    outputs-are (command_value c.in-Some.command) (g.F.Files.folder c.args.files.now) (g.F.Files.folder c.work_out-worked.new.files) c.work_out-worked.result
    c.work_out-worked.ensures.out

pub returns-in-Some : goal.returns-in-Some
returns-in-Some g c =
    let said = map string_bytes c.args.words.now in
    let old = g.F.Files.folder c.args.files.now in
    let mid = g.F.Files.folder c.work_out-worked.new.files in
    let new = g.F.Files.folder c.end_command.new.files in
    let before = g.O.Sink.output c.args.out.now in
    let now = g.O.Sink.output c.end_command.new.out in
    let ends = subst (λ (x : Option CommandValue). RunEnds x old new before now c.end_command.result) c.in-Some.ensures.command
    (command-ends (command_value c.in-Some.command) old mid new before now c.work_out-worked.result c.end_command.result c.work_out-worked.ensures
    c.end_command.ensures.ends) in
    runs c.headline.ensures.audit c.headline.ensures.award c.complete_log_ends.ensures c.complete_log_is_awarded.ensures.done
    c.awarded_cert_passes.ensures.passes (record { checked = c.verdicts.ensures.checked; weigh_checked = c.verdicts.ensures.weigh_checked; place_checked = c.verdicts.ensures.place_checked; priced = c.verdicts.ensures.priced; weighed = c.verdicts.ensures.weighed; placed = c.verdicts.ensures.placed; reviewed = c.verdicts.ensures.reviewed })
    said old new before now c.end_command.result ends
    (λ none. absurd (let e = c.in-Some.ensures.command ∙ none in cc)) c.end_command.ensures.faults

pub returns-in-None : goal.returns-in-None
returns-in-None g c =
    let said = map string_bytes c.args.words.now in
    let folder = g.F.Files.folder c.args.files.now in
    let ends = subst (λ (x : Option CommandValue). RunEnds x folder folder (g.O.Sink.output c.args.out.now)
    (g.O.Sink.output c.tell_words.new.out) c.tell_words.result)
    c.in-None.ensures.command c.tell_words.ensures.ends in
    runs c.headline.ensures.audit c.headline.ensures.award c.complete_log_ends.ensures c.complete_log_is_awarded.ensures.done
    c.awarded_cert_passes.ensures.passes (record { checked = c.verdicts.ensures.checked; weigh_checked = c.verdicts.ensures.weigh_checked; place_checked = c.verdicts.ensures.place_checked; priced = c.verdicts.ensures.priced; weighed = c.verdicts.ensures.weighed; placed = c.verdicts.ensures.placed; reviewed = c.verdicts.ensures.reviewed })
    said folder folder _ _ c.tell_words.result ends (λ none. c.tell_words.ensures.words) c.tell_words.ensures.faults
