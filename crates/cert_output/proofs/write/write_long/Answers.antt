use Rattle.cert_output.proofs.Joined.{end-cause, end-counts, end-gave, end-loads, end-part, end-prefix, end-quiet, end-room, end-whole}
use Rattle.cert_output.proofs.write.write_long.Goals as goal

pub returns-clause-whole : goal.returns-clause-whole
returns-clause-whole g c =
    end-whole c.args.name.now (g.F.Files.folder c.args.files.now) (g.F.Files.folder c.write_whole.new.files) c.args.text.now
    c.write_whole.result c.write_whole.ensures.whole

pub returns-clause-part : goal.returns-clause-part
returns-clause-part g c =
    end-part c.args.name.now (g.F.Files.folder c.args.files.now) (g.F.Files.folder c.write_whole.new.files) c.args.text.now
    c.write_whole.result c.write_whole.ensures.part

pub returns-clause-prefix : goal.returns-clause-prefix
returns-clause-prefix g c =
    end-prefix c.args.name.now (g.F.Files.folder c.args.files.now) (g.F.Files.folder c.write_whole.new.files) c.args.text.now
    c.write_whole.result c.write_whole.ensures.whole c.write_whole.ensures.part

pub returns-clause-count : goal.returns-clause-count
returns-clause-count g c =
    end-counts c.args.name.now (g.F.Files.folder c.args.files.now) (g.F.Files.folder c.write_whole.new.files) c.args.text.now
    c.write_whole.result c.write_whole.ensures.whole c.write_whole.ensures.part

pub returns-clause-quiet : goal.returns-clause-quiet
returns-clause-quiet g c =
    end-quiet c.args.name.now (g.F.Files.folder c.args.files.now) (g.F.Files.folder c.write_whole.new.files) c.args.text.now
    c.write_whole.result c.write_whole.ensures.whole

pub returns-clause-gave : goal.returns-clause-gave
returns-clause-gave g c =
    end-gave c.args.name.now (g.F.Files.folder c.args.files.now) (g.F.Files.folder c.write_whole.new.files) c.args.text.now
    c.write_whole.result c.write_whole.ensures.whole c.write_whole.ensures.part

pub returns-clause-loads : goal.returns-clause-loads
returns-clause-loads g c =
    end-loads c.args.name.now (g.F.Files.folder c.args.files.now) (g.F.Files.folder c.write_whole.new.files) c.args.text.now
    c.write_whole.result c.write_whole.ensures.whole c.write_whole.ensures.part

pub returns-clause-cause : goal.returns-clause-cause
returns-clause-cause g c =
    end-cause c.args.name.now (g.F.Files.folder c.args.files.now) (g.F.Files.folder c.write_whole.new.files) c.args.text.now
    c.write_whole.result c.write_whole.ensures.part

pub returns-clause-room : goal.returns-clause-room
returns-clause-room g c =
    end-room c.args.name.now (g.F.Files.folder c.args.files.now) (g.F.Files.folder c.write_whole.new.files) c.args.text.now
    c.write_whole.result c.write_whole.ensures.whole c.write_whole.ensures.part
