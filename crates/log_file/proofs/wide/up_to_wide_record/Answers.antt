use Rattle.log_file.proofs.WideLaws.{with-mark}
use Rattle.log_file.proofs.wide.up_to_wide_record.Goals as goal

pub returns : goal.returns
returns c = with-mark c.args.bytes.now c.mark_len-mark.result c.wide_end.result c.mark_len-mark.ensures.behind (c.mark_len-mark.ensures.kept c.wide_end.result)
    c.wide_end.ensures.alike
