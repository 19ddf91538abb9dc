use Rattle.line_format.proofs.FirstFeed.{feed_found, feed_none}
use Rattle.line_format.proofs.next.line_len.Goals as goal

pub returns-clause-found : goal.returns-clause-found
returns-clause-found c = feed_found c.args.bytes.now c.memchr.result c.memchr.ensures

pub returns-clause-none : goal.returns-clause-none
returns-clause-none c = feed_none c.args.bytes.now c.memchr.result c.memchr.ensures
