use Rattle.stream_check.proofs.MemberCome.{members-next, members-come}
use Rattle.stream_check.proofs.kept.members_after.Goals as goal

pub returns-in-Members : goal.returns-in-Members
returns-in-Members c = λ cert next is follows. members-come c.args.at.now cert is _ next c.in-Members.is follows

pub returns-in_default : goal.returns-in_default
returns-in_default c = λ cert next is follows. members-next c.args.at.now.book.now cert c.args.at.now.due next c.args.at.now.members c.args.at.now.room.now
    c.in_default.not-Members is.kept.few follows is.known.in_room.members_are
