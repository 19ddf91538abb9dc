use Rattle.std.proofs.Common.{ℕ, IsTrue, length, get_or, refl, sym, ◌∙◌, arith}
use Rattle.std.proofs.lemmas.Bool.{false≢true}
use Rattle.auction_model.specs.Market.{uses}
use Rattle.cert_check.proofs.MemberLaws.{members-in, member-at, of-members}
use Rattle.cert_check.proofs.PartLaws.{loses-zero}
use Rattle.cert_check.proofs.sums.members.uses_all.Goals as goal

pub number-requires : goal.number-requires
number-requires c = members-in (length c.args.choice.now) 0 c.args.members.now c.loop-member.member-index c.requires (omega arith)

pub returns-then-number-eq0 : goal.returns-then-number-eq0
returns-then-number-eq0 c =
    let own = member-at c.args.members.now c.loop-member.member-index (omega arith) in (
      λ e. absurd (false≢true e),
      λ all. absurd (loses-zero c.args.choice.now _ (sym c.number.ensures ∙ c.if-number-eq0.true)
          (all (get_or c.args.members.now c.loop-member.member-index 0) own)),
    )

pub returns : goal.returns
returns c = (
  λ e. of-members (λ (j : ℕ). IsTrue (uses c.args.choice.now j)) c.args.members.now (λ k lt. c.loop-member.invariant k (omega arith)),
  λ all. refl,
)
