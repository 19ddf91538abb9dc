use Rattle.std.proofs.Common.{◌≡◌, ℕ, length, get_or, refl, ◌∙◌, arith}
use Rattle.std.proofs.lemmas.Bool.{false≢true}
use Rattle.auction_model.specs.Market.{number_of}
use Rattle.cert_check.proofs.MemberLaws.{members-in, member-at, of-members}
use Rattle.cert_check.proofs.sums.members.uses_none.Goals as goal

pub number-requires : goal.number-requires
number-requires c = members-in (length c.args.choice.now) 0 c.args.members.now c.loop-member.member-index c.requires (omega arith)

pub returns-then-number-ne0 : goal.returns-then-number-ne0
returns-then-number-ne0 c =
    let own = member-at c.args.members.now c.loop-member.member-index (omega arith) in (
      λ e. absurd (false≢true e),
      λ all. absurd (c.if-number-ne0.true (c.number.ensures ∙ all (get_or c.args.members.now c.loop-member.member-index 0) own)),
    )

pub returns : goal.returns
returns c = (
  λ e. of-members (λ (j : ℕ). number_of c.args.choice.now j ≡ 0) c.args.members.now (λ k lt. c.loop-member.invariant k (omega arith)),
  λ all. refl,
)
