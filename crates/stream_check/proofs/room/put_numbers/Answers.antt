use Rattle.std.proofs.Common.{◌≡◌, ◌∙◌, List, length, get_or, pos, ap, arith, rules}
use Rattle.std.specs.Prelude.{ℤ}
use Rattle.std.proofs.lemmas.Int.{to_z-of_z}
use Rattle.std.proofs.lemmas.List.{length-set}
use mir.Val.{SFits}
use mir.Syntax.{w128}
use Rattle.cert_grammar.proofs.Written.{long_numbers}
use Rattle.stream_check.proofs.NumberLaws.{number-at, most-at, put-more, same-list}
use Rattle.stream_check.proofs.room.put_numbers.Goals as goal

pub loop-k-preserved : goal.loop-k-preserved
loop-k-preserved c =
    let k = c.loop-k.k in
    let all = c.requires.numbers in
    let fits : SFits w128 (get_or c.args.from.now c.loop-k.k (pos 0)) = search rules in
    record {
      long = length-set c.loop-k.to c.loop-k.k _ ∙ c.loop-k.invariant.long;
      put = λ ns from_is.
          let value = c.small.ensures (get_or ns c.loop-k.k 0) (to_z-of_z w128 (get_or c.args.from.now c.loop-k.k (pos 0)) fits
          ∙ number-at c.args.from.now ns c.loop-k.k from_is) (most-at c.args.from.now all.0 ns c.loop-k.k all.1 from_is all.2) in
          put-more c.loop-k.to ns c.loop-k.k c.small.result (omega (arith, c.loop-k-test.true, c.loop-k.invariant.long, c.requires.count))
          (c.loop-k.invariant.put ns from_is) value;
    }

pub returns-clause-numbers : goal.returns-clause-numbers
returns-clause-numbers c = λ ns from_is.
    let long : length c.loop-k.to ≡ length ns = c.loop-k.invariant.long ∙ c.requires.count ∙ ap (λ (l : List ℤ). length l) from_is ∙ long_numbers ns in
    same-list c.loop-k.to ns long (λ q lt. c.loop-k.invariant.put ns from_is q (omega
    (arith, lt, c.loop-k-test.false, c.loop-k.invariant.long, c.requires.count)))
