use Rattle.std.proofs.Common.{◌≡◌, ℕ, Bool, true, false, not, ◌+◌, ◌-◌, ◌<◌, ◌==◌, drop, arith, rules, sym, ap, ◌∙◌, length}
use Rattle.std.proofs.lemmas.Int.{to_z-of_z}
use Rattle.std.proofs.lemmas.Bool.{ne_eqb}
use mir.Val.{to_z, of_z}
use mir.Syntax.{w128}
use Rattle.auction_model.specs.Market.{number_of, uses}
use Rattle.core_laws.specs.Winners.{idle_row, bits_after}
use Rattle.core_laws.proofs.Bits.{bits-skip, bits-small}
use Rattle.blocking.proofs.row.row_members.Goals as goal

pub with_bit-members-requires : goal.with_bit-members-requires
with_bit-members-requires g c =
    let m = g.C.Chooser.market c.args.chooser.now in
    let z = g.C.Chooser.chosen c.args.chooser.now in
    let at = c.args.at.now in
    let n = c.loop-k.k - 1 in
    let up : c.loop-k.k ≡ n + 1 = omega arith in
    let d : to_z w128 (of_z w128 c.args.den) ≡ c.args.den = to_z-of_z w128 c.args.den (search rules) in
    let s : ℕ → Bool = idle_row m z (record { den = c.args.den; at = at }) c.args.choice.now in
    let all : length z ≡ m.bidders = (g.met.C.Chooser.lawful c.args.chooser.now).lengths z (g.met.C.Chooser.winning c.args.chooser.now).passed in
    let lt : n < length z = omega (arith, c.requires.look.asks.bidders) in
    let is : c.number.result ≡ number_of z (n + 1) = c.number.ensures ∙ ap (λ t. number_of t (n + 1)) c.winners.ensures in
    let used : uses z (n + 1) ≡ true = ap not (ne_eqb (number_of z (n + 1)) 0 (λ e. c.if-number-ne0.true (is ∙ e))) in
    let inv : c.loop-k.members ≡ bits_after (drop (n + 1) z) s (n + 1) = rw d at c.loop-k.invariant.bits ∙ ap (λ t. bits_after (drop t z) s t) up in
    rw inv (bits-small z s n lt c.requires.look.winners used)

pub loop-k-preserved : goal.loop-k-preserved
loop-k-preserved g c =
    let m = g.C.Chooser.market c.args.chooser.now in
    let z = g.C.Chooser.chosen c.args.chooser.now in
    let at = c.args.at.now in
    let n = c.loop-k.k - 1 in
    let up : c.loop-k.k ≡ n + 1 = omega arith in
    let d : to_z w128 (of_z w128 c.args.den) ≡ c.args.den = to_z-of_z w128 c.args.den (search rules) in
    let s : ℕ → Bool = idle_row m z (record { den = c.args.den; at = at }) c.args.choice.now in
    let all : length z ≡ m.bidders = (g.met.C.Chooser.lawful c.args.chooser.now).lengths z (g.met.C.Chooser.winning c.args.chooser.now).passed in
    let lt : n < length z = omega (arith, c.requires.look.asks.bidders) in
    let is : c.number.result ≡ number_of z (n + 1) = c.number.ensures ∙ ap (λ t. number_of t (n + 1)) c.winners.ensures in
    let unused : uses z (n + 1) ≡ false = ap (λ t. not (t == 0)) (sym is ∙ c.if-number-ne0.false) in
    let inv : c.loop-k.members ≡ bits_after (drop (n + 1) z) s (n + 1) = rw d at c.loop-k.invariant.bits ∙ ap (λ t. bits_after (drop t z) s t) up in
    record {
      inside = omega (arith, c.loop-k.invariant.inside);
      bits = rw d (inv ∙ sym (bits-skip z s n lt unused));
    }
