use Rattle.std.proofs.Common.{◌≡◌, ◌≢◌, ◌∙◌, ◌<◌, ◌≤◌, ◌+◌, ◌-◌, sym, ap, arith, get_or, length, take, map, [], ◌∷◌, ◌++◌}
use Rattle.std.proofs.lemmas.List.{map-append, take_all}
use Rattle.auction_model.proofs.ListLaws.{each-push}
use Rattle.choices.specs.declared.chooser.Single.{Single}
use Rattle.choices.specs.Singles.{IsSingle, winners_after}
use Rattle.place_price.proofs.Allowed.{lawful}
use Rattle.place_price.proofs.Parts.{more-parts}
use Rattle.slot_places.specs.Board.{market_of_slots}
use Rattle.vickrey.proofs.VickreyLaws.{winners-skip, winners-take}
use Rattle.place_price.proofs.alone.each_winner.Goals as goal
use Rattle.place_price.proofs.alone.each_winner.Goals.{then-number-ne0+in_ok-add_winner, else-number-ne0}

pub loop-k-preserved : goal.loop-k-preserved
loop-k-preserved c =
    let slots = c.args.chooser.now.slots.now in
    let z = c.args.chooser.now.winners in
    let k = c.loop-k.k in
    let winner = λ (s : Single). s.winner in
    let long = (lawful slots c.bidders-k-end.ensures.kept).lengths z c.args.chooser.now.winning.passed in
    let inside : k < length z = omega (arith, c.bidders-k-end.ensures.bidders, long, c.loop-k-test.true) in
    let back : k + 1 - 1 ≡ k = omega arith in
    let number : c.number.result ≡ get_or z k 0 = c.number.ensures ∙ ap (λ n. get_or z n 0) back in
    let was = c.loop-k.invariant in
    elim c.if-number-ne0.branch [
      | then-number-ne0+in_ok-add_winner w ↦
          let added = w.in_ok-add_winner.ensures in
          let single = added.0 in
          let part = added.1 in
          let some : get_or z k 0 ≢ 0 = λ e. w.if-number-ne0.true (number ∙ e) in
          let more : winners_after 0 (take (k + 1) z) ≡ winners_after 0 (take k z) ++ (k + 1) ∷ [] = winners-take z k inside some in
          let singles : c.if-number-ne0.alone.singles.items ≡ c.loop-k.alone.singles.items ++ single ∷ [] = rw w.alone-is added.5 in
          let parts : c.if-number-ne0.alone.parts ≡ c.loop-k.alone.parts ++ part ∷ [] = rw w.alone-is added.6 in
          record {
            winners = ap (map winner) singles ∙ map-append winner c.loop-k.alone.singles.items (single ∷ []) ∙ ap (λ l. l ++ single.winner ∷ []) was.winners
                ∙ ap (λ n. winners_after 0 (take k z) ++ n ∷ []) added.2 ∙ sym more;
            each = rw singles (each-push (IsSingle (market_of_slots slots) z) c.loop-k.alone.singles.items single was.each added.3);
            parts = rw (singles, parts) (more-parts slots c.loop-k.alone.singles.items c.loop-k.alone.parts single part was.parts added.4);
          }
      | else-number-ne0 w ↦
          let none : get_or z k 0 ≡ 0 = sym number ∙ w.if-number-ne0.false in
          let same : winners_after 0 (take (k + 1) z) ≡ winners_after 0 (take k z) = winners-skip z k inside none in
          rw w.alone-is (record {
            winners = was.winners ∙ sym same;
            each = was.each;
            parts = was.parts;
          })
    ]

pub returns-clause-singles : goal.returns-clause-singles
returns-clause-singles c =
    let slots = c.args.chooser.now.slots.now in
    let z = c.args.chooser.now.winners in
    let long = (lawful slots c.bidders-k-end.ensures.kept).lengths z c.args.chooser.now.winning.passed in
    let all : length z ≤ c.loop-k.k = omega (arith, c.bidders-k-end.ensures.bidders, long, c.loop-k-test.false) in
    record {
      winners = c.loop-k.invariant.winners ∙ ap (winners_after 0) (take_all c.loop-k.k z all);
      each = c.loop-k.invariant.each;
    }
