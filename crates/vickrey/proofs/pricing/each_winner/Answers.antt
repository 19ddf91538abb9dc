use Rattle.std.proofs.Common.{◌≡◌, ◌≢◌, ◌∙◌, ◌<◌, ◌≤◌, ◌+◌, ◌-◌, sym, ap, arith, get_or, length, take, map, [], ◌∷◌, ◌++◌}
use Rattle.std.proofs.lemmas.List.{map-append, take_all, length-map}
use Rattle.auction_model.specs.Book.{market_of}
use Rattle.choices.specs.declared.chooser.Single.{Single}
use Rattle.choices.specs.Singles.{IsSingle, winners_after}
use Rattle.value_table.specs.TableValue.{TableValue}
use Rattle.auction_model.proofs.BookMarket.{winning-count}
use Rattle.auction_model.proofs.ListLaws.{each-push}
use Rattle.vickrey.proofs.VickreyLaws.{winners-skip, winners-take, tables-more}
use Rattle.vickrey.proofs.pricing.each_winner.Goals as goal
use Rattle.vickrey.proofs.pricing.each_winner.Goals.{then-number-ne0+in_ok-one+in_ok-push+in_ok-push-2, else-number-ne0}

pub number-requires : goal.number-requires
number-requires c = (omega arith, omega (arith, c.bidders-k-end.ensures.bidders, winning-count c.args.book.now c.args.winners.now c.requires.winners))

pub loop-k-preserved : goal.loop-k-preserved
loop-k-preserved c =
    let book = c.args.book.now in
    let z = c.args.winners.now in
    let k = c.loop-k.k in
    let winner = λ (s : Single). s.winner in
    let lines = λ (t : TableValue). t.lines in
    let inside : k < length z = omega (arith, c.bidders-k-end.ensures.bidders, winning-count book z c.requires.winners) in
    let back : k + 1 - 1 ≡ k = omega arith in
    let number : c.number.result ≡ get_or z k 0 = c.number.ensures ∙ ap (λ n. get_or z n 0) back in
    let was = c.loop-k.invariant in
    elim c.if-number-ne0.branch [
      | then-number-ne0+in_ok-one+in_ok-push+in_ok-push-2 w ↦
          let one = w.in_ok-one.one in
          let some : get_or z k 0 ≢ 0 = λ e. w.if-number-ne0.true (number ∙ e) in
          let more : winners_after 0 (take (k + 1) z) ≡ winners_after 0 (take k z) ++ (k + 1) ∷ [] = winners-take z k inside some in
          let singles : c.if-number-ne0.singles.items ≡ c.loop-k.singles.items ++ one.single ∷ [] = rw w.singles-is w.in_ok-push.ensures.items in
          let tables : map lines c.if-number-ne0.tables.items ≡ map lines c.loop-k.tables.items ++ one.table.lines ∷ [] =
          rw (w.tables-is, w.in_ok-push-2.ensures.items) (map-append lines c.loop-k.tables.items (one.table ∷ [])) in
          record {
            winners = ap (map winner) singles ∙ map-append winner c.loop-k.singles.items (one.single ∷ []) ∙ ap (λ l. l ++ one.single.winner ∷ []) was.winners
                ∙ ap (λ n. winners_after 0 (take k z) ++ n ∷ []) w.in_ok-one.ensures.winner ∙ sym more;
            each = rw singles (each-push (IsSingle (market_of book) z) c.loop-k.singles.items one.single was.each w.in_ok-one.ensures.single);
            tables = rw (more, tables) (tables-more book (winners_after 0 (take k z)) (map lines c.loop-k.tables.items)
                (k + 1) one.table.lines was.tables w.in_ok-one.ensures.table);
          }
      | else-number-ne0 w ↦
          let none : get_or z k 0 ≡ 0 = sym number ∙ w.if-number-ne0.false in
          let same : winners_after 0 (take (k + 1) z) ≡ winners_after 0 (take k z) = winners-skip z k inside none in
          rw (w.singles-is, w.tables-is) (record {
            winners = was.winners ∙ sym same;
            each = was.each;
            tables = rw same was.tables;
          })
    ]

pub returns-clause-singles : goal.returns-clause-singles
returns-clause-singles c =
    let z = c.args.winners.now in
    let all : length z ≤ c.loop-k.k = omega (arith, c.bidders-k-end.ensures.bidders, winning-count c.args.book.now z c.requires.winners) in
    rw c.new.ensures.singles (record {
      winners = c.loop-k.invariant.winners ∙ ap (winners_after 0) (take_all c.loop-k.k z all);
      each = c.loop-k.invariant.each;
    })

pub returns-clause-tables : goal.returns-clause-tables
returns-clause-tables c =
    let z = c.args.winners.now in
    let all : length z ≤ c.loop-k.k = omega (arith, c.bidders-k-end.ensures.bidders, winning-count c.args.book.now z c.requires.winners) in
    rw c.new.ensures.tables (rw take_all at c.loop-k.invariant.tables)

pub new-requires : goal.new-requires
new-requires c =
    let tables = length-map c.loop-k.tables.items (λ (t : TableValue). t.lines) in
    let singles = length-map c.loop-k.singles.items (λ (s : Single). s.winner) in
    omega (arith, tables, singles, c.loop-k.invariant.tables.count, ap length c.loop-k.invariant.winners)
