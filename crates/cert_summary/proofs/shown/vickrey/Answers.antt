use Rattle.std.proofs.Common.{◌∙◌, IsTrue, sym, ap, subst, arith}
use Rattle.auction_model.specs.Book.{market_of, menu_of, net_of}
use Rattle.auction_model.specs.Market.{value_of}
use Rattle.auction_model.specs.Menu.{is_known_after}
use Rattle.cert_grammar.specs.Certificate.{WithoutValue}
use Rattle.cert_text.specs.CertValues.{cert_value}
use Rattle.cert_summary.proofs.Known.{number-in, part-known, price-fits, price-is}
use Rattle.cert_summary.proofs.shown.vickrey.Goals as goal

pub value-requires : goal.value-requires
value-requires c =
    let part = c.requires.part in
    subst (λ (w : WithoutValue). IsTrue (is_known_after (menu_of c.args.book.now) 0 w.choice)) part.found
    (part-known c.args.book.now (cert_value c.args.cert.now) c.requires.cert c.args.part.now.winner part.bidder.0 part.bidder.1 part.wins)

pub worth-requires-clause-bid : goal.worth-requires-clause-bid
worth-requires-clause-bid c =
    let part = c.requires.part in
    omega (
      arith,
      c.number-bid.ensures,
      number-in c.args.book.now (cert_value c.args.cert.now) c.requires.cert c.args.part.now.winner part.bidder.0
          part.bidder.1 part.wins,
    )

pub overflow_add-result : goal.overflow_add-result
overflow_add-result c =
    let part = c.requires.part in
    price-fits c.args.book.now (cert_value c.args.cert.now) c.requires.cert c.args.part.now.winner part.bidder.0 part.bidder.1 part.wins c.kept.ensures
    c.value.result c.worth.result
    (c.value.ensures.value ∙ ap (λ (w : WithoutValue). value_of (market_of c.args.book.now) w.choice) (sym part.found))
    (c.worth.ensures.worth ∙ ap (net_of c.args.book.now c.args.part.now.winner) c.number-bid.ensures)

pub returns : goal.returns
returns c =
    let part = c.requires.part in
    price-is c.args.book.now (cert_value c.args.cert.now) c.requires.cert c.args.part.now.winner part.bidder.0 part.bidder.1 part.wins c.kept.ensures
    c.value.result c.worth.result
    (c.value.ensures.value ∙ ap (λ (w : WithoutValue). value_of (market_of c.args.book.now) w.choice) (sym part.found))
    (c.worth.ensures.worth ∙ ap (net_of c.args.book.now c.args.part.now.winner) c.number-bid.ensures)
