use Rattle.std.proofs.Common.{◌≡◌, ◌<◌, length, get_or, map, sym, ap, ◌∙◌, arith}
use Rattle.std.proofs.lemmas.Bool.Decides.{Decides-eqb}
use Rattle.std.proofs.lemmas.Slice.Eq.{slice_eq-Decides}
use Rattle.std.proofs.lemmas.List.{get_or-map}
use Rattle.auction_model.specs.Book.{BookBid, no_bid}
use Rattle.bid_book.specs.Fields.{bid_value}
use Rattle.bid_book.proofs.book.changes.is_there.Goals as goal

pub returns : goal.returns
returns c =
    let inside : c.args.place < length c.args.bids.now = omega arith in
    let decides = slice_eq-Decides Decides-eqb c.counts.result.now c.counts-2.result.now c.eq.result c.eq.ensures in
    let lots : (get_or (map bid_value c.args.bids.now) c.args.place no_bid).lots ≡ c.counts.result.now =
    ap (λ (b : BookBid). b.lots) (get_or-map bid_value c.args.bids.now c.args.place c.index-bids-place.result no_bid inside) ∙ sym c.counts.ensures in
    (λ yes. (inside, lots ∙ decides.0 yes ∙ c.counts-2.ensures), λ there. decides.1 (sym lots ∙ there.1 ∙ sym c.counts-2.ensures))
