use Rattle.std.proofs.Common.{◌≡◌, ◌≢◌, ◌<◌, true, length, get_or, sym, ◌∙◌, arith}
use Rattle.std.proofs.lemmas.Bool.Decides.{Decides-eqb}
use Rattle.std.proofs.lemmas.Slice.Eq.{slice_eq-Decides}
use Rattle.auction_model.specs.Book.{Bidder, no_bidder}
use Rattle.bid_book.proofs.Within.{each_at}
use Rattle.bid_book.proofs.EntryLaws.{unused_more, name_at}
use Rattle.bid_book.proofs.read.entries.is_used.Goals as goal

pub returns-then-eq : goal.returns-then-eq
returns-then-eq c =
    let decides = slice_eq-Decides Decides-eqb c.as_bytes.result.now c.args.name.now c.eq.result c.eq.ensures in
    let same : (get_or c.args.book.now.bidders c.loop-j.j no_bidder).name ≡ c.args.name.now = sym (name_at c.args.book.now c.loop-j.j) ∙ sym c.name.ensures
    ∙ sym c.as_bytes.ensures.value ∙ decides.0 c.if-eq.true in
    let lt : c.loop-j.j < length c.args.book.now.bidders = omega arith in
    (λ no_use. absurd (cc no_use), λ all. absurd (each_at (λ (b : Bidder). b.name ≢ c.args.name.now) c.args.book.now.bidders c.loop-j.j no_bidder all lt same))

pub loop-j-preserved : goal.loop-j-preserved
loop-j-preserved c =
    let decides = slice_eq-Decides Decides-eqb c.as_bytes.result.now c.args.name.now c.eq.result c.eq.ensures in
    let lt : c.loop-j.j < length c.args.book.now.bidders = omega arith in
    let other : (get_or c.args.book.now.bidders c.loop-j.j no_bidder).name ≢ c.args.name.now =
    λ same. let yes : c.eq.result ≡ true = decides.1 (c.as_bytes.ensures.value ∙ c.name.ensures ∙ name_at c.args.book.now c.loop-j.j ∙ same) in cc in
    unused_more c.args.book.now.bidders c.args.name.now c.loop-j.j lt c.loop-j.invariant other
