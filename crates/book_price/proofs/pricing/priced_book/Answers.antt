use Rattle.std.proofs.Common.{◌≡◌, ◌∙◌, List, ap, refl, subst, sym, ℕ}
use Rattle.std.specs.List.{AllByRecursion}
use Rattle.auction_model.specs.Book.{market_of}
use Rattle.auction_model.specs.Prices.{weight_of}
use Rattle.auction_model.specs.PricingRun.{IsPricingRun}
use Rattle.cert_grammar.specs.Certificate.{CertValue}
use Rattle.core_price.specs.Turns.{IsPointOfTurn, turns_of}
use Rattle.core_laws.specs.Weights.{FewWin}
use Rattle.book_price.specs.Found.{cert_found}
use Rattle.book_price.specs.Reduced.{IsReduced}
use Rattle.book_price.proofs.FoundLaws.{found-by}
use Rattle.book_price.proofs.LastTurn.{point-is_last}
use Rattle.book_price.proofs.Lowest.{reduced_cert}
use Rattle.book_price.proofs.Worths.{value-most}
use Rattle.book_price.proofs.pricing.priced_book.Goals as goal

pub price-requires-clause-worth : goal.price-requires-clause-worth
price-requires-clause-worth c =
    let same : c.new-chooser.result.winners ≡ c.args.winners = c.new-chooser.ensures.winners ∙ c.in_ok-copied.ensures in
    rw (c.new-chooser.ensures.book, same) (value-most c.args.book.now c.args.winners c.kept.ensures.most c.requires.winners.passed)

pub price-requires-clause-weights : goal.price-requires-clause-weights
price-requires-clause-weights c = rw c.new-chooser.ensures.book c.requires.weights

pub certificate-requires : goal.certificate-requires
certificate-requires c = (
  c.args.weights.now,
  (found-by c.args.book.now c.new-chooser.result.book.now c.args.winners c.new-chooser.result.winners c.args.whole.now c.in_ok-alone.alone c.args.weights.now
      c.singles.result.now c.in_ok-priced.priced
      c.new-chooser.ensures.book (c.new-chooser.ensures.winners ∙ c.in_ok-copied.ensures) c.singles.ensures c.requires.winners c.requires.whole
      c.requires.plain c.in_ok-alone.ensures.singles c.in_ok-alone.ensures.tables
      c.requires.few c.requires.weights c.in_ok-priced.ensures.priced c.in_ok-priced.ensures.table),
)

pub returns-clause-priced : goal.returns-clause-priced
returns-clause-priced c =
    let book = c.args.book.now in
    let z = c.args.winners in
    let weights = c.args.weights.now in
    let p = c.in_ok-priced.priced in
    let found =
    found-by book c.new-chooser.result.book.now z c.new-chooser.result.winners c.args.whole.now c.in_ok-alone.alone weights c.singles.result.now p
    c.new-chooser.ensures.book (c.new-chooser.ensures.winners ∙ c.in_ok-copied.ensures) c.singles.ensures c.requires.winners c.requires.whole c.requires.plain
    c.in_ok-alone.ensures.singles c.in_ok-alone.ensures.tables c.requires.few c.requires.weights c.in_ok-priced.ensures.priced c.in_ok-priced.ensures.table in
    let own = found.priced_is in
    let same = c.in_ok-cert.ensures.value in
    let choice = sym (ap (λ (v : CertValue). v.choice) same) in
    record {
      shape = c.in_ok-cert.ensures.shape;
      cert = c.in_ok-cert.ensures.priced weights found;
      reduced = subst IsReduced (sym same) (reduced_cert book z c.args.whole.now c.in_ok-alone.alone weights p found);
      few = subst (λ (z : List ℕ). FewWin z weights) choice c.requires.few;
      run = subst (λ (z : List ℕ). IsPricingRun (market_of book) (weight_of weights) z (turns_of z p.turns)) choice own.turns.run;
      each_turn = subst (λ (z : List ℕ). AllByRecursion (IsPointOfTurn z weights) p.turns) choice own.turns.each;
      last_turn = point-is_last z p.den p.at p.turns _ (cert_found book z c.args.whole.now c.in_ok-alone.alone p) own.turns.last refl refl same;
    }
