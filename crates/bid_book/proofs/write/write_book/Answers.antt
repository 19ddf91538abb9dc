use Rattle.std.proofs.Common.{◌≡◌, ◌++◌, List, ℕ, ap, ◌∙◌}
use Rattle.std.specs.Prelude.{codes}
use Rattle.line_format.specs.Decimals.{decimals_text}
use Rattle.bid_book.proofs.WriteLaws.{whole_text}
use Rattle.bid_book.proofs.write.write_book.Goals as goal

pub returns : goal.returns
returns c =
    let book = c.args.book.now in
    let first : c.add.new.self ≡ codes "book 1\nsupply" = c.in_ok-add.ensures ∙ ap (λ (t : List ℕ). t ++ codes "book 1\nsupply") c.new-text.ensures in
    let supply : c.add_numbers.new.text ≡ c.add.new.self ++ decimals_text book.supply = c.in_ok-add_numbers.ensures
    ∙ ap (λ (l : List ℕ). c.add.new.self ++ decimals_text l) (c.counts.ensures.counts ∙ c.supply.ensures.supply) in
    let reserves : c.add_amounts.new.text ≡ c.add-2.new.self ++ decimals_text book.reserves = c.in_ok-add_amounts.ensures
    ∙ ap (λ (l : List ℕ). c.add-2.new.self ++ decimals_text l) c.reserves.ensures in
    whole_text book c.add.new.self c.add_numbers.new.text c.add-2.new.self c.add_amounts.new.text c.push.new.self c.add_bidders.new.text c.add-3.new.self
    first supply c.in_ok-add-2.ensures reserves c.in_ok-push.ensures c.in_ok-add_bidders.ensures c.in_ok-add-3.ensures c.supply.ensures.kept
