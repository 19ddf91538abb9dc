use Rattle.std.proofs.Common.{◌≡◌, ◌++◌, List, ℕ, ap, ◌∙◌}
use Rattle.line_format.specs.Decimals.{decimals_text}
use Rattle.bid_book.specs.Lists.{bid_of}
use Rattle.bid_book.proofs.WriteLaws.{whole_bid}
use Rattle.bid_book.proofs.write.add_bid.Goals as goal

pub returns : goal.returns
returns c =
    let counts : c.add_numbers.new.text ≡ c.add.new.self ++ decimals_text c.args.bid.now.package = c.in_ok-add_numbers.ensures
    ∙ ap (λ (l : List ℕ). c.add.new.self ++ decimals_text l) c.counts.ensures in
    whole_bid (bid_of c.args.bid.now) c.args.text.now c.add.new.self c.add_numbers.new.text c.add_number.new.text c.push.new.self c.in_ok-add.ensures counts
    c.in_ok-add_number.ensures c.in_ok-push.ensures
