use Rattle.std.proofs.Common.{◌≡◌, take, map}
use Rattle.std.specs.List.{AllByRecursion}
use Rattle.auction_model.specs.Book.{market_of}
use Rattle.choices.specs.declared.chooser.Single.{Single}
use Rattle.choices.specs.Singles.{IsSingle, winners_after}
use Rattle.value_table.specs.TableValue.{TableValue}
use Rattle.vickrey.specs.VickreyValue.{AreTablesWithout}
use Rattle.vickrey.proofs.pricing.each_winner.Given as goal

abbrev pub invariant-loop-k : goal.invariant-loop-k
invariant-loop-k l = record {
  winners : map (λ (s : Single). s.winner) l.singles.items ≡ winners_after 0 (take l.k l.winners);
  each : AllByRecursion (IsSingle (market_of l.book) l.winners) l.singles.items;
  tables : AreTablesWithout l.book (winners_after 0 (take l.k l.winners)) (map (λ (t : TableValue). t.lines) l.tables.items);
}
