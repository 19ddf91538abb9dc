-- What is already computed for a book, the source of the values without a winner.
use Rattle.auction_model.specs.Book.{Book}
use Rattle.value_table.specs.SideValues.{AreSidesOf}
use Rattle.value_table.specs.TableValue.{IsTableOf, IsPlain}
use Rattle.vickrey.specs.declared.source.Source.{Source}
use Rattle.vickrey.specs.declared.source.Source.TheVariants.{BothSides, WholeTable}

-- it is this book's
abbrev pub IsSourceOf : Book → Source → Type 0
IsSourceOf book (BothSides sides) = AreSidesOf book sides.now
IsSourceOf book (WholeTable table) = IsTableOf book table.now × IsPlain table.now
