use Rattle.std.proofs.Common.{take}
use Rattle.std.specs.List.{AllByRecursion}
use Rattle.book_grammar.specs.BookForm.{IsNameByte}
use Rattle.bid_book.proofs.read.fields.are_name_bytes.Given as goal

abbrev pub invariant-loop-c : goal.invariant-loop-c
invariant-loop-c l = AllByRecursion IsNameByte (take l.c-index l.bytes)
