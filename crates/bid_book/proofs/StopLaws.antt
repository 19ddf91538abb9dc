-- A stop at a limit says which.
use Rattle.std.proofs.Common.{◌≡◌, Err}
use Rattle.std.specs.declared.result.Result.{Result}
use Rattle.book_grammar.specs.BookLines.{Excess}
use Rattle.line_format.specs.declared.stop.LineStop.{LineStop}
use Rattle.line_format.specs.declared.stop.LineStop.TheVariants.{Limit}

-- one stop is for one limit, with one count
pub limit_one : (told excess : Excess) → Limit told ≡ Limit excess → told ≡ excess
limit_one told excess is = cc

-- one answer names one limit
pub one_limit : {A : Type 0} (told excess : Excess) → ◌≡◌ {A = Result A (LineStop Excess)} (Err (Limit told)) (Err (Limit excess)) → told ≡ excess
one_limit told excess is = let same : Limit told ≡ Limit excess = cc in limit_one told excess same
