-- Buffers to compute a line of one side of a book.
use Rattle.std.specs.Prelude.{◌≡◌, ℕ, length}
use Rattle.value_table.specs.declared.buffers.LineBuffers.{LineBuffers}

-- each list has room for that many numbers
pub record HasRoom (states : ℕ) (buffers : LineBuffers) : Type 0 where
  pub short_below : length buffers.short.below.items ≡ states
  pub short_line : length buffers.short.line.items ≡ states
  pub below : length buffers.wide.below.items ≡ states
  pub line : length buffers.wide.line.items ≡ states
  pub low : length buffers.low.items ≡ states
  pub high : length buffers.high.items ≡ states
