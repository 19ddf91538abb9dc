-- What is kept of a number.
use Rattle.std.specs.Prelude.{◌≡◌, ℕ, ◌^◌, ◌≤◌, ◌<◌, true, false, ℤ}
use Rattle.line_format.specs.Range.{is_out}
use Rattle.cert_stream.specs.declared.line.tally.Magnitude.{Magnitude}
use Rattle.cert_stream.specs.declared.line.phase.ReadNumber.{ReadNumber}

-- what is kept of a size: itself while it is below 2^120
pub record IsTally (t : Magnitude) (value : ℕ) : Type 0 where
  pub small : t.beyond ≡ false → (t.size ≡ value) × (value < 2 ^ 120)
  pub large : t.beyond ≡ true → 2 ^ 120 ≤ value

-- what is kept of a number: itself if it is in range
pub record IsKept (k : ReadNumber) (z : ℤ) : Type 0 where
  pub beyond : is_out z ≡ k.beyond
  pub same : k.beyond ≡ false → k.number ≡ z
