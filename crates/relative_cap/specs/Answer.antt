-- What caps and entries above them say.
use Rattle.std.specs.Prelude.{ℕ, Option, Some, None}
use Rattle.relative_cap.specs.declared.answer.Cap.{Cap}
use Rattle.relative_cap.specs.declared.answer.Cap.TheVariants.{NoCap, At}
use Rattle.relative_cap.specs.declared.answer.OverCap.{OverCap}

-- the greatest amount that is allowed, and None without a cap
abbrev pub cap_value : Cap → Option ℕ
cap_value NoCap = None
cap_value (At limit) = Some limit

-- the number of the entry, and the cap
abbrev pub excess_value : OverCap → ℕ × ℕ
excess_value over = (over.entry, over.limit)
