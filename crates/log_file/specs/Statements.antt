-- Why a record isn't taken.
use Rattle.std.specs.Prelude.{◌≡◌, ℕ, suc, ◌<◌, List}
use Rattle.limits.specs.declared.TheConstants.{MOST_RECORDS}
use Rattle.limits.specs.declared.LimitKind.TheVariants.{Records}
use Rattle.auction_rules.specs.Terms.{Terms}
use Rattle.log_file.specs.declared.LogStop.{LogStop}
use Rattle.log_file.specs.declared.LogStop.TheVariants as stop
use Rattle.log_file.specs.declared.read.RecordFault.{RecordFault}
use Rattle.log_file.specs.declared.read.RecordFault.TheVariants.{NoEvent, TooMany}
use Rattle.log_file.specs.LogForm.{StatesNone}

-- the record with these fields, after that many that state events, isn't taken for this reason
abbrev pub IsUntaken : Terms → List (List ℕ) → ℕ → RecordFault → Type 0
IsUntaken terms fields before (NoEvent number) = StatesNone terms fields × (before < MOST_RECORDS) × (number ≡ suc before)
IsUntaken terms fields before TooMany = before ≡ MOST_RECORDS

-- the stop at a record that isn't taken
abbrev pub untaken_stop : RecordFault → LogStop
untaken_stop (NoEvent number) = stop.Form number
untaken_stop TooMany = stop.Limit Records (suc MOST_RECORDS)
