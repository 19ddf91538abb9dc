-- What the bytes of an award file say, and which answer says it.
use Rattle.std.specs.Prelude.{◌≡◌, ℕ, ◌-◌, ◌^◌, min, List, length, Option, Some, None, nat_le, if◌then◌else◌}
use Rattle.std.specs.Str.{is_utf8}
use Rattle.std.specs.Option.{option_or}
use Rattle.limits.specs.declared.TheConstants.{MOST_BIDDERS}
use Rattle.toml.specs.Data.{Members}
use Rattle.toml.specs.Parse.{parse_document}
use Rattle.book_grammar.specs.BookLines.{Excess, supply_excess}
use Rattle.limits.specs.declared.LimitKind.{LimitKind}
use Rattle.limits.specs.declared.LimitKind.TheVariants.{Bidders, Categories, Lots, States}
use Rattle.auction_rules.specs.Terms.{Terms}
use Rattle.lots.specs.declared.LotStop.{LotStop}
use Rattle.lots.specs.declared.LotStop.TheVariants as lots
use Rattle.award_file.specs.declared.read.field_numbers.TheConstants.{SUPPLY}
use Rattle.award_file.specs.Walk.{Fault, award_fault, terms_of}
use Rattle.award_file.specs.declared.read.AwardStop.{AwardStop}
use Rattle.award_file.specs.declared.read.AwardStop.TheVariants.{Text, Field, Limit, Memory}

-- the table that the bytes are: they are UTF-8, and TOML by the definition of the crate toml
abbrev pub stated_table : List ℕ → Option Members
stated_table bytes = if is_utf8 bytes then parse_document bytes else None

-- what too many bidders exceed
abbrev pub bidders_excess : ℕ → Option Excess
bidders_excess count = if nat_le count MOST_BIDDERS then None else Some (Bidders, count)

-- the first limit that the terms exceed, with the count: of categories, lots, states, bidders in this order
abbrev pub terms_excess : Terms → Option Excess
terms_excess terms = option_or (supply_excess terms.supply) (bidders_excess (length terms.bidders))

-- what bytes may say
pub data Reading : Type 0 where
  no_toml : Reading
  -- the first broken rule, by the number of its field, and the number of the table in its list, or 0
  broken : ℕ → ℕ → Reading
  -- no rule is broken, but a limit is exceeded
  too_many : LimitKind → ℕ → Reading
  stated_terms : Terms → Reading

-- the reading of terms that exceed this limit, or none
abbrev pub reading_within : Option Excess → Terms → Reading
reading_within None terms = stated_terms terms
reading_within (Some excess) terms = too_many excess.0 excess.1

-- the reading of terms whose table has this fault, or none
abbrev pub reading_after : Option Fault → Terms → Reading
reading_after None terms = reading_within (terms_excess terms) terms
reading_after (Some fault) terms = broken fault.0 fault.1

-- the reading of a table, or of no TOML
abbrev pub reading_of : Option Members → Reading
reading_of None = no_toml
reading_of (Some t) = reading_after (award_fault t) (terms_of t)

-- what the bytes say
abbrev pub reading : List ℕ → Reading
reading bytes = reading_of (stated_table bytes)

-- the stop is the one that the reading says; out of memory is free
abbrev pub IsStop : Reading → AwardStop → Type 0
IsStop r Text = r ≡ no_toml
IsStop r (Field number entry) = r ≡ broken number entry
IsStop r (Limit kind count) = r ≡ too_many kind count
IsStop r Memory = Unit {0}

-- the stop is the first fault's
abbrev pub IsFault : Option Fault → AwardStop → Type 0
IsFault fault Text = ⊥
IsFault fault (Field number entry) = fault ≡ Some (number, entry)
IsFault fault (Limit kind count) = ⊥
IsFault fault Memory = Unit {0}

-- the stop is for the first limit that is exceeded
abbrev pub IsLimit : Option Excess → AwardStop → Type 0
IsLimit excess Text = ⊥
IsLimit excess (Field number entry) = ⊥
IsLimit excess (Limit kind count) = excess ≡ Some (kind, count)
IsLimit excess Memory = Unit {0}

-- the terms of a table without a fault
pub record IsStated (terms : Terms) : Type 0 where
  pub stated : Members
  pub passes : award_fault stated ≡ None
  pub is : terms_of stated ≡ terms

-- the stop if no supply is made of the counts; categories are numbered from 1
abbrev pub limit_stop : LotStop → AwardStop
limit_stop (lots.Categories count) = Limit Categories count
limit_stop (lots.Zero category) = Field SUPPLY (min category (2 ^ 32 - 1))
limit_stop (lots.Lots count) = Limit Lots count
limit_stop (lots.States count) = Limit States count
limit_stop lots.Memory = Memory
