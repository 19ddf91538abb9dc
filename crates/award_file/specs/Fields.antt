-- What the parts of an award are in its terms.
use Rattle.std.specs.Prelude.{ℕ, List, map, String, string_bytes}
use Rattle.std.specs.declared.alloc.Global.{Global}
use Rattle.auction_rules.specs.Terms.{SpectrumCap, Entrant}
use Rattle.award_file.specs.declared.caps.SpectrumCap.{SpectrumCap as KeptCap}
use Rattle.award_file.specs.declared.caps.CapFault.{CapFault}
use Rattle.award_file.specs.declared.entrants.Entrant.{Entrant as Entered}
use Rattle.award_file.specs.Award.{entrant_with}

-- a name with what the award states for its
-- bidder
abbrev pub entrant_value : String Global × Entered → Entrant
entrant_value e = entrant_with (string_bytes e.0) e.1.eligibility e.1.holding.items

abbrev pub cap_value : KeptCap → SpectrumCap
cap_value c = record { weights = c.weights.items; limit = c.limit }

abbrev pub cap_values : List KeptCap → List SpectrumCap
cap_values caps = map cap_value caps

-- the number and the limit
abbrev pub fault_value : CapFault → ℕ × ℕ
fault_value f = (f.number, f.limit)
