-- The terms of an award.
use Rattle.std.specs.Prelude.{ℕ, suc, ◌-◌, Bool, ◌==◌, List, [], ◌∷◌, map, slice_index_or, Option, Some, None, nat_le, if◌then◌else◌}
use Rattle.auction_model.specs.Package.{cost_of, together}

-- the weighted lots of a bidder, with its holding, are at most the limit
pub record SpectrumCap : Type 0 where
  pub weights : List ℕ
  pub limit : ℕ

pub record Entrant : Type 0 where
  pub name : List ℕ
  pub eligibility : ℕ
  pub holding : List ℕ

pub record Terms : Type 0 where
  -- 1, or 2 with a final cap
  pub version : ℕ
  pub supply : List ℕ
  pub points : List ℕ
  pub reserves : List ℕ
  pub tick : ℕ
  -- each an excess, and how many thousandths a price rises from this excess on
  pub thresholds : List (ℕ × ℕ)
  pub caps : List SpectrumCap
  pub bidders : List Entrant

-- the caps of sealed bids count the final cap too: in version 2
abbrev pub final_cap : Terms → Bool
final_cap terms = terms.version == 2

-- bidder j; bidders are numbered from 1
abbrev pub entrant : Terms → ℕ → Entrant
entrant terms j = slice_index_or terms.bidders (j - 1) (record { name = []; eligibility = 0; holding = [] })

-- the number and the limit of the first cap that the lots are above, where the first of these caps has the given number
abbrev pub first_broken : ℕ → List SpectrumCap → List ℕ → Option (ℕ × ℕ)
first_broken number [] lots = None
first_broken number (c ∷ caps) lots = if nat_le (cost_of c.weights lots) c.limit then first_broken (suc number) caps lots else Some (number, c.limit)

-- the spectrum cap that the package is above, with the bidder's holding
abbrev pub broken_cap : Terms → ℕ → List ℕ → Option (ℕ × ℕ)
broken_cap terms j lots = first_broken 1 terms.caps (together lots (entrant terms j).holding)

-- the empty package of the award: no lot of each category
abbrev pub no_lots : Terms → List ℕ
no_lots terms = map (λ n. 0) terms.supply
