-- What the parts that are read stand for.
use Rattle.std.specs.Prelude.{ℕ, List, map, string_bytes}
use Rattle.award_file.specs.declared.caps.SpectrumCap.{SpectrumCap}
use Rattle.award_file.specs.declared.read.categories.Category.{Category as Read}
use Rattle.award_file.specs.declared.read.Made.{Made}
use Rattle.award_file.specs.declared.read.Parts.{Parts}
use Rattle.award_file.specs.Award.{terms_with}
use Rattle.award_file.specs.Fields.{cap_values}
use Rattle.award_file.specs.Walk.{Category, terms_from}
use Rattle.auction_rules.specs.Terms.{Terms}

-- the category that is read
abbrev pub category_value : Read → Category
category_value c = record { name = string_bytes c.name; supply = c.supply; points = c.points; reserve = c.reserve }

-- the categories that are read
abbrev pub category_values : List Read → List Category
category_values categories = map category_value categories

-- the name of each category
abbrev pub category_names : List Read → List (List ℕ)
category_names categories = map (λ c. string_bytes c.name) categories

-- the excess of each step
abbrev pub excesses : List (ℕ × ℕ) → List ℕ
excesses steps = map (λ s. s.0) steps

-- the limit of each cap
abbrev pub limits : List SpectrumCap → List ℕ
limits caps = map (λ c. c.limit) caps

-- the lots of each category
abbrev pub counts : List Read → List ℕ
counts categories = map (λ c. c.supply) categories

-- the terms of these parts
abbrev pub terms_value : Parts → Terms
terms_value p = terms_from p.version p.tick (category_values p.categories.items) p.thresholds.items (cap_values p.caps.items) p.bidders

-- the award of these parts with what is made of them
abbrev pub award_value : Parts → Made → Terms
award_value p m = terms_with p.version m.supply m.points.items m.reserves.items m.steps p.bidders (cap_values p.caps.items)
