-- The terms in the fields of an award.
use Rattle.auction_rules.specs.Terms.{Terms}
use Rattle.award_file.specs.declared.award.Award.TheInside.{Inside}
use Rattle.award_file.specs.Award.{terms_with}
use Rattle.award_file.specs.Fields.{cap_values}

abbrev pub terms_value : Inside → Terms
terms_value a = terms_with a.version a.supply a.points.items a.reserves.items a.steps a.bidders (cap_values a.caps.items)
