-- One category more of a weighted sum, and one cap more of a search for the first that is exceeded.
use Rattle.std.proofs.Common.{◌≡◌, ℕ, ◌+◌, ◌*◌, ◌<◌, List, length, drop, get_or, sym, ap, subst, ◌∙◌, arith}
use Rattle.std.specs.List.{All}
use Rattle.std.proofs.lemmas.List.{drop_more, get_or-map, length-map}
use Rattle.auction_model.specs.Package.{cost_of, together}
use Rattle.award_file.specs.declared.caps.SpectrumCap.{SpectrumCap as KeptCap}
use Rattle.award_file.specs.Award.{IsCap}
use Rattle.award_file.specs.Fields.{cap_value, cap_values}

-- what is left of a weighted sum is the weight of the next category for its lots and holding, and the rest
pub weight-step : (weights counts holding : List ℕ) (i sum : ℕ) → i < length counts → length weights ≡ length counts → length holding ≡ length counts
    → sum + cost_of (drop i weights) (together (drop i counts) (drop i holding))
    ≡ (sum + get_or weights i 0 * (get_or counts i 0 + get_or holding i 0)) + cost_of (drop (i + 1) weights)
    (together (drop (i + 1) counts) (drop (i + 1) holding))
weight-step weights counts holding i sum inside w h =
    let in_weights : i < length weights = omega arith in
    let in_holding : i < length holding = omega arith in
    rw (drop_more weights i 0 in_weights, drop_more counts i 0 inside, drop_more holding i 0 in_holding) (omega arith)

-- a cap of the list is a rule
pub cap-at : (categories : ℕ) (caps : List KeptCap) (i : ℕ) (cap : KeptCap) → All (IsCap categories) (cap_values caps) → i < length caps
    → cap ≡ get_or caps i cap → IsCap categories (cap_value cap)
cap-at categories caps i cap all inside is =
    let known : i < length (cap_values caps) = rw length-map inside in
    let read : get_or (cap_values caps) i (cap_value cap) ≡ cap_value cap = get_or-map cap_value caps i cap (cap_value cap) inside ∙ ap cap_value (sym is) in
    subst (IsCap categories) read (all i (cap_value cap) known)
