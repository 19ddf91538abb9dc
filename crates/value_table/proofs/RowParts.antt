-- The blocks of a line by the first category: block `q` begins at `q` times the first width, and each lies within the line.
use Rattle.std.proofs.Common.{◌≡◌, ◌∙◌, ◌<◌, ◌≤◌, ◌+◌, ◌-◌, ◌*◌, ℕ, sym, ap, arith, get_or, length, List, drop, take}
use Rattle.std.proofs.Math.Nat.{mul-le-mul_right}
use Rattle.auction_model.specs.Place.{states_of, widths_of}
use Rattle.auction_model.proofs.RunLaws.{states-first, width-at_most, width-first, widths-rest}
use borrow.Rule.Slice.PartMut.{mid_len}

-- a block has the places of the other categories
pub first-width : (supply widths : List ℕ) → widths ≡ widths_of supply → 0 < length supply → get_or widths 0 0 ≡ states_of (drop 1 supply)
first-width supply widths is some = ap (λ (l : List ℕ). get_or l 0 0) is ∙ width-first supply some

-- a block ends within the line
pub row-inside : (supply widths : List ℕ) (q : ℕ) → widths ≡ widths_of supply → 0 < length supply → q < get_or supply 0 0 + 1
    → q * get_or widths 0 0 + get_or widths 0 0 ≤ states_of supply
row-inside supply widths q is some low =
    let S = get_or widths 0 0 in
    let whole : states_of supply ≡ (get_or supply 0 0 + 1) * S = states-first supply some
    ∙ ap (λ n. (get_or supply 0 0 + 1) * n) (sym (first-width supply widths is some)) in
    let room : (q + 1) * S ≤ (get_or supply 0 0 + 1) * S = mul-le-mul_right S (omega (arith, low)) in
    omega (arith, whole, room)

-- a block has as many places as the supply without its first category
pub row-length : {A : Type 0} (supply widths : List ℕ) (q : ℕ) (line : List A) → widths ≡ widths_of supply → 0 < length supply
    → length line ≡ states_of supply → q < get_or supply 0 0 + 1
    → length (take (q * get_or widths 0 0 + get_or widths 0 0 - q * get_or widths 0 0)
    (drop (q * get_or widths 0 0) line)) ≡ states_of (drop 1 supply)
row-length supply widths q line is some all low =
    let S = get_or widths 0 0 in
    let wide : q * S + S - q * S ≡ S = omega arith in
    mid_len (q * S) (q * S + S) line (omega (arith, row-inside supply widths q is some low, all)) ∙ wide ∙ first-width supply widths is some

-- the other widths are those of the supply without its first category
pub left-widths : (supply widths : List ℕ) → widths ≡ widths_of supply
    → drop 1 widths ≡ widths_of (drop 1 supply)
left-widths supply widths is = ap (drop 1) is ∙ widths-rest supply

-- and it has no more places than all
pub left-few : (supply : List ℕ) → 0 < length supply → states_of (drop 1 supply) ≤ states_of supply
left-few supply some = omega (arith, width-at_most supply some)
