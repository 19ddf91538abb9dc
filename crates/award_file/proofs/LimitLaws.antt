-- Where the making of a supply stops, and which limit its counts exceed.
use Rattle.std.proofs.Common.{◌≡◌, ℕ, ◌≤◌, ◌<◌, Bool, true, false, not, Option, Some, None, List, length, refl, sym, ap, subst, ◌∙◌, arith}
use Rattle.std.specs.Prelude.{sum, nat_le, nat_lt, ◌&&◌, if◌then◌else◌}
use Rattle.std.specs.Option.{option_or}
use Rattle.std.proofs.lemmas.Bool.Decides.{nat_tests}
use Rattle.std.proofs.lemmas.Option.{same_Some}
use Rattle.auction_model.specs.Place.{states_of}
use Rattle.book_grammar.specs.BookForm.{IsOffer}
use Rattle.book_grammar.specs.BookLines.{Excess, supply_excess}
use Rattle.limits.specs.declared.LimitKind.TheVariants.{Categories, Lots, States}
use Rattle.lots.specs.declared.LotStop.{LotStop}
use Rattle.lots.specs.declared.LotStop.TheVariants as lots
use Rattle.lots.specs.Limits.{IsSupply, categories_stop, lots_stop, states_stop, supply_stop}
use Rattle.bid_book.proofs.SupplyLaws.{zero_none}
use Rattle.award_file.specs.Reading.{IsLimit, limit_stop}

-- where the making of a supply stops, by the tests of its three limits
abbrev stop_by : Bool → Bool → Bool → ℕ → ℕ → ℕ → Option LotStop
stop_by a b c l m t = option_or (if a then None else Some (lots.Categories l)) (option_or (if b then None else Some (lots.Lots m))
    (if c then None else Some (lots.States t)))

-- what is exceeded, by the same tests
abbrev excess_by : Bool → Bool → Bool → ℕ → ℕ → ℕ → Option Excess
excess_by a b c l m t = if not a then Some (Categories, l) else if not b then Some (Lots, m) else if not c then Some (States, t) else None

some-there : (l : ℕ) → 0 < l → (nat_lt 0 l && nat_le l 6) ≡ nat_le l 6
some-there l some = grind (arith, nat_tests)

-- the making of the supply of an offer stops by its limits alone
stop-is : (supply : List ℕ) → IsOffer supply
    → supply_stop supply ≡ stop_by (nat_le (length supply) 6) (nat_le (sum supply) 40) (nat_le (states_of supply) 16384) (length supply) (sum supply)
    (states_of supply)
stop-is supply offer =
    ap (λ (z : Option LotStop). option_or (categories_stop supply) (option_or z (option_or (lots_stop supply) (states_stop supply)))) (zero_none supply offer)
    ∙ ap (λ (a : Bool). stop_by a (nat_le (sum supply) 40) (nat_le (states_of supply) 16384) (length supply) (sum supply) (states_of supply))
    (some-there (length supply) offer.some)

above : (limit n : ℕ) → nat_lt limit n ≡ not (nat_le n limit)
above limit n = grind (arith, nat_tests)

excess-is : (supply : List ℕ)
    → supply_excess supply ≡ excess_by (nat_le (length supply) 6) (nat_le (sum supply) 40) (nat_le (states_of supply) 16384) (length supply) (sum supply)
    (states_of supply)
excess-is supply = rw (above 6 (length supply), above 40 (sum supply), above 16384 (states_of supply)) refl

-- ---- counts of which a supply is made

all-pass : (a b c : Bool) (l m t : ℕ) → stop_by a b c l m t ≡ None → (a ≡ true) × (b ≡ true) × (c ≡ true)
all-pass false b c l m t h = absurd (cc h)
all-pass true false c l m t h = absurd (cc h)
all-pass true true false l m t h = absurd (cc h)
all-pass true true true l m t h = (refl, refl, refl)

at-most : (n limit : ℕ) → nat_le n limit ≡ true → n ≤ limit
at-most n limit h = grind (arith, nat_tests)

-- counts of which a supply is made
pub made-within : (supply : List ℕ) → IsOffer supply → supply_stop supply ≡ None → IsSupply supply
made-within supply offer none =
    let pass = all-pass (nat_le (length supply) 6) (nat_le (sum supply) 40) (nat_le (states_of supply) 16384) (length supply) (sum supply) (states_of supply)
    (sym (stop-is supply offer) ∙ none) in
    record {
      allowed = none;
      some = offer.some;
      categories = at-most (length supply) 6 pass.0;
      lots = at-most (sum supply) 40 pass.1;
      states = at-most (states_of supply) 16384 pass.2;
    }

-- ---- counts of which none is made

over : (a b c : Bool) (l m t : ℕ) (stop : LotStop) → stop_by a b c l m t ≡ Some stop → IsLimit (excess_by a b c l m t) (limit_stop stop)
over false b c l m t stop h = subst (λ (s : LotStop). IsLimit (Some (Categories, l)) (limit_stop s)) (same_Some _ _ h) refl
over true false c l m t stop h = subst (λ (s : LotStop). IsLimit (Some (Lots, m)) (limit_stop s)) (same_Some _ _ h) refl
over true true false l m t stop h = subst (λ (s : LotStop). IsLimit (Some (States, t)) (limit_stop s)) (same_Some _ _ h) refl
over true true true l m t stop h = absurd (cc h)

-- a supply isn't made if its counts exceed a limit
pub stops-over : (supply : List ℕ) (stop : LotStop) → IsOffer supply → supply_stop supply ≡ Some stop → IsLimit (supply_excess supply) (limit_stop stop)
stops-over supply stop offer stops =
    subst (λ (e : Option Excess). IsLimit e (limit_stop stop)) (sym (excess-is supply))
    (over (nat_le (length supply) 6) (nat_le (sum supply) 40) (nat_le (states_of supply) 16384) (length supply) (sum supply) (states_of supply) stop
    (sym (stop-is supply offer) ∙ stops))
