-- What a text's supply exceeds, and where the making of a supply stops.
use Rattle.std.proofs.Common.{⊎_elim, ◌≡◌, ℕ, ◌+◌, ◌≤◌, ◌<◌, true, false, Option, Some, None, List, [], ◌∷◌, length, refl, sym, ap, ◌∙◌, arith, leb}
use Rattle.std.specs.Prelude.{sum, nat_le, nat_lt, ◌&&◌, ◌==◌, if◌then◌else◌}
use Rattle.std.specs.Option.{option_or}
use Rattle.std.specs.List.{AllByRecursion, position_or_len}
use Rattle.std.proofs.lemmas.Bool.Decides.{nat_tests, leb_tells}
use Rattle.std.proofs.lemmas.List.Sums.{sum_by-cons}
use Rattle.auction_model.specs.Place.{states_of}
use Rattle.book_grammar.specs.BookForm.{IsOffer}
use Rattle.book_grammar.specs.BookLines.{Excess, supply_excess}
use Rattle.limits.specs.declared.LimitKind.{LimitKind}
use Rattle.limits.specs.declared.LimitKind.TheVariants.{Categories, Lots, States}
use Rattle.lots.specs.declared.LotStop.{LotStop}
use Rattle.lots.specs.declared.LotStop.TheVariants as lots
use Rattle.lots.specs.Limits.{IsSupply, categories_stop, zero_stop, lots_stop, states_stop, supply_stop}
use Rattle.line_format.specs.declared.stop.LineStop.TheVariants.{Limit}
use Rattle.bid_book.specs.Stops.{line_stop}

-- if one value or else another is none, the one is none
pub none_first : {O : Type 0} (a b : Option O) → option_or a b ≡ None → a ≡ None
none_first None b is = refl
none_first (Some x) b is = absurd (cc)

-- if one value or else another is none, the other is none
pub none_second : {O : Type 0} (a b : Option O) → option_or a b ≡ None → b ≡ None
none_second None b is = is
none_second (Some x) b is = absurd (cc)

-- what a supply of that many categories, lots and states exceeds
abbrev excess_of : ℕ → ℕ → ℕ → Option Excess
excess_of l m t = if nat_lt 6 l then Some (Categories, l) else if nat_lt 40 m then Some (Lots, m) else if nat_lt 16384 t then Some (States, t) else None

-- where its making stops, if no category has none
abbrev stop_of : ℕ → ℕ → ℕ → Option LotStop
stop_of l m t =
    option_or (if nat_lt 0 l && nat_le l 6 then None else Some (lots.Categories l))
    (option_or (if nat_le m 40 then None else Some (lots.Lots m)) (if nat_le t 16384 then None else Some (lots.States t)))

few_tests : (l m t : ℕ) → excess_of l m t ≡ None → (l ≤ 6) × (m ≤ 40) × (t ≤ 16384)
few_tests l m t none = (grind (arith, nat_tests), grind (arith, nat_tests), grind (arith, nat_tests))

none_exceeds : (l m t : ℕ) → l ≤ 6 → m ≤ 40 → t ≤ 16384 → excess_of l m t ≡ None
none_exceeds l m t a b c = grind (arith, nat_tests)

none_stops : (l m t : ℕ) → 0 < l → l ≤ 6 → m ≤ 40 → t ≤ 16384 → stop_of l m t ≡ None
none_stops l m t some a b c = grind (arith, nat_tests)

-- what keeps the rules of a supply exceeds no limit
pub supply_within : (supply : List ℕ) → IsSupply supply → supply_excess supply ≡ None
supply_within supply is = none_exceeds (length supply) (sum supply) (states_of supply) is.categories is.lots is.states

-- no count is 0
pub no_zero : (supply : List ℕ) → AllByRecursion (λ n. (1 ≤ n) × (n ≤ 999)) supply → position_or_len (λ n. n == 0) supply ≡ length supply
no_zero [] all = refl
no_zero (n ∷ ns) all = grind (arith, nat_tests, no_zero ns all.1, all.0)

-- an offer has a lot in each category
pub zero_none : (supply : List ℕ) → IsOffer supply → zero_stop supply ≡ None
zero_none supply offer = grind (arith, nat_tests, no_zero supply offer.each)

all_there : (ns : List ℕ) → length ns ≤ position_or_len (λ n. n == 0) ns → sum ns ≤ 40 → AllByRecursion (λ n. (1 ≤ n) × (n ≤ 999)) ns
all_there [] none few = tt
all_there (n ∷ ns) none few =
    let parts : sum (n ∷ ns) ≡ n + sum ns = sum_by-cons (λ (m : ℕ). m) n ns in
    ((grind (arith, nat_tests), omega arith), all_there ns (grind (arith, nat_tests)) (omega arith))

zero_tells : (supply : List ℕ) → zero_stop supply ≡ None → length supply ≤ position_or_len (λ n. n == 0) supply
zero_tells supply none = grind (arith, nat_tests)

-- a supply has a category, and 1 to 999 lots in each
pub offer_of : (supply : List ℕ) → IsSupply supply → IsOffer supply
offer_of supply is =
    let zero : zero_stop supply ≡ None = none_first (zero_stop supply) _ (none_second (categories_stop supply) _ is.allowed) in
    record { some = is.some; each = all_there supply (zero_tells supply zero) is.lots }

stop_is : (supply : List ℕ) → IsOffer supply → supply_stop supply ≡ stop_of (length supply) (sum supply) (states_of supply)
stop_is supply offer = ap (λ (z : Option LotStop). option_or (categories_stop supply) (option_or z (option_or (lots_stop supply) (states_stop supply))))
    (zero_none supply offer)

-- an offer that exceeds no limit keeps the rules of a supply
pub supply_kept : (supply : List ℕ) → IsOffer supply → supply_excess supply ≡ None → IsSupply supply
supply_kept supply offer none =
    let few = few_tests (length supply) (sum supply) (states_of supply) none in
    record {
      allowed = stop_is supply offer ∙ none_stops (length supply) (sum supply) (states_of supply) offer.some few.0 few.1 few.2;
      some = offer.some;
      categories = few.0;
      lots = few.1;
      states = few.2;
    }

-- what is exceeded where the making stops
pub record Over (excess : Option Excess) (stop : LotStop) : Type 0 where
  pub kind : LimitKind
  pub count : ℕ
  pub exceeds : excess ≡ Some (kind, count)
  pub line : line_stop stop ≡ Limit (kind, count)

over : (l m t : ℕ) (stop : LotStop) → 0 < l → stop_of l m t ≡ Some stop → Over (excess_of l m t) stop
over l m t stop some stops =
    ⊎_elim
    (λ (few : (leb l 6 ≡ true) × (l ≤ 6)). ⊎_elim
    (λ (lots_few : (leb m 40 ≡ true) × (m ≤ 40)). ⊎_elim
    (λ (states_few : (leb t 16384 ≡ true) × (t ≤ 16384)). let none = none_stops l m t some few.1 lots_few.1 states_few.1 in let e : None ≡ Some stop =
    sym none ∙ stops in absurd (cc e))
    (λ (many : (leb t 16384 ≡ false) × (16384 < t)).
    let is : stop_of l m t ≡ Some (lots.States t) = grind (arith, nat_tests) in
    let same : stop ≡ lots.States t = cc in
    record { kind = States; count = t; exceeds = grind (arith, nat_tests); line = ap line_stop same })
    (leb_tells t 16384))
    (λ (many : (leb m 40 ≡ false) × (40 < m)).
    let is : stop_of l m t ≡ Some (lots.Lots m) = grind (arith, nat_tests) in
    let same : stop ≡ lots.Lots m = cc in
    record { kind = Lots; count = m; exceeds = grind (arith, nat_tests); line = ap line_stop same })
    (leb_tells m 40))
    (λ (many : (leb l 6 ≡ false) × (6 < l)).
    let is : stop_of l m t ≡ Some (lots.Categories l) = grind (arith, nat_tests) in
    let same : stop ≡ lots.Categories l = cc in
    record { kind = Categories; count = l; exceeds = grind (arith, nat_tests); line = ap line_stop same })
    (leb_tells l 6)

-- where the making of an offer's supply stops, the offer exceeds the limit that its line stops at
pub supply_over : (supply : List ℕ) (stop : LotStop) → IsOffer supply → supply_stop supply ≡ Some stop → Over (supply_excess supply) stop
supply_over supply stop offer stops = over (length supply) (sum supply) (states_of supply) stop offer.some (sym (stop_is supply offer) ∙ stops)
