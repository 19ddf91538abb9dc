-- The terms of a table without a fault, within the limits, are those of an award.
use Rattle.std.proofs.Common.{◌≡◌, ℕ, ◌≤◌, ◌<◌, ◌^◌, Bool, true, false, List, [], ◌∷◌, ◌++◌, length, map, Option, Some, None, refl, sym, subst, ◌∙◌, arith}
use Rattle.std.specs.Prelude.{◌&&◌, not, nat_le, is_some, unwrap_or, codes}
use Rattle.std.specs.Option.{option_or}
use Rattle.std.specs.List.{All, AllByRecursion}
use Rattle.std.proofs.lemmas.Bool.{false≢true, and_parts}
use Rattle.std.proofs.lemmas.Bool.Decides.{nat_tests}
use Rattle.std.proofs.lemmas.List.{length-map}
use Rattle.std.proofs.lemmas.List.Elements.{All-from_recursion}
use Rattle.toml.specs.Data.{Members, get_member}
use Rattle.book_grammar.specs.BookForm.{IsOffer}
use Rattle.auction_rules.specs.Step.{last_or}
use Rattle.auction_rules.specs.Terms.{Terms}
use Rattle.lots.specs.Limits.{IsSupply}
use Rattle.bid_book.proofs.SupplyLaws.{none_first, none_second}
use Rattle.award_file.specs.Award.{IsAward, IsSteps, IsEntrant, IsCap, AreThresholds, RiseAbove, AreNamedApart, steps_of}
use Rattle.award_file.specs.Reading.{IsStated}
use Rattle.award_file.specs.Stated.{has_other, name_at, list_of}
use Rattle.award_file.specs.Walk as walk
use Rattle.award_file.specs.Walk.{Fault, Category, tables_fault, first_fault, unless, entry_after}
use Rattle.award_file.proofs.FaultLaws.{three-hold, four-hold, five-hold, number-in, row-at, holding-at, name-in, list-count, list-passes}

-- ---- lists

-- what holds of each table that passes holds of each table of a list without a fault
module _ {A : Type 0} (fault : List A → Members → Option Fault) (stated : Members → A) (P : Members → Type 0)
    (says : (before : List A) (t : Members) → fault before t ≡ None → P t) where
  each : (before : List A) (ts : List Members) → tables_fault fault stated before ts ≡ None → AllByRecursion P ts
  each before [] h = tt
  each before (t ∷ ts) h = (says before t (none_first _ _ h), each (before ++ stated t ∷ []) ts (none_second _ _ h))

-- what holds of each item holds of what is made of it
made : {A B : Type 0} (P : A → Type 0) (Q : B → Type 0) (f : A → B) → ((x : A) → P x → Q (f x)) → (xs : List A) → AllByRecursion P xs
    → AllByRecursion Q (map f xs)
made P Q f says [] all = tt
made P Q f says (x ∷ xs) all = (says x all.0, made P Q f says xs all.1)

same-count : {A B C : Type 0} (f : A → B) (g : B → C) (xs : List A) → length (map g (map f xs)) ≡ length xs
same-count f g xs = length-map (map f xs) g ∙ length-map xs f

-- ---- categories

abbrev IsCategory : Category → Type 0
IsCategory c = ((1 ≤ c.supply) × (c.supply ≤ 999)) × (c.points ≤ 10000) × (c.reserve ≤ 2 ^ 36)

category-is : (before : List (List ℕ)) (t : Members) → walk.category_fault before t ≡ None → IsCategory (walk.category_of t)
category-is before t h =
    let all = five-hold (walk.is_new before (name_at t)) (is_some (walk.supply_at t)) (is_some (walk.points_at t)) (is_some (walk.reserve_at t))
    (not (has_other walk.category_keys t)) 4 5 6 7 18 (entry_after (length before)) h in
    (number-in 1 999 (codes "supply") t all.1, (number-in 0 10000 (codes "points") t all.2).1, (number-in 0 (2 ^ 36) (codes "reserve") t all.3).1)

categories-are : (t : Members) → walk.categories_fault t ≡ None → (0 < length (walk.categories_of t)) × AllByRecursion IsCategory (walk.categories_of t)
categories-are t h =
    let list = list-passes 3 (tables_fault walk.category_fault walk.name_or_none []) (walk.categories_at t) h in
    let tables = unwrap_or (walk.categories_at t) [] in
    let some : nat_le 1 (length tables) ≡ true = list-count (nat_le 1) (list_of (get_member (codes "category") t)) list.0 in
    let count = length-map tables walk.category_of in (
      grind (arith, nat_tests),
      made (λ c. IsCategory (walk.category_of c)) IsCategory walk.category_of (λ c is. is) tables
          (each walk.category_fault walk.name_or_none (λ c. IsCategory (walk.category_of c)) category-is [] tables list.1),
    )

-- ---- steps

last-more : (d : ℕ) (xs : List ℕ) (x : ℕ) → last_or d (xs ++ x ∷ []) ≡ x
last-more d [] x = refl
last-more d (y ∷ ys) x = last-more y ys x

-- an excess of 1 to 1,000 that may follow these
abbrev IsNext : List ℕ → ℕ → Type 0
IsNext [] excess = excess ≡ 1
IsNext (e ∷ es) excess = last_or e es < excess

next-is : (before : List ℕ) (found : Option ℕ) → walk.comes_next before found ≡ true → (is_some found ≡ true) × IsNext before (unwrap_or found 0)
next-is before None h = absurd (false≢true h)
next-is [] (Some e) h = (refl, grind (arith, nat_tests))
next-is (d ∷ ds) (Some e) h = (refl, grind (arith, nat_tests))

abbrev IsStep : List ℕ → Members → Type 0
IsStep before t = IsNext before (walk.excess_or_none t) × (walk.excess_or_none t ≤ 1000) × (1 ≤ unwrap_or (walk.permille_at t) 0)
    × (unwrap_or (walk.permille_at t) 0 ≤ 1000)

step-is : (before : List ℕ) (t : Members) → walk.step_fault before t ≡ None → IsStep before t
step-is before t h =
    let all = three-hold (walk.comes_next before (walk.excess_at t)) (is_some (walk.permille_at t)) (not (has_other walk.step_keys t)) 13 14 18
    (entry_after (length before)) h in
    let next = next-is before (walk.excess_at t) all.0 in
    let permille = number-in 1 1000 (codes "permille") t all.1 in
    (next.1, (number-in 1 1000 (codes "excess") t next.0).1, permille.0, permille.1)

steps-rise : (e : ℕ) (es : List ℕ) (ts : List Members) → tables_fault walk.step_fault walk.excess_or_none (e ∷ es) ts ≡ None
    → RiseAbove (last_or e es) (map walk.threshold_of ts)
steps-rise e es [] h = tt
steps-rise e es (t ∷ ts) h =
    let here = step-is (e ∷ es) t (none_first (walk.step_fault (e ∷ es) t) (tables_fault walk.step_fault walk.excess_or_none
    (e ∷ (es ++ walk.excess_or_none t ∷ [])) ts) h) in
    let later = steps-rise e (es ++ walk.excess_or_none t ∷ []) ts (none_second (walk.step_fault (e ∷ es) t)
    (tables_fault walk.step_fault walk.excess_or_none (e ∷ (es ++ walk.excess_or_none t ∷ [])) ts) h) in
    (here.0, here.1, here.2, here.3, subst (λ low. RiseAbove low (map walk.threshold_of ts)) (last-more e es (walk.excess_or_none t)) later)

steps-are : (ts : List Members) → 0 < length ts → tables_fault walk.step_fault walk.excess_or_none [] ts ≡ None → AreThresholds (map walk.threshold_of ts)
steps-are [] some h = absurd (omega arith)
steps-are (t ∷ ts) some h =
    let here = step-is [] t (none_first (walk.step_fault [] t) (tables_fault walk.step_fault walk.excess_or_none (walk.excess_or_none t ∷ []) ts) h) in
    let later = steps-rise (walk.excess_or_none t) [] ts (none_second (walk.step_fault [] t)
    (tables_fault walk.step_fault walk.excess_or_none (walk.excess_or_none t ∷ []) ts) h) in
    (here.0, (omega (arith, here.0), here.1, here.2, here.3, later))

-- ---- bidders and caps

bidder-is : (categories : ℕ) (before : List (List ℕ)) (t : Members) → walk.bidder_fault categories before t ≡ None
    → IsEntrant categories (walk.entrant_of categories t)
bidder-is categories before t h =
    let all = four-hold (walk.is_new before (name_at t)) (is_some (walk.eligibility_at t)) (is_some (walk.holding_at categories t))
    (not (has_other walk.bidder_keys t)) 9 10 11 18 (entry_after (length before)) h in
    let holding = holding-at categories (get_member (codes "holding") t) all.2 in
    record {
      name = name-in before t all.0;
      eligibility = (number-in 0 1000000 (codes "eligibility") t all.1).1;
      holding = holding.0;
      most_held = All-from_recursion (λ n. n ≤ 999) (walk.entrant_of categories t).holding holding.1;
    }

cap-is : (categories : ℕ) (before : List ℕ) (t : Members) → walk.cap_fault categories before t ≡ None → IsCap categories (walk.cap_of categories t)
cap-is categories before t h =
    let all = three-hold (is_some (walk.weights_at categories t)) (is_some (walk.limit_at t)) (not (has_other walk.cap_keys t)) 16 17 18
    (entry_after (length before)) h in
    let weights = row-at categories 1000 (get_member (codes "weight") t) all.0 in
    record {
      weights = weights.0;
      most_weight = All-from_recursion (λ w. w ≤ 1000) (walk.cap_of categories t).weights weights.1;
      limit = (number-in 0 1000000 (codes "limit") t all.1).1;
    }

-- ---- the whole

top-passes : (a b c : Bool) (f g h i : Option Fault) → first_fault (unless a 1 0 ∷ unless b 2 0 ∷ f ∷ g ∷ h ∷ i ∷ unless c 18 0 ∷ []) ≡ None
    → (a ≡ true) × (b ≡ true) × (f ≡ None) × (g ≡ None) × (h ≡ None) × (i ≡ None)
top-passes false b c f g h i none = absurd (cc none)
top-passes true false c f g h i none = absurd (cc none)
top-passes true true c f g h i none =
    let second = none_second f (option_or g (option_or h (option_or i (first_fault (unless c 18 0 ∷ []))))) none in
    let third = none_second g (option_or h (option_or i (first_fault (unless c 18 0 ∷ [])))) second in
    let fourth = none_second h (option_or i (first_fault (unless c 18 0 ∷ []))) third in
    (refl, refl, none_first f _ none, none_first g _ second, none_first h _ third, none_first i _ fourth)

-- the parts of a table without a fault
parts-pass : (t : Members) → walk.award_fault t ≡ None → (is_some (walk.version_at t) ≡ true) × (is_some (walk.tick_at t) ≡ true)
    × (walk.categories_fault t ≡ None) × (walk.bidders_fault (walk.category_count t) t ≡ None)
    × (walk.steps_fault t ≡ None) × (walk.caps_fault (walk.category_count t) t ≡ None)
parts-pass t h =
    top-passes (is_some (walk.version_at t)) (is_some (walk.tick_at t)) (not (has_other walk.top_keys t)) (walk.categories_fault t)
    (walk.bidders_fault (walk.category_count t) t) (walk.steps_fault t) (walk.caps_fault (walk.category_count t) t) h

-- a table without a fault has at least one category, each of 1 to 999 lots
pub offer-of : (t : Members) → walk.award_fault t ≡ None → IsOffer (walk.terms_of t).supply
offer-of t h =
    let categories = categories-are t (parts-pass t h).2 in
    let count = length-map (walk.categories_of t) (λ c. c.supply) in
    record {
      some = omega (arith, count, categories.0);
      each = made IsCategory (λ n. (1 ≤ n) × (n ≤ 999)) (λ c. c.supply) (λ c is. is.0) (walk.categories_of t) categories.1;
    }

steps-of : (t : Members) → walk.award_fault t ≡ None → IsSteps (steps_of (walk.terms_of t))
steps-of t h =
    let parts = parts-pass t h in
    let tick = number-in 1 (2 ^ 36) (codes "tick") t parts.1 in
    let list = list-passes 12 (tables_fault walk.step_fault walk.excess_or_none []) (walk.steps_at t) parts.4 in
    let tables = unwrap_or (walk.steps_at t) [] in
    let allowed = list-count (λ n. nat_le 1 n && nat_le n 20) (list_of (get_member (codes "step") t)) list.0 in
    let counts = and_parts (nat_le 1 (length tables)) (nat_le (length tables) 20) allowed in
    let some : 0 < length tables = let low : nat_le 1 (length tables) ≡ true = counts.0 in grind (arith, nat_tests) in
    let few : length tables ≤ 20 = let high : nat_le (length tables) 20 ≡ true = counts.1 in grind (arith, nat_tests) in
    let count = length-map tables walk.threshold_of in
    record {
      some_tick = tick.0;
      tick_top = tick.1;
      few = omega (arith, count, few);
      thresholds = steps-are tables some list.1;
    }

bidders-of : (t : Members) → walk.award_fault t ≡ None → All (IsEntrant (walk.category_count t)) (walk.terms_of t).bidders
bidders-of t h =
    let n = walk.category_count t in
    let list = list-passes 8 (tables_fault (walk.bidder_fault n) walk.name_or_none []) (walk.bidders_at t) (parts-pass t h).3 in
    let tables = unwrap_or (walk.bidders_at t) [] in
    All-from_recursion (IsEntrant n) (walk.entrants_of n t) (made (λ b. IsEntrant n (walk.entrant_of n b)) (IsEntrant n) (walk.entrant_of n) (λ b is. is) tables
    (each (walk.bidder_fault n) walk.name_or_none (λ b. IsEntrant n (walk.entrant_of n b)) (bidder-is n) [] tables list.1))

caps-of : (t : Members) → walk.award_fault t ≡ None → (length (walk.terms_of t).caps ≤ 20) × All (IsCap (walk.category_count t)) (walk.terms_of t).caps
caps-of t h =
    let n = walk.category_count t in
    let list = list-passes 15 (tables_fault (walk.cap_fault n) walk.limit_or_none []) (walk.caps_at t) (parts-pass t h).5 in
    let tables = unwrap_or (walk.caps_at t) [] in
    let allowed : nat_le (length tables) 20 ≡ true = list-count (λ m. nat_le m 20) (list_of (get_member (codes "cap") t)) list.0 in
    let few : length tables ≤ 20 = grind (arith, nat_tests) in
    let count = length-map tables (walk.cap_of n) in (
      omega (arith, count, few),
      All-from_recursion (IsCap n) (walk.caps_of n t) (made (λ b. IsCap n (walk.cap_of n b)) (IsCap n) (walk.cap_of n) (λ b is. is) tables
          (each (walk.cap_fault n) walk.limit_or_none (λ b. IsCap n (walk.cap_of n b)) (cap-is n) [] tables list.1)),
    )

-- the names of the bidders of a table without a fault are each new
pub names-of : (t : Members) → walk.award_fault t ≡ None
    → tables_fault (walk.bidder_fault (walk.category_count t)) walk.name_or_none [] (unwrap_or (walk.bidders_at t) []) ≡ None
names-of t h =
    let n = walk.category_count t in
    (list-passes 8 (tables_fault (walk.bidder_fault n) walk.name_or_none []) (walk.bidders_at t) (parts-pass t h).3).1

-- a table without a fault, whose terms are within the limits and name their bidders apart, states a lawful award
pub award-of : (t : Members) → walk.award_fault t ≡ None → IsSupply (walk.terms_of t).supply → length (walk.terms_of t).bidders ≤ 16
    → AreNamedApart (walk.terms_of t).bidders → IsAward (walk.terms_of t)
award-of t h supply few apart =
    let categories = (categories-are t (parts-pass t h).2).1 in
    let count : length (walk.terms_of t).supply ≡ walk.category_count t = same-count walk.category_of (λ c. c.supply) (unwrap_or (walk.categories_at t) []) in
    let caps = caps-of t h in
    record {
      version = number-in 1 2 (codes "version") t (parts-pass t h).0;
      supply = supply;
      points = same-count walk.category_of (λ c. c.points) (unwrap_or (walk.categories_at t) []) ∙ sym count;
      most_points = All-from_recursion (λ p. p ≤ 10000) (walk.terms_of t).points
          (made IsCategory (λ p. p ≤ 10000) (λ c. c.points) (λ c is. is.1) (walk.categories_of t) categories);
      reserves = same-count walk.category_of (λ c. c.reserve) (unwrap_or (walk.categories_at t) []) ∙ sym count;
      most_reserve = All-from_recursion (λ p. p ≤ 2 ^ 36) (walk.terms_of t).reserves
          (made IsCategory (λ p. p ≤ 2 ^ 36) (λ c. c.reserve) (λ c is. is.2) (walk.categories_of t) categories);
      steps = steps-of t h;
      few_bidders = few;
      bidders = subst (λ n. All (IsEntrant n) (walk.terms_of t).bidders) (sym count) (bidders-of t h);
      apart = apart;
      few_caps = caps.0;
      caps = subst (λ n. All (IsCap n) (walk.terms_of t).caps) (sym count) caps.1;
    }

-- the supply of stated terms has at least one category, each of 1 to 999 lots
pub offer-stated : (terms : Terms) → IsStated terms → IsOffer terms.supply
offer-stated terms h = subst (λ (x : Terms). IsOffer x.supply) h.is (offer-of h.stated h.passes)

-- the tick and the thresholds of stated terms keep what a step table keeps
pub steps-stated : (terms : Terms) → IsStated terms → IsSteps (steps_of terms)
steps-stated terms h = subst (λ (x : Terms). IsSteps (steps_of x)) h.is (steps-of h.stated h.passes)
