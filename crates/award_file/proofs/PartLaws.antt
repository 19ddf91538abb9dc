-- The parts that are read, and the terms that they make.
use Rattle.std.proofs.Common.{◌≡◌, ℕ, ◌≤◌, ◌<◌, List, [], ◌∷◌, map, Option, Some, None, refl, sym, ap, ◌∙◌, arith}
use Rattle.std.specs.Option.{option_or}
use Rattle.std.proofs.lemmas.Bool.Decides.{nat_tests}
use Rattle.book_grammar.specs.BookLines.{Excess}
use Rattle.limits.specs.declared.LimitKind.TheVariants.{Bidders}
use Rattle.auction_rules.specs.Terms.{Entrant, SpectrumCap}
use Rattle.award_file.specs.Walk.{Category, terms_from}
use Rattle.award_file.specs.declared.read.AwardStop.{AwardStop}
use Rattle.award_file.specs.declared.read.AwardStop.TheVariants.{Text, Field, Limit, Memory}
use Rattle.award_file.specs.declared.read.Parts.{Parts}
use Rattle.award_file.specs.declared.read.categories.Category.{Category as Read}
use Rattle.award_file.specs.Award.{Steps, steps_with, terms_with}
use Rattle.award_file.specs.Fields.{cap_values}
use Rattle.award_file.specs.Parts.{category_values, counts, terms_value}
use Rattle.award_file.specs.Reading.{IsLimit, bidders_excess}

-- the supplies of the categories are the counts of lots that were read
pub counts-are : (read : List Read) → map (λ c. c.supply) (category_values read) ≡ counts read
counts-are [] = refl
counts-are (c ∷ cs) = ap (λ (ns : List ℕ). c.supply ∷ ns) (counts-are cs)

points-are : (read : List Read) → map (λ c. c.points) (category_values read) ≡ map (λ c. c.points) read
points-are [] = refl
points-are (c ∷ cs) = ap (λ (ns : List ℕ). c.points ∷ ns) (points-are cs)

reserves-are : (read : List Read) → map (λ c. c.reserve) (category_values read) ≡ map (λ c. c.reserve) read
reserves-are [] = refl
reserves-are (c ∷ cs) = ap (λ (ns : List ℕ). c.reserve ∷ ns) (reserves-are cs)

-- the award of the parts has their terms
pub parts-make : (p : Parts) (supply points reserves : List ℕ) (steps : Steps) → supply ≡ counts p.categories.items
    → points ≡ map (λ c. c.points) p.categories.items
    → reserves ≡ map (λ c. c.reserve) p.categories.items → steps ≡ steps_with p.tick p.thresholds.items
    → terms_with p.version supply points reserves steps p.bidders (cap_values p.caps.items) ≡ terms_value p
parts-make p supply points reserves steps a b c d =
    rw (a ∙ sym (counts-are p.categories.items), b ∙ sym (points-are p.categories.items), c ∙ sym (reserves-are p.categories.items), d) refl

-- the same parts make the same terms
pub terms-same : (v w m n : ℕ) (cs ds : List Category) (ts us : List (ℕ × ℕ)) (rs ss : List SpectrumCap) (bs es : List Entrant) → v ≡ w → m ≡ n → cs ≡ ds
    → ts ≡ us → rs ≡ ss → bs ≡ es
    → terms_from v m cs ts rs bs ≡ terms_from w n ds us ss es
terms-same v w m n cs ds ts us rs ss bs es a b c d e f = rw (a, b, c, d, e, f) refl

-- the stop at the first of two limits
pub first-limits : (f g : Option Excess) (stop : AwardStop) → IsLimit f stop → IsLimit (option_or f g) stop
first-limits f g Text h = absurd h
first-limits f g (Field number entry) h = absurd h
first-limits f g (Limit kind count) h = rw h
first-limits f g Memory h = tt

-- the limit of bidders, if no other is exceeded
pub bidders-exceed : (f : Option Excess) (n : ℕ) → f ≡ None → 16 < n → option_or f (bidders_excess n) ≡ Some (Bidders, n)
bidders-exceed f n none many = let e : bidders_excess n ≡ Some (Bidders, n) = grind (arith, nat_tests) in rw none e

-- if no other limit is exceeded and there are at most 16 bidders, no limit is
pub none-exceeded : (f : Option Excess) (n : ℕ) → f ≡ None → n ≤ 16 → option_or f (bidders_excess n) ≡ None
none-exceeded f n none few = let e : bidders_excess n ≡ None = grind (arith, nat_tests) in rw none e
