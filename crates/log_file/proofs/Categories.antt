-- The packages of a log have the award's number of categories.
use Rattle.std.specs.Prelude.{ℕ, List, [], ◌∷◌}
use Rattle.std.specs.List.{AllByRecursion}
use Rattle.auction_rules.specs.Lawful.{HasCategories}
use Rattle.auction_rules.specs.Terms.{Terms}
use Rattle.auction_rules.specs.declared.Event.{Event}
use Rattle.auction_rules.specs.declared.Event.TheVariants.{Bid, Close, Draft, Drop, Submit}
use Rattle.log_file.specs.LogForm.{States}
use Rattle.log_file.specs.LogReading.{AllState}

-- that of a record that states an event
one-package : (terms : Terms) (fields : List (List ℕ)) (e : Event) → States terms fields e → HasCategories terms e
one-package terms fields (Bid k lots) (name, is, counts, form) = counts.0
one-package terms fields (Draft k lots amount) (name, is, counts, few, form) = counts.0
one-package terms fields (Drop k lots) (name, is, counts, form) = counts.0
one-package terms fields (Submit k) states = tt
one-package terms fields Close states = tt

-- those of all records
pub all-packages : (terms : Terms) (rows : List (List (List ℕ))) (events : List Event) → AllState terms rows events
    → AllByRecursion (HasCategories terms) events
all-packages terms [] [] all = tt
all-packages terms [] (e ∷ events) all = absurd all
all-packages terms (r ∷ rows) [] all = tt
all-packages terms (r ∷ rows) (e ∷ events) all = (one-package terms r e all.0, all-packages terms rows events all.1)
