-- What a record of a log states. A record is the list of its fields, each a list of bytes.
use Rattle.std.specs.Prelude.{◌≡◌, ℕ, ◌≤◌, Option, Some, None, List, [], ◌∷◌, ◌++◌, codes, length}
use Rattle.std.specs.List.{AllByRecursion}
use Rattle.std.specs.Fmt.{decimal}
use Rattle.limits.specs.declared.TheConstants.{MOST_STATED_AMOUNT, MOST_STATED_COUNT}
use Rattle.book_grammar.specs.BookForm.{IsName}
use Rattle.line_format.specs.Decimals.{decimals_text}
use Rattle.auction_rules.specs.Terms.{Terms}
use Rattle.auction_rules.specs.declared.Event.{Event}
use Rattle.auction_rules.specs.declared.Event.TheVariants.{Bid, Close, Draft, Drop, Submit}
use Rattle.award_file.specs.Award.{number_of}

-- counts, with one space between each two
abbrev pub counts_text : List ℕ → List ℕ
counts_text [] = []
counts_text (n ∷ ns) = decimal n ++ decimals_text ns

-- the counts of a package: one for each category
abbrev pub AreCounts : ℕ → List ℕ → Type 0
AreCounts categories lots = (length lots ≡ categories) × AllByRecursion (λ n. n ≤ MOST_STATED_COUNT) lots

-- the name of bidder k of the award, and of a stranger if k is 0
abbrev pub IsNameOf : Terms → ℕ → List ℕ → Type 0
IsNameOf terms k name = IsName name × (k ≡ number_of terms name)

-- the four fields of a record: kind, bidder, package, amount
abbrev pub four : List ℕ → List ℕ → List ℕ → List ℕ → List (List ℕ)
four kind bidder lots amount = kind ∷ bidder ∷ lots ∷ amount ∷ []

-- a record with these fields states the event
abbrev pub States : Terms → List (List ℕ) → Event → Type 0
States terms fields (Bid k lots) =
    (name : List ℕ) × IsNameOf terms k name × AreCounts (length terms.supply) lots
    × (fields ≡ four (codes "bid") name (counts_text lots) [])
States terms fields (Draft k lots amount) =
    (name : List ℕ) × IsNameOf terms k name × AreCounts (length terms.supply) lots × (amount ≤ MOST_STATED_AMOUNT)
    × (fields ≡ four (codes "draft") name (counts_text lots) (decimal amount))
States terms fields (Drop k lots) =
    (name : List ℕ) × IsNameOf terms k name × AreCounts (length terms.supply) lots
    × (fields ≡ four (codes "drop") name (counts_text lots) [])
States terms fields (Submit k) = (name : List ℕ) × IsNameOf terms k name × (fields ≡ four (codes "submit") name [] [])
States terms fields Close = fields ≡ four (codes "close") [] [] []

-- a record with these fields states no event
abbrev pub StatesNone : Terms → List (List ℕ) → Type 0
StatesNone terms fields = (e : Event) → States terms fields e → ⊥

-- what a record with these fields states
abbrev pub ReadsAs : Terms → List (List ℕ) → Option Event → Type 0
ReadsAs terms fields (Some e) = States terms fields e
ReadsAs terms fields None = StatesNone terms fields
