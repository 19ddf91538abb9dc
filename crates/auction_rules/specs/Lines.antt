-- Lists of lines, the newest line first, and what is found in them by looking through the whole list.
use Rattle.std.specs.Prelude.{ℕ, suc, Bool, true, false, ◌&&◌, List, [], ◌∷◌, Option, Some, None, filter_map, unwrap_or, ◌==◌, if◌then◌else◌}
use Rattle.auction_rules.specs.declared.Event.{Event}
use Rattle.auction_rules.specs.declared.Event.TheVariants.{Bid, Draft, Drop, Submit, Close}
use Rattle.auction_model.specs.Book.{BookBid}
use Rattle.auction_model.specs.PackageTests.{is_before, is_same}
use Rattle.auction_model.specs.Entries.{with_entry, without_entry}
use Rattle.auction_rules.specs.Terms.{Terms, no_lots}

abbrev pub is_close : Event → Bool
is_close Close = true
is_close (Bid k lots) = false
is_close (Draft k lots amount) = false
is_close (Drop k lots) = false
is_close (Submit k) = false

-- the bidder of a line, and 0 for a close
abbrev pub line_bidder : Event → ℕ
line_bidder (Bid k lots) = k
line_bidder (Draft k lots amount) = k
line_bidder (Drop k lots) = k
line_bidder (Submit k) = k
line_bidder Close = 0

-- the package that the line bids for bidder j in the clock
abbrev pub bid_by : ℕ → Event → Option (List ℕ)
bid_by j (Bid k lots) = if k == j then Some lots else None
bid_by j (Draft k lots amount) = None
bid_by j (Drop k lots) = None
bid_by j (Submit k) = None
bid_by j Close = None

-- what the line does to j's draft for a package: Some (Some amount) if it sets it, Some None if it drops it
abbrev pub draft_word : ℕ → List ℕ → Event → Option (Option ℕ)
draft_word j lots (Draft k other amount) = if (k == j) && is_same other lots then Some (Some amount) else None
draft_word j lots (Drop k other) = if (k == j) && is_same other lots then Some None else None
draft_word j lots (Bid k other) = None
draft_word j lots (Submit k) = None
draft_word j lots Close = None

-- the package that the line drafts for bidder j
abbrev pub drafted : ℕ → Event → Option (List ℕ)
drafted j (Draft k lots amount) = if k == j then Some lots else None
drafted j (Drop k lots) = None
drafted j (Bid k lots) = None
drafted j (Submit k) = None
drafted j Close = None

-- the newest of a list
abbrev pub newest : {A : Type 0} → List A → Option A
newest [] = None
newest (x ∷ xs) = Some x

-- how many closes there are
abbrev pub closes : List Event → ℕ
closes [] = 0
closes (e ∷ earlier) = if is_close e then suc (closes earlier) else closes earlier

-- the lines of section r: the lines after r - 1 closes
abbrev pub section : ℕ → List Event → List Event
section r [] = []
section r (e ∷ earlier) = if suc (closes earlier) == r then e ∷ section r earlier else section r earlier

-- the package of the newest bid of bidder j in section r, and the empty package if there is none
abbrev pub held_in : Terms → List Event → ℕ → ℕ → List ℕ
held_in terms lines r j = unwrap_or (newest (filter_map (bid_by j) (section r lines))) (no_lots terms)

-- the amount of j's draft for a package: the amount of its newest draft line, if no newer line drops it
abbrev pub draft_of : ℕ → List Event → List ℕ → Option ℕ
draft_of j lines lots = unwrap_or (newest (filter_map (draft_word j lots) lines)) None

-- the package inserted in its place among packages in order, each once
abbrev pub placed : List ℕ → List (List ℕ) → List (List ℕ)
placed lots [] = lots ∷ []
placed lots (p ∷ rest) = if is_same lots p then p ∷ rest else if is_before lots p then lots ∷ p ∷ rest else p ∷ placed lots rest

-- the packages in order, each once
abbrev pub in_order : List (List ℕ) → List (List ℕ)
in_order [] = []
in_order (p ∷ rest) = placed p (in_order rest)

-- the list with an entry for the package before it, if an amount is given
abbrev pub entry_before : List ℕ → Option ℕ → List BookBid → List BookBid
entry_before lots None rest = rest
entry_before lots (Some a) rest = record { lots = lots; amount = a } ∷ rest

-- the packages that have an amount, with it
abbrev pub priced : (List ℕ → Option ℕ) → List (List ℕ) → List BookBid
priced amount [] = []
priced amount (p ∷ rest) = entry_before p (amount p) (priced amount rest)

-- the draft list of bidder j, in the order of packages
abbrev pub draft_list : ℕ → List Event → List BookBid
draft_list j lines = priced (draft_of j lines) (in_order (filter_map (drafted j) lines))

abbrev pub is_submit : ℕ → Event → Bool
is_submit j (Submit k) = k == j
is_submit j (Bid k lots) = false
is_submit j (Draft k lots amount) = false
is_submit j (Drop k lots) = false
is_submit j Close = false

-- the draft list at the newest submit line of bidder j, and the empty list if there is none
abbrev pub submitted_list : ℕ → List Event → List BookBid
submitted_list j [] = []
submitted_list j (e ∷ earlier) = if is_submit j e then draft_list j earlier else submitted_list j earlier

-- what an admitted line of the bidder's own changes of its draft list
abbrev pub drafts_after : Event → List BookBid → List BookBid
drafts_after (Bid k lots) drafts = drafts
drafts_after (Draft k lots amount) drafts = with_entry lots amount drafts
drafts_after (Drop k lots) drafts = without_entry lots drafts
drafts_after (Submit k) drafts = drafts
drafts_after Close drafts = drafts
