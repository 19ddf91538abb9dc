-- Lists that are the same except for one amount.
use Rattle.std.proofs.Common.{◌≡◌, ℕ, zero, suc, ◌<◌, List, [], ◌∷◌, length, map, get_or, set, refl, sym, ap, subst, ◌∙◌, arith}
use Rattle.std.proofs.lemmas.List.{get_or-map, length-map, map-set}
use Rattle.auction_model.specs.Book.{BookBid}
use Rattle.bid_desk.specs.Differences.{IsSameButAt, SetsAmount}
use Rattle.bid_desk.specs.Slots.{entry_of, IsTakenAt}
use Rattle.lots.specs.declared.«package».Bid.{Bid}
use Rattle.relative_cap.specs.OwnRounds.{bid_value}

-- a list is the same as itself
but-self : (list : List BookBid) (place : ℕ) → place < length list → IsSameButAt place list list
but-self [] place inside = absurd (omega arith)
but-self (b ∷ list) zero inside = (refl, refl)
but-self (b ∷ list) (suc place) inside = (refl, but-self list place (omega arith))

-- the amount at that place may be set again
but-set : (list others : List BookBid) (place amount : ℕ) (entry : BookBid) → IsSameButAt place list others → get_or list place entry ≡ entry
    → IsSameButAt place (set list place (entry_of entry.lots amount)) others
but-set [] others place amount entry but was = absurd but
but-set (b ∷ list) [] place amount entry but was = absurd but
but-set (b ∷ list) (c ∷ others) zero amount entry but was = (ap (λ (e : BookBid). e.lots) (sym was) ∙ but.0, but.1)
but-set (b ∷ list) (c ∷ others) (suc place) amount entry but was = (but.0, but-set list others place amount entry but.1 was)

-- lists that were the same, once an amount is set
pub same-set : (list others new : List BookBid) (place amount : ℕ) → list ≡ others → SetsAmount list place amount new → IsSameButAt place new others
same-set list others new place amount same sets =
    let own : IsSameButAt place (set list place (entry_of sets.entry.lots amount)) list = but-set list list place amount sets.entry
    (but-self list place sets.inside) sets.was in
    subst (λ (l : List BookBid). IsSameButAt place l others) (sym sets.set) (subst (IsSameButAt place (set list place (entry_of sets.entry.lots amount))) same
    own)

-- lists that were so already
pub but-again : (list others new : List BookBid) (place amount : ℕ) → IsSameButAt place list others → SetsAmount list place amount new
    → IsSameButAt place new others
but-again list others new place amount but sets =
    subst (λ (l : List BookBid). IsSameButAt place l others) (sym sets.set) (but-set list others place amount sets.entry but sets.was)

-- the place is in both
pub but-inside : (list others : List BookBid) (place : ℕ) → IsSameButAt place list others → (place < length list) × (place < length others)
but-inside [] others place but = absurd but
but-inside (b ∷ list) [] place but = absurd but
but-inside (b ∷ list) (c ∷ others) zero but = (omega arith, omega arith)
but-inside (b ∷ list) (c ∷ others) (suc place) but = let rest = but-inside list others place but.1 in (omega (arith, rest.0), omega (arith, rest.1))

-- with the amount of the one list the other is the same
pub but-copied : (list others : List BookBid) (place : ℕ) (own other : BookBid) → IsSameButAt place list others → get_or list place own ≡ own
    → get_or others place other ≡ other
    → set others place (entry_of other.lots own.amount) ≡ list
but-copied [] others place own other but is was = absurd but
but-copied (b ∷ list) [] place own other but is was = absurd but
but-copied (b ∷ list) (c ∷ others) zero own other but is was =
    let lots : other.lots ≡ b.lots = ap (λ (e : BookBid). e.lots) (sym was) ∙ sym but.0 in
    let amount : own.amount ≡ b.amount = ap (λ (e : BookBid). e.amount) (sym is) in
    let entry : entry_of other.lots own.amount ≡ b = λ i. record { lots = lots i; amount = amount i } in
    ap (λ (e : BookBid). e ∷ others) entry ∙ ap (λ (l : List BookBid). b ∷ l) (sym but.1)
but-copied (b ∷ list) (c ∷ others) (suc place) own other but is was =
    ap (λ (e : BookBid). e ∷ set others place (entry_of other.lots own.amount)) (sym but.0) ∙ ap (λ (l : List BookBid). b ∷ l)
    (but-copied list others place own other but.1 is was)

-- ---- of the entries themselves

-- the entry that was read is the one among the values
value-there : (list : List Bid) (place : ℕ) (e : Bid) → place < length list → e ≡ get_or list place e
    → get_or (map bid_value list) place (bid_value e) ≡ bid_value e
value-there list place e inside at = get_or-map bid_value list place e (bid_value e) inside ∙ ap bid_value (sym at)

-- the entry for a package has its lots
pub own-lots : (list : List Bid) (lots : List ℕ) (place : ℕ) (e : Bid) → IsTakenAt (map bid_value list) lots place → e ≡ get_or list place e
    → e.«package» ≡ lots
own-lots list lots place e is at =
    let inside : place < length list = omega (arith, is.inside, length-map list bid_value) in
    ap (λ (b : BookBid). b.lots) (sym (value-there list place e inside at)) ∙ is.own (bid_value e)

-- an amount that is set in the list is set among the values
pub sets-amount : (list : List Bid) (place amount : ℕ) (e : Bid) → place < length (map bid_value list) → e ≡ get_or list place e
    → SetsAmount (map bid_value list) place amount (map bid_value (set list place (record { «package» = e.«package»; amount = amount })))
sets-amount list place amount e inside at = record {
  inside = inside;
  entry = bid_value e;
  was = value-there list place e (omega (arith, inside, length-map list bid_value)) at;
  set = map-set bid_value list place (record { «package» = e.«package»; amount = amount });
}

-- the place is inside the lists of entries
pub entries-inside : (list others : List Bid) (place : ℕ) → IsSameButAt place (map bid_value list) (map bid_value others)
    → (place < length list) × (place < length others)
entries-inside list others place but =
    let inside = but-inside (map bid_value list) (map bid_value others) place but in
    (omega (arith, inside.0, length-map list bid_value), omega (arith, inside.1, length-map others bid_value))

-- with the amount of the draft the submitted list is the draft list
pub amount-submitted : (drafts submitted : List Bid) (place : ℕ) (d s : Bid) → IsSameButAt place (map bid_value drafts) (map bid_value submitted)
    → d ≡ get_or drafts place d → s ≡ get_or submitted place s
    → map bid_value drafts ≡ map bid_value (set submitted place (record { «package» = s.«package»; amount = d.amount }))
amount-submitted drafts submitted place d s but own was =
    let inside = entries-inside drafts submitted place but in
    sym (map-set bid_value submitted place (record { «package» = s.«package»; amount = d.amount })
    ∙ but-copied (map bid_value drafts) (map bid_value submitted) place (bid_value d) (bid_value s) but (value-there drafts place d inside.0 own)
    (value-there submitted place s inside.1 was))
