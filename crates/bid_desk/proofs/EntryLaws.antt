-- Lists of entries in the order of their packages: the place of a package in them.
use Rattle.std.proofs.Common.{◌≡◌, ℕ, zero, suc, ◌<◌, ◌≤◌, true, false, List, [], ◌∷◌, length, map, get_or, set, refl, sym, subst, ◌∙◌, ap, arith}
use Rattle.std.specs.List.{All, AllByRecursion, insert, remove}
use Rattle.std.proofs.lemmas.List.{map-set}
use Rattle.auction_model.specs.Book.{BookBid}
use Rattle.auction_model.specs.Package.{cost_of}
use Rattle.auction_rules.specs.BookOfLog.{bid_lots}
use Rattle.auction_model.specs.Entries.{with_entry, without_entry}
use Rattle.auction_model.specs.PackageTests.{AllAfter, InOrder, is_before, is_same}
use Rattle.auction_rules.specs.Replies.{has_entry}
use Rattle.auction_rules.proofs.Drafts.{AllAfter-trans}
use Rattle.auction_model.proofs.PackageTestLaws.{is_before-not_same, is_before-total, is_same-refl, is_same-true, not_same-sym}
use Rattle.auction_rules.proofs.KeptStandings.{absent-before}
use Rattle.bid_book.proofs.PlaceLaws.{not-before}
use Rattle.bid_book.proofs.SettleLaws.{map-insert, map-remove}
use Rattle.lots.specs.declared.«package».Bid.{Bid}
use Rattle.relative_cap.specs.Asked.{IsEntry}
use Rattle.relative_cap.specs.OwnRounds.{bid_value, entry_lots}
use Rattle.relative_cap.specs.Place.{lots_at, IsPlace}
use Rattle.bid_desk.specs.Lists.{IsKept, IsKeptEntry}
use Rattle.bid_desk.specs.Slots.{entry_of, IsTakenAt, IsFreeAt}

-- ---- the conditions of a search, by the values

-- entries that are kept are entries of that many categories
entries-each : (categories : ℕ) (list : List Bid) → AllByRecursion (IsKeptEntry categories) (map bid_value list) → All (IsEntry categories) list
entries-each categories [] each k d inside = absurd (omega arith)
entries-each categories (b ∷ list) each zero d inside = record { held = record { count = each.0.count; few = each.0.few }; amount = each.0.amount }
entries-each categories (b ∷ list) each (suc k) d inside = entries-each categories list each.1 k d (omega arith)

-- what a bidder's list keeps are entries of that many categories
pub kept-entries : (categories : ℕ) (list : List Bid) → IsKept categories (map bid_value list) → All (IsEntry categories) list
kept-entries categories list kept = entries-each categories list kept.each

-- the packages of the entries are those of their values
pub lots-values : (list : List Bid) → map bid_lots (map bid_value list) ≡ map entry_lots list
lots-values [] = refl
lots-values (b ∷ list) = ap (λ (ps : List (List ℕ)). b.«package» ∷ ps) (lots-values list)

-- a bidder's list that is kept has its packages in order
pub kept-order : (categories : ℕ) (list : List Bid) → IsKept categories (map bid_value list) → InOrder (map entry_lots list)
kept-order categories list kept = subst InOrder (lots-values list) kept.order

-- ---- tests of packages

-- being the same goes both ways
same-sym : (p q : List ℕ) → is_same p q ≡ true → is_same q p ≡ true
same-sym p q same = subst (λ (x : List ℕ). is_same x p ≡ true) (is_same-true p q same) (is_same-refl p)

-- ---- the entry at a place, and the place of one that is put in

-- the entry for the package is here, and those before come before it
abbrev IsThere : List BookBid → List ℕ → ℕ → Type 0
IsThere [] lots place = ⊥
IsThere (b ∷ list) lots zero = is_same b.lots lots ≡ true
IsThere (b ∷ list) lots (suc place) = (is_before b.lots lots ≡ true) × IsThere list lots place

-- the entries before this place come before the package, which comes before all others
abbrev IsGap : List BookBid → List ℕ → ℕ → Type 0
IsGap [] lots zero = Unit {0}
IsGap [] lots (suc place) = ⊥
IsGap (b ∷ list) lots zero = is_before lots b.lots ≡ true
IsGap (b ∷ list) lots (suc place) = (is_before b.lots lots ≡ true) × IsGap list lots place

there-inside : (list : List BookBid) (lots : List ℕ) (place : ℕ) → IsThere list lots place → place < length list
there-inside [] lots place there = absurd there
there-inside (b ∷ list) lots zero there = omega arith
there-inside (b ∷ list) lots (suc place) there = omega (arith, there-inside list lots place there.1)

there-entry : (list : List BookBid) (lots : List ℕ) (place : ℕ) → IsThere list lots place → has_entry lots list ≡ true
there-entry [] lots place there = absurd there
there-entry (b ∷ list) lots zero there = rw there refl
there-entry (b ∷ list) lots (suc place) there = rw (is_before-not_same b.lots lots there.0) (there-entry list lots place there.1)

there-put : (list : List BookBid) (lots : List ℕ) (place amount : ℕ) → IsThere list lots place → with_entry lots amount list ≡ set list place
    (entry_of lots amount)
there-put [] lots place amount there = absurd there
there-put (b ∷ list) lots zero amount there = rw (same-sym b.lots lots there) refl
there-put (b ∷ list) lots (suc place) amount there =
    rw (not_same-sym b.lots lots (is_before-not_same b.lots lots there.0), not-before b.lots lots there.0)
    (ap (λ (l : List BookBid). b ∷ l) (there-put list lots place amount there.1))

there-own : (list : List BookBid) (lots : List ℕ) (place : ℕ) → IsThere list lots place → (d : BookBid) → (get_or list place d).lots ≡ lots
there-own [] lots place there d = absurd there
there-own (b ∷ list) lots zero there d = is_same-true b.lots lots there
there-own (b ∷ list) lots (suc place) there d = there-own list lots place there.1 d

-- a list of packages after this one has none
behind-without : (lots : List ℕ) (list : List BookBid) → AllAfter lots (map bid_lots list) → without_entry lots list ≡ list
behind-without lots [] after = refl
behind-without lots (b ∷ list) after = rw (is_before-not_same lots b.lots after.0) (ap (λ (l : List BookBid). b ∷ l) (behind-without lots list after.1))

there-removed : (list : List BookBid) (lots : List ℕ) (place : ℕ) → InOrder (map bid_lots list) → IsThere list lots place
    → without_entry lots list ≡ remove list place
there-removed [] lots place order there = absurd there
there-removed (b ∷ list) lots zero order there =
    let after : AllAfter lots (map bid_lots list) = subst (λ (p : List ℕ). AllAfter p (map bid_lots list)) (is_same-true b.lots lots there) order.0 in
    rw (same-sym b.lots lots there) (behind-without lots list after)
there-removed (b ∷ list) lots (suc place) order there =
    rw (not_same-sym b.lots lots (is_before-not_same b.lots lots there.0)) (ap (λ (l : List BookBid). b ∷ l) (there-removed list lots place order.1 there.1))

gap-last : (list : List BookBid) (lots : List ℕ) (place : ℕ) → IsGap list lots place → place ≤ length list
gap-last [] lots zero gap = omega arith
gap-last [] lots (suc place) gap = absurd gap
gap-last (b ∷ list) lots zero gap = omega arith
gap-last (b ∷ list) lots (suc place) gap = omega (arith, gap-last list lots place gap.1)

gap-none : (list : List BookBid) (lots : List ℕ) (place : ℕ) → InOrder (map bid_lots list) → IsGap list lots place → has_entry lots list ≡ false
gap-none [] lots place order gap = refl
gap-none (b ∷ list) lots zero order gap = absent-before lots (b ∷ list) (gap, AllAfter-trans lots b.lots (map bid_lots list) gap order.0)
gap-none (b ∷ list) lots (suc place) order gap = rw (is_before-not_same b.lots lots gap.0) (gap-none list lots place order.1 gap.1)

gap-put : (list : List BookBid) (lots : List ℕ) (place amount : ℕ) → IsGap list lots place → with_entry lots amount list ≡ insert list place
    (entry_of lots amount)
gap-put [] lots zero amount gap = refl
gap-put [] lots (suc place) amount gap = absurd gap
gap-put (b ∷ list) lots zero amount gap = rw (is_before-not_same lots b.lots gap, gap) refl
gap-put (b ∷ list) lots (suc place) amount gap =
    rw (not_same-sym b.lots lots (is_before-not_same b.lots lots gap.0), not-before b.lots lots gap.0)
    (ap (λ (l : List BookBid). b ∷ l) (gap-put list lots place amount gap.1))

gap-same : (list : List BookBid) (lots : List ℕ) (place : ℕ) → InOrder (map bid_lots list) → IsGap list lots place → without_entry lots list ≡ list
gap-same [] lots place order gap = refl
gap-same (b ∷ list) lots zero order gap = behind-without lots (b ∷ list) (gap, AllAfter-trans lots b.lots (map bid_lots list) gap order.0)
gap-same (b ∷ list) lots (suc place) order gap =
    rw (not_same-sym b.lots lots (is_before-not_same b.lots lots gap.0)) (ap (λ (l : List BookBid). b ∷ l) (gap-same list lots place order.1 gap.1))

-- ---- from the search

there-from : (list : List Bid) (lots : List ℕ) (place : ℕ) → ((k : ℕ) → k < place → is_before (lots_at list k) lots ≡ true) → place < length list
    → is_same (lots_at list place) lots ≡ true → IsThere (map bid_value list) lots place
there-from [] lots place before inside same = absurd (omega arith)
there-from (b ∷ list) lots zero before inside same = same
there-from (b ∷ list) lots (suc place) before inside same =
    (before 0 (omega arith), there-from list lots place (λ k low. before (suc k) (omega arith)) (omega arith) same)

gap-from : (list : List Bid) (lots : List ℕ) (place : ℕ) → ((k : ℕ) → k < place → is_before (lots_at list k) lots ≡ true) → place ≤ length list
    → (place < length list → is_before lots (lots_at list place) ≡ true) → IsGap (map bid_value list) lots place
gap-from [] lots zero before last own = tt
gap-from [] lots (suc place) before last own = absurd (omega arith)
gap-from (b ∷ list) lots zero before last own = own (omega arith)
gap-from (b ∷ list) lots (suc place) before last own =
    (before 0 (omega arith), gap-from list lots place (λ k low. before (suc k) (omega arith)) (omega arith) (λ inside. own (omega arith)))

-- the package is at its place
pub slot-taken :
    (categories : ℕ) (list : List Bid) (lots : List ℕ) (place : ℕ) → IsKept categories (map bid_value list) → IsPlace list lots place
    → place < length list
    → is_same (lots_at list place) lots ≡ true → IsTakenAt (map bid_value list) lots place
slot-taken categories list lots place kept is inside same =
    let there : IsThere (map bid_value list) lots place = there-from list lots place is.before inside same in
    record {
      inside = there-inside (map bid_value list) lots place there;
      entry = there-entry (map bid_value list) lots place there;
      own = there-own (map bid_value list) lots place there;
      put = λ amount. there-put (map bid_value list) lots place amount there;
      removed = there-removed (map bid_value list) lots place kept.order there;
    }

free-by : (categories : ℕ) (list : List Bid) (lots : List ℕ) (place : ℕ) → IsKept categories (map bid_value list) → IsGap (map bid_value list) lots place
    → IsFreeAt (map bid_value list) lots place
free-by categories list lots place kept gap = record {
  last = gap-last (map bid_value list) lots place gap;
  none = gap-none (map bid_value list) lots place kept.order gap;
  put = λ amount. gap-put (map bid_value list) lots place amount gap;
  same = gap-same (map bid_value list) lots place kept.order gap;
}

-- another package is at its place, or its place is the end of the list
pub slot-free :
    (categories : ℕ) (list : List Bid) (lots : List ℕ) (place : ℕ) → IsKept categories (map bid_value list) → IsPlace list lots place
    → (place < length list → is_same (lots_at list place) lots ≡ false) → IsFreeAt (map bid_value list) lots place
slot-free categories list lots place kept is apart =
    free-by categories list lots place kept
    (gap-from list lots place is.before is.last (λ inside. is_before-total (lots_at list place) lots (apart inside) (is.behind place (omega arith) inside)))

-- ---- values of a changed list

-- an entry that is overwritten by one for a copy of the package
pub put-taken : (list : List Bid) (lots copy : List ℕ) (amount place : ℕ) → IsTakenAt (map bid_value list) lots place → copy ≡ lots
    → map bid_value (set list place (record { «package» = copy; amount = amount })) ≡ with_entry lots amount (map bid_value list)
put-taken list lots copy amount place is same =
    map-set bid_value list place (record { «package» = copy; amount = amount })
    ∙ ap (λ (p : List ℕ). set (map bid_value list) place (entry_of p amount)) same
    ∙ sym (is.put amount)

-- an entry for a copy of the package that is put in
pub put-free : (list : List Bid) (lots copy : List ℕ) (amount place : ℕ) → IsFreeAt (map bid_value list) lots place → copy ≡ lots
    → map bid_value (insert list place (record { «package» = copy; amount = amount })) ≡ with_entry lots amount (map bid_value list)
put-free list lots copy amount place is same =
    map-insert bid_value list place (record { «package» = copy; amount = amount })
    ∙ ap (λ (p : List ℕ). insert (map bid_value list) place (entry_of p amount)) same
    ∙ sym (is.put amount)

-- the entry is taken out of a list that was read
pub removed-by : (list read new : List Bid) (lots : List ℕ) (place : ℕ) → read ≡ list → IsTakenAt (map bid_value read) lots place → new ≡ remove list place
    → map bid_value new ≡ without_entry lots (map bid_value list)
removed-by list read new lots place same is by =
    let own : IsTakenAt (map bid_value list) lots place = subst (λ (xs : List Bid). IsTakenAt (map bid_value xs) lots place) same is in
    ap (map bid_value) by ∙ map-remove bid_value list place ∙ sym own.removed

-- entries whose values are kept, if there are as many categories
pub entries-of : (list : List Bid) (values : List BookBid) (categories count : ℕ) → map bid_value list ≡ values → IsKept count values → categories ≡ count
    → All (IsEntry categories) list
entries-of list values categories count is kept same =
    kept-entries categories list (subst (λ (n : ℕ). IsKept n (map bid_value list)) (sym same) (subst (IsKept count) (sym is) kept))

-- and their order
pub order-of : (list : List Bid) (values : List BookBid) (count : ℕ) → map bid_value list ≡ values → IsKept count values → InOrder (map entry_lots list)
order-of list values count is kept = kept-order count list (subst (IsKept count) (sym is) kept)

points-each : (list : List Bid) (points : List ℕ) (most : ℕ) → AllByRecursion (λ (b : BookBid). cost_of points b.lots ≤ most) (map bid_value list)
    → All (λ (b : Bid). cost_of points b.«package» ≤ most) list
points-each [] points most each k d inside = absurd (omega arith)
points-each (b ∷ list) points most each zero d inside = each.0
points-each (b ∷ list) points most each (suc k) d inside = points-each list points most each.1 k d (omega arith)

-- entries whose values have no more points than this
pub points-of : (list : List Bid) (values : List BookBid) (points own : List ℕ) (most top : ℕ) → map bid_value list ≡ values → points ≡ own → most ≡ top
    → AllByRecursion (λ (b : BookBid). cost_of own b.lots ≤ most) values → All (λ (b : Bid). cost_of points b.«package» ≤ top) list
points-of list values points own most top is same bound each =
    let here : AllByRecursion (λ (b : BookBid). cost_of own b.lots ≤ most) (map bid_value list) = subst
    (AllByRecursion (λ (b : BookBid). cost_of own b.lots ≤ most)) (sym is) each in
    let by_points : AllByRecursion (λ (b : BookBid). cost_of points b.lots ≤ most) (map bid_value list)
    = subst (λ (ps : List ℕ). AllByRecursion (λ (b : BookBid). cost_of ps b.lots ≤ most) (map bid_value list)) (sym same) here in
    points-each list points top (subst (λ (n : ℕ). AllByRecursion (λ (b : BookBid). cost_of points b.lots ≤ n) (map bid_value list)) bound by_points)
