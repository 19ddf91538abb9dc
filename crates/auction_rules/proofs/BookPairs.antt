-- What is in the book of a log: the packages of a bidder's pairs, each with its greatest amount there.
use Rattle.std.proofs.Common.{Bool, List, Some, [], ap, arith, false, inl, inr, length, map, not, refl, subst, suc, sym, true, zero, ℕ, ◌&&◌, ◌||◌}
use Rattle.std.proofs.Common.{◌∙◌, ◌∷◌, ◌≡◌, ◌≤◌}
use Rattle.std.specs.Prelude.{if◌then◌else◌, filter, Contains}
use Rattle.std.specs.List.{AllByRecursion}
use Rattle.std.proofs.lemmas.Bool.{cases_Bool, cases_lt, cond-true, cond-false, or_left, or_right}
use Rattle.auction_model.specs.Book.{BookBid}
use Rattle.auction_rules.specs.declared.Event.{Event}
use Rattle.auction_model.specs.PackageTests.{is_before, is_empty, is_same}
use Rattle.auction_rules.specs.Terms.{Terms}
use Rattle.auction_rules.specs.Caps.{greatest}
use Rattle.auction_rules.specs.Lines.{placed, in_order, priced}
use Rattle.auction_rules.specs.Replies.{has_entry, admitted, standing}
use Rattle.auction_rules.specs.BookOfLog.{bid_lots, best_bids, pairs_of, bids_in_book, IsGreatestFor}
use Rattle.auction_model.proofs.PackageTestLaws.{is_same-refl, is_same-true}
use Rattle.auction_rules.proofs.BookCaps.{among, among-in_order}
use Rattle.auction_rules.proofs.BookLaws.{lots-priced}
use Rattle.auction_rules.proofs.LawfulBids.{each-weaker, each-some, each-in_order, each-priced}

-- an entry for a package is a package among those of the bids
has_entry-among : (lots : List ℕ) (bids : List BookBid) → has_entry lots bids ≡ among lots (map bid_lots bids)
has_entry-among lots [] = refl
has_entry-among lots (b ∷ bids) = ap (λ (h : Bool). is_same b.lots lots || h) (has_entry-among lots bids)

-- one package more, if it isn't empty
among-if : (lots p : List ℕ) (rest : List (List ℕ)) (empty : Bool) → among lots (if not empty then p ∷ rest else rest) ≡
    ((not empty && is_same p lots) || among lots rest)
among-if lots p rest true = refl
among-if lots p rest false = refl

-- the test of emptiness before or after the search
either_way : (empty_p empty same later : Bool) → (same ≡ true → empty_p ≡ empty) → ((not empty_p && same) || (not empty && later)) ≡
    (not empty && (same || later))
either_way true true same later agree = refl
either_way false false same later agree = refl
either_way true false true later agree = absurd (cc (agree refl))
either_way true false false later agree = refl
either_way false true true later agree = absurd (cc (agree refl))
either_way false true false later agree = refl

none_there : (empty : Bool) → false ≡ (not empty && false)
none_there true = refl
none_there false = refl

-- the packages that aren't empty
among-some : (lots : List ℕ) (ps : List (List ℕ)) → among lots (filter (λ lots. not (is_empty lots)) ps) ≡ (not (is_empty lots) && among lots ps)
among-some lots [] = none_there (is_empty lots)
among-some lots (p ∷ ps) =
    among-if lots p (filter (λ lots. not (is_empty lots)) ps) (is_empty p)
    ∙ ap (λ (later : Bool). (not (is_empty p) && is_same p lots) || later) (among-some lots ps)
    ∙ either_way (is_empty p) (is_empty lots) (is_same p lots) (among lots ps) (λ same. ap is_empty (is_same-true p lots same))

has_entry-best_bids : (lots : List ℕ) (bids : List BookBid) → has_entry lots (best_bids bids) ≡ (not (is_empty lots) && has_entry lots bids)
has_entry-best_bids lots bids =
    let some : List (List ℕ) = filter (λ lots. not (is_empty lots)) (map bid_lots bids) in
    has_entry-among lots (best_bids bids)
    ∙ ap (among lots) (lots-priced (λ lots. greatest lots bids) (in_order some))
    ∙ among-in_order lots some
    ∙ among-some lots (map bid_lots bids)
    ∙ ap (λ (there : Bool). not (is_empty lots) && there) (sym (has_entry-among lots bids))

-- a package is in the book if it isn't empty and is among the pairs
pub has_entry-bids_in_book : (terms : Terms) (log : List Event) (j : ℕ) (lots : List ℕ)
    → has_entry lots (bids_in_book terms log j) ≡ (not (is_empty lots) && has_entry lots (pairs_of (standing terms (admitted terms log) j)))
has_entry-bids_in_book terms log j lots = has_entry-best_bids lots (pairs_of (standing terms (admitted terms log) j))

-- ---- the greatest amounts

-- no amount for the package is above the greatest
greatest-most : (lots : List ℕ) (m : ℕ) (bids : List BookBid) → greatest lots bids ≤ m → AllByRecursion (λ (b : BookBid). b.lots ≡ lots → b.amount ≤ m) bids
greatest-most lots m [] up = tt
greatest-most lots m (b ∷ bids) up = (
  (λ same.
      let own : (if is_same b.lots lots then b.amount else 0) ≡ b.amount = cond-true (is_same b.lots lots) b.amount 0
      (subst (λ (q : List ℕ). is_same b.lots q ≡ true) same (is_same-refl b.lots)) in
      omega (arith, own, up)),
  greatest-most lots m bids (omega (arith, up)),
)

-- a package without an entry has no amount
greatest-none : (lots : List ℕ) (bids : List BookBid) → has_entry lots bids ≡ false → greatest lots bids ≡ 0
greatest-none lots [] none = refl
greatest-none lots (b ∷ bids) none =
    elim (cases_Bool (is_same b.lots lots)) [
      | inl same ↦ let no : true ≡ false = rw same at none in cc
      | inr apart ↦ let later : has_entry lots bids ≡ false = rw apart at none in rw apart (omega (arith, greatest-none lots bids later))
    ]

contains-later : (b : BookBid) (bids : List BookBid) (x : BookBid) → Contains bids x → Contains (b ∷ bids) x
contains-later b bids x there = (suc there.0, omega (arith, there.1), there.2)

contains-first : (b : BookBid) (bids : List BookBid) (x : BookBid) → b ≡ x → Contains (b ∷ bids) x
contains-first b bids x same = (zero, omega arith, same)

abbrev bid_with : List ℕ → ℕ → BookBid
bid_with lots amount = record { lots = lots; amount = amount }

bid-parts : (b : BookBid) (lots : List ℕ) (amount : ℕ) → b.lots ≡ lots → b.amount ≡ amount → b ≡ bid_with lots amount
bid-parts b lots amount same as_much = rw (sym same, sym as_much) refl

-- the greatest amount for a package with an entry is that of an entry
greatest-there : (lots : List ℕ) (bids : List BookBid) → has_entry lots bids ≡ true → Contains bids (bid_with lots (greatest lots bids))
greatest-there lots [] there = cc
greatest-there lots (b ∷ bids) there =
    elim (cases_Bool (is_same b.lots lots)) [
      | inr apart ↦
          let own : (if is_same b.lots lots then b.amount else 0) ≡ 0 = cond-false (is_same b.lots lots) b.amount 0 apart in
          let later : has_entry lots bids ≡ true = rw apart at there in
          let same : greatest lots bids ≡ greatest lots (b ∷ bids) = omega (arith, own) in
          subst (λ (n : ℕ). Contains (b ∷ bids) (bid_with lots n)) same (contains-later b bids (bid_with lots (greatest lots bids))
          (greatest-there lots bids later))
      | inl same ↦
          let own : (if is_same b.lots lots then b.amount else 0) ≡ b.amount = cond-true (is_same b.lots lots) b.amount 0 same in
          elim (cases_Bool (has_entry lots bids)) [
            | inr none ↦ let first : b.amount ≡ greatest lots (b ∷ bids) = omega (arith, own, greatest-none lots bids none) in
                contains-first b bids (bid_with lots (greatest lots (b ∷ bids)))
                (bid-parts b lots (greatest lots (b ∷ bids)) (is_same-true b.lots lots same) first)
            | inl more ↦ elim (cases_lt b.amount (greatest lots bids)) [
              | inl high ↦ let later : greatest lots bids ≡ greatest lots (b ∷ bids) = omega (arith, own, high) in
                  subst (λ (n : ℕ). Contains (b ∷ bids) (bid_with lots n)) later
                  (contains-later b bids (bid_with lots (greatest lots bids)) (greatest-there lots bids more))
              | inr low ↦ let first : b.amount ≡ greatest lots (b ∷ bids) = omega (arith, own, low) in
                  contains-first b bids (bid_with lots (greatest lots (b ∷ bids)))
                  (bid-parts b lots (greatest lots (b ∷ bids)) (is_same-true b.lots lots same) first)
            ]
          ]
    ]

-- each package of a list has an entry in it
entries-there : (bids : List BookBid) → AllByRecursion (λ (lots : List ℕ). has_entry lots bids ≡ true) (map bid_lots bids)
entries-there [] = tt
entries-there (b ∷ bids) = (
  or_left (is_same b.lots b.lots) (has_entry b.lots bids) (is_same-refl b.lots),
  each-weaker (λ (lots : List ℕ). has_entry lots bids ≡ true) (λ (lots : List ℕ). has_entry lots (b ∷ bids) ≡ true) (map bid_lots bids)
      (λ lots there. or_right (is_same b.lots lots) (has_entry lots bids) there) (entries-there bids),
)

-- each bid of the book is a pair, and the greatest for its package
best_bids-greatest : (bids : List BookBid) → AllByRecursion (IsGreatestFor bids) (best_bids bids)
best_bids-greatest bids =
    let Q : List ℕ → Type 0 = λ lots. IsGreatestFor bids (bid_with lots (greatest lots bids)) in
    let there : AllByRecursion (λ (lots : List ℕ). has_entry lots bids ≡ true) (map bid_lots bids) = entries-there bids in
    let each : AllByRecursion Q (map bid_lots bids) = each-weaker (λ (lots : List ℕ). has_entry lots bids ≡ true) Q (map bid_lots bids)
    (λ lots there. record { there = greatest-there lots bids there; most = greatest-most lots (greatest lots bids) bids (omega arith) }) there in
    each-priced (IsGreatestFor bids) (λ lots. greatest lots bids) (in_order (filter (λ lots. not (is_empty lots)) (map bid_lots bids)))
    (each-in_order Q (filter (λ lots. not (is_empty lots)) (map bid_lots bids)) (each-some Q (map bid_lots bids) each))

-- each bid in a log's book is a clock bid or a submitted entry, and none of these is greater for its package
pub bids_in_book-greatest : (terms : Terms) (log : List Event) (j : ℕ) → AllByRecursion (IsGreatestFor (pairs_of (standing terms (admitted terms log) j)))
    (bids_in_book terms log j)
bids_in_book-greatest terms log j = best_bids-greatest (pairs_of (standing terms (admitted terms log) j))

-- ---- no bid is empty, and there are no more than pairs

-- of packages from which the empty ones are taken out, none is empty
pub some-some : (ps : List (List ℕ)) → AllByRecursion (λ (lots : List ℕ). is_empty lots ≡ false) (filter (λ lots. not (is_empty lots)) ps)
some-some [] = tt
some-some (p ∷ ps) =
    elim (cases_Bool (is_empty p)) [
      | inl empty ↦ rw empty (some-some ps)
      | inr some ↦ rw some (some, some-some ps)
    ]

-- no bid in the book of a log is for the empty package
pub bids_in_book-some : (terms : Terms) (log : List Event) (j : ℕ) → AllByRecursion (λ (b : BookBid). is_empty b.lots ≡ false) (bids_in_book terms log j)
bids_in_book-some terms log j =
    let bids : List BookBid = pairs_of (standing terms (admitted terms log) j) in
    let some : List (List ℕ) = filter (λ lots. not (is_empty lots)) (map bid_lots bids) in
    each-priced (λ (b : BookBid). is_empty b.lots ≡ false) (λ lots. greatest lots bids) (in_order some)
    (each-in_order (λ (lots : List ℕ). is_empty lots ≡ false) some (some-some (map bid_lots bids)))

placed-few : (x : List ℕ) (ps : List (List ℕ)) → length (placed x ps) ≤ suc (length ps)
placed-few x [] = omega arith
placed-few x (p ∷ ps) =
    elim (cases_Bool (is_same x p)) [
      | inl same ↦ rw same (omega arith)
      | inr apart ↦ elim (cases_Bool (is_before x p)) [
        | inl first ↦ rw (apart, first) (omega arith)
        | inr later ↦ rw (apart, later) (omega (arith, placed-few x ps))
      ]
    ]

in_order-few : (ps : List (List ℕ)) → length (in_order ps) ≤ length ps
in_order-few [] = omega arith
in_order-few (p ∷ ps) = omega (arith, placed-few p (in_order ps), in_order-few ps)

some-few : (ps : List (List ℕ)) → length (filter (λ lots. not (is_empty lots)) ps) ≤ length ps
some-few [] = omega arith
some-few (p ∷ ps) =
    elim (cases_Bool (is_empty p)) [
      | inl empty ↦ rw empty (omega (arith, some-few ps))
      | inr some ↦ rw some (omega (arith, some-few ps))
    ]

priced-count : (amount : List ℕ → ℕ) (ps : List (List ℕ)) → length (priced (λ p. Some (amount p)) ps) ≡ length ps
priced-count amount [] = refl
priced-count amount (p ∷ ps) = omega (arith, priced-count amount ps)

lots-count : (bids : List BookBid) → length (map bid_lots bids) ≡ length bids
lots-count [] = refl
lots-count (b ∷ bids) = omega (arith, lots-count bids)

-- there are no more bids in a book than bids of which it is made
pub best_bids-few : (bids : List BookBid) → length (best_bids bids) ≤ length bids
best_bids-few bids =
    let some : List (List ℕ) = filter (λ lots. not (is_empty lots)) (map bid_lots bids) in
    omega (arith, priced-count (λ p. greatest p bids) (in_order some), in_order-few some, some-few (map bid_lots bids), lots-count bids)
