-- The numbers that the bids of one bidder have before and after a bid is put in, taken out or replaced.
use Rattle.std.specs.Prelude.{IsTrue, List, None, [], false, get_or, length, nat_le, nat_lt, pos, refl, suc, true, zero, ℕ, ℤ, ◌+◌, ◌-ℤ◌, ◌-◌, ◌<◌}
use Rattle.std.specs.Prelude.{◌∷◌, ◌≡◌, ◌≢◌, ◌≤◌, ◌⊎◌}
use Rattle.std.proofs.Common.{inl, inr, set, sym, ◌∙◌, ap, subst, arith}
use Rattle.std.specs.List.{insert, remove}
use Rattle.std.proofs.Math.ListN.{length-set}
use Rattle.std.proofs.lemmas.Bool.{cases_Bool, cases_eq, cases_lt, false≢true}
use Rattle.std.proofs.lemmas.Bool.Decides.{nat_tests}
use Rattle.std.proofs.lemmas.List.{get_or-set_other}
use Rattle.std.proofs.lemmas.List.Edits.{get_or-insert_above, get_or-insert_below, get_or-remove_above, get_or-remove_below, length-insert, length-remove}
use Rattle.auction_model.specs.Book.{Book, BookBid, bid_of, bids_of, net_of, no_bid}
use Rattle.auction_model.specs.Entries.{with_entry}
use Rattle.auction_model.specs.Market.{is_number_before}
use Rattle.auction_model.specs.Package.{cost_of}
use Rattle.auction_model.specs.PackageTests.{is_before, is_same}
use Rattle.auction_model.proofs.OrderLaws.{before-greater, before-none, before-says}
use Rattle.auction_model.proofs.PackageTestLaws.{is_same-refl, not_same-sym}
use Rattle.review.specs.Edits.{amount_for}
use Rattle.review.specs.Reviewed.{moved_down, moved_up}

-- the bid of a number, and none at 0
abbrev pub at : List BookBid → ℕ → BookBid
at bids zero = no_bid
at bids (suc i) = get_or bids i no_bid

pub bid-at : (book : Book) (j i : ℕ) → bid_of book j i ≡ at (bids_of book j) i
bid-at book j zero = refl
bid-at book j (suc i) = refl

cost-none : (reserves : List ℕ) → cost_of reserves [] ≡ 0
cost-none [] = refl
cost-none (r ∷ reserves) = refl

-- what a bid is worth, from the bid alone
abbrev pub worth_of : List ℕ → BookBid → ℤ
worth_of reserves b = pos b.amount -ℤ pos (cost_of reserves b.lots)

pub net-at : (book : Book) (j i : ℕ) → net_of book j i ≡ worth_of book.reserves (bid_of book j i)
net-at book j zero = let none : cost_of book.reserves [] ≡ 0 = cost-none book.reserves in rw none refl
net-at book j (suc i) = refl

-- ---- numbers with one more among them

-- a number, and the one that it becomes if number `put` is put in
abbrev pub Shifted : ℕ → ℕ → ℕ → Type 0
Shifted put low high = ((low < put) × (high ≡ low)) ⊎ ((put ≤ low) × (high ≡ low + 1))

shifted-back : (put g h e f : ℕ) → Shifted put g h → Shifted put e f → h < f → g < e
shifted-back put g h e f (inl a) (inl b) less = omega (arith, a.0, a.1, b.0, b.1, less)
shifted-back put g h e f (inl a) (inr b) less = omega (arith, a.0, a.1, b.0, b.1, less)
shifted-back put g h e f (inr a) (inl b) less = omega (arith, a.0, a.1, b.0, b.1, less)
shifted-back put g h e f (inr a) (inr b) less = omega (arith, a.0, a.1, b.0, b.1, less)

shifted-on : (put g h e f : ℕ) → Shifted put g h → Shifted put e f → g < e → h < f
shifted-on put g h e f (inl a) (inl b) less = omega (arith, a.0, a.1, b.0, b.1, less)
shifted-on put g h e f (inl a) (inr b) less = omega (arith, a.0, a.1, b.0, b.1, less)
shifted-on put g h e f (inr a) (inl b) less = omega (arith, a.0, a.1, b.0, b.1, less)
shifted-on put g h e f (inr a) (inr b) less = omega (arith, a.0, a.1, b.0, b.1, less)

shifted-one : (put g h e : ℕ) → Shifted put g h → Shifted put e h → g ≡ e
shifted-one put g h e (inl a) (inl b) = omega (arith, a.0, a.1, b.0, b.1)
shifted-one put g h e (inl a) (inr b) = absurd (omega (arith, a.0, a.1, b.0, b.1))
shifted-one put g h e (inr a) (inl b) = absurd (omega (arith, a.0, a.1, b.0, b.1))
shifted-one put g h e (inr a) (inr b) = omega (arith, a.0, a.1, b.0, b.1)

shifted-same : (put g h f : ℕ) → Shifted put g h → Shifted put g f → h ≡ f
shifted-same put g h f (inl a) (inl b) = omega (arith, a.0, a.1, b.0, b.1)
shifted-same put g h f (inl a) (inr b) = absurd (omega (arith, a.0, a.1, b.0, b.1))
shifted-same put g h f (inr a) (inl b) = absurd (omega (arith, a.0, a.1, b.0, b.1))
shifted-same put g h f (inr a) (inr b) = omega (arith, a.0, a.1, b.0, b.1)

-- number 0 stays
shifted-none : (put g h : ℕ) → 0 < put → Shifted put g h → ((g ≡ 0 → h ≡ 0) × (h ≡ 0 → g ≡ 0))
shifted-none put g h some (inl a) = (λ e. omega (arith, a.1, e), λ e. omega (arith, a.1, e))
shifted-none put g h some (inr a) = (λ e. absurd (omega (arith, some, a.0, e)), λ e. absurd (omega (arith, a.1, e)))

before-from : (i j : ℕ) → 0 < i → (j ≡ 0) ⊎ (i < j) → IsTrue (is_number_before i j)
before-from zero j some after = absurd (omega (arith, some))
before-from (suc i) zero some after = before-none i
before-from (suc i) (suc j) some (inl none) = absurd (omega (arith, none))
before-from (suc i) (suc j) some (inr low) = before-greater i j (omega (arith, low))

shifted-order_back : (put g h e f : ℕ) → 0 < put → Shifted put g h → Shifted put e f → IsTrue (is_number_before h f) → IsTrue (is_number_before g e)
shifted-order_back put g h e f some a b t =
    let s = before-says h f t in
    let own : 0 < g = elim (cases_eq g 0) [ inl none ↦ absurd (omega (arith, s.0, (shifted-none put g h some a).0 none)) | inr other ↦ omega (arith, other) ] in
    before-from g e own (elim s.1 [ inl none ↦ inl ((shifted-none put e f some b).1 none) | inr low ↦ inr (shifted-back put g h e f a b low) ])

shifted-order_on : (put g h e f : ℕ) → 0 < put → Shifted put g h → Shifted put e f → IsTrue (is_number_before g e) → IsTrue (is_number_before h f)
shifted-order_on put g h e f some a b t =
    let s = before-says g e t in
    let own : 0 < h = elim (cases_eq h 0) [ inl none ↦ absurd (omega (arith, s.0, (shifted-none put g h some a).1 none)) | inr other ↦ omega (arith, other) ] in
    before-from h f own (elim s.1 [ inl none ↦ inl ((shifted-none put e f some b).0 none) | inr low ↦ inr (shifted-on put g h e f a b low) ])

pub up-shifted : (put g : ℕ) → Shifted put g (moved_up put g)
up-shifted put g =
    elim (cases_Bool (nat_le put g)) [
      | inl late ↦ let low : put ≤ g = grind (arith, nat_tests) in rw late (inr (low, refl))
      | inr early ↦ let low : g < put = grind (arith, nat_tests) in rw early (inl (low, refl))
    ]

pub down-shifted : (gone g : ℕ) → 0 < gone → g ≢ gone → Shifted gone (moved_down gone g) g
down-shifted gone g some other =
    elim (cases_Bool (nat_lt gone g)) [
      | inl late ↦ let low : gone < g = grind (arith, nat_tests) in rw late (inr (omega (arith, low), omega (arith, low)))
      | inr early ↦ let low : g ≤ gone = grind (arith, nat_tests) in rw early (inl (omega (arith, low, other), refl))
    ]

-- ---- the bids of such numbers

put-same : (old : List BookBid) (p : ℕ) (x : BookBid) (g h : ℕ) → p ≤ length old → Shifted (suc p) g h → at old g ≡ at (insert old p x) h
put-same old p x zero zero inside s = refl
put-same old p x zero (suc h) inside (inl a) = absurd (omega (arith, a.1))
put-same old p x zero (suc h) inside (inr a) = absurd (omega (arith, a.0))
put-same old p x (suc g) zero inside (inl a) = absurd (omega (arith, a.1))
put-same old p x (suc g) zero inside (inr a) = absurd (omega (arith, a.1))
put-same old p x (suc g) (suc h) inside (inl a) =
    let same : h ≡ g = omega (arith, a.1) in
    sym (get_or-insert_below old p x no_bid g (omega (arith, a.0)) inside) ∙ ap (λ (n : ℕ). get_or (insert old p x) n no_bid) (sym same)
put-same old p x (suc g) (suc h) inside (inr a) =
    let next : h ≡ g + 1 = omega (arith, a.1) in
    sym (get_or-insert_above old p x no_bid g (omega (arith, a.0)) inside) ∙ ap (λ (n : ℕ). get_or (insert old p x) n no_bid) (sym next)

gone-same : (old : List BookBid) (p g h : ℕ) → p < length old → Shifted (suc p) h g → at old g ≡ at (remove old p) h
gone-same old p zero zero inside s = refl
gone-same old p (suc g) zero inside (inl a) = absurd (omega (arith, a.1))
gone-same old p (suc g) zero inside (inr a) = absurd (omega (arith, a.0))
gone-same old p zero (suc h) inside (inl a) = absurd (omega (arith, a.1))
gone-same old p zero (suc h) inside (inr a) = absurd (omega (arith, a.1))
gone-same old p (suc g) (suc h) inside (inl a) =
    let same : g ≡ h = omega (arith, a.1) in
    ap (λ (n : ℕ). get_or old n no_bid) same ∙ sym (get_or-remove_below old p no_bid h (omega (arith, a.0)) inside)
gone-same old p (suc g) (suc h) inside (inr a) =
    let next : g ≡ h + 1 = omega (arith, a.1) in
    ap (λ (n : ℕ). get_or old n no_bid) next ∙ sym (get_or-remove_above old p no_bid h (omega (arith, a.0)) inside)

set-same : (old : List BookBid) (p : ℕ) (x : BookBid) (g : ℕ) → g ≢ suc p → at old g ≡ at (set old p x) g
set-same old p x zero other = refl
set-same old p x (suc g) other = sym (get_or-set_other old p g x no_bid (λ e. other (ap suc e)))

-- ---- numbers of one bidder that go together

pub record OwnPairs (old bids : List BookBid) (Own : ℕ → ℕ → Type 0) : Type 0 where
  pub known : (g h : ℕ) → Own g h → (g ≤ length old) × (h ≤ length bids)
  pub same : (g h : ℕ) → Own g h → at old g ≡ at bids h
  pub order : (g h e f : ℕ) → Own g h → Own e f → IsTrue (is_number_before h f) → IsTrue (is_number_before g e)
  pub one : (g h e : ℕ) → Own g h → Own e h → g ≡ e

module _ (old : List BookBid) (p : ℕ) (x : BookBid) where
  -- if a bid is put in
  abbrev pub PutPair : ℕ → ℕ → Type 0
  PutPair g h = (g ≤ length old) × Shifted (suc p) g h

  pub put-pairs : p ≤ length old → OwnPairs old (insert old p x) PutPair
  put-pairs inside = record {
    known = λ g h o. (
      o.0,
      elim o.1 [
        | inl a ↦ omega (arith, o.0, a.1, length-insert old p x inside)
        | inr a ↦ omega
            (arith, o.0, a.1, length-insert old p x inside)
      ],
    );
    same = λ g h o. put-same old p x g h inside o.1;
    order = λ g h e f o q t. shifted-order_back (suc p) g h e f (omega arith) o.1 q.1 t;
    one = λ g h e o q. shifted-one (suc p) g h e o.1 q.1;
  }

  pub put-pick : p ≤ length old → (h : ℕ) → h ≤ length (insert old p x) → h ≢ suc p → (g : ℕ) × PutPair g h
  put-pick inside h known other =
      elim (cases_lt h (suc p)) [
        | inl low ↦ (h, (omega (arith, low, inside), inl (low, refl)))
        | inr high ↦ (h - 1, (omega (arith, known, length-insert old p x inside), inr (omega (arith, high, other), omega (arith, high))))
      ]

  -- if one is taken out
  abbrev pub GonePair : ℕ → ℕ → Type 0
  GonePair g h = (g ≤ length old) × Shifted (suc p) h g

  pub gone-pairs : p < length old → OwnPairs old (remove old p) GonePair
  gone-pairs inside = record {
    known = λ g h o. (
      o.0,
      elim o.1 [
        | inl a ↦ omega (arith, a.0, inside, length-remove old p inside)
        | inr a ↦ omega
            (arith, o.0, a.1, length-remove old p inside)
      ],
    );
    same = λ g h o. gone-same old p g h inside o.1;
    order = λ g h e f o q t. shifted-order_on (suc p) h g f e (omega arith) o.1 q.1 t;
    one = λ g h e o q. shifted-same (suc p) h g e o.1 q.1;
  }

  pub gone-pick : p < length old → (h : ℕ) → h ≤ length (remove old p) → (g : ℕ) × GonePair g h
  gone-pick inside h known =
      elim (cases_lt h (suc p)) [
        | inl low ↦ (h, (omega (arith, known, length-remove old p inside), inl (low, refl)))
        | inr high ↦ (h + 1, (omega (arith, known, length-remove old p inside), inr (high, refl)))
      ]

  -- if one is replaced
  abbrev pub SetPair : ℕ → ℕ → Type 0
  SetPair g h = (g ≡ h) × ((h ≢ suc p) × (h ≤ length old))

  pub set-pairs : OwnPairs old (set old p x) SetPair
  set-pairs = record {
    known = λ g h o. (omega (arith, o.0, o.1.1), omega (arith, o.1.1, length-set old p x));
    same = λ g h o. ap (at old) o.0 ∙ set-same old p x h o.1.0;
    order = λ g h e f o q t. subst (λ (n : ℕ). IsTrue (is_number_before n e)) (sym o.0) (subst (λ (n : ℕ). IsTrue (is_number_before h n)) (sym q.0) t);
    one = λ g h e o q. o.0 ∙ sym q.0;
  }

-- ---- the list with a bid put in

none-there : (bids : List BookBid) (lots : List ℕ) (i : ℕ) → amount_for lots bids ≡ None → i < length bids → (get_or bids i no_bid).lots ≡ lots → ⊥
none-there [] lots i none inside own = omega (arith, inside)
none-there (b ∷ bids) lots zero none inside own =
    let same : is_same b.lots lots ≡ true = subst (λ (x : List ℕ). is_same b.lots x ≡ true) own (is_same-refl b.lots) in
    cc (rw same at none)
none-there (b ∷ bids) lots (suc i) none inside own =
    elim (cases_Bool (is_same b.lots lots)) [
      | inl same ↦ cc (rw same at none)
      | inr apart ↦ none-there bids lots i (rw apart at none) (omega (arith, inside)) own
    ]

-- with a bid put in, the one for its package stands if it was put in
abbrev IsPutAt : List BookBid → List ℕ → ℕ → ℕ → Type 0
IsPutAt bids lots amount p = (p ≤ length bids) × (with_entry lots amount bids ≡ insert bids p (record { lots = lots; amount = amount }))

put-first : (b : BookBid) (bids : List BookBid) (lots : List ℕ) (amount p : ℕ) → amount_for lots (b ∷ bids) ≡ None → is_same lots b.lots ≡ false
    → is_before lots b.lots ≡ true
    → p < length (with_entry lots amount (b ∷ bids)) → (get_or (with_entry lots amount (b ∷ bids)) p no_bid).lots ≡ lots → IsPutAt (b ∷ bids) lots amount p
put-first b bids lots amount zero none other early inside own = (omega arith, rw (other, early) refl)
put-first b bids lots amount (suc p) none other early inside own =
    let low : suc p < length (record { lots = lots; amount = amount } ∷ b ∷ bids) = rw (other, early) at inside in
    let there : (get_or (b ∷ bids) p no_bid).lots ≡ lots = rw (other, early) at own in
    absurd (none-there (b ∷ bids) lots p none (omega (arith, low)) there)

put-later : (b : BookBid) (bids : List BookBid) (lots : List ℕ) (amount p : ℕ)
    → ((q : ℕ) → q < length (with_entry lots amount bids) → (get_or (with_entry lots amount bids) q no_bid).lots ≡ lots → IsPutAt bids lots amount q)
    → is_same b.lots lots ≡ false → is_same lots b.lots ≡ false → is_before lots b.lots ≡ false
    → p < length (with_entry lots amount (b ∷ bids)) → (get_or (with_entry lots amount (b ∷ bids)) p no_bid).lots ≡ lots → IsPutAt (b ∷ bids) lots amount p
put-later b bids lots amount zero rest apart other late inside own =
    let there : b.lots ≡ lots = rw (other, late) at own in
    absurd (false≢true (sym apart ∙ subst (λ (x : List ℕ). is_same b.lots x ≡ true) there (is_same-refl b.lots)))
put-later b bids lots amount (suc p) rest apart other late inside own =
    let low : suc p < length (b ∷ with_entry lots amount bids) = rw (other, late) at inside in
    let there : (get_or (with_entry lots amount bids) p no_bid).lots ≡ lots = rw (other, late) at own in
    let behind = rest p (omega (arith, low)) there in
    (omega (arith, behind.0), rw (other, late) (ap (λ (l : List BookBid). b ∷ l) behind.1))

pub put-in : (bids : List BookBid) (lots : List ℕ) (amount p : ℕ) → amount_for lots bids ≡ None → p < length (with_entry lots amount bids)
    → (get_or (with_entry lots amount bids) p no_bid).lots ≡ lots → IsPutAt bids lots amount p
put-in [] lots amount zero none inside own = (omega arith, refl)
put-in [] lots amount (suc p) none inside own = absurd (omega (arith, inside))
put-in (b ∷ bids) lots amount p none inside own =
    elim (cases_Bool (is_same b.lots lots)) [
      | inl same ↦ absurd (cc (rw same at none))
      | inr apart ↦
          let rest_none : amount_for lots bids ≡ None = rw apart at none in
          let other : is_same lots b.lots ≡ false = not_same-sym b.lots lots apart in
          elim (cases_Bool (is_before lots b.lots)) [
            | inl early ↦ put-first b bids lots amount p none other early inside own
            | inr late ↦ put-later b bids lots amount p (λ q low there. put-in bids lots amount q rest_none low there) apart other late inside own
          ]
    ]
