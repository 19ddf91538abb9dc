-- The rules at a set from those of each bidder, and a table's places.
use Rattle.std.specs.Prelude.{◌≡◌, ℕ, ◌+◌, ◌-◌, ◌^◌, ◌≤◌, ◌<◌, ◌↔◌, Bool, true, false, IsTrue, List, ℤ, pos, ◌≤ℤ◌, length, refl}
use Rattle.std.proofs.Common.{inl, inr, sym, ◌∙◌, subst, arith, eqb}
use Rattle.std.proofs.lemmas.Bool.{cases_lt, cond-false, ne_eqb, false≢true}
use Rattle.std.proofs.lemmas.Int.{ints}
use Rattle.auction_model.specs.Table.{entry_at}
use Rattle.slot_places.specs.Board.{Board, board_of, board_without}
use Rattle.slot_places.specs.SetTable.{holds}
use Rattle.slot_places.specs.Slots.{SlotList, bids_of}
use Rattle.placement_check.specs.PlaceTests.{ObeysSet}
use Rattle.placement_check.specs.OfferRules.{KeepsBid, KeepsBidder, SetTableAt}

-- a test that fails
pub never : {P : Type 0} → (P → ⊥) → IsTrue false ↔ P
never fails = (λ t. absurd (false≢true t), λ h. absurd (fails h))

-- a test that holds
pub always : {P : Type 0} → P → IsTrue true ↔ P
always h = (λ t. h, λ h. refl)

module _ (b : Board) (worth : ℕ → ℕ → ℤ) (table : List (List ℤ)) (bits : ℕ) where
  -- the bidders before one, counted from 1
  abbrev pub KeepsTo : ℕ → Type 0
  KeepsTo k = (j : ℕ) → 0 < j → j < k → KeepsBidder b worth table bits j (b.bids j)

  -- one bidder more whose rules the entry keeps
  pub keeps-next : (j : ℕ) → KeepsTo j → KeepsBidder b worth table bits j (b.bids j) → KeepsTo (j + 1)
  keeps-next j to own i some low =
      elim (cases_lt i j) [
        | inl less ↦ to i some less
        | inr here ↦ (let same : j ≡ i = omega (arith, low, here) in subst (λ (h : ℕ). KeepsBidder b worth table bits h (b.bids h)) same own)
      ]

  -- an entry that keeps the rules of each bidder, and is at least 0 at the set of all, obeys the rules
  pub obeys-all : (k : ℕ) → b.bidders < k → (bits ≡ 2 ^ b.bidders - 1 → pos 0 ≤ℤ entry_at table 0 bits) → KeepsTo k → ObeysSet b worth table bits
  obeys-all k past last to = record {
    last = last;
    none = λ j some low new. (to j some (omega (arith, low, past))).none new;
    bid = λ j i some low new positive known may. (to j some (omega (arith, low, past))).bid new i positive known may;
  }

  -- an entry that obeys the rules keeps those of each bidder
  pub obeys-one : (j : ℕ) → 0 < j → j ≤ b.bidders → ObeysSet b worth table bits → KeepsBidder b worth table bits j (b.bids j)
  obeys-one j some low o = record {
    none = λ new. o.none j some low new;
    bid = λ new i positive known may. o.bid j i some low new positive known may;
  }

  -- the bids before one, counted from 1
  abbrev pub KeepsBids : ℕ → ℕ → Type 0
  KeepsBids j k = (i : ℕ) → 0 < i → i < k → KeepsBid b worth table bits j i

  -- one bid more whose rule the entry keeps
  pub bids-next : (j i : ℕ) → KeepsBids j i → KeepsBid b worth table bits j i → KeepsBids j (i + 1)
  bids-next j i to own h some low =
      elim (cases_lt h i) [
        | inl less ↦ to h some less
        | inr here ↦ (let same : i ≡ h = omega (arith, low, here) in subst (λ (n : ℕ). KeepsBid b worth table bits j n) same own)
      ]

  -- an entry that keeps the rules of a bidder's bids, and is no less than that with the bidder, keeps its rules
  pub bids-all : (j k some : ℕ) → some < k → entry_at table 0 (bits + 2 ^ (j - 1)) ≤ℤ entry_at table 0 bits → KeepsBids j k
      → KeepsBidder b worth table bits j some
  bids-all j k some past least to = record { none = λ new. least; bid = λ new i positive known. to i positive (omega (arith, known, past)) }

  -- a bidder inside the set asks nothing of its entry
  pub inside-keeps : (j some : ℕ) → holds bits j ≡ true → KeepsBidder b worth table bits j some
  inside-keeps j some inside = record {
    none = λ new. absurd (false≢true (sym new ∙ inside));
    bid = λ new. absurd (false≢true (sym new ∙ inside));
  }

-- the sets before one
abbrev pub ObeysTo : Board → (ℕ → ℕ → ℤ) → List (List ℤ) → ℕ → Type 0
ObeysTo b worth table k = (bits : ℕ) → bits < k → ObeysSet b worth table bits

-- one set more that obeys the rules
pub sets-next : (b : Board) (worth : ℕ → ℕ → ℤ) (table : List (List ℤ)) (k : ℕ) → ObeysTo b worth table k → ObeysSet b worth table k
    → ObeysTo b worth table (k + 1)
sets-next b worth table k to own h low =
    elim (cases_lt h k) [
      | inl less ↦ to h less
      | inr here ↦ (let same : k ≡ h = omega (arith, low, here) in subst (ObeysSet b worth table) same own)
    ]

-- a place of a table
module _ (b : Board) (worth : ℕ → ℕ → ℤ) (table : List (List ℤ)) (most : ℤ) (place : ℕ) where
  -- a place before the last asks for the rules at that set
  pub table-set : (x : Bool) → place < 2 ^ b.bidders → IsTrue x ↔ ObeysSet b worth table place → IsTrue x ↔ SetTableAt b worth table most place
  table-set x low h = (
    λ t. record { rules = λ _. h.0 t; top = λ e. absurd (omega (arith, e, low)) },
    λ s. h.1 (s.rules low),
  )

-- equal worths ask the same
pub set-same : (b : Board) (f g : ℕ → ℕ → ℤ) (table : List (List ℤ)) (bits : ℕ) → ((j i : ℕ) → 0 < j → j ≤ b.bidders → f j i ≡ g j i)
    → ObeysSet b f table bits → ObeysSet b g table bits
set-same b f g table bits same o = record {
  last = o.last;
  none = o.none;
  bid = λ j i some low new positive known may.
      let own = o.bid j i some low new positive known may in
      let e = same j i some low in
      omega (arith, ints, own, e);
}

-- if nobody is left out, each bidder has all its bids
pub bids-same : (slots : SlotList) (j : ℕ) → 0 < j → (board_without slots 0).bids j ≡ (board_of slots).bids j
bids-same slots j some = cond-false (eqb j 0) 0 (length (bids_of slots j)) (ne_eqb j 0 (omega (arith, some)))

-- if nobody is left out, all bids are there
whole-set : (slots : SlotList) (f : ℕ → ℕ → ℤ) (table : List (List ℤ)) (bits : ℕ)
    → ObeysSet (board_without slots 0) f table bits ↔ ObeysSet (board_of slots) f table bits
whole-set slots f table bits = (
  λ o. record {
    last = o.last;
    none = o.none;
    bid = λ j i some low new positive known may. o.bid j i some low new positive (let e = bids-same slots j some in omega (arith, e, known)) may;
  },
  λ o. record {
    last = o.last;
    none = o.none;
    bid = λ j i some low new positive known may. o.bid j i some low new positive (let e = bids-same slots j some in omega (arith, e, known)) may;
  },
)

-- a place of a table if nobody is left out, with equal worths and the same most
pub whole-table : (slots : SlotList) (f g : ℕ → ℕ → ℤ) (table : List (List ℤ)) (most top : ℤ) (place : ℕ)
    → ((j i : ℕ) → 0 < j → j ≤ length slots.bidders → f j i ≡ g j i) → most ≡ top
    → SetTableAt (board_without slots 0) f table most place ↔ SetTableAt (board_of slots) g table top place
whole-table slots f g table most top place same is =
    let whole = whole-set slots f table place in (
      λ t. record {
        rules = λ low. set-same (board_of slots) f g table place same (whole.0 (t.rules low));
        top = λ e. let own = t.top e in omega (arith, ints, own, is);
      },
      λ t. record {
        rules = λ low. whole.1 (set-same (board_of slots) g f table place (λ j i some low. sym (same j i some low)) (t.rules low));
        top = λ e. let own = t.top e in omega (arith, ints, own, is);
      },
    )
