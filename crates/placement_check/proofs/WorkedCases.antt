-- A band of four slots: bidder 1 takes two and bids 10 for slot 1, bidders 2 and 3 take one each and bid 8 for slot 4 and 12 for slot 2.
-- Bidders 1 and 2 win, and bidder 3 is placed between them.
use Rattle.std.specs.Prelude.{◌≡◌, ℕ, false, List, [], ◌∷◌, ℤ, pos, refl}
use Rattle.std.proofs.Common.{sym, ◌∙◌, arith}
use Rattle.std.proofs.lemmas.Bool.{false≢true}
use Rattle.std.proofs.lemmas.Int.{ints}
use Rattle.slot_places.specs.Orders.{allows}
use Rattle.slot_places.specs.Slots.{SlotBidder, SlotList}
use Rattle.cert_grammar.specs.PlaceCert.{PlaceCertValue}
use Rattle.placement_check.specs.PlaceTests.{P2, P6, P8}

abbrev pub bidder : ℕ → ℕ → ℕ → SlotBidder
bidder width start amount = record { name = []; width = width; bids = record { start = start; amount = amount } ∷ [] }

abbrev pub band : SlotList
band = record { band = 4; bidders = bidder 2 1 10 ∷ bidder 1 4 8 ∷ bidder 1 2 12 ∷ [] }

-- the entries of the sets: nobody, 1, 2, 1 and 2, 3, 1 and 3, 2 and 3, all
abbrev pub entries : ℕ → ℕ → ℕ → ℕ → ℕ → ℕ → ℕ → ℕ → List (List ℤ)
entries a b c d e f g h = (pos a ∷ pos b ∷ pos c ∷ pos d ∷ pos e ∷ pos f ∷ pos g ∷ pos h ∷ []) ∷ []

-- a certificate with this choice, its order, these payments of bidders 1 and 2, and this order beside the row
abbrev pub certificate_with : List ℕ → List ℕ → ℕ → ℕ → List ℕ → PlaceCertValue
certificate_with choice order first second row_order = record {
  cert = record {
    den = pos 1;
    value = pos 18;
    choice = choice;
    table = entries 18 8 12 0 8 8 0 0;
    withouts = record { winner = 1; choice = 0 ∷ 0 ∷ 1 ∷ []; table = entries 12 8 12 0 8 8 0 0 } ∷ record
        { winner = 2; choice = 0 ∷ 0 ∷ 1 ∷ []; table = entries 12 0 12 0 0 0 0 0 } ∷ [];
    pay = pos first ∷ pos second ∷ pos 0 ∷ [];
    rows = record { members = 1 ∷ 2 ∷ []; first = pos 1; second = pos 3; choice = 0 ∷ 0 ∷ 1 ∷ [] } ∷ [];
    lowered = entries 12 5 12 0 5 5 0 0;
  };
  order = order;
  part_orders = (2 ∷ 3 ∷ 1 ∷ []) ∷ (2 ∷ 3 ∷ 1 ∷ []) ∷ [];
  row_orders = row_order ∷ [];
}

-- the certificate that is right
abbrev pub certificate : PlaceCertValue
certificate = certificate_with (1 ∷ 1 ∷ 0 ∷ []) (1 ∷ 3 ∷ 2 ∷ []) 7 5 (2 ∷ 3 ∷ 1 ∷ [])

-- bidder 2 has one bid
unknown_number : P2 band (certificate_with (1 ∷ 2 ∷ 0 ∷ []) (1 ∷ 3 ∷ 2 ∷ []) 7 5 (2 ∷ 3 ∷ 1 ∷ [])) 2 → ⊥
unknown_number h = let known = h.known (omega arith) (omega arith) in omega (arith, known)

-- with bidder 2 before bidder 3 it starts at slot 3, for which it has no bid
wrong_order : P2 band (certificate_with (1 ∷ 1 ∷ 0 ∷ []) (1 ∷ 2 ∷ 3 ∷ []) 7 5 (2 ∷ 3 ∷ 1 ∷ [])) 4 → ⊥
wrong_order h = false≢true (sym refuses ∙ h.allowed refl)
  where
    refuses : allows band (1 ∷ 2 ∷ 3 ∷ []) (1 ∷ 1 ∷ 0 ∷ []) ≡ false
    refuses = refl

-- bidder 3 starts at slot 2 only after bidder 2
wrong_row_order : P6 band (certificate_with (1 ∷ 1 ∷ 0 ∷ []) (1 ∷ 3 ∷ 2 ∷ []) 7 5 (3 ∷ 2 ∷ 1 ∷ [])) 1 → ⊥
wrong_row_order h = false≢true (sym refuses ∙ h.order (omega arith) (omega arith))
  where
    refuses : allows band (3 ∷ 2 ∷ 1 ∷ []) (0 ∷ 0 ∷ 1 ∷ []) ≡ false
    refuses = refl

-- payments of 8 and 4 have the same sum, and are farther from the Vickrey prices 4 and 2
wrong_pay : P8 band (certificate_with (1 ∷ 1 ∷ 0 ∷ []) (1 ∷ 3 ∷ 2 ∷ []) 8 4 (2 ∷ 3 ∷ 1 ∷ [])) 2 → ⊥
wrong_pay h = let columns = h.columns 1 (omega arith) (omega arith) refl refl in omega (arith, ints, columns)
