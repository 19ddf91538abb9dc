-- What a price rises by has the properties of a raise.
use Rattle.std.proofs.Common.{◌≡◌, ℕ, ◌*◌, ◌≤◌, List, [], ◌∷◌, subst, sym}
use Rattle.award_file.specs.Award.{Steps, IsSteps, AreThresholds, RiseAbove}
use Rattle.auction_rules.specs.Step.{AreRisingFrom, IsRaise, IsReachedShare, permille_at, stepped, ticks_of}
use Rattle.clock_stage.specs.Raised.{IsRaisedPrice}

-- thresholds that rise above a number rise from it
rising-from : (low : ℕ) (thresholds : List (ℕ × ℕ)) → RiseAbove low thresholds → AreRisingFrom low thresholds
rising-from low [] rise = rise
rising-from low (t ∷ thresholds) rise = (rise.0, rising-from t.0 thresholds rise.4)

-- the thresholds of an award reach each excess
reached : (thresholds : List (ℕ × ℕ)) (excess : ℕ) → AreThresholds thresholds → 1 ≤ excess
    → ((first : ℕ × ℕ) (later : List (ℕ × ℕ)) (e : ℕ) → AreRisingFrom first.0 later → first.0 ≤ e → IsReachedShare (first ∷ later) e
    (permille_at (first ∷ later) e))
    → IsReachedShare thresholds excess (permille_at thresholds excess)
reached [] excess none some law = absurd none
reached (t ∷ thresholds) excess are some law =
    law t thresholds excess (rising-from t.0 thresholds are.1.4) (subst (λ (n : ℕ). n ≤ excess) (sym are.0) some)

pub raised-price : (table : Steps) (price excess raised : ℕ)
    → ((first : ℕ × ℕ) (later : List (ℕ × ℕ)) (e : ℕ) → AreRisingFrom first.0 later → first.0 ≤ e → IsReachedShare (first ∷ later) e
    (permille_at (first ∷ later) e))
    → ((tick p permille : ℕ) → 1 ≤ tick → IsRaise tick p permille (ticks_of tick p permille * tick))
    → IsSteps table → 1 ≤ excess → raised ≡ stepped table.tick table.thresholds price excess → IsRaisedPrice table price excess raised
raised-price table price excess raised threshold least steps some is = record {
  permille = permille_at table.thresholds excess;
  reached = reached table.thresholds excess steps.thresholds some threshold;
  raise = ticks_of table.tick price (permille_at table.thresholds excess) * table.tick;
  least = least table.tick price (permille_at table.thresholds excess) steps.some_tick;
  sum = is;
}
