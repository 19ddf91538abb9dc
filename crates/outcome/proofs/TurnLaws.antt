-- The lines of turns, piece by piece.
use Rattle.std.proofs.Common.{List, [], ap, append_assoc, arith, codes, drop, get_or, length, pos, refl, subst, suc, sym, zero, ℕ, ℤ, ◌++◌, ◌+◌, ◌-◌}
use Rattle.std.proofs.Common.{◌<◌, ◌∙◌, ◌∷◌, ◌≡◌, ◌≤◌}
use Rattle.std.specs.Fmt.{decimal}
use Rattle.std.proofs.lemmas.List.{append-nil, drop_more}
use Rattle.auction_model.specs.Lowered.{of_bidder}
use Rattle.auction_model.specs.Prices.{Point}
use Rattle.core_price.specs.declared.priced.Turn.{Turn}
use Rattle.core_price.specs.Turns.{point_of, turn_of, turns_of}
use Rattle.print_grammar.specs.Fractions.{IsFractionText}
use Rattle.print_grammar.specs.Turns.{ArePoints, IsTurnEnd, IsTurnLine, AreTurnLines}
use Rattle.core_laws.specs.Winners.{for_bidders, winners_in}
use Rattle.outcome.specs.Turns.{Grows, AreFractions}

-- after its end nothing is left of a list
pub nothing-left : {A : Type 0} (i : ℕ) (l : List A) → length l ≤ i → drop i l ≡ []
nothing-left zero [] le = refl
nothing-left zero (x ∷ l) le = absurd (omega arith)
nothing-left (suc i) [] le = refl
nothing-left (suc i) (x ∷ l) le = nothing-left i l (omega arith)

-- ---- payments
module _ (den : ℤ) (at : List ℤ) (i : ℕ) (start text : List ℕ) (so-far : (rest : List ℕ) → AreFractions den (drop i at) rest
    → Grows start (text ++ rest) (AreFractions den at)) where
  -- one payment more
  pub next-payment : (new price : List ℕ) (n : ℤ) → i < length at → n ≡ get_or at i (pos 0) → new ≡ (text ++ 32 ∷ []) ++ price → IsFractionText n den price
      → (rest : List ℕ) → AreFractions den (drop (i + 1) at) rest → Grows start (new ++ rest) (AreFractions den at)
  next-payment new price n inside item made is rest are =
      let split : drop i at ≡ n ∷ drop (i + 1) at = drop_more at i (pos 0) inside ∙ ap (λ (x : ℤ). x ∷ drop (i + 1) at) (sym item) in
      let all = so-far (32 ∷ price ++ rest) (subst (λ (l : List ℤ). AreFractions den l (32 ∷ price ++ rest)) (sym split) (price, rest, is, are, refl)) in
      (all.0, all.1, ap (λ (l : List ℕ). l ++ rest) made ∙ grouped text (32 ∷ []) price rest ∙ all.2)
    where
      grouped : (a b c d : List ℕ) → ((a ++ b) ++ c) ++ d ≡ a ++ (b ++ (c ++ d))
      grouped a b c d = simp append_assoc

  -- if no payment is left, the text has grown by all
  pub all-payments : length at ≤ i → Grows start text (AreFractions den at)
  all-payments past =
      let all = so-far [] (subst (λ (l : List ℤ). AreFractions den l []) (sym (nothing-left i at past)) refl) in
      (all.0, all.1, sym (append-nil text) ∙ all.2)

parts-of : (l : List ℤ) (k : ℕ) (x : ℤ) (c : List ℤ) → x ∷ c ≡ drop k l → (get_or l k (pos 0) ≡ x) × (c ≡ drop (suc k) l)
parts-of [] zero x c e = absurd (lie e)
  where
    lie : x ∷ c ≡ [] → ⊥
    lie h = cc
parts-of [] (suc k) x c e = absurd (lie e)
  where
    lie : x ∷ c ≡ [] → ⊥
    lie h = cc
parts-of (y ∷ l) zero x c e = (cc, cc)
parts-of (y ∷ l) (suc k) x c e = parts-of l k x c e

-- the payments of the winners are those that a point of bidders has
points-are : (p : Point) (k : ℕ) (c : List ℕ) (at : List ℤ) (text : List ℕ) → for_bidders c at ≡ drop k p.at → length at ≡ winners_in c
    → AreFractions p.den at text → ArePoints p k c text
points-are p k [] [] text from long are = are
points-are p k [] (x ∷ at) text from long are = absurd (omega arith)
points-are p k (zero ∷ c) at text from long are = points-are p (suc k) c at text (parts-of p.at k (pos 0) (for_bidders c at) from).1 long are
points-are p k (suc i ∷ c) [] text from long are = absurd (omega arith)
points-are p k (suc i ∷ c) (x ∷ at) text from long are =
    let parts = parts-of p.at k x (for_bidders c at) from in
    let same : suc k - 1 ≡ k = omega arith in
    let own : of_bidder p.at (suc k) ≡ x = ap (λ (n : ℕ). get_or p.at n (pos 0)) same ∙ parts.0 in
    (are.0, are.1, subst (λ (n : ℤ). IsFractionText n p.den are.0) (sym own) are.2, points-are p (suc k) c at are.1 parts.1 (omega arith) are.3, are.4)

-- ---- one turn
pub turn-line : (z : List ℕ) (number : ℕ) (t : Turn) (text pointed new : List ℕ) → length t.at ≡ winners_in z
    → Grows (((text ++ codes "round") ++ 32 ∷ decimal number) ++ codes " point") pointed (AreFractions t.den t.at)
    → Grows pointed new (IsTurnEnd (length z) t.den (turn_of z t).block)
    → Grows text new (IsTurnLine z number (turn_of z t))
turn-line z number t text pointed new long points end = (
  codes "round " ++ decimal number ++ codes " point" ++ points.0 ++ end.0,
  (points.0, end.0, points-are (point_of z t.den t.at) 0 z t.at points.0 refl long points.1, end.1, refl),
  end.2 ∙ ap (λ (l : List ℕ). l ++ end.0) points.2 ∙ grouped text (codes "round") (32 ∷ []) (decimal number) (codes " point") points.0 end.0,
)
  where
    grouped : (t r s d p q e : List ℕ) → ((((t ++ r) ++ (s ++ d)) ++ p) ++ q) ++ e ≡ t ++ (((((r ++ s) ++ d) ++ p) ++ q) ++ e)
    grouped t r s d p q e = simp append_assoc

-- the pieces of the line of a block, put one by one after a text, are the whole line after it
pub block-line : (t r m c n e f l : List ℕ) → ((((((t ++ r) ++ m) ++ c) ++ n) ++ e) ++ f) ++ l ≡ t ++ ((((((r ++ m) ++ c) ++ n) ++ e) ++ f) ++ l)
block-line t r m c n e f l = simp append_assoc

-- ---- all turns
module _ (z : List ℕ) (turns : List Turn) (i : ℕ) (text : List ℕ) (so-far : (rest : List ℕ) → AreTurnLines z i (turns_of z (drop i turns)) rest
    → AreTurnLines z 0 (turns_of z turns) (text ++ rest)) where
  -- one turn more
  pub next-turn : (t : Turn) (new : List ℕ) → i < length turns → t ≡ get_or turns i t → Grows text new (IsTurnLine z (i + 1) (turn_of z t))
      → (rest : List ℕ) → AreTurnLines z (i + 1) (turns_of z (drop (i + 1) turns)) rest → AreTurnLines z 0 (turns_of z turns) (new ++ rest)
  next-turn t new inside item grown rest are =
      let up : i + 1 ≡ suc i = omega arith in
      let split : drop i turns ≡ t ∷ drop (i + 1) turns = drop_more turns i t inside ∙ ap (λ (x : Turn). x ∷ drop (i + 1) turns) (sym item) in
      let own : IsTurnLine z (suc i) (turn_of z t) grown.0 = subst (λ (n : ℕ). IsTurnLine z n (turn_of z t) grown.0) up grown.1 in
      let tail : AreTurnLines z (suc i) (turns_of z (drop (i + 1) turns)) rest = subst (λ (n : ℕ). AreTurnLines z n (turns_of z (drop (i + 1) turns)) rest) up
      are in
      let all = so-far (grown.0 ++ rest) (subst (λ (l : List Turn). AreTurnLines z i (turns_of z l) (grown.0 ++ rest)) (sym split)
      (grown.0, rest, own, tail, refl)) in
      subst (AreTurnLines z 0 (turns_of z turns)) (sym (append_assoc text grown.0 rest) ∙ ap (λ (l : List ℕ). l ++ rest) (sym grown.2)) all

  -- if no turn is left, the text has the lines of all
  pub all-turns : length turns ≤ i → AreTurnLines z 0 (turns_of z turns) text
  all-turns past =
      subst (AreTurnLines z 0 (turns_of z turns)) (append-nil text) (so-far [] (subst (λ (l : List Turn). AreTurnLines z i (turns_of z l) [])
      (sym (nothing-left i turns past)) refl))
