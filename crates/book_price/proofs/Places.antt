-- The places of the winners among the bidders, and the part of each.
use Rattle.std.specs.Prelude.{IsTrue, List, [], cond, length, map, pos, refl, slice_index_or, suc, true, zero, ℕ, ℤ, ◌%◌, ◌+◌, ◌-◌, ◌/◌, ◌<◌, ◌==◌}
use Rattle.std.specs.Prelude.{◌∷◌, ◌≡◌, ◌≤◌}
use Rattle.std.specs.List.{AllByRecursion}
use Rattle.std.proofs.Common.{◌∙◌, ap, arith}
use Rattle.std.proofs.lemmas.Bool.{eq-eqb, ne_eqb, false≢true}
use Rattle.std.proofs.lemmas.Nat.{mod_below}
use Rattle.auction_model.specs.Market.{Market, uses}
use Rattle.cert_grammar.specs.Certificate.{WithoutValue, part_of}
use Rattle.choices.specs.Singles.{AreSingles, IsSingle, winners_after}
use Rattle.choices.specs.declared.chooser.Single.{Single}
use Rattle.far_num.specs.Members.{holds}
use Rattle.core_laws.specs.Winners.{for_bidders, has_bit, winners_in}
use Rattle.core_laws.proofs.Bits.{holds-front, holds-rest}
use Rattle.wide_num.specs.Sums.{nth}
use Rattle.core_laws.specs.Weights.{weights_in}
use Rattle.book_price.specs.Made.{parts_from}

-- the single at a place
abbrev pub single_at : List Single → ℕ → Single
single_at singles i = slice_index_or singles i (record { winner = 0; price = pos 0; choice = [] })

-- what holds of all holds at each place
pub each-at : {A : Type 0} (P : A → Type 0) (xs : List A) → AllByRecursion P xs → (i : ℕ) (d : A) → i < length xs → P (slice_index_or xs i d)
each-at P [] h i d lt = absurd (omega arith)
each-at P (x ∷ xs) h zero d lt = h.0
each-at P (x ∷ xs) h (suc i) d lt = each-at P xs h.1 i d (omega arith)

-- the bidder k + 1 is the winner i + 1
pub record IsPlace (z : List ℕ) (k i : ℕ) : Type 0 where
  -- the place is one of a winner
  pub inside : i < winners_in z
  -- a set of winners holds that place exactly if it holds the bidder
  pub member : (bits : ℕ) → holds bits i ≡ cond (has_bit z bits k) (pos 1) (pos 0)
  -- the bidder's number is the one at that place
  pub number : (xs : List ℤ) → nth (for_bidders z xs) k ≡ nth xs i

-- the part of bidder j is that of the single at this place
pub record IsPartAt (singles : List Single) (tables : List (List (List ℤ))) (j i : ℕ) : Type 0 where
  -- the place is one of a single
  pub inside : i < length singles
  -- the single there is of bidder j
  pub winner : (single_at singles i).winner ≡ j
  -- the part of bidder j has the choice of that single and the table at that place
  pub part : part_of (parts_from singles tables) j ≡ record { winner = j; choice = (single_at singles i).choice; table = slice_index_or tables i [] }

bit : (r : ℕ) → r < 2 → pos r ≡ cond (r == 1) (pos 1) (pos 0)
bit zero h = refl
bit (suc zero) h = refl
bit (suc (suc r)) h = absurd (omega arith)

one_less : (z : List ℕ) (x k : ℕ) → uses (x ∷ z) (suc (suc k)) ≡ true → uses z (suc k) ≡ true
one_less z x k e = let b : suc (suc k) - 1 ≡ suc (suc k - 1) = omega arith in rw b at e

first-place : (z : List ℕ) (n : ℕ) → IsPlace (suc n ∷ z) 0 0
first-place z n = record { inside = omega arith; member = λ bits. holds-front bits ∙ bit (bits % 2) (mod_below bits 2 (omega arith)); number = λ xs. first xs }
  where
    first : (xs : List ℤ) → nth (for_bidders (suc n ∷ z) xs) 0 ≡ nth xs 0
    first [] = refl
    first (x ∷ xs) = refl

next-place : (z : List ℕ) (n k i : ℕ) → IsPlace z k i → IsPlace (suc n ∷ z) (suc k) (suc i)
next-place z n k i p = record { inside = omega (arith, p.inside); member = λ bits. holds-rest bits i ∙ p.member (bits / 2); number = λ xs. next xs }
  where
    next : (xs : List ℤ) → nth (for_bidders (suc n ∷ z) xs) (suc k) ≡ nth xs (suc i)
    next [] = p.number []
    next (x ∷ xs) = p.number xs

loser-place : (z : List ℕ) (k i : ℕ) → IsPlace z k i → IsPlace (zero ∷ z) (suc k) i
loser-place z k i p = record { inside = p.inside; member = λ bits. p.member bits; number = λ xs. p.number xs }

-- the prefix and the rest of equal lists
pub front_of : (a b : ℕ) (behind others : List ℕ) → a ∷ behind ≡ b ∷ others → a ≡ b
front_of a b behind others e = ap (λ (l : List ℕ). slice_index_or l 0 0) e

abbrev pub rest : List ℕ → List ℕ
rest [] = []
rest (x ∷ xs) = xs

abbrev part : ℕ → List ℕ → List (List ℤ) → WithoutValue
part j choice table = record { winner = j; choice = choice; table = table }

first-part : (x : Single) (singles : List Single) (t : List (List ℤ)) (tables : List (List (List ℤ))) (j : ℕ) → x.winner ≡ j
    → IsPartAt (x ∷ singles) (t ∷ tables) j 0
first-part x singles t tables j e = record {
  inside = omega arith;
  winner = e;
  part = ap (λ b. cond b (part x.winner x.choice t) (part_of (parts_from singles tables) j)) (eq-eqb x.winner j e) ∙ ap (λ w. part w x.choice t) e;
}

next-part : (x : Single) (singles : List Single) (t : List (List ℤ)) (tables : List (List (List ℤ))) (j i : ℕ) → ¬ (x.winner ≡ j)
    → IsPartAt singles tables j i → IsPartAt (x ∷ singles) (t ∷ tables) j (suc i)
next-part x singles t tables j i other p = record {
  inside = omega (arith, p.inside);
  winner = p.winner;
  part = ap (λ b. cond b (part x.winner x.choice t) (part_of (parts_from singles tables) j)) (ne_eqb x.winner j other) ∙ p.part;
}

-- how many winners come before the bidder k + 1
abbrev pub rank : List ℕ → ℕ → ℕ
rank [] k = 0
rank (x ∷ z) zero = 0
rank (zero ∷ z) (suc k) = rank z k
rank (suc n ∷ z) (suc k) = suc (rank z k)

-- a winner has the place of as many winners as come before it
pub place-of : (z : List ℕ) (k : ℕ) → k < length z → uses z (suc k) ≡ true → IsPlace z k (rank z k)
place-of [] k lt used = absurd (omega arith)
place-of (zero ∷ z) zero lt used = absurd (false≢true used)
place-of (zero ∷ z) (suc k) lt used = loser-place z k (rank z k) (place-of z k (omega arith) (one_less z 0 k used))
place-of (suc n ∷ z) zero lt used = first-place z n
place-of (suc n ∷ z) (suc k) lt used = next-place z n k (rank z k) (place-of z k (omega arith) (one_less z (suc n) k used))

moved : (singles : List Single) (tables : List (List (List ℤ))) (s k i : ℕ) → IsPartAt singles tables (suc (suc s + k)) i
    → IsPartAt singles tables (suc (s + suc k)) i
moved singles tables s k i p = let same : suc (suc s + k) ≡ suc (s + suc k) = omega arith in rw same at p

-- the part of a winner, s bidders being passed
pub part-at : (s : ℕ) (z : List ℕ) (k : ℕ) → k < length z → uses z (suc k) ≡ true → (singles : List Single) (tables : List (List (List ℤ)))
    → map (λ x. x.winner) singles ≡ winners_after s z → length tables ≡ length singles
    → IsPartAt singles tables (suc (s + k)) (rank z k)
part-at s [] k lt used singles tables e count = absurd (omega arith)
part-at s (zero ∷ z) zero lt used singles tables e count = absurd (false≢true used)
part-at s (zero ∷ z) (suc k) lt used singles tables e count = moved singles tables s k (rank z k)
    (part-at (suc s) z k (omega arith) (one_less z 0 k used) singles tables e count)
part-at s (suc n ∷ z) k lt used [] tables e count = absurd (let l = ap length e in omega (arith, l))
part-at s (suc n ∷ z) k lt used (x ∷ singles) [] e count = absurd (omega arith)
part-at s (suc n ∷ z) zero lt used (x ∷ singles) (t ∷ tables) e count =
    first-part x singles t tables (suc (s + 0)) (front_of x.winner (suc s) (map (λ y. y.winner) singles) (winners_after (suc s) z) e ∙ omega arith)
part-at s (suc n ∷ z) (suc k) lt used (x ∷ singles) (t ∷ tables) e count =
    let front = front_of x.winner (suc s) (map (λ y. y.winner) singles) (winners_after (suc s) z) e in
    next-part x singles t tables (suc (s + suc k)) (rank z k) (λ same. absurd (omega (arith, front, same)))
    (moved singles tables s k (rank z k) (part-at (suc s) z k (omega arith) (one_less z (suc n) k used) singles tables (ap rest e) (omega arith)))

-- the part of bidder k + 1
pub part-of_winner : (z : List ℕ) (singles : List Single) (tables : List (List (List ℤ))) → map (λ x. x.winner) singles ≡ winners_after 0 z
    → length tables ≡ length singles → (k : ℕ) → k < length z → uses z (suc k) ≡ true → IsPartAt singles tables (suc k) (rank z k)
part-of_winner z singles tables e count k lt used = let same : suc (0 + k) ≡ suc k = omega arith in rw same at (part-at 0 z k lt used singles tables e count)

-- the winner j has a place i among the singles: its part has the choice of that single and the table at that place
pub winner_part : (m : Market) (z : List ℕ) (singles : List Single) (tables : List (List (List ℤ))) → AreSingles m z singles → length tables ≡ length singles
    → (j : ℕ) → 0 < j → j ≤ length z → IsTrue (uses z j)
    → (i : ℕ) × (i < length singles) × ((single_at singles i).winner ≡ j) × IsSingle m z (single_at singles i)
    × (part_of (parts_from singles tables) j ≡ record { winner = j; choice = (single_at singles i).choice; table = slice_index_or tables i [] })
winner_part m z singles tables are count zero some inside used = absurd (omega arith)
winner_part m z singles tables are count (suc k) some inside used =
    let p = part-of_winner z singles tables are.winners count k inside used in
    (rank z k, p.inside, p.winner, each-at (IsSingle m z) singles are.each (rank z k) (record { winner = 0; price = pos 0; choice = [] }) p.inside, p.part)

-- the weight of a winner is that of its bidder
pub weight-rank : (z weights : List ℕ) (k : ℕ) → k < length z → uses z (suc k) ≡ true → slice_index_or (weights_in z weights)
    (rank z k) 0 ≡ slice_index_or weights k 0
weight-rank [] weights k lt used = absurd (omega arith)
weight-rank (zero ∷ z) weights zero lt used = absurd (false≢true used)
weight-rank (zero ∷ z) [] (suc k) lt used = weight-rank z [] k (omega arith) (one_less z 0 k used)
weight-rank (zero ∷ z) (w ∷ weights) (suc k) lt used = weight-rank z weights k (omega arith) (one_less z 0 k used)
weight-rank (suc n ∷ z) [] zero lt used = refl
weight-rank (suc n ∷ z) (w ∷ weights) zero lt used = refl
weight-rank (suc n ∷ z) [] (suc k) lt used = weight-rank z [] k (omega arith) (one_less z (suc n) k used)
weight-rank (suc n ∷ z) (w ∷ weights) (suc k) lt used = weight-rank z weights k (omega arith) (one_less z (suc n) k used)
