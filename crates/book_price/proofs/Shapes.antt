-- In any market the rows, the parts and the payments have the shape that a certificate keeps.
use Rattle.std.specs.Prelude.{IsTrue, List, [], cond, length, map, negsuc, not, pos, slice_index, slice_index_or, suc, true, unsigned_abs, zero, ℕ, ℤ}
use Rattle.std.specs.Prelude.{◌*ℤ◌, ◌+ℤ◌, ◌-ℤ◌, ◌-◌, ◌<ℤ◌, ◌<◌, ◌^◌, ◌∷◌, ◌≡◌, ◌≤ℤ◌, ◌≤◌}
use Rattle.std.specs.List.{AllByRecursion}
use Rattle.std.proofs.Common.{◌∙◌, ap, arith}
use Rattle.std.proofs.Math.IntN.{*ℤ_comm}
use Rattle.std.proofs.lemmas.Bool.{and_parts}
use Rattle.std.proofs.lemmas.Int.{ints}
use Rattle.std.proofs.lemmas.List.{length-map}
use Rattle.auction_model.specs.Lawful.{IsMarket}
use Rattle.auction_model.specs.Market.{Market, uses}
use Rattle.cert_grammar.specs.CertText.{AllInRange, AreRows, AreWithouts, AtMost, InRange, IsChoice, IsRow, IsTable}
use Rattle.choices.specs.Singles.{AreSingles, IsSingle, winners_after}
use Rattle.choices.specs.declared.chooser.Single.{Single}
use Rattle.core_price.specs.Kept.{IsKept, firsts, rows_in, seconds}
use Rattle.core_price.specs.declared.priced.PricedRow.{PricedRow}
use Rattle.nearest_point.specs.Numbers.{AreBelow}
use Rattle.nearest_point.specs.Problem.{bounds, coefficients}
use Rattle.projection_laws.specs.Multipliers.{AreFirst, SumsTo}
use Rattle.projection_laws.proofs.Order.{mul_nonneg}
use Rattle.projection_laws.proofs.Sums.{term-le}
use Rattle.core_laws.specs.Winners.{for_bidders, has_bit, has_member, winners_in}
use Rattle.core_laws.proofs.Winners.{all-bidders}
use Rattle.wide_num.specs.Sums.{nth, total}
use Rattle.wide_num.proofs.Ints.{*ℤ-one, mul-add, mul-sub}
use Rattle.book_price.specs.Made.{parts_from, row_from}
use Rattle.book_price.proofs.Members.{bit-wins, member-is, member-some, members-rise, some-bit}
use Rattle.book_price.proofs.Multipliers.{first-at, members-at, second-at}
use Rattle.book_price.proofs.Places.{each-at, front_of, place-of, rank, rest, single_at}
use Rattle.book_price.proofs.Rows.{no_row, priced_at}

at_most-from : (most : ℕ) (c : List ℕ) → ((k : ℕ) → k < length c → slice_index c k ≤ most) → AtMost most c
at_most-from most [] h = tt
at_most-from most (i ∷ c) h = (h 0 (omega arith), at_most-from most c (λ k lt. h (suc k) (omega arith)))

-- an allowed choice is a choice of that many bidders
pub choice_shape : (m : Market) → IsMarket m → ((j : ℕ) → 0 < j → j ≤ m.bidders → m.bids j ≤ 65535) → (c : List ℕ) → IsTrue (m.allowed c) → IsChoice m.bidders c
choice_shape m lawful few c allowed = (lawful.lengths c allowed, at_most-from 65535 c (λ k lt. small k (omega (arith, lt, lawful.lengths c allowed))))
  where
    small : (k : ℕ) → k < m.bidders → slice_index c k ≤ 65535
    small k lt =
        let n = lawful.numbers c (suc k) allowed (omega arith) (omega arith) in
        let f = few (suc k) (omega arith) (omega arith) in
        let b : suc k - 1 ≡ k = omega arith in
        let e = ap (λ i. slice_index c i) b in
        omega (arith, n, f, e)

within : (a d : ℤ) → pos 0 ≤ℤ a → a ≤ℤ d → InRange d → InRange a
within (pos a) (pos d) low le small = omega (arith, ints)
within (pos a) (negsuc d) low le small = absurd (omega (arith, ints))
within (negsuc a) d low le small = absurd (omega (arith, ints))

less_small : (x : ℤ) → unsigned_abs x < 2 ^ 109 → InRange x
less_small x h = omega arith

-- a number from 0 on that is below the bound is in range
pub not_negative-small : (a : ℤ) → pos 0 ≤ℤ a → a <ℤ pos (2 ^ 120) → InRange a
not_negative-small (pos a) low high = omega (arith, ints)
not_negative-small (negsuc a) low high = absurd (omega (arith, ints))

-- the denominator and the value are in range if their product is
pub numbers_shape : (den value : ℤ) → pos 1 ≤ℤ den → pos 0 ≤ℤ value → (den *ℤ (value +ℤ pos 1)) <ℤ pos (2 ^ 120) → InRange den × InRange value
numbers_shape den value some low small =
    let apart = mul-add den value (pos 1) in
    let one = *ℤ-one den in
    let least = mul_nonneg den value (omega (arith, ints, some)) low in
    let more = mul_nonneg value (den -ℤ pos 1) low (omega (arith, ints, some)) in
    let less = mul-sub value den (pos 1) in
    let same = *ℤ-one value in
    let turned = *ℤ_comm value den in (
      not_negative-small den (omega (arith, ints, some)) (omega (arith, ints, apart, one, least, small)),
      not_negative-small value low (omega (arith, ints, apart, one, some, more, less, same, turned, small)),
    )

module _ (m : Market) (z : List ℕ) (long : length z ≡ m.bidders) (choices : (c : List ℕ) → IsTrue (m.allowed c) → IsChoice m.bidders c) (den : ℤ)
    (at : List ℤ) (rows : List PricedRow) (kept : AllByRecursion (IsKept m z den at) rows)
    (first : AreFirst (winners_in z) (length rows) (coefficients (rows_in rows)) (bounds (rows_in rows)) den (nth at) (nth (firsts rows)))
    (sums : SumsTo (winners_in z) (length rows) (coefficients (rows_in rows)) den (nth (firsts rows)))
    (small : InRange den) (seconds_small : AreBelow (2 ^ 109) (seconds rows)) where
  kept-at : (i : ℕ) → i < length rows → IsKept m z den at (priced_at rows i)
  kept-at i lt = each-at (IsKept m z den at) rows kept i no_row lt

  -- each row holds a winner
  held : (i : ℕ) → i < length rows → (k : ℕ) × (k < length z) × (has_bit z (priced_at rows i).row.members k ≡ true)
  held i lt = let h = (kept-at i lt).given.members in some-bit z (priced_at rows i).row.members h.0 h.1

  -- so its first multiplier is one of those that come to the denominator at that winner
  first-within : (i : ℕ) → i < length rows → (priced_at rows i).first ≤ℤ den
  first-within i lt =
      let h = held i lt in
      let k = h.0 in
      let place = place-of z k h.1 (bit-wins z (priced_at rows i).row.members k h.2).1 in
      let j = rank z k in
      let term : (nth (firsts rows) i *ℤ coefficients (rows_in rows) i j) ≤ℤ total (length rows) (λ q. nth (firsts rows) q *ℤ coefficients (rows_in rows) q j) =
      term-le (length rows) (λ q. nth (firsts rows) q *ℤ coefficients (rows_in rows) q j)
      (λ q l. mul_nonneg (nth (firsts rows) q) (coefficients (rows_in rows) q j) (first.not_negative q l) (omega (arith, ints))) i lt in
      let one : coefficients (rows_in rows) i j ≡ pos 1 = members-at rows i j lt ∙ place.member (priced_at rows i).row.members
      ∙ ap (λ b. cond b (pos 1) (pos 0)) h.2 in
      let e = ap (λ (x : ℤ). nth (firsts rows) i *ℤ x) one in
      let f = first-at rows i lt in
      let s = sums j place.inside in
      omega (arith, ints, term, e, f, s)

  second-small : (i : ℕ) → i < length rows → unsigned_abs (priced_at rows i).second < 2 ^ 109
  second-small i lt = let h = seconds_small i (omega (arith, lt, length-map rows (λ r. r.second))) in rw (second-at rows i lt) at h

  has-member : (i : ℕ) → i < length rows → 0 < length (row_from z (priced_at rows i)).members
  has-member i lt =
      let h = held i lt in
      let b : suc h.0 - 1 ≡ h.0 = omega arith in
      member-some (row_from z (priced_at rows i)).members (suc h.0) (member-is (has_member z (priced_at rows i).row.members) (length z) (suc h.0)
      (omega arith) h.1 ∙ ap (has_bit z (priced_at rows i).row.members) b ∙ h.2)

  row-shape : (i : ℕ) → i < length rows → IsRow m.bidders (row_from z (priced_at rows i))
  row-shape i lt = record {
    some = has-member i lt;
    members = rw⁻¹ long (members-rise (has_member z (priced_at rows i).row.members) (length z));
    choice = choices (priced_at rows i).choice (kept-at i lt).given.allowed;
    range = (
      within (priced_at rows i).first den (let f = first-at rows i lt in let s = first.not_negative i lt in omega (arith, ints, f, s))
          (first-within i lt) small,
      less_small (priced_at rows i).second (second-small i lt),
    );
  }

all-shape : (m : Market) (z : List ℕ) (kept : List PricedRow) → ((i : ℕ) → i < length kept → IsRow m.bidders (row_from z (priced_at kept i)))
    → AreRows m.bidders (map (row_from z) kept)
all-shape m z [] h = tt
all-shape m z (r ∷ kept) h = (h 0 (omega arith), all-shape m z kept (λ i lt. h (suc i) (omega arith)))

-- the kept rows have the shape that a certificate keeps
pub rows_shape : (m : Market) (z : List ℕ) → length z ≡ m.bidders → ((c : List ℕ) → IsTrue (m.allowed c) → IsChoice m.bidders c)
    → (den : ℤ) (at : List ℤ) (rows : List PricedRow)
    → AllByRecursion (IsKept m z den at) rows
    → AreFirst (winners_in z) (length rows) (coefficients (rows_in rows)) (bounds (rows_in rows)) den (nth at) (nth (firsts rows))
    → SumsTo (winners_in z) (length rows) (coefficients (rows_in rows)) den (nth (firsts rows))
    → InRange den → AreBelow (2 ^ 109) (seconds rows)
    → AreRows m.bidders (map (row_from z) rows)
rows_shape m z long choices den at rows kept first sums small seconds_small =
    all-shape m z rows (λ i lt. row-shape m z long choices den at rows kept first sums small seconds_small i lt)

-- there are no more than ten rows if at most six win
pub rows_few : (z : List ℕ) (rows : List PricedRow) → length rows ≤ winners_in z → winners_in z ≤ 6 → length (map (row_from z) rows) ≤ 10
rows_few z rows count few = let e = length-map rows (row_from z) in omega (arith, e)

-- the parts of the winners, s bidders being passed
parts-shape : (bidders width s : ℕ) (z : List ℕ) (singles : List Single) (tables : List (List (List ℤ))) → map (λ x. x.winner) singles ≡ winners_after s z
    → length tables ≡ length singles
    → ((i : ℕ) → i < length singles → IsChoice bidders (single_at singles i).choice)
    → ((i : ℕ) → i < length tables → IsTable bidders width (slice_index_or tables i []))
    → AreWithouts bidders width (suc s) z (parts_from singles tables)
parts-shape bidders width s [] [] tables e count choices shaped = tt
parts-shape bidders width s [] (x ∷ singles) tables e count choices shaped = absurd (let l = ap length e in omega (arith, l))
parts-shape bidders width s (zero ∷ z) singles tables e count choices shaped = parts-shape bidders width (suc s) z singles tables e count choices shaped
parts-shape bidders width s (suc n ∷ z) [] tables e count choices shaped = absurd (let l = ap length e in omega (arith, l))
parts-shape bidders width s (suc n ∷ z) (x ∷ singles) [] e count choices shaped = absurd (omega arith)
parts-shape bidders width s (suc n ∷ z) (x ∷ singles) (t ∷ tables) e count choices shaped = (
  record {
    winner = front_of x.winner (suc s) (map (λ y. y.winner) singles) (winners_after (suc s) z) e;
    choice = choices 0 (omega arith);
    table =
        shaped 0 (omega arith);
  },
  parts-shape bidders width (suc s) z singles tables (ap rest e) (omega arith) (λ i lt. choices (suc i) (omega arith)) (λ i lt. shaped (suc i) (omega arith)),
)

-- the parts without each winner have the shape that a certificate keeps
pub withouts_shape : (m : Market) (width : ℕ) (z : List ℕ) → length z ≡ m.bidders → ((c : List ℕ) → IsTrue (m.allowed c) → IsChoice m.bidders c)
    → (singles : List Single) (tables : List (List (List ℤ)))
    → AreSingles m z singles → length tables ≡ length singles → ((i : ℕ) → i < length tables → IsTable m.bidders width (slice_index_or tables i []))
    → AreWithouts m.bidders width 1 z (parts_from singles tables)
withouts_shape m width z long choices singles tables are count shaped = parts-shape m.bidders width 0 z singles tables are.winners count choice shaped
  where
    choice : (i : ℕ) → i < length singles → IsChoice m.bidders (single_at singles i).choice
    choice i lt =
        let s = each-at (IsSingle m z) singles are.each i (record { winner = 0; price = pos 0; choice = [] }) lt in
        choices (single_at singles i).choice (and_parts (m.allowed (single_at singles i).choice)
        (not (uses (single_at singles i).choice (single_at singles i).winner)) s.choice.passed).0

numbers-shape : (at : List ℤ) → AreBelow (2 ^ 109) at → AllInRange at
numbers-shape [] small = tt
numbers-shape (a ∷ at) small = (less_small a (small 0 (omega arith)), numbers-shape at (λ i lt. small (suc i) (omega arith)))

zero_small : InRange (pos 0)
zero_small = omega arith

bidders-shape : (z : List ℕ) (at : List ℤ) → AllInRange at → AllInRange (for_bidders z at)
bidders-shape [] at h = tt
bidders-shape (zero ∷ z) at h = (zero_small, bidders-shape z at h)
bidders-shape (suc n ∷ z) [] h = (zero_small, bidders-shape z [] h)
bidders-shape (suc n ∷ z) (a ∷ at) h = (h.0, bidders-shape z at h.1)

-- each bidder has a payment, and it is in range
pub pay_shape : (m : Market) (z : List ℕ) → length z ≡ m.bidders → (at : List ℤ) → AreBelow (2 ^ 109) at → (length (for_bidders z at) ≡ m.bidders)
    × AllInRange (for_bidders z at)
pay_shape m z long at small = (all-bidders z at ∙ long, bidders-shape z at (numbers-shape at small))
