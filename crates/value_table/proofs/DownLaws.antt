-- A line while the bids of a bidder are counted from the last to the first.
use Rattle.std.specs.Prelude.{◌≡◌, ℕ, zero, suc, ◌-◌, ◌≤◌, ◌<◌, IsTrue, List, [], ◌∷◌, length, get_or, ℤ, pos, ◌+ℤ◌, ◌≤ℤ◌}
use Rattle.std.specs.Int.{int_max}
use Rattle.std.proofs.Common.{◌⊎◌, inl, inr, sym, ◌∙◌, ap, subst, arith}
use Rattle.std.proofs.lemmas.Bool.{false≢true, cases_Bool, cases_eq, cond-true, cond-false}
use Rattle.std.proofs.lemmas.Int.{ints, int_max_is, by_lt_z}
use Rattle.auction_model.specs.Market.{sum_after}
use Rattle.auction_model.specs.Menu.{Menu, fits_after}
use Rattle.auction_model.specs.Package.{is_within, less}
use Rattle.auction_model.specs.Place.{left_at, place_of, states_of}
use Rattle.auction_model.specs.Steps.{raised}
use Rattle.auction_model.specs.Table.{IsLine}
use Rattle.auction_model.proofs.DominatedLaws.{fits-more, less-within}
use Rattle.auction_model.proofs.LineLaws.{IsLineUpTo, int_max-left, int_max-right}
use Rattle.auction_model.proofs.PlaceLaws.{left_at-less, length-left_at, place-less_below, within-within}
use Rattle.auction_model.proofs.TableLaws.{Parts, fits_up_to, from_parts, parts}
use Rattle.choices.proofs.MoreLots.{less-more}
use Rattle.value_table.proofs.CornerLaws.{line-grows, part-grows}
use Rattle.value_table.specs.Counted.{IsBeaten}
use Rattle.value_table.specs.Growing.{Grows}

raised-order : (a b : ℤ) → a ≤ℤ int_max a b
raised-order a b = omega (arith, ints, int_max_is a b)

raised-other : (a b : ℤ) → b ≤ℤ int_max a b
raised-other a b = omega (arith, ints, int_max_is a b)

le-le : (a b c : ℤ) → a ≤ℤ b → b ≤ℤ c → a ≤ℤ c
le-le a b c first second = omega (arith, ints, first, second)

module _ (supply : List ℕ) (below : List ℤ) (lots : List ℕ) (worth : ℤ) (s : ℕ) (old : ℤ) where
  -- what a bid counts with the rest
  abbrev sum : ℤ
  sum = worth +ℤ get_or below (place_of supply (less (left_at supply s) lots)) (pos 0)

  -- a raised entry doesn't fall
  raised-keeps : old ≤ℤ raised supply below lots worth s old
  raised-keeps = elim (cases_Bool (is_within lots (left_at supply s))) [
    | inl fits ↦ rw (cond-true (is_within lots (left_at supply s)) (int_max old sum) old fits) (raised-order old sum)
    | inr misses ↦ rw (cond-false (is_within lots (left_at supply s)) (int_max old sum) old misses) (omega (arith, ints))
  ]

  -- it is at least what the bid counts if it fits
  raised-covers : IsTrue (is_within lots (left_at supply s)) → sum ≤ℤ raised supply below lots worth s old
  raised-covers fits = rw (cond-true (is_within lots (left_at supply s)) (int_max old sum) old fits) (raised-other old sum)

  -- it is one of the two
  raised-is : (raised supply below lots worth s old ≡ old) ⊎ (IsTrue (is_within lots (left_at supply s)) × (raised supply below lots worth s old ≡ sum))
  raised-is = elim (cases_Bool (is_within lots (left_at supply s))) [
    | inl fits ↦ by_lt_z old sum
        (λ lt. inr (fits, cond-true (is_within lots (left_at supply s)) (int_max old sum) old fits ∙ int_max-right old sum (omega (arith, ints, lt))))
        (λ ge. inl (cond-true (is_within lots (left_at supply s)) (int_max old sum) old fits ∙ int_max-left old sum ge))
    | inr misses ↦ inl (cond-false (is_within lots (left_at supply s)) (int_max old sum) old misses)
  ]

module _ (supply : List ℕ) (below line : List ℤ) (lots : List ℕ) (worth : ℤ) where
  abbrev entry : ℕ → ℤ
  entry s = raised supply below lots worth s (get_or line s (pos 0))

  -- a line that never falls, raised from one that never falls, never falls
  raised-grows : Grows supply below → Grows supply line → (s t : ℕ) → s < states_of supply → t < states_of supply
      → IsTrue (is_within (left_at supply s) (left_at supply t)) → entry s ≤ℤ entry t
  raised-grows rest own s t s_low t_low within =
      let S = left_at supply s in
      let T = left_at supply t in
      let up : get_or line t (pos 0) ≤ℤ entry t = raised-keeps supply below lots worth t (get_or line t (pos 0)) in
      elim (raised-is supply below lots worth s (get_or line s (pos 0))) [
        | inl same ↦ rw same (le-le (get_or line s (pos 0)) (get_or line t (pos 0)) (entry t) (own s t s_low t_low within) up)
        | inr (fits, is) ↦
            let there : IsTrue (is_within lots T) = within-within lots S T fits within in
            let from = place_of supply (less S lots) in
            let to = place_of supply (less T lots) in
            let alike : length S ≡ length T = length-left_at supply s ∙ sym (length-left_at supply t) in
            let more : IsTrue (is_within (left_at supply from) (left_at supply to)) =
            rw (left_at-less supply lots s s_low, left_at-less supply lots t t_low) (less-more S T lots alike within) in
            let low : get_or below from (pos 0) ≤ℤ get_or below to (pos 0) =
            rest from to (place-less_below supply lots s s_low) (place-less_below supply lots t t_low) more in
            let enough : sum supply below lots worth t (get_or line t (pos 0)) ≤ℤ entry t =
            raised-covers supply below lots worth t (get_or line t (pos 0)) there in
            rw is (le-le (worth +ℤ get_or below from (pos 0)) (worth +ℤ get_or below to (pos 0)) (entry t) (omega (arith, ints, low)) enough)
      ]

module _ (m : Menu) (counts : ℕ → ℕ → ℤ) (supply : List ℕ) (k : ℕ) where
  -- each choice that begins with number g is worth at most the entry of its place
  abbrev pub IsCounted : ℕ → List ℤ → Type 0
  IsCounted g line = (s : ℕ) → s < states_of supply → (c : List ℕ) → Parts m k (left_at supply s) (m.bids (suc k)) g c
      → sum_after counts k (g ∷ c) ≤ℤ get_or line s (pos 0)

  -- a line while only the bids after i of bidder k + 1 are counted, except for those that are beaten
  pub record IsLineFrom (i : ℕ) (line : List ℤ) : Type 0 where
    pub places : length line ≡ states_of supply
    pub grows : Grows supply line
    pub reached : (s : ℕ) → s < states_of supply
        → (c : List ℕ) × IsTrue (fits_up_to m k (left_at supply s) (m.bids (suc k)) c) × (sum_after counts k c ≡ get_or line s (pos 0))
    pub idle : IsCounted 0 line
    pub bids : (g : ℕ) → i < g → g ≤ m.bids (suc k) → IsBeaten m counts (suc k) g ⊎ IsCounted g line

  lift : (left : List ℕ) (c : List ℕ) → IsTrue (fits_up_to m k left 0 c) → IsTrue (fits_up_to m k left (m.bids (suc k)) c)
  lift left [] t = absurd (false≢true t)
  lift left (g ∷ c) t =
      let p = parts m k left 0 g c t in
      from_parts m k left (m.bids (suc k)) g c (record { low = omega (arith, p.low); own = p.own; rest = p.rest })

  -- a line that counts no bid yet
  pub from-none : (line : List ℤ) → IsLineUpTo m counts supply k 0 line → IsLineFrom (m.bids (suc k)) line
  from-none line e = record {
    places = e.places;
    grows = part-grows m counts supply k 0 line e;
    reached = λ s low.
        let was = (e.exact s low).reached in
        (was.0, lift (left_at supply s) was.0 was.1, was.2);
    idle = λ s low c p. (e.exact s low).bound (0 ∷ c) (from_parts m k (left_at supply s) 0 0 c (record { low = omega arith; own = p.own; rest = p.rest }));
    bids = λ g high known. absurd (omega (arith, high, known));
  }

  module _ (i : ℕ) (known : suc i ≤ m.bids (suc k)) (below old new : List ℤ) (e : IsLine m counts supply (suc k) below)
      (was : IsLineFrom (suc i) old) (places : length new ≡ length old)
      (reads : (s : ℕ) → s < length old
      → get_or new s (pos 0) ≡ raised supply below (m.lots (suc k) (suc i)) (counts (suc k) (suc i)) s (get_or old s (pos 0))) where
    abbrev own_lots : List ℕ
    own_lots = m.lots (suc k) (suc i)

    abbrev own_worth : ℤ
    own_worth = counts (suc k) (suc i)

    read : (s : ℕ) → s < states_of supply → get_or new s (pos 0) ≡ raised supply below own_lots own_worth s (get_or old s (pos 0))
    read s low = reads s (omega (arith, low, was.places))

    up : (s : ℕ) → s < states_of supply → get_or old s (pos 0) ≤ℤ get_or new s (pos 0)
    up s low = rw (read s low) (raised-keeps supply below own_lots own_worth s (get_or old s (pos 0)))

    counted-still : (g : ℕ) → IsCounted g old → IsCounted g new
    counted-still g h s low c p = le-le (sum_after counts k (g ∷ c)) (get_or old s (pos 0)) (get_or new s (pos 0)) (h s low c p) (up s low)

    counted-now : IsCounted (suc i) new
    counted-now s low c p =
        let left = left_at supply s in
        let from = place_of supply (less left own_lots) in
        let rest : sum_after counts (suc k) c ≤ℤ get_or below from (pos 0) =
        (e.exact from (place-less_below supply own_lots s low)).bound c (rw (left_at-less supply own_lots s low) p.rest) in
        let enough : (own_worth +ℤ get_or below from (pos 0)) ≤ℤ get_or new s (pos 0) =
        rw (read s low) (raised-covers supply below own_lots own_worth s (get_or old s (pos 0)) p.own) in
        omega (arith, ints, rest, enough)

    reached-now : (s : ℕ) → s < states_of supply
        → (c : List ℕ) × IsTrue (fits_up_to m k (left_at supply s) (m.bids (suc k)) c) × (sum_after counts k c ≡ get_or new s (pos 0))
    reached-now s low =
        let left = left_at supply s in
        let from = place_of supply (less left own_lots) in
        let before = was.reached s low in
        elim (raised-is supply below own_lots own_worth s (get_or old s (pos 0))) [
          | inl same ↦ (before.0, before.1, before.2 ∙ sym (read s low ∙ same))
          | inr (fits, is) ↦
              let rest = (e.exact from (place-less_below supply own_lots s low)).reached in
              let inside : IsTrue (fits_after m (suc k) (less left own_lots) rest.0) = rw (left_at-less supply own_lots s low) at rest.1 in (
                suc i ∷ rest.0,
                from_parts m k left (m.bids (suc k)) (suc i) rest.0 (record { low = known; own = fits; rest = inside }),
                ap (λ (z : ℤ). own_worth +ℤ z) rest.2 ∙ sym (read s low ∙ is),
              )
        ]

    grows-still : Grows supply new
    grows-still s t s_low t_low within = rw (read s s_low, read t t_low)
        (raised-grows supply below old own_lots own_worth (line-grows m counts supply (suc k) below e) was.grows s t s_low t_low within)

    bids-now : (g : ℕ) → i < g → g ≤ m.bids (suc k) → IsBeaten m counts (suc k) g ⊎ IsCounted g new
    bids-now g high most =
        elim (cases_eq g (suc i)) [
          | inl same ↦ inr (subst (λ (n : ℕ). IsCounted n new) (sym same) counted-now)
          | inr other ↦ elim (was.bids g (omega (arith, high, other)) most) [ inl beaten ↦ inl beaten | inr h ↦ inr (counted-still g h) ]
        ]

    -- a line raised at each place by bid i + 1 counts that bid too
    pub from-more : IsLineFrom i new
    from-more = record {
      places = places ∙ was.places;
      grows = grows-still;
      reached = reached-now;
      idle = counted-still 0 was.idle;
      bids = bids-now;
    }

  -- a bid that is beaten needs no count
  pub from-beaten : (i : ℕ) (line : List ℤ) → IsBeaten m counts (suc k) (suc i) → IsLineFrom (suc i) line → IsLineFrom i line
  from-beaten i line beaten was = record {
    places = was.places;
    grows = was.grows;
    reached = was.reached;
    idle = was.idle;
    bids = λ g high most.
        elim (cases_eq g (suc i)) [
          | inl same ↦ inl (subst (IsBeaten m counts (suc k)) (sym same) beaten)
          | inr other ↦ was.bids g (omega (arith, high, other)) most
        ];
  }

  module _ (line : List ℤ) (was : IsLineFrom 0 line) where
    -- a beaten bid is counted if the one that beats it is
    counted-beaten : (g : ℕ) (beaten : IsBeaten m counts (suc k) g) → g ≤ m.bids (suc k) → IsCounted beaten.other line → IsCounted g line
    counted-beaten g beaten most h s low c p =
        let left = left_at supply s in
        let instead = h s low c (record {
          low = omega (arith, beaten.earlier, most);
          own = within-within (m.lots (suc k) beaten.other) (m.lots (suc k) g) left beaten.smaller p.own;
          rest = fits-more m (suc k) (less left (m.lots (suc k) g)) (less left (m.lots (suc k) beaten.other)) c
              (less-within left (m.lots (suc k) g) (m.lots (suc k) beaten.other) beaten.smaller) p.rest;
        }) in
        omega (arith, ints, beaten.worth, instead)

    -- so each bid is counted
    counted-to : (n g : ℕ) → g ≤ n → g ≤ m.bids (suc k) → IsCounted g line
    counted-to n zero high most = was.idle
    counted-to zero (suc g) high most = absurd (omega (arith, high))
    counted-to (suc n) (suc g) high most = elim (was.bids (suc g) (omega arith) most) [
      | inl beaten ↦ counted-beaten (suc g) beaten most
          (counted-to n beaten.other (omega (arith, beaten.earlier, high)) (omega (arith, beaten.earlier, most)))
      | inr h ↦ h
    ]

    bound : (s : ℕ) → s < states_of supply → (c : List ℕ) → IsTrue (fits_up_to m k (left_at supply s) (m.bids (suc k)) c)
        → sum_after counts k c ≤ℤ get_or line s (pos 0)
    bound s low [] t = absurd (false≢true t)
    bound s low (g ∷ c) t =
        let p = parts m k (left_at supply s) (m.bids (suc k)) g c t in
        counted-to (m.bids (suc k)) g p.low p.low s low c p

    -- with all bids counted from the last to the first they are counted
    pub from-all : IsLineUpTo m counts supply k (m.bids (suc k)) line
    from-all = record { places = was.places; exact = λ s low. record { reached = was.reached s low; bound = bound s low } }

-- The same by the number of the bidder: line j - 1 from line j.
module _ (m : Menu) (counts : ℕ → ℕ → ℤ) (supply : List ℕ) (j : ℕ) (some : 0 < j) where
  next : suc (j - 1) ≡ j
  next = omega (arith, some)

  pub bidder_from-none : (line : List ℤ) → IsLineUpTo m counts supply (j - 1) 0 line → IsLineFrom m counts supply (j - 1) (m.bids j) line
  bidder_from-none line e = rw next at (from-none m counts supply (j - 1) line e)

  pub bidder_from-more : (i : ℕ) → 0 < i → i ≤ m.bids j → (below old new : List ℤ) → IsLine m counts supply j below
      → IsLineFrom m counts supply (j - 1) i old → length new ≡ length old
      → ((s : ℕ) → s < length old → get_or new s (pos 0) ≡ raised supply below (m.lots j i) (counts j i) s (get_or old s (pos 0)))
      → IsLineFrom m counts supply (j - 1) (i - 1) new
  bidder_from-more i first known below old new e was places reads =
      let up : suc (i - 1) ≡ i = omega (arith, first) in
      from-more m counts supply (j - 1) (i - 1) (rw (next, up) known) below old new (rw next e) (rw up was) places
      (λ s low. rw (next, up) (reads s low))

  pub bidder_from-beaten : (i : ℕ) → 0 < i → (line : List ℤ) → IsBeaten m counts j i → IsLineFrom m counts supply (j - 1) i line
      → IsLineFrom m counts supply (j - 1) (i - 1) line
  bidder_from-beaten i first line beaten was =
      let up : suc (i - 1) ≡ i = omega (arith, first) in
      from-beaten m counts supply (j - 1) (i - 1) line (rw (next, up) beaten) (rw up was)

  pub bidder_from-all : (line : List ℤ) → IsLineFrom m counts supply (j - 1) 0 line → IsLineUpTo m counts supply (j - 1) (m.bids j) line
  bidder_from-all line was = rw next at (from-all m counts supply (j - 1) line was)
