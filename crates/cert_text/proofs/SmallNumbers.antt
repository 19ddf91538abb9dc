-- Lines of numbers of 0 to 65,535: choices, members and the count of rows.
use Rattle.std.proofs.Common.{Bool, List, [], ap, arith, false, get_or, inl, inr, length, refl, subst, suc, sym, take, true, zero, ℕ, ◌++◌, ◌+◌, ◌<◌}
use Rattle.std.proofs.Common.{◌∙◌, ◌∷◌, ◌≡◌, ◌≤◌, ◌⊎◌}
use Rattle.std.proofs.lemmas.Bool.Decides.{nat_tests}
use Rattle.std.specs.Int.Signed.{lt_z, lt_z_yes, lt_z_no}
use Rattle.std.proofs.Math.Dec.{T}
use Rattle.std.proofs.Math.IntN.{nat_abs}
use Rattle.std.specs.Prelude.{ℤ, pos, negsuc, codes, ◌≤ℤ◌, ◌<ℤ◌, ◌^◌, nat_le, ◌||◌, not}
use Rattle.std.proofs.lemmas.Int.{ints}
use Rattle.std.proofs.lemmas.List.{take_more}
use Rattle.cert_grammar.specs.Lines.{Numbers, kind, chosen, counted, members, AreNumbers, Rise, FitNumbers}
use Rattle.line_format.specs.Range.{any_out, is_out}
use Rattle.cert_grammar.specs.CertText.{line, as_numbers, AtMost, IsChoice, AreMembers}
use Rattle.cert_grammar.proofs.Written.{long_numbers}
use Rattle.cert_text.specs.Readers.{IsLineAt, Leads, Halts, HaltsLike, LeadsLike, LeadsCounted, HaltsCounted, IsCount, AreSmall}
use Rattle.cert_text.specs.declared.stop.CertStop.TheVariants.{Form}
use Rattle.cert_text.proofs.PlanSteps.{line_next, line_unfit}

-- one more number follows the others
pub as_more : (ns : List ℕ) (n : ℕ) → as_numbers (ns ++ n ∷ []) ≡ as_numbers ns ++ pos n ∷ []
as_more [] n = refl
as_more (m ∷ ns) n = ap (λ (l : List ℤ). pos m ∷ l) (as_more ns n)

-- one more number of a choice
pub numbers_push : (xs : List ℤ) (z : ℤ) → AreNumbers 65535 xs → pos 0 ≤ℤ z → z ≤ℤ pos 65535 → AreNumbers 65535 (xs ++ z ∷ [])
numbers_push [] z all low high = (low, high, tt)
numbers_push (x ∷ xs) z all low high = (all.0, all.1, numbers_push xs z all.2 low high)

-- each of such numbers is from 0 to 65,535
pub numbers_at : (xs : List ℤ) (i : ℕ) → i < length xs → AreNumbers 65535 xs → (pos 0 ≤ℤ get_or xs i (pos 0)) × (get_or xs i (pos 0) ≤ℤ pos 65535)
numbers_at [] i lt all = absurd (omega arith)
numbers_at (x ∷ xs) zero lt all = (all.0, all.1)
numbers_at (x ∷ xs) (suc i) lt all = numbers_at xs i (omega arith) all.2

at_most : (ns : List ℕ) → AreNumbers 65535 (as_numbers ns) → AtMost 65535 ns
at_most [] all = tt
at_most (n ∷ ns) all = (omega (arith, ints, all.1), at_most ns all.2)

large_is : (n : ℕ) → n ≤ 65535 → nat_le (2 ^ 120) n ≡ true → ⊥
large_is n high is = grind (arith, nat_tests, high, is)

large : (n : ℤ) → pos 0 ≤ℤ n → n ≤ℤ pos 65535 → is_out n ≡ true → ⊥
large (pos n) low high is = large_is n (omega (arith, ints, high)) is
large (negsuc n) low high is = omega (arith, ints, low)

-- they are in range
pub small_in : (ns : List ℤ) → AreNumbers 65535 ns → any_out ns ≡ true → ⊥
small_in [] all e = cc e
small_in (n ∷ ns) all e = first (is_out n) refl e (λ r. small_in ns all.2 r)
  where
    first : (b : Bool) → is_out n ≡ b → (b || any_out ns) ≡ true → (any_out ns ≡ true → ⊥) → ⊥
    first true is e more = large n all.0 all.1 is
    first false is e more = more e

-- such a number for each bidder is a choice
pub is_choice : (bidders : ℕ) (ns : List ℕ) → AreNumbers 65535 (as_numbers ns) → length ns ≡ bidders → IsChoice bidders ns
is_choice bidders ns all many = (many, at_most ns all)

module _ (bytes : List ℕ) (place bidders : ℕ) (ns : List ℕ) (next : ℕ) where
  -- a line with such a number for each bidder is read as a choice
  pub each_next : (word : List ℕ) → IsLineAt bytes place word (as_numbers ns) false next → AreNumbers 65535 (as_numbers ns) → length ns ≡ bidders
      → LeadsLike bytes place word (chosen bidders) next (as_numbers ns)
  each_next word at all many = λ n is. line_next bytes place word n (as_numbers ns) false next at refl (is.from (as_numbers ns) (long_numbers ns ∙ many, all))

  -- a line with more or fewer numbers than bidders is of wrong form
  pub each_other : (word : List ℕ) → IsLineAt bytes place word (as_numbers ns) false next → (length ns ≡ bidders → ⊥)
      → HaltsLike bytes place word (chosen bidders) (Form place)
  each_other word at other = λ n is. line_unfit bytes place word n (as_numbers ns) false next
      at (λ ms many same out fit. other (sym (long_numbers ns) ∙ many ∙ (is.to ms fit).0))

  -- a line of rising bidders, at least one, is read as the members of a row
  pub members_next : IsLineAt bytes place (codes "row") (as_numbers ns) false next → 0 < length ns → AreMembers bidders 0 ns
      → Leads bytes place (kind (codes "row") (members bidders) ∷ []) next [] (line (codes "row") (as_numbers ns) ∷ [])
  members_next at some are = line_next bytes place (codes "row") (members bidders) (as_numbers ns) false next at refl
      (omega (arith, some, long_numbers ns), rises 0 ns are)
    where
      rises : (before : ℕ) (ns : List ℕ) → AreMembers bidders before ns → Rise bidders (pos before) (as_numbers ns)
      rises before [] are = tt
      rises before (n ∷ ns) are = (omega (arith, ints, are.0), omega (arith, ints, are.1), rises n ns are.2)

  -- a line of other numbers is of wrong form if members are to come
  pub members_other : IsLineAt bytes place (codes "row") (as_numbers ns) false next → ((0 < length ns) × AreMembers bidders 0 ns → ⊥)
      → Halts bytes place (kind (codes "row") (members bidders) ∷ []) (Form place)
  members_other at other = line_unfit bytes place (codes "row") (members bidders) (as_numbers ns) false next at
      (λ ms many same out fit. let back : FitNumbers (members bidders) (as_numbers ns) = subst (FitNumbers (members bidders)) (sym (same refl)) fit in
      other (omega (arith, back.0, long_numbers ns), are 0 ns back.1))
    where
      are : (before : ℕ) (ns : List ℕ) → Rise bidders (pos before) (as_numbers ns) → AreMembers bidders before ns
      are before [] rise = tt
      are before (n ∷ ns) rise = (omega (arith, ints, rise.0), omega (arith, ints, rise.1), are n ns rise.2)

  -- a line of one number of at most 10, which is 0 without bidders, is read as the count of rows
  pub count_next : IsLineAt bytes place (codes "rows") (as_numbers ns) false next → (count : ℕ) → IsCount bidders ns count
      → LeadsCounted bytes place bidders next count
  count_next at count is = λ n like.
      let one : as_numbers ns ≡ pos count ∷ [] = ap as_numbers is.0 in
      line_next bytes place (codes "rows") n (pos count ∷ []) false next (subst (λ (l : List ℤ). IsLineAt bytes place (codes "rows") l false next) one at)
      refl (like.from (pos count ∷ []) (count, refl, is.1, is.2))

  -- a line of what is no count of rows is of wrong form if one is to come
  pub count_other : IsLineAt bytes place (codes "rows") (as_numbers ns) false next → (FitNumbers (counted bidders) (as_numbers ns) → ⊥)
      → HaltsCounted bytes place bidders (Form place)
  count_other at other = λ n like. line_unfit bytes place (codes "rows") n (as_numbers ns) false next
      at (λ ms many same out fit. other (subst (FitNumbers (counted bidders)) (sym (same refl)) (like.to ms fit)))

  -- numbers that fit these kinds are small
  pub members_small : bidders ≤ 65535 → (ms : List ℤ) → FitNumbers (members bidders) ms → AreNumbers 65535 ms
  members_small few ms fit = small (pos 0) ms (omega (arith, ints)) fit.1
    where
      small : (before : ℤ) (ms : List ℤ) → pos 0 ≤ℤ before → Rise bidders before ms → AreNumbers 65535 ms
      small before [] low rise = tt
      small before (m ∷ ms) low rise = (
        omega (arith, ints, low, rise.0),
        omega (arith, ints, rise.1, few),
        small m ms (omega (arith, ints, low, rise.0)) rise.2,
      )

  -- a count of rows is from 0 to 65,535
  pub count_small : (ms : List ℤ) → FitNumbers (counted bidders) ms → AreNumbers 65535 ms
  count_small ms fit = subst (AreNumbers 65535) (sym fit.1) (omega (arith, ints), omega (arith, ints, fit.2), tt)

-- a line with a number that isn't small
pub not_small : (bytes : List ℕ) (place : ℕ) (word : List ℕ) (kept : List ℤ) (beyond : Bool) (next : ℕ) → IsLineAt bytes place word kept beyond next
    → (beyond ≡ true) ⊎ (AreNumbers 65535 kept → ⊥)
    → (n : Numbers) → ((ns : List ℤ) → FitNumbers n ns → AreNumbers 65535 ns) → Halts bytes place (kind word n ∷ []) (Form place)
not_small bytes place word kept beyond next at why n small = line_unfit bytes place word n kept beyond next
    at (λ ms many same out fit. cases ms beyond why same out (small ms fit))
  where
    cases : (ms : List ℤ) (b : Bool) → (b ≡ true) ⊎ (AreNumbers 65535 kept → ⊥) → (b ≡ false → kept ≡ ms) → any_out ms ≡ b → AreNumbers 65535 ms → ⊥
    cases ms true why same out all = small_in ms all out
    cases ms false (inl e) same out all = cc e
    cases ms false (inr other) same out all = other (subst (AreNumbers 65535) (sym (same refl)) all)

below_z : (a b : ℤ) → lt_z a b ≡ true → a <ℤ b
below_z a b e = lt_z_yes (subst T (sym e) tt)

least_z : (a b : ℤ) → lt_z a b ≡ false → b ≤ℤ a
least_z a b e = lt_z_no (subst (λ (c : Bool). T (not c)) (sym e) tt)

-- with a number below 0 not all are such numbers
pub low_other : (items : List ℤ) (i : ℕ) → i < length items → lt_z (get_or items i (pos 0)) (pos 0) ≡ true → AreNumbers 65535 items → ⊥
low_other items i lt e all = let z = numbers_at items i lt all in omega (arith, ints, z.0, below_z (get_or items i (pos 0)) (pos 0) e)

-- nor with one above 65,535
pub high_other : (items : List ℤ) (i : ℕ) → i < length items → lt_z (pos 65535) (get_or items i (pos 0)) ≡ true → AreNumbers 65535 items → ⊥
high_other items i lt e all = let z = numbers_at items i lt all in omega (arith, ints, z.1, below_z (pos 65535) (get_or items i (pos 0)) e)

-- one more number that is small
pub small_more : (items : List ℤ) (i : ℕ) (ns : List ℕ) → i < length items → AreSmall (take i items) ns → lt_z (get_or items i (pos 0)) (pos 0) ≡ false
    → lt_z (pos 65535) (get_or items i (pos 0)) ≡ false
    → AreSmall (take (i + 1) items) (ns ++ nat_abs (get_or items i (pos 0)) ∷ [])
small_more items i ns lt small low high =
    let least : pos 0 ≤ℤ get_or items i (pos 0) = least_z (get_or items i (pos 0)) (pos 0) low in
    let one : take i items ++ get_or items i (pos 0) ∷ [] ≡ take (i + 1) items = sym (take_more items i (pos 0) lt) in (
      as_more ns (nat_abs (get_or items i (pos 0))) ∙ ap (λ (l : List ℤ). l ++ pos (nat_abs (get_or items i (pos 0))) ∷ []) small.0
          ∙ ap (λ (z : ℤ). take i items ++ z ∷ []) (abs (get_or items i (pos 0)) least) ∙ one,
      subst (AreNumbers 65535) one (numbers_push (take i items) (get_or items i (pos 0)) small.1 least (least_z (pos 65535) (get_or items i (pos 0)) high)),
    )
  where
    abs : (z : ℤ) → pos 0 ≤ℤ z → pos (nat_abs z) ≡ z
    abs (pos n) low = refl
    abs (negsuc n) low = absurd (omega (arith, ints, low))
