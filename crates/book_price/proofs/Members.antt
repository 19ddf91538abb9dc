-- The members of a row as a list.
use Rattle.std.specs.Prelude.{Bool, List, [], cond, false, length, not, refl, suc, true, zero, ℕ, ◌%◌, ◌&&◌, ◌*◌, ◌++◌, ◌-◌, ◌/◌, ◌<◌, ◌==◌, ◌^◌}
use Rattle.std.specs.Prelude.{◌||◌, ◌∷◌, ◌≡◌, ◌≤◌}
use Rattle.std.proofs.Common.{sym, ◌∙◌, ap, arith, inl, inr, ◌⊎◌}
use Rattle.std.proofs.lemmas.Bool.{cases_Bool, cases_eq, cases_lt, eq-eqb, ne_eqb, false≢true}
use native.Mathlib.Nat.{pow-suc}
use Rattle.auction_model.specs.Market.{uses}
use Rattle.cert_grammar.specs.Certificate.{is_member}
use Rattle.cert_grammar.specs.CertText.{AreMembers}
use Rattle.core_laws.specs.Winners.{has_bit, members_of, winners_in}

or_none : (b : Bool) → b ≡ (b || false)
or_none true = refl
or_none false = refl

or_again : (a b c : Bool) → (a || (b || c)) ≡ ((a || b) || c)
or_again true b c = refl
or_again false b c = refl

and_none : (b : Bool) → (b && false) ≡ false
and_none true = refl
and_none false = refl

and_all : (b : Bool) → (b && true) ≡ b
and_all true = refl
and_all false = refl

member-append : (xs : List ℕ) (x j : ℕ) → is_member (xs ++ x ∷ []) j ≡ (is_member xs j || (x == j))
member-append [] x j = sym (or_none (x == j))
member-append (y ∷ xs) x j = ap (λ b. (y == j) || b) (member-append xs x j) ∙ or_again (y == j) (is_member xs j) (x == j)

-- one bidder more
member-step : (s : ℕ → Bool) (n j : ℕ) → is_member (members_of s (suc n)) j ≡ (is_member (members_of s n) j || (s (suc n) && (suc n == j)))
member-step s n j = by (s (suc n))
  where
    by : (b : Bool) → is_member (cond b (members_of s n ++ suc n ∷ []) (members_of s n)) j ≡ (is_member (members_of s n) j || (b && (suc n == j)))
    by true = member-append (members_of s n) (suc n) j
    by false = or_none (is_member (members_of s n) j)

none-above : (s : ℕ → Bool) (n j : ℕ) → n < j → is_member (members_of s n) j ≡ false
none-above s zero j lt = refl
none-above s (suc n) j lt = member-step s n j ∙ rw (none-above s n j (omega arith), ne_eqb (suc n) j (λ e. absurd (omega arith))) (and_none (s (suc n)))

none-zero : (s : ℕ → Bool) (n : ℕ) → is_member (members_of s n) 0 ≡ false
none-zero s zero = refl
none-zero s (suc n) = member-step s n 0 ∙ rw (none-zero s n, ne_eqb (suc n) 0 (λ e. absurd (omega arith))) (and_none (s (suc n)))

-- a bidder is in the list exactly if it is in the set
pub member-is : (s : ℕ → Bool) (n j : ℕ) → 0 < j → j ≤ n → is_member (members_of s n) j ≡ s j
member-is s zero j some inside = absurd (omega arith)
member-is s (suc n) j some inside = member-step s n j ∙ by (cases_eq (suc n) j) (λ below. member-is s n j some below)
  where
    by : (suc n ≡ j) ⊎ ¬ (suc n ≡ j) → (j ≤ n → is_member (members_of s n) j ≡ s j) → (is_member (members_of s n) j || (s (suc n) && (suc n == j))) ≡ s j
    by (inl e) before = rw (none-above s n j (omega (arith, e)), eq-eqb (suc n) j e) (and_all (s (suc n)) ∙ ap s e)
    by (inr d) before = rw (before (omega (arith, d)), ne_eqb (suc n) j d) (ap (λ b. s j || b) (and_none (s (suc n))) ∙ sym (or_none (s j)))

-- members are bidders
pub member-inside : (s : ℕ → Bool) (n j : ℕ) → is_member (members_of s n) j ≡ true → (0 < j) × (j ≤ n)
member-inside s n zero member = absurd (false≢true (sym (none-zero s n) ∙ member))
member-inside s n (suc j) member = by (cases_lt n (suc j))
  where
    by : (n < suc j) ⊎ (suc j ≤ n) → (0 < suc j) × (suc j ≤ n)
    by (inl above) = absurd (false≢true (sym (none-above s n (suc j) above) ∙ member))
    by (inr inside) = (omega arith, inside)

rise-append : (most before n : ℕ) (xs : List ℕ) → AreMembers n before xs → before ≤ n → suc n ≤ most → AreMembers most before (xs ++ suc n ∷ [])
rise-append most before n [] h below inside = (omega arith, inside, tt)
rise-append most before n (x ∷ xs) h below inside = (h.0, omega (arith, h.1), rise-append most x n xs h.2 h.1 inside)

rise-more : (n most before : ℕ) (xs : List ℕ) → n ≤ most → AreMembers n before xs → AreMembers most before xs
rise-more n most before [] le h = tt
rise-more n most before (x ∷ xs) le h = (h.0, omega (arith, h.1), rise-more n most x xs le h.2)

-- the members are bidders, and rise
pub members-rise : (s : ℕ → Bool) (n : ℕ) → AreMembers n 0 (members_of s n)
members-rise s zero = tt
members-rise s (suc n) = by (s (suc n)) (members-rise s n)
  where
    by : (b : Bool) → AreMembers n 0 (members_of s n) → AreMembers (suc n) 0 (cond b (members_of s n ++ suc n ∷ []) (members_of s n))
    by true h = rise-append (suc n) 0 n (members_of s n) h (omega arith) (omega arith)
    by false h = rise-more n (suc n) 0 (members_of s n) (omega arith) h

-- a list with a member isn't empty
pub member-some : (xs : List ℕ) (j : ℕ) → is_member xs j ≡ true → 0 < length xs
member-some [] j e = absurd (false≢true e)
member-some (x ∷ xs) j e = omega arith

next-wins : (z : List ℕ) (x k : ℕ) → (k < length z) × (uses z (suc k) ≡ true) → (suc k < length (x ∷ z)) × (uses (x ∷ z) (suc (suc k)) ≡ true)
next-wins z x k h = (omega (arith, h.0), let b : suc (suc k) - 1 ≡ suc (suc k - 1) = omega arith in rw b h.1)

-- only winners have bits
pub bit-wins : (z : List ℕ) (bits k : ℕ) → has_bit z bits k ≡ true → (k < length z) × (uses z (suc k) ≡ true)
bit-wins [] bits k e = absurd (false≢true e)
bit-wins (zero ∷ z) bits zero e = absurd (false≢true e)
bit-wins (zero ∷ z) bits (suc k) e = next-wins z 0 k (bit-wins z bits k e)
bit-wins (suc n ∷ z) bits zero e = (omega arith, ap not (ne_eqb (suc n) 0 (omega arith)))
bit-wins (suc n ∷ z) bits (suc k) e = next-wins z (suc n) k (bit-wins z (bits / 2) k e)

-- a set of bits that isn't empty has a winner
pub some-bit : (z : List ℕ) (bits : ℕ) → 0 < bits → bits < 2 ^ winners_in z → (k : ℕ) × (k < length z) × (has_bit z bits k ≡ true)
some-bit [] bits some below = absurd (omega arith)
some-bit (zero ∷ z) bits some below = let r = some-bit z bits some below in (suc r.0, omega (arith, r.1), r.2)
some-bit (suc n ∷ z) bits some below = by (cases_Bool ((bits % 2) == 1)) (λ more less. some-bit z (bits / 2) more less)
  where
    by : ((bits % 2) == 1 ≡ true) ⊎ ((bits % 2) == 1 ≡ false) → (0 < bits / 2 → bits / 2 < 2 ^ winners_in z
        → (k : ℕ) × (k < length z) × (has_bit z (bits / 2) k ≡ true)) → (k : ℕ) × (k < suc (length z)) × (has_bit (suc n ∷ z) bits k ≡ true)
    by (inl e) next = (0, omega arith, e)
    by (inr e) next =
        let even : ¬ (bits % 2 ≡ 1) = λ q. false≢true (sym e ∙ eq-eqb (bits % 2) 1 q) in
        let p : 2 ^ suc (winners_in z) ≡ 2 ^ winners_in z * 2 = pow-suc 2 (winners_in z) in
        let r = next (omega (arith, even)) (omega (arith, p)) in
        (suc r.0, omega (arith, r.1), r.2)
