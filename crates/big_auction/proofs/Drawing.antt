-- What is drawn, and the packages that come of it.
use Rattle.std.proofs.Common.{◌≡◌, ℕ, zero, suc, ◌+◌, ◌/◌, ◌%◌, ◌^◌, ◌<◌, ◌≤◌, List, [], ◌∷◌, refl, ◌∙◌, ap, arith}
use Rattle.std.proofs.lemmas.Nat.{mod_below}
use Rattle.big_auction.specs.Draws.{turned, advanced, drawn, drawn_package}
use Rattle.big_auction.specs.MadeLog.{package_of}

-- a draw is below its bound
pub drawn-below : (state n bound : ℕ) → 0 < bound → drawn state n bound < bound
unfolding drawn
drawn-below state n bound some = mod_below (advanced state n / 2 ^ 16) bound some

-- the state no draws after one is that one
pub behind-none : (state : ℕ) → advanced state 0 ≡ state
unfolding advanced
behind-none state = refl

-- one draw more leads to the next state
pub behind-more : (state n : ℕ) → advanced state (suc n) ≡ turned (advanced state n)
unfolding advanced
behind-more state n = refl

-- that many draws after another state
pub behind-behind : (state m n : ℕ) → advanced (advanced state m) n ≡ advanced state (m + n)
unfolding advanced
behind-behind state m zero = let e : m ≡ m + 0 = omega arith in ap (advanced state) e
behind-behind state m (suc n) = let e : suc (m + n) ≡ m + suc n = omega arith in ap turned (behind-behind state m n) ∙ ap (advanced state) e

-- the n-th draw from the state after m draws on is the one of number m + n
pub drawn-behind : (state m n bound : ℕ) → drawn (advanced state m) n bound ≡ drawn state (m + n) bound
unfolding drawn
drawn-behind state m n bound = ap (λ (s : ℕ). s / 2 ^ 16 % bound) (behind-behind state m n)

-- a package of the first rounds
pub record IsOwn (lots : List ℕ) : Type 0 where
  pub a : ℕ
  pub b : ℕ
  pub c : ℕ
  pub e : ℕ
  pub are : lots ≡ a ∷ b ∷ c ∷ e ∷ []
  pub some : 1 ≤ a
  pub few_a : a ≤ 2
  pub few_b : b ≤ 1
  pub few_c : c ≤ 7
  pub few_e : e ≤ 4

-- a package drawn within the counts of one of the first rounds is such a package
pub IsOwn-drawn : (state a b c e : ℕ) → 1 ≤ a → a ≤ 2 → b ≤ 1 → c ≤ 7 → e ≤ 4 → IsOwn (drawn_package state (a ∷ b ∷ c ∷ e ∷ []))
IsOwn-drawn state a b c e some few_a few_b few_c few_e = record {
  a = suc (drawn state 1 a);
  b = drawn state 2 (suc b);
  c = drawn state 3 (suc c);
  e = drawn state 4 (suc e);
  are = refl;
  some = omega arith;
  few_a = omega (arith, drawn-below state 1 a (omega arith));
  few_b = omega (arith, drawn-below state 2 (suc b) (omega arith));
  few_c = omega (arith, drawn-below state 3 (suc c) (omega arith));
  few_e = omega (arith, drawn-below state 4 (suc e) (omega arith));
}

-- the package that a bidder has in the first rounds is one
pub IsOwn-package_of : (number k : ℕ) → IsOwn (package_of number k)
unfolding package_of
IsOwn-package_of number k = IsOwn-drawn _ 2 1 7 4 (omega arith) (omega arith) (omega arith) (omega arith) (omega arith)

-- ---- one draw after the other

abbrev pub IsNext : ℕ → ℕ → Type 0
IsNext state next = next ≡ advanced state 1

-- the state next to the one after n draws is the one after n + 1
pub next-next : (state first next n : ℕ) → first ≡ advanced state n → IsNext first next → next ≡ advanced state (n + 1)
next-next state first next n is then = then ∙ ap (λ (s : ℕ). advanced s 1) is ∙ behind-behind state n 1

-- the first draw from the state after n draws on is the one of number n + 1
pub drawn-next : (state first n x bound : ℕ) → first ≡ advanced state n → x ≡ drawn first 1 bound → x ≡ drawn state (n + 1) bound
drawn-next state first n x bound is drew = drew ∙ ap (λ (s : ℕ). drawn s 1 bound) is ∙ drawn-behind state n 1 bound

-- four states on, each next to the one before, is the state after four draws
pub four-states : (s0 s1 s2 s3 s4 : ℕ) → IsNext s0 s1 → IsNext s1 s2 → IsNext s2 s3 → IsNext s3 s4 → s4 ≡ advanced s0 4
four-states s0 s1 s2 s3 s4 a b c d = next-next s0 s3 s4 3 (next-next s0 s2 s3 2 (next-next s0 s1 s2 1 a b) c) d

-- the four draws of a package
pub four-drawn : (s0 s1 s2 s3 a b c e ma mb mc me : ℕ) → IsNext s0 s1 → IsNext s1 s2 → IsNext s2 s3
    → a ≡ drawn s0 1 ma → b ≡ drawn s1 1 (mb + 1) → c ≡ drawn s2 1 (mc + 1) → e ≡ drawn s3 1 (me + 1)
    → (1 + a) ∷ b ∷ c ∷ e ∷ [] ≡ drawn_package s0 (ma ∷ mb ∷ mc ∷ me ∷ [])
four-drawn s0 s1 s2 s3 a b c e ma mb mc me n1 n2 n3 da db dc de =
    let first : 1 + a ≡ suc (drawn s0 1 ma) = omega (arith, da) in
    let eb : mb + 1 ≡ suc mb = omega arith in
    let ec : mc + 1 ≡ suc mc = omega arith in
    let ee : me + 1 ≡ suc me = omega arith in
    let second : b ≡ drawn s0 2 (suc mb) = drawn-next s0 s1 1 b (mb + 1) n1 db ∙ ap (drawn s0 2) eb in
    let third : c ≡ drawn s0 3 (suc mc) = drawn-next s0 s2 2 c (mc + 1) (next-next s0 s1 s2 1 n1 n2) dc ∙ ap (drawn s0 3) ec in
    let fourth : e ≡ drawn s0 4 (suc me) = drawn-next s0 s3 3 e (me + 1) (next-next s0 s2 s3 2 (next-next s0 s1 s2 1 n1 n2) n3) de ∙ ap (drawn s0 4) ee in
    rw (first, second, third, fourth) refl
