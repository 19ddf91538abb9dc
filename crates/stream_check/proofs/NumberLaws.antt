-- Numbers of a choice, as numbers of a line.
use Rattle.std.proofs.Common.{List, [], ap, arith, below_more, get_or, get_or-set_other, get_or-set_same, length, refl, set, suc, sym, zero, ℕ, ◌+◌}
use Rattle.std.proofs.Common.{◌<◌, ◌∙◌, ◌∷◌, ◌≡◌, ◌≢◌, ◌≤◌}
use Rattle.std.specs.Prelude.{ℤ, pos}
use Rattle.cert_grammar.specs.CertText.{AtMost, as_numbers}
use Rattle.cert_stream.proofs.Comings.{number_at}

-- one of them
pub number-at : (from : List ℤ) (ns : List ℕ) (k : ℕ) → from ≡ as_numbers ns → get_or from k (pos 0) ≡ pos (get_or ns k 0)
number-at from ns k is = ap (λ (l : List ℤ). get_or l k (pos 0)) is ∙ number_at ns k

most : (m : ℕ) (ns : List ℕ) (k : ℕ) → AtMost m ns → get_or ns k 0 ≤ m
most m [] k all = omega arith
most m (n ∷ ns) zero all = all.0
most m (n ∷ ns) (suc k) all = most m ns k all.1

one : (x y m : ℕ) → pos x ≡ pos y → x ≤ m → y ≤ m
one x y m e le = let same : x ≡ y = cc in omega (arith, same, le)

-- which is small
pub most-at : (from : List ℤ) (ms ns : List ℕ) (k : ℕ) → from ≡ as_numbers ms → from ≡ as_numbers ns → AtMost 65535 ms → get_or ns k 0 ≤ 65535
most-at from ms ns k first second all = one (get_or ms k 0) (get_or ns k 0) 65535 (sym (number-at from ms k first) ∙ number-at from ns k second)
    (most 65535 ms k all)

-- one more is written
pub put-more : (to ns : List ℕ) (k v : ℕ) → k < length to → ((q : ℕ) → q < k → get_or to q 0 ≡ get_or ns q 0) → v ≡ get_or ns k 0 → (q : ℕ) → q < k + 1
    → get_or (set to k v) q 0 ≡ get_or ns q 0
put-more to ns k v inside done is = below_more (λ q. get_or (set to k v) q 0 ≡ get_or ns q 0) k
    (λ q h. let other : q ≢ k = omega arith in rw get_or-set_other (done q h))
    (rw get_or-set_same is)

-- lists of the same numbers
pub same-list : (xs ys : List ℕ) → length xs ≡ length ys → ((q : ℕ) → q < length xs → get_or xs q 0 ≡ get_or ys q 0) → xs ≡ ys
same-list [] [] long each = refl
same-list [] (y ∷ ys) long each = absurd (omega (arith, long))
same-list (x ∷ xs) [] long each = absurd (omega (arith, long))
same-list (x ∷ xs) (y ∷ ys) long each =
    let first : x ≡ y = each 0 (omega arith) in
    ap (λ (n : ℕ). n ∷ xs) first ∙ ap (λ (l : List ℕ). y ∷ l) (same-list xs ys (omega (arith, long)) (λ q lt. each (suc q) (omega (arith, lt))))
