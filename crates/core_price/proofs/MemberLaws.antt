-- The members of a row, bidder by bidder.
use Rattle.std.proofs.Common.{Bool, List, [], ap, arith, cond, drop, false, get_or, length, refl, suc, sym, true, ℕ, ◌%◌, ◌++◌, ◌+◌, ◌-◌, ◌/◌, ◌<◌}
use Rattle.std.proofs.Common.{◌==◌, ◌∙◌, ◌∷◌, ◌≡◌}
use Rattle.std.proofs.lemmas.List.{append-nil, drop_more}
use Rattle.core_laws.specs.Winners.{has_bit, has_member, members_of}

-- the bidder, if the lowest bit is set
abbrev pub lowest_member : ℕ → ℕ → List ℕ
lowest_member bits bidder = cond ((bits % 2) == 1) (bidder ∷ []) []

-- the members of a row, bidder by bidder
module _ (z : List ℕ) (bits k rest : ℕ) (others : (i : ℕ) → has_bit (drop k z) rest i ≡ has_bit z bits (k + i)) where
  this-bit : has_member z bits (suc k) ≡ has_bit (drop k z) rest 0
  this-bit =
      let same : suc k - 1 ≡ k + 0 = omega arith in
      ap (has_bit z bits) same ∙ sym (others 0)

  later : (next left : ℕ) → drop k z ≡ next ∷ drop (k + 1) z → ((i : ℕ) → has_bit (next ∷ drop (k + 1) z) rest (suc i) ≡ has_bit (drop (k + 1) z) left i)
      → (i : ℕ) → has_bit (drop (k + 1) z) left i ≡ has_bit z bits (k + 1 + i)
  later next left split tail i =
      let up : k + suc i ≡ k + 1 + i = omega arith in
      sym (tail i) ∙ ap (λ (l : List ℕ). has_bit l rest (suc i)) (sym split) ∙ others (suc i) ∙ ap (has_bit z bits) up

  one-more : (b : Bool) (bidder : ℕ) (ms : List ℕ) → cond b (ms ++ bidder ∷ []) ms ≡ ms ++ cond b (bidder ∷ []) []
  one-more true bidder ms = refl
  one-more false bidder ms = sym (append-nil ms)

  module _ (list new : List ℕ) (made : list ≡ members_of (has_member z bits) k) where
    -- a loser adds no member
    pub loser-made : k < length z → get_or z k 0 ≡ 0 → new ≡ list → new ≡ members_of (has_member z bits) (k + 1)
    loser-made inside none is =
        let split : drop k z ≡ 0 ∷ drop (k + 1) z = drop_more z k 0 inside ∙ ap (λ (n : ℕ). n ∷ drop (k + 1) z) none in
        let out : has_member z bits (suc k) ≡ false = this-bit ∙ ap (λ (l : List ℕ). has_bit l rest 0) split in
        let up : k + 1 ≡ suc k = omega arith in
        let same : members_of (has_member z bits) (k + 1) ≡ members_of (has_member z bits) k =
        ap (members_of (has_member z bits)) up ∙ ap (λ (b : Bool). cond b (members_of (has_member z bits) k ++ suc k ∷ []) (members_of (has_member z bits) k)) out in
        is ∙ made ∙ sym same

    -- a winner is one member more if the lowest bit that is left is set
    pub winner-made : (n : ℕ) → k < length z → get_or z k 0 ≡ suc n → new ≡ list ++ lowest_member rest (k + 1) → new ≡ members_of (has_member z bits) (k + 1)
    winner-made n inside some is =
        let split : drop k z ≡ suc n ∷ drop (k + 1) z = drop_more z k 0 inside ∙ ap (λ (x : ℕ). x ∷ drop (k + 1) z) some in
        let bit : has_member z bits (suc k) ≡ ((rest % 2) == 1) = this-bit ∙ ap (λ (l : List ℕ). has_bit l rest 0) split in
        let up : k + 1 ≡ suc k = omega arith in
        let more : members_of (has_member z bits) (k + 1) ≡ members_of (has_member z bits) k ++ lowest_member rest (k + 1) =
        ap (members_of (has_member z bits)) up
        ∙ ap (λ (b : Bool). cond b (members_of (has_member z bits) k ++ suc k ∷ []) (members_of (has_member z bits) k)) bit
        ∙ one-more ((rest % 2) == 1) (suc k) (members_of (has_member z bits) k)
        ∙ ap (λ (j : ℕ). members_of (has_member z bits) k ++ lowest_member rest j) (sym up) in
        is ∙ ap (λ (l : List ℕ). l ++ lowest_member rest (k + 1)) made ∙ sym more

  -- past a loser the bits that are left are those of the bidders after it
  pub loser-others : k < length z → get_or z k 0 ≡ 0 → (i : ℕ) → has_bit (drop (k + 1) z) rest i ≡ has_bit z bits (k + 1 + i)
  loser-others inside none = later 0 rest (drop_more z k 0 inside ∙ ap (λ (n : ℕ). n ∷ drop (k + 1) z) none) (λ i. refl)

  -- past a winner the bits that are left but the lowest are those of the bidders after it
  pub winner-others : (n : ℕ) → k < length z → get_or z k 0 ≡ suc n → (i : ℕ) → has_bit (drop (k + 1) z) (rest / 2) i ≡ has_bit z bits (k + 1 + i)
  winner-others n inside some = later (suc n) (rest / 2) (drop_more z k 0 inside ∙ ap (λ (x : ℕ). x ∷ drop (k + 1) z) some) (λ i. refl)
