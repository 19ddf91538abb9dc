-- The sum of the members, one entry after the other.
use Rattle.far_num.specs.Members.{holds, members_sum, StayInRange}
use Rattle.far_num.specs.Pairs.{IsInRange, far_at, near_at, pair_at, sum_of}
use Rattle.far_num.specs.declared.Far.{Far}
use Rattle.std.proofs.Common.{◌≡◌, ℕ, suc, ◌/◌, ◌%◌, ◌^◌, ℤ, pos, ◌*ℤ◌, ◌+ℤ◌, List, ap, arith, subst, sym, ◌∙◌, inl, inr}
use Rattle.std.proofs.lemmas.Bool.{cases_eq}
use Rattle.std.proofs.Math.IntN.{*ℤ_comm, *ℤ-zero}
use Rattle.std.proofs.Math.Nat.{div-div-eq-div-mul, pow-suc}
use Rattle.std.specs.Int.{bit_at}
use Rattle.wide_num.proofs.Ints.{lin, *ℤ-one}

pair_same : (a b c d : ℤ) → a ≡ c → b ≡ d → (let p : Far = record { far = a; near = b } in p) ≡ record { far = c; near = d }
pair_same a b c d e f = cc

member_added : (members : ℕ) (xs : List Far) (n : ℕ) → bit_at members n ≡ 1 → members_sum members xs (suc n) ≡ sum_of (members_sum members xs n) (pair_at xs n)
member_added members xs n is =
    let one : (y : ℤ) → holds members n *ℤ y ≡ y = λ y. ap (λ (b : ℕ). pos b *ℤ y) is ∙ *ℤ_comm (pos 1) y ∙ *ℤ-one y in
    pair_same _ _ _ _ (ap (λ (y : ℤ). (members_sum members xs n).far +ℤ y) (one (far_at xs n)))
    (ap (λ (y : ℤ). (members_sum members xs n).near +ℤ y) (one (near_at xs n)))

other_left_out : (members : ℕ) (xs : List Far) (n : ℕ) → bit_at members n ≡ 0 → members_sum members xs (suc n) ≡ members_sum members xs n
other_left_out members xs n is =
    let none : (x y : ℤ) → x +ℤ holds members n *ℤ y ≡ x = λ x y. omega (arith, lin, ap (λ (b : ℕ). pos b *ℤ y) is ∙ *ℤ_comm (pos 0) y ∙ *ℤ-zero y) in
    pair_same _ _ _ _ (none (members_sum members xs n).far (far_at xs n)) (none (members_sum members xs n).near (near_at xs n))

stays_more : (members : ℕ) (xs : List Far) (n : ℕ) → StayInRange members xs n → IsInRange (members_sum members xs (suc n)) → StayInRange members xs (suc n)
stays_more members xs n all here i le =
    elim (cases_eq i (suc n)) [
      | inl e ↦ subst (λ (k : ℕ). IsInRange (members_sum members xs k)) (sym e) here
      | inr ne ↦ all i (omega arith)
    ]

halved : (members n : ℕ) → members / 2 ^ n / 2 ≡ members / 2 ^ suc n
halved members n = div-div-eq-div-mul members (2 ^ n) 2 ∙ ap (λ (k : ℕ). members / k) (sym (pow-suc 2 n))

-- the sum and the bits that are left before entry n
pub record IsAtEntry (members : ℕ) (xs : List Far) (n : ℕ) (sum : Far) (left : ℕ) : Type 0 where
  pub sum_is : sum ≡ members_sum members xs n
  pub left_is : left ≡ members / 2 ^ n
  pub inside : StayInRange members xs n

-- past an entry that is no member the sum stays as it is, and one bit fewer is left
pub passed_other : (members : ℕ) (xs : List Far) (n : ℕ) (sum : Far) (left : ℕ) → IsAtEntry members xs n sum left → left % 2 ≡ 0
    → IsAtEntry members xs (suc n) sum (left / 2)
passed_other members xs n sum left h bit =
    let same = other_left_out members xs n (ap (λ (k : ℕ). k % 2) (sym h.left_is) ∙ bit) in
    record {
      sum_is = h.sum_is ∙ sym same;
      left_is = ap (λ (k : ℕ). k / 2) h.left_is ∙ halved members n;
      inside = stays_more members xs n h.inside (subst IsInRange (sym same) (h.inside n (omega arith)));
    }

-- past a member the sum grows by its pair, if that stays in the range, and one bit fewer is left
pub passed_member : (members : ℕ) (xs : List Far) (n : ℕ) (sum next x : Far) (left : ℕ) → IsAtEntry members xs n sum left → left % 2 ≡ 1 → x ≡ pair_at xs n
    → next ≡ sum_of sum x → IsInRange (sum_of sum x) → IsAtEntry members xs (suc n) next (left / 2)
passed_member members xs n sum next x left h bit item is here =
    let more : sum_of sum x ≡ members_sum members xs (suc n) =
    ap (sum_of sum) item ∙ ap (λ (s : Far). sum_of s (pair_at xs n)) h.sum_is ∙ sym (member_added members xs n (ap (λ (k : ℕ). k % 2) (sym h.left_is) ∙ bit)) in
    record {
      sum_is = is ∙ more;
      left_is = ap (λ (k : ℕ). k / 2) h.left_is ∙ halved members n;
      inside = stays_more members xs n h.inside (subst IsInRange more here);
    }
