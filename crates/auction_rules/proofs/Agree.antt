-- What is held in rounds 1 to n decides the prices, eligibilities and rounds after n closes.
use Rattle.std.proofs.Common.{◌≡◌, ℕ, zero, suc, ◌-◌, ◌<◌, ◌≤◌, List, Option, Some, None, refl, ap, inl, inr, arith, length}
use Rattle.auction_model.specs.Package.{cost_of, is_within}
use Rattle.auction_rules.specs.Terms.{Terms, no_lots}
use Rattle.auction_rules.specs.Rounds.{sum_of, demand, prices_after, eligibility_after, final_round, own_rounds}
use Rattle.std.specs.Prelude.{if◌then◌else◌, ◌⊎◌}
use Rattle.std.specs.Option.{option_or}
use Rattle.std.proofs.lemmas.Bool.{cases_Bool}

-- the same packages in the rounds up to n
pub record Agree (n : ℕ) (held other : ℕ → ℕ → List ℕ) : Type 0 where
  pub same : (r j : ℕ) → r ≤ n → held r j ≡ other r j

-- if the same is held up to round n, the same is held up to each round m that isn't later
pub Agree-fewer : (n m : ℕ) (held other : ℕ → ℕ → List ℕ) → Agree n held other → m ≤ n → Agree m held other
Agree-fewer n m held other agree few = record { same = λ r j h. agree.same r j (omega arith) }

-- packages that are the same for each bidder have the same sum
pub sum_of-same : (none : List ℕ) (f g : ℕ → List ℕ) (n : ℕ) → ((j : ℕ) → f j ≡ g j) → sum_of none f n ≡ sum_of none g n
sum_of-same none f g zero same = refl
sum_of-same none f g (suc n) same = rw (sum_of-same none f g n same, same (suc n)) refl

-- if the same is held up to round n, the demand of each round up to n is the same
pub demand-same : (terms : Terms) (n r : ℕ) (held other : ℕ → ℕ → List ℕ) → Agree n held other → r ≤ n → demand terms held r ≡ demand terms other r
demand-same terms n r held other agree few = sum_of-same (no_lots terms) (held r) (other r) (length terms.bidders) (λ j. agree.same r j few)

-- if the same is held up to round n, the prices after n rounds are the same
pub prices_after-same : (terms : Terms) (n : ℕ) (held other : ℕ → ℕ → List ℕ) → Agree n held other → prices_after terms held n ≡ prices_after terms other n
prices_after-same terms zero held other agree = refl
prices_after-same terms (suc n) held other agree =
    rw (
      prices_after-same terms n held other (Agree-fewer (suc n) n held other agree (omega arith)),
      demand-same terms (suc n) (suc n) held other agree (omega arith),
    ) refl

-- if the same is held up to round n, a bidder's eligibility after n rounds is the same
pub eligibility_after-same : (terms : Terms) (j n : ℕ) (held other : ℕ → ℕ → List ℕ) → Agree n held other
    → eligibility_after terms held j n ≡ eligibility_after terms other j n
eligibility_after-same terms j zero held other agree = refl
eligibility_after-same terms j (suc n) held other agree = ap (cost_of terms.points) (agree.same (suc n) j (omega arith))

-- if the same is held up to round n, the final round among the first n is the same, or there is none in both
pub final_round-same : (terms : Terms) (n : ℕ) (held other : ℕ → ℕ → List ℕ) → Agree n held other → final_round terms held n ≡ final_round terms other n
final_round-same terms zero held other agree = refl
final_round-same terms (suc n) held other agree =
    rw (
      final_round-same terms n held other (Agree-fewer (suc n) n held other agree (omega arith)),
      demand-same terms (suc n) (suc n) held other agree
          (omega arith),
    ) refl

-- if the same is held up to round n, a bidder's first n rounds are the same
pub own_rounds-same : (terms : Terms) (j n : ℕ) (held other : ℕ → ℕ → List ℕ) → Agree n held other → own_rounds terms held j n ≡ own_rounds terms other j n
own_rounds-same terms j zero held other agree = refl
own_rounds-same terms j (suc n) held other agree =
    let fewer : Agree n held other = Agree-fewer (suc n) n held other agree (omega arith) in
    let before : Agree (suc n - 1) held other = Agree-fewer (suc n) (suc n - 1) held other agree (omega arith) in
    rw (
      own_rounds-same terms j n held other fewer,
      prices_after-same terms (suc n - 1) held other before,
      eligibility_after-same terms j (suc n - 1) held other before,
      agree.same (suc n) j (omega arith),
    ) refl

-- two options that are the same have the same value
pub Some-injective : {A : Type 0} {x y : A} → Some x ≡ Some y → x ≡ y
Some-injective h = cc

-- the first of two is one of them
pub option_or-cases : {A : Type 0} (o p : Option A) (x : A) → option_or o p ≡ Some x → (o ≡ Some x) ⊎ (p ≡ Some x)
option_or-cases (Some y) p x h = inl h
option_or-cases None p x h = inr h

-- the final round is among the rounds that are closed
pub final_round-bounds : (terms : Terms) (n : ℕ) (held : ℕ → ℕ → List ℕ) (final : ℕ) → final_round terms held n ≡ Some final → (0 < final) × (final ≤ n)
final_round-bounds terms zero held final h = cc
final_round-bounds terms (suc n) held final h =
    elim (option_or-cases (final_round terms held n) (if is_within (demand terms held (suc n)) terms.supply then Some (suc n) else None) final h) [
      | inl before ↦ let e : (0 < final) × (final ≤ n) = final_round-bounds terms n held final before in (e.0, omega arith)
      | inr now ↦ elim (cases_Bool (is_within (demand terms held (suc n)) terms.supply)) [
        | inl within ↦ let e : suc n ≡ final = Some-injective (rw within at now) in (omega arith, omega arith)
        | inr over ↦ let e : None ≡ Some final = rw over at now in cc
      ]
    ]

-- a round that is final stays so
pub final_round-stays : (terms : Terms) (n : ℕ) (held : ℕ → ℕ → List ℕ) (final : ℕ) → final_round terms held n ≡ Some final
    → final_round terms held (suc n) ≡ Some final
final_round-stays terms n held final h = rw h refl
