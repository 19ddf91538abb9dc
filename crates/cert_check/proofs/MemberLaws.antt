-- The members of a row, by their places in its list.
use Rattle.std.specs.Prelude.{◌≡◌, ℕ, zero, suc, ◌+◌, ◌-◌, ◌≤◌, ◌<◌, ◌||◌, ◌==◌, IsTrue, List, [], ◌∷◌, length, get_or, refl}
use Rattle.std.proofs.Common.{inl, inr, ap, subst, arith, ◌∙◌}
use Rattle.std.proofs.lemmas.Bool.{false≢true, or_cases, eqb-true, eq-eqb}
use Rattle.std.proofs.Math.Bool.{or-true}
use Rattle.auction_model.specs.Market.{number_of}
use Rattle.auction_model.specs.Menu.{Menu, is_known_after}
use Rattle.auction_model.proofs.ChoiceLaws.{known-length, known-of}
use Rattle.cert_grammar.specs.CertText.{AreMembers}
use Rattle.cert_grammar.specs.Certificate.{is_member}

-- each number of a known choice is that of a bid or 0
pub known-number : (m : Menu) (c : List ℕ) (j : ℕ) → IsTrue (is_known_after m 0 c) → 0 < j → j ≤ m.bidders → number_of c j ≤ m.bids j
known-number m c j t some le =
    let back : (j - 1) + 1 ≡ j = omega arith in
    let len = known-length m 0 c t in
    subst (λ (x : ℕ). number_of c j ≤ m.bids x) back (known-of m c (j - 1) t (omega (arith, len)))

-- each is the number of a bidder
pub members-in : (bidders before : ℕ) (members : List ℕ) (k : ℕ) → AreMembers bidders before members → k < length members
    → (before < get_or members k 0) × (get_or members k 0 ≤ bidders)
members-in bidders before [] k h lt = absurd (omega arith)
members-in bidders before (j ∷ members) zero h lt = (h.0, h.1)
members-in bidders before (j ∷ members) (suc k) h lt =
    let rest = members-in bidders j members k h.2 (omega arith) in
    let own = h.0 in (omega (arith, rest.0, own), rest.1)

-- each number of the list is that of a member
pub member-at : (members : List ℕ) (k : ℕ) → k < length members → IsTrue (is_member members (get_or members k 0))
member-at [] k lt = absurd (omega arith)
member-at (j ∷ members) zero lt = ap (λ b. b || is_member members j) (eq-eqb j j refl)
member-at (j ∷ members) (suc k) lt =
    let rest = member-at members k (omega arith) in
    ap (λ b. (j == get_or members k 0) || b) rest ∙ or-true (j == get_or members k 0)

-- each member is at some place of the list
pub place_of-member : (members : List ℕ) (j : ℕ) → IsTrue (is_member members j) → (k : ℕ) × (k < length members) × (get_or members k 0 ≡ j)
place_of-member [] j h = absurd (false≢true h)
place_of-member (i ∷ members) j h =
    elim (or_cases (i == j) (is_member members j) h) [
      | inl own ↦ (0, omega arith, eqb-true i j own)
      | inr other ↦ (let rest = place_of-member members j other in (suc rest.0, omega (arith, rest.1), rest.2))
    ]

-- what holds at each place holds of each member
pub of-members : (P : ℕ → Type 0) (members : List ℕ) → ((k : ℕ) → k < length members → P (get_or members k 0)) → (j : ℕ) → IsTrue (is_member members j) → P j
of-members P members all j h =
    let place = place_of-member members j h in
    subst P place.2 (all place.0 place.1)
