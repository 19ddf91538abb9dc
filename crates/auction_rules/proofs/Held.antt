-- What one more line changes of the packages that are held.
use Rattle.std.proofs.Common.{◌≡◌, ℕ, suc, ◌<◌, false, List, [], ◌∷◌, Some, None, refl, ◌∙◌, ap, inl, inr, arith}
use Rattle.std.proofs.lemmas.Bool.{cases_Bool, eq-eqb, ne_eqb}
use Rattle.auction_rules.specs.declared.Event.{Event}
use Rattle.auction_rules.specs.Lines.{is_close, bid_by, closes, section, held_in, newest}
use Rattle.auction_rules.specs.Terms.{Terms, no_lots}
use Rattle.std.specs.Prelude.{filter_map, unwrap_or, nat_eq}

-- a line that is no close leaves the number of closes
pub closes-line : (e : Event) (lines : List Event) → is_close e ≡ false → closes (e ∷ lines) ≡ closes lines
closes-line e lines h = rw h refl

-- a line adds nothing to a section other than that in which it stands
pub section-elsewhere : (r : ℕ) (e : Event) (lines : List Event) → (suc (closes lines) ≡ r → ⊥) → section r (e ∷ lines) ≡ section r lines
section-elsewhere r e lines ne = rw (ne_eqb (suc (closes lines)) r ne) refl

-- in its own section a line stands as the newest
pub section-here : (e : Event) (lines : List Event) → section (suc (closes lines)) (e ∷ lines) ≡ e ∷ section (suc (closes lines)) lines
section-here e lines = rw (eq-eqb (suc (closes lines)) (suc (closes lines)) refl) refl

-- a section that is not yet begun is empty
pub section-later : (r : ℕ) (lines : List Event) → suc (closes lines) < r → section r lines ≡ []
section-later r [] h = refl
section-later r (e ∷ lines) h =
    elim (cases_Bool (is_close e)) [
      | inl close ↦ let more : suc (suc (closes lines)) < r = rw close at h in
          section-elsewhere r e lines (λ here. absurd (omega arith)) ∙ section-later r lines (omega arith)
      | inr other ↦ let same : suc (closes lines) < r = rw other at h in
          section-elsewhere r e lines (λ here. absurd (omega arith)) ∙ section-later r lines same
    ]

-- in another round than that of the line all stays
pub held_in-elsewhere : (terms : Terms) (r j : ℕ) (e : Event) (lines : List Event) → (suc (closes lines) ≡ r → ⊥)
    → held_in terms (e ∷ lines) r j ≡ held_in terms lines r j
held_in-elsewhere terms r j e lines ne = ap (λ s. unwrap_or (newest (filter_map (bid_by j) s)) (no_lots terms)) (section-elsewhere r e lines ne)

-- a line that is no bid of bidder j changes nothing that j holds
pub held_in-no_bid : (terms : Terms) (r j : ℕ) (e : Event) (lines : List Event) → bid_by j e ≡ None → held_in terms (e ∷ lines) r j ≡ held_in terms lines r j
held_in-no_bid terms r j e lines none =
    elim (cases_Bool (nat_eq (suc (closes lines)) r)) [
      | inl here ↦ rw here (rw none refl)
      | inr elsewhere ↦ rw elsewhere refl
    ]

-- a bid is what its bidder holds in its round
pub held_in-bid : (terms : Terms) (j : ℕ) (e : Event) (lines : List Event) (lots : List ℕ) → bid_by j e ≡ Some lots
    → held_in terms (e ∷ lines) (suc (closes lines)) j ≡ lots
held_in-bid terms j e lines lots bid = rw (section-here e lines) (rw bid refl)

-- nothing is held in a round that is not yet begun
pub held_in-later : (terms : Terms) (r j : ℕ) (lines : List Event) → suc (closes lines) < r → held_in terms lines r j ≡ no_lots terms
held_in-later terms r j lines h = rw (section-later r lines h) refl
