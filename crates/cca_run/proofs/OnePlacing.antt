-- What placements give: one status and one printed text.
use Rattle.std.proofs.Common.{Bool, List, Option, [], ap, arith, codes, false, inl, inr, length, pos, refl, subst, sym, true, ℕ, ℤ, ◌++◌, ◌<◌, ◌∙◌}
use Rattle.std.proofs.Common.{◌∷◌, ◌≡◌, ◌≤◌}
use Rattle.std.specs.Prelude.{◌^◌, ◌≤ℤ◌}
use Rattle.line_format.specs.LineText.{Said, Says, beyond, faulty, stated}
use Rattle.auction_model.specs.Lawful.{IsMarket}
use Rattle.auction_model.specs.Market.{Market}
use Rattle.auction_model.specs.Prices.{AreVickreyPrices, Point, SamePoint, alike}
use Rattle.auction_model.specs.PricingRun.{BidderTurn, IsPricingRun}
use Rattle.book_grammar.specs.BookLines.{Excess}
use Rattle.cert_grammar.specs.PlaceCert.{PlaceCertValue}
use Rattle.cert_soundness.specs.Sound.{cert_point}
use Rattle.limits.specs.declared.TheConstants.{CERT_BYTES, MOST_PLACED, SLOTS_BYTES}
use Rattle.placement_cert.specs.PlaceSays.{PlaceCertSays, place_text}
use Rattle.placement_check.specs.PlacePriced.{IsPricedPlaceCert, IsSamePricing}
use Rattle.placement_check.specs.PlaceSound.{IsPlaceSound}
use Rattle.cert_soundness.specs.MarketPrices.{prices_in}
use Rattle.placement_check.specs.PlaceTests as places
use Rattle.place_price.specs.PlaceText.{IsPlaceText}
use Rattle.print_grammar.specs.Turns.{AreTurnLines}
use Rattle.slot_places.specs.Board.{market_of_slots}
use Rattle.slot_places.specs.SlotForm.{IsSlotText, slot_lines}
use Rattle.slot_places.specs.Slots.{SlotList}
use Rattle.slot_places.proofs.Within.{kept_slots}
use Rattle.cca_cli.specs.Answers.{PlaceCertAnswers, SlotsAnswers, place_cert_answer, slots_answer}
use Rattle.cca_cli.specs.Outcome.{Answer, Outcome, done, stopped, value}
use Rattle.cca_cli.specs.declared.status.CertKind.TheVariants as certs
use Rattle.cca_cli.specs.declared.status.FileKind.{FileKind}
use Rattle.cca_cli.specs.declared.status.FileKind.TheVariants.{Cert, Slots}
use Rattle.cca_cli.specs.declared.status.Status.TheVariants.{No}
use Rattle.cca_commands.specs.Gives.{AreRounds, IsPlaceYes, IsPlacing, PlaceCertGives, PlaceGives, PlaceVerdictGives, SlotsGive, cert_file}
use Rattle.cca_run.proofs.Same.{Same, both, equal, one-input, printed-same}

-- slots that bytes state are few bidders
pub most-placed : (bytes : List ℕ) (slots : SlotList) → SlotsAnswers bytes (value slots) → length slots.bidders ≤ MOST_PLACED
most-placed bytes slots (said, says, is) = by said says is
  where
    of : (s : SlotList) → Says IsSlotText slot_lines bytes (stated s) → length s.bidders ≤ MOST_PLACED
    of s text = (kept_slots s (record { form = text.valid; limits = text.within })).few

    by : (said : Said SlotList Excess) → Says IsSlotText slot_lines bytes said → value slots ≡ slots_answer said → length slots.bidders ≤ MOST_PLACED
    by (stated s) says is = let same : s ≡ slots = cc in subst (λ (x : SlotList). length x.bidders ≤ MOST_PLACED) same (of s says)
    by (faulty at) says is = absurd cc
    by (beyond e) says is = absurd cc

few-placed : (bytes : List ℕ) (slots : SlotList) → SlotsAnswers bytes (value slots) → length slots.bidders < 2 ^ 16
few-placed bytes slots says = let few = most-placed bytes slots says in omega (arith, few)

-- what the laws of the crates below say
module _ (one_slots : (bytes : List ℕ) (x y : Said SlotList Excess) → Says IsSlotText slot_lines bytes x → Says IsSlotText slot_lines bytes y → x ≡ y)
    (one_cert : (bidders : ℕ) (bytes : List ℕ) (x y : Said PlaceCertValue ℕ) → PlaceCertSays bidders bytes x → PlaceCertSays bidders bytes y → x ≡ y)
    (one_verdict : (slots : SlotList) (p : PlaceCertValue) (t place u q : ℕ) → places.FailsFirst slots p t place → places.FailsFirst slots p u q
    → (t ≡ u) × (place ≡ q))
    (not_both : (slots : SlotList) (p : PlaceCertValue) (t place : ℕ) → places.PlacementHolds slots p → places.FailsFirst slots p t place → ⊥)
    (sound : (slots : SlotList) (p : PlaceCertValue) → length p.cert.pay ≡ length slots.bidders → places.PlacementHolds slots p → IsPlaceSound slots p)
    (one_pricing : (slots : SlotList) (p q : PlaceCertValue) → length slots.bidders < 2 ^ 16 → IsPricedPlaceCert slots p → IsPricedPlaceCert slots q
    → IsSamePricing slots p q)
    (market : (slots : SlotList) → length slots.bidders < 2 ^ 16 → IsMarket (market_of_slots slots))
    (one_vickrey : (m : Market) (z : List ℕ) (v w : ℕ → ℤ) → AreVickreyPrices m z v → AreVickreyPrices m z w → (j : ℕ) → 0 < j → j ≤ m.bidders → v j ≡ w j)
    (one_run : (m : Market) (w : ℕ → ℕ) (z : List ℕ) (runs others : List BidderTurn) (t u : List ℕ) → IsMarket m → IsPricingRun m w z runs → IsPricingRun m w z others
    → AreTurnLines z 0 runs t → AreTurnLines z 0 others u → t ≡ u)
    (one_text : (slots : SlotList) (order z : List ℕ) (v w : ℕ → ℤ) (p q : Point) (t u : List ℕ) → length z ≡ length slots.bidders → pos 1 ≤ℤ p.den
    → pos 1 ≤ℤ q.den
    → SamePoint (market_of_slots slots) p q → ((j : ℕ) → 0 < j → j ≤ length slots.bidders → v j ≡ w j) → IsPlaceText slots order z v p t
    → IsPlaceText slots order z w q u → t ≡ u) where
  one_slots-answer : (bytes : List ℕ) (x y : Answer SlotList) → SlotsAnswers bytes x → SlotsAnswers bytes y → x ≡ y
  one_slots-answer bytes x y a b = a.2 ∙ ap slots_answer (one_slots bytes a.0 b.0 a.1 b.1) ∙ sym b.2

  one_cert-answer : (slots : SlotList) (bytes : List ℕ) (x y : Answer PlaceCertValue) → PlaceCertAnswers (length slots.bidders) bytes x
      → PlaceCertAnswers (length slots.bidders) bytes y → x ≡ y
  one_cert-answer slots bytes x y a b = a.2 ∙ ap place_cert_answer (one_cert (length slots.bidders) bytes a.0 b.0 a.1 b.1) ∙ sym b.2

  one-rounds : (rounds : Bool) (slots : SlotList) (z : List ℕ) (runs others : List BidderTurn) (t u : List ℕ) → IsMarket (market_of_slots slots)
      → IsPricingRun (market_of_slots slots) alike z runs
      → IsPricingRun (market_of_slots slots) alike z others → AreRounds rounds z runs t → AreRounds rounds z others u → t ≡ u
  one-rounds true slots z runs others t u m a b x y = one_run (market_of_slots slots) alike z runs others t u m a b x y
  one-rounds false slots z runs others t u m a b x y = x ∙ sym y

  -- one placement is printed in one way
  one-placed : (slots : SlotList) (rounds : Bool) (p q : PlaceCertValue) (t u : List ℕ) → length slots.bidders < 2 ^ 16 → IsPlacing slots rounds p t
      → IsPlacing slots rounds q u → t ≡ u
  one-placed slots rounds p q t u few a b =
      let m = market slots few in
      let same = one_pricing slots p q few a.priced b.priced in
      let is : q.cert.choice ≡ p.cert.choice = sym same.choice in
      let run = subst (λ (z : List ℕ). IsPricingRun (market_of_slots slots) alike z b.turns) is b.run in
      let x = a.printed in
      let y = b.printed in
      let rounds_of = subst (λ (z : List ℕ). AreRounds rounds z b.turns y.lines) is y.are_rounds in
      let lines : x.lines ≡ y.lines = one-rounds rounds slots p.cert.choice a.turns b.turns x.lines y.lines m a.run run x.are_rounds rounds_of in
      let first = (sound slots p a.certificate.pay.0 a.priced.holds).vickrey in
      let second = subst (λ (z : List ℕ). AreVickreyPrices (market_of_slots slots) z (prices_in (market_of_slots slots) q.cert)) is
      (sound slots q b.certificate.pay.0 b.priced.holds).vickrey in
      let there = subst (λ (z : List ℕ). IsPlaceText slots q.order z (prices_in (market_of_slots slots) q.cert) (cert_point q.cert) y.prices) is y.are_prices in
      let placed = subst (λ (o : List ℕ). IsPlaceText slots o p.cert.choice (prices_in (market_of_slots slots) q.cert) (cert_point q.cert) y.prices)
      (sym same.placement) there in
      let prices : x.prices ≡ y.prices = one_text slots p.order p.cert.choice (prices_in (market_of_slots slots) p.cert) (prices_in (market_of_slots slots) q.cert)
      (cert_point p.cert) (cert_point q.cert) x.prices y.prices
      (m.lengths p.cert.choice a.priced.winning.passed) a.priced.outcome.core.den_positive b.priced.outcome.core.den_positive same.point
      (one_vickrey (market_of_slots slots) p.cert.choice (prices_in (market_of_slots slots) p.cert) (prices_in (market_of_slots slots) q.cert) first second) x.are_prices
      placed in
      x.whole ∙ ap (λ (l : List ℕ). l ++ x.prices) lines ∙ ap (λ (l : List ℕ). y.lines ++ l) prices ∙ sym y.whole

  one-placing : (slots : SlotList) (rounds : Bool) (o p : Outcome) → length slots.bidders < 2 ^ 16 → PlaceGives slots rounds o → PlaceGives slots rounds p
      → Same o p
  one-placing slots rounds o p few x y =
      both o p (done x.1 (cert_file (place_text x.0) ∷ [])) (done y.1 (cert_file (place_text y.0) ∷ [])) x.3 y.3
      (printed-same x.1 y.1 (cert_file (place_text x.0) ∷ []) (cert_file (place_text y.0) ∷ []) (one-placed slots rounds x.0 y.0 x.1 y.1 few x.2 y.2))

  one-yes : (slots : SlotList) (p : PlaceCertValue) (t u : List ℕ) → length slots.bidders < 2 ^ 16 → IsPlaceSound slots p → IsPlaceYes slots p t
      → IsPlaceYes slots p u → t ≡ u
  one-yes slots p t u few s x y =
      let m = market slots few in
      let den = s.outcome.core.den_positive in
      let prices = one_text slots p.order p.cert.choice (prices_in (market_of_slots slots) p.cert) (prices_in (market_of_slots slots) p.cert) (cert_point p.cert)
      (cert_point p.cert) x.0 y.0
      (m.lengths p.cert.choice s.greatest.passed) den den (λ j some le. refl) (λ j some le. refl) x.1 y.1 in
      x.2 ∙ ap (λ (l : List ℕ). codes "yes\n" ++ l) prices ∙ sym y.2

  one-judged : (slots : SlotList) (c : PlaceCertValue) (o p : Outcome) → length slots.bidders < 2 ^ 16 → PlaceVerdictGives slots c o
      → PlaceVerdictGives slots c p → Same o p
  one-judged slots c o p few (inl x) (inl y) = let a = x.2 in let b = y.2 in both o p (done a.0 []) (done b.0 []) a.2 b.2
      (printed-same a.0 b.0 [] [] (one-yes slots c a.0 b.0 few x.1 a.1 b.1))
  one-judged slots c o p few (inl x) (inr y) = absurd (not_both slots c y.0 y.1 x.0 y.2)
  one-judged slots c o p few (inr x) (inl y) = absurd (not_both slots c x.0 x.1 y.0 x.2)
  one-judged slots c o p few (inr x) (inr y) =
      let is = one_verdict slots c x.0 x.1 y.0 y.1 x.2 y.2 in
      equal o p (stopped (No certs.Placement y.0 y.1)) (x.3 ∙ ap (λ (t : ℕ). stopped (No certs.Placement t x.1)) is.0
      ∙ ap (λ (q : ℕ). stopped (No certs.Placement y.0 q)) is.1) y.3

  -- the placement that is computed
  pub one-place : (rounds : Bool) (contents : FileKind → Option (List ℕ)) (o p : Outcome) → SlotsGive (contents Slots) (λ s. PlaceGives s rounds) o
      → SlotsGive (contents Slots) (λ s. PlaceGives s rounds) p → Same o p
  one-place rounds contents o p x y =
      one-input Slots SLOTS_BYTES SlotsAnswers (λ s. PlaceGives s rounds) one_slots-answer (contents Slots) o p
      (λ s bytes says x y. one-placing s rounds o p (few-placed bytes s says) x y) x y

  -- and one that is tested
  pub one-place_check : (contents : FileKind → Option (List ℕ)) (o p : Outcome)
      → SlotsGive (contents Slots) (λ s. PlaceCertGives s (contents Cert) (PlaceVerdictGives s)) o
      → SlotsGive (contents Slots) (λ s. PlaceCertGives s (contents Cert) (PlaceVerdictGives s)) p → Same o p
  one-place_check contents o p x y = one-input Slots SLOTS_BYTES SlotsAnswers (λ s. PlaceCertGives s (contents Cert) (PlaceVerdictGives s))
      one_slots-answer (contents Slots) o p
      (λ s bytes says x y. one-input Cert CERT_BYTES (PlaceCertAnswers (length s.bidders)) (PlaceVerdictGives s) (one_cert-answer s) (contents Cert) o p
      (λ c of says_it a b. one-judged s c o p (few-placed bytes s says) a b) x y) x y
