-- A certificate of a placement that pricing writes is accepted by the checker.
use Rattle.std.specs.Prelude.{◌≡◌, ℕ, ℤ, Bool, false, ◌≤◌, ◌<◌, ◌^◌, Option, Some, List, [], ◌∷◌, ◌++◌, codes, length, pos, ◌≤ℤ◌, refl}
use Rattle.std.proofs.Common.{inl, inr, sym, ◌∙◌, ap, subst, arith}
use Rattle.line_format.specs.LineText.{Said, Says, stated}
use Rattle.auction_model.specs.Prices.{Point, SamePoint}
use Rattle.book_grammar.specs.BookLines.{Excess}
use Rattle.cca_base.specs.Files.{added}
use Rattle.cert_grammar.specs.PlaceCert.{PlaceCertValue}
use Rattle.limits.specs.declared.TheConstants.{CERT_BYTES, MOST_PLACED, SLOTS_BYTES}
use Rattle.placement_cert.specs.PlaceSays.{PlaceCertSays, place_text}
use Rattle.placement_cert.specs.PlaceText.{IsPlaceCertificate, place_lines}
use Rattle.cert_soundness.specs.Sound.{cert_point}
use Rattle.cert_soundness.specs.MarketPrices.{prices_in}
use Rattle.placement_check.specs.PlaceTests as places
use Rattle.place_price.specs.PlaceText.{IsPlaceText}
use Rattle.slot_places.specs.Board.{market_of_slots}
use Rattle.slot_places.specs.SlotForm.{IsSlotText, slot_lines}
use Rattle.slot_places.specs.Slots.{SlotList}
use Rattle.cca_cli.specs.Answers.{PlaceCertAnswers, SlotsAnswers, place_cert_answer, slots_answer}
use Rattle.cca_cli.specs.Command.{place, place_check}
use Rattle.cca_cli.specs.Outcome.{Answer, AnswerGives, FileAnswers, Outcome, value}
use Rattle.cca_cli.specs.declared.status.FileKind.TheVariants as kinds
use Rattle.cca_cli.specs.declared.status.Status.TheVariants.{Done}
use Rattle.cca_commands.specs.Gives.{AreRounds, FilesGive, IsPlacing, PlaceCertGives, PlaceGives, PlaceVerdictGives, SlotsGive, cert_file}
use Rattle.cca_run.proofs.Accepted.{NoStop, first-text, just-added, nothing-appended, some-line, value-inputs, yes-printed}
use Rattle.cca_run.proofs.OnePlacing.{most-placed}
use Rattle.cca_run.specs.Later.{HoldsCert, HoldsNothing}

-- the test is done, and where no turns were asked for it prints `yes` and then what the placement printed
abbrev pub AcceptsPlacing : Bool → Outcome → Outcome → Type 0
AcceptsPlacing rounds o p = (p.status ≡ Done) × (rounds ≡ false → p.printed ≡ codes "yes\n" ++ o.printed)

-- what the laws of the crates below say
module _ (one_slots : (bytes : List ℕ) (x y : Said SlotList Excess) → Says IsSlotText slot_lines bytes x → Says IsSlotText slot_lines bytes y → x ≡ y)
    (one_cert : (bidders : ℕ) (bytes : List ℕ) (x y : Said PlaceCertValue ℕ) → PlaceCertSays bidders bytes x → PlaceCertSays bidders bytes y → x ≡ y)
    (text_of_cert : (bidders : ℕ) (c : PlaceCertValue) → bidders < 2 ^ 100 → IsPlaceCertificate bidders c → PlaceCertSays bidders (place_text c) (stated c))
    (short_text : (bidders : ℕ) (c : PlaceCertValue) → bidders ≤ MOST_PLACED → IsPlaceCertificate bidders c → length (place_text c) ≤ CERT_BYTES)
    (not_both : (slots : SlotList) (p : PlaceCertValue) (t place : ℕ) → places.PlacementHolds slots p → places.FailsFirst slots p t place → ⊥)
    (one_text : (slots : SlotList) (order z : List ℕ) (v w : ℕ → ℤ) (p q : Point) (t u : List ℕ) → length z ≡ length slots.bidders → pos 1 ≤ℤ p.den
    → pos 1 ≤ℤ q.den
    → SamePoint (market_of_slots slots) p q → ((j : ℕ) → 0 < j → j ≤ length slots.bidders → v j ≡ w j) → IsPlaceText slots order z v p t
    → IsPlaceText slots order z w q u → t ≡ u) where
  -- the verdict on a certificate for which all tests pass
  judged : (slots : SlotList) (rounds : Bool) (c : PlaceCertValue) (t : List ℕ) (p : Outcome) → IsPlacing slots rounds c t → PlaceVerdictGives slots c p
      → (p.status ≡ Done) × (rounds ≡ false → p.printed ≡ codes "yes\n" ++ t)
  judged slots rounds c t p is (inr fails) = absurd (not_both slots c fails.0 fails.1 is.priced.holds fails.2)
  judged slots rounds c t p is (inl (holds, sound, (text, (prices, are, whole), ends))) = (
    ap (λ (x : Outcome). x.status) ends,
    λ plain. (
        let den = is.priced.outcome.core.den_positive in
        let told = is.printed in
        let none : told.lines ≡ [] = subst (λ (r : Bool). AreRounds r c.cert.choice is.turns told.lines) plain told.are_rounds in
        let same : prices ≡ told.prices = one_text slots c.order c.cert.choice (prices_in (market_of_slots slots) c.cert) (prices_in (market_of_slots slots) c.cert)
        (cert_point c.cert) (cert_point c.cert) prices told.prices
        is.certificate.choice.0 den den (λ j some le. refl) (λ j some le. refl) are told.are_prices in
        ap (λ (x : Outcome). x.printed) ends ∙ whole ∙ yes-printed told.lines told.prices prices t none same told.whole
        ),
  )

  -- its text states it, and isn't too long
  answered : (slots : SlotList) (c : PlaceCertValue) (answer : Answer PlaceCertValue) → length slots.bidders ≤ MOST_PLACED
      → IsPlaceCertificate (length slots.bidders) c
      → FileAnswers CERT_BYTES (PlaceCertAnswers (length slots.bidders)) (place_text c) answer → answer ≡ value c
  answered slots c answer few is answers =
      let says = answers.text (short_text (length slots.bidders) c few is) in
      let states_it = text_of_cert (length slots.bidders) c (omega (arith, few)) is in
      says.2 ∙ ap place_cert_answer (one_cert (length slots.bidders) (place_text c) says.0 (stated c) says.1 states_it)

  -- the certificate of a placement is accepted, after a file that held nothing
  of-cert : (slots : SlotList) (rounds : Bool) (o p : Outcome) (text : List ℕ) (content : Option (List ℕ)) → length slots.bidders ≤ MOST_PLACED
      → PlaceGives slots rounds o → o.appended ≡ cert_file text ∷ []
      → HoldsNothing content → PlaceCertGives slots (added content text) (PlaceVerdictGives slots) p → AcceptsPlacing rounds o p
  of-cert slots rounds o p text content few (c, t, is, ends) some nothing gives =
      by (subst (λ (x : Option (List ℕ)). PlaceCertGives slots x (PlaceVerdictGives slots) p) holds gives)
    where
      same : place_text c ≡ text
      same = ap first-text (sym (ap (λ (x : Outcome). x.appended) ends) ∙ some)

      some-bytes : 0 < length (place_text c)
      some-bytes = some-line [] (place_lines c) (omega arith)

      holds : added content text ≡ Some (place_text c)
      holds = just-added content text (subst (λ (x : List ℕ). 0 < length x) same some-bytes) nothing ∙ ap Some (sym same)

      by : PlaceCertGives slots (Some (place_text c)) (PlaceVerdictGives slots) p → AcceptsPlacing rounds o p
      by (answer, answers, follows) =
          let e = answered slots c answer few is.certificate answers in
          let verdict = subst (λ (a : Answer PlaceCertValue). AnswerGives a (PlaceVerdictGives slots) p) e follows in
          let both = judged slots rounds c t p is verdict in
          (both.0, λ plain. both.1 plain ∙ ap (λ (x : List ℕ). codes "yes\n" ++ x) (sym (ap (λ (x : Outcome). x.printed) ends)))

  -- what `place-check` gives over the files that `place` left accepts what `place` gave
  pub accepted-placing : (slots cert : List ℕ) (rounds : Bool) (file later : List ℕ → Option (List ℕ)) (o p : Outcome)
      → FilesGive (place slots cert rounds) file o
      → HoldsCert (slots ∷ []) cert file later o → FilesGive (place_check slots cert) later p → AcceptsPlacing rounds o p
  accepted-placing slots cert rounds file later o p places holds checks =
      value-inputs kinds.Slots SLOTS_BYTES SlotsAnswers (λ s. PlaceGives s rounds) (λ s. PlaceCertGives s (later cert) (PlaceVerdictGives s))
      (file slots) o p (AcceptsPlacing rounds o p) same-slots none on places there
    where
      none : NoStop o
      none status is = nothing-appended status o holds.text is holds.appended

      same-slots : (bytes : List ℕ) (x y : Answer SlotList) → SlotsAnswers bytes x → SlotsAnswers bytes y → x ≡ y
      same-slots bytes x y a b = a.2 ∙ ap slots_answer (one_slots bytes a.0 b.0 a.1 b.1) ∙ sym b.2

      on : (s : SlotList) (bytes : List ℕ) → SlotsAnswers bytes (value s) → PlaceGives s rounds o → PlaceCertGives s (later cert) (PlaceVerdictGives s) p
          → AcceptsPlacing rounds o p
      on s bytes says x y =
          of-cert s rounds o p holds.text (file cert) (most-placed bytes s says) x holds.appended holds.held_nothing
          (subst (λ (c : Option (List ℕ)). PlaceCertGives s c (PlaceVerdictGives s) p) holds.cert_holds y)

      there : SlotsGive (file slots) (λ s. PlaceCertGives s (later cert) (PlaceVerdictGives s)) p
      there = subst (λ (x : Option (List ℕ)). SlotsGive x (λ s. PlaceCertGives s (later cert) (PlaceVerdictGives s)) p) holds.inputs_hold.0 checks
