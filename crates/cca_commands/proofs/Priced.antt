-- What pricing a book gives, over plain values.
use Rattle.std.proofs.Common.{inl, ◌≡◌, ℕ, List, [], length, map, ap, subst, sym, arith}
use Rattle.std.specs.Prelude.{◌^◌, ℤ, pos, negsuc, ◌∷◌, ◌≤ℤ◌}
use Rattle.std.specs.List.{AllByRecursion}
use Rattle.std.proofs.lemmas.Int.{ints}
use Rattle.auction_model.specs.Book.{Book as BookValue}
use Rattle.cert_summary.specs.Facts.{AreFacts, HasFacts}
use Rattle.cert_summary.specs.declared.shown.CertFacts.{CertFacts}
use Rattle.cert_grammar.specs.Certificate.{CertValue}
use Rattle.cert_grammar.specs.CertText.{IsCertificate}
use Rattle.cert_grammar.specs.Says.{cert_text}
use Rattle.book_price.specs.Priced.{IsPricedBook}
use Rattle.book_price.specs.declared.pricing.PricedBook.{PricedBook}
use Rattle.cert_soundness.specs.Sound.{IsSound}
use Rattle.cert_soundness.specs.Tests.{Holds, bidders_of, states}
use Rattle.cert_text.specs.CertValues.{IsFor, cert_value}
use Rattle.cert_text.specs.declared.certificate.Certificate.{Certificate}
use Rattle.auction_model.specs.Prices.{weight_of}
use Rattle.core_price.specs.Turns.{IsPointOfTurn, turns_of}
use Rattle.core_price.specs.declared.priced.Turn.{Turn}
use Rattle.outcome.specs.Payments.{ArePayments}
use Rattle.outcome.specs.Turns.{CanPrintTurn}
use Rattle.wide_num.specs.Range.{InRange}
use Rattle.cca_cli.specs.Outcome.{done}
use Rattle.cca_cli.specs.declared.file_text.FileText.{FileText}
use Rattle.cca_cli.specs.declared.price_form.PriceForm.{PriceForm}
use Rattle.cca_commands.specs.Gives.{ArePrinted, IsYesText, PriceGives, VerdictGives, cert_file}

den-range : (d : ℤ) → pos 1 ≤ℤ d → d ≤ℤ pos (320 ^ 4) → InRange d
den-range (pos d) low high = omega (arith, ints, high)
den-range (negsuc d) low high = absurd (omega (arith, ints, low))

payments-of : (z weights : List ℕ) (t : Turn) → IsPointOfTurn z weights t → ArePayments z t.den t.at
payments-of z weights t p = record {
  den_positive = p.den_positive;
  den_range = den-range t.den p.den_positive p.den_small;
  winners =
      p.winners;
  not_negative = p.not_negative;
}

-- the turns can be printed
pub can-print : (z weights : List ℕ) (turns : List Turn) → AllByRecursion (IsPointOfTurn z weights) turns → AllByRecursion (CanPrintTurn z) turns
can-print z weights [] all = tt
can-print z weights (t ∷ turns) all = (record { payments = payments-of z weights t all.0; excess = all.0.excess }, can-print z weights turns all.1)

-- a priced book gives its prices and its certificate
pub priced : (book : BookValue) (weights : List ℕ) (form : PriceForm) (p : PricedBook) (text appended : List ℕ) → IsPricedBook book weights p
    → ArePrinted form book (cert_value p.cert) (turns_of p.cert.choice p.turns) text → appended ≡ cert_text (cert_value p.cert)
    → PriceGives book weights form (done text (cert_file appended ∷ []))
priced book weights form p text appended is printed written =
    inl (
      cert_value p.cert,
      text,
      record {
        certificate = subst (λ (b : ℕ). IsCertificate b (states book) (cert_value p.cert)) is.shape.bidders_are
            (subst (λ (s : ℕ). IsCertificate (length p.cert.choice) s (cert_value p.cert)) is.shape.states_are p.cert.rules);
        priced = is.cert;
        few = is.few;
        turns = turns_of p.cert.choice p.turns;
        run = is.run;
        last = is.last_turn;
        printed = printed;
      },
      ap (λ (t : List ℕ). done text (cert_file t ∷ [])) written,
    )

-- a certificate for which all tests pass has the facts that are printed
pub has-facts : (book : BookValue) (w : ℕ → ℕ) (cert : Certificate) → IsFor (bidders_of book) (states book) cert → Holds book w (cert_value cert)
    → HasFacts book (cert_value cert)
has-facts book w cert shape holds = record {
  certificate = subst (λ (b : ℕ). IsCertificate b (states book) (cert_value cert)) shape.bidders_are
      (subst (λ (s : ℕ). IsCertificate (length cert.choice) s (cert_value cert)) shape.states_are cert.rules);
  sizes = holds.c1;
  choice = holds.c2;
  parts = holds.c4;
  payments = holds.c5;
}

-- the turns can be printed beside the facts
pub can_print-facts : (book : BookValue) (c : CertValue) (facts : CertFacts) (turns : List Turn) → AreFacts book c facts
    → AllByRecursion (CanPrintTurn c.choice) turns → AllByRecursion (CanPrintTurn facts.choice) turns
can_print-facts book c facts turns are can = subst (λ (z : List ℕ). AllByRecursion (CanPrintTurn z) turns) (sym are.choice) can

-- a certificate for which all tests pass gives yes
pub accepts : (book : BookValue) (weights : List ℕ) (c : CertValue) (text : List ℕ) (appended : List FileText) → appended ≡ []
    → Holds book (weight_of weights) c → IsSound book (weight_of weights) c
    → IsYesText book c text → VerdictGives book weights c (done text appended) × (map (λ t. t.kind) appended ≡ [])
accepts book weights c text appended none holds sound shown = (inl (holds, sound, (text, shown, ap (done text) none)), ap (map (λ (t : FileText). t.kind)) none)
