-- What a run of each other command that is done shows of its files.
use Rattle.std.proofs.Common.{◌≡◌, ◌∙◌, ℕ, Bool, Option, List, [], ◌∷◌, length, refl, sym, ap, subst, inl, inr}
use Rattle.std.specs.Prelude.{◌<◌, ◌≤◌}
use Rattle.auction_model.specs.Book.{Book, market_of}
use Rattle.auction_model.specs.Greatest.{IsWinning}
use Rattle.auction_model.specs.Market.{Market}
use Rattle.auction_model.specs.Prices.{IsCoreOutcome, Point, weight_of}
use Rattle.book_grammar.specs.BookForm.{IsBook}
use Rattle.book_grammar.specs.BookLines.{Excess, book_lines}
use Rattle.cert_grammar.specs.Certificate.{CertValue}
use Rattle.cert_grammar.specs.PlaceCert.{PlaceCertValue}
use Rattle.cert_grammar.specs.Says.{cert_text}
use Rattle.cert_soundness.specs.Sound.{cert_point}
use Rattle.core_laws.specs.Outcome.{IsAuctionOutcome}
use Rattle.edits_file.specs.EditsForm.{EditsSay, NamedEdit, edits_of}
use Rattle.line_format.specs.LineText.{Said, Says, beyond, faulty, stated}
use Rattle.limits.specs.declared.TheConstants.{BOOK_BYTES, CERT_BYTES, EDITS_BYTES, SLOTS_BYTES, WEIGHTS_BYTES}
use Rattle.outcome.specs.ReviewText.{IsReviewText}
use Rattle.placement_cert.specs.PlaceSays.{PlaceCertSays, place_text}
use Rattle.review.specs.declared.edit.Edit.{Edit}
use Rattle.slot_places.specs.SlotForm.{IsSlotText, slot_lines}
use Rattle.slot_places.specs.Slots.{SlotList}
use Rattle.weights_file.specs.WeightsForm.{WeightsSay}
use Rattle.cca_cli.specs.Answers.{BookAnswers, CertAnswers, EditsAnswers, PlaceCertAnswers, SlotsAnswers, WeightsAnswers, book_answer, edits_answer, place_cert_answer, slots_answer, weights_answer}
use Rattle.cca_cli.specs.Command.{check, place, place_check, price, review, weigh, weigh_check}
use Rattle.cca_cli.specs.Outcome.{Outcome, stops, value}
use Rattle.cca_cli.specs.declared.price_form.PriceForm.{PriceForm}
use Rattle.cca_cli.specs.declared.status.FileKind.TheVariants as kinds
use Rattle.cca_cli.specs.declared.status.Status.TheVariants.{Done}
use Rattle.cca_commands.specs.Gives.{CertGives, EditsGive, FilesGive, IsPlaceYes, IsYesText, PlaceCertGives, PlaceGives, PlaceVerdictGives, PriceGives, ReviewGives, VerdictGives, WeightsGive, cert_file, ones}
use Rattle.cca_run.specs.Verdicts.{IsAccepted, IsChecked, IsPlaceChecked, IsPlaced, IsPriced, IsReviewed, IsWeighChecked, IsWeighed, StatesBook, StatesSlots, StatesWeights}
use Rattle.cca_run.proofs.HeadlineLaws.{HasValue, cert-never, has-value, one-each, states-cert}

-- the bytes of a book never say Done
book-never : (bytes : List ℕ) → BookAnswers bytes (stops Done) → ⊥
book-never bytes (said, says, is) = by said is
  where
    by : (said : Said Book Excess) → stops Done ≡ book_answer said → ⊥
    by (stated book) is = absurd cc
    by (faulty place) is = absurd cc
    by (beyond excess) is = absurd cc

-- the bytes of a book state its value
states-book : (bytes : List ℕ) (book : Book) → BookAnswers bytes (value book) → Says IsBook book_lines bytes (stated book)
states-book bytes book (said, says, is) = by said says is
  where
    by : (said : Said Book Excess) → Says IsBook book_lines bytes said → value book ≡ book_answer said → Says IsBook book_lines bytes (stated book)
    by (stated b) says is = let same : b ≡ book = cc in subst (λ (x : Book). Says IsBook book_lines bytes (stated x)) same says
    by (faulty place) says is = absurd cc
    by (beyond excess) says is = absurd cc

-- nor those of weights
weights-never : (book : Book) (bytes : List ℕ) → WeightsAnswers book bytes (stops Done) → ⊥
weights-never book bytes (said, says, is) = by said is
  where
    by : (said : Said (List ℕ) ⊥) → stops Done ≡ weights_answer said → ⊥
    by (stated weights) is = absurd cc
    by (faulty place) is = absurd cc
    by (beyond none) is = none

states-weights : (book : Book) (bytes weights : List ℕ) → WeightsAnswers book bytes (value weights) → WeightsSay book bytes (stated weights)
states-weights book bytes weights (said, says, is) = by said says is
  where
    by : (said : Said (List ℕ) ⊥) → WeightsSay book bytes said → value weights ≡ weights_answer said → WeightsSay book bytes (stated weights)
    by (stated w) says is = let same : w ≡ weights = cc in subst (λ (x : List ℕ). WeightsSay book bytes (stated x)) same says
    by (faulty place) says is = absurd cc
    by (beyond none) says is = absurd none

-- nor those of slots
slots-never : (bytes : List ℕ) → SlotsAnswers bytes (stops Done) → ⊥
slots-never bytes (said, says, is) = by said is
  where
    by : (said : Said SlotList Excess) → stops Done ≡ slots_answer said → ⊥
    by (stated slots) is = absurd cc
    by (faulty place) is = absurd cc
    by (beyond excess) is = absurd cc

states-slots : (bytes : List ℕ) (slots : SlotList) → SlotsAnswers bytes (value slots) → Says IsSlotText slot_lines bytes (stated slots)
states-slots bytes slots (said, says, is) = by said says is
  where
    by : (said : Said SlotList Excess) → Says IsSlotText slot_lines bytes said → value slots ≡ slots_answer said
        → Says IsSlotText slot_lines bytes (stated slots)
    by (stated s) says is = let same : s ≡ slots = cc in subst (λ (x : SlotList). Says IsSlotText slot_lines bytes (stated x)) same says
    by (faulty place) says is = absurd cc
    by (beyond excess) says is = absurd cc

-- nor those of a certificate of a placement
place-cert-never : (bidders : ℕ) (bytes : List ℕ) → PlaceCertAnswers bidders bytes (stops Done) → ⊥
place-cert-never bidders bytes (said, says, is) = by said is
  where
    by : (said : Said PlaceCertValue ℕ) → stops Done ≡ place_cert_answer said → ⊥
    by (stated p) is = absurd cc
    by (faulty place) is = absurd cc
    by (beyond place) is = absurd cc

states-place-cert : (bidders : ℕ) (bytes : List ℕ) (p : PlaceCertValue) → PlaceCertAnswers bidders bytes (value p) → PlaceCertSays bidders bytes (stated p)
states-place-cert bidders bytes p (said, says, is) = by said says is
  where
    by : (said : Said PlaceCertValue ℕ) → PlaceCertSays bidders bytes said → value p ≡ place_cert_answer said → PlaceCertSays bidders bytes (stated p)
    by (stated q) says is = let same : q ≡ p = cc in subst (λ (x : PlaceCertValue). PlaceCertSays bidders bytes (stated x)) same says
    by (faulty place) says is = absurd cc
    by (beyond place) says is = absurd cc

-- nor those of edits
edits-never : (book : Book) (bytes : List ℕ) → EditsAnswers book bytes (stops Done) → ⊥
edits-never book bytes (said, says, is) = by said is
  where
    by : (said : Said (List NamedEdit) Excess) → stops Done ≡ edits_answer book said → ⊥
    by (stated edits) is = absurd cc
    by (faulty place) is = absurd cc
    by (beyond excess) is = absurd cc

-- edits of a book that the bytes state by name
record AreStatedEdits (book : Book) (bytes : List ℕ) (edits : List Edit) : Type 0 where
  named : List NamedEdit
  says : EditsSay (length book.supply) bytes (stated named)
  are : edits ≡ edits_of book named

states-edits : (book : Book) (bytes : List ℕ) (edits : List Edit) → EditsAnswers book bytes (value edits) → AreStatedEdits book bytes edits
states-edits book bytes edits (said, says, is) = by said says is
  where
    by : (said : Said (List NamedEdit) Excess) → EditsSay (length book.supply) bytes said → value edits ≡ edits_answer book said
        → AreStatedEdits book bytes edits
    by (stated named) says is = record { named = named; says = says; are = cc }
    by (faulty place) says is = absurd cc
    by (beyond excess) says is = absurd cc

-- the book of a run that went on from it
book-of : (file : List ℕ → Option (List ℕ)) (name : List ℕ) (follows : Book → Outcome → Type 0) (o : Outcome)
    (b : HasValue BOOK_BYTES BookAnswers (file name) follows o) → StatesBook file name b.of
book-of file name follows o b = record { bytes = b.bytes; here = b.here; said = states-book b.bytes b.of b.says_it }

-- a verdict that is done accepts
accepted-by : (file : List ℕ → Option (List ℕ)) (book cert : List ℕ) (of : Book) (weights : List ℕ) (o : Outcome) → StatesBook file book of
    → CertGives of (file cert) (VerdictGives of weights) o → o.status ≡ Done → IsAccepted file book cert of weights o.printed
accepted-by file book cert of weights o states gives ends =
    let c = has-value kinds.Cert CERT_BYTES (CertAnswers of) (file cert) (VerdictGives of weights) o (cert-never of) gives ends in
    by c c.goes_on
  where
    by : (c : HasValue CERT_BYTES (CertAnswers of) (file cert) (VerdictGives of weights) o) → VerdictGives of weights c.of o
        → IsAccepted file book cert of weights o.printed
    by c (inr (test, place, fails, told)) = let no = sym (ap (λ (x : Outcome). x.status) told) ∙ ends in absurd cc
    by c (inl (all, sound, (text, is_yes, told))) = record {
      book_states = states;
      certificate = c.of;
      cert_states = record { bytes = c.bytes; here = c.here; said = states-cert of c.bytes c.of c.says_it };
      sound = sound;
      yes = subst (λ (t : List ℕ). IsYesText of c.of t) (sym (ap (λ (x : Outcome). x.printed) told)) is_yes;
    }

pub weigh-checked : (file : List ℕ → Option (List ℕ)) (book weights cert : List ℕ) (o : Outcome) → FilesGive (weigh_check book weights cert) file o
    → o.status ≡ Done → IsWeighChecked file book weights cert o.printed
weigh-checked file book weights cert o gives ends =
    let b = has-value kinds.Book BOOK_BYTES BookAnswers (file book)
    (λ b. WeightsGive b (file weights) (λ w. CertGives b (file cert) (VerdictGives b w))) o book-never gives ends in
    let w = has-value kinds.Weights WEIGHTS_BYTES (WeightsAnswers b.of) (file weights) (λ w. CertGives b.of (file cert) (VerdictGives b.of w)) o
    (weights-never b.of) b.goes_on ends in
    record {
      of = b.of;
      by = w.of;
      weights_state = record { bytes = w.bytes; here = w.here; said = states-weights b.of w.bytes w.of w.says_it };
      accepted = accepted-by file book cert b.of w.of o (book-of file book _ o b) w.goes_on ends;
    }

pub place-checked : (file : List ℕ → Option (List ℕ)) (slots cert : List ℕ) (o : Outcome) → FilesGive (place_check slots cert) file o
    → o.status ≡ Done → IsPlaceChecked file slots cert o.printed
place-checked file slots cert o gives ends =
    let s = has-value kinds.Slots SLOTS_BYTES SlotsAnswers (file slots) (λ s. PlaceCertGives s (file cert) (PlaceVerdictGives s)) o slots-never gives ends in
    let c = has-value kinds.Cert CERT_BYTES (PlaceCertAnswers (length s.of.bidders)) (file cert) (PlaceVerdictGives s.of) o
    (place-cert-never (length s.of.bidders)) s.goes_on ends in
    by s c c.goes_on
  where
    by : (s : HasValue SLOTS_BYTES SlotsAnswers (file slots) (λ s. PlaceCertGives s (file cert) (PlaceVerdictGives s)) o)
        (c : HasValue CERT_BYTES (PlaceCertAnswers (length s.of.bidders)) (file cert) (PlaceVerdictGives s.of) o)
        → PlaceVerdictGives s.of c.of o → IsPlaceChecked file slots cert o.printed
    by s c (inr (test, place, fails, told)) = let no = sym (ap (λ (x : Outcome). x.status) told) ∙ ends in absurd cc
    by s c (inl (all, sound, (text, is_yes, told))) = record {
      of = s.of;
      slots_state = record { bytes = s.bytes; here = s.here; said = states-slots s.bytes s.of s.says_it };
      certificate = c.of;
      cert_states = record { bytes = c.bytes; here = c.here; said = states-place-cert (length s.of.bidders) c.bytes c.of c.says_it };
      sound = sound;
      yes = subst (λ (t : List ℕ). IsPlaceYes s.of c.of t) (sym (ap (λ (x : Outcome). x.printed) told)) is_yes;
    }

pub weighed : (file : List ℕ → Option (List ℕ)) (book weights cert : List ℕ) (form : PriceForm) (o : Outcome)
    → FilesGive (weigh book weights cert form) file o → o.status ≡ Done
    → (text : List ℕ) × IsWeighed file book weights text × (o.appended ≡ cert_file text ∷ [])
weighed file book weights cert form o gives ends =
    let b = has-value kinds.Book BOOK_BYTES BookAnswers (file book) (λ b. WeightsGive b (file weights) (λ w. PriceGives b w form)) o book-never gives ends in
    let w = has-value kinds.Weights WEIGHTS_BYTES (WeightsAnswers b.of) (file weights) (λ w. PriceGives b.of w form) o (weights-never b.of) b.goes_on ends in
    by b w w.goes_on
  where
    by : (b : HasValue BOOK_BYTES BookAnswers (file book) (λ b. WeightsGive b (file weights) (λ w. PriceGives b w form)) o)
        (w : HasValue WEIGHTS_BYTES (WeightsAnswers b.of) (file weights) (λ w. PriceGives b.of w form) o) → PriceGives b.of w.of form o
        → (text : List ℕ) × IsWeighed file book weights text × (o.appended ≡ cert_file text ∷ [])
    by b w (inr (z, many, told)) = let no = sym (ap (λ (x : Outcome). x.status) told) ∙ ends in absurd cc
    by b w (inl (c, printed, is, told)) = (
      cert_text c,
      record {
        of = b.of;
        book_states = book-of file book _ o b;
        by = w.of;
        weights_state = record { bytes = w.bytes; here = w.here; said = states-weights b.of w.bytes w.of w.says_it };
        certificate = c;
        priced = is.priced;
        outcome = is.priced.outcome;
        whole = refl;
      },
      ap (λ (x : Outcome). x.appended) told,
    )

pub placed : (file : List ℕ → Option (List ℕ)) (slots cert : List ℕ) (rounds : Bool) (o : Outcome) → FilesGive (place slots cert rounds) file o
    → o.status ≡ Done → (text : List ℕ) × IsPlaced file slots text × (o.appended ≡ cert_file text ∷ [])
placed file slots cert rounds o gives ends =
    let s = has-value kinds.Slots SLOTS_BYTES SlotsAnswers (file slots) (λ s. PlaceGives s rounds) o slots-never gives ends in
    by s s.goes_on
  where
    by : (s : HasValue SLOTS_BYTES SlotsAnswers (file slots) (λ s. PlaceGives s rounds) o) → PlaceGives s.of rounds o
        → (text : List ℕ) × IsPlaced file slots text × (o.appended ≡ cert_file text ∷ [])
    by s (p, printed, is, told) = (
      place_text p,
      record {
        of = s.of;
        slots_state = record { bytes = s.bytes; here = s.here; said = states-slots s.bytes s.of s.says_it };
        certificate = p;
        priced = is.priced;
        whole = refl;
      },
      ap (λ (x : Outcome). x.appended) told,
    )

pub reviewed : (file : List ℕ → Option (List ℕ)) (book edits : List ℕ) (o : Outcome) → FilesGive (review book edits) file o → o.status ≡ Done
    → IsReviewed file book edits o.printed
reviewed file book edits o gives ends =
    let b = has-value kinds.Book BOOK_BYTES BookAnswers (file book) (λ b. EditsGive b (file edits) (ReviewGives b)) o book-never gives ends in
    let e = has-value kinds.Edits EDITS_BYTES (EditsAnswers b.of) (file edits) (ReviewGives b.of) o (edits-never b.of) b.goes_on ends in
    by b e (states-edits b.of e.bytes e.of e.says_it) e.goes_on
  where
    by : (b : HasValue BOOK_BYTES BookAnswers (file book) (λ b. EditsGive b (file edits) (ReviewGives b)) o)
        (e : HasValue EDITS_BYTES (EditsAnswers b.of) (file edits) (ReviewGives b.of) o) → AreStatedEdits b.of e.bytes e.of → ReviewGives b.of e.of o
        → IsReviewed file book edits o.printed
    by b e s (text, is, told) = record {
      of = b.of;
      book_states = book-of file book _ o b;
      named = s.named;
      edits_state = record { bytes = e.bytes; here = e.here; said = s.says };
      review = subst (λ (es : List Edit). IsReviewText b.of es o.printed) s.are
          (subst (λ (t : List ℕ). IsReviewText b.of e.of t) (sym (ap (λ (x : Outcome). x.printed) told)) is);
    }

module _ (plain : (m : Market) (w : ℕ → ℕ) (z : List ℕ) (p : Point) → ((j : ℕ) → 0 < j → j ≤ m.bidders → w j ≡ 1) → IsWinning m z → IsCoreOutcome m w z p
    → IsAuctionOutcome m z p) where
  pub checked : (file : List ℕ → Option (List ℕ)) (book cert : List ℕ) (o : Outcome) → FilesGive (check book cert) file o → o.status ≡ Done
      → IsChecked file book cert o.printed
  checked file book cert o gives ends =
      let b = has-value kinds.Book BOOK_BYTES BookAnswers (file book) (λ b. CertGives b (file cert) (VerdictGives b (ones b))) o book-never gives ends in
      let a = accepted-by file book cert b.of (ones b.of) o (book-of file book _ o b) b.goes_on ends in
      record {
        of = b.of;
        accepted = a;
        outcome = plain (market_of b.of) (weight_of (ones b.of)) a.certificate.choice (cert_point a.certificate) (one-each b.of)
            a.sound.winning a.sound.outcome;
      }

  pub priced : (file : List ℕ → Option (List ℕ)) (book cert : List ℕ) (form : PriceForm) (o : Outcome) → FilesGive (price book cert form) file o
      → o.status ≡ Done → (text : List ℕ) × IsPriced file book text × (o.appended ≡ cert_file text ∷ [])
  priced file book cert form o gives ends =
      let b = has-value kinds.Book BOOK_BYTES BookAnswers (file book) (λ b. PriceGives b (ones b) form) o book-never gives ends in
      by b b.goes_on
    where
      by : (b : HasValue BOOK_BYTES BookAnswers (file book) (λ b. PriceGives b (ones b) form) o) → PriceGives b.of (ones b.of) form o
          → (text : List ℕ) × IsPriced file book text × (o.appended ≡ cert_file text ∷ [])
      by b (inr (z, many, told)) = let no = sym (ap (λ (x : Outcome). x.status) told) ∙ ends in absurd cc
      by b (inl (c, printed, is, told)) = (
        cert_text c,
        record {
          of = b.of;
          book_states = book-of file book _ o b;
          certificate = c;
          priced = is.priced;
          outcome = plain (market_of b.of) (weight_of (ones b.of)) c.choice (cert_point c) (one-each b.of) is.priced.winning is.priced.outcome;
          whole = refl;
        },
        ap (λ (x : Outcome). x.appended) told,
      )
