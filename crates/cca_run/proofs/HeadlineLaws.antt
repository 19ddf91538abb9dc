-- What a run that is done shows of its files.
use Rattle.std.proofs.Common.{◌≡◌, ◌∙◌, ℕ, Option, Some, None, List, [], ◌∷◌, length, refl, sym, ap, subst, arith, inl, inr}
use Rattle.std.specs.Prelude.{◌-◌, ◌<◌, ◌≤◌, Result, Ok, Err, reverse}
use Rattle.std.proofs.lemmas.Bool.{cases_lt}
use Rattle.std.proofs.lemmas.List.{get_or-replicate}
use Rattle.auction_model.specs.Book.{Book, market_of}
use Rattle.auction_model.specs.Greatest.{IsWinning}
use Rattle.auction_model.specs.Market.{Market}
use Rattle.auction_model.specs.Prices.{AreVickreyPrices, IsCoreOutcome, Point, weight_of}
use Rattle.core_laws.specs.Outcome.{IsAuctionOutcome}
use Rattle.auction_rules.specs.Terms.{Terms}
use Rattle.auction_rules.specs.declared.Event.{Event}
use Rattle.award_file.specs.Reading as reading
use Rattle.log_file.specs.LogReading.{AreLog, log_records}
use Rattle.log_replay.specs.ReplyLines.{end_of}
use Rattle.log_replay.specs.declared.results.ReplayStop.{ReplayStop}
use Rattle.log_replay.specs.declared.results.ReplayStop.TheVariants.{Open, Price, Rounds}
use Rattle.line_format.specs.LineText.{Said, beyond, faulty, stated}
use Rattle.cert_grammar.specs.Certificate.{CertValue}
use Rattle.bid_book.specs.Kept.{IsBidBook}
use Rattle.award_file.specs.Award.{IsAward}
use Rattle.core_laws.specs.Winners.{winners_in}
use Rattle.cert_grammar.specs.CertText.{IsCertificate}
use Rattle.cert_grammar.specs.Says.{CertSays, cert_text}
use Rattle.cert_soundness.specs.BookSizes.{IsWithinSizes}
use Rattle.cert_soundness.specs.Priced.{IsPricedCert}
use Rattle.cert_soundness.specs.Sound.{cert_point, cert_prices}
use Rattle.cert_soundness.specs.Tests.{bidders_of, states}
use Rattle.limits.specs.declared.TheConstants.{AWARD_BYTES, CERT_BYTES, LOG_BYTES, MOST_WINNERS, PRICED_CERT_BYTES}
use Rattle.cca_cli.specs.Answers.{AwardAnswers, CertAnswers, LogAnswers, award_answer, cert_answer}
use Rattle.cca_cli.specs.Command.{audit, award}
use Rattle.cca_cli.specs.Outcome.{Answer, AnswerGives, FileAnswers, InputGives, Outcome, stops, value}
use Rattle.cca_cli.specs.declared.price_form.PriceForm.{PriceForm}
use Rattle.cca_cli.specs.declared.status.FileKind.{FileKind}
use Rattle.cca_cli.specs.declared.status.FileKind.TheVariants as kinds
use Rattle.cca_cli.specs.declared.status.Status.{Status}
use Rattle.cca_cli.specs.declared.status.Status.TheVariants.{Done}
use Rattle.cca_commands.specs.Gives.{BookOfLogGives, CertGives, EndGives, FilesGive, IsYesText, LogGives, PriceGives, VerdictGives, cert_file, ones}
use Rattle.cca_run.specs.Headline.{HoldsAdmittedBids, IsAudited, IsAwarded, book_of}
use Rattle.cca_run.proofs.Accepted.{sizes-of}
use Rattle.cca_run.proofs.Same.{within-says}
use Rattle.cca_run.proofs.LogBooks.{logged}

-- an input of a run that is done has a value, from which the run went on
pub record HasValue {V : Type 0} (most : ℕ) (says : List ℕ → Answer V → Type 0) (content : Option (List ℕ)) (follows : V → Outcome → Type 0)
    (o : Outcome) : Type 0 where
  -- the bytes of its file
  pub bytes : List ℕ
  -- the value from which the run goes on
  pub of : V
  -- the file holds these bytes
  pub here : content ≡ Some bytes
  -- they are no more than the limit
  pub short : length bytes ≤ most
  -- they say the value
  pub says_it : says bytes (value of)
  -- the outcome is what follows for the value
  pub goes_on : follows of o

-- a value is within the limit
within-most : {V : Type 0} (most : ℕ) (says : List ℕ → Answer V → Type 0) (bytes : List ℕ) (v : V) → FileAnswers most says bytes (value v) → length bytes ≤ most
within-most most says bytes v answers =
    elim (cases_lt most (length bytes)) [
      | inl over ↦ (let no = answers.long over in absurd cc)
      | inr short ↦ short
    ]

-- no stop is Done
never-done : {V : Type 0} (most : ℕ) (says : List ℕ → Answer V → Type 0) (bytes : List ℕ) (s : Status) → ((bytes : List ℕ) → says bytes (stops Done) → ⊥)
    → FileAnswers most says bytes (stops s) → s ≡ Done → ⊥
never-done {V} most says bytes s none answers is =
    elim (cases_lt most (length bytes)) [
      | inl over ↦ (let long = answers.long over in absurd cc)
      | inr short ↦ none bytes (subst (λ (x : Status). says bytes (stops x)) is (answers.text short))
    ]

-- if no bytes say Done of themselves, each input of a run that is done has a value
pub has-value : {V : Type 0} (kind : FileKind) (most : ℕ) (says : List ℕ → Answer V → Type 0) (content : Option (List ℕ)) (follows : V → Outcome → Type 0)
    (o : Outcome) → ((bytes : List ℕ) → says bytes (stops Done) → ⊥)
    → InputGives kind most says content follows o → o.status ≡ Done → HasValue most says content follows o
has-value kind most says None follows o none gives ends = let no = sym (ap (λ (x : Outcome). x.status) gives) ∙ ends in absurd cc
has-value {V} kind most says (Some bytes) follows o none (answer, answers, gives) ends = by answer answers gives
  where
    by : (answer : Answer V) → FileAnswers most says bytes answer → AnswerGives answer follows o → HasValue most says (Some bytes) follows o
    by (value v) answers gives = record {
      bytes = bytes;
      of = v;
      here = refl;
      short = within-most most says bytes v answers;
      says_it =
          within-says most says bytes v answers;
      goes_on = gives;
    }
    by (stops s) answers gives = absurd (never-done most says bytes s none answers (sym (ap (λ (x : Outcome). x.status) gives) ∙ ends))

-- the bytes of an award never say Done
pub award-never : (bytes : List ℕ) → AwardAnswers bytes (stops Done) → ⊥
award-never bytes (is, keeps) = by (reading.reading bytes) is
  where
    by : (r : reading.Reading) → stops Done ≡ award_answer r → ⊥
    by reading.no_toml is = absurd cc
    by (reading.broken number entry) is = absurd cc
    by (reading.too_many kind count) is = absurd cc
    by (reading.stated_terms terms) is = absurd cc

-- the bytes of an award state its terms
pub award-states : (bytes : List ℕ) (terms : Terms) → AwardAnswers bytes (value terms) → reading.reading bytes ≡ reading.stated_terms terms
award-states bytes terms (is, keeps) = by (reading.reading bytes) is
  where
    by : (r : reading.Reading) → value terms ≡ award_answer r → r ≡ reading.stated_terms terms
    by reading.no_toml is = absurd cc
    by (reading.broken number entry) is = absurd cc
    by (reading.too_many kind count) is = absurd cc
    by (reading.stated_terms t) is = let same : t ≡ terms = cc in ap reading.stated_terms same

-- nor those of a log
pub log-never : (terms : Terms) (bytes : List ℕ) → LogAnswers terms bytes (stops Done) → ⊥
log-never terms bytes (inl (number, first, is)) = absurd cc
log-never terms bytes (inr (many, is)) = absurd cc

-- nor those of a certificate
pub cert-never : (book : Book) (bytes : List ℕ) → CertAnswers book bytes (stops Done) → ⊥
cert-never book bytes (said, says, is) = by said is
  where
    by : (said : Said CertValue ℕ) → stops Done ≡ cert_answer said → ⊥
    by (stated c) is = absurd cc
    by (faulty place) is = absurd cc
    by (beyond place) is = absurd cc

-- the bytes of a certificate state its value
pub states-cert : (book : Book) (bytes : List ℕ) (c : CertValue) → CertAnswers book bytes (value c) → CertSays (bidders_of book) (states book) bytes (stated c)
states-cert book bytes c (said, says, is) = by said says is
  where
    by : (said : Said CertValue ℕ) → CertSays (bidders_of book) (states book) bytes said → value c ≡ cert_answer said
        → CertSays (bidders_of book) (states book) bytes (stated c)
    by (stated d) says is = let same : d ≡ c = cc in subst (λ (x : CertValue). CertSays (bidders_of book) (states book) bytes (stated x)) same says
    by (faulty place) says is = absurd cc
    by (beyond place) says is = absurd cc

-- a log of a run that is done leads to a book
pub has-book : (records : ℕ) (end : Result Book ReplayStop) (follows : Book → Outcome → Type 0) (o : Outcome) → EndGives records end follows o
    → o.status ≡ Done → (book : Book) × (end ≡ Ok book) × follows book o
has-book records (Ok book) follows o gives ends = (book, refl, gives)
has-book records (Err (Rounds count)) follows o gives ends = let no = sym (ap (λ (x : Outcome). x.status) gives) ∙ ends in absurd cc
has-book records (Err (Price price)) follows o gives ends = let no = sym (ap (λ (x : Outcome). x.status) gives) ∙ ends in absurd cc
has-book records (Err Open) follows o gives ends = let no = sym (ap (λ (x : Outcome). x.status) gives) ∙ ends in absurd cc

-- each bidder of a book weighs 1
pub one-each : (book : Book) (j : ℕ) → 0 < j → j ≤ (market_of book).bidders → weight_of (ones book) j ≡ 1
one-each book j some inside = get_or-replicate {A = ℕ} (bidders_of book) (j - 1) 1 0 (omega (arith, some, inside))

module _ (plain : (m : Market) (w : ℕ → ℕ) (z : List ℕ) (p : Point) → ((j : ℕ) → 0 < j → j ≤ m.bidders → w j ≡ 1) → IsWinning m z → IsCoreOutcome m w z p
    → IsAuctionOutcome m z p)
    (admitted : (terms : Terms) (lines : List Event) → HoldsAdmittedBids terms lines (book_of terms lines)) where
  -- a yes, by what is known of each file
  pub audited : (file : List ℕ → Option (List ℕ)) (terms log cert : List ℕ) (o : Outcome) → FilesGive (audit terms log cert) file o → o.status ≡ Done
      → IsAudited file terms log cert o.printed × (o.appended ≡ [])
  audited file terms log cert o gives ends =
      let a = has-value kinds.Award AWARD_BYTES AwardAnswers (file terms)
      (λ t. LogGives t (file log) (λ events. BookOfLogGives t events (λ b. CertGives b (file cert) (VerdictGives b (ones b))))) o award-never gives ends in
      let l = has-value kinds.Log LOG_BYTES (LogAnswers a.of) (file log) (λ events. BookOfLogGives a.of events
      (λ b. CertGives b (file cert) (VerdictGives b (ones b)))) o (log-never a.of) a.goes_on ends in
      let b = has-book (length l.of) (end_of a.of (reverse l.of)) (λ b. CertGives b (file cert) (VerdictGives b (ones b))) o l.goes_on ends in
      let c = has-value kinds.Cert CERT_BYTES (CertAnswers b.0) (file cert) (VerdictGives b.0 (ones b.0)) o (cert-never b.0) b.2 ends in
      by a l b c c.goes_on
    where
      by : (a : HasValue AWARD_BYTES AwardAnswers (file terms) (λ t. LogGives t (file log)
          (λ events. BookOfLogGives t events (λ b. CertGives b (file cert) (VerdictGives b (ones b))))) o)
          (l : HasValue LOG_BYTES (LogAnswers a.of) (file log) (λ events. BookOfLogGives a.of events (λ b. CertGives b (file cert) (VerdictGives b (ones b))))
          o)
          (b : (book : Book) × (end_of a.of (reverse l.of) ≡ Ok book) × CertGives book (file cert) (VerdictGives book (ones book)) o)
          (c : HasValue CERT_BYTES (CertAnswers b.0) (file cert) (VerdictGives b.0 (ones b.0)) o)
          → VerdictGives b.0 (ones b.0) c.of o → IsAudited file terms log cert o.printed × (o.appended ≡ [])
      by a l b c (inr (test, place, fails, told)) = let no = sym (ap (λ (x : Outcome). x.status) told) ∙ ends in absurd cc
      by a l b c (inl (all, sound, (text, is_yes, told))) =
          let log_of = logged a.of (reverse l.of) b.0 b.1 in (
            record {
              terms = a.of;
              lines = l.of;
              auction = record {
                award_states = record { bytes = a.bytes; here = a.here; said = award-states a.bytes a.of a.says_it };
                log_states = record { bytes = l.bytes; here = l.here; said = l.says_it };
                complete = log_of.complete;
              };
              bids = admitted a.of l.of;
              certificate = c.of;
              cert_states = record {
                bytes = c.bytes;
                here = c.here;
                said = subst (λ (k : Book). CertSays (bidders_of k) (states k) c.bytes (stated c.of))
                    log_of.is (states-cert b.0 c.bytes c.of c.says_it);
              };
              outcome = subst (λ (k : Book). IsAuctionOutcome (market_of k) c.of.choice (cert_point c.of)) log_of.is
                  (plain (market_of b.0) (weight_of (ones b.0)) c.of.choice (cert_point c.of) (one-each b.0) sound.winning sound.outcome);
              vickrey = subst (λ (k : Book). AreVickreyPrices (market_of k) c.of.choice (cert_prices k c.of)) log_of.is sound.vickrey;
              yes = subst (λ (k : Book). IsYesText k c.of o.printed) log_of.is (subst (λ (t : List ℕ). IsYesText b.0 c.of t)
                  (sym (ap (λ (x : Outcome). x.printed) told)) is_yes);
            },
            ap (λ (x : Outcome). x.appended) told,
          )

  -- what was written, by what is known of each file
  module _ (short_text : (book : Book) (w : ℕ → ℕ) (c : CertValue) → IsWithinSizes book → IsCertificate (bidders_of book) (states book) c
      → IsPricedCert book w c → winners_in c.choice ≤ MOST_WINNERS → length (cert_text c) < PRICED_CERT_BYTES)
      (rules_log : (terms : Terms) (rows : List (List (List ℕ))) (events : List Event) (book : Book) → IsAward terms → AreLog terms rows events
      → end_of terms (reverse events) ≡ Ok book → IsBidBook book) where
    -- if `award` is done, its files state an auction, of whose outcome a certificate was appended
    pub awarded : (file : List ℕ → Option (List ℕ)) (terms log cert : List ℕ) (form : PriceForm) (o : Outcome) → FilesGive (award terms log cert form) file o
        → o.status ≡ Done
        → (text : List ℕ) × IsAwarded file terms log text × (o.appended ≡ cert_file text ∷ [])
    awarded file terms log cert form o gives ends =
        let a = has-value kinds.Award AWARD_BYTES AwardAnswers (file terms) (λ t. LogGives t (file log)
        (λ events. BookOfLogGives t events (λ b. PriceGives b (ones b) form))) o award-never gives ends in
        let l = has-value kinds.Log LOG_BYTES (LogAnswers a.of) (file log) (λ events. BookOfLogGives a.of events (λ b. PriceGives b (ones b) form)) o
        (log-never a.of) a.goes_on ends in
        let b = has-book (length l.of) (end_of a.of (reverse l.of)) (λ b. PriceGives b (ones b) form) o l.goes_on ends in
        by a l b b.2
      where
        by : (a : HasValue AWARD_BYTES AwardAnswers (file terms) (λ t. LogGives t (file log)
            (λ events. BookOfLogGives t events (λ b. PriceGives b (ones b) form))) o)
            (l : HasValue LOG_BYTES (LogAnswers a.of) (file log) (λ events. BookOfLogGives a.of events (λ b. PriceGives b (ones b) form)) o)
            (b : (book : Book) × (end_of a.of (reverse l.of) ≡ Ok book) × PriceGives book (ones book) form o)
            → PriceGives b.0 (ones b.0) form o → (text : List ℕ) × IsAwarded file terms log text × (o.appended ≡ cert_file text ∷ [])
        by a l b (inr (z, many, told)) = let no = sym (ap (λ (x : Outcome). x.status) told) ∙ ends in absurd cc
        by a l b (inl (c, printed, is, told)) =
            let log_of = logged a.of (reverse l.of) b.0 b.1 in (
              cert_text c,
              record {
                terms = a.of;
                lines = l.of;
                auction = record {
                  award_states = record { bytes = a.bytes; here = a.here; said = award-states a.bytes a.of a.says_it };
                  log_states = record { bytes = l.bytes; here = l.here; said = l.says_it };
                  complete = log_of.complete;
                };
                bids = admitted a.of l.of;
                certificate = c;
                priced = subst (λ (k : Book). IsPricedCert k (weight_of (ones k)) c) log_of.is is.priced;
                outcome = subst (λ (k : Book). IsAuctionOutcome (market_of k) c.choice (cert_point c)) log_of.is
                    (plain (market_of b.0) (weight_of (ones b.0)) c.choice (cert_point c) (one-each b.0) is.priced.winning is.priced.outcome);
                whole = refl;
                short = short_text b.0 (weight_of (ones b.0)) c (sizes-of b.0 (rules_log a.of (log_records l.bytes) l.of b.0 a.says_it.1 l.says_it b.1))
                    is.certificate is.priced is.few.0;
              },
              ap (λ (x : Outcome). x.appended) told,
            )
