-- A certificate that pricing writes is accepted by the checker, of a book and of the book of a log.
use Rattle.std.specs.Prelude.{Err, List, None, Ok, Option, Result, Some, [], codes, false, length, pos, refl, reverse, slice_index_or, ℕ, ℤ, ◌++◌}
use Rattle.std.specs.Prelude.{◌<◌, ◌^◌, ◌∷◌, ◌≡◌, ◌≤ℤ◌, ◌≤◌}
use Rattle.std.proofs.Common.{inl, inr, sym, ◌∙◌, ap, subst, arith}
use Rattle.line_format.specs.LineText.{Said, Says, stated, text_of}
use Rattle.auction_model.specs.Book.{Book, market_of}
use Rattle.auction_model.specs.Prices.{Point, SamePoint, weight_of}
use Rattle.book_grammar.specs.BookForm.{IsBook}
use Rattle.book_grammar.specs.BookLines.{Excess, book_lines}
use Rattle.bid_book.proofs.Within.{kept}
use Rattle.bid_book.specs.Kept.{IsBidBook}
use Rattle.cert_grammar.specs.Certificate.{CertValue}
use Rattle.auction_rules.specs.Terms.{Terms}
use Rattle.auction_rules.specs.declared.Event.{Event}
use Rattle.award_file.specs.Award.{IsAward}
use Rattle.log_file.specs.LogReading.{AreLog, log_records}
use Rattle.log_replay.specs.ReplyLines.{end_of}
use Rattle.log_replay.specs.declared.results.ReplayStop.{ReplayStop}
use Rattle.cca_base.specs.Files.{added}
use Rattle.cert_grammar.specs.CertText.{IsCertificate, body_lines}
use Rattle.cert_grammar.specs.Lines.{Line, lines as spelled, spell, version_lines}
use Rattle.cert_grammar.specs.Says.{CertSays, cert_text}
use Rattle.cert_soundness.specs.BookSizes.{IsWithinSizes}
use Rattle.cert_soundness.specs.Priced.{IsPricedCert}
use Rattle.cert_soundness.specs.Sound.{cert_point, cert_prices}
use Rattle.cert_soundness.specs.Tests.{FailsFirst, Holds, bidders_of, states}
use Rattle.limits.specs.declared.TheConstants.{AWARD_BYTES, BOOK_BYTES, CERT_BYTES, LOG_BYTES, MOST_WINNERS, PRICED_CERT_BYTES, WEIGHTS_BYTES}
use Rattle.print_grammar.specs.Prices.{IsPriceText}
use Rattle.core_laws.specs.Winners.{winners_in}
use Rattle.value_table.proofs.Plain.{net-small}
use Rattle.cca_cli.specs.Answers.{AwardAnswers, BookAnswers, CertAnswers, LogAnswers, WeightsAnswers, book_answer, cert_answer, weights_answer}
use Rattle.weights_file.specs.WeightsForm.{WeightsSay}
use Rattle.cca_cli.specs.Command.{audit, award, check, form_with, price, weigh, weigh_check}
use Rattle.cca_cli.specs.Outcome.{Answer, AnswerGives, FileAnswers, InputGives, Outcome, stopped, value}
use Rattle.cca_cli.specs.declared.file_text.FileText.{FileText}
use Rattle.cca_cli.specs.declared.price_form.PriceForm.{PriceForm}
use Rattle.cca_cli.specs.declared.status.FileKind.{FileKind}
use Rattle.cca_cli.specs.declared.status.FileKind.TheVariants as kinds
use Rattle.cca_cli.specs.declared.status.Status.{Status}
use Rattle.cca_cli.specs.declared.status.Status.TheVariants.{Done}
use Rattle.cca_run.proofs.OneLog.{one_award-answer}
use Rattle.cca_run.proofs.Same.{two-inputs}
use Rattle.cca_run.proofs.Stated.{limits-of}
use Rattle.cca_commands.specs.Gives.{ArePriceLines, ArePrinted, AwardGives, BookGives, BookOfLogGives, CertGives, EndGives, FilesGive, IsPricing}
use Rattle.cca_commands.specs.Gives.{LogGives, PriceGives, VerdictGives, WeightsGive, cert_file, ones, replay_status}
use Rattle.cca_run.specs.Later.{HoldsCert, HoldsNothing}

-- the test is done, and where lines without turns were asked for it prints `yes` and then what the prices printed
abbrev pub Accepts : PriceForm → Outcome → Outcome → Type 0
Accepts form o p = (p.status ≡ Done) × (form ≡ form_with false false → p.printed ≡ codes "yes\n" ++ o.printed)

-- the text of the first file
abbrev pub first-text : List FileText → List ℕ
first-text [] = []
first-text (f ∷ fs) = f.text

-- a stop appends nothing
pub nothing-appended : (status : Status) (o : Outcome) (text : List ℕ) → o ≡ stopped status → o.appended ≡ cert_file text ∷ [] → ⊥
nothing-appended status o text is some = let e : [] ≡ cert_file text ∷ [] = sym (ap (λ (x : Outcome). x.appended) is) ∙ some in absurd cc

-- a book that is stated keeps the rules of a book
book-kept : (bytes : List ℕ) (book : Book) → BookAnswers bytes (value book) → IsBidBook book
book-kept bytes book says = kept book (limits-of bytes book says)

-- and is within the sizes that bound the text of a certificate
pub sizes-of : (book : Book) → IsBidBook book → IsWithinSizes book
sizes-of book rules = record {
  bidders = rules.bidders;
  states = rules.supply.states;
  amounts = λ j i le. net-small book j i rules le;
}

-- the two prints, if the prices are one text
pub yes-printed : (lines prices others printed : List ℕ) → lines ≡ [] → others ≡ prices → printed ≡ lines ++ prices
    → codes "yes\n" ++ others ≡ codes "yes\n" ++ printed
yes-printed lines prices others printed none same whole = ap (λ (t : List ℕ). codes "yes\n" ++ t)
    (same ∙ ap (λ (l : List ℕ). l ++ prices) (sym none) ∙ sym whole)

-- a text with a line has a byte
some-byte : (first rest : List ℕ) → 0 < length (first ++ 10 ∷ rest)
some-byte [] rest = omega arith
some-byte (b ∷ first) rest = omega arith

-- if some of the lines follow others, their text has a byte
pub some-line : (before behind : List Line) → 0 < length behind → 0 < length (text_of (spelled (before ++ behind)))
some-line [] [] some = absurd (omega (arith, some))
some-line [] (l ∷ behind) some = some-byte (spell l) _
some-line (b ∷ before) behind some = some-byte (spell b) _

-- so has that of a certificate
some-text : (c : CertValue) → 0 < length (cert_text c)
some-text c = some-line (version_lines (length c.choice) (length (slice_index_or c.table 0 []))) (body_lines c) (omega arith)

-- a file that held nothing holds just what was added
pub just-added : (content : Option (List ℕ)) (text : List ℕ) → 0 < length text → HoldsNothing content → added content text ≡ Some text
just-added None [] some nothing = absurd (omega (arith, some))
just-added None (b ∷ bytes) some nothing = refl
just-added (Some file) text some nothing = ap (λ (x : List ℕ). Some (x ++ text)) nothing

-- an outcome that isn't a stop
abbrev pub NoStop : Outcome → Type 0
NoStop o = (status : Status) → o ≡ stopped status → ⊥

-- Two outcomes of one input, of which the first isn't a stop, go on from one value.
pub value-inputs : {V : Type 0} (kind : FileKind) (most : ℕ) (says : List ℕ → Answer V → Type 0) (follows others : V → Outcome → Type 0)
    (content : Option (List ℕ))
    (o p : Outcome) (R : Type 0) → ((bytes : List ℕ) (a b : Answer V) → says bytes a → says bytes b → a ≡ b) → NoStop o
    → ((v : V) (bytes : List ℕ) → says bytes (value v) → follows v o → others v p → R)
    → InputGives kind most says content follows o → InputGives kind most says content others p → R
value-inputs kind most says follows others content o p R one none on x y =
    two-inputs kind most says follows others content o p R one (λ s a b. absurd (none s a)) on x y

-- the same of what a log leads to
two-ends : (records : ℕ) (end : Result Book ReplayStop) (follows others : Book → Outcome → Type 0) (o p : Outcome) (R : Type 0) → NoStop o
    → ((book : Book) → end ≡ Ok book → follows book o → others book p → R) → EndGives records end follows o → EndGives records end others p → R
two-ends records (Ok book) follows others o p R none on x y = on book refl x y
two-ends records (Err stop) follows others o p R none on x y = absurd (none (replay_status records stop) x)

-- what the laws of the crates below say
module _ (one_cert : (bidders number : ℕ) (bytes : List ℕ) (x y : Said CertValue ℕ) → CertSays bidders number bytes x → CertSays bidders number bytes y → x ≡ y)
    (text_of_cert : (bidders number : ℕ) (c : CertValue) → bidders < 2 ^ 100 → IsCertificate bidders number c
    → CertSays bidders number (cert_text c) (stated c))
    (short_text : (book : Book) (w : ℕ → ℕ) (c : CertValue) → IsWithinSizes book → IsCertificate (bidders_of book) (states book) c → IsPricedCert book w c
    → winners_in c.choice ≤ MOST_WINNERS → length (cert_text c) < PRICED_CERT_BYTES)
    (not_both : (book : Book) (w : ℕ → ℕ) (c : CertValue) (t p : ℕ) → Holds book w c → FailsFirst book w c t p → ⊥)
    (one_prices : (book : Book) (z : List ℕ) (v w : ℕ → ℤ) (p q : Point) (t u : List ℕ) → length z ≡ (market_of book).bidders → pos 1 ≤ℤ p.den → pos 1 ≤ℤ q.den
    → SamePoint (market_of book) p q → ((j : ℕ) → 0 < j → j ≤ (market_of book).bidders → v j ≡ w j) → IsPriceText book z v p t → IsPriceText book z w q u
    → t ≡ u) where
  -- the verdict on a certificate for which all tests pass
  judged : (book : Book) (weights : List ℕ) (form : PriceForm) (c : CertValue) (t : List ℕ) (p : Outcome) → IsPricing book weights form c t
      → VerdictGives book weights c p
      → (p.status ≡ Done) × (form ≡ form_with false false → p.printed ≡ codes "yes\n" ++ t)
  judged book weights form c t p is (inr fails) = absurd (not_both book (weight_of weights) c fails.0 fails.1 is.priced.holds fails.2)
  judged book weights form c t p is (inl (holds, sound, (text, (prices, are, whole), ends))) = (
    ap (λ (x : Outcome). x.status) ends,
    λ e. (
        let den = is.priced.outcome.core.den_positive in
        let plain : ArePriceLines false book c.choice (cert_prices book c) (cert_point c) is.turns t =
        subst (λ (f : PriceForm). ArePrinted f book c is.turns t) e is.printed in
        let same : prices ≡ plain.prices = one_prices book c.choice (cert_prices book c) (cert_prices book c) (cert_point c)
        (cert_point c) prices plain.prices is.certificate.choice.0 den den
        (λ j some le. refl) (λ j some le. refl) are plain.are_prices in
        ap (λ (x : Outcome). x.printed) ends ∙ whole ∙ yes-printed plain.lines plain.prices prices t plain.are_rounds same plain.whole
        ),
  )

  -- its text states it, and isn't too long
  answered : (book : Book) (weights : List ℕ) (form : PriceForm) (c : CertValue) (t : List ℕ) (answer : Answer CertValue) → IsBidBook book
      → IsPricing book weights form c t
      → FileAnswers CERT_BYTES (CertAnswers book) (cert_text c) answer → answer ≡ value c
  answered book weights form c t answer rules is answers =
      let short = short_text book (weight_of weights) c (sizes-of book rules) is.certificate is.priced is.few.0 in
      let says = answers.text (omega (arith, short)) in
      let states_it = text_of_cert (bidders_of book) (states book) c (omega (arith, rules.bidders)) is.certificate in
      says.2 ∙ ap cert_answer (one_cert (bidders_of book) (states book) (cert_text c) says.0 (stated c) says.1 states_it)

  -- the certificate of a book that can be priced is accepted, after a file that held nothing
  of-cert : (book : Book) (weights : List ℕ) (form : PriceForm) (o p : Outcome) (text : List ℕ) (content : Option (List ℕ)) → IsBidBook book
      → PriceGives book weights form o → o.appended ≡ cert_file text ∷ []
      → HoldsNothing content → CertGives book (added content text) (VerdictGives book weights) p → Accepts form o p
  of-cert book weights form o p text content rules (inr many) some nothing gives = absurd (nothing-appended _ o text many.2 some)
  of-cert book weights form o p text content rules (inl (c, t, is, ends)) some nothing gives = by (subst (λ (x : Option (List ℕ)). CertGives book x
      (VerdictGives book weights) p) holds gives)
    where
      same : cert_text c ≡ text
      same = ap first-text (sym (ap (λ (x : Outcome). x.appended) ends) ∙ some)

      holds : added content text ≡ Some (cert_text c)
      holds = just-added content text (subst (λ (x : List ℕ). 0 < length x) same (some-text c)) nothing ∙ ap Some (sym same)

      by : CertGives book (Some (cert_text c)) (VerdictGives book weights) p → Accepts form o p
      by (answer, answers, follows) =
          let e = answered book weights form c t answer rules is answers in
          let verdict = subst (λ (a : Answer CertValue). AnswerGives a (VerdictGives book weights) p) e follows in
          let both = judged book weights form c t p is verdict in
          (both.0, λ none. both.1 none ∙ ap (λ (x : List ℕ). codes "yes\n" ++ x) (sym (ap (λ (x : Outcome). x.printed) ends)))

  -- of the files of `price` and `check`
  pub accepted : ((bytes : List ℕ) (x y : Said Book Excess) → Says IsBook book_lines bytes x → Says IsBook book_lines bytes y → x ≡ y)
      → (book cert : List ℕ) (form : PriceForm) (file later : List ℕ → Option (List ℕ)) (o p : Outcome) → FilesGive (price book cert form) file o
      → HoldsCert (book ∷ []) cert file later o
      → FilesGive (check book cert) later p → Accepts form o p
  accepted one_book book cert form file later o p prices holds checks =
      value-inputs kinds.Book BOOK_BYTES BookAnswers (λ b. PriceGives b (ones b) form) (λ b. CertGives b (later cert) (VerdictGives b (ones b)))
      (file book) o p (Accepts form o p) same-book none on prices there
    where
      none : NoStop o
      none status is = nothing-appended status o holds.text is holds.appended

      same-book : (bytes : List ℕ) (x y : Answer Book) → BookAnswers bytes x → BookAnswers bytes y → x ≡ y
      same-book bytes x y a b = a.2 ∙ ap book_answer (one_book bytes a.0 b.0 a.1 b.1) ∙ sym b.2

      on : (b : Book) (bytes : List ℕ) → BookAnswers bytes (value b) → PriceGives b (ones b) form o → CertGives b (later cert) (VerdictGives b (ones b)) p
          → Accepts form o p
      on b bytes says x y =
          of-cert b (ones b) form o p holds.text (file cert) (book-kept bytes b says) x holds.appended holds.held_nothing
          (subst (λ (c : Option (List ℕ)). CertGives b c (VerdictGives b (ones b)) p) holds.cert_holds y)

      there : BookGives (file book) (λ b. CertGives b (later cert) (VerdictGives b (ones b))) p
      there = subst (λ (x : Option (List ℕ)). BookGives x (λ b. CertGives b (later cert) (VerdictGives b (ones b))) p) holds.inputs_hold.0 checks

  -- of the files of `weigh` and `weigh-check`
  module _ (one_book : (bytes : List ℕ) (x y : Said Book Excess) → Says IsBook book_lines bytes x → Says IsBook book_lines bytes y → x ≡ y)
      (one_weighing : (book : Book) (bytes : List ℕ) (x y : Said (List ℕ) ⊥) → IsBook book → WeightsSay book bytes x → WeightsSay book bytes y → x ≡ y)
      (book weights cert : List ℕ) (form : PriceForm) (file later : List ℕ
      → Option (List ℕ)) (o p : Outcome) (holds : HoldsCert (book ∷ weights ∷ []) cert file later o) where
    not-stopped : NoStop o
    not-stopped status is = nothing-appended status o holds.text is holds.appended

    one-said : (bytes : List ℕ) (x y : Answer Book) → BookAnswers bytes x → BookAnswers bytes y → x ≡ y
    one-said bytes x y a b = a.2 ∙ ap book_answer (one_book bytes a.0 b.0 a.1 b.1) ∙ sym b.2

    one-weights : (b : Book) → IsBook b → (bytes : List ℕ) (x y : Answer (List ℕ)) → WeightsAnswers b bytes x → WeightsAnswers b bytes y → x ≡ y
    one-weights b rules bytes x y s t = s.2 ∙ ap weights_answer (one_weighing b bytes s.0 t.0 rules s.1 t.1) ∙ sym t.2

    abbrev Checked : Book → List ℕ → Outcome → Type 0
    Checked b w x = CertGives b (later cert) (VerdictGives b w) x

    on-weights : (b : Book) (bytes : List ℕ) → BookAnswers bytes (value b) → (w : List ℕ) → PriceGives b w form o → Checked b w p → Accepts form o p
    on-weights b bytes says w x y =
        of-cert b w form o p holds.text (file cert) (book-kept bytes b says) x holds.appended holds.held_nothing
        (subst (λ (c : Option (List ℕ)). CertGives b c (VerdictGives b w) p) holds.cert_holds y)

    on-stated : (b : Book) (bytes : List ℕ) → BookAnswers bytes (value b) → WeightsGive b (file weights) (λ w. PriceGives b w form) o
        → WeightsGive b (later weights) (Checked b) p → Accepts form o p
    on-stated b bytes says x y =
        value-inputs kinds.Weights WEIGHTS_BYTES (WeightsAnswers b) (λ w. PriceGives b w form) (Checked b) (file weights) o p (Accepts form o p)
        (one-weights b (limits-of bytes b says).form) not-stopped (λ w of told g h. on-weights b bytes says w g h) x
        (subst (λ (c : Option (List ℕ)). WeightsGive b c (Checked b) p) holds.inputs_hold.1.0 y)

    -- what `weigh-check` gives over the files that `weigh` left accepts what `weigh` gave
    pub accepted-weighed : FilesGive (weigh book weights cert form) file o → FilesGive (weigh_check book weights cert) later p → Accepts form o p
    accepted-weighed prices checks =
        value-inputs kinds.Book BOOK_BYTES BookAnswers (λ b. WeightsGive b (file weights) (λ w. PriceGives b w form)) (λ b. WeightsGive b (later weights)
        (Checked b))
        (file book) o p (Accepts form o p) one-said not-stopped on-stated prices
        (subst (λ (c : Option (List ℕ)). BookGives c (λ b. WeightsGive b (later weights) (Checked b)) p) holds.inputs_hold.0 checks)

  -- of the files of `award` and `audit`
  module _ (one_log_answer : (terms : Terms) (bytes : List ℕ) (x y : Answer (List Event)) → LogAnswers terms bytes x → LogAnswers terms bytes y → x ≡ y)
      (rules_log : (terms : Terms) (rows : List (List (List ℕ))) (events : List Event) (book : Book) → IsAward terms → AreLog terms rows events
      → end_of terms (reverse events) ≡ Ok book → IsBidBook book)
      (terms log cert : List ℕ) (form : PriceForm) (file later : List ℕ → Option (List ℕ)) (o p : Outcome)
      (holds : HoldsCert (terms ∷ log ∷ []) cert file later o) where
    none-stops : NoStop o
    none-stops status is = nothing-appended status o holds.text is holds.appended

    -- what follows for the book of the log
    abbrev Prices : Book → Outcome → Type 0
    Prices b x = PriceGives b (ones b) form x

    abbrev Checks : Book → Outcome → Type 0
    Checks b x = CertGives b (later cert) (VerdictGives b (ones b)) x

    on-book : (t : Terms) (rows : List (List (List ℕ))) (events : List Event) → IsAward t → AreLog t rows events → (b : Book)
        → end_of t (reverse events) ≡ Ok b → Prices b o → Checks b p → Accepts form o p
    on-book t rows events rules states_all b is x y =
        of-cert b (ones b) form o p holds.text (file cert) (rules_log t rows events b rules states_all is) x holds.appended holds.held_nothing
        (subst (λ (c : Option (List ℕ)). CertGives b c (VerdictGives b (ones b)) p) holds.cert_holds y)

    on-log : (t : Terms) → IsAward t → (events : List Event) (bytes : List ℕ) → LogAnswers t bytes (value events) → BookOfLogGives t events Prices o
        → BookOfLogGives t events Checks p → Accepts form o p
    on-log t rules events bytes says x y =
        two-ends (length events) (end_of t (reverse events)) Prices Checks o p (Accepts form o p) none-stops
        (on-book t (log_records bytes) events rules says) x y

    on-award : (t : Terms) (bytes : List ℕ) → AwardAnswers bytes (value t) → LogGives t (file log) (λ events. BookOfLogGives t events Prices) o
        → LogGives t (later log) (λ events. BookOfLogGives t events Checks) p → Accepts form o p
    on-award t bytes says x y =
        value-inputs kinds.Log LOG_BYTES (LogAnswers t) (λ events. BookOfLogGives t events Prices) (λ events. BookOfLogGives t events Checks)
        (file log) o p (Accepts form o p)
        (one_log_answer t) none-stops (on-log t says.1) x
        (subst (λ (c : Option (List ℕ)). LogGives t c (λ events. BookOfLogGives t events Checks) p) holds.inputs_hold.1.0 y)

    -- what `audit` gives over the files that `award` left accepts what `award` gave
    pub accepted-log : FilesGive (award terms log cert form) file o → FilesGive (audit terms log cert) later p → Accepts form o p
    accepted-log prices checks =
        value-inputs kinds.Award AWARD_BYTES AwardAnswers (λ t. LogGives t (file log) (λ events. BookOfLogGives t events Prices)) (λ t. LogGives t
        (later log) (λ events. BookOfLogGives t events Checks))
        (file terms) o p (Accepts form o p) one_award-answer none-stops on-award prices
        (subst (λ (c : Option (List ℕ)). AwardGives c (λ t. LogGives t (later log) (λ events. BookOfLogGives t events Checks)) p) holds.inputs_hold.0 checks)
