-- The words and the bytes give at most one status and one printed text.
use Rattle.std.specs.Prelude.{Bool, Err, List, None, Ok, Option, Result, Some, [], codes, false, length, pos, refl, reverse, true, ℕ, ℤ, ◌++◌, ◌<◌}
use Rattle.std.specs.Prelude.{◌^◌, ◌∷◌, ◌≡◌, ◌≤ℤ◌, ◌≤◌}
use Rattle.std.proofs.Common.{inl, inr, sym, ◌∙◌, ap, subst, arith}
use Rattle.line_format.specs.LineText.{Said, Says, beyond, faulty, stated}
use Rattle.auction_model.specs.Market.{Market}
use Rattle.auction_model.specs.Greatest.{IsWinning}
use Rattle.auction_model.specs.Lawful.{IsMarket}
use Rattle.auction_model.specs.Book.{Book, bids_of, market_of, net_of}
use Rattle.auction_model.specs.Prices.{AreVickreyPrices, AreWeights, IsCoreOutcome, Point, SamePoint, weight_of}
use Rattle.auction_model.specs.PricingRun.{BidderTurn, IsPricingRun}
use Rattle.book_grammar.specs.BookForm.{IsBook}
use Rattle.book_grammar.specs.BookLines.{Excess, IsBookWithinLimits, book_lines}
use Rattle.print_grammar.specs.WinText.{win_text}
use Rattle.bid_book.proofs.Within.{kept}
use Rattle.cert_grammar.specs.Certificate.{CertValue}
use Rattle.cert_grammar.specs.Says.{CertSays, cert_text}
use Rattle.cert_soundness.specs.Sound.{IsSound, cert_point, cert_prices}
use Rattle.cert_soundness.specs.Tests.{FailsFirst, Holds, bidders_of, states}
use Rattle.print_grammar.specs.Json.{IsOutcomeJson}
use Rattle.print_grammar.specs.Prices.{IsPriceText}
use Rattle.print_grammar.specs.Turns.{AreTurnLines}
use Rattle.core_laws.specs.Winners.{winners_in}
use Rattle.core_laws.specs.Weights.{FewWin}
use Rattle.award_file.specs.Award.{IsAward}
use Rattle.log_file.specs.LogReading.{AreLog, log_records}
use Rattle.log_replay.specs.ReplyLines.{end_of}
use Rattle.auction_rules.specs.Terms.{Terms}
use Rattle.auction_rules.specs.declared.Event.{Event}
use Rattle.log_replay.specs.declared.results.ReplayStop.{ReplayStop}
use Rattle.weights_file.specs.WeightsForm.{WeightsSay}
use Rattle.edits_file.specs.EditsForm.{AreNamedEdits, EditsSay, NamedEdit, add, edits_of, raise, remove}
use Rattle.review.specs.Edits.{edit_lots}
use Rattle.std.specs.List.{AllByRecursion}
use Rattle.review.specs.declared.edit.Edit.{Edit}
use Rattle.outcome.specs.ReviewText.{IsReviewText}
use Rattle.cca_run.proofs.Same.{Same, both, equal, one-input, printed-same}
use Rattle.cca_run.proofs.Stated.{limits-of}
use Rattle.cca_run.proofs.OneLog.{one_award-answer}
use Rattle.book_price.proofs.Ones.{ones-weigh}
use Rattle.cca_run.proofs.Ones.{not_few_and_many}
use Rattle.cca_cli.specs.Answers.{AwardAnswers, BookAnswers, CertAnswers, EditsAnswers, LogAnswers, WeightsAnswers, book_answer, cert_answer}
use Rattle.cca_cli.specs.Answers.{edits_answer, weights_answer}
use Rattle.cca_cli.specs.Command.{CommandValue, command_of, contents_of}
use Rattle.cca_cli.specs.declared.kind.Kind.{Kind}
use Rattle.cca_cli.specs.declared.kind.Kind.TheVariants as commands
use Rattle.cca_cli.specs.Outcome.{Answer, Outcome, done, stopped, value}
use Rattle.cca_cli.specs.declared.price_form.PriceForm.{PriceForm}
use Rattle.cca_cli.specs.declared.status.CertKind.TheVariants as certs
use Rattle.cca_cli.specs.declared.status.FileKind.{FileKind}
use Rattle.cca_cli.specs.declared.status.FileKind.TheVariants.{Award, Cert, Edits, Log, Slots, Weights}
use Rattle.cca_cli.specs.declared.status.FileKind.TheVariants as file_kind
use Rattle.limits.specs.declared.TheConstants.{AWARD_BYTES, BOOK_BYTES, CERT_BYTES, EDITS_BYTES, LOG_BYTES, WEIGHTS_BYTES}
use Rattle.cca_commands.specs.Gives.{ArePriceLines, AreRounds, AuctionGives, BookOfLogGives, CertGives, EditsGive, EndGives, Gives}
use Rattle.cca_commands.specs.Gives.{HasTooMany, IsPricing, IsPrinted, IsYesText, KindGives, LogGives, PlaceCertGives, PlaceGives, PlaceVerdictGives, PriceGives}
use Rattle.cca_commands.specs.Gives.{RepliesGive, ReviewGives, SlotsGive, VerdictGives, WeightsGive, WinGives, WordsGive, book_file, cert_file, ones}
use Rattle.cca_cli.specs.declared.status.Status.TheVariants.{Limit, No}
use Rattle.limits.specs.declared.LimitKind.TheVariants.{Winners}

-- what a log leads to gives one status and one text
one-end : (records : ℕ) (replies : List ℕ) (end : Result Book ReplayStop) (o p : Outcome) → RepliesGive records replies end o
    → RepliesGive records replies end p → Same o p
one-end records replies (Ok book) o p x y =
    both o p (done replies (book_file x.0 ∷ [])) (done replies (book_file y.0 ∷ [])) x.2 y.2
    (printed-same replies replies (book_file x.0 ∷ []) (book_file y.0 ∷ []) refl)
one-end records replies (Err stop) o p x y = equal o p _ x y

-- what follows for the book that a log leads to gives one status and one text, if it does so for each book
one-ended : (records : ℕ) (end : Result Book ReplayStop) (follows : Book → Outcome → Type 0) (o p : Outcome)
    → ((b : Book) → end ≡ Ok b → follows b o → follows b p → Same o p)
    → EndGives records end follows o → EndGives records end follows p → Same o p
one-ended records (Ok b) follows o p same x y = same b refl x y
one-ended records (Err stop) follows o p same x y = equal o p _ x y

-- edits by name have as many categories by number
lots-of : (book : Book) (categories : ℕ) (named : List NamedEdit) → AreNamedEdits categories named → AllByRecursion (λ e. length (edit_lots e) ≡ categories)
    (edits_of book named)
lots-of book categories [] all = tt
lots-of book categories (add name lots amount ∷ named) all = (all.0.0.count, lots-of book categories named all.1)
lots-of book categories (raise name lots amount ∷ named) all = (all.0.0.count, lots-of book categories named all.1)
lots-of book categories (remove name lots ∷ named) all = (all.0.count, lots-of book categories named all.1)

-- what the laws of the crates below say
module _ (one_book : (bytes : List ℕ) (x y : Said Book Excess) → Says IsBook book_lines bytes x → Says IsBook book_lines bytes y → x ≡ y)
    (lawful_log : (terms : Terms) (rows : List (List (List ℕ))) (events : List Event) (book : Book) → IsAward terms → AreLog terms rows events
    → end_of terms (reverse events) ≡ Ok book → IsMarket (market_of book))
    (one_weighing : (book : Book) (bytes : List ℕ) (x y : Said (List ℕ) ⊥) → IsBook book → WeightsSay book bytes x → WeightsSay book bytes y → x ≡ y)
    (one_log_answer : (terms : Terms) (bytes : List ℕ) (x y : Answer (List Event)) → LogAnswers terms bytes x → LogAnswers terms bytes y → x ≡ y)
    (one_cert : (bidders number : ℕ) (bytes : List ℕ) (x y : Said CertValue ℕ) → CertSays bidders number bytes x → CertSays bidders number bytes y → x ≡ y)
    (one_verdict : (book : Book) (w : ℕ → ℕ) (c : CertValue) (t p u q : ℕ) → FailsFirst book w c t p → FailsFirst book w c u q → (t ≡ u) × (p ≡ q))
    (not_both : (book : Book) (w : ℕ → ℕ) (c : CertValue) (t p : ℕ) → Holds book w c → FailsFirst book w c t p → ⊥)
    (sound : (book : Book) (weights : List ℕ) (c : CertValue) → AreWeights (bidders_of book) weights → length c.choice ≡ bidders_of book
    → length c.pay ≡ bidders_of book → Holds book (weight_of weights) c → IsSound book (weight_of weights) c)
    (one_winning : (m : Market) (c d : List ℕ) → IsMarket m → IsWinning m c → IsWinning m d → c ≡ d)
    (market : (book : Book) → length book.bidders < 2 ^ 16 → ((j i : ℕ) → i ≤ length (bids_of book j) → pos 0 ≤ℤ net_of book j i) → IsMarket (market_of book))
    (one_vickrey : (m : Market) (z : List ℕ) (v w : ℕ → ℤ) → AreVickreyPrices m z v → AreVickreyPrices m z w → (j : ℕ) → 0 < j → j ≤ m.bidders → v j ≡ w j)
    (one_core : (m : Market) (w : ℕ → ℕ) (z : List ℕ) (p q : Point) → IsMarket m → IsCoreOutcome m w z p → IsCoreOutcome m w z q → SamePoint m p q)
    (one_prices : (book : Book) (z : List ℕ) (v w : ℕ → ℤ) (p q : Point) (t u : List ℕ) → length z ≡ (market_of book).bidders → pos 1 ≤ℤ p.den → pos 1 ≤ℤ q.den
    → SamePoint (market_of book) p q → ((j : ℕ) → 0 < j → j ≤ (market_of book).bidders → v j ≡ w j) → IsPriceText book z v p t → IsPriceText book z w q u
    → t ≡ u)
    (one_run : (m : Market) (w : ℕ → ℕ) (z : List ℕ) (runs others : List BidderTurn) (t u : List ℕ) → IsMarket m → IsPricingRun m w z runs → IsPricingRun m w z others
    → AreTurnLines z 0 runs t → AreTurnLines z 0 others u → t ≡ u)
    (one_json : (book : Book) (z : List ℕ) (v w : ℕ → ℤ) (p q : Point) (t u : List ℕ) → length z ≡ (market_of book).bidders → pos 1 ≤ℤ p.den → pos 1 ≤ℤ q.den
    → SamePoint (market_of book) p q → ((j : ℕ) → 0 < j → j ≤ (market_of book).bidders → v j ≡ w j) → IsOutcomeJson book z v p None t
    → IsOutcomeJson book z w q None u → t ≡ u)
    (one_json_rounds : (book : Book) (weights : ℕ → ℕ) (z : List ℕ) (v w : ℕ → ℤ) (p q : Point) (runs others : List BidderTurn) (t u : List ℕ)
    → length z ≡ (market_of book).bidders
    → pos 1 ≤ℤ p.den → pos 1 ≤ℤ q.den → SamePoint (market_of book) p q → ((j : ℕ) → 0 < j → j ≤ (market_of book).bidders → v j ≡ w j)
    → IsMarket (market_of book) → IsPricingRun (market_of book) weights z runs → IsPricingRun (market_of book) weights z others
    → IsOutcomeJson book z v p (Some runs) t → IsOutcomeJson book z w q (Some others) u → t ≡ u)
    (one_placed : (rounds : Bool) (contents : FileKind → Option (List ℕ)) (o p : Outcome) → SlotsGive (contents Slots) (λ s. PlaceGives s rounds) o
    → SlotsGive (contents Slots) (λ s. PlaceGives s rounds) p → Same o p)
    (one_tested : (contents : FileKind → Option (List ℕ)) (o p : Outcome)
    → SlotsGive (contents Slots) (λ s. PlaceCertGives s (contents Cert) (PlaceVerdictGives s)) o
    → SlotsGive (contents Slots) (λ s. PlaceCertGives s (contents Cert) (PlaceVerdictGives s)) p → Same o p)
    (one_edits : (categories : ℕ) (bytes : List ℕ) (x y : Said (List NamedEdit) Excess) → EditsSay categories bytes x → EditsSay categories bytes y → x ≡ y)
    (one_review : (book : Book) (edits : List Edit) (t u : List ℕ) → IsBookWithinLimits book → AllByRecursion
    (λ e. length (edit_lots e) ≡ length book.supply) edits → IsReviewText book edits t → IsReviewText book edits u → t ≡ u) where
  one_book-answer : (bytes : List ℕ) (x y : Answer Book) → BookAnswers bytes x → BookAnswers bytes y → x ≡ y
  one_book-answer bytes x y a b = a.2 ∙ ap book_answer (one_book bytes a.0 b.0 a.1 b.1) ∙ sym b.2

  one_cert-answer : (book : Book) (bytes : List ℕ) (x y : Answer CertValue) → CertAnswers book bytes x → CertAnswers book bytes y → x ≡ y
  one_cert-answer book bytes x y a b = a.2 ∙ ap cert_answer (one_cert (bidders_of book) (states book) bytes a.0 b.0 a.1 b.1) ∙ sym b.2

  one_edits-answer : (book : Book) (bytes : List ℕ) (x y : Answer (List Edit)) → EditsAnswers book bytes x → EditsAnswers book bytes y → x ≡ y
  one_edits-answer book bytes x y a b = a.2 ∙ ap (edits_answer book) (one_edits (length book.supply) bytes a.0 b.0 a.1 b.1) ∙ sym b.2

  -- edits that bytes state have as many categories as the book
  lots-in : (book : Book) (bytes : List ℕ) (edits : List Edit) → EditsAnswers book bytes (value edits)
      → AllByRecursion (λ e. length (edit_lots e) ≡ length book.supply) edits
  lots-in book bytes edits (said, says, is) = by said says is
    where
      by : (said : Said (List NamedEdit) Excess) → EditsSay (length book.supply) bytes said → value edits ≡ edits_answer book said
          → AllByRecursion (λ e. length (edit_lots e) ≡ length book.supply) edits
      by (stated named) says is = let same : edits_of book named ≡ edits = cc in
          subst (λ (l : List Edit). AllByRecursion (λ e. length (edit_lots e) ≡ length book.supply) l) same (lots-of book (length book.supply) named says.valid)
      by (faulty at) says is = absurd cc
      by (beyond e) says is = absurd cc

  one_weights-answer : (book : Book) → IsBook book → (bytes : List ℕ) (x y : Answer (List ℕ)) → WeightsAnswers book bytes x → WeightsAnswers book bytes y
      → x ≡ y
  one_weights-answer book rules bytes x y a b = a.2 ∙ ap weights_answer (one_weighing book bytes a.0 b.0 rules a.1 b.1) ∙ sym b.2

  -- weights that bytes state are one of 1 to 20 for each bidder
  weights-of : (book : Book) (bytes weights : List ℕ) → WeightsAnswers book bytes (value weights) → AreWeights (bidders_of book) weights
  weights-of book bytes weights (said, says, is) = by said says is
    where
      by : (said : Said (List ℕ) ⊥) → WeightsSay book bytes said → value weights ≡ weights_answer said → AreWeights (bidders_of book) weights
      by (stated w) says is = let same : w ≡ weights = cc in subst (AreWeights (bidders_of book)) same says.valid
      by (faulty at) says is = absurd cc
      by (beyond none) says is = absurd none

  -- the market of a book that bytes state is lawful
  lawful : (bytes : List ℕ) (book : Book) → BookAnswers bytes (value book) → IsMarket (market_of book)
  lawful bytes book says =
      let rules = kept book (limits-of bytes book says) in
      market book (omega (arith, rules.bidders)) rules.not_negative

  one-rounds : (rounds : Bool) (book : Book) (weights z : List ℕ) (runs others : List BidderTurn) (t u : List ℕ) → IsMarket (market_of book)
      → IsPricingRun (market_of book) (weight_of weights) z runs
      → IsPricingRun (market_of book) (weight_of weights) z others → AreRounds rounds z runs t → AreRounds rounds z others u → t ≡ u
  one-rounds true book weights z runs others t u m a b x y = one_run (market_of book) (weight_of weights) z runs others t u m a b x y
  one-rounds false book weights z runs others t u m a b x y = x ∙ sym y

  vickrey-of : (book : Book) (weights : List ℕ) → AreWeights (bidders_of book) weights → (form : PriceForm) (c : CertValue) (t : List ℕ)
      → IsPricing book weights form c t → AreVickreyPrices (market_of book) c.choice (cert_prices book c)
  vickrey-of book weights are form c t a = (sound book weights c are a.certificate.choice.0 a.certificate.pay.0 a.priced.holds).vickrey

  -- the same prices of the same winners, after two runs of pricing
  module _ (book : Book) (weights z : List ℕ) (v w : ℕ → ℤ) (p q : Point) (runs others : List BidderTurn) (m : IsMarket (market_of book))
      (long : length z ≡ (market_of book).bidders)
      (dp : pos 1 ≤ℤ p.den) (dq : pos 1 ≤ℤ q.den) (same : SamePoint (market_of book) p q) (agree : (j : ℕ) → 0 < j → j ≤ (market_of book).bidders → v j ≡ w j)
      (run : IsPricingRun (market_of book) (weight_of weights) z runs) (other : IsPricingRun (market_of book) (weight_of weights) z others) where
    -- they have one text in lines
    one-lines : (rounds : Bool) (t u : List ℕ) → ArePriceLines rounds book z v p runs t → ArePriceLines rounds book z w q others u → t ≡ u
    one-lines rounds t u x y =
        let lines = one-rounds rounds book weights z runs others x.lines y.lines m run other x.are_rounds y.are_rounds in
        let prices = one_prices book z v w p q x.prices y.prices long dp dq same agree x.are_prices y.are_prices in
        x.whole ∙ ap (λ (l : List ℕ). l ++ x.prices) lines ∙ ap (λ (l : List ℕ). y.lines ++ l) prices ∙ sym y.whole

    -- and one in each form
    one-printed : (json rounds : Bool) (t u : List ℕ) → IsPrinted json rounds book z v p runs t → IsPrinted json rounds book z w q others u → t ≡ u
    one-printed true true t u x y = one_json_rounds book (weight_of weights) z v w p q runs others t u long dp dq same agree m run other x y
    one-printed true false t u x y = one_json book z v w p q t u long dp dq same agree x y
    one-printed false rounds t u x y = one-lines rounds t u x y

  one-pricing : (book : Book) (weights : List ℕ) → AreWeights (bidders_of book) weights → (form : PriceForm) (c d : CertValue) (t u : List ℕ)
      → IsMarket (market_of book) → IsPricing book weights form c t → IsPricing book weights form d u → t ≡ u
  one-pricing book weights are form c d t u m a b =
      let is : d.choice ≡ c.choice = one_winning (market_of book) d.choice c.choice m b.priced.winning a.priced.winning in
      let run = subst (λ (z : List ℕ). IsPricingRun (market_of book) (weight_of weights) z b.turns) is b.run in
      let outcome = subst (λ (z : List ℕ). IsCoreOutcome (market_of book) (weight_of weights) z (cert_point d)) is b.priced.outcome in
      let vickrey = subst (λ (z : List ℕ). AreVickreyPrices (market_of book) z (cert_prices book d)) is (vickrey-of book weights are form d u b) in
      let printed = subst (λ (z : List ℕ). IsPrinted form.json form.rounds book z (cert_prices book d) (cert_point d) b.turns u) is b.printed in
      one-printed book weights c.choice (cert_prices book c) (cert_prices book d) (cert_point c) (cert_point d) a.turns b.turns m
      (m.lengths c.choice a.priced.winning.passed)
      a.priced.outcome.core.den_positive outcome.core.den_positive (one_core (market_of book) (weight_of weights) c.choice (cert_point c)
      (cert_point d) m a.priced.outcome outcome)
      (one_vickrey (market_of book) c.choice (cert_prices book c) (cert_prices book d) (vickrey-of book weights are form c t a) vickrey) a.run run form.json
      form.rounds t u a.printed printed

  few_or_many : (book : Book) (weights : List ℕ) (form : PriceForm) (c : CertValue) (t z : List ℕ) → IsMarket (market_of book)
      → IsPricing book weights form c t → HasTooMany book z weights → ⊥
  few_or_many book weights form c t z m a many =
      not_few_and_many z weights (subst (λ (x : List ℕ). FewWin x weights) (one_winning (market_of book) c.choice z m a.priced.winning many.winning) a.few)
      many.many

  one-priced : (book : Book) (weights : List ℕ) → AreWeights (bidders_of book) weights → (form : PriceForm) (o p : Outcome) → IsMarket (market_of book)
      → PriceGives book weights form o → PriceGives book weights form p → Same o p
  one-priced book weights are form o p m (inl x) (inl y) = both o p (done x.1 (cert_file (cert_text x.0) ∷ []))
      (done y.1 (cert_file (cert_text y.0) ∷ [])) x.3 y.3 (printed-same x.1 y.1 (cert_file (cert_text x.0) ∷ []) (cert_file (cert_text y.0) ∷ [])
      (one-pricing book weights are form x.0 y.0 x.1 y.1 m x.2 y.2))
  one-priced book weights are form o p m (inl x) (inr y) = absurd (few_or_many book weights form x.0 x.1 y.0 m x.2 y.1)
  one-priced book weights are form o p m (inr x) (inl y) = absurd (few_or_many book weights form y.0 y.1 x.0 m y.2 x.1)
  one-priced book weights are form o p m (inr x) (inr y) =
      let is : winners_in x.0 ≡ winners_in y.0 = ap winners_in (one_winning (market_of book) x.0 y.0 m x.1.winning y.1.winning) in
      equal o p (stopped (Limit Winners (winners_in y.0))) (x.2 ∙ ap (λ (n : ℕ). stopped (Limit Winners n)) is) y.2

  one-yes : (book : Book) (w : ℕ → ℕ) (c : CertValue) (t u : List ℕ) → IsMarket (market_of book) → IsSound book w c → IsYesText book c t → IsYesText book c u
      → t ≡ u
  one-yes book w c t u m s x y =
      let den = s.outcome.core.den_positive in
      let prices = one_prices book c.choice (cert_prices book c) (cert_prices book c) (cert_point c) (cert_point c) x.0 y.0
      (m.lengths c.choice s.winning.passed) den den
      (λ j some le. refl) (λ j some le. refl) x.1 y.1 in
      x.2 ∙ ap (λ (l : List ℕ). codes "yes\n" ++ l) prices ∙ sym y.2

  one-judged : (book : Book) (weights : List ℕ) (c : CertValue) (o p : Outcome) → IsMarket (market_of book) → VerdictGives book weights c o
      → VerdictGives book weights c p → Same o p
  one-judged book weights c o p m (inl x) (inl y) = let a = x.2 in let b = y.2 in both o p (done a.0 []) (done b.0 []) a.2 b.2
      (printed-same a.0 b.0 [] [] (one-yes book (weight_of weights) c a.0 b.0 m x.1 a.1 b.1))
  one-judged book weights c o p m (inl x) (inr y) = absurd (not_both book (weight_of weights) c y.0 y.1 x.0 y.2)
  one-judged book weights c o p m (inr x) (inl y) = absurd (not_both book (weight_of weights) c x.0 x.1 y.0 x.2)
  one-judged book weights c o p m (inr x) (inr y) =
      let is = one_verdict book (weight_of weights) c x.0 x.1 y.0 y.1 x.2 y.2 in
      equal o p (stopped (No certs.Book y.0 y.1)) (x.3 ∙ ap (λ (t : ℕ). stopped (No certs.Book t x.1)) is.0
      ∙ ap (λ (q : ℕ). stopped (No certs.Book y.0 q)) is.1) y.3

  one-of : (kind : Kind) (form : PriceForm) (number : ℕ) (contents : FileKind → Option (List ℕ)) (o p : Outcome)
      → KindGives kind form number contents o → KindGives kind form number contents p → Same o p
  one-of commands.Win form number contents o p x y = one-input file_kind.Book BOOK_BYTES BookAnswers WinGives one_book-answer (contents file_kind.Book) o p
      (λ book bytes says x y.
      let m = lawful bytes book says in
      let same = one_winning (market_of book) x.0 y.0 m x.1 y.1 in
      both o p (done (win_text book x.0) []) (done (win_text book y.0) []) x.2 y.2
      (printed-same (win_text book x.0) (win_text book y.0) [] [] (ap (win_text book) same))) x y
  one-of commands.Price form number contents o p x y = one-input file_kind.Book BOOK_BYTES BookAnswers (λ book. PriceGives book
      (ones book) form) one_book-answer (contents file_kind.Book) o p
      (λ book bytes says x y. one-priced book (ones book) (ones-weigh (bidders_of book)) form o p (lawful bytes book says) x y) x y
  one-of commands.Check form number contents o p x y = one-input file_kind.Book BOOK_BYTES BookAnswers (λ book. CertGives book (contents Cert)
      (VerdictGives book (ones book))) one_book-answer (contents file_kind.Book) o p
      (λ book bytes says x y. one-input Cert CERT_BYTES (CertAnswers book) (VerdictGives book (ones book)) (one_cert-answer book) (contents Cert) o p
      (λ c of says_it a b. one-judged book (ones book) c o p (lawful bytes book says) a b) x y) x y
  one-of commands.Weigh form number contents o p x y =
      one-input file_kind.Book BOOK_BYTES BookAnswers (λ b. WeightsGive b (contents Weights) (λ w. PriceGives b w form)) one_book-answer (contents file_kind.Book) o p
      (λ book bytes says x y. one-input Weights WEIGHTS_BYTES (WeightsAnswers book) (λ w. PriceGives book w form) (one_weights-answer book
      (limits-of bytes book says).form) (contents Weights) o p
      (λ w of says_it a b. one-priced book w (weights-of book of w says_it) form o p (lawful bytes book says) a b) x y) x y
  one-of commands.WeighCheck form number contents o p x y =
      one-input file_kind.Book BOOK_BYTES BookAnswers (λ b. WeightsGive b (contents Weights) (λ w. CertGives b (contents Cert) (VerdictGives b w))) one_book-answer
      (contents file_kind.Book) o p
      (λ book bytes says x y. one-input Weights WEIGHTS_BYTES (WeightsAnswers book) (λ w. CertGives book (contents Cert) (VerdictGives book w))
      (one_weights-answer book (limits-of bytes book says).form) (contents Weights) o p
      (λ w of says_it a b. one-input Cert CERT_BYTES (CertAnswers book) (VerdictGives book w) (one_cert-answer book) (contents Cert) o p
      (λ c with_it says_cert g h. one-judged book w c o p (lawful bytes book says) g h) a b) x y) x y
  one-of commands.Auction form number contents o p x y = one-input Award AWARD_BYTES AwardAnswers (λ terms. LogGives terms (contents Log)
      (AuctionGives terms)) one_award-answer (contents Award) o p
      (λ terms bytes says x y. one-input Log LOG_BYTES (LogAnswers terms) (AuctionGives terms) (one_log_answer terms) (contents Log) o p
      (λ events of says_it a b. one-end _ _ _ o p a b) x y) x y
  one-of commands.Award form number contents o p x y =
      one-input Award AWARD_BYTES AwardAnswers (λ t. LogGives t (contents Log) (λ events. BookOfLogGives t events (λ b. PriceGives b (ones b) form)))
      one_award-answer (contents Award) o p
      (λ t bytes says x y. one-input Log LOG_BYTES (LogAnswers t) (λ events. BookOfLogGives t events (λ b. PriceGives b (ones b) form)) (one_log_answer t)
      (contents Log) o p
      (λ events of says_it a b. one-ended (length events) (end_of t (reverse events)) (λ b. PriceGives b (ones b) form) o p
      (λ book is. one-priced book (ones book) (ones-weigh (bidders_of book)) form o p (lawful_log t (log_records of) events book says.1 says_it is)) a b) x y)
      x y
  one-of commands.Audit form number contents o p x y =
      one-input Award AWARD_BYTES AwardAnswers (λ t. LogGives t (contents Log) (λ events. BookOfLogGives t events
      (λ b. CertGives b (contents Cert) (VerdictGives b (ones b))))) one_award-answer (contents Award) o p
      (λ t bytes says x y. one-input Log LOG_BYTES (LogAnswers t) (λ events. BookOfLogGives t events
      (λ b. CertGives b (contents Cert) (VerdictGives b (ones b)))) (one_log_answer t) (contents Log) o p
      (λ events of says_it a b. one-ended (length events) (end_of t (reverse events)) (λ b. CertGives b (contents Cert) (VerdictGives b (ones b))) o p
      (λ book is x y. one-input Cert CERT_BYTES (CertAnswers book) (VerdictGives book (ones book)) (one_cert-answer book) (contents Cert) o p
      (λ c with_it says_cert g h. one-judged book (ones book) c o p (lawful_log t (log_records of) events book says.1 says_it is) g h) x y) a b) x y) x y
  one-of commands.Make form number contents o p x y = equal o p _ x y
  one-of commands.Place form number contents o p x y = one_placed form.rounds contents o p x y
  one-of commands.PlaceCheck form number contents o p x y = one_tested contents o p x y
  one-of commands.Review form number contents o p x y = one-input file_kind.Book BOOK_BYTES BookAnswers (λ b. EditsGive b (contents Edits)
      (ReviewGives b)) one_book-answer (contents file_kind.Book) o p
      (λ book bytes says x y. one-input Edits EDITS_BYTES (EditsAnswers book) (ReviewGives book) (one_edits-answer book) (contents Edits) o p
      (λ changes of says_it a b. both o p (done a.0 []) (done b.0 []) a.2 b.2 (printed-same a.0 b.0 [] []
      (one_review book changes a.0 b.0 (limits-of bytes book says) (lots-in book of changes says_it) a.1 b.1))) x y) x y

  one-words : (command : Option CommandValue) (file : List ℕ → Option (List ℕ)) (o p : Outcome) → WordsGive command file o → WordsGive command file p → Same o p
  one-words None file o p x y = equal o p _ x y
  one-words (Some command) file o p x y = one-of command.kind command.form command.number (contents_of command file) o p x y

  -- what the words and the files give has one status and one printed text
  pub one-outcome : (words : List (List ℕ)) (file : List ℕ → Option (List ℕ)) (o p : Outcome) → Gives words file o → Gives words file p → Same o p
  one-outcome words file o p x y = one-words (command_of words) file o p x y
