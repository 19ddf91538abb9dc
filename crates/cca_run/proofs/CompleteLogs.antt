-- A complete log within the limits is awarded, and no other.
use Rattle.std.proofs.Common.{◌≡◌, ◌∙◌, ℕ, Bool, IsTrue, Option, Some, None, List, length, refl, sym, ap, subst, arith, inl, inr}
use Rattle.std.specs.Prelude.{◌≤◌, Result, Ok, Err, reverse, if◌then◌else◌}
use Rattle.auction_model.specs.Book.{Book, market_of}
use Rattle.auction_model.specs.Greatest.{IsWinning}
use Rattle.auction_model.specs.Lawful.{IsMarket}
use Rattle.auction_model.specs.Market.{Market}
use Rattle.auction_rules.specs.BookOfLog.{book_of_log, is_complete}
use Rattle.auction_rules.specs.Terms.{Terms}
use Rattle.auction_rules.specs.declared.Event.{Event}
use Rattle.award_file.specs.Award.{IsAward}
use Rattle.log_file.specs.LogReading.{AreLog, log_records}
use Rattle.log_replay.specs.ReplyLines.{book_or_open, end_of, first_refusal, stopped_or}
use Rattle.log_replay.specs.declared.results.ReplayStop.{ReplayStop}
use Rattle.log_replay.specs.declared.results.ReplayStop.TheVariants.{Open}
use Rattle.limits.specs.declared.TheConstants.{AWARD_BYTES, LOG_BYTES, MOST_WINNERS}
use Rattle.core_laws.specs.Winners.{winners_in}
use Rattle.cca_cli.specs.Answers.{AwardAnswers, LogAnswers, award_answer}
use Rattle.cca_cli.specs.Command.{award}
use Rattle.cca_cli.specs.Outcome.{Answer, AnswerGives, InputGives, Outcome, value}
use Rattle.cca_cli.specs.declared.price_form.PriceForm.{PriceForm}
use Rattle.cca_cli.specs.declared.status.FileKind.{FileKind}
use Rattle.cca_cli.specs.declared.status.FileKind.TheVariants as kinds
use Rattle.cca_cli.specs.declared.status.Status.TheVariants.{Done}
use Rattle.cca_commands.specs.Gives.{BookOfLogGives, EndGives, FilesGive, LogGives, PriceGives, ones}
use Rattle.cca_run.specs.Headline.{CanBeAwarded, FileHolds}
use Rattle.cca_run.proofs.HeadlineLaws.{award-never, award-states, has-book, has-value, log-never}
use Rattle.cca_run.proofs.LogBooks.{logged}
use Rattle.cca_run.proofs.Ones.{many-six}

-- a complete log whose closes no limit refuses leads to its book
end-is : (terms : Terms) (log : List Event) → first_refusal terms log ≡ None → IsTrue (is_complete terms log) → end_of terms log ≡ Ok (book_of_log terms log)
end-is terms log none complete =
    ap (λ (r : Option ReplayStop). stopped_or r (book_or_open terms log)) none ∙ ap (λ (b : Bool). if b then Ok (book_of_log terms log) else Err Open) complete

-- and one that leads to a book met no limit
never-refused : (terms : Terms) (log : List Event) (book : Book) → end_of terms log ≡ Ok book → first_refusal terms log ≡ None
never-refused terms log book is = by (first_refusal terms log) is
  where
    by : (r : Option ReplayStop) → stopped_or r (book_or_open terms log) ≡ Ok book → r ≡ None
    by None same = refl
    by (Some stop) same = absurd cc

-- an input whose bytes answer with a value goes on from it
goes-on :
    {V : Type 0} (kind : FileKind) (most : ℕ) (says : List ℕ → Answer V → Type 0) (content : Option (List ℕ)) (bytes : List ℕ) (v : V)
    (follows : V → Outcome → Type 0) (o : Outcome) → content ≡ Some bytes → length bytes ≤ most
    → ((a : Answer V) → says bytes a → a ≡ value v) → InputGives kind most says content follows o → (says bytes (value v)) × follows v o
goes-on {V} kind most says content bytes v follows o here short one gives = by (subst (λ (c : Option (List ℕ)). InputGives kind most says c follows o) here
    gives)
  where
    by : InputGives kind most says (Some bytes) follows o → (says bytes (value v)) × follows v o
    by (answer, answers, next) =
        let is = one answer (answers.text short) in
        (subst (λ (a : Answer V). says bytes a) is (answers.text short), subst (λ (a : Answer V). AnswerGives a follows o) is next)

-- the same file holds bytes of which both is so
both-hold : (file : List ℕ → Option (List ℕ)) (name : List ℕ) (first second : List ℕ → Type 0) (a : FileHolds file name first) → FileHolds file name second
    → second a.bytes
both-hold file name first second a b = let same : b.bytes ≡ a.bytes = (let one : Some b.bytes ≡ Some a.bytes = sym b.here ∙ a.here in cc) in
    subst second same b.said

-- what the laws of the crates below say
module _ (one_log_answer : (terms : Terms) (bytes : List ℕ) (x y : Answer (List Event)) → LogAnswers terms bytes x → LogAnswers terms bytes y → x ≡ y)
    (lawful_log : (terms : Terms) (rows : List (List (List ℕ))) (events : List Event) (book : Book) → IsAward terms → AreLog terms rows events
    → end_of terms (reverse events) ≡ Ok book → IsMarket (market_of book))
    (one_winning : (m : Market) (c d : List ℕ) → IsMarket m → IsWinning m c → IsWinning m d → c ≡ d) where
  -- prices of a book with few winners are done
  priced : (book : Book) (form : PriceForm) (o : Outcome) → IsMarket (market_of book)
      → ((z : List ℕ) → IsWinning (market_of book) z → winners_in z ≤ MOST_WINNERS) → PriceGives book (ones book) form o → o.status ≡ Done
  priced book form o market few (inl (c, text, is, told)) = ap (λ (x : Outcome). x.status) told
  priced book form o market few (inr (z, many, told)) =
      let more = many-six book z (market.lengths z many.winning.passed) many.many in
      let less = few z many.winning in
      absurd (omega (arith, more, less))

  -- an auction within the limits is awarded
  pub done-where : (file : List ℕ → Option (List ℕ)) (terms log cert : List ℕ) (form : PriceForm) (o : Outcome) → CanBeAwarded file terms log
      → FilesGive (award terms log cert form) file o → o.status ≡ Done
  done-where file terms log cert form o can gives =
      let t = can.terms in
      let a = can.auction.award_states in
      let l = can.auction.log_states in
      let events = can.lines in
      let first = goes-on kinds.Award AWARD_BYTES AwardAnswers (file terms) a.bytes t
      (λ t. LogGives t (file log) (λ events. BookOfLogGives t events (λ b. PriceGives b (ones b) form))) o a.here
      (both-hold file terms _ (λ bytes. length bytes ≤ AWARD_BYTES) a can.short_award) (λ x says. says.0 ∙ ap award_answer a.said) gives in
      let second = goes-on kinds.Log LOG_BYTES (LogAnswers t) (file log) l.bytes events (λ events. BookOfLogGives t events (λ b. PriceGives b (ones b) form))
      o l.here
      (both-hold file log _ (λ bytes. length bytes ≤ LOG_BYTES) l can.short_log) (λ x says. one_log_answer t l.bytes x (value events) says l.said) first.1 in
      let ends = end-is t (reverse events) can.never_limited can.auction.complete in
      let prices = subst (λ (e : Result Book ReplayStop). EndGives (length events) e (λ b. PriceGives b (ones b) form) o) ends second.1 in
      priced (book_of_log t (reverse events)) form o (lawful_log t (log_records l.bytes) events (book_of_log t (reverse events)) first.0.1 l.said ends)
      can.few prices

  -- and what is awarded is an auction within the limits
  pub only-where : (file : List ℕ → Option (List ℕ)) (terms log cert : List ℕ) (form : PriceForm) (o : Outcome) → FilesGive (award terms log cert form) file o
      → o.status ≡ Done → CanBeAwarded file terms log
  only-where file terms log cert form o gives ends =
      let a = has-value kinds.Award AWARD_BYTES AwardAnswers (file terms) (λ t. LogGives t (file log)
      (λ events. BookOfLogGives t events (λ b. PriceGives b (ones b) form))) o award-never gives ends in
      let l = has-value kinds.Log LOG_BYTES (LogAnswers a.of) (file log) (λ events. BookOfLogGives a.of events (λ b. PriceGives b (ones b) form)) o
      (log-never a.of) a.goes_on ends in
      let b = has-book (length l.of) (end_of a.of (reverse l.of)) (λ b. PriceGives b (ones b) form) o l.goes_on ends in
      let log_of = logged a.of (reverse l.of) b.0 b.1 in
      record {
        terms = a.of;
        lines = l.of;
        auction = record {
          award_states = record { bytes = a.bytes; here = a.here; said = award-states a.bytes a.of a.says_it };
          log_states = record { bytes = l.bytes; here = l.here; said = l.says_it };
          complete = log_of.complete;
        };
        short_award = record { bytes = a.bytes; here = a.here; said = a.short };
        short_log = record { bytes = l.bytes; here = l.here; said = l.short };
        never_limited = never-refused a.of (reverse l.of) b.0 b.1;
        few = subst (λ (k : Book). (z : List ℕ) → IsWinning (market_of k) z → winners_in z ≤ MOST_WINNERS) log_of.is
            (few-in b.0 (lawful_log a.of (log_records l.bytes) l.of b.0 a.says_it.1 l.says_it b.1) b.2);
      }
    where
      few-in : (book : Book) → IsMarket (market_of book) → PriceGives book (ones book) form o → (z : List ℕ) → IsWinning (market_of book) z
          → winners_in z ≤ MOST_WINNERS
      few-in book market (inl (c, text, is, told)) z wins = subst (λ (x : List ℕ). winners_in x ≤ MOST_WINNERS)
          (one_winning (market_of book) c.choice z market is.priced.winning wins) is.few.0
      few-in book market (inr (x, many, told)) z wins = let no = sym (ap (λ (x : Outcome). x.status) told) ∙ ends in absurd cc
