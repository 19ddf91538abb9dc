-- For every complete log `award` is done, or a limit stops it.
use Rattle.std.proofs.Common.{◌≡◌, ◌∙◌, ℕ, Bool, IsTrue, Option, Some, None, List, [], ◌∷◌, length, refl, sym, ap, subst, inl, inr}
use Rattle.std.specs.Prelude.{◌+◌, Result, Ok, Err, reverse, if◌then◌else◌}
use Rattle.std.specs.Option.{option_or}
use Rattle.std.proofs.lemmas.Bool.{cases_lt}
use Rattle.auction_model.specs.Book.{Book}
use Rattle.auction_rules.specs.BookOfLog.{book_of_log, is_complete}
use Rattle.auction_rules.specs.Replies.{reply_to}
use Rattle.auction_rules.specs.Terms.{Terms}
use Rattle.auction_rules.specs.declared.Event.{Event}
use Rattle.auction_rules.specs.declared.Event.TheVariants.{Bid, Close, Draft, Drop, Submit}
use Rattle.auction_rules.specs.declared.Reply.{Reply}
use Rattle.auction_rules.specs.declared.Reply.TheVariants as reply
use Rattle.log_replay.specs.ReplyLines.{book_or_open, end_of, first_refusal, refusal_of, stopped_or}
use Rattle.log_replay.specs.declared.results.ReplayStop.{ReplayStop}
use Rattle.log_replay.specs.declared.results.ReplayStop.TheVariants.{Open, Price, Rounds}
use Rattle.limits.specs.declared.LimitKind.TheVariants.{Bytes}
use Rattle.limits.specs.declared.TheConstants.{AWARD_BYTES, LOG_BYTES}
use Rattle.cca_cli.specs.Answers.{AwardAnswers, LogAnswers, award_answer}
use Rattle.cca_cli.specs.Command.{award}
use Rattle.cca_cli.specs.Outcome.{Answer, AnswerGives, InputGives, Outcome, stopped, value}
use Rattle.cca_cli.specs.declared.price_form.PriceForm.{PriceForm}
use Rattle.cca_cli.specs.declared.status.FileKind.{FileKind}
use Rattle.cca_cli.specs.declared.status.FileKind.TheVariants as kinds
use Rattle.cca_cli.specs.declared.status.Status.TheVariants.{Limit}
use Rattle.cca_commands.specs.Gives.{BookOfLogGives, EndGives, FilesGive, LogGives, PriceGives, ones}
use Rattle.cca_run.specs.Headline.{IsAuction, IsDoneOrLimited}

-- an outcome that is reported to be this has its status
told-as : (o p : Outcome) → IsDoneOrLimited p.status → o ≡ p → IsDoneOrLimited o.status
told-as o p ends is = subst (λ (x : Outcome). IsDoneOrLimited x.status) (sym is) ends

-- no refusal says that the log isn't complete
not-open : (line : Event) (r : Reply) → refusal_of line r ≡ Some Open → ⊥
not-open Close reply.Ok is = cc
not-open Close reply.Stage is = cc
not-open Close reply.Unknown is = cc
not-open Close (reply.Supply category) is = cc
not-open Close (reply.SpectrumCap number limit) is = cc
not-open Close (reply.Points points) is = cc
not-open Close reply.Empty is = cc
not-open Close (reply.BelowReserve amount) is = cc
not-open Close (reply.BelowClock amount) is = cc
not-open Close reply.NoDraft is = cc
not-open Close (reply.RelativeCap entry limit) is = cc
not-open Close (reply.Full count) is = cc
not-open Close (reply.AmountTop amount) is = cc
not-open Close (reply.PriceTop category price) is = cc
not-open Close reply.Memory is = cc
not-open (Bid bidder lots) r is = cc
not-open (Draft bidder lots amount) r is = cc
not-open (Drop bidder lots) r is = cc
not-open (Submit bidder) r is = cc

never-open : (terms : Terms) (log : List Event) → first_refusal terms log ≡ Some Open → ⊥
never-open terms [] is = cc
never-open terms (line ∷ log) is = by (first_refusal terms log) (never-open terms log) is
  where
    by : (r : Option ReplayStop) → (r ≡ Some Open → ⊥) → option_or r (refusal_of line (reply_to terms log line)) ≡ Some Open → ⊥
    by None before same = not-open line (reply_to terms log line) same
    by (Some stop) before same = before same

-- what a complete log leads to is its book or a limit
module _ (prices : Book → Outcome → Type 0) (priced : (book : Book) (o : Outcome) → prices book o → IsDoneOrLimited o.status) (records : ℕ) (o : Outcome) where
  stopped-at : (why : ReplayStop) → (why ≡ Open → ⊥) → EndGives records (Err why) prices o → IsDoneOrLimited o.status
  stopped-at (Rounds count) closed gives = told-as o _ tt gives
  stopped-at (Price price) closed gives = told-as o _ tt gives
  stopped-at Open closed gives = absurd (closed refl)

  ended : (terms : Terms) (log : List Event) → IsTrue (is_complete terms log) → EndGives records (end_of terms log) prices o → IsDoneOrLimited o.status
  ended terms log complete gives = by (first_refusal terms log) refl gives
    where
      whole : book_or_open terms log ≡ Ok (book_of_log terms log)
      whole = ap (λ (b : Bool). if b then Ok (book_of_log terms log) else Err Open) complete

      by : (r : Option ReplayStop) → first_refusal terms log ≡ r → EndGives records (stopped_or r (book_or_open terms log)) prices o → IsDoneOrLimited o.status
      by None none given = priced (book_of_log terms log) o (subst (λ (e : Result Book ReplayStop). EndGives records e prices o) whole given)
      by (Some stop) some given = stopped-at stop (λ same. never-open terms log (some ∙ ap Some same)) given

-- an input whose bytes answer with one value is too long, or goes on from it
reads-on :
    {V : Type 0} (kind : FileKind) (most : ℕ) (says : List ℕ → Answer V → Type 0) (content : Option (List ℕ)) (bytes : List ℕ) (v : V)
    (follows : V → Outcome → Type 0) (o : Outcome) → content ≡ Some bytes
    → ((a : Answer V) → says bytes a → a ≡ value v) → (follows v o → IsDoneOrLimited o.status) → InputGives kind most says content follows o
    → IsDoneOrLimited o.status
reads-on {V} kind most says content bytes v follows o here one next gives = by (subst (λ (c : Option (List ℕ)). InputGives kind most says c follows o) here
    gives)
  where
    by : InputGives kind most says (Some bytes) follows o → IsDoneOrLimited o.status
    by (answer, answers, given) =
        elim (cases_lt most (length bytes)) [
          | inl over ↦ told-as o (stopped (Limit Bytes (most + 1))) tt (subst (λ (a : Answer V). AnswerGives a follows o) (answers.long over) given)
          | inr short ↦ next (subst (λ (a : Answer V). AnswerGives a follows o) (one answer (answers.text short)) given)
        ]

-- prices are done, or more win than can be priced
prices-end : (form : PriceForm) (book : Book) (o : Outcome) → PriceGives book (ones book) form o → IsDoneOrLimited o.status
prices-end form book o (inl (c, text, is, told)) = told-as o _ tt told
prices-end form book o (inr (z, many, told)) = told-as o _ tt told

-- by the law that the bytes of a log say one thing
pub complete-ends : ((terms : Terms) (bytes : List ℕ) (x y : Answer (List Event)) → LogAnswers terms bytes x → LogAnswers terms bytes y → x ≡ y)
    → (file : List ℕ → Option (List ℕ)) (terms log cert : List ℕ) (form : PriceForm) (t : Terms) (lines : List Event) (o : Outcome)
    → IsAuction file terms log t lines
    → FilesGive (award terms log cert form) file o → IsDoneOrLimited o.status
complete-ends one_log file terms log cert form t lines o auction gives =
    let a = auction.award_states in
    let l = auction.log_states in
    reads-on kinds.Award AWARD_BYTES AwardAnswers (file terms) a.bytes t (λ t. LogGives t (file log)
    (λ events. BookOfLogGives t events (λ b. PriceGives b (ones b) form))) o a.here
    (λ x says. says.0 ∙ ap award_answer a.said)
    (λ first. reads-on kinds.Log LOG_BYTES (LogAnswers t) (file log) l.bytes lines (λ events. BookOfLogGives t events (λ b. PriceGives b (ones b) form)) o
    l.here
    (λ x says. one_log t l.bytes x (value lines) says l.said)
    (λ second. ended (λ b. PriceGives b (ones b) form) (prices-end form) (length lines) o t (reverse lines) auction.complete second) first) gives
