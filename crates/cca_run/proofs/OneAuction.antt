-- The bytes of an award and of its log give one outcome of an auction.
use Rattle.std.proofs.Common.{◌≡◌, ◌∙◌, ℕ, Option, List, [], ◌∷◌, sym, ap}
use Rattle.std.specs.Prelude.{Result, Ok, Err}
use Rattle.limits.specs.declared.TheConstants.{AWARD_BYTES, LOG_BYTES}
use Rattle.line_format.specs.LineText.{Says, stated}
use Rattle.auction_model.specs.Book.{Book}
use Rattle.auction_rules.specs.Terms.{Terms}
use Rattle.auction_rules.specs.declared.Event.{Event}
use Rattle.book_grammar.specs.BookForm.{IsBook}
use Rattle.book_grammar.specs.BookLines.{book_lines}
use Rattle.log_replay.specs.declared.results.ReplayStop.{ReplayStop}
use Rattle.cca_cli.specs.Answers.{AwardAnswers, LogAnswers}
use Rattle.cca_cli.specs.Command.{auction, contents_of}
use Rattle.cca_cli.specs.Outcome.{Answer, Outcome, done}
use Rattle.cca_cli.specs.declared.status.FileKind.TheVariants.{Award, Log}
use Rattle.cca_commands.specs.Gives.{AuctionGives, FilesGive, LogGives, RepliesGive, book_file}
use Rattle.cca_run.proofs.OneLog.{one_award-answer}
use Rattle.cca_run.proofs.Same.{two-inputs}

-- what the laws of the crates below say
module _ (one_log_answer : (terms : Terms) (bytes : List ℕ) (x y : Answer (List Event)) → LogAnswers terms bytes x → LogAnswers terms bytes y → x ≡ y)
    (one_text : (bytes other : List ℕ) (book : Book) → Says IsBook book_lines bytes (stated book) → Says IsBook book_lines other (stated book) → bytes ≡ other) where
  -- what a log leads to gives one outcome
  one-replies : (records : ℕ) (replies : List ℕ) (end : Result Book ReplayStop) (o p : Outcome) → RepliesGive records replies end o
      → RepliesGive records replies end p → o ≡ p
  one-replies records replies (Ok book) o p x y = x.2 ∙ ap (λ (t : List ℕ). done replies (book_file t ∷ [])) (one_text x.0 y.0 book x.1 y.1) ∙ sym y.2
  one-replies records replies (Err stop) o p x y = x ∙ sym y

  -- the files do
  pub one-auction : (award log book : List ℕ) (file : List ℕ → Option (List ℕ)) (o p : Outcome) → FilesGive (auction award log book) file o
      → FilesGive (auction award log book) file p → o ≡ p
  one-auction award log book file o p x y =
      let contents = contents_of (auction award log book) file in
      two-inputs Award AWARD_BYTES AwardAnswers (λ terms. LogGives terms (contents Log) (AuctionGives terms)) (λ terms. LogGives terms (contents Log)
      (AuctionGives terms))
      (contents Award) o p (o ≡ p) one_award-answer (λ s a b. a ∙ sym b)
      (λ terms bytes says a b. two-inputs Log LOG_BYTES (LogAnswers terms) (AuctionGives terms) (AuctionGives terms) (contents Log) o p (o ≡ p)
      (one_log_answer terms)
      (λ s a b. a ∙ sym b) (λ events of told g h. one-replies _ _ _ o p g h) a b) x y
