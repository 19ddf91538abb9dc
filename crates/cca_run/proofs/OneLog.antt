-- The bytes of an award, and of a log of an award, have one answer.
use Rattle.std.proofs.Common.{inl, inr, ◌≡◌, ◌∙◌, ℕ, List, sym, ap}
use Rattle.auction_rules.specs.Terms.{Terms}
use Rattle.auction_rules.specs.declared.Event.{Event}
use Rattle.log_file.specs.LogReading.{AreLog, AreTooMany, IsFirstFault, log_records}
use Rattle.cca_cli.specs.Answers.{AwardAnswers, LogAnswers, RecordsAnswer}
use Rattle.cca_cli.specs.Outcome.{Answer, stops, value}
use Rattle.cca_cli.specs.declared.status.FileKind.TheVariants.{Log}
use Rattle.cca_cli.specs.declared.status.Status.TheVariants.{Refused}

-- that of an award follows from the one reading of its bytes
pub one_award-answer : (bytes : List ℕ) (a b : Answer Terms) → AwardAnswers bytes a → AwardAnswers bytes b → a ≡ b
one_award-answer bytes a b x y = x.0 ∙ sym y.0

-- what the laws of logs say
module _ (one_log : (terms : Terms) (rows : List (List (List ℕ))) (events others : List Event) → AreLog terms rows events → AreLog terms rows others
    → events ≡ others)
    (one_fault : (terms : Terms) (rows : List (List (List ℕ))) (m n : ℕ) → IsFirstFault terms rows m → IsFirstFault terms rows n → m ≡ n)
    (no_fault : (terms : Terms) (rows : List (List (List ℕ))) (events : List Event) (n : ℕ) → AreLog terms rows events → IsFirstFault terms rows n → ⊥)
    (not_many : (terms : Terms) (rows : List (List (List ℕ))) (events : List Event) → AreLog terms rows events → AreTooMany terms rows → ⊥)
    (few_before : (terms : Terms) (rows : List (List (List ℕ))) (n : ℕ) → IsFirstFault terms rows n → AreTooMany terms rows → ⊥) where
  -- that of records
  one-records : (terms : Terms) (rows : List (List (List ℕ))) (a b : Answer (List Event)) → RecordsAnswer terms rows a → RecordsAnswer terms rows b → a ≡ b
  one-records terms rows (value events) (value others) x y = ap value (one_log terms rows events others x y)
  one-records terms rows (value events) (stops s) x (inl y) = absurd (no_fault terms rows events y.0 x y.1)
  one-records terms rows (value events) (stops s) x (inr y) = absurd (not_many terms rows events x y.0)
  one-records terms rows (stops s) (value events) (inl x) y = absurd (no_fault terms rows events x.0 y x.1)
  one-records terms rows (stops s) (value events) (inr x) y = absurd (not_many terms rows events y x.0)
  one-records terms rows (stops s) (stops t) (inl x) (inl y) = ap stops (x.2 ∙ ap (λ (n : ℕ). Refused Log n 0) (one_fault terms rows x.0 y.0 x.1 y.1) ∙ sym y.2)
  one-records terms rows (stops s) (stops t) (inl x) (inr y) = absurd (few_before terms rows x.0 x.1 y.0)
  one-records terms rows (stops s) (stops t) (inr x) (inl y) = absurd (few_before terms rows y.0 y.1 x.0)
  one-records terms rows (stops s) (stops t) (inr x) (inr y) = ap stops (x.1 ∙ sym y.1)

  -- that of a log
  pub one_log-answer : (terms : Terms) (bytes : List ℕ) (a b : Answer (List Event)) → LogAnswers terms bytes a → LogAnswers terms bytes b → a ≡ b
  one_log-answer terms bytes a b x y = one-records terms (log_records bytes) a b x y
