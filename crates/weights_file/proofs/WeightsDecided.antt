-- Whether a line of weights leads on is known at each stage.
use Rattle.std.proofs.Common.{inl, inr, ◌≡◌, ℕ, ◌+◌, ◌≤◌, List, [], ◌∷◌, ◌++◌, length, refl}
use Rattle.std.specs.Prelude.{codes}
use Rattle.auction_model.specs.Book.{Book, bidder_of}
use Rattle.book_grammar.specs.BookForm.{IsBook}
use Rattle.limits.specs.declared.TheConstants.{MOST_WEIGHT}
use Rattle.line_format.proofs.Decided.{Decided, decided_as, decided_both, decided_le, decided_lt, decided_same, some_below}
use Rattle.weights_file.specs.WeightsForm.{weight_line}
use Rattle.weights_file.specs.Stages.{Ends, Step, Weighs}
use Rattle.weights_file.specs.declared.read.Stage.{Stage}
use Rattle.weights_file.specs.declared.read.Stage.TheVariants.{Start, Listing, Ended}
use Rattle.weights_file.proofs.Reading.{IsSound, finish}

-- that a line gives the bidder of a name a weight
weight_known : (name line : List ℕ) → Decided ((w : ℕ) × (w ≤ MOST_WEIGHT) × ((1 ≤ w) × (line ≡ (weight_line name w).0)))
weight_known name line = some_below MOST_WEIGHT (λ w. (1 ≤ w) × (line ≡ (weight_line name w).0))
    (λ w. decided_both (decided_le 1 w) (decided_same line (weight_line name w).0))

weighs_known : (book : Book) (given line : List ℕ) → Decided ((t : Stage) × Weighs book given line t)
weighs_known book given line =
    decided_as (decided_both (decided_lt (length given) (length book.bidders)) (weight_known (bidder_of book (length given + 1)).name line))
    (λ both. (Listing (given ++ both.1.0 ∷ []), (both.0, (both.1.0, (both.1.2.0, both.1.1), both.1.2.1, refl))))
    (λ found. (found.1.0, (found.1.1.0, found.1.1.1.1, (found.1.1.1.0, found.1.1.2))))

ends_known : (book : Book) (given line : List ℕ) → Decided ((t : Stage) × Ends book given line t)
ends_known book given line =
    decided_as (decided_both (decided_le (length book.bidders) (length given)) (decided_same line (codes "end")))
    (λ both. (Ended given, (both.0, both.1, refl))) (λ found. (found.1.0, found.1.1))

module _ (book : Book) (rules : IsBook book) where
  -- whether a line leads on from a stage
  pub leads : (s : Stage) (l : List ℕ) → IsSound book rules s → Decided ((t : Stage) × Step book s l t)
  leads Start l sound = decided_as (decided_same l (codes "weights 1")) (λ is. (Listing [], (is, refl))) (λ found. found.1.0)
  leads (Listing given) l sound = by (weighs_known book given l) (ends_known book given l)
    where
      neither : ((t : Stage) × Weighs book given l t → ⊥) → ((t : Stage) × Ends book given l t → ⊥) → (t : Stage) → Step book (Listing given) l t → ⊥
      neither weight end t (inl step) = weight (t, step)
      neither weight end t (inr step) = end (t, step)

      by : Decided ((t : Stage) × Weighs book given l t) → Decided ((t : Stage) × Ends book given l t) → Decided ((t : Stage) × Step book (Listing given) l t)
      by (inl (t, step)) end = inl (t, inl step)
      by (inr weight) (inl (t, step)) = inl (t, inr step)
      by (inr weight) (inr end) = inr (λ found. neither weight end found.0 found.1)
  leads (Ended given) l sound = inr (λ found. found.1)

-- whether it is the end of weights
pub ends : (s : Stage) → Decided ((weights : List ℕ) × (s ≡ finish weights))
ends Start = inr (λ found. absurd (cc found.1))
ends (Listing given) = inr (λ found. absurd (cc found.1))
ends (Ended given) = inl (given, refl)
