-- The stages read the form of a file of weights.
use Rattle.std.proofs.Common.{List, None, [], ap, append_assoc, arith, get_or, inl, inr, length, length-append, refl, replicate, subst, suc, sym}
use Rattle.std.proofs.Common.{take, zero, ℕ, ◌++◌, ◌+◌, ◌-◌, ◌<◌, ◌∙◌, ◌∷◌, ◌≡◌, ◌≤◌}
use Rattle.std.specs.Prelude.{codes}
use Rattle.std.specs.List.{AllByRecursion}
use Rattle.std.proofs.lemmas.List.{append-nil, take_at, take_all, length-replicate}
use Rattle.line_format.specs.Reading.{Runs}
use Rattle.line_format.proofs.Runs.{FrontOf, Reads, front_reached, runs_append}
use Rattle.auction_model.specs.Book.{Bidder, Book, bidder_of, no_bidder}
use Rattle.auction_model.specs.Prices.{AreWeights}
use Rattle.book_grammar.specs.BookForm.{IsBook, IsName}
use Rattle.weights_file.specs.declared.read.Stage.{Stage}
use Rattle.weights_file.specs.declared.read.Stage.TheVariants.{Start, Listing, Ended}
use Rattle.weights_file.specs.WeightsForm.{IsWeight, Line, weight_line, weight_lines, lines}
use Rattle.weights_file.specs.Stages.{Step, Weighs, excess}
use Rattle.weights_file.proofs.Lines.{end_word, first_word, names, next_is, weight_feeds, weight_more, weight_one}

abbrev pub begin : Stage
begin = Start

abbrev pub finish : List ℕ → Stage
finish weights = Ended weights

-- weights of 1 to 20, told one by one
all_weights : (ws : List ℕ) → ((k : ℕ) → k < length ws → 1 ≤ get_or ws k 0) → ((k : ℕ) → k < length ws → get_or ws k 0 ≤ 20) → AllByRecursion IsWeight ws
all_weights [] some most = tt
all_weights (w ∷ ws) some most = (
  (some 0 (omega arith), most 0 (omega arith)),
  all_weights ws (λ k lt. some (suc k) (omega (arith, lt)))
      (λ k lt. most (suc k) (omega (arith, lt))),
)

weight_at : (ws : List ℕ) → AllByRecursion IsWeight ws → (k : ℕ) → k < length ws → IsWeight (get_or ws k 0)
weight_at [] all k lt = absurd (omega arith)
weight_at (w ∷ ws) all zero lt = all.0
weight_at (w ∷ ws) all (suc k) lt = weight_at ws all.1 k (omega arith)

are_weights : (n : ℕ) (ws : List ℕ) → length ws ≡ n → AllByRecursion IsWeight ws → AreWeights n ws
are_weights n ws long all = record {
  long = long;
  some = λ k lt. (weight_at ws all k (omega (arith, lt, long))).0;
  most = λ k lt. (weight_at ws all k (omega (arith, lt, long))).1;
}

all_append : (xs ys : List ℕ) → AllByRecursion IsWeight xs → AllByRecursion IsWeight ys → AllByRecursion IsWeight (xs ++ ys)
all_append [] ys x y = y
all_append (a ∷ xs) ys x y = (x.0, all_append xs ys x.1 y)

all_ones : (n : ℕ) → AllByRecursion IsWeight (replicate n 1)
all_ones zero = tt
all_ones (suc n) = ((omega arith, omega arith), all_ones n)

-- if a bidder has no weight yet, the next line is its
pub weighs-next : (book : Book) (given line : List ℕ) (t : Stage) → length given < length book.bidders → Step book (Listing given) line t
    → Weighs book given line t
weighs-next book given line t lt (inl step) = step
weighs-next book given line t lt (inr step) = absurd (omega (arith, lt, step.0))

-- the lines of the first weights are the first lines
lines_append : (bidders : List Bidder) (xs ys : List ℕ) → length xs ≤ length bidders → (more : List Line)
    × (weight_lines bidders (xs ++ ys) ≡ weight_lines bidders xs ++ more)
lines_append bidders [] ys few = (weight_lines bidders ys, refl)
lines_append [] (x ∷ xs) ys few = absurd (omega arith)
lines_append (b ∷ bidders) (x ∷ xs) ys few =
    let rest = lines_append bidders xs ys (omega arith) in (rest.0, ap (λ (r : List Line). weight_line b.name x ∷ r) rest.1)

at-front : (front : List Bidder) (b : Bidder) (back : List Bidder) → get_or (front ++ b ∷ back) (length front) no_bidder ≡ b
at-front [] b back = refl
at-front (x ∷ front) b back = at-front front b back

module _ (book : Book) (rules : IsBook book) where
  -- the lines that a stage has after it
  abbrev behind : Stage → List Line
  behind Start = []
  behind (Listing given) = (codes "weights 1", None) ∷ weight_lines book.bidders given
  behind (Ended given) = lines book given

  abbrev pub IsSound : Stage → Type 0
  IsSound Start = Unit {0}
  IsSound (Listing given) = (length given ≤ length book.bidders) × AllByRecursion IsWeight given
  IsSound (Ended given) = (length given ≡ length book.bidders) × AllByRecursion IsWeight given

  -- a step keeps a stage sound, and its line comes after the next stage
  step_behind : (s t : Stage) (l : List ℕ) → IsSound s → Step book s l t → IsSound t × (behind t ≡ behind s ++ (l, None) ∷ [])
  step_behind s t l = by_stage s
    where
      F : List Line → List ℕ → Stage → Type 0
      F before line u = IsSound u × (behind u ≡ before ++ (line, None) ∷ [])

      move : (before : List Line) (line : List ℕ) (u : Stage) → l ≡ line → t ≡ u → F before line u → F before l t
      move before line u line_is stage_is here = subst (λ (v : Stage). F before l v) (sym stage_is) (subst (λ (m : List ℕ). F before m u) (sym line_is) here)

      weighed : (given : List ℕ) (w : ℕ) → length given < length book.bidders
          → behind (Listing (given ++ w ∷ [])) ≡ behind (Listing given) ++ ((weight_line (bidder_of book (length given + 1)).name w).0, None) ∷ []
      weighed given w lt =
          ap (λ (r : List Line). (codes "weights 1", None) ∷ r)
          (weight_more book.bidders given w lt ∙ ap (λ (b : Bidder). weight_lines book.bidders given ++ weight_line b.name w ∷ []) (sym (next_is book given)))

      by_stage : (s : Stage) → IsSound s → Step book s l t → F (behind s) l t
      by_stage Start sound step = move [] (codes "weights 1") (Listing []) step.0 step.1 ((omega arith, tt), refl)
      by_stage (Listing given) sound (inl step) =
          move (behind (Listing given)) (weight_line (bidder_of book (length given + 1)).name step.1.0).0 (Listing (given ++ step.1.0 ∷ [])) step.1.2 step.1.3
          ((omega (arith, step.0, length-append given (step.1.0 ∷ [])), all_append given (step.1.0 ∷ []) sound.1 (step.1.1, tt)), weighed given step.1.0 step.0)
      by_stage (Listing given) sound (inr step) = move (behind (Listing given)) (codes "end") (Ended given) step.1 step.2
          ((omega (arith, step.0, sound.0), sound.1), refl)
      by_stage (Ended given) sound step = absurd step

  all_one : AreWeights (length book.bidders) (replicate (length book.bidders) 1)
  all_one = are_weights _ _ (length-replicate {A = ℕ} (length book.bidders) 1) (all_ones (length book.bidders))

  abbrev filled : List ℕ → List ℕ
  filled given = given ++ replicate (length book.bidders - length given) 1

  front_of : (s : Stage) → IsSound s → FrontOf (AreWeights (length book.bidders)) (lines book) (behind s)
  front_of Start sound = record { value = replicate (length book.bidders) 1; count = 0; valid = all_one; same = refl }
  front_of (Listing given) sound =
      let more = lines_append book.bidders given (replicate (length book.bidders - length given) 1) sound.0 in
      let whole : lines book (filled given) ≡ behind (Listing given) ++ (more.0 ++ (codes "end", None) ∷ []) =
      ap (λ (r : List Line). (codes "weights 1", None) ∷ (r ++ (codes "end", None) ∷ [])) more.1
      ∙ ap (λ (r : List Line). (codes "weights 1", None) ∷ r) (append_assoc (weight_lines book.bidders given) more.0 ((codes "end", None) ∷ [])) in
      record {
        value = filled given;
        count = length (behind (Listing given));
        valid = are_weights _ _ (length-append given (replicate (length book.bidders - length given) 1)
            ∙ omega (arith, sound.0, length-replicate {A = ℕ} (length book.bidders - length given) 1))
            (all_append given (replicate (length book.bidders - length given) 1) sound.1 (all_ones (length book.bidders - length given)));
        same = ap (take (length (behind (Listing given)))) whole ∙ take_at (behind (Listing given)) (more.0 ++ (codes "end", None) ∷ []) _ refl;
      }
  front_of (Ended given) sound = record {
    value = given;
    count = length (lines book given);
    valid = are_weights _ _ sound.0 sound.1;
    same = take_all (length (lines book given)) (lines book given) (omega arith);
  }

  -- the stages go over the lines of weights
  weighs_run : (front back : List Bidder) (had ws : List ℕ) → front ++ back ≡ book.bidders → AllByRecursion (λ b. IsName b.name) back
      → length had ≡ length front → length ws ≡ length back
      → AllByRecursion IsWeight ws → Runs (Step book) excess (Listing had) (weight_lines back ws) (Listing (had ++ ws))
  weighs_run front back had [] whole named long rest all = ap Listing (sym (append-nil had))
  weighs_run front [] had (w ∷ ws) whole named long rest all = absurd (omega (arith, rest))
  weighs_run front (b ∷ back) had (w ∷ ws) whole named long rest all =
      let here : bidder_of book (length had + 1) ≡ b =
      next_is book had ∙ (let e = long in rw e (ap (λ (l : List Bidder). get_or l (length front) no_bidder) (sym whole) ∙ at-front front b back)) in
      let inside : length had < length book.bidders = omega (arith, long, ap length whole, length-append front (b ∷ back)) in
      let more = weighs_run (front ++ b ∷ []) back (had ++ w ∷ []) ws (append_assoc front (b ∷ []) back ∙ whole) named.1
      (omega (arith, long, length-append had (w ∷ []), length-append front (b ∷ []))) (omega (arith, rest)) all.1 in (
        Listing (had ++ w ∷ []),
        weight_feeds b.name w named.0 all.0,
        inl (inside, (w, all.0, ap (λ (x : Bidder). (weight_line x.name w).0) (sym here), refl)),
        refl,
        subst (λ (r : List ℕ). Runs (Step book) excess (Listing (had ++ w ∷ [])) (weight_lines back ws) (Listing r)) (append_assoc had (w ∷ []) ws) more,
      )

  complete : (weights : List ℕ) → AreWeights (length book.bidders) weights → Runs (Step book) excess begin (lines book weights) (finish weights)
  complete weights valid =
      let all = all_weights weights (λ k lt. valid.some k (omega (arith, lt, valid.long))) (λ k lt. valid.most k (omega (arith, lt, valid.long))) in
      let body = weighs_run [] book.bidders [] weights refl (names book.supply book.reserves [] book.bidders rules.bidders) refl valid.long all in
      let last : Runs (Step book) excess (Listing weights) ((codes "end", None) ∷ []) (finish weights) =
      (finish weights, end_word, inr (omega (arith, valid.long), refl, refl), refl, refl) in (
        Listing [],
        first_word,
        (refl, refl),
        refl,
        runs_append (Step book) excess (Listing []) (Listing weights) (finish weights) (weight_lines book.bidders weights) ((codes "end", None) ∷ []) body last,
      )

  one_weight : (given l : List ℕ) (t u : Stage) → Weighs book given l t → Weighs book given l u → t ≡ u
  one_weight given l t u a b =
      a.1.3 ∙ ap (λ (w : ℕ). Listing (given ++ w ∷ [])) (weight_one (bidder_of book (length given + 1)).name a.1.0 b.1.0 a.1.1 b.1.1 (sym a.1.2 ∙ b.1.2))
      ∙ sym b.1.3

  one_step : (s t u : Stage) (l : List ℕ) → IsSound s → Step book s l t → Step book s l u → t ≡ u
  one_step s t u l = by_stage s
    where
      by_stage : (s : Stage) → IsSound s → Step book s l t → Step book s l u → t ≡ u
      by_stage Start sound a b = a.1 ∙ sym b.1
      by_stage (Listing given) sound (inl a) (inl b) = one_weight given l t u a b
      by_stage (Listing given) sound (inl a) (inr b) = absurd (omega (arith, a.0, b.0))
      by_stage (Listing given) sound (inr a) (inl b) = absurd (omega (arith, a.0, b.0))
      by_stage (Listing given) sound (inr a) (inr b) = a.2 ∙ sym b.2
      by_stage (Ended given) sound a b = absurd a

  one_value : (v w : List ℕ) → finish v ≡ finish w → v ≡ w
  one_value v w is = cc

  -- the stages read the form of a file of weights
  pub reads : Reads IsSound (Step book) excess begin finish (AreWeights (length book.bidders)) (lines book)
  reads = record {
    complete = complete;
    sound = front_reached IsSound (Step book) excess behind (AreWeights (length book.bidders)) (lines book) step_behind front_of begin tt refl;
    begins = tt;
    keeps = λ s t l sound step. (step_behind s t l sound step).0;
    one_step = one_step;
    closed = λ v l t step. step;
    one_value = one_value;
  }
