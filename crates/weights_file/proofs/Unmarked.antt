-- A reader whose stages exceed nothing reads the same, whatever an excess is.
use Rattle.std.proofs.Common.{◌≡◌, ℕ, Option, None, List, [], ◌∷◌, ◌++◌, length, drop, refl, sym, ap, ◌∙◌}
use Rattle.line_format.specs.LineText.{first_excess, text_of}
use Rattle.line_format.specs.Reading.{HaltsAt, Runs, SoFar}

abbrev none : {S O : Type 0} → S → Option O
none s = None

abbrev unmarked : {O P : Type 0} → List (List ℕ × Option O) → List (List ℕ × Option P)
unmarked [] = []
unmarked (m ∷ ms) = (m.0, None) ∷ unmarked ms

text_too : {O : Type 0} (P : Type 0) (ms : List (List ℕ × Option O)) → text_of (unmarked {O = O} {P = P} ms) ≡ text_of ms
text_too P [] = refl
text_too P (m ∷ ms) = ap (λ (l : List ℕ). m.0 ++ 10 ∷ l) (text_too P ms)

none_too : {O : Type 0} (P : Type 0) (ms : List (List ℕ × Option O)) → first_excess (unmarked {O = O} {P = P} ms) ≡ None
none_too P [] = refl
none_too P (m ∷ ms) = none_too P ms

runs_too : {S O : Type 0} (P : Type 0) (Step : S → List ℕ → S → Type 0) (s t : S) (ms : List (List ℕ × Option O)) → Runs {S = S} {O = O} Step none s ms t
    → Runs {S = S} {O = P} Step none s (unmarked ms) t
runs_too P Step s t [] run = run
runs_too P Step s t (m ∷ ms) run = (run.0, run.1, run.2, refl, runs_too P Step run.0 t ms run.4)

-- it is at the same stage before the same place
pub so_far_too : {S O P : Type 0} (Step : S → List ℕ → S → Type 0) (begin : S) (bytes : List ℕ) (place : ℕ) (s : S)
    → SoFar {S = S} {O = O} Step none begin bytes place s → SoFar {S = S} {O = P} Step none begin bytes place s
so_far_too Step begin bytes place s is = record {
  behind = unmarked is.behind;
  run = runs_too _ Step begin s is.behind is.run;
  within = none_too _ is.behind;
  split = is.split ∙ ap (λ (l : List ℕ). l ++ drop place bytes) (sym (text_too _ is.behind));
  here = ap length (text_too _ is.behind) ∙ is.here;
}

-- and halts at the same place
pub halts_too : {S V O P : Type 0} (Step : S → List ℕ → S → Type 0) (begin : S) (ended : V → S) (bytes : List ℕ) (place : ℕ)
    → HaltsAt {S = S} {O = O} Step none begin ended bytes place → HaltsAt {S = S} {O = P} Step none begin ended bytes place
halts_too Step begin ended bytes place halts = record {
  stage = halts.stage;
  so_far = so_far_too Step begin bytes place halts.stage halts.so_far;
  blocked = halts.blocked;
  open_end = halts.open_end;
}
