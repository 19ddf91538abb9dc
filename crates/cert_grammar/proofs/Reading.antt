-- What a reader of a text by a plan gets of each line.
use Rattle.std.proofs.Common.{Bool, List, None, Option, Some, [], ap, arith, cond, drop, false, length, length-take, refl, subst, sym, take, true, ℕ}
use Rattle.std.proofs.Common.{◌++◌, ◌+◌, ◌<◌, ◌∙◌, ◌∷◌, ◌≡◌}
use Rattle.line_format.specs.LineText.{IsLine, IsTextOf, FaultAt, Exceeds}
use Rattle.line_format.specs.Reading.{SoFar}
use Rattle.line_format.proofs.Runs.{nothing_yet, line_taken, line_exceeds, line_refused, line_missing, all_read}
use Rattle.cert_grammar.specs.Plan.{Follows, Stage, StepTo, excess, begin, finish, mark, next_place, end_place, last_mark}
use Rattle.cert_grammar.specs.Lines.{Line, Kind, Fits, after, spell, over, cert_plan, lines}
use Rattle.cert_grammar.specs.Reading.{Fine, Reached, ReachedBy}
use Rattle.cert_grammar.proofs.CertReads.{plan_reads, fine_cert}

end_more : (p : ℕ) (items : List Line) (l : Line) → end_place spell over p (items ++ l ∷ []) ≡ next_place spell over (end_place spell over p items) l
end_more p [] l = refl
end_more p (i ∷ items) l = end_more (next_place spell over p i) items l

last_more : (p : ℕ) (before : Option ℕ) (items : List Line) (l : Line) → last_mark spell over p before (items ++ l ∷ []) ≡ mark spell over
    (end_place spell over p items) l
last_more p before [] l = refl
last_more p before (i ∷ items) l = last_more (next_place spell over p i) (mark spell over p i) items l

-- the plan of a stage can be gone on with
abbrev Sound : Stage Kind Line → Type 0
Sound t = Fine t.plan

module _ {whole : List Kind} (bytes : List ℕ) where
  -- at place 0 no line is read, and the whole plan is to come
  pub reached-first : Fine whole → ReachedBy whole bytes 0 whole []
  reached-first fine = record {
    fine = fine;
    so_far = nothing_yet Sound (StepTo Fits after spell over) excess (begin whole) (finish spell over)
        (Follows Fits after whole) lines (plan_reads whole fine) bytes;
    place_is = refl;
    mark_is = refl;
  }

  module _ (place : ℕ) (k : Kind) (plan : List Kind) (items : List Line) (here : ReachedBy whole bytes place (k ∷ plan) items) where
    abbrev stage : Stage Kind Line
    stage = record { plan = k ∷ plan; items = items; place = place; over = None }

    -- no line is left
    pub reached-missing : IsLine (drop place bytes) → FaultAt (Follows Fits after whole) lines bytes place
    reached-missing none = line_missing Sound (StepTo Fits after spell over) excess (begin whole) (finish spell over) (Follows Fits after whole) lines
        (plan_reads whole here.fine) bytes place stage here.so_far none (λ v e. absurd (not_empty (ap (λ (t : Stage Kind Line). t.plan) e)))
      where
        not_empty : k ∷ plan ≡ [] → ⊥
        not_empty e = cc

    module _ (n : ℕ) (is_line : IsLine (take n (drop place bytes))) (feed : drop n (drop place bytes) ≡ 10 ∷ drop (n + 1) (drop place bytes)) where
      abbrev after_line : Line → Stage Kind Line
      after_line l = record { plan = after k l ++ plan; items = items ++ l ∷ []; place = next_place spell over place l; over = mark spell over place l }

      step : (l : Line) → Fits k l → take n (drop place bytes) ≡ spell l → StepTo Fits after spell over stage (take n (drop place bytes)) (after_line l)
      step l fits spelled = record { kind = k; rest = plan; item = l; first = refl; fits = fits; spelled = spelled; next = refl }

      -- the line is one of its kind, and in range
      pub reached-next : (l : Line) → Fits k l → take n (drop place bytes) ≡ spell l → over l ≡ false → n < length (drop place bytes)
          → ReachedBy whole bytes (place + (n + 1)) (after k l ++ plan) (items ++ l ∷ [])
      reached-next l fits spelled within lt =
          let unmarked : mark spell over place l ≡ None = ap (λ (o : Bool). cond o (Some place) None) within in
          let long : length (spell l) ≡ n = sym (ap length spelled) ∙ omega (arith, length-take n (drop place bytes), lt) in
          let moved : next_place spell over place l ≡ place + (n + 1) = ap (λ (x : ℕ). place + (x + 1)) long in
          let taken = line_taken Sound (StepTo Fits after spell over) excess (begin whole) (finish spell over) (Follows Fits after whole) lines
          (plan_reads whole here.fine) bytes place stage here.so_far n is_line feed (after_line l) (step l fits spelled) unmarked lt in
          record {
            fine = here.fine;
            so_far = subst (λ (o : Option ℕ). SoFar (StepTo Fits after spell over) excess (begin whole) bytes (place + (n + 1))
                (record { plan = after k l ++ plan; items = items ++ l ∷ []; place = place + (n + 1); over = o })) unmarked
                (subst (λ (p : ℕ). SoFar (StepTo Fits after spell over) excess (begin whole) bytes (place + (n + 1))
                (record { plan = after k l ++ plan; items = items ++ l ∷ []; place = p; over = mark spell over place l })) moved taken);
            place_is = end_more 0 items l ∙ ap (λ (p : ℕ). next_place spell over p l) here.place_is ∙ moved;
            mark_is = last_more 0 None items l ∙ ap (λ (p : ℕ). mark spell over p l) here.place_is ∙ unmarked;
          }

      -- it is one of its kind, but out of range
      pub reached-beyond : (l : Line) → Fits k l → take n (drop place bytes) ≡ spell l → over l ≡ true → Exceeds (Follows Fits after whole) lines bytes place
      reached-beyond l fits spelled out =
          let marked : mark spell over place l ≡ Some place = ap (λ (o : Bool). cond o (Some place) None) out in
          line_exceeds Sound (StepTo Fits after spell over) excess (begin whole) (finish spell over) (Follows Fits after whole) lines
          (plan_reads whole here.fine) bytes place stage here.so_far n is_line feed (after_line l) place (step l fits spelled) marked

      -- it is none of its kind
      pub reached-refused : ((l : Line) → Fits k l → take n (drop place bytes) ≡ spell l → ⊥) → FaultAt (Follows Fits after whole) lines bytes place
      reached-refused none = line_refused Sound (StepTo Fits after spell over) excess (begin whole) (finish spell over) (Follows Fits after whole) lines
          (plan_reads whole here.fine) bytes place stage here.so_far n is_line feed
          (λ t st. refuse t st)
        where
          refuse : (t : Stage Kind Line) → StepTo Fits after spell over stage (take n (drop place bytes)) t → ⊥
          refuse t st =
              let first : k ∷ plan ≡ st.kind ∷ st.rest = st.first in
              let same : k ≡ st.kind = cc in
              none st.item (subst (λ (x : Kind). Fits x st.item) (sym same) st.fits) st.spelled

  -- the plan is done
  module _ (place : ℕ) (items : List Line) (here : ReachedBy whole bytes place [] items) where
    abbrev last : Stage Kind Line
    last = record { plan = []; items = items; place = place; over = None }

    -- if no byte is left at the end of the plan, the bytes are the text of the lines read
    pub reached-end : length (drop place bytes) ≡ 0 → IsTextOf (Follows Fits after whole) lines bytes items
    reached-end none = all_read Sound (StepTo Fits after spell over) excess (begin whole) (finish spell over) (Follows Fits after whole) lines
        (plan_reads whole here.fine) bytes place last here.so_far items
        (ap (λ (p : ℕ). record { plan = []; items = items; place = p; over = None }) (sym here.place_is)
        ∙ ap (λ (o : Option ℕ). record { plan = []; items = items; place = end_place spell over 0 items; over = o }) (sym here.mark_is)) none

    -- bytes after the last line
    pub reached-more : (n : ℕ) → IsLine (take n (drop place bytes)) → drop n (drop place bytes) ≡ 10 ∷ drop (n + 1) (drop place bytes)
        → FaultAt (Follows Fits after whole) lines bytes place
    reached-more n is_line feed = line_refused Sound (StepTo Fits after spell over) excess (begin whole) (finish spell over) (Follows Fits after whole) lines
        (plan_reads whole here.fine) bytes place last here.so_far n is_line feed (λ t st. nothing st.kind st.rest st.first)
      where
        nothing : (k : Kind) (ks : List Kind) → [] ≡ k ∷ ks → ⊥
        nothing k ks e = cc

    -- bytes without a line feed after the end of the plan are a fault at their place
    pub reached-tail : IsLine (drop place bytes) → 0 < length (drop place bytes) → FaultAt (Follows Fits after whole) lines bytes place
    reached-tail none some = line_missing Sound (StepTo Fits after spell over) excess (begin whole) (finish spell over) (Follows Fits after whole) lines
        (plan_reads whole here.fine) bytes place last here.so_far none (λ v e. some)

-- nothing is read of a certificate yet
pub reached-start : (b s : ℕ) (bytes : List ℕ) → Reached b s bytes 0 (cert_plan b s) []
reached-start b s bytes = reached-first bytes (fine_cert b s)
