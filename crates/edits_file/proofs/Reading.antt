-- The reader's stages with the edits as their lines name them. These stages read the form of a file of edits.
use Rattle.std.proofs.Common.{List, None, Option, Some, [], ap, append_assoc, arith, inl, inr, length, length-append, refl, subst, sym, ℕ, ◌++◌}
use Rattle.std.proofs.Common.{◌+◌, ◌<◌, ◌∙◌, ◌∷◌, ◌≡◌, ◌≤◌, ◌⊎◌}
use Rattle.std.specs.Prelude.{codes}
use Rattle.std.specs.List.{AllByRecursion}
use Rattle.std.proofs.lemmas.Bool.Decides.{nat_tests}
use Rattle.std.proofs.lemmas.List.{append-nil, length-map, take_at, take_all}
use Rattle.auction_model.proofs.ListLaws.{each-push}
use Rattle.auction_model.specs.Book.{Book}
use Rattle.book_grammar.specs.BookLines.{Excess, Line}
use Rattle.limits.specs.declared.LimitKind.TheVariants.{Records}
use Rattle.line_format.specs.Reading.{ExceedsFirst, HaltsAt, Runs, SoFar}
use Rattle.line_format.proofs.Runs.{FrontOf, Reads, front_reached, runs_append}
use Rattle.review.specs.Edits.{edit_lots}
use Rattle.review.specs.declared.edit.Edit.{Edit}
use Rattle.edits_file.specs.EditsForm.{NamedEdit, add, raise, remove, AreNamedEdits, IsNamedEdit, edit_excess, edit_lines, edit_of, edit_text, edits_of, lines}
use Rattle.edits_file.specs.declared.read.Stage.{Stage}
use Rattle.edits_file.specs.declared.read.Stage.TheVariants as stage
use Rattle.edits_file.specs.Stages.{Step, excess}
use Rattle.edits_file.proofs.LineLaws.{edit_feeds, edit_one, end_no_edit, end_word, first_word}

pub data NamedStage : Type 0 where
  beginning : NamedStage
  listing : List NamedEdit → NamedStage
  ended : List NamedEdit → NamedStage

-- the reader's stage at these edits of a book
abbrev pub held : Book → NamedStage → Stage
held book beginning = stage.Start
held book (listing had) = stage.Listing (edits_of book had)
held book (ended had) = stage.Ended (edits_of book had)

pub record AddsNamed (categories : ℕ) (had : List NamedEdit) (line : List ℕ) (next : NamedStage) : Type 0 where
  pub edit : NamedEdit
  pub valid : IsNamedEdit categories edit
  pub spelled : line ≡ edit_text edit
  pub next_is : next ≡ listing (had ++ edit ∷ [])

abbrev pub NamedStep : ℕ → NamedStage → List ℕ → NamedStage → Type 0
NamedStep categories beginning line next = (line ≡ codes "edits 1") × (next ≡ listing [])
NamedStep categories (listing had) line next = ((line ≡ codes "end") × (next ≡ ended had)) ⊎ AddsNamed categories had line next
NamedStep categories (ended had) line next = ⊥

abbrev pub named_excess : NamedStage → Option Excess
named_excess beginning = None
named_excess (listing had) = edit_excess (length had)
named_excess (ended had) = None

excess_held : (book : Book) (s : NamedStage) → excess (held book s) ≡ named_excess s
excess_held book beginning = refl
excess_held book (listing had) = ap edit_excess (length-map had (edit_of book))
excess_held book (ended had) = refl

edits-push : (book : Book) (had : List NamedEdit) (e : NamedEdit) → edits_of book (had ++ e ∷ []) ≡ edits_of book had ++ edit_of book e ∷ []
edits-push book [] e = refl
edits-push book (d ∷ had) e = ap (λ (r : List Edit). edit_of book d ∷ r) (edits-push book had e)

-- a step of the named stages is one of the reader's
lowered : (book : Book) (s t : NamedStage) (l : List ℕ) → NamedStep (length book.supply) s l t → Step book (held book s) l (held book t)
lowered book beginning t l step = (step.0, ap (held book) step.1)
lowered book (listing had) t l (inl last) = inl (last.0, ap (held book) last.1)
lowered book (listing had) t l (inr adds) = inr (record {
  named = adds.edit;
  edit = edit_of book adds.edit;
  states = record { valid = adds.valid; spelled = adds.spelled; edit_is = refl };
  next_is = ap (held book) adds.next_is ∙ ap (λ (r : List Edit). stage.Listing r) (edits-push book had adds.edit);
})
lowered book (ended had) t l step = absurd step

-- a step of the reader from a named stage
record Lifted (book : Book) (s : NamedStage) (l : List ℕ) (next : Stage) : Type 0 where
  pub to : NamedStage
  pub step : NamedStep (length book.supply) s l to
  pub is : next ≡ held book to

-- each step of the reader from a named stage is one of the named stages
lifted : (book : Book) (s : NamedStage) (l : List ℕ) (next : Stage) → Step book (held book s) l next → Lifted book s l next
lifted book beginning l next step = record { to = listing []; step = (step.0, refl); is = step.1 }
lifted book (listing had) l next (inl last) = record { to = ended had; step = inl (last.0, refl); is = last.1 }
lifted book (listing had) l next (inr adds) = record {
  to = listing (had ++ adds.named ∷ []);
  step = inr (record { edit = adds.named; valid = adds.states.valid; spelled = adds.states.spelled; next_is = refl });
  is = adds.next_is ∙ ap (λ (e : Edit). stage.Listing (edits_of book had ++ e ∷ [])) adds.states.edit_is
      ∙ ap (λ (r : List Edit). stage.Listing r) (sym (edits-push book had adds.named));
}
lifted book (ended had) l next step = absurd step

-- the named stage after such a step exceeds the same limit as the reader's
marked : (book : Book) (s : NamedStage) (l : List ℕ) (next : Stage) (mark : Option Excess) (up : Lifted book s l next) → excess next ≡ mark
    → named_excess up.to ≡ mark
marked book s l next mark up is = sym (excess_held book up.to) ∙ ap excess (sym up.is) ∙ is

-- if the reader has ended, the named edits have
ended_held : (book : Book) (s : NamedStage) (edits : List Edit) → held book s ≡ stage.Ended edits
    → (named : List NamedEdit) × (s ≡ ended named) × (edits ≡ edits_of book named)
ended_held book beginning edits is = absurd (cc is)
ended_held book (listing had) edits is = absurd (cc is)
ended_held book (ended had) edits is = (had, refl, cc is)

-- each edit that the lines name has a count for each category of the book
pub counts_of : (book : Book) (named : List NamedEdit) → AreNamedEdits (length book.supply) named → AllByRecursion
    (λ (e : Edit). length (edit_lots e) ≡ length book.supply) (edits_of book named)
counts_of book [] all = tt
counts_of book (e ∷ named) all = (count_of e all.0, counts_of book named all.1)
  where
    count_of : (e : NamedEdit) → IsNamedEdit (length book.supply) e → length (edit_lots (edit_of book e)) ≡ length book.supply
    count_of (add name lots amount) is = is.0.count
    count_of (raise name lots amount) is = is.0.count
    count_of (remove name lots) is = is.count

-- an edit more than there may be
pub many_edits : (had : List Edit) (e : Edit) → 1000 ≤ length had → edit_excess (length (had ++ e ∷ [])) ≡ Some (Records, 1001)
many_edits had e many = over (length (had ++ e ∷ [])) (omega (arith, many, length-append had (e ∷ [])))
  where
    over : (n : ℕ) → 1000 < n → edit_excess n ≡ Some (Records, 1001)
    over n lt = grind (arith, nat_tests)

-- an edit more if there may be one
pub few_edits : (had : List Edit) (e : Edit) → length had < 1000 → edit_excess (length (had ++ e ∷ [])) ≡ None
few_edits had e few = under (length (had ++ e ∷ [])) (omega (arith, few, length-append had (e ∷ [])))
  where
    under : (n : ℕ) → n ≤ 1000 → edit_excess n ≡ None
    under n le = grind (arith, nat_tests)

abbrev pub begin : NamedStage
begin = beginning

abbrev pub finish : List NamedEdit → NamedStage
finish named = ended named

-- a run of the reader from a named stage is one of the named stages
lifted_run : (book : Book) (s : NamedStage) (ms : List Line) (t : Stage) → Runs (Step book) excess (held book s) ms t
    → (u : NamedStage) × Runs (NamedStep (length book.supply)) named_excess s ms u × (t ≡ held book u)
lifted_run book s [] t run = (s, refl, sym run)
lifted_run book s (m ∷ ms) t run =
    let up = lifted book s m.0 run.0 run.2 in
    let rest = lifted_run book up.to ms t (subst (λ (x : Stage). Runs (Step book) excess x ms t) up.is run.4) in
    (rest.0, (up.to, run.1, up.step, sym (marked book s m.0 run.0 m.1 up (sym run.3)), rest.1), rest.2)

module _ (book : Book) (bytes : List ℕ) where
  named_far : (place : ℕ) (s : Stage) → SoFar (Step book) excess stage.Start bytes place s
      → (u : NamedStage) × SoFar (NamedStep (length book.supply)) named_excess begin bytes place u × (s ≡ held book u)
  named_far place s far =
      let up = lifted_run book beginning far.behind s far.run in
      (up.0, record { behind = far.behind; run = up.1; within = far.within; split = far.split; here = far.here }, up.2)

  -- where the reader ends, the named stages end with edits that it holds
  pub named_end : (edits : List Edit) → SoFar (Step book) excess stage.Start bytes (length bytes) (stage.Ended edits)
      → (named : List NamedEdit) × SoFar (NamedStep (length book.supply)) named_excess begin bytes (length bytes) (finish named) × (edits ≡ edits_of book named)
  named_end edits far =
      let up = named_far (length bytes) (stage.Ended edits) far in
      let end = ended_held book up.0 edits (sym up.2) in
      (end.0, subst (λ (u : NamedStage). SoFar (NamedStep (length book.supply)) named_excess begin bytes (length bytes) u) end.1 up.1, end.2)

  -- if the reader halts, the named stages do
  pub named_halts : (place : ℕ) → HaltsAt (Step book) excess stage.Start stage.Ended bytes place
      → HaltsAt (NamedStep (length book.supply)) named_excess begin finish bytes place
  named_halts place halts =
      let up = named_far place halts.stage halts.so_far in
      record {
        stage = up.0;
        so_far = up.1;
        blocked = λ l more line is t step.
            halts.blocked l more line is (held book t) (subst (λ (x : Stage). Step book x l (held book t)) (sym up.2) (lowered book up.0 t l step));
        open_end = λ v end. halts.open_end (edits_of book v) (up.2 ∙ ap (held book) end);
      }

  -- what the reader exceeds first, the named stages do
  pub named_exceeds : (o : Excess) → ExceedsFirst (Step book) excess stage.Start bytes o
      → ExceedsFirst (NamedStep (length book.supply)) named_excess begin bytes o
  named_exceeds o over =
      let up = lifted_run book beginning over.behind over.stage over.run in
      record { stage = up.0; behind = over.behind; run = up.1; rest = over.rest; split = over.split; first = over.first }

-- the lines that a stage has after it
abbrev pub behind : NamedStage → List Line
behind beginning = []
behind (listing had) = (codes "edits 1", None) ∷ edit_lines 0 had
behind (ended had) = lines had

abbrev pub IsSound : ℕ → NamedStage → Type 0
IsSound categories beginning = Unit {0}
IsSound categories (listing had) = AreNamedEdits categories had
IsSound categories (ended had) = AreNamedEdits categories had

-- one more edit is one more line
lines-push : (before : ℕ) (had : List NamedEdit) (e : NamedEdit) → edit_lines before (had ++ e ∷ []) ≡ edit_lines before had
    ++ (edit_text e, edit_excess (before + length had + 1)) ∷ []
lines-push before [] e = ap (λ (n : ℕ). (edit_text e, edit_excess n) ∷ []) (let same : before + 1 ≡ before + 0 + 1 = omega arith in same)
lines-push before (d ∷ had) e =
    ap (λ (r : List Line). (edit_text d, edit_excess (before + 1)) ∷ r)
    (lines-push (before + 1) had e ∙ ap (λ (n : ℕ). edit_lines (before + 1) had ++ (edit_text e, edit_excess n) ∷ []) (omega arith))

module _ (categories : ℕ) where
  -- a step keeps a stage sound, and its line comes after the next stage
  step_behind : (s t : NamedStage) (l : List ℕ) → IsSound categories s → NamedStep categories s l t → IsSound categories t
      × (behind t ≡ behind s ++ (l, named_excess t) ∷ [])
  step_behind s t l = by_stage s
    where
      F : List Line → List ℕ → NamedStage → Type 0
      F before line u = IsSound categories u × (behind u ≡ before ++ (line, named_excess u) ∷ [])

      move : (before : List Line) (line : List ℕ) (u : NamedStage) → l ≡ line → t ≡ u → F before line u → F before l t
      move before line u line_is stage_is here = subst (λ (v : NamedStage). F before l v) (sym stage_is)
          (subst (λ (m : List ℕ). F before m u) (sym line_is) here)

      more : (had : List NamedEdit) (e : NamedEdit) → behind (listing (had ++ e ∷ [])) ≡ behind (listing had)
          ++ (edit_text e, edit_excess (length (had ++ e ∷ []))) ∷ []
      more had e =
          let count : 0 + length had + 1 ≡ length (had ++ e ∷ []) = omega (arith, length-append had (e ∷ [])) in
          ap (λ (r : List Line). (codes "edits 1", None) ∷ r) (lines-push 0 had e ∙ ap (λ (n : ℕ). edit_lines 0 had ++ (edit_text e, edit_excess n) ∷ []) count)

      by_stage : (s : NamedStage) → IsSound categories s → NamedStep categories s l t → F (behind s) l t
      by_stage beginning sound step = move [] (codes "edits 1") (listing []) step.0 step.1 (tt, refl)
      by_stage (listing had) sound (inl last) = move (behind (listing had)) (codes "end") (ended had) last.0 last.1 (sound, refl)
      by_stage (listing had) sound (inr adds) =
          move (behind (listing had)) (edit_text adds.edit) (listing (had ++ adds.edit ∷ [])) adds.spelled adds.next_is
          (each-push (IsNamedEdit categories) had adds.edit sound adds.valid, more had adds.edit)
      by_stage (ended had) sound step = absurd step

  front_of : (s : NamedStage) → IsSound categories s → FrontOf (AreNamedEdits categories) lines (behind s)
  front_of beginning sound = record { value = []; count = 0; valid = tt; same = refl }
  front_of (listing had) sound = record {
    value = had;
    count = length (behind (listing had));
    valid = sound;
    same = take_at (behind (listing had)) ((codes "end", None) ∷ []) _ refl;
  }
  front_of (ended had) sound = record { value = had; count = length (lines had); valid = sound; same = take_all (length (lines had)) (lines had) (omega arith) }

  -- the stages go over the lines of edits
  edits_run : (had es : List NamedEdit) → AreNamedEdits categories es → Runs (NamedStep categories) named_excess (listing had) (edit_lines (length had) es)
      (listing (had ++ es))
  edits_run had [] all = ap listing (sym (append-nil had))
  edits_run had (e ∷ es) all =
      let rest = edits_run (had ++ e ∷ []) es all.1 in
      let moved : Runs (NamedStep categories) named_excess (listing (had ++ e ∷ [])) (edit_lines (length had + 1) es) (listing (had ++ e ∷ es)) =
      subst (λ (r : List NamedEdit). Runs (NamedStep categories) named_excess (listing (had ++ e ∷ [])) (edit_lines (length had + 1) es) (listing r))
      (append_assoc had (e ∷ []) es)
      (subst (λ (n : ℕ). Runs (NamedStep categories) named_excess (listing (had ++ e ∷ [])) (edit_lines n es) (listing ((had ++ e ∷ []) ++ es)))
      (length-append had (e ∷ [])) rest) in (
        listing (had ++ e ∷ []),
        edit_feeds categories e all.0,
        inr (record { edit = e; valid = all.0; spelled = refl; next_is = refl }),
        ap edit_excess (sym (length-append had (e ∷ []))),
        moved,
      )

  complete : (edits : List NamedEdit) → AreNamedEdits categories edits → Runs (NamedStep categories) named_excess begin (lines edits) (finish edits)
  complete edits valid =
      let body = edits_run [] edits valid in
      let last : Runs (NamedStep categories) named_excess (listing edits) ((codes "end", None) ∷ []) (finish edits) =
      (finish edits, end_word, inl (refl, refl), refl, refl) in (
        listing [],
        first_word,
        (refl, refl),
        refl,
        runs_append (NamedStep categories) named_excess (listing []) (listing edits) (finish edits) (edit_lines 0 edits) ((codes "end", None) ∷ []) body last,
      )

  one_step : (s t u : NamedStage) (l : List ℕ) → IsSound categories s → NamedStep categories s l t → NamedStep categories s l u → t ≡ u
  one_step s t u l = by_stage s
    where
      by_stage : (s : NamedStage) → IsSound categories s → NamedStep categories s l t → NamedStep categories s l u → t ≡ u
      by_stage beginning sound a b = a.1 ∙ sym b.1
      by_stage (listing had) sound (inl a) (inl b) = a.1 ∙ sym b.1
      by_stage (listing had) sound (inl a) (inr b) = absurd (end_no_edit b.edit l a.0 b.spelled)
      by_stage (listing had) sound (inr a) (inl b) = absurd (end_no_edit a.edit l b.0 a.spelled)
      by_stage (listing had) sound (inr a) (inr b) =
          a.next_is ∙ ap (λ (e : NamedEdit). listing (had ++ e ∷ [])) (edit_one categories a.edit b.edit a.valid b.valid (sym a.spelled ∙ b.spelled))
          ∙ sym b.next_is
      by_stage (ended had) sound a b = absurd a

  one_value : (v w : List NamedEdit) → finish v ≡ finish w → v ≡ w
  one_value v w is = cc

  -- the named stages read the form of a file of edits
  pub reads : Reads (IsSound categories) (NamedStep categories) named_excess begin finish (AreNamedEdits categories) lines
  reads = record {
    complete = complete;
    sound = front_reached (IsSound categories) (NamedStep categories) named_excess behind (AreNamedEdits categories) lines step_behind front_of begin tt refl;
    begins = tt;
    keeps = λ s t l sound step. (step_behind s t l sound step).0;
    one_step = one_step;
    closed = λ v l t step. step;
    one_value = one_value;
  }
