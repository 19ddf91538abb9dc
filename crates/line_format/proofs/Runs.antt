-- A reader that goes from stage to stage, line by line, against the form that it reads.
use Rattle.std.proofs.Common.{List, None, Option, Some, [], ap, append_assoc, arith, drop, drop-drop, length, length-append, length-take, refl, subst}
use Rattle.std.proofs.Common.{sym, take, take-append-drop, ℕ, ⊎_elim, ◌++◌, ◌+◌, ◌<◌, ◌∙◌, ◌∷◌, ◌≡◌, ◌≤◌}
use Rattle.std.proofs.lemmas.List.{append-nil, drop_all, take_all}
use Rattle.std.specs.Option.{option_or}
use Rattle.line_format.specs.LineText.{IsLine, text_of, first_excess, IsTextOf, FaultAt, Exceeds}
use Rattle.line_format.specs.Reading.{Runs, SoFar, HaltsAt, ExceedsFirst}
use Rattle.line_format.proofs.Lines.{AreLines, GoesOn, SameLines, StopsWithin, compare_lines, first_excess-append, no_feed, one_line, text_of-append}
use Rattle.line_format.proofs.Lines.{text_of_same}

module _ {S : Type 0} (Sound : S → Type 0) (Step : S → List ℕ → S → Type 0) where
  -- a line leads from a sound stage to one stage
  abbrev pub StepsOnce : Type 0
  StepsOnce = (s t u : S) (l : List ℕ) → Sound s → Step s l t → Step s l u → t ≡ u

module _ {S O : Type 0} (Step : S → List ℕ → S → Type 0) (excess : S → Option O) where
  -- a run to a stage and a run on from it are one run over the lines of both
  pub runs_append : (s t u : S) (xs ys : List (List ℕ × Option O)) → Runs Step excess s xs t → Runs Step excess t ys u → Runs Step excess s (xs ++ ys) u
  runs_append s t u [] ys first next = subst (λ (r : S). Runs Step excess r ys u) (sym first) next
  runs_append s t u (x ∷ xs) ys first next = (first.0, first.1, first.2, first.3, runs_append first.0 t u xs ys first.4 next)

  -- a run over two lists of lines passes some stage between them
  pub runs_split : (s t : S) (xs ys : List (List ℕ × Option O)) → Runs Step excess s (xs ++ ys) t → (u : S) × Runs Step excess s xs u × Runs Step excess u ys t
  runs_split s t [] ys run = (s, refl, run)
  runs_split s t (x ∷ xs) ys run = let rest = runs_split run.0 t xs ys run.4 in (rest.0, (run.0, run.1, run.2, run.3, rest.1), rest.2)

  -- what a run goes over are lines, none with a line feed within
  pub runs_lines : (s t : S) (ms : List (List ℕ × Option O)) → Runs Step excess s ms t → AreLines ms
  runs_lines s t [] run = tt
  runs_lines s t (m ∷ ms) run = (run.1, runs_lines run.0 t ms run.4)

  -- the lines determine what is beside them, and the stage
  pub one_run : (Sound : S → Type 0) (keeps : (s t : S) (l : List ℕ) → Sound s → Step s l t → Sound t) (one_step : StepsOnce Sound Step) (s t u : S) → Sound s
      → (ls ms : List (List ℕ × Option O)) → SameLines ls ms → Runs Step excess s ls t → Runs Step excess s ms u → (ls ≡ ms) × (t ≡ u)
  one_run Sound keeps one_step s t u sound [] [] same a b = (refl, sym a ∙ b)
  one_run Sound keeps one_step s t u sound [] (m ∷ ms) same a b = absurd same
  one_run Sound keeps one_step s t u sound (l ∷ ls) [] same a b = absurd same
  one_run Sound keeps one_step s t u sound (l ∷ ls) (m ∷ ms) same a b =
      let stages : a.0 ≡ b.0 = one_step s a.0 b.0 m.0 sound (subst (λ (x : List ℕ). Step s x a.0) same.0 a.2) b.2 in
      let rest = one_run Sound keeps one_step a.0 t u (keeps s a.0 l.0 sound a.2) ls ms same.1 a.4
      (subst (λ (r : S). Runs Step excess r ms u) (sym stages) b.4) in
      let beside : l.1 ≡ m.1 = a.3 ∙ ap excess stages ∙ sym b.3 in
      ((λ i. (same.0 i, beside i) ∷ rest.0 i), rest.1)

module _ {S O : Type 0} (Sound : S → Type 0) (Step : S → List ℕ → S → Type 0) (excess : S → Option O) (behind : S → List (List ℕ × Option O)) where
  -- a step keeps a stage sound, and its line comes after the next stage
  abbrev pub StepsBehind : Type 0
  StepsBehind = (s t : S) (l : List ℕ) → Sound s → Step s l t → Sound t × (behind t ≡ behind s ++ (l, excess t) ∷ [])

  -- then the lines of a run follow its end
  pub runs_behind : StepsBehind → (ms : List (List ℕ × Option O)) (s t : S) → Sound s → Runs Step excess s ms t → Sound t × (behind t ≡ behind s ++ ms)
  runs_behind step [] s t sound run = (subst Sound run sound, ap behind (sym run) ∙ sym (append-nil (behind s)))
  runs_behind step (m ∷ ms) s t sound run =
      let first = step s run.0 m.0 sound run.2 in
      let rest = runs_behind step ms run.0 t first.0 run.4 in
      let beside : (m.0, excess run.0) ≡ m = λ i. (m.0, sym run.3 i) in (
        rest.0,
        rest.1 ∙ ap (λ (r : List (List ℕ × Option O)). r ++ ms) (first.1 ∙ ap (λ (x : List ℕ × Option O). behind s ++ x ∷ []) beside)
            ∙ append_assoc (behind s) (m ∷ []) ms,
      )

-- a value whose text begins with these lines
pub record FrontOf {V O : Type 0} (IsValid : V → Type 0) (lines : V → List (List ℕ × Option O)) (before : List (List ℕ × Option O)) : Type 0 where
  pub value : V
  pub count : ℕ
  pub valid : IsValid value
  pub same : take count (lines value) ≡ before

module _ {S V O : Type 0} (Sound : S → Type 0) (Step : S → List ℕ → S → Type 0) (excess : S → Option O) (behind : S → List (List ℕ × Option O))
    (IsValid : V → Type 0) (lines : V → List (List ℕ × Option O)) (steps : StepsBehind Sound Step excess behind)
    (front_of : (s : S) → Sound s → FrontOf IsValid lines (behind s)) where
  -- if each sound stage has the prefix of a text after it, the lines of a run are one
  pub front_reached : (begin : S) → Sound begin → behind begin ≡ [] → (ms : List (List ℕ × Option O)) (s : S) → Runs Step excess begin ms s
      → (v : V) × (k : ℕ) × IsValid v × (take k (lines v) ≡ ms)
  front_reached begin sound nothing ms s run =
      let is = runs_behind Sound Step excess behind steps ms begin s sound run in
      let front = front_of s is.0 in
      (front.value, front.count, front.valid, front.same ∙ is.1 ∙ ap (λ (r : List (List ℕ × Option O)). r ++ ms) nothing)

-- The reader reads this form: over the lines of a value it comes to the value's end, and if it has come from the
-- beginning, the lines are the prefix of some text. From an end it goes no further.
pub record Reads {S V O : Type 0} (Sound : S → Type 0) (Step : S → List ℕ → S → Type 0) (excess : S → Option O) (begin : S) (finish : V → S)
    (IsValid : V → Type 0) (lines : V → List (List ℕ × Option O)) : Type 0 where
  pub complete : (v : V) → IsValid v → Runs Step excess begin (lines v) (finish v)
  pub sound : (ms : List (List ℕ × Option O)) (s : S) → Runs Step excess begin ms s → (v : V) × (k : ℕ) × IsValid v × (take k (lines v) ≡ ms)
  pub begins : Sound begin
  pub keeps : (s t : S) (l : List ℕ) → Sound s → Step s l t → Sound t
  pub one_step : StepsOnce Sound Step
  pub closed : (v : V) (l : List ℕ) (t : S) → Step (finish v) l t → ⊥
  pub one_value : (v w : V) → finish v ≡ finish w → v ≡ w

module _ {S V O : Type 0} (Sound : S → Type 0) (Step : S → List ℕ → S → Type 0) (excess : S → Option O) (begin : S) (finish : V → S) (IsValid : V → Type 0)
    (lines : V → List (List ℕ × Option O)) (reads : Reads Sound Step excess begin finish IsValid lines) where
  -- over a prefix of a text the reader comes to some stage
  pub front_runs : (v : V) (k : ℕ) → IsValid v → (u : S) × Runs Step excess begin (take k (lines v)) u × Runs Step excess u (drop k (lines v)) (finish v)
  front_runs v k valid =
      runs_split Step excess begin (finish v) (take k (lines v)) (drop k (lines v))
      (subst (λ (ms : List (List ℕ × Option O)). Runs Step excess begin ms (finish v)) (sym (take-append-drop k (lines v))) (reads.complete v valid))

  -- from an end there are no more lines
  pub no_more : (v : V) (s : S) (ms : List (List ℕ × Option O)) → Runs Step excess (finish v) ms s → (ms ≡ []) × (s ≡ finish v)
  no_more v s [] run = (refl, sym run)
  no_more v s (m ∷ ms) run = absurd (reads.closed v m.0 run.0 run.2)

  -- at an end, the lines are those of its value
  pub ended : (v : V) (ms : List (List ℕ × Option O)) → Runs Step excess begin ms (finish v) → IsValid v × (lines v ≡ ms)
  ended v ms run =
      let found = reads.sound ms (finish v) run in
      let w = found.0 in
      let parts = front_runs w found.1 found.2 in
      let same : parts.0 ≡ finish v = (one_run Step excess Sound reads.keeps reads.one_step begin parts.0 (finish v) reads.begins (take found.1 (lines w)) ms
      (same_lines _ _ found.3) parts.1 run).1 in
      let rest = no_more v (finish w) (drop found.1 (lines w)) (subst (λ (u : S). Runs Step excess u (drop found.1 (lines w)) (finish w)) same parts.2) in
      let value : w ≡ v = reads.one_value w v rest.1 in
      let whole : lines w ≡ ms = sym (take-append-drop found.1 (lines w)) ∙ ap (λ (r : List (List ℕ × Option O)). take found.1 (lines w) ++ r) rest.0
      ∙ append-nil (take found.1 (lines w)) ∙ found.3 in
      (subst IsValid value found.2, ap lines (sym value) ∙ whole)
    where
      same_lines : (xs ys : List (List ℕ × Option O)) → xs ≡ ys → SameLines xs ys
      same_lines xs ys is = subst (λ (r : List (List ℕ × Option O)). SameLines xs r) is (self xs)
        where
          self : (r : List (List ℕ × Option O)) → SameLines r r
          self [] = tt
          self (x ∷ r) = (refl, self r)

  -- the reader is at a stage, after these lines, and before these bytes
  module _ (bytes bad : List ℕ) (ms : List (List ℕ × Option O)) (s : S) (run : Runs Step excess begin ms s) (split : bytes ≡ text_of ms ++ bad) where
    -- a line with which it can't go on: no prefix of a text has it
    not_on : (blocked : (l more : List ℕ) → IsLine l → bad ≡ l ++ 10 ∷ more → (t : S) → Step s l t → ⊥) (w : V) (k : ℕ) → IsValid w
        → GoesOn ms (take k (lines w)) bad → ⊥
    not_on blocked w k valid on =
        let parts = front_runs w k valid in
        let cut = runs_split Step excess begin parts.0 on.start (on.next ∷ on.after)
        (subst (λ (r : List (List ℕ × Option O)). Runs Step excess begin r parts.0) on.whole parts.1) in
        let stages : s ≡ cut.0 = (one_run Step excess Sound reads.keeps reads.one_step begin s cut.0 reads.begins ms on.start on.same run cut.1).1 in
        let goes = cut.2 in
        blocked on.next.0 on.more goes.1 on.rest_is goes.0 (subst (λ (r : S). Step r on.next.0 goes.0) (sym stages) goes.2)

    -- after lines without an excess, where no line leads on and no text ends, the first faulty line begins
    pub fault_at : (place : ℕ) → first_excess ms ≡ None → length (text_of ms) ≡ place
        → (blocked : (l more : List ℕ) → IsLine l → bad ≡ l ++ 10 ∷ more → (t : S) → Step s l t → ⊥) → (open_end : (v : V) → s ≡ finish v → 0 < length bad)
        → FaultAt IsValid lines bytes place
    fault_at place none here blocked open_end =
        let found = reads.sound ms s run in
        record {
          front = record {
            value = found.0;
            count = found.1;
            valid = found.2;
            begins =
                (bad, split ∙ ap (λ (r : List (List ℕ × Option O)). text_of r ++ bad) (sym found.3));
          };
          within = ap first_excess found.3 ∙ none;
          here = ap (λ (r : List (List ℕ × Option O)). length (text_of r)) found.3 ∙ here;
          longest = λ other. longest other.value other.count other.valid other.begins.0 other.begins.1;
          no_text = λ v valid is. no_text v valid is;
        }
      where
        goal_of : List (List ℕ × Option O) → Type 0
        goal_of r = length (text_of r) ≤ place

        lines_here : AreLines ms
        lines_here = runs_lines Step excess begin s ms run

        longest : (w : V) (k : ℕ) → IsValid w → (more : List ℕ) → bytes ≡ text_of (take k (lines w)) ++ more → length (text_of (take k (lines w))) ≤ place
        longest w k valid more begins =
            let parts = front_runs w k valid in
            ⊎_elim
            (λ (st : StopsWithin ms (take k (lines w))).
            let long : length (text_of ms) ≡ length (text_of st.start) + length (text_of st.after) =
            ap (λ (r : List (List ℕ × Option O)). length (text_of r)) st.whole ∙ ap length (text_of-append st.start st.after)
            ∙ length-append (text_of st.start) (text_of st.after) in
            let same : length (text_of (take k (lines w))) ≡ length (text_of st.start) = ap length (text_of_same _ _ st.same) in
            omega (arith, long, same, here))
            (λ (on : GoesOn ms (take k (lines w)) bad). absurd (not_on blocked w k valid on))
            (compare_lines ms (take k (lines w)) bad more lines_here (runs_lines Step excess begin parts.0 _ parts.1) (sym split ∙ begins))

        no_text : (v : V) → IsValid v → bytes ≡ text_of (lines v) → ⊥
        no_text v valid is =
            let run_v = reads.complete v valid in
            ⊎_elim
            (λ (st : StopsWithin ms (lines v)).
            let cut = runs_split Step excess begin s st.start st.after (subst (λ (r : List (List ℕ × Option O)). Runs Step excess begin r s) st.whole run) in
            let one = one_run Step excess Sound reads.keeps reads.one_step begin (finish v) cut.0 reads.begins (lines v) st.start st.same run_v cut.1 in
            let rest = no_more v s st.after (subst (λ (u : S). Runs Step excess u st.after s) (sym one.1) cut.2) in
            let whole : ms ≡ lines v = st.whole ∙ ap (λ (r : List (List ℕ × Option O)). st.start ++ r) rest.0 ∙ append-nil st.start ∙ sym one.0 in
            let long : length (text_of ms) + length bad ≡ length (text_of (lines v)) = sym (length-append (text_of ms) bad) ∙ ap length (sym split ∙ is) in
            let same : length (text_of ms) ≡ length (text_of (lines v)) = ap (λ (r : List (List ℕ × Option O)). length (text_of r)) whole in
            absurd (omega (arith, long, same, open_end v rest.1)))
            (λ (on : GoesOn ms (lines v) bad). absurd (not_on blocked v (length (lines v)) valid
            (subst (λ (r : List (List ℕ × Option O)). GoesOn ms r bad) (sym (take_all (length (lines v)) (lines v) (omega arith))) on)))
            (compare_lines ms (lines v) bad [] lines_here (runs_lines Step excess begin (finish v) (lines v) run_v)
            (sym split ∙ is ∙ sym (append-nil (text_of (lines v)))))

    -- the first excess of the lines after the reader is what the bytes exceed first
    pub exceeds : (o : O) → first_excess ms ≡ Some o → Exceeds IsValid lines bytes o
    exceeds o first =
        let found = reads.sound ms s run in
        record {
          front = record {
            value = found.0;
            count = found.1;
            valid = found.2;
            begins =
                (bad, split ∙ ap (λ (r : List (List ℕ × Option O)). text_of r ++ bad) (sym found.3));
          };
          first = ap first_excess found.3 ∙ first;
        }

    -- at a value's end, with no bytes left and no excess after, the bytes are the text of the value
    pub is_text : (v : V) → s ≡ finish v → bad ≡ [] → first_excess ms ≡ None → IsTextOf IsValid lines bytes v
    is_text v end none within =
        let found = ended v ms (subst (λ (u : S). Runs Step excess begin ms u) end run) in
        record {
          valid = found.0;
          spelled = split ∙ ap (λ (l : List ℕ). text_of ms ++ l) none ∙ append-nil (text_of ms) ∙ ap text_of (sym found.1);
          within = ap first_excess found.1 ∙ within;
        }

-- at the beginning the reader comes before place 0
pub start_so_far : {S O : Type 0} (Step : S → List ℕ → S → Type 0) (excess : S → Option O) (begin : S) (bytes : List ℕ) → SoFar Step excess begin bytes 0 begin
start_so_far Step excess begin bytes = record { behind = []; run = refl; within = refl; split = refl; here = refl }

module _ {S O : Type 0} (Step : S → List ℕ → S → Type 0) (excess : S → Option O) (begin : S) (bytes : List ℕ) (place : ℕ) (s : S)
    (so_far : SoFar Step excess begin bytes place s) where
  -- the next line, and where it leads
  module _ (n : ℕ) (is_line : IsLine (take n (drop place bytes))) (feed : drop n (drop place bytes) ≡ 10 ∷ drop (n + 1) (drop place bytes)) where
    rest_is : drop place bytes ≡ take n (drop place bytes) ++ 10 ∷ drop (n + 1) (drop place bytes)
    rest_is = sym (take-append-drop n (drop place bytes)) ∙ ap (λ (r : List ℕ). take n (drop place bytes) ++ r) feed

    split_more : (mark : Option O) → bytes ≡ text_of (so_far.behind ++ (take n (drop place bytes), mark) ∷ []) ++ drop (n + 1) (drop place bytes)
    split_more mark =
        so_far.split ∙ ap (λ (r : List ℕ). text_of so_far.behind ++ r) (rest_is ∙ sym
        (append_assoc (take n (drop place bytes)) (10 ∷ []) (drop (n + 1) (drop place bytes))))
        ∙ sym (append_assoc (text_of so_far.behind) (take n (drop place bytes) ++ 10 ∷ []) (drop (n + 1) (drop place bytes)))
        ∙ ap (λ (r : List ℕ). r ++ drop (n + 1) (drop place bytes)) (sym (text_of-append so_far.behind ((take n (drop place bytes), mark) ∷ [])))

    run_more : (t : S) → Step s (take n (drop place bytes)) t → Runs Step excess begin (so_far.behind ++ (take n (drop place bytes), excess t) ∷ []) t
    run_more t step = runs_append Step excess begin s t so_far.behind ((take n (drop place bytes), excess t) ∷ []) so_far.run (t, is_line, step, refl, refl)

    marks_more : (mark : Option O) → first_excess (so_far.behind ++ (take n (drop place bytes), mark) ∷ []) ≡ mark
    marks_more mark = first_excess-append so_far.behind ((take n (drop place bytes), mark) ∷ []) ∙ ap
        (λ (o : Option O). option_or o (first_excess ((take n (drop place bytes), mark) ∷ []))) so_far.within ∙ alone mark
      where
        alone : (o : Option O) → first_excess ((take n (drop place bytes), o) ∷ []) ≡ o
        alone None = refl
        alone (Some x) = refl

    -- by a line with a step to a stage that exceeds nothing, the reader comes after its line feed
    pub next_so_far : (t : S) → Step s (take n (drop place bytes)) t → excess t ≡ None → n < length (drop place bytes)
        → SoFar Step excess begin bytes (place + (n + 1)) t
    next_so_far t step none lt =
        let behind = so_far.behind ++ (take n (drop place bytes), excess t) ∷ [] in
        let long : length (text_of (so_far.behind ++ (take n (drop place bytes), excess t) ∷ [])) ≡ place + (n + 1) =
        ap length (text_of-append so_far.behind ((take n (drop place bytes), excess t) ∷ []))
        ∙ length-append (text_of so_far.behind) (take n (drop place bytes) ++ 10 ∷ [])
        ∙ omega (arith, so_far.here, length-append (take n (drop place bytes)) (10 ∷ []), length-take n (drop place bytes)) in
        record {
          behind = behind;
          run = run_more t step;
          within = marks_more (excess t) ∙ none;
          split = split_more (excess t) ∙ ap (λ (r : List ℕ). text_of behind ++ r) (drop-drop (n + 1) place bytes);
          here = long;
        }

    -- if the next line has a step to a stage that exceeds a limit, the bytes exceed that limit first
    pub next_exceeds : (t : S) (o : O) → Step s (take n (drop place bytes)) t → excess t ≡ Some o → ExceedsFirst Step excess begin bytes o
    next_exceeds t o step over = record {
      stage = t;
      behind = so_far.behind ++ (take n (drop place bytes), excess t) ∷ [];
      run = run_more t step;
      rest = drop (n + 1) (drop place bytes);
      split = split_more (excess t);
      first = marks_more (excess t) ∙ over;
    }

    -- at a next line that no step takes the reader halts
    pub next_halts : {V : Type 0} (ended : V → S) → ((t : S) → Step s (take n (drop place bytes)) t → ⊥) → HaltsAt Step excess begin ended bytes place
    next_halts ended refused = record {
      stage = s;
      so_far = so_far;
      blocked = λ l more line is t step. let one = one_line l (take n (drop place bytes)) more (drop (n + 1) (drop place bytes)) line is_line
          (sym is ∙ rest_is) in
          refused t (subst (λ (x : List ℕ). Step s x t) one.0 step);
      open_end = λ v end. omega (arith, ap length rest_is, length-append (take n (drop place bytes)) (10 ∷ drop (n + 1) (drop place bytes)));
    }

  -- if there is no further line, the reader halts
  pub last_halts : {V : Type 0} (ended : V → S) → IsLine (drop place bytes) → ((v : V) → s ≡ ended v → 0 < length (drop place bytes))
      → HaltsAt Step excess begin ended bytes place
  last_halts ended no_line open_end = record {
    stage = s;
    so_far = so_far;
    blocked = λ l more line is t step. no_feed l more (subst IsLine is no_line);
    open_end = open_end;
  }

module _ {S V O : Type 0} {Sound : S → Type 0} {Step : S → List ℕ → S → Type 0} {excess : S → Option O} {begin : S} {finish : V → S} {IsValid : V → Type 0}
    {lines : V → List (List ℕ × Option O)} (reads : Reads Sound Step excess begin finish IsValid lines) (bytes : List ℕ) where
  -- bytes that are read up to the end of a value are its text
  pub text_read : (v : V) → SoFar Step excess begin bytes (length bytes) (finish v) → IsTextOf IsValid lines bytes v
  text_read v end = is_text Sound Step excess begin finish IsValid lines reads bytes (drop (length bytes) bytes) end.behind
      (finish v) end.run end.split v refl (drop_all (length bytes) bytes (omega arith)) end.within

  -- if the reader halts, the first faulty line begins
  pub fault_read : (place : ℕ) → HaltsAt Step excess begin finish bytes place → FaultAt IsValid lines bytes place
  fault_read place halts = fault_at Sound Step excess begin finish IsValid lines reads bytes (drop place bytes) halts.so_far.behind halts.stage
      halts.so_far.run halts.so_far.split place halts.so_far.within halts.so_far.here halts.blocked halts.open_end

  -- what the reader exceeds first the bytes do
  pub excess_read : (o : O) → ExceedsFirst Step excess begin bytes o → Exceeds IsValid lines bytes o
  excess_read o over = exceeds Sound Step excess begin finish IsValid lines reads bytes over.rest over.behind over.stage over.run over.split o over.first

module _ {S V O : Type 0} (Sound : S → Type 0) (Step : S → List ℕ → S → Type 0) (excess : S → Option O) (begin : S) (finish : V → S) (IsValid : V → Type 0)
    (lines : V → List (List ℕ × Option O)) (reads : Reads Sound Step excess begin finish IsValid lines) where
  pub nothing_yet : (bytes : List ℕ) → SoFar Step excess begin bytes 0 begin
  nothing_yet bytes = start_so_far Step excess begin bytes

  -- the same for a reader that keeps its place alone
  module _ (bytes : List ℕ) (place : ℕ) (s : S) (so_far : SoFar Step excess begin bytes place s) where
    module _ (n : ℕ) (is_line : IsLine (take n (drop place bytes))) (feed : drop n (drop place bytes) ≡ 10 ∷ drop (n + 1) (drop place bytes)) where
      pub line_taken : (t : S) → Step s (take n (drop place bytes)) t → excess t ≡ None → n < length (drop place bytes)
          → SoFar Step excess begin bytes (place + (n + 1)) t
      line_taken t step none lt = next_so_far Step excess begin bytes place s so_far n is_line feed t step none lt

      pub line_exceeds : (t : S) (o : O) → Step s (take n (drop place bytes)) t → excess t ≡ Some o → Exceeds IsValid lines bytes o
      line_exceeds t o step over = excess_read reads bytes o (next_exceeds Step excess begin bytes place s so_far n is_line feed t o step over)

      pub line_refused : ((t : S) → Step s (take n (drop place bytes)) t → ⊥) → FaultAt IsValid lines bytes place
      line_refused refused = fault_read reads bytes place (next_halts Step excess begin bytes place s so_far n is_line feed finish refused)

    pub line_missing : IsLine (drop place bytes) → ((v : V) → s ≡ finish v → 0 < length (drop place bytes)) → FaultAt IsValid lines bytes place
    line_missing no_line open_end = fault_read reads bytes place (last_halts Step excess begin bytes place s so_far finish no_line open_end)

    pub all_read : (v : V) → s ≡ finish v → length (drop place bytes) ≡ 0 → IsTextOf IsValid lines bytes v
    all_read v end none = is_text Sound Step excess begin finish IsValid lines reads bytes (drop place bytes) so_far.behind s so_far.run so_far.split v end
        (empty (drop place bytes) none) so_far.within
      where
        empty : (l : List ℕ) → length l ≡ 0 → l ≡ []
        empty [] is = refl
        empty (c ∷ l) is = absurd (omega arith)
