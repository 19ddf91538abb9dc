-- Bytes always say something, if each line is known to lead on or not.
use Rattle.std.proofs.Common.{List, None, Option, Some, [], ap, arith, drop, inl, inr, length, length-drop, refl, suc, take, zero, ℕ, ◌+◌, ◌<◌, ◌∙◌}
use Rattle.std.proofs.Common.{◌∷◌, ◌≡◌, ◌≤◌, ◌⊎◌}
use Rattle.std.proofs.lemmas.Bool.{cases_eq}
use Rattle.line_format.specs.LineText.{IsLine, Said, stated, faulty, beyond, Says}
use Rattle.line_format.specs.Reading.{SoFar}
use Rattle.line_format.proofs.Decided.{Decided, StepsDecided}
use Rattle.line_format.proofs.Runs.{Reads, all_read, line_exceeds, line_missing, line_refused, line_taken, nothing_yet}

-- the first line feed is at a place
record FirstFeedAt (bytes : List ℕ) (n : ℕ) : Type 0 where
  pub line : IsLine (take n bytes)
  pub feed : drop n bytes ≡ 10 ∷ drop (n + 1) bytes
  pub within : n < length bytes

first_feed : (bytes : List ℕ) → IsLine bytes ⊎ ((n : ℕ) × FirstFeedAt bytes n)
first_feed [] = inl tt
first_feed (c ∷ bytes) = by (cases_eq c 10) (first_feed bytes)
  where
    by : Decided (c ≡ 10) → IsLine bytes ⊎ ((n : ℕ) × FirstFeedAt bytes n) → IsLine (c ∷ bytes) ⊎ ((n : ℕ) × FirstFeedAt (c ∷ bytes) n)
    by (inl is) rest = inr (0, record { line = tt; feed = ap (λ (x : ℕ). x ∷ bytes) is; within = omega arith })
    by (inr other) (inl line) = inl (other, line)
    by (inr other) (inr (n, first)) =
        let up : suc (n + 1) ≡ suc n + 1 = omega arith in
        inr (suc n, record { line = (other, first.line); feed = first.feed ∙ ap (λ (k : ℕ). 10 ∷ drop k (c ∷ bytes)) up; within = omega (arith, first.within) })

module _ {S V O : Type 0} (Sound : S → Type 0) (Step : S → List ℕ → S → Type 0) (excess : S → Option O) (begin : S) (finish : V → S) (IsValid : V → Type 0)
    (lines : V → List (List ℕ × Option O))
    (reads : Reads Sound Step excess begin finish IsValid lines)
    (leads : StepsDecided Sound Step) (ends : (s : S) → Decided ((v : V) × (s ≡ finish v))) (bytes : List ℕ) where
  abbrev SaysSome : Type 0
  SaysSome = (said : Said V O) × Says IsValid lines bytes said

  abbrev Stands : ℕ → S → Type 0
  Stands place s = SoFar Step excess begin bytes place s

  -- the reader continues after the line feed at n
  abbrev GoesOnFrom : ℕ → Type 0
  GoesOnFrom place = (n : ℕ) (t : S) → Sound t → Stands (place + (n + 1)) t → n < length (drop place bytes) → SaysSome

  at_line : (place : ℕ) (s : S) → Sound s → Stands place s → GoesOnFrom place → (n : ℕ) → FirstFeedAt (drop place bytes) n → SaysSome
  at_line place s sound far on n first = by (leads s (take n (drop place bytes)) sound)
    where
      go : (t : S) → Step s (take n (drop place bytes)) t → (mark : Option O) → excess t ≡ mark → SaysSome
      go t step None none =
          on n t (reads.keeps s t (take n (drop place bytes)) sound step)
          (line_taken Sound Step excess begin finish IsValid lines reads bytes place s far n first.line first.feed t step none first.within) first.within
      go t step (Some o) over = (
        beyond o,
        line_exceeds Sound Step excess begin finish IsValid lines reads bytes place s far n first.line first.feed t o step
            over,
      )

      by : Decided ((t : S) × Step s (take n (drop place bytes)) t) → SaysSome
      by (inl (t, step)) = go t step (excess t) refl
      by (inr never) = (
        faulty place,
        line_refused Sound Step excess begin finish IsValid lines reads bytes place s far n first.line first.feed
            (λ t step. never (t, step)),
      )

  at_end : (place : ℕ) (s : S) → Stands place s → IsLine (drop place bytes) → SaysSome
  at_end place s far line = by (length (drop place bytes)) refl (ends s)
    where
      missing : ((v : V) → s ≡ finish v → 0 < length (drop place bytes)) → SaysSome
      missing open_end = (faulty place, line_missing Sound Step excess begin finish IsValid lines reads bytes place s far line open_end)

      by : (count : ℕ) → length (drop place bytes) ≡ count → Decided ((v : V) × (s ≡ finish v)) → SaysSome
      by zero none (inl (v, is)) = (stated v, all_read Sound Step excess begin finish IsValid lines reads bytes place s far v is none)
      by zero none (inr never) = missing (λ v is. absurd (never (v, is)))
      by (suc count) some end = missing (λ v is. omega (arith, some))

  next : (place : ℕ) (s : S) → Sound s → Stands place s → GoesOnFrom place → SaysSome
  next place s sound far on = by (first_feed (drop place bytes))
    where
      by : IsLine (drop place bytes) ⊎ ((n : ℕ) × FirstFeedAt (drop place bytes) n) → SaysSome
      by (inl line) = at_end place s far line
      by (inr (n, first)) = at_line place s sound far on n first

  from : (fuel place : ℕ) (s : S) → Sound s → Stands place s → length (drop place bytes) ≤ fuel → SaysSome
  from zero place s sound far few = next place s sound far (λ n t kept on within. absurd (omega (arith, few, within)))
  from (suc fuel) place s sound far few =
      next place s sound far
      (λ n t kept on within. from fuel (place + (n + 1)) t kept on (omega (arith, few, within, length-drop place bytes, length-drop (place + (n + 1)) bytes)))

  -- bytes say something: a value, the place of the first faulty line, or what is exceeded first
  pub some_answer : (said : Said V O) × Says IsValid lines bytes said
  some_answer = from (length bytes) 0 begin reads.begins (nothing_yet Sound Step excess begin finish IsValid lines reads bytes)
      (omega (arith, length-drop 0 bytes))
