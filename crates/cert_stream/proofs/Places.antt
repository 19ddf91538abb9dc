-- A certificate's text that grows: what one more byte makes of the lines before it.
use Rattle.std.proofs.Common.{List, [], ap, append_assoc, arith, drop, false, inl, inr, length, length-append, length-drop, refl, subst, suc, sym}
use Rattle.std.proofs.Common.{take, true, zero, ℕ, ⊎_elim, ◌++◌, ◌+◌, ◌<◌, ◌∙◌, ◌∷◌, ◌≡◌, ◌≢◌, ◌≤◌, ◌⊎◌}
use Rattle.std.proofs.lemmas.Bool.{cases_eq}
use Rattle.std.proofs.lemmas.List.{append-nil}
use Rattle.line_format.specs.LineText.{FaultAt, IsLine, IsTextOf, text_of}
use Rattle.line_format.proofs.Lines.{line_push}
use Rattle.line_format.proofs.Words.{word_front, word_rest}
use Rattle.line_format.specs.Numeral.{numbers_text}
use Rattle.cert_grammar.specs.Lines.{Fits, IsCertText, Kind, Line, Numbers, after, kind, lines, over, spell}
use Rattle.cert_grammar.specs.Reading.{Reached}
use Rattle.cert_grammar.proofs.Reading.{reached-beyond, reached-end, reached-missing, reached-more, reached-next, reached-refused, reached-tail}
use Rattle.cert_stream.specs.LineParts.{IsUnfit}
use Rattle.cert_stream.specs.Stops.{StopsFor}
use Rattle.cert_stream.specs.declared.stop.TextStop.TheVariants.{Form, Range}

-- what follows a place, with more bytes
pub drop_more : (n : ℕ) (xs ys : List ℕ) → n ≤ length xs → drop n (xs ++ ys) ≡ drop n xs ++ ys
drop_more zero xs ys le = refl
drop_more (suc n) [] ys le = absurd (omega (arith, le))
drop_more (suc n) (x ∷ xs) ys le = drop_more n xs ys (omega (arith, le))

-- the second after one byte
drop_next : (xs ys : List ℕ) (c : ℕ) → drop (length xs + 1) (xs ++ c ∷ ys) ≡ ys
drop_next [] ys c = refl
drop_next (x ∷ xs) ys c = ap (λ (n : ℕ). drop n (x ∷ xs ++ c ∷ ys)) same ∙ drop_next xs ys c
  where
    same : suc (length xs) + 1 ≡ suc (length xs + 1)
    same = omega arith

-- bytes with a first line, or without one
record HasLine (xs : List ℕ) : Type 0 where
  size : ℕ
  is_line : IsLine (take size xs)
  feed : drop size xs ≡ 10 ∷ drop (size + 1) xs
  inside : size < length xs

-- bytes have a line feed or none
first_line : (xs : List ℕ) → IsLine xs ⊎ HasLine xs
first_line [] = inl tt
first_line (x ∷ xs) =
    elim (cases_eq x 10) [
      | inl is ↦ inr (record { size = 0; is_line = tt; feed = ap (λ (c : ℕ). c ∷ xs) is; inside = omega arith })
      | inr other ↦ ⊎_elim (λ (none : IsLine xs). inl (other, none)) (λ (h : HasLine xs). inr (more other h)) (first_line xs)
    ]
  where
    more : x ≢ 10 → HasLine xs → HasLine (x ∷ xs)
    more other_first h = record {
      size = suc h.size;
      is_line = (other_first, h.is_line);
      feed = h.feed ∙ ap (λ (n : ℕ). 10 ∷ drop n (x ∷ xs)) same;
      inside = omega (arith, h.inside);
    }
      where
        same : suc (h.size + 1) ≡ suc h.size + 1
        same = omega arith

-- a line goes on at least to where no line feed was yet
longer_line : (front more r : List ℕ) (m : ℕ) → IsLine front → drop m (front ++ more) ≡ 10 ∷ r → (rest : List ℕ) × (take m (front ++ more) ≡ front ++ rest)
longer_line [] more r m is feed = (take m more, refl)
longer_line (x ∷ front) more r zero is feed = absurd (is.0 cc)
longer_line (x ∷ front) more r (suc m) is feed = let rest = longer_line front more r m is.1 feed in (rest.0, ap (λ (l : List ℕ). x ∷ l) rest.1)

module _ (b s : ℕ) (text : List ℕ) (place : ℕ) where
  -- the place is within the text
  pub reached_within : (plan : List Kind) (items : List Line) → Reached b s text place plan items → place ≤ length text
  reached_within plan items here = omega (arith, here.so_far.here, ap length here.so_far.split, length-append (text_of here.so_far.behind) (drop place text))

  -- more bytes change nothing before the place
  pub reached_more : (plan : List Kind) (items : List Line) (more : List ℕ) → Reached b s text place plan items → Reached b s (text ++ more) place plan items
  reached_more plan items more here =
      let so_far = here.so_far in
      let le = reached_within plan items here in
      record {
        fine = here.fine;
        so_far = record {
          behind = so_far.behind;
          run = so_far.run;
          within = so_far.within;
          split = ap (λ (l : List ℕ). l ++ more) so_far.split ∙ append_assoc (text_of so_far.behind) (drop place text) more
              ∙ ap (λ (l : List ℕ). text_of so_far.behind ++ l) (sym (drop_more place text more le));
          here = so_far.here;
        };
        place_is = here.place_is;
        mark_is = here.mark_is;
      }

  -- what follows the place, with one more byte
  behind : (plan : List Kind) (items : List Line) → Reached b s text place plan items → (c : ℕ) (more : List ℕ)
      → drop place ((text ++ c ∷ []) ++ more) ≡ drop place text ++ c ∷ more
  behind plan items here c more = ap (λ (l : List ℕ). drop place l) (append_assoc text (c ∷ []) more)
      ∙ drop_more place text (c ∷ more) (reached_within plan items here)

  module _ (word : List ℕ) (n : Numbers) (plan : List Kind) (items : List Line) (here : Reached b s text place (kind word n ∷ plan) items)
      (is_line : IsLine (drop place text)) where
    -- the line so far
    abbrev this : List ℕ
    this = drop place text

    -- the place is still reached
    grown : (more : List ℕ) → Reached b s ((text ++ 10 ∷ []) ++ more) place (kind word n ∷ plan) items
    grown more = subst (λ (l : List ℕ). Reached b s l place (kind word n ∷ plan) items) (sym (append_assoc text (10 ∷ []) more))
        (reached_more (kind word n ∷ plan) items (10 ∷ more) here)

    -- what follows it
    tail_is : (more : List ℕ) → drop place ((text ++ 10 ∷ []) ++ more) ≡ this ++ 10 ∷ more
    tail_is more = behind (kind word n ∷ plan) items here 10 more

    -- the line is whole
    line_is : (more : List ℕ) → take (length this) (drop place ((text ++ 10 ∷ []) ++ more)) ≡ this
    line_is more = ap (λ (l : List ℕ). take (length this) l) (tail_is more) ∙ word_front this (10 ∷ more)

    -- and the line feed follows it
    ends_line : (more : List ℕ) → drop (length this) (drop place ((text ++ 10 ∷ []) ++ more)) ≡ 10 ∷ drop (length this + 1)
        (drop place ((text ++ 10 ∷ []) ++ more))
    ends_line more =
        ap (λ (l : List ℕ). drop (length this) l) (tail_is more) ∙ word_rest this (10 ∷ more)
        ∙ ap (λ (l : List ℕ). 10 ∷ l) (sym (ap (λ (l : List ℕ). drop (length this + 1) l) (tail_is more) ∙ drop_next this more 10))

    -- it has no line feed
    fine_line : (more : List ℕ) → IsLine (take (length this) (drop place ((text ++ 10 ∷ []) ++ more)))
    fine_line more = subst IsLine (sym (line_is more)) is_line

    -- the line feed makes the line whole
    pub line_done : (l : Line) → Fits (kind word n) l → this ≡ spell l → over l ≡ false → Reached b s (text ++ 10 ∷ []) (length text + 1)
        (after (kind word n) l ++ plan) (items ++ l ∷ [])
    line_done l fits spelled within =
        let whole : (text ++ 10 ∷ []) ++ [] ≡ text ++ 10 ∷ [] = append-nil (text ++ 10 ∷ []) in
        let long : length this < length (drop place ((text ++ 10 ∷ []) ++ [])) = omega (arith, ap length (tail_is []), length-append this (10 ∷ [])) in
        let next : place + (length this + 1) ≡ length text + 1 = omega (arith, length-drop place text, reached_within (kind word n ∷ plan) items here) in
        subst (λ (t : List ℕ). Reached b s t (length text + 1) (after (kind word n) l ++ plan) (items ++ l ∷ [])) whole
        (subst (λ (p : ℕ). Reached b s ((text ++ 10 ∷ []) ++ []) p (after (kind word n) l ++ plan) (items ++ l ∷ [])) next
        (reached-next ((text ++ 10 ∷ []) ++ []) place (kind word n) plan items (grown []) (length this) (fine_line []) (ends_line []) l fits
        (line_is [] ∙ spelled) within long))

    -- the whole line has a number out of range
    pub line_out : (l : Line) → Fits (kind word n) l → this ≡ spell l → over l ≡ true → StopsFor b s (text ++ 10 ∷ []) (Range place)
    line_out l fits spelled out more =
        reached-beyond ((text ++ 10 ∷ []) ++ more) place (kind word n) plan items (grown more) (length this) (fine_line more) (ends_line more) l fits
        (line_is more ∙ spelled) out

    -- no line of the kind has this byte there
    pub line_unfit : (c : ℕ) → IsUnfit word n this c → StopsFor b s (text ++ c ∷ []) (Form place)
    line_unfit c unfit more =
        elim (cases_eq c 10) [
          | inl feed ↦ subst (λ (x : ℕ). FaultAt (IsCertText b s) lines ((text ++ x ∷ []) ++ more) place) (sym feed)
              (reached-refused ((text ++ 10 ∷ []) ++ more) place (kind word n) plan items (grown more) (length this) (fine_line more) (ends_line more)
              (λ l fits e. unfit.ended feed l.numbers fits.numbers (sym (line_is more) ∙ e ∙ ap (λ (w : List ℕ). w ++ numbers_text l.numbers) fits.word)))
          | inr other ↦ ⊎_elim
              (λ (none : IsLine (drop place ((text ++ c ∷ []) ++ more))). reached-missing ((text ++ c ∷ []) ++ more) place (kind word n) plan items (at c) none)
              (λ (h : HasLine (drop place ((text ++ c ∷ []) ++ more))). refused other h)
              (first_line (drop place ((text ++ c ∷ []) ++ more)))
        ]
      where
        at : (c : ℕ) → Reached b s ((text ++ c ∷ []) ++ more) place (kind word n ∷ plan) items
        at c = subst (λ (l : List ℕ). Reached b s l place (kind word n ∷ plan) items) (sym (append_assoc text (c ∷ []) more))
            (reached_more (kind word n ∷ plan) items (c ∷ more) here)

        refused : c ≢ 10 → HasLine (drop place ((text ++ c ∷ []) ++ more)) → FaultAt (IsCertText b s) lines ((text ++ c ∷ []) ++ more) place
        refused other h =
            let split : drop place ((text ++ c ∷ []) ++ more) ≡ (this ++ c ∷ []) ++ more = behind (kind word n ∷ plan) items here c more
            ∙ sym (append_assoc this (c ∷ []) more) in
            let on = longer_line (this ++ c ∷ []) more _ h.size (line_push this c is_line other) (ap (λ (l : List ℕ). drop h.size l) (sym split) ∙ h.feed) in
            reached-refused ((text ++ c ∷ []) ++ more) place (kind word n) plan items (at c) h.size h.is_line h.feed
            (λ l fits e. unfit.inside other l.numbers on.0 fits.numbers
            (sym (append_assoc this (c ∷ []) on.0) ∙ sym on.1 ∙ ap (λ (l : List ℕ). take h.size l) (sym split) ∙ e
            ∙ ap (λ (w : List ℕ). w ++ numbers_text l.numbers) fits.word))

    -- the text ends within a line
    pub line_unfinished : FaultAt (IsCertText b s) lines text place
    line_unfinished = reached-missing text place (kind word n) plan items here is_line

  module _ (items : List Line) (here : Reached b s text place [] items) (none : drop place text ≡ []) where
    -- bytes after the last line
    pub behind_last : (c : ℕ) → StopsFor b s (text ++ c ∷ []) (Form place)
    behind_last c more =
        ⊎_elim
        (λ (tail : IsLine (drop place ((text ++ c ∷ []) ++ more))). reached-tail ((text ++ c ∷ []) ++ more) place items at tail
        (omega (arith, ap length split)))
        (λ (h : HasLine (drop place ((text ++ c ∷ []) ++ more))). reached-more ((text ++ c ∷ []) ++ more) place items at h.size h.is_line h.feed)
        (first_line (drop place ((text ++ c ∷ []) ++ more)))
      where
        at : Reached b s ((text ++ c ∷ []) ++ more) place [] items
        at = subst (λ (l : List ℕ). Reached b s l place [] items) (sym (append_assoc text (c ∷ []) more)) (reached_more [] items (c ∷ more) here)

        split : drop place ((text ++ c ∷ []) ++ more) ≡ c ∷ more
        split = behind [] items here c more ∙ ap (λ (l : List ℕ). l ++ c ∷ more) none

    -- the plan is done, and the text ends
    pub all_there : IsTextOf (IsCertText b s) lines text items
    all_there = reached-end text place items here (ap length none)
