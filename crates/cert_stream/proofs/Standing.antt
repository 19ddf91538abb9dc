-- A reader that stands for a text, and one more byte.
use Rattle.std.proofs.Common.{Bool, List, [], ap, append_assoc, arith, drop, false, get_or, length, length-append, refl, subst, suc, sym, take}
use Rattle.std.proofs.Common.{take-append-drop, true, zero, ℕ, ◌++◌, ◌+◌, ◌∙◌, ◌∷◌, ◌≡◌, ◌≢◌}
use Rattle.std.proofs.lemmas.List.{drop_all, append-nil}
use Rattle.std.specs.Prelude.{ℤ, pos, Option, Some, None, codes, map}
use Rattle.line_format.specs.LineText.{IsLine, IsTextOf}
use Rattle.cert_grammar.specs.Plan.{Follows as ToEnd}
use Rattle.cert_grammar.specs.Lines.{FitNumbers, Fits, IsCertText, Kind, Line, after, body_plan, cert_plan, is_first_version, just_line, kind, lines}
use Rattle.cert_grammar.specs.Lines.{over, these, version_of}
use Rattle.cert_grammar.specs.CertText.{line}
use Rattle.cert_grammar.specs.Reading.{Reached}
use Rattle.cert_grammar.proofs.Reading.{reached-start}
use Rattle.cert_stream.specs.declared.due.NextLine.{NextLine}
use Rattle.cert_stream.specs.declared.due.NextLine.TheVariants.{Choice, Den, End, Entries, Limits, Members, Multipliers, Nothing, PartChoice, Payments}
use Rattle.cert_stream.specs.declared.due.NextLine.TheVariants.{RowChoice, Rows, Title, Value, Version, Without}
use Rattle.cert_stream.specs.declared.line.LinePart.{LinePart}
use Rattle.cert_stream.specs.declared.reader.Reader.{Reader}
use Rattle.cert_stream.specs.declared.stop.TextStop.{TextStop}
use Rattle.cert_stream.specs.declared.stop.TextStop.TheVariants.{Form, Range}
use Rattle.cert_stream.specs.Forms.{numbers_of, Keeps}
use Rattle.cert_stream.specs.LineParts.{IsPart, IsWholeLine, IsUnfit}
use Rattle.cert_stream.specs.Dues.{word_of, numbers_due, behind, plan_due, version_number, limits_plan, Follows, IsDue, IsKnown}
use Rattle.cert_stream.specs.Rooms.{form_due, start_due, segment}
use Rattle.cert_stream.specs.Stops.{SaysStop, StopsFor}
use Rattle.cert_stream.specs.Standing.{AllIn, Lead, IsReading, IsEnding, ReadsBehind, StandsBehind}
use Rattle.line_format.proofs.Lines.{line_append}
use Rattle.cert_stream.proofs.Places.{reached_more, reached_within, drop_more, line_unfit, line_done, line_out, line_unfinished, behind_last, all_there}

-- one more line in range
all_push : (items : List Line) (l : Line) → AllIn items → over l ≡ false → AllIn (items ++ l ∷ [])
all_push [] l all own = (own, tt)
all_push (x ∷ items) l all own = (all.0, all_push items l all.1 own)

-- the plan of the line that is due depends on the head's choice only after it
pub same_plan : (b s : ℕ) (x y : List ℤ) (due : NextLine) → (due ≢ Choice → x ≡ y) → plan_due b s x due ≡ plan_due b s y due
same_plan b s x y Version same = ap (λ (l : List ℤ). plan_due b s l Version) (same (λ e. cc e))
same_plan b s x y Limits same = ap (λ (l : List ℤ). plan_due b s l Limits) (same (λ e. cc e))
same_plan b s x y Den same = ap (λ (l : List ℤ). plan_due b s l Den) (same (λ e. cc e))
same_plan b s x y Value same = ap (λ (l : List ℤ). plan_due b s l Value) (same (λ e. cc e))
same_plan b s x y Choice same = refl
same_plan b s x y (Title table) same = ap (λ (l : List ℤ). plan_due b s l (Title table)) (same (λ e. cc e))
same_plan b s x y (Entries table k) same = ap (λ (l : List ℤ). plan_due b s l (Entries table k)) (same (λ e. cc e))
same_plan b s x y (Without j) same = ap (λ (l : List ℤ). plan_due b s l (Without j)) (same (λ e. cc e))
same_plan b s x y (PartChoice j) same = ap (λ (l : List ℤ). plan_due b s l (PartChoice j)) (same (λ e. cc e))
same_plan b s x y Payments same = ap (λ (l : List ℤ). plan_due b s l Payments) (same (λ e. cc e))
same_plan b s x y Rows same = ap (λ (l : List ℤ). plan_due b s l Rows) (same (λ e. cc e))
same_plan b s x y (Members r) same = ap (λ (l : List ℤ). plan_due b s l (Members r)) (same (λ e. cc e))
same_plan b s x y (Multipliers r) same = ap (λ (l : List ℤ). plan_due b s l (Multipliers r)) (same (λ e. cc e))
same_plan b s x y (RowChoice r) same = ap (λ (l : List ℤ). plan_due b s l (RowChoice r)) (same (λ e. cc e))
same_plan b s x y End same = ap (λ (l : List ℤ). plan_due b s l End) (same (λ e. cc e))
same_plan b s x y Nothing same = ap (λ (l : List ℤ). plan_due b s l Nothing) (same (λ e. cc e))

-- the plan begins with the line that is due, and what follows that line follows
pub plan_is : (b s : ℕ) (choice : List ℤ) (due : NextLine) → (due ≡ Nothing → ⊥) → plan_due b s choice due ≡ kind (word_of due)
    (numbers_due b s due) ∷ behind b s choice due
plan_is b s choice Version some = refl
plan_is b s choice Limits some = refl
plan_is b s choice Den some = refl
plan_is b s choice Value some = refl
plan_is b s choice Choice some = refl
plan_is b s choice (Title table) some = refl
plan_is b s choice (Entries table k) some = refl
plan_is b s choice (Without j) some = refl
plan_is b s choice (PartChoice j) some = refl
plan_is b s choice Payments some = refl
plan_is b s choice Rows some = refl
plan_is b s choice (Members r) some = refl
plan_is b s choice (Multipliers r) some = refl
plan_is b s choice (RowChoice r) some = refl
plan_is b s choice End some = refl
plan_is b s choice Nothing some = absurd (some refl)

-- the numbers that the line may have are those of its kind
pub to_due : (b s : ℕ) (due : NextLine) (ns : List ℤ) → FitNumbers (numbers_of (form_due b s due)) ns → FitNumbers (numbers_due b s due) ns
to_due b s Version ns fit = fit
to_due b s Limits ns fit = fit
to_due b s Den ns fit = fit
to_due b s Value ns fit = fit
to_due b s Choice ns fit = fit
to_due b s (Title table) ns fit = fit
to_due b s (Entries table k) ns fit = fit
to_due b s (Without j) ns fit = fit
to_due b s (PartChoice j) ns fit = fit
to_due b s Payments ns fit = fit
to_due b s Rows ns fit = fit
to_due b s (Members r) ns fit = fit
to_due b s (Multipliers r) ns fit = fit
to_due b s (RowChoice r) ns fit = fit
to_due b s End ns fit = fit
to_due b s Nothing ns fit = fit

-- and the other way
pub from_due : (b s : ℕ) (due : NextLine) (ns : List ℤ) → FitNumbers (numbers_due b s due) ns → FitNumbers (numbers_of (form_due b s due)) ns
from_due b s Version ns fit = fit
from_due b s Limits ns fit = fit
from_due b s Den ns fit = fit
from_due b s Value ns fit = fit
from_due b s Choice ns fit = fit
from_due b s (Title table) ns fit = fit
from_due b s (Entries table k) ns fit = fit
from_due b s (Without j) ns fit = fit
from_due b s (PartChoice j) ns fit = fit
from_due b s Payments ns fit = fit
from_due b s Rows ns fit = fit
from_due b s (Members r) ns fit = fit
from_due b s (Multipliers r) ns fit = fit
from_due b s (RowChoice r) ns fit = fit
from_due b s End ns fit = fit
from_due b s Nothing ns fit = fit

module _ (b s : ℕ) (due : NextLine) (part : LinePart) (place read : ℕ) (room : List ℤ) (text : List ℕ) (items : List Line)
    (is : IsReading b s due part place read room text items) where
  -- nothing is due, and more bytes come
  pub more_behind : due ≡ Nothing → (c : ℕ) → StopsFor b s (text ++ c ∷ []) (Form place)
  more_behind none c = behind_last b s text place items (subst (λ (d : NextLine). Reached b s text place (plan_due b s (take b room) d) items) none is.reached)
      (is.done none) c

  module _ (some : due ≡ Nothing → ⊥) (more : List ℕ) (line : IsLine more) (now : LinePart) (grown : List ℤ)
      (same : due ≢ Choice → take b grown ≡ take b room) where
    -- what follows the place, with more bytes
    there : drop place (text ++ more) ≡ drop place text ++ more
    there = drop_more place text more (reached_within b s text place (plan_due b s (take b room) due) items is.reached)

    -- the place is still reached
    further : Reached b s (text ++ more) place (plan_due b s (take b room) due) items
    further = reached_more b s text place (plan_due b s (take b room) due) items more is.reached

    -- the line has no line feed
    longer : IsLine (drop place (text ++ more))
    longer = subst IsLine (sym there) (line_append (drop place text) more is.line line)

    -- the line that is due is the next of the plan
    planned : Reached b s (text ++ more) place (kind (word_of due) (numbers_due b s due) ∷ behind b s (take b room) due) items
    planned = subst (λ (p : List Kind). Reached b s (text ++ more) place p items) (plan_is b s (take b room) due some) further

    -- the plan is the same in the room as it is now
    renewed : Reached b s (text ++ more) place (plan_due b s (take b grown) due) items
    renewed = subst (λ (p : List Kind). Reached b s (text ++ more) place p items) (same_plan b s (take b room) (take b grown) due (λ other. sym (same other)))
        further

    -- and lines of it still go on to the end
    leading : Lead b s (plan_due b s (take b grown) due) items
    leading rest f = is.leads rest (subst (λ (p : List Kind). ToEnd Fits after p rest) (same_plan b s (take b grown) (take b room) due same) f)

    -- the line goes on
    pub goes_on : (next : ℕ) → next ≡ read + length more → IsPart (word_of due) (form_due b s due) now (segment b s due grown) (drop place text ++ more)
        → IsReading b s due now place next grown (text ++ more) items
    goes_on next long front = record {
      reached = renewed;
      leads = leading;
      inside = is.inside;
      named = is.named;
      line = longer;
      front = subst (IsPart (word_of due) (form_due b s due) now (segment b s due grown)) (sym there) front;
      done = λ none. absurd (some none);
      long = omega (arith, length-append text more, is.long, long);
    }

    -- it is none of its kind
    pub goes_wrong : (c : ℕ) → IsUnfit (word_of due) (numbers_of (form_due b s due)) (drop place text ++ more) c
        → StopsFor b s ((text ++ more) ++ c ∷ []) (Form place)
    goes_wrong c unfit =
        line_unfit b s (text ++ more) place (word_of due) (numbers_due b s due) (behind b s (take b room) due) items planned longer c
        (subst (λ (l : List ℕ). IsUnfit (word_of due) (numbers_due b s due) l c) (sym there)
        (record { ended = λ e ns fit. unfit.ended e ns (from_due b s due ns fit); inside = λ e ns rest fit. unfit.inside e ns rest (from_due b s due ns fit) }))

    -- it is whole
    pub goes_whole : (next : ℕ) → next ≡ read + (length more + 1) → IsWholeLine (word_of due) (form_due b s due) now (segment b s due grown)
        (drop place text ++ more) → IsEnding b s due now place next grown (text ++ more) items
    goes_whole next long whole = record {
      reached = renewed;
      leads = leading;
      inside = is.inside;
      named = is.named;
      line = longer;
      whole = subst (IsWholeLine (word_of due) (form_due b s due) now (segment b s due grown)) (sym there) whole;
      some = some;
      long = omega (arith, length-append text more, is.long, long);
    }

module _ (b s : ℕ) (due : NextLine) (part : LinePart) (place read : ℕ) (room : List ℤ) (text : List ℕ) (items : List Line)
    (is : IsEnding b s due part place read room text items) where
  -- the line that is due is the next of the plan
  set_out : Reached b s text place (kind (word_of due) (numbers_due b s due) ∷ behind b s (take b room) due) items
  set_out = subst (λ (p : List Kind). Reached b s text place p items) (plan_is b s (take b room) due is.some) is.reached

  -- that line
  abbrev own : Line
  own = line (word_of due) is.whole.numbers

  -- a number is out of range
  pub ends_out : part.beyond ≡ true → StopsFor b s (text ++ 10 ∷ []) (Range place)
  ends_out out =
      line_out b s text place (word_of due) (numbers_due b s due) (behind b s (take b room) due) items set_out is.line own
      (record { word = refl; numbers = to_due b s due is.whole.numbers is.whole.fit }) is.whole.spelled (is.whole.keeps.range ∙ out)

  -- the next line is due
  pub ends_in : (next : NextLine) (now : LinePart) → part.beyond ≡ false → Follows b s (take b room) due is.whole.numbers next → IsDue b next
      → ((out : List ℤ) → IsPart (word_of next) (form_due b s next) now out []) → IsReading b s next now read read room (text ++ 10 ∷ []) (items ++ own ∷ [])
  ends_in next now within follows named fresh =
      let long : length (text ++ 10 ∷ []) ≡ read = omega (arith, length-append text (10 ∷ []), is.long) in
      let none : drop read (text ++ 10 ∷ []) ≡ [] = drop_all read (text ++ 10 ∷ []) (omega (arith, long)) in
      let done = line_done b s text place (word_of due) (numbers_due b s due) (behind b s (take b room) due) items set_out is.line own
      (record { word = refl; numbers = to_due b s due is.whole.numbers is.whole.fit }) is.whole.spelled (is.whole.keeps.range ∙ within) in
      record {
        reached = subst (λ (p : ℕ). Reached b s (text ++ 10 ∷ []) p (plan_due b s (take b room) next) (items ++ own ∷ [])) (omega (arith, is.long))
            (subst (λ (p : List Kind). Reached b s (text ++ 10 ∷ []) (length text + 1) p (items ++ own ∷ [])) follows done);
        leads = λ rest f. subst (IsCertText b s) (sym (append_assoc items (own ∷ []) rest))
            (is.leads (own ∷ rest) (subst (λ (p : List Kind). ToEnd Fits after p (own ∷ rest)) (sym (plan_is b s (take b room) due is.some)) (
              record { word = refl; numbers = to_due b s due is.whole.numbers is.whole.fit },
              subst (λ (p : List Kind). ToEnd Fits after p rest)
                  (sym follows) f,
            )));
        inside = all_push items own is.inside (is.whole.keeps.range ∙ within);
        named = named;
        line = subst IsLine (sym none) tt;
        front = subst (IsPart (word_of next) (form_due b s next) now (segment b s next room)) (sym none) (fresh (segment b s next room));
        done = λ e. none;
        long = long;
      }

  -- what is known of the numbers after the line
  pub ends_known : (first : ℤ) → part.beyond ≡ false → get_or room (start_due b s due) (pos 0) ≡ first → IsKnown due is.whole.numbers (take b room) first
  ends_known first within at = known due is.whole.numbers is.whole.fit is.whole.keeps at
    where
      twice : (n : ℕ) (xs : List ℤ) → take n (take n xs) ≡ take n xs
      twice zero xs = refl
      twice (suc n) [] = refl
      twice (suc n) (x ∷ xs) = ap (λ (l : List ℤ). x ∷ l) (twice n xs)

      first_is : (xs : List ℤ) (z : ℤ) → take 1 (take 1 xs) ≡ z ∷ [] → get_or xs 0 (pos 0) ≡ z
      first_is [] z e = cc
      first_is (x ∷ xs) z e = cc

      at_drop : (n : ℕ) (xs : List ℤ) → get_or (drop n xs) 0 (pos 0) ≡ get_or xs n (pos 0)
      at_drop zero xs = refl
      at_drop (suc n) [] = refl
      at_drop (suc n) (x ∷ xs) = at_drop n xs

      known : (due : NextLine) (ns : List ℤ) → FitNumbers (numbers_of (form_due b s due)) ns → Keeps ns (segment b s due room) part.count part.beyond
          → get_or room (start_due b s due) (pos 0) ≡ first → IsKnown due ns (take b room) first
      known Version ns fit keeps at = tt
      known Limits ns fit keeps at = tt
      known Den ns fit keeps at = tt
      known Value ns fit keeps at = tt
      known Choice ns fit keeps at =
          let count : part.count ≡ b = omega (arith, keeps.many, fit.0) in
          sym (twice b room) ∙ ap (λ (n : ℕ). take n (take b room)) (sym count) ∙ keeps.same within
      known (Title table) ns fit keeps at = tt
      known (Entries table k) ns fit keeps at = tt
      known (Without j) ns fit keeps at = tt
      known (PartChoice j) ns fit keeps at = tt
      known Payments ns fit keeps at = tt
      known Rows ns (r, e, few, some) keeps at =
          let count : part.count ≡ 1 = omega (arith, keeps.many, ap length e) in
          let front : take 1 (take 1 (drop b room)) ≡ pos r ∷ [] = ap (λ (n : ℕ). take n (take 1 (drop b room))) (sym count) ∙ keeps.same within ∙ e in
          e ∙ ap (λ (z : ℤ). z ∷ []) (sym (first_is (drop b room) (pos r) front) ∙ at_drop b room ∙ at)
      known (Members r) ns fit keeps at = tt
      known (Multipliers r) ns fit keeps at = tt
      known (RowChoice r) ns fit keeps at = tt
      known End ns fit keeps at = tt
      known Nothing ns fit keeps at = tt

-- a reader that has not stopped reads on
pub still_reading :
    (b s : ℕ) (due : NextLine) (part : LinePart) (place read : ℕ) (room : List ℤ) (text : List ℕ) (items : List Line) (stop : Option TextStop)
    → stop ≡ None → ReadsBehind b s due part place read room text items stop → IsReading b s due part place read room text items
still_reading b s due part place read room text items stop none is = subst (ReadsBehind b s due part place read room text items) none is

-- and the other way
pub reads_on :
    (b s : ℕ) (due : NextLine) (part : LinePart) (place read : ℕ) (room : List ℤ) (text : List ℕ) (items : List Line) (stop : Option TextStop)
    → stop ≡ None → IsReading b s due part place read room text items → ReadsBehind b s due part place read room text items stop
reads_on b s due part place read room text items stop none is = subst (ReadsBehind b s due part place read room text items) (sym none) is

-- the lines of the version, by their plan
version_due : (first : Bool) → map just_line (version_of first) ≡ kind (codes "cert") (these (pos (version_number first) ∷ [])) ∷ limits_plan first
version_due true = refl
version_due false = refl

-- at first the whole plan is to come
pub first_plan : (b s : ℕ) (choice : List ℤ) → plan_due b s choice Version ≡ cert_plan b s
first_plan b s choice = sym (ap (λ (l : List Kind). l ++ body_plan b s) (version_due (is_first_version b s)))

-- a reader to which nothing was fed
pub at_first : (b s : ℕ) (part : LinePart) (room : List ℤ) → ((out : List ℤ) → IsPart (word_of Version) (form_due b s Version) part out [])
    → IsReading b s Version part 0 0 room [] []
at_first b s part room fresh = record {
  reached = subst (λ (p : List Kind). Reached b s [] 0 p []) (sym (first_plan b s (take b room))) (reached-start b s []);
  leads = λ rest f. subst (λ (p : List Kind). ToEnd Fits after p rest) (first_plan b s (take b room)) f;
  inside = tt;
  named = tt;
  line = tt;
  front = fresh (segment b s Version room);
  done = λ e. cc e;
  long = refl;
}

-- a stop is one of each longer text
pub stands_more : (b s : ℕ) (text more : List ℕ) (stop : TextStop) → StopsFor b s text stop → StopsFor b s (text ++ more) stop
stands_more b s text more stop is rest = subst (λ (l : List ℕ). SaysStop b s l stop) (sym (append_assoc text more rest)) (is (more ++ rest))

-- and of the text itself
pub says : (b s : ℕ) (text : List ℕ) (stop : TextStop) → StopsFor b s text stop → SaysStop b s text stop
says b s text stop is = subst (λ (l : List ℕ). SaysStop b s l stop) (append-nil text) (is [])

-- what a reader that has stopped says
pub stopped :
    (b s : ℕ) (due : NextLine) (part : LinePart) (place read : ℕ) (room : List ℤ) (text : List ℕ) (items : List Line) (o : Option TextStop)
    (stop : TextStop) → o ≡ Some stop → ReadsBehind b s due part place read room text items o → SaysStop b s text stop
stopped b s due part place read room text items o stop some is = says b s text stop (subst (ReadsBehind b s due part place read room text items) some is)

-- a line is due still
pub not_yet :
    (b s : ℕ) (due : NextLine) (part : LinePart) (place read : ℕ) (room : List ℤ) (text : List ℕ) (items : List Line)
    → IsReading b s due part place read room text items → (due ≡ Nothing → ⊥) → SaysStop b s text (Form place)
not_yet b s due part place read room text items is some =
    line_unfinished b s text place (word_of due) (numbers_due b s due) (behind b s (take b room) due) items
    (subst (λ (p : List Kind). Reached b s text place p items) (plan_is b s (take b room) due some) is.reached) is.line

-- no line is due: the text is whole
pub whole_text :
    (b s : ℕ) (due : NextLine) (part : LinePart) (place read : ℕ) (room : List ℤ) (text : List ℕ) (items : List Line)
    → IsReading b s due part place read room text items → due ≡ Nothing → IsTextOf (IsCertText b s) lines text items
whole_text b s due part place read room text items is none = all_there b s text place items
    (subst (λ (d : NextLine). Reached b s text place (plan_due b s (take b room) d) items) none is.reached) (is.done none)

-- a reader that has stopped stands for each longer text
pub rest_on : (r : Reader) (room : List ℤ) (text piece : List ℕ) (items : List Line) (at : ℕ) → (r.stop ≡ None → ⊥)
    → StandsBehind r room (text ++ take at piece) items → StandsBehind r room (text ++ piece) items
rest_on r room text piece items at some is = whole r.stop some is
  where
    joined : (text ++ take at piece) ++ drop at piece ≡ text ++ piece
    joined = append_assoc text (take at piece) (drop at piece) ∙ ap (λ (l : List ℕ). text ++ l) (take-append-drop at piece)

    whole : (o : Option TextStop) → (o ≡ None → ⊥) → ReadsBehind r.shape.bidders r.shape.states r.due r.part r.place r.read room
        (text ++ take at piece) items o → ReadsBehind r.shape.bidders r.shape.states r.due r.part r.place r.read room (text ++ piece) items o
    whole None some is = absurd (some refl)
    whole (Some stop) some is = subst (λ (l : List ℕ). StopsFor r.shape.bidders r.shape.states l stop) joined
        (stands_more r.shape.bidders r.shape.states (text ++ take at piece) (drop at piece) stop is)
