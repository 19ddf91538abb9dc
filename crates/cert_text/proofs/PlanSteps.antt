-- How lines that are read lead on through a plan, and where a reader halts.
use Rattle.std.proofs.Common.{◌≡◌, ℕ, ◌+◌, ◌<◌, Bool, true, false, List, [], ◌∷◌, ◌++◌, length, take, drop, refl, sym, ap, subst, ◌∙◌, arith, append_assoc}
use Rattle.std.specs.Prelude.{ℤ, ◌^◌, nat_le, ◌||◌, unsigned_abs}
use Rattle.std.proofs.lemmas.Bool.Decides.{nat_tests}
use Rattle.std.proofs.lemmas.List.{append-nil}
use Rattle.line_format.specs.LineText.{IsLine}
use Rattle.line_format.specs.Numeral.{numbers_text}
use Rattle.cert_grammar.specs.Lines.{Line, Kind, Numbers, kind, FitNumbers, after_numbers}
use Rattle.line_format.specs.Range.{AllInRange, any_out, is_out}
use Rattle.cert_grammar.specs.CertText.{line}
use Rattle.cert_grammar.specs.Reading.{ReachedBy}
use Rattle.cert_grammar.proofs.Reading.{reached-missing, reached-next, reached-beyond, reached-refused}
use Rattle.line_format.proofs.Words.{one_behind}
use Rattle.cert_text.specs.Readers.{AreLike, IsLineAt, Leads, Halts}
use Rattle.cert_text.specs.declared.stop.CertStop.{CertStop}
use Rattle.cert_text.specs.declared.stop.CertStop.TheVariants.{Form, Range}

-- the test of the range
pub below : (x : ℕ) → nat_le (2 ^ 120) x ≡ false → x < 2 ^ 120
below x is = grind (arith, nat_tests, is)

-- numbers of which none is out of range
pub all_in : (ns : List ℤ) → any_out ns ≡ false → AllInRange ns
all_in [] e = tt
all_in (n ∷ ns) e = first (is_out n) refl e (λ r. all_in ns r)
  where
    first : (b : Bool) → is_out n ≡ b → (b || any_out ns) ≡ false → (any_out ns ≡ false → AllInRange ns) → AllInRange (n ∷ ns)
    first true is e more = cc e
    first false is e more = (below (unsigned_abs n) is, more e)

-- a kind of numbers is like itself
pub same_kind : (n : Numbers) → AreLike n n
same_kind n = record { to = λ ns f. f; from = λ ns f. f }

module _ (bytes : List ℕ) (place : ℕ) where
  -- nothing is read yet
  pub leads_none : (kinds : List Kind) → Leads bytes place kinds place kinds []
  leads_none kinds = record {
    leads = λ whole plan items here. subst (λ (l : List Line). ReachedBy whole bytes place (kinds ++ plan) l)
        (sym (append-nil items)) here;
  }

  -- one after the other
  pub leads_on : (kinds : List Kind) (next : ℕ) (left : List Kind) (read : List Line) (last : ℕ) (end : List Kind) (more : List Line)
      → Leads bytes place kinds next left read → Leads bytes next left last end more → Leads bytes place kinds last end (read ++ more)
  leads_on kinds next left read last end more first second = record {
    leads = λ whole plan items here. subst (λ (l : List Line). ReachedBy whole bytes last (end ++ plan) l) (append_assoc items read more)
        (second.leads whole plan (items ++ read) (first.leads whole plan items here));
  }

  -- with more to come after
  pub leads_before : (kinds : List Kind) (next : ℕ) (left : List Kind) (read : List Line) (behind : List Kind) → Leads bytes place kinds next left read
      → Leads bytes place (kinds ++ behind) next (left ++ behind) read
  leads_before kinds next left read behind l = record {
    leads = λ whole plan items here. subst (λ (p : List Kind). ReachedBy whole bytes next p (items ++ read)) (sym (append_assoc left behind plan))
        (l.leads whole (behind ++ plan) items (subst (λ (p : List Kind). ReachedBy whole bytes place p items) (append_assoc kinds behind plan) here));
  }

  -- what halts at the first kinds halts with more to come after
  pub halts_before : (kinds : List Kind) (stop : CertStop) (behind : List Kind) → Halts bytes place kinds stop → Halts bytes place (kinds ++ behind) stop
  halts_before kinds stop behind h = record {
    halts = λ whole plan items here. h.halts whole (behind ++ plan) items
        (subst (λ (p : List Kind). ReachedBy whole bytes place p items) (append_assoc kinds behind plan) here);
  }

  -- halts after lines that were read
  pub halts_later : (kinds : List Kind) (next : ℕ) (left : List Kind) (read : List Line) (stop : CertStop) → Leads bytes place kinds next left read
      → Halts bytes next left stop → Halts bytes place kinds stop
  halts_later kinds next left read stop l h = record { halts = λ whole plan items here. h.halts whole plan (items ++ read) (l.leads whole plan items here) }

  -- kinds of lines, and after them others
  pub leads_then : (kinds : List Kind) (next : ℕ) (read : List Line) (others : List Kind) (last : ℕ) (more : List Line) → Leads bytes place kinds next [] read
      → Leads bytes next others last [] more → Leads bytes place (kinds ++ others) last [] (read ++ more)
  leads_then kinds next read others last more first second = leads_on (kinds ++ others) next others read last [] more
      (leads_before kinds next [] read others first) second

  -- halts at the kinds after those that were read
  pub halts_then : (kinds : List Kind) (next : ℕ) (read : List Line) (others : List Kind) (stop : CertStop) → Leads bytes place kinds next [] read
      → Halts bytes next others stop → Halts bytes place (kinds ++ others) stop
  halts_then kinds next read others stop first halt = halts_later (kinds ++ others) next others read stop (leads_before kinds next [] read others first) halt

  module _ (word : List ℕ) (n : Numbers) where
    -- if no line feed is left, the line is of wrong form
    pub line_missing : IsLine (drop place bytes) → Halts bytes place (kind word n ∷ []) (Form place)
    line_missing none = record { halts = λ whole plan items here. reached-missing bytes place (kind word n) plan items here none }

    -- a line that isn't the word with numbers is of wrong form
    pub line_none : (size : ℕ) → IsLine (take size (drop place bytes)) → drop size (drop place bytes) ≡ 10 ∷ drop (size + 1) (drop place bytes)
        → ((ns : List ℤ) → take size (drop place bytes) ≡ word ++ numbers_text ns → ⊥) → Halts bytes place (kind word n ∷ []) (Form place)
    line_none size is_line feed none = record {
      halts = λ whole plan items here. reached-refused bytes place (kind word n) plan items here size is_line feed
          (λ l fits e. none l.numbers (e ∙ ap (λ (w : List ℕ). w ++ numbers_text l.numbers) fits.word));
    }

    module _ (kept : List ℤ) (beyond : Bool) (next : ℕ) (at : IsLineAt bytes place word kept beyond next) where
      -- a line whose numbers are in range and fit is read, and what it asks for is to come
      pub line_next : beyond ≡ false → FitNumbers n kept → Leads bytes place (kind word n ∷ []) next (after_numbers n kept) (line word kept ∷ [])
      line_next inside fit =
          let same : kept ≡ at.numbers = at.same inside in
          record {
            leads = λ whole plan items here. subst (λ (p : ℕ). ReachedBy whole bytes p (after_numbers n kept ++ plan) (items ++ line word kept ∷ []))
                (sym at.next_is)
                (reached-next bytes place (kind word n) plan items here at.size at.is_line at.feed (line word kept)
                (record { word = refl; numbers = fit }) (at.spelled ∙ ap (λ (ns : List ℤ). word ++ numbers_text ns) (sym same))
                (ap any_out same ∙ at.out ∙ inside) at.inside);
          }

      -- a line whose numbers don't fit is of wrong form
      pub line_unfit : ((ns : List ℤ) → length kept ≡ length ns → (beyond ≡ false → kept ≡ ns) → any_out ns ≡ beyond → FitNumbers n ns → ⊥)
          → Halts bytes place (kind word n ∷ []) (Form place)
      line_unfit other = record {
        halts = λ whole plan items here. reached-refused bytes place (kind word n) plan items here at.size at.is_line at.feed
            (λ l fits e. let same : at.numbers ≡ l.numbers = one at.numbers l.numbers
            (sym at.spelled ∙ e ∙ ap (λ (w : List ℕ). w ++ numbers_text l.numbers) fits.word) in
            other at.numbers at.count at.same at.out (subst (FitNumbers n) (sym same) fits.numbers));
      }
        where
          one : (ns ms : List ℤ) → word ++ numbers_text ns ≡ word ++ numbers_text ms → ns ≡ ms
          one ns ms e = one_behind word ns ms e

      -- a line of right form with a number out of range is the first beyond the range
      pub line_out : beyond ≡ true → ((ns : List ℤ) → length kept ≡ length ns → FitNumbers n ns) → Halts bytes place (kind word n ∷ []) (Range place)
      line_out out fit = record {
        halts = λ whole plan items here. reached-beyond bytes place (kind word n) plan items here at.size at.is_line at.feed (line word at.numbers)
            (record { word = refl; numbers = fit at.numbers at.count }) at.spelled (at.out ∙ out);
      }

      -- if none is out of range, the numbers kept are in range
      pub line_range : beyond ≡ false → AllInRange kept
      line_range inside = all_in kept (ap any_out (at.same inside) ∙ at.out ∙ inside)
