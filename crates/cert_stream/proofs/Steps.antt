-- One more byte of a line.
use Rattle.std.proofs.Common.{Bool, List, [], ap, append_assoc, arith, false, length, refl, subst, suc, sym, take, true, zero, ℕ, ◌*◌, ◌++◌, ◌+◌, ◌-◌}
use Rattle.std.proofs.Common.{◌<◌, ◌∙◌, ◌∷◌, ◌≡◌, ◌≢◌, ◌≤◌}
use Rattle.std.proofs.lemmas.List.{take_all, append_cancel_left}
use Rattle.std.specs.Prelude.{ℤ, pos, negsuc, unsigned_abs}
use Rattle.line_format.specs.Numeral.{numbers_text, numeral, signed_numeral}
use Rattle.wide_num.proofs.Decimal.{IsDigit, IsNumeral}
use Rattle.line_format.proofs.Numerals.{numeral-one, numeral_is}
use Rattle.cert_stream.specs.declared.line.tally.Magnitude.{Magnitude}
use Rattle.cert_stream.specs.Tallies.{IsTally}
use Rattle.cert_stream.specs.Partway.{IsBelow, IsOpen, IsRefused}
use Rattle.line_format.proofs.FieldRuns.{numbers-push}
use Rattle.cert_stream.proofs.Fronts.{next_number, first_byte, minus_byte, other_byte, zero_byte, some_byte, numeral_push}

module _ (word : List ℕ) (ns : List ℤ) (tail bytes : List ℕ) (is : bytes ≡ word ++ (numbers_text ns ++ tail)) where
  -- what follows the numbers of a line that begins so
  pub behind : (x : List ℕ) (ms : List ℤ) → bytes ++ x ≡ word ++ numbers_text ms → numbers_text ns ++ (tail ++ x) ≡ numbers_text ms
  behind x ms e =
      sym (append_assoc (numbers_text ns) tail x)
      ∙ append_cancel_left word ((numbers_text ns ++ tail) ++ x) (numbers_text ms)
      (sym (append_assoc word (numbers_text ns ++ tail) x) ∙ ap (λ (l : List ℕ). l ++ x) (sym is) ∙ e)

  -- and where nothing follows
  pub behind_last : (ms : List ℤ) → bytes ≡ word ++ numbers_text ms → numbers_text ns ++ tail ≡ numbers_text ms
  behind_last ms e = append_cancel_left word (numbers_text ns ++ tail) (numbers_text ms) (sym is ∙ e)

  -- more bytes after the numbers
  pub longer : (x : List ℕ) → bytes ++ x ≡ word ++ (numbers_text ns ++ (tail ++ x))
  longer x = ap (λ (l : List ℕ). l ++ x) is ∙ append_assoc word (numbers_text ns ++ tail) x ∙ ap (λ (l : List ℕ). word ++ l)
      (append_assoc (numbers_text ns) tail x)

module _ (word : List ℕ) (ns : List ℤ) (bytes : List ℕ) (c : ℕ) where
  -- after a space neither a digit nor a minus
  pub space_refused : bytes ≡ word ++ (numbers_text ns ++ 32 ∷ []) → c ≢ 45 → (IsDigit c → ⊥) → IsRefused word bytes c
  space_refused is minus digit = record {
    ended = λ e ms text. let m = next_number ns ms [] (behind_last word ns (32 ∷ []) bytes is ms text) in some_byte m.0 (numbers_text m.1) m.2;
    inside = λ e ms rest text. let m = next_number ns ms (c ∷ rest) (behind word ns (32 ∷ []) bytes is (c ∷ rest) ms text) in
        digit (first_byte m.0 c rest (numbers_text m.1) m.2 minus);
  }

  -- after a minus no digit above 0
  pub minus_refused : bytes ≡ word ++ (numbers_text ns ++ 32 ∷ 45 ∷ []) → (IsDigit c → 48 < c → ⊥) → IsRefused word bytes c
  minus_refused is digit = record {
    ended = λ e ms text. let m = next_number ns ms (45 ∷ []) (behind_last word ns (32 ∷ 45 ∷ []) bytes is ms text) in lone m.0 (numbers_text m.1) m.2;
    inside = λ e ms rest text. let m = next_number ns ms (45 ∷ c ∷ rest) (behind word ns (32 ∷ 45 ∷ []) bytes is (c ∷ rest) ms text) in let d =
        minus_byte m.0 c rest (numbers_text m.1) m.2 in digit d.0 d.1;
  }
    where
      lone : (m : ℤ) (s : List ℕ) → 45 ∷ [] ≡ signed_numeral m ++ s → ⊥
      lone (pos n) s e = at (numeral n) (numeral_is n) e
        where
          at : (ds : List ℕ) → IsNumeral ds n → 45 ∷ [] ≡ ds ++ s → ⊥
          at [] is e = omega (arith, is.some)
          at (x ∷ ds) is e = let same : x ≡ 45 = cc in omega (arith, is.digits.0.0, same)
      lone (negsuc n) s e = some_byte (pos (suc n)) s cc

  -- after the word neither a space nor a line feed
  pub word_refused : (count : ℕ) → length word ≤ count → bytes ≡ take count word → c ≢ 32 → c ≢ 10 → IsRefused word bytes c
  word_refused count le is space feed = record {
    ended = λ e. absurd (feed e);
    inside = λ e ms rest text. first ms rest (append_cancel_left word (c ∷ rest) (numbers_text ms)
        (ap (λ (l : List ℕ). l ++ c ∷ rest) (sym (is ∙ take_all count word le)) ∙ text));
  }
    where
      first : (ms : List ℤ) (rest : List ℕ) → c ∷ rest ≡ numbers_text ms → ⊥
      first [] rest e = cc
      first (m ∷ ms) rest e = space cc

  -- the last number after its space
  whole : (z : ℤ) → bytes ≡ word ++ numbers_text (ns ++ z ∷ []) → bytes ≡ word ++ (numbers_text ns ++ 32 ∷ signed_numeral z)
  whole z is = is ∙ ap (λ (l : List ℕ). word ++ l) (numbers-push ns z)

  -- after digits neither a digit, a space nor a line feed; after 0 no digit
  pub digit_refused : (z : ℤ) → bytes ≡ word ++ numbers_text (ns ++ z ∷ []) → c ≢ 32 → c ≢ 10 → (IsDigit c → unsigned_abs z ≡ 0) → IsRefused word bytes c
  digit_refused z is space feed digit = record {
    ended = λ e. absurd (feed e);
    inside = λ e ms rest text.
        let m = next_number ns ms (signed_numeral z ++ c ∷ rest) (behind word ns (32 ∷ signed_numeral z) bytes (whole z is) (c ∷ rest) ms text) in
        other_byte z m.0 c rest m.1 space (λ d. zero z m.0 rest m.1 d (digit d) m.2) m.2;
  }
    where
      zero : (z m : ℤ) (rest : List ℕ) (more : List ℤ) → IsDigit c → unsigned_abs z ≡ 0 → signed_numeral z ++ c ∷ rest ≡ signed_numeral m ++ numbers_text more
          → ⊥
      zero (pos n) m rest more d none e = zero_byte m c rest more d (ap (λ (l : List ℕ). l ++ c ∷ rest) (sym (ap numeral none ∙ numeral-one 0 (omega arith)))
          ∙ e)
      zero (negsuc n) m rest more d none e = omega (arith, none)

  -- a digit after a space
  pub space_digit : (t : Magnitude) → bytes ≡ word ++ (numbers_text ns ++ 32 ∷ []) → IsDigit c → IsTally t (c - 48)
      → (z : ℤ) × IsOpen false t z × (bytes ++ c ∷ [] ≡ word ++ numbers_text (ns ++ z ∷ []))
  space_digit t is digit tally =
      let one : numeral (c - 48) ≡ c ∷ [] = numeral-one (c - 48) (omega (arith, digit)) ∙ ap (λ (k : ℕ). k ∷ []) (omega (arith, digit)) in (
        pos (c - 48),
        record { sign = refl; size = tally },
        longer word ns (32 ∷ []) bytes is (c ∷ []) ∙ ap (λ (l : List ℕ). word ++ (numbers_text ns ++ 32 ∷ l)) (sym one)
            ∙ ap (λ (l : List ℕ). word ++ l) (sym (numbers-push ns (pos (c - 48)))),
      )

  -- a digit after a minus
  pub minus_digit : (t : Magnitude) → bytes ≡ word ++ (numbers_text ns ++ 32 ∷ 45 ∷ []) → IsDigit c → 48 < c → IsTally t (c - 48)
      → (z : ℤ) × IsOpen true t z × (bytes ++ c ∷ [] ≡ word ++ numbers_text (ns ++ z ∷ []))
  minus_digit t is digit some tally =
      let one : numeral (suc (c - 49)) ≡ c ∷ [] = numeral-one (suc (c - 49)) (omega (arith, digit, some))
      ∙ ap (λ (k : ℕ). k ∷ []) (omega (arith, digit, some)) in (
        negsuc (c - 49),
        record { sign = refl; size = subst (IsTally t) (omega (arith, some)) tally },
        longer word ns (32 ∷ 45 ∷ []) bytes is (c ∷ []) ∙ ap (λ (l : List ℕ). word ++ (numbers_text ns ++ 32 ∷ 45 ∷ l)) (sym one)
            ∙ ap (λ (l : List ℕ). word ++ l) (sym (numbers-push ns (negsuc (c - 49)))),
      )

  -- one more digit
  pub digit_more : (negative : Bool) (t u : Magnitude) (z : ℤ) → IsOpen negative t z → bytes ≡ word ++ numbers_text (ns ++ z ∷ []) → IsDigit c
      → (unsigned_abs z ≡ 0 → ⊥) → IsTally u (10 * unsigned_abs z + (c - 48)) → (x : ℤ) × IsOpen negative u x
      × (bytes ++ c ∷ [] ≡ word ++ numbers_text (ns ++ x ∷ []))
  digit_more negative t u z last is digit some tally =
      let one = pushed z last.sign some tally in (
        one.0,
        one.1,
        longer word ns (32 ∷ signed_numeral z) bytes (whole z is) (c ∷ []) ∙ ap (λ (l : List ℕ). word ++ (numbers_text ns ++ 32 ∷ l)) (sym one.2)
            ∙ ap (λ (l : List ℕ). word ++ l) (sym (numbers-push ns one.0)),
      )
    where
      positive : (n : ℕ) → (n ≡ 0 → ⊥) → 0 < n
      positive zero some = absurd (some refl)
      positive (suc n) some = omega arith

      pushed : (z : ℤ) → IsBelow negative z → (unsigned_abs z ≡ 0 → ⊥) → IsTally u (10 * unsigned_abs z + (c - 48))
          → (x : ℤ) × IsOpen negative u x × (signed_numeral x ≡ signed_numeral z ++ c ∷ [])
      pushed (pos n) sign some tally = (
        pos (10 * n + (c - 48)),
        record { sign = sign; size = tally },
        numeral_push n (c - 48) (positive n some) (omega (arith, digit)) ∙ ap (λ (k : ℕ). numeral n ++ k ∷ []) (omega (arith, digit)),
      )
      pushed (negsuc n) sign some tally =
          let v = 10 * suc n + (c - 48) in
          let back : suc (v - 1) ≡ v = omega arith in (
            negsuc (v - 1),
            record { sign = sign; size = subst (IsTally u) (sym back) tally },
            ap (λ (l : List ℕ). 45 ∷ l) (ap numeral back ∙ numeral_push (suc n) (c - 48) (omega arith) (omega (arith, digit))
                ∙ ap (λ (k : ℕ). numeral (suc n) ++ k ∷ []) (omega (arith, digit))),
          )
