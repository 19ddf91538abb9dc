-- Bytes say one thing.
use Rattle.std.proofs.Common.{List, None, Option, Some, [], ap, arith, inl, inr, length, length-append, refl, subst, sym, take, ℕ, ⊎_elim, ◌++◌, ◌∙◌}
use Rattle.std.proofs.Common.{◌∷◌, ◌≡◌, ◌≤◌, ◌⊎◌}
use Rattle.std.proofs.lemmas.List.{append-nil, take_all}
use Rattle.std.specs.Option.{option_or}
use Rattle.line_format.specs.LineText.{text_of, first_excess, IsTextOf, Front, FaultAt, Exceeds, Said, stated, faulty, beyond, Says}
use Rattle.line_format.proofs.Lines.{SameLines, text_of-append, first_excess-append, compare_lines, GoesOn, StopsWithin}
use Rattle.line_format.specs.Reading.{Runs}
use Rattle.line_format.proofs.Runs.{Reads, runs_lines, runs_split, one_run, front_runs}

module _ {S V O : Type 0} (Sound : S → Type 0) (Step : S → List ℕ → S → Type 0) (excess : S → Option O) (begin : S) (finish : V → S) (IsValid : V → Type 0)
    (lines : V → List (List ℕ × Option O)) (reads : Reads Sound Step excess begin finish IsValid lines) where
  -- the lines of a prefix
  abbrev lines_of : {bytes : List ℕ} → Front IsValid lines bytes → List (List ℕ × Option O)
  lines_of f = take f.count (lines f.value)

  -- of two prefixes of the same bytes one goes on from the other
  fronts : (bytes : List ℕ) (f g : Front IsValid lines bytes)
      → ((after : List (List ℕ × Option O)) × (lines_of f ≡ lines_of g ++ after)) ⊎ ((after : List (List ℕ × Option O)) × (lines_of g ≡ lines_of f ++ after))
  fronts bytes f g =
      let run_f = front_runs Sound Step excess begin finish IsValid lines reads f.value f.count f.valid in
      let run_g = front_runs Sound Step excess begin finish IsValid lines reads g.value g.count g.valid in
      ⊎_elim
      (λ (st : StopsWithin (lines_of f) (lines_of g)).
      let cut = runs_split Step excess begin run_f.0 st.start st.after (subst (λ (r : List (List ℕ × Option O)). Runs Step excess begin r run_f.0) st.whole
      run_f.1) in
      let one = one_run Step excess Sound reads.keeps reads.one_step begin run_g.0 cut.0 reads.begins (lines_of g) st.start st.same run_g.1 cut.1 in
      inl (st.after, st.whole ∙ ap (λ (r : List (List ℕ × Option O)). r ++ st.after) (sym one.0)))
      (λ (on : GoesOn (lines_of f) (lines_of g) f.begins.0).
      let cut = runs_split Step excess begin run_g.0 on.start (on.next ∷ on.after)
      (subst (λ (r : List (List ℕ × Option O)). Runs Step excess begin r run_g.0) on.whole run_g.1) in
      let one = one_run Step excess Sound reads.keeps reads.one_step begin run_f.0 cut.0 reads.begins (lines_of f) on.start on.same run_f.1 cut.1 in
      inr (on.next ∷ on.after, on.whole ∙ ap (λ (r : List (List ℕ × Option O)). r ++ on.next ∷ on.after) (sym one.0)))
      (compare_lines (lines_of f) (lines_of g) f.begins.0 g.begins.0 (runs_lines Step excess begin run_f.0 (lines_of f) run_f.1)
      (runs_lines Step excess begin run_g.0 (lines_of g) run_g.1) (sym f.begins.1 ∙ g.begins.1))

  none_or : (o : Option O) → option_or None o ≡ o
  none_or o = refl

  -- an excess in the prefix stays the first
  stays : (xs after ys : List (List ℕ × Option O)) (o : O) → ys ≡ xs ++ after → first_excess xs ≡ Some o → first_excess ys ≡ Some o
  stays xs after ys o is some = ap first_excess is ∙ first_excess-append xs after ∙ ap (λ (e : Option O). option_or e (first_excess after)) some

  -- lines of no length are none
  no_lines : (xs after : List (List ℕ × Option O)) → length (text_of (xs ++ after)) ≤ length (text_of xs) → after ≡ []
  no_lines xs [] le = refl
  no_lines xs (m ∷ after) le = absurd (omega (
    arith,
    ap length (text_of-append xs (m ∷ after)),
    length-append (text_of xs) (text_of (m ∷ after)),
    length-append m.0 (10 ∷ text_of after),
  ))

  not_both : (o : O) → None ≡ Some o → ⊥
  not_both o is = cc

  -- the whole text as a prefix of itself
  abbrev whole : (bytes : List ℕ) (v : V) → IsTextOf IsValid lines bytes v → Front IsValid lines bytes
  whole bytes v is = record {
    value = v;
    count = length (lines v);
    valid = is.valid;
    begins =
        ([], is.spelled ∙ ap text_of (sym (take_all (length (lines v)) (lines v) (omega arith))) ∙ sym (append-nil _));
  }

  whole_lines : (v : V) → take (length (lines v)) (lines v) ≡ lines v
  whole_lines v = take_all (length (lines v)) (lines v) (omega arith)

  shorter : (bytes start more : List ℕ) → bytes ≡ start ++ more → length start ≤ length bytes
  shorter bytes start more is = omega (arith, ap length is, length-append start more)

  -- a prefix that goes on from the whole text is that text
  no_further : (bytes : List ℕ) (v : V) (is : IsTextOf IsValid lines bytes v) (f : Front IsValid lines bytes) (after : List (List ℕ × Option O))
      → lines_of f ≡ take (length (lines v)) (lines v) ++ after → lines_of f ≡ lines v
  no_further bytes v is f after on =
      let grown : lines_of f ≡ lines v ++ after = on ∙ ap (λ (r : List (List ℕ × Option O)). r ++ after) (whole_lines v) in
      let le : length (text_of (lines v ++ after)) ≤ length (text_of (lines v)) =
      omega (
        arith,
        shorter bytes (text_of (lines_of f)) f.begins.0 f.begins.1,
        ap length is.spelled,
        ap (λ (r : List (List ℕ × Option O)). length (text_of r)) grown,
      ) in
      grown ∙ ap (λ (r : List (List ℕ × Option O)). lines v ++ r) (no_lines (lines v) after le) ∙ append-nil (lines v)

  text_over : (bytes : List ℕ) (v : V) (o : O) → IsTextOf IsValid lines bytes v → Exceeds IsValid lines bytes o → ⊥
  text_over bytes v o is exceeds =
      let f = exceeds.front in
      ⊎_elim
      (λ ((after, on) : (after : List (List ℕ × Option O)) × (lines_of f ≡ take (length (lines v)) (lines v) ++ after)). not_both o
      (sym is.within ∙ ap first_excess (sym (no_further bytes v is f after on)) ∙ exceeds.first))
      (λ ((after, on) : (after : List (List ℕ × Option O)) × (take (length (lines v)) (lines v) ≡ lines_of f ++ after)). not_both o
      (sym is.within ∙ ap first_excess (sym (whole_lines v)) ∙ stays (lines_of f) after _ o on exceeds.first))
      (fronts bytes f (whole bytes v is))

  fault_over : (bytes : List ℕ) (place : ℕ) (o : O) → FaultAt IsValid lines bytes place → Exceeds IsValid lines bytes o → ⊥
  fault_over bytes place o first exceeds =
      let f = exceeds.front in let g = first.front in
      ⊎_elim
      (λ ((after, on) : (after : List (List ℕ × Option O)) × (lines_of f ≡ lines_of g ++ after)).
      let none = no_lines (lines_of g) after (omega (arith, first.longest f, first.here, ap (λ (r : List (List ℕ × Option O)). length (text_of r)) on)) in
      let same : lines_of f ≡ lines_of g = on ∙ ap (λ (r : List (List ℕ × Option O)). lines_of g ++ r) none ∙ append-nil (lines_of g) in
      not_both o (sym first.within ∙ ap first_excess (sym same) ∙ exceeds.first))
      (λ ((after, on) : (after : List (List ℕ × Option O)) × (lines_of g ≡ lines_of f ++ after)). not_both o
      (sym first.within ∙ stays (lines_of f) after _ o on exceeds.first))
      (fronts bytes f g)

  over_over : (bytes : List ℕ) (o p : O) → Exceeds IsValid lines bytes o → Exceeds IsValid lines bytes p → o ≡ p
  over_over bytes o p a b =
      let some : Some o ≡ Some p → o ≡ p = λ is. cc in
      some (⊎_elim
      (λ ((after, on) : (after : List (List ℕ × Option O)) × (lines_of a.front ≡ lines_of b.front ++ after)). sym a.first
      ∙ stays (lines_of b.front) after _ p on b.first)
      (λ ((after, on) : (after : List (List ℕ × Option O)) × (lines_of b.front ≡ lines_of a.front ++ after)). sym
      (stays (lines_of a.front) after _ o on a.first) ∙ b.first)
      (fronts bytes a.front b.front))

  text_text : (bytes : List ℕ) (v w : V) → IsTextOf IsValid lines bytes v → IsTextOf IsValid lines bytes w → v ≡ w
  text_text bytes v w a b =
      let same : lines v ≡ lines w = ⊎_elim
      (λ ((after, on) : (after : List (List ℕ × Option O)) × (take (length (lines v)) (lines v) ≡ take (length (lines w)) (lines w) ++ after)). sym
      (whole_lines v) ∙ no_further bytes w b (whole bytes v a) after on)
      (λ ((after, on) : (after : List (List ℕ × Option O)) × (take (length (lines w)) (lines w) ≡ take (length (lines v)) (lines v) ++ after)). sym
      (sym (whole_lines w) ∙ no_further bytes v a (whole bytes w b) after on))
      (fronts bytes (whole bytes v a) (whole bytes w b)) in
      let self : (r : List (List ℕ × Option O)) → SameLines r r = lines_self in
      reads.one_value v w (one_run Step excess Sound reads.keeps reads.one_step begin (finish v) (finish w) reads.begins (lines v) (lines w)
      (subst (λ (r : List (List ℕ × Option O)). SameLines (lines v) r) same (self (lines v))) (reads.complete v a.valid) (reads.complete w b.valid)).1
    where
      lines_self : (r : List (List ℕ × Option O)) → SameLines r r
      lines_self [] = tt
      lines_self (m ∷ r) = (refl, lines_self r)

  fault_fault : (bytes : List ℕ) (p q : ℕ) → FaultAt IsValid lines bytes p → FaultAt IsValid lines bytes q → p ≡ q
  fault_fault bytes p q a b = omega (arith, a.here, b.here, a.longest b.front, b.longest a.front)

  -- two answers that the bytes give, each a value, the place of a fault or an excess, are the same
  pub one_answer : (bytes : List ℕ) (x y : Said V O) → Says IsValid lines bytes x → Says IsValid lines bytes y → x ≡ y
  one_answer bytes (stated v) (stated w) a b = ap stated (text_text bytes v w a b)
  one_answer bytes (stated v) (faulty q) a b = absurd (b.no_text v a.valid a.spelled)
  one_answer bytes (stated v) (beyond p) a b = absurd (text_over bytes v p a b)
  one_answer bytes (faulty p) (stated w) a b = absurd (a.no_text w b.valid b.spelled)
  one_answer bytes (faulty p) (faulty q) a b = ap faulty (fault_fault bytes p q a b)
  one_answer bytes (faulty p) (beyond o) a b = absurd (fault_over bytes p o a b)
  one_answer bytes (beyond o) (stated w) a b = absurd (text_over bytes w o b a)
  one_answer bytes (beyond o) (faulty q) a b = absurd (fault_over bytes q o b a)
  one_answer bytes (beyond o) (beyond p) a b = ap beyond (over_over bytes o p a b)
