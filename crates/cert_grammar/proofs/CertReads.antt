-- The plan of either certificate can always be gone on with, and a line has one reading: so the reader of its lines reads just its texts.
use Rattle.std.proofs.Common.{◌≡◌, ℕ, suc, zero, ◌^◌, ◌<◌, Bool, true, false, List, [], ◌∷◌, ◌++◌, length, refl, sym, ap, subst, ◌∙◌, arith, IsTrue}
use Rattle.std.specs.Prelude.{ℤ, pos, negsuc, map, replicate, ◌&&◌, not, ◌==◌, codes}
use Rattle.std.proofs.lemmas.Int.{ints}
use Rattle.std.proofs.lemmas.Bool.{and_parts, not-true, eqb-false}
use Rattle.std.proofs.lemmas.List.{append_cancel_left}
use Rattle.line_format.specs.LineText.{IsLine, Said, Says}
use Rattle.line_format.proofs.Lines.{line_append}
use Rattle.line_format.proofs.Runs.{Reads}
use Rattle.line_format.proofs.OneAnswer.{one_answer}
use Rattle.line_format.specs.Numeral.{numeral, signed_numeral, numbers_text}
use Rattle.cert_grammar.specs.Plan.{Follows, Stage, StepTo, excess, begin, finish}
use Rattle.cert_grammar.specs.Lines.{AreNumbers, FitNumbers, Fits, IsCertText, IsPlacesText, Kind, Line, Numbers, after, after_numbers, body_plan}
use Rattle.cert_grammar.specs.Lines.{cert_plan, chosen, counted, first_size, headed, is_first_version, just_line, kind, lines, members, ordered_count}
use Rattle.cert_grammar.specs.Lines.{ordered_head, ordered_part_plan, ordered_parts_plan, ordered_rows_plan, over, part_plan, parts_plan, places_plan}
use Rattle.cert_grammar.specs.Lines.{rows_plan, set_table_plan, signed, spell, table_plan, these, unless_zero, version_of, version_plan}
use Rattle.cert_grammar.specs.Reading.{AreFineNumbers, Fine}
use Rattle.cert_grammar.proofs.PlanReads.{follows_both, reads}
use Rattle.wide_num.proofs.Decimal.{AreDigits}
use Rattle.line_format.proofs.Numerals.{numeral_is, one_numbers}

-- no line feed, as a test
abbrev has_no_feed : List ℕ → Bool
has_no_feed [] = true
has_no_feed (c ∷ cs) = not (c == 10) && has_no_feed cs

no_feeds : (cs : List ℕ) → IsTrue (has_no_feed cs) → IsLine cs
no_feeds [] t = tt
no_feeds (c ∷ cs) t = let p = and_parts (not (c == 10)) (has_no_feed cs) t in (eqb-false c 10 (not-true (c == 10) p.0), no_feeds cs p.1)

digits_line : (cs : List ℕ) → AreDigits cs → IsLine cs
digits_line [] d = tt
digits_line (c ∷ cs) d = (λ e. omega (arith, d.0.0, e), digits_line cs d.1)

signed_line : (n : ℤ) → IsLine (signed_numeral n)
signed_line (pos n) = digits_line (numeral n) (numeral_is n).digits
signed_line (negsuc n) = (λ e. omega (arith, e), digits_line (numeral (suc n)) (numeral_is (suc n)).digits)

numbers_line : (ns : List ℤ) → IsLine (numbers_text ns)
numbers_line [] = tt
numbers_line (n ∷ ns) = (λ e. omega (arith, e), line_append (signed_numeral n) (numbers_text ns) (signed_line n) (numbers_line ns))

one_line : (k : Kind) (a b : Line) → Fits k a → Fits k b → spell a ≡ spell b → a ≡ b
one_line k a b fa fb e =
    let words : a.word ≡ b.word = fa.word ∙ sym fb.word in
    let texts : a.word ++ numbers_text a.numbers ≡ a.word ++ numbers_text b.numbers = e ∙ ap (λ (w : List ℕ). w ++ numbers_text b.numbers) (sym words) in
    let numbers : a.numbers ≡ b.numbers = one_numbers a.numbers b.numbers (append_cancel_left a.word _ _ texts) in
    ap (λ (w : List ℕ). record { word = w; numbers = a.numbers }) words ∙ ap (λ (n : List ℤ). record { word = b.word; numbers = n }) numbers

-- kinds of which each has a line, the choice of a head left out
abbrev ArePlainNumbers : Numbers → Type 0
ArePlainNumbers (these ms) = Unit {0}
ArePlainNumbers (signed n) = Unit {0}
ArePlainNumbers (chosen n) = Unit {0}
ArePlainNumbers (headed n s) = ⊥
ArePlainNumbers (counted n) = Unit {0}
ArePlainNumbers (members n) = 0 < n
ArePlainNumbers (ordered_head n) = ⊥
ArePlainNumbers (ordered_count n) = Unit {0}

fine_from : (n : Numbers) → ArePlainNumbers n → AreFineNumbers n
fine_from (these ms) p = tt
fine_from (signed n) p = tt
fine_from (chosen n) p = tt
fine_from (headed n s) p = tt
fine_from (counted n) p = tt
fine_from (members n) p = p
fine_from (ordered_head n) p = tt
fine_from (ordered_count n) p = tt

abbrev Plain : List Kind → Type 0
Plain [] = Unit {0}
Plain (k ∷ ks) = IsLine k.word × ArePlainNumbers k.numbers × Plain ks

plain_append : (xs ys : List Kind) → Plain xs → Plain ys → Plain (xs ++ ys)
plain_append [] ys a b = b
plain_append (x ∷ xs) ys a b = (a.0, a.1, plain_append xs ys a.2 b)

fine_append : (xs ys : List Kind) → Plain xs → Fine ys → Fine (xs ++ ys)
fine_append [] ys a b = b
fine_append (x ∷ xs) ys a b = (a.0, fine_from x.numbers a.1, fine_append xs ys a.2 b)

plain_table : (n s : ℕ) → Plain (replicate n (kind (codes "t") (signed s)))
plain_table zero s = tt
plain_table (suc n) s = (no_feeds (codes "t") refl, tt, plain_table n s)

plain_unless : (n : ℤ) (ks : List Kind) → Plain ks → Plain (unless_zero n ks)
plain_unless (pos zero) ks p = tt
plain_unless (pos (suc n)) ks p = p
plain_unless (negsuc n) ks p = p

plain_named : (n s : ℕ) → Plain (kind (codes "table") (these []) ∷ replicate n (kind (codes "t") (signed s)))
plain_named n s = (no_feeds (codes "table") refl, tt, plain_table n s)

plain_parts : (b s j : ℕ) (ns : List ℤ) → Plain (parts_plan b s j ns)
plain_parts b s j [] = tt
plain_parts b s j (n ∷ ns) = plain_append (unless_zero n (part_plan b s j)) (parts_plan b s (suc j) ns) (plain_unless n (part_plan b s j) own)
    (plain_parts b s (suc j) ns)
  where
    own : Plain (part_plan b s j)
    own = (no_feeds (codes "without") refl, tt, (no_feeds (codes "choice") refl, tt, plain_named (suc b) s))

plain_ordered_parts : (b j : ℕ) (ns : List ℤ) → Plain (ordered_parts_plan b j ns)
plain_ordered_parts b j [] = tt
plain_ordered_parts b j (n ∷ ns) = plain_append (unless_zero n (ordered_part_plan b j)) (ordered_parts_plan b (suc j) ns)
    (plain_unless n (ordered_part_plan b j) own) (plain_ordered_parts b (suc j) ns)
  where
    own : Plain (ordered_part_plan b j)
    own = (no_feeds (codes "without") refl, tt, (no_feeds (codes "order") refl, tt, (no_feeds (codes "choice") refl, tt, plain_named 1 (2 ^ b))))

plain_rows : (b r : ℕ) → (0 < r → 0 < b) → Plain (rows_plan b r)
plain_rows b zero h = tt
plain_rows b (suc r) h = (
  no_feeds (codes "row") refl,
  h (omega arith),
  (
    no_feeds (codes "mult") refl,
    tt,
    (no_feeds (codes "choice") refl, tt, plain_rows b r (λ some. h (omega arith))),
  ),
)

plain_ordered_rows : (b r : ℕ) → (0 < r → 0 < b) → Plain (ordered_rows_plan b r)
plain_ordered_rows b zero h = tt
plain_ordered_rows b (suc r) h = (
  no_feeds (codes "row") refl,
  h (omega arith),
  (
    no_feeds (codes "mult") refl,
    tt,
    (no_feeds (codes "order") refl, tt, (no_feeds (codes "choice") refl, tt, plain_ordered_rows b r (λ some. h (omega arith)))),
  ),
)

-- the count of rows that is read
some_row : (b : ℕ) (ns : List ℤ) → FitNumbers (counted b) ns → 0 < first_size ns → 0 < b
some_row b ns f some = f.3 (subst (λ (l : List ℤ). 0 < first_size l) f.1 some)

plain_after : (n : Numbers) (ns : List ℤ) → FitNumbers n ns → Plain (after_numbers n ns)
plain_after (these ms) ns f = tt
plain_after (signed n) ns f = tt
plain_after (chosen n) ns f = tt
plain_after (headed b s) ns f = plain_append (kind (codes "table") (these []) ∷ table_plan b s) (parts_plan b s 1 ns) (plain_named (suc b) s)
    (plain_parts b s 1 ns)
plain_after (counted b) ns f = plain_rows b (first_size ns) (some_row b ns f)
plain_after (members b) ns f = tt
plain_after (ordered_head b) ns f = plain_append (kind (codes "table") (these []) ∷ set_table_plan b) (ordered_parts_plan b 1 ns) (plain_named 1 (2 ^ b))
    (plain_ordered_parts b 1 ns)
plain_after (ordered_count b) ns f = plain_ordered_rows b (first_size ns) (some_row b ns f)

fine_after : (k : Kind) (ks : List Kind) (l : Line) → Fine (k ∷ ks) → Fits k l → Fine (after k l ++ ks)
fine_after k ks l ok fits = fine_append (after k l) ks (plain_after k.numbers l.numbers fits.numbers) ok.2

zeros_length : (n : ℕ) → length (replicate n (pos 0)) ≡ n
zeros_length zero = refl
zeros_length (suc n) = ap suc (zeros_length n)

zeros_numbers : (n : ℕ) → AreNumbers 65535 (replicate n (pos 0))
zeros_numbers zero = tt
zeros_numbers (suc n) = (omega (arith, ints), omega (arith, ints), zeros_numbers n)

-- a line of its own kind, with nothing after it
one_of : (k : Kind) → ArePlainNumbers k.numbers → (is : List Line) × Follows Fits after (k ∷ []) is
one_of k plain = own k.word k.numbers plain
  where
    own : (w : List ℕ) (n : Numbers) → ArePlainNumbers n → (is : List Line) × Follows Fits after (kind w n ∷ []) is
    own w (these ms) p = (record { word = w; numbers = ms } ∷ [], (record { word = refl; numbers = refl }, tt))
    own w (signed n) p = (record { word = w; numbers = replicate n (pos 0) } ∷ [], (record { word = refl; numbers = zeros_length n }, tt))
    own w (chosen n) p = (record { word = w; numbers = replicate n (pos 0) } ∷ [], (record { word = refl; numbers = (zeros_length n, zeros_numbers n) }, tt))
    own w (headed n s) p = absurd p
    own w (counted n) p = (
      record { word = w; numbers = pos 0 ∷ [] } ∷ [],
      (
        record
            { word = refl; numbers = (0, refl, omega arith, λ some. absurd (omega (arith, some))) },
        tt,
      ),
    )
    own w (members n) p = (
      record { word = w; numbers = pos 1 ∷ [] } ∷ [],
      (
        record
            { word = refl; numbers = (omega arith, (omega (arith, ints), omega (arith, ints, p), tt)) },
        tt,
      ),
    )
    own w (ordered_head n) p = absurd p
    own w (ordered_count n) p = (
      record { word = w; numbers = pos 0 ∷ [] } ∷ [],
      (record { word = refl; numbers = (0, refl, omega arith, λ some. absurd (omega (arith, some))) }, tt),
    )

completes_plain : (ks : List Kind) → Plain ks → (is : List Line) × Follows Fits after ks is
completes_plain [] p = ([], tt)
completes_plain (k ∷ ks) p =
    let own = one_of k p.1 in
    let rest = completes_plain ks p.2 in
    (own.0 ++ rest.0, follows_both Fits after (k ∷ []) ks own.0 rest.0 own.1 rest.1)

-- a line of these numbers, and what comes after it
led : (w : List ℕ) (n : Numbers) (ns : List ℤ) → FitNumbers n ns → (is : List Line) × Follows Fits after (kind w n ∷ []) is
led w n ns fit =
    let rest = completes_plain (after_numbers n ns ++ []) (plain_append (after_numbers n ns) [] (plain_after n ns fit) tt) in
    (record { word = w; numbers = ns } ∷ rest.0, (record { word = refl; numbers = fit }, rest.1))

completes_one : (k : Kind) → AreFineNumbers k.numbers → (is : List Line) × Follows Fits after (k ∷ []) is
completes_one k fine = own k.word k.numbers fine
  where
    own : (w : List ℕ) (n : Numbers) → AreFineNumbers n → (is : List Line) × Follows Fits after (kind w n ∷ []) is
    own w (these ms) p = one_of (kind w (these ms)) tt
    own w (signed n) p = one_of (kind w (signed n)) tt
    own w (chosen n) p = one_of (kind w (chosen n)) tt
    own w (headed n s) p = led w (headed n s) (replicate n (pos 0)) (zeros_length n, zeros_numbers n)
    own w (counted n) p = one_of (kind w (counted n)) tt
    own w (members n) p = one_of (kind w (members n)) p
    own w (ordered_head n) p = led w (ordered_head n) (replicate n (pos 0)) (zeros_length n, zeros_numbers n)
    own w (ordered_count n) p = one_of (kind w (ordered_count n)) tt

completes : (ks : List Kind) → Fine ks → (is : List Line) × Follows Fits after ks is
completes [] p = ([], tt)
completes (k ∷ ks) p =
    let own = completes_one k p.1 in
    let rest = completes ks p.2 in
    (own.0 ++ rest.0, follows_both Fits after (k ∷ []) ks own.0 rest.0 own.1 rest.1)

-- the lines of either version are plain
plain_version : (first : Bool) → Plain (map just_line (version_of first))
plain_version true = (no_feeds (codes "cert") refl, tt, tt)
plain_version false = (no_feeds (codes "cert") refl, tt, (no_feeds (codes "limits") refl, tt, tt))

fine_body : (b s : ℕ) → Fine (body_plan b s)
fine_body b s =
    let last = fine_append (table_plan b s) (kind (codes "end") (these []) ∷ []) (plain_table (suc b) s) (no_feeds (codes "end") refl, tt, tt) in (
      no_feeds (codes "den") refl,
      tt,
      (
        no_feeds (codes "value") refl,
        tt,
        (
          no_feeds (codes "choice") refl,
          tt,
          (
            no_feeds (codes "pay") refl,
            tt,
            (
              no_feeds (codes "rows") refl,
              tt,
              (no_feeds (codes "lowered") refl, tt, last),
            ),
          ),
        ),
      ),
    )

-- the plan of a certificate can be gone on with
pub fine_cert : (b s : ℕ) → Fine (cert_plan b s)
fine_cert b s = fine_append (version_plan b s) (body_plan b s) (plain_version (is_first_version b s)) (fine_body b s)

-- so can that of a certificate of places
pub fine_places : (b : ℕ) → Fine (places_plan b)
fine_places b =
    let last = fine_append (set_table_plan b) (kind (codes "end") (these []) ∷ []) (plain_table 1 (2 ^ b)) (no_feeds (codes "end") refl, tt, tt) in (
      no_feeds (codes "pcert") refl,
      tt,
      (
        no_feeds (codes "den") refl,
        tt,
        (
          no_feeds (codes "value") refl,
          tt,
          (
            no_feeds (codes "order") refl,
            tt,
            (
              no_feeds (codes "choice") refl,
              tt,
              (
                no_feeds (codes "pay") refl,
                tt,
                (no_feeds (codes "rows") refl, tt, (no_feeds (codes "lowered") refl, tt, last)),
              ),
            ),
          ),
        ),
      ),
    )

module _ (whole : List Kind) (fine : Fine whole) where
  -- a reader of the lines of such a plan reads just its texts
  pub plan_reads : Reads (λ (t : Stage Kind Line). Fine t.plan) (StepTo Fits after spell over) excess (begin whole) (finish spell over)
      (Follows Fits after whole) lines
  plan_reads = reads Fits after spell over one_line Fine (λ k ks l ok fits. subst (λ (w : List ℕ). IsLine (w ++ numbers_text l.numbers)) (sym fits.word)
      (line_append k.word (numbers_text l.numbers) ok.0 (numbers_line l.numbers))) fine_after completes whole fine

  -- bytes say one thing: lines of the plan, the place of the first faulty line, or that of the first line that is out of range
  pub one_text : (bytes : List ℕ) (x y : Said (List Line) ℕ) → Says (Follows Fits after whole) lines bytes x → Says (Follows Fits after whole) lines bytes y
      → x ≡ y
  one_text = one_answer (λ (t : Stage Kind Line). Fine t.plan) (StepTo Fits after spell over) excess (begin whole) (finish spell over)
      (Follows Fits after whole) lines plan_reads

-- bytes say one thing of a certificate
pub one_cert : (b s : ℕ) (bytes : List ℕ) (x y : Said (List Line) ℕ) → Says (IsCertText b s) lines bytes x → Says (IsCertText b s) lines bytes y → x ≡ y
one_cert b s = one_text (cert_plan b s) (fine_cert b s)

-- and one thing of a certificate of places
pub one_places : (b : ℕ) (bytes : List ℕ) (x y : Said (List Line) ℕ) → Says (IsPlacesText b) lines bytes x → Says (IsPlacesText b) lines bytes y → x ≡ y
one_places b = one_text (places_plan b) (fine_places b)
