-- No line of a certificate is out of range, and so its lines are a text that states it.
use Rattle.std.proofs.Common.{◌≡◌, ℕ, suc, zero, ◌+◌, ◌≤◌, ◌<◌, ◌^◌, Bool, true, false, cond, Some, None, List, [], ◌∷◌, ◌++◌, length, refl, ap, ◌∙◌, arith}
use Rattle.std.specs.Prelude.{ℤ, pos, codes, slice_index_or, unsigned_abs}
use Rattle.std.proofs.lemmas.Bool.{or_from, lt-leb}
use Rattle.std.specs.Option.{option_or}
use Rattle.line_format.specs.LineText.{text_of, first_excess, IsTextOf}
use Rattle.cert_grammar.specs.Certificate.{CertValue, WithoutValue, RowValue}
use Rattle.cert_grammar.specs.Plan.{placed, next_place}
use Rattle.cert_grammar.specs.Lines.{Line, spell, over, is_first_version, version_of, version_lines, IsCertText, lines}
use Rattle.line_format.specs.Range.{AllInRange, any_out, is_out}
use Rattle.cert_grammar.specs.CertText.{AreMembers, AreRows, AreTableLines, AreWithouts, AtMost, IsCertificate, IsChoice, as_numbers, body_lines}
use Rattle.cert_grammar.specs.CertText.{cert_lines, choice_line, line, part_lines, row_lines, table_lines}
use Rattle.wide_num.specs.Range.{InRange}
use Rattle.cert_grammar.proofs.Written.{written}

abbrev pub Within : List Line → Type 0
Within [] = Unit {0}
Within (l ∷ ls) = (over l ≡ false) × Within ls

-- the lines of either version
version_within : (first : Bool) → Within (version_of first)
version_within true = (refl, tt)
version_within false = (refl, (refl, tt))

-- two lists of lines in range are in range one after another
pub within_append : (xs ys : List Line) → Within xs → Within ys → Within (xs ++ ys)
within_append [] ys a b = b
within_append (x ∷ xs) ys a b = (a.0, within_append xs ys a.1 b)

-- lines in range exceed nothing, from whatever place they stand
pub no_excess : (p : ℕ) (ls : List Line) → Within ls → first_excess (placed spell over p ls) ≡ None
no_excess p [] w = refl
no_excess p (l ∷ ls) w = ap (λ (b : Bool). option_or (cond b (Some p) None) (first_excess (placed spell over (next_place spell over p l) ls))) w.0
    ∙ no_excess (next_place spell over p l) ls w.1

in_range : (z : ℤ) → InRange z → is_out z ≡ false
in_range z h = lt-leb (2 ^ 120) (unsigned_abs z) h

-- if all numbers are in range, none is out
pub all_in_range : (zs : List ℤ) → AllInRange zs → any_out zs ≡ false
all_in_range [] h = refl
all_in_range (z ∷ zs) h = or_from (is_out z) (any_out zs) (in_range z h.0) (all_in_range zs h.1)

-- on a line with a single number in range, none is out
pub one_in_range : (z : ℤ) → InRange z → any_out (z ∷ []) ≡ false
one_in_range z h = all_in_range (z ∷ []) (h, tt)

-- no natural number up to a bound less than 2 ^ 120 is out of range
pub small_numbers : (most : ℕ) (ns : List ℕ) → most < 2 ^ 120 → AtMost most ns → any_out (as_numbers ns) ≡ false
small_numbers most [] lt h = refl
small_numbers most (n ∷ ns) lt h = or_from (is_out (pos n)) (any_out (as_numbers ns)) (in_range (pos n) (omega (arith, lt, h.0))) (small_numbers most ns lt h.1)

-- no member is greater than the number of bidders
pub low_members : (b before : ℕ) (js : List ℕ) → AreMembers b before js → AtMost b js
low_members b before [] h = tt
low_members b before (j ∷ js) h = (h.1, low_members b j js h.2)

module _ (b s : ℕ) (small : b < 2 ^ 100) where
  choice_within : (choice : List ℕ) → IsChoice b choice → any_out (as_numbers choice) ≡ false
  choice_within choice h = small_numbers 65535 choice (omega arith) h.1

  -- the lines of a table are in range
  pub table_within : (table : List (List ℤ)) → AreTableLines s table → Within (table_lines table)
  table_within [] h = tt
  table_within (t ∷ table) h = (all_in_range t h.1, table_within table h.2)

  parts_within : (j : ℕ) (choice : List ℕ) (ws : List WithoutValue) → j + length choice ≤ b + 1 → AreWithouts b s j choice ws → Within (part_lines ws)
  parts_within j [] [] le h = tt
  parts_within j [] (w ∷ ws) le h = absurd h
  parts_within j (zero ∷ ns) ws le h = parts_within (suc j) ns ws (omega (arith, le)) h
  parts_within j (suc n ∷ ns) [] le h = absurd h
  parts_within j (suc n ∷ ns) (w ∷ ws) le h =
      within_append (line (codes "without") (pos w.winner ∷ []) ∷ choice_line w.choice ∷ line (codes "table") [] ∷ table_lines w.table) (part_lines ws)
      (one_in_range (pos w.winner) (omega (arith, small, le, h.0.winner)), (choice_within w.choice h.0.choice, (refl, table_within w.table h.0.table.1)))
      (parts_within (suc j) ns ws (omega (arith, le)) h.1)

  rows_within : (rows : List RowValue) → AreRows b rows → Within (row_lines rows)
  rows_within [] h = tt
  rows_within (r ∷ rows) h = (
    small_numbers b r.members (omega (arith, small)) (low_members b 0 r.members h.0.members),
    (all_in_range (r.first ∷ r.second ∷ []) (h.0.range.0, (h.0.range.1, tt)), (choice_within r.choice h.0.choice, rows_within rows h.1)),
  )

  body_within : (c : CertValue) → IsCertificate b s c → Within (body_lines c)
  body_within c h = (
    one_in_range c.den h.den,
    (
      one_in_range c.value h.value,
      (
        choice_within c.choice h.choice,
        within_append ((line (codes "table") [] ∷ table_lines c.table) ++ part_lines c.withouts) _
            (within_append (line (codes "table") [] ∷ table_lines c.table) (part_lines c.withouts) (refl, table_within c.table h.table.1)
            (parts_within 1 c.choice c.withouts (omega (arith, h.choice.0)) h.withouts)) (
              all_in_range c.pay h.pay.1,
              (
                one_in_range (pos (length c.rows)) (omega (arith, h.few)),
                within_append (row_lines c.rows) _ (rows_within c.rows h.rows)
                    (refl, within_append (table_lines c.lowered) (line (codes "end") [] ∷ []) (table_within c.lowered h.lowered.1) (refl, tt)),
              ),
            ),
      ),
    ),
  )

  cert_within : (c : CertValue) → IsCertificate b s c → Within (cert_lines c)
  cert_within c h =
      let version = version_lines (length c.choice) (length (slice_index_or c.table 0 [])) in
      within_append version (body_lines c) (version_within (is_first_version (length c.choice) (length (slice_index_or c.table 0 [])))) (body_within c h)

  -- the text of a certificate states it
  pub text_states : (c : CertValue) → IsCertificate b s c → IsTextOf (IsCertText b s) lines (text_of (lines (cert_lines c))) (cert_lines c)
  text_states c h = record { valid = written b s c h; spelled = refl; within = no_excess 0 (cert_lines c) (cert_within c h) }
