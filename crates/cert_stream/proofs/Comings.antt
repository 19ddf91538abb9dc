-- The line of a certificate that is due, and the lines that are left after it.
use Rattle.std.proofs.Common.{Bool, List, [], ap, append_assoc, arith, drop, false, get_or, length, refl, subst, suc, sym, true, zero, ℕ, ◌++◌, ◌+◌}
use Rattle.std.proofs.Common.{◌<◌, ◌∙◌, ◌∷◌, ◌≡◌, ◌≢◌, ◌≤◌}
use Rattle.std.proofs.lemmas.Bool.Decides.{nat_tests}
use Rattle.std.specs.Prelude.{ℤ, pos, codes, nat_le, nat_eq, if◌then◌else◌}
use Rattle.cert_grammar.specs.Certificate.{CertValue, RowValue, WithoutValue, part_of}
use Rattle.cert_grammar.specs.Lines.{Line, is_first_version, version_of}
use Rattle.cert_grammar.specs.CertText.{AreWithouts, IsCertificate, IsWithout, as_numbers, body_lines, cert_lines, choice_line, line, part_lines}
use Rattle.cert_grammar.specs.CertText.{row_lines, table_lines}
use Rattle.cert_grammar.proofs.Version.{version_is}
use Rattle.cert_grammar.proofs.Written.{long_numbers}
use Rattle.cert_stream.specs.declared.due.NextLine.{NextLine}
use Rattle.cert_stream.specs.declared.due.NextLine.TheVariants.{Version, Without, Payments, Rows}
use Rattle.cert_stream.specs.declared.due.Table.{Table}
use Rattle.cert_stream.specs.declared.due.Table.TheVariants.{Head, Part, Lowered}
use Rattle.cert_stream.specs.Dues.{version_number}
use Rattle.cert_stream.specs.LinesLeft.{ComesNext, HasDue, HasPart, closing_left, counted_left, limits_lines, lines_left, parts_behind, parts_left}
use Rattle.cert_stream.specs.LinesLeft.{rows_left, table_in}

-- tests of order, as a Bool
above : (m n : ℕ) → n < m → nat_le m n ≡ false
above m n lt = grind (arith, nat_tests, lt)

-- and the other way
within : (m n : ℕ) → m ≤ n → nat_le m n ≡ true
within m n le = grind (arith, nat_tests, le)

-- the parts of winners from a bidder on are all after each one before it
behind_low : (b s k j : ℕ) (choice : List ℕ) (ws : List WithoutValue) → AreWithouts b s j choice ws → k < j → parts_behind k ws ≡ ws
behind_low b s k j [] [] are lt = refl
behind_low b s k j [] (w ∷ ws) are lt = absurd are
behind_low b s k j (zero ∷ ns) ws are lt = behind_low b s k (suc j) ns ws are (omega (arith, lt))
behind_low b s k j (suc n ∷ ns) [] are lt = absurd are
behind_low b s k j (suc n ∷ ns) (w ∷ ws) are lt = ap (λ (x : Bool). if x then parts_behind k ws else w ∷ ws)
    (above w.winner k (omega (arith, are.0.winner, lt)))

-- a part that is not after a bidder
behind_next : (k : ℕ) (w : WithoutValue) (ws : List WithoutValue) → w.winner ≤ k → parts_behind k (w ∷ ws) ≡ parts_behind k ws
behind_next k w ws le = ap (λ (x : Bool). if x then parts_behind k ws else w ∷ ws) (within w.winner k le)

module _ (b s : ℕ) where
  -- the bidder at this place has no part
  no_part_left : (m i : ℕ) (choice : List ℕ) (ws : List WithoutValue) → AreWithouts b s (suc m) choice ws → i < length choice → get_or choice i 0 ≡ 0
      → parts_behind (m + i) ws ≡ parts_behind (suc (m + i)) ws
  no_part_left m i [] ws are lt none = absurd (omega (arith, lt))
  no_part_left m zero (zero ∷ ns) ws are lt none = behind_low b s (m + 0) (suc (suc m)) ns ws are (omega arith)
      ∙ sym (behind_low b s (suc (m + 0)) (suc (suc m)) ns ws are (omega arith))
  no_part_left m zero (suc n ∷ ns) ws are lt none = absurd (omega (arith, none))
  no_part_left m (suc i) (zero ∷ ns) ws are lt none =
      ap (λ (k : ℕ). parts_behind k ws) {y = suc m + i} (omega arith) ∙ no_part_left (suc m) i ns ws are (omega (arith, lt)) none
      ∙ ap (λ (k : ℕ). parts_behind k ws) {x = suc (suc m + i)} (omega arith)
  no_part_left m (suc i) (suc n ∷ ns) [] are lt none = absurd are
  no_part_left m (suc i) (suc n ∷ ns) (w ∷ ws) are lt none =
      behind_next (m + suc i) w ws (omega (arith, are.0.winner))
      ∙ ap (λ (k : ℕ). parts_behind k ws) {y = suc m + i} (omega arith)
      ∙ no_part_left (suc m) i ns ws are.1 (omega (arith, lt)) none
      ∙ ap (λ (k : ℕ). parts_behind k ws) {x = suc (suc m + i)} {y = suc (m + suc i)} (omega arith)
      ∙ sym (behind_next (suc (m + suc i)) w ws (omega (arith, are.0.winner)))

  -- a bidder's part comes before those after it
  record IsNextPart (k : ℕ) (ws : List WithoutValue) : Type 0 where
    next : parts_behind k ws ≡ part_of ws (suc k) ∷ parts_behind (suc k) ws
    own : IsWithout b s (suc k) (part_of ws (suc k))

  found : (w : WithoutValue) (ws : List WithoutValue) (j : ℕ) → w.winner ≡ j → part_of (w ∷ ws) j ≡ w
  found w ws j is = ap (λ (x : Bool). if x then w else part_of ws j) (same w.winner j is)
    where
      same : (m n : ℕ) → m ≡ n → nat_eq m n ≡ true
      same m n e = grind (arith, nat_tests, e)

  -- a part is not that of a later bidder
  not_found : (w : WithoutValue) (ws : List WithoutValue) (j : ℕ) → w.winner < j → part_of (w ∷ ws) j ≡ part_of ws j
  not_found w ws j lt = ap (λ (x : Bool). if x then w else part_of ws j) (other w.winner j lt)
    where
      other : (m n : ℕ) → m < n → nat_eq m n ≡ false
      other m n lt = grind (arith, nat_tests, lt)

  -- the same for an equal number
  moved : (k l : ℕ) (ws : List WithoutValue) → k ≡ l → IsNextPart k ws → IsNextPart l ws
  moved k l ws is h = subst (λ (n : ℕ). IsNextPart n ws) is h

  part_left : (m i : ℕ) (choice : List ℕ) (ws : List WithoutValue) → AreWithouts b s (suc m) choice ws → i < length choice → get_or choice i 0 ≢ 0
      → IsNextPart (m + i) ws
  part_left m i [] ws are lt some = absurd (omega (arith, lt))
  part_left m zero (zero ∷ ns) ws are lt some = absurd (some refl)
  part_left m zero (suc n ∷ ns) [] are lt some = absurd are
  part_left m zero (suc n ∷ ns) (w ∷ ws) are lt some = moved m (m + 0) (w ∷ ws) (omega arith) (record {
    next = behind_low b s m (suc m) (suc n ∷ ns) (w ∷ ws) are (omega arith)
        ∙ ap (λ (l : List WithoutValue). w ∷ l) (sym (behind_next (suc m) w ws (omega (arith, are.0.winner))
        ∙ behind_low b s (suc m) (suc (suc m)) ns ws are.1 (omega arith)))
        ∙ ap (λ (x : WithoutValue). x ∷ parts_behind (suc m) (w ∷ ws)) (sym (found w ws (suc m) are.0.winner));
    own = subst (IsWithout b s (suc m)) (sym (found w ws (suc m) are.0.winner)) are.0;
  })
  part_left m (suc i) (zero ∷ ns) ws are lt some = moved (suc m + i) (m + suc i) ws (omega arith) (part_left (suc m) i ns ws are (omega (arith, lt)) some)
  part_left m (suc i) (suc n ∷ ns) [] are lt some = absurd are
  part_left m (suc i) (suc n ∷ ns) (w ∷ ws) are lt some =
      let h = part_left (suc m) i ns ws are.1 (omega (arith, lt)) some in
      let k = suc m + i in
      let here : part_of (w ∷ ws) (suc (suc m + i)) ≡ part_of ws (suc (suc m + i)) = not_found w ws (suc (suc m + i)) (omega (arith, are.0.winner)) in
      moved (suc m + i) (m + suc i) (w ∷ ws) (omega arith) (record {
        next = behind_next (suc m + i) w ws (omega (arith, are.0.winner))
            ∙ h.next
            ∙ ap (λ (x : WithoutValue). x ∷ parts_behind (suc (suc m + i)) ws) (sym here)
            ∙ ap (λ (l : List WithoutValue). part_of (w ∷ ws) (suc (suc m + i)) ∷ l) (sym (behind_next (suc (suc m + i)) w ws (omega (arith, are.0.winner))));
        own = subst (IsWithout b s (suc (suc m + i))) (sym here) h.own;
      })

  -- after the last bidder there is none
  none_left : (m i : ℕ) (choice : List ℕ) (ws : List WithoutValue) → AreWithouts b s (suc m) choice ws → length choice ≤ i → parts_behind (m + i) ws ≡ []
  none_left m i [] [] are le = refl
  none_left m i [] (w ∷ ws) are le = absurd are
  none_left m zero (n ∷ ns) ws are le = absurd (omega (arith, le))
  none_left m (suc i) (zero ∷ ns) ws are le = ap (λ (k : ℕ). parts_behind k ws) {y = suc m + i} (omega arith)
      ∙ none_left (suc m) i ns ws are (omega (arith, le))
  none_left m (suc i) (suc n ∷ ns) [] are le = absurd are
  none_left m (suc i) (suc n ∷ ns) (w ∷ ws) are le =
      behind_next (m + suc i) w ws (omega (arith, are.0.winner)) ∙ ap (λ (k : ℕ). parts_behind k ws) {y = suc m + i} (omega arith)
      ∙ none_left (suc m) i ns ws are.1 (omega (arith, le))

-- the number of a bidder in a choice, as one of a line
pub number_at : (ns : List ℕ) (i : ℕ) → get_or (as_numbers ns) i (pos 0) ≡ pos (get_or ns i 0)
number_at [] i = refl
number_at (n ∷ ns) zero = refl
number_at (n ∷ ns) (suc i) = number_at ns i

-- the lines of either version
version_left : (first : Bool) → version_of first ≡ line (codes "cert") (pos (version_number first) ∷ []) ∷ limits_lines first
version_left true = refl
version_left false = refl

module _ (b s : ℕ) (c : CertValue) (is : IsCertificate b s c) where
  -- at first all lines are left
  pub all_left : cert_lines c ≡ lines_left b s c Version
  all_left =
      ap (λ (l : List Line). l ++ body_lines c) (version_is b s c is ∙ version_left (is_first_version b s))
      ∙ ap (λ (l : List Line). (line (codes "cert") (pos (version_number (is_first_version b s)) ∷ []) ∷ limits_lines (is_first_version b s))
      ++ line (codes "den") (c.den ∷ []) ∷ line (codes "value") (c.value ∷ []) ∷ choice_line c.choice ∷ line (codes "table") [] ∷ l)
      (append_assoc (table_lines c.table) (part_lines c.withouts) (line (codes "pay") c.pay ∷ counted_left c)
      ∙ ap (λ (ws : List WithoutValue). table_lines c.table ++ (part_lines ws ++ line (codes "pay") c.pay ∷ counted_left c))
      (sym (behind_low b s 0 1 c.choice c.withouts is.withouts (omega arith))))

  -- a table has a line for each bidder and one more
  table_long : (table : Table) → HasPart b s c table → length (table_in c table) ≡ suc b
  table_long Head has = is.table.0
  table_long (Part j) has = has.table.0
  table_long Lowered has = is.lowered.0

  module _ (choice : List ℤ) (known : choice ≡ as_numbers c.choice) (k : ℕ) where
    -- the number of a bidder
    number_is : get_or choice k (pos 0) ≡ pos (get_or c.choice k 0)
    number_is = ap (λ (l : List ℤ). get_or l k (pos 0)) known ∙ number_at c.choice k

    -- how many there are
    long : length choice ≡ length c.choice
    long = ap (λ (l : List ℤ). length l) known ∙ long_numbers c.choice

    -- the bidder after the first k has no part
    pub skips : k < length choice → get_or choice k (pos 0) ≡ pos 0 → parts_left c k ≡ parts_left c (k + 1)
    skips lt none =
        let zero_is : pos (get_or c.choice k 0) ≡ pos 0 = sym number_is ∙ none in
        let next = subst (λ (n : ℕ). parts_behind n c.withouts ≡ parts_behind (suc n) c.withouts) {x = 0 + k} {y = k} (omega arith)
        (no_part_left b s 0 k c.choice c.withouts is.withouts (omega (arith, lt, long)) cc) in
        ap (λ (ws : List WithoutValue). part_lines ws ++ line (codes "pay") c.pay ∷ counted_left c) next
        ∙ ap (λ (n : ℕ). parts_left c n) {x = suc k} {y = k + 1} (omega arith)

    -- it has one
    pub finds : k < length choice → get_or choice k (pos 0) ≢ pos 0 → (parts_left c k ≡ lines_left b s c (Without (k + 1))) × HasDue b s c (Without (k + 1))
    finds lt some =
        let next = moved b s (0 + k) k c.withouts (omega arith) (part_left b s 0 k c.choice c.withouts is.withouts (omega (arith, lt, long))
        (λ none. some (number_is ∙ ap pos none))) in
        subst (λ (n : ℕ). (parts_left c k ≡ lines_left b s c (Without n)) × HasDue b s c (Without n)) {x = suc k} {y = k + 1} (omega arith) (
          ap (λ (ws : List WithoutValue). part_lines ws ++ line (codes "pay") c.pay ∷ counted_left c) next.next
              ∙ own_lines (part_of c.withouts (suc k)) next.own.winner,
          next.own,
        )
      where
        own_lines : (w : WithoutValue) → w.winner ≡ suc k
            → part_lines (w ∷ parts_behind (suc k) c.withouts) ++ line (codes "pay") c.pay ∷ counted_left c ≡ line (codes "without")
            (pos (suc k) ∷ []) ∷ choice_line w.choice ∷ line (codes "table") [] ∷ (table_lines w.table ++ parts_left c (suc k))
        own_lines w winner =
            ap (λ (n : ℕ). line (codes "without") (pos n ∷ []) ∷ choice_line w.choice ∷ line (codes "table") [] ∷
            ((table_lines w.table ++ part_lines (parts_behind (suc k) c.withouts)) ++ line (codes "pay") c.pay ∷ counted_left c)) winner
            ∙ ap (λ (l : List Line). line (codes "without") (pos (suc k) ∷ []) ∷ choice_line w.choice ∷ line (codes "table") [] ∷ l)
            (append_assoc (table_lines w.table) (part_lines (parts_behind (suc k) c.withouts)) (line (codes "pay") c.pay ∷ counted_left c))

    -- no bidder is left
    pub pays : length choice ≤ k → parts_left c k ≡ lines_left b s c Payments
    pays le = ap (λ (ws : List WithoutValue). part_lines ws ++ line (codes "pay") c.pay ∷ counted_left c)
        (ap (λ (n : ℕ). parts_behind n c.withouts) {x = k} {y = 0 + k} (omega arith) ∙ none_left b s 0 k c.choice c.withouts is.withouts
        (omega (arith, le, long)))

  -- after the count of rows all rows are left
  pub rows_come : (r : ℕ) (next : NextLine) → r ≡ length c.rows → rows_left c r ≡ lines_left b s c next → HasDue b s c next → ComesNext b s c Rows next
  rows_come r next count behind due = record {
    left = ap (λ (l : List RowValue). line (codes "rows") (pos (length c.rows) ∷ []) ∷ (row_lines l ++ closing_left c))
        (sym (ap (λ (n : ℕ). drop n c.rows) {y = 0} (omega (arith, count))))
        ∙ ap (λ (l : List Line). line (codes "rows") (pos (length c.rows) ∷ []) ∷ l) behind;
    has = due;
  }
