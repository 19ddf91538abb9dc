-- Lines that go on to the end of a plan, in range: so each prefix of a certificate is the prefix of one.
use Rattle.std.proofs.Common.{Bool, List, [], ap, arith, drop, false, length, length-drop, length-take, refl, replicate, subst, suc, sym, take, true}
use Rattle.std.proofs.Common.{zero, ℕ, ◌++◌, ◌+◌, ◌-◌, ◌<◌, ◌∙◌, ◌∷◌, ◌≡◌, ◌≤◌}
use Rattle.std.proofs.lemmas.Bool.Decides.{nat_tests}
use Rattle.std.proofs.lemmas.Int.{ints}
use Rattle.std.proofs.lemmas.List.{append-nil}
use Rattle.std.specs.Prelude.{ℤ, pos, negsuc, codes}
use Rattle.cert_grammar.specs.Certificate.{CertValue}
use Rattle.cert_grammar.specs.CertText.{IsCertificate, cert_lines, line}
use Rattle.cert_grammar.specs.Plan.{Follows}
use Rattle.cert_grammar.specs.Lines.{AreNumbers, FitNumbers, Fits, IsCertText, Kind, Line, Numbers, after, after_numbers, chosen, counted, headed}
use Rattle.cert_grammar.specs.Lines.{is_first_version, kind, members, ordered_count, ordered_head, part_plan, parts_plan, rows_plan, signed, table_plan}
use Rattle.cert_grammar.specs.Lines.{these, unless_zero}
use Rattle.line_format.specs.Range.{any_out}
use Rattle.cert_stream.specs.declared.due.NextLine.{NextLine}
use Rattle.cert_stream.specs.declared.due.NextLine.TheVariants.{Choice, Den, End, Entries, Limits, Members, Multipliers, Nothing, PartChoice, Payments}
use Rattle.cert_stream.specs.declared.due.NextLine.TheVariants.{RowChoice, Rows, Title, Value, Version, Without}
use Rattle.cert_stream.specs.declared.due.Table.{Table}
use Rattle.cert_stream.specs.declared.due.Table.TheVariants.{Head, Part, Lowered}
use Rattle.cert_text.specs.StagePlans.{closing_plan}
use Rattle.cert_stream.specs.Dues.{ending, from_part, after_table, version_number, limits_plan, opening, plan_due, IsDue, IsTableOf}
use Rattle.cert_grammar.proofs.PlanReads.{follows_both}
use Rattle.cert_stream.proofs.CertOf.{cert_of}
use Rattle.cert_stream.specs.Standing.{AllIn, IsReading}
use Rattle.cert_stream.specs.declared.line.LinePart.{LinePart}

-- that many zeros
abbrev zeros : ℕ → List ℤ
zeros n = replicate n (pos 0)

-- how many they are
zeros_long : (n : ℕ) → length (zeros n) ≡ n
zeros_long zero = refl
zeros_long (suc n) = ap suc (zeros_long n)

-- they are numbers of a choice
zeros_small : (n : ℕ) → AreNumbers 65535 (zeros n)
zeros_small zero = tt
zeros_small (suc n) = (omega (arith, ints), omega (arith, ints), zeros_small n)

-- and in range
zeros_in : (n : ℕ) → any_out (zeros n) ≡ false
zeros_in zero = refl
zeros_in (suc n) = zeros_in n

-- the kinds of lines of a certificate for which numbers in range can be found
abbrev pub CanFill : Numbers → Type 0
CanFill (these ms) = any_out ms ≡ false
CanFill (signed n) = Unit {0}
CanFill (chosen b) = Unit {0}
CanFill (headed b s) = Unit {0}
CanFill (counted b) = Unit {0}
CanFill (members b) = 0 < b
CanFill (ordered_head b) = ⊥
CanFill (ordered_count b) = ⊥

-- the same for each kind of a plan
abbrev pub CanFillAll : List Kind → Type 0
CanFillAll [] = Unit {0}
CanFillAll (k ∷ ks) = CanFill k.numbers × CanFillAll ks

record Filled (ks : List Kind) : Type 0 where
  lines : List Line
  follows : Follows Fits after ks lines
  inside : AllIn lines

-- lines in range, one after another
both_in : (xs ys : List Line) → AllIn xs → AllIn ys → AllIn (xs ++ ys)
both_in [] ys a b = b
both_in (x ∷ xs) ys a b = (a.0, both_in xs ys a.1 b)

record Own (n : Numbers) : Type 0 where
  numbers : List ℤ
  fit : FitNumbers n numbers
  inside : any_out numbers ≡ false
  next : Filled (after_numbers n numbers)

-- the lines of a table
filled_lines : (s n : ℕ) → Filled (replicate n (kind (codes "t") (signed s)))
filled_lines s zero = record { lines = []; follows = tt; inside = tt }
filled_lines s (suc n) =
    let rest = filled_lines s n in
    record {
      lines = line (codes "t") (zeros s) ∷ rest.lines;
      follows = (record { word = refl; numbers = zeros_long s }, rest.follows);
      inside =
          (zeros_in s, rest.inside);
    }

-- a choice of nobody has no part
no_parts : (b s j n : ℕ) → parts_plan b s j (zeros n) ≡ []
no_parts b s j zero = refl
no_parts b s j (suc n) = no_parts b s (suc j) n

-- nothing is to come
nothing : Filled []
nothing = record { lines = []; follows = tt; inside = tt }

-- a line of each kind
own : (n : Numbers) → CanFill n → Own n
own (these ms) can = record { numbers = ms; fit = refl; inside = can; next = nothing }
own (signed n) can = record { numbers = zeros n; fit = zeros_long n; inside = zeros_in n; next = nothing }
own (chosen b) can = record { numbers = zeros b; fit = (zeros_long b, zeros_small b); inside = zeros_in b; next = nothing }
own (headed b s) can = record {
  numbers = zeros b;
  fit = (zeros_long b, zeros_small b);
  inside = zeros_in b;
  next = subst Filled (sym (ap (λ (l : List Kind). (kind (codes "table") (these []) ∷ table_plan b s) ++ l) (no_parts b s 1 b)
      ∙ append-nil (kind (codes "table") (these []) ∷ table_plan b s)))
      (let table = filled_lines s (suc b) in record {
        lines = line (codes "table") [] ∷ table.lines;
        follows =
            (record { word = refl; numbers = refl }, table.follows);
        inside = (refl, table.inside);
      });
}
own (counted b) can = record { numbers = pos 0 ∷ []; fit = (0, refl, omega arith, λ some. absurd (omega (arith, some))); inside = refl; next = nothing }
own (members b) can = record { numbers = pos 1 ∷ []; fit = (omega arith, (omega (arith, ints), omega (arith, ints, can), tt)); inside = refl; next = nothing }
own (ordered_head b) can = absurd can
own (ordered_count b) can = absurd can

-- lines of a whole plan
fill : (ks : List Kind) → CanFillAll ks → Filled ks
fill [] can = nothing
fill (k ∷ ks) can =
    let mine = own k.numbers can.0 in
    let rest = fill ks can.1 in
    record {
      lines = line k.word mine.numbers ∷ (mine.next.lines ++ rest.lines);
      follows = (
        record { word = refl; numbers = mine.fit },
        follows_both Fits after (after_numbers k.numbers mine.numbers) ks mine.next.lines rest.lines
            mine.next.follows rest.follows,
      );
      inside = (mine.inside, both_in mine.next.lines rest.lines mine.next.inside rest.inside);
    }

-- Lines that lead to a plan, in range, are the first lines of a certificate.
pub front_of_cert : (b s : ℕ) (items : List Line) (plan : List Kind) → ((more : List Line) → Follows Fits after plan more → IsCertText b s (items ++ more))
    → AllIn items → CanFillAll plan
    → (c : CertValue) × (rest : List Line) × IsCertificate b s c × (cert_lines c ≡ items ++ rest)
front_of_cert b s items plan leads inside can =
    let rest = fill plan can in
    let c = cert_of b s (items ++ rest.lines) (leads rest.lines rest.follows) (both_in items rest.lines inside rest.inside) in
    (c.cert, rest.lines, c.kept, c.whole)

-- plans one after another
can_append : (xs ys : List Kind) → CanFillAll xs → CanFillAll ys → CanFillAll (xs ++ ys)
can_append [] ys a b = b
can_append (x ∷ xs) ys a b = (a.0, can_append xs ys a.1 b)

-- the lines of a table can be found
can_lines : (s n : ℕ) → CanFillAll (replicate n (kind (codes "t") (signed s)))
can_lines s zero = tt
can_lines s (suc n) = (tt, can_lines s n)

-- a number of a bidder is in range
one_in : (j : ℕ) → j ≤ 65535 → any_out (pos j ∷ []) ≡ false
one_in j le = grind (arith, nat_tests, le)

-- the lines of either version
version_in : (first : Bool) → any_out (pos (version_number first) ∷ []) ≡ false
version_in true = refl
version_in false = refl

-- and its limits
can_limits : (first : Bool) → CanFillAll (limits_plan first)
can_limits true = tt
can_limits false = (refl, tt)

module _ (b s : ℕ) where
  -- a part
  can_part : (j : ℕ) → j ≤ 65535 → CanFillAll (part_plan b s j)
  can_part j le = (one_in j le, (tt, (refl, can_lines s (suc b))))

  -- a part or none
  can_unless : (z : ℤ) (kinds : List Kind) → CanFillAll kinds → CanFillAll (unless_zero z kinds)
  can_unless (pos zero) kinds can = tt
  can_unless (pos (suc n)) kinds can = can
  can_unless (negsuc n) kinds can = can

  -- the parts
  can_parts : (j : ℕ) (ns : List ℤ) → j + length ns ≤ 65536 → CanFillAll (parts_plan b s j ns)
  can_parts j [] le = tt
  can_parts j (n ∷ ns) le = can_append (unless_zero n (part_plan b s j)) (parts_plan b s (suc j) ns)
      (can_unless n (part_plan b s j) (can_part j (omega (arith, le)))) (can_parts (suc j) ns (omega (arith, le)))

  -- the rows
  can_rows : (r : ℕ) → (0 < r → 0 < b) → CanFillAll (rows_plan b r)
  can_rows zero some = tt
  can_rows (suc r) some = (some (omega arith), (tt, (tt, can_rows r (λ _. some (omega arith)))))

  -- what follows the rows
  can_closing : CanFillAll (closing_plan b s)
  can_closing = (refl, can_append (table_plan b s) (kind (codes "end") (these []) ∷ []) (can_lines s (suc b)) (refl, tt))

  -- what follows the parts
  can_ending : CanFillAll (ending b s)
  can_ending = (tt, (tt, can_closing))

  -- what follows the version
  can_opening : CanFillAll (opening b s)
  can_opening = (tt, (tt, (tt, can_ending)))

  module _ (choice : List ℤ) (few : b ≤ 65535) (many : length choice ≤ b) where
    -- the parts after a bidder, and what follows them
    can_from : (j : ℕ) → j ≤ b → CanFillAll (from_part b s choice j)
    can_from j le = can_append (parts_plan b s (suc j) (drop j choice)) (ending b s)
        (can_parts (suc j) (drop j choice) (omega (arith, few, many, le, length-drop j choice))) can_ending

    -- what follows a table
    can_behind : (table : Table) → IsTableOf b table → CanFillAll (after_table b s choice table)
    can_behind Head is = can_from 0 (omega arith)
    can_behind (Part j) is = can_from j is.1
    can_behind Lowered is = (refl, tt)

    -- a table, and what follows it
    can_title : (table : Table) → IsTableOf b table → CanFillAll (table_plan b s ++ after_table b s choice table)
    can_title table is = can_append (table_plan b s) (after_table b s choice table) (can_lines s (suc b)) (can_behind table is)

    -- rows, and what follows them
    can_left : (r : ℕ) → 0 < b → CanFillAll (rows_plan b r ++ closing_plan b s)
    can_left r some = can_append (rows_plan b r) (closing_plan b s) (can_rows r (λ _. some)) can_closing

    -- for each line that is due, all that is to come can be found
    pub can_due : (due : NextLine) → IsDue b due → CanFillAll (plan_due b s choice due)
    can_due Version is = (
      version_in (is_first_version b s),
      can_append (limits_plan (is_first_version b s)) (opening b s)
          (can_limits (is_first_version b s)) can_opening,
    )
    can_due Limits is = (refl, can_opening)
    can_due Den is = can_opening
    can_due Value is = (tt, (tt, can_ending))
    can_due Choice is = (tt, can_ending)
    can_due (Title table) is = (refl, can_title table is)
    can_due (Entries table k) is = (
      tt,
      can_append (replicate (b - k) (kind (codes "t") (signed s))) (after_table b s choice table) (can_lines s (b - k))
          (can_behind table is.0),
    )
    can_due (Without j) is = (
      one_in j (omega (arith, is.1, few)),
      (
        tt,
        (
          refl,
          can_append (table_plan b s) (from_part b s choice j) (can_lines s (suc b))
              (can_from j is.1),
        ),
      ),
    )
    can_due (PartChoice j) is = (tt, (refl, can_append (table_plan b s) (from_part b s choice j) (can_lines s (suc b)) (can_from j is.1)))
    can_due Payments is = can_ending
    can_due Rows is = (tt, can_closing)
    can_due (Members r) is = (is.1, (tt, (tt, can_left (r - 1) is.1)))
    can_due (Multipliers r) is = (tt, (tt, can_left (r - 1) is.1))
    can_due (RowChoice r) is = (tt, can_left (r - 1) is.1)
    can_due End is = (refl, tt)
    can_due Nothing is = tt

-- a reader that reads on stands for the prefix of a certificate
pub reading_cert : (b s : ℕ) (due : NextLine) (part : LinePart) (place read : ℕ) (room : List ℤ) (text : List ℕ) (items : List Line) → b ≤ 65535
    → IsReading b s due part place read room text items
    → (c : CertValue) × (rest : List Line) × IsCertificate b s c × (cert_lines c ≡ items ++ rest)
reading_cert b s due part place read room text items few is =
    front_of_cert b s items (plan_due b s (take b room) due) is.leads is.inside (can_due b s (take b room) few (omega (arith, length-take b room)) due is.named)
