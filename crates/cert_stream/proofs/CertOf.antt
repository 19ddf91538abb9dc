-- Lines that follow the plan and are in range are those of a certificate.
use Rattle.std.proofs.Common.{◌≡◌, ℕ, suc, zero, ◌≤◌, List, [], ◌∷◌, ◌++◌, length, replicate, refl, sym, ap, subst, ◌∙◌, arith, append_assoc}
use Rattle.std.proofs.lemmas.Int.{ints}
use Rattle.std.specs.Prelude.{ℤ, pos, negsuc, codes, map}
use Rattle.cert_stream.specs.Standing.{AllIn}
use Rattle.cert_grammar.specs.Certificate.{CertValue, RowValue, WithoutValue}
use Rattle.cert_grammar.specs.Plan.{Follows}
use Rattle.cert_grammar.specs.Lines.{AreNumbers, FitNumbers, Fits, IsCertText, Kind, Line, Numbers, Rise, after, after_numbers, body_plan, chosen}
use Rattle.cert_grammar.specs.Lines.{counted, headed, just_line, kind, members, parts_plan, rows_plan, signed, table_plan, these, version_lines}
use Rattle.cert_grammar.specs.Lines.{version_plan}
use Rattle.line_format.specs.Range.{AllInRange}
use Rattle.cert_text.proofs.PlanSteps.{all_in}
use Rattle.cert_grammar.proofs.Version.{version_is}
use Rattle.cert_grammar.specs.CertText.{AreMembers, AreRows, AreTableLines, AreWithouts, AtMost, IsCertificate, as_numbers, body_lines, cert_lines}
use Rattle.cert_grammar.specs.CertText.{choice_line, line, part_lines, row_lines, table_lines}

-- of lines in range, the first ones are
in_left : (xs ys : List Line) → AllIn (xs ++ ys) → AllIn xs
in_left [] ys all = tt
in_left (x ∷ xs) ys all = (all.0, in_left xs ys all.1)

-- and so are the last ones
in_right : (xs ys : List Line) → AllIn (xs ++ ys) → AllIn ys
in_right [] ys all = all
in_right (x ∷ xs) ys all = in_right xs ys all.1

-- lines of two plans, one after another
record Cut (xs ys : List Kind) (is : List Line) : Type 0 where
  front : List Line
  rest : List Line
  whole : is ≡ front ++ rest
  first : Follows Fits after xs front
  last : Follows Fits after ys rest

-- lines of two plans are cut where the second plan begins
cut : (xs ys : List Kind) (is : List Line) → Follows Fits after (xs ++ ys) is → Cut xs ys is
cut [] ys is f = record { front = []; rest = is; whole = refl; first = tt; last = f }
cut (k ∷ ks) ys [] f = absurd f
cut (k ∷ ks) ys (i ∷ is) f =
    let c = cut (after k i ++ ks) ys is (subst (λ (p : List Kind). Follows Fits after p is) (sym (append_assoc (after k i) ks ys)) f.1) in
    record { front = i ∷ c.front; rest = c.rest; whole = ap (λ (l : List Line). i ∷ l) c.whole; first = (f.0, c.first); last = c.last }

-- no line is left
none_left : (is : List Line) → Follows Fits after [] is → is ≡ []
none_left [] f = refl
none_left (i ∷ is) f = absurd f

-- the next line, and what follows it
record Next (word : List ℕ) (n : Numbers) (ks : List Kind) (is : List Line) : Type 0 where
  numbers : List ℤ
  rest : List Line
  whole : is ≡ line word numbers ∷ rest
  fit : FitNumbers n numbers
  last : Follows Fits after (after_numbers n numbers ++ ks) rest

-- lines of a plan begin with one of its first kind
next : (word : List ℕ) (n : Numbers) (ks : List Kind) (is : List Line) → Follows Fits after (kind word n ∷ ks) is → Next word n ks is
next word n ks [] f = absurd f
next word n ks (i ∷ is) f = record {
  numbers = i.numbers;
  rest = is;
  whole = ap (λ (w : List ℕ). line w i.numbers ∷ is) f.0.word;
  fit = f.0.numbers;
  last =
      f.1;
}

-- a line of a table
abbrev tkind : ℕ → Kind
tkind s = kind (codes "t") (signed s)

record TableOf (s n : ℕ) (is : List Line) : Type 0 where
  table : List (List ℤ)
  whole : is ≡ table_lines table
  long : length table ≡ n
  lines : AreTableLines s table

-- the lines of a table
table_of : (s n : ℕ) (is : List Line) → Follows Fits after (replicate n (tkind s)) is → AllIn is → TableOf s n is
table_of s zero is f all = record { table = []; whole = none_left is f; long = refl; lines = tt }
table_of s (suc n) is f all =
    let one = next (codes "t") (signed s) (replicate n (tkind s)) is f in
    let own = subst AllIn one.whole all in
    let more = table_of s n one.rest one.last own.1 in
    record {
      table = one.numbers ∷ more.table;
      whole = one.whole ∙ ap (λ (l : List Line). line (codes "t") one.numbers ∷ l) more.whole;
      long = ap suc more.long;
      lines = (one.fit, all_in one.numbers own.0, more.lines);
    }

-- small numbers as natural ones
record Small (ns : List ℤ) : Type 0 where
  numbers : List ℕ
  same : ns ≡ as_numbers numbers
  long : length numbers ≡ length ns
  most : AtMost 65535 numbers

-- numbers of a choice
small : (ns : List ℤ) → AreNumbers 65535 ns → Small ns
small [] all = record { numbers = []; same = refl; long = refl; most = tt }
small (pos n ∷ ns) all = let s = small ns all.2 in record {
  numbers = n ∷ s.numbers;
  same = ap (λ (l : List ℤ). pos n ∷ l) s.same;
  long =
      ap suc s.long;
  most = (omega (arith, ints, all.1), s.most);
}
small (negsuc n ∷ ns) all = absurd (omega (arith, ints, all.0))

-- rising numbers as natural ones
record Rising (b before : ℕ) (ns : List ℤ) : Type 0 where
  numbers : List ℕ
  same : ns ≡ as_numbers numbers
  long : length numbers ≡ length ns
  members : AreMembers b before numbers

-- members of a row
rising : (b before : ℕ) (ns : List ℤ) → Rise b (pos before) ns → Rising b before ns
rising b before [] rise = record { numbers = []; same = refl; long = refl; members = tt }
rising b before (pos n ∷ ns) rise = let r = rising b n ns rise.2 in record {
  numbers = n ∷ r.numbers;
  same = ap (λ (l : List ℤ). pos n ∷ l) r.same;
  long =
      ap suc r.long;
  members = (omega (arith, ints, rise.0), omega (arith, ints, rise.1), r.members);
}
rising b before (negsuc n ∷ ns) rise = absurd (omega (arith, ints, rise.0))

record PartsOf (b s j : ℕ) (choice : List ℕ) (is : List Line) : Type 0 where
  parts : List WithoutValue
  whole : is ≡ part_lines parts
  are : AreWithouts b s j choice parts

-- the lines of the parts
parts_of : (b s j : ℕ) (choice : List ℕ) (is : List Line) → Follows Fits after (parts_plan b s j (as_numbers choice)) is → AllIn is → PartsOf b s j choice is
parts_of b s j [] is f all = record { parts = []; whole = none_left is f; are = tt }
parts_of b s j (zero ∷ choice) is f all = let p = parts_of b s (suc j) choice is f all in record { parts = p.parts; whole = p.whole; are = p.are }
parts_of b s j (suc n ∷ choice) is f all =
    let one = next (codes "without") (these (pos j ∷ [])) _ is f in
    let two = next (codes "choice") (chosen b) _ one.rest one.last in
    let three = next (codes "table") (these []) _ two.rest two.last in
    let in1 = subst AllIn one.whole all in
    let in2 = subst AllIn two.whole in1.1 in
    let in3 = subst AllIn three.whole in2.1 in
    let c = cut (table_plan b s) (parts_plan b s (suc j) (as_numbers choice)) three.rest three.last in
    let in4 = subst AllIn c.whole in3.1 in
    let table = table_of s (suc b) c.front c.first (in_left c.front c.rest in4) in
    let more = parts_of b s (suc j) choice c.rest c.last (in_right c.front c.rest in4) in
    let own = small two.numbers two.fit.1 in
    let w : WithoutValue = record { winner = j; choice = own.numbers; table = table.table } in
    record {
      parts = w ∷ more.parts;
      whole = one.whole
          ∙ ap (λ (ns : List ℤ). line (codes "without") ns ∷ one.rest) one.fit
          ∙ ap (λ (l : List Line). line (codes "without") (pos j ∷ []) ∷ l)
          (two.whole ∙ ap (λ (ns : List ℤ). line (codes "choice") ns ∷ two.rest) own.same
          ∙ ap (λ (l : List Line). choice_line own.numbers ∷ l)
          (three.whole ∙ ap (λ (ns : List ℤ). line (codes "table") ns ∷ three.rest) three.fit
          ∙ ap (λ (l : List Line). line (codes "table") [] ∷ l) (c.whole ∙ ap (λ (l : List Line). l ++ c.rest) table.whole
          ∙ ap (λ (l : List Line). table_lines table.table ++ l) more.whole)));
      are = (record { winner = refl; choice = (own.long ∙ two.fit.0, own.most); table = (table.long, table.lines) }, more.are);
    }

record RowsOf (b r : ℕ) (is : List Line) : Type 0 where
  rows : List RowValue
  whole : is ≡ row_lines rows
  long : length rows ≡ r
  are : AreRows b rows

-- a line of two numbers
two_numbers : (ns : List ℤ) → length ns ≡ 2 → (x : ℤ) × (y : ℤ) × (ns ≡ x ∷ y ∷ [])
two_numbers [] e = absurd (omega (arith, e))
two_numbers (x ∷ []) e = absurd (omega (arith, e))
two_numbers (x ∷ y ∷ []) e = (x, y, refl)
two_numbers (x ∷ y ∷ z ∷ ns) e = absurd (omega (arith, e))

-- a line of one number
one_number : (ns : List ℤ) → length ns ≡ 1 → (x : ℤ) × (ns ≡ x ∷ [])
one_number [] e = absurd (omega (arith, e))
one_number (x ∷ []) e = (x, refl)
one_number (x ∷ y ∷ ns) e = absurd (omega (arith, e))

-- the lines of the rows
rows_of : (b r : ℕ) (is : List Line) → Follows Fits after (rows_plan b r) is → AllIn is → RowsOf b r is
rows_of b zero is f all = record { rows = []; whole = none_left is f; long = refl; are = tt }
rows_of b (suc r) is f all =
    let one = next (codes "row") (members b) _ is f in
    let two = next (codes "mult") (signed 2) _ one.rest one.last in
    let three = next (codes "choice") (chosen b) _ two.rest two.last in
    let in1 = subst AllIn one.whole all in
    let in2 = subst AllIn two.whole in1.1 in
    let in3 = subst AllIn three.whole in2.1 in
    let more = rows_of b r three.rest three.last in3.1 in
    let rise = rising b 0 one.numbers one.fit.1 in
    let pair = two_numbers two.numbers two.fit in
    let own = small three.numbers three.fit.1 in
    let range = subst AllInRange pair.2 (all_in two.numbers in2.0) in
    let row : RowValue = record { members = rise.numbers; first = pair.0; second = pair.1; choice = own.numbers } in
    record {
      rows = row ∷ more.rows;
      whole = one.whole
          ∙ ap (λ (ns : List ℤ). line (codes "row") ns ∷ one.rest) rise.same
          ∙ ap (λ (l : List Line). line (codes "row") (as_numbers rise.numbers) ∷ l)
          (two.whole ∙ ap (λ (ns : List ℤ). line (codes "mult") ns ∷ two.rest) pair.2
          ∙ ap (λ (l : List Line). line (codes "mult") (pair.0 ∷ pair.1 ∷ []) ∷ l)
          (three.whole ∙ ap (λ (ns : List ℤ). line (codes "choice") ns ∷ three.rest) own.same ∙ ap (λ (l : List Line). choice_line own.numbers ∷ l)
          more.whole));
      long = ap suc more.long;
      are = (
        record {
          some = omega (arith, rise.long, one.fit.0);
          members = rise.members;
          choice = (own.long ∙ three.fit.0, own.most);
          range =
              (range.0, range.1.0);
        },
        more.are,
      );
    }

-- a plan of just these lines has no other text
just_those : (ls is : List Line) → Follows Fits after (map just_line ls) is → is ≡ ls
just_those [] [] f = refl
just_those [] (i ∷ is) f = absurd f
just_those (l ∷ ls) [] f = absurd f
just_those (l ∷ ls) (i ∷ is) f =
    ap (λ (w : List ℕ). line w i.numbers ∷ is) f.0.word ∙ ap (λ (ns : List ℤ). line l.word ns ∷ is) f.0.numbers
    ∙ ap (λ (rest : List Line). l ∷ rest) (just_those ls is f.1)

-- what follows the version
record BodyOf (b s : ℕ) (is : List Line) : Type 0 where
  cert : CertValue
  kept : IsCertificate b s cert
  whole : body_lines cert ≡ is

-- the lines after the version
body_of : (b s : ℕ) (is : List Line) → Follows Fits after (body_plan b s) is → AllIn is → BodyOf b s is
body_of b s is f all =
    let dens = next (codes "den") (signed 1) _ is f in
    let values = next (codes "value") (signed 1) _ dens.rest dens.last in
    let heads = next (codes "choice") (headed b s) _ values.rest values.last in
    let in2 = subst AllIn dens.whole all in
    let in3 = subst AllIn values.whole in2.1 in
    let in4 = subst AllIn heads.whole in3.1 in
    let den = one_number dens.numbers dens.fit in
    let value = one_number values.numbers values.fit in
    let choice = small heads.numbers heads.fit.1 in
    let c1 = cut ((kind (codes "table") (these []) ∷ table_plan b s) ++ parts_plan b s 1 heads.numbers) _ heads.rest heads.last in
    let in5 = subst AllIn c1.whole in4.1 in
    let c2 = cut (kind (codes "table") (these []) ∷ table_plan b s) (parts_plan b s 1 heads.numbers) c1.front c1.first in
    let in6 = subst AllIn c2.whole (in_left c1.front c1.rest in5) in
    let title = next (codes "table") (these []) (table_plan b s) c2.front c2.first in
    let in7 = subst AllIn title.whole (in_left c2.front c2.rest in6) in
    let table = table_of s (suc b) title.rest title.last in7.1 in
    let parts = parts_of b s 1 choice.numbers c2.rest (subst (λ (ns : List ℤ). Follows Fits after (parts_plan b s 1 ns) c2.rest) choice.same c2.last)
    (in_right c2.front c2.rest in6) in
    let pays = next (codes "pay") (signed b) _ c1.rest c1.last in
    let in8 = subst AllIn pays.whole (in_right c1.front c1.rest in5) in
    let counts = next (codes "rows") (counted b) _ pays.rest pays.last in
    let in9 = subst AllIn counts.whole in8.1 in
    let r = counts.fit.0 in
    let c3 = cut (rows_plan b r) (kind (codes "lowered") (these []) ∷ (table_plan b s ++ kind (codes "end") (these []) ∷ [])) counts.rest
    (subst (λ (ns : List ℤ). Follows Fits after (after_numbers (counted b) ns ++ kind (codes "lowered") (these []) ∷
    (table_plan b s ++ kind (codes "end") (these []) ∷ [])) counts.rest) counts.fit.1 counts.last) in
    let in10 = subst AllIn c3.whole in9.1 in
    let rows = rows_of b r c3.front c3.first (in_left c3.front c3.rest in10) in
    let low = next (codes "lowered") (these []) _ c3.rest c3.last in
    let in11 = subst AllIn low.whole (in_right c3.front c3.rest in10) in
    let c4 = cut (table_plan b s) (kind (codes "end") (these []) ∷ []) low.rest low.last in
    let in12 = subst AllIn c4.whole in11.1 in
    let lowered = table_of s (suc b) c4.front c4.first (in_left c4.front c4.rest in12) in
    let end = next (codes "end") (these []) [] c4.rest c4.last in
    let tail : end.numbers ≡ [] = end.fit in
    let stop : end.rest ≡ [] = none_left end.rest end.last in
    let cert : CertValue = record {
      den = den.0;
      value = value.0;
      choice = choice.numbers;
      table = table.table;
      withouts = parts.parts;
      pay =
          pays.numbers;
      rows = rows.rows;
      lowered = lowered.table;
    } in
    let w_end : c4.rest ≡ line (codes "end") [] ∷ [] = end.whole ∙ ap (λ (ns : List ℤ). line (codes "end") ns ∷ end.rest) tail
    ∙ ap (λ (l : List Line). line (codes "end") [] ∷ l) stop in
    let w_low : low.rest ≡ table_lines lowered.table ++ line (codes "end") [] ∷ [] = c4.whole ∙ ap (λ (l : List Line). l ++ c4.rest) lowered.whole
    ∙ ap (λ (l : List Line). table_lines lowered.table ++ l) w_end in
    let w_rest : c3.rest ≡ line (codes "lowered") [] ∷ (table_lines lowered.table ++ line (codes "end") [] ∷ []) =
    low.whole ∙ ap (λ (ns : List ℤ). line (codes "lowered") ns ∷ low.rest) low.fit ∙ ap (λ (l : List Line). line (codes "lowered") [] ∷ l) w_low in
    let w_rows : counts.rest ≡ row_lines rows.rows ++ line (codes "lowered") [] ∷ (table_lines lowered.table ++ line (codes "end") [] ∷ []) =
    c3.whole ∙ ap (λ (l : List Line). l ++ c3.rest) rows.whole ∙ ap (λ (l : List Line). row_lines rows.rows ++ l) w_rest in
    let w_count : pays.rest ≡ line (codes "rows") (pos (length rows.rows) ∷ []) ∷
    (row_lines rows.rows ++ line (codes "lowered") [] ∷ (table_lines lowered.table ++ line (codes "end") [] ∷ [])) =
    counts.whole ∙ ap (λ (ns : List ℤ). line (codes "rows") ns ∷ counts.rest) (counts.fit.1 ∙ ap (λ (n : ℕ). pos n ∷ []) (sym rows.long))
    ∙ ap (λ (l : List Line). line (codes "rows") (pos (length rows.rows) ∷ []) ∷ l) w_rows in
    let w_pay : c1.rest ≡ line (codes "pay") pays.numbers ∷ line (codes "rows") (pos (length rows.rows) ∷ []) ∷
    (row_lines rows.rows ++ line (codes "lowered") [] ∷ (table_lines lowered.table ++ line (codes "end") [] ∷ [])) =
    pays.whole ∙ ap (λ (l : List Line). line (codes "pay") pays.numbers ∷ l) w_count in
    let w_table : c2.front ≡ line (codes "table") [] ∷ table_lines table.table = title.whole ∙ ap (λ (ns : List ℤ). line (codes "table") ns ∷ title.rest)
    title.fit ∙ ap (λ (l : List Line). line (codes "table") [] ∷ l) table.whole in
    let w_front : c1.front ≡ (line (codes "table") [] ∷ table_lines table.table) ++ part_lines parts.parts =
    c2.whole ∙ ap (λ (l : List Line). l ++ c2.rest) w_table ∙ ap (λ (l : List Line). (line (codes "table") [] ∷ table_lines table.table) ++ l)
    parts.whole in
    record {
      cert = cert;
      kept = record {
        den = (subst AllInRange den.1 (all_in dens.numbers in2.0)).0;
        value = (subst AllInRange value.1 (all_in values.numbers in3.0)).0;
        choice = (choice.long ∙ heads.fit.0, choice.most);
        table = (table.long, table.lines);
        withouts = parts.are;
        pay = (pays.fit, all_in pays.numbers in8.0);
        few = subst (λ (n : ℕ). n ≤ 10) (sym rows.long) counts.fit.2;
        rows = rows.are;
        lowered = (lowered.long, lowered.lines);
      };
      whole = sym (dens.whole ∙ ap (λ (ns : List ℤ). line (codes "den") ns ∷ dens.rest) den.1
          ∙ ap (λ (l : List Line). line (codes "den") (den.0 ∷ []) ∷ l)
          (values.whole ∙ ap (λ (ns : List ℤ). line (codes "value") ns ∷ values.rest) value.1
          ∙ ap (λ (l : List Line). line (codes "value") (value.0 ∷ []) ∷ l)
          (heads.whole ∙ ap (λ (ns : List ℤ). line (codes "choice") ns ∷ heads.rest) choice.same
          ∙ ap (λ (l : List Line). choice_line choice.numbers ∷ l) (c1.whole ∙ ap (λ (l : List Line). l ++ c1.rest) w_front
          ∙ ap (λ (l : List Line). ((line (codes "table") [] ∷ table_lines table.table) ++ part_lines parts.parts) ++ l) w_pay))));
    }

-- the certificate whose lines these are
pub record CertOf (b s : ℕ) (is : List Line) : Type 0 where
  -- the certificate that has the lines
  pub cert : CertValue
  -- it has the shape that a certificate keeps
  pub kept : IsCertificate b s cert
  -- its lines are these
  pub whole : cert_lines cert ≡ is

-- the version, and what follows it
pub cert_of : (b s : ℕ) (is : List Line) → IsCertText b s is → AllIn is → CertOf b s is
cert_of b s is f all =
    let c = cut (version_plan b s) (body_plan b s) is f in
    let body = body_of b s c.rest c.last (in_right c.front c.rest (subst AllIn c.whole all)) in
    let version : c.front ≡ version_lines b s = just_those (version_lines b s) c.front c.first in
    record {
      cert = body.cert;
      kept = body.kept;
      whole = ap (λ (l : List Line). l ++ body_lines body.cert) (version_is b s body.cert body.kept)
          ∙ ap (λ (l : List Line). version_lines b s ++ l) body.whole
          ∙ ap (λ (l : List Line). l ++ c.rest) (sym version)
          ∙ sym c.whole;
    }
