-- The text of a priced certificate has less bytes than it may have.
use Rattle.std.proofs.Common.{Bool, IsTrue, List, [], ap, arith, codes, cond, false, get_or, length, refl, subst, suc, true, unsigned_abs, zero, ℕ}
use Rattle.std.proofs.Common.{◌++◌, ◌+◌, ◌<◌, ◌==◌, ◌∷◌, ◌≡◌, ◌≤◌}
use Rattle.std.specs.Prelude.{ℤ, pos}
use Rattle.std.proofs.lemmas.Bool.{ne_eqb, not_from_false}
use Rattle.limits.specs.declared.TheConstants.{MOST_AMOUNT, PRICED_CERT_BYTES}
use Rattle.auction_model.specs.Book.{Book, menu_of, net_of}
use Rattle.auction_model.specs.Lowered.{sum_to}
use Rattle.auction_model.specs.Market.{number_of, uses}
use Rattle.auction_model.specs.Menu.{Menu, without}
use Rattle.auction_model.specs.Place.{states_of}
use Rattle.auction_model.specs.Table.{IsExactTable, IsLine}
use Rattle.auction_model.proofs.BoundLaws.{AreCapped, line-sizes}
use Rattle.line_format.specs.Numeral.{numbers_text}
use Rattle.line_format.proofs.Lengths.{tens, times}
use Rattle.core_laws.specs.Winners.{winners_in}
use Rattle.cert_grammar.specs.Certificate.{CertValue, part_of}
use Rattle.cert_grammar.specs.Lines.{Line, is_first_version, version_of, version_lines}
use Rattle.cert_grammar.specs.CertText.{line, table_lines, part_lines, row_lines, body_lines, cert_lines, IsCertificate}
use Rattle.cert_grammar.specs.Says.{cert_text}
use Rattle.cert_soundness.specs.BookSizes.{IsWithinSizes}
use Rattle.cert_soundness.specs.Priced.{IsPricedCert}
use Rattle.cert_soundness.specs.Tests.{bidders_of, states}
use Rattle.cert_grammar.proofs.LineSizes.{size, size-append, text-size, times-le, line-size, choice-size, AreShort, table-size, range-short, pay-size}
use Rattle.cert_soundness.proofs.TextSizes.{entries-short, below-from, short-from, AllParts, parts-all, HasShortTable, parts-size, rows-size}

-- the lines of either version
version-size : (first : Bool) → size (version_of first) ≤ 130
version-size true = omega (arith, line-size (codes "cert") (pos 1 ∷ []) 1 (omega arith, tt) (omega arith))
version-size false = omega (
  arith,
  line-size (codes "cert") (pos 2 ∷ []) 1 (omega arith, tt) (omega arith),
  line-size (codes "limits") (pos 16 ∷ pos 16384 ∷ []) 2 (omega arith, (omega arith, tt)) (omega arith),
)

-- equal caps
sum-flat : (n cap : ℕ) → sum_to (λ j. cap) n ≡ times n cap
sum-flat zero cap = refl
sum-flat (suc n) cap = omega (arith, sum-flat n cap)

-- a line of an exact table of net amounts: no entry has more than 14 digits
exact-line : (m : Menu) (counts : ℕ → ℕ → ℤ) (supply : List ℕ) (k : ℕ) (t : List ℤ) → m.bidders ≤ 16 → states_of supply ≤ 16384
    → AreCapped m counts (λ j. MOST_AMOUNT) → IsLine m counts supply k t → length (numbers_text t) ≤ 262144
exact-line m counts supply k t few places caps is =
    let top : sum_to (λ j. MOST_AMOUNT) m.bidders ≤ times 16 MOST_AMOUNT = omega
    (arith, sum-flat m.bidders MOST_AMOUNT, times-le m.bidders 16 MOST_AMOUNT few) in
    entries-short t (omega (arith, is.places, places)) (below-from (tens 14) t (λ i. omega
    (arith, top, line-sizes m counts supply k t (λ j. MOST_AMOUNT) caps is i)))

exact-size : (m : Menu) (counts : ℕ → ℕ → ℤ) (supply : List ℕ) (table : List (List ℤ)) → m.bidders ≤ 16 → states_of supply ≤ 16384
    → AreCapped m counts (λ j. MOST_AMOUNT) → IsExactTable m counts supply table → size (table_lines table) ≤ 4456482
exact-size m counts supply table few places caps exact =
    let short : AreShort 262144 table = short-from 262144 table (λ k lt. exact-line m counts supply k (get_or table k []) few places caps
    (exact.exact k (omega (arith, lt, exact.lines)))) in
    omega (arith, table-size 262144 table short, times-le (length table) 17 262146 (omega (arith, exact.lines, few)))

-- without a bidder there are no more bids
fewer-capped : (m : Menu) (counts : ℕ → ℕ → ℤ) (j : ℕ) → ((k : ℕ) → unsigned_abs (counts k 0) ≤ MOST_AMOUNT) → AreCapped m counts (λ j. MOST_AMOUNT)
    → AreCapped (without m j) counts (λ j. MOST_AMOUNT)
fewer-capped m counts j none caps k i le = split (k == j) le
  where
    split : (b : Bool) → i ≤ cond b 0 (m.bids k) → unsigned_abs (counts k i) ≤ MOST_AMOUNT
    split true le = subst (λ (n : ℕ). unsigned_abs (counts k n) ≤ MOST_AMOUNT) (omega (arith, le)) (none k)
    split false le = caps k i le

module _ (book : Book) (w : ℕ → ℕ) (c : CertValue) (within : IsWithinSizes book) (is : IsCertificate (bidders_of book) (states book) c)
    (priced : IsPricedCert book w c) (few : winners_in c.choice ≤ 6) where
  b : ℕ
  b = bidders_of book

  b-few : bidders_of book ≤ 16
  b-few = within.bidders

  s-few : states book ≤ 16384
  s-few = within.states

  caps : AreCapped (menu_of book) (net_of book) (λ j. MOST_AMOUNT)
  caps = within.amounts

  table : size (table_lines c.table) ≤ 4456482
  table = exact-size (menu_of book) (net_of book) book.supply c.table b-few s-few caps priced.table

  part : (i : ℕ) → i < length c.choice → 0 < get_or c.choice i 0 → HasShortTable (part_of c.withouts (1 + i))
  part i lt some =
      let number : number_of c.choice (1 + i) ≡ get_or c.choice i 0 = ap (λ (x : ℕ). get_or c.choice x 0) (omega arith) in
      let wins : IsTrue (uses c.choice (1 + i)) = not_from_false _ (ne_eqb (number_of c.choice (1 + i)) 0 (λ z. omega (arith, z, number, some))) in
      let best = priced.parts (1 + i) (omega arith) (omega (arith, lt, is.choice.0)) wins in
      exact-size (without (menu_of book) (1 + i)) (net_of book) book.supply (part_of c.withouts (1 + i)).table b-few s-few
      (fewer-capped (menu_of book) (net_of book) (1 + i) (λ k. omega arith) caps) best.table

  parts : size (part_lines c.withouts) ≤ 26743200
  parts =
      let all : AllParts HasShortTable c.withouts = parts-all HasShortTable (bidders_of book) (states book) 1 c.choice c.withouts is.withouts part in
      omega (
        arith,
        parts-size (bidders_of book) (states book) 1 c.choice c.withouts b-few (omega (arith, is.choice.0, b-few)) is.withouts all,
        times-le (winners_in c.choice) 6 4457200 few,
      )

  lowered : size (table_lines c.lowered) ≤ 10862626
  lowered = omega (
    arith,
    table-size 638976 c.lowered (range-short (states book) 16384 c.lowered s-few is.lowered.1),
    times-le (length c.lowered) 17 638978 (omega (arith, is.lowered.0, b-few)),
  )

  rows : size (row_lines c.rows) ≤ 13500
  rows = omega (arith, rows-size (bidders_of book) c.rows b-few is.rows, times-le (length c.rows) 10 1350 is.few)

  abbrev tables : List Line
  tables = (line (codes "table") [] ∷ table_lines c.table) ++ part_lines c.withouts

  abbrev tail : List Line
  tail = line (codes "lowered") [] ∷ (table_lines c.lowered ++ line (codes "end") [] ∷ [])

  tail-size : size tail ≤ 10862640
  tail-size = omega (
    arith,
    lowered,
    size-append (table_lines c.lowered) (line (codes "end") [] ∷ []),
    line-size (codes "lowered") [] 0 tt (omega arith),
    line-size (codes "end") [] 0 tt (omega arith),
  )

  tables-size : size tables ≤ 31199700
  tables-size = omega (
    arith,
    table,
    parts,
    size-append (line (codes "table") [] ∷ table_lines c.table) (part_lines c.withouts),
    line-size (codes "table") [] 0 tt (omega arith),
  )

  rest-size : size (line (codes "pay") c.pay ∷ line (codes "rows") (pos (length c.rows) ∷ []) ∷ (row_lines c.rows ++ tail)) ≤ 10876900
  rest-size = omega (
    arith,
    pay-size (bidders_of book) c.pay b-few is.pay.0 is.pay.1,
    line-size (codes "rows") (pos (length c.rows) ∷ []) 1
        (omega (arith, is.few), tt) (omega arith),
    rows,
    tail-size,
    size-append (row_lines c.rows) tail,
  )

  body-size : size (body_lines c) ≤ 42078000
  body-size =
      let rest = line (codes "pay") c.pay ∷ line (codes "rows") (pos (length c.rows) ∷ []) ∷ (row_lines c.rows ++ tail) in
      omega (
        arith,
        line-size (codes "den") (c.den ∷ []) 1 (omega (arith, is.den), tt) (omega arith),
        line-size (codes "value") (c.value ∷ []) 1 (omega (arith, is.value), tt) (omega arith),
        choice-size (bidders_of book) c.choice b-few is.choice,
        size-append tables rest,
        tables-size,
        rest-size,
      )

  -- its text is short
  pub short : length (cert_text c) < PRICED_CERT_BYTES
  short =
      let version = version_lines (length c.choice) (length (get_or c.table 0 [])) in
      omega (
        arith,
        text-size 0 (cert_lines c),
        size-append version (body_lines c),
        version-size (is_first_version (length c.choice) (length (get_or c.table 0 []))),
        body-size,
      )
