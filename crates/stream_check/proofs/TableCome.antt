-- Lines of tables that have come.
use Rattle.std.proofs.Common.{◌≡◌, ℕ, zero, suc, ◌+◌, ◌-◌, ◌*◌, ◌^◌, ◌<◌, ◌≤◌, List, [], inl, inr, refl, sym, ap, subst, ◌∙◌, arith}
use Rattle.std.proofs.Math.Nat.{mul-le-mul_left}
use Rattle.std.proofs.lemmas.Bool.{cases_lt}
use Rattle.std.specs.Prelude.{ℤ, Bool, IsTrue, Option, Some, None, slice_index_or}
use Rattle.auction_model.specs.Book.{Book, net_of}
use Rattle.auction_model.specs.Prices.{weight_of}
use Rattle.cert_grammar.specs.Certificate.{CertValue}
use Rattle.cert_grammar.specs.CertText.{IsTable, as_numbers}
use Rattle.cert_soundness.specs.Tests.{Asks, bidders_of, lowered_net, states}
use Rattle.cert_check.specs.declared.failure.Failure.{Failure}
use Rattle.table_check.specs.declared.offers.TestedBids.{TestedBids}
use Rattle.table_check.specs.Growth.{Grows}
use Rattle.table_check.specs.LineTests.{RulesAt, worth_of}
use Rattle.cert_check.specs.Partway.{HoldsTo, IsJudged, IsLate, IsSmallPlace}
use Rattle.cert_check.proofs.HeadLines.{rules-C3, C3-rules}
use Rattle.cert_check.proofs.LoweredLines.{rules-C9, C9-rules}
use Rattle.cert_stream.specs.declared.due.NextLine.{NextLine}
use Rattle.cert_stream.specs.declared.due.NextLine.TheVariants.{Entries, End}
use Rattle.cert_stream.specs.declared.due.Table.{Table}
use Rattle.cert_stream.specs.declared.due.Table.TheVariants.{Head, Part, Lowered}
use Rattle.cert_stream.specs.Order.{IsPartNext, IsTableNext}
use Rattle.cert_stream.specs.LinesLeft.{table_in}
use Rattle.cert_stream.specs.Rooms.{segment}
use Rattle.stream_check.specs.declared.moment.LineContext.{LineContext}
use Rattle.stream_check.specs.Grown.{IsGrown}
use Rattle.stream_check.specs.InRoom.{HasLineBefore}
use Rattle.stream_check.specs.Lines.{IsAtLine, IsNext}
use Rattle.stream_check.specs.Moments.{IsAt}
use Rattle.stream_check.specs.Rules.{IsFirstBetween, HasTwoLines, lines_tested}
use Rattle.stream_check.specs.Tests.{IsFound, IsPlain, one_of}
use Rattle.stream_check.proofs.NextLaws.{at-due, next-due, found-by, found-next, asks-nobody, behind-part}
use Rattle.stream_check.proofs.RuleLaws.{between-same, tested-inside, tested-all}

-- no more lines are tested than there are
tested-most : (b k s : ℕ) → k ≤ b → lines_tested b k * s ≤ (b + 1) * s
tested-most b k s le =
    elim (cases_lt k b) [
      | inl lt ↦ subst (λ (n : ℕ). n * s ≤ (b + 1) * s) (sym (tested-inside b k lt))
          (let up : k ≤ b + 1 = omega (arith, lt) in omega (arith, mul-le-mul_left s up))
      | inr past ↦ subst (λ (n : ℕ). n * s ≤ (b + 1) * s) (sym (tested-all b k past))
          (let up : suc b ≤ b + 1 = omega arith in omega (arith, mul-le-mul_left s up))
    ]

-- a place found early is small
pub late-small : (book : Book) (w : ℕ → ℕ) (c : CertValue) (test base n : ℕ) (late : Option ℕ) → n < 2 ^ 62 → IsLate book w c test base n late
    → IsSmallPlace late
late-small book w c test base n None few is = tt
late-small book w c test base n (Some p) few is = omega (arith, few, is.0)

-- lines of tables that are the same
entries-same : (x y : Table) (m n : ℕ) → Entries x m ≡ Entries y n → (x ≡ y) × (m ≡ n)
entries-same x y m n e = (cc, cc)

-- after a table no line of one comes
no-entries : (b : ℕ) (choice : List ℤ) (table : Table) (next : NextLine) → IsTableNext b choice table next
    → (other : Table) (j : ℕ) → next ≡ Entries other (suc j) → ⊥
no-entries b choice Head next is other j e = subst (IsPartNext b choice 0) e is
no-entries b choice (Part i) next is other j e = subst (IsPartNext b choice i) e is
no-entries b choice Lowered next is other j e = subst IsPlain (sym is ∙ e) tt

module _ (at : LineContext) (c : CertValue) (is : IsAt at c) (table : Table) (k : ℕ) (due : at.due ≡ Entries table k) where
  here : IsAtLine at.book.now (weight_of at.weights.now) c (Entries table k) at.count at.late at.members at.grows at.totals.now at.room.now
  here = at-due at c (Entries table k) due is

  -- the line's number is one of the table
  pub line-inside : k ≤ bidders_of at.book.now
  line-inside = here.known.named.1

  -- the room has the line before it
  line-before : 0 < k → segment (bidders_of at.book.now) (states at.book.now) (Entries table (k - 1)) at.room.now ≡ slice_index_or (table_in c table) (k - 1) []
  line-before = before k here.known.in_room.before
    where
      before : (k : ℕ) → HasLineBefore (bidders_of at.book.now) (states at.book.now) c (Entries table k) at.room.now → 0 < k
          → segment (bidders_of at.book.now) (states at.book.now) (Entries table (k - 1)) at.room.now ≡ slice_index_or (table_in c table) (k - 1) []
      before zero has some = absurd (omega (arith, some))
      before (suc k) has some =
          let back : k ≡ suc k - 1 = omega arith in
          subst (λ (n : ℕ). segment (bidders_of at.book.now) (states at.book.now) (Entries table n) at.room.now ≡ slice_index_or (table_in c table) n []) back
          has

  -- it never falls if this was seen
  pub known-before : 0 < k → IsTrue at.grows
      → Grows at.book.now.supply (segment (bidders_of at.book.now) (states at.book.now) (Entries table (k - 1)) at.room.now)
  known-before some seen =
      let up : k ≡ suc (k - 1) = omega (arith, some) in
      subst (Grows at.book.now.supply) (sym (line-before some)) (here.known.grown seen table (k - 1) (ap (Entries table) up))

  -- so does the line itself, for the line that comes next
  pub grown-next : (next : NextLine) (grows : Bool) → IsNext at.book.now c at.due next
      → (IsTrue grows → Grows at.book.now.supply (segment (bidders_of at.book.now) (states at.book.now) (Entries table k) at.room.now))
      → IsGrown at.book.now c next grows
  grown-next next grows follows own seen other j e =
      let order = next-due at c (Entries table k) next due follows in
      elim (cases_lt k (bidders_of at.book.now)) [
        | inl lt ↦
            let same : Entries table (k + 1) ≡ Entries other (suc j) = sym (order.0 lt) ∙ e in
            let parts = entries-same table other (k + 1) (suc j) same in
            let k_is : k ≡ j = omega (arith, parts.1) in
            subst (λ (x : Table). Grows at.book.now.supply (slice_index_or (table_in c x) j [])) parts.0
            (subst (λ (n : ℕ). Grows at.book.now.supply (slice_index_or (table_in c table) n [])) k_is
            (subst (Grows at.book.now.supply) (here.own.whole tt) (own seen)))
        | inr past ↦ absurd (no-entries (bidders_of at.book.now) (as_numbers c.choice) table next (order.1 past) other j e)
      ]

  -- the room has the line, and the one before it
  pub two-lines : IsTable (bidders_of at.book.now) (states at.book.now) (table_in c table) → HasTwoLines at.book.now table k at.room.now (table_in c table)
  two-lines whole = record { whole = whole; line = here.own.whole tt; before = line-before }

module _ (at : LineContext) (c : CertValue) (is : IsAt at c) (k : ℕ) (due : at.due ≡ Entries Head k) where
  -- the room has line k of the head's table, and the one before it
  pub head-two : HasTwoLines at.book.now Head k at.room.now c.table
  head-two = two-lines at c is Head k due is.kept.table

  -- all that is asked before the rules of the line before it holds
  pub head-holds : HoldsTo at.book.now (weight_of at.weights.now) c 3 ((k - 1) * states at.book.now)
  head-holds = (here at c is Head k due).known.tested.holds

  -- of the first k places after the rules it is known which fails first
  pub head-late : IsLate at.book.now (weight_of at.weights.now) c 3 ((bidders_of at.book.now + 1) * states at.book.now) k at.late
  head-late = (here at c is Head k due).known.tested.early

  -- the rules that were tested are those of the third test
  pub head-rules : (o : TestedBids) (r : Option ℕ) → o.book.now ≡ at.book.now → o.skip ≡ 0
      → ((j i : ℕ) → 0 < j → j ≤ bidders_of o.book.now → worth_of o j i ≡ net_of o.book.now j i)
      → IsFirstBetween (RulesAt o c.table) ((k - 1) * states o.book.now) (lines_tested (bidders_of o.book.now) k * states o.book.now) r
      → IsFirstBetween (Asks at.book.now (weight_of at.weights.now) c 3) ((k - 1) * states at.book.now)
      (lines_tested (bidders_of at.book.now) k * states at.book.now) r
  head-rules o r same nobody net f =
      subst (λ (b : Book). IsFirstBetween (Asks b (weight_of at.weights.now) c 3) ((k - 1) * states b) (lines_tested (bidders_of b) k * states b) r) same
      (between-same (RulesAt o c.table) (Asks o.book.now (weight_of at.weights.now) c 3) ((k - 1) * states o.book.now)
      (lines_tested (bidders_of o.book.now) k * states o.book.now) r
      (λ q low rules. rules-C3 o (weight_of at.weights.now) c nobody net q (omega
      (arith, low, tested-most (bidders_of o.book.now) k (states o.book.now) inside)) rules)
      (λ q asks. C3-rules o (weight_of at.weights.now) c nobody net q asks) f)
    where
      inside : k ≤ bidders_of o.book.now
      inside = subst (λ (b : Book). k ≤ bidders_of b) (sym same) (line-inside at c is Head k due)

  -- what is found when the next line is due
  pub head-shows : (next : NextLine) (failed failed2 : Option Failure) (late late2 : Option ℕ) → IsNext at.book.now c at.due next
      → IsJudged at.book.now (weight_of at.weights.now) c 3 (lines_tested (bidders_of at.book.now) k * states at.book.now) failed
      → IsLate at.book.now (weight_of at.weights.now) c 3 ((bidders_of at.book.now + 1) * states at.book.now) (k + 1) late
      → (k < bidders_of at.book.now → (failed2 ≡ failed) × (late2 ≡ late))
      → (k ≡ bidders_of at.book.now → IsJudged at.book.now (weight_of at.weights.now) c 3 ((bidders_of at.book.now + 1) * states at.book.now) failed
      → IsJudged at.book.now (weight_of at.weights.now) c 4 0 failed2)
      → (k ≡ bidders_of at.book.now → late2 ≡ None) → IsFound at.book.now (weight_of at.weights.now) c next failed2 late2
  head-shows next failed failed2 late late2 follows judged early inside whole none =
      let b = bidders_of at.book.now in
      let w = weight_of at.weights.now in
      let order = next-due at c (Entries Head k) next due follows in
      elim (cases_lt k (bidders_of at.book.now)) [
        | inl lt ↦
            found-next at.book.now (weight_of at.weights.now) c (Entries Head (k + 1)) next failed2 late2 (order.0 lt)
            (subst (λ (f : Option Failure). IsFound at.book.now (weight_of at.weights.now) c (Entries Head (k + 1)) f late2) (sym (inside lt).0)
            (subst (λ (l : Option ℕ). IsFound at.book.now (weight_of at.weights.now) c (Entries Head (k + 1)) failed l) (sym (inside lt).1)
            (found-by at.book.now (weight_of at.weights.now) c 3 (k * states at.book.now) (Entries Head (k + 1)) failed late
            (subst (λ (n : ℕ). IsJudged at.book.now (weight_of at.weights.now) c 3 (n * states at.book.now) failed)
            (tested-inside (bidders_of at.book.now) k lt) judged)
            (λ holds. record {
              holds = (let up : k ≡ k + 1 - 1 = omega arith in subst (λ (n : ℕ). HoldsTo at.book.now (weight_of at.weights.now) c 3 (n * states at.book.now))
                  up holds);
              early = early;
              part = tt;
            }))))
        | inr past ↦
            let last : k ≡ bidders_of at.book.now = omega (arith, past, line-inside at c is Head k due) in
            let all : lines_tested (bidders_of at.book.now) k ≡ bidders_of at.book.now + 1 = tested-all (bidders_of at.book.now) k past ∙ omega arith in
            let four = whole last (subst (λ (n : ℕ). IsJudged at.book.now (weight_of at.weights.now) c 3 (n * states at.book.now) failed) all judged) in
            subst (λ (l : Option ℕ). IsFound at.book.now (weight_of at.weights.now) c next failed2 l) (sym (none last))
            (found-by at.book.now (weight_of at.weights.now) c 4 0 next failed2 None four
            (λ holds. behind-part at.book.now (weight_of at.weights.now) c 0 next (order.1 past) (asks-nobody at.book.now (weight_of at.weights.now) c holds)))
      ]

module _ (at : LineContext) (c : CertValue) (is : IsAt at c) (k : ℕ) (due : at.due ≡ Entries Lowered k) where
  -- the room has line k of the lowered table, and the one before it
  pub lowered-two : HasTwoLines at.book.now Lowered k at.room.now c.lowered
  lowered-two = two-lines at c is Lowered k due is.kept.lowered

  -- all that is asked before the rules of the line before it holds
  pub lowered-holds : HoldsTo at.book.now (weight_of at.weights.now) c 9 ((k - 1) * states at.book.now)
  lowered-holds = (here at c is Lowered k due).known.tested.holds

  -- of the place after the rules it is known whether it fails, once line 0 has come
  pub lowered-late : IsLate at.book.now (weight_of at.weights.now) c 9 ((bidders_of at.book.now + 1) * states at.book.now) (one_of k) at.late
  lowered-late = (here at c is Lowered k due).known.tested.early

  -- the rules that were tested are those of the ninth test
  pub lowered-rules : (o : TestedBids) (r : Option ℕ) → o.book.now ≡ at.book.now → o.skip ≡ 0
      → ((j i : ℕ) → 0 < j → j ≤ bidders_of o.book.now → worth_of o j i ≡ lowered_net o.book.now c j i)
      → IsFirstBetween (RulesAt o c.lowered) ((k - 1) * states o.book.now) (lines_tested (bidders_of o.book.now) k * states o.book.now) r
      → IsFirstBetween (Asks at.book.now (weight_of at.weights.now) c 9) ((k - 1) * states at.book.now)
      (lines_tested (bidders_of at.book.now) k * states at.book.now) r
  lowered-rules o r same nobody net f =
      subst (λ (b : Book). IsFirstBetween (Asks b (weight_of at.weights.now) c 9) ((k - 1) * states b) (lines_tested (bidders_of b) k * states b) r) same
      (between-same (RulesAt o c.lowered) (Asks o.book.now (weight_of at.weights.now) c 9) ((k - 1) * states o.book.now)
      (lines_tested (bidders_of o.book.now) k * states o.book.now) r
      (λ q low rules. rules-C9 o (weight_of at.weights.now) c nobody net q (omega
      (arith, low, tested-most (bidders_of o.book.now) k (states o.book.now) inside)) rules)
      (λ q asks. C9-rules o (weight_of at.weights.now) c nobody net q asks) f)
    where
      inside : k ≤ bidders_of o.book.now
      inside = subst (λ (b : Book). k ≤ bidders_of b) (sym same) (line-inside at c is Lowered k due)

  -- what is found when the next line is due
  pub lowered-shows : (next : NextLine) (failed failed2 : Option Failure) (late late2 : Option ℕ) → IsNext at.book.now c at.due next
      → IsJudged at.book.now (weight_of at.weights.now) c 9 (lines_tested (bidders_of at.book.now) k * states at.book.now) failed
      → IsLate at.book.now (weight_of at.weights.now) c 9 ((bidders_of at.book.now + 1) * states at.book.now) 1 late
      → (k < bidders_of at.book.now → (failed2 ≡ failed) × (late2 ≡ late))
      → (k ≡ bidders_of at.book.now → IsJudged at.book.now (weight_of at.weights.now) c 9 ((bidders_of at.book.now + 1) * states at.book.now) failed
      → IsJudged at.book.now (weight_of at.weights.now) c 10 0 failed2)
      → (k ≡ bidders_of at.book.now → late2 ≡ None) → IsFound at.book.now (weight_of at.weights.now) c next failed2 late2
  lowered-shows next failed failed2 late late2 follows judged early inside whole none =
      let order = next-due at c (Entries Lowered k) next due follows in
      elim (cases_lt k (bidders_of at.book.now)) [
        | inl lt ↦
            found-next at.book.now (weight_of at.weights.now) c (Entries Lowered (k + 1)) next failed2 late2 (order.0 lt)
            (subst (λ (f : Option Failure). IsFound at.book.now (weight_of at.weights.now) c (Entries Lowered (k + 1)) f late2) (sym (inside lt).0)
            (subst (λ (l : Option ℕ). IsFound at.book.now (weight_of at.weights.now) c (Entries Lowered (k + 1)) failed l) (sym (inside lt).1)
            (found-by at.book.now (weight_of at.weights.now) c 9 (k * states at.book.now) (Entries Lowered (k + 1)) failed late
            (subst (λ (n : ℕ). IsJudged at.book.now (weight_of at.weights.now) c 9 (n * states at.book.now) failed)
            (tested-inside (bidders_of at.book.now) k lt) judged)
            (λ holds. record {
              holds = (let up : k ≡ k + 1 - 1 = omega arith in subst (λ (n : ℕ). HoldsTo at.book.now (weight_of at.weights.now) c 9 (n * states at.book.now))
                  up holds);
              early = (let up : suc k ≡ k + 1 = omega arith in subst (λ (n : ℕ). IsLate at.book.now (weight_of at.weights.now) c 9
                  ((bidders_of at.book.now + 1) * states at.book.now) (one_of n) late) up early);
              part = tt;
            }))))
        | inr past ↦
            let last : k ≡ bidders_of at.book.now = omega (arith, past, line-inside at c is Lowered k due) in
            let all : lines_tested (bidders_of at.book.now) k ≡ bidders_of at.book.now + 1 = tested-all (bidders_of at.book.now) k past ∙ omega arith in
            let ten = whole last (subst (λ (n : ℕ). IsJudged at.book.now (weight_of at.weights.now) c 9 (n * states at.book.now) failed) all judged) in
            found-next at.book.now (weight_of at.weights.now) c End next failed2 late2 (order.1 past)
            (subst (λ (l : Option ℕ). IsFound at.book.now (weight_of at.weights.now) c End failed2 l) (sym (none last))
            (found-by at.book.now (weight_of at.weights.now) c 10 0 End failed2 None ten (λ holds. record { holds = holds; early = refl; part = tt })))
      ]
