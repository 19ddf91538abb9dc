-- The choice and the lines of a part that have come.
use Rattle.std.proofs.Common.{◌≡◌, ℕ, suc, ◌+◌, ◌-◌, ◌*◌, ◌<◌, ◌≤◌, [], inl, inr, refl, sym, subst, arith}
use Rattle.std.proofs.lemmas.Bool.{cases_lt, false≢true}
use Rattle.std.specs.Prelude.{ℤ, ◌≤ℤ◌, ◌↔◌, Bool, true, false, IsTrue, Option, Some, None, is_some, slice_index_or}
use Rattle.std.proofs.Math.Nat.{mul-le-mul_left}
use Rattle.auction_model.specs.Book.{Book, market_of, menu_of, net_of}
use Rattle.auction_model.specs.Market.{number_of, uses, value_of}
use Rattle.auction_model.specs.Menu.{without}
use Rattle.auction_model.specs.Prices.{weight_of}
use Rattle.auction_model.specs.Table.{entry_at}
use Rattle.cert_grammar.specs.Certificate.{CertValue, part_of}
use Rattle.cert_grammar.specs.CertText.{IsChoice, as_numbers}
use Rattle.cert_soundness.specs.Tests.{Asks, FailsFirst, IsPart, ObeysAt, bidders_of, full, states}
use Rattle.cert_check.specs.declared.failure.Failure.{Failure}
use Rattle.table_check.specs.declared.offers.TestedBids.{TestedBids}
use Rattle.table_check.specs.LineTests.{RulesAt, worth_of}
use Rattle.cert_check.specs.Partway.{HoldsTo}
use Rattle.cert_check.proofs.PartLines.{rules-part, part-rules}
use Rattle.cert_check.proofs.PartwayLaws.{holds-further}
use Rattle.cert_stream.specs.declared.due.NextLine.{NextLine}
use Rattle.cert_stream.specs.declared.due.NextLine.TheVariants.{Title, Entries, PartChoice}
use Rattle.cert_stream.specs.declared.due.Table.TheVariants.{Part}
use Rattle.cert_stream.specs.Rooms.{segment}
use Rattle.stream_check.specs.declared.moment.LineContext.{LineContext}
use Rattle.stream_check.specs.Lines.{IsAtLine, IsNext}
use Rattle.stream_check.specs.Moments.{IsAt}
use Rattle.stream_check.specs.Rules.{IsFirstBetween, HasTwoLines, lines_tested}
use Rattle.stream_check.specs.Tests.{IsFound, IsPartTo}
use Rattle.stream_check.proofs.NextLaws.{at-due, next-due, found-next, behind-part, asks-C4}
use Rattle.stream_check.proofs.RuleLaws.{tested-inside, tested-all}
use Rattle.stream_check.proofs.TableCome.{two-lines}

-- a part that shows nothing is what fails first
pub part-failed : (book : Book) (w : ℕ → ℕ) (c : CertValue) (j : ℕ) (next : NextLine) (failed : Option Failure) (late : Option ℕ) (f : Failure) → failed ≡ Some f
    → f.test ≡ 4 → f.place ≡ j → 0 < j → j ≤ bidders_of book → IsTrue (uses c.choice j)
    → HoldsTo book w c 4 j → (IsPart book j (part_of c.withouts j) → ⊥) → IsFound book w c next failed late
part-failed book w c j next failed late f is test place some inside wins before fails =
    subst (λ (o : Option Failure). IsFound book w c next o late) (sym is)
    (subst (λ (t : ℕ). FailsFirst book w c t f.place) (sym test)
    (subst (λ (p : ℕ). FailsFirst book w c 4 p) (sym place)
    (record { fails = λ asks. fails ((asks.3 refl).part some inside wins); before = before })))

module _ (at : LineContext) (c : CertValue) (is : IsAt at c) (j : ℕ) (due : at.due ≡ PartChoice j) where
  own : IsAtLine at.book.now (weight_of at.weights.now) c (PartChoice j) at.count at.late at.members at.grows at.totals.now at.room.now
  own = at-due at c (PartChoice j) due is

  -- the room has the choice without the winner
  pub part-there : segment (bidders_of at.book.now) (states at.book.now) (PartChoice j) at.room.now ≡ as_numbers (part_of c.withouts j).choice
  part-there = own.own.whole tt

  -- that choice has a number for each bidder
  pub part-kept : IsChoice (bidders_of at.book.now) (part_of c.withouts j).choice
  part-kept = own.known.has.choice

  -- the winner is one of the bidders
  pub part-named : (0 < j) × (j ≤ bidders_of at.book.now)
  part-named = own.known.named

  -- what is found of its choice
  pub choice-shows : (next : NextLine) (failed : Option Failure) (late : Option ℕ) (b : Bool) → IsNext at.book.now c at.due next
      → (IsTrue b ↔ (IsTrue ((market_of at.book.now).allowed (part_of c.withouts j).choice) × (number_of (part_of c.withouts j).choice j ≡ 0)))
      → (IsTrue b → (failed ≡ None) × (late ≡ None)) → ((IsTrue b → ⊥) → (f : Failure) × (failed ≡ Some f) × (f.test ≡ 4) × (f.place ≡ j))
      → IsFound at.book.now (weight_of at.weights.now) c next failed late
  choice-shows next failed late true follows test holds fails =
      let two = test.0 refl in
      let none = holds refl in
      found-next at.book.now (weight_of at.weights.now) c (Title (Part j)) next failed late (next-due at c (PartChoice j) next due follows)
      (subst (λ (f : Option Failure). IsFound at.book.now (weight_of at.weights.now) c (Title (Part j)) f late) (sym none.0)
      (subst (λ (l : Option ℕ). IsFound at.book.now (weight_of at.weights.now) c (Title (Part j)) None l) (sym none.1)
      (record {
        holds = own.known.tested.holds;
        early = refl;
        part = (
          own.known.tested.part,
          record {
            allowed = two.0;
            unused = two.1;
            rules = λ l s lt low. absurd (omega (arith, lt));
            top = λ some. absurd (omega (arith, some));
          },
        );
      })))
  choice-shows next failed late false follows test holds fails =
      let (f, some_is, test_is, place_is) = fails (λ t. absurd (false≢true t)) in
      part-failed at.book.now (weight_of at.weights.now) c j next failed late f some_is test_is place_is part-named.0 part-named.1 own.known.tested.part
      own.known.tested.holds (λ part. false≢true (test.1 (part.allowed, part.unused)))

module _ (at : LineContext) (c : CertValue) (is : IsAt at c) (j k : ℕ) (due : at.due ≡ Entries (Part j) k) where
  line : IsAtLine at.book.now (weight_of at.weights.now) c (Entries (Part j) k) at.count at.late at.members at.grows at.totals.now at.room.now
  line = at-due at c (Entries (Part j) k) due is

  -- the room has line k of the part's table, and the one before it
  pub lines-two : HasTwoLines at.book.now (Part j) k at.room.now (part_of c.withouts j).table
  lines-two = two-lines at c is (Part j) k due line.known.has.table

  -- the room has line k of the part's table
  pub lines-there : segment (bidders_of at.book.now) (states at.book.now) (Entries (Part j) k) at.room.now ≡ slice_index_or (part_of c.withouts j).table k []
  lines-there = line.own.whole tt

  -- the winner is one of the bidders
  pub lines-named : (0 < j) × (j ≤ bidders_of at.book.now)
  lines-named = line.known.named.0

  -- the line's number is one of the table
  pub lines-inside : k ≤ bidders_of at.book.now
  lines-inside = line.known.named.1

  -- nothing in the lines before it speaks against the part
  pub lines-part : IsPartTo at.book.now j (part_of c.withouts j) k
  lines-part = line.known.tested.part.1

  -- the choice without the winner is in the room
  pub lines-choice : segment (bidders_of at.book.now) (states at.book.now) (PartChoice j) at.room.now ≡ as_numbers (part_of c.withouts j).choice
  lines-choice = line.known.in_room.parts j lines-named.0 lines-named.1 (omega arith) line.known.tested.part.0

  -- that choice has a number for each bidder
  pub lines-kept : IsChoice (bidders_of at.book.now) (part_of c.withouts j).choice
  lines-kept = line.known.has.choice

  -- a broken rule, or a line 0 that has too much
  pub line-fails : (next : NextLine) (failed : Option Failure) (late : Option ℕ) (f : Failure) → failed ≡ Some f → f.test ≡ 4 → f.place ≡ j
      → (IsPart at.book.now j (part_of c.withouts j) → ⊥) → IsFound at.book.now (weight_of at.weights.now) c next failed late
  line-fails next failed late f some_is test_is place_is fails =
      part-failed at.book.now (weight_of at.weights.now) c j next failed late f some_is test_is place_is lines-named.0 lines-named.1 line.known.tested.part.0
      line.known.tested.holds fails

  module _ (o : TestedBids) (same : o.book.now ≡ at.book.now) (skip : o.skip ≡ j) (net : (i n : ℕ) → 0 < i → i ≤ bidders_of o.book.now
      → worth_of o i n ≡ net_of o.book.now i n) where
    -- a fault among the rules
    pub rule-fails : (p : ℕ) → IsFirstBetween (RulesAt o (part_of c.withouts j).table) ((k - 1) * states o.book.now)
        (lines_tested (bidders_of o.book.now) k * states o.book.now) (Some p) → IsPart at.book.now j (part_of c.withouts j) → ⊥
    rule-fails p f part = f.2 (part-rules o j (part_of c.withouts j) skip net p (subst (λ (b : Book). IsPart b j (part_of c.withouts j)) (sym same) part))

    -- the rules of the lines that are tested now
    rules-kept : IsFirstBetween (RulesAt o (part_of c.withouts j).table) ((k - 1) * states o.book.now)
        (lines_tested (bidders_of o.book.now) k * states o.book.now) None
        → (l s : ℕ) → k ≤ suc l → l < lines_tested (bidders_of at.book.now) k → l ≤ bidders_of at.book.now → s < states at.book.now
        → ObeysAt (without (menu_of at.book.now) j) (net_of at.book.now) at.book.now.supply (part_of c.withouts j).table l s
    rules-kept f l s from to le lt =
        subst (λ (b : Book). l < lines_tested (bidders_of b) k → l ≤ bidders_of b → s < states b → ObeysAt (without (menu_of b) j) (net_of b) b.supply
        (part_of c.withouts j).table l s) same
        (λ to le lt. rules-part o j (part_of c.withouts j) skip net l s le lt (f (l * states o.book.now + s) (low (states o.book.now))
        (high (states o.book.now) (lines_tested (bidders_of o.book.now) k) to lt))) to le lt
      where
        low : (size : ℕ) → (k - 1) * size ≤ l * size + s
        low size = let up : k - 1 ≤ l = omega (arith, from) in omega (arith, mul-le-mul_left size up)

        high : (size many : ℕ) → l < many → s < size → l * size + s < many * size
        high size many less in_line = let up : suc l ≤ many = omega (arith, less) in omega (arith, in_line, mul-le-mul_left size up)

    -- the line keeps all that is asked of it
    pub line-shows : (next : NextLine) (failed : Option Failure) (late : Option ℕ) → IsNext at.book.now c at.due next → failed ≡ None → late ≡ None
        → IsFirstBetween (RulesAt o (part_of c.withouts j).table) ((k - 1) * states o.book.now) (lines_tested (bidders_of o.book.now) k * states o.book.now)
        None
        → (k ≡ 0 → entry_at (part_of c.withouts j).table 0 (full at.book.now) ≤ℤ value_of (market_of at.book.now) (part_of c.withouts j).choice)
        → IsFound at.book.now (weight_of at.weights.now) c next failed late
    line-shows next failed late follows none no_late f top =
        let order = next-due at c (Entries (Part j) k) next due follows in
        subst (λ (o : Option Failure). IsFound at.book.now (weight_of at.weights.now) c next o late) (sym none)
        (subst (λ (l : Option ℕ). IsFound at.book.now (weight_of at.weights.now) c next None l) (sym no_late)
        (elim (cases_lt k (bidders_of at.book.now)) [
          | inl lt ↦
              found-next at.book.now (weight_of at.weights.now) c (Entries (Part j) (k + 1)) next None None (order.0 lt) (record {
                holds = line.known.tested.holds;
                early = refl;
                part = (
                  line.known.tested.part.0,
                  record {
                    allowed = lines-part.allowed;
                    unused = lines-part.unused;
                    rules = λ l s low in_line. rule l s (omega (arith, low)) (omega (arith, low, lt)) in_line
                        (λ from. rules-kept f l s from (subst (λ (n : ℕ). l < n) (sym (tested-inside (bidders_of at.book.now) k lt)) (omega (arith, low)))
                        (omega (arith, low, lt)) in_line);
                    top = λ some. first;
                  },
                );
              })
          | inr past ↦
              behind-part at.book.now (weight_of at.weights.now) c j next (order.1 past)
              (subst (HoldsTo at.book.now (weight_of at.weights.now) c 4) {x = j + 1} {y = suc j} (omega arith)
              (holds-further at.book.now (weight_of at.weights.now) c 4 j 1 line.known.tested.holds
              (λ i low. let here : j ≡ j + i = omega (arith, low) in subst (λ (n : ℕ). Asks at.book.now (weight_of at.weights.now) c 4 n) here
              (asks-C4 at.book.now (weight_of at.weights.now) c j (record {
                part = λ some inside wins. record {
                  allowed = lines-part.allowed;
                  unused = lines-part.unused;
                  rules = λ l s le in_line. rule l s (omega (arith, le, past)) le in_line
                      (λ from. rules-kept f l s from (subst (λ (n : ℕ). l < n) (sym (tested-all (bidders_of at.book.now) k past)) (omega (arith, le))) le
                      in_line);
                  top = first;
                };
              })))))
        ]))
      where
        -- a line was tested before, or is now
        rule : (l s : ℕ) → l ≤ k → l ≤ bidders_of at.book.now → s < states at.book.now
            → (k ≤ suc l → ObeysAt (without (menu_of at.book.now) j) (net_of at.book.now) at.book.now.supply (part_of c.withouts j).table l s)
            → ObeysAt (without (menu_of at.book.now) j) (net_of at.book.now) at.book.now.supply (part_of c.withouts j).table l s
        rule l s most le in_line now = elim (cases_lt (suc l) k) [
          | inl lt ↦ lines-part.rules l s lt in_line
          | inr from ↦ now from
        ]

        -- line 0 has come
        first : entry_at (part_of c.withouts j).table 0 (full at.book.now) ≤ℤ value_of (market_of at.book.now) (part_of c.withouts j).choice
        first = elim (cases_lt 0 k) [
          | inl some ↦ lines-part.top some
          | inr zero_is ↦ top (omega (arith, zero_is))
        ]

    -- by the test of line 0
    pub line-decides : (next : NextLine) (failed : Option Failure) (late : Option ℕ) (b : Bool) → IsNext at.book.now c at.due next
        → (IsTrue b ↔ (k ≡ 0 → entry_at (part_of c.withouts j).table 0 (full at.book.now) ≤ℤ value_of (market_of at.book.now) (part_of c.withouts j).choice))
        → (IsTrue b → (failed ≡ None) × (late ≡ None)) → ((IsTrue b → ⊥) → (f : Failure) × (failed ≡ Some f) × (f.test ≡ 4) × (f.place ≡ j))
        → IsFirstBetween (RulesAt o (part_of c.withouts j).table) ((k - 1) * states o.book.now) (lines_tested (bidders_of o.book.now) k * states o.book.now)
        None → IsFound at.book.now (weight_of at.weights.now) c next failed late
    line-decides next failed late true follows test holds fails f = (let none = holds refl in line-shows next failed late follows none.0 none.1 f (test.0 refl))
    line-decides next failed late false follows test holds fails f =
        let (g, some_is, test_is, place_is) = fails (λ t. absurd (false≢true t)) in
        line-fails next failed late g some_is test_is place_is (λ part. false≢true (test.1 (λ first. part.top)))

-- a fault that is some
pub some-fault : (r : Option ℕ) → is_some r ≡ true → (p : ℕ) × (r ≡ Some p)
some-fault None e = absurd (false≢true e)
some-fault (Some p) e = (p, refl)

-- a fault that isn't some is none
pub none-fault : (r : Option ℕ) → is_some r ≡ false → r ≡ None
none-fault None e = refl
none-fault (Some p) e = absurd (false≢true (sym e))

-- a test of numbers that are these
pub tops : (number most entry value : ℤ) (b : Bool) (k : ℕ) → k ≡ 0 → number ≡ entry → most ≡ value → (IsTrue b ↔ (number ≤ℤ most))
    → IsTrue b ↔ (k ≡ 0 → entry ≤ℤ value)
tops number most entry value b k first is most_is test =
    let low = subst (λ (z : ℤ). IsTrue b ↔ (z ≤ℤ value)) is (subst (λ (z : ℤ). IsTrue b ↔ (number ≤ℤ z)) most_is test) in
    (λ t e. low.0 t, λ h. low.1 (h first))
