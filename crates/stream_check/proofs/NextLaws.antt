-- What is known of the tests after a line, by the line that comes next.
use Rattle.std.proofs.Common.{◌≡◌, ◌≢◌, ℕ, suc, ◌+◌, ◌-◌, ◌<◌, ◌≤◌, List, get_or, inl, inr, refl, sym, ap, subst, ◌∙◌, arith}
use Rattle.std.proofs.lemmas.Bool.{cases_lt}
use Rattle.std.specs.Prelude.{pos, Option, Some, None, IsTrue}
use Rattle.auction_model.specs.Book.{Book}
use Rattle.auction_model.specs.Market.{number_of, uses}
use Rattle.auction_model.specs.Prices.{weight_of}
use Rattle.cert_grammar.specs.Certificate.{CertValue, part_of}
use Rattle.cert_grammar.specs.CertText.{IsCertificate, IsChoice, as_numbers}
use Rattle.cert_grammar.proofs.Written.{long_numbers}
use Rattle.cert_soundness.specs.Tests.{Asks, C4, bidders_of}
use Rattle.cert_check.specs.declared.failure.Failure.{Failure}
use Rattle.cert_check.specs.Partway.{HoldsTo, IsJudged}
use Rattle.cert_check.proofs.PartLaws.{loses-zero, wins-some}
use Rattle.cert_check.proofs.PartwayLaws.{holds-further, holds-whole}
use Rattle.cert_stream.specs.declared.due.NextLine.{NextLine}
use Rattle.cert_stream.specs.declared.due.NextLine.TheVariants.{Choice, Den, End, Entries, Limits, Members, Multipliers, Nothing, PartChoice, Payments}
use Rattle.cert_stream.specs.declared.due.NextLine.TheVariants.{RowChoice, Rows, Title, Value, Version, Without}
use Rattle.cert_stream.specs.declared.due.Table.{Table}
use Rattle.cert_stream.specs.declared.due.Table.TheVariants.{Head, Part, Lowered}
use Rattle.cert_stream.specs.Order.{IsPartNext, NoneFrom}
use Rattle.cert_stream.proofs.Comings.{finds, number_at}
use Rattle.stream_check.specs.declared.moment.LineContext.{LineContext}
use Rattle.stream_check.specs.Lines.{IsAtLine, IsNext}
use Rattle.stream_check.specs.Moments.{IsAt}
use Rattle.stream_check.specs.Tests.{IsFound, IsTestedTo, IsPlain}

-- at the line that it is
pub at-due : (at : LineContext) (c : CertValue) (due : NextLine) → at.due ≡ due → IsAt at c → IsAtLine at.book.now
    (weight_of at.weights.now) c due at.count at.late at.members at.grows at.totals.now at.room.now
at-due at c due is a = subst (λ (d : NextLine). IsAtLine at.book.now (weight_of at.weights.now) c d at.count at.late at.members at.grows at.totals.now at.room.now) is a

-- what comes next comes next after that line
pub next-due : (at : LineContext) (c : CertValue) (due next : NextLine) → at.due ≡ due → IsNext at.book.now c at.due next → IsNext at.book.now c due next
next-due at c due next is n = subst (λ (d : NextLine). IsNext at.book.now c d next) is n

-- what fails first is found whatever comes next
pub found-by : (book : Book) (w : ℕ → ℕ) (c : CertValue) (test place : ℕ) (next : NextLine) (failed : Option Failure) (late : Option ℕ)
    → IsJudged book w c test place failed → (HoldsTo book w c test place → IsTestedTo book w c next late) → IsFound book w c next failed late
found-by book w c test place next (Some f) late judged more = judged
found-by book w c test place next None late judged more = more judged

-- for the line that is next
pub found-next : (book : Book) (w : ℕ → ℕ) (c : CertValue) (due next : NextLine) (failed : Option Failure) (late : Option ℕ) → next ≡ due
    → IsFound book w c due failed late → IsFound book w c next failed late
found-next book w c due next failed late is found = subst (λ (d : NextLine). IsFound book w c d failed late) (sym is) found

-- a bidder whose number is 0 loses
pub loses : (choice : List ℕ) (j : ℕ) → get_or (as_numbers choice) (j - 1) (pos 0) ≡ pos 0 → IsTrue (uses choice j) → ⊥
loses choice j none wins =
    let both : pos (get_or choice (j - 1) 0) ≡ pos 0 = sym (number_at choice (j - 1)) ∙ none in
    let zero_is : get_or choice (j - 1) 0 ≡ 0 = cc in
    loses-zero choice j zero_is wins

-- and another one wins
wins : (choice : List ℕ) (j : ℕ) → get_or (as_numbers choice) (j - 1) (pos 0) ≢ pos 0 → IsTrue (uses choice j)
wins choice j some = wins-some choice j (number_of choice j) refl (λ e. some (number_at choice (j - 1) ∙ ap pos e))

-- the part of each winner is for as many bidders as the certificate
pub part-choice : (b s : ℕ) (c : CertValue) → IsCertificate b s c → (j : ℕ) → 0 < j → j ≤ b → IsTrue (uses c.choice j)
    → IsChoice b (part_of c.withouts j).choice
part-choice b s c kept j some inside wins =
    let found = finds b s c kept (as_numbers c.choice) refl (j - 1) (omega (arith, some, inside, long_numbers c.choice, kept.choice.0))
    (λ none. loses c.choice j none wins) in
    subst (λ (n : ℕ). IsChoice b (part_of c.withouts n).choice) {x = j - 1 + 1} {y = j} (omega (arith, some)) found.1.choice

module _ (book : Book) (w : ℕ → ℕ) (c : CertValue) where
  -- if C4 holds at a place, what test 4 asks there holds
  pub asks-C4 : (place : ℕ) → C4 book c place → Asks book w c 4 place
  asks-C4 place own = (
    λ e. absurd (omega (arith, e)),
    λ e. absurd (omega (arith, e)),
    λ e. absurd (omega (arith, e)),
    λ e. own,
    λ e. absurd (omega (arith, e)),
    λ e. absurd (omega (arith, e)),
    λ e. absurd (omega (arith, e)),
    λ e. absurd (omega (arith, e)),
    λ e. absurd (omega (arith, e)),
  )

  -- of bidders who lose nothing is asked
  asks-none : (from to place : ℕ) → NoneFrom (as_numbers c.choice) from to → from < place → place ≤ to → Asks book w c 4 place
  asks-none from to place none low high = asks-C4 place (record {
    part = λ some inside used. absurd
        (loses c.choice place (none (place - 1) (omega (arith, low)) (omega (arith, low, high))) used);
  })

  -- nor of bidder 0
  pub asks-nobody : HoldsTo book w c 4 0 → HoldsTo book w c 4 1
  asks-nobody before = holds-further book w c 4 0 1 before (λ i lt. asks-C4 (0 + i) (record { part = λ some inside used. absurd (omega (arith, lt, some)) }))

  -- all parts up to a bidder are tested: so are those up to the next one, or all
  pub behind-part : (j : ℕ) (next : NextLine) → IsPartNext (bidders_of book) (as_numbers c.choice) j next → HoldsTo book w c 4 (suc j)
      → IsTestedTo book w c next None
  behind-part j Version is before = absurd is
  behind-part j Limits is before = absurd is
  behind-part j Den is before = absurd is
  behind-part j Value is before = absurd is
  behind-part j Choice is before = absurd is
  behind-part j (Title table) is before = absurd is
  behind-part j (Entries table k) is before = absurd is
  behind-part j (Without i) is before = record {
    holds = subst (HoldsTo book w c 4) {x = suc j + (i - suc j)} (omega (arith, is.0))
        (holds-further book w c 4 (suc j) (i - suc j) before (λ n lt. asks-none j (i - 1) (suc j + n) is.2 (omega arith) (omega (arith, lt))));
    early = refl;
    part = wins c.choice i is.1;
  }
  behind-part j (PartChoice i) is before = absurd is
  behind-part j Payments is before = record {
    holds = holds-whole book w c 4 (suc j) before (λ q past. elim (cases_lt (bidders_of book) q) [
      | inl out ↦ asks-C4 q (record { part = λ some inside used. absurd (omega (arith, inside, out)) })
      | inr in_book ↦ asks-none j (bidders_of book) q is (omega (arith, past)) in_book
    ]);
    early = refl;
    part = tt;
  }
  behind-part j Rows is before = absurd is
  behind-part j (Members r) is before = absurd is
  behind-part j (Multipliers r) is before = absurd is
  behind-part j (RowChoice r) is before = absurd is
  behind-part j End is before = absurd is
  behind-part j Nothing is before = absurd is

  -- a line that no test waits for
  pub plain : (due next : NextLine) (late : Option ℕ) → IsPlain due → IsNext book c due next → IsTestedTo book w c due late → IsTestedTo book w c next None
  plain Version next late p is t = elim is [
    | inl e ↦ subst (λ (d : NextLine). IsTestedTo book w c d None) (sym e) (record { holds = t.holds; early = refl; part = tt })
    | inr e ↦ subst (λ (d : NextLine). IsTestedTo book w c d None) (sym e) (record { holds = t.holds; early = refl; part = tt })
  ]
  plain Limits next late p is t = subst (λ (d : NextLine). IsTestedTo book w c d None) (sym is) (record { holds = t.holds; early = refl; part = tt })
  plain Den next late p is t = subst (λ (d : NextLine). IsTestedTo book w c d None) (sym is) (record { holds = t.holds; early = refl; part = tt })
  plain Value next late p is t = absurd p
  plain Choice next late p is t = absurd p
  plain (Title Head) next late p is t = subst (λ (d : NextLine). IsTestedTo book w c d None) (sym is)
      (record { holds = t.holds; early = λ i lt. absurd (omega (arith, lt)); part = tt })
  plain (Title (Part j)) next late p is t = subst (λ (d : NextLine). IsTestedTo book w c d None) (sym is) (record { holds = t.holds; early = refl; part = t.part })
  plain (Title Lowered) next late p is t = subst (λ (d : NextLine). IsTestedTo book w c d None) (sym is)
      (record { holds = t.holds; early = λ i lt. absurd (omega (arith, lt)); part = tt })
  plain (Entries table k) next late p is t = absurd p
  plain (Without j) next late p is t = subst (λ (d : NextLine). IsTestedTo book w c d None) (sym is) (record { holds = t.holds; early = refl; part = t.part })
  plain (PartChoice j) next late p is t = absurd p
  plain Payments next late p is t = absurd p
  plain Rows next late p is t = absurd p
  plain (Members r) next late p is t = subst (λ (d : NextLine). IsTestedTo book w c d None) (sym is) (record { holds = t.holds; early = refl; part = tt })
  plain (Multipliers r) next late p is t = subst (λ (d : NextLine). IsTestedTo book w c d None) (sym is) (record { holds = t.holds; early = refl; part = tt })
  plain (RowChoice r) next late p is t = absurd p
  plain End next late p is t = subst (λ (d : NextLine). IsTestedTo book w c d None) (sym is) (record { holds = t.holds; early = refl; part = tt })
  plain Nothing next late p is t = subst (λ (d : NextLine). IsTestedTo book w c d None) (sym is) (record { holds = t.holds; early = refl; part = tt })

-- no test waits for a line that is none of these
pub plain-else : (due : NextLine) → (due ≡ Value → ⊥) → (due ≡ Choice → ⊥) → ((table : Table) (k : ℕ) → due ≡ Entries table k → ⊥)
    → ((j : ℕ) → due ≡ PartChoice j → ⊥) → (due ≡ Payments → ⊥) → (due ≡ Rows → ⊥) → ((r : ℕ) → due ≡ RowChoice r → ⊥) → IsPlain due
plain-else Version value choice entries part payments rows row = tt
plain-else Limits value choice entries part payments rows row = tt
plain-else Den value choice entries part payments rows row = tt
plain-else Value value choice entries part payments rows row = absurd (value refl)
plain-else Choice value choice entries part payments rows row = absurd (choice refl)
plain-else (Title table) value choice entries part payments rows row = tt
plain-else (Entries table k) value choice entries part payments rows row = absurd (entries table k refl)
plain-else (Without j) value choice entries part payments rows row = tt
plain-else (PartChoice j) value choice entries part payments rows row = absurd (part j refl)
plain-else Payments value choice entries part payments rows row = absurd (payments refl)
plain-else Rows value choice entries part payments rows row = absurd (rows refl)
plain-else (Members r) value choice entries part payments rows row = tt
plain-else (Multipliers r) value choice entries part payments rows row = tt
plain-else (RowChoice r) value choice entries part payments rows row = absurd (row r refl)
plain-else End value choice entries part payments rows row = tt
plain-else Nothing value choice entries part payments rows row = tt
