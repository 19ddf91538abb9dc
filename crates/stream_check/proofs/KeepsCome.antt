-- What is asked after the rules, when a line of the head's table has come.
use Rattle.std.proofs.Common.{◌≡◌, ℕ, zero, suc, ◌+◌, ◌*◌, ◌^◌, ◌<◌, ◌≤◌, [], ◌∷◌, length, inl, refl, sym, subst, arith}
use Rattle.std.specs.Prelude.{ℤ, ◌≤ℤ◌, ◌↔◌, Bool, IsTrue, slice_index_or, unsigned_abs}
use Rattle.auction_model.specs.Book.{Book, market_of}
use Rattle.auction_model.specs.Prices.{weight_of}
use Rattle.auction_model.specs.Table.{entry_at}
use Rattle.cert_grammar.specs.Certificate.{CertValue}
use Rattle.cert_grammar.specs.CertText.{as_numbers}
use Rattle.cert_soundness.specs.Tests.{Asks, bidders_of, full, states}
use Rattle.cert_check.specs.EarlierBids.{NoneEarlier}
use Rattle.cert_check.proofs.HeadLines.{top-C3, first-C3}
use Rattle.table_check.proofs.TableLines.{table-small, table-width}
use Rattle.cert_check.proofs.ValueLaws.{allowed-by}
use Rattle.cert_stream.specs.declared.due.NextLine.TheVariants.{Value, Choice, Entries}
use Rattle.cert_stream.specs.declared.due.Table.TheVariants.{Head}
use Rattle.cert_stream.specs.Rooms.{segment}
use Rattle.stream_check.specs.declared.moment.LineContext.{LineContext}
use Rattle.stream_check.specs.Lines.{IsAtLine}
use Rattle.stream_check.specs.Moments.{IsAt}
use Rattle.stream_check.proofs.NextLaws.{at-due}

-- line 0
pub keeps-top : (book : Book) (w : ℕ → ℕ) (c : CertValue) (k : ℕ) (number most : ℤ) (b : Bool) → k ≡ 0 → number ≡ entry_at c.table 0 (full book)
    → most ≡ c.value → (IsTrue b ↔ (number ≤ℤ most)) → IsTrue b ↔ Asks book w c 3 ((bidders_of book + 1) * states book + k)
keeps-top book w c k number most b first is most_is test =
    subst (λ (n : ℕ). IsTrue b ↔ Asks book w c 3 ((bidders_of book + 1) * states book + n)) (sym first)
    (let low = subst (λ (z : ℤ). IsTrue b ↔ (z ≤ℤ c.value)) is (subst (λ (z : ℤ). IsTrue b ↔ (number ≤ℤ z)) most_is test) in
    (λ t. (top-C3 book w c).0 (low.0 t), λ asks. low.1 ((top-C3 book w c).1 asks)))

-- another line
pub keeps-none : (book : Book) (w : ℕ → ℕ) (c : CertValue) (k : ℕ) (b : Bool) → 0 < k → k ≤ bidders_of book → (IsTrue b ↔ NoneEarlier book c k)
    → IsTrue b ↔ Asks book w c 3 ((bidders_of book + 1) * states book + k)
keeps-none book w c zero b some inside test = absurd (omega (arith, some))
keeps-none book w c (suc k) b some inside test =
    let low : k < bidders_of book = omega (arith, inside) in (
      λ t. (first-C3 book w c k low).0 (test.0 t k low refl),
      λ asks. test.1 (λ l lt e. let same : k ≡ l = omega (arith, e) in (first-C3 book w c l lt).1
          (subst (λ (n : ℕ). Asks book w c 3 ((bidders_of book + 1) * states book + suc n)) same asks)),
    )

module _ (at : LineContext) (c : CertValue) (is : IsAt at c) (k : ℕ) (due : at.due ≡ Entries Head k) where
  here : IsAtLine at.book.now (weight_of at.weights.now) c (Entries Head k) at.count at.late at.members at.grows at.totals.now at.room.now
  here = at-due at c (Entries Head k) due is

  -- the room has the value
  pub value-there : segment (bidders_of at.book.now) (states at.book.now) Value at.room.now ≡ c.value ∷ []
  value-there = here.known.in_room.value (omega arith)

  -- the room has the head's choice
  pub choice-there : segment (bidders_of at.book.now) (states at.book.now) Choice at.room.now ≡ as_numbers c.choice
  choice-there = here.known.in_room.choice (omega arith)

  -- the room has line k of the head's table
  pub line-there : segment (bidders_of at.book.now) (states at.book.now) (Entries Head k) at.room.now ≡ slice_index_or c.table k []
  line-there = here.own.whole tt

  -- the line has an entry for each state
  pub line-long : length (slice_index_or c.table k []) ≡ states at.book.now
  line-long = table-width (bidders_of at.book.now) (states at.book.now) c.table is.kept.table k here.known.named.1

  -- each entry of the line is in the range
  pub line-small : (s : ℕ) → unsigned_abs (entry_at c.table k s) < 2 ^ 120
  line-small s = table-small (bidders_of at.book.now) (states at.book.now) c.table is.kept.table k s

  -- the head's choice is allowed
  pub choice-allowed : IsTrue ((market_of at.book.now).allowed c.choice)
  choice-allowed = allowed-by at.book.now c is.kept.choice.0 (λ place. (here.known.tested.holds 2 place (inl (omega arith))).1 refl)
