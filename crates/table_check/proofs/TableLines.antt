-- The lines of a table: their numbers, and their rules from those of their bids.
use Rattle.std.specs.Prelude.{List, [], length, pos, replicate, slice_index_or, suc, take, unsigned_abs, zero, ℕ, ℤ, ◌<◌, ◌^◌, ◌∷◌, ◌≡◌, ◌≤ℤ◌, ◌≤◌}
use Rattle.std.proofs.Common.{sym, ◌∙◌, ap, subst, arith}
use Rattle.std.proofs.lemmas.List.{length-replicate, length-take-le}
use Rattle.auction_model.specs.Table.{entry_at}
use Rattle.cert_grammar.specs.CertText.{AllInRange, AreTableLines, IsTable}
use Rattle.cert_soundness.specs.Tests.{bidders_of, states}
use Rattle.table_check.specs.Faults.{FirstFault}
use Rattle.wide_num.specs.Sums.{nth}
use Rattle.choices.specs.Lines.{width_of}
use Rattle.table_check.specs.LineTests.{offered, KeepsZero, KeepsSome, ObeysIn}
use Rattle.table_check.specs.declared.offers.TestedBids.{TestedBids}
use Rattle.table_check.proofs.BlockLaws.{fault-same}

lines-width : (s : ℕ) (table : List (List ℤ)) → AreTableLines s table → (k : ℕ) → k < length table → length (slice_index_or table k []) ≡ s
lines-width s [] are k lt = absurd (omega arith)
lines-width s (t ∷ table) are zero lt = are.0
lines-width s (t ∷ table) are (suc k) lt = lines-width s table are.2 k (omega arith)

-- each line has a number for each state
pub table-width : (b s : ℕ) (table : List (List ℤ)) → IsTable b s table → (k : ℕ) → k ≤ b → length (slice_index_or table k []) ≡ s
table-width b s table is k le = lines-width s table is.1 k (omega (arith, is.0, le))

-- the first numbers of a room, one for each state, are as many as those of a line
pub room-front : (b s : ℕ) (table : List (List ℤ)) → IsTable b s table → (places size : ℕ) → places ≡ s → places ≤ size
    → length (take places (replicate size (pos 0))) ≡ width_of table
room-front b s table is places size same within =
    length-take-le places (replicate size (pos 0)) (omega (arith, within, length-replicate size (pos 0)))
    ∙ same ∙ sym (table-width b s table is 0 (omega arith))

-- each entry of a line is in the range
pub in-range : (t : List ℤ) → AllInRange t → (s : ℕ) → unsigned_abs (nth t s) < 2 ^ 120
in-range [] all s = omega arith
in-range (z ∷ t) all zero = all.0
in-range (z ∷ t) all (suc s) = in-range t all.1 s

lines-small : (width : ℕ) (table : List (List ℤ)) → AreTableLines width table → (k s : ℕ) → unsigned_abs (entry_at table k s) < 2 ^ 120
lines-small width [] are k s = omega arith
lines-small width (t ∷ table) are zero s = in-range t are.1 s
lines-small width (t ∷ table) are (suc k) s = lines-small width table are.2 k s

-- each number is in the range
pub table-small : (b width : ℕ) (table : List (List ℤ)) → IsTable b width table → (k s : ℕ) → unsigned_abs (entry_at table k s) < 2 ^ 120
table-small b width table is k s = lines-small width table is.1 k s

module _ (o : TestedBids) (table : List (List ℤ)) (is : IsTable (bidders_of o.book.now) (states o.book.now) table) where
  -- the last line
  pub last-obeys : (k r : ℕ) (line : List ℤ) → k ≡ bidders_of o.book.now → line ≡ slice_index_or table k [] → FirstFault (KeepsZero line) (length line) r
      → FirstFault (ObeysIn o table k) (states o.book.now) r
  last-obeys k r line last line_is f =
      let width : length line ≡ states o.book.now = ap (λ (l : List ℤ). length l) line_is ∙ table-width (bidders_of o.book.now) (states o.book.now) table is k
      (omega (arith, last)) in
      subst (λ (n : ℕ). FirstFault (ObeysIn o table k) n r) width
      (fault-same (KeepsZero line) (ObeysIn o table k) (length line) r
      (λ s keeps lt. record {
        last = λ e. subst (λ (l : List ℤ). pos 0 ≤ℤ nth l s) line_is (keeps (omega (arith, lt, width)));
        none = λ lt'. absurd (omega (arith, lt', last));
        bid = λ lt' i some few fits. absurd (omega (arith, lt', last));
      })
      (λ s obeys lt. subst (λ (l : List ℤ). pos 0 ≤ℤ nth l s) (sym line_is) ((obeys (omega (arith, lt, width))).last last)) f)

  -- another line
  pub line-obeys : (k r : ℕ) (line below : List ℤ) → k < bidders_of o.book.now → line ≡ slice_index_or table k [] → below ≡ slice_index_or table (suc k) []
      → FirstFault (KeepsSome o (suc k) line below ((offered o).bids (suc k))) (length line) r → FirstFault (ObeysIn o table k) (states o.book.now) r
  line-obeys k r line below inside line_is below_is f =
      let width : length (slice_index_or table k []) ≡ states o.book.now = table-width (bidders_of o.book.now) (states o.book.now) table is k
      (omega (arith, inside)) in
      subst (λ (n : ℕ). FirstFault (ObeysIn o table k) n r) (ap (λ (l : List ℤ). length l) line_is ∙ width)
      (fault-same (KeepsSome o (suc k) line below ((offered o).bids (suc k))) (ObeysIn o table k) (length line) r
      (λ s keeps lt.
      let own = rw (line_is, below_is) at keeps in
      record {
        last = λ e. absurd (omega (arith, e, inside));
        none = λ lt'. own.none (omega (arith, lt, width));
        bid = λ lt' i some few fits. own.bid i some few lt fits;
      })
      (λ s obeys. rw (line_is, below_is) (record {
        none = λ lt. (obeys (omega (arith, lt, width))).none inside;
        bid = λ i some few lt fits. (obeys lt).bid inside i some few fits;
      })) f)
