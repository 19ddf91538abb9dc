-- The certificate of what pricing finds: its shape, and all its tests.
use Rattle.std.specs.Prelude.{◌≡◌, ℕ, zero, suc, ◌≤◌, ◌<◌, not, IsTrue, List, [], ◌∷◌, length, map, slice_index, slice_index_or, ℤ, pos, ◌≤ℤ◌, refl}
use Rattle.std.proofs.Common.{sym, ◌∙◌, ap, subst, arith}
use Rattle.std.proofs.lemmas.Bool.{and_parts}
use Rattle.std.proofs.lemmas.Int.{ints}
use Rattle.auction_model.specs.Book.{Book, market_of, menu_of, net_of}
use Rattle.auction_model.specs.Greatest.{IsFirstGreatest}
use Rattle.auction_model.specs.Lawful.{IsMarket}
use Rattle.auction_model.specs.Lowered.{lowered}
use Rattle.auction_model.specs.Market.{uses, value_of}
use Rattle.auction_model.specs.Menu.{fits_after, is_known_after, packages_after, without}
use Rattle.auction_model.specs.Package.{is_within}
use Rattle.auction_model.specs.Prices.{IsCorePoint, allowed_without, weight_of}
use Rattle.auction_model.specs.Table.{IsEntry, IsExactTable, entry_at}
use Rattle.auction_model.proofs.BookMarket.{market-of_book, winning-count}
use Rattle.auction_model.proofs.PlaceLaws.{left_at-whole}
use Rattle.auction_model.proofs.SkipLaws.{fits-skip}
use Rattle.bid_book.specs.Kept.{IsBidBook}
use Rattle.cert_grammar.specs.Certificate.{WithoutValue, part_of}
use Rattle.cert_grammar.specs.CertText.{IsCertificate, IsChoice, IsTable}
use Rattle.cert_soundness.specs.Priced.{IsBestPart, IsPricedCert}
use Rattle.cert_soundness.specs.Sound.{cert_point}
use Rattle.cert_soundness.specs.Tests.{C1, C2, C3, C4, C9, IsPart, Obeys, bidders_of, full, states}
use Rattle.cert_soundness.proofs.Sizes.{exact_obeys}
use Rattle.cert_soundness.proofs.Winning.{full-below, unused_from}
use Rattle.cert_text.specs.Parts.{cert_from, row_value, without_value}
use Rattle.cert_text.specs.declared.certificate.CertRow.{CertRow}
use Rattle.cert_text.specs.declared.certificate.WithoutPart.{WithoutPart}
use Rattle.choices.specs.declared.chooser.Single.{Single}
use Rattle.choices.specs.Lines.{width_of}
use Rattle.choices.specs.Singles.{winners_after}
use Rattle.core_price.specs.Priced.{IsPriced}
use Rattle.core_price.specs.declared.priced.Priced.{Priced}
use Rattle.core_laws.proofs.Sizes.{worth-nonneg}
use Rattle.core_laws.specs.Winners.{for_bidders}
use Rattle.value_table.specs.BookTable.{menu_without}
use Rattle.value_table.specs.TableValue.{TableValue}
use Rattle.value_table.proofs.SingleLaws.{greatest-is}
use Rattle.vickrey.specs.VickreyValue.{IsTableWithout, VickreyValue}
use Rattle.vickrey.proofs.VickreyLaws.{greatest-all, winner-known}
use Rattle.book_price.specs.Found.{AreFound, cert_found}
use Rattle.book_price.specs.Made.{parts_from, row_from}
use Rattle.book_price.proofs.First.{none-earlier}
use Rattle.book_price.proofs.Lowered.{lowered_passes}
use Rattle.book_price.proofs.Multipliers.{kept_firsts, kept_seconds}
use Rattle.book_price.proofs.Payments.{kept_payments}
use Rattle.book_price.proofs.Places.{single_at, winner_part}
use Rattle.book_price.proofs.Rows.{kept_rows}
use Rattle.book_price.proofs.Shapes.{choice_shape, numbers_shape, pay_shape, rows_few, rows_shape, withouts_shape}
use Rattle.book_price.proofs.Tables.{shape_of-all, shape_of-others, table_of-all, table_of-lowered, table_of-others, width-is}

mapped-length : (singles : List Single) → length (map (λ s. s.winner) singles) ≡ length singles
mapped-length [] = refl
mapped-length (s ∷ singles) = ap suc (mapped-length singles)

winner-at : (singles : List Single) (i : ℕ) → i < length singles → slice_index (map (λ s. s.winner) singles) i ≡ (single_at singles i).winner
winner-at [] i lt = absurd (omega arith)
winner-at (s ∷ singles) zero lt = refl
winner-at (s ∷ singles) (suc i) lt = winner-at singles i (omega arith)

module _ (book : Book) (z : List ℕ) (whole : TableValue) (alone : VickreyValue) (weights : List ℕ) (priced : Priced TableValue) (kept : IsBidBook book)
    (found : AreFound book z whole alone weights priced) where
  lawful : IsMarket (market_of book)
  lawful = market-of_book book (omega (arith, kept.bidders)) kept.not_negative

  -- the choice has a number for each bidder
  pub long : length z ≡ bidders_of book
  long = winning-count book z found.winning

  -- what pricing promises
  own : IsPriced (market_of book) z weights alone.singles priced
  own = found.priced_is

  core : IsCorePoint (market_of book) z (cert_point (cert_found book z whole alone priced))
  core = own.prices.outcome.core

  table : IsExactTable (menu_of book) (net_of book) book.supply whole.lines
  table = table_of-all book whole found.table found.plain

  -- there is a table for each single winner
  pub count : length alone.tables ≡ length alone.singles
  count = found.tables.count ∙ ap (λ (l : List ℕ). length l) (sym found.singles.winners) ∙ mapped-length alone.singles

  least : pos 0 ≤ℤ value_of (market_of book) z
  least = worth-nonneg (market_of book) lawful z found.winning.passed

  table_at : (i : ℕ) → i < length alone.singles → IsTableWithout book (single_at alone.singles i).winner (slice_index_or alone.tables i [])
  table_at i lt =
      let inside : i < length (winners_after 0 z) = omega (arith, lt, count, found.tables.count) in
      let same : slice_index (winners_after 0 z) i ≡ (single_at alone.singles i).winner = ap (λ (l : List ℕ). slice_index l i) (sym found.singles.winners)
      ∙ winner-at alone.singles i lt in
      subst (λ (j : ℕ). IsTableWithout book j (slice_index_or alone.tables i [])) same (found.tables.each i inside)

  best-part : (j : ℕ) → 0 < j → j ≤ bidders_of book → IsTrue (uses z j) → IsBestPart book j (part_of (parts_from alone.singles alone.tables) j)
  best-part j some inside used =
      let p = winner_part (market_of book) z alone.singles alone.tables found.singles count j some (omega (arith, inside, long)) used in
      let i = p.0 in
      let s = single_at alone.singles i in
      let winner : s.winner ≡ j = p.2 in
      subst (IsBestPart book j) (sym p.4) (record {
        choice = subst (λ (k : ℕ). IsFirstGreatest (allowed_without (market_of book) k) (value_of (market_of book)) s.choice) winner p.3.choice;
        table = table_of-others book j (slice_index_or alone.tables i []) (subst (λ (k : ℕ). IsTableWithout book k (slice_index_or alone.tables i [])) winner
            (table_at i p.1));
      })

  obeys : Obeys (menu_of book) (net_of book) book.supply whole.lines
  obeys = exact_obeys (menu_of book) (net_of book) book.supply whole.lines (λ j. refl) (λ j. refl) table

  top-is : entry_at whole.lines 0 (full book) ≤ℤ value_of (market_of book) z
  top-is =
      let entry = (table.exact 0 (omega arith)).exact (full book) (full-below book.supply) in
      let fits : IsTrue ((market_of book).allowed entry.reached.0) = subst (λ (l : List ℕ). IsTrue (fits_after (menu_of book) 0 l entry.reached.0))
      (left_at-whole book.supply) entry.reached.1 in
      let most = found.winning.greatest entry.reached.0 fits in
      let is = entry.reached.2 in
      omega (arith, ints, most, is)

  passes-1 : (place : ℕ) → C1 (cert_found book z whole alone priced) place
  passes-1 place = record { den = λ is. core.den_positive; value = λ is. least; size = λ is. own.prices.range }

  passes-2 : (place : ℕ) → C2 book (cert_found book z whole alone priced) place
  passes-2 place = record {
    known = λ some inside. winner-known book z place found.winning some inside;
    fits = λ is. (and_parts (is_known_after (menu_of book) 0 z) (is_within (packages_after (menu_of book) 0 z) book.supply) found.winning.passed).1;
    value = λ is. refl;
  }

  passes-3 : (place : ℕ) → C3 book (cert_found book z whole alone priced) place
  passes-3 place = record {
    rules = λ k s le lt is. obeys k s le lt;
    top = λ is. top-is;
    first = λ k lt is. none-earlier (menu_of book) (net_of book) book.supply z found.winning.passed whole.lines table found.winning
        (value_of (market_of book) z) refl k lt;
  }

  part-passes : (j : ℕ) (part : WithoutValue) → 0 < j → IsBestPart book j part → IsPart book j part
  part-passes j part some best =
      let p = and_parts ((market_of book).allowed part.choice) (not (uses part.choice j)) best.choice.passed in
      let m = without (menu_of book) j in
      let entry = (best.table.exact 0 (omega arith)).exact (full book) (full-below book.supply) in
      let d = entry.reached.0 in
      let fits : IsTrue (fits_after m 0 book.supply d) = subst (λ (l : List ℕ). IsTrue (fits_after m 0 l d)) (left_at-whole book.supply) entry.reached.1 in
      let most = best.choice.greatest d (sym (fits-skip (menu_of book) j book.supply d some) ∙ fits) in
      let is = entry.reached.2 in
      record {
        allowed = p.0;
        unused = unused_from part.choice j p.1;
        rules = exact_obeys m (net_of book) book.supply part.table (λ i. refl) (λ i. refl) best.table;
        top = omega (arith, ints, most, is);
      }

  passes-4 : (place : ℕ) → C4 book (cert_found book z whole alone priced) place
  passes-4 place = record {
    part = λ some inside used. part-passes place (part_of (parts_from alone.singles alone.tables) place) some
        (best-part place some inside used);
  }

  passes-9 : (place : ℕ) → C9 book (cert_found book z whole alone priced) place
  passes-9 = lowered_passes book (cert_found book z whole alone priced) core (table_of-lowered book priced.den _ priced.last.table found.lowered) lawful
      priced.last.choice own.last.first

  -- the certificate is one that pricing writes
  pub priced_passes : IsPricedCert book (weight_of weights) (cert_found book z whole alone priced)
  priced_passes =
      let value = value_of (market_of book) z in
      record {
        holds = record {
          c1 = passes-1;
          c2 = passes-2;
          c3 = passes-3;
          c4 = passes-4;
          c5 = kept_payments (market_of book) z value whole.lines alone.singles alone.tables priced.den priced.at priced.rows priced.last.table.lines core;
          c6 = kept_rows (market_of book) z long value whole.lines alone.singles alone.tables priced.den priced.at priced.rows priced.last.table.lines
              own.shown.kept;
          c7 = kept_firsts (market_of book) z long weights value whole.lines alone.singles alone.tables priced.den priced.at priced.rows
              priced.last.table.lines own.shown.first own.shown.first_sums;
          c8 = kept_seconds (market_of book) z long weights value whole.lines alone.singles alone.tables priced.den priced.at priced.rows
              priced.last.table.lines refl found.singles count own.shown.first own.shown.second;
          c9 = passes-9;
        };
        winning = found.winning;
        table = table;
        parts = best-part;
        outcome = own.prices.outcome;
        table_lowered = table_of-lowered book priced.den _ priced.last.table found.lowered;
      }

  choices : (c : List ℕ) → IsTrue ((market_of book).allowed c) → IsChoice (bidders_of book) c
  choices c allowed = choice_shape (market_of book) lawful (λ j some inside. omega (arith, kept.bids j)) c allowed

  others-shape : (i : ℕ) → i < length alone.tables → IsTable (bidders_of book) (states book) (slice_index_or alone.tables i [])
  others-shape i lt = let inside : i < length alone.singles = omega (arith, lt, count) in shape_of-others book (single_at alone.singles i).winner
      (slice_index_or alone.tables i []) kept (table_at i inside)

  -- it has the shape that a certificate keeps
  pub priced_shape : IsCertificate (bidders_of book) (states book) (cert_found book z whole alone priced)
  priced_shape =
      let numbers = numbers_shape priced.den (value_of (market_of book) z) core.den_positive least own.prices.range in
      record {
        den = numbers.0;
        value = numbers.1;
        choice = choices z found.winning.passed;
        table = shape_of-all book whole found.table;
        withouts = withouts_shape (market_of book) (states book) z long choices alone.singles alone.tables found.singles count others-shape;
        pay = pay_shape (market_of book) z long priced.at own.prices.small;
        few = rows_few z priced.rows own.shown.few found.few.0;
        rows = rows_shape (market_of book) z long choices priced.den priced.at priced.rows own.shown.kept own.shown.first own.shown.first_sums numbers.0
            own.shown.small_seconds;
        lowered = shape_of-all book priced.last.table found.lowered.exact;
      }

  -- the table of all bids is as wide as there are states
  pub width : width_of whole.lines ≡ states book
  width = width-is book (menu_of book) (net_of book) whole.lines table

  -- the greatest entry of the table of all bids is the value
  pub value_found : (most : ℤ) → IsEntry (menu_without book whole.skip) (lowered whole.den (net_of book) whole.surplus) 0 book.supply most
      → most ≡ value_of (market_of book) z
  value_found most entry =
      let e : IsEntry (menu_without book 0) (lowered (pos 1) (net_of book) whole.surplus) 0 book.supply most =
      rw (found.plain.skip, found.plain.den) at entry in
      greatest-is (market_of book).allowed (value_of (market_of book)) most z (greatest-all book whole.surplus found.plain.zeros most e) found.winning

  -- the fields that the program fills
  module _ (den value : ℤ) (table : List (List ℤ)) (withouts : List WithoutPart) (pay : List ℤ) (rows : List CertRow) (lowered_lines : List (List ℤ))
      (den_is : den ≡ priced.den) (value_is : value ≡ value_of (market_of book) z) (table_is : table ≡ whole.lines)
      (withouts_are : map without_value withouts ≡ parts_from alone.singles alone.tables)
      (pay_is : pay ≡ for_bidders z priced.at) (rows_are : map row_value rows ≡ map (row_from z) priced.rows)
      (lowered_is : lowered_lines ≡ priced.last.table.lines) where
    -- together they are the certificate of what was found
    pub made_is : cert_from den value z table withouts pay rows lowered_lines ≡ cert_found book z whole alone priced
    made_is = λ t. record {
      den = den_is t;
      value = value_is t;
      choice = z;
      table = table_is t;
      withouts = withouts_are t;
      pay = pay_is t;
      rows =
          rows_are t;
      lowered = lowered_is t;
    }

    -- the head's table is as wide as there are states
    pub made_width : width_of table ≡ states book
    made_width = ap width_of table_is ∙ width

    -- together they have the shape that a certificate keeps
    pub made_shape : IsCertificate (length z) (width_of table) (cert_from den value z table withouts pay rows lowered_lines)
    made_shape = rw (long, made_width, made_is) priced_shape
