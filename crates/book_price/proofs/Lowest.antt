-- The certificate of what pricing finds is in lowest terms.
use Rattle.std.specs.Prelude.{◌≡◌, ℕ, zero, suc, List, [], ◌∷◌, length, map, ℤ, pos, refl}
use Rattle.std.specs.List.{AllByRecursion}
use Rattle.std.proofs.Common.{ap, arith}
use Rattle.auction_model.specs.Book.{Book, market_of}
use Rattle.auction_model.specs.Market.{Market}
use Rattle.cert_grammar.specs.Certificate.{RowValue}
use Rattle.core_price.specs.Kept.{IsKept, firsts, seconds}
use Rattle.core_price.specs.Lowest.{DividesAll, IsLowest}
use Rattle.core_price.specs.declared.priced.Priced.{Priced}
use Rattle.core_price.specs.declared.priced.PricedRow.{PricedRow}
use Rattle.core_laws.specs.Winners.{for_bidders, winners_in}
use Rattle.std.proofs.lemmas.List.{length-map}
use Rattle.value_table.specs.TableValue.{TableValue}
use Rattle.vickrey.specs.VickreyValue.{VickreyValue}
use Rattle.book_price.specs.Found.{AreFound, cert_found}
use Rattle.book_price.specs.Made.{row_from}
use Rattle.book_price.specs.Reduced.{IsReduced, IsUsed}

-- what divides the payments of all bidders divides those of the winners
winners-divided : (d : ℤ) (z : List ℕ) (at : List ℤ) → length at ≡ winners_in z → DividesAll d (for_bidders z at) → DividesAll d at
winners-divided d [] [] long all i lt = absurd (omega (arith, lt))
winners-divided d [] (x ∷ at) long all i lt = absurd (omega (arith, long))
winners-divided d (zero ∷ z) at long all i lt = winners-divided d z at long (λ k l. all (suc k) (omega (arith, l))) i lt
winners-divided d (suc n ∷ z) [] long all i lt = absurd (omega (arith, lt))
winners-divided d (suc n ∷ z) (x ∷ at) long all zero lt = all 0 (omega arith)
winners-divided d (suc n ∷ z) (x ∷ at) long all (suc i) lt = winners-divided d z at (omega (arith, long)) (λ k l. all (suc k) (omega (arith, l))) i
    (omega (arith, lt))

-- the multipliers of the rows that are made
firsts-are : (z : List ℕ) (rows : List PricedRow) → map (λ (r : RowValue). r.first) (map (row_from z) rows) ≡ firsts rows
firsts-are z [] = refl
firsts-are z (r ∷ rows) = ap (λ (l : List ℤ). r.first ∷ l) (firsts-are z rows)

seconds-are : (z : List ℕ) (rows : List PricedRow) → map (λ (r : RowValue). r.second) (map (row_from z) rows) ≡ seconds rows
seconds-are z [] = refl
seconds-are z (r ∷ rows) = ap (λ (l : List ℤ). r.second ∷ l) (seconds-are z rows)

-- each row that is kept is used
all-used : (m : Market) (z : List ℕ) (den : ℤ) (at : List ℤ) (rows : List PricedRow) → AllByRecursion (IsKept m z den at) rows
    → AllByRecursion IsUsed (map (row_from z) rows)
all-used m z den at [] all = tt
all-used m z den at (r ∷ rows) all = (all.0.used, all-used m z den at rows all.1)

-- lowest terms of the winners' payments are lowest terms of all bidders'
lowest-of : (z : List ℕ) (den : ℤ) (at first second : List ℤ) → length at ≡ winners_in z → IsLowest den at first second
    → IsLowest den (for_bidders z at) first second
lowest-of z den at first second long lowest g divides = lowest g (record {
  den_is = divides.den_is;
  at_is = winners-divided (pos g) z at long divides.at_is;
  first_is = divides.first_is;
  second_is = divides.second_is;
})

-- the certificate of what pricing finds is in lowest terms
pub reduced_cert : (book : Book) (z : List ℕ) (whole : TableValue) (alone : VickreyValue) (weights : List ℕ) (priced : Priced TableValue)
    → AreFound book z whole alone weights priced
    → IsReduced (cert_found book z whole alone priced)
reduced_cert book z whole alone weights priced found =
    let own = found.priced_is in
    record {
      lowest = rw (firsts-are z priced.rows, seconds-are z priced.rows) (lowest-of z priced.den priced.at (firsts priced.rows)
          (seconds priced.rows) own.prices.long own.shown.lowest);
      few = omega (arith, own.shown.few, length-map priced.rows (row_from z));
      used = all-used (market_of book) z priced.den priced.at priced.rows own.shown.kept;
    }
