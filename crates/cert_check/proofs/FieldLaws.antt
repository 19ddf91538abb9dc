-- A test holds of each certificate with the numbers that it reads.
use Rattle.std.specs.Prelude.{◌≡◌, ℕ, ◌+◌, ◌-◌, ◌<◌, ◌↔◌, Bool, IsTrue, List, [], get_or, length, map, ℤ, pos, Option, refl}
use Rattle.std.proofs.Common.{sym, subst, arith}
use Rattle.std.proofs.lemmas.List.{length-map}
use Rattle.auction_model.specs.Book.{Book}
use Rattle.cert_grammar.specs.Certificate.{CertValue, RowValue, WithoutValue}
use Rattle.cert_soundness.specs.Tests.{C1, C2, C3, C4, C5, C6, C7, C8, IsTightRow}
use Rattle.cert_text.specs.Parts.{row_value}
use Rattle.cert_text.specs.declared.certificate.CertRow.{CertRow}
use Rattle.cert_check.specs.Fields.{cert_of, cert_headed, cert_with, row_with, IsOf}
use Rattle.cert_check.specs.Places.{IsFirstFailing}
use Rattle.cert_check.specs.declared.claim.Claim.{Claim}
use Rattle.cert_check.proofs.PlaceLaws.{row-C6}
use Rattle.cert_check.proofs.PlaceTests.{failing-same}
use Rattle.cert_check.proofs.SumLaws.{row-place}

-- C1 reads the denominator and the value alone
pub sizes-of : (c : CertValue) (den value : ℤ) (r : Option ℕ) → c.den ≡ den → c.value ≡ value → IsFirstFailing (C1 (cert_of den value [] [] [] [])) r
    → IsFirstFailing (C1 c) r
sizes-of c den value r den_is value_is f = failing-same (C1 (cert_of c.den c.value [] [] [] [])) (C1 c)
    (λ p t. record { den = t.den; value = t.value; size = t.size })
    (λ p t. record { den = t.den; value = t.value; size = t.size }) r
    (subst (λ (z : ℤ). IsFirstFailing (C1 (cert_of z c.value [] [] [] [])) r) (sym den_is)
    (subst (λ (z : ℤ). IsFirstFailing (C1 (cert_of den z [] [] [] [])) r) (sym value_is) f))

-- C2 reads the value and the choice alone
pub choice-of : (book : Book) (c : CertValue) (value : ℤ) (choice : List ℕ) (r : Option ℕ) → c.choice ≡ choice → c.value ≡ value
    → IsFirstFailing (C2 book (cert_of (pos 0) value choice [] [] [])) r → IsFirstFailing (C2 book c) r
choice-of book c value choice r choice_is value_is f = failing-same (C2 book (cert_of (pos 0) c.value c.choice [] [] [])) (C2 book c)
    (λ p t. record { known = t.known; fits = t.fits; value = t.value })
    (λ p t. record { known = t.known; fits = t.fits; value = t.value }) r
    (subst (λ (n : List ℕ). IsFirstFailing (C2 book (cert_of (pos 0) c.value n [] [] [])) r) (sym choice_is)
    (subst (λ (z : ℤ). IsFirstFailing (C2 book (cert_of (pos 0) z choice [] [] [])) r) (sym value_is) f))

-- C3 reads the value, the choice and the head's table alone
pub table-of : (book : Book) (c : CertValue) (value : ℤ) (choice : List ℕ) (table : List (List ℤ)) (r : Option ℕ) → c.choice ≡ choice → c.value ≡ value
    → c.table ≡ table
    → IsFirstFailing (C3 book (cert_headed value choice table)) r → IsFirstFailing (C3 book c) r
table-of book c value choice table r choice_is value_is table_is f = failing-same (C3 book (cert_headed c.value c.choice c.table)) (C3 book c)
    (λ p t. record { rules = t.rules; top = t.top; first = t.first })
    (λ p t. record { rules = t.rules; top = t.top; first = t.first }) r
    (subst (λ (n : List ℕ). IsFirstFailing (C3 book (cert_headed c.value n c.table)) r) (sym choice_is)
    (subst (λ (z : ℤ). IsFirstFailing (C3 book (cert_headed z choice c.table)) r) (sym value_is)
    (subst (λ (t : List (List ℤ)). IsFirstFailing (C3 book (cert_headed value choice t)) r) (sym table_is) f)))

module _ (a : Claim) (c : CertValue) (is : IsOf a c) (Q : ℤ → ℤ → List ℕ → Type 0) where
  -- what holds of the numbers of the claim holds of those of the certificate
  head-of : Q a.den a.value a.choice.now → Q c.den c.value c.choice
  head-of q =
      subst (λ (n : List ℕ). Q c.den c.value n) (sym is.choice_is)
      (subst (λ (z : ℤ). Q c.den z a.choice.now) (sym is.value_is) (subst (λ (z : ℤ). Q z a.value a.choice.now) (sym is.den_is) q))

-- C4 reads the choice and the parts without each single winner
pub parts-of : (a : Claim) (c : CertValue) (withouts : List WithoutValue) (r : Option ℕ) → c.choice ≡ a.choice.now → c.withouts ≡ withouts
    → IsFirstFailing (C4 a.book.now (cert_with a withouts [] [])) r → IsFirstFailing (C4 a.book.now c) r
parts-of a c withouts r choice_is withouts_is f = failing-same (C4 a.book.now (cert_of a.den a.value c.choice c.withouts [] [])) (C4 a.book.now c)
    (λ p t. record { part = t.part })
    (λ p t. record { part = t.part }) r
    (subst (λ (n : List ℕ). IsFirstFailing (C4 a.book.now (cert_of a.den a.value n c.withouts [] [])) r) (sym choice_is)
    (subst (λ (l : List WithoutValue). IsFirstFailing (C4 a.book.now (cert_of a.den a.value a.choice.now l [] [])) r) (sym withouts_is) f))

-- C5 reads the numbers of the claim and the payments alone
pub pays-of : (book : Book) (a : Claim) (c : CertValue) (pay : List ℤ) (r : Option ℕ) → IsOf a c → c.pay ≡ pay
    → IsFirstFailing (C5 book (cert_with a [] pay [])) r → IsFirstFailing (C5 book c) r
pays-of book a c pay r is pay_is f = failing-same (C5 book (cert_of c.den c.value c.choice [] c.pay [])) (C5 book c)
    (λ p t. record { winner = t.winner; loser = t.loser })
    (λ p t. record { winner = t.winner; loser = t.loser }) r
    (subst (λ (l : List ℤ). IsFirstFailing (C5 book (cert_of c.den c.value c.choice [] l [])) r) (sym pay_is)
    (head-of a c is (λ d v n. IsFirstFailing (C5 book (cert_of d v n [] pay [])) r) f))

-- a row of these members and this choice
pub tight-of : (book : Book) (a : Claim) (c : CertValue) (row : RowValue) (pay : List ℤ) (members choice : List ℕ) (b : Bool) → IsOf a c → c.pay ≡ pay
    → row.members ≡ members → row.choice ≡ choice
    → IsTrue b ↔ IsTightRow book (cert_with a [] pay []) (row_with members choice) → IsTrue b ↔ IsTightRow book c row
tight-of book a c row pay members choice b is pay_is members_is choice_is test =
    let own : IsTrue b ↔ IsTightRow book (cert_of c.den c.value c.choice [] c.pay []) (row_with row.members row.choice) =
    subst (λ (l : List ℕ). IsTrue b ↔ IsTightRow book (cert_of c.den c.value c.choice [] c.pay []) (row_with row.members l)) (sym choice_is)
    (subst (λ (l : List ℕ). IsTrue b ↔ IsTightRow book (cert_of c.den c.value c.choice [] c.pay []) (row_with l choice)) (sym members_is)
    (subst (λ (l : List ℤ). IsTrue b ↔ IsTightRow book (cert_of c.den c.value c.choice [] l []) (row_with members choice)) (sym pay_is)
    (head-of a c is (λ d v n. IsTrue b ↔ IsTightRow book (cert_of d v n [] pay []) (row_with members choice)) test))) in (
      λ t. (let h = own.0 t in record { winners = h.winners; allowed = h.allowed; unused = h.unused; tight = h.tight }),
      λ h. own.1 (record { winners = h.winners; allowed = h.allowed; unused = h.unused; tight = h.tight }),
    )

-- C6 reads the numbers of the claim, the payments and the rows alone
pub rows-of : (book : Book) (a : Claim) (c : CertValue) (pay : List ℤ) (rows : List RowValue) (r : Option ℕ) → IsOf a c → c.pay ≡ pay → c.rows ≡ rows
    → IsFirstFailing (C6 book (cert_with a [] pay rows)) r
    → IsFirstFailing (C6 book c) r
rows-of book a c pay rows r is pay_is rows_is f = failing-same (C6 book (cert_of c.den c.value c.choice [] c.pay c.rows)) (C6 book c)
    (λ p t. record { row = λ some le. (let h = t.row some le in record { winners = h.winners; allowed = h.allowed; unused = h.unused; tight = h.tight }) })
    (λ p t. record { row = λ some le. (let h = t.row some le in record { winners = h.winners; allowed = h.allowed; unused = h.unused; tight = h.tight }) }) r
    (subst (λ (l : List RowValue). IsFirstFailing (C6 book (cert_of c.den c.value c.choice [] c.pay l)) r) (sym rows_is)
    (subst (λ (l : List ℤ). IsFirstFailing (C6 book (cert_of c.den c.value c.choice [] l rows)) r) (sym pay_is)
    (head-of a c is (λ d v n. IsFirstFailing (C6 book (cert_of d v n [] pay rows)) r) f)))

-- C7 reads the numbers of the claim and the rows alone
pub first-of : (book : Book) (a : Claim) (c : CertValue) (rows : List RowValue) (r : Option ℕ) → IsOf a c → c.rows ≡ rows
    → IsFirstFailing (C7 book (cert_with a [] [] rows)) r → IsFirstFailing (C7 book c) r
first-of book a c rows r is rows_is f = failing-same (C7 book (cert_of c.den c.value c.choice [] [] c.rows)) (C7 book c)
    (λ p t. record { sign = t.sign; columns = t.columns })
    (λ p t. record { sign = t.sign; columns = t.columns }) r
    (subst (λ (l : List RowValue). IsFirstFailing (C7 book (cert_of c.den c.value c.choice [] [] l)) r) (sym rows_is)
    (head-of a c is (λ d v n. IsFirstFailing (C7 book (cert_of d v n [] [] rows)) r) f))

-- C8 reads the numbers of the claim, the parts, the payments and the rows alone
pub second-of : (book : Book) (w : ℕ → ℕ) (a : Claim) (c : CertValue) (pay : List ℤ) (rows : List RowValue) (r : Option ℕ) → IsOf a c → c.pay ≡ pay
    → c.rows ≡ rows
    → IsFirstFailing (C8 book w (cert_with a c.withouts pay rows)) r → IsFirstFailing (C8 book w c) r
second-of book w a c pay rows r is pay_is rows_is f = failing-same (C8 book w (cert_of c.den c.value c.choice c.withouts c.pay c.rows)) (C8 book w c)
    (λ p t. record { sign = t.sign; columns = t.columns })
    (λ p t. record { sign = t.sign; columns = t.columns }) r
    (subst (λ (l : List RowValue). IsFirstFailing (C8 book w (cert_of c.den c.value c.choice c.withouts c.pay l)) r) (sym rows_is)
    (subst (λ (l : List ℤ). IsFirstFailing (C8 book w (cert_of c.den c.value c.choice c.withouts l rows)) r) (sym pay_is)
    (head-of a c is (λ d v n. IsFirstFailing (C8 book w (cert_of d v n c.withouts pay rows)) r) f)))

-- a row of the list at its place
pub row-here : (a : Claim) (pay : List ℤ) (rows : List CertRow) (r : ℕ) (row : CertRow) (members choice : List ℕ) (b : Bool) → r < length rows
    → row ≡ get_or rows r row → members ≡ row.members → choice ≡ row.choice
    → IsTrue b ↔ IsTightRow a.book.now (cert_with a [] pay []) (row_with members choice) → IsTrue b ↔ C6 a.book.now (cert_with a [] pay (map row_value rows))
    (r + 1)
row-here a pay rows r row members choice b lt is members_is choice_is test =
    let cert = cert_with a [] pay (map row_value rows) in
    let back : r ≡ r + 1 - 1 = omega arith in
    let same = row-place rows rows (r + 1) row (omega arith) (omega (arith, lt)) refl (subst (λ (n : ℕ). row ≡ get_or rows n row) back is) in
    row-C6 a.book.now cert (r + 1) (row_value row) b (omega arith) (omega (arith, lt, length-map rows row_value)) same
    (tight-of a.book.now a cert (row_value row) pay members choice b (record { den_is = refl; value_is = refl; choice_is = refl }) refl (sym members_is)
    (sym choice_is) test)
