-- What the fields of a line say.
use Rattle.std.proofs.Common.{List, [], ap, append_assoc, arith, length, length-append, refl, subst, sym, ℕ, ◌++◌, ◌+◌, ◌<◌, ◌^◌, ◌∙◌, ◌∷◌}
use Rattle.std.proofs.Common.{◌≡◌, ◌≤◌}
use Rattle.std.specs.Prelude.{codes}
use Rattle.std.specs.Fmt.{decimal}
use Rattle.std.specs.List.{AllByRecursion}
use Rattle.std.proofs.lemmas.List.{append-nil}
use Rattle.auction_model.proofs.ListLaws.{each-push}
use Rattle.auction_model.specs.Book.{Book}
use Rattle.book_grammar.specs.BookForm.{IsName}
use Rattle.book_grammar.proofs.NameLaws.{name_own}
use Rattle.book_grammar.proofs.TextLaws.{numbers-push}
use Rattle.limits.specs.declared.TheConstants.{MOST_STATED_AMOUNT, MOST_STATED_COUNT}
use Rattle.line_format.proofs.DecimalFields.{NoSpace, number_own, one_field}
use Rattle.line_format.specs.Decimals.{decimals_text}
use Rattle.line_format.specs.Fields.{FieldEnds}
use Rattle.wide_num.proofs.Decimal.{decimal_one}
use Rattle.edits_file.specs.Stages.{BeginsWithCounts, BeginsWithNumber, IsHead, StatesBid, StatesPackage}

-- counts that a line may state
abbrev pub AreLow : List ℕ → Type 0
AreLow lots = AllByRecursion (λ n. n ≤ MOST_STATED_COUNT) lots

-- numbers after spaces end the field before them
pub ends_front : (ns rest : List ℕ) → FieldEnds rest → FieldEnds (decimals_text ns ++ rest)
ends_front [] rest ends = ends
ends_front (n ∷ ns) rest ends = refl

-- the number at the start of a text is one number
one_first : (m n : ℕ) (x y : List ℕ) → m < 2 ^ 120 → n < 2 ^ 120 → FieldEnds x → FieldEnds y → 32 ∷ decimal m ++ x ≡ 32 ∷ decimal n ++ y → (m ≡ n) × (x ≡ y)
one_first m n x y sm sn ex ey is =
    let tails : decimal m ++ x ≡ decimal n ++ y = cc in
    let parts = one_field (decimal m) (decimal n) x y (number_own m sm) (number_own n sn) ex ey tails in
    (decimal_one m n sm sn parts.0, parts.1)

first_of : (n : ℕ) (ns rest : List ℕ) → decimals_text (n ∷ ns) ++ rest ≡ 32 ∷ decimal n ++ (decimals_text ns ++ rest)
first_of n ns rest = append_assoc (32 ∷ decimal n) (decimals_text ns) rest

-- that many counts at the start of a text are one list
pub counts_one : (xs ys a b : List ℕ) → length xs ≡ length ys → AreLow xs → AreLow ys → FieldEnds a → FieldEnds b
    → decimals_text xs ++ a ≡ decimals_text ys ++ b → (xs ≡ ys) × (a ≡ b)
counts_one [] [] a b same lx ly ea eb is = (refl, is)
counts_one [] (y ∷ ys) a b same lx ly ea eb is = absurd (omega (arith, same))
counts_one (x ∷ xs) [] a b same lx ly ea eb is = absurd (omega (arith, same))
counts_one (x ∷ xs) (y ∷ ys) a b same lx ly ea eb is =
    let first = one_first x y (decimals_text xs ++ a) (decimals_text ys ++ b) (omega (arith, lx.0)) (omega (arith, ly.0)) (ends_front xs a ea)
    (ends_front ys b eb) (sym (first_of x xs a) ∙ is ∙ first_of y ys b) in
    let rest = counts_one xs ys a b (omega (arith, same)) lx.1 ly.1 ea eb first.1 in
    (cc (first.0, rest.0), rest.1)

-- a name and that many counts at the start of a text are one name and one list
pub heads_one : (name other xs ys a b : List ℕ) → IsName name → IsName other → length xs ≡ length ys → AreLow xs → AreLow ys → FieldEnds a → FieldEnds b
    → name ++ (decimals_text xs ++ a) ≡ other ++ (decimals_text ys ++ b) → (name ≡ other) × (xs ≡ ys) × (a ≡ b)
heads_one name other xs ys a b is_name is_other same lx ly ea eb is =
    let parts = one_field name other (decimals_text xs ++ a) (decimals_text ys ++ b) (name_own name is_name) (name_own other is_other) (ends_front xs a ea)
    (ends_front ys b eb) is in
    let rest = counts_one xs ys a b same lx ly ea eb parts.1 in
    (parts.0, rest.0, rest.1)

-- what the first field of a text is, if it is a number
pub number_field : (text behind field after rest : List ℕ) (n most : ℕ) → text ≡ codes " " ++ behind → behind ≡ field ++ after → NoSpace field
    → FieldEnds after → most < 2 ^ 64 → BeginsWithNumber most text n rest
    → (field ≡ decimal n) × (after ≡ rest)
number_field text behind field after rest n most spaced parted own ends fits is =
    let low = is.low in
    let whole : 32 ∷ (field ++ after) ≡ 32 ∷ (decimal n ++ rest) = ap (λ (l : List ℕ). 32 ∷ l) (sym parted) ∙ sym spaced ∙ is.spelled in
    let tails : field ++ after ≡ decimal n ++ rest = cc in
    one_field field (decimal n) after rest own (number_own n (omega (arith, low, fits))) ends is.ends tails

-- if the first field of a text is no name, the text begins with none
pub no_name : (text front back : List ℕ) → text ≡ front ++ back → NoSpace front → FieldEnds back → (IsName front → ⊥) → (name rest : List ℕ) → IsName name
    → FieldEnds rest → text ≡ name ++ rest → ⊥
no_name text front back parted own ends none name rest is_name stops is =
    let parts = one_field front name back rest own (name_own name is_name) ends stops (sym parted ∙ is) in
    none (subst IsName (sym parts.0) is_name)

-- one count more
pub counts_more : (k n : ℕ) (text had rest more : List ℕ) → BeginsWithCounts k text had rest → BeginsWithNumber MOST_STATED_COUNT rest n more
    → BeginsWithCounts (k + 1) text (had ++ n ∷ []) more
counts_more k n text had rest more are is = record {
  count = omega (arith, are.count, length-append had (n ∷ []));
  each = each-push _ had n are.each is.low;
  spelled = are.spelled ∙ ap (λ (l : List ℕ). decimals_text had ++ l) is.spelled ∙ sym (append_assoc (decimals_text had) (32 ∷ decimal n) more)
      ∙ ap (λ (l : List ℕ). l ++ more) (sym (numbers-push had n));
  ends = is.ends;
}

-- after the first counts of a text stands the next
next_of : (had lots rest other : List ℕ) → length had < length lots → AreLow had → AreLow lots → FieldEnds rest → FieldEnds other
    → decimals_text had ++ rest ≡ decimals_text lots ++ other
    → (n : ℕ) × (more : List ℕ) × BeginsWithNumber MOST_STATED_COUNT rest n more
next_of had [] rest other lt lh ll er eo is = absurd (omega arith)
next_of [] (n ∷ lots) rest other lt lh ll er eo is =
    (n, decimals_text lots ++ other, record { low = ll.0; spelled = is ∙ first_of n lots other; ends = ends_front lots other eo })
next_of (m ∷ had) (n ∷ lots) rest other lt lh ll er eo is =
    let first = one_first m n (decimals_text had ++ rest) (decimals_text lots ++ other) (omega (arith, lh.0)) (omega (arith, ll.0)) (ends_front had rest er)
    (ends_front lots other eo) (sym (first_of m had rest) ∙ is ∙ first_of n lots other) in
    next_of had lots rest other (omega (arith, lt)) lh.1 ll.1 er eo first.1

-- if no count follows the first ones, there are no more
pub counts_stop : (k categories : ℕ) (text had rest : List ℕ) → k < categories → BeginsWithCounts k text had rest
    → ((n : ℕ) (more : List ℕ) → BeginsWithNumber MOST_STATED_COUNT rest n more → ⊥)
    → (lots other : List ℕ) → BeginsWithCounts categories text lots other → ⊥
counts_stop k categories text had rest lt are none lots other all =
    let a = are.count in
    let b = all.count in
    let next = next_of had lots rest other (omega (arith, lt, a, b)) are.each all.each are.ends all.ends (sym are.spelled ∙ all.spelled) in
    none next.0 next.1 next.2

-- the counts after a name
pub head_counts : (book : Book) (fields name behind : List ℕ) (bidder : ℕ) (lots rest : List ℕ) → IsName name → fields ≡ name ++ behind → FieldEnds behind
    → IsHead book fields bidder lots rest
    → BeginsWithCounts (length book.supply) behind lots rest
head_counts book fields name behind bidder lots rest is_name parted ends head =
    let parts = one_field name head.name behind (decimals_text lots ++ rest) (name_own name is_name) (name_own head.name head.named.name_is) ends
    (ends_front lots rest head.ends) (sym parted ∙ head.spelled) in
    record { count = head.named.count; each = head.named.each; spelled = parts.1; ends = head.ends }

-- fields have one prefix
rest_one : (book : Book) (fields : List ℕ) (i j : ℕ) (p q a b : List ℕ) → IsHead book fields i p a → IsHead book fields j q b → (p ≡ q) × (a ≡ b)
rest_one book fields i j p q a b x y =
    let one = heads_one x.name y.name p q a b x.named.name_is y.named.name_is (x.named.count ∙ sym y.named.count) x.named.each y.named.each x.ends y.ends
    (sym x.spelled ∙ y.spelled) in
    (one.1, one.2)

-- a bid begins with its name and counts
pub bid_head : (book : Book) (fields : List ℕ) (bidder : ℕ) (lots : List ℕ) (amount : ℕ) → StatesBid book fields bidder lots amount
    → IsHead book fields bidder lots (32 ∷ decimal amount)
bid_head book fields bidder lots amount is = record {
  name = is.name;
  named = is.named;
  spelled = is.spelled ∙ ap (λ (l : List ℕ). is.name ++ l) (numbers-push lots amount);
  ends = refl;
  bidder_is = is.bidder_is;
}

-- and so does a package
pub package_head : (book : Book) (fields : List ℕ) (bidder : ℕ) (lots : List ℕ) → StatesPackage book fields bidder lots → IsHead book fields bidder lots []
package_head book fields bidder lots is = record {
  name = is.name;
  named = is.named;
  spelled = is.spelled ∙ ap (λ (l : List ℕ). is.name ++ l) (sym (append-nil (decimals_text lots)));
  ends = tt;
  bidder_is = is.bidder_is;
}

-- if the rest after the counts is no amount, the fields are no bid
pub no_bid : (book : Book) (fields : List ℕ) (j : ℕ) (q rest : List ℕ) → IsHead book fields j q rest
    → ((n : ℕ) → BeginsWithNumber MOST_STATED_AMOUNT rest n [] → ⊥)
    → (bidder : ℕ) (lots : List ℕ) (amount : ℕ) → StatesBid book fields bidder lots amount → ⊥
no_bid book fields j q rest head none bidder lots amount is =
    let one = rest_one book fields j bidder q lots rest (32 ∷ decimal amount) head (bid_head book fields bidder lots amount is) in
    none amount (record { low = is.top; spelled = one.1 ∙ sym (append-nil (32 ∷ decimal amount)); ends = tt })

-- if the rest after the counts is an amount, the fields are a bid
pub made_bid : (book : Book) (fields : List ℕ) (bidder : ℕ) (lots rest : List ℕ) (amount : ℕ) → IsHead book fields bidder lots rest
    → BeginsWithNumber MOST_STATED_AMOUNT rest amount [] → StatesBid book fields bidder lots amount
made_bid book fields bidder lots rest amount head is = record {
  name = head.name;
  named = head.named;
  top = is.low;
  spelled = head.spelled ∙ ap (λ (l : List ℕ). head.name ++ l) (ap (λ (l : List ℕ). decimals_text lots ++ l) (is.spelled ∙ append-nil (32 ∷ decimal amount))
      ∙ sym (numbers-push lots amount));
  bidder_is = head.bidder_is;
}

-- if something is after the counts, the fields are no package
pub no_package : (book : Book) (fields : List ℕ) (j : ℕ) (q rest : List ℕ) → IsHead book fields j q rest → 0 < length rest → (bidder : ℕ) (lots : List ℕ)
    → StatesPackage book fields bidder lots → ⊥
no_package book fields j q rest head some bidder lots is =
    let one = rest_one book fields j bidder q lots rest [] head (package_head book fields bidder lots is) in
    omega (arith, some, ap length one.1)
