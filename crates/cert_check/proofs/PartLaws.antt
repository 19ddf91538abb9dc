-- C4 from the tests of the parts.
use Rattle.std.specs.Prelude.{Bool, IsTrue, List, None, Option, Some, [], drop, get_or, is_some, length, map, not, refl, suc, zero, ℕ, ℤ, ◌*◌, ◌+◌}
use Rattle.std.specs.Prelude.{◌<◌, ◌==◌, ◌↔◌, ◌∷◌, ◌≡◌, ◌≤◌}
use Rattle.std.proofs.Common.{inl, inr, sym, ◌∙◌, ap, subst, arith, drop-cons}
use Rattle.std.proofs.lemmas.Bool.{cases_lt, cond-true, cond-false, eq-eqb, ne_eqb, false≢true, not-true, not-false}
use Rattle.auction_model.specs.Menu.{without}
use Rattle.auction_model.specs.Market.{number_of, uses, value_of}
use Rattle.auction_model.specs.Book.{Book, market_of, menu_of, net_of}
use Rattle.cert_grammar.specs.Certificate.{CertValue, WithoutValue, part_of}
use Rattle.cert_grammar.specs.CertText.{AreWithouts, IsTable}
use Rattle.cert_soundness.specs.Tests.{C4, IsPart, bidders_of, states}
use Rattle.cert_soundness.proofs.Winning.{allowed-length}
use Rattle.cert_text.specs.Parts.{without_value}
use Rattle.cert_text.specs.declared.certificate.WithoutPart.{WithoutPart}
use Rattle.table_check.specs.LineTests.{TableAt}
use Rattle.cert_check.specs.Places.{IsFirstFailing}

-- each part has a choice and a table of the right form
pub record HasForm (b s : ℕ) (part : WithoutPart) : Type 0 where
  -- its choice has a number for each bidder
  pub choice : length part.choice ≡ b
  -- its table has a line for each bidder and one more, each with an entry for each state
  pub table : IsTable b s part.table

-- each part of a list of parts has the right form
pub parts-form : (b s j : ℕ) (numbers : List ℕ) (parts : List WithoutPart) → AreWithouts b s j numbers (map without_value parts)
    → (i : ℕ) (other : WithoutPart) → i < length parts → HasForm b s (get_or parts i other)
parts-form b s j numbers [] are i other lt = absurd (omega arith)
parts-form b s j [] (w ∷ parts) are i other lt = absurd are
parts-form b s j (zero ∷ numbers) (w ∷ parts) are i other lt = parts-form b s (suc j) numbers (w ∷ parts) are i other lt
parts-form b s j (suc n ∷ numbers) (w ∷ parts) are zero other lt = record { choice = are.0.choice.0; table = are.0.table }
parts-form b s j (suc n ∷ numbers) (w ∷ parts) are (suc i) other lt = parts-form b s (suc j) numbers parts are.1 i other (omega arith)

-- so has the part that is at a place of such a list
pub part-form : (b s j : ℕ) (numbers : List ℕ) (items withouts : List WithoutPart) (i : ℕ) (part : WithoutPart) → items ≡ withouts
    → AreWithouts b s j numbers (map without_value withouts)
    → i < length items → part ≡ get_or items i part → HasForm b s part
part-form b s j numbers items withouts i part same are lt is =
    subst (HasForm b s) (sym is) (parts-form b s j numbers items (subst (λ (ws : List WithoutPart). AreWithouts b s j numbers (map without_value ws))
    (sym same) are) i part lt)

-- the part of a bidder is that of the parts from i on
abbrev pub IsFrom : List WithoutPart → ℕ → ℕ → Type 0
IsFrom parts i j = part_of (map without_value parts) j ≡ part_of (map without_value (drop i parts)) j

split-at : (parts : List WithoutPart) (i : ℕ) (part : WithoutPart) → i < length parts → part ≡ get_or parts i part → drop i parts ≡ part ∷ drop (suc i) parts
split-at parts i part lt is = drop-cons parts i part lt ∙ ap (λ (p : WithoutPart). p ∷ drop (suc i) parts) (sym is)

-- if the part at i is of bidder j, it is the part of j
pub from-found :
    (parts : List WithoutPart) (i j : ℕ) (part : WithoutPart) → i < length parts → part ≡ get_or parts i part → IsFrom parts i j
    → part.winner ≡ j → part_of (map without_value parts) j ≡ without_value part
from-found parts i j part lt is from own =
    from ∙ ap (λ (ps : List WithoutPart). part_of (map without_value ps) j) (split-at parts i part lt is)
    ∙ cond-true (part.winner == j) (without_value part) (part_of (map without_value (drop (suc i) parts)) j) (eq-eqb part.winner j own)

-- if the part at i is of another bidder, the part of j is among those from i + 1 on
pub from-next :
    (parts : List WithoutPart) (i j : ℕ) (part : WithoutPart) → i < length parts → part ≡ get_or parts i part → IsFrom parts i j
    → (part.winner ≡ j → ⊥) → IsFrom parts (i + 1) j
from-next parts i j part lt is from other =
    let up : suc i ≡ i + 1 = omega arith in
    from ∙ ap (λ (ps : List WithoutPart). part_of (map without_value ps) j) (split-at parts i part lt is)
    ∙ cond-false (part.winner == j) (without_value part) (part_of (map without_value (drop (suc i) parts)) j) (ne_eqb part.winner j other)
    ∙ ap (λ (n : ℕ). part_of (map without_value (drop n parts)) j) up

-- without a part nothing is shown
pub no-part : (book : Book) (parts : List WithoutPart) (i j : ℕ) → 0 < j → j ≤ bidders_of book → drop i parts ≡ [] → IsFrom parts i j
    → IsPart book j (part_of (map without_value parts) j) → ⊥
no-part book parts i j some inside none from is =
    let empty = rw (from, none) at is in
    let count = allowed-length book [] empty.allowed in
    omega (arith, count, some, inside)

module _ (book : Book) (j : ℕ) (part : WithoutValue) where
  abbrev pub ShowsBest : ℕ → Type 0
  ShowsBest place = TableAt (without (menu_of book) j) (net_of book) book.supply part.table (value_of (market_of book) part.choice) place

  -- the table is tested
  pub part-shown : IsTrue ((market_of book).allowed part.choice) → number_of part.choice j ≡ 0 → IsFirstFailing ShowsBest None → IsPart book j part
  part-shown allowed unused t = record {
    allowed = allowed;
    unused = unused;
    rules = λ k s le lt. (t (k * states book + s)).rules k s le lt refl;
    top = (t ((bidders_of book + 1) * states book)).top refl;
  }

  -- if the rules of its table or the entry of the whole supply fail, the part shows nothing
  pub part-fails : (p : ℕ) → IsFirstFailing ShowsBest (Some p) → IsPart book j part → ⊥
  part-fails p f is = f.0 (record {
    rules = λ k s le lt e. is.rules k s le lt;
    top = λ e. is.top;
  })

-- a part whose choice is allowed and doesn't use j is right exactly if the test of its table passes
pub part-answer : (book : Book) (j : ℕ) (part : WithoutValue) (most : ℤ) (r : Option ℕ) (b : Bool) → most ≡ value_of (market_of book) part.choice
    → IsTrue ((market_of book).allowed part.choice) → number_of part.choice j ≡ 0
    → is_some r ≡ not b → IsFirstFailing (TableAt (without (menu_of book) j) (net_of book) book.supply part.table most) r → IsTrue b ↔ IsPart book j part
part-answer book j part most None b most_is allowed unused b_is t =
    (λ _. part-shown book j part allowed unused (rw most_is at t), λ _. not-false b (sym b_is))
part-answer book j part most (Some p) b most_is allowed unused b_is t =
    (λ yes_is. absurd (false≢true (sym (not-true b (sym b_is)) ∙ yes_is)), λ is. absurd (part-fails book j part p (rw most_is at t) is))

-- the winners one after the other
abbrev pub PartsTo : Book → CertValue → ℕ → Type 0
PartsTo book c k = (q : ℕ) → q ≤ k → C4 book c q

module _ (book : Book) (c : CertValue) where
  -- before the first bidder no part is asked for
  pub parts-start : PartsTo book c 0
  parts-start q le = record { part = λ some. absurd (omega (arith, some, le)) }

  -- a bidder more, whose part is right if it wins
  pub parts-next : (k : ℕ) → PartsTo book c k → (IsTrue (uses c.choice (k + 1)) → IsPart book (k + 1) (part_of c.withouts (k + 1))) → PartsTo book c (k + 1)
  parts-next k to own q le =
      elim (cases_lt q (k + 1)) [
        | inl earlier ↦ to q (omega (arith, earlier))
        | inr here ↦ (
            let same : k + 1 ≡ q = omega (arith, le, here) in
            subst (C4 book c) same (record { part = λ some inside wins. own wins }))
      ]

  -- if the parts of all bidders are right, C4 holds
  pub parts-all : (k : ℕ) → bidders_of book ≤ k → PartsTo book c k → IsFirstFailing (C4 book c) None
  parts-all k past to q =
      elim (cases_lt k q) [
        | inl behind ↦ record { part = λ some inside. absurd (omega (arith, inside, past, behind)) }
        | inr low ↦ to q low
      ]

  -- the first winner whose part isn't right is the first place where C4 fails
  pub parts-fail : (k : ℕ) → k < bidders_of book → PartsTo book c k → IsTrue (uses c.choice (k + 1)) → (IsPart book (k + 1) (part_of c.withouts (k + 1)) → ⊥)
      → IsFirstFailing (C4 book c) (Some (k + 1))
  parts-fail k in_book to wins fails = (
    λ all. fails (all.part (omega arith) (omega (arith, in_book)) wins),
    λ q lt. to q (omega (arith, lt)),
  )

-- a number that is 0, or not
pub loses-zero : (choice : List ℕ) (j : ℕ) → number_of choice j ≡ 0 → IsTrue (uses choice j) → ⊥
loses-zero choice j zero_is wins = false≢true (sym (ap (λ (n : ℕ). not (n == 0)) zero_is) ∙ wins)

-- a bidder whose number isn't 0 wins
pub wins-some : (choice : List ℕ) (j number : ℕ) → number ≡ number_of choice j → (number ≡ 0 → ⊥) → IsTrue (uses choice j)
wins-some choice j number is some = ap (λ (n : ℕ). not (n == 0)) (sym is) ∙ ap not (ne_eqb number 0 some)
