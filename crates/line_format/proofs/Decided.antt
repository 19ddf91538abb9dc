-- What holds or doesn't, and is known to: among them that a line is a word and numbers which keep a rule.
use Rattle.std.proofs.Common.{Bool, IsTrue, List, [], ap, arith, drop, false, inl, inr, length, length-append, refl, subst, suc, sym, take}
use Rattle.std.proofs.Common.{take-append-drop, true, zero, ℕ, ⊎_elim, ◌++◌, ◌<◌, ◌∙◌, ◌∷◌, ◌≡◌, ◌≤◌, ◌⊎◌}
use Rattle.std.specs.Fmt.{decimal}
use Rattle.std.specs.List.{AllByRecursion}
use Rattle.std.proofs.lemmas.Bool.{cases_eq, cases_lt}
use Rattle.std.proofs.lemmas.List.{append_cancel_left, drop_at, take_at}
use Rattle.line_format.specs.Decimals.{decimals_text}

abbrev pub Decided : Type 0 → Type 0
Decided A = A ⊎ (A → ⊥)

module _ {S : Type 0} (Sound : S → Type 0) (Step : S → List ℕ → S → Type 0) where
  -- whether a line leads on from a sound stage is known
  abbrev pub StepsDecided : Type 0
  StepsDecided = (s : S) (l : List ℕ) → Sound s → Decided ((t : S) × Step s l t)

-- what is equivalent to a decided condition
pub decided_as : {A B : Type 0} → Decided A → (A → B) → (B → A) → Decided B
decided_as (inl a) on back = inl (on a)
decided_as (inr never) on back = inr (λ b. never (back b))

pub decided_both : {A B : Type 0} → Decided A → Decided B → Decided (A × B)
decided_both (inl a) (inl b) = inl (a, b)
decided_both (inl a) (inr never) = inr (λ both. never both.1)
decided_both (inr never) b = inr (λ both. never both.0)

pub decided_three : {A B C : Type 0} → Decided A → Decided B → Decided C → Decided (A × B × C)
decided_three (inl a) (inl b) (inl c) = inl (a, b, c)
decided_three (inl a) (inl b) (inr never) = inr (λ all. never all.2)
decided_three (inl a) (inr never) c = inr (λ all. never all.1)
decided_three (inr never) b c = inr (λ all. never all.0)

pub decided_either : {A B : Type 0} → Decided A → Decided B → Decided (A ⊎ B)
decided_either (inl a) b = inl (inl a)
decided_either (inr never) (inl b) = inl (inr b)
decided_either (inr never) (inr none) = inr (λ either. ⊎_elim never none either)

pub decided_not : {A : Type 0} → Decided A → Decided (A → ⊥)
decided_not (inl a) = inr (λ never. never a)
decided_not (inr never) = inl never

pub decided_true : (b : Bool) → Decided (IsTrue b)
decided_true true = inl refl
decided_true false = inr (λ is. absurd cc)

pub decided_lt : (m n : ℕ) → Decided (m < n)
decided_lt m n = by (cases_lt m n)
  where
    by : (m < n) ⊎ (n ≤ m) → Decided (m < n)
    by (inl lt) = inl lt
    by (inr le) = inr (λ lt. omega (arith, lt, le))

pub decided_le : (m n : ℕ) → Decided (m ≤ n)
decided_le m n = by (cases_lt n m)
  where
    by : (n < m) ⊎ (m ≤ n) → Decided (m ≤ n)
    by (inl lt) = inr (λ le. omega (arith, lt, le))
    by (inr le) = inl le

-- that two lists of bytes are the same
pub decided_same : (xs ys : List ℕ) → Decided (xs ≡ ys)
decided_same [] [] = inl refl
decided_same [] (y ∷ ys) = inr (λ is. absurd (cc is))
decided_same (x ∷ xs) [] = inr (λ is. absurd (cc is))
decided_same (x ∷ xs) (y ∷ ys) =
    decided_as (decided_both (cases_eq x y) (decided_same xs ys)) (λ both. cc (both.0, both.1))
    (λ is. (let heads : x ≡ y = cc in heads, let tails : xs ≡ ys = cc in tails))

pub decided_all : {A : Type 0} (P : A → Type 0) → ((a : A) → Decided (P a)) → (xs : List A) → Decided (AllByRecursion P xs)
decided_all P one [] = inl tt
decided_all P one (x ∷ xs) = decided_both (one x) (decided_all P one xs)

-- that some number up to a greatest one keeps a rule
pub some_below : (most : ℕ) (P : ℕ → Type 0) → ((n : ℕ) → Decided (P n)) → Decided ((n : ℕ) × (n ≤ most) × P n)
some_below zero P one = decided_as (one 0) (λ p. (0, omega arith, p)) (λ found. let is : found.0 ≡ 0 = omega (arith, found.1) in subst P is found.2)
some_below (suc most) P one = by (some_below most P one) (one (suc most))
  where
    by : Decided ((n : ℕ) × (n ≤ most) × P n) → Decided (P (suc most)) → Decided ((n : ℕ) × (n ≤ suc most) × P n)
    by (inl found) last = inl (found.0, omega (arith, found.1), found.2)
    by (inr never) (inl p) = inl (suc most, omega arith, p)
    by (inr never) (inr none) = inr (λ found. neither found.0 found.1 found.2 (cases_lt most found.0))
      where
        neither : (n : ℕ) → n ≤ suc most → P n → (most < n) ⊎ (n ≤ most) → ⊥
        neither n le p (inl lt) = let is : n ≡ suc most = omega (arith, le, lt) in none (subst P is p)
        neither n le p (inr few) = never (n, few, p)

-- that a text begins with a word
pub after_word : (word text : List ℕ) → Decided ((rest : List ℕ) × (text ≡ word ++ rest))
after_word [] text = inl (text, refl)
after_word (c ∷ word) [] = inr (λ found. absurd (cc found.1))
after_word (c ∷ word) (d ∷ text) = by (cases_eq d c) (after_word word text)
  where
    by : Decided (d ≡ c) → Decided ((rest : List ℕ) × (text ≡ word ++ rest)) → Decided ((rest : List ℕ) × (d ∷ text ≡ c ∷ word ++ rest))
    by (inl is) (inl found) = inl (found.0, ap (λ (x : ℕ). x ∷ text) is ∙ ap (λ (r : List ℕ). c ∷ r) found.1)
    by (inl is) (inr never) = inr (λ found. never (found.0, let same = found.1 in let tails : text ≡ word ++ found.0 = cc in tails))
    by (inr other) rest = inr (λ found. other (let same = found.1 in let heads : d ≡ c = cc in heads))

-- the text is fields of numbers up to a greatest one that keep a rule
abbrev pub Spells : ℕ → (List ℕ → Type 0) → List ℕ → Type 0
Spells most P text = (ns : List ℕ) × AllByRecursion (λ n. n ≤ most) ns × (text ≡ decimals_text ns) × P ns

-- after its space the text begins with this number
abbrev Begins : ℕ → (List ℕ → Type 0) → List ℕ → ℕ → Type 0
Begins most P text n = (rest : List ℕ) × (text ≡ decimal n ++ rest) × Spells most (λ ns. P (n ∷ ns)) rest

first_number : (most fuel : ℕ) (P : List ℕ → Type 0) (text : List ℕ) → length text ≤ fuel → ((ns : List ℕ) → Decided (P ns))
    → ((Q : List ℕ → Type 0) → ((ns : List ℕ) → Decided (Q ns)) → (t : List ℕ) → length t ≤ fuel → Decided (Spells most Q t)) → (n : ℕ)
    → Decided (Begins most P text n)
first_number most fuel P text few one rest_of n = by (after_word (decimal n) text)
  where
    go : (rest : List ℕ) → text ≡ decimal n ++ rest → Decided (Spells most (λ ns. P (n ∷ ns)) rest) → Decided (Begins most P text n)
    go rest is (inl found) = inl (rest, is, found)
    go rest is (inr never) = inr (λ found. never (subst (Spells most (λ ns. P (n ∷ ns))) (append_cancel_left (decimal n) found.0 rest (sym found.1 ∙ is))
        found.2))

    by : Decided ((rest : List ℕ) × (text ≡ decimal n ++ rest)) → Decided (Begins most P text n)
    by (inl found) = go found.0 found.1 (rest_of (λ ns. P (n ∷ ns)) (λ ns. one (n ∷ ns)) found.0
        (omega (arith, few, ap length found.1, length-append (decimal n) found.0)))
    by (inr never) = inr (λ found. never (found.0, found.1))

no_numbers : (P : List ℕ → Type 0) (ns : List ℕ) → [] ≡ decimals_text ns → P ns → P []
no_numbers P [] is p = p
no_numbers P (n ∷ ns) is p = absurd (cc is)

-- that a text is such fields
pub some_numbers : (most fuel : ℕ) (P : List ℕ → Type 0) → ((ns : List ℕ) → Decided (P ns)) → (text : List ℕ) → length text ≤ fuel
    → Decided (Spells most P text)
some_numbers most fuel P one [] few = decided_as (one []) (λ p. ([], tt, refl, p)) (λ found. no_numbers P found.0 found.2 found.3)
some_numbers most zero P one (c ∷ text) few = absurd (omega (arith, few))
some_numbers most (suc fuel) P one (c ∷ text) few = by (cases_eq c 32) (some_below most (Begins most P text)
    (first_number most fuel P text (omega (arith, few)) one (some_numbers most fuel)))
  where
    space_first : (ns : List ℕ) → c ∷ text ≡ decimals_text ns → c ≡ 32
    space_first [] is = absurd (cc is)
    space_first (n ∷ ns) is = cc

    back : ((n : ℕ) × (n ≤ most) × Begins most P text n → ⊥) → (ns : List ℕ) → AllByRecursion (λ n. n ≤ most) ns → c ∷ text ≡ decimals_text ns → P ns → ⊥
    back never [] all is p = absurd (cc is)
    back never (n ∷ ns) all is p = let tails : text ≡ decimal n ++ decimals_text ns = cc in never (n, all.0, (decimals_text ns, tails, (ns, all.1, refl, p)))

    by : Decided (c ≡ 32) → Decided ((n : ℕ) × (n ≤ most) × Begins most P text n) → Decided (Spells most P (c ∷ text))
    by (inr other) found = inr (λ spells. other (space_first spells.0 spells.2))
    by (inl space) (inl (n, le, (rest, is, (ns, all, spelled, p)))) =
        inl (n ∷ ns, (le, all), ap (λ (x : ℕ). x ∷ text) space ∙ ap (λ (r : List ℕ). 32 ∷ r) (is ∙ ap (λ (r : List ℕ). decimal n ++ r) spelled), p)
    by (inl space) (inr never) = inr (λ spells. back never spells.0 spells.1 spells.2 spells.3)

-- the first k bytes of the text are a name, and the rest such fields
abbrev Cut : ℕ → (List ℕ → List ℕ → Type 0) → List ℕ → ℕ → Type 0
Cut most P text k = Spells most (P (take k text)) (drop k text)

module _ (most : ℕ) (word : List ℕ) where
  -- that a line is the word and such fields
  pub some_fields : (P : List ℕ → Type 0) → ((ns : List ℕ) → Decided (P ns)) → ((ns : List ℕ) → P ns → AllByRecursion (λ n. n ≤ most) ns) → (line : List ℕ)
      → Decided ((ns : List ℕ) × (line ≡ word ++ decimals_text ns) × P ns)
  some_fields P one small line = by (after_word word line)
    where
      by : Decided ((rest : List ℕ) × (line ≡ word ++ rest)) → Decided ((ns : List ℕ) × (line ≡ word ++ decimals_text ns) × P ns)
      by (inr never) = inr (λ found. never (decimals_text found.0, found.1))
      by (inl (rest, is)) =
          decided_as (some_numbers most (length rest) P one rest (omega arith)) (λ found. (found.0, is ∙ ap (λ (r : List ℕ). word ++ r) found.2, found.3))
          (λ found. (found.0, small found.0 found.2, append_cancel_left word rest (decimals_text found.0) (sym is ∙ found.1), found.2))

  -- that it is the word, a name and such fields
  pub some_named : (P : List ℕ → List ℕ → Type 0) → ((name ns : List ℕ) → Decided (P name ns))
      → ((name ns : List ℕ) → P name ns → AllByRecursion (λ n. n ≤ most) ns) → (line : List ℕ)
      → Decided ((name : List ℕ) × (ns : List ℕ) × (line ≡ word ++ (name ++ decimals_text ns)) × P name ns)
  some_named P one small line = by (after_word word line)
    where
      back : (rest name ns : List ℕ) → rest ≡ name ++ decimals_text ns → P name ns → (k : ℕ) × (k ≤ length rest) × Cut most P rest k
      back rest name ns is p =
          let name_is : take (length name) rest ≡ name = ap (take (length name)) is ∙ take_at name (decimals_text ns) (length name) refl in
          let fields : drop (length name) rest ≡ decimals_text ns = ap (drop (length name)) is ∙ drop_at name (decimals_text ns) (length name) refl in (
            length name,
            omega (arith, ap length is, length-append name (decimals_text ns)),
            (ns, small name ns p, fields, subst (λ (n : List ℕ). P n ns) (sym name_is) p),
          )

      by : Decided ((rest : List ℕ) × (line ≡ word ++ rest)) → Decided ((name : List ℕ) × (ns : List ℕ) × (line ≡ word ++ (name ++ decimals_text ns))
          × P name ns)
      by (inr never) = inr (λ found. never (found.0 ++ decimals_text found.1, found.2))
      by (inl (rest, is)) =
          decided_as
          (some_below (length rest) (Cut most P rest) (λ k. some_numbers most (length (drop k rest)) (P (take k rest)) (one (take k rest)) (drop k rest)
          (omega arith)))
          (λ found. (
            take found.0 rest,
            found.2.0,
            is ∙ ap (λ (r : List ℕ). word ++ r)
                (sym (take-append-drop found.0 rest) ∙ ap (λ (r : List ℕ). take found.0 rest ++ r) found.2.2),
            found.2.3,
          ))
          (λ found. back rest found.0 found.1 (append_cancel_left word rest (found.0 ++ decimals_text found.1) (sym is ∙ found.2)) found.3)
