-- Lines and their text.
use Rattle.std.proofs.Common.{inl, inr, ◌⊎◌, ⊎_elim, ◌≡◌, ◌≢◌, ℕ, Option, Some, None, List, [], ◌∷◌, ◌++◌, refl, sym, ap, ◌∙◌, append_assoc}
use Rattle.std.specs.Prelude.{IfNone}
use Rattle.std.specs.Option.{option_or}
use Rattle.line_format.specs.LineText.{text_of, first_excess, IsLine}

abbrev pub AreLines : {O : Type 0} → List (List ℕ × Option O) → Type 0
AreLines [] = Unit {0}
AreLines (m ∷ ms) = IsLine m.0 × AreLines ms

-- the text of two lists of lines together is the text of the first and then that of the second
pub text_of-append : {O : Type 0} (xs ys : List (List ℕ × Option O)) → text_of (xs ++ ys) ≡ text_of xs ++ text_of ys
text_of-append [] ys = refl
text_of-append (x ∷ xs) ys = ap (λ (l : List ℕ). x.0 ++ 10 ∷ l) (text_of-append xs ys) ∙ sym (append_assoc x.0 (10 ∷ text_of xs) (text_of ys))

-- the first excess of two lists of lines together is that of the first, or else that of the second
pub first_excess-append : {O : Type 0} (xs ys : List (List ℕ × Option O)) → first_excess (xs ++ ys) ≡ option_or (first_excess xs) (first_excess ys)
first_excess-append [] ys = refl
first_excess-append ((l, None) ∷ xs) ys = first_excess-append xs ys
first_excess-append ((l, Some o) ∷ xs) ys = refl

-- what holds in any case holds if there is none
pub none-so : {A : Type 0} (r : Option A) (P : Type 0) → P → IfNone r P
none-so None P p = p
none-so (Some x) P p = tt

-- two parts of a line make a line
pub line_append : (xs ys : List ℕ) → IsLine xs → IsLine ys → IsLine (xs ++ ys)
line_append [] ys x y = y
line_append (c ∷ xs) ys x y = (x.0, line_append xs ys x.1 y)

-- a text has one first line
pub one_line : (a b x y : List ℕ) → IsLine a → IsLine b → a ++ 10 ∷ x ≡ b ++ 10 ∷ y → (a ≡ b) × (x ≡ y)
one_line [] [] x y la lb is = (refl, cc)
one_line [] (c ∷ b) x y la lb is = let e : 10 ≡ c = cc in absurd (lb.0 (sym e))
one_line (c ∷ a) [] x y la lb is = let e : c ≡ 10 = cc in absurd (la.0 e)
one_line (c ∷ a) (d ∷ b) x y la lb is =
    let heads : c ≡ d = cc in
    let tails : a ++ 10 ∷ x ≡ b ++ 10 ∷ y = cc in
    let rest = one_line a b x y la.1 lb.1 tails in (cc (heads, rest.0), rest.1)

-- Of two lists of lines with which the bytes begin, one goes on from the other: the texts of their lines are
-- compared by `SameLines`, since what is beside them may differ.
abbrev pub SameLines : {O P : Type 0} → List (List ℕ × Option O) → List (List ℕ × Option P) → Type 0
SameLines [] [] = Unit {0}
SameLines [] (m ∷ ms) = ⊥
SameLines (l ∷ ls) [] = ⊥
SameLines (l ∷ ls) (m ∷ ms) = (l.0 ≡ m.0) × SameLines ls ms

-- lists of the same lines have the same text, whatever is beside the lines
pub text_of_same : {O P : Type 0} (ls : List (List ℕ × Option O)) (ms : List (List ℕ × Option P)) → SameLines ls ms → text_of ls ≡ text_of ms
text_of_same [] [] same = refl
text_of_same [] (m ∷ ms) same = absurd same
text_of_same (l ∷ ls) [] same = absurd same
text_of_same (l ∷ ls) (m ∷ ms) same = let rest = text_of_same ls ms same.1 in cc (same.0, rest)

-- the second list goes on with this line
pub record GoesOn {O : Type 0} (ls ms : List (List ℕ × Option O)) (rest : List ℕ) : Type 0 where
  pub start : List (List ℕ × Option O)
  pub next : List ℕ × Option O
  pub after : List (List ℕ × Option O)
  pub whole : ms ≡ start ++ next ∷ after
  pub same : SameLines ls start
  pub more : List ℕ
  pub rest_is : rest ≡ next.0 ++ 10 ∷ more

pub record StopsWithin {O : Type 0} (ls ms : List (List ℕ × Option O)) : Type 0 where
  pub start : List (List ℕ × Option O)
  pub after : List (List ℕ × Option O)
  pub whole : ls ≡ start ++ after
  pub same : SameLines ms start

-- of two lists of lines with which the same bytes begin, the second stops within the first or goes on from it
pub compare_lines : {O : Type 0} (ls ms : List (List ℕ × Option O)) (x y : List ℕ) → AreLines ls → AreLines ms
    → text_of ls ++ x ≡ text_of ms ++ y → StopsWithin ls ms ⊎ GoesOn ls ms x
compare_lines [] [] x y al am is = inl (record { start = []; after = []; whole = refl; same = tt })
compare_lines [] (m ∷ ms) x y al am is = inr (record {
  start = [];
  next = m;
  after = ms;
  whole = refl;
  same = tt;
  more = text_of ms ++ y;
  rest_is =
      is ∙ append_assoc m.0 (10 ∷ text_of ms) y;
})
compare_lines (l ∷ ls) [] x y al am is = inl (record { start = []; after = l ∷ ls; whole = refl; same = tt })
compare_lines (l ∷ ls) (m ∷ ms) x y al am is =
    let heads = one_line l.0 m.0 (text_of ls ++ x) (text_of ms ++ y) al.0 am.0 (sym (append_assoc l.0 (10 ∷ text_of ls) x) ∙ is
    ∙ append_assoc m.0 (10 ∷ text_of ms) y) in
    ⊎_elim
    (λ (s : StopsWithin ls ms). inl (record { start = l ∷ s.start; after = s.after; whole = ap (λ (r : List _). l ∷ r) s.whole; same = (sym heads.0, s.same) }))
    (λ (s : GoesOn ls ms x). inr (record {
      start = m ∷ s.start;
      next = s.next;
      after = s.after;
      whole = ap (λ (r : List _). m ∷ r) s.whole;
      same =
          (heads.0, s.same);
      more = s.more;
      rest_is = s.rest_is;
    }))
    (compare_lines ls ms x y al.1 am.1 heads.1)

-- a line with one more byte, no line feed, is a line
pub line_push : (cs : List ℕ) (c : ℕ) → IsLine cs → c ≢ 10 → IsLine (cs ++ c ∷ [])
line_push [] c is other = (other, tt)
line_push (x ∷ xs) c is other = (is.0, line_push xs c is.1 other)

-- a line feed in bytes that have none
pub no_feed : (a x : List ℕ) → IsLine (a ++ 10 ∷ x) → ⊥
no_feed [] x is = is.0 refl
no_feed (c ∷ a) x is = no_feed a x is.1
