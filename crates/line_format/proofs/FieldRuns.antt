-- Numbers of a line, one after the other.
use Rattle.std.proofs.Common.{Bool, List, [], ap, append_assoc, arith, drop, drop-drop, false, get_or, length, length-append, length-drop, refl}
use Rattle.std.proofs.Common.{subst, suc, sym, take, take-append-drop, true, zero, ℕ, ◌++◌, ◌+◌, ◌<◌, ◌∙◌, ◌∷◌, ◌≡◌, ◌≢◌, ◌≤◌}
use Rattle.std.specs.Prelude.{ℤ, ◌||◌}
use Rattle.std.proofs.lemmas.List.{append-nil, take_all}
use Rattle.line_format.specs.Numeral.{signed_numeral, numbers_text}
use Rattle.line_format.specs.Range.{is_out, any_out}
use Rattle.line_format.proofs.Numerals.{Ends, one_signed}
use Rattle.line_format.specs.declared.numbers.Kept.{Kept}
use Rattle.line_format.specs.Fields.{FieldEnds, IsNoField, KeepsNumber, KeepsNumbers, HasNumbers}

-- the text of one number more
pub numbers-push : (ns : List ℤ) (z : ℤ) → numbers_text (ns ++ z ∷ []) ≡ numbers_text ns ++ 32 ∷ signed_numeral z
numbers-push [] z = ap (λ (l : List ℕ). 32 ∷ l) (append-nil (signed_numeral z))
numbers-push (n ∷ ns) z = ap (λ (l : List ℕ). 32 ∷ signed_numeral n ++ l) (numbers-push ns z) ∙ ap (λ (l : List ℕ). 32 ∷ l)
    (sym (append_assoc (signed_numeral n) (numbers_text ns) (32 ∷ signed_numeral z)))

-- one more number, in range or not
pub out-push : (ns : List ℤ) (z : ℤ) → any_out (ns ++ z ∷ []) ≡ any_out ns || is_out z
out-push [] z = alone (is_out z)
  where
    alone : (b : Bool) → b || false ≡ b
    alone true = refl
    alone false = refl
out-push (n ∷ ns) z = ap (λ (b : Bool). is_out n || b) (out-push ns z) ∙ assoc (is_out n) (any_out ns) (is_out z)
  where
    assoc : (a b c : Bool) → a || (b || c) ≡ (a || b) || c
    assoc true b c = refl
    assoc false b c = refl

take-more : (text : List ℕ) (at stop : ℕ) → at < length text → get_or text at 0 ≡ 32 → take (at + (stop + 1)) text ≡ take at text
    ++ 32 ∷ take stop (drop (at + 1) text)
take-more [] at stop lt e = absurd (omega arith)
take-more (c ∷ text) zero stop lt e = ap (λ (n : ℕ). take n (c ∷ text)) swap ∙ ap (λ (x : ℕ). x ∷ take stop text) e
  where
    swap : 0 + (stop + 1) ≡ suc stop
    swap = omega arith
take-more (c ∷ text) (suc at) stop lt e = ap (λ (n : ℕ). take n (c ∷ text)) left ∙ ap (λ (l : List ℕ). c ∷ l) (take-more text at stop (omega arith) e)
    ∙ ap (λ (l : List ℕ). c ∷ take at text ++ 32 ∷ take stop l) (ap (λ (n : ℕ). drop n (c ∷ text)) right)
  where
    left : suc at + (stop + 1) ≡ suc (at + (stop + 1))
    left = omega arith

    right : suc (at + 1) ≡ suc at + 1
    right = omega arith

-- the first 0 bytes spell no numbers, none is kept, and none is out of range
pub numbers-start : (text : List ℕ) → KeepsNumbers text 0 [] [] false
numbers-start text = record { within = omega arith; front = refl; ends = λ some. absurd (omega (arith, some)); count = refl; out = refl; same = λ e. refl }

-- after the numbers so far, a space and what is kept of one more number are kept with them
pub numbers-more : (text : List ℕ) (at : ℕ) (ns items : List ℤ) (beyond : Bool) (k : Kept) (z : ℤ) → KeepsNumbers text at ns items beyond → at < length text
    → get_or text at 0 ≡ 32 → KeepsNumber (drop (at + 1) text) k z
    → KeepsNumbers text (at + (k.stop + 1)) (ns ++ z ∷ []) (items ++ k.number ∷ []) (beyond || k.beyond)
numbers-more text at ns items beyond k z h lt space kept = record {
  within = omega (arith, kept.field.within, length-drop (at + 1) text, lt);
  front = take-more text at k.stop lt space ∙ ap (λ (l : List ℕ). l ++ 32 ∷ take k.stop (drop (at + 1) text)) h.front
      ∙ ap (λ (l : List ℕ). numbers_text ns ++ 32 ∷ l) kept.field.spelled ∙ sym (numbers-push ns z);
  ends = λ some. subst FieldEnds (drop-drop k.stop (at + 1) text ∙ ap (λ (n : ℕ). drop n text) (omega arith)) kept.field.ends;
  count = omega (arith, h.count, length-append items (k.number ∷ []), length-append ns (z ∷ []));
  out = out-push ns z ∙ ap (λ (b : Bool). b || is_out z) h.out ∙ ap (λ (b : Bool). beyond || b) kept.beyond;
  same = λ e. both beyond k.beyond h.same kept.same e;
}
  where
    both : (a b : Bool) → (a ≡ false → items ≡ ns) → (b ≡ false → k.number ≡ z) → (a || b) ≡ false → items ++ k.number ∷ [] ≡ ns ++ z ∷ []
    both true b f g e = cc
    both false true f g e = cc
    both false false f g e = ap (λ (l : List ℤ). l ++ k.number ∷ []) (f refl) ∙ ap (λ (x : ℤ). ns ++ x ∷ []) (g refl)

field_ends : (r : List ℕ) → FieldEnds r → Ends r
field_ends [] e = tt
field_ends (c ∷ r) e = omega (arith, e)

-- what follows numbers at the start of numbers are numbers
left : (ns ms : List ℤ) (r : List ℕ) → (0 < length ns → FieldEnds r) → numbers_text ns ++ r ≡ numbers_text ms → (rest : List ℤ) × (r ≡ numbers_text rest)
left [] ms r ends e = (ms, e)
left (n ∷ ns) [] r ends e = absurd (no_more e)
  where
    no_more : 32 ∷ (signed_numeral n ++ numbers_text ns) ++ r ≡ [] → ⊥
    no_more e = cc
left (n ∷ ns) (m ∷ ms) r ends e =
    let tails : (signed_numeral n ++ numbers_text ns) ++ r ≡ signed_numeral m ++ numbers_text ms = cc in
    let one = one_signed n m (numbers_text ns ++ r) (numbers_text ms) (next ns) (last ms) (sym (append_assoc (signed_numeral n) (numbers_text ns) r) ∙ tails) in
    left ns ms r (λ some. ends (omega arith)) one.1
  where
    next : (ns : List ℤ) → Ends (numbers_text ns ++ r)
    next [] = field_ends r (ends (omega arith))
    next (x ∷ ns) = omega arith

    last : (ms : List ℤ) → Ends (numbers_text ms)
    last [] = tt
    last (x ∷ ms) = omega arith

-- in a text of numbers, the bytes after the numbers so far are numbers as well
pub numbers-left : (text : List ℕ) (at : ℕ) (ns items : List ℤ) (beyond : Bool) → KeepsNumbers text at ns items beyond → (ms : List ℤ)
    → text ≡ numbers_text ms → (rest : List ℤ) × (drop at text ≡ numbers_text rest)
numbers-left text at ns items beyond h ms e =
    left ns ms (drop at text) (λ some. h.ends (positive at some h.front)) (ap (λ (l : List ℕ). l ++ drop at text) (sym h.front) ∙ take-append-drop at text ∙ e)
  where
    positive : (at : ℕ) → 0 < length ns → take at text ≡ numbers_text ns → 0 < at
    positive zero some front = absurd (longer ns some front)
      where
        longer : (ns : List ℤ) → 0 < length ns → [] ≡ numbers_text ns → ⊥
        longer [] some front = omega arith
        longer (n ∷ ns) some front = cc
    positive (suc at) some front = omega arith

-- a byte that is no space begins no number
pub no_space : (text : List ℕ) (at : ℕ) (ns items : List ℤ) (beyond : Bool) → KeepsNumbers text at ns items beyond → at < length text → get_or text at 0 ≢ 32
    → (ms : List ℤ) → text ≡ numbers_text ms → ⊥
no_space text at ns items beyond h lt other ms e =
    let l = numbers-left text at ns items beyond h ms e in
    first l.0 text at lt other l.1
  where
    first : (rest : List ℤ) (text : List ℕ) (at : ℕ) → at < length text → get_or text at 0 ≢ 32 → drop at text ≡ numbers_text rest → ⊥
    first rest [] at lt other e = omega arith
    first [] (c ∷ text) zero lt other e = cc
    first (n ∷ rest) (c ∷ text) zero lt other e = other cc
    first rest (c ∷ text) (suc at) lt other e = first rest text at (omega arith) other e

-- and where no number follows the space
pub no_field : (text : List ℕ) (at : ℕ) (ns items : List ℤ) (beyond : Bool) → KeepsNumbers text at ns items beyond → at < length text
    → IsNoField (drop (at + 1) text) → (ms : List ℤ) → text ≡ numbers_text ms → ⊥
no_field text at ns items beyond h lt none ms e =
    let l = numbers-left text at ns items beyond h ms e in
    next l.0 text at lt none l.1
  where
    ends : (ms : List ℤ) → FieldEnds (numbers_text ms)
    ends [] = tt
    ends (m ∷ ms) = refl

    next : (rest : List ℤ) (text : List ℕ) (at : ℕ) → at < length text → IsNoField (drop (at + 1) text) → drop at text ≡ numbers_text rest → ⊥
    next rest [] at lt none e = omega arith
    next [] (c ∷ text) zero lt none e = cc
    next (n ∷ rest) (c ∷ text) zero lt none e = none n (numbers_text rest) (ends rest) cc
    next rest (c ∷ text) (suc at) lt none e = next rest text at (omega arith) (subst IsNoField (ap (λ (k : ℕ). drop k (c ∷ text)) same) none) e
      where
        same : suc at + 1 ≡ suc (at + 1)
        same = omega arith

-- where the numbers so far reach the end of the text, the whole text is these numbers
pub numbers-whole : (text : List ℕ) (at : ℕ) (ns items : List ℤ) (beyond : Bool) → KeepsNumbers text at ns items beyond
    → length text ≤ at → HasNumbers text items beyond
numbers-whole text at ns items beyond h le = record { numbers = ns; spelled = sym (take_all at text le) ∙ h.front; count = h.count; out = h.out; same = h.same }
