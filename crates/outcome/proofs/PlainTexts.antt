-- Fractions and the lines of turns are of plain bytes, which are below 128.
use Rattle.std.proofs.Common.{Bool, Err, IsTrue, List, None, Ok, Option, Result, Some, [], ap, append_assoc, arith, codes, cond, false, length}
use Rattle.std.proofs.Common.{length-append, refl, subst, suc, sym, take, true, zero, ℕ, ℤ, ◌%◌, ◌&&◌, ◌++◌, ◌+◌, ◌-◌, ◌/◌, ◌<◌, ◌==◌, ◌∙◌, ◌∷◌, ◌≡◌}
use Rattle.std.proofs.Common.{◌≤◌}
use Rattle.std.specs.Prelude.{nat_lt, MatchResult}
use Rattle.std.specs.Result.{result_unwrap_or}
use Rattle.std.specs.List.{AllByRecursion}
use Rattle.std.specs.Str.{IsAscii}
use Rattle.std.specs.Fmt.{decimal, digit_glyph, digits, digits_onto}
use Rattle.std.proofs.Math.Nat.{mod-lt}
use Rattle.std.proofs.Math.Seq.{take-append_seam}
use Rattle.std.proofs.lemmas.Bool.{and_from, and_parts, ltb-true, lt-ltb}
use Rattle.std.proofs.lemmas.List.Elements.{All-from_recursion}
use Rattle.std.proofs.lemmas.Str.Ascii.{IsAscii-from_all}
use Rattle.auction_model.specs.Prices.{Point}
use Rattle.auction_model.specs.PricingRun.{BidderBlock, BidderTurn}
use Rattle.line_format.specs.Decimals.{decimals_text}
use Rattle.print_grammar.specs.Fractions.{IsFractionText, parts_text}
use Rattle.print_grammar.specs.Turns.{ArePoints, IsTurnEnd, IsTurnLine}
use Rattle.core_laws.specs.Winners.{members_of}
use Rattle.outcome.specs.Json.{EndsLine}

-- whether all bytes are plain
abbrev pub is_plain : List ℕ → Bool
is_plain [] = true
is_plain (c ∷ cs) = nat_lt c 128 && is_plain cs

abbrev pub IsPlain : List ℕ → Type 0
IsPlain text = IsTrue (is_plain text)

plain-append : (a b : List ℕ) → IsPlain a → IsPlain b → IsPlain (a ++ b)
plain-append [] b p q = q
plain-append (x ∷ a) b p q = let parts = and_parts (nat_lt x 128) (is_plain a) p in and_from (nat_lt x 128) (is_plain (a ++ b)) parts.0
    (plain-append a b parts.1 q)

plain-front : (a b : List ℕ) → IsPlain (a ++ b) → IsPlain a
plain-front [] b p = refl
plain-front (x ∷ a) b p = let parts = and_parts (nat_lt x 128) (is_plain (a ++ b)) p in and_from (nat_lt x 128) (is_plain a) parts.0 (plain-front a b parts.1)

plain-each : (text : List ℕ) → IsPlain text → AllByRecursion (λ b. b < 128) text
plain-each [] p = tt
plain-each (x ∷ text) p = let parts = and_parts (nat_lt x 128) (is_plain text) p in (ltb-true x 128 parts.0, plain-each text parts.1)

-- plain bytes are below 128
pub plain-ascii : (text : List ℕ) → IsPlain text → IsAscii text
plain-ascii text p = IsAscii-from_all text (All-from_recursion (λ b. b < 128) text (plain-each text p))

-- ---- numbers
glyph-low : (n : ℕ) → digit_glyph false (n % 10) < 128
glyph-low n = by (n % 10) (mod-lt n (omega arith))
  where
    by : (d : ℕ) → d < 10 → digit_glyph false d < 128
    by d lt = split (nat_lt d 10)
      where
        split : (b : Bool) → cond b (48 + d) (cond false (55 + d) (87 + d)) < 128
        split true = omega (arith, lt)
        split false = omega (arith, lt)

digits-plain : (k n : ℕ) (acc : List ℕ) → IsPlain acc → IsPlain (digits_onto k 10 false n acc)
digits-plain zero n acc p = p
digits-plain (suc k) n acc p = split (n / 10 == 0) (digits-plain k (n / 10) (digit_glyph false (n % 10) ∷ acc) one)
  where
    one : IsPlain (digit_glyph false (n % 10) ∷ acc)
    one = and_from (nat_lt (digit_glyph false (n % 10)) 128) (is_plain acc) (lt-ltb (digit_glyph false (n % 10)) 128 (glyph-low n)) p

    split : (b : Bool) → IsPlain (digits_onto k 10 false (n / 10) (digit_glyph false (n % 10) ∷ acc))
        → IsPlain (cond b (digit_glyph false (n % 10) ∷ acc) (digits_onto k 10 false (n / 10) (digit_glyph false (n % 10) ∷ acc)))
    split true more = one
    split false more = more

decimal-plain : (n : ℕ) → IsPlain (decimal n)
unfolding digits
decimal-plain n = digits-plain 64 n [] refl

numbers-plain : (ns : List ℕ) → IsPlain (decimals_text ns)
numbers-plain [] = refl
numbers-plain (n ∷ ns) = plain-append (decimal n) (decimals_text ns) (decimal-plain n) (numbers-plain ns)

-- the text of a fraction is plain
pub parts-plain : (whole rest parts : ℕ) → IsPlain (parts_text whole rest parts)
parts-plain whole zero parts = decimal-plain whole
parts-plain whole (suc rest) parts =
    plain-append (decimal whole ++ 43 ∷ decimal (suc rest)) (47 ∷ decimal parts)
    (plain-append (decimal whole) (43 ∷ decimal (suc rest)) (decimal-plain whole) (decimal-plain (suc rest))) (decimal-plain parts)

fraction-plain : (n d : ℤ) (text : List ℕ) → IsFractionText n d text → IsPlain text
fraction-plain n d text is = subst IsPlain (sym is.4) (parts-plain is.0 is.1 is.2)

-- ---- lines
points-plain : (p : Point) (k : ℕ) (c text : List ℕ) → ArePoints p k c text → IsPlain text
points-plain p k [] text are = subst IsPlain (sym are) refl
points-plain p k (zero ∷ c) text are = points-plain p (suc k) c text are
points-plain p k (suc i ∷ c) text are = subst IsPlain (sym are.4) (plain-append are.0 are.1 (fraction-plain _ p.den are.0 are.2)
    (points-plain p (suc k) c are.1 are.3))

four-plain : (a b c d : List ℕ) → IsPlain a → IsPlain b → IsPlain c → IsPlain d → IsPlain (((a ++ b) ++ c) ++ d)
four-plain a b c d p q r s = plain-append ((a ++ b) ++ c) d (plain-append (a ++ b) c (plain-append a b p q) r) s

six-plain : (a b c d e f : List ℕ) → IsPlain a → IsPlain b → IsPlain c → IsPlain d → IsPlain e → IsPlain f → IsPlain (((((a ++ b) ++ c) ++ d) ++ e) ++ f)
six-plain a b c d e f p q r s t u = plain-append ((((a ++ b) ++ c) ++ d) ++ e) f (plain-append (((a ++ b) ++ c) ++ d) e (four-plain a b c d p q r s) t) u

-- what comes before the line feed
abbrev IsPlainLine : List ℕ → Type 0
IsPlainLine line = (front : List ℕ) × (line ≡ front ++ codes "\n") × IsPlain front

end-plain : (bidders : ℕ) (den : ℤ) (block : Option BidderBlock) (text : List ℕ) → IsTurnEnd bidders den block text → IsPlainLine text
end-plain bidders den None text is = (codes " end", is, refl)
end-plain bidders den (Some b) text is =
    let members = decimals_text (members_of b.row.members bidders) in (
      codes " row" ++ members ++ codes " choice" ++ decimals_text b.choice ++ codes " excess " ++ is.0,
      is.2,
      six-plain (codes " row") members (codes " choice") (decimals_text b.choice) (codes " excess ") is.0 refl
          (numbers-plain (members_of b.row.members bidders)) refl (numbers-plain b.choice) refl (fraction-plain b.excess den is.0 is.1),
    )

-- the line of a turn
pub turn-ends : (z : List ℕ) (number : ℕ) (t : BidderTurn) (line : List ℕ) → IsTurnLine z number t line → EndsLine line
turn-ends z number t line is =
    let points = points-plain t.point 0 z is.0 is.2 in
    let end = end-plain (length z) t.point.den t.block is.1 is.3 in
    let before = codes "round " ++ decimal number ++ codes " point" ++ is.0 in
    let plain : IsPlain before = four-plain (codes "round ") (decimal number) (codes " point") is.0 refl (decimal-plain number) refl points in (
      before ++ end.0,
      is.4 ∙ ap (λ (l : List ℕ). before ++ l) end.1 ∙ append-back before end.0 (codes "\n"),
      plain-ascii (before ++ end.0) (plain-append before end.0 plain end.2),
    )
  where
    append-back : (a b c : List ℕ) → a ++ (b ++ c) ≡ (a ++ b) ++ c
    append-back a b c = simp append_assoc

-- ---- texts of the program
-- text that is read as UTF-8 is the text
pub ok-text : {T E : Type 0} (r : Result T E) (x : T) (P : T → Type 0) (Q : E → Type 0) (d : T) → x ≡ result_unwrap_or r d → MatchResult r P Q
    → ((e : E) → Q e → ⊥) → P x
ok-text (Ok y) x P Q d is match never = subst P (sym is) match
ok-text (Err e) x P Q d is match never = absurd (never e match)

-- a line without its last byte
pub front-of : (line : List ℕ) (ends : EndsLine line) → take (length line - 1) line ≡ ends.0
front-of line ends = ap (λ (l : List ℕ). take (length l - 1) l) ends.1 ∙ by ends.0
  where
    by : (front : List ℕ) → take (length (front ++ codes "\n") - 1) (front ++ codes "\n") ≡ front
    by front =
        let e : length (front ++ codes "\n") - 1 ≡ length front = omega (arith, length-append front (codes "\n")) in
        ap (λ (n : ℕ). take n (front ++ codes "\n")) e ∙ take-append_seam front (codes "\n")

-- a line that ends has a byte
pub some-byte : (line : List ℕ) → EndsLine line → 1 ≤ length line
some-byte line ends = omega (arith, ap (λ (l : List ℕ). length l) ends.1, length-append ends.0 (codes "\n"))
