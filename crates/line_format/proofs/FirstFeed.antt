-- The first line feed ends the first line.
use Rattle.std.specs.Prelude.{◌≡◌, ◌≢◌, ℕ, zero, suc, ◌+◌, ◌<◌, IfSome, IfNone, Option, None, Some, List, [], ◌∷◌, length, get_or, take, drop}
use Rattle.std.proofs.Common.{◌∙◌, ap, subst, arith}
use Rattle.std.proofs.lemmas.Bool.{eq-eqb, eqb-true}
use Rattle.std.proofs.lemmas.List.{take_all, drop_more}
use Rattle.memchr.specs.Find.{IsFirstByte, is_byte}
use Rattle.line_format.specs.LineText.{IsLine}

line_from : (n : ℕ) (bytes : List ℕ) → ((i : ℕ) → i < n → i < length bytes → get_or bytes i 0 ≢ 10) → IsLine (take n bytes)
line_from zero bytes none = tt
line_from (suc n) [] none = tt
line_from (suc n) (b ∷ bytes) none = (
  none 0 (omega arith) (omega arith),
  line_from n bytes
      (λ i low inside. none (suc i) (omega (arith, low)) (omega (arith, inside))),
)

-- a first line feed lies within the bytes, and those before it are a line
pub feed_found : (bytes : List ℕ) (r : Option ℕ) → IsFirstByte (is_byte 10) bytes r
    → IfSome r (λ n. IsLine (take n bytes) × (drop n bytes ≡ 10 ∷ drop (n + 1) bytes) × (n < length bytes))
feed_found bytes None first = tt
feed_found bytes (Some n) first =
    let feed : get_or bytes n 0 ≡ 10 = eqb-true (get_or bytes n 0) 10 first.1 in (
      line_from n bytes (λ i low inside e. first.0.before i (omega arith) low (eq-eqb (get_or bytes i 0) 10 e)),
      drop_more bytes n 0 first.0.high ∙ ap (λ (b : ℕ). b ∷ drop (n + 1) bytes) feed,
      first.0.high,
    )

-- bytes in which no line feed is found are a line
pub feed_none : (bytes : List ℕ) (r : Option ℕ) → IsFirstByte (is_byte 10) bytes r → IfNone r (IsLine bytes)
feed_none bytes None first =
    subst IsLine (take_all (length bytes) bytes (omega arith)) (line_from (length bytes) bytes
    (λ i low inside e. first i (omega arith) inside (eq-eqb (get_or bytes i 0) 10 e)))
feed_none bytes (Some n) first = tt
