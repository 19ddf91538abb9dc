-- Names, as fields of a line.
use Rattle.std.specs.Prelude.{◌≢◌, ℕ, List, [], ◌∷◌}
use Rattle.std.specs.List.{AllByRecursion}
use Rattle.std.proofs.Common.{inl, inr, arith}
use Rattle.line_format.proofs.DecimalFields.{NoSpace}
use Rattle.book_grammar.specs.BookForm.{IsName, IsNameByte}

name_byte : (c : ℕ) → IsNameByte c → c ≢ 32
name_byte c (inl letter) is = omega (arith, letter, is)
name_byte c (inr (inl digit)) is = omega (arith, digit, is)
name_byte c (inr (inr low)) is = omega (arith, low, is)

name_bytes : (cs : List ℕ) → AllByRecursion IsNameByte cs → NoSpace cs
name_bytes [] all = tt
name_bytes (c ∷ cs) all = (name_byte c all.0, name_bytes cs all.1)

-- no space is in a name
pub name_own : (name : List ℕ) → IsName name → NoSpace name
name_own [] is = absurd is
name_own (c ∷ cs) is = ((λ space. omega (arith, is.0, space)), name_bytes cs is.1)
