-- Of more lots more is left.
use Rattle.std.specs.Prelude.{◌≡◌, ℕ, ◌-◌, nat_le, IsTrue, List, [], ◌∷◌, length, refl}
use Rattle.std.proofs.Common.{arith}
use Rattle.std.proofs.lemmas.Bool.{and_parts, and_from, leb-true, le-leb}
use Rattle.auction_model.specs.Package.{is_within, less}

-- what a package leaves of some lots is within what it leaves of more lots
pub less-more : (l m p : List ℕ) → length l ≡ length m → IsTrue (is_within l m) → IsTrue (is_within (less l p) (less m p))
less-more [] m p same h = refl
less-more (b ∷ l) [] p same h = absurd (omega (arith, same))
less-more (b ∷ l) (c ∷ m) [] same h = h
less-more (b ∷ l) (c ∷ m) (a ∷ p) same h =
    let t = and_parts (nat_le b c) (is_within l m) h in
    and_from (nat_le (b - a) (c - a)) (is_within (less l p) (less m p)) (le-leb (b - a) (c - a) (omega (arith, leb-true b c t.0)))
    (less-more l m p (omega (arith, same)) t.1)
