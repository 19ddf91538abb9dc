-- Tables of one line with an entry for each set.
use Rattle.std.specs.Prelude.{◌≡◌, ℕ, ◌^◌, ◌<◌, List, [], ◌∷◌, length, slice_index_or, ℤ, unsigned_abs}
use Rattle.std.proofs.Common.{arith}
use Rattle.auction_model.specs.Table.{entry_at}
use Rattle.cert_grammar.specs.CertText.{IsTable}
use Rattle.cert_check.proofs.SumLaws.{in-range}

-- the line of a table over n sets has n entries
pub sets-width : (n : ℕ) (table : List (List ℤ)) → IsTable 0 n table → length (slice_index_or table 0 []) ≡ n
sets-width n [] h = absurd (let e = h.0 in omega (arith, e))
sets-width n (t ∷ table) h = h.1.0

-- each entry of a table over sets is below 2^120 in size
pub sets-range : (n : ℕ) (table : List (List ℤ)) → IsTable 0 n table → (s : ℕ) → unsigned_abs (entry_at table 0 s) < 2 ^ 120
sets-range n [] h s = absurd (let e = h.0 in omega (arith, e))
sets-range n (t ∷ table) h s = in-range t s h.1.1
