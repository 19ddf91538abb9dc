-- The lines that give the version.
use Rattle.std.proofs.Common.{◌≡◌, ℕ, ◌<◌, List, [], ◌∷◌, length, map, refl, ap, ◌∙◌, arith}
use Rattle.std.specs.Prelude.{ℤ, slice_index_or}
use Rattle.cert_grammar.specs.Certificate.{CertValue}
use Rattle.cert_grammar.specs.Plan.{Follows}
use Rattle.cert_grammar.specs.Lines.{Line, Fits, after, just_line, version_lines}
use Rattle.cert_grammar.specs.CertText.{AreTableLines, IsCertificate}

-- a plan of just these lines has them as its text
pub just_these : (ls : List Line) → Follows Fits after (map just_line ls) ls
just_these [] = tt
just_these (l ∷ ls) = (record { word = refl; numbers = refl }, just_these ls)

-- the first line of a table has a number for each state
first_long : (states : ℕ) (table : List (List ℤ)) → 0 < length table → AreTableLines states table → length (slice_index_or table 0 []) ≡ states
first_long states [] some h = absurd (omega (arith, some))
first_long states (t ∷ table) some h = h.0

-- a certificate is of the version of the bidders and states that it is for
pub version_is : (b s : ℕ) (c : CertValue) → IsCertificate b s c → version_lines (length c.choice) (length (slice_index_or c.table 0 [])) ≡ version_lines b s
version_is b s c h =
    ap (λ (n : ℕ). version_lines n (length (slice_index_or c.table 0 []))) h.choice.0
    ∙ ap (λ (n : ℕ). version_lines b n) (first_long s c.table (omega (arith, h.table.0)) h.table.1)
