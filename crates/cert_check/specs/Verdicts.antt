-- What the checker answers.
use Rattle.std.specs.Prelude.{ℕ}
use Rattle.auction_model.specs.Book.{Book}
use Rattle.cert_grammar.specs.Certificate.{CertValue}
use Rattle.cert_soundness.specs.Tests.{FailsFirst, Holds}
use Rattle.cert_check.specs.declared.verdict.Verdict.{Verdict}
use Rattle.cert_check.specs.declared.verdict.Verdict.TheVariants.{Yes, No}

-- yes if all tests pass at all places, else the first test that fails with its first place
abbrev pub IsVerdict : Book → (ℕ → ℕ) → CertValue → Verdict → Type 0
IsVerdict book w c Yes = Holds book w c
IsVerdict book w c (No test place) = FailsFirst book w c test place
