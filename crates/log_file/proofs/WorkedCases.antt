-- Worked cases of the texts.
use Rattle.std.proofs.Common.{◌≡◌, Some, None, [], ◌∷◌, refl, codes}
use Rattle.auction_rules.specs.declared.Reply.TheVariants as reply
use Rattle.std.specs.Fmt.{digits}
use Rattle.csv.proofs.OnLiterals.{csv_on_literals}
use Rattle.log_file.specs.declared.CloseDone.TheVariants as done
use Rattle.log_file.specs.LogForm.{counts_text, four}
use Rattle.log_file.specs.LogReading.{log_records}
use Rattle.log_file.specs.ReplyText.{reply_line}

-- counts are spelled with one space between each two
pub counts : counts_text (2 ∷ 0 ∷ 15 ∷ []) ≡ codes "2 0 15"
unfolding digits
counts = refl

-- the reply to a close that posts a round has its number and its prices
pub round : reply_line 7 reply.Ok (Some (done.Round 2)) (1100 ∷ 30 ∷ []) ≡ codes "7 round 2 1100 30\n"
unfolding digits
round = refl

-- the reply for a broken spectrum cap has the number of the cap and its limit
pub cap : reply_line 10 (reply.SpectrumCap 2 9) None [] ≡ codes "10 spectrum-cap 2 9\n"
unfolding digits
cap = refl

-- an empty line is no record, and quotes are no part of a field
pub two_records : log_records (codes "close,,,\n\r\nsubmit,\"east\",,") ≡ four (codes "close") [] [] [] ∷ four (codes "submit") (codes "east") [] [] ∷ []
unfolding csv_on_literals
two_records = refl
