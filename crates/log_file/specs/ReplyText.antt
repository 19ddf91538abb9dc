-- The text of a reply.
use Rattle.std.specs.Prelude.{ℕ, Option, Some, None, List, [], ◌∷◌, ◌++◌, codes}
use Rattle.std.specs.Fmt.{decimal}
use Rattle.line_format.specs.Decimals.{decimals_text}
use Rattle.auction_rules.specs.declared.Reply.{Reply}
use Rattle.auction_rules.specs.declared.Reply.TheVariants as reply
use Rattle.log_file.specs.declared.CloseDone.{CloseDone}
use Rattle.log_file.specs.declared.CloseDone.TheVariants as done

-- the text of an admitted line, by what its close did
abbrev pub admitted_text : Option CloseDone → List ℕ → List ℕ
admitted_text None prices = codes "ok"
admitted_text (Some (done.Round round)) prices = codes "round " ++ decimal round ++ decimals_text prices
admitted_text (Some done.Sealed) prices = codes "sealed"
admitted_text (Some done.Closed) prices = codes "closed"

-- the text of a reply
abbrev pub reply_text : Reply → Option CloseDone → List ℕ → List ℕ
reply_text reply.Ok close prices = admitted_text close prices
reply_text reply.Stage _ _ = codes "stage"
reply_text reply.Unknown _ _ = codes "unknown"
reply_text (reply.Supply category) _ _ = codes "supply" ++ decimals_text (category ∷ [])
reply_text (reply.SpectrumCap number limit) _ _ = codes "spectrum-cap" ++ decimals_text (number ∷ limit ∷ [])
reply_text (reply.Points eligibility) _ _ = codes "points" ++ decimals_text (eligibility ∷ [])
reply_text reply.Empty _ _ = codes "empty"
reply_text (reply.BelowReserve amount) _ _ = codes "below-reserve" ++ decimals_text (amount ∷ [])
reply_text (reply.BelowClock amount) _ _ = codes "below-clock" ++ decimals_text (amount ∷ [])
reply_text reply.NoDraft _ _ = codes "no-draft"
reply_text (reply.RelativeCap entry limit) _ _ = codes "relative-cap" ++ decimals_text (entry ∷ limit ∷ [])
reply_text (reply.Full count) _ _ = codes "full" ++ decimals_text (count ∷ [])
reply_text (reply.AmountTop amount) _ _ = codes "amount-top" ++ decimals_text (amount ∷ [])
reply_text (reply.PriceTop category price) _ _ = codes "price-top" ++ decimals_text (category ∷ price ∷ [])
reply_text reply.Memory _ _ = codes "memory"

-- the line of the record of this number
abbrev pub reply_line : ℕ → Reply → Option CloseDone → List ℕ → List ℕ
reply_line number r close prices = decimal number ++ 32 ∷ reply_text r close prices ++ 10 ∷ []
