-- The text of the made award is read as its terms.
use Rattle.std.proofs.Common.{◌≡◌, refl}
use Rattle.std.specs.Char.{encode_utf8}
use Rattle.std.specs.Fmt.{digits}
use Rattle.std.specs.Str.{chars, is_utf8}
use Rattle.toml.proofs.OnLiterals.{toml_on_literals}
use Rattle.award_file.specs.Reading.{reading, stated_terms}
use Rattle.big_auction.specs.AwardText.{made_award_text}
use Rattle.big_auction.specs.MadeAward.{made_terms}

pub award-read : reading made_award_text ≡ stated_terms made_terms
unfolding chars digits encode_utf8 is_utf8 made_award_text toml_on_literals
award-read = refl
