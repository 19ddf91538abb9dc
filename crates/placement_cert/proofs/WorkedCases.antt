-- The text of two small placement certificates, written out.
use Rattle.std.proofs.Common.{◌≡◌, ◌∷◌, [], codes, refl}
use Rattle.std.specs.Prelude.{pos, negsuc, ◌++◌}
use Rattle.line_format.specs.Numeral.{digits_of, numeral}
use Rattle.cert_grammar.specs.PlaceCert.{PlaceCertValue}
use Rattle.placement_cert.specs.PlaceSays.{place_text}

-- no bidder: the only set is that of nobody
abbrev nobody : PlaceCertValue
nobody = record {
  cert = record { den = pos 1; value = pos 0; choice = []; table = (pos 0 ∷ []) ∷ []; withouts = []; pay = []; rows = []; lowered = (pos 0 ∷ []) ∷ [] };
  order = [];
  part_orders = [];
  row_orders = [];
}

nobody_text : place_text nobody ≡ codes "pcert 1\nden 1\nvalue 0\norder\nchoice\ntable\nt 0\npay\nrows 0\nlowered\nt 0\nend\n"
unfolding numeral digits_of
nobody_text = refl

-- two bidders, of whom the second wins
abbrev second_wins : PlaceCertValue
second_wins = record {
  cert = record {
    den = pos 2;
    value = pos 10;
    choice = 0 ∷ 3 ∷ [];
    table = (pos 10 ∷ pos 10 ∷ pos 0 ∷ pos 0 ∷ []) ∷ [];
    withouts = record { winner = 2; choice = 1 ∷ 0 ∷ []; table = (pos 7 ∷ pos 0 ∷ pos 0 ∷ pos 0 ∷ []) ∷ [] } ∷ [];
    pay = pos 0 ∷ pos 14 ∷ [];
    rows = record { members = 2 ∷ []; first = pos 2; second = negsuc 104; choice = 1 ∷ 0 ∷ [] } ∷ [];
    lowered = (pos 14 ∷ pos 14 ∷ pos 0 ∷ pos 0 ∷ []) ∷ [];
  };
  order = 2 ∷ 1 ∷ [];
  part_orders = (1 ∷ 2 ∷ []) ∷ [];
  row_orders = (1 ∷ 2 ∷ []) ∷ [];
}

second_text : place_text second_wins ≡ codes
    "pcert 1\nden 2\nvalue 10\norder 2 1\nchoice 0 3\ntable\nt 10 10 0 0\nwithout 2\norder 1 2\nchoice 1 0\ntable\nt 7 0 0 0\n"
    ++ codes "pay 0 14\nrows 1\nrow 2\nmult 2 -105\norder 1 2\nchoice 1 0\nlowered\nt 14 14 0 0\nend\n"
unfolding numeral digits_of
second_text = refl
