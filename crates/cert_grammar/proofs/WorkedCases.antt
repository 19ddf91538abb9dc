-- The texts of three small certificates, written out; parts, rows and members found by their numbers; and the place of a line out of range.
use Rattle.std.proofs.Common.{◌≡◌, true, false, Some, None, List, ◌∷◌, [], ◌++◌, codes, map, refl}
use Rattle.std.specs.Prelude.{pos, negsuc, replicate, ◌^◌}
use Rattle.cert_grammar.specs.CertText.{line}
use Rattle.cert_grammar.specs.Certificate.{CertValue, RowValue, WithoutValue, is_member, part_of, row_of}
use Rattle.cert_grammar.specs.Lines.{is_first_version, lines}
use Rattle.line_format.specs.Numeral.{numeral, digits_of}
use Rattle.cert_grammar.specs.Says.{cert_text}

-- no bidder, and one lot
abbrev nobody : CertValue
nobody = record {
  den = pos 1;
  value = pos 0;
  choice = [];
  table = (pos 0 ∷ pos 0 ∷ []) ∷ [];
  withouts = [];
  pay = [];
  rows = [];
  lowered =
      (pos 0 ∷ pos 0 ∷ []) ∷ [];
}

nobody_text : cert_text nobody ≡ codes "cert 1\nden 1\nvalue 0\nchoice\ntable\nt 0 0\npay\nrows 0\nlowered\nt 0 0\nend\n"
unfolding numeral digits_of
nobody_text = refl

-- two bidders, of whom the second wins, and one lot
abbrev second_wins : CertValue
second_wins = record {
  den = pos 2;
  value = pos 10;
  choice = 0 ∷ 12 ∷ [];
  table = (pos 0 ∷ pos 10 ∷ []) ∷ (pos 0 ∷ pos 10 ∷ []) ∷ (pos 0 ∷ pos 0 ∷ []) ∷ [];
  withouts = record { winner = 2; choice = 1 ∷ 0 ∷ []; table = (pos 0 ∷ pos 7 ∷ []) ∷ (pos 0 ∷ pos 0 ∷ []) ∷ (pos 0 ∷ pos 0 ∷ []) ∷ [] } ∷ [];
  pay = pos 0 ∷ pos 14 ∷ [];
  rows = record { members = 2 ∷ []; first = pos 2; second = negsuc 104; choice = 1 ∷ 0 ∷ [] } ∷ [];
  lowered = (pos 0 ∷ pos 14 ∷ []) ∷ (pos 0 ∷ pos 14 ∷ []) ∷ (pos 0 ∷ pos 0 ∷ []) ∷ [];
}

second_text : cert_text second_wins ≡ codes "cert 1\nden 2\nvalue 10\nchoice 0 12\ntable\nt 0 10\nt 0 10\nt 0 0\n"
    ++ codes "without 2\nchoice 1 0\ntable\nt 0 7\nt 0 0\nt 0 0\n"
    ++ codes "pay 0 14\nrows 1\nrow 2\nmult 2 -105\nchoice 1 0\nlowered\nt 0 14\nt 0 14\nt 0 0\nend\n"
unfolding numeral digits_of
second_text = refl

-- thirteen bidders of whom none wins, and one state: a text of the second version
abbrev thirteen : CertValue
thirteen = record {
  den = pos 1;
  value = pos 0;
  choice = replicate 13 0;
  table = replicate 14 (pos 0 ∷ []);
  withouts = [];
  pay = replicate 13 (pos 0);
  rows = [];
  lowered = replicate 14 (pos 0 ∷ []);
}

thirteen_text : cert_text thirteen ≡ codes "cert 2\nlimits 16 16384\nden 1\nvalue 0\nchoice 0 0 0 0 0 0 0 0 0 0 0 0 0\ntable\n"
    ++ codes "t 0\nt 0\nt 0\nt 0\nt 0\nt 0\nt 0\nt 0\nt 0\nt 0\nt 0\nt 0\nt 0\nt 0\n"
    ++ codes "pay 0 0 0 0 0 0 0 0 0 0 0 0 0\nrows 0\nlowered\n" ++ codes "t 0\nt 0\nt 0\nt 0\nt 0\nt 0\nt 0\nt 0\nt 0\nt 0\nt 0\nt 0\nt 0\nt 0\nend\n"
unfolding numeral digits_of
thirteen_text = refl

-- twelve bidders and 4,096 states are of the first version, and one more of either is not
last_of_the_first : is_first_version 12 4096 ≡ true
last_of_the_first = refl

one_bidder_more : is_first_version 13 4096 ≡ false
one_bidder_more = refl

one_state_more : is_first_version 12 4097 ≡ false
one_state_more = refl

abbrev parts : List WithoutValue
parts = record { winner = 2; choice = 1 ∷ []; table = [] } ∷ record { winner = 4; choice = 5 ∷ []; table = [] } ∷ []

second_part : (part_of parts 4).choice ≡ 5 ∷ []
second_part = refl

no_part : (part_of parts 3).choice ≡ []
no_part = refl

abbrev rows : List RowValue
rows = record { members = 1 ∷ []; first = pos 3; second = pos 0; choice = [] } ∷ record { members = 2 ∷ []; first = pos 4; second = pos 0; choice = [] } ∷ []

first_row : (row_of rows 1).first ≡ pos 3
first_row = refl

second_row : (row_of rows 2).first ≡ pos 4
second_row = refl

first_member : is_member (2 ∷ 5 ∷ []) 2 ≡ true
first_member = refl

last_member : is_member (2 ∷ 5 ∷ []) 5 ≡ true
last_member = refl

no_member : is_member (2 ∷ 5 ∷ []) 3 ≡ false
no_member = refl

-- the line with a number out of range begins at byte 7
place_out_of_range : map (λ m. m.1) (lines (line (codes "cert") (pos 1 ∷ []) ∷ line (codes "den") (pos (2 ^ 120) ∷ []) ∷ [])) ≡ None ∷ Some 7 ∷ []
unfolding numeral digits_of
place_out_of_range = refl
