-- The rule of a placement certificate has at most one proof, so a struct may contain
-- it.
use Rattle.std.specs.Prelude.{ℕ, zero, suc, List, [], ◌∷◌}
use denote.Struct.Props as logic
use Rattle.cert_grammar.specs.Certificate.{RowValue, WithoutValue}
use Rattle.cert_grammar.specs.OneProof.{AllInRange-prop, AreMembers-prop, AreTableLines-prop, AtMost-prop}
use Rattle.cert_grammar.specs.PlaceCert.{PlaceCertValue}
use Rattle.placement_cert.specs.PlaceText.{AreOrderedRows, AreOrderedWithouts, IsPlaceCertificate}

AreOrderedWithouts-prop : (bidders j : ℕ) (choice : List ℕ) (ws : List WithoutValue) (orders : List (List ℕ))
    → IsProp (AreOrderedWithouts bidders j choice ws orders)
AreOrderedWithouts-prop bidders j [] [] [] = Prim.hlevel logic.props
AreOrderedWithouts-prop bidders j [] [] (order ∷ orders) = Prim.hlevel
AreOrderedWithouts-prop bidders j [] (w ∷ ws) orders = Prim.hlevel
AreOrderedWithouts-prop bidders j (zero ∷ ns) ws orders = AreOrderedWithouts-prop bidders (suc j) ns ws orders
AreOrderedWithouts-prop bidders j (suc n ∷ ns) [] orders = Prim.hlevel
AreOrderedWithouts-prop bidders j (suc n ∷ ns) (w ∷ ws) [] = Prim.hlevel
AreOrderedWithouts-prop bidders j (suc n ∷ ns) (w ∷ ws) (order ∷ orders) = Prim.hlevel (logic.props, AtMost-prop, AreTableLines-prop, AreOrderedWithouts-prop bidders (suc j) ns ws orders)

AreOrderedRows-prop : (bidders : ℕ) (rows : List RowValue) (orders : List (List ℕ))
    → IsProp (AreOrderedRows bidders rows orders)
AreOrderedRows-prop bidders [] [] = Prim.hlevel logic.props
AreOrderedRows-prop bidders [] (order ∷ orders) = Prim.hlevel
AreOrderedRows-prop bidders (r ∷ rows) [] = Prim.hlevel
AreOrderedRows-prop bidders (r ∷ rows) (order ∷ orders) = Prim.hlevel (logic.props, AtMost-prop, AreMembers-prop, AreOrderedRows-prop bidders rows orders)

pub IsPlaceCertificate-prop : (bidders : ℕ) (c : PlaceCertValue) → IsProp (IsPlaceCertificate bidders c)
IsPlaceCertificate-prop bidders c = Prim.hlevel (logic.props, AllInRange-prop, AtMost-prop, AreTableLines-prop, AreOrderedWithouts-prop, AreOrderedRows-prop)
