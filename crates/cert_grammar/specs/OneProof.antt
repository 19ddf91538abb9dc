-- The rule of a certificate has at most one proof, so a struct may contain
-- it.
use Rattle.std.specs.Prelude.{ℕ, zero, suc, List, [], ◌∷◌, ℤ}
use denote.Struct.Props as logic
use Rattle.cert_grammar.specs.Certificate.{CertValue, WithoutValue, RowValue}
use Rattle.cert_grammar.specs.CertText.{AtMost, AreTableLines, AreWithouts, AreMembers, AreRows, IsCertificate}
use Rattle.line_format.specs.Range.{AllInRange}

pub AllInRange-prop : (zs : List ℤ) → IsProp (AllInRange zs)
AllInRange-prop [] = Prim.hlevel logic.props
AllInRange-prop (z ∷ zs) = Prim.hlevel (logic.props, AllInRange-prop zs)

pub AtMost-prop : (most : ℕ) (ns : List ℕ) → IsProp (AtMost most ns)
AtMost-prop most [] = Prim.hlevel logic.props
AtMost-prop most (n ∷ ns) = Prim.hlevel (logic.props, AtMost-prop most ns)

pub AreTableLines-prop : (states : ℕ) (table : List (List ℤ)) → IsProp (AreTableLines states table)
AreTableLines-prop states [] = Prim.hlevel logic.props
AreTableLines-prop states (t ∷ table) = Prim.hlevel (logic.props, AllInRange-prop, AreTableLines-prop states table)

AreWithouts-prop : (bidders states j : ℕ) (choice : List ℕ) (ws : List WithoutValue)
    → IsProp (AreWithouts bidders states j choice ws)
AreWithouts-prop bidders states j [] [] = Prim.hlevel logic.props
AreWithouts-prop bidders states j [] (w ∷ ws) = Prim.hlevel
AreWithouts-prop bidders states j (zero ∷ ns) ws = AreWithouts-prop bidders states (suc j) ns ws
AreWithouts-prop bidders states j (suc n ∷ ns) [] = Prim.hlevel
AreWithouts-prop bidders states j (suc n ∷ ns) (w ∷ ws) = Prim.hlevel (logic.props, AtMost-prop, AreTableLines-prop, AreWithouts-prop bidders states (suc j) ns ws)

pub AreMembers-prop : (bidders before : ℕ) (js : List ℕ) → IsProp (AreMembers bidders before js)
AreMembers-prop bidders before [] = Prim.hlevel logic.props
AreMembers-prop bidders before (j ∷ js) = Prim.hlevel (logic.props, AreMembers-prop bidders j js)

pub AreRows-prop : (bidders : ℕ) (rows : List RowValue) → IsProp (AreRows bidders rows)
AreRows-prop bidders [] = Prim.hlevel logic.props
AreRows-prop bidders (r ∷ rows) = Prim.hlevel (logic.props, AtMost-prop, AreMembers-prop, AreRows-prop bidders rows)

pub IsCertificate-prop : (bidders states : ℕ) (c : CertValue) → IsProp (IsCertificate bidders states c)
IsCertificate-prop bidders states c = Prim.hlevel (logic.props, AllInRange-prop, AtMost-prop, AreTableLines-prop, AreWithouts-prop, AreRows-prop)
