-- The part without a bidder, looked for from the first part on.
use Rattle.std.proofs.Common.{◌≡◌, ◌≢◌, ℕ, ◌+◌, ◌<◌, cond, List, ◌∷◌, length, get_or, take, drop, map, sym, ap, ◌∙◌}
use Rattle.std.specs.List.{AllByRecursion}
use Rattle.std.proofs.lemmas.Bool.{eq-eqb}
use Rattle.std.proofs.lemmas.List.{at_drop_more}
use Rattle.cert_grammar.specs.Certificate.{WithoutValue, part_of}
use Rattle.cert_text.specs.declared.certificate.WithoutPart.{WithoutPart}
use Rattle.cert_text.specs.Parts.{without_value}

-- none of the first parts is without bidder j
pub record IsPast (parts : List WithoutPart) (i j : ℕ) : Type 0 where
  pub from : part_of (map without_value parts) j ≡ part_of (map without_value (drop i parts)) j
  pub none : AllByRecursion (λ part. part.winner ≢ j) (take i parts)

abbrev part_in : ℕ → List WithoutPart → WithoutValue
part_in j parts = part_of (map without_value parts) j

-- after parts of others, a part without bidder j is the one that is looked for
pub part_found : (parts : List WithoutPart) (i j : ℕ) (part : WithoutPart) → i < length parts → part ≡ get_or parts i part → IsPast parts i j
    → part.winner ≡ j → without_value part ≡ part_of (map without_value parts) j
part_found parts i j part lt is past own = sym (
    past.from
    ∙ at_drop_more (part_in j) parts i part lt
    ∙ ap (λ (p : WithoutPart). part_in j (p ∷ drop (i + 1) parts)) (sym is)
    ∙ ap (λ b. cond b (without_value part) (part_in j (drop (i + 1) parts))) (eq-eqb part.winner j own)
    )
