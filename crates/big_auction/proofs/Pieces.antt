-- Pieces of a text, one after another.
use Rattle.std.proofs.Common.{◌≡◌, ℕ, suc, ◌+◌, List, [], ◌∷◌, ◌++◌, sym, ◌∙◌, ap, arith}
use Rattle.std.specs.Prelude.{codes, flat_map}
use Rattle.std.specs.Fmt.{decimal}
use Rattle.std.proofs.lemmas.List.{append-nil, append_assoc}
use Rattle.std.proofs.lemmas.List.Concat.{flat_map-append}
use Rattle.auction_rules.specs.Rounds.{listing}
use Rattle.big_auction.specs.AwardText.{entrant_text, name_line, number_line, table_line}
use Rattle.big_auction.specs.MadeAward.{made_entrant, made_name}

-- a text with one piece after it, and then another, has both after it
pub two : (t0 t1 t2 a b : List ℕ) → t1 ≡ t0 ++ a → t2 ≡ t1 ++ b → t2 ≡ t0 ++ (a ++ b)
two t0 t1 t2 a b one more = more ∙ ap (λ (t : List ℕ). t ++ b) one ∙ append_assoc t0 a b

-- so it is with three pieces
pub three : (t0 t1 t2 t3 a b c : List ℕ) → t1 ≡ t0 ++ a → t2 ≡ t1 ++ b → t3 ≡ t2 ++ c → t3 ≡ t0 ++ (a ++ (b ++ c))
three t0 t1 t2 t3 a b c one more last = two t0 t1 t3 a (b ++ c) one (two t1 t2 t3 b c more last)

-- and with four
pub four : (t0 t1 t2 t3 t4 a b c d : List ℕ) → t1 ≡ t0 ++ a → t2 ≡ t1 ++ b → t3 ≡ t2 ++ c → t4 ≡ t3 ++ d → t4 ≡ t0 ++ (a ++ (b ++ (c ++ d)))
four t0 t1 t2 t3 t4 a b c d one more next last = two t0 t1 t4 a (b ++ (c ++ d)) one (three t1 t2 t3 t4 b c d more next last)

-- the first of the pieces is of two
pub first-two : (t0 t1 t2 a b c : List ℕ) → t1 ≡ t0 ++ (a ++ b) → t2 ≡ t1 ++ c → t2 ≡ t0 ++ (a ++ (b ++ c))
first-two t0 t1 t2 a b c one more = two t0 t1 t2 (a ++ b) c one more ∙ ap (λ (t : List ℕ). t0 ++ t) (append_assoc a b c)

-- five pieces, of which the first two came as one
pub category : (t0 t1 t2 t3 t4 a b c d e : List ℕ) → t1 ≡ t0 ++ (a ++ b) → t2 ≡ t1 ++ c → t3 ≡ t2 ++ d → t4 ≡ t3 ++ e → t4 ≡ t0 ++ (a ++ (b ++ (c ++ (d ++ e))))
category t0 t1 t2 t3 t4 a b c d e one more next last = first-two t0 t1 t4 a b (c ++ (d ++ e)) one (three t1 t2 t3 t4 c d e more next last)

-- four pieces, with nothing after the last
pub categories : (t0 t1 t2 t3 t4 a b c d : List ℕ) → t1 ≡ t0 ++ a → t2 ≡ t1 ++ b → t3 ≡ t2 ++ c → t4 ≡ t3 ++ d → t4 ≡ t0 ++ (a ++ (b ++ (c ++ (d ++ []))))
categories t0 t1 t2 t3 t4 a b c d one more next last =
    four t0 t1 t2 t3 t4 a b c d one more next last ∙ ap (λ (t : List ℕ). t0 ++ (a ++ (b ++ (c ++ t)))) (sym (append-nil d))

-- a bidder's name in its table
pub bidder-name : (k : ℕ) (t0 t1 t2 t3 : List ℕ) → t1 ≡ t0 ++ (table_line (codes "[[bidder]]") ++ (codes "name = " ++ 34 ∷ 98 ∷ [])) → t2 ≡ t1 ++ decimal k
    → t3 ≡ t2 ++ 34 ∷ 10 ∷ []
    → t3 ≡ t0 ++ (table_line (codes "[[bidder]]") ++ name_line (made_name k))
bidder-name k t0 t1 t2 t3 one more last =
    let front : List ℕ = table_line (codes "[[bidder]]") ++ (codes "name = " ++ 34 ∷ 98 ∷ []) in
    three t0 t1 t2 t3 front (decimal k) (34 ∷ 10 ∷ []) one more last
    ∙ ap (λ (t : List ℕ). t0 ++ (front ++ t)) (sym (append_assoc (decimal k) (34 ∷ []) (10 ∷ [])))

-- one bidder more
pub entrants-more : (i : ℕ) (old now t1 t2 : List ℕ) → now ≡ old ++ flat_map entrant_text (listing made_entrant i)
    → t1 ≡ now ++ (table_line (codes "[[bidder]]") ++ name_line (made_name (i + 1))) → t2 ≡ t1 ++ number_line (codes "eligibility") 73
    → t2 ≡ old ++ flat_map entrant_text (listing made_entrant (i + 1))
entrants-more i old now t1 t2 was name eligibility =
    let next : i + 1 ≡ suc i = omega arith in
    let texts : List ℕ = flat_map entrant_text (listing made_entrant i) in
    let one : t2 ≡ now ++ entrant_text (made_entrant (i + 1)) = first-two now t1 t2 (table_line (codes "[[bidder]]")) (name_line (made_name (i + 1)))
    (number_line (codes "eligibility") 73) name eligibility in
    let more : flat_map entrant_text (listing made_entrant (suc i)) ≡ texts ++ entrant_text (made_entrant (suc i)) =
    flat_map-append entrant_text (listing made_entrant i) (made_entrant (suc i) ∷ []) ∙ ap (λ (t : List ℕ). texts ++ t)
    (append-nil (entrant_text (made_entrant (suc i)))) in
    two old now t2 texts (entrant_text (made_entrant (i + 1))) was one
    ∙ ap (λ (n : ℕ). old ++ (texts ++ entrant_text (made_entrant n))) next
    ∙ ap (λ (t : List ℕ). old ++ t) (sym more)
    ∙ ap (λ (n : ℕ). old ++ flat_map entrant_text (listing made_entrant n)) (sym next)

-- the whole award
pub award-pieces : (t1 t2 t3 t4 t5 t6 a b c d e f : List ℕ) → t1 ≡ a → t2 ≡ t1 ++ b → t3 ≡ t2 ++ c → t4 ≡ t3 ++ d → t5 ≡ t4 ++ e → t6 ≡ t5 ++ f
    → t6 ≡ a ++ (b ++ (c ++ (d ++ (e ++ (f ++ [])))))
award-pieces t1 t2 t3 t4 t5 t6 a b c d e f one more next later steps last =
    let rest : t6 ≡ t2 ++ (c ++ (d ++ (e ++ f))) = four t2 t3 t4 t5 t6 c d e f next later steps last in
    let whole : t6 ≡ t1 ++ (b ++ (c ++ (d ++ (e ++ f)))) = two t1 t2 t6 b (c ++ (d ++ (e ++ f))) more rest in
    whole ∙ ap (λ (t : List ℕ). t ++ (b ++ (c ++ (d ++ (e ++ f))))) one ∙ ap (λ (t : List ℕ). a ++ (b ++ (c ++ (d ++ (e ++ t))))) (sym (append-nil f))
