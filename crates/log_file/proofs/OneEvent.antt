-- A record states at most one event.
use Rattle.std.proofs.Common.{◌≡◌, ℕ, suc, ◌+◌, ◌*◌, ◌≤◌, List, [], ◌∷◌, ◌++◌, length, refl, sym, ap, ◌∙◌, arith}
use Rattle.std.specs.List.{AllByRecursion}
use Rattle.std.specs.Fmt.{decimal}
use Rattle.wide_num.proofs.Decimal.{decimal_one}
use Rattle.line_format.specs.Decimals.{decimals_text}
use Rattle.auction_rules.specs.Terms.{Terms}
use Rattle.auction_rules.specs.declared.Event.{Event}
use Rattle.auction_rules.specs.declared.Event.TheVariants.{Bid, Close, Draft, Drop, Submit}
use Rattle.award_file.specs.Award.{number_of}
use Rattle.log_file.specs.LogForm.{AreCounts, IsNameOf, States, counts_text, four}
use Rattle.line_format.proofs.DecimalFields.{decimals_stop, number_own, one_field}

one_number : (m n : ℕ) (ms ns : List ℕ) → m ≤ 65535 → n ≤ 65535 → decimal m ++ decimals_text ms ≡ decimal n ++ decimals_text ns
    → (m ≡ n) × (decimals_text ms ≡ decimals_text ns)
one_number m n ms ns lm ln is =
    let parts = one_field (decimal m) (decimal n) (decimals_text ms) (decimals_text ns) (number_own m (omega (arith, lm))) (number_own n (omega (arith, ln)))
    (decimals_stop ms) (decimals_stop ns) is in
    (decimal_one m n (omega (arith, lm)) (omega (arith, ln)) parts.0, parts.1)

numbers_one : (ms ns : List ℕ) → AllByRecursion (λ n. n ≤ 65535) ms → AllByRecursion (λ n. n ≤ 65535) ns → decimals_text ms ≡ decimals_text ns → ms ≡ ns
numbers_one [] [] lm ln is = refl
numbers_one [] (n ∷ ns) lm ln is = absurd (cc is)
numbers_one (m ∷ ms) [] lm ln is = absurd (cc is)
numbers_one (m ∷ ms) (n ∷ ns) lm ln is =
    let tails : decimal m ++ decimals_text ms ≡ decimal n ++ decimals_text ns = cc in
    let first = one_number m n ms ns lm.0 ln.0 tails in
    let rest = numbers_one ms ns lm.1 ln.1 first.1 in cc (first.0, rest)

one_package : (categories : ℕ) (p q : List ℕ) → AreCounts categories p → AreCounts categories q → counts_text p ≡ counts_text q → p ≡ q
one_package categories [] [] p q is = refl
one_package categories [] (n ∷ ns) p q is = absurd (omega (arith, p.0, q.0))
one_package categories (m ∷ ms) [] p q is = absurd (omega (arith, p.0, q.0))
one_package categories (m ∷ ms) (n ∷ ns) p q is =
    let first = one_number m n ms ns p.1.0 q.1.0 is in
    let rest = numbers_one ms ns p.1.1 q.1.1 first.1 in cc (first.0, rest)

-- a number of its own for the word of each kind: twice its length and its first byte
abbrev mark : List (List ℕ) → ℕ
mark [] = 0
mark ([] ∷ fields) = 0
mark ((c ∷ cs) ∷ fields) = c + 2 * suc (length cs)

abbrev mark_of : Event → ℕ
mark_of (Bid k p) = 104
mark_of (Draft k p n) = 110
mark_of (Drop k p) = 108
mark_of (Submit k) = 127
mark_of Close = 109

marked : (terms : Terms) (fields : List (List ℕ)) (e : Event) → States terms fields e → mark fields ≡ mark_of e
marked terms fields (Bid k p) s = ap mark s.3
marked terms fields (Draft k p n) s = ap mark s.4
marked terms fields (Drop k p) s = ap mark s.3
marked terms fields (Submit k) s = ap mark s.2
marked terms fields Close s = ap mark s

second_of : (a b c d a2 b2 c2 d2 : List ℕ) → four a b c d ≡ four a2 b2 c2 d2 → (b ≡ b2) × (c ≡ c2) × (d ≡ d2)
second_of a b c d a2 b2 c2 d2 is = (cc is, cc is, cc is)

named : (terms : Terms) (k j : ℕ) (m n : List ℕ) → IsNameOf terms k m → IsNameOf terms j n → m ≡ n → k ≡ j
named terms k j m n km jn same = km.1 ∙ ap (number_of terms) same ∙ sym jn.1

same_kind : (terms : Terms) (fields : List (List ℕ)) (e f : Event) → mark_of e ≡ mark_of f → States terms fields e → States terms fields f → e ≡ f
same_kind terms fields (Bid k p) (Bid j q) m (name, is, are, s) (other, also, too, t) =
    let parts = second_of _ _ _ _ _ _ _ _ (sym s ∙ t) in
    let numbers = named terms k j name other is also parts.0 in
    let lots = one_package (length terms.supply) p q are too parts.1 in cc (numbers, lots)
same_kind terms fields (Drop k p) (Drop j q) m (name, is, are, s) (other, also, too, t) =
    let parts = second_of _ _ _ _ _ _ _ _ (sym s ∙ t) in
    let numbers = named terms k j name other is also parts.0 in
    let lots = one_package (length terms.supply) p q are too parts.1 in cc (numbers, lots)
same_kind terms fields (Draft k p a) (Draft j q b) m (name, is, are, few, s) (other, also, too, low, t) =
    let parts = second_of _ _ _ _ _ _ _ _ (sym s ∙ t) in
    let numbers = named terms k j name other is also parts.0 in
    let lots = one_package (length terms.supply) p q are too parts.1 in
    let amounts = decimal_one a b (omega (arith, few)) (omega (arith, low)) parts.2 in cc (numbers, lots, amounts)
same_kind terms fields (Submit k) (Submit j) m (name, is, s) (other, also, t) =
    let parts = second_of _ _ _ _ _ _ _ _ (sym s ∙ t) in
    let numbers = named terms k j name other is also parts.0 in cc numbers
same_kind terms fields Close Close m s t = refl
same_kind terms fields (Bid k p) (Draft j q b) m s t = absurd (omega (arith, m))
same_kind terms fields (Bid k p) (Drop j q) m s t = absurd (omega (arith, m))
same_kind terms fields (Bid k p) (Submit j) m s t = absurd (omega (arith, m))
same_kind terms fields (Bid k p) Close m s t = absurd (omega (arith, m))
same_kind terms fields (Draft k p a) (Bid j q) m s t = absurd (omega (arith, m))
same_kind terms fields (Draft k p a) (Drop j q) m s t = absurd (omega (arith, m))
same_kind terms fields (Draft k p a) (Submit j) m s t = absurd (omega (arith, m))
same_kind terms fields (Draft k p a) Close m s t = absurd (omega (arith, m))
same_kind terms fields (Drop k p) (Bid j q) m s t = absurd (omega (arith, m))
same_kind terms fields (Drop k p) (Draft j q b) m s t = absurd (omega (arith, m))
same_kind terms fields (Drop k p) (Submit j) m s t = absurd (omega (arith, m))
same_kind terms fields (Drop k p) Close m s t = absurd (omega (arith, m))
same_kind terms fields (Submit k) (Bid j q) m s t = absurd (omega (arith, m))
same_kind terms fields (Submit k) (Draft j q b) m s t = absurd (omega (arith, m))
same_kind terms fields (Submit k) (Drop j q) m s t = absurd (omega (arith, m))
same_kind terms fields (Submit k) Close m s t = absurd (omega (arith, m))
same_kind terms fields Close (Bid j q) m s t = absurd (omega (arith, m))
same_kind terms fields Close (Draft j q b) m s t = absurd (omega (arith, m))
same_kind terms fields Close (Drop j q) m s t = absurd (omega (arith, m))
same_kind terms fields Close (Submit j) m s t = absurd (omega (arith, m))

-- two events that the same record states are the same
pub one_event : (terms : Terms) (fields : List (List ℕ)) (e f : Event) → States terms fields e → States terms fields f → e ≡ f
one_event terms fields e f s t = same_kind terms fields e f (sym (marked terms fields e s) ∙ marked terms fields f t) s t
