-- Numbers of a line, one after the other.
use Rattle.std.proofs.Common.{Bool, List, [], ap, append_assoc, arith, false, get_or, inl, inr, length, length-append, refl, set, subst, suc, sym}
use Rattle.std.proofs.Common.{take, true, ℕ, ◌++◌, ◌+◌, ◌-◌, ◌<◌, ◌∙◌, ◌∷◌, ◌≡◌, ◌≤◌}
use Rattle.std.proofs.lemmas.Bool.{cases_lt}
use Rattle.std.proofs.lemmas.Bool.Decides.{nat_tests}
use Rattle.std.proofs.lemmas.List.{append-nil, take_more_set, get_or-take}
use Rattle.std.proofs.lemmas.Int.{ints}
use Rattle.std.specs.Prelude.{ℤ, pos, negsuc, ◌≤ℤ◌, ◌<ℤ◌, ◌||◌, nat_eq}
use Rattle.cert_grammar.specs.Lines.{AreNumbers, FitNumbers, Numbers, Rise, chosen, counted, headed, members, ordered_count, ordered_head, signed, these}
use Rattle.line_format.specs.Range.{any_out, is_out}
use Rattle.line_format.proofs.FieldRuns.{out-push}
use Rattle.cert_text.proofs.SmallNumbers.{numbers_push}
use Rattle.cert_stream.specs.declared.line.form.Form.{Form}
use Rattle.cert_stream.specs.declared.line.form.Form.TheVariants.{Nothing, Just, Both, Signed, Chosen, Counted, Members}
use Rattle.cert_stream.specs.declared.line.phase.ReadNumber.{ReadNumber}
use Rattle.cert_stream.specs.Tallies.{IsKept}
use Rattle.cert_stream.specs.Forms.{numbers_of, room_for, MayBegin, MayFollow, Keeps, last_of}

-- how many there are with one more
pub more_long : (ns : List ℤ) (z : ℤ) (more : List ℤ) → length (ns ++ z ∷ more) ≡ length ns + suc (length more)
more_long ns z more = length-append ns (z ∷ more)

-- a number among those of a choice
small_next : (ns : List ℤ) (z : ℤ) (more : List ℤ) → AreNumbers 65535 (ns ++ z ∷ more) → (pos 0 ≤ℤ z) × (z ≤ℤ pos 65535)
small_next [] z more all = (all.0, all.1)
small_next (n ∷ ns) z more all = small_next ns z more all.2

-- one more member
rise_push : (bidders : ℕ) (before : ℤ) (ns : List ℤ) (z : ℤ) → Rise bidders before ns → last_of before ns <ℤ z → z ≤ℤ pos bidders
    → Rise bidders before (ns ++ z ∷ [])
rise_push bidders before [] z rise low high = (low, high, tt)
rise_push bidders before (n ∷ ns) z rise low high = (rise.0, rise.1, rise_push bidders n ns z rise.2 low high)

-- a member among others
rise_next : (bidders : ℕ) (before : ℤ) (ns : List ℤ) (z : ℤ) (more : List ℤ) → Rise bidders before (ns ++ z ∷ more)
    → (last_of before ns <ℤ z) × (z ≤ℤ pos bidders)
rise_next bidders before [] z more rise = (rise.0, rise.1)
rise_next bidders before (n ∷ ns) z more rise = rise_next bidders n ns z more rise.2

-- rising numbers are no more than the bidders
rise_few : (bidders m : ℕ) (before : ℤ) (ns : List ℤ) → before ≡ pos m → Rise bidders before ns → m ≤ bidders → m + length ns ≤ bidders
rise_few bidders m before [] is rise le = omega (arith, le)
rise_few bidders m before (pos n ∷ ns) is rise le =
    let more : m < n = omega (arith, ints, is, rise.0) in
    let rest = rise_few bidders n (pos n) ns refl rise.2 (omega (arith, ints, rise.1)) in omega (arith, more, rest)
rise_few bidders m before (negsuc n ∷ ns) is rise le = absurd (omega (arith, ints, is, rise.0))

-- the last of the kept ones, none of which is below 0
pub last_low : (bidders : ℕ) (before : ℤ) (ns : List ℤ) → pos 0 ≤ℤ before → Rise bidders before ns → pos 0 ≤ℤ last_of before ns
last_low bidders before [] low rise = low
last_low bidders before (n ∷ ns) low rise = last_low bidders n ns (omega (arith, ints, low, rise.0)) rise.2

-- the last of the numbers
pub last_at : (before : ℤ) (n : ℤ) (ns : List ℤ) (d : ℤ) → get_or (n ∷ ns) (length ns) d ≡ last_of before (n ∷ ns)
last_at before n [] d = refl
last_at before n (m ∷ ns) d = last_at n m ns d

-- one number more
pub follows : (n : Numbers) (ns : List ℤ) (z : ℤ) → MayBegin n ns → MayFollow n ns z → MayBegin n (ns ++ z ∷ [])
follows (these ms) ns z begins next = (next.0, next.1 ∙ sym (append_assoc ns (z ∷ []) next.0))
follows (signed count) ns z begins next = omega (arith, next, more_long ns z [])
follows (chosen bidders) ns z begins next = (omega (arith, next.0, more_long ns z []), numbers_push ns z begins.1 next.1 next.2)
follows (headed bidders states) ns z begins next = (omega (arith, next.0, more_long ns z []), numbers_push ns z begins.1 next.1 next.2)
follows (counted bidders) ns z begins next = subst (MayBegin (counted bidders)) (ap (λ (l : List ℤ). l ++ z ∷ []) (sym next.0)) (omega arith, λ some. next.1)
follows (members bidders) ns z begins next = rise_push bidders (pos 0) ns z begins next.0 next.1
follows (ordered_head bidders) ns z begins next = (omega (arith, next.0, more_long ns z []), numbers_push ns z begins.1 next.1 next.2)
follows (ordered_count bidders) ns z begins next = subst (MayBegin (counted bidders)) (ap (λ (l : List ℤ). l ++ z ∷ []) (sym next.0))
    (omega arith, λ some. next.1)

-- a number in a line of a count is there alone
count_has_to_follow : (bidders : ℕ) (ns : List ℤ) (z : ℤ) (more : List ℤ) → FitNumbers (counted bidders) (ns ++ z ∷ more)
    → (ns ≡ []) × FitNumbers (counted bidders) (z ∷ [])
count_has_to_follow bidders [] z [] fit = (refl, fit)
count_has_to_follow bidders [] z (m ∷ more) (r, e, few, some) = absurd (two z m more r e)
  where
    two : (z m : ℤ) (more : List ℤ) (r : ℕ) → z ∷ m ∷ more ≡ pos r ∷ [] → ⊥
    two z m more r e = cc
count_has_to_follow bidders (n ∷ ns) z more (r, e, few, some) = absurd (omega (arith, ap length e, more_long ns z more))

-- a number in a line of the kind is there
pub has_to_follow : (n : Numbers) (ns : List ℤ) (z : ℤ) (more : List ℤ) → FitNumbers n (ns ++ z ∷ more) → MayFollow n ns z
has_to_follow (these ms) ns z more fit = (more, sym fit)
has_to_follow (signed count) ns z more fit = omega (arith, fit, more_long ns z more)
has_to_follow (chosen bidders) ns z more fit = let s = small_next ns z more fit.1 in (omega (arith, fit.0, more_long ns z more), s.0, s.1)
has_to_follow (headed bidders states) ns z more fit = let s = small_next ns z more fit.1 in (omega (arith, fit.0, more_long ns z more), s.0, s.1)
has_to_follow (counted bidders) ns z more fit = count_has_to_follow bidders ns z more fit
has_to_follow (members bidders) ns z more fit = rise_next bidders (pos 0) ns z more fit.1
has_to_follow (ordered_head bidders) ns z more fit = let s = small_next ns z more fit.1 in (omega (arith, fit.0, more_long ns z more), s.0, s.1)
has_to_follow (ordered_count bidders) ns z more fit = count_has_to_follow bidders ns z more fit

-- there are no more than the room is for
pub within_room : (form : Form) (ns : List ℤ) → MayBegin (numbers_of form) ns → length ns ≤ room_for form
within_room Nothing ns (rest, e) = omega (arith, ap length e, length-append ns rest)
within_room (Just number) ns (rest, e) = omega (arith, ap length e, length-append ns rest)
within_room (Both first second) ns (rest, e) = omega (arith, ap length e, length-append ns rest)
within_room (Signed count) ns begins = begins
within_room (Chosen bidders) ns begins = begins.0
within_room (Counted bidders) ns begins = begins.0
within_room (Members bidders) ns begins = let few = rise_few bidders 0 (pos 0) ns refl begins (omega arith) in omega (arith, few)

-- one number more is kept
pub keeps_more : (ns out : List ℤ) (count : ℕ) (beyond : Bool) (k : ReadNumber) (z : ℤ) → Keeps ns out count beyond → IsKept k z → count < length out
    → Keeps (ns ++ z ∷ []) (set out count k.number) (count + 1) (beyond || k.beyond)
keeps_more ns out count beyond k z keeps kept lt = record {
  many = omega (arith, keeps.many, more_long ns z []);
  range = out-push ns z ∙ ap (λ (b : Bool). b || is_out z) keeps.range ∙ ap (λ (b : Bool). beyond || b) kept.beyond;
  same = λ e. take_more_set out count k.number lt ∙ both beyond k.beyond keeps.same kept.same e;
}
  where
    both : (a b : Bool) → (a ≡ false → take count out ≡ ns) → (b ≡ false → k.number ≡ z) → (a || b) ≡ false → take count out ++ k.number ∷ [] ≡ ns ++ z ∷ []
    both true b f g e = cc
    both false true f g e = cc
    both false false f g e = ap (λ (l : List ℤ). l ++ k.number ∷ []) (f refl) ∙ ap (λ (x : ℤ). ns ++ x ∷ []) (g refl)

-- there is room for a number that may be the next
pub has_room : (form : Form) (ns : List ℤ) (z : ℤ) (count room : ℕ) → MayBegin (numbers_of form) ns → MayFollow (numbers_of form) ns z → length ns ≡ count
    → room_for form ≤ room → count < room
has_room form ns z count room begins next many le = omega (
  arith,
  within_room form (ns ++ z ∷ []) (follows (numbers_of form) ns z begins next),
  more_long ns z [],
  many,
  le,
)

-- no number follows if none is left
pub none_next : (ns : List ℤ) (z : ℤ) → MayFollow (these []) ns z → ⊥
none_next ns z (rest, e) = omega (arith, ap length e, more_long ns z rest)

-- just one number is asked for
pub one_next : (number : ℕ) (ns : List ℤ) (z : ℤ) → MayFollow (these (pos number ∷ [])) ns z → (length ns ≡ 0) × (z ≡ pos number)
one_next number [] z (rest, e) = (refl, cc)
one_next number (n ∷ ns) z (rest, e) = absurd (omega (arith, ap length e, more_long ns z rest))

-- and it may be there
pub one_first : (number : ℕ) (ns : List ℤ) (z : ℤ) → length ns ≡ 0 → z ≡ pos number → MayFollow (these (pos number ∷ [])) ns z
one_first number [] z none is = ([], ap (λ (x : ℤ). x ∷ []) (sym is))
one_first number (n ∷ ns) z none is = absurd (omega (arith, none))

-- of two numbers the first comes before all, and the second after it
pub two_next : (m n : ℕ) (ns : List ℤ) (z : ℤ) → MayFollow (these (pos m ∷ pos n ∷ [])) ns z → (length ns ≤ 1) × (length ns ≡ 0 → z ≡ pos m)
    × (0 < length ns → z ≡ pos n)
two_next m n [] z (rest, e) = (omega arith, λ none. cc, λ some. absurd (omega (arith, some)))
two_next m n (x ∷ []) z (rest, e) = (omega arith, λ none. absurd (omega (arith, none)), λ some. cc)
two_next m n (x ∷ y ∷ ns) z (rest, e) = absurd (omega (arith, ap length e, more_long ns z rest))

-- the number that comes after that many of two
pub two_follow : (m n number : ℕ) (ns : List ℤ) (z : ℤ) → MayBegin (these (pos m ∷ pos n ∷ [])) ns → length ns ≤ 1 → (length ns ≡ 0 → number ≡ m)
    → (0 < length ns → number ≡ n) → z ≡ pos number → MayFollow (these (pos m ∷ pos n ∷ [])) ns z
two_follow m n number [] z begins few none some is = (pos n ∷ [], ap (λ (x : ℤ). x ∷ pos n ∷ []) (ap pos (sym (none refl)) ∙ sym is))
two_follow m n number (x ∷ []) z (rest, e) few none some is = let second : z ≡ pos n = is ∙ ap pos (some (omega arith)) in ([], cc (second, e))
two_follow m n number (x ∷ y ∷ ns) z begins few none some is = absurd (omega (arith, few))

-- and which it has to be
pub two_number : (m n number : ℕ) (ns : List ℤ) (z : ℤ) → (length ns ≡ 0 → number ≡ m) → (0 < length ns → number ≡ n)
    → MayFollow (these (pos m ∷ pos n ∷ [])) ns z → z ≡ pos number
two_number m n number [] z none some next = (two_next m n [] z next).1 refl ∙ ap pos (sym (none refl))
two_number m n number (x ∷ ns) z none some next = (two_next m n (x ∷ ns) z next).2 (omega arith) ∙ ap pos (sym (some (omega arith)))

-- a count of rows is at most ten, and 0 without a bidder
pub count_next : (bidders : ℕ) (most : ℤ) (ns : List ℤ) (z : ℤ) → (bidders ≡ 0 → most ≡ pos 0) → (0 < bidders → most ≡ pos 10)
    → MayFollow (counted bidders) ns z → (length ns ≡ 0) × (negsuc 0 <ℤ z) × (z ≤ℤ most)
count_next bidders most ns z none some (empty, (r, e, few, has)) =
    let is : z ≡ pos r = cc in (
      ap length empty,
      omega (arith, ints, is),
      elim (cases_lt 0 bidders) [
        | inl has_one ↦ omega (arith, ints, is, few, some has_one)
        | inr has_none ↦ elim (cases_lt 0 r) [
          | inl row ↦ absurd (omega (arith, has_none, has row))
          | inr no_row ↦ omega (arith, ints, is, no_row, none (omega (arith, has_none)))
        ]
      ],
    )

-- the last member that is kept
pub last_kept : (bidders : ℕ) (ns out : List ℤ) (count : ℕ) → Keeps ns out count false → Rise bidders (pos 0) ns → 0 < count
    → (get_or out (count - 1) (pos 0) ≡ last_of (pos 0) ns) × (pos 0 ≤ℤ last_of (pos 0) ns)
last_kept bidders [] out count keeps rise some = absurd (omega (arith, keeps.many, some))
last_kept bidders (n ∷ ns) out count keeps rise some =
    let here : length ns ≡ count - 1 = omega (arith, keeps.many) in
    let at : get_or (take count out) (count - 1) (pos 0) ≡ last_of (pos 0) (n ∷ ns) = ap (λ (l : List ℤ). get_or l (count - 1) (pos 0)) (keeps.same refl)
    ∙ ap (λ (i : ℕ). get_or (n ∷ ns) i (pos 0)) (sym here) ∙ last_at (pos 0) n ns (pos 0) in
    (sym (get_or-take count out (count - 1) (pos 0) (omega (arith, some))) ∙ at, last_low bidders (pos 0) (n ∷ ns) (omega (arith, ints)) rise)

-- members are in range
pub members_in : (bidders : ℕ) (ns out : List ℤ) (count : ℕ) (beyond : Bool) → bidders ≤ 65535 → Keeps ns out count beyond → Rise bidders (pos 0) ns
    → beyond ≡ false
members_in bidders ns out count beyond few keeps rise = sym keeps.range ∙ inside (pos 0) ns (omega (arith, ints)) rise
  where
    inside : (before : ℤ) (ns : List ℤ) → pos 0 ≤ℤ before → Rise bidders before ns → any_out ns ≡ false
    inside before [] low rise = refl
    inside before (pos n ∷ ns) low rise = ap (λ (b : Bool). b || any_out ns) (below n (omega (arith, ints, rise.1, few)))
        ∙ inside (pos n) ns (omega (arith, ints)) rise.2
      where
        below : (n : ℕ) → n ≤ 65535 → is_out (pos n) ≡ false
        below n le = grind (arith, nat_tests, le)
    inside before (negsuc n ∷ ns) low rise = absurd (omega (arith, ints, low, rise.0))

-- whether a line of just these numbers is whole
pub these_whole : (ms ns : List ℤ) → MayBegin (these ms) ns → length ns ≡ length ms → ns ≡ ms
these_whole ms ns (rest, e) same = sym (e ∙ ap (λ (l : List ℤ). ns ++ l) (none rest (omega (arith, ap length e, length-append ns rest, same))) ∙ append-nil ns)
  where
    none : (rest : List ℤ) → length rest ≡ 0 → rest ≡ []
    none [] z = refl
    none (x ∷ rest) z = absurd (omega (arith, z))

-- a line without numbers is whole
pub nothing_whole : (ns : List ℤ) → MayBegin (these []) ns → ns ≡ []
nothing_whole ns begins = these_whole [] ns begins (omega (arith, within_room Nothing ns begins))

-- with one number the line is whole
pub just_whole : (number : ℕ) (ns : List ℤ) (count : ℕ) → length ns ≡ count → MayBegin (these (pos number ∷ [])) ns → nat_eq count 1 ≡ true
    → ns ≡ pos number ∷ []
just_whole number ns count many begins one = these_whole (pos number ∷ []) ns begins
    (let is : count ≡ 1 = grind (arith, nat_tests, one) in omega (arith, many, is))

-- and only then
pub just_one : (number : ℕ) (ns : List ℤ) (count : ℕ) → length ns ≡ count → ns ≡ pos number ∷ [] → nat_eq count 1 ≡ true
just_one number ns count many is = let one : count ≡ 1 = omega (arith, many, ap length is) in grind (arith, nat_tests, one)

-- whether both of two are there
pub two_whole : (m n : ℕ) (ns : List ℤ) (count : ℕ) → length ns ≡ count → MayBegin (these (pos m ∷ pos n ∷ [])) ns → nat_eq count 2 ≡ true
    → ns ≡ pos m ∷ pos n ∷ []
two_whole m n ns count many begins two = these_whole (pos m ∷ pos n ∷ []) ns begins
    (let is : count ≡ 2 = grind (arith, nat_tests, two) in omega (arith, many, is))

-- and only then
pub two_there : (m n : ℕ) (ns : List ℤ) (count : ℕ) → length ns ≡ count → ns ≡ pos m ∷ pos n ∷ [] → nat_eq count 2 ≡ true
two_there m n ns count many is = let two : count ≡ 2 = omega (arith, many, ap length is) in grind (arith, nat_tests, two)

-- what is kept, for equal lists, counts and flags
pub kept_now : (ns out now : List ℤ) (count next : ℕ) (beyond flag : Bool) → Keeps ns out count beyond → out ≡ now → count ≡ next → beyond ≡ flag
    → Keeps ns now next flag
kept_now ns out now count next beyond flag keeps outs counts flags =
    subst (λ (l : List ℤ). Keeps ns l next flag) outs (subst (λ (n : ℕ). Keeps ns out n flag) counts (subst (λ (b : Bool). Keeps ns out count b) flags keeps))
