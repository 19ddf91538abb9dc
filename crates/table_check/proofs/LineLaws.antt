-- The rules of a line, from those of its bids.
use Rattle.std.specs.Prelude.{◌≡◌, ℕ, ◌+◌, ◌-◌, ◌<◌, IsTrue, List, length, take, ℤ, ◌+ℤ◌, ◌≤ℤ◌}
use Rattle.std.proofs.Common.{inl, inr, sym, ◌∙◌, ap, subst, arith}
use Rattle.std.proofs.lemmas.Bool.{cases_lt}
use Rattle.std.proofs.lemmas.Int.{ints}
use Rattle.auction_model.specs.Package.{IsNothingFrom, is_within, less}
use Rattle.auction_model.specs.Place.{left_at, place_of, states_of}
use Rattle.auction_model.specs.Book.{lots_of}
use Rattle.auction_model.proofs.PlaceLaws.{place-less}
use Rattle.auction_model.proofs.TrimLaws.{trim-place, trim-within}
use Rattle.cert_soundness.specs.Tests.{states}
use Rattle.table_check.specs.Block.{IsBlock}
use Rattle.table_check.specs.Corners.{KeepsBlock}
use Rattle.table_check.specs.Faults.{FirstFault}
use Rattle.wide_num.specs.Sums.{nth}
use Rattle.table_check.specs.LineTests.{worth_of, KeepsBid, KeepsSome}
use Rattle.table_check.specs.declared.offers.TestedBids.{TestedBids}
use Rattle.table_check.proofs.BlockLaws.{fault-same, fault-none, fault-both}

-- what a bid asks of a block, by the parts of its rule
abbrev pub AsksOf : List ℤ → List ℤ → ℕ → ℤ → List ℕ → List ℕ → ℕ → Type 0
AsksOf line below shift worth supply lots s =
    (n : ℕ) → n < states_of supply → s ≡ 0 + n → IsTrue (is_within lots (left_at supply n)) → (worth +ℤ nth below (s - shift)) ≤ℤ nth line s

-- the rule of a bid, tested block by block
pub block-bid : (o : TestedBids) (j i : ℕ) (line below : List ℤ) (worth : ℤ) (supply lots radices spans counts : List ℕ) (shift until r : ℕ)
    → IsBlock radices spans counts shift → radices ≡ supply → counts ≡ take (length counts) lots → IsNothingFrom (length counts) lots
    → supply ≡ o.book.now.supply → lots ≡ lots_of o.book.now j i → worth ≡ worth_of o j i
    → FirstFault (AsksOf line below shift worth radices counts) until r → FirstFault (KeepsBid o j line below i) until r
block-bid o j i line below worth supply lots radices spans counts shift until r is r_is c_is nothing s_is l_is worth_is f =
    fault-same (AsksOf line below shift worth radices counts) (KeepsBid o j line below i) until r to from f
  where
    supply_is : radices ≡ o.book.now.supply
    supply_is = r_is ∙ s_is

    fitting : (n : ℕ) → is_within counts (left_at radices n) ≡ is_within (lots_of o.book.now j i) (left_at o.book.now.supply n)
    fitting n = ap (λ (l : List ℕ). is_within l (left_at radices n)) c_is ∙ trim-within (length counts) lots (left_at radices n) nothing
        ∙ ap (λ (l : List ℕ). is_within l (left_at radices n)) l_is ∙ ap (λ (l : List ℕ). is_within (lots_of o.book.now j i) (left_at l n)) supply_is

    place : shift ≡ place_of o.book.now.supply (lots_of o.book.now j i)
    place = is.place ∙ ap (place_of radices) c_is ∙ trim-place (length counts) radices lots nothing ∙ ap (place_of radices) l_is
        ∙ ap (λ (l : List ℕ). place_of l (lots_of o.book.now j i)) supply_is

    rest : (n : ℕ) → n < states o.book.now → IsTrue (is_within (lots_of o.book.now j i) (left_at o.book.now.supply n))
        → nth below (n - shift) ≡ nth below (place_of o.book.now.supply (less (left_at o.book.now.supply n) (lots_of o.book.now j i)))
    rest n lt fits = ap (nth below) (omega (arith, place-less o.book.now.supply (lots_of o.book.now j i) n lt fits, place))

    to : (n : ℕ) → AsksOf line below shift worth radices counts n → KeepsBid o j line below i n
    to n block lt fits =
        let c = block n (subst (λ (l : List ℕ). n < states_of l) (sym supply_is) lt) (omega arith) (fitting n ∙ fits) in
        let e = rest n lt fits in
        omega (arith, ints, c, e, worth_is)

    from : (n : ℕ) → KeepsBid o j line below i n → AsksOf line below shift worth radices counts n
    from n keeps m lt is fits =
        let same : m ≡ n = omega (arith, is) in
        let lt' : n < states o.book.now = subst (λ (l : List ℕ). n < states_of l) supply_is (omega (arith, lt, same)) in
        let fits' = sym (fitting n) ∙ subst (λ (x : ℕ). IsTrue (is_within counts (left_at radices x))) same fits in
        let c = keeps lt' fits' in
        let e = rest n lt' fits' in
        omega (arith, ints, c, e, worth_is)

-- the rule of a bid, seen to hold at once
pub kept-bid : (o : TestedBids) (j i : ℕ) (line below : List ℤ) (worth : ℤ) (supply lots : List ℕ) → supply ≡ o.book.now.supply
    → lots ≡ lots_of o.book.now j i → worth ≡ worth_of o j i → KeepsBlock supply lots line below worth → (s : ℕ) → KeepsBid o j line below i s
kept-bid o j i line below worth supply lots s_is l_is worth_is keeps s low fits =
    let all = o.book.now.supply in
    let own = lots_of o.book.now j i in
    let block : KeepsBlock all own line below worth =
    subst (λ (p : List ℕ). KeepsBlock all p line below worth) l_is (subst (λ (p : List ℕ). KeepsBlock p lots line below worth) s_is keeps) in
    let place : s - place_of all own ≡ place_of all (less (left_at all s) own) = omega (arith, place-less all own s low fits) in
    let rest : nth below (s - place_of all own) ≡ nth below (place_of all (less (left_at all s) own)) = ap (nth below) place in
    let here = block s low fits in
    omega (arith, ints, here, rest, worth_is)

-- one bid more
pub line-more : (o : TestedBids) (j : ℕ) (line below : List ℤ) (k stop e r : ℕ) → FirstFault (KeepsSome o j line below k) stop e → FirstFault
    (KeepsBid o j line below (k + 1)) e r
    → FirstFault (KeepsSome o j line below (k + 1)) stop r
line-more o j line below k stop e r f g =
    fault-both (KeepsSome o j line below k) (KeepsBid o j line below (k + 1)) (KeepsSome o j line below (k + 1)) stop e r
    (λ s front own. record {
      none = front.none;
      bid = λ i some few. elim (cases_lt i (k + 1)) [
        | inl earlier ↦ front.bid i some (omega (arith, earlier))
        | inr here ↦ (let last : k + 1 ≡ i = omega (arith, few, here) in subst (λ (x : ℕ). KeepsBid o j line below x s) last own)
      ];
    })
    (λ s all. record { none = all.none; bid = λ i some few. all.bid i some (omega (arith, few)) })
    (λ s all. all.bid (k + 1) (omega arith) (omega arith)) f g

-- one bid more, which is seen to hold
pub line-kept : (o : TestedBids) (j : ℕ) (line below : List ℤ) (k stop e : ℕ) → FirstFault (KeepsSome o j line below k) stop e
    → ((s : ℕ) → KeepsBid o j line below (k + 1) s) → FirstFault (KeepsSome o j line below (k + 1)) stop e
line-kept o j line below k stop e f kept = line-more o j line below k stop e e f (fault-none (KeepsBid o j line below (k + 1)) e kept)
