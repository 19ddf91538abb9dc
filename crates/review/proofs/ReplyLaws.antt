-- What the reply Ok says about an edit.
use Rattle.std.specs.Prelude.{Bool, IsTrue, List, None, Option, Some, [], drop, false, get_or, length, nat_le, nat_lt, not, pos, refl, suc, true}
use Rattle.std.specs.Prelude.{zero, ℕ, ◌&&◌, ◌+◌, ◌-ℤ◌, ◌<◌, ◌^◌, ◌∷◌, ◌≡◌, ◌≤ℤ◌, ◌≤◌}
use Rattle.std.proofs.Common.{inl, inr, subst, arith}
use Rattle.std.proofs.lemmas.Bool.{cases_Bool}
use Rattle.std.proofs.lemmas.Bool.Decides.{nat_tests}
use Rattle.std.proofs.lemmas.Int.{ints}
use Rattle.auction_model.specs.Book.{Book, BookBid, bid_of, bids_of, no_bid}
use Rattle.auction_model.specs.Package.{cost_of, is_within}
use Rattle.auction_model.specs.PackageTests.{first_over, is_empty, is_same}
use Rattle.auction_model.proofs.PackageTestLaws.{first_over-within, is_same-refl, is_same-true}
use Rattle.bid_book.specs.Changes.{CanPut}
use Rattle.bid_book.specs.Kept.{IsBidBook}
use Rattle.review.specs.declared.edit.Edit.{Edit}
use Rattle.review.specs.declared.edit.Edit.TheVariants.{Add, Raise, Remove}
use Rattle.review.specs.declared.edit.EditReply.{EditReply}
use Rattle.review.specs.declared.edit.EditReply.TheVariants as reply
use Rattle.review.specs.Edits.{absent, amount_for, amount_top, below_reserve, edit_bidder, edit_lots, edit_reply, first_refusal, first_reply, full}
use Rattle.review.specs.Edits.{not_higher, present, supply_reply, unfit, unknown, when}

-- the reply, if there is one, isn't Ok
abbrev NeverOk : Option EditReply → Type 0
NeverOk None = Unit {0}
NeverOk (Some r) = r ≡ reply.Ok → ⊥

-- an answer Ok comes after all conditions
ok-step : (o : Option EditReply) (rest : List (Option EditReply)) → NeverOk o → first_reply (o ∷ rest) ≡ reply.Ok → (o ≡ None) × (first_reply rest ≡ reply.Ok)
ok-step None rest never is = (refl, is)
ok-step (Some r) rest never is = absurd (never is)

none-step : (o : Option EditReply) (rest : List (Option EditReply)) → first_refusal (o ∷ rest) ≡ None → (o ≡ None) × (first_refusal rest ≡ None)
none-step None rest is = (refl, is)
none-step (Some r) rest is = absurd (cc is)

never-first : (o : Option EditReply) (rest : List (Option EditReply)) → NeverOk o → NeverOk (first_refusal rest) → NeverOk (first_refusal (o ∷ rest))
never-first None rest own others = others
never-first (Some r) rest own others = own

never-when : (test : Bool) (r : EditReply) → (r ≡ reply.Ok → ⊥) → NeverOk (when test r)
never-when true r other = other
never-when false r other = tt

none-when : (test : Bool) (r : EditReply) → when test r ≡ None → test ≡ false
none-when true r is = absurd (cc is)
none-when false r is = refl

never-supply : (o : Option ℕ) → NeverOk (supply_reply o)
never-supply None = tt
never-supply (Some category) = λ is. cc

none-supply : (o : Option ℕ) → supply_reply o ≡ None → o ≡ None
none-supply None is = refl
none-supply (Some category) is = absurd (cc is)

never-unfit : (book : Book) (j : ℕ) (lots : List ℕ) → NeverOk (unfit book j lots)
never-unfit book j lots =
    never-first (unknown book j) (supply_reply (first_over 1 lots book.supply) ∷ when (is_empty lots) reply.Empty ∷ [])
    (never-when (not (nat_lt 0 j && nat_le j (length book.bidders))) reply.Unknown (λ is. cc))
    (never-first (supply_reply (first_over 1 lots book.supply)) (when (is_empty lots) reply.Empty ∷ []) (never-supply (first_over 1 lots book.supply))
    (never-first (when (is_empty lots) reply.Empty) [] (never-when (is_empty lots) reply.Empty (λ is. cc)) tt))

-- what all edits that have the reply Ok keep
pub record IsFit (book : Book) (j : ℕ) (lots : List ℕ) : Type 0 where
  pub some : 0 < j
  pub known : j ≤ length book.bidders
  pub within : IsTrue (is_within lots book.supply)
  pub lots_some : is_within lots [] ≡ false

known-of : (j n : ℕ) → not (nat_lt 0 j && nat_le j n) ≡ false → (0 < j) × (j ≤ n)
known-of j n is = (grind (arith, nat_tests), grind (arith, nat_tests))

-- if an edit for a package isn't unfit, the bidder is known, and the package is within the supply and not empty
pub fit-of : (book : Book) (j : ℕ) (lots : List ℕ) → unfit book j lots ≡ None → IsFit book j lots
fit-of book j lots is =
    let first = none-step (unknown book j) (supply_reply (first_over 1 lots book.supply) ∷ when (is_empty lots) reply.Empty ∷ []) is in
    let second = none-step (supply_reply (first_over 1 lots book.supply)) (when (is_empty lots) reply.Empty ∷ []) first.1 in
    let third = none-step (when (is_empty lots) reply.Empty) [] second.1 in
    let known = known-of j (length book.bidders) (none-when (not (nat_lt 0 j && nat_le j (length book.bidders))) reply.Unknown first.0) in
    record {
      some = known.0;
      known = known.1;
      within = first_over-within 1 lots book.supply (none-supply (first_over 1 lots book.supply) second.0);
      lots_some = none-when (is_empty lots) reply.Empty third.0;
    }

-- the bid for a package whose amount there is
pub record HasAmount (bids : List BookBid) (lots : List ℕ) (amount : ℕ) : Type 0 where
  pub place : ℕ
  pub inside : place < length bids
  pub own : (get_or bids place no_bid).lots ≡ lots
  pub is : (get_or bids place no_bid).amount ≡ amount

-- if there is an amount for a package, one of the bids has this package and this amount
pub amount-bid : (bids : List BookBid) (lots : List ℕ) (amount : ℕ) → amount_for lots bids ≡ Some amount → HasAmount bids lots amount
amount-bid [] lots amount is = absurd (cc is)
amount-bid (b ∷ bids) lots amount is =
    elim (cases_Bool (is_same b.lots lots)) [
      | inl same ↦ let here : Some b.amount ≡ Some amount = rw same at is in record
          { place = 0; inside = omega arith; own = is_same-true b.lots lots same; is = cc (here) }
      | inr apart ↦
          let rest = amount-bid bids lots amount (rw apart at is) in
          record { place = suc rest.place; inside = omega (arith, rest.inside); own = rest.own; is = rest.is }
    ]

never-present : (o : Option ℕ) → NeverOk (present o)
never-present None = tt
never-present (Some amount) = λ is. cc

never-absent : (o : Option ℕ) → NeverOk (absent o)
never-absent None = λ is. cc
never-absent (Some amount) = tt

never-not_higher : (amount : ℕ) (o : Option ℕ) → NeverOk (not_higher amount o)
never-not_higher amount None = tt
never-not_higher amount (Some was) = never-when (nat_le amount was) (reply.NotHigher was) (λ is. cc)

at-least : (amount reserve : ℕ) → nat_lt amount reserve ≡ false → reserve ≤ amount
at-least amount reserve is = grind (arith, nat_tests)

below-top : (n most : ℕ) → nat_le most n ≡ false → n < most
below-top n most is = grind (arith, nat_tests)

-- an edit that adds a bid
pub add-can : (book : Book) (j : ℕ) (lots : List ℕ) (amount : ℕ) → length lots ≡ length book.supply → edit_reply book (Add j lots amount) ≡ reply.Ok
    → CanPut book j (record { lots = lots; amount = amount })
add-can book j lots amount categories is =
    let bids = bids_of book j in
    let s1 = ok-step (unfit book j lots) (present (amount_for lots bids) ∷ below_reserve book lots amount ∷ amount_top amount ∷ full bids ∷ [])
    (never-unfit book j lots) is in
    let s2 = ok-step (present (amount_for lots bids)) (below_reserve book lots amount ∷ amount_top amount ∷ full bids ∷ [])
    (never-present (amount_for lots bids)) s1.1 in
    let s3 = ok-step (below_reserve book lots amount) (amount_top amount ∷ full bids ∷ [])
    (never-when (nat_lt amount (cost_of book.reserves lots)) (reply.BelowReserve (cost_of book.reserves lots)) (λ e. cc)) s2.1 in
    let s4 = ok-step (amount_top amount) (full bids ∷ []) (never-when (nat_lt (2 ^ 42) amount) (reply.AmountTop (2 ^ 42)) (λ e. cc)) s3.1 in
    let s5 = ok-step (full bids) [] (never-when (nat_le 600 (length bids)) (reply.Full 600) (λ e. cc)) s4.1 in
    let fit = fit-of book j lots s1.0 in
    record {
      some = fit.some;
      known = fit.known;
      categories = categories;
      within = fit.within;
      lots = fit.lots_some;
      reserve = at-least amount (cost_of book.reserves lots) (none-when (nat_lt amount (cost_of book.reserves lots))
          (reply.BelowReserve (cost_of book.reserves lots)) s3.0);
      top = at-least (2 ^ 42) amount (none-when (nat_lt (2 ^ 42) amount) (reply.AmountTop (2 ^ 42)) s4.0);
      room = inr (below-top (length bids) 600 (none-when (nat_le 600 (length bids)) (reply.Full 600) s5.0));
    }

-- the amount of the bid, if it isn't absent
absent-none : (o : Option ℕ) → absent o ≡ None → (was : ℕ) × (o ≡ Some was)
absent-none None is = absurd (cc is)
absent-none (Some was) is = (was, refl)

higher-of : (amount was : ℕ) → not_higher amount (Some was) ≡ None → was < amount
higher-of amount was is = below-top was amount (none-when (nat_le amount was) (reply.NotHigher was) is)

net-low : (a r : ℕ) → pos 0 ≤ℤ (pos a -ℤ pos r) → r ≤ a
net-low a r low = omega (arith, ints)

-- an edit that raises a bid
pub raise-can : (book : Book) (j : ℕ) (lots : List ℕ) (amount : ℕ) → IsBidBook book → length lots ≡ length book.supply
    → edit_reply book (Raise j lots amount) ≡ reply.Ok → CanPut book j (record { lots = lots; amount = amount })
raise-can book j lots amount kept categories is =
    let bids = bids_of book j in
    let s1 = ok-step (unfit book j lots) (absent (amount_for lots bids) ∷ not_higher amount (amount_for lots bids) ∷ amount_top amount ∷ [])
    (never-unfit book j lots) is in
    let s2 = ok-step (absent (amount_for lots bids)) (not_higher amount (amount_for lots bids) ∷ amount_top amount ∷ [])
    (never-absent (amount_for lots bids)) s1.1 in
    let s3 = ok-step (not_higher amount (amount_for lots bids)) (amount_top amount ∷ []) (never-not_higher amount (amount_for lots bids)) s2.1 in
    let s4 = ok-step (amount_top amount) [] (never-when (nat_lt (2 ^ 42) amount) (reply.AmountTop (2 ^ 42)) (λ e. cc)) s3.1 in
    let fit = fit-of book j lots s1.0 in
    let has = absent-none (amount_for lots bids) s2.0 in
    let bid = amount-bid bids lots has.0 has.1 in
    let higher : has.0 < amount = higher-of amount has.0 (subst (λ (o : Option ℕ). not_higher amount o ≡ None) has.1 s3.0) in
    let low : cost_of book.reserves (get_or bids bid.place no_bid).lots ≤ (get_or bids bid.place no_bid).amount =
    net-low (get_or bids bid.place no_bid).amount (cost_of book.reserves (get_or bids bid.place no_bid).lots)
    (kept.not_negative j (suc bid.place) (omega (arith, bid.inside))) in
    let own_low : cost_of book.reserves lots ≤ has.0 = rw (bid.own, bid.is) at low in
    record {
      some = fit.some;
      known = fit.known;
      categories = categories;
      within = fit.within;
      lots = fit.lots_some;
      reserve = omega (arith, own_low, higher);
      top = at-least (2 ^ 42) amount (none-when (nat_lt (2 ^ 42) amount) (reply.AmountTop (2 ^ 42)) s4.0);
      room = inl (suc bid.place, record { some = omega arith; known = omega (arith, bid.inside); own = bid.own });
    }

-- an edit that takes a bid out
pub remove-has : (book : Book) (j : ℕ) (lots : List ℕ) → edit_reply book (Remove j lots) ≡ reply.Ok → IsFit book j lots
    × ((was : ℕ) × (amount_for lots (bids_of book j) ≡ Some was))
remove-has book j lots is =
    let s1 = ok-step (unfit book j lots) (absent (amount_for lots (bids_of book j)) ∷ []) (never-unfit book j lots) is in
    let s2 = ok-step (absent (amount_for lots (bids_of book j))) [] (never-absent (amount_for lots (bids_of book j))) s1.1 in
    (fit-of book j lots s1.0, absent-none (amount_for lots (bids_of book j)) s2.0)

-- ---- the bid for a package, number by number

-- of the bids from the one for a package on, the amount for it is that of this bid
pub amount-found : (lots : List ℕ) (bids : List BookBid) (i : ℕ) → i < length bids → (get_or bids i no_bid).lots ≡ lots
    → amount_for lots (drop i bids) ≡ Some (get_or bids i no_bid).amount
amount-found lots [] i inside own = absurd (omega (arith, inside))
amount-found lots (b ∷ bids) zero inside own =
    let same : is_same b.lots lots ≡ true = subst (λ (x : List ℕ). is_same b.lots x ≡ true) own (is_same-refl b.lots) in
    rw same refl
amount-found lots (b ∷ bids) (suc i) inside own = amount-found lots bids i (omega (arith, inside)) own

-- past a bid for another package the amount for this one is that of the bids after
pub amount-passed : (lots : List ℕ) (bids : List BookBid) (i : ℕ) → i < length bids → ((get_or bids i no_bid).lots ≡ lots → ⊥)
    → amount_for lots (drop i bids) ≡ amount_for lots (drop (suc i) bids)
amount-passed lots [] i inside other = absurd (omega (arith, inside))
amount-passed lots (b ∷ bids) zero inside other =
    elim (cases_Bool (is_same b.lots lots)) [
      | inl same ↦ absurd (other (is_same-true b.lots lots same))
      | inr apart ↦ rw apart refl
    ]
amount-passed lots (b ∷ bids) (suc i) inside other = amount-passed lots bids i (omega (arith, inside)) other

-- the bid of the next number
pub bid-next : (book : Book) (j i : ℕ) → bid_of book j (i + 1) ≡ get_or (bids_of book j) i no_bid
bid-next book j i = let up : i + 1 ≡ suc i = omega arith in rw up refl

-- each edit that has the reply Ok
pub edit-fit : (book : Book) (edit : Edit) → edit_reply book edit ≡ reply.Ok → IsFit book (edit_bidder edit) (edit_lots edit)
edit-fit book (Add j lots amount) is = fit-of book j lots (ok-step (unfit book j lots)
    (present (amount_for lots (bids_of book j)) ∷ below_reserve book lots amount ∷ amount_top amount ∷ full (bids_of book j) ∷ [])
    (never-unfit book j lots) is).0
edit-fit book (Raise j lots amount) is = fit-of book j lots (ok-step (unfit book j lots)
    (absent (amount_for lots (bids_of book j)) ∷ not_higher amount (amount_for lots (bids_of book j)) ∷ amount_top amount ∷ []) (never-unfit book j lots) is).0
edit-fit book (Remove j lots) is = fit-of book j lots (ok-step (unfit book j lots) (absent (amount_for lots (bids_of book j)) ∷ [])
    (never-unfit book j lots) is).0
