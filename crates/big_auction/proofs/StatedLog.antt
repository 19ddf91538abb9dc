-- A record can state each line of a made log.
use Rattle.std.proofs.Common.{ℕ, zero, suc, ◌+◌, ◌-◌, ◌*◌, ◌<◌, ◌≤◌, List, [], ◌∷◌, ◌++◌, refl, sym, ap, subst, inl, inr, arith}
use Rattle.std.specs.Prelude.{flat_map, nat_le}
use Rattle.std.specs.List.{AllByRecursion}
use Rattle.std.proofs.lemmas.Bool.{cases_Bool, cases_lt}
use Rattle.auction_rules.specs.declared.Event.{Event}
use Rattle.auction_rules.specs.declared.Event.TheVariants.{Bid, Close, Submit}
use Rattle.auction_rules.specs.Rounds.{OwnRound, listing}
use Rattle.auction_rules.specs.Terms.{Entrant, no_lots}
use Rattle.award_file.proofs.Names.{number-only}
use Rattle.log_file.specs.LogForm.{AreCounts, IsNameOf}
use Rattle.log_file.specs.LogText.{IsStatable}
use Rattle.big_auction.specs.Draws.{advanced, drawn, drawn_package, first_state}
use Rattle.big_auction.specs.MadeAward.{made_name, made_terms}
use Rattle.big_auction.specs.MadeLog.{bids_of, clock_lines, drawn_draft, drawn_drafts, draws_before, final_package_of, final_prices, held_by}
use Rattle.big_auction.specs.MadeLog.{last_draft, lines_of, made_log, package_of, reduced, round_lines, staying}
use Rattle.big_auction.proofs.AwardLaw.{IsAward-made_terms, entrant-lawful}
use Rattle.big_auction.proofs.Drawing.{IsOwn, IsOwn-package_of, drawn-below}
use Rattle.big_auction.proofs.MadeClock.{bidding, held-early, held-last, is-entrant, leaves, stays}
use Rattle.big_auction.proofs.MadeLines.{flat-more}
use Rattle.big_auction.proofs.Offers.{IsBidding, drawn-own, due-drawn, due-last, reduced-own}

abbrev IsLine : Event → Type 0
IsLine e = IsStatable made_terms made_name e

-- ---- lists of lines

each-both : (xs ys : List Event) → AllByRecursion IsLine xs → AllByRecursion IsLine ys → AllByRecursion IsLine (xs ++ ys)
each-both [] ys first second = second
each-both (e ∷ xs) ys first second = (first.0, each-both xs ys first.1 second)

each-listed : (f : ℕ → Event) (n : ℕ) → ((i : ℕ) → i < n → IsLine (f (suc i))) → AllByRecursion IsLine (listing f n)
each-listed f zero is = tt
each-listed f (suc n) is = each-both (listing f n) (f (suc n) ∷ []) (each-listed f n (λ i low. is i (omega arith))) (is n (omega arith), tt)

each-flat : (f : ℕ → List Event) (n : ℕ) → ((i : ℕ) → i < n → AllByRecursion IsLine (f (suc i)))
    → AllByRecursion IsLine (flat_map f (listing (λ k. k) n))
each-flat f zero is = tt
each-flat f (suc n) is =
    subst (AllByRecursion IsLine) (sym (flat-more f n))
    (each-both (flat_map f (listing (λ k. k) n)) (f (suc n)) (each-flat f n (λ i low. is i (omega arith))) (is n (omega arith)))

-- ---- bidders and packages

-- the bidders 1 to 12 have their names in the award
named : (k : ℕ) → 1 ≤ k → k ≤ 12 → IsNameOf made_terms k (made_name k)
named k some few =
    let own = ap (λ (e : Entrant). e.name) (is-entrant k some few) in
    ((entrant-lawful k (omega (arith, few))).name, sym (number-only made_terms.bidders (made_name k) k IsAward-made_terms.apart some few own))

own-counts : (lots : List ℕ) → IsOwn lots → AreCounts 4 lots
own-counts lots own =
    rw own.are (refl, (omega (arith, own.few_a), (omega (arith, own.few_b), (omega (arith, own.few_c), (omega (arith, own.few_e), tt)))))

no-counts : AreCounts 4 (no_lots made_terms)
no-counts = (refl, (omega arith, (omega arith, (omega arith, (omega arith, tt)))))

final-counts : (number k : ℕ) → AreCounts 4 (final_package_of number k)
final-counts number k =
    let own : List ℕ = package_of number k in
    elim (cases_lt 4 k) [
      | inl more ↦ subst (AreCounts 4) (sym (leaves number k more)) no-counts
      | inr few ↦ subst (AreCounts 4) (sym (stays number k few)) (own-counts (reduced own) (reduced-own own (IsOwn-package_of number k)))
    ]

held-counts : (number r k : ℕ) → AreCounts 4 (held_by number r k)
held-counts number r k =
    elim (cases_lt 9 r) [
      | inl late ↦ subst (AreCounts 4) (sym (held-last number r k late)) (final-counts number k)
      | inr early ↦ subst (AreCounts 4) (sym (held-early number r k early)) (own-counts (package_of number k) (IsOwn-package_of number k))
    ]

-- ---- the clock

bids-stated : (number r n : ℕ) → n ≤ 12 → AllByRecursion IsLine (bids_of number r n)
bids-stated number r n few =
    each-listed (λ k. Bid k (held_by number r k)) n (λ i low. (named (suc i) (omega arith) (omega arith), held-counts number r (suc i)))

clock-stated : (number : ℕ) → AllByRecursion IsLine (clock_lines number)
clock-stated number =
    each-both (flat_map (round_lines number) (listing (λ r. r) 9)) (bids_of number 10 4 ++ Close ∷ [])
    (each-flat (round_lines number) 9 (λ i low. each-both (bids_of number (suc i) 12) (Close ∷ []) (bids-stated number (suc i) 12 (omega arith)) (tt, tt)))
    (each-both (bids_of number 10 4) (Close ∷ []) (bids-stated number 10 4 (omega arith)) (tt, tt))

-- ---- the sealed round

module _ (rounds : List OwnRound) (prices own final : List ℕ) (k : ℕ) (some : 1 ≤ k) (few : k ≤ 12) (bids : IsBidding rounds prices own final k) where
  drafts-stated : (state n : ℕ) → AllByRecursion IsLine (drawn_drafts state prices k own final n)
  unfolding drawn_drafts
  drafts-stated state n =
      each-listed (λ i. drawn_draft (advanced state (5 * (i - 1))) prices k own final) n
      (λ i low.
      let x : ℕ = advanced state (5 * (suc i - 1)) in
      let share : ℕ = 500 + drawn x 5 501 in
      let permille : share ≤ 1000 = omega (arith, drawn-below x 5 501 (omega arith)) in
      let due = due-drawn rounds prices own final k x share permille bids in
      (named k some few, own-counts (drawn_package x own) (drawn-own x own bids.kind), omega (arith, due.top)))

  last-stated : (state : ℕ) → AllByRecursion IsLine (last_draft state prices k final)
  last-stated state =
      elim (cases_Bool (nat_le k staying)) [
        | inl stay ↦
            let more : drawn state 1 1000 < 1000 = drawn-below state 1 1000 (omega arith) in
            let due = due-last rounds prices own final k (drawn state 1 1000) more stay bids in
            let counts : AreCounts 4 final = subst (AreCounts 4) (sym (bids.stays stay)) (own-counts (reduced own) (reduced-own own bids.kind)) in
            rw stay ((named k some few, counts, omega (arith, due.top)), tt)
        | inr go ↦ rw go tt
      ]

  part-stated : (state : ℕ)
      → AllByRecursion IsLine (drawn_drafts state prices k own final 100 ++ (last_draft (advanced state 500) prices k final ++ Submit k ∷ []))
  part-stated state =
      each-both (drawn_drafts state prices k own final 100) (last_draft (advanced state 500) prices k final ++ Submit k ∷ []) (drafts-stated state 100)
      (each-both (last_draft (advanced state 500) prices k final) (Submit k ∷ []) (last-stated (advanced state 500)) (named k some few, tt))

lines-stated : (number k : ℕ) → 1 ≤ k → k ≤ 12 → AllByRecursion IsLine (lines_of number k)
unfolding lines_of
lines-stated number k some few =
    part-stated _ (final_prices number) (package_of number k) (final_package_of number k) k some few (bidding number k some few)
    (advanced (first_state number) (draws_before k))

-- a record can state each line of the log of a number
pub log-stated : (number : ℕ) → AllByRecursion IsLine (made_log number)
unfolding made_log
log-stated number =
    let sealed : List Event = flat_map (lines_of number) (listing (λ k. k) 12) in
    each-both (clock_lines number) (sealed ++ Close ∷ []) (clock-stated number)
    (each-both sealed (Close ∷ []) (each-flat (lines_of number) 12 (λ i low. lines-stated number (suc i) (omega arith) (omega arith))) (tt, tt))
