-- The lines of one bidder in the sealed round of a made auction.
use Rattle.std.proofs.Common.{Bool, List, None, Option, [], ap, arith, false, get_or, inl, inr, length, map, not, refl, set, subst, suc, sym, ℕ, ◌&&◌}
use Rattle.std.proofs.Common.{◌++◌, ◌-◌, ◌<◌, ◌∙◌, ◌∷◌, ◌≡◌, ◌≤◌}
use Rattle.std.specs.Prelude.{nat_le, nat_lt, slice_index}
use Rattle.std.specs.List.{AllByRecursion}
use Rattle.std.proofs.lemmas.Bool.{cases_eq, le-ltb, lt-leb, and_right}
use Rattle.std.proofs.lemmas.List.{get_or-set_same, get_or-set_other, length-set}
use Rattle.limits.specs.declared.TheConstants.{MOST_AMOUNT}
use Rattle.auction_model.specs.Book.{BookBid}
use Rattle.auction_model.specs.Package.{cost_of}
use Rattle.auction_rules.specs.declared.Event.TheVariants.{Draft, Submit}
use Rattle.auction_rules.specs.declared.Reply.{Reply}
use Rattle.auction_rules.specs.declared.Reply.TheVariants as reply
use Rattle.auction_model.specs.PackageTests.{first_over, is_empty}
use Rattle.auction_rules.specs.Terms.{entrant}
use Rattle.auction_rules.specs.Rounds.{OwnRound}
use Rattle.auction_rules.specs.Caps.{clock_bid, greatest, list_fault}
use Rattle.auction_model.specs.Entries.{with_entry}
use Rattle.auction_rules.specs.Replies.{cap_reply, first_reply, has_entry, supply_reply, when}
use Rattle.auction_rules.specs.State.{DeskState, Round, own_of, reply_in, taken}
use Rattle.big_auction.specs.MadeAward.{made_terms}
use Rattle.big_auction.proofs.Caps.{IsFair, no-fault, each-with_entry, length-with_entry}
use Rattle.big_auction.proofs.ClockRounds.{sealed_state}
use Rattle.big_auction.proofs.Forward.{Goes, goes-one}

-- if no condition holds, the reply is Ok
none-holds : (replies : List (Option Reply)) → AllByRecursion (λ (r : Option Reply). r ≡ None) replies → first_reply replies ≡ reply.Ok
none-holds [] none = refl
none-holds (r ∷ replies) none = rw none.0 (none-holds replies none.1)

-- an entry of a package with a lot of the first category
abbrev pub HasLot : BookBid → Type 0
HasLot b = 1 ≤ slice_index b.lots 0

-- a bidder of the award
pub record IsKnown (k : ℕ) : Type 0 where
  pub known : not (nat_lt 0 k && nat_le k 12) ≡ false
  pub few : k - 1 < 12
  pub some : 1 ≤ k
  pub eligible : (entrant made_terms k).eligibility ≡ 73

-- the rounds of a bidder, by the last one
pub record HasRounds (rounds : List OwnRound) (last : OwnRound) : Type 0 where
  pub before : List OwnRound
  pub are : rounds ≡ before ++ last ∷ []

-- a draft that has the reply Ok, and that may be submitted
pub record IsDue (rounds : List OwnRound) (last : OwnRound) (lots : List ℕ) (amount : ℕ) : Type 0 where
  pub within : first_over 1 lots made_terms.supply ≡ None
  pub points : cost_of made_terms.points lots ≤ 73
  pub some : is_empty lots ≡ false
  pub reserve : cost_of made_terms.reserves lots ≤ amount
  pub clock : greatest lots (map clock_bid rounds) ≤ amount
  pub top : amount ≤ MOST_AMOUNT
  pub fair : IsFair last (record { lots = lots; amount = amount })
  pub lot : 1 ≤ slice_index lots 0

-- between the parts of bidders: those after k have no drafts yet
pub record Between (rounds : List Round) (prices eligibility : List ℕ) (held : List (List ℕ)) (k : ℕ) (s : DeskState) : Type 0 where
  pub drafts : List (List BookBid)
  pub submitted : List (List BookBid)
  pub is : s ≡ sealed_state rounds prices eligibility held drafts submitted
  pub long : length drafts ≡ 12
  pub fresh : (j : ℕ) → k ≤ j → get_or drafts j [] ≡ []
  pub lots : (j : ℕ) → AllByRecursion HasLot (get_or drafts j [])
  pub long_submitted : length submitted ≡ 12
  pub lots_submitted : (j : ℕ) → AllByRecursion HasLot (get_or submitted j [])

-- within the part of bidder k, which has that many drafts at most
pub record Within (rounds : List Round) (prices eligibility : List ℕ) (held : List (List ℕ)) (last : OwnRound) (k n : ℕ) (s : DeskState) : Type 0 where
  pub drafts : List (List BookBid)
  pub submitted : List (List BookBid)
  pub is : s ≡ sealed_state rounds prices eligibility held drafts submitted
  pub long : length drafts ≡ 12
  pub few : length (get_or drafts (k - 1) []) ≤ n
  pub fair : AllByRecursion (IsFair last) (get_or drafts (k - 1) [])
  pub fresh : (j : ℕ) → k ≤ j → get_or drafts j [] ≡ []
  pub lots : (j : ℕ) → AllByRecursion HasLot (get_or drafts j [])
  pub long_submitted : length submitted ≡ 12
  pub lots_submitted : (j : ℕ) → AllByRecursion HasLot (get_or submitted j [])

-- the part of a bidder begins
pub begins : (rounds : List Round) (prices eligibility : List ℕ) (held : List (List ℕ)) (last : OwnRound) (k : ℕ) (s : DeskState) → 1 ≤ k
    → Between rounds prices eligibility held (k - 1) s → Within rounds prices eligibility held last k 0 s
begins rounds prices eligibility held last k s some b =
    let none : get_or b.drafts (k - 1) [] ≡ [] = b.fresh (k - 1) (omega arith) in
    record {
      drafts = b.drafts;
      submitted = b.submitted;
      is = b.is;
      long = b.long;
      few = rw none (omega arith);
      fair = rw none tt;
      fresh = λ j high. b.fresh j (omega arith);
      lots = b.lots;
      long_submitted = b.long_submitted;
      lots_submitted = b.lots_submitted;
    }

each-set : (P : BookBid → Type 0) (lists : List (List BookBid)) (i : ℕ) (list : List BookBid) → i < length lists → AllByRecursion P list
    → ((j : ℕ) → AllByRecursion P (get_or lists j []))
    → (j : ℕ) → AllByRecursion P (get_or (set lists i list) j [])
each-set P lists i list low new each j =
    elim (cases_eq j i) [
      | inl same ↦ subst (AllByRecursion P) (sym (ap (λ (m : ℕ). get_or (set lists i list) m []) same ∙ get_or-set_same lists i list [] low)) new
      | inr other ↦ subst (AllByRecursion P) (sym (get_or-set_other lists i j list [] other)) (each j)
    ]

-- one draft
pub draft-goes : (rounds : List Round) (prices eligibility : List ℕ) (held : List (List ℕ)) (last : OwnRound) (k n : ℕ) (lots : List ℕ) (amount : ℕ)
    (s : DeskState) → IsKnown k
    → n < 300 → IsDue (map (own_of k) rounds) last lots amount → Within rounds prices eligibility held last k n s
    → Goes s (Draft k lots amount ∷ []) (Within rounds prices eligibility held last k (suc n))
draft-goes rounds prices eligibility held last k n lots amount s known few due w =
    let own : List BookBid = get_or w.drafts (k - 1) [] in
    let low : k - 1 < length w.drafts = omega (arith, known.few, w.long) in
    let st : DeskState = sealed_state rounds prices eligibility held w.drafts w.submitted in
    let clock : ℕ = greatest lots (map clock_bid (map (own_of k) rounds)) in
    let ok : reply_in st (Draft k lots amount) ≡ reply.Ok =
    none-holds (when false reply.Stage ∷ when (not (nat_lt 0 k && nat_le k 12)) reply.Unknown ∷ supply_reply (first_over 1 lots made_terms.supply) ∷ None
    ∷ when (nat_lt (entrant made_terms k).eligibility (cost_of made_terms.points lots)) (reply.Points (entrant made_terms k).eligibility)
    ∷ when (is_empty lots) reply.Empty ∷ when (nat_lt amount (cost_of made_terms.reserves lots)) (reply.BelowReserve (cost_of made_terms.reserves lots))
    ∷ when (nat_lt amount clock) (reply.BelowClock clock) ∷ when (not (has_entry lots own) && nat_le 300 (length own)) (reply.Full 300)
    ∷ when (nat_lt MOST_AMOUNT amount) (reply.AmountTop MOST_AMOUNT) ∷ []) (
      refl,
      (
        ap (λ (b : Bool). when b reply.Unknown) known.known,
        (
          ap supply_reply due.within,
          (
            refl,
            (
              ap (λ (b : Bool). when b (reply.Points (entrant made_terms k).eligibility)) (le-ltb _ _ (omega (arith, due.points, known.eligible))),
              (
                ap (λ (b : Bool). when b reply.Empty) due.some,
                (
                  ap (λ (b : Bool). when b (reply.BelowReserve (cost_of made_terms.reserves lots))) (le-ltb _ _ due.reserve),
                  (
                    ap (λ (b : Bool). when b (reply.BelowClock clock)) (le-ltb _ _ due.clock),
                    (
                      ap (λ (b : Bool). when b (reply.Full 300)) (and_right (not (has_entry lots own)) (nat_le 300 (length own))
                          (lt-leb _ _ (omega (arith, w.few, few)))),
                      (ap (λ (b : Bool). when b (reply.AmountTop MOST_AMOUNT)) (le-ltb _ _ due.top), tt),
                    ),
                  ),
                ),
              ),
            ),
          ),
        ),
      ),
    ) in
    let here : get_or (set w.drafts (k - 1) (with_entry lots amount own)) (k - 1) [] ≡ with_entry lots amount own =
    get_or-set_same w.drafts (k - 1) (with_entry lots amount own) [] low in
    let next : Within rounds prices eligibility held last k (suc n) (taken st (Draft k lots amount)) = record {
      drafts = set w.drafts (k - 1) (with_entry lots amount own);
      submitted = w.submitted;
      is = refl;
      long = length-set w.drafts (k - 1) (with_entry lots amount own) ∙ w.long;
      few = rw here (omega (arith, length-with_entry lots amount own, w.few));
      fair = subst (AllByRecursion (IsFair last)) (sym here) (each-with_entry (IsFair last) lots amount own w.fair due.fair);
      fresh = λ j high. get_or-set_other w.drafts (k - 1) j (with_entry lots amount own) [] (omega (arith, known.some)) ∙ w.fresh j high;
      lots = each-set HasLot w.drafts (k - 1) (with_entry lots amount own) low (each-with_entry HasLot lots amount own (w.lots (k - 1)) due.lot) w.lots;
      long_submitted = w.long_submitted;
      lots_submitted = w.lots_submitted;
    } in
    subst (λ (s : DeskState). Goes s (Draft k lots amount ∷ []) (Within rounds prices eligibility held last k (suc n))) (sym w.is)
    (goes-one st (Draft k lots amount) (Within rounds prices eligibility held last k (suc n)) ok next)

-- the submission, with which the part ends
pub submit-goes : (rounds : List Round) (prices eligibility : List ℕ) (held : List (List ℕ)) (last : OwnRound) (k n : ℕ) (s : DeskState) → IsKnown k
    → HasRounds (map (own_of k) rounds) last → Within rounds prices eligibility held last k n s
    → Goes s (Submit k ∷ []) (Between rounds prices eligibility held k)
submit-goes rounds prices eligibility held last k n s known rounds_are w =
    let own : List BookBid = get_or w.drafts (k - 1) [] in
    let low : k - 1 < length w.submitted = omega (arith, known.few, w.long_submitted) in
    let st : DeskState = sealed_state rounds prices eligibility held w.drafts w.submitted in
    let none : list_fault false made_terms.points (map (own_of k) rounds) own ≡ None =
    ap (λ (rs : List OwnRound). list_fault false made_terms.points rs own) rounds_are.are ∙ no-fault rounds_are.before last own w.fair in
    let ok : reply_in st (Submit k) ≡ reply.Ok =
    none-holds (when false reply.Stage ∷ when (not (nat_lt 0 k && nat_le k 12)) reply.Unknown ∷ cap_reply
    (list_fault false made_terms.points (map (own_of k) rounds) own) ∷ [])
    (refl, (ap (λ (b : Bool). when b reply.Unknown) known.known, (ap cap_reply none, tt))) in
    let next : Between rounds prices eligibility held k (taken st (Submit k)) = record {
      drafts = w.drafts;
      submitted = set w.submitted (k - 1) own;
      is = refl;
      long = w.long;
      fresh = w.fresh;
      lots = w.lots;
      long_submitted = length-set w.submitted (k - 1) own ∙ w.long_submitted;
      lots_submitted = each-set HasLot w.submitted (k - 1) own low (w.lots (k - 1)) w.lots_submitted;
    } in
    subst (λ (s : DeskState). Goes s (Submit k ∷ []) (Between rounds prices eligibility held k)) (sym w.is)
    (goes-one st (Submit k) (Between rounds prices eligibility held k) ok next)
