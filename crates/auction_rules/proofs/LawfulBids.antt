-- Each bid of the book of a log has the award's categories, is within the supply, and is at least its reserve and at most the greatest amount.
use Rattle.std.proofs.Common.{Bool, List, None, Option, Some, [], ap, arith, false, inl, inr, length, map, not, refl, subst, suc, sym, true, zero, ℕ}
use Rattle.std.proofs.Common.{◌&&◌, ◌*◌, ◌++◌, ◌+◌, ◌-◌, ◌^◌, ◌∙◌, ◌∷◌, ◌≡◌, ◌≤◌}
use Rattle.std.specs.Prelude.{if◌then◌else◌, ◌==◌, filter, nat_le, nat_lt, nat_eq, sum}
use Rattle.std.specs.List.{AllByRecursion}
use Rattle.std.specs.Option.{option_or}
use Rattle.std.proofs.lemmas.Bool.{cases_Bool, cases_eq, cond-true, cond-false, leb-true, le-leb, ltb-false, eqb-true, and_parts}
use Rattle.std.proofs.lemmas.List.Sums.{sum_by-cons}
use Rattle.std.proofs.Math.Nat.{mul-le-mul, mul-le-mul_left}
use Rattle.auction_model.specs.Book.{BookBid}
use Rattle.auction_model.specs.Package.{cost_of, is_within}
use Rattle.auction_model.proofs.ListLaws.{each-push}
use Rattle.auction_rules.specs.declared.Event.{Event}
use Rattle.auction_rules.specs.declared.Event.TheVariants.{Bid, Draft, Drop, Submit, Close}
use Rattle.auction_rules.specs.declared.Reply.TheVariants as reply
use Rattle.auction_model.specs.PackageTests.{first_over, is_before, is_empty, is_same}
use Rattle.auction_rules.specs.Terms.{Terms, no_lots, entrant, broken_cap}
use Rattle.auction_rules.specs.Rounds.{OwnRound, demand, prices_after, final_round, stage_by, stage_after, closed_after, own_round, own_rounds}
use Rattle.auction_rules.specs.Caps.{clock_bid, greatest}
use Rattle.auction_rules.specs.Lines.{bid_by, closes, draft_list, drafts_after, held_in, in_order, is_close, is_submit, line_bidder, placed, priced}
use Rattle.auction_rules.specs.Lines.{submitted_list}
use Rattle.auction_model.specs.Entries.{with_entry, without_entry}
use Rattle.auction_rules.specs.Replies.{Standing, admitted, close_reply, first_reply, has_entry, has_excess, is_clock, is_closed, is_of, is_ok_reply}
use Rattle.auction_rules.specs.Replies.{is_sealed, own_reply, price_top, reply_after, spectrum_reply, standing, supply_reply, when}
use Rattle.auction_rules.specs.View.{posted}
use Rattle.auction_rules.specs.BookOfLog.{bid_lots, best_bids, bids_in_book}
use Rattle.auction_rules.specs.Lawful.{AreBelowTop, AreLimited, HasCategories, IsLawfulBid, IsDraft}
use Rattle.auction_model.proofs.PackageTestLaws.{first_over-within, is_same-refl}
use Rattle.auction_rules.proofs.Agree.{Some-injective}
use Rattle.auction_rules.proofs.Held.{held_in-elsewhere, held_in-no_bid, held_in-bid}
use Rattle.auction_rules.proofs.Drafts.{draft_list-other, draft_list-own}
use Rattle.auction_rules.proofs.Standings.{after_close, own_now, standing-own, standing-other, standing-close}
use Rattle.auction_rules.proofs.Views.{a_close, an_own, another, cases_line, with_line-ok, with_line-refused, is_close-true, is_of-parts}
use Rattle.auction_rules.proofs.Sound.{bid-ok, prices_after-rises}

-- a package that may be held
pub record IsLawfulPackage (terms : Terms) (lots : List ℕ) : Type 0 where
  pub categories : length lots ≡ length terms.supply
  pub within : is_within lots terms.supply ≡ true

length-zeros : (s : List ℕ) → length {A = ℕ} (map (λ (n : ℕ). 0) s) ≡ length s
length-zeros [] = refl
length-zeros (a ∷ s) = omega (arith, length-zeros s)

zeros-within : (s : List ℕ) → is_within (map (λ (n : ℕ). 0) s) s ≡ true
zeros-within [] = refl
zeros-within (a ∷ s) = rw (le-leb 0 a (omega arith)) (zeros-within s)

IsLawfulPackage-no_lots : (terms : Terms) → IsLawfulPackage terms (no_lots terms)
IsLawfulPackage-no_lots terms = record { categories = length-zeros terms.supply; within = zeros-within terms.supply }

-- what an admitted line keeps
abbrev pub IsLawfulLine : Terms → Event → Type 0
IsLawfulLine terms (Bid k lots) = IsLawfulPackage terms lots
IsLawfulLine terms (Draft k lots amount) = IsDraft terms k (record { lots = lots; amount = amount })
IsLawfulLine terms (Drop k lots) = Unit {0}
IsLawfulLine terms (Submit k) = Unit {0}
IsLawfulLine terms Close = Unit {0}

-- what follows for a draft if the reply is Ok
pub record DraftOk (over : Option ℕ) (short empty low full above : Bool) : Type 0 where
  pub none_over : over ≡ None
  pub eligible : short ≡ false
  pub some : empty ≡ false
  pub reserve_reached : low ≡ false
  pub room : full ≡ false
  pub top_kept : above ≡ false

-- a draft gets Ok only with no category over, enough points, some lot, its reserve reached, room, and the top kept
pub draft-ok : (out strange : Bool) (over : Option ℕ) (rule : Option (ℕ × ℕ)) (short : Bool) (e : ℕ) (empty low : Bool) (r : ℕ) (below : Bool) (c : ℕ)
    (full above : Bool) (t : ℕ)
    → is_ok_reply (first_reply (when out reply.Stage ∷ when strange reply.Unknown ∷ supply_reply over ∷ spectrum_reply rule ∷ when short
    (reply.Points e) ∷ when empty reply.Empty
    ∷ when low (reply.BelowReserve r) ∷ when below (reply.BelowClock c) ∷ when full (reply.Full 300) ∷ when above (reply.AmountTop t) ∷ [])) ≡ true
    → DraftOk over short empty low full above
draft-ok true strange over rule short e empty low r below c full above t ok = cc
draft-ok false true over rule short e empty low r below c full above t ok = cc
draft-ok false false (Some x) rule short e empty low r below c full above t ok = cc
draft-ok false false None (Some x) short e empty low r below c full above t ok = cc
draft-ok false false None None true e empty low r below c full above t ok = cc
draft-ok false false None None false e true low r below c full above t ok = cc
draft-ok false false None None false e false true r below c full above t ok = cc
draft-ok false false None None false e false false r true c full above t ok = cc
draft-ok false false None None false e false false r false c true above t ok = cc
draft-ok false false None None false e false false r false c false true t ok = cc
draft-ok false false None None false e false false r false c false false t ok = record
    { none_over = refl; eligible = refl; some = refl; reserve_reached = refl; room = refl; top_kept = refl }

-- a package within the supply has at most its lots
pub sum-within : (lots supply : List ℕ) → is_within lots supply ≡ true → sum lots ≤ sum supply
sum-within [] supply within = omega arith
sum-within (a ∷ lots) [] within =
    let both : ((a == 0) ≡ true) × (is_within lots [] ≡ true) = and_parts (a == 0) (is_within lots []) within in
    omega (arith, eqb-true a 0 both.0, sum_by-cons (λ (n : ℕ). n) a lots, sum-within lots [] both.1)
sum-within (a ∷ lots) (b ∷ supply) within =
    let both : (nat_le a b ≡ true) × (is_within lots supply ≡ true) = and_parts (nat_le a b) (is_within lots supply) within in
    omega (arith, leb-true a b both.0, sum_by-cons (λ (n : ℕ). n) a lots, sum_by-cons (λ (n : ℕ). n) b supply, sum-within lots supply both.1)

-- an admitted draft of bidder j
pub draft-parts : (terms : Terms) (j k : ℕ) (s : Standing) (lots : List ℕ) (amount : ℕ) → is_ok_reply (own_reply terms j s (Draft k lots amount)) ≡ true
    → DraftOk (first_over 1 lots terms.supply) (nat_lt (entrant terms j).eligibility (cost_of terms.points lots)) (is_empty lots)
    (nat_lt amount (cost_of terms.reserves lots))
    (not (has_entry lots s.drafts) && nat_le 300 (length s.drafts)) (nat_lt (2 ^ 42) amount)
draft-parts terms j k s lots amount ok =
    draft-ok (not (is_sealed s.stage)) (not (nat_lt 0 j && nat_le j (length terms.bidders))) (first_over 1 lots terms.supply) (broken_cap terms j lots)
    (nat_lt (entrant terms j).eligibility (cost_of terms.points lots)) (entrant terms j).eligibility (is_empty lots)
    (nat_lt amount (cost_of terms.reserves lots)) (cost_of terms.reserves lots)
    (nat_lt amount (greatest lots (map clock_bid s.rounds))) (greatest lots (map clock_bid s.rounds))
    (not (has_entry lots s.drafts) && nat_le 300 (length s.drafts)) (nat_lt (2 ^ 42) amount) (2 ^ 42) ok

own-lawful : (terms : Terms) (s : Standing) (e : Event) → is_ok_reply (own_reply terms (line_bidder e) s e) ≡ true → HasCategories terms e
    → IsLawfulLine terms e
own-lawful terms s (Bid j lots) ok same =
    let none : first_over 1 lots terms.supply ≡ None = (bid-ok (not (is_clock s.stage)) (not (nat_lt 0 j && nat_le j (length terms.bidders)))
    (first_over 1 lots terms.supply)
    (broken_cap terms j lots) (nat_lt s.eligibility (cost_of terms.points lots)) s.eligibility ok).0 in
    record { categories = same; within = first_over-within 1 lots terms.supply none }
own-lawful terms s (Draft j lots amount) ok same =
    let parts = draft-parts terms j j s lots amount ok in
    let within : is_within lots terms.supply ≡ true = first_over-within 1 lots terms.supply parts.none_over in
    record {
      lawful = record {
        categories = same;
        within = within;
        reserve = ltb-false amount (cost_of terms.reserves lots) parts.reserve_reached;
        top = ltb-false (2 ^ 42) amount parts.top_kept;
      };
      some = parts.some;
      few = sum-within lots terms.supply within;
      points = ltb-false (entrant terms j).eligibility (cost_of terms.points lots) parts.eligible;
    }
own-lawful terms s (Drop j lots) ok same = tt
own-lawful terms s (Submit j) ok same = tt
own-lawful terms s Close ok same = tt

line-lawful : (terms : Terms) (lines : List Event) (e : Event) → is_ok_reply (reply_after terms lines e) ≡ true → HasCategories terms e → IsLawfulLine terms e
line-lawful terms lines e ok same =
    elim (cases_Bool (is_close e)) [
      | inl close ↦ subst (IsLawfulLine terms) (sym (is_close-true e close)) tt
      | inr other ↦
          own-lawful terms (standing terms lines (line_bidder e)) e
          (ap is_ok_reply (sym (cond-false (is_close e) (close_reply terms (held_in terms lines) (closes lines))
          (own_reply terms (line_bidder e) (standing terms lines (line_bidder e)) e) other)) ∙ ok) same
    ]

-- if the packages of a log have the award's number of categories, each admitted line is lawful
pub admitted-lawful : (terms : Terms) (log : List Event) → AllByRecursion (HasCategories terms) log → AllByRecursion (IsLawfulLine terms) (admitted terms log)
admitted-lawful terms [] same = tt
admitted-lawful terms (e ∷ log) same =
    let lines : List Event = admitted terms log in
    let before : AllByRecursion (IsLawfulLine terms) lines = admitted-lawful terms log same.1 in
    elim (cases_Bool (is_ok_reply (reply_after terms lines e))) [
      | inl ok ↦ subst (AllByRecursion (IsLawfulLine terms)) (sym (with_line-ok terms lines e ok)) (line-lawful terms lines e ok same.0, before)
      | inr refused ↦ subst (AllByRecursion (IsLawfulLine terms)) (sym (with_line-refused terms lines e refused)) before
    ]

-- what is held
bid-lawful : (terms : Terms) (j : ℕ) (e : Event) (lots : List ℕ) → bid_by j e ≡ Some lots → IsLawfulLine terms e → IsLawfulPackage terms lots
bid-lawful terms j (Bid k x) lots bid lawful =
    elim (cases_Bool (k == j)) [
      | inl mine ↦ let same : x ≡ lots = Some-injective (rw mine at bid) in subst (IsLawfulPackage terms) same lawful
      | inr theirs ↦ let no : None ≡ Some lots = rw theirs at bid in cc
    ]
bid-lawful terms j (Draft k x a) lots bid lawful = cc
bid-lawful terms j (Drop k x) lots bid lawful = cc
bid-lawful terms j (Submit k) lots bid lawful = cc
bid-lawful terms j Close lots bid lawful = cc

held-after : (terms : Terms) (e : Event) (lines : List Event) (r j : ℕ) (word : Option (List ℕ)) → bid_by j e ≡ word → IsLawfulLine terms e
    → IsLawfulPackage terms (held_in terms lines r j) → IsLawfulPackage terms (held_in terms (e ∷ lines) r j)
held-after terms e lines r j None bid lawful before = subst (IsLawfulPackage terms) (sym (held_in-no_bid terms r j e lines bid)) before
held-after terms e lines r j (Some lots) bid lawful before =
    elim (cases_eq (suc (closes lines)) r) [
      | inl here ↦ subst (λ (r : ℕ). IsLawfulPackage terms (held_in terms (e ∷ lines) r j)) here
          (subst (IsLawfulPackage terms) (sym (held_in-bid terms j e lines lots bid)) (bid-lawful terms j e lots bid lawful))
      | inr elsewhere ↦ subst (IsLawfulPackage terms) (sym (held_in-elsewhere terms r j e lines elsewhere)) before
    ]

held-lawful : (terms : Terms) (lines : List Event) (r j : ℕ) → AllByRecursion (IsLawfulLine terms) lines → IsLawfulPackage terms (held_in terms lines r j)
held-lawful terms [] r j lawful = IsLawfulPackage-no_lots terms
held-lawful terms (e ∷ lines) r j lawful = held-after terms e lines r j (bid_by j e) refl lawful.0 (held-lawful terms lines r j lawful.1)

-- drafts and submitted lists
pub with_entry-each : (P : BookBid → Type 0) (x : List ℕ) (a : ℕ) (list : List BookBid) → P (record { lots = x; amount = a }) → AllByRecursion P list
    → AllByRecursion P (with_entry x a list)
with_entry-each P x a [] new old = (new, tt)
with_entry-each P x a (b ∷ list) new old =
    elim (cases_Bool (is_same x b.lots)) [
      | inl same ↦ rw same (new, old.1)
      | inr apart ↦ elim (cases_Bool (is_before x b.lots)) [
        | inl first ↦ rw (apart, first) (new, old)
        | inr later ↦ rw (apart, later) (old.0, with_entry-each P x a list new old.1)
      ]
    ]

without_entry-each : (P : BookBid → Type 0) (x : List ℕ) (list : List BookBid) → AllByRecursion P list → AllByRecursion P (without_entry x list)
without_entry-each P x [] old = tt
without_entry-each P x (b ∷ list) old =
    elim (cases_Bool (is_same x b.lots)) [
      | inl same ↦ rw same (without_entry-each P x list old.1)
      | inr apart ↦ rw apart (old.0, without_entry-each P x list old.1)
    ]

drafts_after-lawful : (terms : Terms) (j : ℕ) (e : Event) (list : List BookBid) → line_bidder e ≡ j → IsLawfulLine terms e
    → AllByRecursion (IsDraft terms j) list
    → AllByRecursion (IsDraft terms j) (drafts_after e list)
drafts_after-lawful terms j (Bid k x) list mine new old = old
drafts_after-lawful terms j (Draft k x a) list mine new old =
    with_entry-each (IsDraft terms j) x a list (subst (λ (k : ℕ). IsDraft terms k (record { lots = x; amount = a })) mine new) old
drafts_after-lawful terms j (Drop k x) list mine new old = without_entry-each (IsDraft terms j) x list old
drafts_after-lawful terms j (Submit k) list mine new old = old
drafts_after-lawful terms j Close list mine new old = old

-- after lawful lines each entry of a bidder's draft list is one that it may draft
pub drafts-lawful :
    (terms : Terms) (j : ℕ) (lines : List Event) → AllByRecursion (IsLawfulLine terms) lines
    → AllByRecursion (IsDraft terms j) (draft_list j lines)
drafts-lawful terms j [] lawful = tt
drafts-lawful terms j (e ∷ lines) lawful =
    let before : AllByRecursion (IsDraft terms j) (draft_list j lines) = drafts-lawful terms j lines lawful.1 in
    elim (cases_Bool (is_of j e)) [
      | inl mine ↦ subst (AllByRecursion (IsDraft terms j)) (sym (draft_list-own j e lines mine))
          (drafts_after-lawful terms j e (draft_list j lines) (is_of-parts j e mine).1 lawful.0 before)
      | inr theirs ↦ subst (AllByRecursion (IsDraft terms j)) (sym (draft_list-other j e lines theirs)) before
    ]

-- after lawful lines each entry of a bidder's submitted list is one that it may draft
pub submitted-lawful :
    (terms : Terms) (j : ℕ) (lines : List Event) → AllByRecursion (IsLawfulLine terms) lines
    → AllByRecursion (IsDraft terms j) (submitted_list j lines)
submitted-lawful terms j [] lawful = tt
submitted-lawful terms j (e ∷ lines) lawful =
    elim (cases_Bool (is_submit j e)) [
      | inl mine ↦ rw mine (drafts-lawful terms j lines lawful.1)
      | inr other ↦ rw other (submitted-lawful terms j lines lawful.1)
    ]

-- what holds of each of a list, weakened
pub each-weaker : {A : Type 0} (P Q : A → Type 0) (xs : List A) → ((x : A) → P x → Q x) → AllByRecursion P xs → AllByRecursion Q xs
each-weaker P Q [] weaker each = tt
each-weaker P Q (x ∷ xs) weaker each = (weaker x each.0, each-weaker P Q xs weaker each.1)

-- no price that is posted is above the top
price_top-none : (category : ℕ) (prices : List ℕ) → is_ok_reply (first_reply (price_top category prices ∷ [])) ≡ true → AreBelowTop prices
price_top-none category [] ok = tt
price_top-none category (p ∷ prices) ok =
    elim (cases_Bool (nat_le p (2 ^ 36))) [
      | inl low ↦ (leb-true p (2 ^ 36) low, price_top-none (suc category) prices (rw low at ok))
      | inr high ↦ let no : false ≡ true = rw high at ok in cc
    ]

close-ok : (closed full excess : Bool) (prices : List ℕ)
    → is_ok_reply (first_reply (when closed reply.Stage ∷ when full (reply.Full 300) ∷ (if excess then price_top 1 prices else None) ∷ [])) ≡ true
    → excess ≡ true → AreBelowTop prices
close-ok true full excess prices ok more = cc
close-ok false true excess prices ok more = cc
close-ok false false true prices ok more = price_top-none 1 prices ok
close-ok false false false prices ok more = cc

-- prices are posted if there is excess demand
pub posts-excess : (n : ℕ) (final : Option ℕ) (within : Bool) (p prices : List ℕ)
    → (if is_clock (stage_by (suc n) (option_or final (if within then Some (suc n) else None))) then Some prices else None) ≡ Some p
    → ((is_clock (stage_by n final) && not within) ≡ true) × (prices ≡ p)
posts-excess n None false p prices h = (refl, Some-injective h)
posts-excess n None true p prices h =
    elim (cases_Bool (nat_eq (suc n) (suc n))) [
      | inl last ↦ let no : None ≡ Some p = rw last at h in cc
      | inr other ↦ let no : None ≡ Some p = rw other at h in cc
    ]
posts-excess n (Some final) within p prices h =
    elim (cases_Bool (nat_eq (suc n) final)) [
      | inl last ↦ let no : None ≡ Some p = rw last at h in cc
      | inr other ↦ let no : None ≡ Some p = rw other at h in cc
    ]

posted-below_top :
    (terms : Terms) (lines : List Event) (p : List ℕ) → is_ok_reply (reply_after terms lines Close) ≡ true → posted terms lines ≡ Some p
    → AreBelowTop p
posted-below_top terms lines p ok h =
    let held : ℕ → ℕ → List ℕ = held_in terms lines in
    let n : ℕ = closes lines in
    let parts : (has_excess terms held n ≡ true) × (prices_after terms held (suc n) ≡ p)
    = posts-excess n (final_round terms held n) (is_within (demand terms held (suc n)) terms.supply) p (prices_after terms held (suc n)) h in
    subst AreBelowTop parts.1 (close-ok (is_closed (stage_after terms held n)) (has_excess terms held n && nat_le 300 (suc n)) (has_excess terms held n)
    (prices_after terms held (suc n)) ok parts.0)

record IsBelowTop (s : Standing) : Type 0 where
  rounds : AllByRecursion (λ (r : OwnRound). AreBelowTop r.prices) s.rounds
  now : AreBelowTop s.prices

below_top-close : (terms : Terms) (s : Standing) (prices : Option (List ℕ)) → ((p : List ℕ) → prices ≡ Some p → AreBelowTop p) → IsBelowTop s
    → IsBelowTop (after_close terms s prices)
below_top-close terms s (Some p) posts below = record {
  rounds = each-push (λ (r : OwnRound). AreBelowTop r.prices) s.rounds
      (own_now s) below.rounds below.now;
  now = posts p refl;
}
below_top-close terms s None posts below =
    elim (cases_Bool (is_clock s.stage)) [
      | inl clock ↦ record {
        rounds = rw clock (each-push (λ (r : OwnRound). AreBelowTop r.prices) s.rounds (own_now s) below.rounds below.now);
        now =
            below.now;
      }
      | inr other ↦ record { rounds = rw other below.rounds; now = below.now }
    ]

below_top-standing : (terms : Terms) (j : ℕ) (log : List Event) → AreLimited terms → IsBelowTop (standing terms (admitted terms log) j)
below_top-standing terms j [] limited = record { rounds = tt; now = limited.reserves }
below_top-standing terms j (e ∷ log) limited =
    let lines : List Event = admitted terms log in
    let before : IsBelowTop (standing terms lines j) = below_top-standing terms j log limited in
    let P : List Event → Type 0 = λ lines. IsBelowTop (standing terms lines j) in
    elim (cases_Bool (is_ok_reply (reply_after terms lines e))) [
      | inr refused ↦ subst P (sym (with_line-refused terms lines e refused)) before
      | inl ok ↦ subst P (sym (with_line-ok terms lines e ok)) (elim (cases_line j e) [
        | a_close is ↦ let Q : Event → Type 0 = λ e. IsBelowTop (standing terms (e ∷ lines) j) in
            let ok' : is_ok_reply (reply_after terms lines Close) ≡ true = subst (λ (e : Event). is_ok_reply (reply_after terms lines e) ≡ true) is ok in
            subst Q (sym is) (subst IsBelowTop (sym (standing-close terms j lines))
            (below_top-close terms (standing terms lines j) (posted terms lines) (λ p h. posted-below_top terms lines p ok' h) before))
        | an_own mine ↦ let c : is_close e ≡ false = (is_of-parts j e mine).0 in
            subst IsBelowTop (sym (standing-own terms j e lines c mine)) (record { rounds = before.rounds; now = before.now })
        | another c theirs ↦ subst IsBelowTop (sym (standing-other terms j e lines c theirs)) before
      ])
    ]

-- clock bids
reserves-floor : (terms : Terms) (held : ℕ → ℕ → List ℕ) (n : ℕ) (lots : List ℕ) → cost_of terms.reserves lots ≤ cost_of (prices_after terms held n) lots
reserves-floor terms held zero lots = omega arith
reserves-floor terms held (suc n) lots = omega (arith, reserves-floor terms held n lots, prices_after-rises terms held n lots)

cost-most : (prices lots supply : List ℕ) → AreBelowTop prices → is_within lots supply ≡ true → cost_of prices lots ≤ 2 ^ 36 * sum supply
cost-most [] lots supply low within = omega arith
cost-most (p ∷ prices) [] supply low within = omega arith
cost-most (p ∷ prices) (a ∷ lots) [] low within =
    let both : ((a == 0) ≡ true) × (is_within lots [] ≡ true) = and_parts (a == 0) (is_within lots []) within in
    let none : p * a ≡ 0 = rw (eqb-true a 0 both.0) (omega arith) in
    omega (arith, none, cost-most prices lots [] low.1 both.1)
cost-most (p ∷ prices) (a ∷ lots) (b ∷ supply) low within =
    let both : (nat_le a b ≡ true) × (is_within lots supply ≡ true) = and_parts (nat_le a b) (is_within lots supply) within in
    let parts : sum (b ∷ supply) ≡ b + sum supply = sum_by-cons (λ (n : ℕ). n) b supply in
    let own : p * a ≤ 2 ^ 36 * b = mul-le-mul low.0 (leb-true a b both.0) in
    omega (arith, parts, own, cost-most prices lots supply low.1 both.1)

record IsHeldLawfully (terms : Terms) (r : OwnRound) : Type 0 where
  lots : IsLawfulPackage terms r.held
  floor : cost_of terms.reserves r.held ≤ cost_of r.prices r.held

own_rounds-lawful : (terms : Terms) (held : ℕ → ℕ → List ℕ) (j n : ℕ) → ((r : ℕ) → IsLawfulPackage terms (held r j))
    → AllByRecursion (IsHeldLawfully terms) (own_rounds terms held j n)
own_rounds-lawful terms held j zero lawful = tt
own_rounds-lawful terms held j (suc n) lawful =
    each-push (IsHeldLawfully terms) (own_rounds terms held j n) (own_round terms held j (suc n)) (own_rounds-lawful terms held j n lawful)
    (record { lots = lawful (suc n); floor = reserves-floor terms held (suc n - 1) (held (suc n) j) })

clock_bid-lawful : (terms : Terms) (r : OwnRound) → AreLimited terms → IsHeldLawfully terms r → AreBelowTop r.prices → IsLawfulBid terms (clock_bid r)
clock_bid-lawful terms r limited lawful below =
    let most : cost_of r.prices r.held ≤ 2 ^ 36 * sum terms.supply = cost-most r.prices r.held terms.supply below lawful.lots.within in
    let few : 2 ^ 36 * sum terms.supply ≤ 2 ^ 36 * 40 = mul-le-mul_left (2 ^ 36) limited.lots in
    record { categories = lawful.lots.categories; within = lawful.lots.within; reserve = lawful.floor; top = omega (arith, most, few) }

clock_bids-lawful : (terms : Terms) (rounds : List OwnRound) (list : List BookBid) → AreLimited terms → AllByRecursion (IsHeldLawfully terms) rounds
    → AllByRecursion (λ (r : OwnRound). AreBelowTop r.prices) rounds → AllByRecursion (IsLawfulBid terms) list
    → AllByRecursion (IsLawfulBid terms) (map clock_bid rounds ++ list)
clock_bids-lawful terms [] list limited lawful below given = given
clock_bids-lawful terms (r ∷ rounds) list limited lawful below given = (
  clock_bid-lawful terms r limited lawful.0 below.0,
  clock_bids-lawful terms rounds list limited lawful.1 below.1 given,
)

-- the greatest amounts of lawful bids
greatest-top : (terms : Terms) (lots : List ℕ) (bids : List BookBid) → AllByRecursion (IsLawfulBid terms) bids → greatest lots bids ≤ 2 ^ 42
greatest-top terms lots [] lawful = omega arith
greatest-top terms lots (b ∷ bids) lawful =
    elim (cases_Bool (is_same b.lots lots)) [
      | inl same ↦ rw same (omega (arith, lawful.0.top, greatest-top terms lots bids lawful.1))
      | inr apart ↦ rw apart (omega (arith, greatest-top terms lots bids lawful.1))
    ]

greatest-lawful : (terms : Terms) (all bids : List BookBid) → AllByRecursion (IsLawfulBid terms) all → AllByRecursion (IsLawfulBid terms) bids
    → ((lots : List ℕ) → greatest lots bids ≤ greatest lots all) → AllByRecursion
    (λ (lots : List ℕ). IsLawfulBid terms (record { lots = lots; amount = greatest lots all })) (map bid_lots bids)
greatest-lawful terms all [] whole lawful up = tt
greatest-lawful terms all (b ∷ bids) whole lawful up =
    let own : (if is_same b.lots b.lots then b.amount else 0) ≡ b.amount = cond-true (is_same b.lots b.lots) b.amount 0 (is_same-refl b.lots) in
    let reached : b.amount ≤ greatest b.lots all = omega (arith, own, up b.lots) in (
      record {
        categories = lawful.0.categories;
        within = lawful.0.within;
        reserve = omega (arith, reached, lawful.0.reserve);
        top =
            greatest-top terms b.lots all whole;
      },
      greatest-lawful terms all bids whole lawful.1 (λ lots. omega (arith, up lots)),
    )

-- what holds of each of the packages holds of each of them that isn't empty
pub each-some : (Q : List ℕ → Type 0) (ps : List (List ℕ)) → AllByRecursion Q ps → AllByRecursion Q (filter (λ lots. not (is_empty lots)) ps)
each-some Q [] each = tt
each-some Q (p ∷ ps) each =
    elim (cases_Bool (is_empty p)) [
      | inl empty ↦ rw empty (each-some Q ps each.1)
      | inr some ↦ rw some (each.0, each-some Q ps each.1)
    ]

each-placed : (Q : List ℕ → Type 0) (x : List ℕ) (ps : List (List ℕ)) → Q x → AllByRecursion Q ps → AllByRecursion Q (placed x ps)
each-placed Q x [] new each = (new, tt)
each-placed Q x (p ∷ ps) new each =
    elim (cases_Bool (is_same x p)) [
      | inl same ↦ rw same each
      | inr apart ↦ elim (cases_Bool (is_before x p)) [
        | inl first ↦ rw (apart, first) (new, each)
        | inr later ↦ rw (apart, later) (each.0, each-placed Q x ps new each.1)
      ]
    ]

-- what holds of each of the packages holds of each of them once they are put in order
pub each-in_order : (Q : List ℕ → Type 0) (ps : List (List ℕ)) → AllByRecursion Q ps → AllByRecursion Q (in_order ps)
each-in_order Q [] each = tt
each-in_order Q (p ∷ ps) each = each-placed Q p (in_order ps) each.0 (each-in_order Q ps each.1)

-- what holds of each package with its amount holds of each bid of the priced packages
pub each-priced : (P : BookBid → Type 0) (amount : List ℕ → ℕ) (ps : List (List ℕ)) → AllByRecursion
    (λ (lots : List ℕ). P (record { lots = lots; amount = amount lots })) ps
    → AllByRecursion P (priced (λ lots. Some (amount lots)) ps)
each-priced P amount [] each = tt
each-priced P amount (p ∷ ps) each = (each.0, each-priced P amount ps each.1)

best_bids-lawful : (terms : Terms) (bids : List BookBid) → AllByRecursion (IsLawfulBid terms) bids → AllByRecursion (IsLawfulBid terms) (best_bids bids)
best_bids-lawful terms bids lawful =
    let Q : List ℕ → Type 0 = λ lots. IsLawfulBid terms (record { lots = lots; amount = greatest lots bids }) in
    let some : List (List ℕ) = filter (λ lots. not (is_empty lots)) (map bid_lots bids) in
    each-priced (IsLawfulBid terms) (λ lots. greatest lots bids) (in_order some)
    (each-in_order Q some (each-some Q (map bid_lots bids) (greatest-lawful terms bids bids lawful lawful (λ lots. omega arith))))

-- the bids of a book
pub IsLawfulBid-bids_in_book : (terms : Terms) (log : List Event) (j : ℕ) → AreLimited terms → AllByRecursion (HasCategories terms) log
    → AllByRecursion (IsLawfulBid terms) (bids_in_book terms log j)
IsLawfulBid-bids_in_book terms log j limited same =
    let lines : List Event = admitted terms log in
    let lawful : AllByRecursion (IsLawfulLine terms) lines = admitted-lawful terms log same in
    let s : Standing = standing terms lines j in
    best_bids-lawful terms (map clock_bid s.rounds ++ s.submitted)
    (clock_bids-lawful terms s.rounds s.submitted limited
    (own_rounds-lawful terms (held_in terms lines) j (closed_after terms (held_in terms lines) (closes lines)) (λ r. held-lawful terms lines r j lawful))
    (below_top-standing terms j log limited).rounds
    (each-weaker (IsDraft terms j) (IsLawfulBid terms) (submitted_list j lines) (λ b draft. draft.lawful) (submitted-lawful terms j lines lawful)))
