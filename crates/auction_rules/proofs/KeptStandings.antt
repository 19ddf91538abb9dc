-- What the rounds and the lists of every standing after a log keep.
use Rattle.std.proofs.Common.{Bool, List, None, Option, Some, [], ap, arith, false, inl, inr, length, length-append, map, not, refl, subst, suc, sym}
use Rattle.std.proofs.Common.{true, zero, ℕ, ◌&&◌, ◌++◌, ◌<◌, ◌∙◌, ◌∷◌, ◌≡◌, ◌≤◌}
use Rattle.std.specs.Prelude.{if◌then◌else◌, filter_map, nat_le, nat_eq}
use Rattle.std.specs.List.{AllByRecursion}
use Rattle.std.proofs.lemmas.Bool.{cases_Bool, leb-false}
use Rattle.auction_model.specs.Book.{BookBid}
use Rattle.auction_model.specs.Package.{cost_of, is_within}
use Rattle.auction_rules.specs.declared.Event.{Event}
use Rattle.auction_rules.specs.declared.Event.TheVariants.{Bid, Draft, Drop, Submit, Close}
use Rattle.auction_rules.specs.declared.Reply.{Reply}
use Rattle.auction_rules.specs.declared.Reply.TheVariants as reply
use Rattle.auction_model.specs.PackageTests.{AllAfter, InOrder, is_before, is_same}
use Rattle.auction_rules.specs.Terms.{Terms, entrant}
use Rattle.auction_rules.specs.Rounds.{OwnRound, demand, prices_after, final_round, stage_by, stage_after, closed_by, closed_after, own_round, own_rounds}
use Rattle.auction_rules.specs.Caps.{clock_bid, no_round, round_at}
use Rattle.auction_rules.specs.Lines.{closes, draft_list, draft_of, drafted, drafts_after, entry_before, held_in, in_order, is_close, is_submit}
use Rattle.auction_rules.specs.Lines.{priced, submitted_list}
use Rattle.auction_model.specs.Entries.{with_entry, without_entry}
use Rattle.auction_rules.specs.Replies.{Standing, admitted, first_reply, has_entry, has_excess, is_clock, is_closed, is_ok_reply, own_reply}
use Rattle.auction_rules.specs.Replies.{price_top, reply_after, standing, when}
use Rattle.auction_rules.specs.View.{posted}
use Rattle.auction_rules.specs.BookOfLog.{bid_lots, pairs_of, bids_in_book}
use Rattle.auction_rules.specs.Lawful.{HasCategories, NeverRises, AreDrafts}
use Rattle.auction_model.proofs.PackageTestLaws.{is_before-not_same, is_same-refl, is_same-true, not_same-sym}
use Rattle.auction_rules.proofs.Drafts.{AllAfter-trans, InOrder-in_order}
use Rattle.auction_rules.proofs.Standings.{IsFinal, stopped, IsFinal-final_round, after_own, after_close, own_now, standing-own, standing-other, standing-close}
use Rattle.auction_rules.proofs.States.{get_or-listing}
use Rattle.auction_rules.proofs.Views.{a_close, an_own, another, cases_line, with_line-ok, with_line-refused, reply_after-own, is_of-parts}
use Rattle.auction_rules.proofs.Sound.{stopped-no_clock, IsSound-standing}
use Rattle.auction_rules.proofs.LawfulBids.{draft-parts, posts-excess, admitted-lawful, drafts-lawful, submitted-lawful}
use Rattle.auction_rules.proofs.BookPairs.{best_bids-few}

-- ---- the order of lists

AllAfter-entry : (x p : List ℕ) (o : Option ℕ) (rest : List BookBid) → is_before x p ≡ true → AllAfter x (map bid_lots rest)
    → AllAfter x (map bid_lots (entry_before p o rest))
AllAfter-entry x p None rest first after = after
AllAfter-entry x p (Some a) rest first after = (first, after)

AllAfter-priced : (f : List ℕ → Option ℕ) (x : List ℕ) (ps : List (List ℕ)) → AllAfter x ps → AllAfter x (map bid_lots (priced f ps))
AllAfter-priced f x [] after = tt
AllAfter-priced f x (p ∷ ps) after = AllAfter-entry x p (f p) (priced f ps) after.0 (AllAfter-priced f x ps after.1)

InOrder-entry : (p : List ℕ) (o : Option ℕ) (rest : List BookBid) → AllAfter p (map bid_lots rest) → InOrder (map bid_lots rest)
    → InOrder (map bid_lots (entry_before p o rest))
InOrder-entry p None rest after order = order
InOrder-entry p (Some a) rest after order = (after, order)

-- packages in order, of which some have an amount
InOrder-priced : (f : List ℕ → Option ℕ) (ps : List (List ℕ)) → InOrder ps → InOrder (map bid_lots (priced f ps))
InOrder-priced f [] order = tt
InOrder-priced f (p ∷ ps) order = InOrder-entry p (f p) (priced f ps) (AllAfter-priced f p ps order.0) (InOrder-priced f ps order.1)

InOrder-draft_list : (j : ℕ) (lines : List Event) → InOrder (map bid_lots (draft_list j lines))
InOrder-draft_list j lines = InOrder-priced (draft_of j lines) (in_order (filter_map (drafted j) lines)) (InOrder-in_order (filter_map (drafted j) lines))

InOrder-submitted_list : (j : ℕ) (lines : List Event) → InOrder (map bid_lots (submitted_list j lines))
InOrder-submitted_list j [] = tt
InOrder-submitted_list j (e ∷ lines) =
    elim (cases_Bool (is_submit j e)) [
      | inl mine ↦ rw mine (InOrder-draft_list j lines)
      | inr other ↦ rw other (InOrder-submitted_list j lines)
    ]

-- ---- the length of draft lists

-- a package before all those of a list has no entry in it
pub absent-before : (x : List ℕ) (list : List BookBid) → AllAfter x (map bid_lots list) → has_entry x list ≡ false
absent-before x [] after = refl
absent-before x (b ∷ list) after =
    let apart : is_same b.lots x ≡ false = not_same-sym x b.lots (is_before-not_same x b.lots after.0) in
    rw apart (absent-before x list after.1)

same-entry : (x : List ℕ) (b : BookBid) → is_same x b.lots ≡ true → is_same b.lots x ≡ true
same-entry x b same = subst (λ (q : List ℕ). is_same q x ≡ true) (is_same-true x b.lots same) (is_same-refl x)

one_more : (there : Bool) (n : ℕ) → suc (if there then n else suc n) ≡ (if there then suc n else suc (suc n))
one_more true n = refl
one_more false n = refl

-- an entry replaces that of its package, or is one more
length-with_entry : (x : List ℕ) (a : ℕ) (list : List BookBid) → InOrder (map bid_lots list)
    → length (with_entry x a list) ≡ (if has_entry x list then length list else suc (length list))
length-with_entry x a [] order = refl
length-with_entry x a (b ∷ list) order =
    elim (cases_Bool (is_same x b.lots)) [
      | inl same ↦ rw (same, same-entry x b same) refl
      | inr apart ↦ elim (cases_Bool (is_before x b.lots)) [
        | inl first ↦ rw (apart, not_same-sym x b.lots apart, first, absent-before x list (AllAfter-trans x b.lots (map bid_lots list) first order.0)) refl
        | inr later ↦ rw (apart, not_same-sym x b.lots apart, later, length-with_entry x a list order.1) (one_more (has_entry x list) (length list))
      ]
    ]

length-without_entry : (x : List ℕ) (list : List BookBid) → length (without_entry x list) ≤ length list
length-without_entry x [] = omega arith
length-without_entry x (b ∷ list) =
    elim (cases_Bool (is_same x b.lots)) [
      | inl same ↦ rw same (omega (arith, length-without_entry x list))
      | inr apart ↦ rw apart (omega (arith, length-without_entry x list))
    ]

-- a draft that isn't refused for want of room
room-with_entry : (there : Bool) (n most m : ℕ) → (not there && nat_le most n) ≡ false → n ≤ most → m ≡ (if there then n else suc n) → m ≤ most
room-with_entry true n most m room few is = omega (arith, few, is)
room-with_entry false n most m room few is = let less : n < most = leb-false most n room in omega (arith, less, is)

drafts_after-few : (terms : Terms) (j : ℕ) (s : Standing) (e : Event) → is_ok_reply (own_reply terms j s e) ≡ true → InOrder (map bid_lots s.drafts)
    → length s.drafts ≤ 300
    → length (drafts_after e s.drafts) ≤ 300
drafts_after-few terms j s (Bid k x) ok order few = few
drafts_after-few terms j s (Draft k x a) ok order few =
    room-with_entry (has_entry x s.drafts) (length s.drafts) 300 (length (with_entry x a s.drafts)) (draft-parts terms j k s x a ok).room few
    (length-with_entry x a s.drafts order)
drafts_after-few terms j s (Drop k x) ok order few = omega (arith, few, length-without_entry x s.drafts)
drafts_after-few terms j s (Submit k) ok order few = few
drafts_after-few terms j s Close ok order few = few

-- ---- the rounds

NeverRises-append : (most : ℕ) (rounds : List OwnRound) (q : OwnRound) (last : ℕ) → NeverRises most rounds q.eligibility → last ≤ q.eligibility
    → NeverRises most (rounds ++ q ∷ []) last
NeverRises-append most [] q last falls less = (falls, less)
NeverRises-append most (r ∷ rounds) q last falls less = (falls.0, NeverRises-append r.eligibility rounds q last falls.1 less)

length-own_rounds : (terms : Terms) (held : ℕ → ℕ → List ℕ) (j n : ℕ) → length (own_rounds terms held j n) ≡ n
length-own_rounds terms held j zero = refl
length-own_rounds terms held j (suc n) = omega (
  arith,
  length-append (own_rounds terms held j n) (own_round terms held j (suc n) ∷ []),
  length-own_rounds terms held j n,
)

-- in the clock as many rounds are closed as there are closes
clock-closed : (n : ℕ) (final : Option ℕ) → is_clock (stage_by n final) ≡ true → closed_by n final ≡ n
clock-closed n None clock = refl
clock-closed n (Some final) clock =
    elim (cases_Bool (nat_eq n final)) [
      | inl last ↦ let no : false ≡ true = rw last at clock in cc
      | inr past ↦ let no : false ≡ true = rw past at clock in cc
    ]

rounds-closes : (terms : Terms) (j : ℕ) (lines : List Event) → is_clock (standing terms lines j).stage ≡ true
    → length (standing terms lines j).rounds ≡ closes lines
rounds-closes terms j lines clock =
    length-own_rounds terms (held_in terms lines) j (closed_after terms (held_in terms lines) (closes lines))
    ∙ clock-closed (closes lines) (final_round terms (held_in terms lines) (closes lines)) clock

close-room : (closed full : Bool) (top : Option Reply) → is_ok_reply (first_reply (when closed reply.Stage ∷ when full (reply.Full 300) ∷ top ∷ [])) ≡ true
    → full ≡ false
close-room true full top ok = cc
close-room false true top ok = cc
close-room false false top ok = refl

excess-room : (excess full : Bool) → (excess && full) ≡ false → excess ≡ true → full ≡ false
excess-room true full room more = room
excess-room false full room more = cc

-- a close that posts a next round comes before the last round that there may be
posts-room :
    (terms : Terms) (lines : List Event) (p : List ℕ) → is_ok_reply (reply_after terms lines Close) ≡ true → posted terms lines ≡ Some p
    → suc (closes lines) < 300
posts-room terms lines p ok h =
    let held : ℕ → ℕ → List ℕ = held_in terms lines in
    let n : ℕ = closes lines in
    let excess : has_excess terms held n ≡ true = (posts-excess n (final_round terms held n) (is_within (demand terms held (suc n)) terms.supply) p
    (prices_after terms held (suc n)) h).0 in
    let room : (has_excess terms held n && nat_le 300 (suc n)) ≡ false
    = close-room (is_closed (stage_after terms held n)) (has_excess terms held n && nat_le 300 (suc n))
    (if has_excess terms held n then price_top 1 (prices_after terms held (suc n)) else None) ok in
    leb-false 300 (suc n) (excess-room (has_excess terms held n) (nat_le 300 (suc n)) room excess)

-- The eligibility never rises, there are at most 300 rounds, and room for one in the clock; the lists have at most 300 entries, and
-- drafts are in order.
pub record IsKept (terms : Terms) (j : ℕ) (s : Standing) : Type 0 where
  pub falls : NeverRises (entrant terms j).eligibility s.rounds s.eligibility
  pub few : length s.rounds ≤ 300
  pub room : is_clock s.stage ≡ true → length s.rounds < 300
  pub order : InOrder (map bid_lots s.drafts)
  pub drafts : length s.drafts ≤ 300
  pub submitted : length s.submitted ≤ 300

IsKept-own : (terms : Terms) (j : ℕ) (s : Standing) (e : Event) → is_ok_reply (own_reply terms j s e) ≡ true
    → InOrder (map bid_lots (drafts_after e s.drafts)) → IsKept terms j s
    → IsKept terms j (after_own j s e)
IsKept-own terms j s e ok order kept = record {
  falls = kept.falls;
  few = kept.few;
  room = kept.room;
  order = order;
  drafts = drafts_after-few terms j s e ok kept.order kept.drafts;
  submitted = elim (cases_Bool (is_submit j e)) [ inl mine ↦ rw mine kept.drafts | inr other ↦ rw other kept.submitted ];
}

one_round_more : (rounds : List OwnRound) (q : OwnRound) → length (rounds ++ q ∷ []) ≡ suc (length rounds)
one_round_more rounds q = omega (arith, length-append rounds (q ∷ []))

IsKept-close : (terms : Terms) (j : ℕ) (s : Standing) (prices : Option (List ℕ)) → ((p : List ℕ) → prices ≡ Some p → suc (length s.rounds) < 300)
    → cost_of terms.points s.held ≤ s.eligibility
    → IsKept terms j s → IsKept terms j (after_close terms s prices)
IsKept-close terms j s (Some p) posts eligible kept =
    let more : suc (length s.rounds) < 300 = posts p refl in
    record {
      falls = NeverRises-append (entrant terms j).eligibility s.rounds (own_now s) (cost_of terms.points s.held) kept.falls eligible;
      few = omega (arith, one_round_more s.rounds (own_now s), more);
      room = λ clock. omega (arith, one_round_more s.rounds (own_now s), more);
      order = kept.order;
      drafts = kept.drafts;
      submitted = kept.submitted;
    }
IsKept-close terms j s None posts eligible kept =
    elim (cases_Bool (is_clock s.stage)) [
      | inl clock ↦ record {
        falls = rw clock (NeverRises-append (entrant terms j).eligibility s.rounds (own_now s) s.eligibility kept.falls (omega arith));
        few = rw clock (omega (arith, one_round_more s.rounds (own_now s), kept.room clock));
        room = λ clock. absurd (stopped-no_clock s.stage clock);
        order = kept.order;
        drafts = kept.drafts;
        submitted = kept.submitted;
      }
      | inr other ↦ record {
        falls = rw other kept.falls;
        few = rw other kept.few;
        room = λ clock. absurd (stopped-no_clock s.stage clock);
        order = kept.order;
        drafts = kept.drafts;
        submitted = kept.submitted;
      }
    ]

-- a close that posts prices comes in the clock, with room for one more round
close-posts : (terms : Terms) (j : ℕ) (lines : List Event) → is_ok_reply (reply_after terms lines Close) ≡ true → (p : List ℕ) → posted terms lines ≡ Some p
    → suc (length (standing terms lines j).rounds) < 300
close-posts terms j lines ok p h =
    let held : ℕ → ℕ → List ℕ = held_in terms lines in
    let n : ℕ = closes lines in
    let excess : has_excess terms held n ≡ true = (posts-excess n (final_round terms held n) (is_within (demand terms held (suc n)) terms.supply) p
    (prices_after terms held (suc n)) h).0 in
    let clock : is_clock (standing terms lines j).stage ≡ true = first_and (is_clock (stage_after terms held n))
    (not (is_within (demand terms held (suc n)) terms.supply)) excess in
    omega (arith, rounds-closes terms j lines clock, posts-room terms lines p ok h)
  where
    first_and : (a b : Bool) → (a && b) ≡ true → a ≡ true
    first_and true b both = refl
    first_and false b both = cc

-- every standing after a log is kept
pub IsKept-standing : (terms : Terms) (j : ℕ) (log : List Event) → IsKept terms j (standing terms (admitted terms log) j)
IsKept-standing terms j [] = record {
  falls = omega arith;
  few = omega arith;
  room = λ clock. omega arith;
  order = tt;
  drafts = omega arith;
  submitted =
      omega arith;
}
IsKept-standing terms j (e ∷ log) =
    let lines : List Event = admitted terms log in
    let before : IsKept terms j (standing terms lines j) = IsKept-standing terms j log in
    let P : List Event → Type 0 = λ lines. IsKept terms j (standing terms lines j) in
    elim (cases_Bool (is_ok_reply (reply_after terms lines e))) [
      | inr refused ↦ subst P (sym (with_line-refused terms lines e refused)) before
      | inl ok ↦ subst P (sym (with_line-ok terms lines e ok)) (elim (cases_line j e) [
        | a_close is ↦ let Q : Event → Type 0 = λ e. IsKept terms j (standing terms (e ∷ lines) j) in
            let ok' : is_ok_reply (reply_after terms lines Close) ≡ true = subst (λ (e : Event). is_ok_reply (reply_after terms lines e) ≡ true) is ok in
            subst Q (sym is) (subst (IsKept terms j) (sym (standing-close terms j lines))
            (IsKept-close terms j (standing terms lines j) (posted terms lines) (close-posts terms j lines ok') (IsSound-standing terms j log).now before))
        | an_own mine ↦ let c : is_close e ≡ false = (is_of-parts j e mine).0 in
            let ok' : is_ok_reply (own_reply terms j (standing terms lines j) e) ≡ true = ap is_ok_reply (sym (reply_after-own terms lines j e mine)) ∙ ok in
            let same : standing terms (e ∷ lines) j ≡ after_own j (standing terms lines j) e = standing-own terms j e lines c mine in
            let order : InOrder (map bid_lots (drafts_after e (standing terms lines j).drafts)) = subst
            (λ (s : Standing). InOrder (map bid_lots s.drafts)) same (InOrder-draft_list j (e ∷ lines)) in
            subst (IsKept terms j) (sym same) (IsKept-own terms j (standing terms lines j) e ok' order before)
        | another c theirs ↦ subst (IsKept terms j) (sym (standing-other terms j e lines c theirs)) before
      ])
    ]

-- ---- the first round

-- once the clock has stopped a round is closed
stopped-closed : (n : ℕ) (final : Option ℕ) → IsFinal n final → is_clock (stage_by n final) ≡ false → 1 ≤ closed_by n final
stopped-closed n None f over = cc
stopped-closed n (Some final) (stopped some few) over = some

-- after any log that has stopped the clock a bidder has at least one closed round
pub rounds-some : (terms : Terms) (log : List Event) (j : ℕ) → is_clock (standing terms (admitted terms log) j).stage ≡ false
    → 1 ≤ length (standing terms (admitted terms log) j).rounds
rounds-some terms log j over =
    let lines : List Event = admitted terms log in
    let held : ℕ → ℕ → List ℕ = held_in terms lines in
    let final : Option ℕ = final_round terms held (closes lines) in
    let closed : 1 ≤ closed_by (closes lines) final = stopped-closed (closes lines) final (IsFinal-final_round terms held (closes lines) final refl) over in
    omega (arith, closed, length-own_rounds terms held j (closed_after terms held (closes lines)))

-- in round 1 a bidder has the eligibility of the award
own_rounds-first : (terms : Terms) (held : ℕ → ℕ → List ℕ) (j n : ℕ) → 1 ≤ length (own_rounds terms held j n)
    → (round_at (own_rounds terms held j n) 1).eligibility ≡ (entrant terms j).eligibility
own_rounds-first terms held j n some =
    let more : 0 < n = omega (arith, some, length-own_rounds terms held j n) in
    ap (λ (r : OwnRound). r.eligibility) (get_or-listing (own_round terms held j) n 0 no_round more)

-- after any log with a closed round a bidder's eligibility in round 1 is that of the award
pub rounds-first : (terms : Terms) (log : List Event) (j : ℕ) → 1 ≤ length (standing terms (admitted terms log) j).rounds
    → (round_at (standing terms (admitted terms log) j).rounds 1).eligibility ≡ (entrant terms j).eligibility
rounds-first terms log j some =
    let lines : List Event = admitted terms log in
    own_rounds-first terms (held_in terms lines) j (closed_after terms (held_in terms lines) (closes lines)) some

-- ---- the lists after a log, and the number of bids in its book

-- after a log in the award's categories a draft list isn't too long, is in order, and has only what may be drafted
pub AreDrafts-drafts :
    (terms : Terms) (log : List Event) (j : ℕ) → AllByRecursion (HasCategories terms) log
    → AreDrafts terms j (standing terms (admitted terms log) j).drafts
AreDrafts-drafts terms log j same = record {
  few = (IsKept-standing terms j log).drafts;
  order = InOrder-draft_list j (admitted terms log);
  each = drafts-lawful terms j (admitted terms log) (admitted-lawful terms log same);
}

-- after a log in the award's categories a submitted list is short enough, in order, and of entries that may be drafted
pub AreDrafts-submitted :
    (terms : Terms) (log : List Event) (j : ℕ) → AllByRecursion (HasCategories terms) log
    → AreDrafts terms j (standing terms (admitted terms log) j).submitted
AreDrafts-submitted terms log j same = record {
  few = (IsKept-standing terms j log).submitted;
  order = InOrder-submitted_list j (admitted terms log);
  each = submitted-lawful terms j (admitted terms log) (admitted-lawful terms log same);
}

rounds-count : (rounds : List OwnRound) → length (map clock_bid rounds) ≡ length rounds
rounds-count [] = refl
rounds-count (r ∷ rounds) = omega (arith, rounds-count rounds)

-- a bidder has at most 600 bids in the book of a log
pub bids_in_book-few : (terms : Terms) (log : List Event) (j : ℕ) → length (bids_in_book terms log j) ≤ 600
bids_in_book-few terms log j =
    let s : Standing = standing terms (admitted terms log) j in
    let kept : IsKept terms j s = IsKept-standing terms j log in
    omega (arith, best_bids-few (pairs_of s), length-append (map clock_bid s.rounds) s.submitted, rounds-count s.rounds, kept.few, kept.submitted)
