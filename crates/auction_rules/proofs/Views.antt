-- The replies to a bidder's lines and its bids in the book are functions of its view.
use Rattle.std.proofs.Common.{◌≡◌, ℕ, true, false, List, [], ◌∷◌, ◌++◌, Option, None, refl, sym, ◌∙◌, ap, subst, inl, inr}
use Rattle.std.specs.Prelude.{if◌then◌else◌, nat_eq}
use Rattle.std.proofs.lemmas.Bool.{cases_Bool, eqb-true, cond-true, cond-false}
use Rattle.auction_rules.specs.declared.Event.{Event}
use Rattle.auction_rules.specs.declared.Event.TheVariants.{Bid, Draft, Drop, Submit, Close}
use Rattle.auction_rules.specs.declared.Reply.{Reply}
use Rattle.auction_rules.specs.Terms.{Terms}
use Rattle.auction_rules.specs.Lines.{is_close, line_bidder}
use Rattle.auction_rules.specs.Replies.{Standing, is_of, is_ok_reply, own_reply, reply_after, reply_to, with_line, admitted, standing}
use Rattle.auction_rules.specs.View.{Seen, own, closing, posted, seen, view, own_replies}
use Rattle.auction_rules.specs.BookOfLog.{book_bids, bids_in_book}
use Rattle.auction_rules.proofs.Standings.{after_own, after_close, standing-other, standing-own, standing-close}

-- the standing after one more thing is seen
abbrev pub after_seen : Terms → ℕ → Standing → Seen → Standing
after_seen terms j s (own e) = if is_ok_reply (own_reply terms j s e) then after_own j s e else s
after_seen terms j s (closing r prices) = if is_ok_reply r then after_close terms s prices else s

-- the standing of bidder j by its view
abbrev pub standing_seen : Terms → ℕ → List Seen → Standing
standing_seen terms j [] = standing terms [] j
standing_seen terms j (v ∷ before) = after_seen terms j (standing_seen terms j before) v

-- the replies to the lines of bidder j by its view
abbrev pub replies_seen : Terms → ℕ → List Seen → List Reply
replies_seen terms j [] = []
replies_seen terms j (own e ∷ before) = own_reply terms j (standing_seen terms j before) e ∷ replies_seen terms j before
replies_seen terms j (closing r prices ∷ before) = replies_seen terms j before

-- a line that the test takes for a close is one
pub is_close-true : (e : Event) → is_close e ≡ true → e ≡ Close
is_close-true Close h = refl
is_close-true (Bid k lots) h = cc
is_close-true (Draft k lots amount) h = cc
is_close-true (Drop k lots) h = cc
is_close-true (Submit k) h = cc

-- a line of bidder j is no close, and is its own
pub is_of-parts : (j : ℕ) (e : Event) → is_of j e ≡ true → (is_close e ≡ false) × (line_bidder e ≡ j)
is_of-parts j e h =
    elim (cases_Bool (is_close e)) [
      | inl close ↦ let no : false ≡ true = rw close at h in cc
      | inr other ↦ let both : nat_eq (line_bidder e) j ≡ true = rw other at h in (other, eqb-true (line_bidder e) j both)
    ]

-- the reply to a line of bidder j is a function of the line and its standing
pub reply_after-own : (terms : Terms) (lines : List Event) (j : ℕ) (e : Event) → is_of j e ≡ true → reply_after terms lines e ≡ own_reply terms j
    (standing terms lines j) e
reply_after-own terms lines j e h = let p : (is_close e ≡ false) × (line_bidder e ≡ j) = is_of-parts j e h in rw (p.0, p.1) refl

-- a line is a close, one of bidder j's own, or another's
pub data LineOf (j : ℕ) (e : Event) : Type 0 where
  a_close : e ≡ Close → LineOf j e
  an_own : is_of j e ≡ true → LineOf j e
  another : is_close e ≡ false → is_of j e ≡ false → LineOf j e

-- each line is a close, a line of bidder j, or neither of these
pub cases_line : (j : ℕ) (e : Event) → LineOf j e
cases_line j e =
    elim (cases_Bool (is_close e)) [
      | inl close ↦ a_close (is_close-true e close)
      | inr other ↦ elim (cases_Bool (is_of j e)) [ inl mine ↦ an_own mine | inr theirs ↦ another other theirs ]
    ]

-- one line more, by its reply
pub with_line-ok : (terms : Terms) (lines : List Event) (e : Event) → is_ok_reply (reply_after terms lines e) ≡ true → with_line terms lines e ≡ e ∷ lines
with_line-ok terms lines e h = cond-true (is_ok_reply (reply_after terms lines e)) (e ∷ lines) lines h

-- a line that isn't answered by Ok adds nothing to the admitted lines
pub with_line-refused : (terms : Terms) (lines : List Event) (e : Event) → is_ok_reply (reply_after terms lines e) ≡ false → with_line terms lines e ≡ lines
with_line-refused terms lines e h = cond-false (is_ok_reply (reply_after terms lines e)) (e ∷ lines) lines h

after_seen-own : (terms : Terms) (j : ℕ) (s : Standing) (e : Event) (r : Reply) → own_reply terms j s e ≡ r
    → after_seen terms j s (own e) ≡ (if is_ok_reply r then after_own j s e else s)
after_seen-own terms j s e r h = ap (λ (r : Reply). if is_ok_reply r then after_own j s e else s) h

step-own : (terms : Terms) (j : ℕ) (e : Event) (lines : List Event) → is_of j e ≡ true
    → standing terms (with_line terms lines e) j ≡ after_seen terms j (standing terms lines j) (own e)
step-own terms j e lines h =
    let c : is_close e ≡ false = (is_of-parts j e h).0 in
    let r : Reply = reply_after terms lines e in
    let seen_so : after_seen terms j (standing terms lines j) (own e) ≡ (if is_ok_reply r then after_own j
    (standing terms lines j) e else standing terms lines j)
    = after_seen-own terms j (standing terms lines j) e r (sym (reply_after-own terms lines j e h)) in
    elim (cases_Bool (is_ok_reply r)) [
      | inl ok ↦ ap (λ (lines : List Event). standing terms lines j) (with_line-ok terms lines e ok) ∙ standing-own terms j e lines c h
          ∙ sym (seen_so ∙ cond-true (is_ok_reply r) (after_own j (standing terms lines j) e) (standing terms lines j) ok)
      | inr refused ↦ ap (λ (lines : List Event). standing terms lines j) (with_line-refused terms lines e refused)
          ∙ sym (seen_so ∙ cond-false (is_ok_reply r) (after_own j (standing terms lines j) e) (standing terms lines j) refused)
    ]

step-other :
    (terms : Terms) (j : ℕ) (e : Event) (lines : List Event) → is_close e ≡ false → is_of j e ≡ false
    → standing terms (with_line terms lines e) j ≡ standing terms lines j
step-other terms j e lines c h =
    elim (cases_Bool (is_ok_reply (reply_after terms lines e))) [
      | inl ok ↦ ap (λ (lines : List Event). standing terms lines j) (with_line-ok terms lines e ok) ∙ standing-other terms j e lines c h
      | inr refused ↦ ap (λ (lines : List Event). standing terms lines j) (with_line-refused terms lines e refused)
    ]

-- what is seen of a close, and what it changes
closing-ok : (terms : Terms) (j : ℕ) (s : Standing) (r : Reply) (prices : Option (List ℕ)) → is_ok_reply r ≡ true
    → after_seen terms j s (closing r (if is_ok_reply r then prices else None)) ≡ after_close terms s prices
closing-ok terms j s r prices ok = rw ok refl

closing-refused : (terms : Terms) (j : ℕ) (s : Standing) (r : Reply) (prices : Option (List ℕ)) → is_ok_reply r ≡ false
    → after_seen terms j s (closing r prices) ≡ s
closing-refused terms j s r prices refused = rw refused refl

abbrev pub seen_close : Terms → List Event → Seen
seen_close terms lines = closing (reply_after terms lines Close) (if is_ok_reply (reply_after terms lines Close) then posted terms lines else None)

step-close : (terms : Terms) (j : ℕ) (lines : List Event)
    → standing terms (with_line terms lines Close) j ≡ after_seen terms j (standing terms lines j) (seen_close terms lines)
step-close terms j lines =
    elim (cases_Bool (is_ok_reply (reply_after terms lines Close))) [
      | inl ok ↦ ap (λ (lines : List Event). standing terms lines j) (with_line-ok terms lines Close ok) ∙ standing-close terms j lines
          ∙ sym (closing-ok terms j (standing terms lines j) (reply_after terms lines Close) (posted terms lines) ok)
      | inr refused ↦ ap (λ (lines : List Event). standing terms lines j) (with_line-refused terms lines Close refused)
          ∙ sym (closing-refused terms j (standing terms lines j) (reply_after terms lines Close) _ refused)
    ]

-- what is seen of a line
seen-own : (terms : Terms) (j : ℕ) (lines : List Event) (e : Event) → is_of j e ≡ true → seen terms j lines e ≡ own e ∷ []
seen-own terms j lines e h = cond-false (is_close e) _ _ (is_of-parts j e h).0 ∙ cond-true (is_of j e) (own e ∷ []) [] h

seen-other : (terms : Terms) (j : ℕ) (lines : List Event) (e : Event) → is_close e ≡ false → is_of j e ≡ false → seen terms j lines e ≡ []
seen-other terms j lines e c h = cond-false (is_close e) _ _ c ∙ cond-false (is_of j e) (own e ∷ []) [] h

-- the standing of bidder j is a function of its view
pub standing-view : (terms : Terms) (j : ℕ) (log : List Event) → standing terms (admitted terms log) j ≡ standing_seen terms j (view terms j log)
standing-view terms j [] = refl
standing-view terms j (e ∷ log) =
    elim (cases_line j e) [
      | a_close is ↦
          let P : Event → Type 0 = λ e. standing terms (with_line terms (admitted terms log) e) j ≡ standing_seen terms j
          (seen terms j (admitted terms log) e ++ view terms j log) in
          subst P (sym is) (step-close terms j (admitted terms log) ∙ ap (λ (s : Standing). after_seen terms j s (seen_close terms (admitted terms log)))
          (standing-view terms j log))
      | an_own mine ↦ step-own terms j e (admitted terms log) mine ∙ ap (λ (s : Standing). after_seen terms j s (own e)) (standing-view terms j log)
          ∙ ap (λ (vs : List Seen). standing_seen terms j (vs ++ view terms j log)) (sym (seen-own terms j (admitted terms log) e mine))
      | another c theirs ↦ step-other terms j e (admitted terms log) c theirs ∙ standing-view terms j log
          ∙ ap (λ (vs : List Seen). standing_seen terms j (vs ++ view terms j log)) (sym (seen-other terms j (admitted terms log) e c theirs))
    ]

-- the replies to the lines of bidder j are a function of its view
pub own_replies-view : (terms : Terms) (j : ℕ) (log : List Event) → own_replies terms j log ≡ replies_seen terms j (view terms j log)
own_replies-view terms j [] = refl
own_replies-view terms j (e ∷ log) =
    let lines : List Event = admitted terms log in
    let now : List Reply = reply_after terms lines e ∷ [] in
    elim (cases_line j e) [
      | a_close is ↦
          let P : Event → Type 0 = λ e. (if is_of j e then reply_after terms lines e ∷ [] else []) ++ own_replies terms j log ≡ replies_seen terms j
          (seen terms j lines e ++ view terms j log) in
          subst P (sym is) (own_replies-view terms j log)
      | an_own mine ↦ ap (λ (rs : List Reply). rs ++ own_replies terms j log) (cond-true (is_of j e) now [] mine)
          ∙ ap (λ (r : Reply). r ∷ own_replies terms j log) (reply_after-own terms lines j e mine ∙ ap (λ (s : Standing). own_reply terms j s e)
          (standing-view terms j log))
          ∙ ap (λ (rs : List Reply). own_reply terms j (standing_seen terms j (view terms j log)) e ∷ rs) (own_replies-view terms j log)
          ∙ ap (λ (vs : List Seen). replies_seen terms j (vs ++ view terms j log)) (sym (seen-own terms j lines e mine))
      | another c theirs ↦ ap (λ (rs : List Reply). rs ++ own_replies terms j log) (cond-false (is_of j e) now [] theirs)
          ∙ own_replies-view terms j log
          ∙ ap (λ (vs : List Seen). replies_seen terms j (vs ++ view terms j log)) (sym (seen-other terms j lines e c theirs))
    ]

-- if bidder j has the same view of two logs, a line of its own gets the same reply after both
pub reply_to-same_view : (terms : Terms) (j : ℕ) (e : Event) (log other : List Event) → is_of j e ≡ true → view terms j log ≡ view terms j other
    → reply_to terms log e ≡ reply_to terms other e
unfolding reply_to
reply_to-same_view terms j e log other mine same =
    reply_after-own terms (admitted terms log) j e mine
    ∙ ap (λ (s : Standing). own_reply terms j s e) (standing-view terms j log ∙ ap (standing_seen terms j) same ∙ sym (standing-view terms j other))
    ∙ sym (reply_after-own terms (admitted terms other) j e mine)

-- if bidder j has the same view of two logs, its lines got the same replies in both
pub own_replies-same_view :
    (terms : Terms) (j : ℕ) (log other : List Event) → view terms j log ≡ view terms j other
    → own_replies terms j log ≡ own_replies terms j other
own_replies-same_view terms j log other same = own_replies-view terms j log ∙ ap (replies_seen terms j) same ∙ sym (own_replies-view terms j other)

-- if bidder j has the same view of two logs, it has the same bids in their books
pub bids_in_book-same_view :
    (terms : Terms) (j : ℕ) (log other : List Event) → view terms j log ≡ view terms j other
    → bids_in_book terms log j ≡ bids_in_book terms other j
bids_in_book-same_view terms j log other same = ap book_bids (standing-view terms j log ∙ ap (standing_seen terms j) same ∙ sym (standing-view terms j other))
