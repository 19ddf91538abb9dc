-- The state of a desk and the standings in it.
use Rattle.std.proofs.Common.{List, None, Option, Some, [], ap, arith, false, get_or, inl, inr, length, length-append, map, refl, set, suc, sym, true}
use Rattle.std.proofs.Common.{zero, ℕ, ◌++◌, ◌-◌, ◌<◌, ◌∙◌, ◌∷◌, ◌≡◌, ◌≤◌}
use Rattle.std.proofs.lemmas.Bool.{cases_eq, ne_eqb}
use Rattle.std.proofs.lemmas.List.{set-append_left, get_or_append_left, map-append}
use Rattle.std.proofs.Math.Seq.{set-append_seam, get_or-append_seam}
use Rattle.auction_rules.specs.declared.Event.{Event}
use Rattle.auction_model.specs.Book.{BookBid}
use Rattle.auction_rules.specs.Terms.{Terms}
use Rattle.auction_rules.specs.declared.Stage.{Stage}
use Rattle.auction_rules.specs.Rounds.{OwnRound, own_rounds, prices_after, eligibility_after, round_after, closed_after, closed_by, final_round, listing}
use Rattle.auction_rules.specs.Lines.{is_close, line_bidder, closes, held_in, draft_list, submitted_list}
use Rattle.auction_rules.specs.Replies.{Standing, is_of, standing}
use Rattle.auction_rules.proofs.Held.{closes-line}
use Rattle.auction_rules.proofs.Agree.{Agree, Agree-fewer, prices_after-same, eligibility_after-same, final_round-same}
use Rattle.auction_rules.proofs.Standings.{IsFinal, stopped, IsFinal-final_round, Agree-line, after_own, standing-own, standing-other}
use Rattle.auction_rules.proofs.Views.{is_of-parts}
use Rattle.auction_rules.specs.State.{Round, DeskState, round_of, state_after, own_of, standing_in}

-- a listing of what f gives at 1 to n has length n
pub length-listing : {A : Type 0} (f : ℕ → A) (n : ℕ) → length (listing f n) ≡ n
length-listing f zero = refl
length-listing f (suc n) = omega (arith, length-append (listing f n) (f (suc n) ∷ []), length-listing f n)

-- at place k, counted from 0, a listing longer than k has what f gives at k + 1
pub get_or-listing : {A : Type 0} (f : ℕ → A) (n k : ℕ) (d : A) → k < n → get_or (listing f n) k d ≡ f (suc k)
get_or-listing f zero k d h = absurd (omega arith)
get_or-listing f (suc n) k d h =
    elim (cases_eq k n) [
      | inl last ↦ let long : k ≡ length (listing f n) = last ∙ sym (length-listing f n) in
          ap (λ (i : ℕ). get_or (listing f n ++ f (suc n) ∷ []) i d) long ∙ get_or-append_seam (listing f n) (f (suc n)) [] d
          ∙ ap (λ (i : ℕ). f (suc i)) (sym last)
      | inr before ↦ let less : k < length (listing f n) = omega (arith, length-listing f n) in
          get_or_append_left (listing f n) (f (suc n) ∷ []) d k less ∙ get_or-listing f n k d (omega arith)
    ]

-- functions that give the same at each of 1 to n have the same listing
pub listing-same : {A : Type 0} (f g : ℕ → A) (n : ℕ) → ((j : ℕ) → 1 ≤ j → j ≤ n → f j ≡ g j) → listing f n ≡ listing g n
listing-same f g zero same = refl
listing-same f g (suc n) same = rw (listing-same f g n (λ j low high. same j low (omega arith)), same (suc n) (omega arith) (omega arith)) refl

-- a listing of which one place changes
pub listing-set : {A : Type 0} (f g : ℕ → A) (n k : ℕ) → k < n → ((j : ℕ) → (j ≡ suc k → ⊥) → f j ≡ g j) → listing f n ≡ set (listing g n) k (f (suc k))
listing-set f g zero k h others = absurd (omega arith)
listing-set f g (suc n) k h others =
    elim (cases_eq k n) [
      | inl last ↦ let long : k ≡ length (listing g n) = last ∙ sym (length-listing g n) in
          ap (λ (xs : List _). xs ++ f (suc n) ∷ []) (listing-same f g n (λ j low high. others j (λ e. absurd (omega arith))))
          ∙ ap (λ (i : ℕ). listing g n ++ f (suc i) ∷ []) (sym last)
          ∙ sym (ap (λ (i : ℕ). set (listing g n ++ g (suc n) ∷ []) i (f (suc k))) long ∙ set-append_seam (listing g n) (g (suc n)) [] (f (suc k)))
      | inr before ↦ let less : k < length (listing g n) = omega (arith, length-listing g n) in
          ap (λ (xs : List _). xs ++ f (suc n) ∷ []) (listing-set f g n k (omega arith) others)
          ∙ ap (λ (x : _). set (listing g n) k (f (suc k)) ++ x ∷ []) (others (suc n) (λ e. absurd (omega arith)))
          ∙ sym (set-append_left (listing g n) (g (suc n) ∷ []) k (f (suc k)) less)
    ]

-- the entry of bidder k + 1 in a listing for more than k bidders is what f gives at k + 1
pub at-bidder : {A : Type 0} (f : ℕ → A) (n k : ℕ) (d : A) → k < n → get_or (listing f n) (suc k - 1) d ≡ f (suc k)
at-bidder f n k d h = let e : suc k - 1 ≡ k = omega arith in ap (λ (i : ℕ). get_or (listing f n) i d) e ∙ get_or-listing f n k d h

abbrev same_rounds : OwnRound → OwnRound → Type 0
same_rounds r s = r ≡ s

own_round-parts : (prices : List ℕ) (a b : ℕ) (x y : List ℕ) → a ≡ b → x ≡ y
    → same_rounds (record { prices = prices; eligibility = a; held = x }) (record { prices = prices; eligibility = b; held = y })
own_round-parts prices a b x y e h = rw (e, h) refl

-- the rounds of one bidder
pub map-own_of : (terms : Terms) (held : ℕ → ℕ → List ℕ) (k n : ℕ) → k < length terms.bidders → map (own_of (suc k))
    (listing (round_of terms held) n) ≡ own_rounds terms held (suc k) n
map-own_of terms held k zero h = refl
map-own_of terms held k (suc n) h =
    map-append (own_of (suc k)) (listing (round_of terms held) n) (round_of terms held (suc n) ∷ [])
    ∙ ap (λ (rs : List OwnRound). rs ++ own_of (suc k) (round_of terms held (suc n)) ∷ []) (map-own_of terms held k n h)
    ∙ ap (λ (r : OwnRound). own_rounds terms held (suc k) n ++ r ∷ [])
    (own_round-parts (prices_after terms held (suc n - 1)) _ _ _ _
    (at-bidder (λ j. eligibility_after terms held j (suc n - 1)) (length terms.bidders) k 0 h) (at-bidder (held (suc n)) (length terms.bidders) k [] h))

abbrev same_standings : Standing → Standing → Type 0
same_standings s t = s ≡ t

standing-parts : (stage : Stage) (prices : List ℕ) (rounds rounds' : List OwnRound) (a b : ℕ) (x y : List ℕ)
    (drafts drafts' submitted submitted' : List BookBid)
    → rounds ≡ rounds' → a ≡ b → x ≡ y → drafts ≡ drafts' → submitted ≡ submitted'
    → same_standings (record { stage = stage; rounds = rounds; prices = prices; eligibility = a; held = x; drafts = drafts; submitted = submitted })
    (record { stage = stage; rounds = rounds'; prices = prices; eligibility = b; held = y; drafts = drafts'; submitted = submitted' })
standing-parts stage prices rounds rounds' a b x y drafts drafts' submitted submitted' r e h d s = rw (r, e, h, d, s) refl

-- the standing of a bidder of the award in the state after a log is its standing after the log
pub standing_in-state_after : (terms : Terms) (lines : List Event) (k : ℕ) → k < length terms.bidders
    → standing_in (state_after terms lines) (suc k) ≡ standing terms lines (suc k)
standing_in-state_after terms lines k h =
    let n : ℕ = length terms.bidders in
    let r : ℕ = round_after terms (held_in terms lines) (closes lines) in
    standing-parts _ _ _ _ _ _ _ _ _ _ _ _
    (map-own_of terms (held_in terms lines) k (closed_after terms (held_in terms lines) (closes lines)) h)
    (at-bidder (λ j. eligibility_after terms (held_in terms lines) j (r - 1)) n k 0 h)
    (at-bidder (held_in terms lines r) n k [] h)
    (at-bidder (λ j. draft_list j lines) n k [] h)
    (at-bidder (λ j. submitted_list j lines) n k [] h)

-- the rounds of all bidders depend on what is held in them
rounds-same : (terms : Terms) (held other : ℕ → ℕ → List ℕ) (n : ℕ) → Agree n held other → listing (round_of terms held) n ≡ listing (round_of terms other) n
rounds-same terms held other zero agree = refl
rounds-same terms held other (suc n) agree =
    let fewer : Agree n held other = Agree-fewer (suc n) n held other agree (omega arith) in
    let before : Agree (suc n - 1) held other = Agree-fewer (suc n) (suc n - 1) held other agree (omega arith) in
    rw (
      rounds-same terms held other n fewer,
      prices_after-same terms (suc n - 1) held other before,
      listing-same (λ j. eligibility_after terms held j (suc n - 1)) (λ j. eligibility_after terms other j (suc n - 1)) (length terms.bidders)
          (λ j low high. eligibility_after-same terms j (suc n - 1) held other before),
      listing-same (held (suc n)) (other (suc n)) (length terms.bidders) (λ j low high. agree.same (suc n) j (omega arith)),
    ) refl

closed-few : (n : ℕ) (final : Option ℕ) → IsFinal n final → closed_by n final ≤ n
closed-few n None f = omega arith
closed-few n (Some final) (stopped some few) = few

rounds-line : (terms : Terms) (e : Event) (lines : List Event) → is_close e ≡ false
    → listing (round_of terms (held_in terms (e ∷ lines))) (closed_after terms (held_in terms (e ∷ lines)) (closes (e ∷ lines)))
    ≡ listing (round_of terms (held_in terms lines)) (closed_after terms (held_in terms lines) (closes lines))
rounds-line terms e lines c =
    let final : Option ℕ = final_round terms (held_in terms lines) (closes lines) in
    let few : closed_by (closes lines) final ≤ closes lines = closed-few (closes lines) final
    (IsFinal-final_round terms (held_in terms lines) (closes lines) final refl) in
    ap (λ (n : ℕ). listing (round_of terms (held_in terms (e ∷ lines))) (closed_by n (final_round terms (held_in terms (e ∷ lines)) n))) (closes-line e lines c)
    ∙ ap (λ (final : Option ℕ). listing (round_of terms (held_in terms (e ∷ lines))) (closed_by (closes lines) final))
    (final_round-same terms (closes lines) (held_in terms (e ∷ lines)) (held_in terms lines) (Agree-line terms e lines))
    ∙ rounds-same terms (held_in terms (e ∷ lines)) (held_in terms lines) (closed_by (closes lines) final)
    (Agree-fewer (closes lines) (closed_by (closes lines) final) (held_in terms (e ∷ lines)) (held_in terms lines) (Agree-line terms e lines) few)

abbrev pub same_states : DeskState → DeskState → Type 0
same_states s t = s ≡ t

-- states of the same terms are the same if each of their other parts is
pub state-parts : (terms : Terms) (stage stage' : Stage) (rounds rounds' : List Round) (prices prices' eligibility eligibility' : List ℕ)
    (held held' : List (List ℕ)) (drafts drafts' submitted submitted' : List (List BookBid))
    → stage ≡ stage' → rounds ≡ rounds' → prices ≡ prices' → eligibility ≡ eligibility' → held ≡ held' → drafts ≡ drafts' → submitted ≡ submitted'
    → same_states (record {
      terms = terms;
      stage = stage;
      rounds = rounds;
      prices = prices;
      eligibility = eligibility;
      held = held;
      drafts =
          drafts;
      submitted = submitted;
    })
    (record {
      terms = terms;
      stage = stage';
      rounds = rounds';
      prices = prices';
      eligibility = eligibility';
      held = held';
      drafts = drafts';
      submitted =
          submitted';
    })
state-parts terms stage stage' rounds rounds' prices prices' eligibility eligibility' held held' drafts drafts' submitted submitted' a b c d e f g =
    rw (a, b, c, d, e, f, g) refl

-- the state in which the bidder at place k has another package, draft list and submitted list
abbrev pub with_standing : DeskState → ℕ → Standing → DeskState
with_standing st k s = record {
  terms = st.terms;
  stage = st.stage;
  rounds = st.rounds;
  prices = st.prices;
  eligibility = st.eligibility;
  held = set st.held k s.held;
  drafts = set st.drafts k s.drafts;
  submitted = set st.submitted k s.submitted;
}

-- a line of bidder k + 1 is no line of others
not_of : (e : Event) (j k : ℕ) → is_of (suc k) e ≡ true → (j ≡ suc k → ⊥) → is_of j e ≡ false
not_of e j k mine ne =
    let p : (is_close e ≡ false) × (line_bidder e ≡ suc k) = is_of-parts (suc k) e mine in
    rw p.0 (ne_eqb (line_bidder e) j (λ same. ne (sym same ∙ p.1)))

-- an admitted line of a bidder changes the state at this bidder alone
pub state_after-own : (terms : Terms) (k : ℕ) (e : Event) (lines : List Event) → is_of (suc k) e ≡ true → k < length terms.bidders
    → state_after terms (e ∷ lines) ≡ with_standing (state_after terms lines) k (after_own (suc k) (standing terms lines (suc k)) e)
state_after-own terms k e lines mine few =
    let n : ℕ = length terms.bidders in
    let c : is_close e ≡ false = (is_of-parts (suc k) e mine).0 in
    let here : standing terms (e ∷ lines) (suc k) ≡ after_own (suc k) (standing terms lines (suc k)) e = standing-own terms (suc k) e lines c mine in
    let there : (j : ℕ) → (j ≡ suc k → ⊥) → standing terms (e ∷ lines) j ≡ standing terms lines j = λ j ne. standing-other terms j e lines c
    (not_of e j k mine ne) in
    state-parts terms _ _ _ _ _ _ _ _ _ _ _ _ _ _
    (ap (λ (s : Standing). s.stage) here)
    (rounds-line terms e lines c)
    (ap (λ (s : Standing). s.prices) here)
    (listing-same (λ j. (standing terms (e ∷ lines) j).eligibility) (λ j. (standing terms lines j).eligibility) n
    (λ j low high. elim (cases_eq j (suc k)) [
      | inl same ↦ rw same (ap (λ (s : Standing). s.eligibility) here)
      | inr other ↦ ap (λ (s : Standing). s.eligibility) (there j other)
    ]))
    (listing-set (λ j. (standing terms (e ∷ lines) j).held) (λ j. (standing terms lines j).held) n k few (λ j ne. ap (λ (s : Standing). s.held) (there j ne))
    ∙ ap (λ (s : Standing). set (listing (λ j. (standing terms lines j).held) n) k s.held) here)
    (listing-set (λ j. draft_list j (e ∷ lines)) (λ j. draft_list j lines) n k few (λ j ne. ap (λ (s : Standing). s.drafts) (there j ne))
    ∙ ap (λ (s : Standing). set (listing (λ j. draft_list j lines) n) k s.drafts) here)
    (listing-set (λ j. submitted_list j (e ∷ lines)) (λ j. submitted_list j lines) n k few (λ j ne. ap (λ (s : Standing). s.submitted) (there j ne))
    ∙ ap (λ (s : Standing). set (listing (λ j. submitted_list j lines) n) k s.submitted) here)
