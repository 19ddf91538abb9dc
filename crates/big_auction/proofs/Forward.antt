-- Lines taken one by one by a desk, the first one first.
use Rattle.std.proofs.Common.{◌≡◌, ℕ, zero, suc, ◌<◌, arith, List, [], ◌∷◌, ◌++◌, refl, sym, ◌∙◌, ap, subst, reverse}
use Rattle.std.proofs.lemmas.Bool.{cond-true}
use Rattle.std.proofs.lemmas.List.{append-nil, append_assoc, reverse-append}
use Rattle.auction_rules.specs.declared.Event.{Event}
use Rattle.auction_rules.specs.declared.Reply.TheVariants.{Ok}
use Rattle.auction_rules.specs.Terms.{Terms}
use Rattle.auction_rules.specs.Replies.{is_ok_reply, reply_to}
use Rattle.auction_rules.specs.Rounds.{listing}
use Rattle.auction_rules.specs.State.{DeskState, reply_in, state_of, state_with, taken}
use Rattle.auction_rules.proofs.Stands.{reply_in-state_of, state_with-state_of}
use Rattle.big_auction.specs.Answered.{AreAnsweredOk}

-- the state after the lines
abbrev pub after : DeskState → List Event → DeskState
after st [] = st
after st (e ∷ es) = after (taken st e) es

-- each of the lines has the reply Ok
abbrev pub AllPass : DeskState → List Event → Type 0
AllPass st [] = Unit {0}
AllPass st (e ∷ es) = (reply_in st e ≡ Ok) × AllPass (taken st e) es

-- the state after lines and more lines is the one after the latter from that after the former
pub after-append : (st : DeskState) (xs ys : List Event) → after st (xs ++ ys) ≡ after (after st xs) ys
after-append st [] ys = refl
after-append st (e ∷ xs) ys = after-append (taken st e) xs ys

-- lines and more lines have the reply Ok, if the latter are from the state after the former
pub AllPass-append : (st : DeskState) (xs ys : List Event) → AllPass st xs → AllPass (after st xs) ys → AllPass st (xs ++ ys)
AllPass-append st [] ys pass more = more
AllPass-append st (e ∷ xs) ys pass more = (pass.0, AllPass-append (taken st e) xs ys pass.1 more)

-- from a state the lines have the reply Ok, and the state after them is of this kind
pub record Goes (st : DeskState) (es : List Event) (To : DeskState → Type 0) : Type 0 where
  pub pass : AllPass st es
  pub to : To (after st es)

-- lines that lead to a kind of state, and lines that lead on from each such state, do so one after another
pub goes-on : (st : DeskState) (xs ys : List Event) (Via To : DeskState → Type 0) → Goes st xs Via → ((s : DeskState) → Via s → Goes s ys To)
    → Goes st (xs ++ ys) To
goes-on st xs ys Via To first next =
    let then : Goes (after st xs) ys To = next (after st xs) first.to in
    record { pass = AllPass-append st xs ys first.pass then.pass; to = subst To (sym (after-append st xs ys)) then.to }

-- a line that has the reply Ok leads to the state that has taken it
pub goes-one : (st : DeskState) (e : Event) (To : DeskState → Type 0) → reply_in st e ≡ Ok → To (taken st e) → Goes st (e ∷ []) To
goes-one st e To ok to = record { pass = (ok, tt); to = to }

-- over a listing, with what holds after each of its lines
pub goes-listing : (f : ℕ → Event) (n : ℕ) (st : DeskState) (At : ℕ → DeskState → Type 0) → At 0 st
    → ((i : ℕ) (s : DeskState) → i < n → At i s → Goes s (f (suc i) ∷ []) (At (suc i))) → Goes st (listing f n) (At n)
goes-listing f zero st At start step = record { pass = tt; to = start }
goes-listing f (suc n) st At start step =
    goes-on st (listing f n) (f (suc n) ∷ []) (At n) (At (suc n)) (goes-listing f n st At start (λ i s low at. step i s (omega arith) at))
    (λ s at. step n s (omega arith) at)

-- the lines after a log
pub record Stands (terms : Terms) (log : List Event) (st : DeskState) : Type 0 where
  pub answered : AreAnsweredOk terms log
  pub state : state_of terms log ≡ st

stands-line : (terms : Terms) (log : List Event) (st : DeskState) (e : Event) → Stands terms log st → reply_in st e ≡ Ok → Stands terms (e ∷ log) (taken st e)
stands-line terms log st e stands ok =
    let answer : reply_to terms log e ≡ Ok = sym (reply_in-state_of terms log e) ∙ ap (λ (s : DeskState). reply_in s e) stands.state ∙ ok in
    record {
      answered = (answer, stands.answered);
      state = sym (state_with-state_of terms log e) ∙ ap (λ (s : DeskState). state_with s e) stands.state
          ∙ cond-true (is_ok_reply (reply_in st e)) (taken st e) st (ap is_ok_reply ok);
    }

stands-behind : (terms : Terms) (es log : List Event) (st : DeskState) → Stands terms log st → AllPass st es → Stands terms (reverse es ++ log) (after st es)
stands-behind terms [] log st stands pass = stands
stands-behind terms (e ∷ es) log st stands pass =
    let e-first : reverse (e ∷ es) ++ log ≡ reverse es ++ (e ∷ log) = ap (λ (xs : List Event). xs ++ log) (reverse-append (e ∷ []) es)
    ∙ append_assoc (reverse es) (e ∷ []) log in
    subst (λ (xs : List Event). Stands terms xs (after (taken st e) es)) (sym e-first)
    (stands-behind terms es (e ∷ log) (taken st e) (stands-line terms log st e stands pass.0) pass.1)

-- lines that are all answered Ok from the beginning on
pub stands-all : (terms : Terms) (es : List Event) (To : DeskState → Type 0) → Goes (state_of terms []) es To
    → Stands terms (reverse es) (after (state_of terms []) es)
stands-all terms es To goes =
    subst (λ (xs : List Event). Stands terms xs (after (state_of terms []) es)) (append-nil (reverse es))
    (stands-behind terms es [] (state_of terms []) (record { answered = tt; state = refl }) goes.pass)
