-- What one more line changes of a draft list.
use Rattle.std.proofs.Common.{◌≡◌, ℕ, true, false, List, [], ◌∷◌, Option, Some, None, refl, sym, ◌∙◌, ap, inl, inr}
use Rattle.std.specs.Prelude.{if◌then◌else◌, filter_map, ◌==◌}
use Rattle.std.proofs.lemmas.Bool.{cases_Bool, cond-true, cond-false}
use Rattle.auction_model.specs.Book.{BookBid}
use Rattle.auction_rules.specs.declared.Event.{Event}
use Rattle.auction_rules.specs.declared.Event.TheVariants.{Bid, Draft, Drop, Submit, Close}
use Rattle.auction_model.specs.PackageTests.{AllAfter, InOrder, is_before, is_same}
use Rattle.auction_model.proofs.PackageTestLaws.{is_before-not_same, is_before-total, is_before-trans, is_same-refl, is_same-true}
use Rattle.auction_rules.specs.Lines.{draft_list, draft_of, draft_word, drafted, drafts_after, entry_before, in_order, is_submit, placed, priced}
use Rattle.auction_rules.specs.Lines.{submitted_list}
use Rattle.auction_model.specs.Entries.{with_entry, without_entry}
use Rattle.auction_rules.specs.Replies.{is_of}

-- if p is before q, packages that all come after q all come after p
pub AllAfter-trans : (p q : List ℕ) (ps : List (List ℕ)) → is_before p q ≡ true → AllAfter q ps → AllAfter p ps
AllAfter-trans p q [] h after = tt
AllAfter-trans p q (r ∷ ps) h after = (is_before-trans p q r h after.0, AllAfter-trans p q ps h after.1)

AllAfter-placed : (p x : List ℕ) (ps : List (List ℕ)) → is_before p x ≡ true → AllAfter p ps → AllAfter p (placed x ps)
AllAfter-placed p x [] h after = (h, tt)
AllAfter-placed p x (q ∷ ps) h after =
    elim (cases_Bool (is_same x q)) [
      | inl same ↦ rw same after
      | inr apart ↦ elim (cases_Bool (is_before x q)) [
        | inl first ↦ rw (apart, first) (h, after)
        | inr later ↦ rw (apart, later) (after.0, AllAfter-placed p x ps h after.1)
      ]
    ]

-- packages in order stay in order with one more set in its place
pub InOrder-placed : (x : List ℕ) (ps : List (List ℕ)) → InOrder ps → InOrder (placed x ps)
InOrder-placed x [] o = (tt, tt)
InOrder-placed x (q ∷ ps) o =
    elim (cases_Bool (is_same x q)) [
      | inl same ↦ rw same o
      | inr apart ↦ elim (cases_Bool (is_before x q)) [
        | inl first ↦ rw (apart, first) ((first, AllAfter-trans x q ps first o.0), o)
        | inr later ↦ rw (apart, later) (AllAfter-placed q x ps (is_before-total x q apart later) o.0, InOrder-placed x ps o.1)
      ]
    ]

-- packages that are put in order are in order, each once
pub InOrder-in_order : (ps : List (List ℕ)) → InOrder (in_order ps)
InOrder-in_order [] = tt
InOrder-in_order (p ∷ ps) = InOrder-placed p (in_order ps) (InOrder-in_order ps)

-- amounts that differ only at x are the same for packages that come after x
priced-after : (f g : List ℕ → Option ℕ) (x : List ℕ) (ps : List (List ℕ)) → ((q : List ℕ) → is_same x q ≡ false → g q ≡ f q) → AllAfter x ps
    → priced g ps ≡ priced f ps
priced-after f g x [] others after = refl
priced-after f g x (q ∷ ps) others after = rw (others q (is_before-not_same x q after.0), priced-after f g x ps others after.1) refl

front-entry : (q x : List ℕ) (a : ℕ) (rest : List BookBid) (o : Option ℕ) → is_before x q ≡ true → with_entry x a rest ≡ record { lots = x; amount = a } ∷ rest
    → with_entry x a (entry_before q o rest) ≡ record { lots = x; amount = a } ∷ entry_before q o rest
front-entry q x a rest None after h = h
front-entry q x a rest (Some b) after h = rw (is_before-not_same x q after, after) refl

with_entry-front : (f : List ℕ → Option ℕ) (x : List ℕ) (a : ℕ) (ps : List (List ℕ)) → AllAfter x ps
    → with_entry x a (priced f ps) ≡ record { lots = x; amount = a } ∷ priced f ps
with_entry-front f x a [] after = refl
with_entry-front f x a (q ∷ ps) after = front-entry q x a (priced f ps) (f q) after.0 (with_entry-front f x a ps after.1)

same-entry : (q x : List ℕ) (a : ℕ) (rest : List BookBid) (o : Option ℕ) → is_same x q ≡ true → with_entry x a rest ≡ record { lots = x; amount = a } ∷ rest
    → entry_before x (Some a) rest ≡ with_entry x a (entry_before q o rest)
same-entry q x a rest None same h = sym h
same-entry q x a rest (Some b) same h = rw same refl

later-entry : (q x : List ℕ) (a : ℕ) (rest : List BookBid) (o : Option ℕ) → is_same x q ≡ false → is_before x q ≡ false
    → entry_before q o (with_entry x a rest) ≡ with_entry x a (entry_before q o rest)
later-entry q x a rest None apart later = refl
later-entry q x a rest (Some b) apart later = rw (apart, later) refl

-- one more draft
pub priced-placed : (f g : List ℕ → Option ℕ) (x : List ℕ) (a : ℕ) (ps : List (List ℕ)) → g x ≡ Some a → ((q : List ℕ) → is_same x q ≡ false → g q ≡ f q)
    → InOrder ps
    → priced g (placed x ps) ≡ with_entry x a (priced f ps)
priced-placed f g x a [] here others o = rw here refl
priced-placed f g x a (q ∷ ps) here others o =
    elim (cases_Bool (is_same x q)) [
      | inl same ↦
          let x_is : x ≡ q = is_same-true x q same in
          let after : AllAfter x ps = rw (← x_is) at o.0 in
          ap (priced g) (cond-true (is_same x q) (q ∷ ps) _ same)
          ∙ ap (λ (p : List ℕ). entry_before p (g p) (priced g ps)) (sym x_is)
          ∙ ap (λ (v : Option ℕ). entry_before x v (priced g ps)) here
          ∙ ap (λ (rest : List BookBid). entry_before x (Some a) rest) (priced-after f g x ps others after)
          ∙ same-entry q x a (priced f ps) (f q) same (with_entry-front f x a ps after)
      | inr apart ↦ elim (cases_Bool (is_before x q)) [
        | inl first ↦
            let after : AllAfter x (q ∷ ps) = (first, AllAfter-trans x q ps first o.0) in
            ap (priced g) (cond-false (is_same x q) (q ∷ ps) _ apart ∙ cond-true (is_before x q) (x ∷ q ∷ ps) _ first)
            ∙ ap (λ (v : Option ℕ). entry_before x v (priced g (q ∷ ps))) here
            ∙ ap (λ (rest : List BookBid). entry_before x (Some a) rest) (priced-after f g x (q ∷ ps) others after)
            ∙ sym (with_entry-front f x a (q ∷ ps) after)
        | inr later ↦
            ap (priced g) (cond-false (is_same x q) (q ∷ ps) _ apart ∙ cond-false (is_before x q) (x ∷ q ∷ ps) (q ∷ placed x ps) later)
            ∙ ap (λ (v : Option ℕ). entry_before q v (priced g (placed x ps))) (others q apart)
            ∙ ap (λ (rest : List BookBid). entry_before q (f q) rest) (priced-placed f g x a ps here others o.1)
            ∙ later-entry q x a (priced f ps) (f q) apart later
      ]
    ]

same-without : (q x : List ℕ) (rest : List BookBid) (o : Option ℕ) → is_same x q ≡ true → without_entry x rest ≡ without_entry x (entry_before q o rest)
same-without q x rest None same = refl
same-without q x rest (Some b) same = rw same refl

apart-without : (q x : List ℕ) (rest : List BookBid) (o : Option ℕ) → is_same x q ≡ false → entry_before q o (without_entry x rest) ≡ without_entry x
    (entry_before q o rest)
apart-without q x rest None apart = refl
apart-without q x rest (Some b) apart = rw apart refl

-- one draft less
pub priced-dropped : (f g : List ℕ → Option ℕ) (x : List ℕ) (ps : List (List ℕ)) → ((q : List ℕ) → is_same x q ≡ true → g q ≡ None)
    → ((q : List ℕ) → is_same x q ≡ false → g q ≡ f q)
    → priced g ps ≡ without_entry x (priced f ps)
priced-dropped f g x [] here others = refl
priced-dropped f g x (q ∷ ps) here others =
    elim (cases_Bool (is_same x q)) [
      | inl same ↦ ap (λ (v : Option ℕ). entry_before q v (priced g ps)) (here q same) ∙ priced-dropped f g x ps here others
          ∙ same-without q x (priced f ps) (f q) same
      | inr apart ↦ ap (λ (v : Option ℕ). entry_before q v (priced g ps)) (others q apart) ∙ ap (λ (rest : List BookBid). entry_before q (f q) rest)
          (priced-dropped f g x ps here others)
          ∙ apart-without q x (priced f ps) (f q) apart
    ]

-- the same amounts
pub priced-same : (f g : List ℕ → Option ℕ) (ps : List (List ℕ)) → ((q : List ℕ) → g q ≡ f q) → priced g ps ≡ priced f ps
priced-same f g [] same = refl
priced-same f g (q ∷ ps) same = rw (same q, priced-same f g ps same) refl

-- what the lines say of a draft
draft_of-draft : (j k : ℕ) (x : List ℕ) (a : ℕ) (lines : List Event) (q : List ℕ) → (k == j) ≡ true → draft_of j (Draft k x a ∷ lines) q ≡
    (if is_same x q then Some a else draft_of j lines q)
draft_of-draft j k x a lines q mine =
    elim (cases_Bool (is_same x q)) [ inl same ↦ rw (mine, same) refl | inr apart ↦ rw (mine, apart) refl ]

draft_of-drop : (j k : ℕ) (x : List ℕ) (lines : List Event) (q : List ℕ) → (k == j) ≡ true → draft_of j (Drop k x ∷ lines) q ≡
    (if is_same x q then None else draft_of j lines q)
draft_of-drop j k x lines q mine =
    elim (cases_Bool (is_same x q)) [ inl same ↦ rw (mine, same) refl | inr apart ↦ rw (mine, apart) refl ]

-- a line of others says nothing about it
draft_word-other : (j : ℕ) (e : Event) (q : List ℕ) → is_of j e ≡ false → draft_word j q e ≡ None
draft_word-other j (Bid k lots) q h = refl
draft_word-other j (Draft k lots a) q h = rw h refl
draft_word-other j (Drop k lots) q h = rw h refl
draft_word-other j (Submit k) q h = refl
draft_word-other j Close q h = refl

drafted-other : (j : ℕ) (e : Event) → is_of j e ≡ false → drafted j e ≡ None
drafted-other j (Bid k lots) h = refl
drafted-other j (Draft k lots a) h = rw h refl
drafted-other j (Drop k lots) h = refl
drafted-other j (Submit k) h = refl
drafted-other j Close h = refl

-- a line that isn't bidder j's leaves the draft list of j as it is
pub draft_list-other : (j : ℕ) (e : Event) (lines : List Event) → is_of j e ≡ false → draft_list j (e ∷ lines) ≡ draft_list j lines
draft_list-other j e lines h =
    let none : filter_map (drafted j) (e ∷ lines) ≡ filter_map (drafted j) lines = rw (drafted-other j e h) refl in
    ap (λ (ps : List (List ℕ)). priced (draft_of j (e ∷ lines)) (in_order ps)) none
    ∙ priced-same (draft_of j lines) (draft_of j (e ∷ lines)) (in_order (filter_map (drafted j) lines)) (λ q. rw (draft_word-other j e q h) refl)

-- a line that isn't bidder j's leaves the submitted list of j as it is
pub submitted_list-other : (j : ℕ) (e : Event) (lines : List Event) → is_of j e ≡ false → submitted_list j (e ∷ lines) ≡ submitted_list j lines
submitted_list-other j (Bid k lots) lines h = refl
submitted_list-other j (Draft k lots a) lines h = refl
submitted_list-other j (Drop k lots) lines h = refl
submitted_list-other j (Submit k) lines h = rw h refl
submitted_list-other j Close lines h = refl

-- a line of bidder j's changes its draft list as it says: a draft sets an entry, a drop takes one out
pub draft_list-own : (j : ℕ) (e : Event) (lines : List Event) → is_of j e ≡ true → draft_list j (e ∷ lines) ≡ drafts_after e (draft_list j lines)
draft_list-own j (Bid k lots) lines h = priced-same (draft_of j lines) (draft_of j (Bid k lots ∷ lines)) (in_order (filter_map (drafted j) lines)) (λ q. refl)
draft_list-own j (Draft k x a) lines h =
    let ps : List (List ℕ) = in_order (filter_map (drafted j) lines) in
    let more : filter_map (drafted j) (Draft k x a ∷ lines) ≡ x ∷ filter_map (drafted j) lines = rw h refl in
    ap (λ (ps : List (List ℕ)). priced (draft_of j (Draft k x a ∷ lines)) (in_order ps)) more
    ∙ priced-placed (draft_of j lines) (draft_of j (Draft k x a ∷ lines)) x a ps
    (draft_of-draft j k x a lines x h ∙ cond-true (is_same x x) (Some a) _ (is_same-refl x))
    (λ q apart. draft_of-draft j k x a lines q h ∙ cond-false (is_same x q) (Some a) _ apart)
    (InOrder-in_order (filter_map (drafted j) lines))
draft_list-own j (Drop k x) lines h =
    priced-dropped (draft_of j lines) (draft_of j (Drop k x ∷ lines)) x (in_order (filter_map (drafted j) lines))
    (λ q same. draft_of-drop j k x lines q h ∙ cond-true (is_same x q) None _ same)
    (λ q apart. draft_of-drop j k x lines q h ∙ cond-false (is_same x q) None _ apart)
draft_list-own j (Submit k) lines h = priced-same (draft_of j lines) (draft_of j (Submit k ∷ lines)) (in_order (filter_map (drafted j) lines)) (λ q. refl)
draft_list-own j Close lines h = cc

-- a submission of bidder j's makes its draft list the submitted list, and any other line leaves this list
pub submitted_list-own : (j : ℕ) (e : Event) (lines : List Event) → submitted_list j (e ∷ lines) ≡
    (if is_submit j e then draft_list j lines else submitted_list j lines)
submitted_list-own j e lines = refl
