-- The highest amounts over the entries that are tested, and the caps that these say.
use Rattle.std.proofs.Common.{Bool, List, None, [], ap, arith, drop, false, get_or, inl, inr, length, map, max, min, refl, set, subst}
use Rattle.std.proofs.Common.{suc, sym, take, true, ℕ, ◌++◌, ◌+◌, ◌-◌, ◌<◌, ◌∙◌, ◌∷◌, ◌≡◌, ◌≤◌}
use Rattle.std.specs.Prelude.{if◌then◌else◌, nat_lt, slice_index}
use Rattle.std.specs.List.{All, insert, remove}
use Rattle.std.proofs.lemmas.Bool.{cases_Bool, cond-true, cond-false, ltb-false, false≢true}
use Rattle.std.proofs.lemmas.List.{append_assoc, get_or-map, get_or-set_other, get_or-set_same, length-append, length-map, length-set, length-take}
use Rattle.std.proofs.lemmas.List.{length-take-le, map-append, map-set, take-map, take_all, take_at, take_more, take_more_set}
use Rattle.std.proofs.lemmas.List.Edits.{length-remove}
use Rattle.std.proofs.lemmas.List.Elements.{All-append, All-cons, All-take, All-drop}
use Rattle.auction_model.specs.Book.{BookBid}
use Rattle.auction_model.specs.Package.{cost_of}
use Rattle.auction_model.specs.PackageTests.{is_empty, is_same}
use Rattle.auction_rules.specs.Rounds.{OwnRound}
use Rattle.auction_rules.specs.State.{Round}
use Rattle.auction_rules.specs.Caps.{cap_among, cap_by, cap_of, clock_bid, greatest, highest, last_round}
use Rattle.auction_model.proofs.PackageTestLaws.{is_same-refl, is_same-true}
use Rattle.auction_rules.proofs.BookCaps.{greatest-append}
use Rattle.lots.specs.declared.«package».Bid.{Bid}
use Rattle.relative_cap.specs.declared.terms.RoundTerms.{RoundTerms}
use Rattle.relative_cap.specs.declared.terms.PackageTerms.{PackageTerms}
use Rattle.relative_cap.specs.declared.entries.TestedEntry.{TestedEntry}
use Rattle.relative_cap.specs.OwnRounds.{amount_for, bid_value, rounds_of, own_in}
use Rattle.relative_cap.specs.Levels.{AreHighsFrom}
use Rattle.relative_cap.specs.RoundsOfPackage.{IsRoundTerms, IsTerms, first_place, own_place}
use Rattle.relative_cap.specs.Tested.{AreHighs, IsHighest, IsTested, FitsRound, FitsTerms, raised, round_cap, terms_cap, tested_bid, tested_lots}
use Rattle.relative_cap.proofs.AmountLaws.{price-least}
use Rattle.relative_cap.proofs.CapLaws.{cap-none, cap-some, cap-by_round, cap-by_final}
use Rattle.relative_cap.proofs.RoundLaws.{last_round-is}
use Rattle.relative_cap.proofs.FirstPlace.{first-held, first-inside}

-- ---- the highest amounts

-- over the clock alone
pub highs-clock : (history : List Round) (j : ℕ) (clock : List ℕ) → length history ≤ length clock → AreHighsFrom 0 history j clock → AreHighs history j [] clock
highs-clock history j clock room are = record {
  room = room;
  each = λ lots inside.
      let place : ℕ = first_place (rounds_of j history) lots in
      record {
        is = (are place (omega arith) inside).0 ∙ ap (highest (rounds_of j history) []) (first-held history j lots inside);
        most = (are place (omega arith) inside).1;
      };
}

-- one bid more
highest-more : (rounds : List OwnRound) (bids : List BookBid) (b : BookBid) (lots : List ℕ) → is_empty lots ≡ false
    → highest rounds (bids ++ b ∷ []) lots ≡ max (highest rounds bids lots) (amount_for lots b)
highest-more rounds bids b lots some =
    let one : highest rounds (bids ++ b ∷ []) lots ≡ greatest lots (map clock_bid rounds ++ (bids ++ b ∷ [])) = cond-false (is_empty lots) 0 _ some in
    let two : highest rounds bids lots ≡ greatest lots (map clock_bid rounds ++ bids) = cond-false (is_empty lots) 0 _ some in
    let more : greatest lots (bids ++ b ∷ []) ≡ max (greatest lots bids) (greatest lots (b ∷ [])) = greatest-append lots bids (b ∷ []) in
    let last : greatest lots (b ∷ []) ≡ amount_for lots b = omega arith in
    omega (arith, one, two, more, last, greatest-append lots (map clock_bid rounds) (bids ++ b ∷ []), greatest-append lots (map clock_bid rounds) bids)

highest-none : (rounds : List OwnRound) (bids more : List BookBid) (lots : List ℕ) → is_empty lots ≡ true → highest rounds more lots ≡ highest rounds bids lots
highest-none rounds bids more lots empty = cond-true (is_empty lots) 0 _ empty ∙ sym (cond-true (is_empty lots) 0 _ empty)

highest-other : (rounds : List OwnRound) (bids : List BookBid) (b : BookBid) (lots : List ℕ) → is_same b.lots lots ≡ false
    → highest rounds (bids ++ b ∷ []) lots ≡ highest rounds bids lots
highest-other rounds bids b lots apart =
    elim (cases_Bool (is_empty lots)) [
      | inl empty ↦ highest-none rounds bids (bids ++ b ∷ []) lots empty
      | inr some ↦ let none : amount_for lots b ≡ 0 = cond-false (is_same b.lots lots) b.amount 0 apart in
          omega (arith, none, highest-more rounds bids b lots some)
    ]

-- the list with the amount of an entry at the place of its package
abbrev Raises : List Round → ℕ → List BookBid → List ℕ → TestedEntry → Type 0
Raises history j bids highs e = AreHighs history j (bids ++ tested_bid e ∷ []) (raised e.terms.own e.bid.amount highs)

raised-length : (place amount : ℕ) (highs : List ℕ) → length (raised place amount highs) ≡ length highs
raised-length place amount highs =
    elim (cases_Bool (nat_lt place (length highs))) [
      | inl inside ↦ ap (λ (xs : List ℕ). length xs) (cond-true (nat_lt place (length highs)) _ highs inside)
          ∙ length-set highs place (max (slice_index highs place) amount)
      | inr past ↦ ap (λ (xs : List ℕ). length xs) (cond-false (nat_lt place (length highs)) (set highs place (max (slice_index highs place) amount)) highs
          past)
    ]

-- another place keeps its amount
raised-other : (place amount k : ℕ) (highs : List ℕ) → (k ≡ place → ⊥) → slice_index (raised place amount highs) k ≡ slice_index highs k
raised-other place amount k highs apart =
    elim (cases_Bool (nat_lt place (length highs))) [
      | inl inside ↦ ap (λ (xs : List ℕ). slice_index xs k) (cond-true (nat_lt place (length highs)) _ highs inside)
          ∙ get_or-set_other highs place k (max (slice_index highs place) amount) 0 apart
      | inr past ↦ ap (λ (xs : List ℕ). slice_index xs k) (cond-false (nat_lt place (length highs)) (set highs place (max (slice_index highs place) amount))
          highs past)
    ]

raised-same : (place amount : ℕ) (highs : List ℕ) → place < length highs → slice_index (raised place amount highs) place ≡ max (slice_index highs place) amount
raised-same place amount highs inside =
    elim (cases_Bool (nat_lt place (length highs))) [
      | inl there ↦ ap (λ (xs : List ℕ). slice_index xs place) (cond-true (nat_lt place (length highs)) _ highs there)
          ∙ get_or-set_same highs place (max (slice_index highs place) amount) 0 inside
      | inr past ↦ absurd (omega (arith, ltb-false place (length highs) past))
    ]

-- if the package is that of the entry
raise-own : (history : List Round) (points : List ℕ) (j : ℕ) (bids : List BookBid) (highs lots : List ℕ) (e : TestedEntry) → IsTested history points j e
    → AreHighs history j bids highs
    → e.bid.«package» ≡ lots → is_empty lots ≡ false → first_place (rounds_of j history) lots < length history
    → IsHighest (rounds_of j history) (bids ++ tested_bid e ∷ []) lots (slice_index (raised e.terms.own e.bid.amount highs)
    (first_place (rounds_of j history) lots))
raise-own history points j bids highs lots e tested are own some inside =
    let place : ℕ = first_place (rounds_of j history) lots in
    let at : e.terms.own ≡ place = tested.terms.own ∙ ap (own_place history j) own ∙ cond-false (is_empty lots) (length history) place some in
    let amount : amount_for lots (tested_bid e) ≡ e.bid.amount
    = ap (λ (q : List ℕ). if is_same q lots then e.bid.amount else 0) own ∙ cond-true (is_same lots lots) e.bid.amount 0 (is_same-refl lots) in
    let new : slice_index (raised e.terms.own e.bid.amount highs) place ≡ max (slice_index highs place) e.bid.amount
    = ap (λ n. slice_index (raised n e.bid.amount highs) place) at ∙ raised-same place e.bid.amount highs (omega (arith, inside, are.room)) in
    record {
      is = omega (arith, new, amount, (are.each lots inside).is, highest-more (rounds_of j history) bids (tested_bid e) lots some);
      most = omega (arith, new, (are.each lots inside).most, tested.entry.amount);
    }

-- if it isn't, or is empty
raise-other : (history : List Round) (j : ℕ) (bids : List BookBid) (highs lots : List ℕ) (e : TestedEntry) → AreHighs history j bids highs
    → (first_place (rounds_of j history) lots ≡ e.terms.own → ⊥) → highest (rounds_of j history) (bids ++ tested_bid e ∷ []) lots ≡ highest
    (rounds_of j history) bids lots
    → first_place (rounds_of j history) lots < length history
    → IsHighest (rounds_of j history) (bids ++ tested_bid e ∷ []) lots (slice_index (raised e.terms.own e.bid.amount highs)
    (first_place (rounds_of j history) lots))
raise-other history j bids highs lots e are apart same inside =
    let kept : slice_index (raised e.terms.own e.bid.amount highs) (first_place (rounds_of j history) lots) ≡ slice_index highs
    (first_place (rounds_of j history) lots)
    = raised-other e.terms.own e.bid.amount (first_place (rounds_of j history) lots) highs apart in
    record { is = kept ∙ (are.each lots inside).is ∙ sym same; most = omega (arith, kept, (are.each lots inside).most) }

-- the place of an entry is that of a package only if both are the same, and not empty
own-same : (history : List Round) (points : List ℕ) (j : ℕ) (lots : List ℕ) (e : TestedEntry) → IsTested history points j e
    → first_place (rounds_of j history) lots < length history → first_place (rounds_of j history) lots ≡ e.terms.own
    → (is_same e.bid.«package» lots ≡ true) × (is_empty e.bid.«package» ≡ false)
own-same history points j lots e tested inside meet =
    elim (cases_Bool (is_empty e.bid.«package»)) [
      | inl empty ↦
          let past : own_place history j e.bid.«package» ≡ length history = cond-true (is_empty e.bid.«package») (length history) _ empty in
          absurd (omega (arith, past, tested.terms.own, meet, inside))
      | inr some ↦
          let at : first_place (rounds_of j history) lots ≡ first_place (rounds_of j history) e.bid.«package»
          = meet ∙ tested.terms.own ∙ cond-false (is_empty e.bid.«package») (length history) _ some in
          let there : first_place (rounds_of j history) e.bid.«package» < length history = omega (arith, at, inside) in
          let one : e.bid.«package» ≡ lots
          = sym (first-held history j e.bid.«package» there) ∙ ap (λ n. (own_in history j (n + 1)).held) (sym at) ∙ first-held history j lots inside in
          (ap (λ (q : List ℕ). is_same q lots) one ∙ is_same-refl lots, some)
    ]

-- over one tested entry more the amount at the place of its package is raised to its amount
pub highs-more : (history : List Round) (points : List ℕ) (j : ℕ) (bids : List BookBid) (highs : List ℕ) (e : TestedEntry) → IsTested history points j e
    → AreHighs history j bids highs
    → AreHighs history j (bids ++ tested_bid e ∷ []) (raised e.terms.own e.bid.amount highs)
highs-more history points j bids highs e tested are = record {
  room = omega (arith, raised-length e.terms.own e.bid.amount highs, are.room);
  each = λ lots inside. elim (cases_Bool (is_same e.bid.«package» lots)) [
    | inl same ↦
        let own : e.bid.«package» ≡ lots = is_same-true e.bid.«package» lots same in
        elim (cases_Bool (is_empty lots)) [
          | inl empty ↦
              let was : is_empty e.bid.«package» ≡ true = ap is_empty own ∙ empty in
              raise-other history j bids highs lots e are (λ meet. false≢true (sym (own-same history points j lots e tested inside meet).1 ∙ was))
              (highest-none (rounds_of j history) bids (bids ++ tested_bid e ∷ []) lots empty) inside
          | inr some ↦ raise-own history points j bids highs lots e tested are own some inside
        ]
    | inr apart ↦
        raise-other history j bids highs lots e are (λ meet. false≢true (sym apart ∙ (own-same history points j lots e tested inside meet).0))
        (highest-other (rounds_of j history) bids (tested_bid e) lots apart) inside
  ];
}

-- ---- caps

module _ (history : List Round) (j : ℕ) (bids : List BookBid) (highs lots : List ℕ) (r : ℕ) (t : RoundTerms) (are : AreHighs history j bids highs)
    (low : 1 ≤ r) (high : r ≤ length history) (is : IsRoundTerms history j r lots t) where
  -- what is among the highest amounts at the place of a round is that of the package held in it
  round-high : IsHighest (rounds_of j history) bids (own_in history j r).held (slice_index highs t.place)
  round-high =
      subst (λ place. IsHighest (rounds_of j history) bids (own_in history j r).held (slice_index highs place)) (sym is.place)
      (are.each (own_in history j r).held (first-inside history j r low high))

  round-fits : FitsRound highs t
  round-fits = record {
    inside = omega (arith, is.place, first-inside history j r low high, are.room);
    high = round-high.most;
    price = is.most;
    held = omega (arith, round-high.is, is.held, price-least history bids j r (own_in history j r).prices (own_in history j r).held low high refl refl);
  }

  round-cap : round_cap highs t ≡ cap_by (rounds_of j history) bids (own_in history j r) lots
  round-cap =
      ap (λ n. n + t.price - t.held) round-high.is
      ∙ ap (λ n. highest (rounds_of j history) bids (own_in history j r).held + n - t.held) is.price
      ∙ ap (λ n. highest (rounds_of j history) bids (own_in history j r).held + cost_of (own_in history j r).prices lots - n) is.held

-- what the rounds say of a package fits the highest amounts: its places are among them, and its costs are small
pub terms-fit : (history : List Round) (points : List ℕ) (j : ℕ) (bids : List BookBid) (highs lots : List ℕ) (t : PackageTerms)
    → AreHighs history j bids highs → 1 ≤ length history
    → IsTerms history points j lots t → FitsTerms highs t
terms-fit history points j bids highs lots t are some is = record {
  constraining = round-fits history j bids highs lots is.round t.constraining are is.constraining.first is.constraining.last is.by_round;
  last = round-fits history j bids highs lots (length history) t.last are some (omega arith) is.by_last;
}

among-is :
    (final : Bool) (history : List Round) (points : List ℕ) (j : ℕ) (bids : List BookBid) (highs lots : List ℕ) (t : PackageTerms)
    → AreHighs history j bids highs → 1 ≤ length history
    → IsTerms history points j lots t
    → (if final then min (round_cap highs t.constraining) (round_cap highs t.last) else round_cap highs t.constraining) ≡ cap_among final points
    (rounds_of j history) bids lots
among-is true history points j bids highs lots t are some is =
    cap-by_final true points history bids lots j is.round (length history) (round_cap highs t.constraining)
    (round_cap highs t.last) _ refl is.constraining some refl
    (round-cap history j bids highs lots is.round t.constraining are is.constraining.first is.constraining.last is.by_round)
    (round-cap history j bids highs lots (length history) t.last are some (omega arith) is.by_last) refl
among-is false history points j bids highs lots t are some is =
    cap-by_round false points history bids lots j is.round (round_cap highs t.constraining) refl is.constraining
    (round-cap history j bids highs lots is.round t.constraining are is.constraining.first is.constraining.last is.by_round)

-- the cap that the rounds say over the highest amounts
pub terms-cap :
    (final : Bool) (history : List Round) (points : List ℕ) (j : ℕ) (bids : List BookBid) (highs lots : List ℕ) (t : PackageTerms)
    → AreHighs history j bids highs
    → 1 ≤ length history → IsTerms history points j lots t → terms_cap final highs t ≡ cap_of final points (rounds_of j history) bids lots
terms-cap final history points j bids highs lots t are some is =
    let held : (own_in history j (length history)).held ≡ (last_round (rounds_of j history)).held = ap (λ (o : OwnRound). o.held)
    (sym (last_round-is history j some)) in
    elim (cases_Bool t.is_final) [
      | inl free ↦ cond-true t.is_final None _ free ∙ cap-none final points (rounds_of j history) bids lots (own_in history j (length history)).held held
          (sym is.final ∙ free)
      | inr capped ↦ cond-false t.is_final None _ capped
          ∙ cap-some final points (rounds_of j history) bids lots (own_in history j (length history)).held _ held (sym is.final ∙ capped)
          (among-is final history points j bids highs lots t are some is)
    ]

-- ---- entries

-- the bids before the place are these
pub record IsFront (history : List Round) (points : List ℕ) (j place : ℕ) (before : List BookBid) (entries : List TestedEntry) : Type 0 where
  pub room : place ≤ length entries
  pub each : All (IsTested history points j) entries
  pub same : take place (map tested_bid entries) ≡ before

bids-count : (entries : List TestedEntry) → length (map tested_bid entries) ≡ length entries
bids-count entries = length-map entries tested_bid

-- an entry at the place is taken out
pub front-removed : (history : List Round) (points : List ℕ) (j place : ℕ) (before : List BookBid) (entries new : List TestedEntry) → place < length entries
    → IsFront history points j place before entries → new ≡ remove entries place → IsFront history points j place before new
front-removed history points j place before entries new inside front is =
    let short : length (take place entries) ≡ place = length-take-le place entries front.room in
    let start : take place (take place entries ++ drop (suc place) entries) ≡ take place entries = take_at (take place entries)
    (drop (suc place) entries) place short in
    record {
      room = omega (arith, ap (λ (es : List TestedEntry). length es) is, length-remove entries place inside);
      each = subst (All (IsTested history points j)) (sym is)
          (All-append (IsTested history points j) (take place entries) (drop (suc place) entries)
          (All-take (IsTested history points j) place entries front.each) (All-drop (IsTested history points j) (suc place) entries front.each));
      same = take-map tested_bid place new ∙ ap (λ (es : List TestedEntry). map tested_bid (take place es)) is ∙ ap (map tested_bid) start
          ∙ sym (take-map tested_bid place entries) ∙ front.same;
    }

-- an entry is put in at the place
pub front-inserted :
    (history : List Round) (points : List ℕ) (j place : ℕ) (before : List BookBid) (entries new : List TestedEntry) (e : TestedEntry)
    (b : BookBid)
    → IsFront history points j place before entries → new ≡ insert entries place e → tested_bid e ≡ b → take (place + 1) (map tested_bid new) ≡ before ++ b ∷ []
front-inserted history points j place before entries new e b front is own =
    let short : length (take place entries ++ e ∷ []) ≡ place + 1 = omega (
      arith,
      length-append (take place entries) (e ∷ []),
      length-take-le place entries front.room,
    ) in
    let start : take (place + 1) ((take place entries ++ e ∷ []) ++ drop place entries) ≡ take place entries ++ e ∷ []
    = take_at (take place entries ++ e ∷ []) (drop place entries) (place + 1) short in
    let split : insert entries place e ≡ (take place entries ++ e ∷ []) ++ drop place entries =
    sym (append_assoc (take place entries) (e ∷ []) (drop place entries)) in
    take-map tested_bid (place + 1) new ∙ ap (λ (es : List TestedEntry). map tested_bid (take (place + 1) es)) (is ∙ split) ∙ ap (map tested_bid) start
    ∙ map-append tested_bid (take place entries) (e ∷ [])
    ∙ ap (λ (bs : List BookBid). bs ++ tested_bid e ∷ []) (sym (take-map tested_bid place entries) ∙ front.same)
    ∙ ap (λ (x : BookBid). before ++ x ∷ []) own

-- if a tested entry is put in, all entries are tested ones
pub inserted-each :
    (history : List Round) (points : List ℕ) (j place : ℕ) (before : List BookBid) (entries new : List TestedEntry) (e : TestedEntry)
    → IsFront history points j place before entries → new ≡ insert entries place e → IsTested history points j e → All (IsTested history points j) new
inserted-each history points j place before entries new e front is own =
    subst (All (IsTested history points j)) (sym is)
    (All-append (IsTested history points j) (take place entries) (e ∷ drop place entries) (All-take (IsTested history points j) place entries front.each)
    (All-cons (IsTested history points j) e (drop place entries) own (All-drop (IsTested history points j) place entries front.each)))

-- the entry at the place becomes this one, and those before it stay
pub set-at : (place : ℕ) (entries : List TestedEntry) (e : TestedEntry) (b : BookBid) → place < length entries → tested_bid e ≡ b
    → take (place + 1) (map tested_bid (set entries place e)) ≡ take place (map tested_bid entries) ++ b ∷ []
set-at place entries e b inside own =
    ap (take (place + 1)) (map-set tested_bid entries place e)
    ∙ take_more_set (map tested_bid entries) place (tested_bid e) (omega (arith, inside, bids-count entries))
    ∙ ap (λ (x : BookBid). take place (map tested_bid entries) ++ x ∷ []) own

-- after those that come before the place
pub front-set : (history : List Round) (points : List ℕ) (j place : ℕ) (before : List BookBid) (entries : List TestedEntry) (e : TestedEntry) (b : BookBid)
    → place < length entries
    → IsFront history points j place before entries → tested_bid e ≡ b → take (place + 1) (map tested_bid (set entries place e)) ≡ before ++ b ∷ []
front-set history points j place before entries e b inside front own =
    set-at place entries e b inside own ∙ ap (λ (bs : List BookBid). bs ++ b ∷ []) front.same

-- one bid of the list more
pub front-more : (history : List Round) (points : List ℕ) (j place : ℕ) (list : List Bid) (bid : Bid) (old entries : List TestedEntry) → place < length list
    → bid ≡ get_or list place bid
    → IsFront history points j place (take place (map bid_value list)) old → All (IsTested history points j) entries
    → take (place + 1) (map tested_bid entries) ≡ take place (map tested_bid old) ++ bid_value bid ∷ []
    → IsFront history points j (place + 1) (take (place + 1) (map bid_value list)) entries
front-more history points j place list bid old entries inside at front each put =
    let count : length (map bid_value list) ≡ length list = length-map list bid_value in
    let own : get_or (map bid_value list) place (bid_value bid) ≡ bid_value bid = get_or-map bid_value list place bid (bid_value bid) inside
    ∙ ap bid_value (sym at) in
    let more : take (place + 1) (map bid_value list) ≡ take place (map bid_value list) ++ bid_value bid ∷ []
    = take_more (map bid_value list) place (bid_value bid) (omega (arith, inside, count)) ∙ ap (λ (b : BookBid). take place (map bid_value list) ++ b ∷ [])
    own in
    let short : length (take place (map tested_bid old)) ≡ place = length-take-le place (map tested_bid old) (omega (arith, bids-count old, front.room)) in
    let long : length (take (place + 1) (map tested_bid entries)) ≡ place + 1
    = ap (λ (bs : List BookBid). length bs) put ∙ length-append (take place (map tested_bid old)) (bid_value bid ∷ []) ∙ ap (λ n. n + 1) short in
    record {
      room = omega (arith, long, length-take (place + 1) (map tested_bid entries), bids-count entries);
      each = each;
      same = put ∙ ap (λ (bs : List BookBid). bs ++ bid_value bid ∷ []) front.same ∙ sym more;
    }

-- after the last bid nothing is left
pub front-whole : (history : List Round) (points : List ℕ) (j place : ℕ) (list : List Bid) (entries new : List TestedEntry) → length list ≤ place
    → place ≤ length list
    → IsFront history points j place (take place (map bid_value list)) entries → new ≡ take (length list) entries → map tested_bid new ≡ map bid_value list
front-whole history points j place list entries new past low front is =
    let all : length list ≡ place = omega arith in
    ap (map tested_bid) (is ∙ ap (λ n. take n entries) all) ∙ sym (take-map tested_bid place entries) ∙ front.same
    ∙ take_all place (map bid_value list) (omega (arith, past, length-map list bid_value))

abbrev bid_with : List ℕ → ℕ → BookBid
bid_with lots amount = record { lots = lots; amount = amount }

-- the entry at the place with the amount of a bid for its package
pub bid-there : (read entries : List TestedEntry) (place : ℕ) (e : TestedEntry) (bid : Bid) → read ≡ entries → place < length entries
    → get_or (map tested_lots read) place [] ≡ bid.«package»
    → e ≡ get_or entries place e → record { lots = e.bid.«package»; amount = bid.amount } ≡ bid_value bid
bid-there read entries place e bid is inside same at =
    let own : get_or (map tested_lots read) place [] ≡ e.bid.«package»
    = ap (λ (es : List TestedEntry). get_or (map tested_lots es) place []) is ∙ get_or-map tested_lots entries place e [] inside ∙ ap tested_lots (sym at) in
    ap (λ (q : List ℕ). bid_with q bid.amount) (sym own ∙ same)

-- one entry more
pub entries-more : (history : List Round) (points : List ℕ) (j : ℕ) (entries : List TestedEntry) (k : ℕ) (e : TestedEntry) (highs new : List ℕ)
    → k < length entries → e ≡ get_or entries k e
    → All (IsTested history points j) entries → AreHighs history j (map tested_bid (take k entries)) highs → new ≡ raised e.terms.own e.bid.amount highs
    → AreHighs history j (map tested_bid (take (k + 1) entries)) new
entries-more history points j entries k e highs new inside at each are is =
    let tested : IsTested history points j e = subst (IsTested history points j) (sym at) (each k e inside) in
    let more : map tested_bid (take (k + 1) entries) ≡ map tested_bid (take k entries) ++ tested_bid e ∷ []
    = ap (map tested_bid) (take_more entries k e inside) ∙ map-append tested_bid (take k entries) (get_or entries k e ∷ [])
    ∙ ap (λ (x : TestedEntry). map tested_bid (take k entries) ++ tested_bid x ∷ []) (sym at) in
    subst (λ (bids : List BookBid). AreHighs history j bids new) (sym more)
    (subst (AreHighs history j (map tested_bid (take k entries) ++ tested_bid e ∷ [])) (sym is)
    (highs-more history points j (map tested_bid (take k entries)) highs e tested are))

-- all entries
pub entries-all : (history : List Round) (j : ℕ) (entries : List TestedEntry) (k : ℕ) (highs : List ℕ) → length entries ≤ k
    → AreHighs history j (map tested_bid (take k entries)) highs
    → AreHighs history j (map tested_bid entries) highs
entries-all history j entries k highs past are = subst (λ (es : List TestedEntry). AreHighs history j (map tested_bid es) highs) (take_all k entries past) are

-- ---- tests of a list

-- what the rounds say of each tested entry fits the highest amounts
pub fits-each : (history : List Round) (points : List ℕ) (j : ℕ) (bids : List BookBid) (highs : List ℕ) (entries : List TestedEntry)
    → AreHighs history j bids highs → 1 ≤ length history
    → All (IsTested history points j) entries → All (λ e. FitsTerms highs e.terms) entries
fits-each history points j bids highs entries are some each =
    λ k d inside. terms-fit history points j bids highs (get_or entries k d).bid.«package» (get_or entries k d).terms are some (each k d inside).terms

-- each tested entry has the cap of the rules
pub caps-each : (final : Bool) (history : List Round) (points : List ℕ) (j : ℕ) (bids : List BookBid) (highs : List ℕ) (entries : List TestedEntry)
    → AreHighs history j bids highs
    → 1 ≤ length history → All (IsTested history points j) entries
    → All (λ e. terms_cap final highs e.terms ≡ cap_of final points (rounds_of j history) bids e.bid.«package») entries
caps-each final history points j bids highs entries are some each =
    λ k d inside. terms-cap final history points j bids highs (get_or entries k d).bid.«package» (get_or entries k d).terms are some (each k d inside).terms

-- the highest amounts over the entries are those over the list
pub highs-list : (history : List Round) (points : List ℕ) (j : ℕ) (clock read_clock highs read_highs : List ℕ) (entries read : List TestedEntry)
    (bids : List BookBid)
    → length history ≤ length clock → AreHighsFrom 0 history j clock → read_clock ≡ clock → read ≡ entries → read_highs ≡ highs
    → All (IsTested history points j) entries
    → map tested_bid entries ≡ bids
    → ((h : List Round) (p : List ℕ) (i : ℕ) → AreHighs h i [] read_clock → All (IsTested h p i) read → AreHighs h i (map tested_bid read) highs)
    → AreHighs history j bids read_highs
highs-list history points j clock read_clock highs read_highs entries read bids room are by_clock by_entries by_highs each same gives =
    subst (AreHighs history j bids) (sym by_highs)
    (subst (λ (bs : List BookBid). AreHighs history j bs highs) (ap (map tested_bid) by_entries ∙ same)
    (gives history points j (subst (AreHighs history j []) (sym by_clock) (highs-clock history j clock room are))
    (subst (All (IsTested history points j)) (sym by_entries) each)))
