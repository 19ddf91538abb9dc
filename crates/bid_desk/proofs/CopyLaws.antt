-- A list that is made another entry by entry.
use Rattle.std.proofs.Common.{◌≡◌, ℕ, ◌+◌, ◌<◌, ◌≤◌, List, [], ◌∷◌, ◌++◌, length, map, take, get_or, set, sym, ap, ◌∙◌, arith}
use Rattle.std.proofs.lemmas.List.{get_or-map, length-append, length-map, length-take, length-take-le, map-append, map-set, take-map, take_all}
use Rattle.std.proofs.lemmas.List.{take_more, take_more_set}
use Rattle.auction_model.specs.Book.{BookBid}
use Rattle.lots.specs.declared.«package».Bid.{Bid}
use Rattle.relative_cap.specs.OwnRounds.{bid_value}

-- that many entries are those of the other list
pub record IsCopied (place : ℕ) (from list : List Bid) : Type 0 where
  pub room : place ≤ length list
  pub same : take place (map bid_value list) ≡ take place (map bid_value from)

-- the entry at the place is overwritten
pub copied-over : (list : List Bid) (place : ℕ) (e bid : Bid) → place < length list → bid_value e ≡ bid_value bid
    → take (place + 1) (map bid_value (set list place e)) ≡ take place (map bid_value list) ++ (bid_value bid ∷ [])
copied-over list place e bid inside is =
    ap (take (place + 1)) (map-set bid_value list place e)
    ∙ take_more_set (map bid_value list) place (bid_value e) (omega (arith, inside, length-map list bid_value))
    ∙ ap (λ (b : BookBid). take place (map bid_value list) ++ (b ∷ [])) is

-- an entry is put after those before the place
pub copied-behind : (list cut new : List Bid) (place : ℕ) (e bid : Bid) → place ≤ length list → cut ≡ take place list → new ≡ cut ++ (e ∷ [])
    → bid_value e ≡ bid_value bid
    → take (place + 1) (map bid_value new) ≡ take place (map bid_value list) ++ (bid_value bid ∷ [])
copied-behind list cut new place e bid low by_cut by_push is =
    let whole : new ≡ take place list ++ (e ∷ []) = by_push ∙ ap (λ (xs : List Bid). xs ++ (e ∷ [])) by_cut in
    let size : length (map bid_value (take place list ++ (e ∷ []))) ≡ place + 1
    = length-map (take place list ++ (e ∷ [])) bid_value ∙ length-append (take place list) (e ∷ []) ∙ ap (λ n. n + 1) (length-take-le place list low) in
    ap (λ (xs : List Bid). take (place + 1) (map bid_value xs)) whole
    ∙ take_all (place + 1) (map bid_value (take place list ++ (e ∷ []))) (omega (arith, size))
    ∙ map-append bid_value (take place list) (e ∷ [])
    ∙ ap (λ (bs : List BookBid). bs ++ (bid_value e ∷ [])) (sym (take-map bid_value place list))
    ∙ ap (λ (b : BookBid). take place (map bid_value list) ++ (b ∷ [])) is

-- one entry more
pub copied-more : (from old list : List Bid) (place : ℕ) (bid : Bid) → place < length from → bid ≡ get_or from place bid → IsCopied place from old
    → take (place + 1) (map bid_value list) ≡ take place (map bid_value old) ++ (bid_value bid ∷ []) → IsCopied (place + 1) from list
copied-more from old list place bid inside at is put =
    let own : get_or (map bid_value from) place (bid_value bid) ≡ bid_value bid = get_or-map bid_value from place bid (bid_value bid) inside
    ∙ ap bid_value (sym at) in
    let more : take (place + 1) (map bid_value from) ≡ take place (map bid_value from) ++ (bid_value bid ∷ [])
    = take_more (map bid_value from) place (bid_value bid) (omega (arith, inside, length-map from bid_value))
    ∙ ap (λ (b : BookBid). take place (map bid_value from) ++ (b ∷ [])) own in
    let short : length (take place (map bid_value old)) ≡ place = length-take-le place (map bid_value old) (omega (arith, length-map old bid_value, is.room)) in
    let long : length (take (place + 1) (map bid_value list)) ≡ place + 1
    = ap (λ (bs : List BookBid). length bs) put ∙ length-append (take place (map bid_value old)) (bid_value bid ∷ []) ∙ ap (λ n. n + 1) short in
    record {
      room = omega (arith, long, length-take (place + 1) (map bid_value list), length-map list bid_value);
      same = put ∙ ap (λ (bs : List BookBid). bs ++ (bid_value bid ∷ [])) is.same ∙ sym more;
    }

-- all of them
pub copied-whole : (from list new : List Bid) (place : ℕ) → length from ≤ place → place ≤ length from → IsCopied place from list → new ≡ take (length from) list
    → map bid_value new ≡ map bid_value from
copied-whole from list new place past low is cut =
    let all : length from ≡ place = omega (arith, past, low) in
    ap (map bid_value) (cut ∙ ap (λ n. take n list) all) ∙ sym (take-map bid_value place list) ∙ is.same
    ∙ take_all place (map bid_value from) (omega (arith, past, length-map from bid_value))

abbrev pub bid_of : List ℕ → ℕ → Bid
bid_of lots amount = record { «package» = lots; amount = amount }

-- an entry made of the package and the amount of another one has its value
pub bid-same : (lots : List ℕ) (bid : Bid) → lots ≡ bid.«package» → bid_value (bid_of lots bid.amount) ≡ bid_value bid
bid-same lots bid is = ap (λ (q : List ℕ). bid_value (bid_of q bid.amount)) is
