-- Entries of which one was put in, overwritten or taken out, and of which what stands as better was then tested again.
use Rattle.std.specs.Prelude.{◌≡◌, ℕ, suc, ◌+◌, ◌≤◌, ◌<◌, List, [], ◌∷◌, ◌++◌, length, get_or, map, take, drop, refl}
use Rattle.std.proofs.Common.{set, sym, ◌∙◌, ap, subst, arith}
use Rattle.std.specs.List.{All, insert, remove}
use Rattle.std.proofs.lemmas.List.{get_or-map, map-append, map-set, set-get_or, take_more_set, take_all, take-map, drop-map, length-map}
use Rattle.std.proofs.lemmas.List.Elements.{All-append, All-cons, All-drop, All-set, All-take}
use Rattle.auction_model.specs.Book.{BookBid, no_bid}
use Rattle.auction_model.specs.Entries.{with_entry}
use Rattle.bid_book.specs.declared.book.Entry.{Entry}
use Rattle.bid_book.specs.Better.{AreBetter, BeatsAmong}
use Rattle.bid_book.specs.Changes.{IsPlaceIn}
use Rattle.bid_book.specs.Fields.{bid_value, HasNet}
use Rattle.bid_book.specs.Moved.{bare, AreSettled, IsPutIn}
use Rattle.bid_book.proofs.BetterLaws.{beats-as, better-push}
use Rattle.bid_book.proofs.PlaceLaws.{put-taken, put-free}

-- an entry with what was found
abbrev pub entry_with : Entry → ℕ → Entry
entry_with e better = record { bid = e.bid; net = e.net; better = better }

-- what was tested up to a place
pub record AreSettledTo (from to : List Entry) (i : ℕ) : Type 0 where
  pub same : map bare to ≡ map bare from
  pub done : AreBetter (take i to)

-- nothing yet
pub settled-none : (from : List Entry) → AreSettledTo from from 0
settled-none from = record { same = refl; done = λ i d inside. absurd (omega (arith, inside)) }

-- one entry more
pub settled-more : (from to : List Entry) (i better : ℕ) (e : Entry) → i < length to → e ≡ get_or to i e → AreSettledTo from to i
    → BeatsAmong (take i to) e better → AreSettledTo from (set to i (entry_with e better)) (i + 1)
settled-more from to i better e inside is was beats =
    let next = entry_with e better in
    let read : get_or (map bare to) i (bare e) ≡ bare e = get_or-map bare to i e (bare e) inside ∙ ap bare (sym is) in
    let kept : map bare (set to i next) ≡ map bare to = map-set bare to i next ∙ (ap (set (map bare to) i) (sym read) ∙ set-get_or (map bare to) i (bare e)) in
    record {
      same = kept ∙ was.same;
      done = subst AreBetter (sym (take_more_set to i next inside)) (better-push (take i to) next was.done
          (beats-as (take i to) (take i to) e better better refl beats));
    }

-- all entries
pub settled-all : (from to : List Entry) (i : ℕ) → length to ≤ i → AreSettledTo from to i → AreSettled from to
settled-all from to i all was = record { same = was.same; betters = subst AreBetter (take_all i to all) was.done }

-- the net amounts are those that was there
pub nets-same : (reserves : List ℕ) (from to : List Entry) → map bare to ≡ map bare from → All (HasNet reserves) from → All (HasNet reserves) to
nets-same reserves from to same nets k d inside =
    let count : length to ≡ length from = sym (length-map to bare) ∙ ap (λ (l : List Entry). length l) same ∙ length-map from bare in
    let there : k < length from = omega (arith, count, inside) in
    let read : bare (get_or from k d) ≡ bare (get_or to k d) =
    sym (get_or-map bare from k d (bare d) there) ∙ ap (λ (l : List Entry). get_or l k (bare d)) (sym same) ∙ get_or-map bare to k d (bare d) inside in
    subst (HasNet reserves) read (nets k d there)

values-bare : (xs : List Entry) → map bid_value (map bare xs) ≡ map bid_value xs
values-bare [] = refl
values-bare (x ∷ xs) = ap (λ (l : List BookBid). bid_value x ∷ l) (values-bare xs)

-- and so are the bids
pub values-same : (from to : List Entry) → map bare to ≡ map bare from → map bid_value to ≡ map bid_value from
values-same from to same = sym (values-bare to) ∙ ap (map bid_value) same ∙ values-bare from

-- ---- the values of a changed list

-- the values of a list with an element put in are its values with that of the element put in
pub map-insert : {A B : Type 0} (f : A → B) (xs : List A) (i : ℕ) (x : A) → map f (insert xs i x) ≡ insert (map f xs) i (f x)
map-insert f xs i x =
    map-append f (take i xs) (x ∷ drop i xs)
    ∙ ap (λ (l : List _). l ++ f x ∷ map f (drop i xs)) (sym (take-map f i xs))
    ∙ ap (λ (l : List _). take i (map f xs) ++ f x ∷ l) (sym (drop-map f i xs))

-- the values of a list with an element taken out are its values with that one taken out
pub map-remove : {A B : Type 0} (f : A → B) (xs : List A) (i : ℕ) → map f (remove xs i) ≡ remove (map f xs) i
map-remove f xs i =
    map-append f (take i xs) (drop (suc i) xs)
    ∙ ap (λ (l : List _). l ++ map f (drop (suc i) xs)) (sym (take-map f i xs))
    ∙ ap (λ (l : List _). take i (map f xs) ++ l) (sym (drop-map f (suc i) xs))

All-insert : {A : Type 0} (P : A → Type 0) (xs : List A) (i : ℕ) (x : A) → P x → All P xs → All P (insert xs i x)
All-insert P xs i x own all = All-append P (take i xs) (x ∷ drop i xs) (All-take P i xs all) (All-cons P x (drop i xs) own (All-drop P i xs all))

-- what holds of all elements still does with one taken out
pub All-remove : {A : Type 0} (P : A → Type 0) (xs : List A) (i : ℕ) → All P xs → All P (remove xs i)
All-remove P xs i all = All-append P (take i xs) (drop (suc i) xs) (All-take P i xs all) (All-drop P (suc i) xs all)

-- ---- what a bidder has then

-- an entry in the place of the one for its package
pub put-set :
    (old new : List Entry) (entry : Entry) (place : ℕ) → IsPlaceIn (map bid_value old) entry.bid.package place
    → (place < length old) × ((get_or (map bid_value old) place no_bid).lots ≡ entry.bid.package)
    → AreSettled (set old place entry) new → IsPutIn old entry new
put-set old new entry place at there settled =
    let count : length (map bid_value old) ≡ length old = length-map old bid_value in
    record {
      bids = values-same (set old place entry) new settled.same ∙ map-set bid_value old place entry
          ∙ sym (put-taken (map bid_value old) entry.bid.package entry.bid.amount place at.before (omega (arith, count, there.0)) there.1);
      nets = λ reserves nets net. nets-same reserves (set old place entry) new settled.same (All-set (HasNet reserves) old place entry net nets);
      betters = settled.betters;
    }

-- one entry more
pub put-insert :
    (old new : List Entry) (entry : Entry) (place : ℕ) → IsPlaceIn (map bid_value old) entry.bid.package place
    → ((place < length old) × ((get_or (map bid_value old) place no_bid).lots ≡ entry.bid.package) → ⊥)
    → AreSettled (insert old place entry) new → IsPutIn old entry new
put-insert old new entry place at other settled =
    let count : length (map bid_value old) ≡ length old = length-map old bid_value in
    record {
      bids = values-same (insert old place entry) new settled.same ∙ map-insert bid_value old place entry
          ∙ sym (put-free (map bid_value old) entry.bid.package entry.bid.amount place at.before at.last at.behind
          (λ there. other (omega (arith, count, there.0), there.1)));
      nets = λ reserves nets net. nets-same reserves (insert old place entry) new settled.same (All-insert (HasNet reserves) old place entry net nets);
      betters = settled.betters;
    }

-- the bids that a bidder has then
pub put-list : (had : List BookBid) (old new : List Entry) (entry : Entry) (bid : BookBid) → had ≡ map bid_value old → bid_value entry ≡ bid
    → IsPutIn old entry new → map bid_value new ≡ with_entry bid.lots bid.amount had
put-list had old new entry bid own is put =
    put.bids ∙ ap (λ (b : BookBid). with_entry b.lots b.amount (map bid_value old)) is ∙ ap (with_entry bid.lots bid.amount) (sym own)

-- one entry less
pub taken-list : (had : List BookBid) (old new : List Entry) (place : ℕ) → had ≡ map bid_value old → AreSettled (remove old place) new
    → map bid_value new ≡ remove had place
taken-list had old new place own settled =
    values-same (remove old place) new settled.same ∙ map-remove bid_value old place ∙ ap (λ (l : List BookBid). remove l place) (sym own)
