-- How the draft list of a bidder differs from its submitted list.
use Rattle.std.specs.Prelude.{◌≡◌, ℕ, zero, suc, ◌<◌, List, [], ◌∷◌, length, slice_index_or, slice_set}
use Rattle.auction_model.specs.Book.{BookBid}
use Rattle.bid_desk.specs.Slots.{entry_of}
use Rattle.bid_desk.specs.declared.difference.Difference.{Difference}
use Rattle.bid_desk.specs.declared.difference.Difference.TheVariants.{Nothing, AmountAt, Anything}

-- two lists are the same except for the amount of the entry at this place
abbrev pub IsSameButAt : ℕ → List BookBid → List BookBid → Type 0
IsSameButAt place [] others = ⊥
IsSameButAt place (b ∷ list) [] = ⊥
IsSameButAt zero (b ∷ list) (c ∷ others) = (b.lots ≡ c.lots) × (list ≡ others)
IsSameButAt (suc place) (b ∷ list) (c ∷ others) = (b ≡ c) × IsSameButAt place list others

abbrev pub Differs : Difference → List BookBid → List BookBid → Type 0
Differs Nothing list others = list ≡ others
Differs (AmountAt place) list others = IsSameButAt place list others
Differs Anything list others = Unit {0}

-- the amount of the entry at this place is set
pub record SetsAmount (old : List BookBid) (place amount : ℕ) (new : List BookBid) : Type 0 where
  pub inside : place < length old
  pub entry : BookBid
  pub was : slice_index_or old place entry ≡ entry
  pub set : new ≡ slice_set old place (entry_of entry.lots amount)
