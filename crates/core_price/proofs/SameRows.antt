-- Turns go on alike from two lists of rows with the same bounds and the same bidders.
use Rattle.std.specs.Prelude.{◌≡◌, ℕ, suc, ◌<◌, ◌≤◌, MatchOption, Option, List, [], ◌∷◌, ◌++◌, length, get_or, ℤ, pos, ◌*ℤ◌, refl}
use Rattle.std.specs.List.{AllByRecursion}
use Rattle.std.specs.declared.option.Option.TheVariants.{Some, None}
use Rattle.std.proofs.Common.{sym, ap, arith}
use Rattle.std.proofs.lemmas.Int.{ints}
use Rattle.auction_model.specs.Market.{Market}
use Rattle.auction_model.specs.Lowered.{of_bidder}
use Rattle.auction_model.specs.Prices.{Point}
use Rattle.auction_model.specs.Blocks.{IsGreatestExcess}
use Rattle.auction_model.specs.PricingRun.{BidderBlock, BidderRow, BidderTurn, GoOn, IsBlockOf, IsTurnPoint, MeetsBidderRows, MeetsRow}
use Rattle.core_laws.proofs.Rows.{over-same}

-- the rows have the same bound and the same bidders
pub record IsSame (m : Market) (a b : BidderRow) : Type 0 where
  pub bound : a.bound ≡ b.bound
  pub members : (j : ℕ) → 0 < j → j ≤ m.bidders → a.members j ≡ b.members j

abbrev pub AreSame : Market → List BidderRow → List BidderRow → Type 0
AreSame m [] [] = Unit {0}
AreSame m [] (b ∷ bs) = ⊥
AreSame m (a ∷ as_) [] = ⊥
AreSame m (a ∷ as_) (b ∷ bs) = IsSame m a b × AreSame m as_ bs

-- lists of the same length with the same row at each place are the same
pub same-by_place : (m : Market) (d : BidderRow) (xs ys : List BidderRow) → length xs ≡ length ys → ((i : ℕ) → i < length xs → IsSame m (get_or xs i d) (get_or ys i d))
    → AreSame m xs ys
same-by_place m d [] [] long h = tt
same-by_place m d [] (y ∷ ys) long h = absurd (omega arith)
same-by_place m d (x ∷ xs) [] long h = absurd (omega arith)
same-by_place m d (x ∷ xs) (y ∷ ys) long h = (h 0 (omega arith), same-by_place m d xs ys (omega arith) (λ i lt. h (suc i) (omega arith)))

turned : (m : Market) (a b : BidderRow) → IsSame m a b → IsSame m b a
turned m a b h = record { bound = sym h.bound; members = λ j some inside. sym (h.members j some inside) }

same-turned : (m : Market) (xs ys : List BidderRow) → AreSame m xs ys → AreSame m ys xs
same-turned m [] [] h = tt
same-turned m [] (y ∷ ys) h = absurd h
same-turned m (x ∷ xs) [] h = absurd h
same-turned m (x ∷ xs) (y ∷ ys) h = (turned m x y h.0, same-turned m xs ys h.1)

same-more : (m : Market) (xs ys : List BidderRow) (r : BidderRow) → AreSame m xs ys → AreSame m (xs ++ r ∷ []) (ys ++ r ∷ [])
same-more m [] [] r h = (record { bound = refl; members = λ j some inside. refl }, tt)
same-more m [] (y ∷ ys) r h = absurd h
same-more m (x ∷ xs) [] r h = absurd h
same-more m (x ∷ xs) (y ∷ ys) r h = (h.0, same-more m xs ys r h.1)

one-same : (m : Market) (p : Point) (a b : BidderRow) → IsSame m a b → MeetsRow m p a → MeetsRow m p b
one-same m p a b h met =
    let s = over-same a.members b.members (of_bidder p.at) m.bidders h.members in
    let e = ap (λ (t : ℤ). p.den *ℤ t) h.bound in
    omega (arith, ints, s, e, met)

each-same : (m : Market) (p : Point) (xs ys : List BidderRow) → AreSame m xs ys → AllByRecursion (MeetsRow m p) xs → AllByRecursion (MeetsRow m p) ys
each-same m p [] [] h met = tt
each-same m p [] (y ∷ ys) h met = absurd h
each-same m p (x ∷ xs) [] h met = absurd h
each-same m p (x ∷ xs) (y ∷ ys) h met = (one-same m p x y h.0 met.0, each-same m p xs ys h.1 met.1)

meets-same : (m : Market) (z : List ℕ) (p : Point) (xs ys : List BidderRow) → AreSame m xs ys → MeetsBidderRows m z xs p → MeetsBidderRows m z ys p
meets-same m z p xs ys h met = record { den_positive = met.den_positive; bidders = met.bidders; losers = met.losers; each = each-same m p xs ys h met.each }

point-same : (m : Market) (w : ℕ → ℕ) (z : List ℕ) (v : ℕ → ℤ) (p : Point) (xs ys : List BidderRow) → AreSame m xs ys → IsTurnPoint m w z v xs p
    → IsTurnPoint m w z v ys p
point-same m w z v p xs ys h t = record {
  meets = meets-same m z p xs ys h t.meets;
  least = λ q met. t.least q (meets-same m z q ys xs (same-turned m xs ys h) met);
  nearest = λ q met same other. t.nearest q (meets-same m z q ys xs (same-turned m xs ys h) met) same other;
}

-- turns that go on from some rows go on from the same rows in another list
pub go-same : (m : Market) (w : ℕ → ℕ) (z : List ℕ) (v : ℕ → ℤ) (xs ys : List BidderRow) (turns : List BidderTurn) → AreSame m xs ys → GoOn m w z v xs turns
    → GoOn m w z v ys turns
go-same m w z v xs ys [] h go = go
go-same m w z v xs ys (t ∷ turns) h go = (
  point-same m w z v t.point xs ys h go.0,
  by t.block (λ b more. go-same m w z v (xs ++ b.row ∷ []) (ys ++ b.row ∷ []) turns
      (same-more m xs ys b.row h) more) go.1,
)
  where
    by : (o : Option BidderBlock) → ((b : BidderBlock) → GoOn m w z v (xs ++ b.row ∷ []) turns → GoOn m w z v (ys ++ b.row ∷ []) turns)
        → MatchOption o ((turns ≡ []) × IsGreatestExcess m z t.point (pos 0)) (λ b. IsBlockOf m z t.point b × GoOn m w z v (xs ++ b.row ∷ []) turns)
        → MatchOption o ((turns ≡ []) × IsGreatestExcess m z t.point (pos 0)) (λ b. IsBlockOf m z t.point b × GoOn m w z v (ys ++ b.row ∷ []) turns)
    by None f r = r
    by (Some b) f r = (r.0, f b r.1)
