-- The lines of the winners, one bidder after the other.
use Rattle.std.specs.Prelude.{◌≡◌, ◌≢◌, ℕ, zero, suc, ◌+◌, ◌-◌, ◌≤◌, ◌<◌, List, [], ◌∷◌, ◌++◌, length, drop, refl}
use Rattle.std.proofs.Common.{sym, ◌∙◌, ap, arith, append_assoc, length-drop}
use Rattle.std.proofs.lemmas.List.{append-nil, drop_more}
use Rattle.auction_model.specs.Market.{number_of}
use Rattle.auction_model.specs.Book.{Book, BookBid, bid_of, bidder_of, lots_of}
use Rattle.print_grammar.specs.WinText.{winner_line, winner_lines}

here : (c : List ℕ) (k : ℕ) → k < length c → drop k c ≡ number_of c (k + 1) ∷ drop (k + 1) c
here c k h = let same : k + 1 - 1 ≡ k = omega arith in rw same (drop_more c k 0 h)

one-loses : (book : Book) (k i : ℕ) (c : List ℕ) → i ≡ 0 → winner_lines book k (i ∷ c) ≡ winner_lines book (suc k) c
one-loses book k i c none = rw none refl

one-wins : (book : Book) (k i : ℕ) (c : List ℕ) → i ≢ 0 → winner_lines book k (i ∷ c) ≡ winner_line (bidder_of book (suc k)).name (bid_of book (suc k) i)
    ++ winner_lines book (suc k) c
one-wins book k zero c some = absurd (some refl)
one-wins book k (suc i) c some = refl

-- a bidder that loses has no line
pub loses : (book : Book) (c : List ℕ) (k : ℕ) (text all : List ℕ) → k < length c → number_of c (k + 1) ≡ 0
    → text ++ winner_lines book k (drop k c) ≡ all → text ++ winner_lines book (k + 1) (drop (k + 1) c) ≡ all
loses book c k text all h none was =
    let up : k + 1 ≡ suc k = omega arith in
    let same : winner_lines book k (drop k c) ≡ winner_lines book (suc k) (drop (k + 1) c) = ap (winner_lines book k) (here c k h)
    ∙ one-loses book k (number_of c (k + 1)) (drop (k + 1) c) none in
    let next : text ++ winner_lines book (suc k) (drop (k + 1) c) ≡ all = ap (λ (l : List ℕ). text ++ l) (sym same) ∙ was in
    ap (λ (n : ℕ). text ++ winner_lines book n (drop (k + 1) c)) up ∙ next

-- a bidder that wins has the line of its bid
pub wins : (book : Book) (c : List ℕ) (k : ℕ) (text new all : List ℕ) (bid : BookBid) → k < length c → number_of c (k + 1) ≢ 0
    → bid.lots ≡ lots_of book (k + 1) (number_of c (k + 1)) → bid.amount ≡ (bid_of book (k + 1) (number_of c (k + 1))).amount
    → new ≡ text ++ winner_line (bidder_of book (k + 1)).name bid
    → text ++ winner_lines book k (drop k c) ≡ all → new ++ winner_lines book (k + 1) (drop (k + 1) c) ≡ all
wins book c k text new all bid h some lots amount is was =
    let up : k + 1 ≡ suc k = omega arith in
    let i = number_of c (k + 1) in
    let rest = winner_lines book (suc k) (drop (k + 1) c) in
    let own : bid ≡ bid_of book (k + 1) i = λ t. record { lots = lots t; amount = amount t } in
    let split : winner_lines book k (drop k c) ≡ winner_line (bidder_of book (suc k)).name (bid_of book (suc k) i) ++ rest =
    ap (winner_lines book k) (here c k h) ∙ one-wins book k i (drop (k + 1) c) some in
    let line : winner_line (bidder_of book (k + 1)).name bid ≡ winner_line (bidder_of book (suc k)).name (bid_of book (suc k) i) =
    ap (winner_line (bidder_of book (k + 1)).name) own ∙ ap (λ (n : ℕ). winner_line (bidder_of book n).name (bid_of book n i)) up in
    ap (λ (n : ℕ). new ++ winner_lines book n (drop (k + 1) c)) up
    ∙ ap (λ (l : List ℕ). l ++ rest) (is ∙ ap (λ (l : List ℕ). text ++ l) line)
    ∙ append_assoc text (winner_line (bidder_of book (suc k)).name (bid_of book (suc k) i)) rest
    ∙ ap (λ (l : List ℕ). text ++ l) (sym split)
    ∙ was

-- after the last bidder all lines are there
pub all-written : (book : Book) (c : List ℕ) (k : ℕ) (text all : List ℕ) → length c ≤ k → text ++ winner_lines book k (drop k c) ≡ all → text ≡ all
all-written book c k text all h was =
    let none : drop k c ≡ [] = empty (drop k c) (omega (arith, length-drop k c)) in
    sym (append-nil text) ∙ ap (λ (l : List ℕ). text ++ winner_lines book k l) (sym none) ∙ was
  where
    empty : (l : List ℕ) → length l ≡ 0 → l ≡ []
    empty [] e = refl
    empty (x ∷ l) e = absurd (omega (arith, e))
