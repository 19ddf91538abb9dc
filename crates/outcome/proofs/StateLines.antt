-- The line of a book's state that is put together in two parts.
use Rattle.std.proofs.Common.{◌≡◌, ◌∙◌, ap, refl, ℕ, ℤ, List, ◌++◌, codes, append_assoc}
use Rattle.std.specs.Fmt.{decimal, signed_decimal}
use Rattle.auction_model.specs.Book.{Book, market_of}
use Rattle.auction_model.specs.Greatest.{IsWinning}
use Rattle.auction_model.specs.Market.{value_of}
use Rattle.line_format.specs.Decimals.{decimals_text}
use Rattle.outcome.specs.ReviewText.{IsStateLine, state_line}

pub regroup : (t n w v c d e : List ℕ) → (((((t ++ n) ++ w) ++ v) ++ c) ++ d) ++ e ≡ t ++ (((((n ++ w) ++ v) ++ c) ++ d) ++ e)
regroup t n w v c d e = simp append_assoc

-- the number and the value, and then the choice, are the line of a winning choice of this value
pub state_put : (t middle new : List ℕ) (n : ℕ) (book : Book) (z numbers : List ℕ) (net : ℤ)
    → middle ≡ ((t ++ decimal n) ++ codes " net ") ++ signed_decimal net
    → new ≡ ((middle ++ codes " choice") ++ decimals_text numbers) ++ codes "\n"
    → net ≡ value_of (market_of book) z → numbers ≡ z → IsWinning (market_of book) z
    → (line : List ℕ) × IsStateLine n book line × (new ≡ t ++ line)
state_put t middle new n book z numbers net first second is-net are-numbers winning =
    let behind : List ℕ → List ℕ → List ℕ = λ l k. ((l ++ codes " choice") ++ decimals_text k) ++ codes "\n" in
    let before : ℤ → List ℕ = λ x. ((t ++ decimal n) ++ codes " net ") ++ signed_decimal x in
    let whole : new ≡ behind (before (value_of (market_of book) z)) z =
    second ∙ ap (λ (l : List ℕ). behind l numbers) first ∙ ap (λ (x : ℤ). behind (before x) numbers) is-net
    ∙ ap (λ (k : List ℕ). behind (before (value_of (market_of book) z)) k) are-numbers in (
      state_line n book z,
      (z, winning, refl),
      whole ∙ regroup t (decimal n) (codes " net ") (signed_decimal (value_of (market_of book) z)) (codes " choice")
          (decimals_text z) (codes "\n"),
    )
