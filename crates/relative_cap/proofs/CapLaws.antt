-- Caps, by the rounds of a history.
use Rattle.std.proofs.Common.{◌≡◌, ℕ, ◌≤◌, min, Bool, true, false, List, Some, None, length, sym, ◌∙◌, ap}
use Rattle.std.proofs.lemmas.Bool.{cond-true, cond-false}
use Rattle.auction_model.specs.Book.{BookBid}
use Rattle.auction_model.specs.Package.{cost_of}
use Rattle.auction_model.specs.PackageTests.{is_same}
use Rattle.auction_rules.specs.Rounds.{OwnRound}
use Rattle.auction_rules.specs.State.{Round}
use Rattle.auction_rules.specs.Caps.{cap_among, cap_by, cap_of, constraining, last_round}
use Rattle.relative_cap.specs.OwnRounds.{rounds_of, own_in, IsConstraining}
use Rattle.relative_cap.proofs.RoundLaws.{constraining-is, last_round-is}

-- what bidder j held in the final round
pub last-held : (history : List Round) (j last : ℕ) (held : List ℕ) → 1 ≤ length history → last ≡ length history → held ≡ (own_in history j last).held
    → held ≡ (last_round (rounds_of j history)).held
last-held history j last held some is by_held =
    by_held ∙ ap (λ n. (own_in history j n).held) is ∙ ap (λ (o : OwnRound). o.held) (sym (last_round-is history j some))

-- the package held in the final round has no cap
pub cap-none : (final : Bool) (points : List ℕ) (rounds : List OwnRound) (list : List BookBid) (lots held : List ℕ) → held ≡ (last_round rounds).held
    → is_same lots held ≡ true
    → None ≡ cap_of final points rounds list lots
cap-none final points rounds list lots held by_held same = sym (cond-true (is_same lots (last_round rounds).held) None _
    (sym (ap (is_same lots) by_held) ∙ same))

-- a package other than that held in the final round has the cap of the rounds
pub cap-some : (final : Bool) (points : List ℕ) (rounds : List OwnRound) (list : List BookBid) (lots held : List ℕ) (amount : ℕ)
    → held ≡ (last_round rounds).held
    → is_same lots held ≡ false → amount ≡ cap_among final points rounds list lots → Some amount ≡ cap_of final points rounds list lots
cap-some final points rounds list lots held amount by_held apart is =
    ap (λ (n : ℕ). Some n) is ∙ sym (cond-false (is_same lots (last_round rounds).held) None _ (sym (ap (is_same lots) by_held) ∙ apart))

-- without the final cap the cap is that by the constraining round
pub cap-by_round : (final : Bool) (points : List ℕ) (history : List Round) (list : List BookBid) (lots : List ℕ) (j r round_cap : ℕ) → final ≡ false
    → IsConstraining (cost_of points lots) history j r → round_cap ≡ cap_by (rounds_of j history) list (own_in history j r) lots
    → round_cap ≡ cap_among final points (rounds_of j history) list lots
cap-by_round true points history list lots j r round_cap plain is cap = cc
cap-by_round false points history list lots j r round_cap plain is cap =
    cap ∙ ap (λ (o : OwnRound). cap_by (rounds_of j history) list o lots) (sym (constraining-is (cost_of points lots) history j r is))

-- with the final cap the cap is the lesser of those by the constraining round and by the final round
pub cap-by_final : (final : Bool) (points : List ℕ) (history : List Round) (list : List BookBid) (lots : List ℕ) (j r last round_cap final_cap least : ℕ)
    → final ≡ true
    → IsConstraining (cost_of points lots) history j r → 1 ≤ length history → last ≡ length history
    → round_cap ≡ cap_by (rounds_of j history) list (own_in history j r) lots
    → final_cap ≡ cap_by (rounds_of j history) list (own_in history j last) lots
    → least ≡ min round_cap final_cap
    → least ≡ cap_among final points (rounds_of j history) list lots
cap-by_final false points history list lots j r last round_cap final_cap least lesser is some at by_round by_last min_is = cc
cap-by_final true points history list lots j r last round_cap final_cap least lesser is some at by_round by_last min_is =
    let first : round_cap ≡ cap_by (rounds_of j history) list (constraining (cost_of points lots) (rounds_of j history)) lots
    = by_round ∙ ap (λ (o : OwnRound). cap_by (rounds_of j history) list o lots) (sym (constraining-is (cost_of points lots) history j r is)) in
    let second : final_cap ≡ cap_by (rounds_of j history) list (last_round (rounds_of j history)) lots
    = by_last ∙ ap (λ (o : OwnRound). cap_by (rounds_of j history) list o lots) (ap (own_in history j) at ∙ sym (last_round-is history j some)) in
    min_is ∙ ap (λ n. min n final_cap) first ∙ ap (min _) second
