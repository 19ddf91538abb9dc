-- The closed rounds' terms for the cap of one package, whatever the list is. Places are counted from 0.
use Rattle.std.specs.Prelude.{◌≡◌, ℕ, suc, ◌≤◌, List, [], ◌∷◌, length, if◌then◌else◌}
use Rattle.limits.specs.declared.TheConstants.{MOST_AMOUNT}
use Rattle.auction_model.specs.Package.{cost_of}
use Rattle.auction_model.specs.PackageTests.{is_empty, is_same}
use Rattle.auction_rules.specs.Rounds.{OwnRound}
use Rattle.auction_rules.specs.State.{Round}
use Rattle.relative_cap.specs.declared.terms.RoundTerms.{RoundTerms}
use Rattle.relative_cap.specs.declared.terms.PackageTerms.{PackageTerms}
use Rattle.relative_cap.specs.OwnRounds.{rounds_of, own_in, IsConstraining}

-- the place of the first round where the package was held, or the number of rounds if there is none
abbrev pub first_place : List OwnRound → List ℕ → ℕ
first_place [] lots = 0
first_place (r ∷ rounds) lots = if is_same r.held lots then 0 else suc (first_place rounds lots)

-- this place, and the number of rounds for the empty package
abbrev pub own_place : List Round → ℕ → List ℕ → ℕ
own_place history j lots = if is_empty lots then length history else first_place (rounds_of j history) lots

pub record IsRoundTerms (history : List Round) (j r : ℕ) (lots : List ℕ) (t : RoundTerms) : Type 0 where
  pub place : t.place ≡ first_place (rounds_of j history) (own_in history j r).held
  pub price : t.price ≡ cost_of (own_in history j r).prices lots
  pub most : t.price ≤ MOST_AMOUNT
  pub held : t.held ≡ cost_of (own_in history j r).prices (own_in history j r).held

pub record IsTerms (history : List Round) (points : List ℕ) (j : ℕ) (lots : List ℕ) (t : PackageTerms) : Type 0 where
  pub own : t.own ≡ own_place history j lots
  pub final : t.is_final ≡ is_same lots (own_in history j (length history)).held
  pub round : ℕ
  pub constraining : IsConstraining (cost_of points lots) history j round
  pub by_round : IsRoundTerms history j round lots t.constraining
  pub by_last : IsRoundTerms history j (length history) lots t.last
