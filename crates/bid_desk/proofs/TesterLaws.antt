-- The testers that a desk keeps.
use Rattle.std.proofs.Common.{Bool, List, None, Option, Some, ap, arith, false, get_or, inl, inr, length, set, subst, sym, true, ℕ, ◌+◌, ◌-◌}
use Rattle.std.proofs.Common.{◌<◌, ◌∙◌, ◌≡◌, ◌≤◌}
use Rattle.std.specs.Prelude.{replicate}
use Rattle.std.proofs.lemmas.Bool.{cases_order}
use Rattle.std.proofs.lemmas.List.{length-set, length-replicate, get_or-set_same, get_or-set_other, get_or-replicate}
use Rattle.auction_rules.specs.State.{DeskState, Round, drafts_of}
use Rattle.auction_rules.specs.Terms.{Terms}
use Rattle.auction_model.specs.Book.{BookBid}
use Rattle.clock_stage.specs.ClockState.{ClockState}
use Rattle.relative_cap.specs.Tested.{Tester, IsTester}
use Rattle.bid_desk.specs.DeskValue.{desk_value}
use Rattle.bid_desk.specs.Lists.{Lists}
use Rattle.bid_desk.specs.Testers.{AreFor, AreTesters, IsKeptFor, IsKeptIn, IsTesterOrNew}
use Rattle.bid_desk.proofs.SealedLaws.{drafts-read}

-- ---- while the clock runs there is none

kept-running : (terms : Terms) (clock new : ClockState) (j : ℕ) (kept : Option Tester) → clock.running ≡ true → IsKeptIn terms clock j kept
    → IsKeptIn terms new j kept
kept-running terms clock new j None runs is = tt
kept-running terms clock new j (Some t) runs is = let stopped : clock.running ≡ false = is.0 in absurd cc

-- the testers at a running clock are right at any other clock
pub testers-running : (terms : Terms) (clock new : ClockState) (testers : List (Option Tester)) → clock.running ≡ true → AreTesters terms clock testers
    → AreTesters terms new testers
testers-running terms clock new testers runs are = record {
  count = are.count;
  each = λ k d inside. kept-running terms clock new (k + 1) (get_or testers k d) runs (are.each k d inside);
}

-- if no bidder has a tester, the testers are right at any clock
pub testers-start : (terms : Terms) (clock : ClockState) (count : ℕ) (testers : List (Option Tester)) → count ≡ length terms.bidders
    → testers ≡ replicate count None → AreTesters terms clock testers
testers-start terms clock count testers all is =
    let size : length testers ≡ count = ap (λ (ts : List (Option Tester)). length ts) is ∙ length-replicate {A = Option Tester} count None in
    record {
      count = size ∙ all;
      each = λ k d inside.
          subst (IsKeptIn terms clock (k + 1))
          (sym (ap (λ (ts : List (Option Tester)). get_or ts k d) is ∙ get_or-replicate count k None d (omega (arith, inside, size)))) tt;
    }

-- ---- once it has stopped

kept-for : (terms : Terms) (clock : ClockState) (j : ℕ) (kept : Option Tester) → IsKeptIn terms clock j kept → IsKeptFor clock.rounds terms.points j kept
kept-for terms clock j None is = tt
kept-for terms clock j (Some t) is = is.1

kept-in : (terms : Terms) (clock : ClockState) (j : ℕ) (kept : Option Tester) → clock.running ≡ false → IsKeptFor clock.rounds terms.points j kept
    → IsKeptIn terms clock j kept
kept-in terms clock j None stopped is = tt
kept-in terms clock j (Some t) stopped is = (stopped, is)

-- the testers at a clock are for its closed rounds and the points of the award
pub testers-for : (terms : Terms) (clock : ClockState) (testers : List (Option Tester)) (history : List Round) (points : List ℕ) → history ≡ clock.rounds
    → points ≡ terms.points
    → AreTesters terms clock testers → AreFor history points testers
testers-for terms clock testers history points by_history by_points are =
    subst (λ (h : List Round). AreFor h points testers) (sym by_history)
    (subst (λ (p : List ℕ). AreFor clock.rounds p testers) (sym by_points)
    (λ k d inside. kept-for terms clock (k + 1) (get_or testers k d) (are.each k d inside)))

-- at a clock that has stopped as many testers for its closed rounds and the points are right
pub testers-in : (terms : Terms) (clock : ClockState) (old testers : List (Option Tester)) (history : List Round) (points : List ℕ) → history ≡ clock.rounds
    → points ≡ terms.points
    → clock.running ≡ false → AreTesters terms clock old → length testers ≡ length old → AreFor history points testers → AreTesters terms clock testers
testers-in terms clock old testers history points by_history by_points stopped are count is =
    let own : AreFor clock.rounds terms.points testers
    = subst (λ (p : List ℕ). AreFor clock.rounds p testers) by_points (subst (λ (h : List Round). AreFor h points testers) by_history is) in
    record { count = count ∙ are.count; each = λ k d inside. kept-in terms clock (k + 1) (get_or testers k d) stopped (own k d inside) }

-- ---- one of them

-- the tester that was kept, or a new one
tester-of : (rounds : List Round) (points : List ℕ) (j : ℕ) (kept : Option Tester) (t : Tester) → IsKeptFor rounds points j kept
    → IsTesterOrNew rounds j kept t → IsTester rounds points j t
tester-of rounds points j None t is new = new points
tester-of rounds points j (Some own) t is same = subst (IsTester rounds points j) (sym same) is

-- the tester of a bidder, the one that was kept or a new one, is right for its rounds and points
pub tester-taken : (rounds : List Round) (points : List ℕ) (j : ℕ) (testers : List (Option Tester)) (kept d : Option Tester) (t : Tester) → 1 ≤ j
    → j - 1 < length testers → AreFor rounds points testers
    → kept ≡ get_or testers (j - 1) d → IsTesterOrNew rounds j kept t → IsTester rounds points j t
tester-taken rounds points j testers kept d t low inside are at new =
    let next : j - 1 + 1 ≡ j = omega arith in
    let own : IsKeptFor rounds points j kept
    = subst (IsKeptFor rounds points j) (sym at) (subst (λ (n : ℕ). IsKeptFor rounds points n (get_or testers (j - 1) d)) next (are (j - 1) d inside)) in
    tester-of rounds points j kept t own new

-- with another one in a place
pub testers-set : (rounds : List Round) (points : List ℕ) (place : ℕ) (testers : List (Option Tester)) (t : Option Tester) → place < length testers
    → AreFor rounds points testers
    → IsKeptFor rounds points (place + 1) t → AreFor rounds points (set testers place t)
testers-set rounds points place testers t inside are own k d below =
    elim (cases_order k place) [
      | inl same ↦ subst (λ (n : ℕ). IsKeptFor rounds points (n + 1) (get_or (set testers place t) n d)) (sym same)
          (subst (IsKeptFor rounds points (place + 1)) (sym (get_or-set_same testers place t d inside)) own)
      | inr other ↦
          let apart : k ≡ place → ⊥ = λ e. elim other [ inl less ↦ absurd (omega (arith, less, e)) | inr more ↦ absurd (omega (arith, more, e)) ] in
          subst (IsKeptFor rounds points (k + 1)) (sym (get_or-set_other testers place k t d apart))
          (are k d (omega (arith, below, length-set testers place t)))
    ]

-- the slot is emptied, and filled again
pub testers-back : (rounds : List Round) (points : List ℕ) (j : ℕ) (testers : List (Option Tester)) (none : Option Tester) (t : Tester) → 1 ≤ j
    → j - 1 < length testers → none ≡ None
    → AreFor rounds points testers → IsTester rounds points j t → AreFor rounds points (set (set testers (j - 1) none) (j - 1) (Some t))
testers-back rounds points j testers none t low inside empty are own =
    let next : j ≡ j - 1 + 1 = omega arith in
    testers-set rounds points (j - 1) (set testers (j - 1) none) (Some t) (omega (arith, inside, length-set testers (j - 1) none))
    (testers-set rounds points (j - 1) testers none inside are (subst (IsKeptFor rounds points (j - 1 + 1)) (sym empty) tt))
    (subst (λ (n : ℕ). IsTester rounds points n t) next own)

-- the draft list of a bidder that was read at its place
pub drafts_of-read : (terms : Terms) (clock : ClockState) (closed : Bool) (bidders : List Lists) (j : ℕ) (d old : Lists) (now : DeskState)
    (drafts : List BookBid) → j - 1 < length bidders
    → old ≡ get_or bidders (j - 1) d → drafts ≡ old.drafts → desk_value terms clock closed bidders ≡ now → drafts ≡ drafts_of now j
drafts_of-read terms clock closed bidders j d old now drafts inside read is view =
    is ∙ drafts-read terms clock closed bidders j d old inside read ∙ ap (λ (s : DeskState). drafts_of s j) view
