-- The book of a desk's state.
use Rattle.std.proofs.Common.{◌≡◌, ℕ, suc, ◌-◌, ◌≤◌, ◌<◌, false, List, [], sym, ◌∙◌, ap, subst, arith, length, get_or}
use Rattle.std.specs.Prelude.{sum}
use Rattle.std.specs.List.{All, AllByRecursion}
use Rattle.std.proofs.lemmas.List.{get_or_default}
use Rattle.auction_model.specs.Book.{Book, BookBid}
use Rattle.book_grammar.specs.BookLines.{IsBookWithinLimits}
use Rattle.auction_rules.specs.declared.Event.{Event}
use Rattle.auction_rules.specs.declared.Stage.TheVariants as stage
use Rattle.auction_rules.specs.BookOfLog.{book_by, book_of_log}
use Rattle.auction_rules.specs.Lawful.{HasCategories, IsDraft}
use Rattle.auction_rules.specs.Lines.{closes, held_in}
use Rattle.auction_model.specs.PackageTests.{is_empty}
use Rattle.auction_rules.specs.Replies.{admitted, is_clock}
use Rattle.auction_rules.specs.Rounds.{closed_after, own_round}
use Rattle.auction_rules.specs.State.{DeskState, Round, book_in, round_of, state_of}
use Rattle.auction_rules.specs.Terms.{Terms}
use Rattle.auction_rules.proofs.KeptStandings.{rounds-some}
use Rattle.auction_rules.proofs.LawfulBids.{each-weaker}
use Rattle.auction_rules.proofs.States.{length-listing}
use Rattle.award_file.specs.Award.{IsAward}
use Rattle.clock_stage.specs.Kept.{bidders_in, categories_in}
use Rattle.bid_desk.specs.BookBids.{AreBooked, IsBooked, bids_by}
use Rattle.bid_desk.specs.Known.{IsKnown, submitted_of}
use Rattle.bid_desk.specs.Reached.{IsReached}
use Rattle.bid_desk.proofs.ReachedLaws.{known-reached, submitted-count}

-- what a bidder submitted may be in a book
known-booked : (terms : Terms) (desk : DeskState) (j : ℕ) → IsKnown terms desk j → IsBooked (length terms.supply) (submitted_of desk j)
known-booked terms desk j known = record {
  kept = known.kept_last;
  some = each-weaker (IsDraft terms j) (λ (b : BookBid). is_empty b.lots ≡ false) (submitted_of desk j) (λ b draft. draft.some) known.submitted.each;
}

-- a desk has a submitted list for each bidder
lists-count : (desk : DeskState) → IsReached desk → length desk.submitted ≡ length desk.terms.bidders
lists-count desk reached = ap (λ (s : DeskState). length s.submitted) reached.stands ∙ submitted-count desk.terms reached.log

-- and each may be in a book
lists-booked : (desk : DeskState) → sum desk.terms.supply ≤ 40 → IsReached desk → All (IsBooked (length desk.terms.supply)) desk.submitted
lists-booked desk few reached k d inside =
    let place : suc k - 1 ≡ k = omega arith in
    let own : submitted_of desk (suc k) ≡ get_or desk.submitted k d = ap (λ (n : ℕ). get_or desk.submitted n []) place
    ∙ get_or_default desk.submitted k [] d inside in
    subst (IsBooked (length desk.terms.supply)) own
    (known-booked desk.terms desk (suc k) (known-reached desk (suc k) few reached (omega arith) (omega (arith, inside, lists-count desk reached))))

-- once the clock has stopped a round is closed, also if the award has no bidder
round-closed : (terms : Terms) (log : List Event) → is_clock (state_of terms log).stage ≡ false → 1 ≤ length (state_of terms log).rounds
unfolding state_of
round-closed terms log over =
    let lines : List Event = admitted terms log in
    let n : ℕ = closed_after terms (held_in terms lines) (closes lines) in
    omega (
      arith,
      rounds-some terms log 1 over,
      length-listing (own_round terms (held_in terms lines) 1) n,
      length-listing (round_of terms (held_in terms lines)) n,
    )

rounds-there : (desk : DeskState) → IsReached desk → desk.stage ≡ stage.Closed → 1 ≤ length desk.rounds
rounds-there desk reached closed =
    subst (λ (s : DeskState). is_clock s.stage ≡ false → 1 ≤ length s.rounds) (sym reached.stands) (round-closed desk.terms reached.log) (ap is_clock closed)

-- a closed desk has what a book is made of
pub desk-booked : (desk : DeskState) (rounds : List Round) (lists : List (List BookBid)) (bidders categories : ℕ) → IsReached desk → IsAward desk.terms
    → desk.stage ≡ stage.Closed
    → rounds ≡ desk.rounds → lists ≡ desk.submitted
    → (0 < length desk.rounds → bidders_in rounds ≡ bidders) → bidders ≡ length desk.terms.bidders
    → (0 < length desk.rounds → categories_in rounds ≡ categories) → categories ≡ length desk.terms.supply
    → AreBooked desk.terms rounds lists
desk-booked desk rounds lists bidders categories reached award closed by_rounds by_lists of_bidders all_bidders of_categories all_categories =
    let there : 1 ≤ length desk.rounds = rounds-there desk reached closed in
    let each : All (IsBooked (categories_in rounds)) desk.submitted
    = subst (λ (n : ℕ). All (IsBooked n) desk.submitted) (sym (of_categories there ∙ all_categories)) (lists-booked desk award.supply.lots reached) in
    record {
      some = omega (arith, there, ap (λ (rs : List Round). length rs) by_rounds);
      bidders = of_bidders there ∙ all_bidders;
      count = ap (λ (ls : List (List BookBid)). length ls) by_lists ∙ lists-count desk reached;
      each = subst (All (IsBooked (categories_in rounds))) (sym by_lists) each;
    }

-- the book of a desk's rounds and lists
pub book-same : (desk : DeskState) (rounds : List Round) (lists : List (List BookBid)) → rounds ≡ desk.rounds → lists ≡ desk.submitted
    → book_by desk.terms (bids_by rounds lists) ≡ book_in desk
book-same desk rounds lists by_rounds by_lists =
    ap (λ (rs : List Round). book_by desk.terms (bids_by rs lists)) by_rounds ∙ ap (λ (ls : List (List BookBid)). book_by desk.terms (bids_by desk.rounds ls))
    by_lists

-- and it keeps the limits
pub book-within : (desk : DeskState) (book : Book) → IsReached desk → IsAward desk.terms
    → ((terms : Terms) (log : List Event) → book_in (state_of terms log) ≡ book_of_log terms log)
    → ((terms : Terms) (log : List Event) → IsAward terms → AllByRecursion (HasCategories terms) log → IsBookWithinLimits (book_of_log terms log))
    → book ≡ book_in desk → IsBookWithinLimits book
book-within desk book reached award of_log within is =
    subst IsBookWithinLimits (sym (is ∙ ap book_in reached.stands ∙ of_log desk.terms reached.log)) (within desk.terms reached.log award reached.categories)
