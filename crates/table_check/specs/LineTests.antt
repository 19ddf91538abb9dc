-- The rules of a table for the bids that it is tested for, line by line.
use Rattle.std.specs.Prelude.{◌≡◌, ℕ, ◌+◌, ◌-◌, ◌*◌, ◌<◌, ◌≤◌, IsTrue, List, length, ℤ, pos, ◌+ℤ◌, ◌≤ℤ◌}
use Rattle.auction_model.specs.Package.{is_within, less}
use Rattle.auction_model.specs.Place.{left_at, place_of, states_of}
use Rattle.auction_model.specs.Table.{entry_at}
use Rattle.auction_model.specs.Menu.{Menu, without}
use Rattle.auction_model.specs.Book.{lots_of, menu_of}
use Rattle.cert_soundness.specs.Tests.{ObeysAt, bidders_of, states}
use Rattle.wide_num.specs.Sums.{nth}
use Rattle.table_check.specs.Worths.{worth_with}
use Rattle.table_check.specs.declared.offers.TestedBids.{TestedBids}

-- the bids that count
abbrev pub offered : TestedBids → Menu
offered o = without (menu_of o.book.now) o.skip

-- what each is worth, by its bidder and its number
abbrev pub worth_of : TestedBids → ℕ → ℕ → ℤ
worth_of o = worth_with o.book.now o.den o.gains.now

-- a line is nowhere below the line below it, or below 0
abbrev pub KeepsNone : List ℤ → List ℤ → ℕ → Type 0
KeepsNone line below s = s < length line → nth below s ≤ℤ nth line s

abbrev pub KeepsZero : List ℤ → ℕ → Type 0
KeepsZero line s = s < length line → pos 0 ≤ℤ nth line s

-- what bid i of bidder j asks of its line at a place
abbrev pub KeepsBid : TestedBids → ℕ → List ℤ → List ℤ → ℕ → ℕ → Type 0
KeepsBid o j line below i s =
    s < states o.book.now → IsTrue (is_within (lots_of o.book.now j i) (left_at o.book.now.supply s))
    → (worth_of o j i +ℤ nth below (place_of o.book.now.supply (less (left_at o.book.now.supply s) (lots_of o.book.now j i)))) ≤ℤ nth line s

-- the rules of the line of bidder j at a place, for its first `some` bids
pub record KeepsSome (o : TestedBids) (j : ℕ) (line below : List ℤ) (some s : ℕ) : Type 0 where
  pub none : KeepsNone line below s
  pub bid : (i : ℕ) → 0 < i → i ≤ some → KeepsBid o j line below i s

-- the rules of line k at a place
abbrev pub ObeysIn : TestedBids → List (List ℤ) → ℕ → ℕ → Type 0
ObeysIn o table k s = s < states o.book.now → ObeysAt (offered o) (worth_of o) o.book.now.supply table k s

-- the rules of all lines at a number, which names a line and a place
abbrev pub RulesAt : TestedBids → List (List ℤ) → ℕ → Type 0
RulesAt o table place =
    (k s : ℕ) → k ≤ bidders_of o.book.now → s < states o.book.now → place ≡ k * states o.book.now + s
    → ObeysAt (offered o) (worth_of o) o.book.now.supply table k s

-- a whole table: the rules of its lines, and after them what line 0 may have at most for the whole supply
pub record TableAt (m : Menu) (worth : ℕ → ℕ → ℤ) (supply : List ℕ) (table : List (List ℤ)) (most : ℤ) (place : ℕ) : Type 0 where
  pub rules : (k s : ℕ) → k ≤ m.bidders → s < states_of supply → place ≡ k * states_of supply + s
      → ObeysAt m worth supply table k s
  pub top : place ≡ (m.bidders + 1) * states_of supply → entry_at table 0 (states_of supply - 1) ≤ℤ most

abbrev pub TestsTable : TestedBids → List (List ℤ) → ℤ → ℕ → Type 0
TestsTable o table most place = TableAt (offered o) (worth_of o) o.book.now.supply table most place

-- an earlier number of bidder j, or none, takes no more than its bid i and is worth at least as much
pub record IsNeedless (o : TestedBids) (j i : ℕ) : Type 0 where
  pub other : ℕ
  pub earlier : other < i
  pub smaller : IsTrue (is_within (lots_of o.book.now j other) (lots_of o.book.now j i))
  pub worth : 0 < other → worth_of o j i ≤ℤ worth_of o j other
  pub none : other ≡ 0 → worth_of o j i ≤ℤ pos 0
