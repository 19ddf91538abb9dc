-- The reading of a line, and the reader's position after it.
use Rattle.std.specs.Prelude.{◌≡◌, ℕ, ◌+◌, ◌≤◌, ◌<◌, Bool, false, List, [], ◌∷◌, codes, ◌++◌, length, take, drop, ℤ, pos}
use Rattle.line_format.specs.LineText.{IsLine}
use Rattle.line_format.specs.Numeral.{numbers_text}
use Rattle.cert_grammar.specs.Lines.{Line, Kind, Numbers, chosen, counted, kind, FitNumbers, AreNumbers, after_numbers}
use Rattle.line_format.specs.Range.{any_out}
use Rattle.cert_grammar.specs.CertText.{as_numbers, line}
use Rattle.cert_grammar.specs.Reading.{ReachedBy}
use Rattle.cert_text.specs.Stops.{StopsBy}
use Rattle.cert_text.specs.declared.stop.CertStop.{CertStop}

-- at the place is a line of the word and numbers, and this is kept of them
pub record IsLineAt (bytes : List ℕ) (place : ℕ) (word : List ℕ) (items : List ℤ) (beyond : Bool) (next : ℕ) : Type 0 where
  pub size : ℕ
  pub is_line : IsLine (take size (drop place bytes))
  pub feed : drop size (drop place bytes) ≡ 10 ∷ drop (size + 1) (drop place bytes)
  pub inside : size < length (drop place bytes)
  pub next_is : next ≡ place + (size + 1)
  pub numbers : List ℤ
  pub spelled : take size (drop place bytes) ≡ word ++ numbers_text numbers
  pub count : length items ≡ length numbers
  pub out : any_out numbers ≡ beyond
  pub same : beyond ≡ false → items ≡ numbers

-- With these kinds of lines to come at the place, in a text by any plan, the lines from there on lead to the next place, if
-- those kinds are left.
pub record Leads (bytes : List ℕ) (place : ℕ) (kinds : List Kind) (next : ℕ) (left : List Kind) (read : List Line) : Type 0 where
  pub leads : (whole plan : List Kind) (items : List Line) → ReachedBy whole bytes place (kinds ++ plan) items
      → ReachedBy whole bytes next (left ++ plan) (items ++ read)

-- With these kinds of lines to come at the place, this is the stop.
pub record Halts (bytes : List ℕ) (place : ℕ) (kinds : List Kind) (stop : CertStop) : Type 0 where
  pub halts : (whole plan : List Kind) (items : List Line) → ReachedBy whole bytes place (kinds ++ plan) items
      → StopsBy whole bytes stop

-- With nothing to come at the place, this is the stop.
abbrev pub HaltsAtEnd : List ℕ → ℕ → CertStop → Type 0
HaltsAtEnd bytes place stop = (whole : List Kind) (items : List Line) → ReachedBy whole bytes place [] items
    → StopsBy whole bytes stop

-- a line of the word that is to come at the place isn't there
abbrev pub IsRefused : List ℕ → ℕ → List ℕ → CertStop → Type 0
IsRefused bytes place word stop = (n : Numbers) → Halts bytes place (kind word n ∷ []) stop

-- numbers of the one kind are numbers of the other
pub record AreLike (m n : Numbers) : Type 0 where
  pub to : (ns : List ℤ) → FitNumbers n ns → FitNumbers m ns
  pub from : (ns : List ℤ) → FitNumbers m ns → FitNumbers n ns

-- a line of the word and these numbers is read at the place, whatever such a line puts into the plan
abbrev pub LeadsLike : List ℕ → ℕ → List ℕ → Numbers → ℕ → List ℤ → Type 0
LeadsLike bytes place word m next ns = (n : Numbers) → AreLike m n
    → Leads bytes place (kind word n ∷ []) next (after_numbers n ns) (line word ns ∷ [])

abbrev pub HaltsLike : List ℕ → ℕ → List ℕ → Numbers → CertStop → Type 0
HaltsLike bytes place word m stop = (n : Numbers) → AreLike m n → Halts bytes place (kind word n ∷ []) stop

-- numbers of this kind are a choice's
abbrev pub AreChosen : ℕ → Numbers → Type 0
AreChosen bidders n = AreLike (chosen bidders) n

-- a choice of that many bidders is read at the place, whether it is the head's or another
abbrev pub LeadsChosen : List ℕ → ℕ → ℕ → ℕ → List ℕ → Type 0
LeadsChosen bytes place bidders next choice = LeadsLike bytes place (codes "choice") (chosen bidders) next (as_numbers choice)

abbrev pub HaltsChosen : List ℕ → ℕ → ℕ → CertStop → Type 0
HaltsChosen bytes place bidders stop = HaltsLike bytes place (codes "choice") (chosen bidders) stop

-- a count of rows is read at the place, whatever its rows are
abbrev pub LeadsCounted : List ℕ → ℕ → ℕ → ℕ → ℕ → Type 0
LeadsCounted bytes place bidders next count = LeadsLike bytes place (codes "rows") (counted bidders) next (pos count ∷ [])

abbrev pub HaltsCounted : List ℕ → ℕ → ℕ → CertStop → Type 0
HaltsCounted bytes place bidders stop = HaltsLike bytes place (codes "rows") (counted bidders) stop

-- a line of the word and numbers of 0 to 65,535 that is to come at the place isn't there
abbrev pub HaltsSmall : List ℕ → ℕ → List ℕ → CertStop → Type 0
HaltsSmall bytes place word stop = (n : Numbers) → ((ns : List ℤ) → FitNumbers n ns → AreNumbers 65535 ns)
    → Halts bytes place (kind word n ∷ []) stop

abbrev pub AreNotSmall : List ℤ → Type 0
AreNotSmall items = AreNumbers 65535 items → ⊥

abbrev pub AreSmall : List ℤ → List ℕ → Type 0
AreSmall items ns = (as_numbers ns ≡ items) × AreNumbers 65535 items

abbrev pub IsNoCount : ℕ → List ℕ → Type 0
IsNoCount bidders ns = FitNumbers (counted bidders) (as_numbers ns) → ⊥

abbrev pub IsCount : ℕ → List ℕ → ℕ → Type 0
IsCount bidders ns count = (ns ≡ count ∷ []) × (count ≤ 10) × (0 < count → 0 < bidders)
