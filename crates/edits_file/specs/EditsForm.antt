-- The form of a file of edits: which lists of edits have a text, and its lines, each with the limit that it exceeds.
use Rattle.std.specs.Prelude.{◌≡◌, ℕ, suc, ◌+◌, ◌≤◌, Option, Some, None, List, [], ◌∷◌, ◌++◌, codes, length, map, nat_le, if◌then◌else◌}
use Rattle.std.specs.List.{AllByRecursion}
use Rattle.std.specs.Str.{bytes_eq}
use Rattle.auction_model.specs.Book.{Bidder, Book}
use Rattle.book_grammar.specs.BookForm.{IsName}
use Rattle.book_grammar.specs.BookLines.{Excess, Line}
use Rattle.limits.specs.declared.LimitKind.TheVariants.{Records}
use Rattle.limits.specs.declared.TheConstants.{MOST_EDITS, MOST_STATED_AMOUNT, MOST_STATED_COUNT}
use Rattle.line_format.specs.LineText.{Said, Says}
use Rattle.review.specs.declared.edit.Edit.{Edit}
use Rattle.review.specs.declared.edit.Edit.TheVariants.{Add, Raise, Remove}
use Rattle.line_format.specs.Decimals.{decimals_text}

-- what a line says: an edit of the bidder of a name, whether or not a book has it
pub data NamedEdit : Type 0 where
  add : List ℕ → List ℕ → ℕ → NamedEdit
  raise : List ℕ → List ℕ → ℕ → NamedEdit
  remove : List ℕ → List ℕ → NamedEdit

-- a name, and one count for each category
pub record NamesPackage (categories : ℕ) (name lots : List ℕ) : Type 0 where
  pub name_is : IsName name
  pub count : length lots ≡ categories
  pub each : AllByRecursion (λ n. n ≤ MOST_STATED_COUNT) lots

-- an amount that a text may state
abbrev pub IsSpelledAmount : ℕ → Type 0
IsSpelledAmount amount = amount ≤ MOST_STATED_AMOUNT

abbrev pub IsNamedEdit : ℕ → NamedEdit → Type 0
IsNamedEdit categories (add name lots amount) = NamesPackage categories name lots × IsSpelledAmount amount
IsNamedEdit categories (raise name lots amount) = NamesPackage categories name lots × IsSpelledAmount amount
IsNamedEdit categories (remove name lots) = NamesPackage categories name lots

-- edits of a book of that many categories
abbrev pub AreNamedEdits : ℕ → List NamedEdit → Type 0
AreNamedEdits categories edits = AllByRecursion (IsNamedEdit categories) edits

abbrev pub edit_excess : ℕ → Option Excess
edit_excess count = if nat_le count MOST_EDITS then None else Some (Records, MOST_EDITS + 1)

abbrev pub edit_text : NamedEdit → List ℕ
edit_text (add name lots amount) = codes "add " ++ (name ++ decimals_text (lots ++ amount ∷ []))
edit_text (raise name lots amount) = codes "raise " ++ (name ++ decimals_text (lots ++ amount ∷ []))
edit_text (remove name lots) = codes "drop " ++ (name ++ decimals_text lots)

-- the edits after that many others
abbrev pub edit_lines : ℕ → List NamedEdit → List Line
edit_lines before [] = []
edit_lines before (e ∷ es) = (edit_text e, edit_excess (before + 1)) ∷ edit_lines (before + 1) es

abbrev pub lines : List NamedEdit → List Line
lines edits = (codes "edits 1", None) ∷ (edit_lines 0 edits ++ (codes "end", None) ∷ [])

-- What bytes say for a book of that many categories: edits, the place of the first faulty line, or that there are more than there may be.
abbrev pub EditsSay : ℕ → List ℕ → Said (List NamedEdit) Excess → Type 0
EditsSay categories bytes said = Says (AreNamedEdits categories) lines bytes said

-- the number of the first of these bidders that has the name, after that many others; 0 if none has it
abbrev pub number_among : List ℕ → ℕ → List Bidder → ℕ
number_among name before [] = 0
number_among name before (b ∷ bs) = if bytes_eq b.name name then suc before else number_among name (suc before) bs

-- the edit of a book that a line says; bidder 0 is one that the book doesn't have
abbrev pub edit_of : Book → NamedEdit → Edit
edit_of book (add name lots amount) = Add (number_among name 0 book.bidders) lots amount
edit_of book (raise name lots amount) = Raise (number_among name 0 book.bidders) lots amount
edit_of book (remove name lots) = Remove (number_among name 0 book.bidders) lots

abbrev pub edits_of : Book → List NamedEdit → List Edit
edits_of book edits = map (edit_of book) edits
