-- The stages of reading edits, and which lines bring the reader from one to the next. They serve the reader's own contracts.
-- The meaning of bytes as edits is defined without them.
use Rattle.std.specs.Prelude.{◌≡◌, ◌⊎◌, ℕ, ◌+◌, ◌≤◌, Option, None, List, [], ◌∷◌, ◌++◌, codes, length}
use Rattle.std.specs.Fmt.{decimal}
use Rattle.std.specs.List.{AllByRecursion}
use Rattle.auction_model.specs.Book.{Book}
use Rattle.book_grammar.specs.BookLines.{Excess}
use Rattle.limits.specs.declared.TheConstants.{MOST_STATED_COUNT}
use Rattle.review.specs.declared.edit.Edit.{Edit}
use Rattle.line_format.specs.Decimals.{decimals_text}
use Rattle.line_format.specs.Fields.{FieldEnds}
use Rattle.edits_file.specs.EditsForm.{NamedEdit, NamesPackage, IsNamedEdit, IsSpelledAmount, edit_excess, edit_of, edit_text, number_among}
use Rattle.edits_file.specs.declared.read.Stage.{Stage}
use Rattle.edits_file.specs.declared.read.Stage.TheVariants.{Start, Listing, Ended}

-- the text is a number after one space, and what follows it
pub record BeginsWithNumber (most : ℕ) (text : List ℕ) (n : ℕ) (rest : List ℕ) : Type 0 where
  pub low : n ≤ most
  pub spelled : text ≡ 32 ∷ decimal n ++ rest
  pub ends : FieldEnds rest

-- the text is a count for each category, each after one space, and what follows them
pub record BeginsWithCounts (categories : ℕ) (text lots rest : List ℕ) : Type 0 where
  pub count : length lots ≡ categories
  pub each : AllByRecursion (λ n. n ≤ MOST_STATED_COUNT) lots
  pub spelled : text ≡ decimals_text lots ++ rest
  pub ends : FieldEnds rest

-- the fields begin with the name of this bidder and these counts
pub record IsHead (book : Book) (fields : List ℕ) (bidder : ℕ) (lots rest : List ℕ) : Type 0 where
  pub name : List ℕ
  pub named : NamesPackage (length book.supply) name lots
  pub spelled : fields ≡ name ++ (decimals_text lots ++ rest)
  pub ends : FieldEnds rest
  pub bidder_is : bidder ≡ number_among name 0 book.bidders

-- the fields are the name of this bidder, these counts and this amount
pub record StatesBid (book : Book) (fields : List ℕ) (bidder : ℕ) (lots : List ℕ) (amount : ℕ) : Type 0 where
  pub name : List ℕ
  pub named : NamesPackage (length book.supply) name lots
  pub top : IsSpelledAmount amount
  pub spelled : fields ≡ name ++ decimals_text (lots ++ amount ∷ [])
  pub bidder_is : bidder ≡ number_among name 0 book.bidders

-- the fields are the name of this bidder and these counts
pub record StatesPackage (book : Book) (fields : List ℕ) (bidder : ℕ) (lots : List ℕ) : Type 0 where
  pub name : List ℕ
  pub named : NamesPackage (length book.supply) name lots
  pub spelled : fields ≡ name ++ decimals_text lots
  pub bidder_is : bidder ≡ number_among name 0 book.bidders

-- the line states this edit
pub record States (book : Book) (line : List ℕ) (named : NamedEdit) (edit : Edit) : Type 0 where
  pub valid : IsNamedEdit (length book.supply) named
  pub spelled : line ≡ edit_text named
  pub edit_is : edit ≡ edit_of book named

-- the line of an edit more
pub record Adds (book : Book) (had : List Edit) (line : List ℕ) (next : Stage) : Type 0 where
  pub named : NamedEdit
  pub edit : Edit
  pub states : States book line named edit
  pub next_is : next ≡ Listing (had ++ edit ∷ [])

abbrev pub Step : Book → Stage → List ℕ → Stage → Type 0
Step book Start line next = (line ≡ codes "edits 1") × (next ≡ Listing [])
Step book (Listing had) line next = ((line ≡ codes "end") × (next ≡ Ended had)) ⊎ Adds book had line next
Step book (Ended had) line next = ⊥

-- what the line that led to the stage exceeds
abbrev pub excess : Stage → Option Excess
excess Start = None
excess (Listing had) = edit_excess (length had)
excess (Ended had) = None
