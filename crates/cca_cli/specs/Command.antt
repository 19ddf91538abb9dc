-- The plain form of the program's arguments, and the files of each command.
use Rattle.std.specs.Prelude.{ℕ, ◌^◌, Bool, true, false, ◌==◌, ◌&&◌, ◌||◌, nat_lt, not, Option, Some, None, option_map, option_and_then, List, [], ◌∷◌, codes, drop, find, filter, length, map, take, if◌then◌else◌}
use Rattle.std.specs.Fmt.{decimal}
use Rattle.std.specs.Str.{bytes_eq}
use Rattle.std.specs.Str.Parse.{digits_value}
use Rattle.cca_cli.specs.declared.kind.Flags.{Flags}
use Rattle.cca_cli.specs.declared.kind.Flags.TheVariants as flags
use Rattle.cca_cli.specs.declared.kind.Kind.{Kind}
use Rattle.cca_cli.specs.declared.kind.Kind.TheVariants.{Win, Price, Check, Weigh, WeighCheck, Auction, Award, Audit, Make, Place, PlaceCheck, Review}
use Rattle.cca_cli.specs.declared.kind.Use.{Use}
use Rattle.cca_cli.specs.declared.kind.Use.TheVariants.{Reads, Appends}
use Rattle.cca_cli.specs.declared.price_form.PriceForm.{PriceForm}
use Rattle.cca_cli.specs.declared.status.FileKind.{FileKind}
use Rattle.cca_cli.specs.declared.status.FileKind.TheVariants.{Log, Book, Cert, Weights, Slots, Edits, Out}
use Rattle.cca_cli.specs.declared.status.FileKind.TheVariants as file_kind

-- A row of the table of commands: the word that names the command, whether a number comes before its files, the part of each
-- file and what is done with it, in the order of the arguments, and the flags that may come after them.
pub record Row : Type 0 where
  pub word : List ℕ
  pub number : Bool
  pub files : List (FileKind × Use)
  pub flags : Flags

-- The table of commands. All other definitions for their arguments and files follow from it.
abbrev pub row : Kind → Row
row Win = record { word = codes "win"; number = false; files = (Book, Reads) ∷ []; flags = flags.None }
row Price = record { word = codes "price"; number = false; files = (Book, Reads) ∷ (Cert, Appends) ∷ []; flags = flags.Form }
row Check = record { word = codes "check"; number = false; files = (Book, Reads) ∷ (Cert, Reads) ∷ []; flags = flags.None }
row Weigh = record { word = codes "weigh"; number = false; files = (Book, Reads) ∷ (Weights, Reads) ∷ (Cert, Appends) ∷ []; flags = flags.Form }
row WeighCheck = record { word = codes "weigh-check"; number = false; files = (Book, Reads) ∷ (Weights, Reads) ∷ (Cert, Reads) ∷ []; flags = flags.None }
row Auction = record { word = codes "auction"; number = false; files = (file_kind.Award, Reads) ∷ (Log, Reads) ∷ (Book, Appends) ∷ []; flags = flags.None }
row Award = record { word = codes "award"; number = false; files = (file_kind.Award, Reads) ∷ (Log, Reads) ∷ (Cert, Appends) ∷ []; flags = flags.Form }
row Audit = record { word = codes "audit"; number = false; files = (file_kind.Award, Reads) ∷ (Log, Reads) ∷ (Cert, Reads) ∷ []; flags = flags.None }
row Make = record { word = codes "make"; number = true; files = (file_kind.Award, Appends) ∷ (Log, Appends) ∷ []; flags = flags.None }
row Place = record { word = codes "place"; number = false; files = (Slots, Reads) ∷ (Cert, Appends) ∷ []; flags = flags.Rounds }
row PlaceCheck = record { word = codes "place-check"; number = false; files = (Slots, Reads) ∷ (Cert, Reads) ∷ []; flags = flags.None }
row Review = record { word = codes "review"; number = false; files = (Book, Reads) ∷ (Edits, Reads) ∷ []; flags = flags.None }

-- all kinds
abbrev pub kinds : List Kind
kinds =
    Win ∷ Price ∷ Check ∷ Weigh ∷ WeighCheck ∷ Auction ∷ Award ∷ Audit ∷ Make ∷ Place ∷ PlaceCheck
    ∷ Review ∷ []

-- a command: its kind, the names of its files in the order of the arguments, the form of what it prints, and its number
pub record CommandValue : Type 0 where
  pub kind : Kind
  pub names : List (List ℕ)
  pub form : PriceForm
  pub number : ℕ

-- prices are printed as lines or as JSON, with the turns or without
abbrev pub form_with : Bool → Bool → PriceForm
form_with rounds json = record { rounds = rounds; json = json }

-- the form of a command that no flags follow
abbrev pub plain : PriceForm
plain = form_with false false

-- a command without flags
abbrev pub command : Kind → List (List ℕ) → CommandValue
command kind names = record { kind = kind; names = names; form = plain; number = 0 }

-- a command that prints prices in a form
abbrev pub pricing : Kind → List (List ℕ) → PriceForm → CommandValue
pricing kind names form = record { kind = kind; names = names; form = form; number = 0 }

-- the winners of a book
abbrev pub win : List ℕ → CommandValue
win book = command Win (book ∷ [])

-- the prices of a book in a form, and their certificate
abbrev pub price : List ℕ → List ℕ → PriceForm → CommandValue
price book cert form = pricing Price (book ∷ cert ∷ []) form

-- the test of a certificate of a book
abbrev pub check : List ℕ → List ℕ → CommandValue
check book cert = command Check (book ∷ cert ∷ [])

-- the prices of a book by weights in a form, and their certificate
abbrev pub weigh : List ℕ → List ℕ → List ℕ → PriceForm → CommandValue
weigh book weights cert form = pricing Weigh (book ∷ weights ∷ cert ∷ []) form

-- the test of a certificate of a book by weights
abbrev pub weigh_check : List ℕ → List ℕ → List ℕ → CommandValue
weigh_check book weights cert = command WeighCheck (book ∷ weights ∷ cert ∷ [])

-- the replies to the log of an auction, and its book
abbrev pub auction : List ℕ → List ℕ → List ℕ → CommandValue
auction terms log book = command Auction (terms ∷ log ∷ book ∷ [])

-- the prices of the book of a log in a form, and their certificate
abbrev pub award : List ℕ → List ℕ → List ℕ → PriceForm → CommandValue
award terms log cert form = pricing Award (terms ∷ log ∷ cert ∷ []) form

-- the test of a certificate of the book of a log
abbrev pub audit : List ℕ → List ℕ → List ℕ → CommandValue
audit terms log cert = command Audit (terms ∷ log ∷ cert ∷ [])

-- the auction that is made from a number: its award and its log
abbrev pub make : ℕ → List ℕ → List ℕ → CommandValue
make number terms log = record { kind = Make; names = terms ∷ log ∷ []; form = plain; number = number }

-- the prices of a placement in a band, with the turns or without, and their certificate
abbrev pub place : List ℕ → List ℕ → Bool → CommandValue
place slots cert rounds = pricing Place (slots ∷ cert ∷ []) (form_with rounds false)

-- the test of a certificate of a placement
abbrev pub place_check : List ℕ → List ℕ → CommandValue
place_check slots cert = command PlaceCheck (slots ∷ cert ∷ [])

-- what a book gives as it is edited
abbrev pub review : List ℕ → List ℕ → CommandValue
review book edits = command Review (book ∷ edits ∷ [])

-- a file of a command: the part that it plays, what is done with it, and its name
pub record FileUse : Type 0 where
  pub kind : FileKind
  pub how : Use
  pub name : List ℕ

-- files with their names
abbrev pub files_named : List (FileKind × Use) → List (List ℕ) → List FileUse
files_named [] names = []
files_named (file ∷ files) [] = []
files_named (file ∷ files) (name ∷ names) = record { kind = file.0; how = file.1; name = name } ∷ files_named files names

-- the files of a command
abbrev pub files_of : CommandValue → List FileUse
files_of command = files_named (row command.kind).files command.names

-- not empty, and not beginning with '-'
abbrev pub is_file_word : List ℕ → Bool
is_file_word [] = false
is_file_word (c ∷ cs) = not (c == 45)

-- the word is one of these
abbrev pub is_among : List ℕ → List (List ℕ) → Bool
is_among f [] = false
is_among f (g ∷ gs) = bytes_eq f g || is_among f gs

-- names of files, no two the same
abbrev pub are_file_words : List (List ℕ) → Bool
are_file_words [] = true
are_file_words (f ∷ fs) = is_file_word f && (not (is_among f fs) && are_file_words fs)

-- the form that one flag asks for
abbrev pub one_flag : List ℕ → Option PriceForm
one_flag f =
    if bytes_eq f (codes "--rounds") then Some (form_with true false)
    else if bytes_eq f (codes "--json") then Some (form_with false true)
    else None

-- the first is the flag of the rounds, and the second the flag of JSON
abbrev pub are_both : List ℕ → List ℕ → Bool
are_both f g = bytes_eq f (codes "--rounds") && bytes_eq g (codes "--json")

-- the form that two flags ask for: they aren't the same, and are in either order
abbrev pub two_flags : List ℕ → List ℕ → Option PriceForm
two_flags f g = if are_both f g || are_both g f then Some (form_with true true) else None

-- the form that the arguments after the files ask for
abbrev pub form_asked : List (List ℕ) → Option PriceForm
form_asked [] = Some plain
form_asked (f ∷ []) = one_flag f
form_asked (f ∷ g ∷ []) = two_flags f g
form_asked (f ∷ g ∷ h ∷ rest) = None

-- the form that these arguments ask for, if they may ask only for the turns
abbrev pub rounds_asked : List (List ℕ) → Option PriceForm
rounds_asked [] = Some plain
rounds_asked (f ∷ []) = if bytes_eq f (codes "--rounds") then Some (form_with true false) else None
rounds_asked (f ∷ g ∷ rest) = None

-- the form that these arguments ask for, if they may ask for nothing
abbrev pub nothing_asked : List (List ℕ) → Option PriceForm
nothing_asked [] = Some plain
nothing_asked (f ∷ rest) = None

-- the form that the arguments after the files ask for, by the flags of a row
abbrev pub asked : Flags → List (List ℕ) → Option PriceForm
asked flags.None words = nothing_asked words
asked flags.Rounds words = rounds_asked words
asked flags.Form words = form_asked words

-- the number below 2^32 that a word spells in decimal digits without a leading zero
abbrev pub number_said : List ℕ → Option ℕ
number_said w = if bytes_eq w (decimal (digits_value 10 w)) && nat_lt (digits_value 10 w) (2 ^ 32) then Some (digits_value 10 w) else None

-- arguments in two parts: that many, and the rest, or None if there are fewer
abbrev pub parted : ℕ → List (List ℕ) → Option (List (List ℕ) × List (List ℕ))
parted count words = if nat_lt (length words) count then None else Some (take count words, drop count words)

-- the command of a kind and a number that words say: its files, no two the same, and then flags
abbrev pub said_after : Kind → ℕ → List (List ℕ) → List (List ℕ) → Option CommandValue
said_after kind number names words =
    if are_file_words names
    then option_map (λ form. record { kind = kind; names = names; form = form; number = number }) (asked (row kind).flags words)
    else None

abbrev pub said_with : Kind → ℕ → List (List ℕ) → Option CommandValue
said_with kind number words = option_and_then (λ parts. said_after kind number parts.0 parts.1) (parted (length (row kind).files) words)

-- the command after a number
abbrev pub said_numbered : Kind → List (List ℕ) → Option CommandValue
said_numbered kind [] = None
said_numbered kind (n ∷ words) = option_and_then (λ number. said_with kind number words) (number_said n)

-- the command of a kind that the arguments after its name state. A number isn't a file, so it may equal a file's name
abbrev pub said_by : Kind → List (List ℕ) → Option CommandValue
said_by kind words = if (row kind).number then said_numbered kind words else said_with kind 0 words

-- the kind that a word names
abbrev pub kind_named : List ℕ → Option Kind
kind_named w = find (λ kind. bytes_eq w (row kind).word) kinds

-- the command that the arguments state, if they are of the plain form
abbrev pub command_of : List (List ℕ) → Option CommandValue
command_of [] = None
command_of (w ∷ rest) = option_and_then (λ kind. said_by kind rest) (kind_named w)

-- the number of a kind
abbrev pub kind_number : FileKind → ℕ
kind_number file_kind.Award = 0
kind_number Log = 1
kind_number Book = 2
kind_number Cert = 3
kind_number Weights = 4
kind_number Slots = 5
kind_number Edits = 6
kind_number Out = 7

abbrev pub is_kind : FileKind → FileKind → Bool
is_kind kind other = kind_number kind == kind_number other

abbrev pub is_read : Use → Bool
is_read Reads = true
is_read Appends = false

-- the name of the first of these files that has the kind
abbrev pub named : FileKind → List FileUse → Option (List ℕ)
named kind files = option_map (λ f. f.name) (find (λ f. is_kind kind f.kind) files)

-- the files that are read, and those that are appended to, in the order of the arguments
abbrev pub read_files : CommandValue → List FileUse
read_files command = filter (λ f. is_read f.how) (files_of command)

abbrev pub appended_files : CommandValue → List FileUse
appended_files command = filter (λ f. not (is_read f.how)) (files_of command)

-- the file of this kind that the command reads, and the one that it appends to
abbrev pub input_as : CommandValue → FileKind → Option (List ℕ)
input_as command kind = named kind (read_files command)

abbrev pub output_as : CommandValue → FileKind → Option (List ℕ)
output_as command kind = named kind (appended_files command)

-- the names of all files that it reads, and of all that it appends to
abbrev pub inputs_of : CommandValue → List (List ℕ)
inputs_of command = map (λ f. f.name) (read_files command)

abbrev pub outputs_of : CommandValue → List (List ℕ)
outputs_of command = map (λ f. f.name) (appended_files command)

-- the bytes of a command's input of each kind: none where the file is missing, or the command reads none of the kind
abbrev pub contents_of : CommandValue → (List ℕ → Option (List ℕ)) → FileKind → Option (List ℕ)
contents_of command file kind = option_and_then file (input_as command kind)

-- these contents, with the input of this kind missing
abbrev pub missing : FileKind → (FileKind → Option (List ℕ)) → FileKind → Option (List ℕ)
missing kind contents other = if is_kind kind other then None else contents other
