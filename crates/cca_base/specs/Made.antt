-- Calls of the system with their results.
use Rattle.std.specs.Prelude.{ℕ, ℤ, Bool, Result, Ok, Err, List, take}
use Rattle.std.specs.declared.io.ErrorKind.{ErrorKind}
use Rattle.cca_base.specs.declared.system.event.Event.{Event}
use Rattle.cca_base.specs.declared.system.event.Event.TheVariants as event
use Rattle.cca_base.specs.declared.system.met.Told.{Told}

-- One call. A file is known by its descriptor.
pub data Made : Type 0 where
  -- what the file is that a name means
  tells : List ℕ → Result Told ErrorKind → Made
  -- what the name itself is, which may be a link
  tells_name : List ℕ → Result Told ErrorKind → Made
  -- what an open file is
  tells_open : ℤ → Result Told ErrorKind → Made
  -- the whole path of the file that a name means
  resolves : List ℕ → List ℕ → Made
  opens_to_read : List ℕ → Result ℤ ErrorKind → Made
  opens_to_append : List ℕ → Result ℤ ErrorKind → Made
  locks : ℤ → Bool → Made
  seeks : ℤ → ℕ → Bool → Made
  -- the bytes that were read
  reads : ℤ → Result (List ℕ) ErrorKind → Made
  -- the bytes that were written, at the start of a piece
  writes : ℤ → Result (List ℕ) ErrorKind → Made
  syncs : ℤ → Bool → Made

-- an answer, of whose value this is seen
abbrev pub answer_by : {V W : Type 0} → (V → W) → Result V ErrorKind → Result W ErrorKind
answer_by see (Ok value) = Ok (see value)
answer_by see (Err kind) = Err kind

-- the call of an event
abbrev pub made_of : Event → Made
made_of (event.Told name answer) = tells name.now answer
made_of (event.ToldOfName name answer) = tells_name name.now answer
made_of (event.ToldOfOpen file answer) = tells_open file answer
made_of (event.Resolved name text) = resolves name.now text.now
made_of (event.OpenedToRead name answer) = opens_to_read name.now answer
made_of (event.OpenedToAppend name answer) = opens_to_append name.now answer
made_of (event.Locked file done) = locks file done
made_of (event.Sought file at done) = seeks file at done
made_of (event.Read file buf answer) = reads file (answer_by (λ n. take n buf.now) answer)
made_of (event.Wrote file piece answer) = writes file (answer_by (λ n. take n piece.now) answer)
made_of (event.Synced file done) = syncs file done
