-- How far the records of a text are read.
use Rattle.std.proofs.Common.{Bor, ◌≡◌, ℕ, ◌<◌, List, [], ◌∷◌, ◌++◌, Bool, true, false, Some, length}
use Rattle.csv.specs.declared.reader.Reader.{Reader}
use Rattle.limits.specs.declared.TheConstants.{MOST_RECORDS}
use Rattle.auction_rules.specs.Terms.{Terms}
use Rattle.auction_rules.specs.declared.Event.{Event}
use Rattle.log_file.specs.LogForm.{States}
use Rattle.log_file.specs.LogReading.{AreLog, BeginWith}
use Rattle.log_file.specs.RecordsLeft.{HasLeft, Takes}
use Rattle.log_file.proofs.LogLaws.{Rows, begin, begin_at, begin_more, log_ends}
use Rattle.log_file.proofs.RecordLaws.{found_none, found_one}

-- the reader of a text has these records left
abbrev pub Left : Reader (Bor (List ℕ)) → Rows → Type 0
Left reader rows = HasLeft (λ (s : Bor (List ℕ)). Some s.now) reader rows

-- of the records a reader has taken those that state these events, and has left the others
pub record IsReadTo (terms : Terms) (rows : Rows) (reader : Reader (Bor (List ℕ))) (events : List Event) : Type 0 where
  pub left : Rows
  pub has : Left reader left
  pub begins : BeginWith terms rows events left

-- before the first record
pub read-none : (terms : Terms) (rows : Rows) (reader : Reader (Bor (List ℕ))) (events : List Event) → events ≡ [] → Left reader rows
    → IsReadTo terms rows reader events
read-none terms rows reader events none has = record { left = rows; has = has; begins = rw none (begin terms rows) }

-- what a read of a record says of the next one
abbrev pub Took : Reader (Bor (List ℕ)) → Reader (Bor (List ℕ)) → Bool → List (List ℕ) → Type 0
Took old new found fields = (rows : Rows) → Left old rows → Takes (λ (s : Bor (List ℕ)). Some s.now) new rows found fields

module _ (terms : Terms) (rows : Rows) (old new : Reader (Bor (List ℕ))) (events : List Event) (found : Bool) (fields : List (List ℕ))
    (took : Took old new found fields)
    (so_far : IsReadTo terms rows old events) where
  -- the record that was taken is the next one
  pub next-is : found ≡ true → (later : Rows) × BeginWith terms rows events (fields ∷ later)
  next-is is =
      let one = found_one _ new so_far.left found fields is (took so_far.left so_far.has) in
      (one.0, begin_at terms rows events so_far.left (fields ∷ one.0) so_far.begins one.1)

  -- one record more
  pub read-more : (more : List Event) (e : Event) → found ≡ true → length events < MOST_RECORDS → States terms fields e → more ≡ events ++ e ∷ []
      → IsReadTo terms rows new more
  read-more more e is few states pushed =
      let one = found_one _ new so_far.left found fields is (took so_far.left so_far.has) in
      record {
        left = one.0;
        has = one.2;
        begins = rw pushed (begin_more terms rows events so_far.left fields one.0 e so_far.begins one.1 few states);
      }

  -- after the last record
  pub read-all : found ≡ false → AreLog terms rows events
  read-all is = log_ends terms rows events so_far.left so_far.begins (found_none _ new so_far.left found fields is (took so_far.left so_far.has))
