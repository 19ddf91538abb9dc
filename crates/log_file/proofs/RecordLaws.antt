-- The records of a text, one at a time.
use Rattle.std.proofs.Common.{Bool, List, None, Option, Some, [], arith, false, if◌then◌else◌, inl, inr, length, refl, suc, sym, true, zero, ℕ, ◌++◌}
use Rattle.std.proofs.Common.{◌+◌, ◌<◌, ◌∙◌, ◌∷◌, ◌≡◌, ◌≤◌}
use Rattle.std.proofs.lemmas.Bool.{cases_Bool, false≢true}
use Rattle.std.proofs.lemmas.Option.{same_Some}
use Rattle.csv.specs.Machine.{Read, next_record, step, ends_at_end, is_end}
use Rattle.csv.specs.Reading.{default_config, records, records_from, ReadRecord, Reached, source_of, is_flexible, reader_trim, took_first, Ready}
use Rattle.csv.specs.declared.reader.Trim.TheVariants as trim
use Rattle.log_file.specs.RecordsLeft.{HasLeft, Takes}
use Rattle.csv.specs.declared.reader.Reader.{Reader}
use Rattle.csv.proofs.ReadFacts.{rows-more, rows-end}
use Rattle.csv.specs.declared.parser.State.{State}
use Rattle.csv.specs.declared.parser.State.TheVariants as st

-- a byte that ends a record leaves a state in which a text may end
pub end_state : (s : State) (c : ℕ) → is_end (step default_config s c).1 ≡ true → ends_at_end (step default_config s c).0 ≡ false
end_state st.StartRecord c h = grind arith
end_state st.StartField c h = grind arith
end_state st.InField c h = grind arith
end_state st.InQuoted c h = grind arith
end_state st.InEscape c h = grind arith
end_state st.AfterQuote c h = grind arith
end_state st.InComment c h = grind arith
end_state st.AfterCr c h = grind arith

-- what is left after a read, at the end of a text and before
at_end : (b : Bool) (fs : List (List ℕ)) (q : Read) → (if b then Some (fs, st.StartRecord, []) else None) ≡ Some q
    → (length q.2 ≤ 0) × (ends_at_end q.1 ≡ false)
at_end true fs q h = let e : (fs, st.StartRecord, []) ≡ q = same_Some _ _ h in rw (← e) (omega arith, refl)
at_end false fs q h = cc h

-- a read of a record leaves no more bytes than there were, in a state in which a text may end
pub next_at : (s : State) (fields : List (List ℕ)) (field xs : List ℕ) (q : Read) → next_record default_config s fields field xs ≡ Some q
    → (length q.2 ≤ length xs) × (ends_at_end q.1 ≡ false)
unfolding next_record
next_at s fields field [] q h = at_end (ends_at_end s) (fields ++ (field ∷ [])) q h
next_at s fields field (c ∷ rest) q h =
    elim (cases_Bool (is_end (step default_config s c).1)) [
      | inl done ↦
          let e = same_Some _ _ (rw done at h) in
          rw (← e) (omega arith, end_state s c done)
      | inr going ↦
          let later = next_at (step default_config s c).0 _ _ rest q (rw going at h) in
          (omega (arith, later.0), later.1)
    ]

-- a record that begins between two others takes a byte at least
pub next_shorter : (s : State) (xs : List ℕ) (q : Read) → ends_at_end s ≡ false → next_record default_config s [] [] xs ≡ Some q → length q.2 < length xs
unfolding next_record
next_shorter s [] q between h = cc (rw between at h)
next_shorter s (c ∷ rest) q between h =
    elim (cases_Bool (is_end (step default_config s c).1)) [
      | inl done ↦ let e = same_Some _ _ (rw done at h) in rw (← e) (omega arith)
      | inr going ↦ let later = next_at (step default_config s c).0 _ _ rest q (rw going at h) in omega (arith, later.0)
    ]

-- the records of a text that has one more
pub records-more : (k : ℕ) (s : State) (y : List ℕ) (q : Read) → length y < k → ends_at_end s ≡ false → next_record default_config s [] [] y ≡ Some q
    → (n : ℕ) × (length q.2 < n) × (ends_at_end q.1 ≡ false) × (records_from default_config k s y ≡ q.0 ∷ records_from default_config n q.1 q.2)
unfolding records_from
records-more zero s y q room between h = absurd (omega (arith, room))
records-more (suc n) s y q room between h = (n, omega (arith, room, next_shorter s y q between h), (next_at s [] [] y q h).1, rw h)

-- and of one that has none
pub records-end : (k : ℕ) (s : State) (y : List ℕ) → length y < k → next_record default_config s [] [] y ≡ None → records_from default_config k s y ≡ []
unfolding records_from
records-end zero s y room h = absurd (omega (arith, room))
records-end (suc n) s y room h = rw h

as_read : (o : Option Read) (p : Read) (f : List (List ℕ)) (s : State) (z : List ℕ) → o ≡ Some p → f ≡ p.0 → p.1 ≡ s → p.2 ≡ z → o ≡ Some (f, s, z)
as_read o p f s z found first state rest = rw (first, ← state, ← rest) found

-- what a read of a record says of the next record
pub read-next : {R : Type 0} (rem : R → Option (List ℕ)) (a b : Reader R) (f : List (List ℕ)) (y : List ℕ) → a.config ≡ default_config
    → source_of rem a ≡ Some y → ReadRecord rem a b true f
    → (z : List ℕ) × (source_of rem b ≡ Some z) × (next_record default_config a.state [] [] y ≡ Some (f, b.state, z))
unfolding Reached
read-next rem a b f y config source r =
    let (z, left, (p, found, first, (state, rest))) = rows-more rem a b f default_config a.state y y [] config source (refl, refl) r in
    (z, left, as_read _ p f b.state z found first state rest)

-- at the start of a text
pub left-start : {R : Type 0} (rem : R → Option (List ℕ)) (a : Reader R) (y : List ℕ) → reader_trim a ≡ trim.None → Ready a → is_flexible a ≡ true
    → a.config ≡ default_config → source_of rem a ≡ Some y
    → a.state ≡ st.StartRecord → HasLeft rem a (records default_config y)
left-start rem a y no_trim ready flexible config source start = record {
  no_trim = no_trim;
  ready = ready;
  flexible = flexible;
  config = config;
  fuel = length y + 1;
  bytes = y;
  source = source;
  room = omega arith;
  between = rw start;
  rows_are = rw start;
}

-- a read that finds a record takes the first, and one that finds none is at the end
pub takes : {R : Type 0} (rem : R → Option (List ℕ)) (a b : Reader R) (found : Bool) (f : List (List ℕ)) (rows : List (List (List ℕ))) → HasLeft rem a rows
    → ReadRecord rem a b found f
    → took_first b ≡ true → is_flexible b ≡ is_flexible a → Takes rem b rows found f
takes rem a b true f rows left r first same =
    let (z, source, next) = read-next rem a b f left.bytes left.config left.source r in
    let (n, room, between, more) = records-more left.fuel a.state left.bytes (f, b.state, z) left.room left.between next in (
      records_from default_config n b.state z,
      sym left.rows_are ∙ more,
      record {
        no_trim = r.3 ∙ left.no_trim;
        ready = inl first;
        flexible = same ∙ left.flexible;
        config = r.2 ∙ left.config;
        fuel = n;
        bytes = z;
        source = source;
        room = room;
        between = between;
        rows_are = refl;
      },
    )
takes rem a b false f rows left r first same =
    sym left.rows_are ∙ records-end left.fuel a.state left.bytes left.room (rows-end rem a b f default_config left.bytes left.config left.source r)

-- a read that found a record has the fields of the first one left, and the others are left
pub found_one :
    {R : Type 0} (known : R → Option (List ℕ)) (reader : Reader R) (rows : List (List (List ℕ))) (found : Bool) (fields : List (List ℕ))
    → found ≡ true → Takes known reader rows found fields
    → (rest : List (List (List ℕ))) × (rows ≡ fields ∷ rest) × HasLeft known reader rest
found_one known reader rows true fields is taken = taken
found_one known reader rows false fields is taken = absurd (false≢true is)

-- if a read found no record none was left
pub found_none :
    {R : Type 0} (known : R → Option (List ℕ)) (reader : Reader R) (rows : List (List (List ℕ))) (found : Bool) (fields : List (List ℕ))
    → found ≡ false → Takes known reader rows found fields → rows ≡ []
found_none known reader rows true fields is taken = absurd (false≢true (sym is))
found_none known reader rows false fields is taken = taken
