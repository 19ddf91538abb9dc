-- What the room has of a certificate after one more line.
use Rattle.std.proofs.Common.{◌≡◌, ℕ, zero, suc, ◌+◌, ◌-◌, ◌<◌, ◌≤◌, List, length, inl, inr, refl, sym, subst, arith}
use Rattle.std.proofs.lemmas.Bool.{cases_lt}
use Rattle.std.specs.Prelude.{ℤ, pos, IsTrue}
use Rattle.auction_model.specs.Market.{uses}
use Rattle.cert_grammar.specs.Certificate.{CertValue, part_of}
use Rattle.cert_grammar.specs.CertText.{as_numbers}
use Rattle.cert_stream.specs.declared.due.NextLine.{NextLine}
use Rattle.cert_stream.specs.declared.due.NextLine.TheVariants.{Choice, Den, End, Entries, Limits, Members, Multipliers, Nothing, PartChoice, Payments}
use Rattle.cert_stream.specs.declared.due.NextLine.TheVariants.{RowChoice, Rows, Title, Value, Version, Without}
use Rattle.cert_stream.specs.declared.due.Table.{Table}
use Rattle.cert_stream.specs.declared.due.Table.TheVariants.{Head, Part, Lowered}
use Rattle.cert_stream.specs.LinesLeft.{HasDue}
use Rattle.cert_stream.specs.Order.{ComesBehind, IsPartNext, IsRowNext, IsTableNext, NoneFrom}
use Rattle.cert_stream.specs.Rooms.{segment}
use Rattle.stream_check.specs.InRoom.{HasRoom, HasLine, HasLineBefore, HasMembers, fields_come, parts_come}
use Rattle.stream_check.proofs.NextLaws.{loses}

module _ (b s : ℕ) (c : CertValue) (room : List ℤ) where
  -- no field more than before
  kept : (due next : NextLine) (old new : ℕ) → HasRoom b s c due old room → fields_come next ≤ fields_come due
      → ((j : ℕ) → 0 < j → j ≤ b → j < parts_come b next → IsTrue (uses c.choice j) → j < parts_come b due)
      → HasLineBefore b s c next room → HasMembers b s c next new room → HasRoom b s c next new room
  kept due next old new has fields parts before members = record {
    den = λ come. has.den (omega (arith, come, fields));
    value = λ come. has.value (omega (arith, come, fields));
    choice = λ come. has.choice (omega (arith, come, fields));
    pay = λ come. has.pay (omega (arith, come, fields));
    parts = λ j some inside come wins. has.parts j some inside (parts j some inside come wins) wins;
    before = before;
    members_are = members;
  }

  -- the same for the line that is next
  kept-as : (due there next : NextLine) (old new : ℕ) → next ≡ there → HasRoom b s c due old room → fields_come there ≤ fields_come due
      → ((j : ℕ) → 0 < j → j ≤ b → j < parts_come b there → IsTrue (uses c.choice j) → j < parts_come b due)
      → HasLineBefore b s c there room → HasMembers b s c next new room → HasRoom b s c next new room
  kept-as due there next old new is has fields parts before members =
      subst (λ (d : NextLine). HasRoom b s c d new room) (sym is) (kept due there old new has fields parts before
      (subst (λ (d : NextLine). HasMembers b s c d new room) is members))

  -- losers have no part
  past : (from to j : ℕ) → NoneFrom (as_numbers c.choice) from to → from < j → j ≤ to → IsTrue (uses c.choice j) → ⊥
  past from to j none low high wins = loses c.choice j (none (j - 1) (omega (arith, low)) (omega (arith, low, high))) wins

  -- after the table of the part without bidder i, or after the head's
  behind-parts : (due next : NextLine) (i old new : ℕ) → IsPartNext b (as_numbers c.choice) i next → HasRoom b s c due old room → fields_come due ≡ 3
      → ((j : ℕ) → 0 < j → j ≤ i → j < parts_come b due) → HasMembers b s c next new room → HasRoom b s c next new room
  behind-parts due Version i old new is has three low members = absurd is
  behind-parts due Limits i old new is has three low members = absurd is
  behind-parts due Den i old new is has three low members = absurd is
  behind-parts due Value i old new is has three low members = absurd is
  behind-parts due Choice i old new is has three low members = absurd is
  behind-parts due (Title table) i old new is has three low members = absurd is
  behind-parts due (Entries table k) i old new is has three low members = absurd is
  behind-parts due (Without l) i old new is has three low members = kept due (Without l) old new has (omega (arith, three))
      (λ j some inside come wins. elim (cases_lt i j) [
        | inl lt ↦ absurd (past i (l - 1) j is.2 lt (omega (arith, come)) wins)
        | inr le ↦ low j some le
      ]) tt members
  behind-parts due (PartChoice l) i old new is has three low members = absurd is
  behind-parts due Payments i old new is has three low members = kept due Payments old new has (omega (arith, three))
      (λ j some inside come wins. elim (cases_lt i j) [
        | inl lt ↦ absurd (past i b j is lt inside wins)
        | inr le ↦ low j some le
      ]) tt members
  behind-parts due Rows i old new is has three low members = absurd is
  behind-parts due (Members r) i old new is has three low members = absurd is
  behind-parts due (Multipliers r) i old new is has three low members = absurd is
  behind-parts due (RowChoice r) i old new is has three low members = absurd is
  behind-parts due End i old new is has three low members = absurd is
  behind-parts due Nothing i old new is has three low members = absurd is

  -- after the last line of a table
  behind-table : (table : Table) (k : ℕ) (next : NextLine) (old new : ℕ) → IsTableNext b (as_numbers c.choice) table next
      → HasRoom b s c (Entries table k) old room → HasMembers b s c next new room → HasRoom b s c next new room
  behind-table Head k next old new is has members = behind-parts (Entries Head k) next 0 old new is has refl
      (λ j some le. absurd (omega (arith, some, le))) members
  behind-table (Part i) k next old new is has members = behind-parts (Entries (Part i) k) next i old new is has refl (λ j some le. omega (arith, le)) members
  behind-table Lowered k next old new is has members = kept-as (Entries Lowered k) End next old new is has (omega arith)
      (λ j some inside come wins. omega (arith, come)) tt members

  -- after a line of the rows
  behind-row : (due next : NextLine) (r old new : ℕ) → IsRowNext r next → HasRoom b s c due old room → fields_come due ≡ 4 → parts_come b due ≡ suc b
      → HasMembers b s c next new room → HasRoom b s c next new room
  behind-row due next zero old new is has four all members = kept-as due (Title Lowered) next old new is has (omega (arith, four))
      (λ j some inside come wins. omega (arith, come, all)) tt members
  behind-row due next (suc r) old new is has four all members = kept-as due (Members (suc r)) next old new is has (omega (arith, four))
      (λ j some inside come wins. omega (arith, come, all)) tt members

  -- after each line
  pub room-next : (due next : NextLine) (count old new : ℕ) → HasDue b s c due → ComesBehind b (as_numbers c.choice) (pos (length c.rows)) due next
      → length c.rows ≤ 10 → HasRoom b s c due old room → HasLine b s c due count room → HasMembers b s c next new room → HasRoom b s c next new room
  room-next Version next count old new due is few has own members = elim is [
    | inl e ↦ kept-as Version Den next old new e has (omega arith) (λ j some inside come wins. absurd (omega (arith, come))) tt members
    | inr e ↦ kept-as Version Limits next old new e has (omega arith) (λ j some inside come wins. absurd (omega (arith, come))) tt members
  ]
  room-next Limits next count old new due is few has own members = kept-as Limits Den next old new is has (omega arith)
      (λ j some inside come wins. absurd (omega (arith, come))) tt members
  room-next Den next count old new due is few has own members = subst (λ (d : NextLine). HasRoom b s c d new room) (sym is) (record {
    den = λ come. own.whole tt;
    value = λ come. absurd (omega (arith, come));
    choice = λ come. absurd (omega (arith, come));
    pay = λ come. absurd (omega (arith, come));
    parts = λ j some inside come wins. absurd (omega (arith, come));
    before = tt;
    members_are = tt;
  })
  room-next Value next count old new due is few has own members = subst (λ (d : NextLine). HasRoom b s c d new room) (sym is) (record {
    den = λ come. has.den (omega arith);
    value = λ come. own.whole tt;
    choice = λ come. absurd (omega (arith, come));
    pay = λ come. absurd (omega (arith, come));
    parts = λ j some inside come wins. absurd (omega (arith, come));
    before = tt;
    members_are = tt;
  })
  room-next Choice next count old new due is few has own members = subst (λ (d : NextLine). HasRoom b s c d new room) (sym is) (record {
    den = λ come. has.den (omega arith);
    value = λ come. has.value (omega arith);
    choice = λ come. own.whole tt;
    pay = λ come. absurd (omega (arith, come));
    parts = λ j some inside come wins. absurd (omega (arith, come));
    before = tt;
    members_are = tt;
  })
  room-next (Title table) next count old new due is few has own members = kept-as (Title table) (Entries table 0) next old new is has (omega arith)
      (λ j some inside come wins. come) tt members
  room-next (Entries table k) next count old new due is few has own members =
      elim (cases_lt k b) [
        | inl lt ↦ kept-as (Entries table k) (Entries table (k + 1)) next old new (is.0 lt) has (omega arith) (λ j some inside come wins. come)
            (let up : suc k ≡ k + 1 = omega arith in subst (λ (n : ℕ). HasLineBefore b s c (Entries table n) room) up (own.whole tt)) members
        | inr past ↦ behind-table table k next old new (is.1 past) has members
      ]
  room-next (Without j) next count old new due is few has own members = kept-as (Without j) (PartChoice j) next old new is has (omega arith)
      (λ j some inside come wins. come) tt members
  room-next (PartChoice i) next count old new due is few has own members = subst (λ (d : NextLine). HasRoom b s c d new room) (sym is) (record {
    den = λ come. has.den (omega arith);
    value = λ come. has.value (omega arith);
    choice = λ come. has.choice (omega arith);
    pay = λ come. absurd (omega (arith, come));
    parts = λ j some inside come wins. elim (cases_lt j i) [
      | inl lt ↦ has.parts j some inside lt wins
      | inr ge ↦ (let same : i ≡ j = omega (arith, ge, come) in subst (λ (n : ℕ). segment b s (PartChoice n) room ≡ as_numbers (part_of c.withouts n).choice)
          same (own.whole tt))
    ];
    before = tt;
    members_are = tt;
  })
  room-next Payments next count old new due is few has own members = subst (λ (d : NextLine). HasRoom b s c d new room) (sym is) (record {
    den = λ come. has.den (omega arith);
    value = λ come. has.value (omega arith);
    choice = λ come. has.choice (omega arith);
    pay = λ come. own.whole tt;
    parts = has.parts;
    before = tt;
    members_are = tt;
  })
  room-next Rows next count old new due is few has own members = behind-row Rows next (length c.rows) old new
      (is (length c.rows) refl few) has refl refl members
  room-next (Members r) next count old new due is few has own members = kept-as (Members r) (Multipliers r) next old new is has (omega arith)
      (λ j some inside come wins. come) tt members
  room-next (Multipliers r) next count old new due is few has own members = kept-as (Multipliers r) (RowChoice r) next old new is has (omega arith)
      (λ j some inside come wins. come) tt members
  room-next (RowChoice r) next count old new due is few has own members = behind-row (RowChoice r) next (r - 1) old new is has refl refl members
  room-next End next count old new due is few has own members = kept-as End Nothing next old new is has (omega arith)
      (λ j some inside come wins. come) tt members
  room-next Nothing next count old new due is few has own members = kept-as Nothing Nothing next old new is has (omega arith)
      (λ j some inside come wins. come) tt members
