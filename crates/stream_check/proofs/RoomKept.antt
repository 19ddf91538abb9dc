-- The room keeps what it has of a certificate while a line is read.
use Rattle.std.proofs.Common.{◌≡◌, ◌≢◌, ℕ, suc, zero, ◌%◌, ◌≤◌, ◌<◌, List, take, ap, ◌∙◌, arith}
use Rattle.std.specs.Prelude.{ℤ}
use Rattle.cert_grammar.specs.Certificate.{CertValue}
use Rattle.cert_grammar.specs.CertText.{as_numbers}
use Rattle.cert_stream.specs.declared.due.NextLine.{NextLine}
use Rattle.cert_stream.specs.declared.due.NextLine.TheVariants.{Choice, Den, End, Entries, Limits, Members, Multipliers, Nothing, PartChoice, Payments}
use Rattle.cert_stream.specs.declared.due.NextLine.TheVariants.{RowChoice, Rows, Title, Value, Version, Without}
use Rattle.cert_stream.specs.Dues.{IsDue}
use Rattle.cert_stream.specs.LinesLeft.{row_at}
use Rattle.cert_stream.specs.Rooms.{segment, KeepsOthers}
use Rattle.cert_stream.proofs.RoomParts.{part_due, other_line_kept, part_kept, line_kept}
use Rattle.stream_check.specs.InRoom.{HasRoom, HasLineBefore, HasMembers, fields_come, parts_come}

-- a line after it has its numbers in another part
not_den : (due : NextLine) → 1 ≤ fields_come due → part_due Den ≡ part_due due → ⊥
not_den Version come e = omega (arith, come, e)
not_den Limits come e = omega (arith, come, e)
not_den Den come e = omega (arith, come, e)
not_den Value come e = omega (arith, come, e)
not_den Choice come e = omega (arith, come, e)
not_den (Title table) come e = omega (arith, come, e)
not_den (Entries table k) come e = omega (arith, come, e)
not_den (Without j) come e = omega (arith, come, e)
not_den (PartChoice j) come e = omega (arith, come, e)
not_den Payments come e = omega (arith, come, e)
not_den Rows come e = omega (arith, come, e)
not_den (Members r) come e = omega (arith, come, e)
not_den (Multipliers r) come e = omega (arith, come, e)
not_den (RowChoice r) come e = omega (arith, come, e)
not_den End come e = omega (arith, come, e)
not_den Nothing come e = omega (arith, come, e)

-- a line after it has its numbers in another part
not_value : (due : NextLine) → 2 ≤ fields_come due → part_due Value ≡ part_due due → ⊥
not_value Version come e = omega (arith, come, e)
not_value Limits come e = omega (arith, come, e)
not_value Den come e = omega (arith, come, e)
not_value Value come e = omega (arith, come, e)
not_value Choice come e = omega (arith, come, e)
not_value (Title table) come e = omega (arith, come, e)
not_value (Entries table k) come e = omega (arith, come, e)
not_value (Without j) come e = omega (arith, come, e)
not_value (PartChoice j) come e = omega (arith, come, e)
not_value Payments come e = omega (arith, come, e)
not_value Rows come e = omega (arith, come, e)
not_value (Members r) come e = omega (arith, come, e)
not_value (Multipliers r) come e = omega (arith, come, e)
not_value (RowChoice r) come e = omega (arith, come, e)
not_value End come e = omega (arith, come, e)
not_value Nothing come e = omega (arith, come, e)

-- a line after it has its numbers in another part
not_choice : (due : NextLine) → 3 ≤ fields_come due → part_due Choice ≡ part_due due → ⊥
not_choice Version come e = omega (arith, come, e)
not_choice Limits come e = omega (arith, come, e)
not_choice Den come e = omega (arith, come, e)
not_choice Value come e = omega (arith, come, e)
not_choice Choice come e = omega (arith, come, e)
not_choice (Title table) come e = omega (arith, come, e)
not_choice (Entries table k) come e = omega (arith, come, e)
not_choice (Without j) come e = omega (arith, come, e)
not_choice (PartChoice j) come e = omega (arith, come, e)
not_choice Payments come e = omega (arith, come, e)
not_choice Rows come e = omega (arith, come, e)
not_choice (Members r) come e = omega (arith, come, e)
not_choice (Multipliers r) come e = omega (arith, come, e)
not_choice (RowChoice r) come e = omega (arith, come, e)
not_choice End come e = omega (arith, come, e)
not_choice Nothing come e = omega (arith, come, e)

-- a line after it has its numbers in another part
not_pay : (due : NextLine) → 4 ≤ fields_come due → part_due Payments ≡ part_due due → ⊥
not_pay Version come e = omega (arith, come, e)
not_pay Limits come e = omega (arith, come, e)
not_pay Den come e = omega (arith, come, e)
not_pay Value come e = omega (arith, come, e)
not_pay Choice come e = omega (arith, come, e)
not_pay (Title table) come e = omega (arith, come, e)
not_pay (Entries table k) come e = omega (arith, come, e)
not_pay (Without j) come e = omega (arith, come, e)
not_pay (PartChoice j) come e = omega (arith, come, e)
not_pay Payments come e = omega (arith, come, e)
not_pay Rows come e = omega (arith, come, e)
not_pay (Members r) come e = omega (arith, come, e)
not_pay (Multipliers r) come e = omega (arith, come, e)
not_pay (RowChoice r) come e = omega (arith, come, e)
not_pay End come e = omega (arith, come, e)
not_pay Nothing come e = omega (arith, come, e)

module _ (b s : ℕ) (c : CertValue) (due : NextLine) (named : IsDue b due) (members : ℕ) (old new : List ℤ) (others : KeepsOthers b s due old new) where
  -- the choice without another winner stays
  choice_stays : (j : ℕ) → 0 < j → j ≤ b → j < parts_come b due → segment b s (PartChoice j) new ≡ segment b s (PartChoice j) old
  choice_stays j some inside come = by_due due named others come
    where
      other : (due : NextLine) → IsDue b due → KeepsOthers b s due old new → (part_due (PartChoice j) ≡ part_due due → ⊥)
          → segment b s (PartChoice j) new ≡ segment b s (PartChoice j) old
      other due named others apart = other_line_kept b s due named old new others (PartChoice j) (some, inside) apart

      by_due : (due : NextLine) → IsDue b due → KeepsOthers b s due old new → j < parts_come b due → segment b s (PartChoice j) new ≡ segment b s (PartChoice j) old
      by_due Version named others come = other Version named others (λ e. omega (arith, e))
      by_due Limits named others come = other Limits named others (λ e. omega (arith, e))
      by_due Den named others come = other Den named others (λ e. omega (arith, e))
      by_due Value named others come = other Value named others (λ e. omega (arith, e))
      by_due Choice named others come = other Choice named others (λ e. omega (arith, e))
      by_due (Title table) named others come = other (Title table) named others (λ e. omega (arith, e))
      by_due (Entries table k) named others come = other (Entries table k) named others (λ e. omega (arith, e))
      by_due (Without i) named others come = other (Without i) named others (λ e. omega (arith, e))
      by_due (PartChoice i) named others come = part_kept b s j i old new some named.0 (λ e. omega (arith, e, come)) others.front others.back
      by_due Payments named others come = other Payments named others (λ e. omega (arith, e))
      by_due Rows named others come = other Rows named others (λ e. omega (arith, e))
      by_due (Members r) named others come = other (Members r) named others (λ e. omega (arith, e))
      by_due (Multipliers r) named others come = other (Multipliers r) named others (λ e. omega (arith, e))
      by_due (RowChoice r) named others come = other (RowChoice r) named others (λ e. omega (arith, e))
      by_due End named others come = other End named others (λ e. omega (arith, e))
      by_due Nothing named others come = other Nothing named others (λ e. omega (arith, e))

  -- so does the line of a table before the one that is read
  line_stays : HasLineBefore b s c due old → HasLineBefore b s c due new
  line_stays has = by_due due others has
    where
      turn : (k : ℕ) → k % 2 ≢ suc k % 2
      turn k e = omega (arith, e)

      by_due : (due : NextLine) → KeepsOthers b s due old new → HasLineBefore b s c due old → HasLineBefore b s c due new
      by_due Version others has = tt
      by_due Limits others has = tt
      by_due Den others has = tt
      by_due Value others has = tt
      by_due Choice others has = tt
      by_due (Title table) others has = tt
      by_due (Entries table zero) others has = tt
      by_due (Entries table (suc k)) others has = line_kept b s k (suc k) old new (turn k) others.front others.back ∙ has
      by_due (Without j) others has = tt
      by_due (PartChoice j) others has = tt
      by_due Payments others has = tt
      by_due Rows others has = tt
      by_due (Members r) others has = tt
      by_due (Multipliers r) others has = tt
      by_due (RowChoice r) others has = tt
      by_due End others has = tt
      by_due Nothing others has = tt

  -- and the members of the row
  members_stay : HasMembers b s c due members old → HasMembers b s c due members new
  members_stay has = by_due due named others has
    where
      same : (due : NextLine) (r : ℕ) → IsDue b due → KeepsOthers b s due old new → IsDue b (Members r) → (6 ≡ part_due due → ⊥)
          → take members (segment b s (Members r) old) ≡ as_numbers (row_at c r).members → take members (segment b s (Members r) new) ≡ as_numbers
          (row_at c r).members
      same due r named others own apart has = ap (λ (l : List ℤ). take members l) (other_line_kept b s due named old new others (Members r) own apart) ∙ has

      by_due : (due : NextLine) → IsDue b due → KeepsOthers b s due old new → HasMembers b s c due members old → HasMembers b s c due members new
      by_due Version named others has = tt
      by_due Limits named others has = tt
      by_due Den named others has = tt
      by_due Value named others has = tt
      by_due Choice named others has = tt
      by_due (Title table) named others has = tt
      by_due (Entries table k) named others has = tt
      by_due (Without j) named others has = tt
      by_due (PartChoice j) named others has = tt
      by_due Payments named others has = tt
      by_due Rows named others has = tt
      by_due (Members r) named others has = tt
      by_due (Multipliers r) named others has = same (Multipliers r) r named others named (λ e. omega (arith, e)) has
      by_due (RowChoice r) named others has = same (RowChoice r) r named others named (λ e. omega (arith, e)) has
      by_due End named others has = tt
      by_due Nothing named others has = tt

  -- all that the room has
  pub room_stays : HasRoom b s c due members old → HasRoom b s c due members new
  room_stays has = record {
    den = λ come. other_line_kept b s due named old new others Den tt (not_den due come) ∙ has.den come;
    value = λ come. other_line_kept b s due named old new others Value tt (not_value due come) ∙ has.value come;
    choice = λ come. other_line_kept b s due named old new others Choice tt (not_choice due come) ∙ has.choice come;
    pay = λ come. other_line_kept b s due named old new others Payments tt (not_pay due come) ∙ has.pay come;
    parts = λ j some inside come wins. choice_stays j some inside come ∙ has.parts j some inside come wins;
    before = line_stays has.before;
    members_are = members_stay has.members_are;
  }
