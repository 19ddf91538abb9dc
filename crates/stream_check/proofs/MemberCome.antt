-- The members of a row, as numbers.
use Rattle.std.proofs.Common.{List, [], ap, arith, drop, inl, inr, length, length-take, refl, subst, suc, sym, take, zero, ℕ, ◌++◌, ◌-◌, ◌<◌, ◌∙◌}
use Rattle.std.proofs.Common.{◌∷◌, ◌≡◌, ◌≤◌}
use Rattle.std.specs.Prelude.{ℤ, ◌⊎◌}
use Rattle.std.proofs.lemmas.Bool.{cases_lt}
use Rattle.auction_model.specs.Book.{Book}
use Rattle.cert_grammar.specs.Certificate.{CertValue}
use Rattle.cert_grammar.specs.CertText.{AreMembers, AtMost, IsRow, as_numbers}
use Rattle.line_format.proofs.Words.{word_front}
use Rattle.cert_soundness.specs.Tests.{bidders_of, states}
use Rattle.cert_stream.specs.declared.due.NextLine.{NextLine}
use Rattle.cert_stream.specs.declared.due.NextLine.TheVariants.{Choice, Den, End, Entries, Limits, Members, Multipliers, Nothing, PartChoice, Payments}
use Rattle.cert_stream.specs.declared.due.NextLine.TheVariants.{RowChoice, Rows, Title, Value, Version, Without}
use Rattle.cert_stream.specs.declared.due.Table.TheVariants.{Head, Part, Lowered}
use Rattle.cert_stream.specs.Order.{IsPartNext, IsRowNext}
use Rattle.cert_stream.specs.LinesLeft.{row_at}
use Rattle.cert_stream.specs.Rooms.{segment, start_due}
use Rattle.stream_check.specs.declared.moment.LineContext.{LineContext}
use Rattle.stream_check.specs.InRoom.{HasMembers}
use Rattle.stream_check.specs.Lines.{IsNext}
use Rattle.stream_check.specs.Moments.{IsAt}
use Rattle.stream_check.specs.Totals.{AreTotals}
use Rattle.stream_check.proofs.NextLaws.{at-due, next-due}
use Rattle.stream_check.proofs.RowCome.{row_at-kept}

-- members are small numbers
pub members-most : (b before : ℕ) (js : List ℕ) → b ≤ 65535 → AreMembers b before js → AtMost 65535 js
members-most b before [] few are = tt
members-most b before (j ∷ js) few are = (omega (arith, few, are.1), members-most b j js few are.2)

-- the row that is read, at its multipliers or at its choice
module _ (at : LineContext) (c : CertValue) (is : IsAt at c) (r : ℕ) where
  row-due : (at.due ≡ Multipliers r) ⊎ (at.due ≡ RowChoice r) → (0 < r) × (r ≤ length c.rows)
      × (take at.members (segment (bidders_of at.book.now) (states at.book.now) (Members r) at.room.now) ≡ as_numbers (row_at c r).members)
  row-due (inl due) = (let here = at-due at c (Multipliers r) due is in (here.known.named.0, here.known.has, here.known.in_room.members_are))
  row-due (inr due) = (let here = at-due at c (RowChoice r) due is in (here.known.named.0, here.known.has, here.known.in_room.members_are))

  -- the room has the members of the row
  pub members-there : (at.due ≡ Multipliers r) ⊎ (at.due ≡ RowChoice r) → take at.members
      (segment (bidders_of at.book.now) (states at.book.now) (Members r) at.room.now) ≡ as_numbers (row_at c r).members
  members-there due = (row-due due).2

  -- the row is one for the book's bidders
  pub row-whole : (at.due ≡ Multipliers r) ⊎ (at.due ≡ RowChoice r) → IsRow (bidders_of at.book.now) (row_at c r)
  row-whole due = (let here = row-due due in row_at-kept (bidders_of at.book.now) c r is.kept.rows here.0 here.1)

-- the multipliers of the row that is read
module _ (at : LineContext) (c : CertValue) (is : IsAt at c) (r : ℕ) (due : at.due ≡ Multipliers r) where
  -- the room has the two multipliers of the row
  pub pair-there : segment (bidders_of at.book.now) (states at.book.now) (Multipliers r) at.room.now ≡ (row_at c r).first ∷ (row_at c r).second ∷ []
  pair-there = (at-due at c (Multipliers r) due is).own.whole tt

  -- the totals are those of the rows before it
  pub pair-totals : AreTotals c (length c.rows - r) at.totals.now
  pair-totals = (at-due at c (Multipliers r) due is).known.in_totals

  -- the row is one of the certificate's
  pub pair-inside : length c.rows - r < length c.rows
  pair-inside = (let here = at-due at c (Multipliers r) due is in omega (arith, here.known.named.0, here.known.has))

-- no row is read after the parts
part-members : (b s n : ℕ) (c : CertValue) (choice : List ℤ) (j : ℕ) (next : NextLine) (room : List ℤ) → IsPartNext b choice j next → HasMembers b s c next n room
part-members b s n c choice j Version room is = absurd is
part-members b s n c choice j Limits room is = absurd is
part-members b s n c choice j Den room is = absurd is
part-members b s n c choice j Value room is = absurd is
part-members b s n c choice j Choice room is = absurd is
part-members b s n c choice j (Title table) room is = absurd is
part-members b s n c choice j (Entries table k) room is = absurd is
part-members b s n c choice j (Without i) room is = tt
part-members b s n c choice j (PartChoice i) room is = absurd is
part-members b s n c choice j Payments room is = tt
part-members b s n c choice j Rows room is = absurd is
part-members b s n c choice j (Members r) room is = absurd is
part-members b s n c choice j (Multipliers r) room is = absurd is
part-members b s n c choice j (RowChoice r) room is = absurd is
part-members b s n c choice j End room is = absurd is
part-members b s n c choice j Nothing room is = absurd is

-- nor are its multipliers due after a row
row-members : (b s n m : ℕ) (c : CertValue) (next : NextLine) (room : List ℤ) → IsRowNext m next → HasMembers b s c next n room
row-members b s n zero c next room is = subst (λ (d : NextLine). HasMembers b s c d n room) (sym is) tt
row-members b s n (suc m) c next room is = subst (λ (d : NextLine). HasMembers b s c d n room) (sym is) tt

-- another line leaves the count of members as it is
pub members-next : (book : Book) (c : CertValue) (due next : NextLine) (n : ℕ) (room : List ℤ) → ((r : ℕ) → due ≡ Members r → ⊥) → length c.rows ≤ 10 → IsNext book c due next
    → HasMembers (bidders_of book) (states book) c due n room → HasMembers (bidders_of book) (states book) c next n room
members-next book c Version next n room other few is has = elim is [
  | inl e ↦ subst (λ (d : NextLine). HasMembers (bidders_of book) (states book) c d n room) (sym e) tt
  | inr e ↦ subst (λ (d : NextLine). HasMembers (bidders_of book) (states book) c d n room) (sym e) tt
]
members-next book c Limits next n room other few is has = subst (λ (d : NextLine). HasMembers (bidders_of book) (states book) c d n room) (sym is) tt
members-next book c Den next n room other few is has = subst (λ (d : NextLine). HasMembers (bidders_of book) (states book) c d n room) (sym is) tt
members-next book c Value next n room other few is has = subst (λ (d : NextLine). HasMembers (bidders_of book) (states book) c d n room) (sym is) tt
members-next book c Choice next n room other few is has = subst (λ (d : NextLine). HasMembers (bidders_of book) (states book) c d n room) (sym is) tt
members-next book c (Title table) next n room other few is has = subst (λ (d : NextLine). HasMembers (bidders_of book) (states book) c d n room) (sym is) tt
members-next book c (Entries Head k) next n room other few is has = elim (cases_lt k (bidders_of book)) [
  | inl lt ↦ subst (λ (d : NextLine). HasMembers (bidders_of book) (states book) c d n room) (sym (is.0 lt)) tt
  | inr past ↦ part-members (bidders_of book) (states book) n c (as_numbers c.choice) 0 next room (is.1 past)
]
members-next book c (Entries (Part j) k) next n room other few is has = elim (cases_lt k (bidders_of book)) [
  | inl lt ↦ subst (λ (d : NextLine). HasMembers (bidders_of book) (states book) c d n room) (sym (is.0 lt)) tt
  | inr past ↦ part-members (bidders_of book) (states book) n c (as_numbers c.choice) j next room (is.1 past)
]
members-next book c (Entries Lowered k) next n room other few is has = elim (cases_lt k (bidders_of book)) [
  | inl lt ↦ subst (λ (d : NextLine). HasMembers (bidders_of book) (states book) c d n room) (sym (is.0 lt)) tt
  | inr past ↦ subst (λ (d : NextLine). HasMembers (bidders_of book) (states book) c d n room) (sym (is.1 past)) tt
]
members-next book c (Without j) next n room other few is has = subst (λ (d : NextLine). HasMembers (bidders_of book) (states book) c d n room) (sym is) tt
members-next book c (PartChoice j) next n room other few is has = subst (λ (d : NextLine). HasMembers (bidders_of book) (states book) c d n room) (sym is) tt
members-next book c Payments next n room other few is has = subst (λ (d : NextLine). HasMembers (bidders_of book) (states book) c d n room) (sym is) tt
members-next book c Rows next n room other few is has = row-members (bidders_of book) (states book) n (length c.rows) c next room (is (length c.rows) refl few)
members-next book c (Members r) next n room other few is has = absurd (other r refl)
members-next book c (Multipliers r) next n room other few is has = subst (λ (d : NextLine). HasMembers (bidders_of book) (states book) c d n room) (sym is) has
members-next book c (RowChoice r) next n room other few is has = row-members (bidders_of book) (states book) n (r - 1) c next room is
members-next book c End next n room other few is has = subst (λ (d : NextLine). HasMembers (bidders_of book) (states book) c d n room) (sym is) tt
members-next book c Nothing next n room other few is has = subst (λ (d : NextLine). HasMembers (bidders_of book) (states book) c d n room) (sym is) tt

-- after the members they are as many as their line has
pub members-come : (at : LineContext) (c : CertValue) (is : IsAt at c) (r : ℕ) (next : NextLine) → at.due ≡ Members r → IsNext at.book.now c at.due next
    → HasMembers (bidders_of at.book.now) (states at.book.now) c next at.count at.room.now
members-come at c is r next due follows =
    subst (λ (d : NextLine). HasMembers (bidders_of at.book.now) (states at.book.now) c d at.count at.room.now) (sym (next-due at c (Members r) next due follows))
    ((at-due at c (Members r) due is).own.first)

-- no more than there are bidders
pub segment-few : (b s r : ℕ) (room : List ℤ) → length (segment b s (Members r) room) ≤ b
segment-few b s r room = omega (arith, length-take b (drop (start_due b s (Members r)) room))

-- the first part of two, of this length
pub take-front : (n : ℕ) (xs ys : List ℕ) → length xs ≡ n → take n (xs ++ ys) ≡ xs
take-front n xs ys long = ap (λ (m : ℕ). take m (xs ++ ys)) (sym long) ∙ word_front xs ys
