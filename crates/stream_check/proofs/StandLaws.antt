-- A checker that stands for a text, and one more line.
use Rattle.std.proofs.Common.{List, [], ap, append_assoc, arith, drop, false, get_or, inl, inr, length, refl, subst, suc, sym, take, zero, ℕ, ◌++◌}
use Rattle.std.proofs.Common.{◌∙◌, ◌∷◌, ◌≡◌, ◌≤◌}
use Rattle.std.proofs.lemmas.Bool.{false≢true}
use Rattle.std.proofs.lemmas.List.{append-nil}
use Rattle.std.specs.Prelude.{ℤ, pos, Bool, Option, Some, None, codes}
use Rattle.line_format.specs.LineText.{IsTextOf, stated}
use Rattle.auction_model.specs.Book.{Book}
use Rattle.cert_grammar.specs.Certificate.{CertValue}
use Rattle.cert_grammar.specs.CertText.{IsCertificate, as_numbers, cert_lines, line}
use Rattle.cert_grammar.specs.Lines.{IsCertText, Line, lines}
use Rattle.cert_grammar.specs.Says.{CertSays}
use Rattle.cert_soundness.specs.Tests.{bidders_of, states}
use Rattle.cert_check.specs.declared.failure.Failure.{Failure}
use Rattle.cert_check.specs.Partway.{HoldsTo, IsJudged}
use Rattle.cert_stream.specs.declared.due.NextLine.{NextLine}
use Rattle.cert_stream.specs.declared.due.NextLine.TheVariants.{Choice, Den, End, Entries, Limits, Members, Multipliers, Nothing, PartChoice, Payments}
use Rattle.cert_stream.specs.declared.due.NextLine.TheVariants.{RowChoice, Rows, Title, Value, Version, Without}
use Rattle.cert_stream.specs.declared.line.LinePart.{LinePart}
use Rattle.cert_stream.specs.Dues.{IsDue, line_with}
use Rattle.cert_stream.specs.LinesLeft.{lines_left, line_due, ComesNext, Tells, LeadsInRoom}
use Rattle.cert_stream.specs.Order.{ComesBehind}
use Rattle.cert_stream.specs.declared.due.Table.TheVariants.{Head, Part, Lowered}
use Rattle.cert_stream.specs.Rooms.{KeepsOthers, form_due, segment, start_due}
use Rattle.cert_stream.specs.Standing.{IsReading, IsEnding}
use Rattle.cert_stream.proofs.CertOf.{cert_of}
use Rattle.cert_stream.proofs.Comings.{all_left}
use Rattle.cert_stream.proofs.Fills.{reading_cert}
use Rattle.cert_stream.proofs.RoomParts.{IsFixed, came_whole}
use Rattle.cert_stream.proofs.Standing.{whole_text}
use Rattle.cert_stream.proofs.Stated.{none_out}
use Rattle.stream_check.specs.declared.row_totals.RowTotals.{RowTotals}
use Rattle.stream_check.specs.Grown.{IsGrown}
use Rattle.stream_check.specs.InRoom.{HasRoom, HasMembers}
use Rattle.stream_check.specs.Lines.{IsAtLine, IsNext, IsLeft, HasCome, IsKnown}
use Rattle.stream_check.specs.Tests.{IsFound}
use Rattle.stream_check.specs.Totals.{AreTotals, HasTotals}
use Rattle.stream_check.proofs.RoomKept.{room_stays}
use Rattle.stream_check.proofs.RoomNext.{room-next}

module _ (book : Book) (w : ℕ → ℕ) where
  -- at first nothing is asked
  nothing-asked : (c : CertValue) → HoldsTo book w c 1 0
  nothing-asked c u q (inl low) = (
    λ e. absurd (omega (arith, e, low)),
    λ e. absurd (omega (arith, e, low)),
    λ e. absurd (omega (arith, e, low)),
    λ e. absurd (omega (arith, e, low)),
    λ e. absurd (omega (arith, e, low)),
    λ e. absurd (omega (arith, e, low)),
    λ e. absurd (omega (arith, e, low)),
    λ e. absurd (omega (arith, e, low)),
    λ e. absurd (omega (arith, e, low)),
  )
  nothing-asked c u q (inr (same, lt)) = absurd (omega (arith, lt))

  -- a checker to which nothing was fed
  pub known-first : (due : NextLine) (totals : RowTotals) (room : List ℤ) → due ≡ Version → ((c : CertValue) → AreTotals c 0 totals)
      → IsKnown book w due None None 0 false totals room []
  known-first due totals room first none c kept rest e =
      subst (λ (d : NextLine). IsLeft book w c rest d None 0 false totals room) (sym first) (record {
        left = sym e ∙ all_left (bidders_of book) (states book) c kept;
        known = record {
          has = tt;
          named = tt;
          tested = record { holds = nothing-asked c; early = refl; part = tt };
          in_room = record {
            den = λ come. absurd (omega (arith, come));
            value = λ come. absurd (omega (arith, come));
            choice = λ come. absurd (omega (arith, come));
            pay = λ come. absurd (omega (arith, come));
            parts = λ j some inside come wins. absurd (omega (arith, come));
            before = tt;
            members_are = tt;
          };
          grown = λ t. absurd (false≢true t);
          in_totals = none c;
        };
      })

  -- the room has other numbers only in the line that is read
  pub known-stays : (due : NextLine) (failed : Option Failure) (late : Option ℕ) (members : ℕ) (grows : Bool) (totals : RowTotals) (old new : List ℤ) (items : List Line)
      → IsDue (bidders_of book) due → KeepsOthers (bidders_of book) (states book) due old new
      → IsKnown book w due failed late members grows totals old items → IsKnown book w due failed late members grows totals new items
  known-stays due failed late members grows totals old new items named others known c kept rest e = by failed (known c kept rest e)
    where
      by : (failed : Option Failure) → HasCome book w c rest due failed late members grows totals old → HasCome book w c rest due failed late members grows totals new
      by (Some f) has = has
      by None has = record {
        left = has.left;
        known = record {
          has = has.known.has;
          named = has.known.named;
          tested = has.known.tested;
          in_room = room_stays (bidders_of book) (states book) c due named members old new others has.known.in_room;
          grown = has.known.grown;
          in_totals = has.known.in_totals;
        };
      }

  -- what is known of the certificate at the end
  judged-last : (c : CertValue) (failed : Option Failure) (late : Option ℕ) (members : ℕ) (grows : Bool) (totals : RowTotals) (room : List ℤ)
      → HasCome book w c [] Nothing failed late members grows totals room → IsJudged book w c 10 0 failed
  judged-last c (Some f) late members grows totals room has = has
  judged-last c None late members grows totals room has = has.known.tested.holds

  -- a certificate whose text it is, with all that is known of it
  pub record IsDone (text : List ℕ) (failed : Option Failure) (late : Option ℕ) (members : ℕ) (grows : Bool) (totals : RowTotals) (room : List ℤ) : Type 0 where
    -- a certificate of the book
    pub cert : CertValue
    -- it has the shape that a certificate keeps
    pub kept : IsCertificate (bidders_of book) (states book) cert
    -- the text states it
    pub says : CertSays (bidders_of book) (states book) text (stated cert)
    -- no line of it is to come, and this is known of it
    pub come : HasCome book w cert [] Nothing failed late members grows totals room
    -- either all nine tests pass, or what fails first is known
    pub judged : IsJudged book w cert 10 0 failed

  -- if no line is due, the text states such a certificate
  pub at-end : (due : NextLine) (part : LinePart) (place read : ℕ) (room : List ℤ) (text : List ℕ) (items : List Line) (failed : Option Failure) (late : Option ℕ)
      (members : ℕ) (grows : Bool) (totals : RowTotals) → due ≡ Nothing
      → IsReading (bidders_of book) (states book) due part place read room text items → IsKnown book w due failed late members grows totals room items
      → IsDone text failed late members grows totals room
  at-end due part place read room text items failed late members grows totals done reading known =
      let own : IsTextOf (IsCertText (bidders_of book) (states book)) lines text items = whole_text (bidders_of book)
      (states book) due part place read room text items reading done in
      let c = cert_of (bidders_of book) (states book) items own.valid (none_out 0 items own.within) in
      let last : HasCome book w c.cert [] Nothing failed late members grows totals room =
      subst (λ (d : NextLine). HasCome book w c.cert [] d failed late members grows totals room) done (known c.cert c.kept [] (c.whole ∙ sym (append-nil items))) in
      record {
        cert = c.cert;
        kept = c.kept;
        says = (c.kept, subst (λ (l : List Line). IsTextOf (IsCertText (bidders_of book) (states book)) lines text l) (sym c.whole) own);
        come = last;
        judged = judged-last c.cert failed late members grows totals room last;
      }

  -- what had failed goes on failing
  pub known-failed : (due next : NextLine) (failed : Option Failure) (f : Failure) (late late2 : Option ℕ) (members members2 : ℕ) (grows grows2 : Bool) (totals totals2 : RowTotals)
      (room : List ℤ) (items : List Line) (own : Line) → failed ≡ Some f
      → IsKnown book w due failed late members grows totals room items → IsKnown book w next failed late2 members2 grows2 totals2 room (items ++ own ∷ [])
  known-failed due next failed f late late2 members members2 grows grows2 totals totals2 room items own is known c kept rest e =
      subst (λ (o : Option Failure). HasCome book w c rest next o late2 members2 grows2 totals2 room) (sym is)
      (subst (λ (o : Option Failure). HasCome book w c (own ∷ rest) due o late members grows totals room) is
      (known c kept (own ∷ rest) (e ∙ append_assoc items (own ∷ []) rest)))

-- two lists of a line and more
first-is : (x y : Line) (xs ys : List Line) → x ∷ xs ≡ y ∷ ys → x ≡ y
first-is x y xs ys e = cc

rest-is : (x y : Line) (xs ys : List Line) → x ∷ xs ≡ y ∷ ys → xs ≡ ys
rest-is x y xs ys e = cc

-- a number of the room by its segment
one-number : (n : ℕ) (room : List ℤ) (z : ℤ) → take 1 (drop n room) ≡ z ∷ [] → get_or room n (pos 0) ≡ z
one-number zero [] z e = cc
one-number zero (x ∷ room) z e = cc
one-number (suc n) [] z e = cc
one-number (suc n) (x ∷ room) z e = one-number n room z e

-- what the room says of the next line, if the numbers of the line are in it
told : (b s : ℕ) (c : CertValue) (due : NextLine) (members : ℕ) (room numbers : List ℤ) (rest : List Line) → line_with due numbers ∷ rest ≡ lines_left b s c due
    → HasRoom b s c due members room → (due ≡ Rows → segment b s due room ≡ numbers)
    → Tells c due (take b room) (get_or room (start_due b s due) (pos 0))
told b s c Version members room numbers rest left has own = tt
told b s c Limits members room numbers rest left has own = tt
told b s c Den members room numbers rest left has own = tt
told b s c Value members room numbers rest left has own = tt
told b s c Choice members room numbers rest left has own = tt
told b s c (Title table) members room numbers rest left has own = tt
told b s c (Entries Head k) members room numbers rest left has own = has.choice (omega arith)
told b s c (Entries (Part j) k) members room numbers rest left has own = has.choice (omega arith)
told b s c (Entries Lowered k) members room numbers rest left has own = has.choice (omega arith)
told b s c (Without j) members room numbers rest left has own = tt
told b s c (PartChoice j) members room numbers rest left has own = tt
told b s c Payments members room numbers rest left has own = tt
told b s c Rows members room numbers rest left has own =
    let same : numbers ≡ pos (length c.rows) ∷ [] = ap (λ (l : Line). l.numbers)
    (first-is (line_with Rows numbers) (line (codes "rows") (pos (length c.rows) ∷ [])) rest _ left) in
    one-number b room (pos (length c.rows)) (own refl ∙ same)
told b s c (Members r) members room numbers rest left has own = tt
told b s c (Multipliers r) members room numbers rest left has own = tt
told b s c (RowChoice r) members room numbers rest left has own = tt
told b s c End members room numbers rest left has own = tt
told b s c Nothing members room numbers rest left has own = tt

-- the order of lines, for the choice and the count that the room says
order : (b : ℕ) (c : CertValue) (choice : List ℤ) (first : ℤ) (due next : NextLine) → Tells c due choice first → ComesBehind b choice first due next
    → ComesBehind b (as_numbers c.choice) (pos (length c.rows)) due next
order b c choice first Version next tells is = is
order b c choice first Limits next tells is = is
order b c choice first Den next tells is = is
order b c choice first Value next tells is = is
order b c choice first Choice next tells is = is
order b c choice first (Title table) next tells is = is
order b c choice first (Entries table k) next tells is = subst (λ (l : List ℤ). ComesBehind b l first (Entries table k) next) tells is
order b c choice first (Without j) next tells is = is
order b c choice first (PartChoice j) next tells is = is
order b c choice first Payments next tells is = is
order b c choice first Rows next tells is = subst (λ (z : ℤ). ComesBehind b choice z Rows next) tells is
order b c choice first (Members r) next tells is = is
order b c choice first (Multipliers r) next tells is = is
order b c choice first (RowChoice r) next tells is = is
order b c choice first End next tells is = is
order b c choice first Nothing next tells is = is

-- The line has come, and the certificate has it there.
module _ (book : Book) (w : ℕ → ℕ) (c : CertValue) (kept : IsCertificate (bidders_of book) (states book) c) (due next : NextLine) (part : LinePart)
    (place read : ℕ) (room : List ℤ) (text : List ℕ) (items rest : List Line) (late : Option ℕ) (members : ℕ) (grows : Bool) (totals : RowTotals)
    (ends : IsEnding (bidders_of book) (states book) due part place read room text items) (within : part.beyond ≡ false)
    (has : IsLeft book w c (line_with due ends.whole.numbers ∷ rest) due late members grows totals room)
    (leads : LeadsInRoom (bidders_of book) (states book) due room next)
    (behind : ComesBehind (bidders_of book) (take (bidders_of book) room) (get_or room (start_due (bidders_of book) (states book) due) (pos 0)) due next) where
  tells : Tells c due (take (bidders_of book) room) (get_or room (start_due (bidders_of book) (states book) due) (pos 0))
  tells = told (bidders_of book) (states book) c due members room ends.whole.numbers rest has.left has.known.in_room
      (λ e. came_whole (bidders_of book) (states book) due _ _ part room ends.whole (fixed due e) within)
    where
      fixed : (due : NextLine) → due ≡ Rows → IsFixed (form_due (bidders_of book) (states book) due)
      fixed due e = subst (λ (d : NextLine). IsFixed (form_due (bidders_of book) (states book) d)) (sym e) tt

  comes : ComesNext (bidders_of book) (states book) c due next
  comes = leads c kept tells has.known.has

  -- the line that is due next is the next one of the certificate
  pub is-next : IsNext book c due next
  is-next = order (bidders_of book) c (take (bidders_of book) room) (get_or room (start_due (bidders_of book) (states book) due) (pos 0)) due next tells behind

  both : line_with due ends.whole.numbers ∷ rest ≡ line_due (bidders_of book) (states book) c due ∷ lines_left (bidders_of book) (states book) c next
  both = has.left ∙ comes.left

  numbers-are : ends.whole.numbers ≡ (line_due (bidders_of book) (states book) c due).numbers
  numbers-are = ap (λ (l : Line). l.numbers) (first-is (line_with due ends.whole.numbers) (line_due (bidders_of book) (states book) c due) rest
      (lines_left (bidders_of book) (states book) c next) both)

  -- the line that was due is that of the certificate
  pub at-line : IsAtLine book w c due part.count late members grows totals room
  at-line = record {
    kept = kept;
    known = has.known;
    own = record {
      first = ends.whole.keeps.same within ∙ numbers-are;
      whole = λ fixed. came_whole (bidders_of book) (states book) due _ _ part room ends.whole fixed within ∙ numbers-are;
    };
  }

  -- what is known after it
  pub come-next : (failed2 : Option Failure) (late2 : Option ℕ) (members2 : ℕ) (grows2 : Bool) (totals2 : RowTotals) → IsDue (bidders_of book) next
      → IsFound book w c next failed2 late2
      → HasMembers (bidders_of book) (states book) c next members2 room → HasTotals c next totals2 → IsGrown book c next grows2 → HasCome book w c rest next failed2 late2 members2 grows2 totals2
      room
  come-next (Some f) late2 members2 grows2 totals2 named found members_are totals_are grown = found
  come-next None late2 members2 grows2 totals2 named found members_are totals_are grown = record {
    left = rest-is (line_with due ends.whole.numbers) (line_due (bidders_of book) (states book) c due) rest
        (lines_left (bidders_of book) (states book) c next) both;
    known = record {
      has = comes.has;
      named = named;
      tested = found;
      in_room = room-next (bidders_of book) (states book) c room due next part.count members members2 has.known.has is-next kept.few has.known.in_room
          at-line.own members_are;
      grown = grown;
      in_totals = totals_are;
    };
  }

-- The same for the numbers of bidders and states that the reader has, which are those of the book.
pub record IsStep (book : Book) (w : ℕ → ℕ) (due next : NextLine) (count : ℕ) (late : Option ℕ) (members : ℕ) (grows : Bool) (totals : RowTotals) (room : List ℤ)
    (more : List Line) : Type 0 where
  -- some certificate has the line there
  pub possible : (c : CertValue) × IsAtLine book w c due count late members grows totals room
  -- what the tests show of each certificate that has it there is known after it
  pub known : (failed2 : Option Failure) (late2 : Option ℕ) (members2 : ℕ) (grows2 : Bool) (totals2 : RowTotals)
      → ((c : CertValue) → IsAtLine book w c due count late members grows totals room → IsNext book c due next
      → IsFound book w c next failed2 late2 × HasMembers (bidders_of book) (states book) c next members2 room × HasTotals c next totals2 × IsGrown book c next grows2)
      → IsKnown book w next failed2 late2 members2 grows2 totals2 room more

module _ (book : Book) (w : ℕ → ℕ) (due next : NextLine) (part part2 : LinePart) (place read place2 read2 : ℕ) (room : List ℤ) (text text2 : List ℕ)
    (items : List Line) (late : Option ℕ) (members : ℕ) (grows : Bool) (totals : RowTotals)
    (few : bidders_of book ≤ 65535) (within : part.beyond ≡ false) (known : IsKnown book w due None late members grows totals room items) where
  -- what the reader says, for that many bidders and states
  abbrev Says : ℕ → ℕ → Type 0
  Says b s = (ends : IsEnding b s due part place read room text items) → LeadsInRoom b s due room next
      → ComesBehind b (take b room) (get_or room (start_due b s due) (pos 0)) due next
      → IsReading b s next part2 place2 read2 room text2 (items ++ line_with due ends.whole.numbers ∷ [])
      → IsStep book w due next part.count late members grows totals room (items ++ line_with due ends.whole.numbers ∷ [])

  step-own : Says (bidders_of book) (states book)
  step-own ends leads behind reading =
      let own = line_with due ends.whole.numbers in
      let front = reading_cert (bidders_of book) (states book) next part2 place2 read2 room text2 (items ++ line_with due ends.whole.numbers ∷ []) few
      reading in
      let left : (c : CertValue) → IsCertificate (bidders_of book) (states book) c → (rest : List Line)
      → cert_lines c ≡ (items ++ line_with due ends.whole.numbers ∷ []) ++ rest → IsLeft book w c
      (line_with due ends.whole.numbers ∷ rest) due late members grows totals room =
      λ c kept rest e. known c kept (line_with due ends.whole.numbers ∷ rest) (e ∙ append_assoc items (line_with due ends.whole.numbers ∷ []) rest) in
      record {
        possible = (
          front.0,
          at-line book w front.0 front.2 due next part place read room text items front.1 late members grows totals ends within
              (left front.0 front.2 front.1 front.3) leads behind,
        );
        known = λ failed2 late2 members2 grows2 totals2 each c kept rest e.
            let has = left c kept rest e in
            let here = at-line book w c kept due next part place read room text items rest late members grows totals ends within has leads behind in
            let all = each c here (is-next book w c kept due next part place read room text items rest late members grows totals ends within has leads behind) in
            come-next book w c kept due next part place read room text items rest late members grows totals ends within has leads behind failed2 late2 members2 grows2
            totals2 reading.named all.0 all.1 all.2 all.3;
      }

  -- so the line makes a step, by the numbers of the reader
  pub step : (b s : ℕ) → bidders_of book ≡ b → states book ≡ s → Says b s
  step b s many same = subst (λ (n : ℕ). Says n s) many (subst (λ (n : ℕ). Says (bidders_of book) n) same step-own)
