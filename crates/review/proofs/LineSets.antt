-- Lines of which one is computed again.
use Rattle.std.specs.Prelude.{◌≡◌, ◌≢◌, ℕ, ◌+◌, ◌-◌, ◌≤◌, ◌<◌, true, List, [], length, get_or, replicate, ℤ, pos, refl}
use Rattle.std.proofs.Common.{inl, inr, set, sym, ◌∙◌, ap, subst, arith, Vec, Global}
use Rattle.std.proofs.lemmas.Bool.{cases_order}
use Rattle.std.proofs.lemmas.List.{get_or-map, get_or-replicate, get_or-set_other, get_or-set_same, get_or_default, length-map, length-replicate}
use Rattle.std.proofs.lemmas.List.{map-set, set-set}
use Rattle.std.proofs.Math.ListN.{length-set}
use Rattle.auction_model.specs.Book.{Book, menu_of, net_of}
use Rattle.auction_model.specs.Place.{left_at, states_of}
use Rattle.auction_model.specs.Table.{IsEntry}
use Rattle.auction_model.proofs.LineLaws.{line-last}
use Rattle.value_table.specs.SideLines.{IsLeftLine, IsRightLine}
use Rattle.value_table.specs.Turned.{in_order, worths_in_order}
use Rattle.value_table.proofs.LineLaws.{line-left}
use Rattle.review.specs.ReviewValue.{AreFull, AreLeftLines, AreRightLines, lines_of}

module _ (book : Book) (k : ℕ) (lines : List (List ℤ)) (line : List ℤ) (known : k ≤ length book.bidders) where
  -- with one line written anew
  full-set : AreFull book lines → length line ≡ states_of book.supply → AreFull book (set lines k line)
  full-set full places = record {
    count = length-set lines k line ∙ full.count;
    places = λ i h. elim (cases_order i k) [
      | inl same ↦ rw (same, get_or-set_same lines k line [] (omega (arith, full.count, known))) places
      | inr other ↦ let apart : i ≢ k = λ e. elim other [ inl low ↦ absurd (omega (arith, low, e)) | inr high ↦ absurd (omega (arith, high, e)) ] in
          rw (get_or-set_other lines k i line [] apart) (full.places i h)
    ];
  }

  -- with the line of the bidders after k in place, the right side holds from k on if it held after k
  pub right-set : AreRightLines book (k + 1) lines → IsRightLine book k line → AreRightLines book k (set lines k line)
  right-set are is = record {
    full = full-set are.full is.places;
    exact = λ i from h. elim (cases_order i k) [
      | inl same ↦ rw (same, get_or-set_same lines k line [] (omega (arith, are.full.count, known))) is
      | inr other ↦ elim other [
        | inl low ↦ absurd (omega (arith, low, from))
        | inr high ↦ let apart : i ≢ k = λ e. absurd (omega (arith, high, e)) in rw (get_or-set_other lines k i line [] apart)
            (are.exact i (omega (arith, high)) h)
      ]
    ];
  }

  -- with the line of the bidders up to k in place, the left side holds up to k if it held before k
  pub left-set : 0 < k → AreLeftLines book (k - 1) lines → IsLeftLine book k line → AreLeftLines book k (set lines k line)
  left-set some are is = record {
    full = full-set are.full is.places;
    exact = λ i to h. elim (cases_order i k) [
      | inl same ↦ rw (same, get_or-set_same lines k line [] (omega (arith, are.full.count, known))) is
      | inr other ↦ elim other [
        | inl low ↦ let apart : i ≢ k = λ e. absurd (omega (arith, low, e)) in rw (get_or-set_other lines k i line [] apart)
            (are.exact i (omega (arith, low)) h)
        | inr high ↦ absurd (omega (arith, high, to))
      ]
    ];
  }

-- that many zeros
abbrev pub zero_line : ℕ → List ℤ
zero_line states = replicate states (pos 0)

-- lines of zeros are the last line of the right side and the first one of the left
module _ (book : Book) (lines : List (List ℤ)) (states : ℕ) (is : lines ≡ replicate (length book.bidders + 1) (zero_line states))
    (all : states ≡ states_of book.supply) where
  zero-at : (k : ℕ) → k ≤ length book.bidders → get_or lines k [] ≡ zero_line states
  zero-at k h = ap (λ (l : List (List ℤ)). get_or l k []) is ∙ get_or-replicate (length book.bidders + 1) k (zero_line states) [] (omega (arith, h))

  zero-places : (k : ℕ) → k ≤ length book.bidders → length (get_or lines k []) ≡ states_of book.supply
  zero-places k h = ap (λ (l : List ℤ). length l) (zero-at k h) ∙ length-replicate states (pos 0) ∙ all

  zero-full : AreFull book lines
  zero-full = record { count = ap (λ (l : List (List ℤ)). length l) is ∙ length-replicate (length book.bidders + 1) (zero_line states); places = zero-places }

  zero-entries : (k s : ℕ) → k ≤ length book.bidders → s < states_of book.supply → get_or (get_or lines k []) s (pos 0) ≡ pos 0
  zero-entries k s h inside = ap (λ (l : List ℤ). get_or l s (pos 0)) (zero-at k h) ∙ get_or-replicate states s (pos 0) (pos 0) (omega (arith, inside, all))

  -- the last one is the line of the right side after all bidders
  pub zero-right : AreRightLines book (length book.bidders) lines
  zero-right = record {
    full = zero-full;
    exact = λ k from h. line-last (menu_of book) (net_of book) book.supply k (get_or lines k []) (omega (arith, from, h)) (zero-places k h)
        (λ s inside. zero-entries k s h inside);
  }

  -- the first one is the line of the left side before all bidders
  pub zero-left : AreLeftLines book 0 lines
  zero-left = record {
    full = zero-full;
    exact = λ k to h.
        line-left book k (get_or lines k []) h
        (line-last (in_order true (menu_of book)) (worths_in_order true (length book.bidders) (net_of book)) book.supply (length book.bidders - k)
        (get_or lines k []) (omega (arith, to)) (zero-places k h) (λ s inside. zero-entries k s h inside));
  }

-- ---- lines as the code holds them

module _ (lines : List (Vec ℤ Global)) (k : ℕ) where
  -- a line beside the one that was taken
  pub read-other : (x v : Vec ℤ Global) (i : ℕ) → i ≢ k → i < length lines → v ≡ get_or (set lines k x) i v → v.items ≡ get_or (lines_of lines) i []
  read-other x v i apart inside read =
      let is : v ≡ get_or lines i v = read ∙ get_or-set_other lines k i x v apart in
      ap (λ (w : Vec ℤ Global). w.items) is ∙ sym (get_or-map (λ (w : Vec ℤ Global). w.items) lines i v [] inside)

  -- the line itself
  pub read-own : (v : Vec ℤ Global) → k < length lines → v ≡ get_or lines k v → v.items ≡ get_or (lines_of lines) k []
  read-own v inside read = ap (λ (w : Vec ℤ Global). w.items) read ∙ sym (get_or-map (λ (w : Vec ℤ Global). w.items) lines k v [] inside)

  -- the lines when it was put back
  pub lines-set : (x y : Vec ℤ Global) → lines_of (set (set lines k x) k y) ≡ set (lines_of lines) k y.items
  lines-set x y = ap lines_of (set-set lines k x y) ∙ map-set (λ (w : Vec ℤ Global). w.items) lines k y

  -- there are as many lines as the code holds
  pub count-of : length (lines_of lines) ≡ length lines
  count-of = length-map lines (λ (w : Vec ℤ Global). w.items)

-- what is read of the lines of the bidders after each
pub line-read : (book : Book) (lines : List (Vec ℤ Global)) (k : ℕ) (d : Vec ℤ Global) (line : List ℤ) → k ≤ length book.bidders
    → AreRightLines book 0 (lines_of lines) → line ≡ (get_or lines k d).items → IsRightLine book k line
line-read book lines k d line known are is =
    let inside : k < length lines = omega (arith, known, are.full.count, count-of lines k) in
    let own : line ≡ get_or (lines_of lines) k [] = is ∙ sym (get_or-map (λ (w : Vec ℤ Global). w.items) lines k d [] inside) in
    subst (λ (l : List ℤ). IsRightLine book k l) (sym own) (are.exact k (omega arith) known)

-- and the number read at a place is the entry of the bidders after k for what the place leaves
pub entry-read : (book : Book) (lines : List (Vec ℤ Global)) (k : ℕ) (d : Vec ℤ Global) (place : ℕ) (here : ℤ) → k ≤ length book.bidders
    → place < states_of book.supply → AreRightLines book 0 (lines_of lines) → here ≡ get_or (get_or lines k d).items place here
    → IsEntry (menu_of book) (net_of book) k (left_at book.supply place) here
entry-read book lines k d place here known inside are read =
    let line = (get_or lines k d).items in
    let e : IsRightLine book k line = line-read book lines k d line known are refl in
    let is : here ≡ get_or line place (pos 0) = read ∙ get_or_default line place here (pos 0) (omega (arith, inside, e.places)) in
    subst (IsEntry (menu_of book) (net_of book) k (left_at book.supply place)) (sym is) (e.exact place inside)
