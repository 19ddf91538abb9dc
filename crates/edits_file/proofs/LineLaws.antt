-- The lines of edits: they have no line feed, and each says one edit.
use Rattle.std.proofs.Common.{◌≡◌, ℕ, List, [], ◌∷◌, ◌++◌, get_or, refl, sym, ap, ◌∙◌, arith}
use Rattle.std.specs.Prelude.{codes}
use Rattle.std.specs.Fmt.{decimal}
use Rattle.std.proofs.lemmas.List.{append_cancel_left, append-nil}
use Rattle.auction_model.specs.Book.{Book}
use Rattle.bid_book.proofs.Numbers.{AreSmall}
use Rattle.bid_book.proofs.Spelled.{name_line, numbers_line}
use Rattle.line_format.specs.LineText.{IsLine}
use Rattle.line_format.proofs.Lines.{line_append}
use Rattle.review.specs.declared.edit.Edit.{Edit}
use Rattle.review.specs.declared.edit.Edit.TheVariants.{Add, Raise, Remove}
use Rattle.line_format.specs.Decimals.{decimals_text}
use Rattle.wide_num.proofs.Decimal.{decimal_one}
use Rattle.edits_file.specs.EditsForm.{NamedEdit, add, raise, remove, NamesPackage, IsNamedEdit, IsSpelledAmount, edit_text}
use Rattle.edits_file.specs.Stages.{States, StatesBid, StatesPackage}
use Rattle.book_grammar.proofs.TextLaws.{numbers-push}
use Rattle.edits_file.proofs.FieldLaws.{AreLow, heads_one}

-- the first line has no line feed
pub first_word : IsLine (codes "edits 1")
first_word = (
  (λ is. absurd (omega arith)),
  (
    (λ is. absurd (omega arith)),
    (
      (λ is. absurd (omega arith)),
      ((λ is. absurd (omega arith)), ((λ is. absurd (omega arith)), ((λ is. absurd (omega arith)), ((λ is. absurd (omega arith)), tt)))),
    ),
  ),
)

-- nor has the last one
pub end_word : IsLine (codes "end")
end_word = ((λ is. absurd (omega arith)), ((λ is. absurd (omega arith)), ((λ is. absurd (omega arith)), tt)))

add_word : IsLine (codes "add ")
add_word = ((λ is. absurd (omega arith)), ((λ is. absurd (omega arith)), ((λ is. absurd (omega arith)), ((λ is. absurd (omega arith)), tt))))

raise_word : IsLine (codes "raise ")
raise_word = (
  (λ is. absurd (omega arith)),
  (
    (λ is. absurd (omega arith)),
    (
      (λ is. absurd (omega arith)),
      ((λ is. absurd (omega arith)), ((λ is. absurd (omega arith)), ((λ is. absurd (omega arith)), tt))),
    ),
  ),
)

drop_word : IsLine (codes "drop ")
drop_word = (
  (λ is. absurd (omega arith)),
  (
    (λ is. absurd (omega arith)),
    (
      (λ is. absurd (omega arith)),
      ((λ is. absurd (omega arith)), ((λ is. absurd (omega arith)), tt)),
    ),
  ),
)

-- counts that a text may state are below 2 ^ 120
pub low_small : (ns : List ℕ) → AreLow ns → AreSmall ns
low_small [] low = tt
low_small (n ∷ ns) low = (omega (arith, low.0), low_small ns low.1)

-- and so are they with an amount that it may state
pub bid_small : (ns : List ℕ) (amount : ℕ) → AreLow ns → IsSpelledAmount amount → AreSmall (ns ++ amount ∷ [])
bid_small [] amount low top = (omega (arith, top), tt)
bid_small (n ∷ ns) amount low top = (omega (arith, low.0), bid_small ns amount low.1 top)

-- no edit's line has a line feed
pub edit_feeds : (categories : ℕ) (e : NamedEdit) → IsNamedEdit categories e → IsLine (edit_text e)
edit_feeds categories (add name lots amount) is =
    line_append (codes "add ") (name ++ decimals_text (lots ++ amount ∷ [])) add_word
    (line_append name (decimals_text (lots ++ amount ∷ [])) (name_line name is.0.name_is)
    (numbers_line (lots ++ amount ∷ []) (bid_small lots amount is.0.each is.1)))
edit_feeds categories (raise name lots amount) is =
    line_append (codes "raise ") (name ++ decimals_text (lots ++ amount ∷ [])) raise_word
    (line_append name (decimals_text (lots ++ amount ∷ [])) (name_line name is.0.name_is)
    (numbers_line (lots ++ amount ∷ []) (bid_small lots amount is.0.each is.1)))
edit_feeds categories (remove name lots) is =
    line_append (codes "drop ") (name ++ decimals_text lots) drop_word (line_append name (decimals_text lots) (name_line name is.name_is)
    (numbers_line lots (low_small lots is.each)))

-- the first byte of a line gives its kind
abbrev pub kind_of : NamedEdit → ℕ
kind_of (add name lots amount) = 97
kind_of (raise name lots amount) = 114
kind_of (remove name lots) = 100

-- the line of an edit begins with the byte of its kind
pub first_byte : (e : NamedEdit) → get_or (edit_text e) 0 0 ≡ kind_of e
first_byte (add name lots amount) = refl
first_byte (raise name lots amount) = refl
first_byte (remove name lots) = refl

same_kind : (a b : NamedEdit) → edit_text a ≡ edit_text b → kind_of a ≡ kind_of b
same_kind a b is = sym (first_byte a) ∙ ap (λ (l : List ℕ). get_or l 0 0) is ∙ first_byte b

-- no edit is the last line
pub end_no_edit : (e : NamedEdit) (l : List ℕ) → l ≡ codes "end" → l ≡ edit_text e → ⊥
end_no_edit e l last is = no_end e (sym (first_byte e) ∙ ap (λ (x : List ℕ). get_or x 0 0) (sym is ∙ last))
  where
    no_end : (e : NamedEdit) → kind_of e ≡ 101 → ⊥
    no_end (add name lots amount) same = omega (arith, same)
    no_end (raise name lots amount) same = omega (arith, same)
    no_end (remove name lots) same = omega (arith, same)

-- the fields of a bid are one name, one package and one amount
bid_one : (categories : ℕ) (name other p q : List ℕ) (m n : ℕ) → NamesPackage categories name p → NamesPackage categories other q → IsSpelledAmount m
    → IsSpelledAmount n
    → name ++ decimals_text (p ++ m ∷ []) ≡ other ++ decimals_text (q ++ n ∷ []) → (name ≡ other) × (p ≡ q) × (m ≡ n)
bid_one categories name other p q m n a b tm tn is =
    let parts = heads_one name other p q (32 ∷ decimal m) (32 ∷ decimal n) a.name_is b.name_is (a.count ∙ sym b.count) a.each b.each refl refl
    (ap (λ (l : List ℕ). name ++ l) (sym (numbers-push p m)) ∙ is ∙ ap (λ (l : List ℕ). other ++ l) (numbers-push q n)) in
    let rest : 32 ∷ decimal m ≡ 32 ∷ decimal n = parts.2 in
    let digits : decimal m ≡ decimal n = cc in
    (parts.0, parts.1, decimal_one m n (omega (arith, tm)) (omega (arith, tn)) digits)

package_one : (categories : ℕ) (name other p q : List ℕ) → NamesPackage categories name p → NamesPackage categories other q
    → name ++ decimals_text p ≡ other ++ decimals_text q → (name ≡ other) × (p ≡ q)
package_one categories name other p q a b is =
    let parts = heads_one name other p q [] [] a.name_is b.name_is (a.count ∙ sym b.count) a.each b.each tt tt (widen name p ∙ is ∙ sym (widen other q)) in
    (parts.0, parts.1)
  where
    widen : (x y : List ℕ) → x ++ (decimals_text y ++ []) ≡ x ++ decimals_text y
    widen x y = ap (λ (l : List ℕ). x ++ l) (append-nil (decimals_text y))

-- a line says one edit
pub edit_one : (categories : ℕ) (a b : NamedEdit) → IsNamedEdit categories a → IsNamedEdit categories b → edit_text a ≡ edit_text b → a ≡ b
edit_one categories (add name p m) (add other q n) x y is =
    let parts = bid_one categories name other p q m n x.0 y.0 x.1 y.1 (append_cancel_left (codes "add ") (name ++ decimals_text (p ++ m ∷ []))
    (other ++ decimals_text (q ++ n ∷ [])) is) in
    λ i. add (parts.0 i) (parts.1 i) (parts.2 i)
edit_one categories (raise name p m) (raise other q n) x y is =
    let parts = bid_one categories name other p q m n x.0 y.0 x.1 y.1 (append_cancel_left (codes "raise ") (name ++ decimals_text (p ++ m ∷ []))
    (other ++ decimals_text (q ++ n ∷ [])) is) in
    λ i. raise (parts.0 i) (parts.1 i) (parts.2 i)
edit_one categories (remove name p) (remove other q) x y is =
    let parts = package_one categories name other p q x y (append_cancel_left (codes "drop ") (name ++ decimals_text p) (other ++ decimals_text q) is) in
    λ i. remove (parts.0 i) (parts.1 i)
edit_one categories (add name p m) (raise other q n) x y is = let e = same_kind (add name p m) (raise other q n) is in absurd (omega (arith, e))
edit_one categories (add name p m) (remove other q) x y is = let e = same_kind (add name p m) (remove other q) is in absurd (omega (arith, e))
edit_one categories (raise name p m) (add other q n) x y is = let e = same_kind (raise name p m) (add other q n) is in absurd (omega (arith, e))
edit_one categories (raise name p m) (remove other q) x y is = let e = same_kind (raise name p m) (remove other q) is in absurd (omega (arith, e))
edit_one categories (remove name p) (add other q n) x y is = let e = same_kind (remove name p) (add other q n) is in absurd (omega (arith, e))
edit_one categories (remove name p) (raise other q n) x y is = let e = same_kind (remove name p) (raise other q n) is in absurd (omega (arith, e))

-- A line that begins with a word states just what its fields state.

-- a line of the word `add` and the fields of a bid states that the bid is added
pub add_stated : (book : Book) (line fields : List ℕ) (bidder : ℕ) (lots : List ℕ) (amount : ℕ) → line ≡ codes "add " ++ fields
    → StatesBid book fields bidder lots amount → (named : NamedEdit) × States book line named (Add bidder lots amount)
add_stated book line fields bidder lots amount is bid = (
  add bid.name lots amount,
  record {
    valid = (bid.named, bid.top);
    spelled = is ∙ ap (λ (l : List ℕ). codes "add " ++ l) bid.spelled;
    edit_is =
        ap (λ (j : ℕ). Add j lots amount) bid.bidder_is;
  },
)

-- a line of the word `raise` and the fields of a bid states that the bid is raised
pub raise_stated : (book : Book) (line fields : List ℕ) (bidder : ℕ) (lots : List ℕ) (amount : ℕ) → line ≡ codes "raise " ++ fields
    → StatesBid book fields bidder lots amount → (named : NamedEdit) × States book line named (Raise bidder lots amount)
raise_stated book line fields bidder lots amount is bid = (
  raise bid.name lots amount,
  record {
    valid = (bid.named, bid.top);
    spelled = is ∙ ap (λ (l : List ℕ). codes "raise " ++ l) bid.spelled;
    edit_is =
        ap (λ (j : ℕ). Raise j lots amount) bid.bidder_is;
  },
)

-- a line of the word `drop` and the fields of a package states that its bid is taken out
pub remove_stated : (book : Book) (line fields : List ℕ) (bidder : ℕ) (lots : List ℕ) → line ≡ codes "drop " ++ fields → StatesPackage book fields bidder lots
    → (named : NamedEdit) × States book line named (Remove bidder lots)
remove_stated book line fields bidder lots is wanted = (
  remove wanted.name lots,
  record {
    valid = wanted.named;
    spelled = is ∙ ap (λ (l : List ℕ). codes "drop " ++ l) wanted.spelled;
    edit_is =
        ap (λ (j : ℕ). Remove j lots) wanted.bidder_is;
  },
)

other_kind : (e : NamedEdit) (line word fields : List ℕ) (c : ℕ) → line ≡ (c ∷ word) ++ fields → line ≡ edit_text e → c ≡ kind_of e
other_kind e line word fields c starts is = ap (λ (l : List ℕ). get_or l 0 0) (sym starts ∙ is) ∙ first_byte e

-- a line of the word `add` and fields that are no bid states no edit
pub add_only : (book : Book) (line fields : List ℕ) → line ≡ codes "add " ++ fields
    → ((bidder : ℕ) (lots : List ℕ) (amount : ℕ) → StatesBid book fields bidder lots amount → ⊥) → (named : NamedEdit) (edit : Edit)
    → States book line named edit → ⊥
add_only book line fields is none (add name lots amount) edit s =
    none _ lots amount (record {
      name = name;
      named = s.valid.0;
      top = s.valid.1;
      spelled = append_cancel_left (codes "add ") fields
          (name ++ decimals_text (lots ++ amount ∷ [])) (sym is ∙ s.spelled);
      bidder_is = refl;
    })
add_only book line fields is none (raise name lots amount) edit s = omega (arith, other_kind (raise name lots amount) line (codes "dd ") fields 97 is s.spelled)
add_only book line fields is none (remove name lots) edit s = omega (arith, other_kind (remove name lots) line (codes "dd ") fields 97 is s.spelled)

-- a line of the word `raise` and fields that are no bid states no edit
pub raise_only : (book : Book) (line fields : List ℕ) → line ≡ codes "raise " ++ fields
    → ((bidder : ℕ) (lots : List ℕ) (amount : ℕ) → StatesBid book fields bidder lots amount → ⊥) → (named : NamedEdit) (edit : Edit)
    → States book line named edit → ⊥
raise_only book line fields is none (raise name lots amount) edit s =
    none _ lots amount (record {
      name = name;
      named = s.valid.0;
      top = s.valid.1;
      spelled = append_cancel_left (codes "raise ") fields
          (name ++ decimals_text (lots ++ amount ∷ [])) (sym is ∙ s.spelled);
      bidder_is = refl;
    })
raise_only book line fields is none (add name lots amount) edit s = omega (
  arith,
  other_kind (add name lots amount) line
      (codes "aise ") fields 114 is s.spelled,
)
raise_only book line fields is none (remove name lots) edit s = omega (arith, other_kind (remove name lots) line (codes "aise ") fields 114 is s.spelled)

-- a line of the word `drop` and fields that are no package states no edit
pub remove_only : (book : Book) (line fields : List ℕ) → line ≡ codes "drop " ++ fields
    → ((bidder : ℕ) (lots : List ℕ) → StatesPackage book fields bidder lots → ⊥) → (named : NamedEdit) (edit : Edit) → States book line named edit → ⊥
remove_only book line fields is none (remove name lots) edit s =
    none _ lots (record {
      name = name;
      named = s.valid;
      spelled = append_cancel_left (codes "drop ") fields (name ++ decimals_text lots) (sym is ∙ s.spelled);
      bidder_is = refl;
    })
remove_only book line fields is none (add name lots amount) edit s = omega (
  arith,
  other_kind (add name lots amount) line
      (codes "rop ") fields 100 is s.spelled,
)
remove_only book line fields is none (raise name lots amount) edit s = omega (
  arith,
  other_kind (raise name lots amount) line
      (codes "rop ") fields 100 is s.spelled,
)
