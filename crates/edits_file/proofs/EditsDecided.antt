-- Whether a line of edits leads on is known at each stage.
use Rattle.std.proofs.Common.{inl, inr, ◌⊎◌, ◌≡◌, ℕ, ◌≤◌, ◌^◌, List, [], ◌∷◌, ◌++◌, length, refl, sym, ap, subst, ◌∙◌}
use Rattle.std.specs.Prelude.{codes}
use Rattle.std.specs.List.{AllByRecursion}
use Rattle.std.proofs.lemmas.Bool.{cases_eq}
use Rattle.bid_book.proofs.BookDecided.{at_most, decided_name, last_number, no_last}
use Rattle.bid_book.proofs.Numbers.{snoc_one}
use Rattle.limits.specs.declared.TheConstants.{MOST_STATED_AMOUNT, MOST_STATED_COUNT}
use Rattle.line_format.specs.Decimals.{decimals_text}
use Rattle.line_format.proofs.Decided.{Decided, decided_all, decided_as, decided_both, decided_le, decided_same, decided_three, some_named}
use Rattle.edits_file.specs.EditsForm.{NamedEdit, add, raise, remove, IsNamedEdit, IsSpelledAmount, NamesPackage, edit_text}
use Rattle.edits_file.proofs.LineLaws.{bid_small, low_small}
use Rattle.edits_file.proofs.Reading.{IsSound, NamedStage, NamedStep, beginning, ended, finish, listing}

decided_package : (categories : ℕ) (name lots : List ℕ) → Decided (NamesPackage categories name lots)
decided_package categories name lots =
    decided_as (decided_three (decided_name name) (cases_eq (length lots) categories)
    (decided_all (λ n. n ≤ MOST_STATED_COUNT) (λ n. decided_le n MOST_STATED_COUNT) lots))
    (λ all. record { name_is = all.0; count = all.1; each = all.2 }) (λ is. (is.name_is, is.count, is.each))

-- the numbers are those of a package, and an amount
abbrev NamesBid : ℕ → List ℕ → List ℕ → Type 0
NamesBid categories name ns = (lots : List ℕ) × (amount : ℕ) × (ns ≡ lots ++ amount ∷ []) × (NamesPackage categories name lots × IsSpelledAmount amount)

decided_bid : (categories : ℕ) (name ns : List ℕ) → Decided (NamesBid categories name ns)
decided_bid categories name ns = by (last_number ns)
  where
    by : (ns ≡ []) ⊎ ((front : List ℕ) × (last : ℕ) × (ns ≡ front ++ last ∷ [])) → Decided (NamesBid categories name ns)
    by (inl none) = inr (λ found. no_last ns found.0 found.1 none found.2)
    by (inr (lots, amount, is)) =
        decided_as (decided_both (decided_package categories name lots) (decided_le amount MOST_STATED_AMOUNT))
        (λ both. (lots, amount, is, (both.0, both.1)))
        (λ found. (
        let parts = snoc_one found.0 lots found.1 amount (sym found.2 ∙ is) in
        (subst (NamesPackage categories name) parts.0 found.3.0, subst IsSpelledAmount parts.1 found.3.1)
        ))

few_of_bid : (categories : ℕ) (name ns : List ℕ) → NamesBid categories name ns → AllByRecursion (λ n. n ≤ 2 ^ 120) ns
few_of_bid categories name ns (lots, amount, is, (named, top)) =
    subst (λ (r : List ℕ). AllByRecursion (λ n. n ≤ 2 ^ 120) r) (sym is) (at_most (lots ++ amount ∷ []) (bid_small lots amount named.each top))

module _ (categories : ℕ) (line : List ℕ) where
  -- the line is a word and the fields of a bid
  abbrev SaysBid : List ℕ → Type 0
  SaysBid word = (name : List ℕ) × (ns : List ℕ) × (line ≡ word ++ (name ++ decimals_text ns)) × NamesBid categories name ns

  bid_known : (word : List ℕ) → Decided (SaysBid word)
  bid_known word = some_named (2 ^ 120) word (NamesBid categories) (decided_bid categories) (few_of_bid categories) line

  abbrev SaysPackage : Type 0
  SaysPackage = (name : List ℕ) × (ns : List ℕ) × (line ≡ codes "drop " ++ (name ++ decimals_text ns)) × NamesPackage categories name ns

  package_known : Decided SaysPackage
  package_known = some_named (2 ^ 120) (codes "drop ") (NamesPackage categories) (decided_package categories)
      (λ name ns is. at_most ns (low_small ns is.each)) line

  -- an edit that the line states
  abbrev SaysEdit : Type 0
  SaysEdit = (e : NamedEdit) × IsNamedEdit categories e × (line ≡ edit_text e)

  bid_line : (word : List ℕ) (says : SaysBid word) → line ≡ word ++ (says.0 ++ decimals_text (says.3.0 ++ says.3.1 ∷ []))
  bid_line word says = says.2 ∙ ap (λ (ns : List ℕ). word ++ (says.0 ++ decimals_text ns)) says.3.2

  -- that it states one
  edit_known : Decided SaysEdit
  edit_known = by (bid_known (codes "add ")) (bid_known (codes "raise ")) package_known
    where
      none : (SaysBid (codes "add ") → ⊥) → (SaysBid (codes "raise ") → ⊥) → (SaysPackage → ⊥) → (e : NamedEdit) → IsNamedEdit categories e
          → line ≡ edit_text e → ⊥
      none adds raises drops (add name lots amount) valid is = adds (name, lots ++ amount ∷ [], is, (lots, amount, refl, valid))
      none adds raises drops (raise name lots amount) valid is = raises (name, lots ++ amount ∷ [], is, (lots, amount, refl, valid))
      none adds raises drops (remove name lots) valid is = drops (name, lots, is, valid)

      by : Decided (SaysBid (codes "add ")) → Decided (SaysBid (codes "raise ")) → Decided SaysPackage → Decided SaysEdit
      by (inl says) raises drops = inl (add says.0 says.3.0 says.3.1, says.3.3, bid_line (codes "add ") says)
      by (inr adds) (inl says) drops = inl (raise says.0 says.3.0 says.3.1, says.3.3, bid_line (codes "raise ") says)
      by (inr adds) (inr raises) (inl says) = inl (remove says.0 says.1, says.3, says.2)
      by (inr adds) (inr raises) (inr drops) = inr (λ found. none adds raises drops found.0 found.1 found.2)

module _ (categories : ℕ) where
  -- whether a line leads on from a stage
  pub leads : (s : NamedStage) (l : List ℕ) → IsSound categories s → Decided ((t : NamedStage) × NamedStep categories s l t)
  leads beginning l sound = decided_as (decided_same l (codes "edits 1")) (λ is. (listing [], (is, refl))) (λ found. found.1.0)
  leads (listing had) l sound = by (decided_same l (codes "end")) (edit_known categories l)
    where
      neither : (l ≡ codes "end" → ⊥) → (SaysEdit categories l → ⊥) → (t : NamedStage) → NamedStep categories (listing had) l t → ⊥
      neither end edit t (inl last) = end last.0
      neither end edit t (inr adds) = edit (adds.edit, adds.valid, adds.spelled)

      by : Decided (l ≡ codes "end") → Decided (SaysEdit categories l) → Decided ((t : NamedStage) × NamedStep categories (listing had) l t)
      by (inl is) edit = inl (ended had, inl (is, refl))
      by (inr end) (inl (e, valid, is)) = inl (listing (had ++ e ∷ []), inr (record { edit = e; valid = valid; spelled = is; next_is = refl }))
      by (inr end) (inr edit) = inr (λ found. neither end edit found.0 found.1)
  leads (ended had) l sound = inr (λ found. found.1)

-- whether it is the end of edits
pub ends : (s : NamedStage) → Decided ((edits : List NamedEdit) × (s ≡ finish edits))
ends beginning = inr (λ found. absurd (cc found.1))
ends (listing had) = inr (λ found. absurd (cc found.1))
ends (ended had) = inl (had, refl)
