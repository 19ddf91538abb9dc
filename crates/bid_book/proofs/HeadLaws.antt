-- What the lines before the bidders say.
use Rattle.std.proofs.Common.{inl, inr, ◌⊎◌, ◌≡◌, ℕ, ◌≤◌, ◌^◌, false, Some, List, [], ◌∷◌, ◌++◌, refl, sym, ap, ◌∙◌, arith}
use Rattle.std.specs.Prelude.{codes, nat_eq}
use Rattle.std.specs.List.{AllByRecursion, list_any}
use Rattle.std.proofs.lemmas.List.{append_cancel_left}
use Rattle.std.proofs.lemmas.Bool.Decides.{nat_tests}
use Rattle.book_grammar.specs.BookForm.{IsOffer, AreReserves}
use Rattle.book_grammar.specs.BookLines.{supply_line, reserve_line}
use Rattle.line_format.specs.Decimals.{decimals_text}
use Rattle.limits.specs.declared.LimitKind.{LimitKind}
use Rattle.lots.specs.declared.LotStop.{LotStop}
use Rattle.lots.specs.declared.LotStop.TheVariants as lots
use Rattle.lots.specs.Limits.{supply_stop}
use Rattle.bid_book.specs.declared.read.Stage.{Stage}
use Rattle.bid_book.specs.declared.read.Stage.TheVariants.{Headed, Supplied}
use Rattle.line_format.specs.declared.stop.LineStop.TheVariants.{Form, Limit}
use Rattle.bid_book.specs.Stages.{Step, excess}
use Rattle.bid_book.specs.Stops.{AreNumbers, line_stop}
use Rattle.bid_book.proofs.Numbers.{AreSmall, numbers_one}
use Rattle.bid_book.proofs.StopLaws.{limit_one}
use Rattle.bid_book.proofs.SupplyLaws.{supply_over}

offer_numbers : (ns : List ℕ) → AllByRecursion (λ n. (1 ≤ n) × (n ≤ 999)) ns → AreNumbers ns
offer_numbers [] all = tt
offer_numbers (n ∷ ns) all = (omega (arith, all.0), offer_numbers ns all.1)

reserve_numbers : (ns : List ℕ) → AllByRecursion (λ n. n ≤ 2 ^ 36) ns → AreNumbers ns
reserve_numbers [] all = tt
reserve_numbers (n ∷ ns) all = (omega (arith, all.0), reserve_numbers ns all.1)

numbers_small : (ns : List ℕ) → AreNumbers ns → AreSmall ns
numbers_small [] all = tt
numbers_small (n ∷ ns) all = (omega (arith, all.0), numbers_small ns all.1)

-- after its word a line has one list of numbers
pub one_list : (line word ms ns : List ℕ) → line ≡ word ++ decimals_text ms → AreNumbers ms → line ≡ word ++ decimals_text ns → AreNumbers ns → ms ≡ ns
one_list line word ms ns a are_ms b are_ns =
    numbers_one ms ns (numbers_small ms are_ms) (numbers_small ns are_ns) (append_cancel_left word (decimals_text ms) (decimals_text ns) (sym a ∙ b))

-- the numbers read from the line of a supply are that supply
pub supply_read : (line ns supply : List ℕ) → AreNumbers ns → line ≡ codes "supply" ++ decimals_text ns → line ≡ (supply_line supply).0 → IsOffer supply
    → ns ≡ supply
supply_read line ns supply are a b offer = one_list line (codes "supply") ns supply a are b (offer_numbers supply offer.each)

-- the numbers read from the line of reserves are those reserves
pub reserves_read : (line ns supply reserves : List ℕ) → AreNumbers ns → line ≡ codes "reserve" ++ decimals_text ns → line ≡ (reserve_line reserves).0
    → AreReserves supply reserves → ns ≡ reserves
reserves_read line ns supply reserves are a b all = one_list line (codes "reserve") ns reserves a are b (reserve_numbers reserves all.each)

-- of counts from 1 to 999 none is 0
pub none_zero : (ns : List ℕ) → AllByRecursion (λ n. (1 ≤ n) × (n ≤ 999)) ns → list_any (λ n. nat_eq n 0) ns ≡ false
none_zero [] all = refl
none_zero (n ∷ ns) all = grind (arith, nat_tests, none_zero ns all.1, all.0)

-- numbers up to 999 of which none is 0 are counts from 1 to 999
pub each_count : (ns : List ℕ) → AllByRecursion (λ n. n ≤ 999) ns → list_any (λ n. nat_eq n 0) ns ≡ false → AllByRecursion (λ n. (1 ≤ n) × (n ≤ 999)) ns
each_count [] all none = tt
each_count (n ∷ ns) all none = ((grind (arith, nat_tests), all.0), each_count ns all.1 (grind (arith, nat_tests)))

-- counts from 1 to 999 are none above 999
pub each_low : (ns : List ℕ) → AllByRecursion (λ n. (1 ≤ n) × (n ≤ 999)) ns → AllByRecursion (λ n. n ≤ 999) ns
each_low [] all = tt
each_low (n ∷ ns) all = (all.0.1, each_low ns all.1)

module _ (line counts : List ℕ) (spelled : line ≡ (supply_line counts).0) (offer : IsOffer counts) (stop : LotStop) where
  -- a limit that stops the making of a supply is one that the stage after the supply's line exceeds
  pub supply_limit : (stop ≡ lots.Memory) ⊎ (supply_stop counts ≡ Some stop) → (kind : LimitKind) (count : ℕ) → line_stop stop ≡ Limit (kind, count)
      → (t : Stage) × Step Headed line t × (excess t ≡ Some (kind, count))
  supply_limit (inl memory) kind count is = let e : line_stop lots.Memory ≡ Limit (kind, count) = ap line_stop (sym memory) ∙ is in absurd (cc e)
  supply_limit (inr stops) kind count is =
      let over = supply_over counts stop offer stops in
      let told = limit_one (over.kind, over.count) (kind, count) (sym over.line ∙ is) in
      (Supplied counts, (counts, spelled, offer, refl), over.exceeds ∙ ap Some told)

  -- if an offer's supply can't be made, that is no fault of form
  pub supply_no_form : (stop ≡ lots.Memory) ⊎ (supply_stop counts ≡ Some stop) → line_stop stop ≡ Form → ⊥
  supply_no_form (inl memory) is = let e : line_stop lots.Memory ≡ Form = ap line_stop (sym memory) ∙ is in cc
  supply_no_form (inr stops) is =
      let over = supply_over counts stop offer stops in
      let e : Limit (over.kind, over.count) ≡ Form = sym over.line ∙ is in cc
