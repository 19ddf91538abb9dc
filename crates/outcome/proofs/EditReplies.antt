-- No rule replies out of memory to an edit.
use Rattle.std.proofs.Common.{◌≡◌, ◌∙◌, ◌⊎◌, inl, inr, sym, subst, ℕ, Bool, true, false, Option, Some, None, List, [], ◌∷◌, nat_le}
use Rattle.std.specs.List.{AllByRecursion}
use Rattle.auction_model.specs.Book.{Book, bids_of}
use Rattle.auction_model.specs.PackageTests.{first_over, is_empty}
use Rattle.review.specs.Edits.{absent, amount_for, amount_top, below_reserve, edit_reply, first_refusal, first_reply, full, not_higher, present}
use Rattle.review.specs.Edits.{supply_reply, unfit, unknown, when}
use Rattle.review.specs.declared.edit.Edit.{Edit}
use Rattle.review.specs.declared.edit.Edit.TheVariants.{Add, Raise, Remove}
use Rattle.review.specs.declared.edit.EditReply.{EditReply}
use Rattle.review.specs.declared.edit.EditReply.TheVariants as reply

-- a reply that a rule gives
abbrev IsRuled : EditReply → Type 0
IsRuled reply.Memory = ⊥
IsRuled r = Unit {0}

abbrev MayReply : Option EditReply → Type 0
MayReply None = Unit {0}
MayReply (Some r) = IsRuled r

when-ruled : (holds : Bool) (r : EditReply) → IsRuled r → MayReply (when holds r)
when-ruled true r is = is
when-ruled false r is = tt

first-ruled : (rs : List (Option EditReply)) → AllByRecursion MayReply rs → IsRuled (first_reply rs)
first-ruled [] all = tt
first-ruled (None ∷ rs) all = first-ruled rs all.1
first-ruled (Some r ∷ rs) all = all.0

refusal-ruled : (rs : List (Option EditReply)) → AllByRecursion MayReply rs → MayReply (first_refusal rs)
refusal-ruled [] all = tt
refusal-ruled (None ∷ rs) all = refusal-ruled rs all.1
refusal-ruled (Some r ∷ rs) all = all.0

supply-ruled : (o : Option ℕ) → MayReply (supply_reply o)
supply-ruled None = tt
supply-ruled (Some category) = tt

present-ruled : (o : Option ℕ) → MayReply (present o)
present-ruled None = tt
present-ruled (Some amount) = tt

absent-ruled : (o : Option ℕ) → MayReply (absent o)
absent-ruled None = tt
absent-ruled (Some amount) = tt

higher-ruled : (amount : ℕ) (o : Option ℕ) → MayReply (not_higher amount o)
higher-ruled amount None = tt
higher-ruled amount (Some was) = when-ruled (nat_le amount was) (reply.NotHigher was) tt

unfit-ruled : (book : Book) (j : ℕ) (lots : List ℕ) → MayReply (unfit book j lots)
unfit-ruled book j lots =
    let replies : List (Option EditReply) = unknown book j ∷ supply_reply (first_over 1 lots book.supply) ∷ when (is_empty lots) reply.Empty ∷ [] in
    let all : AllByRecursion MayReply replies =
    (when-ruled _ reply.Unknown tt, (supply-ruled _, (when-ruled _ reply.Empty tt, tt))) in
    refusal-ruled replies all

reply-ruled : (book : Book) (e : Edit) → IsRuled (edit_reply book e)
reply-ruled book (Add j lots amount) =
    let had = amount_for lots (bids_of book j) in
    let replies : List (Option EditReply) =
    unfit book j lots ∷ present had ∷ below_reserve book lots amount ∷ amount_top amount ∷ full (bids_of book j) ∷ [] in
    let all : AllByRecursion MayReply replies = (
      unfit-ruled book j lots,
      (
        present-ruled had,
        (
          when-ruled _ (reply.BelowReserve _) tt,
          (
            when-ruled _ (reply.AmountTop _) tt,
            (when-ruled _ (reply.Full _) tt, tt),
          ),
        ),
      ),
    ) in
    first-ruled replies all
reply-ruled book (Raise j lots amount) =
    let had = amount_for lots (bids_of book j) in
    let replies : List (Option EditReply) = unfit book j lots ∷ absent had ∷ not_higher amount had ∷ amount_top amount ∷ [] in
    let all : AllByRecursion MayReply replies =
    (unfit-ruled book j lots, (absent-ruled had, (higher-ruled amount had, (when-ruled _ (reply.AmountTop _) tt, tt)))) in
    first-ruled replies all
reply-ruled book (Remove j lots) =
    let had = amount_for lots (bids_of book j) in
    let replies : List (Option EditReply) = unfit book j lots ∷ absent had ∷ [] in
    let all : AllByRecursion MayReply replies = (unfit-ruled book j lots, (absent-ruled had, tt)) in
    first-ruled replies all

-- out of memory comes only instead of Ok
pub memory-in_place : (book : Book) (e : Edit) (r : EditReply) → r ≡ reply.Memory
    → (r ≡ edit_reply book e) ⊎ ((r ≡ reply.Memory) × (edit_reply book e ≡ reply.Ok)) → edit_reply book e ≡ reply.Ok
memory-in_place book e r is (inl same) = absurd (subst IsRuled (sym same ∙ is) (reply-ruled book e))
memory-in_place book e r is (inr both) = both.1
