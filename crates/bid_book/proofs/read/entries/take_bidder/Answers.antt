use Rattle.std.proofs.lemmas.Grind.{elements}
use Rattle.std.proofs.Common.{inl, ◌≡◌, ◌++◌, ◌∷◌, [], List, ℕ, Some, None, length, refl, sym, ap, ◌∙◌, subst, arith}
use Rattle.std.specs.Prelude.{codes}
use Rattle.auction_model.specs.Book.{Book, bidder_with, with_bidders}
use Rattle.book_grammar.specs.BookLines.{IsBookWithinLimits}
use Rattle.limits.specs.declared.LimitKind.TheVariants.{Bidders}
use Rattle.bid_book.specs.Stages.{AddsBidder, last_excess}
use Rattle.bid_book.proofs.Within.{grown}
use Rattle.bid_book.proofs.StopLaws.{one_limit}
use Rattle.bid_book.proofs.EntryLaws.{bidder_marks, many_bidders, few_bidders, adds_name}
use Rattle.bid_book.proofs.read.entries.take_bidder.Goals as goal

pub returns-then-bidders-ge-MOST_BIDDERS-clause-limit : goal.returns-then-bidders-ge-MOST_BIDDERS-clause-limit
returns-then-bidders-ge-MOST_BIDDERS-clause-limit c = λ kind count err.
    let over = bidder_marks c.args.book.now c.args.name.now ∙ many_bidders (length c.args.book.now.bidders) (omega arith) in
    let told = one_limit (Bidders, 17) (kind, count) err in (
      with_bidders c.args.book.now (c.args.book.now.bidders ++ bidder_with c.args.name.now [] ∷ []),
      adds_name c.args.book.now (codes "bidder " ++ c.args.name.now) c.args.name.now c.in-Some.ensures.some.1 (c.is_used.ensures.0 c.if-is_used.false) refl,
      over ∙ ap Some told,
    )

pub add_bidder-requires : goal.add_bidder-requires
add_bidder-requires c =
    let own : c.in_ok-name.name ≡ c.args.name.now = c.in_ok-name.ensures ∙ c.in-Some.ensures.some.0 in
    let none = bidder_marks c.args.book.now c.args.name.now ∙ few_bidders (length c.args.book.now.bidders) (omega arith) in
    subst (λ (n : List ℕ). IsBookWithinLimits (with_bidders c.args.book.now (c.args.book.now.bidders ++ bidder_with n [] ∷ []))) (sym own)
    (grown c.args.book.now (with_bidders c.args.book.now (c.args.book.now.bidders ++ bidder_with c.args.name.now [] ∷ []))
    (codes "bidder " ++ c.args.name.now) c.bidders.ensures.kept.rules
    (inl (adds_name c.args.book.now (codes "bidder " ++ c.args.name.now) c.args.name.now c.in-Some.ensures.some.1
    (c.is_used.ensures.0 c.if-is_used.false) refl)) none)

pub returns-clause-ok : goal.returns-clause-ok
returns-clause-ok c =
    let own : c.in_ok-name.name ≡ c.args.name.now = c.in_ok-name.ensures ∙ c.in-Some.ensures.some.0 in
    let none = bidder_marks c.args.book.now c.args.name.now ∙ few_bidders (length c.args.book.now.bidders) (omega arith) in
    let new : c.add_bidder.new.self ≡ with_bidders c.args.book.now (c.args.book.now.bidders ++ bidder_with c.args.name.now [] ∷ []) =
    c.in_ok-add_bidder.ensures ∙ ap (λ (n : List ℕ). with_bidders c.args.book.now (c.args.book.now.bidders ++ bidder_with n [] ∷ [])) own in
    subst (λ (b : Book). AddsBidder c.args.book.now b (codes "bidder " ++ c.args.name.now) × (last_excess 0 b.bidders ≡ None)) (sym new) (
      adds_name c.args.book.now (codes "bidder " ++ c.args.name.now) c.args.name.now c.in-Some.ensures.some.1 (c.is_used.ensures.0 c.if-is_used.false) refl,
      none,
    )

pub returns-then-is_used-clause-form : goal.returns-then-is_used-clause-form
returns-then-is_used-clause-form c = grind (arith, elements)
