use Rattle.std.proofs.Common.{◌≡◌, ◌∙◌, sym, ap, subst, length, List, ℕ}
use Rattle.std.specs.Prelude.{IsTrue}
use Rattle.std.proofs.lemmas.Bool.{false≢true}
use Rattle.auction_model.specs.Market.{number_of, uses}
use Rattle.cert_grammar.specs.CertText.{AreMembers}
use Rattle.cert_grammar.specs.Certificate.{is_member}
use Rattle.slot_places.specs.Orders.{allows}
use Rattle.placement_cert.specs.CertValues.{place_cert_value}
use Rattle.placement_cert.specs.Parts.{row_value, row_order}
use Rattle.placement_check.proofs.SetTests.{never}
use Rattle.placement_check.proofs.PlaceLaws.{tight-by}
use Rattle.placement_check.proofs.claims.is_tight_row.Goals as goal

pub uses_all-requires : goal.uses_all-requires
uses_all-requires c =
    let b = length c.args.slots.now.bidders in
    let count : length c.numbers-winning.result.now ≡ b = ap (λ (l : List ℕ). length l) c.numbers-winning.ensures ∙ c.requires.shape in
    let members = subst (λ (l : List ℕ). AreMembers b 0 l) (sym c.items-members.ensures) c.requires.row.members in
    subst (λ (n : ℕ). AreMembers n 0 c.items-members.result.now) (sym count) members

pub returns-then-not-uses_all : goal.returns-then-not-uses_all
returns-then-not-uses_all c = never (λ row. false≢true (sym c.if-not-uses_all.true ∙ c.uses_all.ensures.1 (λ j member.
    let in_row = subst (λ (l : List ℕ). IsTrue (is_member l j)) c.items-members.ensures member in
    subst (λ (l : List ℕ). IsTrue (uses l j)) (sym c.numbers-winning.ensures) (row.tight.winners j in_row))))

pub uses_none-requires : goal.uses_none-requires
uses_none-requires c =
    let b = length c.args.slots.now.bidders in
    let count : length c.numbers-choice.result.now ≡ b = ap (λ (l : List ℕ). length l) c.numbers-choice.ensures ∙ c.requires.row.choice.0 in
    let members = subst (λ (l : List ℕ). AreMembers b 0 l) (sym c.items-members.ensures) c.requires.row.members in
    subst (λ (n : ℕ). AreMembers n 0 c.items-members.result.now) (sym count) members

pub returns-then-not-uses_none : goal.returns-then-not-uses_none
returns-then-not-uses_none c = never (λ row. false≢true (sym c.if-not-uses_none.true ∙ c.uses_none.ensures.1 (λ j member.
    let in_row = subst (λ (l : List ℕ). IsTrue (is_member l j)) c.items-members.ensures member in
    subst (λ (l : List ℕ). number_of l j ≡ 0) (sym c.numbers-choice.ensures) (row.tight.unused j in_row))))

pub returns-then-not-allows : goal.returns-then-not-allows
returns-then-not-allows c = never (λ row. false≢true (sym c.if-not-allows.true ∙ c.allows.ensures ∙ subst
    (λ (l : List ℕ). IsTrue (allows c.args.slots.now l c.args.row.now.choice)) (sym c.items.ensures) row.order_allows))

pub returns : goal.returns
returns c =
    let all = λ (j : ℕ) (member : IsTrue (is_member c.items-members.result.now j)). subst (λ (l : List ℕ). IsTrue (uses l j)) c.numbers-winning.ensures
    (c.uses_all.ensures.0 c.if-not-uses_all.false j member) in
    let none = λ (j : ℕ) (member : IsTrue (is_member c.items-members.result.now j)). subst (λ (l : List ℕ). number_of l j ≡ 0) c.numbers-choice.ensures
    (c.uses_none.ensures.0 c.if-not-uses_none.false j member) in
    tight-by c.args.slots.now (place_cert_value c.args.cert.now).cert (row_value c.args.row.now) (row_order c.args.row.now) c.items-members.result.now
    c.items.result.now c.pays_just.result
    c.items-members.ensures c.items.ensures all none (sym c.allows.ensures ∙ c.if-not-allows.false) c.pays_just.ensures
