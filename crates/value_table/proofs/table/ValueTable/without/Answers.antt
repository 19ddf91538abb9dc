use Rattle.std.proofs.Common.{◌≡◌, ◌∙◌, sym, ap, subst, ℤ, ℕ, pos, List, length, get_or}
use Rattle.value_table.specs.BookTable.{IsBookTable}
use Rattle.value_table.specs.TableValue.{TableValue}
use Rattle.value_table.proofs.LoweredLaws.{idle-zero, table-from, whole-of}
use Rattle.value_table.proofs.Plain.{plain-range}
use Rattle.value_table.proofs.table.ValueTable.without.Goals as goal

pub new-lowered-requires-clause-bidders : goal.new-lowered-requires-clause-bidders
new-lowered-requires-clause-bidders c =
    let same : c.deref-2.result.now ≡ c.args.self.now.surplus = c.deref-2.ensures.value ∙ c.in_ok-surplus.ensures.items ∙ c.deref.ensures.value
    ∙ ap (λ (x : TableValue). x.surplus) c.self.view_is in
    rw same c.requires.whole.bidders

pub new-lowered-requires-clause-range : goal.new-lowered-requires-clause-range
new-lowered-requires-clause-range c =
    let t = c.args.self.now in
    let same : c.deref-2.result.now ≡ t.surplus = c.deref-2.ensures.value ∙ c.in_ok-surplus.ensures.items ∙ c.deref.ensures.value
    ∙ ap (λ (x : TableValue). x.surplus) c.self.view_is in
    rw same (plain-range c.args.book.now c.args.j t.surplus c.kept.ensures c.requires.plain.zeros)

pub lines_without-requires-clause-bidder : goal.lines_without-requires-clause-bidder
lines_without-requires-clause-bidder c = rw (c.new-lowered.ensures.skip, c.new-lowered.ensures.book) c.requires.bidder

pub lines_without-requires-clause-idle : goal.lines_without-requires-clause-idle
lines_without-requires-clause-idle c =
    let t = c.args.self.now in
    let same : c.deref-2.result.now ≡ t.surplus = c.deref-2.ensures.value ∙ c.in_ok-surplus.ensures.items ∙ c.deref.ensures.value
    ∙ ap (λ (x : TableValue). x.surplus) c.self.view_is in
    idle-zero c.args.book.now c.args.j (pos 1) c.deref-2.result.now c.new-lowered.result c.new-lowered.ensures
    (λ k. ap (λ (l : List ℤ). get_or l k (pos 0)) same ∙ c.requires.plain.zeros k)

pub lines_without-requires-clause-whole : goal.lines_without-requires-clause-whole
lines_without-requires-clause-whole c =
    let book = c.args.book.now in
    let t = c.args.self.now in
    let same : c.deref-2.result.now ≡ c.self.inside.surplus.items = c.deref-2.ensures.value ∙ c.in_ok-surplus.ensures.items ∙ c.deref.ensures.value in
    let plain : IsBookTable book 0 (pos 1) t.surplus t.lines = rw (c.requires.plain.skip, c.requires.plain.den) at c.requires.whole.exact in
    whole-of book c.args.j (pos 1) c.deref-2.result.now c.new-lowered.result c.new-lowered.ensures c.self.inside.grid
    (rw same (subst (λ (x : TableValue). IsBookTable book 0 (pos 1) x.surplus x.lines) (sym c.self.view_is) plain))

pub returns-clause-exact : goal.returns-clause-exact
returns-clause-exact c =
    let book = c.args.book.now in
    let t = c.args.self.now in
    let same : c.in_ok-surplus.surplus.items ≡ t.surplus = c.in_ok-surplus.ensures.items ∙ c.deref.ensures.value
    ∙ ap (λ (x : TableValue). x.surplus) c.self.view_is in
    let zeros : (k : ℕ) → get_or c.in_ok-surplus.surplus.items k (pos 0) ≡ pos 0 = λ k. ap (λ (l : List ℤ). get_or l k (pos 0)) same
    ∙ c.requires.plain.zeros k in
    record {
      bidders = ap (λ (l : List ℤ). length l) same ∙ c.requires.whole.bidders;
      range = plain-range book c.args.j c.in_ok-surplus.surplus.items c.kept.ensures zeros;
      exact = subst (λ (l : List ℤ). IsBookTable book c.args.j (pos 1) l c.in_ok-grid.grid) c.deref-2.ensures.value
          (table-from book c.args.j (pos 1) c.deref-2.result.now c.new-lowered.result c.new-lowered.ensures c.in_ok-grid.grid c.in_ok-grid.ensures);
    }
