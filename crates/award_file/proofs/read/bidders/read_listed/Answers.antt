use Rattle.std.proofs.Common.{◌≡◌, ℕ, refl, ◌+◌, ◌++◌, ◌∷◌, ◌∙◌, [], List, map, drop, None, ap, sym, append-nil, arith}
use Rattle.std.proofs.lemmas.List.{drop_all}
use Rattle.std.proofs.lemmas.Result.{err_from_is_err_and}
use Rattle.toml.specs.View.{items_view, table_view}
use Rattle.auction_rules.specs.Terms.{Entrant}
use Rattle.award_file.specs.Award.{names_of}
use Rattle.award_file.specs.Reading.{IsFault}
use Rattle.award_file.specs.Stated.{tables_of}
use Rattle.award_file.specs.Walk.{tables_fault, bidder_fault, entrant_of, name_or_none}
use Rattle.award_file.proofs.ListLaws.{left-out, table-here, stops-here, passes-here, reads-here, part-more}
use Rattle.award_file.proofs.read.bidders.read_listed.Goals as goal

pub returns-in_err-take_bidder-clause-err : goal.returns-in_err-take_bidder-clause-err
returns-in_err-take_bidder-clause-err c =
    let p = err_from_is_err_and c.from_residual.result c.from_residual.ensures.1 in
    let here = table-here c.args.tables.now c.tables.element-index c.element-item.result c.in-Table.table c.tables-test.true c.element-item.is c.in-Table.is in
    let stop : IsFault (bidder_fault c.args.categories (names_of c.tables.bidders) (table_view c.in-Table.table)) c.in_err-take_bidder.field-0.0 =
    c.in_err-take_bidder.ensures.err in
    rw (p.1, p.2) (stops-here (bidder_fault c.args.categories) name_or_none _ _ _ _ _ _ here c.tables.invariant.0 stop)

pub tables-preserved : goal.tables-preserved
tables-preserved c =
    let here = table-here c.args.tables.now c.tables.element-index c.element-item.result c.in-Table.table c.tables-test.true c.element-item.is c.in-Table.is in
    let t = table_view c.in-Table.table in
    let n = c.args.categories in
    let later = tables_of (items_view (drop (c.tables.element-index + 1) c.args.tables.now)) in
    let bidders : c.take_bidder.new.bidders ≡ c.tables.bidders ++ entrant_of n t ∷ [] = c.in_ok-take_bidder.ensures.ok.1 in
    let passes : bidder_fault n (names_of c.tables.bidders) t ≡ None = c.in_ok-take_bidder.ensures.ok.0 in
    let part = part-more (λ (e : Entrant). e.name) c.tables.bidders (entrant_of n t) (name_or_none t) refl in (
      ap (λ (before : List (List ℕ)). tables_fault (bidder_fault n) name_or_none before later) (ap names_of bidders ∙ part)
          ∙ passes-here (bidder_fault n) name_or_none (names_of c.tables.bidders) t _ later _ here c.tables.invariant.0 passes,
      ap (λ (read : List Entrant). read ++ map (entrant_of n) later) bidders ∙ reads-here (entrant_of n) c.tables.bidders t _ later _ here c.tables.invariant.1,
    )

pub tables-preserved-in_default : goal.tables-preserved-in_default
tables-preserved-in_default c =
    let same = left-out c.args.tables.now c.tables.element-index c.element-item.result c.tables-test.true c.element-item.is c.in_default.not-Table in
    rw same c.tables.invariant

pub returns-clause-ok : goal.returns-clause-ok
returns-clause-ok c =
    let done = drop_all c.tables.element-index c.args.tables.now (omega arith) in
    let none = rw done at c.tables.invariant.0 in
    let read = rw done at c.tables.invariant.1 in
    (sym none, sym (append-nil c.tables.bidders) ∙ read)
