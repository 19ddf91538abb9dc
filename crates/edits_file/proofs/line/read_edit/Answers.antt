use Rattle.std.proofs.Common.{◌≡◌, ◌++◌, Some}
use Rattle.std.specs.Prelude.{codes}
use Rattle.std.proofs.lemmas.Bool.Decides.{Decides-eqb}
use Rattle.std.proofs.lemmas.Slice.Eq.{strip_prefix_is}
use Rattle.line_format.proofs.Lines.{none-so}
use Rattle.edits_file.proofs.LineLaws.{add_only, add_stated, raise_only, raise_stated, remove_only, remove_stated}
use Rattle.edits_file.proofs.line.read_edit.Goals as goal

pub returns-in_err-bidder-clause-none : goal.returns-in_err-bidder-clause-none
returns-in_err-bidder-clause-none c =
    let is : c.args.line.now ≡ codes "add " ++ c.in-Some.fields.now = strip_prefix_is Decides-eqb c.args.line.now (codes "add ")
    (Some c.in-Some.fields) c.in-Some.ensures.cases in
    none-so c.from_residual.result _ (add_only c.args.book.now c.args.line.now c.in-Some.fields.now is c.in_err-bidder.ensures.none)

pub returns-in-Some-clause-found : goal.returns-in-Some-clause-found
returns-in-Some-clause-found c =
    let is : c.args.line.now ≡ codes "add " ++ c.in-Some.fields.now = strip_prefix_is Decides-eqb c.args.line.now (codes "add ")
    (Some c.in-Some.fields) c.in-Some.ensures.cases in
    add_stated c.args.book.now c.args.line.now c.in-Some.fields.now c.in_ok-bidder.bidder c.in_ok-bidder.package c.in_ok-bidder.amount is
    c.in_ok-bidder.ensures.found

pub returns-in_err-bidder-2-clause-none : goal.returns-in_err-bidder-2-clause-none
returns-in_err-bidder-2-clause-none c =
    let fields = c.in-Some-strip_prefix.fields.now in
    let is : c.args.line.now ≡ codes "raise " ++ c.in-Some-strip_prefix.fields.now = strip_prefix_is Decides-eqb c.args.line.now (codes "raise ")
    (Some c.in-Some-strip_prefix.fields) c.in-Some-strip_prefix.ensures.cases in
    none-so c.from_residual-in_err-bidder-2.result _ (raise_only c.args.book.now c.args.line.now fields is c.in_err-bidder-2.ensures.none)

pub returns-in-Some-strip_prefix-clause-found : goal.returns-in-Some-strip_prefix-clause-found
returns-in-Some-strip_prefix-clause-found c =
    let fields = c.in-Some-strip_prefix.fields.now in
    let is : c.args.line.now ≡ codes "raise " ++ c.in-Some-strip_prefix.fields.now = strip_prefix_is Decides-eqb c.args.line.now (codes "raise ")
    (Some c.in-Some-strip_prefix.fields) c.in-Some-strip_prefix.ensures.cases in
    raise_stated c.args.book.now c.args.line.now fields c.in_ok-bidder-2.bidder c.in_ok-bidder-2.package c.in_ok-bidder-2.amount is
    c.in_ok-bidder-2.ensures.found

pub returns-in_err-bidder-3-clause-none : goal.returns-in_err-bidder-3-clause-none
returns-in_err-bidder-3-clause-none c =
    let fields = c.in_ok-fields.fields.now in
    let is : c.args.line.now ≡ codes "drop " ++ c.in_ok-fields.fields.now = strip_prefix_is Decides-eqb c.args.line.now (codes "drop ")
    (Some c.in_ok-fields.fields) c.in_ok-fields.ensures.cases in
    none-so c.from_residual-in_err-bidder-3.result _ (remove_only c.args.book.now c.args.line.now fields is c.in_err-bidder-3.ensures.none)

pub returns-clause-found : goal.returns-clause-found
returns-clause-found c =
    let fields = c.in_ok-fields.fields.now in
    let is : c.args.line.now ≡ codes "drop " ++ c.in_ok-fields.fields.now = strip_prefix_is Decides-eqb c.args.line.now (codes "drop ")
    (Some c.in_ok-fields.fields) c.in_ok-fields.ensures.cases in
    remove_stated c.args.book.now c.args.line.now fields c.in_ok-bidder-3.bidder c.in_ok-bidder-3.package is c.in_ok-bidder-3.ensures.found
