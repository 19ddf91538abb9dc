use Rattle.std.proofs.Common.{◌≡◌, true, take, drop, sym, subst, take-append-drop, arith}
use Rattle.book_grammar.specs.BookForm.{IsName}
use Rattle.edits_file.proofs.FieldLaws.{no_name}
use Rattle.edits_file.proofs.fields.read_bidder.Goals as goal

pub returns-then-not-is_name-clause-none : goal.returns-then-not-is_name-clause-none
returns-then-not-is_name-clause-none c =
    let text = c.args.text.now in
    let n = c.field_len.result in
    no_name text (take n text) (drop n text) (sym (take-append-drop n text)) c.field_len.ensures.own c.field_len.ensures.stops
    (λ is. let yes : c.is_name.result ≡ true = c.is_name.ensures.1 (subst IsName (sym c.split_at.ensures.front) is) in
    grind (arith, yes, c.if-not-is_name.true, c.if-not-is_name.ensures))
