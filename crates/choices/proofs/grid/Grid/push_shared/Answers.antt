use Rattle.std.proofs.Common.{◌≡◌, ◌∙◌, sym, ap, subst, arith, rules, get_or, length, map, [], ◌∷◌, ◌++◌}
use Rattle.std.proofs.lemmas.List.{map-append, get_or-map, length-map}
use Rattle.choices.specs.GridLines.{numbers_in}
use Rattle.choices.specs.Lines.{IsEven}
use Rattle.choices.proofs.EvenLaws.{even-more}
use Rattle.choices.proofs.grid.Grid.push_shared.Goals as goal

pub invariant_of-self-2 : goal.invariant_of-self-2
invariant_of-self-2 c =
    let f = numbers_in in
    let copy : f c.in_ok-shared.shared ≡ f c.index.result.now = search rules in
    let read : f c.index.result.now ≡ get_or c.args.from.now c.args.line [] =
    ap f c.index.ensures ∙ sym (get_or-map f c.from.inside.lines.items c.args.line c.index.result.now []
    (omega (arith, length-map c.from.inside.lines.items f, ap length c.from.view_is))) ∙ ap (λ l. get_or l c.args.line []) c.from.view_is in
    let is : map f c.push.new.self.items ≡ c.args.self.now ++ get_or c.args.from.now c.args.line [] ∷ [] =
    ap (map f) c.in_ok-push.ensures.items ∙ map-append f c.self.inside.lines.items (c.in_ok-shared.shared ∷ [])
    ∙ ap (λ l. l ++ f c.in_ok-shared.shared ∷ []) c.self.view_is
    ∙ ap (λ l. c.args.self.now ++ l ∷ []) (copy ∙ read) in
    let own : IsEven c.args.self.now = subst IsEven c.self.view_is c.self.invariant in
    let other : IsEven c.args.from.now = subst IsEven c.from.view_is c.from.invariant in
    rw is (even-more c.args.self.now (get_or c.args.from.now c.args.line []) own (λ h. other c.args.line c.requires.line ∙ c.requires.width h))
