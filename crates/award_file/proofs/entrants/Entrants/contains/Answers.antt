-- A name is no stranger's where the map has it.
use Rattle.std.proofs.Common.{◌≡◌, ◌∙◌, sym, ap, not, refl, Bool, true, false, List}
use Rattle.auction_rules.specs.Terms.{Entrant}
use Rattle.award_file.specs.Award.{is_stranger, names_of}
use Rattle.award_file.proofs.Names.{stranger-is}
use Rattle.award_file.proofs.entrants.Entrants.contains.Goals as goal

not-not : (b : Bool) → b ≡ not (not b)
not-not true = refl
not-not false = refl

pub returns : goal.returns
returns c =
    let seen = ap (λ (bidders : List Entrant). is_stranger c.args.name.now (names_of bidders)) (sym c.self.view_is)
    ∙ stranger-is c.self.inside.by_name c.args.name.now in
    c.contains_key.ensures ∙ not-not _ ∙ sym (ap not seen)
