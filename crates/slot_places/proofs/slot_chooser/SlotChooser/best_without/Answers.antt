use Rattle.slot_places.proofs.PlainSearch.{first-without}
use Rattle.slot_places.proofs.slot_chooser.SlotChooser.best_without.Goals as goal

pub returns-clause-choice : goal.returns-clause-choice
returns-clause-choice c = first-without c.args.self.now.slots.now c.args.j c.in_ok-found.found.choice c.requires.0 c.in_ok-found.ensures.choice
