-- The work of a command whose kind is known.
use Rattle.std.proofs.Common.{◌≡◌, List, [], ◌∷◌, Result, sym, subst}
use Rattle.cca_base.specs.Files.{Folder}
use Rattle.cca_cli.specs.Words.{command_value, command_with}
use Rattle.cca_cli.specs.declared.kind.Kind.{Kind}
use Rattle.cca_cli.specs.declared.words.Command.{Command}
use Rattle.cca_commands.specs.Works.{Works}
use Rattle.cca_commands.specs.declared.work.Stop.{Stop}
use Rattle.cca_commands.specs.declared.work.Work.{Work}

-- what is its work as one of its kind is its work
pub works-as : (old new : Folder) (c : Command) (kind : Kind) (result : Result Work Stop) → c.kind ≡ kind
    → Works (command_with kind (c.first.now ∷ c.second.now ∷ c.third.now ∷ []) c.form c.number) old new result → Works (command_value c) old new result
works-as old new c kind result is works =
    subst (λ (k : Kind). Works (command_with k (c.first.now ∷ c.second.now ∷ c.third.now ∷ []) c.form c.number) old new result) (sym is) works
