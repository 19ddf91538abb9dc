use Rattle.std.proofs.Common.{◌≡◌, ◌∙◌, ℕ, List, subst}
use Rattle.std.specs.Prelude.{IfOk}
use Rattle.stream_check.proofs.facts.read_choice.Goals as goal

pub returns : goal.returns
returns c = λ ns is. subst (λ (l : List ℕ). IfOk c.from_slice.result (λ choice. choice ≡ l)) (c.as_slice.ensures ∙ c.choice_in-numbers.ensures.choice ns is) c.from_slice.ensures
