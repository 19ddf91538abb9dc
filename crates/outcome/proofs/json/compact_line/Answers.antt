use Rattle.std.proofs.Common.{◌≡◌, ◌∙◌, ap, ◌++◌, codes, List, ℕ}
use Rattle.serde_json.specs.View.{view}
use Rattle.serde_json.specs.Written.{compact_text}
use Rattle.outcome.proofs.json.compact_line.Goals as goal

pub returns : goal.returns
returns c =
    let bytes : c.in_ok-bytes.bytes.items ≡ compact_text (view c.args.value.now) = c.in_ok-bytes.ensures.text c.requires in
    let added : c.add.new.self ≡ compact_text (view c.args.value.now) = c.in_ok-add.ensures ∙ ap (λ (l : List ℕ). l ++ c.deref.result.now) c.new-text.ensures
    ∙ c.deref.ensures.value ∙ bytes in
    c.in_ok-push.ensures ∙ ap (λ (l : List ℕ). l ++ codes "\n") added
