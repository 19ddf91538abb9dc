-- What was appended from files that are as before was appended from those before.
use Rattle.std.proofs.Common.{◌∙◌, ℕ, IsTrue, Option, List, [], ◌∷◌, ◌++◌, length, sym, ap, subst}
use Rattle.std.specs.Prelude.{take, ◌-◌, ◌≤◌}
use Rattle.std.specs.Option.{option_map, IfSome}
use Rattle.cca_base.specs.Files.{Adds, Folder, KeepsFiles, added}
use Rattle.cca_base.proofs.Given.{keeps_more}
use Rattle.cca_cli.specs.Command.{CommandValue}
use Rattle.cca_cli.specs.declared.file_text.FileText.{FileText}
use Rattle.cca_cli.specs.declared.status.FileKind.{FileKind}
use Rattle.cca_run.specs.Run.{AppendsAll, AppendsUpTo}

module _ (command : CommandValue) (old mid new : Folder) (kept : KeepsFiles old mid) where
  adds-on : (name piece : List ℕ) (n : ℕ) (to : Folder) → Adds name mid to piece n → Adds name old to piece n
  adds-on name piece n to b = record {
    knows = b.knows ∙ kept.knows;
    told = b.told ∙ kept.told;
    file = λ t. b.file (subst IsTrue (sym kept.told) t) ∙ ap (λ (f : List ℕ → Option (List ℕ)). added (f name) (take n piece)) kept.file;
    other_files = λ other apart. b.other_files other apart ∙ ap (λ (f : List ℕ → Option (List ℕ)). f other) kept.file;
    took = b.took ∙ ap (λ (f : List ℕ → List ℕ). f name ++ take n piece) kept.took;
    other_took = λ other apart. b.other_took other apart ∙ ap (λ (f : List ℕ → List ℕ). f other) kept.took;
    fits = subst (λ (f : List ℕ → Option ℕ). IfSome (f name) (λ r. n ≤ r)) kept.room b.fits;
    room = b.room ∙ ap (λ (f : List ℕ → Option ℕ). option_map (λ r. r - n) (f name)) kept.room;
    other_rooms = λ other apart. b.other_rooms other apart ∙ ap (λ (f : List ℕ → Option ℕ). f other) kept.room;
  }

  -- all texts
  all-to : (to : Folder) (texts : List FileText) → AppendsAll command texts mid to → AppendsAll command texts old to
  all-to to [] k = keeps_more old mid to kept k
  all-to to (t ∷ texts) w = (w.0, record { name = w.1.name; output = w.1.output; whole = adds-on w.1.name t.text (length t.text) w.0 w.1.whole }, w.2)

  -- if all texts were appended from the later files, they were from the earlier ones
  pub all-on : (texts : List FileText) → AppendsAll command texts mid new → AppendsAll command texts old new
  all-on texts all = all-to new texts all

  -- the texts up to one
  pub upto-on : (kind : FileKind) (texts : List FileText) → AppendsUpTo command kind texts mid new → AppendsUpTo command kind texts old new
  upto-on kind texts p = record {
    before = p.before;
    text = p.text;
    behind = p.behind;
    split = p.split;
    between = p.between;
    whole = all-to p.between p.before p.whole;
    name = p.name;
    output = p.output;
    count = p.count;
    part = p.part;
    front = p.front;
    no_room = p.no_room;
  }
