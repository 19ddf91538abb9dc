-- How appends end.
use Rattle.std.proofs.Common.{IsTrue, List, Some, [], ap, append_assoc, arith, get_or, length, refl, subst, sym, ℕ, ◌++◌, ◌<◌, ◌∙◌, ◌∷◌, ◌≡◌, ◌≢◌, ◌≤◌}
use Rattle.std.specs.Prelude.{All, Contains, Err, IfSome, IsSome, None, Ok, Option, Result, drop, option_map, take, ◌-◌}
use Rattle.std.specs.List.{AllByRecursion}
use Rattle.cca_base.specs.Faults.{Rose}
use Rattle.std.proofs.lemmas.Bool.{true≢false}
use Rattle.std.proofs.lemmas.List.{take_all}
use Rattle.std.proofs.lemmas.List.Elements.{All-contains}
use Rattle.cca_base.specs.Files.{Adds, Folder, KeepsFiles}
use Rattle.cca_base.specs.Sink.{HasRoom}
use Rattle.cca_base.proofs.Given.{keeps_still}
use Rattle.cca_run.proofs.Moved.{all-on}
use Rattle.cca_cli.specs.Command.{CommandValue, FileUse, files_of, output_as}
use Rattle.cca_cli.specs.Words.{AreAmong, KnowsFiles}
use Rattle.cca_cli.specs.declared.file_text.FileText.{FileText}
use Rattle.cca_cli.specs.declared.status.FileKind.{FileKind}
use Rattle.cca_cli.specs.declared.status.FileKind.TheVariants.{Out}
use Rattle.cca_run.specs.Run.{AppendsAll}
use Rattle.cca_run.specs.Ends.{AppendEnds, FailsAt, OnlyAppends}
use Rattle.cca_commands.proofs.Counts.{rose-from}

keeps : (folder : Folder) → KeepsFiles folder folder
keeps folder = keeps_still folder

-- the names are known after an append as before
pub known-on : (command : CommandValue) (old new : Folder) → new.knows ≡ old.knows → KnowsFiles old command → KnowsFiles new command
known-on command old new same all = subst (λ (k : List ℕ → _). AllByRecursion (λ f. IsTrue (k f.name)) (files_of command)) (sym same) all

-- names that are among known words are known
pub known-among : (words : List (List ℕ)) (command : CommandValue) (folder : Folder) → All (λ w. IsTrue (folder.knows w)) words → AreAmong words command
    → KnowsFiles folder command
known-among words command folder known among = by (files_of command) among
  where
    by : (files : List FileUse) → AllByRecursion (λ f. Contains words f.name) files → AllByRecursion (λ f. IsTrue (folder.knows f.name)) files
    by [] rest = tt
    by (f ∷ files) rest = (All-contains (λ w. IsTrue (folder.knows w)) words f.name known rest.0, by files rest.1)

-- what holds if there is a name holds if there is one in another form
pub at-some : {A : Type 0} (f : A → List ℕ) (name : Option A) (other : Option (List ℕ)) (P : Type 0) → IsSome other → option_map f name ≡ other
    → IfSome name (λ _. P) → P
at-some f None other P some is holds = absurd (true≢false (sym (subst IsSome (sym is) some)))
at-some f (Some x) other P some is holds = holds

-- of one text a prefix was appended
pub part-one : (command : CommandValue) (text : FileText) (name : List ℕ) (old new : Folder) (n : ℕ) → output_as command text.kind ≡ Some name
    → text.kind ≢ Out → Rose (old.append_faults name) (new.append_faults name) → n < length text.text → Adds name old new text.text n
    → (HasRoom (old.room name) (length text.text) → ⊥) → FailsAt command (text ∷ []) old new text.kind
part-one command text name old new n output no_out rose less adds full = record {
  name = name;
  output = output;
  no_out = no_out;
  rose = rose;
  part = record {
    before = [];
    text = text.text;
    behind = [];
    split = refl;
    between = old;
    whole = keeps old;
    name = name;
    output = output;
    count = n;
    part = less;
    front = adds;
    no_room = full;
  };
}

-- the files that one text leaves are those that the next begins with
joined :
    (command : CommandValue) (text : FileText) (rest : List FileText) (old mid new : Folder) → AppendsAll command (text ∷ []) old mid
    → AppendsAll command rest mid new → AppendsAll command (text ∷ rest) old new
joined command text rest old mid new one others = (one.0, one.1, all-on command one.0 mid new one.2 rest others)

-- an append failed at the only text, and so at the first of more
fails-first : (command : CommandValue) (text : FileText) (rest : List FileText) (old new : Folder) (kind : FileKind)
    → FailsAt command (text ∷ []) old new kind → FailsAt command (text ∷ rest) old new kind
fails-first command text rest old new kind f =
    let p = f.part in
    record {
      name = f.name;
      output = f.output;
      no_out = f.no_out;
      rose = f.rose;
      part = record {
        before = p.before;
        text = p.text;
        behind = p.behind ++ rest;
        split = ap (λ (l : List FileText). l ++ rest) p.split ∙ append_assoc p.before (record { kind = kind; text = p.text } ∷ p.behind) rest;
        between = p.between;
        whole = p.whole;
        name = p.name;
        output = p.output;
        count = p.count;
        part = p.part;
        front = p.front;
        no_room = p.no_room;
      };
    }

-- an append failed after the first text, which was appended whole
fails-later : (command : CommandValue) (text : FileText) (rest : List FileText) (old mid new : Folder) (kind : FileKind)
    → AppendsAll command (text ∷ []) old mid → OnlyAppends command old mid
    → FailsAt command rest mid new kind → FailsAt command (text ∷ rest) old new kind
fails-later command text rest old mid new kind one counts f =
    let p = f.part in
    record {
      name = f.name;
      output = f.output;
      no_out = f.no_out;
      rose = rose-from (old.append_faults f.name) (mid.append_faults f.name) (new.append_faults f.name) (counts.appends.not_less f.name) f.rose;
      part = record {
        before = text ∷ p.before;
        text = p.text;
        behind = p.behind;
        split = ap (λ (l : List FileText). text ∷ l) p.split;
        between = p.between;
        whole = joined command text p.before old mid p.between one p.whole;
        name = p.name;
        output = p.output;
        count = p.count;
        part = p.part;
        front = p.front;
        no_room = p.no_room;
      };
    }

-- the list after its first element, as a slice has it
pub rest-is : (t : FileText) (texts : List FileText) → take (length (t ∷ texts) - 1) (drop 1 (t ∷ texts)) ≡ texts
rest-is t texts = take_all (length (t ∷ texts) - 1) texts (omega arith)

-- the first text was appended, and the others ended so
pub ends-later :
    (command : CommandValue) (text : FileText) (rest : List FileText) (old mid new : Folder) → AppendsAll command (text ∷ []) old mid
    → OnlyAppends command old mid
    → (result : Result Unit FileKind) → AppendEnds command rest mid new result → AppendEnds command (text ∷ rest) old new result
ends-later command text rest old mid new one counts (Ok u) all = joined command text rest old mid new one all
ends-later command text rest old mid new one counts (Err kind) f = fails-later command text rest old mid new kind one counts f

-- over a slice that has a first text: it was appended, and the others ended so
pub slice-later : (command : CommandValue) (texts : List FileText) (first : FileText) (old mid new : Folder) → 1 ≤ length texts → first ≡ get_or texts 0 first
    → AppendsAll command (first ∷ []) old mid
    → OnlyAppends command old mid → (result : Result Unit FileKind) → AppendEnds command (take (length texts - 1) (drop 1 texts)) mid new result
    → AppendEnds command texts old new result
slice-later command [] first old mid new some is one counts result ends = absurd (omega (arith, some))
slice-later command (t ∷ texts) first old mid new some is one counts result ends =
    let same : t ≡ first = cc in
    ends-later command t texts old mid new (subst (λ (x : FileText). AppendsAll command (x ∷ []) old mid) (sym same) one) counts result
    (subst (λ (l : List FileText). AppendEnds command l mid new result) (rest-is t texts) ends)

-- over such a slice: the append of the first failed
pub slice-first : (command : CommandValue) (texts : List FileText) (first : FileText) (old new : Folder) (kind : FileKind) → 1 ≤ length texts
    → first ≡ get_or texts 0 first
    → AppendEnds command (first ∷ []) old new (Err kind) → AppendEnds command texts old new (Err kind)
slice-first command [] first old new kind some is fails = absurd (omega (arith, some))
slice-first command (t ∷ texts) first old new kind some is fails =
    let same : t ≡ first = cc in
    fails-first command t texts old new kind (subst (λ (x : FileText). FailsAt command (x ∷ []) old new kind) (sym same) fails)

-- a slice that is shorter than 1
pub no_texts : (texts : List FileText) → length texts < 1 → texts ≡ []
no_texts [] less = refl
no_texts (t ∷ texts) less = absurd (omega (arith, less))
