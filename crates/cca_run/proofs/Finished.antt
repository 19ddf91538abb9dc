-- How a command ends that has its work, and how a run then ends.
use Rattle.std.proofs.Common.{inl, inr, ◌≡◌, ◌⊎◌, ◌∙◌, ℕ, ◌≤◌, ◌<◌, Option, Some, List, length, map, refl, sym, ap, subst, take}
use Rattle.std.specs.Prelude.{◌-◌}
use Rattle.cca_base.specs.Faults.{Rose}
use Rattle.cca_base.specs.Files.{Agrees, Folder}
use Rattle.cca_base.proofs.Given.{agrees_same, agrees_told, of_same}
use Rattle.cca_base.specs.Sink.{HasRoom, Output, Puts}
use Rattle.cca_cli.specs.Command.{CommandValue, inputs_of, output_as, outputs_of}
use Rattle.cca_cli.specs.Outcome.{Outcome, done}
use Rattle.cca_cli.specs.StatusLine.{status_line}
use Rattle.cca_cli.specs.Statuses.{IsDecided, IsHindered, KeepsAll}
use Rattle.cca_cli.specs.declared.file_text.FileText.{FileText}
use Rattle.cca_cli.specs.declared.status.FileKind.{FileKind}
use Rattle.cca_cli.specs.declared.status.FileKind.TheVariants.{Award, Cert, Edits, Log, Out, Slots, Weights}
use Rattle.cca_cli.specs.declared.status.FileKind.TheVariants as file_kind
use Rattle.cca_cli.specs.declared.status.Status.{Status}
use Rattle.cca_cli.specs.declared.status.Status.TheVariants.{Done, ReadFault, Words, WriteFault}
use Rattle.cca_commands.specs.Gives.{FilesGive}
use Rattle.cca_base.specs.Given.{Given}
use Rattle.cca_commands.specs.ReadFaults.{AreInOrder, CountsAmong}
use Rattle.cca_run.specs.Run.{AppendsAll, FailsToWrite, IsWriteFault, Prints}
use Rattle.cca_commands.specs.Works.{OnlyReads}
use Rattle.cca_run.specs.Ends.{FailsAt, FinishEnds, OnlyAppends, RunEnds}
use Rattle.cca_run.proofs.Moved.{all-on, upto-on}

-- an append failed, and its line was printed or its front
pub append-failed : (command : CommandValue) (old new : Folder) (before now : Output) (printed line : List ℕ) (appended : List FileText) (kind : FileKind)
    (result : Status) → FailsAt command appended old new kind
    → OnlyAppends command old new → before.faults ≤ now.faults → line ≡ status_line (WriteFault kind) → Prints before now line (WriteFault kind) result
    → FinishEnds command old new before now printed appended result
append-failed command old new before now printed line appended kind result fails counts le is prints = record {
  done = λ e. absurd (not-done prints e);
  others = ended prints;
  cause = cause prints;
  line = whole prints;
  front = front prints;
  files = inr (kind, fails.part);
  counts = counts;
  faults = le;
}
  where
    not-done : Prints before now line (WriteFault kind) result → result ≡ Done → ⊥
    not-done (inl w) e = let x : WriteFault kind ≡ Done = sym w.0 ∙ e in cc
    not-done (inr w) e = let x : WriteFault Out ≡ Done = sym w.0 ∙ e in cc

    ended : Prints before now line (WriteFault kind) result → (result ≡ Done) ⊎ ((other : FileKind) × (result ≡ WriteFault other))
    ended (inl w) = inr (kind, w.0)
    ended (inr w) = inr (Out, w.0)

    cause : Prints before now line (WriteFault kind) result → (other : FileKind) → result ≡ WriteFault other
        → ((other ≡ Out) × Rose before.faults now.faults) ⊎ (FailsAt command appended old new other)
    cause (inl w) other e = let x : WriteFault kind ≡ WriteFault other = sym w.0 ∙ e in let same : kind ≡ other = cc in
        inr (subst (FailsAt command appended old new) same fails)
    cause (inr w) other e = let x : WriteFault Out ≡ WriteFault other = sym w.0 ∙ e in let same : Out ≡ other = cc in inl (sym same, w.1)

    whole : Prints before now line (WriteFault kind) result → IsHindered result → Puts before now (status_line result) (length (status_line result))
    whole (inl w) h = let same : line ≡ status_line result = is ∙ ap status_line (sym w.0) in subst (λ (l : List ℕ). Puts before now l (length l)) same w.1
    whole (inr w) h = absurd (subst IsHindered w.0 h)

    front : Prints before now line (WriteFault kind) result → result ≡ WriteFault Out → (text : List ℕ) × (n : ℕ) × (n < length text) × Puts before now text n
        × (((text ≡ printed) × AppendsAll command appended old new) ⊎ ((other : FileKind) × FailsAt command appended old new other
        × (text ≡ status_line (WriteFault other)))) × (HasRoom before.room (length text) → ⊥)
    front (inl w) e = let x : WriteFault kind ≡ WriteFault Out = sym w.0 ∙ e in let same : kind ≡ Out = cc in absurd (fails.no_out same)
    front (inr w) e = let cut = w.2 in (line, cut.0, cut.1, cut.2, inr (kind, fails, is), w.3)

-- the work was computed, and the command ended
module _ (command : CommandValue) (old mid new : Folder) (before now : Output) (printed : List ℕ) (appended : List FileText) (result : Status)
    (reads : OnlyReads command old mid)
    (e : FinishEnds command mid new before now printed appended result) (given : (files : List ℕ → Option (List ℕ)) → Agrees files old mid
    → FilesGive command files (done printed appended)) where
  -- appends gave nothing more
  earlier : (files : List ℕ → Option (List ℕ)) → Agrees files old new → Agrees files old mid
  earlier files agrees = agrees_same files old new mid (sym e.counts.gave) agrees

  gives : (files : List ℕ → Option (List ℕ)) → Agrees files old new → (o : Outcome) × FilesGive command files o × (o.status ≡ Done) × (o.appended ≡ appended)
  gives files agrees = (done printed appended, given files (earlier files agrees), refl, refl)

  no-other : (P : Type 0) → ((kind : FileKind) → result ≡ WriteFault kind → P) → (result ≡ Done → P) → P
  no-other P wrote finished = elim e.others [
    | inl d ↦ finished d
    | inr w ↦ wrote w.0 w.1
  ]

  fails-to : (kind : FileKind) → FailsAt command appended mid new kind → FailsToWrite command old new kind
  fails-to kind f = record {
    name = f.name;
    output = f.output;
    rose = subst (λ (c : List ℕ → ℕ). Rose (c f.name) (new.append_faults f.name)) reads.appends f.rose;
    appended = appended;
    given = gives;
    part = upto-on command old mid new reads.kept kind appended f.part;
  }

  write-fault : (kind : FileKind) → result ≡ WriteFault kind → IsWriteFault (Some command) old new before now kind
  write-fault kind w = by kind w (e.cause kind w)
    where
      by : (kind : FileKind) → result ≡ WriteFault kind → ((kind ≡ Out) × Rose before.faults now.faults) ⊎ (FailsAt command appended mid new kind)
          → IsWriteFault (Some command) old new before now kind
      by Award w (inl x) = let no : Award ≡ Out = x.0 in absurd cc
      by Award w (inr f) = fails-to Award f
      by Log w (inl x) = let no : Log ≡ Out = x.0 in absurd cc
      by Log w (inr f) = fails-to Log f
      by file_kind.Book w (inl x) = let no : file_kind.Book ≡ Out = x.0 in absurd cc
      by file_kind.Book w (inr f) = fails-to file_kind.Book f
      by Cert w (inl x) = let no : Cert ≡ Out = x.0 in absurd cc
      by Cert w (inr f) = fails-to Cert f
      by Weights w (inl x) = let no : Weights ≡ Out = x.0 in absurd cc
      by Weights w (inr f) = fails-to Weights f
      by Slots w (inl x) = let no : Slots ≡ Out = x.0 in absurd cc
      by Slots w (inr f) = fails-to Slots f
      by Edits w (inl x) = let no : Edits ≡ Out = x.0 in absurd cc
      by Edits w (inr f) = fails-to Edits f
      by Out w (inl x) = x.1
      by Out w (inr f) = absurd (f.no_out refl)

  -- the files and the output are as a run with this status leaves them
  pub run-ends : RunEnds (Some command) old new before now result
  run-ends = record {
    words = λ w. no-other _ (λ kind x. let y : WriteFault kind ≡ Words = sym x ∙ w in absurd cc) (λ x. let y : Done ≡ Words = sym x ∙ w in absurd cc);
    read_fault = λ kind r. no-other _ (λ other x. let y : WriteFault other ≡ ReadFault kind = sym x ∙ r in absurd cc)
        (λ x. let y : Done ≡ ReadFault kind = sym x ∙ r in absurd cc);
    write_fault = write-fault;
    answer = λ files agrees decided. no-other _ (λ kind w. absurd (subst IsDecided w decided))
        (λ d. let x = e.done d in (done printed appended, given files (earlier files agrees), sym d, x.0, all-on command old mid new reads.kept appended x.1));
    line = λ h. elim h [
      | inl w ↦ no-other _ (λ kind x. let y : WriteFault kind ≡ Words = sym x ∙ w in absurd cc) (λ x. let y : Done ≡ Words = sym x ∙ w in absurd cc)
      | inr h ↦ e.line h
    ];
    front = λ w. let f = e.front w in (
      f.0,
      f.1,
      f.2,
      f.3,
      λ files agrees. elim f.4 [
        | inl whole ↦ inl (done printed appended, given files (earlier files agrees), whole.0, all-on command old mid new reads.kept appended whole.1)
        | inr x ↦ inr (WriteFault x.0, fails-to x.0 x.1, x.2)
      ],
      f.5,
    );
    kept = λ k. no-other _ (λ kind w. absurd (subst KeepsAll w k)) (λ d. absurd (subst KeepsAll d k));
    told = λ tells. agrees_same old.file old mid new e.counts.gave (agrees_told old mid reads.kept tells);
    loaded = record {
      contents = reads.loaded.contents;
      first = reads.loaded.first;
      order = subst (λ (gave : List Given). AreInOrder (map (λ c. c.name) reads.loaded.contents) (take (length gave - length old.gave) gave))
          (sym e.counts.gave) reads.loaded.order;
      gave = of_same reads.loaded.contents old mid new e.counts.gave reads.loaded.gave;
    };
    files = inr (record {
      appended = appended;
      given = gives;
      grown = elim e.files [
        | inl all ↦ inl (all-on command old mid new reads.kept appended all)
        | inr p ↦ inr (p.0, upto-on command old mid new reads.kept p.0 appended p.1)
      ];
    });
    loads = subst (λ (c : List ℕ → ℕ). CountsAmong (inputs_of command) old.load_faults c) (sym e.counts.loads) reads.loads;
    appends = subst (λ (c : List ℕ → ℕ). CountsAmong (outputs_of command) c new.append_faults) reads.appends e.counts.appends;
  }
