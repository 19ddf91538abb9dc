-- How a run ends whose way to the work stopped, or whose words say no command.
use Rattle.std.proofs.Common.{inl, inr, ◌≡◌, ◌⊎◌, ◌∙◌, ℕ, ◌<◌, Option, Some, List, ◌++◌, length, refl, sym, ap, subst}
use Rattle.cca_base.specs.Faults.{Rose}
use Rattle.cca_base.specs.Files.{Agrees, Folder, KeepsFiles}
use Rattle.cca_base.proofs.Given.{agrees_told, keeps_still}
use Rattle.cca_base.specs.Sink.{HasRoom, Output, Puts}
use Rattle.cca_cli.specs.Command.{CommandValue, outputs_of}
use Rattle.cca_cli.specs.Outcome.{Outcome, stopped_after}
use Rattle.cca_cli.specs.StatusLine.{status_line}
use Rattle.cca_cli.specs.Statuses.{IsDecided, IsHindered}
use Rattle.cca_cli.specs.Reading.{IsStop}
use Rattle.cca_cli.specs.declared.status.FileKind.{FileKind}
use Rattle.cca_cli.specs.declared.status.FileKind.TheVariants.{Out}
use Rattle.cca_cli.specs.declared.status.Status.{Status}
use Rattle.cca_cli.specs.declared.status.Status.TheVariants.{Memory, ReadFault, Words, WriteFault}
use Rattle.cca_commands.specs.Gives.{FilesGive, WordsGive}
use Rattle.cca_commands.specs.ReadFaults.{CountsAmong, FailsToRead}
use Rattle.cca_run.specs.Run.{Appended, IsHindrance, IsReadFault, IsWriteFault, Prints}
use Rattle.cca_commands.specs.Works.{OnlyReads, StopsBy, bare, text_before}
use Rattle.cca_run.specs.Ends.{RunEnds}
use Rattle.cca_commands.specs.declared.work.Stop.{Stop}
use Rattle.cca_commands.proofs.Counts.{among-none}

-- what a result is that a fault of the output may have replaced
module _ (before now : Output) (text : List ℕ) (status result : Status) (prints : Prints before now text status result) where
  abbrev Front : Type 0
  Front = (n : ℕ) × (n < length text) × Puts before now text n

  -- no room is reported for the text
  abbrev Full : Type 0
  Full = HasRoom before.room (length text) → ⊥

  as-result : (P : Type 0) → (result ≡ status → Puts before now text (length text) → P)
      → (result ≡ WriteFault Out → Rose before.faults now.faults → Front → Full → P) → P
  as-result P whole cut = elim prints [
    | inl w ↦ whole w.0 w.1
    | inr w ↦ cut w.0 w.1 w.2 w.3
  ]

-- the words say no command
module _ (folder : Folder) (before now : Output) (line : List ℕ) (result : Status) (is : line ≡ status_line Words)
    (prints : Prints before now line Words result) where
  keeps : KeepsFiles folder folder
  keeps = keeps_still folder

-- the way to the work of a command stopped
module _ (command : CommandValue) (old new : Folder) (before now : Output) (stop : Stop) (result : Status) (reads : OnlyReads command old new)
    (stops : StopsBy command old new stop)
    (prints : Prints before now (text_before stop ++ status_line stop.status) stop.status result) where
  abbrev text : List ℕ
  text = text_before stop ++ status_line stop.status

  -- by each of the three ways
  by-way : (P : Type 0) → (stop ≡ bare Memory → P) → ((kind : FileKind) → stop ≡ bare (ReadFault kind) → FailsToRead command old new kind → P)
      → (IsStop stop.status → ((files : List ℕ → Option (List ℕ)) → Agrees files old new → FilesGive command files
      (stopped_after (text_before stop) stop.status)) → P) → P
  by-way P memory fault given = elim stops [
    | inl m ↦ memory m
    | inr rest ↦ elim rest [
      | inl f ↦ fault f.0 f.1 f.2
      | inr g ↦ given g.0 g.1
    ]
  ]

  status-of : (s : Stop) → stop ≡ s → stop.status ≡ s.status
  status-of s is = ap (λ (x : Stop). x.status) is

  never-words : stop.status ≡ Words → ⊥
  never-words w = by-way ⊥ (λ m. let x : Memory ≡ Words = sym (status-of _ m) ∙ w in cc)
      (λ kind m f. let x : ReadFault kind ≡ Words = sym (status-of _ m) ∙ w in cc) (λ s g. subst IsStop w s)

  never-wrote : (kind : FileKind) → stop.status ≡ WriteFault kind → ⊥
  never-wrote kind w = by-way ⊥ (λ m. let x : Memory ≡ WriteFault kind = sym (status-of _ m) ∙ w in cc)
      (λ other m f. let x : ReadFault other ≡ WriteFault kind = sym (status-of _ m) ∙ w in cc) (λ s g. subst IsStop w s)

  put-failed : (kind : FileKind) → result ≡ WriteFault kind → (Out ≡ kind) × Rose before.faults now.faults
  put-failed kind r = as-result before now text stop.status result prints _
      (λ e w. absurd (never-wrote kind (sym e ∙ r)))
      (λ e rose cut full. let x : WriteFault Out ≡ WriteFault kind = sym e ∙ r in (let same : Out ≡ kind = cc in same, rose))

  read-fault : (kind : FileKind) → result ≡ ReadFault kind → IsReadFault (Some command) old new kind
  read-fault kind r = as-result before now text stop.status result prints _
      (λ e w. by-way _ (λ m. let x : Memory ≡ ReadFault kind = sym (status-of _ m) ∙ sym e ∙ r in absurd cc)
      (λ other m f. let x : ReadFault other ≡ ReadFault kind = sym (status-of _ m) ∙ sym e ∙ r in let same : other ≡ kind = cc in
      subst (FailsToRead command old new) same f)
      (λ s g. absurd (subst IsStop (sym e ∙ r) s)))
      (λ e rose cut full. let x : WriteFault Out ≡ ReadFault kind = sym e ∙ r in absurd cc)

  -- a hindered stop prints its line alone
  line-alone : IsHindered stop.status → text ≡ status_line stop.status
  line-alone h = by-way _ (λ m. ap (λ (x : Stop). text_before x ++ status_line stop.status) m)
      (λ kind m f. ap (λ (x : Stop). text_before x ++ status_line stop.status) m) (λ s g. absurd (both stop.status s h))
    where
      both : (s : Status) → IsStop s → IsHindered s → ⊥
      both s a b = clash s a b
        where
          clash : (s : Status) → IsStop s → IsHindered s → ⊥
          clash (ReadFault kind) a b = a
          clash (WriteFault kind) a b = a
          clash Memory a b = a
          clash s a b = b

  due : (files : List ℕ → Option (List ℕ)) → Agrees files old new → ((o : Outcome) × WordsGive (Some command) files o × (text ≡ o.printed)
      × Appended (Some command) o.appended old new) ⊎ ((status : Status) × IsHindrance (Some command) old new status × (text ≡ status_line status))
  due files agrees = by-way _
      (λ m. inr (Memory, (tt, reads.kept), ap (λ (x : Stop). text_before x ++ status_line x.status) m))
      (λ kind m f. inr (ReadFault kind, (f, reads.kept), ap (λ (x : Stop). text_before x ++ status_line x.status) m))
      (λ s g. inl (stopped_after (text_before stop) stop.status, g files agrees, refl, reads.kept))

  -- the files and the output are as a run that stopped leaves them
  pub stop-ends : RunEnds (Some command) old new before now result
  stop-ends = record {
    words = λ r. as-result before now text stop.status result prints _ (λ e w. absurd (never-words (sym e ∙ r)))
        (λ e rose cut full. let x : WriteFault Out ≡ Words = sym e ∙ r in absurd cc);
    read_fault = read-fault;
    write_fault = λ kind r. let o = put-failed kind r in subst (λ (k : FileKind). IsWriteFault (Some command) old new before now k) o.0 o.1;
    answer = λ files agrees decided. as-result before now text stop.status result prints _
        (λ e w. by-way _ (λ m. absurd (subst IsDecided (e ∙ status-of _ m) decided)) (λ kind m f. absurd (subst IsDecided (e ∙ status-of _ m) decided))
        (λ s g. (stopped_after (text_before stop) stop.status, g files agrees, sym e, w, reads.kept)))
        (λ e rose cut full. absurd (subst IsDecided e decided));
    line = λ h. as-result before now text stop.status result prints _
        (λ e w. let hindered : IsHindered stop.status = elim h [
          | inl x ↦ absurd (never-words (sym e ∙ x))
          | inr x ↦ subst IsHindered e x
        ] in let same : text ≡ status_line result = line-alone hindered ∙ ap status_line (sym e) in subst (λ (l : List ℕ). Puts before now l (length l)) same w)
        (λ e rose cut full. absurd (elim h [
          | inl x ↦ (let y : WriteFault Out ≡ Words = sym e ∙ x in cc)
          | inr x ↦ subst IsHindered e x
        ]));
    front = λ r. as-result before now text stop.status result prints _ (λ e w. absurd (never-wrote Out (sym e ∙ r)))
        (λ e rose cut full. (text, cut.0, cut.1, cut.2, due, full));
    kept = λ k. reads.kept;
    told = agrees_told old new reads.kept;
    loaded = reads.loaded;
    files = inl reads.kept;
    loads = reads.loads;
    appends = subst (λ (c : List ℕ → ℕ). CountsAmong (outputs_of command) old.append_faults c) (sym reads.appends)
        (among-none (outputs_of command) old.append_faults);
  }
