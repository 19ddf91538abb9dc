-- Over files and an output with room no fault comes.
use Rattle.std.proofs.Common.{Bool, List, None, Option, Some, [], ap, arith, false, inl, inr, length, refl, subst, sym, true, ℕ, ◌++◌, ◌+◌, ◌-◌, ◌∙◌}
use Rattle.std.proofs.Common.{◌∷◌, ◌≡◌, ◌≤◌, ◌⊎◌}
use Rattle.std.specs.Prelude.{Contains, if◌then◌else◌}
use Rattle.std.specs.Option.{option_map, option_map_or}
use Rattle.std.specs.Str.{bytes_eq}
use Rattle.std.proofs.lemmas.Bool.{true≢false, cases_Bool}
use Rattle.std.proofs.lemmas.Slice.Eq.{bytes_eq-Decides}
use Rattle.cca_base.specs.Files.{Agrees, Folder}
use Rattle.cca_base.specs.Sink.{HasRoom, Output}
use Rattle.cca_base.proofs.Writing.{room_less}
use Rattle.cca_cli.specs.Command.{CommandValue, command_of, output_as}
use Rattle.cca_cli.specs.StatusLine.{status_line}
use Rattle.cca_cli.specs.Statuses.{IsDecided}
use Rattle.cca_cli.specs.declared.file_text.FileText.{FileText}
use Rattle.cca_cli.specs.declared.status.FileKind.{FileKind}
use Rattle.cca_cli.specs.declared.status.FileKind.TheVariants as kinds
use Rattle.cca_cli.specs.declared.status.Status.{Status}
use Rattle.cca_cli.specs.declared.status.Status.TheVariants.{Done, Limit, Memory, No, ReadFault, Refused, Words, WriteFault}
use Rattle.cca_commands.specs.Gives.{WordsGive}
use Rattle.cca_run.specs.Rooms.{HasRooms, appended_to, goes_to, told_to}
use Rattle.cca_run.specs.Run.{AppendsAll, AppendsUpTo, FailsToWrite, IsFileFault, IsHindrance, IsReadFault, inputs, outputs}
use Rattle.cca_run.specs.Ends.{RunEnds}
use Rattle.cca_run.proofs.Named.{input-among, output-among}

-- after that many bytes there is room for the rest
room-left : (x y : Option ℕ) (m n : ℕ) → y ≡ option_map (λ r. r - m) x → HasRoom x (m + n) → HasRoom y n
room-left None y m n is has = absurd has
room-left (Some r) y m n is has = subst (λ (o : Option ℕ). HasRoom o n) (sym is) (omega (arith, has))

-- where one text goes
goes-to : (command : CommandValue) (name to : List ℕ) (t : FileText) → output_as command t.kind ≡ Some to → goes_to command name t ≡ bytes_eq name to
goes-to command name to t is = ap (λ (o : Option (List ℕ)). option_map_or (bytes_eq name) o false) is

-- it counts where it goes, and nowhere else
counted : (command : CommandValue) (name : List ℕ) (t : FileText) (b : Bool) (m : ℕ) → goes_to command name t ≡ b → m ≡ (if b then length t.text else 0)
    → (rest : ℕ)
    → (if goes_to command name t then length t.text else 0) + rest ≡ m + rest
counted command name t b m is m_is rest = ap (λ (x : Bool). (if x then length t.text else 0) + rest) is ∙ ap (λ (x : ℕ). x + rest) (sym m_is)

-- when these texts were appended, there is room for what else fitted
behind-texts : (command : CommandValue) (name : List ℕ) (texts : List FileText) (old new : Folder) → AppendsAll command texts old new → (n : ℕ)
    → HasRoom (old.room name) (appended_to command name texts + n) → HasRoom (new.room name) n
behind-texts command name [] old new kept n has = subst (λ (r : List ℕ → Option ℕ). HasRoom (r name) n) (sym kept.room)
    (room_less (old.room name) n (0 + n) (omega arith) has)
behind-texts command name (t ∷ texts) old new (between, one, rest) n has = behind-texts command name texts between new rest n
    (here (cases_Bool (bytes_eq name one.name)))
  where
    is_room : (m : ℕ) → (if goes_to command name t then length t.text else 0) + appended_to command name texts ≡ m + appended_to command name texts
        → HasRoom (old.room name) (m + (appended_to command name texts + n))
    is_room m is = room_less (old.room name) (m + (appended_to command name texts + n))
        (((if goes_to command name t then length t.text else 0) + appended_to command name texts) + n)
        (omega (arith, is)) has

    here : (bytes_eq name one.name ≡ true) ⊎ (bytes_eq name one.name ≡ false) → HasRoom (between.room name) (appended_to command name texts + n)
    here (inl same) =
        let is : name ≡ one.name = (bytes_eq-Decides name one.name).0 same in
        room-left (old.room name) (between.room name) (length t.text) (appended_to command name texts + n)
        (subst (λ (x : List ℕ). between.room x ≡ option_map (λ r. r - length t.text) (old.room x)) (sym is) one.whole.room)
        (is_room (length t.text) (counted command name t true (length t.text) (goes-to command name one.name t one.output ∙ same) refl
        (appended_to command name texts)))
    here (inr apart) =
        let other : name ≡ one.name → ⊥ = λ is. true≢false (sym ((bytes_eq-Decides name one.name).1 is) ∙ apart) in
        subst (λ (r : Option ℕ). HasRoom r (appended_to command name texts + n)) (sym (one.whole.other_rooms name other))
        (room_less (old.room name) (appended_to command name texts + n) (0 + (appended_to command name texts + n)) (omega arith)
        (is_room 0 (counted command name t false 0 (goes-to command name one.name t one.output ∙ apart) refl (appended_to command name texts))))

-- a text among others that goes to a file counts there after those before it
among-texts : (command : CommandValue) (name : List ℕ) (before : List FileText) (t : FileText) (behind : List FileText) → goes_to command name t ≡ true
    → appended_to command name before + length t.text ≤ appended_to command name (before ++ t ∷ behind)
among-texts command name [] t behind is =
    let e = counted command name t true (length t.text) is refl (appended_to command name behind) in omega (arith, e)
among-texts command name (b ∷ before) t behind is = let h = among-texts command name before t behind is in omega (arith, h)

module _ (command : CommandValue) (old new : Folder) (kind : FileKind) (fault : FailsToWrite command old new kind) where
  -- the texts that were appended up to the one that failed
  abbrev part : AppendsUpTo command kind fault.appended old new
  part = fault.part

  -- the text that failed
  abbrev text : FileText
  text = record { kind = kind; text = part.text }

  -- its file had no room for all that goes to it
  had-no_room : HasRoom (old.room part.name) (appended_to command part.name fault.appended) → ⊥
  had-no_room has = part.no_room (behind-texts command part.name part.before old part.between part.whole (length part.text)
      (room_less (old.room part.name) (appended_to command part.name part.before + length part.text)
      (appended_to command part.name (part.before ++ text ∷ part.behind))
      (among-texts command part.name part.before text part.behind (goes-to command part.name part.name text part.output
      ∙ (bytes_eq-Decides part.name part.name).1 refl))
      (subst (λ (texts : List FileText). HasRoom (old.room part.name) (appended_to command part.name texts)) part.split has)))

module _ (words : List (List ℕ)) (old new : Folder) (before now : Output) (agrees : Agrees old.file old new) (has : HasRooms words old before) where
  -- no load of an input fails
  no-read : (kind : FileKind) → IsReadFault (command_of words) old new kind → ⊥
  no-read kind fault = by (command_of words) refl fault
    where
      by : (command : Option CommandValue) → command_of words ≡ command → IsReadFault command old new kind → ⊥
      by None is fault = fault
      by (Some command) is fault = fault.no_room (has.reads fault.name (subst (λ (c : Option CommandValue). Contains (inputs c) fault.name) (sym is)
          (input-among command kind fault.name fault.input)))

  -- no append fails
  no-append : (kind : FileKind) → IsFileFault (command_of words) old new kind → ⊥
  no-append kind fault = by (command_of words) refl fault
    where
      by : (command : Option CommandValue) → command_of words ≡ command → IsFileFault command old new kind → ⊥
      by None is fault = fault
      by (Some command) is fault =
          let name = fault.part.name in
          let given = fault.given old.file agrees in
          let room = has.appends given.0 (subst (λ (c : Option CommandValue). WordsGive c old.file given.0) (sym is) given.1) name
          (subst (λ (c : Option CommandValue). Contains (outputs c) name) (sym is) (output-among command kind name fault.part.output)) in
          let here = subst (λ (c : Option CommandValue). HasRoom (old.room name) (told_to c name given.0.appended)) is room in
          had-no_room command old new kind fault (subst (λ (texts : List FileText). HasRoom (old.room name) (appended_to command name texts)) given.3 here)

  -- no line of a hindrance is due but that of out of memory
  due-line : (status : Status) → IsHindrance (command_of words) old new status → HasRoom before.room (length (status_line status))
  due-line (ReadFault kind) h = absurd (no-read kind h.0)
  due-line (WriteFault kind) h = absurd (no-append kind h)
  due-line Memory h = has.line
  due-line Done h = absurd h
  due-line (No of test place) h = absurd h
  due-line Words h = absurd h
  due-line (Refused file place entry) h = absurd h
  due-line (Limit which count) h = absurd h

  -- no put fails
  no-put : RunEnds (command_of words) old new before now (WriteFault kinds.Out) → ⊥
  no-put ends = let f = ends.front refl in f.5 (elim (f.4 old.file agrees) [
    | inl o ↦ subst (λ (t : List ℕ). HasRoom before.room (length t)) (sym o.2) (has.prints o.0 o.1)
    | inr s ↦ subst (λ (t : List ℕ). HasRoom before.room (length t)) (sym s.2) (due-line s.0 s.1)
  ])

  -- no fault of writing comes
  no-write : (kind : FileKind) → RunEnds (command_of words) old new before now (WriteFault kind) → ⊥
  no-write kinds.Award ends = no-append kinds.Award (ends.write_fault kinds.Award refl)
  no-write kinds.Log ends = no-append kinds.Log (ends.write_fault kinds.Log refl)
  no-write kinds.Book ends = no-append kinds.Book (ends.write_fault kinds.Book refl)
  no-write kinds.Cert ends = no-append kinds.Cert (ends.write_fault kinds.Cert refl)
  no-write kinds.Weights ends = no-append kinds.Weights (ends.write_fault kinds.Weights refl)
  no-write kinds.Slots ends = no-append kinds.Slots (ends.write_fault kinds.Slots refl)
  no-write kinds.Edits ends = no-append kinds.Edits (ends.write_fault kinds.Edits refl)
  no-write kinds.Out ends = no-put ends

  -- so the status is decided, or out of memory
  pub run-roomy : (result : Status) → RunEnds (command_of words) old new before now result → (result ≡ Memory) ⊎ IsDecided result
  run-roomy Done ends = inr tt
  run-roomy (No of test place) ends = inr tt
  run-roomy Words ends = inr tt
  run-roomy (Refused file place entry) ends = inr tt
  run-roomy (ReadFault kind) ends = absurd (no-read kind (ends.read_fault kind refl))
  run-roomy (WriteFault kind) ends = absurd (no-write kind ends)
  run-roomy Memory ends = inl refl
  run-roomy (Limit which count) ends = inr tt
