-- How the end of a run keeps each clause of the top call.
use Rattle.std.proofs.Common.{Bool, IsTrue, List, None, Option, Some, [], ap, arith, drop, inl, inr, length, refl, subst, sym, take, ℕ, ◌∙◌, ◌∷◌, ◌≡◌, ◌≢◌}
use Rattle.std.proofs.Common.{◌≤◌, ◌⊎◌}
use Rattle.std.proofs.lemmas.List.{append-nil, take_all}
use Rattle.std.proofs.Math.Seq.{drop-append_seam}
use Rattle.auction_rules.specs.Terms.{Terms}
use Rattle.auction_rules.specs.declared.Event.{Event}
use Rattle.cca_base.specs.Files.{Adds, Agrees, Folder, added}
use Rattle.cca_base.specs.Sink.{Output, Puts}
use Rattle.cca_cli.specs.Command.{CommandValue, audit, award, check, command_of, place, place_check, price, review, weigh, weigh_check}
use Rattle.cca_cli.specs.Outcome.{Outcome}
use Rattle.cca_cli.specs.Statuses.{IsDecided}
use Rattle.cca_cli.specs.declared.file_text.FileText.{FileText}
use Rattle.cca_cli.specs.declared.price_form.PriceForm.{PriceForm}
use Rattle.cca_cli.specs.declared.status.FileKind.{FileKind}
use Rattle.cca_cli.specs.declared.status.FileKind.TheVariants as kinds
use Rattle.cca_cli.specs.declared.status.Status.{Status}
use Rattle.cca_cli.specs.declared.status.Status.TheVariants.{Done, Limit, Memory, No, ReadFault, Refused, Words, WriteFault}
use Rattle.cca_commands.specs.Gives.{FilesGive, WordsGive, cert_file}
use Rattle.cca_run.specs.Headline.{CanBeAwarded, IsAuction, IsAudited, IsAwarded, IsDoneOrLimited}
use Rattle.cca_run.specs.Later.{HoldsCert, HoldsNothing, after}
use Rattle.cca_run.specs.Run.{Appended, AppendsAll, AppendsUpTo, Changes, HasNoFault, IsReadFault, IsWriteFault, inputs}
use Rattle.cca_run.specs.Verdicts.{IsChecked, IsPlaceChecked, IsPlaced, IsPriced, IsReviewed, IsWeighChecked, IsWeighed}
use Rattle.cca_run.specs.Ends.{RunEnds}
use Rattle.cca_run.specs.Runs.{Runs}
use Rattle.cca_run.proofs.Named.{input-among, output-among}
use Rattle.cca_run.proofs.SeenYes.{audit-or-line, check-or-line, place-check-or-line, seen-yes, weigh-check-or-line}
use Rattle.cca_run.proofs.Rooms.{run-roomy}
use Rattle.cca_run.proofs.Held.{some-agree}
use Rattle.cca_run.proofs.WordsApart.{IsApart, apart-in, award-files, words-apart}

-- the outcome of a run that is done
record IsDone (command : Option CommandValue) (files : List ℕ → Option (List ℕ)) (old new : Folder) (before now : Output) : Type 0 where
  outcome : Outcome
  gives : WordsGive command files outcome
  ends : outcome.status ≡ Done
  puts : Puts before now outcome.printed (length outcome.printed)
  appends : Appended command outcome.appended old new

is-done :
    (command : Option CommandValue) (old new : Folder) (before now : Output) (result : Status) → RunEnds command old new before now result
    → (files : List ℕ → Option (List ℕ)) → Agrees files old new → result ≡ Done → IsDone command files old new before now
is-done command old new before now result ends files agrees done =
    let a = ends.answer files agrees (subst IsDecided (sym done) tt) in
    record { outcome = a.0; gives = a.1; ends = a.2 ∙ done; puts = a.3; appends = a.4 }

-- what the laws of outcomes say
abbrev pub AuditLaw : Type 0
AuditLaw = (file : List ℕ → Option (List ℕ)) (terms log cert : List ℕ) (o : Outcome) → FilesGive (audit terms log cert) file o → o.status ≡ Done
    → IsAudited file terms log cert o.printed × (o.appended ≡ [])

abbrev pub AwardLaw : Type 0
AwardLaw = (file : List ℕ → Option (List ℕ)) (terms log cert : List ℕ) (form : PriceForm) (o : Outcome) → FilesGive (award terms log cert form) file o
    → o.status ≡ Done → (text : List ℕ) × IsAwarded file terms log text × (o.appended ≡ cert_file text ∷ [])

abbrev pub LimitLaw : Type 0
LimitLaw = (file : List ℕ → Option (List ℕ)) (terms log cert : List ℕ) (form : PriceForm) (t : Terms) (lines : List Event) (o : Outcome)
    → IsAuction file terms log t lines → FilesGive (award terms log cert form) file o → IsDoneOrLimited o.status

abbrev pub DoneLaw : Type 0
DoneLaw = (file : List ℕ → Option (List ℕ)) (terms log cert : List ℕ) (form : PriceForm) (o : Outcome) → CanBeAwarded file terms log
    → FilesGive (award terms log cert form) file o → o.status ≡ Done

abbrev pub PassLaw : Type 0
PassLaw = (terms log cert : List ℕ) (form : PriceForm) (file later : List ℕ → Option (List ℕ)) (o p : Outcome) → FilesGive (award terms log cert form) file o
    → HoldsCert (terms ∷ log ∷ []) cert file later o → FilesGive (audit terms log cert) later p → p.status ≡ Done

-- what the laws of the other commands say
pub record VerdictLaws : Type 0 where
  pub checked : (file : List ℕ → Option (List ℕ)) (book cert : List ℕ) (o : Outcome) → FilesGive (check book cert) file o → o.status ≡ Done
      → IsChecked file book cert o.printed
  pub weigh_checked : (file : List ℕ → Option (List ℕ)) (book weights cert : List ℕ) (o : Outcome) → FilesGive (weigh_check book weights cert) file o → o.status ≡ Done
      → IsWeighChecked file book weights cert o.printed
  pub place_checked : (file : List ℕ → Option (List ℕ)) (slots cert : List ℕ) (o : Outcome) → FilesGive (place_check slots cert) file o → o.status ≡ Done
      → IsPlaceChecked file slots cert o.printed
  pub priced : (file : List ℕ → Option (List ℕ)) (book cert : List ℕ) (form : PriceForm) (o : Outcome) → FilesGive (price book cert form) file o → o.status ≡ Done
      → (text : List ℕ) × IsPriced file book text × (o.appended ≡ cert_file text ∷ [])
  pub weighed : (file : List ℕ → Option (List ℕ)) (book weights cert : List ℕ) (form : PriceForm) (o : Outcome) → FilesGive (weigh book weights cert form) file o → o.status ≡ Done
      → (text : List ℕ) × IsWeighed file book weights text × (o.appended ≡ cert_file text ∷ [])
  pub placed : (file : List ℕ → Option (List ℕ)) (slots cert : List ℕ) (rounds : Bool) (o : Outcome) → FilesGive (place slots cert rounds) file o → o.status ≡ Done
      → (text : List ℕ) × IsPlaced file slots text × (o.appended ≡ cert_file text ∷ [])
  pub reviewed : (file : List ℕ → Option (List ℕ)) (book edits : List ℕ) (o : Outcome) → FilesGive (review book edits) file o → o.status ≡ Done
      → IsReviewed file book edits o.printed

-- an `award` that is done
record IsAwardDone (files : List ℕ → Option (List ℕ)) (old new : Folder) (terms log cert : List ℕ) (form : PriceForm) : Type 0 where
  outcome : Outcome
  gives : FilesGive (award terms log cert form) files outcome
  text : List ℕ
  awarded : IsAwarded files terms log text
  appended : outcome.appended ≡ cert_file text ∷ []
  appends : AppendsAll (award terms log cert form) (cert_file text ∷ []) old new

award-done : AwardLaw → (command : Option CommandValue) (old new : Folder) (before now : Output) (result : Status) → RunEnds command old new before now result
    → (terms log cert : List ℕ) (form : PriceForm) → command ≡ Some (award terms log cert form) → (files : List ℕ → Option (List ℕ)) → Agrees files old new
    → result ≡ Done → IsAwardDone files old new terms log cert form
award-done law command old new before now result ends terms log cert form is files agrees done =
    let d = is-done command old new before now result ends files agrees done in
    let gives = subst (λ (k : Option CommandValue). WordsGive k files d.outcome) is d.gives in
    let shows = law files terms log cert form d.outcome gives d.ends in
    let appends = subst (λ (k : Option CommandValue). Appended k d.outcome.appended old new) is d.appends in
    record {
      outcome = d.outcome;
      gives = gives;
      text = shows.0;
      awarded = shows.1;
      appended = shows.2;
      appends = subst (λ (texts : List FileText). AppendsAll (award terms log cert form) texts old new) shows.2 appends;
    }

-- a fault of reading was counted
no-read :
    (command : Option CommandValue) (old new : Folder) (before now : Output) (kind : FileKind) → HasNoFault command old new before now
    → IsReadFault command old new kind → ⊥
no-read None old new before now kind none fault = fault
no-read (Some command) old new before now kind none fault = none.loads fault.name (input-among command kind fault.name fault.input) fault.rose

-- a fault of writing was counted
no-write :
    (command : Option CommandValue) (old new : Folder) (before now : Output) (kind : FileKind) → HasNoFault command old new before now
    → IsWriteFault command old new before now kind → ⊥
no-write None old new before now kinds.Award none fault = fault
no-write None old new before now kinds.Log none fault = fault
no-write None old new before now kinds.Book none fault = fault
no-write None old new before now kinds.Cert none fault = fault
no-write None old new before now kinds.Weights none fault = fault
no-write None old new before now kinds.Slots none fault = fault
no-write None old new before now kinds.Edits none fault = fault
no-write None old new before now kinds.Out none fault = none.puts fault
no-write (Some command) old new before now kinds.Award none fault = none.appends fault.name (output-among command kinds.Award fault.name fault.output)
    fault.rose
no-write (Some command) old new before now kinds.Log none fault = none.appends fault.name (output-among command kinds.Log fault.name fault.output) fault.rose
no-write (Some command) old new before now kinds.Book none fault = none.appends fault.name (output-among command kinds.Book fault.name fault.output) fault.rose
no-write (Some command) old new before now kinds.Cert none fault = none.appends fault.name (output-among command kinds.Cert fault.name fault.output) fault.rose
no-write (Some command) old new before now kinds.Weights none fault = none.appends fault.name (output-among command kinds.Weights fault.name fault.output)
    fault.rose
no-write (Some command) old new before now kinds.Slots none fault = none.appends fault.name (output-among command kinds.Slots fault.name fault.output)
    fault.rose
no-write (Some command) old new before now kinds.Edits none fault = none.appends fault.name (output-among command kinds.Edits fault.name fault.output)
    fault.rose
no-write (Some command) old new before now kinds.Out none fault = none.puts fault

-- without a fault a status is decided, or out of memory
pub run-complete :
    (command : Option CommandValue) (old new : Folder) (before now : Output) (result : Status) → RunEnds command old new before now result
    → HasNoFault command old new before now
    → (result ≡ Memory) ⊎ IsDecided result
run-complete command old new before now Done ends none = inr tt
run-complete command old new before now (No of test place) ends none = inr tt
run-complete command old new before now Words ends none = inr tt
run-complete command old new before now (Refused file place entry) ends none = inr tt
run-complete command old new before now (ReadFault kind) ends none = absurd (no-read command old new before now kind none (ends.read_fault kind refl))
run-complete command old new before now (WriteFault kind) ends none = absurd (no-write command old new before now kind none (ends.write_fault kind refl))
run-complete command old new before now Memory ends none = inl refl
run-complete command old new before now (Limit which count) ends none = inr tt

-- what a text that was appended whole to a file that is none of these leaves in the files
appended-cert : (terms log cert text : List ℕ) (form : PriceForm) (old new : Folder) (o : Outcome) → IsApart terms log cert → IsTrue old.told
    → o.appended ≡ cert_file text ∷ [] → HoldsNothing (old.file cert)
    → AppendsAll (award terms log cert form) (cert_file text ∷ []) old new → HoldsCert (terms ∷ log ∷ []) cert old.file new.file o
appended-cert terms log cert text form old new o apart told some nothing (between, one, kept) = record {
  text = text;
  appended = some;
  held_nothing = nothing;
  cert_holds = in_new cert ∙ adds.file told ∙ ap (added (old.file cert)) (take_all (length text) text (omega arith));
  inputs_hold = (in_new terms ∙ adds.other_files terms apart.award, (in_new log ∙ adds.other_files log apart.lines, tt));
}
  where
    same : one.name ≡ cert
    same = let is = one.output in cc

    adds : Adds cert old between text (length text)
    adds = subst (λ (name : List ℕ). Adds name old between text (length text)) same one.whole

    in_new : (name : List ℕ) → new.file name ≡ between.file name
    in_new name = ap (λ (f : List ℕ → Option (List ℕ)). f name) kept.file

-- the same of files that held something, with what was taken after it
appended-behind : (terms log cert text : List ℕ) (form : PriceForm) (given : List ℕ → Option (List ℕ)) (old new : Folder) (o : Outcome)
    → IsApart terms log cert → o.appended ≡ cert_file text ∷ [] → HoldsNothing (given cert)
    → AppendsAll (award terms log cert form) (cert_file text ∷ []) old new → HoldsCert (terms ∷ log ∷ []) cert given (after given old new) o
appended-behind terms log cert text form given old new o apart some nothing (between, one, kept) = record {
  text = text;
  appended = some;
  held_nothing = nothing;
  cert_holds = ap (λ (l : List ℕ). added (given cert) (drop (length (old.took cert)) l)) (in_new cert ∙ adds.took)
      ∙ ap (added (given cert)) (drop-append_seam (old.took cert) (take (length text) text) ∙ take_all (length text) text (omega arith));
  inputs_hold = (stays terms apart.award, (stays log apart.lines, tt));
}
  where
    same : one.name ≡ cert
    same = let is = one.output in cc

    adds : Adds cert old between text (length text)
    adds = subst (λ (name : List ℕ). Adds name old between text (length text)) same one.whole

    in_new : (name : List ℕ) → new.took name ≡ between.took name
    in_new name = ap (λ (f : List ℕ → List ℕ). f name) kept.took

    nothing-behind : (content : Option (List ℕ)) → added content [] ≡ content
    nothing-behind None = refl
    nothing-behind (Some bytes) = ap Some (append-nil bytes)

    stays : (name : List ℕ) → name ≢ cert → after given old new name ≡ given name
    stays name other =
        ap (λ (l : List ℕ). added (given name) (drop (length (old.took name)) l)) (in_new name ∙ adds.other_took name other ∙ sym (append-nil (old.took name)))
        ∙ ap (added (given name)) (drop-append_seam (old.took name) []) ∙ nothing-behind (given name)

-- what was appended leaves the names that are known
appends-know : (command : CommandValue) (texts : List FileText) (old new : Folder) → AppendsAll command texts old new → new.knows ≡ old.knows
appends-know command [] old new kept = kept.knows
appends-know command (t ∷ texts) old new (between, one, rest) = appends-know command texts between new rest ∙ one.whole.knows

changes-know : (command : Option CommandValue) (old new : Folder) → Changes command old new → new.knows ≡ old.knows
changes-know None old new kept = kept.knows
changes-know (Some command) old new (inl kept) = kept.knows
changes-know (Some command) old new (inr grows) = by grows.grown
  where
    by : AppendsAll command grows.appended old new ⊎ ((kind : FileKind) × AppendsUpTo command kind grows.appended old new) → new.knows ≡ old.knows
    by (inl all) = appends-know command grows.appended old new all
    by (inr (kind, part)) = part.front.knows ∙ appends-know command part.before old part.between part.whole

-- a run that ended so keeps all clauses
module _ (audits : AuditLaw) (awards : AwardLaw) (limits : LimitLaw) (done_where : DoneLaw) (passes : PassLaw) (verdicts : VerdictLaws)
    (said : List (List ℕ)) (old new : Folder)
    (before now : Output) (result : Status)
    (ends : RunEnds (command_of said) old new before now result) where
  -- what the words give is what their command gives
  gives-of : (c : CommandValue) → command_of said ≡ Some c → (files : List ℕ → Option (List ℕ)) (o : Outcome) → WordsGive (command_of said) files o
      → FilesGive c files o
  gives-of c is files o gives = subst (λ (k : Option CommandValue). WordsGive k files o) is gives

  -- without a fault a run whose words and bytes give Done alone is Done, or out of memory
  done_or_memory : (files : List ℕ → Option (List ℕ)) → Agrees files old new → HasNoFault (command_of said) old new before now
      → ((o : Outcome) → WordsGive (command_of said) files o → o.status ≡ Done) → (result ≡ Done) ⊎ (result ≡ Memory)
  done_or_memory files agrees none all =
      elim (run-complete (command_of said) old new before now result ends none) [
        | inl memory ↦ inr memory
        | inr decided ↦ (let a = ends.answer files agrees decided in inl (sym a.2 ∙ all a.0 a.1))
      ]

  -- an auction was awarded, or a limit stopped it
  limited : (c : CommandValue) → command_of said ≡ Some c → (files : List ℕ → Option (List ℕ)) → Agrees files old new
      → HasNoFault (command_of said) old new before now
      → ((o : Outcome) → FilesGive c files o → IsDoneOrLimited o.status) → IsDoneOrLimited result ⊎ (result ≡ Memory)
  limited c is files agrees none all =
      elim (run-complete (command_of said) old new before now result ends none) [
        | inl memory ↦ inr memory
        | inr decided ↦ (let a = ends.answer files agrees decided in inl (subst IsDoneOrLimited a.2 (all a.0 (gives-of c is files a.0 a.1))))
      ]

  -- an `award` of the words that is done
  awarded-by : (terms log cert : List ℕ) (form : PriceForm) → command_of said ≡ Some (award terms log cert form) → (files : List ℕ → Option (List ℕ))
      → Agrees files old new → result ≡ Done → IsAwardDone files old new terms log cert form
  awarded-by terms log cert form is files agrees done =
      award-done awards (command_of said) old new before now result ends terms log cert form is files agrees done

  -- what a command that is done has printed is what its law says
  prints-done : (c : CommandValue) → command_of said ≡ Some c → (files : List ℕ → Option (List ℕ)) → Agrees files old new → result ≡ Done
      → (P : List ℕ → Type 0) → ((o : Outcome) → FilesGive c files o → o.status ≡ Done → P o.printed)
      → (text : List ℕ) × P text × Puts before now text (length text)
  prints-done c is files agrees done P law =
      let d = is-done (command_of said) old new before now result ends files agrees done in
      (d.outcome.printed, law d.outcome (gives-of c is files d.outcome d.gives) d.ends, d.puts)

  -- and so is the certificate that it has appended
  appends-done : (c : CommandValue) → command_of said ≡ Some c → (files : List ℕ → Option (List ℕ)) → Agrees files old new → result ≡ Done
      → (P : List ℕ → Type 0)
      → ((o : Outcome) → FilesGive c files o → o.status ≡ Done → (text : List ℕ) × P text × (o.appended ≡ cert_file text ∷ []))
      → (text : List ℕ) × P text × AppendsAll c (cert_file text ∷ []) old new
  appends-done c is files agrees done P law =
      let d = is-done (command_of said) old new before now result ends files agrees done in
      let shows = law d.outcome (gives-of c is files d.outcome d.gives) d.ends in (
        shows.0,
        shows.1,
        subst (λ (texts : List FileText). AppendsAll c texts old new) shows.2
            (subst (λ (k : Option CommandValue). Appended k d.outcome.appended old new) is d.appends),
      )

  apart : (terms log cert : List ℕ) (form : PriceForm) → command_of said ≡ Some (award terms log cert form) → IsApart terms log cert
  apart terms log cert form is = award-files terms log cert form (apart-in said (award terms log cert form) is)

  -- words of no plain form may still meet a fault of the output
  pub runs : (command_of said ≡ None → (result ≡ Words) ⊎ (result ≡ WriteFault kinds.Out)) → before.faults ≤ now.faults → Runs said old new before now result
  runs not_plain faults = record {
    words = ends.words;
    not_plain = not_plain;
    audit = λ terms log cert is given agrees done.
        let d = is-done (command_of said) old new before now result ends given agrees done in
        (d.outcome.printed, (audits given terms log cert d.outcome (gives-of (audit terms log cert) is given d.outcome d.gives) d.ends).0, d.puts);
    award = λ terms log cert form is given agrees done. let d = awarded-by terms log cert form is given agrees done in (d.text, d.awarded, d.appends);
    checked = λ book cert is given agrees done. prints-done (check book cert) is given agrees done (λ text. IsChecked given book cert text) (verdicts.checked given book cert);
    check_seen = λ book cert is given agrees.
        seen-yes (check book cert) given (λ text. IsChecked given book cert text) (verdicts.checked given book cert) (check-or-line book cert given)
        (command_of said) old new before now result ends is agrees;
    weigh_checked = λ book weights cert is given agrees done. prints-done (weigh_check book weights cert) is given agrees done (λ text. IsWeighChecked given book weights cert text) (verdicts.weigh_checked given book weights cert);
    weigh_check_seen = λ book weights cert is given agrees.
        seen-yes (weigh_check book weights cert) given (λ text. IsWeighChecked given book weights cert text) (verdicts.weigh_checked given book weights cert) (weigh-check-or-line book weights cert given)
        (command_of said) old new before now result ends is agrees;
    place_checked = λ slots cert is given agrees done. prints-done (place_check slots cert) is given agrees done (λ text. IsPlaceChecked given slots cert text) (verdicts.place_checked given slots cert);
    place_check_seen = λ slots cert is given agrees.
        seen-yes (place_check slots cert) given (λ text. IsPlaceChecked given slots cert text) (verdicts.place_checked given slots cert) (place-check-or-line slots cert given)
        (command_of said) old new before now result ends is agrees;
    priced = λ book cert form is given agrees done.
        appends-done (price book cert form) is given agrees done (λ text. IsPriced given book text) (verdicts.priced given book cert form);
    weighed = λ book weights cert form is given agrees done.
        appends-done (weigh book weights cert form) is given agrees done (λ text. IsWeighed given book weights text) (verdicts.weighed given book weights cert form);
    placed = λ slots cert rounds is given agrees done.
        appends-done (place slots cert rounds) is given agrees done (λ text. IsPlaced given slots text) (verdicts.placed given slots cert rounds);
    reviewed = λ book edits is given agrees done.
        prints-done (review book edits) is given agrees done (λ text. IsReviewed given book edits text) (verdicts.reviewed given book edits);
    every_log = λ terms log cert form is given agrees t lines auction none.
        limited (award terms log cert form) is given agrees none (λ o gives. limits given terms log cert form t lines o auction gives);
    awarded = λ terms log cert form is given agrees can none.
        done_or_memory given agrees none (λ o gives. done_where given terms log cert form o can (gives-of (award terms log cert form) is given o gives));
    accepted = λ terms log cert form earlier o is given agrees gave holds none.
        done_or_memory given agrees none
        (λ p gives. passes terms log cert form earlier given o p gave holds (gives-of (audit terms log cert) is given p gives));
    hands_on = λ terms log cert form is given agrees done nothing.
        let d = awarded-by terms log cert form is given agrees done in
        (d.outcome, d.gives, appended-behind terms log cert d.text form given old new d.outcome (apart terms log cert form is) d.appended nothing d.appends);
    handed_on = λ terms log cert form is told done nothing.
        let d = awarded-by terms log cert form is old.file (ends.told told) done in
        (d.outcome, d.gives, appended-cert terms log cert d.text form old new d.outcome (apart terms log cert form is) told d.appended nothing d.appends);
    complete = run-complete (command_of said) old new before now result ends;
    roomy = λ told has. run-roomy said old new before now (ends.told told) has result ends;
    read_fault = ends.read_fault;
    write_fault = ends.write_fault;
    seen = λ terms log cert is given agrees.
        seen-yes (audit terms log cert) given (λ text. IsAudited given terms log cert text) (λ o gives done. (audits given terms log cert o gives done).0)
        (audit-or-line terms log cert given) (command_of said) old new before now result ends is agrees;
    loaded = ends.loaded;
    given = some-agree (inputs (command_of said)) old new (words-apart said) ends.loaded;
    told = ends.told;
    answer = ends.answer;
    line = ends.line;
    front = λ fault. let f = ends.front fault in (f.0, f.1, f.2, f.3, f.4);
    kept = ends.kept;
    files = ends.files;
    knows = changes-know (command_of said) old new ends.files;
    loads = ends.loads;
    appends = ends.appends;
    faults = faults;
  }
