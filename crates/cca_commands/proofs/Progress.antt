-- The way of a command from one input to the next.
use Rattle.std.proofs.Common.{inl, inr, ◌≡◌, ◌∙◌, ℕ, ◌≤◌, Bool, false, Option, Some, None, List, [], ◌∷◌, length, map, refl, sym, ap, subst, arith}
use Rattle.std.specs.Prelude.{Contains, option_and_then, Result, Ok, Err, IsSome, reverse, if◌then◌else◌}
use Rattle.std.specs.List.{AllByRecursion}
use Rattle.std.proofs.lemmas.Bool.{cases_lt}
use Rattle.cca_base.specs.Faults.{Rose}
use Rattle.cca_base.specs.Files.{Agrees, Folder, GaveAll, KeepsFiles}
use Rattle.cca_base.proofs.Given.{agrees_first, agrees_next, keeps_more, keeps_still}
use Rattle.cca_cli.specs.Command.{CommandValue, contents_of, input_as, inputs_of, is_kind, missing, output_as}
use Rattle.cca_cli.specs.Outcome.{Answer, AnswerGives, FileAnswers, InputGives, Outcome, done, stopped, stopped_after, stops, value}
use Rattle.cca_cli.specs.Reading.{Halts, InputStops, IsStop, OnlyLoads}
use Rattle.limits.specs.declared.TheConstants.{AWARD_BYTES, LOG_BYTES}
use Rattle.cca_cli.specs.declared.file_text.FileText.{FileText}
use Rattle.cca_cli.specs.declared.status.FileKind.{FileKind}
use Rattle.cca_cli.specs.declared.status.FileKind.TheVariants as part
use Rattle.cca_cli.specs.declared.status.Status.{Status}
use Rattle.cca_cli.specs.declared.status.Status.TheVariants.{Memory, ReadFault}
use Rattle.auction_model.specs.Book.{Book}
use Rattle.auction_rules.specs.Terms.{Terms}
use Rattle.auction_rules.specs.declared.Event.{Event}
use Rattle.log_replay.specs.ReplyLines.{end_of}
use Rattle.log_replay.specs.declared.results.ReplayStop.{ReplayStop}
use Rattle.log_replay.specs.declared.results.ReplayStop.TheVariants.{Rounds, Price, Open}
use Rattle.cca_cli.specs.Answers.{AwardAnswers, LogAnswers}
use Rattle.cca_commands.specs.Gives.{AwardGives, BookOfLogGives, CommandGives, EndGives, FilesGive, LogGives, replay_status}
use Rattle.cca_commands.specs.ReadFaults.{FailsToRead}
use Rattle.cca_commands.specs.Works.{AreOutputs, AwardIsRead, GivesFrom, HasBook, HasLogged, IsWork, LogIsRead, OnlyReads, StopsAtAward, StopsAtLog}
use Rattle.cca_commands.specs.Works.{StopsBy, Works, WorksFrom, WorksOut, bare, text_before}
use Rattle.cca_commands.specs.declared.work.Stop.{Stop}
use Rattle.cca_commands.specs.declared.work.Work.{Work}
use Rattle.cca_commands.proofs.Counts.{among-none, among-one, among-then, rose-from}
use Rattle.cca_commands.proofs.Loads.{count-more, loaded-more, loaded-none}

-- what files hold, by their names
abbrev pub Held : Type 0
Held = List ℕ → Option (List ℕ)

-- contents, by the kinds of the inputs
abbrev pub Contents : Type 0
Contents = FileKind → Option (List ℕ)

-- these contents are those of the files, at the kinds that were read
abbrev pub Agree : CommandValue → Held → Contents → List FileKind → Type 0
Agree command files contents seen = AllByRecursion (λ kind. contents kind ≡ contents_of command files kind) seen

-- The inputs of these kinds were read, and what is left of the command is this.
pub record IsAt (command : CommandValue) (old mid : Folder) (seen : List FileKind) (rest : Contents → Outcome → Type 0) : Type 0 where
  -- nothing was done but loads of inputs of the command
  pub reads : OnlyReads command old mid
  -- each of these kinds was loaded once
  pub count : length reads.loaded.contents ≡ length seen
  -- what is left of the command, by the contents that were read, is what the command gives
  pub leads : (files : Held) → Agrees files old mid → (contents : Contents) → Agree command files contents seen
      → (o : Outcome) → rest contents o → CommandGives command contents o

-- The file of this kind and name is the input that the command reads after those of these kinds.
pub record IsNext (command : CommandValue) (seen : List FileKind) (kind : FileKind) (name : List ℕ) : Type 0 where
  pub input : input_as command kind ≡ Some name
  pub within : Contains (inputs_of command) name
  pub place : within.0 ≡ length seen
  pub unseen : AllByRecursion (λ k. is_kind kind k ≡ false) seen

agree-own : (command : CommandValue) (files : Held) (seen : List FileKind) → Agree command files (contents_of command files) seen
agree-own command files [] = tt
agree-own command files (kind ∷ seen) = (refl, agree-own command files seen)

-- nothing was read
pub begins : (command : CommandValue) (old : Folder) → IsAt command old old [] (CommandGives command)
begins command old = record {
  reads = record {
    kept = keeps_still old;
    loads = among-none (inputs_of command) old.load_faults;
    appends = refl;
    loaded =
        loaded-none (inputs_of command) old;
  };
  count = refl;
  leads = λ files agrees contents agree o gives. gives;
}

-- the loads of one more input
abbrev reads-on : (command : CommandValue) (old mid new : Folder) (name : List ℕ) (within : Contains (inputs_of command) name) (a : OnlyReads command old mid)
    → length a.loaded.contents ≡ within.0 → OnlyLoads name mid new → OnlyReads command old new
reads-on command old mid new name within a next b = record {
  loaded = loaded-more (inputs_of command) name old mid new a.loaded within next b.some a.kept b.kept;
  kept = keeps_more old mid new a.kept b.kept;
  loads = among-then (inputs_of command) old.load_faults mid.load_faults new.load_faults a.loads
      (among-one (inputs_of command) name mid.load_faults new.load_faults within b.count);
  appends = b.appends ∙ a.appends;
}

module _ {V : Type 0} (command : CommandValue) (old mid new : Folder) (seen : List FileKind) (kind : FileKind) (most : ℕ) (says : List ℕ → Answer V → Type 0)
    (follows : Contents → V → Outcome → Type 0) (name : List ℕ) (input : input_as command kind ≡ Some name) (within : Contains (inputs_of command) name)
    (next : within.0 ≡ length seen)
    (at : IsAt command old mid seen (λ contents. InputGives kind most says (contents kind) (follows contents))) (loads : OnlyLoads name mid new) where
  same-file : (files : Held) → contents_of command files kind ≡ files name
  same-file files = ap (option_and_then files) input

  abbrev read : OnlyReads command old new
  read = reads-on command old mid new name within at.reads (at.count ∙ sym next) loads

  before : (files : Held) → Agrees files old new → Agrees files old mid
  before files agrees = agrees_first files old mid new at.reads.kept loads.kept agrees

  last : (files : Held) → Agrees files old new → Agrees files mid new
  last files agrees = agrees_next files old mid new at.reads.kept loads.kept agrees

  -- the next input was read
  pub reads-next : (v : V) (bytes : List ℕ) → length bytes ≤ most → says bytes (value v) → GaveAll name mid new bytes
      → IsAt command old new (kind ∷ seen) (λ contents. follows contents v)
  reads-next v bytes short said here = record {
    reads = read;
    count = count-more (inputs_of command) name old mid new at.reads.loaded within (at.count ∙ sym next) loads.some at.reads.kept loads.kept
        (length seen) at.count;
    leads = λ files agrees contents agree o gives.
        let is : contents kind ≡ Some bytes = agree.0 ∙ same-file files ∙ here.held files (last files agrees) in
        let answers : FileAnswers most says bytes (value v) = record { text = λ _. said; long = λ over. absurd (omega (arith, short, over)) } in
        at.leads files (before files agrees) contents agree.1 o (subst (λ (content : Option (List ℕ)). InputGives kind most says content (follows contents) o)
        (sym is) (value v, answers, gives));
  }

  -- what the bytes of an input within the limit say so that the run stops with this status
  abbrev Stopping : Contents → List ℕ → Status → Type 0
  Stopping contents bytes s = (answer : Answer V) × says bytes answer × AnswerGives answer (follows contents) (stopped s)

  -- the next input stopped it, or what its value gives did
  pub stops-with : (halts : List ℕ → Status → Type 0) → ((contents : Contents) (bytes : List ℕ) (s : Status) → halts bytes s → Stopping contents bytes s)
      → ((files : Held) → missing kind (contents_of command files) kind ≡ None) →
      ((files : Held) → Agree command files (missing kind (contents_of command files)) seen)
      → (s : Status) → InputStops kind most halts name mid new s → Works command old new (Err (bare s))
  stops-with halts turn gone agree s stop = record { out = by stop; reads = read }
    where
      by : InputStops kind most halts name mid new s → StopsBy command old new (bare s)
      by (inl memory) = inl (ap bare memory)
      by (inr (inl fault)) = inr (inl (
        kind,
        ap bare fault.0,
        record {
          name = name;
          input = input;
          rose = rose-from (old.load_faults name) (mid.load_faults name) (new.load_faults name) (at.reads.loads.not_less name) fault.1;
          no_room = λ some. fault.2 (subst (λ (r : List ℕ → Option ℕ). IsSome (r name)) (sym at.reads.kept.room) some);
          reached = λ files agrees. at.leads files (before files agrees) (missing kind (contents_of command files)) (agree files) (stopped (ReadFault kind))
              (subst (λ (content : Option (List ℕ)). InputGives kind most says content (follows (missing kind (contents_of command files)))
              (stopped (ReadFault kind))) (sym (gone files)) refl);
        },
      ))
      by (inr (inr given)) = inr (inr (
        given.0,
        λ files agrees.
            let h = given.1 files (last files agrees) in
            let is : contents_of command files kind ≡ Some h.bytes = same-file files ∙ h.here in
            at.leads files (before files agrees) (contents_of command files) (agree-own command files seen) (stopped s)
            (subst (λ (content : Option (List ℕ)). InputGives kind most says content (follows (contents_of command files)) (stopped s)) (sym is)
            (given-by files h)),
      ))
        where
          given-by : (files : Held) (h : Halts most halts (files name) s) → InputGives kind most says (Some h.bytes) (follows (contents_of command files))
              (stopped s)
          given-by files h = elim (cases_lt most (length h.bytes)) [
            | inl over ↦ (stops s, record { text = λ short. absurd (omega (arith, short, over)); long = λ more. ap stops (h.long more) }, refl)
            | inr short ↦ (let t = turn (contents_of command files) h.bytes s (h.text short) in
                (t.0, record { text = λ less. t.1; long = λ over. absurd (omega (arith, short, over)) }, t.2))
          ]

  -- the next input stopped it
  pub stops-next : (halts : List ℕ → Status → Type 0) → ((bytes : List ℕ) (s : Status) → halts bytes s → says bytes (stops s))
      → ((files : Held) → missing kind (contents_of command files) kind ≡ None) →
      ((files : Held) → Agree command files (missing kind (contents_of command files)) seen)
      → (s : Status) → InputStops kind most halts name mid new s → Works command old new (Err (bare s))
  stops-next halts turn gone agree s stop = stops-with halts (λ contents bytes status halt. (stops status, turn bytes status halt, refl)) gone agree s stop

-- the kinds of texts are those of outputs
outputs_of-kinds : (command : CommandValue) (texts : List FileText) (kinds : List FileKind) → map (λ t. t.kind) texts ≡ kinds
    → AllByRecursion (λ kind. IsSome (output_as command kind)) kinds → AreOutputs command texts
outputs_of-kinds command texts kinds is all = by texts (subst (λ (ks : List FileKind). AllByRecursion (λ kind. IsSome (output_as command kind)) ks)
    (sym is) all)
  where
    by : (texts : List FileText) → AllByRecursion (λ kind. IsSome (output_as command kind)) (map (λ t. t.kind) texts) → AreOutputs command texts
    by [] all = tt
    by (t ∷ texts) all = (all.0, by texts all.1)

-- all inputs were read, and the work was computed
pub works :
    (command : CommandValue) (old new : Folder) (seen : List FileKind) (rest : Contents → Outcome → Type 0) → IsAt command old new seen rest
    → (kinds : List FileKind) → AllByRecursion (λ kind. IsSome (output_as command kind)) kinds
    → (result : Result Work Stop) → ((files : Held) → IsWork (rest (contents_of command files)) kinds result) → Works command old new result
works command old new seen rest at kinds outputs result is = record { out = by result is; reads = at.reads }
  where
    given : (o : Outcome) → ((files : Held) → rest (contents_of command files) o) → (files : Held) → Agrees files old new → FilesGive command files o
    given o gives files agrees = at.leads files agrees (contents_of command files) (agree-own command files seen) o (gives files)

    none : Held
    none = λ name. None

    by : (result : Result Work Stop) → ((files : Held) → IsWork (rest (contents_of command files)) kinds result) → WorksOut command old new result
    by (Ok work) is = (
      outputs_of-kinds command work.appended.items kinds (let one = is none in one.1) outputs,
      given (done work.printed work.appended.items) (λ files. let one = is files in one.0),
    )
    by (Err stop) is = elim (is none) [
      | inl memory ↦ inl memory
      | inr x ↦ inr (inr (x.0, λ files agrees. stopped-by stop files (is files) x.0 agrees))
    ]
      where
        stopped-by : (stop : Stop) (files : Held) → IsWork (rest (contents_of command files)) kinds (Err stop) → IsStop stop.status → Agrees files old new
            → FilesGive command files (stopped_after (text_before stop) stop.status)
        stopped-by stop files (inl memory) is_stop agrees = absurd (subst (λ (x : Stop). IsStop x.status) memory is_stop)
        stopped-by stop files (inr x) is_stop agrees = at.leads files agrees (contents_of command files) (agree-own command files seen) _ x.1

-- after some inputs it is out of memory
pub no-memory :
    (command : CommandValue) (old new : Folder) (seen : List FileKind) (rest : Contents → Outcome → Type 0) → IsAt command old new seen rest
    → Works command old new (Err (bare Memory))
no-memory command old new seen rest at = record { out = inl refl; reads = at.reads }

-- the log that was read leads to a book
pub book-next :
    (command : CommandValue) (old new : Folder) (seen : List FileKind) (terms : Terms) (events : List Event)
    (follows : Contents → Book → Outcome → Type 0) (book : Book)
    → IsAt command old new seen (λ contents. BookOfLogGives terms events (follows contents)) → end_of terms (reverse events) ≡ Ok book
    → IsAt command old new seen (λ contents. follows contents book)
book-next command old new seen terms events follows book at is = record {
  reads = at.reads;
  count = at.count;
  leads = λ files agrees contents agree o gives.
      at.leads files agrees contents agree o (subst (λ (end : Result Book ReplayStop). EndGives (length events) end (follows contents) o) (sym is) gives);
}

-- why a log leads to no book is a stop that the bytes give
stop-given : (records : ℕ) (why : ReplayStop) → IsStop (replay_status records why)
stop-given records (Rounds count) = tt
stop-given records (Price price) = tt
stop-given records Open = tt

-- the log that was read leads to no book, or it is out of memory
pub book-stops :
    (command : CommandValue) (old new : Folder) (seen : List FileKind) (terms : Terms) (events : List Event)
    (follows : Contents → Book → Outcome → Type 0) (stop : Stop)
    → IsAt command old new seen (λ contents. BookOfLogGives terms events (follows contents)) → HasBook terms events (Err stop)
    → Works command old new (Err stop)
book-stops command old new seen terms events follows stop at (inl memory) = record { out = inl memory; reads = at.reads }
book-stops command old new seen terms events follows stop at (inr (why, is, told)) = record { out = inr (inr (subst Given (sym told) given)); reads = at.reads }
  where
    Given : Stop → Type 0
    Given s = IsStop s.status × ((files : Held) → Agrees files old new → FilesGive command files (stopped_after (text_before s) s.status))

    given : Given (bare (replay_status (length events) why))
    given = (
      stop-given (length events) why,
      λ files agrees. at.leads files agrees (contents_of command files) (agree-own command files seen) (stopped (replay_status (length events) why))
          (subst (λ (end : Result Book ReplayStop). EndGives (length events) end (follows (contents_of command files))
          (stopped (replay_status (length events) why))) (sym is) refl),
    )

-- a missing input is missing
missing-itself : (kind : FileKind) (contents : Contents) → missing kind contents kind ≡ None
missing-itself part.Award contents = refl
missing-itself part.Log contents = refl
missing-itself part.Book contents = refl
missing-itself part.Cert contents = refl
missing-itself part.Weights contents = refl
missing-itself part.Slots contents = refl
missing-itself part.Edits contents = refl
missing-itself part.Out contents = refl

-- and no other that was read before
agree-missing : (command : CommandValue) (files : Held) (kind : FileKind) (seen : List FileKind) → AllByRecursion (λ k. is_kind kind k ≡ false) seen
    → Agree command files (missing kind (contents_of command files)) seen
agree-missing command files kind [] unseen = tt
agree-missing command files kind (k ∷ seen) unseen = (
  ap (λ (same : Bool). if same then None else contents_of command files k) unseen.0,
  agree-missing command files kind seen unseen.1,
)

-- an input is the next one, and the only one that is left, and this is its work, or its stop
module _ (command : CommandValue) (old mid new : Folder) (seen : List FileKind) (kind : FileKind) (name : List ℕ)
    (gives : Option (List ℕ) → Outcome → Type 0) (next : IsNext command seen kind name)
    (at : IsAt command old mid seen (λ contents. gives (contents kind))) (missed : gives None (stopped (ReadFault kind))) where
  -- what the file gives, the command gives
  turn-given : (loads : OnlyLoads name mid new) (o : Outcome) → ((files : Held) → Agrees files mid new → gives (files name) o)
      → (files : Held) → Agrees files old new → FilesGive command files o
  turn-given loads o given files agrees =
      at.leads files (agrees_first files old mid new at.reads.kept loads.kept agrees) (contents_of command files) (agree-own command files seen) o
      (subst (λ (content : Option (List ℕ)). gives content o) (sym (ap (option_and_then files) next.input))
      (given files (agrees_next files old mid new at.reads.kept loads.kept agrees)))

  -- a load of it failed
  turn-fault : (loads : OnlyLoads name mid new) → Rose (mid.load_faults name) (new.load_faults name) → (IsSome (mid.room name) → ⊥)
      → FailsToRead command old new kind
  turn-fault loads rose no_room = record {
    name = name;
    input = next.input;
    rose = rose-from (old.load_faults name) (mid.load_faults name) (new.load_faults name) (at.reads.loads.not_less name) rose;
    no_room = λ some. no_room (subst (λ (r : List ℕ → Option ℕ). IsSome (r name)) (sym at.reads.kept.room) some);
    reached = λ files agrees.
        at.leads files (agrees_first files old mid new at.reads.kept loads.kept agrees) (missing kind (contents_of command files))
        (agree-missing command files kind seen next.unseen) (stopped (ReadFault kind))
        (subst (λ (content : Option (List ℕ)). gives content (stopped (ReadFault kind))) (sym (missing-itself kind (contents_of command files))) missed);
  }

  pub works-from : (result : Result Work Stop) → WorksFrom kind name gives mid new result → Works command old new result
  works-from result works = record {
    out = by result works.out;
    reads = reads-on command old mid new name next.within at.reads
        (at.count ∙ sym next.place) works.loads;
  }
    where
      by : (result : Result Work Stop) → GivesFrom kind name gives mid new result → WorksOut command old new result
      by (Ok work) (none, given) = (
        outputs_of-kinds command work.appended.items [] none tt,
        turn-given works.loads (done work.printed work.appended.items) given,
      )
      by (Err stop) (inl memory) = inl memory
      by (Err stop) (inr (inl (fault, rose, no_room))) = inr (inl (kind, fault, turn-fault works.loads rose no_room))
      by (Err stop) (inr (inr (is_stop, given))) = inr (inr (is_stop, turn-given works.loads (stopped_after (text_before stop) stop.status) given))

-- an award is the first input, a log the second, and what is left follows for the book of the log
module _ (command : CommandValue) (follows : Contents → Book → Outcome → Type 0) (award log : List ℕ) (old : Folder)
    (first : IsNext command [] part.Award award) (second : IsNext command (part.Award ∷ []) part.Log log)
    (gives : IsAt command old old [] (λ contents. AwardGives (contents part.Award) (λ t. LogGives t (contents part.Log) (λ events. BookOfLogGives t events
    (follows contents))))) where
  -- what is left after the award
  abbrev Behind : Terms → Contents → Outcome → Type 0
  Behind t contents = LogGives t (contents part.Log) (λ events. BookOfLogGives t events (follows contents))

  -- what is left after the log
  abbrev Ends : Terms → List Event → Contents → Outcome → Type 0
  Ends t events contents = BookOfLogGives t events (follows contents)

  -- the award was read
  at-award : (mid : Folder) (t : Terms) → AwardIsRead award old mid t → IsAt command old mid (part.Award ∷ []) (Behind t)
  at-award mid t a =
      reads-next command old old mid [] part.Award AWARD_BYTES AwardAnswers (λ contents t. Behind t contents) award first.input first.within first.place gives
      a.loads
      t a.value.bytes a.value.short a.value.says a.value.here

  -- the log was read
  at-log : (new : Folder) (t : Terms) (events : List Event) → LogIsRead award log old new t events → IsAt command old new (part.Log ∷ part.Award ∷ [])
      (Ends t events)
  at-log new t events l =
      reads-next command old l.mid new (part.Award ∷ []) part.Log LOG_BYTES (LogAnswers t) (λ contents events. Ends t events contents) log
      second.input second.within second.place (at-award l.mid t l.first) l.loads events l.value.bytes l.value.short l.value.says l.value.here

  -- they led to a book
  pub logged-at : (new : Folder) (book : Book) → HasLogged award log old new (Ok book) → IsAt command old new (part.Log ∷ part.Award ∷ [])
      (λ contents. follows contents book)
  logged-at new book (t, events, read, leads) = book-next command old new (part.Log ∷ part.Award ∷ []) t events follows book (at-log new t events read) leads

  -- the award stopped the run
  award-stops : (new : Folder) (stop : Stop) → StopsAtAward award old new stop → Works command old new (Err stop)
  award-stops new stop s =
      subst (λ (x : Stop). Works command old new (Err x)) (sym s.is)
      (stops-next command old old new [] part.Award AWARD_BYTES AwardAnswers (λ contents t. Behind t contents) award first.input first.within first.place
      gives s.loads
      (λ bytes status. AwardAnswers bytes (stops status)) (λ bytes status x. x) (λ files. missing-itself part.Award (contents_of command files))
      (λ files. tt) s.status s.why)

  -- the log stopped the run
  log-stops : (new : Folder) (stop : Stop) → StopsAtLog award log old new stop → Works command old new (Err stop)
  log-stops new stop s =
      subst (λ (x : Stop). Works command old new (Err x)) (sym s.is)
      (stops-next command old s.mid new (part.Award ∷ []) part.Log LOG_BYTES (LogAnswers s.terms) (λ contents events. Ends s.terms events contents) log
      second.input second.within second.place (at-award s.mid s.terms s.first) s.loads
      (λ bytes status. LogAnswers s.terms bytes (stops status)) (λ bytes status x. x) (λ files. missing-itself part.Log (contents_of command files))
      (λ files. agree-missing command files part.Log (part.Award ∷ []) second.unseen) s.status s.why)

  -- they led to no book
  pub logged-stops : (new : Folder) (stop : Stop) → HasLogged award log old new (Err stop) → Works command old new (Err stop)
  logged-stops new stop (inl s) = award-stops new stop s
  logged-stops new stop (inr (inl s)) = log-stops new stop s
  logged-stops new stop (inr (inr (t, events, read, has))) = book-stops command old new (part.Log ∷ part.Award ∷ []) t events follows stop
      (at-log new t events read) has

-- an award and its log were read, and this is what they lead to
pub has-logged : (award log : List ℕ) (old new : Folder) (t : Terms) (events : List Event) → LogIsRead award log old new t events
    → (result : Result Book Stop) → HasBook t events result → HasLogged award log old new result
has-logged award log old new t events read (Ok book) has = (t, events, read, has)
has-logged award log old new t events read (Err stop) has = inr (inr (t, events, read, has))

-- no file changed as they were read
pub logged-kept : (award log : List ℕ) (old new : Folder) (book : Book) → HasLogged award log old new (Ok book) → KeepsFiles old new
logged-kept award log old new book (t, events, read, leads) = keeps_more old read.mid new read.first.loads.kept read.loads.kept
