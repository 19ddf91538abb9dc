-- A certificate that is fed to a checker piece by piece.
use Rattle.std.proofs.Common.{List, [], arith, inl, inr, length, length-append, length-take, refl, subst, sym, take, ℕ, ℤ, ◌++◌, ◌+◌, ◌-◌, ◌<◌, ◌∙◌}
use Rattle.std.proofs.Common.{◌∷◌, ◌≡◌, ◌≤◌}
use Rattle.std.specs.Prelude.{IfErr, IfOk, IsSome, Result, Ok, Err}
use Rattle.limits.specs.declared.TheConstants.{CERT_BYTES}
use Rattle.line_format.specs.LineText.{Said, beyond, faulty, stated}
use Rattle.auction_model.specs.Book.{Book as BookValue}
use Rattle.auction_model.specs.Prices.{weight_of}
use Rattle.cca_base.specs.Files.{Folder, GaveMore, GaveSome, KeepsFiles}
use Rattle.cca_base.proofs.Given.{GaveFront, front_all, front_more, front_next, front_none, front_over, next_load}
use Rattle.cert_grammar.specs.Certificate.{CertValue}
use Rattle.cert_grammar.specs.Says.{CertSays}
use Rattle.cert_soundness.specs.Sound.{IsSound}
use Rattle.cert_soundness.specs.Tests.{FailsFirst, Holds, bidders_of, states}
use Rattle.cert_check.specs.Verdicts.{IsVerdict}
use Rattle.cert_check.specs.declared.verdict.Verdict.{Verdict}
use Rattle.cert_check.specs.declared.verdict.Verdict.TheVariants as verdict
use Rattle.cert_summary.specs.Facts.{AreFacts}
use Rattle.cert_summary.specs.declared.shown.CertFacts.{CertFacts}
use Rattle.cert_stream.specs.Stops.{SaysStop}
use Rattle.cert_stream.specs.declared.stop.TextStop.{TextStop}
use Rattle.cert_stream.specs.declared.stop.TextStop.TheVariants as text
use Rattle.stream_check.specs.Standing.{HasTaken}
use Rattle.stream_check.specs.declared.check.StreamCheck.{StreamCheck}
use Rattle.cca_cli.specs.Answers.{CertAnswers}
use Rattle.cca_commands.specs.Checked.{IsFed, IsFoundRight, IsJudged, PassesTests, ShowsFacts, StopsCheck, feed_status, text_status}
use Rattle.cca_cli.specs.Outcome.{stops}
use Rattle.cca_cli.specs.Reading.{InputStops, IsRead, IsStop}
use Rattle.cca_cli.specs.declared.status.CertKind.TheVariants as certs
use Rattle.cca_cli.specs.declared.status.FileKind.TheVariants.{Cert}
use Rattle.cca_cli.specs.declared.status.Status.{Status}
use Rattle.cca_cli.specs.declared.status.Status.TheVariants.{Memory, No}
use Rattle.cca_base.specs.Faults.{Rose}
use Rattle.cca_base.specs.declared.read.ReadStop.TheVariants as read
use Rattle.cca_cli.proofs.ReadStops.{stops-read}
use Rattle.cca_commands.specs.declared.checked.FeedStop.{FeedStop}
use Rattle.cca_commands.specs.declared.checked.FeedStop.TheVariants as feed

-- The checker stands for the bytes that have come, which the loads in between gave of the file from its start.
pub record IsFedSoFar (book : BookValue) (weights name : List ℕ) (old now : Folder) (room : List ℤ) (checker : StreamCheck) (at : ℕ) : Type 0 where
  -- the bytes that have come
  pub text : List ℕ
  -- they are as many as were counted
  pub long : length text ≡ at
  -- the checker stands for them
  pub stands : HasTaken checker room text
  -- they are what was given
  pub front : GaveFront name old now text
  -- the checker tests by this book
  pub book_is : checker.book.now ≡ book
  -- and with these weights
  pub weights_are : checker.weights.now ≡ weights

-- at first nothing has come
pub begins-fed : (book : BookValue) (weights name : List ℕ) (old : Folder) (room : List ℤ) (checker : StreamCheck) → HasTaken checker room []
    → checker.book.now ≡ book → checker.weights.now ≡ weights → IsFedSoFar book weights name old old room checker 0
begins-fed book weights name old room checker stands book_is weights_are = record {
  text = [];
  long = refl;
  stands = stands;
  front = front_none name old;
  book_is = book_is;
  weights_are = weights_are;
}

module _ (book : BookValue) (weights name : List ℕ) (old mid new : Folder) (room : List ℤ) (checker : StreamCheck) (at : ℕ)
    (s : IsFedSoFar book weights name old mid room checker at)
    (size : ℕ) (buffer : List ℕ) (n : ℕ) (le : n ≤ length buffer) (kept : KeepsFiles mid new) (gave : new.gave ≡ next_load name at size buffer n ∷ mid.gave)
  where
    -- the same after as many bytes as have come
    behind-text : new.gave ≡ next_load name (length s.text) size buffer n ∷ mid.gave
    behind-text = subst (λ (k : ℕ). new.gave ≡ next_load name k size buffer n ∷ mid.gave) (sym s.long) gave

    -- one more piece was fed
    pub fed-more : (room2 : List ℤ) (checker2 : StreamCheck) → 0 < n → ((t : List ℕ) → HasTaken checker room t → HasTaken checker2 room2 (t ++ take n buffer))
        → checker2.book.now ≡ checker.book.now → checker2.weights.now ≡ checker.weights.now → IsFedSoFar book weights name old new room2 checker2 (at + n)
    fed-more room2 checker2 some feeds same_book same_weights = record {
      text = s.text ++ take n buffer;
      long = let l = s.long in omega (arith, length-append s.text (take n buffer), length-take n buffer, le, l);
      stands = feeds s.text s.stands;
      front = front_more name old mid new s.text buffer size n le s.front kept behind-text some;
      book_is = same_book ∙ s.book_is;
      weights_are = same_weights ∙ s.weights_are;
    }

    -- no byte came although there was room for some: that was the whole file
    pub fed-whole : n ≡ 0 → 0 < size → at ≤ CERT_BYTES → IsFed book weights name old new room checker
    fed-whole none some short = record {
      text = s.text;
      short = let l = s.long in omega (arith, l, short);
      stands = s.stands;
      here = front_all name old mid new s.text buffer size n le s.front kept behind-text none some;
      book_is = s.book_is;
      weights_are = s.weights_are;
    }

    -- with one more load, whatever it gave, some bytes of the name hold what was given
    pub fed-some : GaveSome name old new
    fed-some = front_next name old mid new s.text buffer size n le s.front kept behind-text

    -- more bytes came than a certificate may have
    pub fed-over : at ≤ CERT_BYTES → CERT_BYTES - at < n → GaveMore name old new CERT_BYTES
    fed-over within over =
        let l = s.long in
        front_over name old mid new s.text buffer size n le s.front kept behind-text CERT_BYTES (omega (arith, l, within)) (omega (arith, l, over))

-- the stop of a text is what its bytes answer
pub text-stop : (b : BookValue) (bytes : List ℕ) (stop : TextStop) → SaysStop (bidders_of b) (states b) bytes stop
    → IsStop (text_status stop) × CertAnswers b bytes (stops (text_status stop))
text-stop b bytes (text.Form place) says = (tt, (faulty place, says, refl))
text-stop b bytes (text.Range place) says = (tt, (beyond place, says, refl))

-- such a stop stops the check
pub text-stopped : (b : BookValue) (weights bytes : List ℕ) (stop : TextStop) → SaysStop (bidders_of b) (states b) bytes stop
    → IsStop (text_status stop) × StopsCheck b weights bytes (text_status stop)
text-stopped b weights bytes stop says = let s = text-stop b bytes stop says in (s.0, inl s.1)

-- bytes state one certificate
abbrev pub OneCert : Type 0
OneCert = (bidders states : ℕ) (bytes : List ℕ) (x y : Said CertValue ℕ) → CertSays bidders states bytes x → CertSays bidders states bytes y → x ≡ y

-- the facts are those of the certificate that was tested
pub shows : OneCert → (b : BookValue) (weights bytes : List ℕ) (c d : CertValue) (facts : CertFacts) → CertSays (bidders_of b) (states b) bytes (stated c)
    → Holds b (weight_of weights) c
    → IsSound b (weight_of weights) c → CertSays (bidders_of b) (states b) bytes (stated d) → AreFacts b d facts → ShowsFacts b weights bytes facts
shows one b weights bytes c d facts says holds sound said are =
    let e : stated d ≡ stated c = one (bidders_of b) (states b) bytes (stated d) (stated c) said says in
    let same : d ≡ c = cc in
    (c, (stated c, says, refl), holds, sound, subst (λ (x : CertValue). AreFacts b x facts) same are)

-- what a checker says of bytes that are a certificate
abbrev pub Judges : BookValue → List ℕ → List ℕ → Verdict → Type 0
Judges b weights bytes v =
    (c : CertValue) × CertSays (bidders_of b) (states b) bytes (stated c) × IsVerdict b (weight_of weights) c v
    × (v ≡ verdict.Yes → IsSound b (weight_of weights) c)

-- the first test that fails for the certificate that the bytes state
fails : (b : BookValue) (weights bytes : List ℕ) (c : CertValue) (test place : ℕ) → CertSays (bidders_of b) (states b) bytes (stated c)
    → FailsFirst b (weight_of weights) c test place
    → StopsCheck b weights bytes (No certs.Book test place)
fails b weights bytes c test place says first = inr (c, (stated c, says, refl), (test, place, first, refl))

-- it says yes
pub judged-yes : (b : BookValue) (weights bytes : List ℕ) (v : Verdict) → v ≡ verdict.Yes → Judges b weights bytes v → PassesTests b weights bytes
judged-yes b weights bytes v is said = (said.0, said.1, subst (IsVerdict b (weight_of weights) said.0) is said.2, said.3 is)

-- the facts of a certificate for which all tests pass
pub judged-shown : OneCert → (b : BookValue) (weights bytes : List ℕ) (facts : CertFacts) → PassesTests b weights bytes
    → (d : CertValue) × CertSays (bidders_of b) (states b) bytes (stated d) × AreFacts b d facts → ShowsFacts b weights bytes facts
judged-shown one b weights bytes facts passes are = shows one b weights bytes passes.0 are.0 facts passes.1 passes.2 passes.3 are.1 are.2

-- it says no
pub judged-no : (b : BookValue) (weights bytes : List ℕ) (v : Verdict) (test place : ℕ) → v ≡ verdict.No test place → Judges b weights bytes v
    → StopsCheck b weights bytes (No certs.Book test place)
judged-no b weights bytes v test place is said = fails b weights bytes said.0 test place said.1 (subst (IsVerdict b (weight_of weights) said.0) is said.2)

-- what the checker answers to which the file was fed is stated about the file
judged-of :
    (b : BookValue) (weights name : List ℕ) (old new : Folder) (room room2 : List ℤ) (k : StreamCheck) (r : Result CertFacts Status)
    (f : IsFed b weights name old new room k) → room2 ≡ room
    → ((text : List ℕ) → HasTaken k room2 text → IsJudged k.book.now k.weights.now text r) → IsJudged b weights f.text r
judged-of b weights name old new room room2 k r f same judges =
    subst (λ (x : BookValue). IsJudged x weights f.text r) f.book_is
    (subst (λ (w : List ℕ). IsJudged k.book.now w f.text r) f.weights_are (judges f.text (subst (λ (x : List ℤ). HasTaken k x f.text) (sym same) f.stands)))

-- its facts are those that the file shows
pub judged-value :
    (b : BookValue) (weights name : List ℕ) (old new : Folder) (room room2 : List ℤ) (k : StreamCheck) (r : Result CertFacts Status)
    → IsFed b weights name old new room k → room2 ≡ room
    → ((text : List ℕ) → HasTaken k room2 text → IsJudged k.book.now k.weights.now text r) → IfOk r (IsRead CERT_BYTES (ShowsFacts b weights) name old new)
judged-value b weights name old new room room2 k (Ok facts) f same judges = record {
  bytes = f.text;
  short = f.short;
  says = judged-of b weights name old new room room2 k (Ok facts) f same judges;
  here = f.here;
}
judged-value b weights name old new room room2 k (Err status) f same judges = tt

-- its status is one by which the file stops the run
pub judged-stop :
    (b : BookValue) (weights name : List ℕ) (old new : Folder) (room room2 : List ℤ) (k : StreamCheck) (r : Result CertFacts Status)
    → IsFed b weights name old new room k → room2 ≡ room → ((text : List ℕ) → HasTaken k room2 text → IsJudged k.book.now k.weights.now text r)
    → IfErr r (InputStops Cert CERT_BYTES (StopsCheck b weights) name old new)
judged-stop b weights name old new room room2 k (Ok facts) f same judges = tt
judged-stop b weights name old new room room2 k (Err status) f same judges =
    elim (judged-of b weights name old new room room2 k (Err status) f same judges) [
      | inl memory ↦ inl memory
      | inr stop ↦ inr (inr (
        stop.0,
        λ files agrees. record {
          bytes = f.text;
          here = f.here.held files agrees;
          text = λ short. stop.1;
          long =
              λ more. absurd (let short = f.short in omega (arith, short, more));
        },
      ))
    ]

-- out of memory comes only where the file is a certificate for which all tests pass
pub judged-memory :
    (b : BookValue) (weights name : List ℕ) (old new : Folder) (room room2 : List ℤ) (k : StreamCheck) (f : IsFed b weights name old new room k)
    → room2 ≡ room → ((text : List ℕ) → HasTaken k room2 text → PassesTests k.book.now k.weights.now text) → IsFoundRight b weights name old new
judged-memory b weights name old new room room2 k f same passes = record {
  text = f.text;
  here = f.here;
  passes = subst (λ (x : BookValue). PassesTests x weights f.text) f.book_is
      (subst (λ (w : List ℕ). PassesTests k.book.now w f.text) f.weights_are (passes f.text (subst (λ (x : List ℤ). HasTaken k x f.text) (sym same) f.stands)));
}

-- the file wasn't fed whole
pub stops-feed :
    (halts : List ℕ → Status → Type 0) (name : List ℕ) (old new : Folder) (stop : FeedStop)
    → (stop ≡ feed.Fault → Rose (old.load_faults name) (new.load_faults name))
    → (IsSome (old.room name) → stop ≡ feed.Fault → ⊥) → (stop ≡ feed.TooLong → GaveMore name old new CERT_BYTES)
    → InputStops Cert CERT_BYTES halts name old new (feed_status stop)
stops-feed halts name old new feed.Fault fault none long =
    stops-read Cert CERT_BYTES halts name old new read.Fault (λ e. fault refl) (λ some e. none some refl)
    (λ e. let no : read.Fault ≡ read.TooLong = e in absurd cc)
stops-feed halts name old new feed.TooLong fault none long =
    stops-read Cert CERT_BYTES halts name old new read.TooLong (λ e. let no : read.TooLong ≡ read.Fault = e in absurd cc)
    (λ some e. let no : read.TooLong ≡ read.Fault = e in cc) (λ e. long refl)

-- and never when out of memory
pub feed-memory : (stop : FeedStop) → feed_status stop ≡ Memory → ⊥
feed-memory feed.Fault is = cc
feed-memory feed.TooLong is = cc
