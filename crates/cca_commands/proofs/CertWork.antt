-- The work that the file of a certificate gives.
use Rattle.std.proofs.Common.{inl, inr, ◌≡◌, ℕ, ◌≤◌, Option, List, [], length, refl, sym, ap, subst, arith}
use Rattle.std.specs.Prelude.{Result, Ok, Err}
use Rattle.std.proofs.lemmas.Bool.{cases_lt}
use Rattle.auction_model.specs.Book.{Book}
use Rattle.limits.specs.declared.TheConstants.{CERT_BYTES}
use Rattle.cca_base.specs.Files.{Agrees, Folder, GaveAll}
use Rattle.cert_grammar.specs.Certificate.{CertValue}
use Rattle.cca_cli.specs.Answers.{CertAnswers}
use Rattle.cca_cli.specs.Outcome.{Answer, AnswerGives, FileAnswers, Outcome, done, stopped, stopped_after, stops, value}
use Rattle.cca_cli.specs.Reading.{Halts, InputStops, OnlyLoads}
use Rattle.cca_cli.specs.declared.status.FileKind.TheVariants.{Cert}
use Rattle.cca_cli.specs.declared.status.Status.{Status}
use Rattle.cca_commands.specs.Checked.{StopsCheck}
use Rattle.cca_commands.specs.Gives.{CertGives, VerdictGives}
use Rattle.cca_commands.specs.Works.{CertWorks, GivesFrom, IsWork, StopsFrom, bare, text_before}
use Rattle.cca_commands.specs.declared.work.Stop.{Stop}
use Rattle.cca_commands.specs.declared.work.Work.{Work}

-- a certificate that was checked from its file stopped it
check-turn : (book : Book) (weights bytes : List ℕ) (s : Status) → StopsCheck book weights bytes s
    → (answer : Answer CertValue) × CertAnswers book bytes answer × AnswerGives answer (VerdictGives book weights) (stopped s)
check-turn book weights bytes s (inl says) = (stops s, says, refl)
check-turn book weights bytes s (inr (c, says, (test, place, first, is))) = (value c, says, inr (test, place, first, ap stopped is))

module _ (book : Book) (weights name : List ℕ) (old new : Folder) (loads : OnlyLoads name old new) where
  -- what its bytes give
  abbrev Given : Option (List ℕ) → Outcome → Type 0
  Given content = CertGives book content (VerdictGives book weights)

  given-by : (file : Option (List ℕ)) (s : Status) → Halts CERT_BYTES (StopsCheck book weights) file s → Given file (stopped s)
  given-by file s h = subst (λ (content : Option (List ℕ)). Given content (stopped s)) (sym h.here) (elim (cases_lt CERT_BYTES (length h.bytes)) [
    | inl over ↦ (stops s, record { text = λ short. absurd (omega (arith, short, over)); long = λ more. ap stops (h.long more) }, refl)
    | inr short ↦ (let t = check-turn book weights h.bytes s (h.text short) in (
      t.0,
      record { text = λ less. t.1; long = λ over. absurd (omega (arith, short, over)) },
      t.2,
    ))
  ])

  -- it stopped the run
  pub cert-stops : (s : Status) → InputStops Cert CERT_BYTES (StopsCheck book weights) name old new s → CertWorks book weights name old new (Err (bare s))
  cert-stops s stop = record { out = by stop; loads = loads }
    where
      by : InputStops Cert CERT_BYTES (StopsCheck book weights) name old new s → StopsFrom Cert name Given old new (bare s)
      by (inl memory) = inl (ap bare memory)
      by (inr (inl (fault, rose, no_room))) = inr (inl (ap bare fault, rose, no_room))
      by (inr (inr (is_stop, halts))) = inr (inr (is_stop, λ files agrees. given-by (files name) s (halts files agrees)))

  -- all its tests hold, and this is the work
  pub cert-works : (c : CertValue) (bytes : List ℕ) → length bytes ≤ CERT_BYTES → CertAnswers book bytes (value c) → GaveAll name old new bytes
      → (result : Result Work Stop) → IsWork (VerdictGives book weights c) [] result → CertWorks book weights name old new result
  cert-works c bytes short says here result is = record { out = by result is; loads = loads }
    where
      answers : FileAnswers CERT_BYTES (CertAnswers book) bytes (value c)
      answers = record { text = λ _. says; long = λ over. absurd (omega (arith, short, over)) }

      given : (o : Outcome) → VerdictGives book weights c o → (files : List ℕ → Option (List ℕ)) → Agrees files old new → Given (files name) o
      given o gives files agrees = subst (λ (content : Option (List ℕ)). Given content o) (sym (here.held files agrees)) (value c, answers, gives)

      by : (result : Result Work Stop) → IsWork (VerdictGives book weights c) [] result → GivesFrom Cert name Given old new result
      by (Ok work) (gives, none) = (none, given (done work.printed work.appended.items) gives)
      by (Err stop) (inl memory) = inl memory
      by (Err stop) (inr (is_stop, gives)) = inr (inr (is_stop, given (stopped_after (text_before stop) stop.status) gives))

-- by weights that are the same
pub same-weights : (book : Book) (weights others name : List ℕ) (old new : Folder) (result : Result Work Stop) → weights ≡ others
    → CertWorks book weights name old new result → CertWorks book others name old new result
same-weights book weights others name old new result same works = subst (λ (w : List ℕ). CertWorks book w name old new result) same works
