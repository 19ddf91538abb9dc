-- What a checker prints begins with `yes` only if it accepts.
use Rattle.std.proofs.Common.{Err, List, None, Ok, Option, Result, Some, [], ap, arith, inl, inr, length, refl, reverse, subst, suc, sym, take, zero}
use Rattle.std.proofs.Common.{ℕ, ◌++◌, ◌∙◌, ◌∷◌, ◌≡◌, ◌⊎◌}
use Rattle.std.specs.Prelude.{codes}
use Rattle.std.proofs.lemmas.List.{append_cancel_left, take_all}
use Rattle.auction_model.specs.Book.{Book}
use Rattle.auction_rules.specs.Terms.{Terms}
use Rattle.auction_rules.specs.declared.Event.{Event}
use Rattle.cca_base.specs.Files.{Agrees, Folder}
use Rattle.cca_base.specs.Sink.{Output, Puts}
use Rattle.cert_grammar.specs.Certificate.{CertValue}
use Rattle.cca_cli.specs.Command.{CommandValue, audit, check, place_check, weigh_check}
use Rattle.cca_cli.specs.Outcome.{Answer, AnswerGives, InputGives, Outcome, stops, value}
use Rattle.cca_cli.specs.StatusLine.{status_line}
use Rattle.cca_cli.specs.Statuses.{IsDecided, IsHindered}
use Rattle.cca_cli.specs.declared.status.CertKind.TheVariants as certs
use Rattle.cca_cli.specs.declared.status.FileKind.{FileKind}
use Rattle.cca_cli.specs.declared.status.FileKind.TheVariants as kinds
use Rattle.cca_cli.specs.declared.status.Status.{Status}
use Rattle.cca_cli.specs.declared.status.Status.TheVariants.{Done, Limit, Memory, No, ReadFault, Refused, Words, WriteFault}
use Rattle.log_replay.specs.ReplyLines.{end_of}
use Rattle.log_replay.specs.declared.results.ReplayStop.{ReplayStop}
use Rattle.cca_cli.specs.Answers.{CertAnswers, PlaceCertAnswers}
use Rattle.limits.specs.declared.TheConstants.{CERT_BYTES}
use Rattle.cca_commands.specs.Gives.{CertGives, EndGives, FilesGive, PlaceVerdictGives, VerdictGives, WordsGive, ones, replay_status}
use Rattle.cert_grammar.specs.PlaceCert.{PlaceCertValue}
use Rattle.slot_places.specs.Slots.{SlotList}
use Rattle.cca_run.specs.Ends.{RunEnds}
use Rattle.cca_run.specs.Run.{Appended, IsHindrance}

abbrev first : List ℕ → ℕ
first [] = 0
first (x ∷ xs) = x

not-0 : ◌≡◌ {A = ℕ} 0 121 → ⊥
not-0 e = absurd (omega arith)

not-n : ◌≡◌ {A = ℕ} 110 121 → ⊥
not-n e = absurd (omega arith)

not-c : ◌≡◌ {A = ℕ} 99 121 → ⊥
not-c e = absurd (omega arith)

-- no line of a status begins so
no-yes : (s : Status) (n : ℕ) (more : List ℕ) → take n (status_line s) ≡ codes "yes" ++ more → ⊥
no-yes s zero more is = not-0 (ap first is)
no-yes Done (suc n) more is = not-0 (ap first is)
no-yes (No kind test place) (suc n) more is = not-n (ap first is)
no-yes Words (suc n) more is = not-c (ap first is)
no-yes (Refused file place entry) (suc n) more is = not-c (ap first is)
no-yes (ReadFault file) (suc n) more is = not-c (ap first is)
no-yes (WriteFault file) (suc n) more is = not-c (ap first is)
no-yes Memory (suc n) more is = not-c (ap first is)
no-yes (Limit which count) (suc n) more is = not-c (ap first is)

abbrev pub IsDoneOrLine : Outcome → Type 0
IsDoneOrLine o = (o.status ≡ Done) ⊎ ((s : Status) × (o.printed ≡ status_line s))

answer-or-line : {V : Type 0} (a : Answer V) (follows : V → Outcome → Type 0) (o : Outcome) → ((v : V) → follows v o → IsDoneOrLine o)
    → AnswerGives a follows o → IsDoneOrLine o
answer-or-line (value v) follows o next gives = next v gives
answer-or-line (stops s) follows o next gives = inr (s, ap (λ (x : Outcome). x.printed) gives)

input-or-line : {V : Type 0} (kind : FileKind) (most : ℕ) (says : List ℕ → Answer V → Type 0) (content : Option (List ℕ))
    (follows : V → Outcome → Type 0) (o : Outcome) → ((v : V) → follows v o → IsDoneOrLine o)
    → InputGives kind most says content follows o → IsDoneOrLine o
input-or-line kind most says None follows o next gives = inr (ReadFault kind, ap (λ (x : Outcome). x.printed) gives)
input-or-line kind most says (Some bytes) follows o next (answer, by, gives) = answer-or-line answer follows o next gives

end-or-line : (records : ℕ) (r : Result Book ReplayStop) (follows : Book → Outcome → Type 0) (o : Outcome)
    → ((b : Book) → follows b o → IsDoneOrLine o) → EndGives records r follows o → IsDoneOrLine o
end-or-line records (Ok b) follows o next gives = next b gives
end-or-line records (Err why) follows o next gives = inr (replay_status records why, ap (λ (x : Outcome). x.printed) gives)

verdict-or-line : (b : Book) (weights : List ℕ) (c : CertValue) (o : Outcome) → VerdictGives b weights c o → IsDoneOrLine o
verdict-or-line b weights c o (inl holds) = inl (ap (λ (x : Outcome). x.status) holds.2.2)
verdict-or-line b weights c o (inr fails) = inr (No certs.Book fails.0 fails.1, ap (λ (x : Outcome). x.printed) fails.3)

place-verdict-or-line : (slots : SlotList) (p : PlaceCertValue) (o : Outcome) → PlaceVerdictGives slots p o → IsDoneOrLine o
place-verdict-or-line slots p o (inl holds) = inl (ap (λ (x : Outcome). x.status) holds.2.2)
place-verdict-or-line slots p o (inr fails) = inr (No certs.Placement fails.0 fails.1, ap (λ (x : Outcome). x.printed) fails.3)

cert-or-line : (b : Book) (weights : List ℕ) (content : Option (List ℕ)) (o : Outcome) → CertGives b content (VerdictGives b weights) o → IsDoneOrLine o
cert-or-line b weights content o gives =
    input-or-line kinds.Cert CERT_BYTES (CertAnswers b) content (VerdictGives b weights) o (λ c g. verdict-or-line b weights c o g) gives

pub audit-or-line : (terms log cert : List ℕ) (file : List ℕ → Option (List ℕ)) (o : Outcome) → FilesGive (audit terms log cert) file o → IsDoneOrLine o
audit-or-line terms log cert file o gives =
    input-or-line _ _ _ _ _ o
    (λ t g1. input-or-line _ _ _ _ _ o
    (λ events g2. end-or-line (length events) (end_of t (reverse events))
    (λ b. CertGives b (file cert) (VerdictGives b (ones b))) o
    (λ b g3. cert-or-line b (ones b) (file cert) o g3) g2) g1) gives

pub check-or-line : (book cert : List ℕ) (file : List ℕ → Option (List ℕ)) (o : Outcome) → FilesGive (check book cert) file o → IsDoneOrLine o
check-or-line book cert file o gives = input-or-line _ _ _ _ _ o (λ b g. cert-or-line b (ones b) (file cert) o g) gives

pub weigh-check-or-line : (book weights cert : List ℕ) (file : List ℕ → Option (List ℕ)) (o : Outcome) → FilesGive (weigh_check book weights cert) file o
    → IsDoneOrLine o
weigh-check-or-line book weights cert file o gives =
    input-or-line _ _ _ _ _ o (λ b g1. input-or-line _ _ _ _ _ o (λ w g2. cert-or-line b w (file cert) o g2) g1) gives

pub place-check-or-line : (slots cert : List ℕ) (file : List ℕ → Option (List ℕ)) (o : Outcome) → FilesGive (place_check slots cert) file o → IsDoneOrLine o
place-check-or-line slots cert file o gives =
    input-or-line _ _ _ _ _ o
    (λ s g1. input-or-line kinds.Cert CERT_BYTES (PlaceCertAnswers (length s.bidders)) (file cert) (PlaceVerdictGives s) o
    (λ p g2. place-verdict-or-line s p o g2) g1) gives

-- what was added is what was put
put-is : (before now : Output) (text : List ℕ) (n : ℕ) (more : List ℕ) → Puts before now text n → now.bytes ≡ before.bytes ++ more → take n text ≡ more
put-is before now text n more puts is = append_cancel_left before.bytes (take n text) more (sym puts.bytes ∙ is)

-- of a text that is so this prefix was printed
abbrev pub IsSeen : (List ℕ → Type 0) → List ℕ → Type 0
IsSeen P seen = (text : List ℕ) × P text × ((n : ℕ) × (seen ≡ take n text))

module _ (c : CommandValue) (given : List ℕ → Option (List ℕ)) (P : List ℕ → Type 0)
    (law : (o : Outcome) → FilesGive c given o → o.status ≡ Done → P o.printed)
    (lines : (o : Outcome) → FilesGive c given o → IsDoneOrLine o) where
  of-outcome : (o : Outcome) (n : ℕ) (more : List ℕ) → FilesGive c given o → take n o.printed ≡ codes "yes" ++ more → IsSeen P (codes "yes" ++ more)
  of-outcome o n more gives is = by (lines o gives)
    where
      by : IsDoneOrLine o → IsSeen P (codes "yes" ++ more)
      by (inl done) = (o.printed, law o gives done, (n, sym is))
      by (inr (s, line)) = absurd (no-yes s n more (ap (λ (t : List ℕ). take n t) (sym line) ∙ is))

  -- whatever the status, if what was printed begins with `yes`
  pub seen-yes : (command : Option CommandValue) (old new : Folder) (before now : Output) (result : Status) → RunEnds command old new before now result
      → command ≡ Some c → Agrees given old new
      → (more : List ℕ) → now.bytes ≡ before.bytes ++ (codes "yes" ++ more) → IsSeen P (codes "yes" ++ more)
  seen-yes command old new before now result ends is agrees more shown = by result refl
    where
      decided : IsDecided result → IsSeen P (codes "yes" ++ more)
      decided ok = let a = ends.answer given agrees ok in
          of-outcome a.0 (length a.0.printed) more (subst (λ (k : Option CommandValue). WordsGive k given a.0) is a.1)
          (put-is before now a.0.printed (length a.0.printed) (codes "yes" ++ more) a.3 shown)

      hindered : (result ≡ Words) ⊎ IsHindered result → IsSeen P (codes "yes" ++ more)
      hindered why = absurd (no-yes result (length (status_line result)) more
          (put-is before now (status_line result) (length (status_line result)) (codes "yes" ++ more) (ends.line why) shown))

      broken : result ≡ WriteFault kinds.Out → IsSeen P (codes "yes" ++ more)
      broken fault =
          let f = ends.front fault in
          let front : take f.1 f.0 ≡ codes "yes" ++ more = put-is before now f.0 f.1 (codes "yes" ++ more) f.3 shown in
          due f.0 f.1 front (f.4 given agrees)
        where
          due : (text : List ℕ) (n : ℕ) → take n text ≡ codes "yes" ++ more
              → ((o : Outcome) × WordsGive command given o × (text ≡ o.printed) × Appended command o.appended old new)
              ⊎ ((status : Status) × IsHindrance command old new status × (text ≡ status_line status))
              → IsSeen P (codes "yes" ++ more)
          due text n front (inl a) = of-outcome a.0 n more (subst (λ (k : Option CommandValue). WordsGive k given a.0) is a.1)
              (ap (λ (t : List ℕ). take n t) (sym a.2) ∙ front)
          due text n front (inr h) = absurd (no-yes h.0 n more (ap (λ (t : List ℕ). take n t) (sym h.2) ∙ front))

      by : (s : Status) → result ≡ s → IsSeen P (codes "yes" ++ more)
      by Done e = decided (subst IsDecided (sym e) tt)
      by (No kind test place) e = decided (subst IsDecided (sym e) tt)
      by Words e = hindered (inl e)
      by (Refused file place entry) e = decided (subst IsDecided (sym e) tt)
      by (ReadFault file) e = hindered (inr (subst IsHindered (sym e) tt))
      by (WriteFault kinds.Award) e = hindered (inr (subst IsHindered (sym e) tt))
      by (WriteFault kinds.Log) e = hindered (inr (subst IsHindered (sym e) tt))
      by (WriteFault kinds.Book) e = hindered (inr (subst IsHindered (sym e) tt))
      by (WriteFault kinds.Cert) e = hindered (inr (subst IsHindered (sym e) tt))
      by (WriteFault kinds.Weights) e = hindered (inr (subst IsHindered (sym e) tt))
      by (WriteFault kinds.Slots) e = hindered (inr (subst IsHindered (sym e) tt))
      by (WriteFault kinds.Edits) e = hindered (inr (subst IsHindered (sym e) tt))
      by (WriteFault kinds.Out) e = broken e
      by Memory e = hindered (inr (subst IsHindered (sym e) tt))
      by (Limit which count) e = decided (subst IsDecided (sym e) tt)
