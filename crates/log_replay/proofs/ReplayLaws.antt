-- What a replay makes of one line more, and where it ends.
use Rattle.std.proofs.Common.{List, Option, [], ap, arith, false, get_or, inl, inr, length, refl, reverse, subst, suc, sym, take, true, zero, ℕ, ◌++◌}
use Rattle.std.proofs.Common.{◌+◌, ◌<◌, ◌∙◌, ◌∷◌, ◌≡◌, ◌≤◌}
use Rattle.std.specs.Prelude.{Err, Ok}
use Rattle.std.specs.Option.{option_or}
use Rattle.std.specs.List.{AllByRecursion}
use Rattle.std.proofs.lemmas.List.{length-reverse, length-take, reverse-append, take_all, take_more}
use Rattle.auction_model.specs.Book.{Book}
use Rattle.auction_rules.specs.BookOfLog.{book_of_log, is_complete}
use Rattle.auction_rules.specs.Lawful.{HasCategories}
use Rattle.auction_rules.specs.Replies.{is_closed, log_prices, log_round, log_stage, reply_to}
use Rattle.auction_rules.specs.State.{DeskState, round_in, state_of}
use Rattle.auction_rules.specs.Terms.{Terms}
use Rattle.auction_rules.specs.declared.Event.{Event}
use Rattle.auction_rules.specs.declared.Reply.{Reply}
use Rattle.auction_rules.specs.declared.Reply.TheVariants as reply
use Rattle.auction_rules.specs.declared.Stage.{Stage}
use Rattle.auction_rules.specs.declared.Stage.TheVariants as stage
use Rattle.auction_rules.proofs.Telling.{prices-state_of, round-state_of, stage-state_of}
use Rattle.log_file.specs.ReplyText.{reply_line}
use Rattle.bid_desk.specs.Reached.{StandsNext}
use Rattle.clock_stage.proofs.ClockLaws.{terms-state_of}
use Rattle.log_replay.specs.Course.{Answers, IsAnswered, IsCourse, TakesLine, line_at}
use Rattle.log_replay.specs.ReplyLines.{book_or_open, done_by, first_refusal, line_of, refusal_of, reply_lines}
use Rattle.log_replay.specs.declared.results.ReplayStop.{ReplayStop}
use Rattle.log_replay.specs.declared.results.ReplayStop.TheVariants.{Open}
use Rattle.log_replay.specs.declared.lines.ReplayState.{ReplayState}

-- and so does a desk that stands for a log
pub terms-in : (terms : Terms) (log : List Event) (desk : DeskState) → desk ≡ state_of terms log → desk.terms ≡ terms
terms-in terms log desk is = ap (λ (d : DeskState). d.terms) is ∙ terms-state_of terms log

-- a desk that stands for a log, by its own terms
stands-for : (terms : Terms) (log : List Event) (desk : DeskState) → desk ≡ state_of terms log → desk ≡ state_of desk.terms log
stands-for terms log desk is = is ∙ ap (λ (t : Terms). state_of t log) (sym (terms-in terms log desk is))

-- a reply other than Memory is that of the rules
pub answers : (old new : DeskState) (line : Event) (answer : Reply) → ((log : List Event) → old ≡ state_of old.terms log → StandsNext old log line answer new)
    → (answer ≡ reply.Memory → ⊥) → Answers old line answer new
answers old new line answer stands not-memory terms log is = by (stands log (stands-for terms log old is))
  where
    by : StandsNext old log line answer new → IsAnswered terms log line answer new
    by (inl memory) = absurd (not-memory memory.reply)
    by (inr next) = subst (λ (t : Terms). IsAnswered t log line answer new) (terms-in terms log old is) (record { reply = next.reply; state = next.state })

-- the line that is printed by the desk is that of the log
line-told : (terms : Terms) (log : List Event) (line : Event) (answer : Reply) (new : DeskState) → IsAnswered terms log line answer new
    → line_at (suc (length log)) line answer new ≡ line_of terms line log
line-told terms log line answer new is =
    let n : ℕ = suc (length log) in
    let whole : List Event = line ∷ log in
    let stage : new.stage ≡ log_stage terms whole = ap (λ (d : DeskState). d.stage) is.state ∙ stage-state_of terms whole in
    let round : round_in new ≡ log_round terms whole = ap (λ (d : DeskState). round_in d) is.state ∙ round-state_of terms whole in
    let prices : new.prices ≡ log_prices terms whole = ap (λ (d : DeskState). d.prices) is.state ∙ prices-state_of terms whole in
    ap (λ (r : Reply). reply_line n r (done_by line r new.stage (round_in new)) new.prices) is.reply
    ∙ ap (λ (s : Stage). reply_line n (reply_to terms log line) (done_by line (reply_to terms log line) s (round_in new)) new.prices) stage
    ∙ ap (λ (k : ℕ). reply_line n (reply_to terms log line) (done_by line (reply_to terms log line) (log_stage terms whole) k) new.prices) round
    ∙ ap (reply_line n (reply_to terms log line) (done_by line (reply_to terms log line) (log_stage terms whole) (log_round terms whole))) prices

-- what a line makes of the replies and of the first refusal, if the desk answered it
pub takes-line : (old new : ReplayState) (number : ℕ) (line : Event) (answer : Reply) → Answers old.desk line answer new.desk
    → new.replies ≡ old.replies ++ line_at number line answer new.desk → new.stop ≡ option_or old.stop (refusal_of line answer)
    → TakesLine old number line new
takes-line old new number line answer answered replies stop terms log had count =
    let is : IsAnswered terms log line answer new.desk = answered terms log had.desk in
    record {
      desk = is.state;
      replies = replies
          ∙ ap (λ (text : List ℕ). text ++ line_at number line answer new.desk) had.replies
          ∙ ap (λ (n : ℕ). reply_lines terms log ++ line_at n line answer new.desk) count
          ∙ ap (λ (text : List ℕ). reply_lines terms log ++ text) (line-told terms log line answer new.desk is);
      stop = stop
          ∙ ap (λ (first : Option ReplayStop). option_or first (refusal_of line answer)) had.stop
          ∙ ap (λ (r : Reply). option_or (first_refusal terms log) (refusal_of line r)) is.reply;
    }

-- how far the auction is at a desk that stands for a log
told-stage : (terms : Terms) (log : List Event) (desk : DeskState) → desk ≡ state_of terms log → log_stage terms log ≡ desk.stage
told-stage terms log desk is = sym (stage-state_of terms log) ∙ ap (λ (d : DeskState). d.stage) (sym is)

-- the book of a desk that is closed
pub book-closed : (desk : DeskState) (book : Book) → desk.stage ≡ stage.Closed
    → ((log : List Event) → desk ≡ state_of desk.terms log → book ≡ book_of_log desk.terms log)
    → (terms : Terms) (log : List Event) → desk ≡ state_of terms log → Ok book ≡ book_or_open terms log
book-closed desk book closed made terms log is =
    let complete : is_complete terms log ≡ true = ap is_closed (told-stage terms log desk is ∙ closed) in
    let same : book ≡ book_of_log terms log = made log (stands-for terms log desk is) ∙ ap (λ (t : Terms). book_of_log t log) (terms-in terms log desk is) in
    rw complete (ap Ok same)

not-closed : (at : Stage) → (at ≡ stage.Closed → ⊥) → is_closed at ≡ false
not-closed stage.Clock other = refl
not-closed stage.Sealed other = refl
not-closed stage.Closed other = absurd (other refl)

-- a desk that isn't closed gives none
pub book-open : (desk : DeskState) → (desk.stage ≡ stage.Closed → ⊥) → (terms : Terms) (log : List Event) → desk ≡ state_of terms log
    → book_or_open terms log ≡ Err Open
book-open desk other terms log is =
    let complete : is_complete terms log ≡ false = ap is_closed (told-stage terms log desk is) ∙ not-closed desk.stage other in
    rw complete refl

-- a course over one more line of the events, of which that many were taken
pub takes-next : (terms : Terms) (events given : List Event) (i : ℕ) (line : Event) (old new : ReplayState) → given ≡ events → i < length given
    → line ≡ get_or given i line
    → IsCourse terms (reverse (take i events)) old → TakesLine old (i + 1) line new → IsCourse terms (reverse (take (i + 1) events)) new
takes-next terms events given i line old new same lt is had takes =
    let inside : i < length events = omega (arith, lt, ap length same) in
    let count : i + 1 ≡ suc (length (reverse (take i events))) = omega (arith, length-reverse (take i events), length-take i events, inside) in
    let at : line ≡ get_or events i line = is ∙ ap (λ (es : List Event). get_or es i line) same in
    let more : take (i + 1) events ≡ take i events ++ line ∷ [] = take_more events i line inside ∙ ap (λ (e : Event). take i events ++ e ∷ []) (sym at) in
    let behind : reverse (take (i + 1) events) ≡ line ∷ reverse (take i events) = ap reverse more ∙ reverse-append (take i events) (line ∷ []) in
    subst (λ (log : List Event). IsCourse terms log new) (sym behind) (takes terms (reverse (take i events)) had count)

-- after the last line
pub takes-all : (terms : Terms) (events given : List Event) (i : ℕ) (course : ReplayState) → given ≡ events → length given ≤ i
    → IsCourse terms (reverse (take i events)) course → IsCourse terms (reverse events) course
takes-all terms events given i course same le had =
    subst (λ (es : List Event). IsCourse terms (reverse es) course) (take_all i events (omega (arith, le, ap length same))) had

-- the line at a place has the award's number of categories
pub line-at : (terms : Terms) (events given : List Event) (i : ℕ) (line : Event) (desk : DeskState) → given ≡ events → i < length given
    → line ≡ get_or given i line
    → desk ≡ state_of terms (reverse (take i events)) → AllByRecursion (HasCategories terms) events → HasCategories desk.terms line
line-at terms events given i line desk same lt is stands all =
    subst (λ (t : Terms). HasCategories t line) (sym (terms-in terms (reverse (take i events)) desk stands))
    (subst (HasCategories terms) (sym is) (by given i line (subst (AllByRecursion (HasCategories terms)) (sym same) all) lt))
  where
    by : (es : List Event) (i : ℕ) (d : Event) → AllByRecursion (HasCategories terms) es → i < length es → HasCategories terms (get_or es i d)
    by [] i d all lt = absurd (omega (arith, lt))
    by (e ∷ es) zero d all lt = all.0
    by (e ∷ es) (suc i) d all lt = by es i d all.1 (omega (arith, lt))
