use Rattle.std.proofs.Common.{◌≡◌, ℕ, ◌-◌, Err, ap, sym, ◌∙◌, subst, length, take, drop, arith, length-drop}
use Rattle.std.proofs.lemmas.List.{take_all}
use Rattle.line_format.specs.Reading.{HaltsAt}
use Rattle.line_format.proofs.Runs.{next_so_far, next_exceeds, next_halts, last_halts}
use Rattle.line_format.proofs.StopLaws.{form_stop, limit_stop}
use Rattle.line_format.proofs.reader.read_lines.Goals as goal

pub returns-in-Err-clause-form : goal.returns-in-Err-clause-form
returns-in-Err-clause-form g c = λ place err.
    let whole : take (length c.args.bytes.now - c.loop-len.place) (drop c.loop-len.place c.args.bytes.now) ≡ drop c.loop-len.place c.args.bytes.now =
    take_all _ _ (omega (arith, length-drop c.loop-len.place c.args.bytes.now)) in
    let found = rw whole at c.in-Some.ensures.found in
    let refused = rw whole at c.in-Err.ensures.form in
    let stop = form_stop c.in-Err.stop c.loop-len.place place (sym c.at.ensures ∙ cc (err)) in
    subst (λ (n : ℕ). HaltsAt (g.R.LineReader.leads c.args.reader.now) (g.R.LineReader.over c.args.reader.now) c.args.start
    (g.R.LineReader.ended c.args.reader.now) c.args.bytes.now n) stop.1
    (next_halts _ _ _ _ _ _ c.loop-len.invariant.so_far c.in-Some.len found.0 found.1 _ (refused (ap Err stop.0)))

pub returns-in-Err-clause-limit : goal.returns-in-Err-clause-limit
returns-in-Err-clause-limit g c = λ excess err.
    let whole : take (length c.args.bytes.now - c.loop-len.place) (drop c.loop-len.place c.args.bytes.now) ≡ drop c.loop-len.place c.args.bytes.now =
    take_all _ _ (omega (arith, length-drop c.loop-len.place c.args.bytes.now)) in
    let found = rw whole at c.in-Some.ensures.found in
    let stop = limit_stop c.in-Err.stop c.loop-len.place excess (sym c.at.ensures ∙ cc (err)) in
    let over = rw whole at (c.in-Err.ensures.limit excess (ap Err stop)) in
    next_exceeds _ _ _ _ _ _ c.loop-len.invariant.so_far c.in-Some.len found.0 found.1 over.0 excess over.1 over.2

pub loop-len-preserved : goal.loop-len-preserved
loop-len-preserved g c =
    let whole : take (length c.args.bytes.now - c.loop-len.place) (drop c.loop-len.place c.args.bytes.now) ≡ drop c.loop-len.place c.args.bytes.now =
    take_all _ _ (omega (arith, length-drop c.loop-len.place c.args.bytes.now)) in
    let found = rw whole at c.in-Some.ensures.found in
    let taken = rw whole at c.in-Ok.ensures.ok in
    record {
      within = omega (arith, found.2, length-drop c.loop-len.place c.args.bytes.now);
      so_far = next_so_far _ _ _ _ _ _ c.loop-len.invariant.so_far c.in-Some.len found.0 found.1 c.in-Ok.next taken.0 taken.1 found.2;
    }

pub returns-then-place-bytes-clause-form : goal.returns-then-place-bytes-clause-form
returns-then-place-bytes-clause-form g c = λ place err.
    let whole : take (length c.args.bytes.now - c.loop-len.place) (drop c.loop-len.place c.args.bytes.now) ≡ drop c.loop-len.place c.args.bytes.now =
    take_all _ _ (omega (arith, length-drop c.loop-len.place c.args.bytes.now)) in
    let line = rw whole at c.in_default.ensures.none in
    let same : c.loop-len.place ≡ place = cc in
    subst (λ (n : ℕ). HaltsAt (g.R.LineReader.leads c.args.reader.now) (g.R.LineReader.over c.args.reader.now) c.args.start
    (g.R.LineReader.ended c.args.reader.now) c.args.bytes.now n) same
    (last_halts _ _ _ _ _ _ c.loop-len.invariant.so_far _ line (λ v end. omega (arith, length-drop c.loop-len.place c.args.bytes.now)))
