-- One place more.
use Rattle.std.proofs.Common.{◌≡◌, ◌+◌, ◌-◌, ◌<◌, [], length, ◌∙◌, ap, arith}
use Rattle.std.proofs.lemmas.List.{length-set}
use Rattle.relative_cap.specs.OwnRounds.{eligibility_in}
use Rattle.relative_cap.specs.Levels.{peak_from, IsHigh}
use Rattle.relative_cap.proofs.LevelLaws.{high-here, peak-step, set-from}
use Rattle.relative_cap.proofs.levels.fill_levels.Goals as goal

pub loop-place-preserved : goal.loop-place-preserved
loop-place-preserved c =
    let next : c.loop-place.place ≡ c.loop-place.place - 1 + 1 = omega (arith, c.loop-place-test.true) in
    let inside : c.loop-place.place - 1 < length c.args.history.now = omega (arith, c.loop-place-test.true, c.loop-place.invariant.inside) in
    let peak : c.max-peak.result ≡ peak_from c.args.history.now c.args.j (c.loop-place.place - 1)
    = peak-step c.args.history.now c.args.j (c.loop-place.place - 1) c.loop-place.peak c.eligibility.result c.max-peak.result inside
    (c.loop-place.invariant.peak ∙ ap (peak_from c.args.history.now c.args.j) next)
    (c.eligibility.ensures ∙ ap (eligibility_in c.args.history.now c.args.j) next) c.max-peak.ensures in
    let high : IsHigh c.args.history.now c.args.j [] (c.loop-place.place - 1) c.highest.result
    = high-here c.args.history.now c.args.j c.loop-place.place c.highest.result c.package.result.now
    (omega (arith, c.loop-place-test.true)) c.package.ensures.package c.highest.ensures.highest c.highest.ensures.most in
    record {
      inside = omega (arith, c.loop-place.invariant.inside);
      peak = peak;
      peaks_room = omega (arith, length-set c.loop-place.peaks (c.loop-place.place - 1) c.max-peak.result, c.loop-place.invariant.peaks_room);
      highs_room = omega (arith, length-set c.loop-place.highs (c.loop-place.place - 1) c.highest.result, c.loop-place.invariant.highs_room);
      each_peak = set-from (λ k x. k < length c.args.history.now → x ≡ peak_from c.args.history.now c.args.j k) c.loop-place.peaks
          (c.loop-place.place - 1) c.max-peak.result c.loop-place.place next
          (omega (arith, inside, c.loop-place.invariant.peaks_room)) c.loop-place.invariant.each_peak (λ low. peak);
      each_high = set-from (λ k x. k < length c.args.history.now → IsHigh c.args.history.now c.args.j [] k x)
          c.loop-place.highs (c.loop-place.place - 1) c.highest.result c.loop-place.place next
          (omega (arith, inside, c.loop-place.invariant.highs_room)) c.loop-place.invariant.each_high (λ low. high);
    }
