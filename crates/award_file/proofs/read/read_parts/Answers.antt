use Rattle.std.proofs.lemmas.Grind.{common_steps}
use Rattle.std.proofs.Common.{◌≡◌, ℕ, true, false, None, Option, sym, ap, subst, ◌∙◌, arith}
use Rattle.std.specs.Prelude.{is_some, not, unwrap_or}
use Rattle.std.proofs.lemmas.Result.{err_from_is_err_and}
use Rattle.toml.specs.View.{table_view}
use Rattle.award_file.specs.Reading.{IsFault}
use Rattle.award_file.specs.Stated.{has_other}
use Rattle.award_file.specs.Walk.{bidders_fault, caps_fault, caps_of, categories_fault, category_count, entrants_of, steps_fault, tick_at, top_keys}
use Rattle.award_file.specs.Walk.{unless, version_at}
use Rattle.award_file.proofs.PartLaws.{terms-same}
use Rattle.award_file.proofs.ReadingLaws.{third-stops, fourth-stops, last-decides, count-is}
use Rattle.award_file.proofs.read.read_parts.Goals as goal

pub returns-in_err-thresholds-clause-err : goal.returns-in_err-thresholds-clause-err
returns-in_err-thresholds-clause-err c =
    let p = err_from_is_err_and c.from_residual-in_err-thresholds.result c.from_residual-in_err-thresholds.ensures.1 in
    let t = table_view c.args.table.now in
    let version : is_some (version_at t) ≡ true = ap is_some (sym c.in-Some.ensures.number) in
    let tick : is_some (tick_at t) ≡ true = ap is_some (sym c.in-Some-number_at.ensures.number) in
    let count : c.len.result ≡ category_count t = c.len.ensures ∙ c.in_ok-categories.categories.ok.0
    ∙ count-is c.in_ok-categories.categories.items t c.in_ok-categories.ensures.ok.1 in
    let bidders : bidders_fault (category_count t) t ≡ None = subst (λ n. bidders_fault n t ≡ None) count c.in_ok-bidders.ensures.ok.0 in
    rw (p.1, p.2) (third-stops (is_some (version_at t)) (is_some (tick_at t)) (categories_fault t) (bidders_fault (category_count t) t) (steps_fault t)
    (caps_fault (category_count t) t) (not (has_other top_keys t)) _
    version tick c.in_ok-categories.ensures.ok.0 bidders c.in_err-thresholds.ensures.err)

pub returns-in_err-caps-clause-err : goal.returns-in_err-caps-clause-err
returns-in_err-caps-clause-err c =
    let p = err_from_is_err_and c.from_residual-in_err-caps.result c.from_residual-in_err-caps.ensures.1 in
    let t = table_view c.args.table.now in
    let version : is_some (version_at t) ≡ true = ap is_some (sym c.in-Some.ensures.number) in
    let tick : is_some (tick_at t) ≡ true = ap is_some (sym c.in-Some-number_at.ensures.number) in
    let count : c.len.result ≡ category_count t = c.len.ensures ∙ c.in_ok-categories.categories.ok.0
    ∙ count-is c.in_ok-categories.categories.items t c.in_ok-categories.ensures.ok.1 in
    let count-2 : c.len-2.result ≡ category_count t = c.len-2.ensures ∙ c.in_ok-categories.categories.ok.0
    ∙ count-is c.in_ok-categories.categories.items t c.in_ok-categories.ensures.ok.1 in
    let bidders : bidders_fault (category_count t) t ≡ None = subst (λ n. bidders_fault n t ≡ None) count c.in_ok-bidders.ensures.ok.0 in
    let caps : IsFault (caps_fault (category_count t) t) c.in_err-caps.field-0.0 = subst (λ n. IsFault (caps_fault n t) c.in_err-caps.field-0.0) count-2
    c.in_err-caps.ensures.err in
    rw (p.1, p.2) (fourth-stops (is_some (version_at t)) (is_some (tick_at t)) (categories_fault t) (bidders_fault (category_count t) t) (steps_fault t)
    (caps_fault (category_count t) t) (not (has_other top_keys t)) _
    version tick c.in_ok-categories.ensures.ok.0 bidders c.in_ok-thresholds.ensures.ok.0 caps)

pub returns-then-has_other-clause-err : goal.returns-then-has_other-clause-err
returns-then-has_other-clause-err c =
    let t = table_view c.args.table.now in
    let version : is_some (version_at t) ≡ true = ap is_some (sym c.in-Some.ensures.number) in
    let tick : is_some (tick_at t) ≡ true = ap is_some (sym c.in-Some-number_at.ensures.number) in
    let count : c.len.result ≡ category_count t = c.len.ensures ∙ c.in_ok-categories.categories.ok.0
    ∙ count-is c.in_ok-categories.categories.items t c.in_ok-categories.ensures.ok.1 in
    let count-2 : c.len-2.result ≡ category_count t = c.len-2.ensures ∙ c.in_ok-categories.categories.ok.0
    ∙ count-is c.in_ok-categories.categories.items t c.in_ok-categories.ensures.ok.1 in
    let bidders : bidders_fault (category_count t) t ≡ None = subst (λ n. bidders_fault n t ≡ None) count c.in_ok-bidders.ensures.ok.0 in
    let caps : caps_fault (category_count t) t ≡ None = subst (λ n. caps_fault n t ≡ None) count-2 c.in_ok-caps.ensures.ok.0 in
    let decided = last-decides (is_some (version_at t)) (is_some (tick_at t)) (categories_fault t) (bidders_fault (category_count t) t) (steps_fault t)
    (caps_fault (category_count t) t) (not (has_other top_keys t))
    version tick c.in_ok-categories.ensures.ok.0 bidders c.in_ok-thresholds.ensures.ok.0 caps in
    let other : has_other top_keys t ≡ true = sym c.has_other.ensures ∙ c.if-has_other.true in
    let fault = decided ∙ ap (λ b. unless (not b) 18 0) other in
    rw c.broken_top-then-has_other.ensures fault

pub returns-clause-ok : goal.returns-clause-ok
returns-clause-ok c =
    let t = table_view c.args.table.now in
    let version : is_some (version_at t) ≡ true = ap is_some (sym c.in-Some.ensures.number) in
    let tick : is_some (tick_at t) ≡ true = ap is_some (sym c.in-Some-number_at.ensures.number) in
    let count : c.len.result ≡ category_count t = c.len.ensures ∙ c.in_ok-categories.categories.ok.0
    ∙ count-is c.in_ok-categories.categories.items t c.in_ok-categories.ensures.ok.1 in
    let count-2 : c.len-2.result ≡ category_count t = c.len-2.ensures ∙ c.in_ok-categories.categories.ok.0
    ∙ count-is c.in_ok-categories.categories.items t c.in_ok-categories.ensures.ok.1 in
    let bidders : bidders_fault (category_count t) t ≡ None = subst (λ n. bidders_fault n t ≡ None) count c.in_ok-bidders.ensures.ok.0 in
    let other = c.has_other.ensures in
    let caps : caps_fault (category_count t) t ≡ None = subst (λ n. caps_fault n t ≡ None) count-2 c.in_ok-caps.ensures.ok.0 in
    let decided = last-decides (is_some (version_at t)) (is_some (tick_at t)) (categories_fault t) (bidders_fault (category_count t) t) (steps_fault t)
    (caps_fault (category_count t) t) (not (has_other top_keys t))
    version tick c.in_ok-categories.ensures.ok.0 bidders c.in_ok-thresholds.ensures.ok.0 caps in
    let other : has_other top_keys t ≡ false = sym c.has_other.ensures ∙ c.if-has_other.false in
    let none = decided ∙ ap (λ b. unless (not b) 18 0) other in
    let version_is : unwrap_or (version_at t) 0 ≡ c.in-Some.version = ap (λ (o : Option ℕ). unwrap_or o 0) (sym c.in-Some.ensures.number) in
    let tick_is : unwrap_or (tick_at t) 0 ≡ c.in-Some-number_at.tick = ap (λ (o : Option ℕ). unwrap_or o 0) (sym c.in-Some-number_at.ensures.number) in
    let bidders_are = c.in_ok-bidders.ensures.ok.1 ∙ ap (λ n. entrants_of n t) count in
    let caps_are = c.in_ok-caps.ensures.ok.1 ∙ ap (λ n. caps_of n t) count-2 in (
      none,
      terms-same _ _ _ _ _ _ _ _ _ _ _ _ version_is tick_is (sym c.in_ok-categories.ensures.ok.1) (sym c.in_ok-thresholds.ensures.ok.1) (sym caps_are)
          (sym bidders_are),
    )

pub returns-in_err-bidders-clause-err : goal.returns-in_err-bidders-clause-err
returns-in_err-bidders-clause-err c = grind (arith, common_steps)
