-- A reader that goes line by line through a plan reads just the texts of that plan.
use Rattle.std.proofs.Common.{◌≡◌, ℕ, Bool, Option, None, List, [], ◌∷◌, ◌++◌, length, take, refl, sym, ap, subst, ◌∙◌, append_assoc}
use Rattle.std.proofs.lemmas.List.{append-nil}
use Rattle.line_format.specs.LineText.{IsLine}
use Rattle.line_format.specs.Reading.{Runs}
use Rattle.line_format.proofs.Runs.{Reads}
use Rattle.cert_grammar.specs.Plan.{Follows, mark, next_place, placed, end_place, last_mark, Stage, StepTo, excess, begin, finish}

module _ {K I : Type 0} (Fits : K → I → Type 0) (after : K → I → List K) where
  -- these lines leave the rest of the plan
  abbrev pub Leaves : List K → List I → List K → Type 0
  Leaves ks [] rest = ks ≡ rest
  Leaves [] (i ∷ is) rest = ⊥
  Leaves (k ∷ ks) (i ∷ is) rest = Fits k i × Leaves (after k i ++ ks) is rest

  -- lines that leave a rest of a plan, and then lines of that rest, are together those of the plan
  pub leaves_follows : (ks : List K) (is : List I) (rest : List K) (js : List I) → Leaves ks is rest → Follows Fits after rest js
      → Follows Fits after ks (is ++ js)
  leaves_follows ks [] rest js l f = subst (λ (p : List K). Follows Fits after p js) (sym l) f
  leaves_follows [] (i ∷ is) rest js l f = absurd l
  leaves_follows (k ∷ ks) (i ∷ is) rest js l f = (l.0, leaves_follows (after k i ++ ks) is rest js l.1 f)

  -- lines of one plan and of another make up those of both
  pub follows_both : (xs ys : List K) (is js : List I) → Follows Fits after xs is → Follows Fits after ys js → Follows Fits after (xs ++ ys) (is ++ js)
  follows_both [] ys [] js f g = g
  follows_both [] ys (i ∷ is) js f g = absurd f
  follows_both (k ∷ ks) ys [] js f g = absurd f
  follows_both (k ∷ ks) ys (i ∷ is) js f g =
      (f.0, subst (λ (p : List K). Follows Fits after p (is ++ js)) (append_assoc (after k i) ks ys) (follows_both (after k i ++ ks) ys is js f.1 g))

module _ {K I : Type 0} (Fits : K → I → Type 0) (after : K → I → List K) (spell : I → List ℕ) (over : I → Bool)
    (one_item : (k : K) (i j : I) → Fits k i → Fits k j → spell i ≡ spell j → i ≡ j)
    (Fine : List K → Type 0)
    (is_line : (k : K) (ks : List K) (i : I) → Fine (k ∷ ks) → Fits k i → IsLine (spell i))
    (fine_after : (k : K) (ks : List K) (i : I) → Fine (k ∷ ks) → Fits k i → Fine (after k i ++ ks))
    (completes : (ks : List K) → Fine ks → (is : List I) × Follows Fits after ks is) where
  abbrev Steps : Stage K I → List ℕ → Stage K I → Type 0
  Steps = StepTo Fits after spell over

  goes : (ks : List K) (items : List I) (place : ℕ) (before : Option ℕ) (v : List I) → Fine ks → Follows Fits after ks v
      → Runs Steps excess (record { plan = ks; items = items; place = place; over = before }) (placed spell over place v)
      (record { plan = []; items = items ++ v; place = end_place spell over place v; over = last_mark spell over place before v })
  goes [] items place before [] ok f = ap (λ (l : List I). record { plan = []; items = l; place = place; over = before }) (sym (append-nil items))
  goes [] items place before (i ∷ is) ok f = absurd f
  goes (k ∷ ks) items place before [] ok f = absurd f
  goes (k ∷ ks) items place before (i ∷ is) ok f =
      let u : Stage K I = record { plan = after k i ++ ks; items = items ++ i ∷ []; place = next_place spell over place i; over = mark spell over place i } in
      let rest = goes (after k i ++ ks) (items ++ i ∷ []) (next_place spell over place i) (mark spell over place i) is (fine_after k ks i ok f.0) f.1 in (
        u,
        is_line k ks i ok f.0,
        record { kind = k; rest = ks; item = i; first = refl; fits = f.0; spelled = refl; next = refl },
        refl,
        subst (λ (l : List I). Runs Steps excess u (placed spell over (next_place spell over place i) is)
            (record {
              plan = [];
              items = l;
              place = end_place spell over (next_place spell over place i) is;
              over =
                  last_mark spell over (next_place spell over place i) (mark spell over place i) is;
            }))
            (append_assoc items (i ∷ []) is) rest,
      )

  -- the lines that a reader has taken
  record Taken (s : Stage K I) (ms : List (List ℕ × Option ℕ)) (t : Stage K I) : Type 0 where
    items : List I
    lines_are : placed spell over s.place items ≡ ms
    leaves : Leaves Fits after s.plan items t.plan
    fine : Fine t.plan

  taken : (s t : Stage K I) (ms : List (List ℕ × Option ℕ)) → Fine s.plan → Runs Steps excess s ms t → Taken s ms t
  taken s t [] ok run = record {
    items = [];
    lines_are = refl;
    leaves = ap (λ (r : Stage K I). r.plan) run;
    fine =
        subst (λ (r : Stage K I). Fine r.plan) run ok;
  }
  taken s t (m ∷ ms) ok run =
      let step : Steps s m.0 run.0 = run.2 in
      let u = run.0 in
      let plan_is : run.0.plan ≡ after step.kind step.item ++ step.rest = ap (λ (r : Stage K I). r.plan) step.next in
      let place_is : run.0.place ≡ next_place spell over s.place step.item = ap (λ (r : Stage K I). r.place) step.next in
      let mark_is : m.1 ≡ mark spell over s.place step.item = run.3 ∙ ap (λ (r : Stage K I). r.over) step.next in
      let fine_u : Fine run.0.plan = subst Fine (sym plan_is) (fine_after step.kind step.rest step.item (subst Fine step.first ok) step.fits) in
      let rest = taken run.0 t ms fine_u run.4 in
      record {
        items = step.item ∷ rest.items;
        lines_are =
            ap (λ (r : List (List ℕ × Option ℕ)). (spell step.item, mark spell over s.place step.item) ∷ r)
            (ap (λ (p : ℕ). placed spell over p rest.items) (sym place_is) ∙ rest.lines_are)
            ∙ ap (λ (x : List ℕ). (x, mark spell over s.place step.item) ∷ ms) (sym step.spelled)
            ∙ ap (λ (o : Option ℕ). (m.0, o) ∷ ms) (sym mark_is);
        leaves = subst (λ (p : List K). Leaves Fits after p (step.item ∷ rest.items) t.plan) (sym step.first)
            (step.fits, subst (λ (p : List K). Leaves Fits after p rest.items t.plan) plan_is rest.leaves);
        fine = rest.fine;
      }

  take_placed : (place : ℕ) (is js : List I) → take (length is) (placed spell over place (is ++ js)) ≡ placed spell over place is
  take_placed place [] js = refl
  take_placed place (i ∷ is) js = ap (λ (r : List (List ℕ × Option ℕ)). (spell i, mark spell over place i) ∷ r)
      (take_placed (next_place spell over place i) is js)

  -- by a plan that can be followed, the reader reads just the texts whose lines are those of the plan
  pub reads : (plan : List K) → Fine plan → Reads (λ (s : Stage K I). Fine s.plan) Steps excess (begin plan) (finish spell over) (Follows Fits after plan)
      (placed spell over 0)
  reads plan ok = record {
    complete = λ v f. goes plan [] 0 None v ok f;
    sound = λ ms s run.
        let t = taken (begin plan) s ms ok run in
        let more = completes s.plan t.fine in
        (t.items ++ more.0, length t.items, leaves_follows Fits after plan t.items s.plan more.0 t.leaves more.1, take_placed 0 t.items more.0 ∙ t.lines_are);
    begins = ok;
    keeps = λ s t l fine step. subst Fine (sym (ap (λ (r : Stage K I). r.plan) step.next))
        (fine_after step.kind step.rest step.item (subst Fine step.first fine) step.fits);
    one_step = λ s t u l fine a b. one s t u l a b;
    closed = λ v l t step. nothing_left step.kind step.rest step.first;
    one_value = λ v w e. ap (λ (r : Stage K I). r.items) e;
  }
    where
      nothing_left : (k : K) (ks : List K) → [] ≡ k ∷ ks → ⊥
      nothing_left k ks e = cc

      one : (s t u : Stage K I) (l : List ℕ) → Steps s l t → Steps s l u → t ≡ u
      one s t u l a b =
          let plans : a.kind ∷ a.rest ≡ b.kind ∷ b.rest = sym a.first ∙ b.first in
          let kinds : a.kind ≡ b.kind = cc in
          let rests : a.rest ≡ b.rest = cc in
          let fits : Fits a.kind b.item = subst (λ (k : K). Fits k b.item) (sym kinds) b.fits in
          let items : a.item ≡ b.item = one_item a.kind a.item b.item a.fits fits (sym a.spelled ∙ b.spelled) in
          a.next
          ∙ ap (λ (k : K). record {
            plan = after k a.item ++ a.rest;
            items = s.items ++ a.item ∷ [];
            place = next_place spell over s.place a.item;
            over =
                mark spell over s.place a.item;
          }) kinds
          ∙ ap (λ (r : List K). record {
            plan = after b.kind a.item ++ r;
            items = s.items ++ a.item ∷ [];
            place = next_place spell over s.place a.item;
            over =
                mark spell over s.place a.item;
          }) rests
          ∙ ap (λ (i : I). record {
            plan = after b.kind i ++ b.rest;
            items = s.items ++ i ∷ [];
            place = next_place spell over s.place i;
            over =
                mark spell over s.place i;
          }) items
          ∙ sym b.next
