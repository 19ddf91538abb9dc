-- The steps of the search for the nearest point: rows are taken from the last one down, and one that is violated is forced.
use Rattle.std.proofs.Common.{◌≡◌, ℕ, suc, ◌<◌, ◌≤◌, arith, refl, sym, ap, ◌∙◌, inl, inr, List, [], ◌∷◌, ◌++◌, length, subst}
use Rattle.std.specs.Prelude.{ℤ, pos, ◌+ℤ◌, ◌*ℤ◌, ◌-ℤ◌, ◌≤ℤ◌, ◌<ℤ◌}
use Rattle.std.proofs.lemmas.Int.{ints}
use Rattle.std.proofs.lemmas.List.{get_or_push, length-append}
use Rattle.std.proofs.Math.ListN.{get_or-append}
use Rattle.wide_num.specs.Sums.{dot}
use Rattle.nearest_point.specs.Search.{Solved, Taken, Independent, Near, Owed}
use Rattle.nearest_point.specs.Numbers.{place}
use Rattle.projection_laws.proofs.Ring.{var, add, sub, mul, ring}
use Rattle.projection_laws.proofs.Order.{mul_nonneg, mul_positive}
use Rattle.projection_laws.proofs.PointLaws.{gap_of, dot-gap}
use Rattle.wide_num.proofs.Sums.{total-same}
use Rattle.wide_num.proofs.Ints.{swap_mul}
use Rattle.nearest_point.proofs.Places.{lt_or}
use Rattle.nearest_point.proofs.Forced.{newly_forced, cases_at}
use Rattle.nearest_point.proofs.Vectors.{independent_more, between, between_equal, between_above, between_crosses}

-- at the start no row is taken: the solved point of the forced rows
pub near_start : (m r : ℕ) (a : ℕ → ℕ → ℤ) (b target weight : ℕ → ℤ) (forced : List ℕ) (den : ℤ) (point mult : ℕ → ℤ)
    → Solved m (length forced) (λ i. a (place forced i)) den point mult target weight
    → ((i : ℕ) → i < length forced → dot m (a (place forced i)) point ≡ den *ℤ b (place forced i))
    → Independent m (length forced) (λ i. a (place forced i))
    → Near m r a b target weight forced r forced den point mult
near_start m r a b target weight forced den point mult s t ind = record {
  longer = omega arith;
  starts = λ i lt. refl;
  above = λ i ge lt. absurd (omega arith);
  solved = s;
  taken = record { tight = t; sign = λ i ge lt. absurd (omega arith) };
  meets = λ k ge lt. absurd (omega arith);
  independent = ind;
}

-- a row that the point meets is taken
pub near_take : (m r : ℕ) (a : ℕ → ℕ → ℤ) (b target weight : ℕ → ℤ) (forced : List ℕ) (k : ℕ) (rows : List ℕ) (den : ℤ) (point mult : ℕ → ℤ)
    → Near m r a b target weight forced (suc k) rows den point mult → (den *ℤ b k) ≤ℤ dot m (a k) point
    → Near m r a b target weight forced k rows den point mult
near_take m r a b target weight forced k rows den point mult h met = record {
  longer = h.longer;
  starts = h.starts;
  above = λ i ge lt. let p = h.above i ge lt in (omega arith, p.1);
  solved = h.solved;
  taken = h.taken;
  meets = λ q ge lt. elim (cases_at q k) [
    | inl below ↦ absurd (omega arith)
    | inr c ↦ elim c [
      | inl same ↦ subst (λ (n : ℕ). (den *ℤ b n) ≤ℤ dot m (a n) point) (sym same) met
      | inr more ↦ h.meets q more lt
    ]
  ];
  independent = h.independent;
}

length_push : (f : List ℕ) (k : ℕ) → length (f ++ k ∷ []) ≡ suc (length f)
length_push f k = length-append f (k ∷ []) ∙ omega arith

-- a row that the point violates is forced, and the rows from there on are solved again beside it
pub near_force : (m r : ℕ) (a : ℕ → ℕ → ℤ) (b target weight : ℕ → ℤ) → ((j : ℕ) → j < m → pos 0 <ℤ weight j) → (forced : List ℕ) (k : ℕ) → k < r
    → (rows_y : List ℕ) (dy : ℤ) (y ly : ℕ → ℤ) → Near m r a b target weight forced (suc k) rows_y dy y ly → dot m (a k) y <ℤ (dy *ℤ b k)
    → (rows_x : List ℕ) (dx : ℤ) (x lx : ℕ → ℤ) → Near m r a b target weight (forced ++ k ∷ []) (suc k) rows_x dx x lx
    → Near m r a b target weight forced k rows_x dx x lx
near_force m r a b target weight wp forced k kr rows_y dy y ly hy violated rows_x dx x lx hx =
    let n : ℕ = length forced in
    let len : length (forced ++ k ∷ []) ≡ suc n = length_push forced k in
    let long : suc n ≤ length rows_x = (let p = hx.longer in omega arith) in
    let first : (i : ℕ) → i < n → place rows_x i ≡ place forced i = λ i lt. hx.starts i (omega arith) ∙ get_or-append forced (k ∷ []) 0 i lt in
    let new : place rows_x n ≡ k = hx.starts n (omega arith) ∙ get_or_push forced k 0 n refl in
    let after : (i : ℕ) → n < i → i < length rows_x → (suc k ≤ place rows_x i) × (place rows_x i < r) = λ i gt lt. hx.above i (omega arith) lt in
    let taken_x : Taken m (length rows_x) (suc n) (λ i. a (place rows_x i)) (λ i. b (place rows_x i)) dx x lx
    = subst (λ (t : ℕ). Taken m (length rows_x) t (λ i. a (place rows_x i)) (λ i. b (place rows_x i)) dx x lx) len hx.taken in
    let violated' : dot m (a (place rows_x n)) y <ℤ (dy *ℤ b (place rows_x n)) = subst (λ (t : ℕ). dot m (a t) y <ℤ (dy *ℤ b t)) (sym new) violated in
    let positive : pos 0 <ℤ lx n = newly_forced m n target weight wp
    (length rows_x) (λ i. a (place rows_x i)) (λ i. b (place rows_x i)) dx x lx hx.solved taken_x
    (length rows_y) (λ i. a (place rows_y i)) (λ i. b (place rows_y i)) dy y ly hy.solved hy.taken
    (λ i lt. subst (λ (t : ℕ). dot m (a t) y ≡ dy *ℤ b t) (hy.starts i lt ∙ sym (first i lt)) (hy.taken.tight i (let p = hy.longer in omega arith)))
    (λ i lt. subst (λ (t : ℕ). dot m (a t) x ≡ dx *ℤ b t) (first i lt ∙ sym (hy.starts i lt)) (hx.taken.tight i (omega arith)))
    (λ i gt lt. let p = after i gt lt in hy.meets (place rows_x i) p.0 p.1)
    (λ i ge lt. let p = hy.above i ge lt in hx.meets (place rows_y i) p.0 p.1)
    (omega arith) violated' in
    record {
      longer = omega arith;
      starts = first;
      above = λ i ge lt. elim (cases_at i n) [
        | inl below ↦ absurd (omega arith)
        | inr c ↦ elim c [
          | inl same ↦ (let e : place rows_x i ≡ k = ap (place rows_x) same ∙ new in (omega arith, omega arith))
          | inr more ↦ (let p = after i more lt in (omega arith, p.1))
        ]
      ];
      solved = hx.solved;
      taken = record {
        tight = hx.taken.tight;
        sign = λ i ge lt. elim (cases_at i n) [
          | inl below ↦ absurd (omega arith)
          | inr c ↦ elim c [
            | inl same ↦ (let e : lx i ≡ lx n = ap lx same in omega (arith, ints))
            | inr more ↦ taken_x.sign i more lt
          ]
        ];
      };
      meets = λ q ge lt. elim (cases_at q k) [
        | inl below ↦ absurd (omega arith)
        | inr c ↦ elim c [
          | inl same ↦ (let t : dot m (a k) x ≡ dx *ℤ b k = subst (λ (t : ℕ). dot m (a t) x ≡ dx *ℤ b t) new (hx.taken.tight n (omega arith)) in
              let u : (dx *ℤ b k) ≤ℤ dot m (a k) x = omega (arith, ints) in
              subst (λ (t : ℕ). (dx *ℤ b t) ≤ℤ dot m (a t) x) (sym same) u)
          | inr more ↦ hx.meets q more lt
        ]
      ];
      independent = hx.independent;
    }

-- what is owed for fewer rows taken
pub owed_less : (m r : ℕ) (a : ℕ → ℕ → ℤ) (b : ℕ → ℤ) (forced : List ℕ) (from k : ℕ) (e : ℤ) (x : ℕ → ℤ) → from ≤ k → Owed m r a b forced from e x
    → Owed m r a b forced k e x
owed_less m r a b forced from k e x le h = record {
  positive = h.positive;
  tight = h.tight;
  meets = λ q ge lt. h.meets q (omega arith) lt;
  independent =
      h.independent;
}

cross : (d e b q x : ℤ) → e *ℤ (d *ℤ b -ℤ q) +ℤ d *ℤ (x -ℤ e *ℤ b) ≡ d *ℤ x -ℤ e *ℤ q
cross d e b q x = ring (d ∷ e ∷ b ∷ q ∷ x ∷ [])
    (add (mul (var 1) (sub (mul (var 0) (var 2)) (var 3))) (mul (var 0) (sub (var 4) (mul (var 1) (var 2)))))
    (sub (mul (var 0) (var 4)) (mul (var 1) (var 3))) refl

same_rows : (m n : ℕ) (a c : ℕ → ℕ → ℤ) → ((i : ℕ) → i < n → c i ≡ a i) → Independent m n a → Independent m n c
same_rows m n a c e h = record {
  only_zero = λ w z. h.only_zero w (λ j lj. total-same n (λ i. w i *ℤ a i j) (λ i. w i *ℤ c i j)
      (λ i li. ap (λ (f : ℕ → ℤ). w i *ℤ f j) (sym (e i li))) ∙ z j lj);
}

-- what is owed once the violated row is forced: the point between, and the rows are still independent
pub owed_force : (m r : ℕ) (a : ℕ → ℕ → ℤ) (b target weight : ℕ → ℤ) (forced : List ℕ) (k : ℕ) → k < r → (e : ℤ) (x : ℕ → ℤ) → Owed m r a b forced k e x
    → (rows : List ℕ) (d : ℤ) (q mult : ℕ → ℤ) → Near m r a b target weight forced (suc k) rows d q mult → dot m (a k) q <ℤ (d *ℤ b k)
    → let s : ℤ = d *ℤ b k -ℤ dot m (a k) q in let u : ℤ = dot m (a k) x -ℤ e *ℤ b k in
    Owed m r a b (forced ++ k ∷ []) (suc k) (s *ℤ e +ℤ u *ℤ d) (between s x u q)
owed_force m r a b target weight forced k kr e x h rows d q mult hq violated =
    let n : ℕ = length forced in
    let s : ℤ = d *ℤ b k -ℤ dot m (a k) q in
    let u : ℤ = dot m (a k) x -ℤ e *ℤ b k in
    let len : length (forced ++ k ∷ []) ≡ suc n = length_push forced k in
    let dp = hq.solved.positive in
    let ep = h.positive in
    let at_x : (e *ℤ b k) ≤ℤ dot m (a k) x = h.meets k (omega arith) kr in
    let sp : pos 0 <ℤ s = omega (arith, ints) in
    let up : pos 0 ≤ℤ u = omega (arith, ints) in
    let first : (i : ℕ) → i < n → place (forced ++ k ∷ []) i ≡ place forced i = λ i lt. get_or-append forced (k ∷ []) 0 i lt in
    let last : place (forced ++ k ∷ []) n ≡ k = get_or_push forced k 0 n refl in
    let q_tight : (i : ℕ) → i < n → dot m (a (place forced i)) q ≡ d *ℤ b (place forced i)
    = λ i lt. subst (λ (t : ℕ). dot m (a t) q ≡ d *ℤ b t) (hq.starts i lt) (hq.taken.tight i (let p = hq.longer in omega arith)) in
    let z : ℕ → ℤ = gap_of d q e x in
    let flat : (i : ℕ) → i < n → dot m (a (place (forced ++ k ∷ []) i)) z ≡ pos 0 = λ i lt.
    subst (λ (t : ℕ). dot m (a t) z ≡ pos 0) (sym (first i lt))
    (dot-gap m (a (place forced i)) d q e x
    ∙ (let p = ap (λ (t : ℤ). d *ℤ t) (h.tight i lt) in let o = ap (λ (t : ℤ). e *ℤ t) (q_tight i lt) in
    let c : d *ℤ (e *ℤ b (place forced i)) ≡ e *ℤ (d *ℤ b (place forced i)) = swap_mul d e (b (place forced i)) in omega (arith, ints))) in
    let apart_k : ¬ (dot m (a k) z ≡ pos 0) = λ zero_k.
    (let g = dot-gap m (a k) d q e x in
    let p = mul_positive e s ep sp in
    let o = mul_nonneg d u (omega (arith, ints)) up in
    let f : e *ℤ s +ℤ d *ℤ u ≡ d *ℤ dot m (a k) x -ℤ e *ℤ dot m (a k) q = cross d e (b k) (dot m (a k) q) (dot m (a k) x) in
    absurd (omega (arith, ints))) in
    let apart : ¬ (dot m (a (place (forced ++ k ∷ []) n)) z ≡ pos 0) = subst (λ (t : ℕ). ¬ (dot m (a t) z ≡ pos 0)) (sym last) apart_k in
    let ind : Independent m n (λ i. a (place (forced ++ k ∷ []) i)) = same_rows m n (λ i. a (place forced i)) (λ i. a (place (forced ++ k ∷ []) i))
    (λ i lt. ap a (first i lt)) h.independent in
    let both : Independent m (suc n) (λ i. a (place (forced ++ k ∷ []) i)) = independent_more m n (λ i. a (place (forced ++ k ∷ []) i)) z ind flat apart in
    record {
      positive = (let p = mul_positive s e sp ep in let o = mul_nonneg u d up (omega (arith, ints)) in omega (arith, ints));
      tight = λ i lt. elim (lt_or i n (omega arith)) [
        | inl below ↦ subst (λ (t : ℕ). dot m (a t) (between s x u q) ≡ (s *ℤ e +ℤ u *ℤ d) *ℤ b t) (sym (first i below))
            (between_equal m (a (place forced i)) (b (place forced i)) s x u q d e (h.tight i below) (q_tight i below))
        | inr same ↦ subst (λ (t : ℕ). dot m (a t) (between s x u q) ≡ (s *ℤ e +ℤ u *ℤ d) *ℤ b t) (sym (ap (place (forced ++ k ∷ [])) same ∙ last))
            (between_crosses m (a k) (b k) x q d e)
      ];
      meets = λ c ge lt. between_above m (a c) (b c) s x u q d e (omega (arith, ints)) up (h.meets c (omega arith) lt) (hq.meets c ge lt);
      independent = subst (λ (t : ℕ). Independent m t (λ i. a (place (forced ++ k ∷ []) i))) (sym len) both;
    }
