-- Texts by a plan: the plan says which line is to come, and a line that has come may put more into the plan.
use Rattle.std.specs.Prelude.{◌≡◌, ℕ, ◌+◌, Bool, Option, Some, None, List, [], ◌∷◌, ◌++◌, length, if◌then◌else◌}

module _ {K I : Type 0} (Fits : K → I → Type 0) (after : K → I → List K) where
  -- the lines are the plan's, to its end
  abbrev pub Follows : List K → List I → Type 0
  Follows [] [] = Unit {0}
  Follows [] (i ∷ is) = ⊥
  Follows (k ∷ ks) [] = ⊥
  Follows (k ∷ ks) (i ∷ is) = Fits k i × Follows (after k i ++ ks) is

module _ {I : Type 0} (spell : I → List ℕ) (over : I → Bool) where
  abbrev pub mark : ℕ → I → Option ℕ
  mark place i = if over i then Some place else None

  abbrev pub next_place : ℕ → I → ℕ
  next_place place i = place + (length (spell i) + 1)

  -- the lines from this place on, and for a line with a number out of range its place
  abbrev pub placed : ℕ → List I → List (List ℕ × Option ℕ)
  placed place [] = []
  placed place (i ∷ is) = (spell i, mark place i) ∷ placed (next_place place i) is

  -- the place after the lines
  abbrev pub end_place : ℕ → List I → ℕ
  end_place place [] = place
  end_place place (i ∷ is) = end_place (next_place place i) is

  -- the mark of the last of the lines
  abbrev pub last_mark : ℕ → Option ℕ → List I → Option ℕ
  last_mark place before [] = before
  last_mark place before (i ∷ is) = last_mark (next_place place i) (mark place i) is

-- what a reader has after it, and the plan of what is to come
pub record Stage (K I : Type 0) : Type 0 where
  pub plan : List K
  pub items : List I
  pub place : ℕ
  pub over : Option ℕ

module _ {K I : Type 0} (Fits : K → I → Type 0) (after : K → I → List K) (spell : I → List ℕ) (over : I → Bool) where
  -- the next line of the plan
  pub record StepTo (s : Stage K I) (line : List ℕ) (t : Stage K I) : Type 0 where
    pub kind : K
    pub rest : List K
    pub item : I
    pub first : s.plan ≡ kind ∷ rest
    pub fits : Fits kind item
    pub spelled : line ≡ spell item
    pub next : t ≡ record { plan = after kind item ++ rest; items = s.items ++ item ∷ []; place = next_place spell over s.place item; over = mark spell over s.place item }

abbrev pub excess : {K I : Type 0} → Stage K I → Option ℕ
excess s = s.over

abbrev pub begin : {K I : Type 0} → List K → Stage K I
begin plan = record { plan = plan; items = []; place = 0; over = None }

abbrev pub finish : {K I : Type 0} → (I → List ℕ) → (I → Bool) → List I → Stage K I
finish spell over items = record { plan = []; items = items; place = end_place spell over 0 items; over = last_mark spell over 0 None items }
