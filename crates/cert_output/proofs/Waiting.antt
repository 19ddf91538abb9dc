-- Bytes that wait for an append, and texts that come after them.
use Rattle.std.proofs.Common.{IsTrue, List, [], ap, append_assoc, length, refl, subst, sym, take, ℕ, ◌++◌, ◌∙◌, ◌≡◌, ◌≤◌}
use Rattle.std.proofs.lemmas.List.{append-nil}
use Rattle.std.specs.Prelude.{Result, Ok, Err}
use Rattle.cca_base.specs.Files.{Folder}
use Rattle.cert_output.specs.Writes.{AddsAll, AddsSome, Passes, TakesText}
use Rattle.cert_output.specs.declared.write.CutShort.{CutShort}
use Rattle.cert_output.proofs.Joined.{all-both, all-none, known-on, some-later, some-longer}

module _ (name : List ℕ) (a b c : Folder) (before mid : List ℕ) (xs ys : List ℕ) where
  passes-both : (now : List ℕ) → Passes name a b before mid xs → Passes name b c mid now ys → Passes name a c before now (xs ++ ys)
  passes-both now first next = record {
    sent = first.sent ++ next.sent;
    adds = all-both name a b c first.sent next.sent first.adds next.adds;
    split = sym (append_assoc before xs ys) ∙ ap (λ (l : List ℕ). l ++ ys) first.split ∙ append_assoc first.sent mid ys
        ∙ ap (λ (l : List ℕ). first.sent ++ l) next.split ∙ sym (append_assoc first.sent next.sent now);
  }

  stops-later : Passes name a b before mid xs → AddsSome name b c (mid ++ ys) → AddsSome name a c (before ++ (xs ++ ys))
  stops-later first stop =
      let whole : first.sent ++ (mid ++ ys) ≡ before ++ (xs ++ ys) =
      sym (append_assoc first.sent mid ys) ∙ ap (λ (l : List ℕ). l ++ ys) (sym first.split) ∙ append_assoc before xs ys in
      subst (AddsSome name a c) whole (some-later name a b c first.sent (mid ++ ys) first.adds stop)

  -- a text, and then another
  pub takes-both : (room : List ℕ) (r : Result ℕ CutShort) → Passes name a b before mid xs → TakesText name b c mid room ys r
      → TakesText name a c before room (xs ++ ys) r
  takes-both room (Ok n) first next = (next.0, passes-both (take n room) first next.1)
  takes-both room (Err stop) first next = stops-later first next

-- a text that stopped is the prefix of a longer one
pub stops-longer : (name : List ℕ) (a b : Folder) (before xs ys : List ℕ) → AddsSome name a b (before ++ xs) → AddsSome name a b (before ++ (xs ++ ys))
stops-longer name a b before xs ys stop = subst (AddsSome name a b) (append_assoc before xs ys) (some-longer name a b (before ++ xs) ys stop)

-- all that waited was appended
pub passes-all : (name : List ℕ) (a b : Folder) (before : List ℕ) → AddsAll name a b before → Passes name a b before [] []
passes-all name a b before all = record { sent = before; adds = all; split = refl }

-- the text waits after what waited
pub passes-none : (name : List ℕ) (a : Folder) (before now text : List ℕ) → now ≡ before ++ text → Passes name a a before now text
passes-none name a before now text is = record { sent = []; adds = all-none name a; split = sym is }

-- nothing waited, and the text was appended
pub passes-by : (name : List ℕ) (a b : Folder) (text : List ℕ) → AddsAll name a b text → Passes name a b [] [] text
passes-by name a b text all = record { sent = text; adds = all; split = sym (append-nil text) }

-- where nothing waits at the end, all of it was added
pub sent-all : (name : List ℕ) (a b c : Folder) (now text : List ℕ) → Passes name a b [] now text → AddsAll name b c now → AddsAll name a c text
sent-all name a b c now text first last =
    subst (AddsAll name a c) (sym first.split) (all-both name a b c first.sent now first.adds last)

pub sent-some : (name : List ℕ) (a b c : Folder) (now text : List ℕ) → Passes name a b [] now text → AddsSome name b c now → AddsSome name a c text
sent-some name a b c now text first last =
    subst (AddsSome name a c) (sym first.split) (some-later name a b c first.sent now first.adds last)

-- A loop that adds a text piece by piece has this rest of it before it.
pub record IsSoFar (name : List ℕ) (old now : Folder) (before room : List ℕ) (waiting : ℕ) (rest whole : List ℕ) : Type 0 where
  pub done : List ℕ
  pub known : IsTrue (now.knows name)
  pub within : waiting ≤ length room
  pub passes : Passes name old now before (take waiting room) done
  pub split : done ++ rest ≡ whole

pub so-far-begins : (name : List ℕ) (a : Folder) (room : List ℕ) (waiting : ℕ) (whole : List ℕ) → IsTrue (a.knows name) → waiting ≤ length room
    → IsSoFar name a a (take waiting room) room waiting whole whole
so-far-begins name a room waiting whole known within = record {
  done = [];
  known = known;
  within = within;
  passes = passes-none name a (take waiting room) (take waiting room) [] (sym (append-nil (take waiting room)));
  split = refl;
}

module _ (name : List ℕ) (a b : Folder) (before room : List ℕ) (waiting : ℕ) (rest whole : List ℕ) where
  -- one piece more
  pub so-far-goes-on : (c : Folder) (made : List ℕ) (n : ℕ) (piece later : List ℕ) → rest ≡ piece ++ later
      → IsSoFar name a b before room waiting rest whole → (n ≤ length made) × Passes name b c (take waiting room) (take n made) piece
      → IsSoFar name a c before made n later whole
  so-far-goes-on c made n piece later splits so_far step = record {
    done = so_far.done ++ piece;
    known = known-on name b c step.1.sent step.1.adds so_far.known;
    within = step.0;
    passes = passes-both name a b c before (take waiting room) so_far.done piece (take n made) so_far.passes step.1;
    split = append_assoc so_far.done piece later ∙ ap (λ (l : List ℕ). so_far.done ++ l) (sym splits) ∙ so_far.split;
  }

  -- an append failed in the next piece
  pub so-far-stops : (c : Folder) (piece later : List ℕ) → rest ≡ piece ++ later → IsSoFar name a b before room waiting rest whole
      → AddsSome name b c (take waiting room ++ piece) → AddsSome name a c (before ++ whole)
  so-far-stops c piece later splits so_far stop =
      let all : so_far.done ++ (piece ++ later) ≡ whole = ap (λ (l : List ℕ). so_far.done ++ l) (sym splits) ∙ so_far.split in
      subst (λ (l : List ℕ). AddsSome name a c (before ++ l)) all
      (stops-later name a b c before (take waiting room) so_far.done (piece ++ later) so_far.passes
      (stops-longer name b c (take waiting room) piece later stop))

  -- nothing is left
  pub so-far-ends : rest ≡ [] → IsSoFar name a b before room waiting rest whole
      → (waiting ≤ length room) × Passes name a b before (take waiting room) whole
  so-far-ends none so_far =
      let all : so_far.done ≡ whole = sym (append-nil so_far.done) ∙ ap (λ (l : List ℕ). so_far.done ++ l) (sym none) ∙ so_far.split in
      (so_far.within, subst (Passes name a b before (take waiting room)) all so_far.passes)
