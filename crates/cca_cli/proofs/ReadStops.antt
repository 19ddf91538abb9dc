-- Why an input has no value.
use Rattle.std.proofs.Common.{inl, inr, ◌≡◌, ℕ, ◌≤◌, List, [], length, refl, arith}
use Rattle.std.specs.Prelude.{IfErr, IsSome, Result, Ok, Err, ◌⊎◌}
use Rattle.cca_base.specs.Faults.{Rose}
use Rattle.cca_base.specs.Files.{Folder, GaveAll, GaveMore}
use Rattle.cca_base.specs.declared.read.ReadStop.{ReadStop}
use Rattle.cca_base.specs.declared.read.ReadStop.TheVariants as read
use Rattle.cca_base.proofs.Given.{front_none, front_some, keeps_still, some_file}
use Rattle.cca_cli.specs.Reading.{InputStops, IsStop, OnlyLoads}
use Rattle.cca_cli.specs.Stops.{read_status}
use Rattle.cca_cli.specs.declared.status.FileKind.{FileKind}
use Rattle.cca_cli.specs.declared.status.Status.{Status}
use Rattle.cca_cli.specs.declared.status.Status.TheVariants.{Memory}

module _ (kind : FileKind) (most : ℕ) (halts : List ℕ → Status → Type 0) (name : List ℕ) (old new : Folder) where
  -- the file isn't read whole
  pub stops-read : (stop : ReadStop) → (stop ≡ read.Fault → Rose (old.load_faults name) (new.load_faults name))
      → (IsSome (old.room name) → stop ≡ read.Fault → ⊥)
      → (stop ≡ read.TooLong → GaveMore name old new most) → InputStops kind most halts name old new (read_status kind most stop)
  stops-read read.Fault fault none long = inr (inl (refl, fault refl, λ some. none some refl))
  stops-read read.TooLong fault none long = inr (inr (
    tt,
    λ files agrees.
        let f = some_file (files name) _ (long refl files agrees) in
        record { bytes = f.0; here = f.1; text = λ short. absurd (let over = f.2 in omega (arith, over, short)); long = λ more. refl },
  ))
  stops-read read.Memory fault none long = inl refl

  -- its bytes stop the run
  pub stops-value : {V : Type 0} (bytes : List ℕ) (r : Result V Status) → IfErr r (λ s. (s ≡ Memory) ⊎ (IsStop s × halts bytes s))
      → GaveAll name old new bytes → length bytes ≤ most
      → IfErr r (InputStops kind most halts name old new)
  stops-value bytes (Ok v) stop all short = tt
  stops-value bytes (Err s) stop all short = elim stop [
    | inl memory ↦ inl memory
    | inr x ↦ inr (inr (
      x.0,
      λ files agrees. record { bytes = bytes; here = all.held files agrees; text = λ less. x.1; long = λ more. absurd (omega (arith, short, more)) },
    ))
  ]

-- a stop of reading for which memory is wanting
pub memory-read : (kind : FileKind) (most : ℕ) (stop : ReadStop) → read_status kind most stop ≡ Memory → stop ≡ read.Memory
memory-read kind most read.Fault is = absurd cc
memory-read kind most read.TooLong is = absurd cc
memory-read kind most read.Memory is = refl

-- before any load
pub loads-none : (name : List ℕ) (old : Folder) → OnlyLoads name old old
loads-none name old = record {
  kept = keeps_still old;
  count = record { here = omega arith; elsewhere = λ other ne. refl };
  appends = refl;
  some = front_some name old old [] (front_none name old);
}
