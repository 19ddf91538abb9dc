-- Two texts that are put one after the other.
use Rattle.std.proofs.Common.{Bool, List, None, Option, Some, ap, append_assoc, arith, false, inr, length, refl, subst, sym, take, true, ℕ, ◌++◌, ◌+◌}
use Rattle.std.proofs.Common.{◌-◌, ◌∙◌, ◌≡◌, ◌≤◌}
use Rattle.std.specs.Option.{option_map, IfSome}
use Rattle.std.proofs.lemmas.List.{length-append, take-append-le}
use Rattle.std.proofs.Math.Seq.{take-length, take-append-add}
use Rattle.cca_base.specs.Sink.{HasRoom, Output, Puts}
use Rattle.cca_cli.specs.declared.status.FileKind.TheVariants.{Out}
use Rattle.cca_cli.specs.declared.status.Status.{Status}
use Rattle.cca_cli.specs.declared.status.Status.TheVariants.{WriteFault}
use Rattle.cca_run.specs.Run.{Prints}
use Rattle.cca_run.specs.Ends.{Written}
use Rattle.cca_commands.proofs.Counts.{rose-from}

grown : (a b : List ℕ) (n : ℕ) (x y z : List ℕ) → y ≡ x ++ take (length a) a → z ≡ y ++ take n b → z ≡ x ++ take (length a + n) (a ++ b)
grown a b n x y z is then =
    then ∙ ap (λ (u : List ℕ). u ++ take n b) is
    ∙ append_assoc x (take (length a) a) (take n b) ∙ ap (λ (p : List ℕ). x ++ p)
    (ap (λ (p : List ℕ). p ++ take n b) (take-length a) ∙ sym (take-append-add a b n))

left : (m n : ℕ) (x y z : Option ℕ) → y ≡ option_map (λ r. r - m) x → z ≡ option_map (λ r. r - n) y → z ≡ option_map (λ r. r - (m + n)) x
left m n None y z is then = then ∙ ap (option_map (λ r. r - n)) is
left m n (Some r) y z is then = then ∙ ap (option_map (λ r. r - n)) is ∙ ap Some (omega arith)

-- what fits beside the first fits in all
fit : (m n : ℕ) (x y : Option ℕ) → y ≡ option_map (λ r. r - m) x → IfSome x (λ r. m ≤ r) → IfSome y (λ r. n ≤ r) → IfSome x (λ r. m + n ≤ r)
fit m n None y is one other = cc
fit m n (Some r) y is one other = let rest : n ≤ r - m = subst (λ (o : Option ℕ). IfSome o (λ k. n ≤ k)) is other in omega (arith, one, rest)

-- the first whole, and of the second that many bytes
puts-on : (old mid new : Output) (a b : List ℕ) (n : ℕ) → Puts old mid a (length a) → Puts mid new b n → Puts old new (a ++ b) (length a + n)
puts-on old mid new a b n p q = record {
  bytes = grown a b n old.bytes mid.bytes new.bytes p.bytes q.bytes;
  fits = fit (length a) n old.room mid.room p.room p.fits q.fits;
  room = left (length a) n old.room mid.room new.room p.room q.room;
}

-- a prefix of the first
puts-first : (old new : Output) (a b : List ℕ) (n : ℕ) → n ≤ length a → Puts old new a n → Puts old new (a ++ b) n
puts-first old new a b n le p = record { bytes = p.bytes ∙ ap (λ (t : List ℕ). old.bytes ++ t) (sym (take-append-le n a b le)); fits = p.fits; room = p.room }

-- room for both is room for the first
room-first : (room : Option ℕ) (a b : List ℕ) → HasRoom room (length (a ++ b)) → HasRoom room (length a)
room-first None a b has = has
room-first (Some r) a b has = omega (arith, has, length-append a b)

-- and, after the first, for the second
room-behind : (x y : Option ℕ) (a b : List ℕ) → y ≡ option_map (λ r. r - length a) x → HasRoom x (length (a ++ b)) → HasRoom y (length b)
room-behind None y a b is has = absurd has
room-behind (Some r) y a b is has = subst (λ (o : Option ℕ). HasRoom o (length b)) (sym is) (omega (arith, has, length-append a b))

-- the first wasn't written whole
pub first-fails : (old new : Output) (a b : List ℕ) (status : Status) (whole : Bool) → whole ≡ false → Written old new a whole
    → Prints old new (a ++ b) status (WriteFault Out)
first-fails old new a b status whole is written = by (subst (Written old new a) is written)
  where
    by : Written old new a false → Prints old new (a ++ b) status (WriteFault Out)
    by w = let cut = w.1 in
        inr (
          refl,
          w.0,
          (
            cut.0,
            (let l = cut.1 in omega (arith, l, length-append a b)),
            puts-first old new a b cut.0
                (let l = cut.1 in omega (arith, l)) cut.2,
          ),
          λ has. w.2 (room-first old.room a b has),
        )

-- the second wasn't written whole
pub second-fails : (old mid new : Output) (a b : List ℕ) (status : Status) (one whole : Bool) → old.faults ≤ mid.faults → one ≡ true → whole ≡ false
    → Written old mid a one → Written mid new b whole
    → Prints old new (a ++ b) status (WriteFault Out)
second-fails old mid new a b status one whole le first is p q = by (subst (Written old mid a) first p) (subst (Written mid new b) is q)
  where
    by : Written old mid a true → Written mid new b false → Prints old new (a ++ b) status (WriteFault Out)
    by p w = let cut = w.1 in
        inr (
          refl,
          rose-from old.faults mid.faults new.faults le w.0,
          (
            length a + cut.0,
            (let l = cut.1 in omega (arith, l, length-append a b)),
            puts-on old mid new a b cut.0 p cut.2,
          ),
          λ has. w.2 (room-behind old.room mid.room a b p.room has),
        )
