-- Counts of faults among the files of a command.
use Rattle.std.proofs.Common.{inl, inr, ◌∙◌, ℕ, ◌≤◌, List, refl, sym, subst, arith}
use Rattle.std.specs.Prelude.{Contains}
use Rattle.std.specs.Str.{bytes_eq}
use Rattle.std.proofs.lemmas.Bool.{true≢false, cases_Bool}
use Rattle.std.proofs.lemmas.Slice.Eq.{bytes_eq-Decides}
use Rattle.cca_base.specs.Faults.{Rose}
use Rattle.cca_base.specs.Files.{CountsOnly}
use Rattle.cca_commands.specs.ReadFaults.{CountsAmong}

-- counts that stay rise for these names at most
pub among-none : (names : List (List ℕ)) (f : List ℕ → ℕ) → CountsAmong names f f
among-none names f = record { not_less = λ name. omega arith; elsewhere = λ name out. refl }

-- so do counts that rise for one of the names at most
pub among-one : (names : List (List ℕ)) (name : List ℕ) (old new : List ℕ → ℕ) → Contains names name → CountsOnly name old new → CountsAmong names old new
among-one names name old new within c = record {
  not_less = λ other. elim (cases_Bool (bytes_eq other name)) [
    | inl same ↦ subst (λ (n : List ℕ). old n ≤ new n) (sym ((bytes_eq-Decides other name).0 same)) c.here
    | inr apart ↦ (let e = c.elsewhere other (λ is. true≢false (sym ((bytes_eq-Decides other name).1 is) ∙ apart)) in omega (arith, e))
  ];
  elsewhere = λ other out. c.elsewhere other (λ is. out (subst (Contains names) (sym is) within));
}

-- and counts that rise for the names at most, twice in turn
pub among-then : (names : List (List ℕ)) (old mid new : List ℕ → ℕ) → CountsAmong names old mid → CountsAmong names mid new → CountsAmong names old new
among-then names old mid new a b = record {
  not_less = λ name. let x = a.not_less name in let y = b.not_less name in omega (arith, x, y);
  elsewhere = λ name out. b.elsewhere name out ∙ a.elsewhere name out;
}

-- a count that rose from the later number rose from the earlier one
pub rose-from : (a b c : ℕ) → a ≤ b → Rose b c → Rose a c
rose-from a b c le rose small = let r = rose small in omega (arith, le, r)
