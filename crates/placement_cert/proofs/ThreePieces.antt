-- Three pieces of a text, one after another.
use Rattle.std.specs.Prelude.{ℕ, List, [], ◌++◌}
use Rattle.cert_grammar.specs.Lines.{Kind, Line}
use Rattle.cert_text.specs.Readers.{Leads, Halts}
use Rattle.cert_text.specs.declared.stop.CertStop.{CertStop}
use Rattle.cert_text.proofs.PlanSteps.{leads_then, halts_before, halts_then}

module _ (bytes : List ℕ) (place : ℕ) (xs ys zs : List Kind) where
  -- the first isn't there
  pub first_halts : (stop : CertStop) → Halts bytes place xs stop → Halts bytes place (xs ++ (ys ++ zs)) stop
  first_halts stop h = halts_before bytes place xs stop (ys ++ zs) h

  module _ (n1 : ℕ) (one : List Line) (a : Leads bytes place xs n1 [] one) where
    -- the second isn't there
    pub second_halts : (stop : CertStop) → Halts bytes n1 ys stop → Halts bytes place (xs ++ (ys ++ zs)) stop
    second_halts stop h = halts_then bytes place xs n1 one (ys ++ zs) stop a (halts_before bytes n1 ys stop zs h)

    module _ (n2 : ℕ) (two : List Line) (b : Leads bytes n1 ys n2 [] two) where
      -- the third isn't there
      pub third_halts : (stop : CertStop) → Halts bytes n2 zs stop → Halts bytes place (xs ++ (ys ++ zs)) stop
      third_halts stop h = halts_then bytes place xs n1 one (ys ++ zs) stop a (halts_then bytes n1 ys n2 two zs stop b h)

      -- all three are there
      pub all_lead : (n3 : ℕ) (three : List Line) → Leads bytes n2 zs n3 [] three → Leads bytes place (xs ++ (ys ++ zs)) n3 [] (one ++ (two ++ three))
      all_lead n3 three c = leads_then bytes place xs n1 one (ys ++ zs) n3 (two ++ three) a (leads_then bytes n1 ys n2 two zs n3 three b c)
