-- What the facts of a certificate say of its winners: they are those of the choice, in order, and each has its Vickrey price, which is small.
use Rattle.std.proofs.Common.{◌≡◌, ℕ, ◌≤◌, ◌^◌, cond, List, [], ◌∷◌, map, pos, unsigned_abs, refl, sym, ap, subst, ◌∙◌}
use Rattle.std.specs.List.{AllByRecursion}
use Rattle.auction_model.specs.Book.{Book}
use Rattle.bid_book.specs.Kept.{IsBidBook}
use Rattle.cert_grammar.specs.Certificate.{CertValue, WithoutValue}
use Rattle.cert_soundness.specs.Sound.{cert_prices}
use Rattle.cert_soundness.specs.Tests.{vickrey_of}
use Rattle.choices.specs.declared.chooser.Single.{Single}
use Rattle.choices.specs.Singles.{winners_after}
use Rattle.cert_summary.specs.declared.shown.CertFacts.{CertFacts}
use Rattle.cert_summary.specs.Facts.{AreFacts, single_of}
use Rattle.cert_summary.proofs.Known.{vickrey-small}
use Rattle.cert_summary.proofs.PartLaws.{parts-are, parts-win}
use Rattle.cert_summary.proofs.Winners.{Wins}

same-winners : (book : Book) (c : CertValue) (ws : List WithoutValue) → map (λ (x : Single). x.winner) (map (single_of book c) ws) ≡ map (λ w. w.winner) ws
same-winners book c [] = refl
same-winners book c (w ∷ ws) = ap (λ (l : List ℕ). w.winner ∷ l) (same-winners book c ws)

-- what holds of the single of each part whose winner the choice uses
each-single : (T : Single → Type 0) (book : Book) (c : CertValue) (ws : List WithoutValue) → AllByRecursion (λ w. Wins c.choice w.winner) ws
    → ((w : WithoutValue) → Wins c.choice w.winner → T (single_of book c w)) → AllByRecursion T (map (single_of book c) ws)
each-single T book c [] win h = tt
each-single T book c (w ∷ ws) win h = (h w win.0, each-single T book c ws win.1 h)

module _ (book : Book) (c : CertValue) (facts : CertFacts) (are : AreFacts book c facts) where
  -- the winners of the singles are those of the choice, in order
  pub winners-are : map (λ (s : Single). s.winner) facts.singles ≡ winners_after 0 facts.choice
  winners-are =
      ap (map (λ (s : Single). s.winner)) are.singles ∙ same-winners book c c.withouts ∙ parts-are _ _ 0 c.choice c.withouts are.of.certificate.withouts
      ∙ ap (winners_after 0) (sym are.choice)

  each : (T : Single → Type 0) → ((w : WithoutValue) → Wins c.choice w.winner → T (single_of book c w)) → AllByRecursion T facts.singles
  each T h = subst (AllByRecursion T) (sym are.singles) (each-single T book c c.withouts (parts-win _ _ c.choice c.withouts are.of.certificate.withouts) h)

  -- each single has its winner's Vickrey price
  pub prices-are : AllByRecursion (λ s. s.price ≡ cert_prices book c s.winner) facts.singles
  prices-are = each (λ s. s.price ≡ cert_prices book c s.winner) (λ w wins. sym (ap (λ b. cond b (vickrey_of book c w.winner) (pos 0)) wins.2))

  -- in a book within the limits, no price is larger than 2 ^ 47
  pub prices-small : IsBidBook book → AllByRecursion (λ s. unsigned_abs s.price ≤ 2 ^ 47) facts.singles
  prices-small kept = each (λ s. unsigned_abs s.price ≤ 2 ^ 47) (λ w wins. vickrey-small book c are.of w.winner wins.0 wins.1 wins.2 kept)
