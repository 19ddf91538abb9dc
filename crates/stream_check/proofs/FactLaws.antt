-- The winners of a certificate, each alone, bidder by bidder.
use Rattle.std.proofs.Common.{◌≡◌, ℕ, zero, suc, ◌+◌, ◌<◌, ◌≤◌, cond, List, [], ◌∷◌, ◌++◌, length, drop, map, refl, sym, ap, ◌∙◌, arith}
use Rattle.std.proofs.lemmas.Bool.{eq-eqb}
use Rattle.std.proofs.lemmas.List.{append-nil, drop_all}
use Rattle.auction_model.specs.Book.{Book}
use Rattle.cert_summary.specs.Facts.{single_of}
use Rattle.cert_grammar.specs.Certificate.{CertValue, WithoutValue, part_of}
use Rattle.cert_grammar.specs.CertText.{AreWithouts, IsCertificate}
use Rattle.cert_soundness.specs.Tests.{vickrey_of}
use Rattle.cert_soundness.proofs.TextSizes.{part-later}
use Rattle.choices.specs.declared.chooser.Single.{Single}
use Rattle.stream_check.specs.WholeRoom.{single_at}

module _ (book : Book) (c : CertValue) where
  -- the winners after the first k bidders, whose numbers these are
  abbrev pub singles_behind : ℕ → List ℕ → List Single
  singles_behind k [] = []
  singles_behind k (zero ∷ ns) = singles_behind (suc k) ns
  singles_behind k (suc n ∷ ns) = single_at book c (suc k) ∷ singles_behind (suc k) ns

  -- they are those of the parts, in order
  singles-are : (b s k : ℕ) (ns : List ℕ) (ws : List WithoutValue) → AreWithouts b s (suc k) ns ws → ((j : ℕ) → k < j → part_of ws j ≡ part_of c.withouts j)
      → singles_behind k ns ≡ map (single_of book c) ws
  singles-are b s k [] [] are same = refl
  singles-are b s k [] (w ∷ ws) are same = absurd are
  singles-are b s k (zero ∷ ns) ws are same = singles-are b s (suc k) ns ws are (λ j lt. same j (omega (arith, lt)))
  singles-are b s k (suc n ∷ ns) [] are same = absurd are
  singles-are b s k (suc n ∷ ns) (w ∷ ws) are same =
      let own : w.winner ≡ suc k = are.0.winner in
      let part : part_of c.withouts (suc k) ≡ w = sym (same (suc k) (omega arith)) ∙ ap (λ b. cond b w (part_of ws (suc k))) (eq-eqb w.winner (suc k) own) in
      let alone : single_at book c (suc k) ≡ single_of book c w = one (suc k) w own part in
      let rest = singles-are b s (suc k) ns ws are.1 (λ j lt. sym (part-later w ws j (λ e. omega (arith, own, e, lt))) ∙ same j (omega (arith, lt))) in
      ap (λ (x : Single). x ∷ singles_behind (suc k) ns) alone ∙ ap (λ (l : List Single). single_of book c w ∷ l) rest
    where
      one : (j : ℕ) (w : WithoutValue) → w.winner ≡ j → part_of c.withouts j ≡ w → single_at book c j ≡ single_of book c w
      one j w own part =
          ap (λ (p : WithoutValue). record { winner = j; price = vickrey_of book c j; choice = p.choice }) part
          ∙ ap (λ (i : ℕ). record { winner = i; price = vickrey_of book c i; choice = w.choice }) (sym own)

  -- the winners of the head's choice are those of the parts
  pub all-singles : (b s : ℕ) → IsCertificate b s c → singles_behind 0 c.choice ≡ map (single_of book c) c.withouts
  all-singles b s kept = singles-are b s 0 c.choice c.withouts kept.withouts (λ j lt. refl)

  -- one number more
  module _ (choice : List ℕ) (k : ℕ) (lt : k < length choice) (done all : List Single) (before : done ++ singles_behind k (drop k choice) ≡ all) where
    further : singles_behind (suc k) (drop (k + 1) choice) ≡ singles_behind (k + 1) (drop (k + 1) choice)
    further = ap (λ (n : ℕ). singles_behind n (drop (k + 1) choice)) {x = suc k} {y = k + 1} (omega arith)

  -- no number is left
  pub singles-done : (b s : ℕ) → IsCertificate b s c → (choice : List ℕ) → c.choice ≡ choice → (done : List Single) (k : ℕ) → length choice ≤ k
      → done ++ singles_behind k (drop k choice) ≡ singles_behind 0 choice → done ≡ map (single_of book c) c.withouts
  singles-done b s kept choice is done k past all =
      sym (append-nil done)
      ∙ ap (λ (l : List ℕ). done ++ singles_behind k l) (sym (drop_all k choice past))
      ∙ all
      ∙ ap (singles_behind 0) (sym is)
      ∙ all-singles b s kept
