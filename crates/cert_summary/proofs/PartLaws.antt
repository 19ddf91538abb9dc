-- The parts of a certificate without each winner: each is found by its winner, which the choice uses.
use Rattle.std.proofs.Common.{◌≡◌, ℕ, zero, suc, ◌+◌, ◌<◌, ◌≤◌, cond, List, [], ◌∷◌, ◌++◌, length, get_or, take, map, refl, sym, ap, subst, ◌∙◌, arith, eq-eqb}
use Rattle.std.proofs.lemmas.List.{get_or-map, length-map, take_all}
use Rattle.std.specs.List.{AllByRecursion}
use Rattle.auction_model.specs.Book.{Book}
use Rattle.bid_book.proofs.Within.{each_at}
use Rattle.cert_grammar.specs.Certificate.{WithoutValue, part_of}
use Rattle.cert_grammar.specs.CertText.{AreWithouts}
use Rattle.cert_soundness.proofs.TextSizes.{part-later}
use Rattle.cert_text.specs.declared.certificate.Certificate.{Certificate}
use Rattle.cert_text.specs.declared.certificate.WithoutPart.{WithoutPart}
use Rattle.cert_text.specs.CertValues.{cert_value}
use Rattle.cert_text.specs.Parts.{without_value}
use Rattle.choices.specs.declared.chooser.Single.{Single}
use Rattle.choices.specs.Singles.{winners_after}
use Rattle.cert_summary.specs.Facts.{HasFacts, single_of}
use Rattle.cert_summary.specs.Parts.{IsPartOf}
use Rattle.cert_summary.proofs.Winners.{Wins, all-win, each-after, each-of_map}

-- their winners are those of the choice, k bidders being passed
pub parts-are : (b s k : ℕ) (z : List ℕ) (ws : List WithoutValue) → AreWithouts b s (suc k) z ws → map (λ w. w.winner) ws ≡ winners_after k z
parts-are b s k [] [] are = refl
parts-are b s k [] (w ∷ ws) are = absurd are
parts-are b s k (zero ∷ z) ws are = parts-are b s (suc k) z ws are
parts-are b s k (suc n ∷ z) [] are = absurd are
parts-are b s k (suc n ∷ z) (w ∷ ws) are = ap (λ (j : ℕ). j ∷ map (λ w. w.winner) ws) are.0.winner ∙ ap (λ (l : List ℕ). suc k ∷ l)
    (parts-are b s (suc k) z ws are.1)

-- so what holds of each winner holds of the winner of each part
each-part : (T : ℕ → Type 0) (b s k : ℕ) (z : List ℕ) (ws : List WithoutValue) → AreWithouts b s (suc k) z ws → AllByRecursion T (winners_after k z)
    → AllByRecursion (λ w. T w.winner) ws
each-part T b s k z ws are all = each-of_map T (λ (w : WithoutValue). w.winner) ws (subst (AllByRecursion T) (sym (parts-are b s k z ws are)) all)

-- the choice uses the winner of each part
pub parts-win : (b s : ℕ) (z : List ℕ) (ws : List WithoutValue) → AreWithouts b s 1 z ws → AllByRecursion (λ w. Wins z w.winner) ws
parts-win b s z ws are = each-part (Wins z) b s 0 z ws are (all-win z)

-- no part is of an earlier bidder
no_earlier :
    (b s k : ℕ) (z : List ℕ) (ws : List WithoutValue) (i : ℕ) (d : WithoutValue) → AreWithouts b s (suc k) z ws → i < length ws
    → suc k ≤ (get_or ws i d).winner
no_earlier b s k z ws i d are lt = each_at (λ w. suc k ≤ w.winner) ws i d (each-part (λ j. suc k ≤ j) b s k z ws are
    (each-after (λ j. suc k ≤ j) k z (λ n inside some. omega arith))) lt

-- so each is found
found :
    (b s k : ℕ) (z : List ℕ) (ws : List WithoutValue) (i : ℕ) (d : WithoutValue) → AreWithouts b s (suc k) z ws → i < length ws
    → part_of ws (get_or ws i d).winner ≡ get_or ws i d
found b s k [] [] i d are lt = absurd (omega arith)
found b s k [] (w ∷ ws) i d are lt = absurd are
found b s k (zero ∷ z) ws i d are lt = found b s (suc k) z ws i d are lt
found b s k (suc n ∷ z) [] i d are lt = absurd are
found b s k (suc n ∷ z) (w ∷ ws) zero d are lt = ap (λ b. cond b w (part_of ws w.winner)) (eq-eqb w.winner w.winner refl)
found b s k (suc n ∷ z) (w ∷ ws) (suc i) d are lt =
    let later : suc (suc k) ≤ (get_or ws i d).winner = no_earlier b s (suc k) z ws i d are.1 (omega arith) in
    let own : w.winner ≡ suc k = are.0.winner in
    part-later w ws (get_or ws i d).winner (λ e. absurd (omega (arith, later, own, e))) ∙ found b s (suc k) z ws i d are.1 (omega arith)

-- the items of a certificate's list, one by one
module _ (book : Book) (c : Certificate) (items : List WithoutPart) (same : items ≡ c.withouts) where
  -- each item is a part of the certificate, found by its winner
  pub is-part : HasFacts book (cert_value c) → (i : ℕ) (w : WithoutPart) → i < length items → w ≡ get_or items i w → IsPartOf c w
  is-part has i w inside item =
      let ws = (cert_value c).withouts in
      let are = has.certificate.withouts in
      let long : i < length ws = omega (arith, inside, ap (λ (l : List WithoutPart). length l) same, length-map c.withouts without_value) in
      let at : get_or ws i (without_value w) ≡ without_value w =
      get_or-map without_value c.withouts i w (without_value w) (omega (arith, long, length-map c.withouts without_value))
      ∙ ap (λ (l : List WithoutPart). without_value (get_or l i w)) (sym same) ∙ ap without_value (sym item) in
      let wins : Wins c.choice w.winner = subst (λ (x : WithoutValue). Wins c.choice x.winner)
      at (each_at (λ x. Wins c.choice x.winner) ws i (without_value w) (parts-win _ _ c.choice ws are) long) in
      record {
        bidder = (wins.0, wins.1);
        wins = wins.2;
        found = subst (λ (x : WithoutValue). part_of ws x.winner ≡ x) at (found _ _ 0 c.choice ws i (without_value w) are long);
      }

  -- after the last item they are the singles of all parts
  pub all-singles : (i : ℕ) (list : List Single) → length items ≤ i → list ≡ map (single_of book (cert_value c)) (map without_value (take i items))
      → list ≡ map (single_of book (cert_value c)) (cert_value c).withouts
  all-singles i list past are = are ∙ ap (λ (l : List WithoutPart). map (single_of book (cert_value c)) (map without_value l)) (take_all i items past ∙ same)
