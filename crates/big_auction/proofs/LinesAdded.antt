-- Lines that are added to a text, one after another.
use Rattle.std.proofs.Common.{◌≡◌, ℕ, suc, ◌+◌, ◌-◌, ◌*◌, ◌<◌, List, [], ◌∷◌, ◌++◌, length, map, get_or, refl, sym, ◌∙◌, ap, arith}
use Rattle.std.proofs.lemmas.List.{append-nil, append_assoc}
use Rattle.std.proofs.lemmas.List.Concat.{flat_map-append}
use Rattle.auction_rules.specs.declared.Event.{Event}
use Rattle.auction_rules.specs.declared.Event.TheVariants.{Bid, Draft}
use Rattle.big_auction.specs.declared.values.Lots.{Lots}
use Rattle.big_auction.specs.Draws.{advanced, drawn, drawn_package}
use Rattle.big_auction.specs.LogText.{event_text, log_text}
use Rattle.big_auction.specs.MadeLog.{amount_of, drawn_draft, drawn_drafts}
use Rattle.big_auction.specs.Parts.{counts_of, bids_for}
use Rattle.big_auction.proofs.Asking.{package_at, package-is}
use Rattle.big_auction.proofs.Drawing.{behind-none, behind-behind, drawn-next}

-- the text of lines and more lines is both their texts
pub log_text-append : (xs ys : List Event) → log_text (xs ++ ys) ≡ log_text xs ++ log_text ys
log_text-append xs ys = flat_map-append event_text xs ys

-- the text of lines and one more is theirs and that of the one
pub log_text-more : (xs : List Event) (e : Event) → log_text (xs ++ e ∷ []) ≡ log_text xs ++ event_text e
log_text-more xs e = flat_map-append event_text xs (e ∷ []) ∙ ap (λ (t : List ℕ). log_text xs ++ t) (append-nil (event_text e))

-- one line more
pub added : (old now new : List ℕ) (xs : List Event) (e : Event) → now ≡ old ++ log_text xs → new ≡ now ++ event_text e → new ≡ old ++ log_text (xs ++ e ∷ [])
added old now new xs e was is =
    is ∙ ap (λ (t : List ℕ). t ++ event_text e) was ∙ append_assoc old (log_text xs) (event_text e) ∙ ap (λ (t : List ℕ). old ++ t) (sym (log_text-more xs e))

-- more lines
pub added-more : (old now new : List ℕ) (xs ys : List Event) → now ≡ old ++ log_text xs → new ≡ now ++ log_text ys → new ≡ old ++ log_text (xs ++ ys)
added-more old now new xs ys was is =
    is ∙ ap (λ (t : List ℕ). t ++ log_text ys) was ∙ append_assoc old (log_text xs) (log_text ys) ∙ ap (λ (t : List ℕ). old ++ t) (sym (log_text-append xs ys))

-- no lines add nothing to a text
pub added-none : (text : List ℕ) → text ≡ text ++ log_text []
added-none text = sym (append-nil text)

-- ---- clock bids

-- the clock bid of one bidder more
pub bids-more : (xs : List Lots) (i : ℕ) (p : Lots) (old now new : List ℕ) → i < length xs → p ≡ get_or xs i p
    → now ≡ old ++ log_text (bids_for (map counts_of xs) i)
    → new ≡ now ++ event_text (Bid (i + 1) (counts_of p)) → new ≡ old ++ log_text (bids_for (map counts_of xs) (i + 1))
bids-more xs i p old now new low is was added_one =
    let next : i + 1 ≡ suc i = omega arith in
    let one : counts_of p ≡ package_at xs (suc i) = ap counts_of is ∙ sym (package-is xs i p low) in
    let line : Bid (i + 1) (counts_of p) ≡ Bid (suc i) (package_at xs (suc i)) = ap (λ (k : ℕ). Bid k (counts_of p)) next ∙ ap (Bid (suc i)) one in
    added old now new (bids_for (map counts_of xs) i) (Bid (suc i) (package_at xs (suc i))) was (added_one ∙ ap (λ (e : Event). now ++ event_text e) line)
    ∙ ap (λ (n : ℕ). old ++ log_text (bids_for (map counts_of xs) n)) (sym next)

-- ---- drafts

-- a draft with a package of four draws and an amount by the fifth is the drawn one
pub draft-same : (s s4 k : ℕ) (prices own final lots : List ℕ) (d a : ℕ) → s4 ≡ advanced s 4 → lots ≡ drawn_package s own → d ≡ drawn s4 1 501
    → a ≡ amount_of prices own final lots (500 + d)
    → Draft k lots a ≡ drawn_draft s prices k own final
draft-same s s4 k prices own final lots d a fourth are drew is =
    let fifth : d ≡ drawn s 5 501 = drawn-next s s4 4 d 501 fourth drew in
    ap (Draft k lots) (is ∙ ap (λ (d : ℕ). amount_of prices own final lots (500 + d)) fifth)
    ∙ ap (λ (lots : List ℕ). Draft k lots (amount_of prices own final lots (500 + drawn s 5 501))) are

-- before the first draft there are none
pub no-drafts : (s k : ℕ) (prices own final : List ℕ) → drawn_drafts s prices k own final 0 ≡ []
unfolding drawn_drafts
no-drafts s k prices own final = refl

-- one draft more is drawn from the state after five draws for each before it
pub drafts-more : (s k i : ℕ) (prices own final : List ℕ) → drawn_drafts s prices k own final (i + 1) ≡ drawn_drafts s prices k own final i
    ++ drawn_draft (advanced s (5 * i)) prices k own final ∷ []
unfolding drawn_drafts
drafts-more s k i prices own final =
    let next : i + 1 ≡ suc i = omega arith in
    let e : suc i - 1 ≡ i = omega arith in
    ap (drawn_drafts s prices k own final) next ∙ ap (λ (j : ℕ). drawn_drafts s prices k own final i
    ++ drawn_draft (advanced s (5 * j)) prices k own final ∷ []) e

-- that many drafts were added, and drawn
pub record IsDrafted (s k : ℕ) (prices own final : List ℕ) (i state : ℕ) (old now : List ℕ) : Type 0 where
  pub text : now ≡ old ++ log_text (drawn_drafts s prices k own final i)
  pub drew : state ≡ advanced s (5 * i)

-- before the first draft nothing was added, and nothing drawn
pub drafted-none : (s k : ℕ) (prices own final old : List ℕ) → IsDrafted s k prices own final 0 s old old
drafted-none s k prices own final old = record {
  text = added-none old ∙ ap (λ (es : List Event). old ++ log_text es) (sym (no-drafts s k prices own final));
  drew = sym (behind-none s);
}

-- one draft more was added, and five draws more
pub drafted-more : (s k : ℕ) (prices own final : List ℕ) (i state next : ℕ) (old now new : List ℕ) → IsDrafted s k prices own final i state old now
    → new ≡ now ++ event_text (drawn_draft state prices k own final) → next ≡ advanced state 5 → IsDrafted s k prices own final (i + 1) next old new
drafted-more s k prices own final i state next old now new d is after =
    let e : 5 * i + 5 ≡ 5 * (i + 1) = omega arith in
    record {
      text = added old now new (drawn_drafts s prices k own final i) (drawn_draft (advanced s (5 * i)) prices k own final) d.text
          (is ∙ ap (λ (x : ℕ). now ++ event_text (drawn_draft x prices k own final)) d.drew)
          ∙ ap (λ (es : List Event). old ++ log_text es) (sym (drafts-more s k i prices own final));
      drew = after ∙ ap (λ (x : ℕ). advanced x 5) d.drew ∙ behind-behind s (5 * i) 5 ∙ ap (advanced s) e;
    }

-- that many draws after a bidder's 100 drafts are 500 more from where they began
pub state-behind : (s k state next more : ℕ) (prices own final old now : List ℕ) → IsDrafted s k prices own final 100 state old now → next ≡ advanced state more
    → next ≡ advanced s (500 + more)
state-behind s k state next more prices own final old now d after = after ∙ ap (λ (x : ℕ). advanced x more) d.drew ∙ behind-behind s 500 more
