-- The lines that the program adds are those of the made log.
use Rattle.std.proofs.Common.{List, [], ap, arith, get_or, inl, inr, length, length-append, map, min, refl, subst, suc, sym, zero, ℕ, ◌*◌, ◌++◌, ◌+◌}
use Rattle.std.proofs.Common.{◌-◌, ◌<◌, ◌∙◌, ◌∷◌, ◌≡◌, ◌≤◌}
use Rattle.std.specs.Prelude.{flat_map, nat_le, if◌then◌else◌, slice_index, slice_index_or}
use Rattle.std.specs.List.{AllByRecursion}
use Rattle.std.proofs.lemmas.Bool.{cases_Bool, cases_lt, le-leb, lt-leb}
use Rattle.std.proofs.lemmas.List.{append-nil, map-append}
use Rattle.std.proofs.lemmas.List.Concat.{flat_map-append}
use Rattle.auction_rules.specs.declared.Event.{Event}
use Rattle.auction_rules.specs.declared.Event.TheVariants.{Bid, Close, Submit}
use Rattle.auction_rules.specs.Rounds.{demand, listing, prices_after, raised_prices}
use Rattle.auction_rules.specs.Terms.{no_lots}
use Rattle.auction_rules.proofs.Closing.{sum_of-within}
use Rattle.auction_rules.proofs.States.{get_or-listing, length-listing}
use Rattle.big_auction.specs.declared.values.Lots.{Lots}
use Rattle.big_auction.specs.Draws.{advanced, drawn_package, first_state}
use Rattle.big_auction.specs.LogText.{event_text, log_text}
use Rattle.big_auction.specs.MadeAward.{made_terms}
use Rattle.big_auction.specs.MadeLog.{clock_lines, drawn_draft, drawn_drafts, draws_before, final_prices, held_by, last_draft, last_of, lines_from}
use Rattle.big_auction.specs.MadeLog.{lines_of, made_log, package_of, widest}
use Rattle.big_auction.specs.Parts.{counts_of, held_from, bids_for, last_bids_for, full_round_for, full_rounds_for, lines_for, sealed_for, packages_from}
use Rattle.big_auction.proofs.Asking.{package_at, package-is}
use Rattle.big_auction.proofs.Drawing.{behind-none, behind-behind}
use Rattle.big_auction.proofs.LinesAdded.{added, added-more}
use Rattle.big_auction.proofs.MadeClock.{held-early}

-- one more of what f gives
pub flat-more : (f : ℕ → List Event) (n : ℕ) → flat_map f (listing (λ k. k) (suc n)) ≡ flat_map f (listing (λ k. k) n) ++ f (suc n)
flat-more f n = flat_map-append f (listing (λ k. k) n) (suc n ∷ []) ∙ ap (λ (es : List Event). flat_map f (listing (λ k. k) n) ++ es) (append-nil (f (suc n)))

flat-added : (f : ℕ → List Event) (i : ℕ) (old now new : List ℕ) → now ≡ old ++ log_text (flat_map f (listing (λ k. k) i)) → new ≡ now ++ log_text (f (suc i))
    → new ≡ old ++ log_text (flat_map f (listing (λ k. k) (i + 1)))
flat-added f i old now new was more =
    let next : i + 1 ≡ suc i = omega arith in
    added-more old now new (flat_map f (listing (λ k. k) i)) (f (suc i)) was more
    ∙ ap (λ (es : List Event). old ++ log_text es) (sym (flat-more f i))
    ∙ ap (λ (n : ℕ). old ++ log_text (flat_map f (listing (λ k. k) n))) (sym next)

-- ---- packages

-- that many packages were drawn
pub record ArePacked (s i state : ℕ) (items : List Lots) : Type 0 where
  pub are : map counts_of items ≡ packages_from s i
  pub some : AllByRecursion (λ p. 0 < p.a) items
  pub drew : state ≡ advanced s (4 * i)

-- before the first package none was drawn
pub packed-none : (s : ℕ) (items : List Lots) → items ≡ [] → ArePacked s 0 s items
packed-none s items none = subst (ArePacked s 0 s) (sym none) (record { are = refl; some = tt; drew = sym (behind-none s) })

each-push : (P : Lots → Type 0) (xs : List Lots) (x : Lots) → AllByRecursion P xs → P x → AllByRecursion P (xs ++ x ∷ [])
each-push P [] x each last = (last, tt)
each-push P (y ∷ xs) x each last = (each.0, each-push P xs x each.1 last)

-- one package more, of the next four draws
pub packed-more : (s i state next : ℕ) (items more : List Lots) (p : Lots) → ArePacked s i state items → counts_of p ≡ drawn_package state widest
    → next ≡ advanced state 4 → more ≡ items ++ p ∷ []
    → ArePacked s (i + 1) next more
packed-more s i state next items more p so_far is after pushed =
    let e : suc i ≡ i + 1 = omega arith in
    let at : suc i - 1 ≡ i = omega arith in
    let far : 4 * i + 4 ≡ 4 * (i + 1) = omega arith in
    let one : counts_of p ≡ drawn_package (advanced s (4 * (suc i - 1))) widest =
    is ∙ ap (λ (x : ℕ). drawn_package x widest) so_far.drew ∙ ap (λ (j : ℕ). drawn_package (advanced s (4 * j)) widest) (sym at) in
    let lot : 0 < p.a = omega (arith, ap (λ (c : List ℕ). slice_index c 0) is) in
    record {
      are = ap (map counts_of) pushed ∙ map-append counts_of items (p ∷ []) ∙ ap (λ (ps : List (List ℕ)). ps ++ counts_of p ∷ []) so_far.are
          ∙ ap (λ (c : List ℕ). packages_from s i ++ c ∷ []) one ∙ ap (packages_from s) e;
      some = subst (AllByRecursion (λ (p : Lots). 0 < p.a)) (sym pushed) (each-push (λ (p : Lots). 0 < p.a) items p so_far.some lot);
      drew = after ∙ ap (λ (x : ℕ). advanced x 4) so_far.drew ∙ behind-behind s (4 * i) 4 ∙ ap (advanced s) far;
    }

-- ---- the clock

-- one more of the first rounds: the bids of all twelve and a close
pub rounds-more : (packages : List (List ℕ)) (i : ℕ) (old now mid new : List ℕ) → now ≡ old ++ log_text (full_rounds_for packages i)
    → mid ≡ now ++ log_text (bids_for packages 12) → new ≡ mid ++ event_text Close → new ≡ old ++ log_text (full_rounds_for packages (i + 1))
rounds-more packages i old now mid new was bids close =
    flat-added (λ r. full_round_for packages) i old now new was (added now mid new (bids_for packages 12) Close bids close)

-- one bid more of the last round
pub last-more : (xs : List Lots) (i : ℕ) (p : Lots) (lots old now new : List ℕ) → i < length xs → p ≡ get_or xs i p → lots ≡ last_of (i + 1) (counts_of p)
    → now ≡ old ++ log_text (last_bids_for (map counts_of xs) i) → new ≡ now ++ event_text (Bid (i + 1) lots)
    → new ≡ old ++ log_text (last_bids_for (map counts_of xs) (i + 1))
last-more xs i p lots old now new low is last was added_one =
    let next : i + 1 ≡ suc i = omega arith in
    let one : counts_of p ≡ package_at xs (suc i) = ap counts_of is ∙ sym (package-is xs i p low) in
    let line : Bid (i + 1) lots ≡ Bid (suc i) (last_of (suc i) (package_at xs (suc i))) =
    ap (Bid (i + 1)) last ∙ ap (λ (k : ℕ). Bid k (last_of k (counts_of p))) next ∙ ap (λ (c : List ℕ). Bid (suc i) (last_of (suc i) c)) one in
    added old now new (last_bids_for (map counts_of xs) i) (Bid (suc i) (last_of (suc i) (package_at xs (suc i)))) was
    (added_one ∙ ap (λ (e : Event). now ++ event_text e) line)
    ∙ ap (λ (n : ℕ). old ++ log_text (last_bids_for (map counts_of xs) n)) (sym next)

abbrev made_packages : ℕ → List (List ℕ)
made_packages number = listing (package_of number) 12

clock-same : (number : ℕ) → full_rounds_for (made_packages number) 9 ++ (last_bids_for (made_packages number) 4 ++ Close ∷ []) ≡ clock_lines number
clock-same number = refl

packages-same : (number : ℕ) → packages_from (first_state number) 12 ≡ made_packages number
unfolding package_of
packages-same number = refl

-- ---- prices

at-package : (number j : ℕ) → 1 ≤ j → j ≤ 12 → slice_index_or (made_packages number) (j - 1) [] ≡ package_of number j
at-package number j low high = let e : suc (j - 1) ≡ j = omega arith in get_or-listing (package_of number) 12 (j - 1) [] (omega arith)
    ∙ ap (package_of number) e

prices-by : (number n : ℕ) → n ≤ 9 → prices_after made_terms (held_from (made_packages number)) n ≡ prices_after made_terms (held_by number) n
prices-by number zero few = refl
prices-by number (suc n) few =
    let asks : demand made_terms (held_from (made_packages number)) (suc n) ≡ demand made_terms (held_by number) (suc n) =
    sum_of-within (no_lots made_terms) (held_from (made_packages number) (suc n)) (held_by number (suc n)) 12
    (λ j low high. at-package number j low high ∙ sym (held-early number (suc n) j few)) in
    ap (λ (p : List ℕ). raised_prices 1 ((1, 100) ∷ (5, 200) ∷ []) p (demand made_terms (held_from (made_packages number)) (suc n)) made_terms.supply)
    (prices-by number n (omega arith))
    ∙ ap (λ (d : List ℕ). raised_prices 1 ((1, 100) ∷ (5, 200) ∷ []) (prices_after made_terms (held_by number) n) d made_terms.supply) asks

prices-same : (number : ℕ) → prices_after made_terms (held_from (made_packages number)) 9 ≡ final_prices number
unfolding final_prices
prices-same number = prices-by number 9 (omega arith)

-- ---- the sealed round

-- the lines of that many bidders were added
pub record IsSealed (s : ℕ) (prices : List ℕ) (packages : List (List ℕ)) (i state : ℕ) (old now : List ℕ) : Type 0 where
  pub text : now ≡ old ++ log_text (sealed_for s prices packages i)
  pub drew : state ≡ advanced s (500 * i + min 4 i)

-- before the first bidder's lines nothing was added, and nothing drawn
pub sealed-none : (s : ℕ) (prices : List ℕ) (packages : List (List ℕ)) (old : List ℕ) → IsSealed s prices packages 0 s old old
sealed-none s prices packages old = record { text = sym (append-nil old); drew = sym (behind-none s) }

staying-more : (i : ℕ) → (500 * i + min 4 i) + (500 + (if nat_le (i + 1) 4 then 1 else 0)) ≡ 500 * (i + 1) + min 4 (i + 1)
staying-more i =
    elim (cases_lt i 4) [
      | inl low ↦ rw (le-leb (i + 1) 4 (omega arith)) (omega arith)
      | inr high ↦ rw (lt-leb (i + 1) 4 (omega arith)) (omega arith)
    ]

-- the lines of one bidder more, with 500 draws, and one more if it stays
pub sealed-more : (s : ℕ) (prices : List ℕ) (xs : List Lots) (i state next : ℕ) (p : Lots) (last old now new : List ℕ) → i < length xs → p ≡ get_or xs i p
    → last ≡ last_of (i + 1) (counts_of p) → IsSealed s prices (map counts_of xs) i state old now
    → new ≡ now ++ log_text (lines_from state prices (i + 1) (counts_of p) last) → next ≡ advanced state (500 + (if nat_le (i + 1) 4 then 1 else 0))
    → IsSealed s prices (map counts_of xs) (i + 1) next old new
sealed-more s prices xs i state next p last old now new low is last_is so_far more after =
    let e : i + 1 ≡ suc i = omega arith in
    let at : i ≡ suc i - 1 = omega arith in
    let one : counts_of p ≡ package_at xs (suc i) = ap counts_of is ∙ sym (package-is xs i p low) in
    let lines : lines_from state prices (i + 1) (counts_of p) last ≡ lines_for s prices (map counts_of xs) (suc i) =
    ap (lines_from state prices (i + 1) (counts_of p)) last_is
    ∙ ap (λ (x : ℕ). lines_from x prices (i + 1) (counts_of p) (last_of (i + 1) (counts_of p))) so_far.drew
    ∙ ap (λ (k : ℕ). lines_from (advanced s (500 * i + min 4 i)) prices k (counts_of p) (last_of k (counts_of p))) e
    ∙ ap (λ (c : List ℕ). lines_from (advanced s (500 * i + min 4 i)) prices (suc i) c (last_of (suc i) c)) one
    ∙ ap (λ (j : ℕ). lines_from (advanced s (500 * j + min 4 j)) prices (suc i) (package_at xs (suc i)) (last_of (suc i) (package_at xs (suc i)))) at in
    record {
      text = flat-added (lines_for s prices (map counts_of xs)) i old now new so_far.text (more ∙ ap (λ (es : List Event). now ++ log_text es) lines);
      drew = after ∙ ap (λ (x : ℕ). advanced x (500 + (if nat_le (i + 1) 4 then 1 else 0))) so_far.drew
          ∙ behind-behind s (500 * i + min 4 i) (500 + (if nat_le (i + 1) 4 then 1 else 0)) ∙ ap (advanced s) (staying-more i);
    }

-- the lines of bidders are those of the made log
lines-same : (number k : ℕ) → 1 ≤ k → k ≤ 12 → lines_for (advanced (first_state number) 48) (final_prices number) (made_packages number) k ≡ lines_of number k
unfolding lines_of
lines-same number k low high =
    let far : 48 + (500 * (k - 1) + min 4 (k - 1)) ≡ draws_before k = omega arith in
    let own : slice_index_or (made_packages number) (k - 1) [] ≡ package_of number k = at-package number k low high in
    ap (λ (x : ℕ). lines_from x (final_prices number) k (slice_index_or (made_packages number) (k - 1) [])
    (last_of k (slice_index_or (made_packages number) (k - 1) [])))
    (behind-behind (first_state number) 48 (500 * (k - 1) + min 4 (k - 1)) ∙ ap (advanced (first_state number)) far)
    ∙ ap (λ (c : List ℕ). lines_from (advanced (first_state number) (draws_before k)) (final_prices number) k c (last_of k c)) own

flat-same : (f g : ℕ → List Event) (n : ℕ) → ((k : ℕ) → 1 ≤ k → k ≤ n → f k ≡ g k) → flat_map f (listing (λ k. k) n) ≡ flat_map g (listing (λ k. k) n)
flat-same f g zero same = refl
flat-same f g (suc n) same =
    flat-more f n ∙ ap (λ (es : List Event). es ++ f (suc n)) (flat-same f g n (λ k low high. same k low (omega arith)))
    ∙ ap (λ (es : List Event). flat_map g (listing (λ k. k) n) ++ es) (same (suc n) (omega arith) (omega arith)) ∙ sym (flat-more g n)

-- the whole log
log-by : (number s n : ℕ) (packages : List (List ℕ)) (prices t0 t1 t2 t3 t4 t5 : List ℕ) → packages ≡ made_packages number → prices ≡ final_prices number
    → s ≡ advanced (first_state number) 48 → n ≡ 12
    → t0 ≡ [] → t1 ≡ t0 ++ log_text (full_rounds_for packages 9) → t2 ≡ t1 ++ log_text (last_bids_for packages 4) → t3 ≡ t2 ++ event_text Close
    → t4 ≡ t3 ++ log_text (sealed_for s prices packages n) → t5 ≡ t4 ++ event_text Close → t5 ≡ log_text (made_log number)
unfolding made_log
log-by number s n packages prices t0 t1 t2 t3 t4 t5 pack price state twelve none full last closed sealed end =
    let lines : sealed_for s prices packages n ≡ flat_map (lines_of number) (listing (λ k. k) 12) =
    ap (λ (x : ℕ). sealed_for x prices packages n) state ∙ ap (λ (q : List ℕ). sealed_for (advanced (first_state number) 48) q packages n) price
    ∙ ap (λ (ps : List (List ℕ)). sealed_for (advanced (first_state number) 48) (final_prices number) ps n) pack
    ∙ ap (sealed_for (advanced (first_state number) 48) (final_prices number) (made_packages number)) twelve
    ∙ flat-same (lines_for (advanced (first_state number) 48) (final_prices number) (made_packages number)) (lines_of number) 12 (lines-same number) in
    let clock : full_rounds_for packages 9 ++ (last_bids_for packages 4 ++ Close ∷ []) ≡ clock_lines number =
    ap (λ (ps : List (List ℕ)). full_rounds_for ps 9 ++ (last_bids_for ps 4 ++ Close ∷ [])) pack ∙ clock-same number in
    let first : t1 ≡ [] ++ log_text (full_rounds_for packages 9) = full ∙ ap (λ (t : List ℕ). t ++ log_text (full_rounds_for packages 9)) none in
    let third : t3 ≡ [] ++ log_text (full_rounds_for packages 9 ++ (last_bids_for packages 4 ++ Close ∷ [])) =
    added-more [] t1 t3 (full_rounds_for packages 9) (last_bids_for packages 4 ++ Close ∷ []) first
    (added t1 t2 t3 (last_bids_for packages 4) Close last closed) in
    let fifth : t5 ≡ t3 ++ log_text (flat_map (lines_of number) (listing (λ k. k) 12) ++ Close ∷ []) =
    added t3 t4 t5 (flat_map (lines_of number) (listing (λ k. k) 12)) Close (sealed ∙ ap (λ (es : List Event). t3 ++ log_text es) lines) end in
    added-more [] t3 t5 (clock_lines number) (flat_map (lines_of number) (listing (λ k. k) 12) ++ Close ∷ [])
    (third ∙ ap (λ (es : List Event). [] ++ log_text es) clock) fifth

-- the same as the program has it
pub log-made : (number s0 s n : ℕ) (packages : List (List ℕ)) (prices t0 t1 t2 t3 t4 t5 : List ℕ) → s0 ≡ first_state number → packages ≡ packages_from s0 12
    → prices ≡ prices_after made_terms (held_from packages) 9 → s ≡ advanced s0 48 → n ≡ 12
    → t0 ≡ [] → t1 ≡ t0 ++ log_text (full_rounds_for packages 9) → t2 ≡ t1 ++ log_text (last_bids_for packages 4) → t3 ≡ t2 ++ event_text Close
    → t4 ≡ t3 ++ log_text (sealed_for s prices packages n) → t5 ≡ t4 ++ event_text Close → t5 ≡ log_text (made_log number)
log-made number s0 s n packages prices t0 t1 t2 t3 t4 t5 first pack price state =
    let all : packages ≡ made_packages number = pack ∙ ap (λ (x : ℕ). packages_from x 12) first ∙ packages-same number in
    log-by number s n packages prices t0 t1 t2 t3 t4 t5 all (price ∙ ap (λ (ps : List (List ℕ)). prices_after made_terms (held_from ps) 9) all
    ∙ prices-same number) (state ∙ ap (λ (x : ℕ). advanced x 48) first)

-- ---- how many lines

drafts-length : (s k n : ℕ) (prices own final : List ℕ) → length (drawn_drafts s prices k own final n) ≡ n
unfolding drawn_drafts
drafts-length s k n prices own final = length-listing (λ i. drawn_draft (advanced s (5 * (i - 1))) prices k own final) n

lines-by : (s k : ℕ) (prices own final : List ℕ) → length (lines_from s prices k own final) ≡ 101 + (if nat_le k 4 then 1 else 0)
lines-by s k prices own final =
    let drafts : List Event = drawn_drafts s prices k own final 100 in
    let more : List Event = last_draft (advanced s 500) prices k final ++ Submit k ∷ [] in
    let long : length more ≡ 1 + (if nat_le k 4 then 1 else 0) = elim (cases_Bool (nat_le k 4)) [ inl stay ↦ rw stay refl | inr go ↦ rw go refl ] in
    omega (arith, length-append drafts more, drafts-length s k 100 prices own final, long)

lines-length : (number k : ℕ) → length (lines_of number k) ≡ 101 + (if nat_le k 4 then 1 else 0)
unfolding lines_of
lines-length number k = lines-by (advanced (first_state number) (draws_before k)) k (final_prices number) (package_of number k) (last_of k (package_of number k))

sealed-length : (number n : ℕ) → length (flat_map (lines_of number) (listing (λ k. k) n)) ≡ 101 * n + min 4 n
sealed-length number zero = refl
sealed-length number (suc n) =
    let one : length (lines_of number (suc n)) ≡ 101 + (if nat_le (suc n) 4 then 1 else 0) = lines-length number (suc n) in
    let split : length (flat_map (lines_of number) (listing (λ k. k) (suc n))) ≡ length
    (flat_map (lines_of number) (listing (λ k. k) n) ++ lines_of number (suc n)) = ap (λ (es : List Event). length es) (flat-more (lines_of number) n) in
    let more : (if nat_le (suc n) 4 then 1 else 0) + min 4 n ≡ min 4 (suc n) =
    elim (cases_lt n 4) [ inl low ↦ rw (le-leb (suc n) 4 (omega arith)) (omega arith) | inr high ↦ rw (lt-leb (suc n) 4 (omega arith)) (omega arith) ] in
    omega (arith, split, length-append (flat_map (lines_of number) (listing (λ k. k) n)) (lines_of number (suc n)), one, sealed-length number n, more)

-- the made log has 1339 lines
pub log-length : (number : ℕ) → 1339 ≡ length (made_log number)
unfolding made_log
log-length number =
    let sealed : List Event = flat_map (lines_of number) (listing (λ k. k) 12) in
    let clock : length (clock_lines number) ≡ 122 = refl in
    omega (arith, length-append (clock_lines number) (sealed ++ Close ∷ []), length-append sealed (Close ∷ []), clock, sealed-length number 12)
