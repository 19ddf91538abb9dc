-- Blocks, and the first fault of a block, digit by digit of its first category.
use Rattle.std.specs.Prelude.{◌≡◌, ℕ, suc, ◌+◌, ◌-◌, ◌*◌, ◌/◌, ◌%◌, ◌≤◌, ◌<◌, nat_le, IsTrue, List, [], ◌∷◌, length, get_or, drop, take, refl}
use Rattle.std.proofs.Common.{ap, arith, inl, inr, length-drop, subst, sym, ◌∙◌}
use Rattle.std.proofs.lemmas.List.{length-take-le, take_all}
use Rattle.std.proofs.Math.Nat.{mul-le-mul_left, le-div_iff_mul-le}
use Rattle.std.proofs.lemmas.Bool.{and_parts, and_from, leb-true, le-leb, cases_lt}
use Rattle.std.proofs.lemmas.Nat.{div_below, div-mul-add, mod-mul-add, le-div}
use Rattle.auction_model.specs.Package.{IsNothingFrom, is_within}
use Rattle.auction_model.specs.Place.{left_at, place_of, states_of, widths_of}
use Rattle.auction_model.proofs.PlaceLaws.{place-below, states-positive}
use Rattle.auction_model.proofs.RunLaws.{widths-count}
use Rattle.auction_model.proofs.TrimLaws.{trim-place, trim-within}
use Rattle.limits.specs.declared.TheConstants.{MOST_STATES}
use Rattle.table_check.specs.Block.{IsBlock}
use Rattle.table_check.specs.Faults.{FirstFault, CoversRun, CoversSome, CoversBlock}
use Rattle.table_check.specs.declared.rule.LineRule.{LineRule}

-- tests that hold at the same places have the same first fault
pub fault-same : (P Q : ℕ → Type 0) (stop r : ℕ) → ((s : ℕ) → P s → Q s) → ((s : ℕ) → Q s → P s) → FirstFault P stop r → FirstFault Q stop r
fault-same P Q stop r to from f = record { within = f.within; before = λ s lt. to s (f.before s lt); fails = λ lt q. f.fails lt (from r q) }

-- a test that holds at all places has none
pub fault-none : (P : ℕ → Type 0) (stop : ℕ) → ((s : ℕ) → P s) → FirstFault P stop stop
fault-none P stop all = record { within = omega arith; before = λ s _. all s; fails = λ lt. absurd (omega (arith, lt)) }

-- the first fault of two tests, the second looked for before the first fault of the first
pub fault-both : (P Q R : ℕ → Type 0) (stop e r : ℕ) → ((s : ℕ) → P s → Q s → R s) → ((s : ℕ) → R s → P s) → ((s : ℕ) → R s → Q s) → FirstFault P stop e
    → FirstFault Q e r → FirstFault R stop r
fault-both P Q R stop e r both first second f g = record {
  within = omega (arith, f.within, g.within);
  before = λ s lt. both s (f.before s (omega (arith, lt, g.within))) (g.before s lt);
  fails = λ lt z. elim (cases_lt r e) [
    | inl below ↦ g.fails below (second r z)
    | inr same ↦ (let e_is : e ≡ r = omega (arith, same, g.within) in f.fails (omega (arith, lt, e_is)) (subst P (sym e_is) (first r z)))
  ];
}

-- the place of a package of no category, of one, and of several
pub place-none : (supply lots : List ℕ) → length lots ≡ 0 → place_of supply lots ≡ 0
place-none [] lots none = refl
place-none (b ∷ supply) [] none = refl
place-none (b ∷ supply) (a ∷ lots) none = absurd (omega (arith, none))

-- the place of a package is its first count times the states of the other categories, and the place there
pub place-split : (supply lots : List ℕ) → 0 < length lots → length lots ≤ length supply → place_of supply lots ≡ get_or lots 0 0 * states_of
    (drop 1 supply) + place_of (drop 1 supply) (drop 1 lots)
place-split supply [] some e = absurd (omega arith)
place-split [] (a ∷ lots) some e = absurd (omega (arith, e))
place-split (b ∷ supply) (a ∷ lots) some e = refl

-- with one category the place of a package is its count times the states after it
pub place-one : (supply lots : List ℕ) → length lots ≡ 1 → length lots ≤ length supply → place_of supply lots ≡ get_or lots 0 0 * states_of (drop 1 supply)
place-one supply lots one e =
    let rest = place-none (drop 1 supply) (drop 1 lots) (omega (arith, length-drop 1 lots, one)) in
    omega (arith, rest, place-split supply lots (omega (arith, one)) e)

module _ (rule : LineRule) (base : ℕ) where
  -- one category: a run
  pub block-last : (b a : ℕ) (supply : List ℕ) (stop r : ℕ) → FirstFault (CoversRun rule (base + a * states_of supply) (base + states_of (b ∷ supply))) stop r
      → FirstFault (CoversBlock rule base (b ∷ supply) (a ∷ [])) stop r
  block-last b a supply stop r f = fault-same (CoversRun rule (base + a * states_of supply) (base + states_of (b ∷ supply)))
      (CoversBlock rule base (b ∷ supply) (a ∷ [])) stop r
      (λ s run n lt is fits.
      let c : a ≤ n / states_of supply = leb-true a (n / states_of supply) (and_parts (nat_le a (n / states_of supply)) _ fits).0 in
      let up : a * states_of supply ≤ n = (le-div_iff_mul-le (states-positive supply)).0 c in
      run (omega (arith, is, up)) (omega (arith, is, lt)))
      (λ s block start stop.
      let up : a * states_of supply ≤ s - base = omega (arith, start) in
      block (s - base) (omega (arith, start, stop)) (omega (arith, start))
      (and_from (nat_le a ((s - base) / states_of supply)) _ (le-leb a ((s - base) / states_of supply)
      (le-div a (s - base) (states_of supply) (states-positive supply) up)) refl)) f

  module _ (b a : ℕ) (supply lots : List ℕ) where
    -- before the package's own count nothing fits
    pub digits-start : (stop d : ℕ) → d ≤ a → FirstFault (CoversSome rule base (b ∷ supply) (a ∷ lots) (d * states_of supply)) stop stop
    digits-start stop d le = record {
      within = omega arith;
      before = λ s lt n small is fits.
          let c : a ≤ n / states_of supply = leb-true a (n / states_of supply) (and_parts (nat_le a (n / states_of supply)) _ fits).0 in
          let q : n / states_of supply < d = div_below n (states_of supply) d (states-positive supply) small in
          absurd (omega (arith, c, q, le));
      fails = λ lt p. absurd (omega (arith, lt));
    }

    -- one digit more
    pub digits-more : (d stop e r : ℕ) → a ≤ d → FirstFault (CoversSome rule base (b ∷ supply) (a ∷ lots) (d * states_of supply)) stop e
        → FirstFault (CoversBlock rule (base + d * states_of supply) supply lots) e r
        → FirstFault (CoversSome rule base (b ∷ supply) (a ∷ lots) (suc d * states_of supply)) stop r
    digits-more d stop e r le f g =
        fault-both (CoversSome rule base (b ∷ supply) (a ∷ lots) (d * states_of supply)) (CoversBlock rule (base + d * states_of supply) supply lots)
        (CoversSome rule base (b ∷ supply) (a ∷ lots) (suc d * states_of supply)) stop e r
        both (λ s all n small. all n (omega (arith, small))) last f g
      where
        both : (s : ℕ) → CoversSome rule base (b ∷ supply) (a ∷ lots) (d * states_of supply) s → CoversBlock rule (base + d * states_of supply) supply lots s
            → CoversSome rule base (b ∷ supply) (a ∷ lots) (suc d * states_of supply) s
        both s front own n small is fits =
            elim (cases_lt n (d * states_of supply)) [
              | inl before ↦ front n before is fits
              | inr here ↦ (
                  let W = states_of supply in
                  let rest : n - d * W < W = omega (arith, small, here) in
                  let whole : d * W + (n - d * W) ≡ n = omega (arith, here) in
                  let digit : n % W ≡ n - d * W = ap (λ (x : ℕ). x % W) (sym whole) ∙ mod-mul-add d W (n - d * W) rest in
                  let p = and_parts (nat_le a (n / W)) (is_within lots (left_at supply (n % W))) fits in
                  own (n - d * W) rest (omega (arith, is, here)) (subst (λ (x : ℕ). IsTrue (is_within lots (left_at supply x))) digit p.1))
            ]

        last : (s : ℕ) → CoversSome rule base (b ∷ supply) (a ∷ lots) (suc d * states_of supply) s → CoversBlock rule
            (base + d * states_of supply) supply lots s
        last s all n small is fits =
            let W = states_of supply in
            let quot : (d * W + n) / W ≡ d = div-mul-add d W n small in
            let rest : (d * W + n) % W ≡ n = mod-mul-add d W n small in
            all (d * W + n) (omega (arith, small)) (omega (arith, is))
            (and_from (nat_le a ((d * W + n) / W)) (is_within lots (left_at supply ((d * W + n) % W)))
            (subst (λ (x : ℕ). IsTrue (nat_le a x)) (sym quot) (le-leb a d le))
            (subst (λ (x : ℕ). IsTrue (is_within lots (left_at supply x))) (sym rest) fits))

  -- before the package's own count nothing fits, in a block
  pub start-block : (supply spans lots : List ℕ) (first stop d : ℕ) → IsBlock supply spans lots first → d ≡ get_or lots 0 0
      → FirstFault (CoversSome rule base supply lots (d * states_of (drop 1 supply))) stop stop
  start-block supply spans [] first stop d is e = absurd (omega (arith, is.some))
  start-block [] spans (a ∷ lots) first stop d is e = absurd (omega (arith, is.categories))
  start-block (b ∷ supply) spans (a ∷ lots) first stop d is e = digits-start b a supply lots stop d (omega (arith, e))

  -- one digit more of the first category
  pub more-block : (supply spans lots others few : List ℕ) (first d here stop e r : ℕ) → IsBlock supply spans lots first → others ≡ drop 1 supply
      → few ≡ drop 1 lots → get_or lots 0 0 ≤ d → here ≡ d * states_of (drop 1 supply)
      → FirstFault (CoversSome rule base supply lots (d * states_of (drop 1 supply))) stop e → FirstFault (CoversBlock rule (base + here) others few) e r
      → FirstFault (CoversSome rule base supply lots ((d + 1) * states_of (drop 1 supply))) stop r
  more-block supply spans [] others few first d here stop e r is o_is f_is low h_is f g = absurd (omega (arith, is.some))
  more-block [] spans (a ∷ lots) others few first d here stop e r is o_is f_is low h_is f g = absurd (omega (arith, is.categories))
  more-block (b ∷ supply) spans (a ∷ lots) others few first d here stop e r is o_is f_is low h_is f g =
      subst (λ (x : ℕ). FirstFault (CoversSome rule base (b ∷ supply) (a ∷ lots) (x * states_of supply)) stop r) (omega arith)
      (digits-more b a supply lots d stop e r low f (rw (o_is, f_is, h_is) at g))

  -- all digits of the first category are the whole block
  pub all-block : (supply spans lots : List ℕ) (first d stop r : ℕ) → IsBlock supply spans lots first → d ≡ get_or supply 0 0 + 1
      → FirstFault (CoversSome rule base supply lots (d * states_of (drop 1 supply))) stop r → FirstFault (CoversBlock rule base supply lots) stop r
  all-block [] spans lots first d stop r is e f = absurd (omega (arith, is.some, is.categories))
  all-block (b ∷ supply) spans lots first d stop r is e f = subst (λ (x : ℕ). FirstFault (CoversSome rule base (b ∷ supply) lots (x * states_of supply)) stop r)
      (omega (arith, e)) f

  -- a package of one category fits from its own count on
  last-list : (supply lots : List ℕ) (stop r : ℕ) → length lots ≡ 1 → length lots ≤ length supply
      → FirstFault (CoversRun rule (base + get_or lots 0 0 * states_of (drop 1 supply)) (base + states_of supply)) stop r
      → FirstFault (CoversBlock rule base supply lots) stop r
  last-list supply [] stop r one e f = absurd (omega (arith, one))
  last-list [] (a ∷ lots) stop r one e f = absurd (omega (arith, e))
  last-list (b ∷ supply) (a ∷ []) stop r one e f = block-last b a supply stop r f
  last-list (b ∷ supply) (a ∷ x ∷ lots) stop r one e f = absurd (omega (arith, one))

  -- and so from the place of its lots on
  pub last-block : (supply spans lots : List ℕ) (first from size stop r : ℕ) → IsBlock supply spans lots first → length lots ≡ 1 → from ≡ first
      → size ≡ states_of supply → FirstFault (CoversRun rule (base + from) (base + size)) stop r → FirstFault (CoversBlock rule base supply lots) stop r
  last-block supply spans lots first from size stop r is one from_is size_is f =
      last-list supply lots stop r one is.categories
      (subst (λ (n : ℕ). FirstFault (CoversRun rule (base + get_or lots 0 0 * states_of (drop 1 supply)) (base + n)) stop r) size_is
      (subst (λ (n : ℕ). FirstFault (CoversRun rule (base + n) (base + size)) stop r)
      (from_is ∙ is.place ∙ place-one supply lots one is.categories) f))

-- a list without its first item, taken as long as it is, is whole
pub tail-whole : (xs : List ℕ) → take (length xs - 1) (drop 1 xs) ≡ drop 1 xs
tail-whole xs = take_all (length xs - 1) (drop 1 xs) (omega (arith, length-drop 1 xs))

-- without its first category a package has fewer
pub rest-fewer : (lots few : List ℕ) → few ≡ drop 1 lots → 0 < length lots → length few < length lots
rest-fewer lots few f_is some = let count : length few ≡ length (drop 1 lots) = ap (λ (l : List ℕ). length l) f_is in
    omega (arith, count, length-drop 1 lots, some)

-- the block of one digit is within the whole
pub digit-room : (supply : List ℕ) (d : ℕ) → 0 < length supply → d < get_or supply 0 0 + 1 → d * states_of (drop 1 supply) + states_of
    (drop 1 supply) ≤ states_of supply
digit-room [] d some lt = absurd (omega arith)
digit-room (b ∷ supply) d some lt = let le : suc d ≤ suc b = omega (arith, lt) in omega (arith, mul-le-mul_left (states_of supply) le)

-- a shift that is within the lots' place stays within it in a part whose digit is no smaller than their count
pub rest-shift : (count digit width here first rest base shift : ℕ) → count ≤ digit → here ≡ digit * width → count * width + rest ≡ first
    → shift ≤ base + first → shift ≤ base + here + rest
rest-shift count digit width here first rest base shift low here_is rest_is h = omega (arith, h, here_is, rest_is, mul-le-mul_left width low)

module _ (supply spans lots : List ℕ) (first : ℕ) (is : IsBlock supply spans lots first) where
  -- a block has a category
  pub some-in : 0 < length supply
  some-in = omega (arith, is.some, is.categories)

  -- and so a width
  pub widths-in : 0 < length spans
  widths-in = rw is.widths (omega (arith, widths-count supply, some-in))

  -- the place of the lots is in the block
  pub first-in : first < states_of supply
  first-in = omega (arith, is.place, place-below supply lots is.fits)

-- the block of all places, of a package without its empty end
pub whole-block : (n first : ℕ) (supply radices spans p counts : List ℕ) → radices ≡ supply → counts ≡ p → spans ≡ widths_of supply → 0 < n
    → n ≤ length counts → length p ≡ length supply → IsNothingFrom n counts → states_of supply ≤ MOST_STATES → IsTrue (is_within p supply)
    → first ≡ place_of supply p → IsBlock radices spans (take n counts) first
whole-block n first supply radices spans p counts s_is p_is spans_is some few same nothing states fits first_is =
    let long : length (take n counts) ≡ n = length-take-le n counts few in
    let count : length counts ≡ length p = ap (λ (l : List ℕ). length l) p_is in
    rw s_is record {
      widths = spans_is;
      some = omega (arith, long, some);
      categories = omega (arith, long, few, count, same);
      states = states;
      fits = trim-within n counts supply nothing ∙ ap (λ (l : List ℕ). is_within l supply) p_is ∙ fits;
      place = first_is ∙ ap (place_of supply) (sym p_is) ∙ sym (trim-place n supply counts nothing);
    }
