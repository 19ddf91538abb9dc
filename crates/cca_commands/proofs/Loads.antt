-- What the loads of a command gave: of its inputs, one after the other.
use Rattle.std.proofs.Common.{◌≡◌, ◌∙◌, ℕ, suc, ◌<◌, ◌-◌, Bool, true, false, Option, Some, None, List, [], ◌∷◌, ◌++◌, length, map, take, refl, sym, ap, subst, arith, length-append, take-suc}
use Rattle.std.proofs.Common.{IsSomeAnd, append_assoc}
use Rattle.std.proofs.Math.Seq.{take-append_seam}
use Rattle.std.proofs.lemmas.List.{append-nil}
use Rattle.std.proofs.lemmas.Slice.Eq.{bytes_eq-Decides}
use Rattle.std.specs.Prelude.{Contains, slice_index_or, if◌then◌else◌}
use Rattle.std.specs.List.{AllByRecursion}
use Rattle.std.specs.Str.{bytes_eq}
use Rattle.cca_base.specs.Files.{AgreesWith, Content, Folder, GaveSome, KeepsFiles, Stands, given_since}
use Rattle.cca_base.specs.Given.{Given}
use Rattle.cca_base.proofs.Given.{of_both, of_none}
use Rattle.cca_commands.specs.ReadFaults.{AreInOrder, Loaded}

pub map-more : (xs ys : List Content) → map (λ c. c.name) (xs ++ ys) ≡ map (λ c. c.name) xs ++ map (λ c. c.name) ys
map-more [] ys = refl
map-more (x ∷ xs) ys = ap (λ (l : List (List ℕ)). x.name ∷ l) (map-more xs ys)

pub since-is : (old new : Folder) (since : List Given) → new.gave ≡ since ++ old.gave → given_since old new ≡ since
since-is old new since is =
    let long : length new.gave - length old.gave ≡ length since = omega (arith, ap length is, length-append since old.gave) in
    ap (λ (k : ℕ). take k new.gave) long ∙ ap (λ (l : List Given). take (length since) l) is ∙ take-append_seam since old.gave

-- what was given by two calls, one after the other
pub since-both : (old mid new : Folder) (first : KeepsFiles old mid) (last : KeepsFiles mid new)
    → given_since old new ≡ given_since mid new ++ given_since old mid
since-both old mid new first last =
    since-is old new (last.since ++ first.since)
    (last.gave ∙ ap (λ (l : List Given). last.since ++ l) first.gave ∙ sym (append_assoc last.since first.since old.gave))
    ∙ ap (λ (l : List Given). l ++ first.since) (sym (since-is mid new last.since last.gave))
    ∙ ap (λ (l : List Given). given_since mid new ++ l) (sym (since-is old mid first.since first.gave))

-- files that hold this name alone
abbrev pub only : List ℕ → List ℕ → List ℕ → Option (List ℕ)
only name bytes other = if bytes_eq name other then Some bytes else None

-- loads that agree with these were of the name
of-name : (name bytes : List ℕ) (loads : List Given) → AllByRecursion (AgreesWith (only name bytes)) loads → AllByRecursion (λ g. g.name ≡ name) loads
of-name name bytes [] all = tt
of-name name bytes (g ∷ loads) (one, rest) = (by (bytes_eq name g.name) refl one, of-name name bytes loads rest)
  where
    by : (b : Bool) → bytes_eq name g.name ≡ b
        → IsSomeAnd (if b then Some bytes else None) (λ file. Stands file g.at g.room g.bytes (length g.bytes)) → g.name ≡ name
    by true is stands = sym ((bytes_eq-Decides name g.name).0 is)
    by false is none = absurd none

pub some-of-name : (name : List ℕ) (mid new : Folder) → GaveSome name mid new → AllByRecursion (λ g. g.name ≡ name) (given_since mid new)
some-of-name name mid new b = of-name name b.bytes (given_since mid new) (b.gave.agree (only name b.bytes) (here, tt)).each
  where
    here : only name b.bytes name ≡ Some b.bytes
    here = let same : bytes_eq name name ≡ true = (bytes_eq-Decides name name).1 refl in rw same refl

-- the loads of one more name come after all others
pub order-more : (names : List (List ℕ)) (name : List ℕ) (before after : List Given) → AreInOrder names before → AllByRecursion (λ g. g.name ≡ name) after
    → AreInOrder (names ++ (name ∷ [])) (after ++ before)
order-more [] name before after none all = ([], after, ap (λ (l : List Given). after ++ l) none ∙ append-nil after, all, refl)
order-more (n ∷ names) name before after (later, earlier, is, each, rest) all = (
  after ++ later,
  earlier,
  ap (λ (l : List Given). after ++ l) is ∙ sym (append_assoc after later earlier),
  each,
  order-more names name later after rest all,
)

-- before any load
abbrev pub loaded-none : (names : List (List ℕ)) (old : Folder) → Loaded names old old
loaded-none names old = record { contents = []; first = refl; order = since-is old old [] refl; gave = of_none old }

-- what was loaded, and the next of the names
pub names-more : (names : List (List ℕ)) (name : List ℕ) (contents : List Content) (bytes : List ℕ)
    → map (λ c. c.name) contents ≡ take (length contents) names → (within : Contains names name)
    → length contents ≡ within.0
    → map (λ c. c.name) (contents ++ (record { name = name; bytes = bytes } ∷ [])) ≡ take (length (contents ++
    (record { name = name; bytes = bytes } ∷ []))) names
names-more names name contents bytes first within next =
    map-more contents (record { name = name; bytes = bytes } ∷ [])
    ∙ ap (λ (l : List (List ℕ)). l ++ (name ∷ [])) first
    ∙ ap (λ (x : List ℕ). take (length contents) names ++ (x ∷ [])) (sym is)
    ∙ sym (take-suc names (length contents) name (subst (λ (k : ℕ). k < length names) (sym next) within.1))
    ∙ ap (λ (k : ℕ). take k names) long
  where
    is : slice_index_or names (length contents) name ≡ name
    is = subst (λ (k : ℕ). slice_index_or names k name ≡ name) (sym next) within.2

    long : suc (length contents) ≡ length (contents ++ (record { name = name; bytes = bytes } ∷ []))
    long = omega (arith, length-append contents (record { name = name; bytes = bytes } ∷ []))

-- the loads of the next of the names
abbrev pub loaded-more : (names : List (List ℕ)) (name : List ℕ) (old mid new : Folder) (a : Loaded names old mid) (within : Contains names name)
    → length a.contents ≡ within.0
    → GaveSome name mid new → KeepsFiles old mid → KeepsFiles mid new → Loaded names old new
loaded-more names name old mid new a within next b first last = record {
  contents = a.contents ++ (record { name = name; bytes = b.bytes } ∷ []);
  first = names-more names name a.contents b.bytes a.first within next;
  order = subst (λ (l : List Given). AreInOrder (map (λ c. c.name) (a.contents ++ (record { name = name; bytes = b.bytes } ∷ []))) l)
      (sym (since-both old mid new first last))
      (subst (λ (ns : List (List ℕ)). AreInOrder ns (given_since mid new ++ given_since old mid))
      (sym (map-more a.contents (record { name = name; bytes = b.bytes } ∷ [])))
      (order-more (map (λ c. c.name) a.contents) name (given_since old mid) (given_since mid new) a.order (some-of-name name mid new b)));
  gave = of_both a.contents (record { name = name; bytes = b.bytes } ∷ []) old mid new a.gave b.gave first last;
}

-- they are one more
pub count-more : (names : List (List ℕ)) (name : List ℕ) (old mid new : Folder) (a : Loaded names old mid) (within : Contains names name)
    (next : length a.contents ≡ within.0)
    (b : GaveSome name mid new) (first : KeepsFiles old mid) (last : KeepsFiles mid new) (n : ℕ) → length a.contents ≡ n
    → length (loaded-more names name old mid new a within next b first last).contents ≡ suc n
count-more names name old mid new a within next b first last n is = omega (arith, is, length-append a.contents (record { name = name; bytes = b.bytes } ∷ []))
