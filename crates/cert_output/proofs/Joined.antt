-- One text after another, added to the end of a name's file.
use Rattle.std.proofs.Common.{IsTrue, List, None, Option, Some, [], ap, append_assoc, arith, length, length-append, refl, subst, suc, sym, take, ℕ}
use Rattle.std.proofs.Common.{◌++◌, ◌+◌, ◌-◌, ◌<◌, ◌∙◌, ◌∷◌, ◌≡◌, ◌≤◌}
use Rattle.std.proofs.lemmas.List.{take_all, take-append-le}
use Rattle.std.specs.Prelude.{Result, Ok, Err, IsOk, OnOk, OnErr}
use Rattle.std.specs.Option.{option_map}
use Rattle.cca_base.specs.Faults.{Rose}
use Rattle.cca_base.specs.Files.{Adds, AddsPrefix, Becomes, CountsOnly, Folder, added}
use Rattle.cca_base.specs.Sink.{HasRoom}
use Rattle.cca_base.proofs.Reading.{known_after}
use Rattle.cca_base.proofs.Writing.{adds_none, option_map-twice, room_both, room_less, room_more}
use Rattle.cert_output.specs.Writes.{AddsAll, AddsSome}
use Rattle.cert_output.specs.declared.write.CutShort.{CutShort}

-- the prefix of two lists that reaches into the second
take-past : (xs ys : List ℕ) (n : ℕ) → take (length xs + n) (xs ++ ys) ≡ xs ++ take n ys
take-past [] ys n =
    let none : length {A = ℕ} [] + n ≡ n = omega arith in
    ap (λ (k : ℕ). take k ys) none
take-past (x ∷ xs) ys n =
    let more : length (x ∷ xs) + n ≡ suc (length xs + n) = omega arith in
    ap (λ (k : ℕ). take k (x ∷ (xs ++ ys))) more ∙ ap (λ (l : List ℕ). x ∷ l) (take-past xs ys n)

-- what a file holds after two texts
added-both : (o : Option (List ℕ)) (xs ys : List ℕ) → added (added o xs) ys ≡ added o (xs ++ ys)
added-both None [] ys = refl
added-both None (x ∷ xs) ys = refl
added-both (Some file) xs ys = ap Some (append_assoc file xs ys)

module _ (name : List ℕ) (a b c : Folder) (xs ys : List ℕ) where
  -- all of a text, and then the prefix of another
  adds-both : (n : ℕ) → Adds name a b xs (length xs) → Adds name b c ys n → Adds name a c (xs ++ ys) (length xs + n)
  adds-both n first next =
      let front : take (length xs + n) (xs ++ ys) ≡ take (length xs) xs ++ take n ys =
      take-past xs ys n ∙ ap (λ (l : List ℕ). l ++ take n ys) (sym (take_all (length xs) xs (omega arith))) in
      record {
        knows = next.knows ∙ first.knows;
        told = next.told ∙ first.told;
        file = λ tells. next.file (subst IsTrue (sym first.told) tells)
            ∙ ap (λ (o : Option (List ℕ)). added o (take n ys)) (first.file tells)
            ∙ added-both (a.file name) (take (length xs) xs) (take n ys)
            ∙ ap (added (a.file name)) (sym front);
        other_files = λ other ne. next.other_files other ne ∙ first.other_files other ne;
        took = next.took ∙ ap (λ (l : List ℕ). l ++ take n ys) first.took ∙ append_assoc (a.took name) (take (length xs) xs) (take n ys)
            ∙ ap (λ (l : List ℕ). a.took name ++ l) (sym front);
        other_took = λ other ne. next.other_took other ne ∙ first.other_took other ne;
        fits = room_both (a.room name) (b.room name) (length xs) n first.fits first.room next.fits;
        room = next.room ∙ ap (option_map (λ r. r - n)) first.room ∙ option_map-twice _ _ _ (λ x. omega arith) (a.room name);
        other_rooms = λ other ne. next.other_rooms other ne ∙ first.other_rooms other ne;
      }

  -- all of two texts
  pub all-both : AddsAll name a b xs → AddsAll name b c ys → AddsAll name a c (xs ++ ys)
  all-both first next = record {
    adds = subst (λ (k : ℕ). Adds name a c (xs ++ ys) k) (sym (length-append xs ys)) (adds-both (length ys) first.adds next.adds);
    quiet = next.quiet ∙ first.quiet;
    gave = next.gave ∙ first.gave;
    loads = next.loads ∙ first.loads;
  }

  -- all of a text, and then a part of another
  pub some-later : AddsAll name a b xs → AddsSome name b c ys → AddsSome name a c (xs ++ ys)
  some-later first next = record {
    count = length xs + next.count;
    part = omega (arith, length-append xs ys, next.part);
    adds = adds-both next.count first.adds next.adds;
    counts = subst (λ (f : List ℕ → ℕ). CountsOnly name f c.append_faults) first.quiet next.counts;
    gave = next.gave ∙ first.gave;
    loads = next.loads ∙ first.loads;
    cause = subst (λ (f : List ℕ → ℕ). Rose (f name) (c.append_faults name)) first.quiet next.cause;
    no_room = λ has. next.no_room (room_more (a.room name) (b.room name) (length (xs ++ ys)) (length xs) (length ys)
        (omega (arith, length-append xs ys)) has first.adds.room);
  }

module _ (name : List ℕ) (a b : Folder) where
  -- a part of a text is one of a longer text
  pub some-longer : (xs ys : List ℕ) → AddsSome name a b xs → AddsSome name a b (xs ++ ys)
  some-longer xs ys some =
      let less : some.count ≤ length xs = omega (arith, some.part) in
      let longer : length xs ≤ length (xs ++ ys) = omega (arith, length-append xs ys) in
      record {
        count = some.count;
        part = omega (arith, some.part, longer);
        adds = subst (λ (l : List ℕ). Becomes name a b (added (a.file name) l) l some.count) (sym (take-append-le some.count xs ys less)) some.adds;
        counts = some.counts;
        gave = some.gave;
        loads = some.loads;
        cause = some.cause;
        no_room = λ has. some.no_room (room_less (a.room name) (length xs) (length (xs ++ ys)) longer has);
      }

  -- a name that was known is known yet
  pub known-on : (text : List ℕ) → AddsAll name a b text → IsTrue (a.knows name) → IsTrue (b.knows name)
  known-on text all known = known_after name a b _ _ _ name all.adds known

-- nothing was added
pub all-none : (name : List ℕ) (a : Folder) → AddsAll name a a []
all-none name a = record { adds = adds_none name a []; quiet = refl; gave = refl; loads = refl }

-- what the end of a write says
module _ (name : List ℕ) (a b : Folder) (text : List ℕ) where
  pub end-whole : (r : Result Unit CutShort) → OnOk r (AddsAll name a b text) → OnOk r (Adds name a b text (length text))
  end-whole (Ok x) all = all.adds
  end-whole (Err e) all = all

  pub end-part : (r : Result Unit CutShort) → OnErr r (AddsSome name a b text) → OnErr r ((n : ℕ) × (n < length text) × Adds name a b text n)
  end-part (Ok x) some = some
  end-part (Err e) some = (some.count, some.part, some.adds)

  pub end-quiet : (r : Result Unit CutShort) → OnOk r (AddsAll name a b text) → OnOk r (b.append_faults ≡ a.append_faults)
  end-quiet (Ok x) all = all.quiet
  end-quiet (Err e) all = all

  pub end-cause : (r : Result Unit CutShort) → OnErr r (AddsSome name a b text) → OnErr r (Rose (a.append_faults name) (b.append_faults name))
  end-cause (Ok x) some = some
  end-cause (Err e) some = some.cause

  pub end-prefix : (r : Result Unit CutShort) → OnOk r (AddsAll name a b text) → OnErr r (AddsSome name a b text) → AddsPrefix name a b text
  end-prefix (Ok x) all some = (length text, omega arith, all.adds)
  end-prefix (Err e) all some = (some.count, omega (arith, some.part), some.adds)

  pub end-counts : (r : Result Unit CutShort) → OnOk r (AddsAll name a b text) → OnErr r (AddsSome name a b text)
      → CountsOnly name a.append_faults b.append_faults
  end-counts (Ok x) all some = record {
    here = omega (arith, ap (λ (f : List ℕ → ℕ). f name) all.quiet);
    elsewhere = λ other ne. ap (λ (f : List ℕ → ℕ). f other) all.quiet;
  }
  end-counts (Err e) all some = some.counts

  pub end-gave : (r : Result Unit CutShort) → OnOk r (AddsAll name a b text) → OnErr r (AddsSome name a b text) → b.gave ≡ a.gave
  end-gave (Ok x) all some = all.gave
  end-gave (Err e) all some = some.gave

  pub end-loads : (r : Result Unit CutShort) → OnOk r (AddsAll name a b text) → OnErr r (AddsSome name a b text) → b.load_faults ≡ a.load_faults
  end-loads (Ok x) all some = all.loads
  end-loads (Err e) all some = some.loads

  pub end-room : (r : Result Unit CutShort) → OnOk r (AddsAll name a b text) → OnErr r (AddsSome name a b text)
      → HasRoom (a.room name) (length text) → IsOk r
  end-room (Ok x) all some has = refl
  end-room (Err e) all some has = absurd (some.no_room has)
