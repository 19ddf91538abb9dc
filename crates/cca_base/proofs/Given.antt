-- What loads gave, one call after another.
use Rattle.std.proofs.Common.{Bool, IfSome, IsSomeAnd, IsTrue, List, None, Option, Some, [], ap, append_assoc, arith, cond, drop, false, inl, inr}
use Rattle.std.proofs.Common.{length, length-append, length-take, refl, subst, suc, sym, take, true, unwrap_or, zero, ℕ, ◌++◌, ◌+◌, ◌-◌, ◌<◌, ◌∙◌}
use Rattle.std.proofs.Common.{◌∷◌, ◌≡◌, ◌≤◌}
use Rattle.std.proofs.Math.Seq.{drop-append_seam, drop-length, take-add, take-append_seam, take-length}
use Rattle.std.proofs.lemmas.List.{take_all, append-nil}
use Rattle.std.proofs.lemmas.Bool.{cases_lt, false_from_ne_true}
use Rattle.std.proofs.lemmas.Slice.Eq.{bytes_eq-Decides}
use Rattle.std.specs.Prelude.{◌↔◌}
use Rattle.std.specs.Option.{option_map}
use Rattle.std.specs.Str.{bytes_eq}
use Rattle.std.specs.List.{AllByRecursion}
use Rattle.cca_base.specs.Given.{Given, bytes_under}
use Rattle.cca_base.specs.Entries.{with_calls, with_gave}
use Rattle.cca_base.specs.Files.{Folder, Stands, AgreesWith, given_since, Agrees, KeepsFiles, GaveAll, GaveMore, Content, GaveOf, GaveSome, Becomes}

abbrev pub Contents : Type 0
Contents = List ℕ → Option (List ℕ)

-- what holds of all of two lists holds of all of each
all_parts : {X : Type 0} (P : X → Type 0) (xs ys : List X) → AllByRecursion P (xs ++ ys) ↔ (AllByRecursion P xs × AllByRecursion P ys)
all_parts P [] ys = (λ all. (tt, all), λ each. each.1)
all_parts P (x ∷ xs) ys = (
  λ all. let rest = (all_parts P xs ys).0 all.1 in ((all.0, rest.0), rest.1),
  λ each. (each.0.0, (all_parts P xs ys).1 (each.0.1, each.1)),
)

since_is : (old new : Folder) (since : List Given) → new.gave ≡ since ++ old.gave → given_since old new ≡ since
since_is old new since is =
    let long : length new.gave - length old.gave ≡ length since = omega (arith, ap length is, length-append since old.gave) in
    ap (λ (k : ℕ). take k new.gave) long ∙ ap (λ (l : List Given). take (length since) l) is ∙ take-append_seam since old.gave

-- files agree with what was given, by the list of it
pub agrees_by : (files : Contents) (old new : Folder) (since : List Given) → new.gave ≡ since ++ old.gave → AllByRecursion (AgreesWith files) since
    → Agrees files old new
agrees_by files old new since is all = record { each = subst (AllByRecursion (AgreesWith files)) (sym (since_is old new since is)) all }

all_by : (files : Contents) (old new : Folder) (since : List Given) → new.gave ≡ since ++ old.gave → Agrees files old new
    → AllByRecursion (AgreesWith files) since
all_by files old new since is agrees = subst (AllByRecursion (AgreesWith files)) (since_is old new since is) agrees.each

-- if the bytes are reported, the files agree with what was given
pub agrees_told : (old new : Folder) → KeepsFiles old new → IsTrue old.told → Agrees old.file old new
agrees_told old new kept tells = agrees_by old.file old new kept.since kept.gave (kept.agrees tells)

-- a load that changed no file and gave what the files hold, if they are reported
pub keeps_given : (a b : Folder) (g : Given) → b.knows ≡ a.knows → b.told ≡ a.told → b.file ≡ a.file → b.room ≡ a.room → b.took ≡ a.took → b.gave ≡ g ∷ a.gave
    → (IsTrue a.told → AgreesWith a.file g) → KeepsFiles a b
keeps_given a b g knows told file room took gave agrees = record {
  knows = knows;
  told = told;
  file = file;
  room = room;
  took = took;
  since = g ∷ [];
  gave = gave;
  agrees = λ tells. (agrees tells, tt);
}

-- before any call
pub keeps_still : (a : Folder) → KeepsFiles a a
keeps_still a = record { knows = refl; told = refl; file = refl; room = refl; took = refl; since = []; gave = refl; agrees = λ tells. tt }

pub agrees_still : (files : Contents) (a : Folder) → Agrees files a a
agrees_still files a = agrees_by files a a [] refl tt

-- two calls, one after the other, that each kept all files kept them
pub keeps_more : (a b c : Folder) → KeepsFiles a b → KeepsFiles b c → KeepsFiles a c
keeps_more a b c first next = record {
  knows = next.knows ∙ first.knows;
  told = next.told ∙ first.told;
  file = next.file ∙ first.file;
  room = next.room ∙ first.room;
  took = next.took ∙ first.took;
  since = next.since ++ first.since;
  gave = next.gave ∙ ap (λ (l : List Given). next.since ++ l) first.gave ∙ sym (append_assoc next.since first.since a.gave);
  agrees = λ tells.
      let later = subst (λ (files : Contents). AllByRecursion (AgreesWith files) next.since) first.file (next.agrees (subst IsTrue (sym first.told) tells)) in
      (all_parts (AgreesWith a.file) next.since first.since).1 (later, first.agrees tells);
}

-- what is after a slice of a whole vector is nothing
pub whole_slice : {A : Type 0} (len : ℕ) (new old : List A) → length new ≡ length old → len ≡ length old → new ≡ take len (new ++ drop (length new) old)
whole_slice len new old same is =
    let none : drop (length new) old ≡ [] = ap (λ (k : ℕ). drop k old) same ∙ drop-length old in
    let all : new ++ drop (length new) old ≡ new = ap (λ (l : List _). new ++ l) none ∙ append-nil new in
    sym (ap (λ (l : List _). take len l) all ∙ ap (λ (k : ℕ). take k new) (is ∙ sym same) ∙ take-length new)

-- files that were kept are kept if both have given and taken the same besides
pub keeps_calls : (a b : Folder) (gave took : List Given) → KeepsFiles a b → KeepsFiles (with_calls a gave took) (with_calls b gave took)
keeps_calls a b gave took kept = record {
  knows = kept.knows;
  told = kept.told;
  file = kept.file;
  room = kept.room;
  took = refl;
  since = [];
  gave =
      refl;
  agrees = λ tells. tt;
}

pub keeps_with : (a b : Folder) (gave : List Given) → KeepsFiles a b → KeepsFiles (with_gave a gave) (with_gave b gave)
keeps_with a b gave kept = record {
  knows = kept.knows;
  told = kept.told;
  file = kept.file;
  room = kept.room;
  took = ap {B = List ℕ → List ℕ} (λ (f : Contents) (name : List ℕ). unwrap_or (f name) []) kept.file;
  since = [];
  gave = refl;
  agrees = λ tells. tt;
}

-- a file that is reported became what it was with a piece after it
pub becomes_with : (name : List ℕ) (a b : Folder) (gave : List Given) (piece : List ℕ) (n : ℕ) → IsTrue a.told
    → Becomes name a b (Some (unwrap_or (a.file name) [] ++ piece)) [] n
    → Becomes name (with_gave a gave) (with_gave b gave) (Some (unwrap_or (a.file name) [] ++ piece)) piece n
becomes_with name a b gave piece n tells h = record {
  knows = h.knows;
  told = h.told;
  file = h.file;
  other_files = h.other_files;
  took = ap (λ (o : Option (List ℕ)). unwrap_or o []) (h.file tells);
  other_took = λ other ne. ap (λ (o : Option (List ℕ)). unwrap_or o []) (h.other_files other ne);
  fits = h.fits;
  room = h.room;
  other_rooms = h.other_rooms;
}

-- files that aren't told took one more piece for a name
pub becomes_calls : (name : List ℕ) (a : Folder) (gave took : List Given) (g : Given) (content : Option (List ℕ)) (n : ℕ) → g.name ≡ name → (IsTrue a.told → ⊥)
    → IfSome (a.room name) (λ r. n ≤ r) → a.room name ≡ option_map (λ r. r - n) (a.room name)
    → Becomes name (with_calls a gave took) (with_calls a gave (g ∷ took)) content g.bytes n
becomes_calls name a gave took g content n same untold fits room =
    let here : bytes_eq g.name name ≡ true = (bytes_eq-Decides g.name name).1 same in
    record {
      knows = refl;
      told = refl;
      file = λ tells. absurd (untold tells);
      other_files = λ other ne. refl;
      took = ap (λ (b : Bool). bytes_under took name ++ cond b g.bytes []) here;
      other_took = λ other ne.
          let apart : bytes_eq g.name other ≡ false = false_from_ne_true _ (λ t. ne (sym ((bytes_eq-Decides g.name other).0 t) ∙ same)) in
          ap (λ (b : Bool). bytes_under took other ++ cond b g.bytes []) apart ∙ append-nil (bytes_under took other);
      fits = fits;
      room = room;
      other_rooms = λ other ne. refl;
    }

gave_both : (a b c : Folder) → (first : KeepsFiles a b) → (next : KeepsFiles b c) → c.gave ≡ (next.since ++ first.since) ++ a.gave
gave_both a b c first next = next.gave ∙ ap (λ (l : List Given). next.since ++ l) first.gave ∙ sym (append_assoc next.since first.since a.gave)

-- what agrees with both calls agrees with each
pub agrees_first : (files : Contents) (a b c : Folder) → KeepsFiles a b → KeepsFiles b c → Agrees files a c → Agrees files a b
agrees_first files a b c first next agrees =
    agrees_by files a b first.since first.gave ((all_parts (AgreesWith files) next.since first.since).0
    (all_by files a c (next.since ++ first.since) (gave_both a b c first next) agrees)).1

pub agrees_next : (files : Contents) (a b c : Folder) → KeepsFiles a b → KeepsFiles b c → Agrees files a c → Agrees files b c
agrees_next files a b c first next agrees =
    agrees_by files b c next.since next.gave ((all_parts (AgreesWith files) next.since first.since).0
    (all_by files a c (next.since ++ first.since) (gave_both a b c first next) agrees)).0

pub agrees_both : (files : Contents) (a b c : Folder) → KeepsFiles a b → KeepsFiles b c → Agrees files a b → Agrees files b c → Agrees files a c
agrees_both files a b c first next one other =
    agrees_by files a c (next.since ++ first.since) (gave_both a b c first next)
    ((all_parts (AgreesWith files) next.since first.since).1 (all_by files b c next.since next.gave other, all_by files a b first.since first.gave one))

-- the same if as much was given by another moment
pub agrees_same : (files : Contents) (a b c : Folder) → c.gave ≡ b.gave → Agrees files a b → Agrees files a c
agrees_same files a b c same agrees = record {
  each = subst (λ (l : List Given). AllByRecursion (AgreesWith files) (take (length l - length a.gave) l))
      (sym same) agrees.each;
}

-- one load, as a list of what was given
pub agrees_load : (files : Contents) (a b : Folder) (g : Given) → b.gave ≡ g ∷ a.gave → Agrees files a b → AgreesWith files g
agrees_load files a b g is agrees = let all = all_by files a b (g ∷ []) is agrees in all.0

pub agrees_one : (files : Contents) (a b : Folder) (g : Given) → b.gave ≡ g ∷ a.gave → AgreesWith files g → Agrees files a b
agrees_one files a b g is agrees = agrees_by files a b (g ∷ []) is (agrees, tt)

-- a file of which something holds
pub some_file : (o : Option (List ℕ)) (P : List ℕ → Type 0) → IsSomeAnd o P → (file : List ℕ) × (o ≡ Some file) × P file
some_file None P h = absurd h
some_file (Some file) P h = (file, refl, h)

pub is_file : (o : Option (List ℕ)) (P : List ℕ → Type 0) (file : List ℕ) → o ≡ Some file → P file → IsSomeAnd o P
is_file o P file is h = subst (λ (x : Option (List ℕ)). IsSomeAnd x P) (sym is) h

-- the prefix of a buffer is right if it is as a buffer of its own
pub stands_front : (file buffer : List ℕ) (at room n : ℕ) → n ≤ length buffer → Stands file at room (take n buffer) (length (take n buffer))
    → Stands file at room buffer n
stands_front file buffer at room n le h =
    let long : length (take n buffer) ≡ n = omega (arith, length-take n buffer) in
    record {
      bytes = sym (take-length (take n buffer)) ∙ h.bytes ∙ ap (λ (k : ℕ). take k (drop at file)) long;
      within = omega (arith, h.within, long);
      some = λ lt some. omega (arith, h.some lt some, long);
    }

pub front_stands : (file buffer : List ℕ) (at room n : ℕ) → n ≤ length buffer → Stands file at room buffer n
    → Stands file at room (take n buffer) (length (take n buffer))
front_stands file buffer at room n le h =
    let long : length (take n buffer) ≡ n = omega (arith, length-take n buffer) in
    record {
      bytes = take-length (take n buffer) ∙ h.bytes ∙ ap (λ (k : ℕ). take k (drop at file)) (sym long);
      within = omega (arith, h.within, long);
      some = λ lt some. omega (arith, h.some lt some, long);
    }

-- a piece after what was read so far, in a file that goes on
pub stands_behind : (bytes piece rest : List ℕ) (room : ℕ) → (0 < length rest → 0 < room → 0 < length piece)
    → Stands (bytes ++ (piece ++ rest)) (length bytes) room piece (length piece)
stands_behind bytes piece rest room some =
    let behind : drop (length bytes) (bytes ++ (piece ++ rest)) ≡ piece ++ rest = drop-append_seam bytes (piece ++ rest) in
    let long : length (bytes ++ (piece ++ rest)) ≡ length bytes + (length piece + length rest) = omega
    (arith, length-append bytes (piece ++ rest), length-append piece rest) in
    record {
      bytes = take-length piece ∙ sym (ap (λ (l : List ℕ). take (length piece) l) behind ∙ take-append_seam piece rest);
      within = omega (arith, long);
      some = λ lt has. either (length piece) (length rest) (omega (arith, lt, long)) (λ more. some more has);
    }
  where
    either : (p r : ℕ) → 0 < p + r → (0 < r → 0 < p) → 0 < p
    either p zero lt h = omega (arith, lt)
    either p (suc r) lt h = h (omega arith)

at_end : (m n : ℕ) → (m < n → ⊥) → n ≤ m
at_end m n not = elim (cases_lt m n) [ inl lt ↦ absurd (not lt) | inr le ↦ le ]

-- if a load with some room gives no more bytes, what was read so far is the whole file
pub all_read : (bytes file buffer : List ℕ) (room : ℕ) → 0 < room → bytes ≡ take (length bytes) file → Stands file (length bytes) room buffer 0 → file ≡ bytes
all_read bytes file buffer room some so_far last =
    let long : length file ≤ length bytes = at_end (length bytes) (length file) (λ lt. absurd (omega (arith, last.some lt some))) in
    sym (so_far ∙ take_all (length bytes) file long)

-- what was read so far, and the bytes of one more load, are the prefix of the file
pub read_more : (bytes file buffer : List ℕ) (room n : ℕ) → n ≤ length buffer → bytes ≡ take (length bytes) file
    → Stands file (length bytes) room buffer n → bytes ++ take n buffer ≡ take (length (bytes ++ take n buffer)) file
read_more bytes file buffer room n le so_far stands =
    let long : length (bytes ++ take n buffer) ≡ length bytes + n = omega (arith, length-append bytes (take n buffer), length-take n buffer) in
    ap (λ (l : List ℕ). bytes ++ l) stands.bytes ∙ ap (λ (l : List ℕ). l ++ take n (drop (length bytes) file)) so_far
    ∙ sym (take-add (length bytes) n file) ∙ ap (λ (k : ℕ). take k file) (sym long)

-- what files with these bytes hold is no more than the limit
pub not_more : (name : List ℕ) (a b : Folder) (bytes : List ℕ) (limit : ℕ) → GaveOf (record { name = name; bytes = bytes } ∷ []) a b
    → length bytes ≤ limit → GaveMore name a b limit → ⊥
not_more name a b bytes limit of short more =
    let over : limit < length bytes = more (λ other. Some bytes) (of.agree (λ other. Some bytes) (refl, tt)) in
    omega (arith, over, short)

-- The loads in between gave these bytes of a name from its first byte on, one load after the other, and nothing else.
pub record GaveFront (name : List ℕ) (old new : Folder) (bytes : List ℕ) : Type 0 where
  pub kept : KeepsFiles old new
  pub held : (files : Contents) → Agrees files old new → (file : List ℕ) → files name ≡ Some file → bytes ≡ take (length bytes) file
  pub enough : (files : Contents) (rest : List ℕ) → files name ≡ Some (bytes ++ rest) → Agrees files old new

-- a load of a name after what was given of it
abbrev pub next_load : List ℕ → ℕ → ℕ → List ℕ → ℕ → Given
next_load name at room buffer n = record { name = name; at = at; room = room; bytes = take n buffer }

-- before the first load
pub front_none : (name : List ℕ) (a : Folder) → GaveFront name a a []
front_none name a = record {
  kept = keeps_still a;
  held = λ files agrees file is. refl;
  enough = λ files rest is. agrees_still files a;
}

module _ (name : List ℕ) (a b c : Folder) (bytes buffer : List ℕ) (room n : ℕ) (le : n ≤ length buffer) (front : GaveFront name a b bytes)
    (kept : KeepsFiles b c) (gave : c.gave ≡ next_load name (length bytes) room buffer n ∷ b.gave) where
  -- the file that the load saw, which goes on from what was given before
  seen : (files : Contents) → Agrees files a c → (file : List ℕ) × (files name ≡ Some file) × (bytes ≡ take (length bytes) file)
      × Stands file (length bytes) room buffer n
  seen files agrees =
      let before = agrees_first files a b c front.kept kept agrees in
      let load = agrees_load files b c (next_load name (length bytes) room buffer n) gave (agrees_next files a b c front.kept kept agrees) in
      let f = some_file (files name) (λ file. Stands file (length bytes) room (take n buffer) (length (take n buffer))) load in
      (f.0, f.1, front.held files before f.0 f.1, stands_front f.0 buffer (length bytes) room n le f.2)

  joined : (files : Contents) (file : List ℕ) → files name ≡ Some file → Agrees files a b → Stands file (length bytes) room (take n buffer)
      (length (take n buffer)) → Agrees files a c
  joined files file is before stands =
      agrees_both files a b c front.kept kept before (agrees_one files b c (next_load name (length bytes) room buffer n) gave
      (is_file (files name) (λ f. Stands f (length bytes) room (take n buffer) (length (take n buffer))) file is stands))

  -- one more load that gave something
  pub front_more : 0 < n → GaveFront name a c (bytes ++ take n buffer)
  front_more some = record {
    kept = keeps_more a b c front.kept kept;
    held = λ files agrees file is.
        let s = seen files agrees in
        let same : s.0 ≡ file = let both : Some s.0 ≡ Some file = sym s.1 ∙ is in cc in
        subst (λ (f : List ℕ). bytes ++ take n buffer ≡ take (length (bytes ++ take n buffer)) f) same (read_more bytes s.0 buffer room n le s.2 s.3);
    enough = λ files rest is.
        let long : length (take n buffer) ≡ n = omega (arith, length-take n buffer, le) in
        let whole : files name ≡ Some (bytes ++ (take n buffer ++ rest)) = is ∙ ap Some (append_assoc bytes (take n buffer) rest) in
        joined files (bytes ++ (take n buffer ++ rest)) whole (front.enough files (take n buffer ++ rest) whole)
        (stands_behind bytes (take n buffer) rest room (λ more has. omega (arith, long, some)));
  }

  -- a load with room that gave nothing
  pub front_all : n ≡ 0 → 0 < room → GaveAll name a c bytes
  front_all none has = record {
    held = λ files agrees.
        let s = seen files agrees in
        s.1 ∙ ap Some (all_read bytes s.0 buffer room has s.2 (subst (Stands s.0 (length bytes) room buffer) none s.3));
    enough = λ files is.
        let empty : take n buffer ≡ [] = ap (λ (k : ℕ). take k buffer) none in
        let last : Stands bytes (length bytes) room (take n buffer) (length (take n buffer)) = record {
          bytes = ap (λ (l : List ℕ). take (length l) l) empty ∙ sym (ap (λ (l : List ℕ). take (length l) (drop (length bytes) bytes)) empty);
          within = omega (arith, ap length empty);
          some = λ lt room_left. absurd (omega (arith, lt));
        } in
        joined files bytes is (front.enough files [] (is ∙ ap Some (sym (append-nil bytes)))) last;
  }

  -- a load that gave more than the limit leaves
  pub front_over : (limit : ℕ) → length bytes ≤ limit → limit - length bytes < n → GaveMore name a c limit
  front_over limit within over files agrees =
      let s = seen files agrees in
      is_file (files name) (λ f. limit < length f) s.0 s.1 (omega (arith, s.3.within, within, over))

  -- one more load, whatever it gave, and whether it was kept or not
  front_of : GaveOf (record { name = name; bytes = bytes ++ take n buffer } ∷ []) a c
  front_of = record {
    agree = λ files hold.
        let is : files name ≡ Some (bytes ++ (take n buffer ++ [])) = hold.0 ∙ ap (λ (l : List ℕ). Some (bytes ++ l)) (sym (append-nil (take n buffer))) in
        joined files (bytes ++ (take n buffer ++ [])) is (front.enough files (take n buffer ++ []) is)
        (stands_behind bytes (take n buffer) [] room (λ more has. absurd (omega (arith, more))));
  }

  pub front_next : GaveSome name a c
  front_next = record { bytes = bytes ++ take n buffer; gave = front_of }

  -- a load that gave no more than the limit leaves
  pub front_within : (limit : ℕ) → length bytes ≤ limit → n ≤ limit - length bytes → GaveMore name a c limit → ⊥
  front_within limit within few more =
      not_more name a c (bytes ++ take n buffer) limit front_of
      (omega (arith, within, few, length-append bytes (take n buffer), length-take n buffer)) more

-- before the first load nothing was given, which is no more than any limit
pub none_within : (name : List ℕ) (a : Folder) (limit : ℕ) → GaveMore name a a limit → ⊥
none_within name a limit more = not_more name a a [] limit (record { agree = λ files hold. agrees_still files a }) (omega arith) more

-- bytes that hold what the loads of a prefix gave are its own
pub front_some : (name : List ℕ) (a b : Folder) (bytes : List ℕ) → GaveFront name a b bytes → GaveSome name a b
front_some name a b bytes front = record {
  bytes = bytes;
  gave = record { agree = λ files hold. front.enough files [] (hold.0 ∙ ap Some (sym (append-nil bytes))) };
}

-- and so are those of a file that was given whole
pub all_of : (name : List ℕ) (a b : Folder) (bytes : List ℕ) → GaveAll name a b bytes → GaveOf (record { name = name; bytes = bytes } ∷ []) a b
all_of name a b bytes gave = record { agree = λ files hold. gave.enough files hold.0 }

pub all_some : (name : List ℕ) (a b : Folder) (bytes : List ℕ) → GaveAll name a b bytes → GaveSome name a b
all_some name a b bytes gave = record { bytes = bytes; gave = all_of name a b bytes gave }

-- if nothing was given
pub of_none : (a : Folder) → GaveOf [] a a
of_none a = record { agree = λ files hold. agrees_still files a }

-- two calls, one after the other, gave of what each gave of
pub of_both : (xs ys : List Content) (a b c : Folder) → GaveOf xs a b → GaveOf ys b c → KeepsFiles a b → KeepsFiles b c → GaveOf (xs ++ ys) a c
of_both xs ys a b c one other first next = record {
  agree = λ files hold.
      agrees_both files a b c first next (one.agree files ((all_parts (held_in files) xs ys).0 hold).0)
      (other.agree files ((all_parts (held_in files) xs ys).0 hold).1);
}
  where
    held_in : Contents → Content → Type 0
    held_in files x = files x.name ≡ Some x.bytes

-- the same if as much was given by another moment
pub of_same : (xs : List Content) (a b c : Folder) → c.gave ≡ b.gave → GaveOf xs a b → GaveOf xs a c
of_same xs a b c same of = record { agree = λ files hold. agrees_same files a b c same (of.agree files hold) }

pub some_same : (name : List ℕ) (a b c : Folder) → c.gave ≡ b.gave → GaveSome name a b → GaveSome name a c
some_same name a b c same some = record { bytes = some.bytes; gave = of_same (record { name = name; bytes = some.bytes } ∷ []) a b c same some.gave }
