-- The texts of a table's lines, and the fields of a line.
use Rattle.std.proofs.Common.{List, [], ap, append_assoc, arith, codes, drop, get_or, length, length-append, length-drop, map, pos, refl, suc, sym}
use Rattle.std.proofs.Common.{take, zero, ℕ, ℤ, ◌++◌, ◌+◌, ◌-◌, ◌<◌, ◌^◌, ◌∙◌, ◌∷◌, ◌≡◌, ◌≤◌}
use Rattle.std.proofs.lemmas.List.{at_drop_more, get_or-map, length-take-le, map-append, take_all, take_more}
use Rattle.std.specs.Fmt.{decimal}
use Rattle.std.specs.List.{concat}
use Rattle.cert_grammar.specs.CertText.{line, table_lines}
use Rattle.cert_grammar.specs.Lines.{Line, spell}
use Rattle.line_format.specs.Numeral.{numbers_text, numeral}
use Rattle.line_format.specs.Range.{AllInRange}
use Rattle.line_format.proofs.Decimals.{decimal_numeral}
use Rattle.line_format.proofs.NumberRuns.{next_run}
use Rattle.cert_text.specs.Written.{bytes_of, line_bytes, lines_of_table, AddsLines}
use Rattle.cert_text.proofs.Written.{adds_both}

-- one text more
pub spelled-more : (table : List (List ℤ)) (i : ℕ) (texts made : List (List ℕ)) (text : List ℕ) → i < length table → texts ≡ map line_bytes (take i table)
    → text ≡ line_bytes (get_or table i [])
    → made ≡ texts ++ text ∷ [] → made ≡ map line_bytes (take (i + 1) table)
spelled-more table i texts made text inside so_far own step =
    step
    ∙ ap (λ (t : List (List ℕ)). t ++ text ∷ []) so_far
    ∙ ap (λ (t : List ℕ). map line_bytes (take i table) ++ t ∷ []) own
    ∙ sym (map-append line_bytes (take i table) (get_or table i [] ∷ []))
    ∙ ap (map line_bytes) (sym (take_more table i [] inside))

-- all of them are the text of the lines
spelled-all : (table : List (List ℤ)) → concat (map line_bytes table) ≡ bytes_of (table_lines table)
spelled-all [] = refl
spelled-all (t ∷ table) =
    ap (λ (b : List ℕ). line_bytes t ++ b) (spelled-all table) ∙ append_assoc (spell (line (codes "t") t)) (10 ∷ []) (bytes_of (table_lines table))

-- the text of a line that is another table's
pub spelled-same : (whole : List (List ℤ)) (texts : List (List ℕ)) (at : ℕ) (numbers : List ℤ) (default : List ℕ) → at < length whole
    → texts ≡ map line_bytes whole → get_or whole at [] ≡ numbers
    → get_or texts at default ≡ line_bytes numbers
spelled-same whole texts at numbers default inside are same =
    ap (λ (t : List (List ℕ)). get_or t at default) are ∙ get_or-map line_bytes whole at [] default inside ∙ ap line_bytes same

-- the word of a table, the texts of its lines, and then parts
pub tables-added : (a b d e : List ℕ) (table : List (List ℤ)) (texts : List (List ℕ)) (parts : List Line) → AddsLines a b (line (codes "table") [] ∷ [])
    → texts ≡ map line_bytes table → d ≡ b ++ concat texts → AddsLines d e parts
    → AddsLines a e (lines_of_table (codes "table") table ++ parts)
tables-added a b d e table texts parts word are lines then =
    let own : AddsLines b d (table_lines table) = lines ∙ ap (λ (t : List (List ℕ)). b ++ concat t) are ∙ ap (λ (t : List ℕ). b ++ t) (spelled-all table) in
    adds_both a d e (lines_of_table (codes "table") table) parts (adds_both a b d (line (codes "table") [] ∷ []) (table_lines table) word own) then

-- one number more, before those that are there
pub field-more : (ns : List ℤ) (k n : ℕ) (rest made : List ℕ) → k < length ns → n < 2 ^ 64 → get_or ns k (pos 0) ≡ pos n
    → rest ≡ numbers_text (drop (k + 1) ns) → made ≡ 32 ∷ decimal n ++ rest
    → made ≡ numbers_text (drop k ns)
field-more ns k n rest made inside small is so_far step =
    step
    ∙ ap (λ (t : List ℕ). 32 ∷ t ++ rest) (decimal_numeral n (omega (arith, small)))
    ∙ ap (λ (t : List ℕ). 32 ∷ numeral n ++ t) so_far
    ∙ ap (λ (z : ℤ). numbers_text (z ∷ drop (k + 1) ns)) (sym is)
    ∙ sym (at_drop_more numbers_text ns k (pos 0) inside)

range-first : (n : ℕ) (ns : List ℤ) → AllInRange ns → AllInRange (take n ns)
range-first zero ns all = tt
range-first (suc n) [] all = tt
range-first (suc n) (z ∷ ns) all = (all.0, range-first n ns all.1)

-- numbers of a list in range are in range
pub range-part : (ns : List ℤ) (from n : ℕ) → AllInRange ns → AllInRange (take n (drop from ns))
range-part ns zero n all = range-first n ns all
range-part [] (suc from) n all = range-first n [] tt
range-part (z ∷ ns) (suc from) n all = range-part ns from n all.1

-- one piece more
pub next-piece : (ns : List ℤ) (done end : ℕ) (whole before behind : List ℕ) → done ≤ end → before ++ numbers_text (drop done ns) ≡ whole
    → behind ≡ before ++ numbers_text (take (end - done) (drop done ns))
    → behind ++ numbers_text (drop end ns) ≡ whole
next-piece ns done end whole before behind on so_far step =
    let all : take (length ns - done) (drop done ns) ≡ drop done ns = take_all (length ns - done) (drop done ns) (omega (arith, length-drop done ns)) in
    let next : done + (end - done) ≡ end = omega (arith, on) in
    let same : behind ≡ before ++ numbers_text (take (end - done) (take (length ns - done) (drop done ns))) =
    step ∙ ap (λ (l : List ℤ). before ++ numbers_text (take (end - done) l)) (sym all) in
    ap (λ (i : ℕ). behind ++ numbers_text (drop i ns)) (sym next) ∙ next_run ns done (end - done) whole before behind so_far same

-- one piece more, of numbers that were copied
pub copied-piece : (ns piece : List ℤ) (done count n : ℕ) (whole before behind : List ℕ) → before ++ numbers_text (drop done ns) ≡ whole
    → n ≡ count → piece ≡ take n (drop done ns) → behind ≡ before ++ numbers_text piece
    → behind ++ numbers_text (drop (done + count) ns) ≡ whole
copied-piece ns piece done count n whole before behind so_far same copied step =
    let back : n ≡ done + count - done = omega (arith, same) in
    next-piece ns done (done + count) whole before behind (omega arith) so_far
    (step ∙ ap (λ (l : List ℤ). before ++ numbers_text l) copied ∙ ap (λ (k : ℕ). before ++ numbers_text (take k (drop done ns))) back)

-- a room keeps its size if its first numbers are written
pub room-kept : (room piece : List ℤ) (count size : ℕ) → count ≤ size → length room ≡ size → length piece ≡ length (take count room)
    → length (piece ++ drop count room) ≡ size
room-kept room piece count size within whole front =
    let part : length (take count room) ≡ count = length-take-le count room (omega (arith, within, whole)) in
    omega (arith, length-append piece (drop count room), length-drop count room, whole, front, part)
