-- The rows in the order in which they come, turn by turn.
use Rattle.std.specs.Prelude.{◌≡◌, ℕ, List, [], ◌∷◌, ◌++◌, map, Option, refl}
use Rattle.std.specs.declared.option.Option.TheVariants.{Some, None}
use Rattle.std.proofs.Common.{sym, ◌∙◌, ap, append_assoc, append-nil}
use Rattle.blocking.specs.declared.look.Block.{Block}
use Rattle.far_num.specs.declared.Row.{Row}
use Rattle.core_price.specs.Rows.{block_choices, block_rows, blocks_of, with_block}
use Rattle.core_price.specs.declared.priced.Turn.{Turn}
use mathlib.Core.List.{map-append}

with-more : (b : Option Block) (xs ys : List Block) → with_block b (xs ++ ys) ≡ with_block b xs ++ ys
with-more None xs ys = refl
with-more (Some b) xs ys = refl

blocks-more : (past : List Turn) (t : Turn) → blocks_of (past ++ t ∷ []) ≡ blocks_of past ++ with_block t.block []
blocks-more [] t = refl
blocks-more (u ∷ past) t = ap (with_block u.block) (blocks-more past t) ∙ with-more u.block (blocks_of past) (with_block t.block [])

-- a turn with a block adds its row and its choice
pub blocks-block : (past : List Turn) (t : Turn) (b : Block) → t.block ≡ Some b → blocks_of (past ++ t ∷ []) ≡ blocks_of past ++ b ∷ []
blocks-block past t b e = blocks-more past t ∙ ap (λ o. blocks_of past ++ with_block o []) e

-- a turn without a block adds none
pub blocks-last : (past : List Turn) (t : Turn) → t.block ≡ None → blocks_of (past ++ t ∷ []) ≡ blocks_of past
blocks-last past t e = blocks-more past t ∙ ap (λ o. blocks_of past ++ with_block o []) e ∙ append-nil (blocks_of past)

-- the rows with that of the block are the first ones and those of all turns with this one
pub rows-block : (rows start : List Row) (past : List Turn) (t : Turn) (b : Block) → t.block ≡ Some b → rows ≡ start ++ block_rows past
    → rows ++ b.row ∷ [] ≡ start ++ block_rows (past ++ t ∷ [])
rows-block rows start past t b e h =
    ap (λ l. l ++ b.row ∷ []) h
    ∙ append_assoc start (block_rows past) (b.row ∷ [])
    ∙ ap (λ l. start ++ l) (sym (map-append (λ b. b.row) (blocks_of past) (b ∷ [])) ∙ ap (map (λ b. b.row)) (sym (blocks-block past t b e)))

-- the choices with that of the block are the first ones and those of all turns with this one
pub choices-block : (choices start : List (List ℕ)) (past : List Turn) (t : Turn) (b : Block) → t.block ≡ Some b → choices ≡ start ++ block_choices past
    → choices ++ b.choice ∷ [] ≡ start ++ block_choices (past ++ t ∷ [])
choices-block choices start past t b e h =
    ap (λ l. l ++ b.choice ∷ []) h
    ∙ append_assoc start (block_choices past) (b.choice ∷ [])
    ∙ ap (λ l. start ++ l) (sym (map-append (λ b. b.choice) (blocks_of past) (b ∷ [])) ∙ ap (map (λ b. b.choice)) (sym (blocks-block past t b e)))

-- the last turn adds none
pub rows-last : (past : List Turn) (t : Turn) → t.block ≡ None → block_rows (past ++ t ∷ []) ≡ block_rows past
rows-last past t e = ap (map (λ b. b.row)) (blocks-last past t e)

-- nor does it add a choice
pub choices-last : (past : List Turn) (t : Turn) → t.block ≡ None → block_choices (past ++ t ∷ []) ≡ block_choices past
choices-last past t e = ap (map (λ b. b.choice)) (blocks-last past t e)
