-- The rows in the order of their arrival: the single winners, then one of each block.
use Rattle.std.specs.Prelude.{ℕ, suc, ◌^◌, List, [], ◌∷◌, ◌++◌, map, Option, ℤ}
use Rattle.std.specs.declared.option.Option.TheVariants.{Some, None}
use Rattle.blocking.specs.declared.look.Block.{Block}
use Rattle.choices.specs.declared.chooser.Single.{Single}
use Rattle.far_num.specs.declared.Row.{Row}
use Rattle.core_price.specs.declared.priced.Turn.{Turn}

-- the Vickrey prices of the winners in order
abbrev pub prices_of : List Single → List ℤ
prices_of singles = map (λ s. s.price) singles

-- the single winners after i winners, each with its Vickrey price
abbrev pub single_bits : ℕ → List Single → List Row
single_bits i [] = []
single_bits i (s ∷ singles) = record { members = 2 ^ i; bound = s.price } ∷ single_bits (suc i) singles

-- the blocks of the turns that have one
abbrev pub with_block : Option Block → List Block → List Block
with_block None blocks = blocks
with_block (Some b) blocks = b ∷ blocks

abbrev pub blocks_of : List Turn → List Block
blocks_of [] = []
blocks_of (t ∷ turns) = with_block t.block (blocks_of turns)

abbrev pub block_rows : List Turn → List Row
block_rows turns = map (λ b. b.row) (blocks_of turns)

abbrev pub block_choices : List Turn → List (List ℕ)
block_choices turns = map (λ b. b.choice) (blocks_of turns)

-- all rows, and the choices that give them
abbrev pub asked_rows : List Single → List Turn → List Row
asked_rows singles turns = single_bits 0 singles ++ block_rows turns

abbrev pub asked_choices : List Single → List Turn → List (List ℕ)
asked_choices singles turns = map (λ s. s.choice) singles ++ block_choices turns
