-- What a buffer of a fixed length means.
use Rattle.std.specs.Prelude.{ℕ, ◌-◌, List, take, length}
use Rattle.cca_base.specs.declared.buffer.Buffer.{Buffer}

-- its bytes in use
abbrev pub held : Buffer → List ℕ
held b = take b.used b.bytes.items

-- how many go in yet
abbrev pub left : Buffer → ℕ
left b = length b.bytes.items - b.used
