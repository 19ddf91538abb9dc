-- Calls that returned: what loads gave, and what puts took.
use Rattle.std.specs.Prelude.{ℕ, List, [], ◌∷◌, ◌++◌, cond}
use Rattle.std.specs.Str.{bytes_eq}

-- a load of a name from a place into a buffer of that many bytes, and the bytes that it gave
pub record Given : Type 0 where
  pub name : List ℕ
  pub at : ℕ
  pub room : ℕ
  pub bytes : List ℕ

-- the bytes of all calls, in the order of the calls, where the last one is first
abbrev pub all_bytes : List Given → List ℕ
all_bytes [] = []
all_bytes (g ∷ before) = all_bytes before ++ g.bytes

-- the bytes of the calls of one name, in this order
abbrev pub bytes_under : List Given → List ℕ → List ℕ
bytes_under [] name = []
bytes_under (g ∷ before) name = bytes_under before name ++ cond (bytes_eq g.name name) g.bytes []
