-- The line of a winner that is put together piece by piece.
use Rattle.std.proofs.Common.{◌≡◌, ℕ, List, ◌++◌, append_assoc}

-- the pieces of a line, put one by one after a text, are the whole line after it
pub regroup : (t w n m b a k v p f e : List ℕ) → (((((((((t ++ w) ++ n) ++ m) ++ b) ++ a) ++ k) ++ v) ++ p) ++ f) ++ e ≡ t
    ++ (((((((((w ++ n) ++ m) ++ b) ++ a) ++ k) ++ v) ++ p) ++ f) ++ e)
regroup t w n m b a k v p f e = simp append_assoc
