-- Numbers as bytes: "All numbers are big-endian".
use Rattle.std.specs.Prelude.{ℕ, zero, suc, ◌+◌, ◌*◌, ◌/◌, ◌%◌, ◌^◌, List, [], ◌∷◌, ◌++◌, length}

-- the number that bytes stand for, the most significant first
unfoldable pub big : List ℕ → ℕ
big [] = 0
big (b ∷ bs) = b * 256 ^ length bs + big bs

-- the w lowest bytes of a number, the most significant first
unfoldable pub bytes_of : ℕ → ℕ → List ℕ
bytes_of zero n = []
bytes_of (suc w) n = bytes_of w (n / 256) ++ (n % 256 ∷ [])
