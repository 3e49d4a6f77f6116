-- UTF-8 as RFC 3629 has it: how far bytes are well formed.
use Rattle.std.specs.Prelude.{ℕ, zero, suc, ◌+◌, Bool, true, false, cond, ◌&&◌, List, [], ◌∷◌, leb, ltb, length, drop}

-- UTF8-char of RFC 3629, section 4: a row for each form of a character, with the least and the greatest value of each byte
unfoldable pub table : List (List (ℕ × ℕ))
table =
    ((0x00, 0x7F) ∷ [])  -- UTF8-1 = %x00-7F
    ∷ ((0xC2, 0xDF) ∷ (0x80, 0xBF) ∷ [])  -- UTF8-2 = %xC2-DF UTF8-tail
    ∷ ((0xE0, 0xE0) ∷ (0xA0, 0xBF) ∷ (0x80, 0xBF) ∷ [])  -- UTF8-3 = %xE0 %xA0-BF UTF8-tail
    ∷ ((0xE1, 0xEC) ∷ (0x80, 0xBF) ∷ (0x80, 0xBF) ∷ [])  -- / %xE1-EC 2( UTF8-tail )
    ∷ ((0xED, 0xED) ∷ (0x80, 0x9F) ∷ (0x80, 0xBF) ∷ [])  -- / %xED %x80-9F UTF8-tail
    ∷ ((0xEE, 0xEF) ∷ (0x80, 0xBF) ∷ (0x80, 0xBF) ∷ [])  -- / %xEE-EF 2( UTF8-tail )
    ∷ ((0xF0, 0xF0) ∷ (0x90, 0xBF) ∷ (0x80, 0xBF) ∷ (0x80, 0xBF) ∷ [])  -- UTF8-4 = %xF0 %x90-BF 2( UTF8-tail )
    ∷ ((0xF1, 0xF3) ∷ (0x80, 0xBF) ∷ (0x80, 0xBF) ∷ (0x80, 0xBF) ∷ [])  -- / %xF1-F3 3( UTF8-tail )
    ∷ ((0xF4, 0xF4) ∷ (0x80, 0x8F) ∷ (0x80, 0xBF) ∷ (0x80, 0xBF) ∷ []) ∷ []  -- / %xF4 %x80-8F 2( UTF8-tail )

-- whether bytes of a row stand at the front of s
unfoldable pub fits : List (ℕ × ℕ) → List ℕ → Bool
fits [] s = true
fits (r ∷ row) [] = false
fits (r ∷ row) (b ∷ s) = leb r.0 b && leb b r.1 && fits row s

-- the width of the character at the front of s: the length of the first row that fits, or 0 where none does
unfoldable pub width : List (List (ℕ × ℕ)) → List ℕ → ℕ
width [] s = 0
width (row ∷ rows) s = cond (fits row s) (length row) (width rows s)

-- UTF8-octets = *( UTF8-char ): the widths of the characters at the front of s together, in so many turns
unfoldable pub widths : ℕ → List ℕ → ℕ
widths zero s = 0
widths (suc turns) s = width table s + widths turns (drop (width table s) s)

-- How far s is well formed: as `ValidUpTo` says, and no other place is so (proofs/UpTo)
unfoldable pub up_to : List ℕ → ℕ
up_to s = widths (length s) s

-- 13's test: it is not well formed to its end
abbrev pub not_utf8 : List ℕ → Bool
not_utf8 s = ltb (up_to s) (length s)
