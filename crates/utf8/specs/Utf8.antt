use Rattle.std.specs.Prelude.{ℕ, ◌+◌, ◌/◌, ◌%◌, ◌<◌, ◌≤◌, ◌≡◌, List, [], ◌∷◌, ◌++◌, length, take, drop}

-- The bytes of one character, by the range of its number n: RFC 3629, section 3. D800 to DFFF and what is above 10FFFF are no characters.
pub data Char : List ℕ → Type 0 where
  one : {a : ℕ} → a < 0x80 → Char (a ∷ [])
  two : (n : ℕ) {a b : ℕ} → 0x80 ≤ n → n < 0x800 → a ≡ 0xC0 + n / 64 → b ≡ 0x80 + n % 64 → Char (a ∷ b ∷ [])
  three_low : (n : ℕ) {a b c : ℕ} → 0x800 ≤ n → n < 0xD800 → a ≡ 0xE0 + n / 4096 → b ≡ 0x80 + n / 64 % 64 → c ≡ 0x80 + n % 64 → Char (a ∷ b ∷ c ∷ [])
  three_high : (n : ℕ) {a b c : ℕ} → 0xE000 ≤ n → n < 0x10000 → a ≡ 0xE0 + n / 4096 → b ≡ 0x80 + n / 64 % 64 → c ≡ 0x80 + n % 64 → Char (a ∷ b ∷ c ∷ [])
  four : (n : ℕ) {a b c d : ℕ} → 0x10000 ≤ n → n < 0x110000
      → a ≡ 0xF0 + n / 262144 → b ≡ 0x80 + n / 4096 % 64 → c ≡ 0x80 + n / 64 % 64 → d ≡ 0x80 + n % 64 → Char (a ∷ b ∷ c ∷ d ∷ [])

-- A text: characters one after another
pub data Text : List ℕ → Type 0 where
  empty : Text []
  more : {p c l : List ℕ} → Text p → Char c → l ≡ p ++ c → Text l

-- no character stands at the front of l
abbrev pub Nothing : List ℕ → Type 0
Nothing l = (k : ℕ) → k ≤ length l → Char (take k l) → ⊥

-- r is how far s is well formed: what stands before that place is a text, and no character stands there
pub record ValidUpTo (s : List ℕ) (r : ℕ) : Type 0 where
  pub inside : r ≤ length s
  pub text : Text (take r s)
  pub stop : Nothing (drop r s)
