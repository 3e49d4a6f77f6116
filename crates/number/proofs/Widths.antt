-- Big-endian numbers at any width: the number of the bytes, the bytes of the number, and reading at a cursor. Assumes nothing.
use mathlib.Core.Path.{◌≡◌, refl, sym, ◌∙◌, ap}
use mathlib.Core.List.{List, [], ◌∷◌, ◌++◌}
use Prim.Native.Nat.{ℕ, zero, suc, ◌+◌, ◌-◌, ◌*◌, ◌/◌, ◌%◌, ◌^◌, ◌<◌, ◌≤◌}
use native.Mathlib.Nat.{div-one, div-div-eq-div-mul, mul_comm, mod-eq_of_lt, mod-lt, mod-one, pow-suc, pow-zero, mul_assoc}
use native.Mathlib.Numerals.{add-one}
use native.Mathlib.Omega.{arith}
use lib.Arith.{mod-mul, digits_div, digits_mod}
use lib.Dec.{lit<}
use lib.IntN.{ℤ}
use mir.Syntax.{Width, w16, w32, w64}
use mir.Val.{SFits, bits, to_z, of_z}
use mir.Facts.{Fits-of_z, to_z-of_z}
use lib.ListN.{length, get_or, take, drop, length-append, length-take, length-drop}
use lib.Seq.{take_all, take-suc, get_or-drop}
use Rattle.std.specs.Int.{byte_worth, sum_through, byte_at, bytes_high_first, from_be_bytes}
use Rattle.wire.specs.Answer.{Answer, gives, refused, and_then, within, item_at}
use Rattle.wire.proofs.Answers.{first_fault, went}
use Rattle.wire.proofs.Within.{inside, item_there}
use Rattle.number.specs.Reads.{number_at}
use Rattle.number.specs.BigEndian.{big, bytes_of}

-- one byte more at the end
big-snoc : (bs : List ℕ) (b : ℕ) → big (bs ++ b ∷ []) ≡ big bs * 256 + b
unfolding big
big-snoc [] b = rw (pow-zero 256) (omega arith)
big-snoc (a ∷ bs) b =
    rw (big-snoc bs b, length-append bs (b ∷ []), add-one, pow-suc 256 (length bs), ← mul_assoc a (256 ^ length bs) 256) (omega arith)

-- what the library's `from_be_bytes` makes of the first bytes, each worth a power of 256
worth : (i b : ℕ) → byte_worth i b ≡ b * 256 ^ i
worth zero b = rw (pow-zero 256) (omega arith)
worth (suc i) b = refl

front-big : (k j : ℕ) (bs : List ℕ) → j ≤ k → length bs ≡ suc k
    → sum_through (λ i. byte_worth (k - i) (get_or bs i 0)) j ≡ big (take (suc j) bs) * 256 ^ (k - j)
unfolding big
front-big k zero bs h e = rw (take-suc bs 0 0 (omega (arith, e)), worth (k - 0) (get_or bs 0 0), pow-zero 256) (omega arith)
front-big k (suc j) bs h e =
    let b = get_or bs (suc j) 0 in
    let less : k - j ≡ suc (k - suc j) = omega arith in
    rw (
      front-big k j bs (omega arith) e,
      worth (k - suc j) b,
      take-suc bs (suc j) 0 (omega (arith, e)),
      big-snoc (take (suc j) bs) b,
      less,
      pow-suc 256 (k - suc j),
    ) (grind arith)

pub length-bytes_of : (w n : ℕ) → length (bytes_of w n) ≡ w
unfolding bytes_of
length-bytes_of zero n = refl
length-bytes_of (suc w) n = length-append (bytes_of w (n / 256)) (n % 256 ∷ []) ∙ rw (length-bytes_of w (n / 256), add-one)

-- what the library's `to_be_bytes` writes
byte_of : (k n : ℕ) → byte_at k n ≡ n / 256 ^ k % 256
byte_of zero n = rw (pow-zero 256, div-one)
byte_of (suc k) n = refl

high_first-snoc : (w n : ℕ) → bytes_high_first (suc w) n ≡ bytes_high_first w (n / 256) ++ (n % 256 ∷ [])
high_first-snoc zero n = refl
high_first-snoc (suc w) n =
    let up : byte_at (suc w) n ≡ byte_at w (n / 256) = byte_of (suc w) n ∙ rw (pow-suc 256 w, mul_comm (256 ^ w) 256, ← div-div-eq-div-mul n 256 (256 ^ w)) refl ∙ sym (byte_of w (n / 256)) in
    ap (λ (b : ℕ). b ∷ bytes_high_first (suc w) n) up ∙ ap (λ (l : List ℕ). byte_at w (n / 256) ∷ l) (high_first-snoc w n)

pub high_first : (w n : ℕ) → bytes_high_first w n ≡ bytes_of w n
unfolding bytes_of
high_first zero n = refl
high_first (suc w) n = high_first-snoc w n ∙ ap (λ (l : List ℕ). l ++ (n % 256 ∷ [])) (high_first w (n / 256))

-- a byte's one byte is itself
pub one_byte : (b : ℕ) → b < 256 → bytes_of 1 b ≡ b ∷ []
unfolding bytes_of
one_byte b h = rw (mod-eq_of_lt h)

powers : (w : ℕ) → 0 < 256 ^ w
powers zero = lit< tt
powers (suc w) = let h : 0 < 256 ^ w = powers w in rw (pow-suc 256 w) (omega arith)

-- what is written reads back
pub written : (w n : ℕ) → big (bytes_of w n) ≡ n % 256 ^ w
unfolding big bytes_of
written zero n = sym (mod-one n)
written (suc w) n =
    rw (big-snoc (bytes_of w (n / 256)) (n % 256), written w (n / 256), pow-suc 256 w, mod-mul n (powers w) (lit< tt))

-- only the last bytes of a number count
pub low_bytes : (w n : ℕ) → bytes_of w (n % 256 ^ w) ≡ bytes_of w n
unfolding bytes_of
low_bytes zero n = refl
low_bytes (suc w) n =
    let q = n / 256 % 256 ^ w in
    let low : n % 256 < 256 = mod-lt n (lit< tt) in
    rw (pow-suc 256 w, mod-mul n (powers w) (lit< tt), digits_div q low, digits_mod q low, low_bytes w (n / 256))

-- a signed number comes back with its sign, at any width whose bits are the bytes'
pub signed_written : (w : ℕ) (k : Width) (v : ℤ) → 256 ^ w ≡ 2 ^ bits k → SFits k v → to_z k (big (bytes_of w (of_z k v))) ≡ v
signed_written w k v e f =
    ap (to_z k) (written w (of_z k v) ∙ ap (λ (m : ℕ). of_z k v % m) e ∙ mod-eq_of_lt (Fits-of_z f).fits) ∙ to_z-of_z f

-- each is a byte
abbrev pub Octets : List ℕ → Type 0
Octets s = (i : ℕ) → get_or s i 0 < 256

-- and what is read is written so
pub read_written : (w : ℕ) (s : List ℕ) (at : ℕ) → Octets s → at + w ≤ length s → bytes_of w (big (take w (drop at s))) ≡ take w (drop at s)
unfolding bytes_of
read_written zero s at o h = refl
read_written (suc w) s at o h =
    let b = get_or s (at + w) 0 in
    let n = big (take w (drop at s)) in
    let small : b < 256 = o (at + w) in
    let up : (n * 256 + b) / 256 ≡ n = omega arith in
    let down : (n * 256 + b) % 256 ≡ b = omega arith in
    rw (
      take-suc (drop at s) w 0 (rw (length-drop at s) (omega arith)),
      big-snoc (take w (drop at s)) (get_or (drop at s) w 0),
      get_or-drop at s w 0,
      up,
      down,
      read_written w s at o (omega arith),
    )

-- what the library's `from_be_bytes` makes of all bytes is their number
of_all : (k : ℕ) (bs : List ℕ) → length bs ≡ suc k → sum_through (λ i. byte_worth (k - i) (get_or bs i 0)) k ≡ big bs
of_all k bs e =
    let whole : take (suc k) bs ≡ bs = take_all (suc k) bs (omega (arith, e)) in
    let last : k - k ≡ 0 = omega arith in
    front-big k k bs (omega arith) e ∙ rw (whole, last, pow-zero 256) (omega arith)

-- an item has as many bytes as it should
pub item_length : (s : List ℕ) (at w : ℕ) {bs : List ℕ} {p : ℕ} → gives bs p ≡ item_at s at w → length bs ≡ w
unfolding item_at
item_length s at w {bs} e =
    let i = went (within s at w) (λ _ next. gives (take w (drop at s)) next) e in
    let room : at + w ≤ length s = (inside s at w i.gave).room in
    let same : bs ≡ take w (drop at s) = cc i.on in
    rw (same, length-take, length-drop) (omega arith)

-- the number of an item of one byte, of two, of four, of eight
module _ (s : List ℕ) (at : ℕ) {bs : List ℕ} {p : ℕ} where
  pub byte : gives bs p ≡ item_at s at 1 → get_or bs 0 0 ≡ big bs
  byte e = of_all 0 bs (item_length s at 1 e)

  pub two : gives bs p ≡ item_at s at 2 → from_be_bytes w16 bs ≡ big bs
  two e = of_all 1 bs (item_length s at 2 e)

  pub four : gives bs p ≡ item_at s at 4 → from_be_bytes w32 bs ≡ big bs
  four e = of_all 3 bs (item_length s at 4 e)

  pub eight : gives bs p ≡ item_at s at 8 → from_be_bytes w64 bs ≡ big bs
  eight e = of_all 7 bs (item_length s at 8 e)

-- a number that is read, from its item
module _ {A : Type 0} (w : ℕ) (f : ℕ → A) (s : List ℕ) (at : ℕ) where
  pub no_number : {n p : ℕ} → refused n p ≡ item_at s at w → refused n p ≡ number_at w f s at
  unfolding number_at
  no_number e = first_fault _ e

  pub number : {bs : List ℕ} {p : ℕ} {v : A} → gives bs p ≡ item_at s at w → v ≡ f (big bs) → gives v p ≡ number_at w f s at
  unfolding number_at and_then
  number e h = rw (h, ← e)

  pub read : {p : ℕ} {v : A} → gives tt p ≡ within s at w → v ≡ f (big (take w (drop at s))) → gives v p ≡ number_at w f s at
  read e h = number (item_there s at w e refl) h

-- the same item, its number seen otherwise
module _ {A : Type 0} (w : ℕ) (f : ℕ → A) (s : List ℕ) (at : ℕ) where
  pub none_seen : {n p : ℕ} → refused n p ≡ number_at w (λ m. m) s at → refused n p ≡ number_at w f s at
  unfolding number_at and_then
  none_seen {n} {p} e = go (item_at s at w) e
    where
      go : (m : Answer (List ℕ)) → refused n p ≡ and_then m (λ bs next. gives (big bs) next) → refused n p ≡ and_then m (λ bs next. gives (f (big bs)) next)
      go (gives bs q) e = let z : ◌≡◌ {A = ℕ} 0 1 = cc in absurd (omega arith)
      go (refused m q) e = cc e

  pub seen : {v p : ℕ} → gives v p ≡ number_at w (λ m. m) s at → gives (f v) p ≡ number_at w f s at
  unfolding number_at and_then
  seen {v} {p} e = go (item_at s at w) e
    where
      go : (m : Answer (List ℕ)) → gives v p ≡ and_then m (λ bs next. gives (big bs) next) → gives (f v) p ≡ and_then m (λ bs next. gives (f (big bs)) next)
      go (gives bs q) e = cc e
      go (refused m q) e = let z : ◌≡◌ {A = ℕ} 0 1 = cc in absurd (omega arith)
