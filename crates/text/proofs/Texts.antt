-- The cases of a size and of a size with its bytes, each from what leads to it, and that an accepted span lies inside. Assumes nothing.
use Prim.Native.Nat.{ℕ, ◌-◌, ◌<◌, ◌≤◌}
use native.Mathlib.Omega.{arith}
use borrow.Author.Tests.{ltb-true, lt-ltb, le-ltb}
use lib.Dec.{T, ltb}
use mathlib.Core.Path.{◌≡◌, refl, sym, ◌∙◌}
use mathlib.Core.Bool.{Bool, true, false, cond}
use mathlib.Core.List.{List, []}
use lib.IntN.{ℤ, pos, negsuc, nat_abs}
use mir.Syntax.{w32, w64}
use mir.Val.{Fits, to_z}
use lib.Signed.{lt_z, non_neg}
use lib.ListN.{length, take, drop}
use Rattle.wire.specs.Answer.{gives, refused, refuse_if, and_then, within, item_at}
use Rattle.wire.proofs.Answers.{goes_on, passed, went}
use Rattle.wire.proofs.Within.{inside}
use Rattle.number.specs.BigEndian.{big}
use Rattle.number.specs.Reads.{number_at, i32_at}
use Rattle.config.specs.Limits.{above}
use Rattle.std.specs.Prelude.{Option}
use Rattle.utf8.specs.UpTo.{up_to}
use Rattle.text.specs.declared.Span.{Span}
use Rattle.text.specs.declared.Body.{Body}
use Rattle.text.specs.declared.Body.TheVariants as BodyOf
use Rattle.text.specs.Texts.{span, size_at, over_number, limited_at, sized_at, part_marked, bytes_at, string_at, uuid_at}

-- a 32-bit number that is not negative is below 2 to the 31st
below : (n : ℕ) → lt_z (to_z w32 n) (pos 0) ≡ false → nat_abs (to_z w32 n) < 2147483648
below n h = go (ltb n 2147483648) refl
  where
    go : (b : Bool) → ltb n 2147483648 ≡ b → nat_abs (to_z w32 n) < 2147483648
    go true e = rw e (ltb-true n 2147483648 e)
    go false e = let y : true ≡ false = rw e at h in let z : ◌≡◌ {A = ℕ} 0 1 = cc in absurd (omega arith)

pub not_negative : (n : ℕ) → lt_z (to_z w32 n) (pos 0) ≡ false → T (non_neg (to_z w32 n)) × Fits w64 (nat_abs (to_z w32 n))
not_negative n h = (go (to_z w32 n) h, record { fits = omega (arith, below n h) })
  where
    go : (v : ℤ) → lt_z v (pos 0) ≡ false → T (non_neg v)
    go (pos n) h = tt
    go (negsuc n) h = let z : ◌≡◌ {A = ℕ} 0 1 = cc in absurd (omega arith)

module _ (s : List ℕ) (at : ℕ) where
  module _ {v : ℤ} {next : ℕ} (e : gives v next ≡ i32_at s at) where
    pub negative : lt_z v (pos 0) ≡ true → refused 6 at ≡ size_at s at
    unfolding size_at and_then refuse_if
    negative h = rw (← e, h)

    pub size : lt_z v (pos 0) ≡ false → gives (nat_abs v) next ≡ size_at s at
    unfolding size_at and_then refuse_if
    size h = rw (← e, h)

  pub size_below : {n next : ℕ} → gives n next ≡ size_at s at → n < 2147483648
  unfolding size_at number_at
  size_below {n} {next} e =
      let a = went (i32_at s at) _ e in
      let b = passed (lt_z a.value (pos 0)) 6 at (gives (nat_abs a.value) a.place) a.on in
      let i = went (item_at s at 4) _ a.gave in
      let number : a.value ≡ to_z w32 (big i.value) = cc i.on in
      let same : nat_abs a.value ≡ n = cc b.gave in
      rw same at (rw (sym number) at (below (big i.value) (rw number at b.test)))

module _ (body : Body) (limit : Option ℕ) (s : List ℕ) (at : ℕ) where
  module _ {n next : ℕ} (e : gives n next ≡ size_at s at) where
    pub too_long_lem : above n limit ≡ true → refused (over_number body) at ≡ limited_at body limit s at
    unfolding limited_at and_then refuse_if
    too_long_lem h = rw (← e, h)

    pub limited : above n limit ≡ false → gives n next ≡ limited_at body limit s at
    unfolding limited_at and_then refuse_if
    limited h = rw (← e, h)

  -- a size that was read and is within its limit
  pub record Limited (n next : ℕ) : Type 0 where
    pub size : gives n next ≡ size_at s at
    pub test : above n limit ≡ false

  pub limited_is : {n next : ℕ} → gives n next ≡ limited_at body limit s at → Limited n next
  unfolding limited_at
  limited_is {n} {next} e =
      let a = went (size_at s at) _ e in
      let b = passed (above a.value limit) (over_number body) at (gives a.value a.place) a.on in
      let same : a.value ≡ n = cc b.gave in
      record { size = b.gave ∙ a.gave; test = rw same at b.test }

  module _ {size first : ℕ} (e : gives size first ≡ limited_at body limit s at) where
    pub whole : {end : ℕ} → gives tt end ≡ within s first size → gives (span first end) end ≡ sized_at body limit s at
    unfolding sized_at and_then
    whole f = rw (← e, ← f)

-- a span inside so many bytes
pub record Lies (n : ℕ) (p : Span) : Type 0 where
  pub ordered : p.start ≤ p.end
  pub inside_them : p.end ≤ n

-- the span that a read of sized bytes gives lies inside the bytes
pub sized_lies : (body : Body) (limit : Option ℕ) (s : List ℕ) (at : ℕ) {p : Span} {q : ℕ} → gives p q ≡ sized_at body limit s at → Lies (length s) p
unfolding sized_at
sized_lies body limit s at {p} {q} e =
    let a = went (limited_at body limit s at) _ e in
    let c = went (within s a.place a.value) _ a.on in
    let same : p ≡ span a.place c.place = cc c.on in
    let i = inside s a.place a.value c.gave in
    rw same (record { ordered = omega arith; inside_them = omega arith })

-- the cases of a span
module _ (s : List ℕ) (p : Span) where
  pub part_empty : p.end ≤ p.start → [] ≡ part_marked s p
  unfolding part_marked
  part_empty h = go (ltb (length s) p.end)
    where
      go : (b : Bool) → [] ≡ cond b [] (take (p.end - p.start) (drop p.start s))
      go true = refl
      go false = let none : p.end - p.start ≡ 0 = omega arith in rw none refl

  pub part_outside : length s < p.end → [] ≡ part_marked s p
  unfolding part_marked
  part_outside h = simp (lt-ltb _ _ h)

  pub part_inside : p.end ≤ length s → take (p.end - p.start) (drop p.start s) ≡ part_marked s p
  unfolding part_marked
  part_inside h = simp (le-ltb _ _ h)

module _ (limit : Option ℕ) (s : List ℕ) (at : ℕ) where
  module _ {p : Span} {next : ℕ} (e : gives p next ≡ bytes_at limit s at) where
    -- so it is handed out whole
    pub text_taken : take (p.end - p.start) (drop p.start s) ≡ part_marked s p
    text_taken = part_inside s p (sized_lies BodyOf.Text limit s at e).inside_them

    pub string : length (part_marked s p) ≤ up_to (part_marked s p) → gives p next ≡ string_at limit s at
    unfolding string_at and_then refuse_if
    string h = rw (← e, le-ltb _ _ h)

module _ (s : List ℕ) (at : ℕ) where
  pub uuid : {end : ℕ} → gives tt end ≡ within s at 16 → gives (span at end) end ≡ uuid_at s at
  unfolding uuid_at
  uuid e = goes_on _ e
