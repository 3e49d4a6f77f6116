-- More room, header by header, in the binary encoding. Assumes nothing.
use Prim.Native.Nat.{ℕ, ◌+◌, ◌*◌, ◌≤◌}
use mathlib.Core.Path.{◌≡◌, refl}
use mathlib.Core.Bool.{Bool, true, false, cond}
use mathlib.Core.List.{List, [], ◌++◌}
use lib.IntN.{pos}
use lib.ListN.{length}
use mir.Syntax.{w16, w32}
use mir.Val.{to_z}
use Rattle.wire.specs.Answer.{gives, and_then, within}
use Rattle.codes.specs.Codes.{is_stop, least_size}
use Rattle.codes.specs.declared.TType.{TType}
use Rattle.number.specs.Reads.{byte_at, i16_at, i32_at}
use Rattle.config.specs.declared.configuration.TConfiguration.{TConfiguration}
use Rattle.text.specs.Texts.{size_at, sized_at, bytes_at, limited_at}
use Rattle.text.proofs.Texts.{limited_is}
use Rattle.text.specs.declared.Body.TheVariants as BodyOf
use Rattle.read.specs.Headers.{type_at, field, field_at, count_at, list_at, map_at}
use Rattle.tree.specs.Room.{Roomier, Unnamed}
use Rattle.tree.proofs.Growth.{Grows, grows_same, grows_limit, grows_then, within_grows, number_grows}
use Rattle.binary.proofs.Heads.{type_is, size_from}

-- bytes appended behind s
module _ (K : ℕ → Type 0) (s x : List ℕ) (short : K 1 → x ≡ []) where
  pub type_grows : (at : ℕ) → at ≤ length s → Grows K (type_at s at) (type_at (s ++ x) at)
  unfolding type_at
  type_grows at h = grows_then K (byte_at s at) (byte_at (s ++ x) at) _ _ (number_grows K s x short 1 (λ (n : ℕ). n) at h) (λ b q e. grows_same K _)

  pub field_grows : (at : ℕ) → at ≤ length s → Grows K (field_at s at) (field_at (s ++ x) at)
  unfolding field_at
  field_grows at h =
      grows_then K (type_at s at) (type_at (s ++ x) at) _ _ (type_grows at h) (λ t q e. by_stop t q (type_is s at e).part.within (is_stop t))
    where
      by_stop : (t : TType) (q : ℕ) → q ≤ length s → (b : Bool)
          → Grows K (cond b (gives (field t (pos 0)) q) (and_then (i16_at s q) λ id end. gives (field t id) end))
          (cond b (gives (field t (pos 0)) q) (and_then (i16_at (s ++ x) q) λ id end. gives (field t id) end))
      by_stop t q i true = grows_same K _
      by_stop t q i false = grows_then K (i16_at s q) (i16_at (s ++ x) q) _ _ (number_grows K s x short 2 (to_z w16) q i) (λ id r e. grows_same K _)

  pub size_grows : (at : ℕ) → at ≤ length s → Grows K (size_at s at) (size_at (s ++ x) at)
  unfolding size_at
  size_grows at h = grows_then K (i32_at s at) (i32_at (s ++ x) at) _ _ (number_grows K s x short 4 (to_z w32) at h) (λ v q e. grows_same K _)

-- limits raised or removed, the depth raised, and bytes appended
module _ (old new : TConfiguration) (r : Roomier old new) (d e : ℕ) (more : d ≤ e) (s x : List ℕ) where
  abbrev K : ℕ → Type 0
  K = Unnamed old new d e x

  pub text_grows : (at : ℕ) → at ≤ length s → Grows K (bytes_at old.max_string_size s at) (bytes_at new.max_string_size (s ++ x) at)
  unfolding sized_at limited_at
  text_grows at h =
      grows_then K (limited_at BodyOf.Text old.max_string_size s at) (limited_at BodyOf.Text new.max_string_size (s ++ x) at) _ _
      (grows_then K (size_at s at) (size_at (s ++ x) at) _ _ (size_grows K s x (λ k. k.short refl) at h) (λ n q f.
      grows_limit K n old.max_string_size new.max_string_size 7 at _ _ r.string (λ k. k.string refl) (grows_same K (gives n q))))
      (λ n q f.
      grows_then K (within s q n) (within (s ++ x) q n) _ _
      (within_grows K s x (λ k. k.short refl) q n (size_from s at (limited_is BodyOf.Text old.max_string_size s at f).size).1) (λ u p g. grows_same K _))

  pub count_grows : (least at : ℕ) → at ≤ length s → Grows K (count_at old least s at) (count_at new least (s ++ x) at)
  unfolding count_at
  count_grows least at h =
      grows_then K (size_at s at) (size_at (s ++ x) at) _ _ (size_grows K s x (λ k. k.short refl) at h) (λ n q f.
      grows_limit K n old.max_container_size new.max_container_size 8 at _ _ r.container (λ k. k.container refl)
      (grows_limit K (n * least) old.max_message_size new.max_message_size 9 at _ _ r.message (λ k. k.message refl)
      (grows_same K (gives n q))))

  pub list_grows : (at : ℕ) → at ≤ length s → Grows K (list_at old s at) (list_at new (s ++ x) at)
  unfolding list_at
  list_grows at h =
      grows_then K (type_at s at) (type_at (s ++ x) at) _ _ (type_grows K s x (λ k. k.short refl) at h) (λ t q f.
      grows_then K (count_at old (least_size t) s q) (count_at new (least_size t) (s ++ x) q) _ _
      (count_grows (least_size t) q (type_is s at f).part.within) (λ v p g. grows_same K _))

  pub map_grows : (at : ℕ) → at ≤ length s → Grows K (map_at old s at) (map_at new (s ++ x) at)
  unfolding map_at
  map_grows at h =
      grows_then K (type_at s at) (type_at (s ++ x) at) _ _ (type_grows K s x (λ k. k.short refl) at h) (λ k q f.
      grows_then K (type_at s q) (type_at (s ++ x) q) _ _ (type_grows K s x (λ k. k.short refl) q (type_is s at f).part.within) (λ v p g.
      grows_then K (count_at old (least_size k + least_size v) s p) (count_at new (least_size k + least_size v) (s ++ x) p) _ _
      (count_grows (least_size k + least_size v) p (type_is s q g).part.within) (λ n t i. grows_same K _)))
