-- The cases of each header that is accepted, each from what leads to it. Assumes nothing.
use Prim.Native.Nat.{ℕ, ◌+◌, ◌*◌, ◌<◌}
use mathlib.Core.Path.{◌≡◌, ap, ◌∙◌}
use mathlib.Core.Bool.{true, false}
use mathlib.Core.List.{List}
use lib.IntN.{ℤ, pos}
use Rattle.wire.specs.Answer.{gives, refuse_if, and_then, mapped}
use Rattle.codes.specs.Codes.{type_of, is_stop, least_size}
use Rattle.codes.specs.declared.TType.{TType}
use Rattle.std.specs.Prelude.{Some}
use Rattle.wire.proofs.Answers.{passed, went}
use Rattle.number.specs.Reads.{byte_at, i16_at}
use Rattle.config.specs.Limits.{above}
use Rattle.config.specs.declared.configuration.TConfiguration.{TConfiguration}
use Rattle.text.specs.Texts.{size_at}
use Rattle.text.proofs.Texts.{size_below}
use Rattle.read.specs.Headers.{type_at, field, field_at, count_at, list, list_at, as_set, set_at, map, map_at}
use Rattle.read.specs.declared.container.TListIdentifier.{TListIdentifier}

module _ (s : List ℕ) (at : ℕ) where
  module _ {b next : ℕ} (e : gives b next ≡ byte_at s at) where
    pub type_known : {t : TType} → type_of b ≡ Some t → gives t next ≡ type_at s at
    unfolding type_at and_then
    type_known h = rw (← e, h)

  module _ {t : TType} {next : ℕ} (e : gives t next ≡ type_at s at) where
    pub stop : is_stop t ≡ true → gives (field t (pos 0)) next ≡ field_at s at
    unfolding field_at and_then
    stop h = rw (← e, h)

    pub with_id : is_stop t ≡ false → {id : ℤ} {end : ℕ} → gives id end ≡ i16_at s next → gives (field t id) end ≡ field_at s at
    unfolding field_at and_then
    with_id h f = rw (← e, h, ← f)

module _ (c : TConfiguration) (least : ℕ) (s : List ℕ) (at : ℕ) where
  module _ {n next : ℕ} (e : gives n next ≡ size_at s at) where
    module _ (h : above n c.max_container_size ≡ false) where
      pub count : above (n * least) c.max_message_size ≡ false → gives n next ≡ count_at c least s at
      unfolding count_at and_then refuse_if
      count i = rw (← e, h, i)

  -- a number of elements is a size: a 32-bit number that is not negative
  pub count_below : {n next : ℕ} → gives n next ≡ count_at c least s at → n < 2147483648
  unfolding count_at
  count_below e =
      let a = went (size_at s at) _ e in
      let b = passed _ 8 at _ a.on in
      let d = passed _ 9 at (gives a.value a.place) b.gave in
      size_below s at (d.gave ∙ a.gave)

module _ (c : TConfiguration) (s : List ℕ) (at : ℕ) where
  module _ {t : TType} {next : ℕ} (e : gives t next ≡ type_at s at) where
    pub a_list : {size end : ℕ} → gives size end ≡ count_at c (least_size t) s next → gives (list t size) end ≡ list_at c s at
    unfolding list_at and_then
    a_list f = rw (← e, ← f)

  pub a_set : {l : TListIdentifier} {end : ℕ} → gives l end ≡ list_at c s at → gives (as_set l) end ≡ set_at c s at
  unfolding set_at
  a_set e = ap (mapped as_set) e

  module _ {k : TType} {value : ℕ} (e : gives k value ≡ type_at s at) where
    module _ {v : TType} {next : ℕ} (f : gives v next ≡ type_at s value) where
      pub a_map : {size end : ℕ} → gives size end ≡ count_at c (least_size k + least_size v) s next → gives (map k v size) end ≡ map_at c s at
      unfolding map_at and_then
      a_map g = rw (← e, ← f, ← g)
