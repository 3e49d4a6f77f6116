-- Headers that were written read back, over any bytes before and after. Assumes nothing.
use Rattle.std.specs.Prelude.{Some, None}
use Prim.Native.Nat.{ℕ, ◌+◌}
use mathlib.Core.Path.{◌≡◌, refl, sym, ap, ◌∙◌}
use mathlib.Core.Bool.{false}
use mathlib.Core.List.{List}
use lib.IntN.{ℤ, pos}
use mir.Syntax.{w16}
use mir.Val.{SFits, of_z}
use Rattle.wire.specs.Answer.{gives}
use Rattle.codes.specs.Codes.{type_byte, is_stop, as_read, least_size}
use Rattle.codes.specs.declared.TType.{TType}
use Rattle.codes.specs.declared.TType.TheVariants as T
use Rattle.codes.proofs.RoundTrips.{type_written, type_read}
use Rattle.number.specs.BigEndian.{bytes_of}
use Rattle.number.proofs.Widths.{signed_written, length-bytes_of}
use Rattle.config.specs.declared.configuration.TConfiguration.{TConfiguration}
use Rattle.read.specs.Headers.{field, field_at, list, list_at, as_set, set_at, map, map_at}
use Rattle.read.proofs.Headers as headers
use Rattle.write.proofs.ReadsBack.{stands}
use Rattle.tree.specs.Sizes.{SizeFits}
use Rattle.binary.specs.Layouts.{Readable}
use Rattle.binary.proofs.Reading.{field_reads, stop_reads, list_reads, map_reads}
use Rattle.write_headers.specs.Outputs.{field_write, stop_write, list_write, map_write}
use Rattle.write_headers.proofs.Outputs.{with_id, stop_alone, both_types}

-- a type's byte is that of the type it is read as
same_byte : (t : TType) → type_byte (as_read t) ≡ type_byte t
same_byte t = type_read (type_byte t) (as_read t) (type_written t)

reads_as : (t : TType) → Readable (as_read t)
reads_as t = rw (same_byte t) (type_written t)

module _ (out : List ℕ) (at : ℕ) {new : List ℕ} {next : ℕ} where
  -- headers: a type comes back as its byte reads
  pub field_back : (t : TType) (id : ℤ) → SFits w16 id → is_stop t ≡ false → gives new next ≡ field_write t (Some id) out at
      → gives (field (as_read t) id) next ≡ field_at new at
  field_back t id f s e =
      let p = stands _ out at (with_id t at refl) e in
      let going : is_stop (as_read t) ≡ false = rw (same_byte t) s in
      ap (λ (z : ℤ). gives (field (as_read t) z) next) (sym (signed_written 2 w16 id refl f))
      ∙ field_reads (as_read t) (bytes_of 2 (of_z w16 id)) (reads_as t) going (length-bytes_of 2 (of_z w16 id)) (rw (same_byte t) p)

  -- "a Stop without an id with id 0": by the stop writer, and as a field that has none
  pub stop_back : gives new next ≡ stop_write out at → gives (field T.Stop (pos 0)) next ≡ field_at new at
  stop_back e = stop_reads (stands _ out at refl e)

  pub stop_field_back : gives new next ≡ field_write T.Stop None out at → gives (field T.Stop (pos 0)) next ≡ field_at new at
  stop_field_back e = stop_reads (stands _ out at (stop_alone T.Stop at refl refl) e)

  pub list_back : (c : TConfiguration) (t : TType) (n : ℕ) → SizeFits c (least_size (as_read t)) n
      → gives new next ≡ list_write t (pos n) out at → gives (list (as_read t) n) next ≡ list_at c new at
  list_back c t n f e = list_reads c (as_read t) n (reads_as t) f (rw (same_byte t) (stands _ out at refl e))

  pub set_back : (c : TConfiguration) (t : TType) (n : ℕ) → SizeFits c (least_size (as_read t)) n
      → gives new next ≡ list_write t (pos n) out at → gives (as_set (list (as_read t) n)) next ≡ set_at c new at
  set_back c t n f e = headers.a_set c new at (list_back c t n f e)

  pub map_back : (c : TConfiguration) (k v : TType) (n : ℕ) → SizeFits c (least_size (as_read k) + least_size (as_read v)) n
      → gives new next ≡ map_write (Some k) (Some v) (pos n) out at
      → gives (map (as_read k) (as_read v) n) next ≡ map_at c new at
  map_back c k v n f e =
      let p = stands _ out at (both_types (pos n) at (Some v) refl refl) e in
      map_reads c (as_read k) (as_read v) n (reads_as k) (reads_as v) f (rw (same_byte k, same_byte v) p)
