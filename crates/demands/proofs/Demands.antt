-- The claim, from the theorems that stand in the crates. Assumes nothing.
use Rattle.std.specs.Prelude.{Result}
use Prim.Native.Nat.{ℕ, ◌<◌, ◌≤◌}
use mathlib.Core.Path.{◌≡◌, refl, sym, ap, ◌∙◌}
use mathlib.Core.Bool.{Bool, true, false}
use mathlib.Core.List.{List, ◌++◌}
use native.Mathlib.Omega.{arith}
use borrow.Author.Tests.{lt-ltb}
use lib.Dec.{ltb}
use lib.ListN.{length, drop, length-append}
use lib.Seq.{drop_at}
use Rattle.wire.specs.declared.refusal.Refusal.{Refusal}
use Rattle.wire.specs.declared.cursor.Cursor.{Cursor}
use Rattle.wire.specs.Answer.{Answer, gives, refused, mapped}
use Rattle.wire.specs.Refusals.{kind_number}
use Rattle.wire.specs.Writes.{left, Wrote}
use Rattle.wire.specs.declared.refusal.Kind.{Kind}
use Rattle.wire.specs.declared.refusal.Kind.TheVariants as K
use Rattle.wire.proofs.Refusals.{kind_of, kind_of-number}
use Rattle.wire.proofs.Unique.{told_settled, moved_settled}
use Rattle.wire.proofs.Writes.{wrote_settled}
use Rattle.config.specs.declared.configuration.TConfiguration.{TConfiguration}
use Rattle.config.proofs.Building.{built_settled}
use Rattle.number.specs.BigEndian.{bytes_of}
use Rattle.number.proofs.Widths.{length-bytes_of}
use Rattle.scalar.specs.Scalars.{scalar_at}
use Rattle.scalar.specs.declared.Scalar.{Scalar}
use Rattle.scalar.specs.declared.Scalar.TheVariants as Sc
use Rattle.leaf.proofs.Leaves.{walked_settled}
use Rattle.skip.proofs.Counted.{accepted_count, refused_count}
use Rattle.skip_value.proofs.Settled.{value_settled}
use Rattle.skip.proofs.Exactly.{accepts_exactly, refuses_exactly, skip_settled}
use Rattle.skip.proofs.MoreRoom as more_room
use Rattle.write.proofs.ReadsBack as values
use Rattle.write_headers.proofs.ReadsBack as headers
use Rattle.write_message.proofs.ReadsBack as messages
use Rattle.framed.proofs.ReadsBack as frames
use Rattle.host.specs.Host.{row_of, ByLength, Hosted}
use Rattle.host.proofs.Rows.{hosted_settled}
use Rattle.table.proofs.Table.{every_case}
use Rattle.demands.specs.Demands.{type_of_scalar, scalar_write, Holds, Refusals, ReadsBack, OneAnswer, Demands}
use Rattle.demands.proofs.Widths.{skipped_as_read}

-- ---- demand 1

numbered : (k : Kind) → (1 ≤ kind_number k) × (kind_number k ≤ 20)
numbered K.ShortInput = (omega arith, omega arith)
numbered K.StartBeyond = (omega arith, omega arith)
numbered K.BadVersion = (omega arith, omega arith)
numbered K.BadMessageType = (omega arith, omega arith)
numbered K.UnknownType = (omega arith, omega arith)
numbered K.NegativeSize = (omega arith, omega arith)
numbered K.StringLimit = (omega arith, omega arith)
numbered K.ContainerLimit = (omega arith, omega arith)
numbered K.MessageLimit = (omega arith, omega arith)
numbered K.SkipDepth = (omega arith, omega arith)
numbered K.StructDepth = (omega arith, omega arith)
numbered K.WrongType = (omega arith, omega arith)
numbered K.NotUtf8 = (omega arith, omega arith)
numbered K.NoStructOpen = (omega arith, omega arith)
numbered K.OutputFull = (omega arith, omega arith)
numbered K.TooLong = (omega arith, omega arith)
numbered K.Missing = (omega arith, omega arith)
numbered K.FrameLimit = (omega arith, omega arith)
numbered K.FrameAboveMessage = (omega arith, omega arith)
numbered K.DepthBeyond = (omega arith, omega arith)

untouched : (r : Result Cursor Refusal) (new old : List ℕ) (write : Answer (List ℕ)) (n p : ℕ) → Wrote r new old write → refused n p ≡ write → new ≡ old
unfolding left
untouched r new old write n p w e = w.buffer ∙ rw (← e)

module _ (c : TConfiguration) (sd : ℕ) (s : List ℕ) (at d b : ℕ) (old : List ℕ) (r : ℕ) (new : List ℕ) where
  host_short : Hosted c sd s at d b old r new → length old < 24 → (r ≡ 15) × (new ≡ old)
  host_short h l = rw (lt-ltb (length old) 24 l) at h

  host_behind : Hosted c sd s at d b old r new → drop 24 new ≡ drop 24 old
  host_behind = go (ltb (length old) 24)
    where
      go : (short : Bool) → ByLength short c sd s at d b old r new → drop 24 new ≡ drop 24 old
      go true h = ap (drop 24) h.1
      go false h =
          let w = row_of h.outcome in
          let set : List ℕ = bytes_of 8 w.number ++ bytes_of 8 w.place ++ bytes_of 8 w.count in
          let long : length set ≡ 24 = simp (length-append, length-bytes_of) in
          ap (drop 24) h.bytes ∙ drop_at set (drop 24 old) 24 long

refusals : Refusals
refusals =
    record {
      numbered = numbered;
      one_meaning = λ j k e. sym (kind_of-number j) ∙ ap kind_of e ∙ kind_of-number k;
      untouched = untouched;
      host_short = host_short;
      host_behind = host_behind;
    }

-- ---- demand 2

module _ (out : List ℕ) (at : ℕ) (new : List ℕ) (next : ℕ) where
  scalar_back : (v : Scalar) → Holds v → gives new next ≡ scalar_write v out at → gives v next ≡ scalar_at (type_of_scalar v) new at
  scalar_back (Sc.Bool b) h e = ap (mapped Sc.Bool) (values.bool_back out at b e)
  scalar_back (Sc.I08 v) h e = ap (mapped Sc.I08) (values.i8_back out at v h e)
  scalar_back (Sc.I16 v) h e = ap (mapped Sc.I16) (values.i16_back out at v h e)
  scalar_back (Sc.I32 v) h e = ap (mapped Sc.I32) (values.i32_back out at v h e)
  scalar_back (Sc.I64 v) h e = ap (mapped Sc.I64) (values.i64_back out at v h e)
  scalar_back (Sc.Double x) h e = ap (mapped Sc.Double) (values.double_back out at x h e)

  reads_back : ReadsBack out at new next
  reads_back =
      record {
        scalar_back = scalar_back;
        bytes_back = λ limit b below e. values.bytes_back out at limit b below e;
        string_back = λ limit b below e. values.string_back out at limit b below e;
        uuid_back = λ id l e. values.uuid_back out at id l e;
        field_back = λ t id f g e. headers.field_back out at t id f g e;
        stop_back = λ e. headers.stop_back out at e;
        stop_field_back = λ e. headers.stop_field_back out at e;
        list_back = λ c t n f e. headers.list_back out at c t n f e;
        set_back = λ c t n f e. headers.set_back out at c t n f e;
        map_back = λ c k v n f e. headers.map_back out at c k v n f e;
        strict_back = λ limit name t seq below g reader e. messages.strict_message_back limit name t seq below g out at reader e;
        legacy_back = λ limit name t seq below g e. messages.older_message_back limit name t seq below g out at e;
        frame_back = λ limit payload some below e. frames.frame_back limit payload out at some below e;
      }

-- ---- one answer

one_answer : OneAnswer
one_answer =
    record {
      reads = λ A a b e. told_settled e refl;
      moves = λ a b e. moved_settled e refl;
      limits = λ a b e. built_settled e refl;
      leaves = λ a b e. walked_settled e refl;
      values = value_settled;
      skips = skip_settled;
      writes = λ r r' new new' old write p q. wrote_settled p q;
      host = hosted_settled;
    }

-- ---- all of it

pub demands : Demands
demands =
    record {
      refusals = refusals;
      skips_exactly = λ c s at d sd t r. record { accepts = λ says. accepts_exactly c s at d sd t r says; refuses = λ says. refuses_exactly c s at d sd t r says };
      skipped_as_read = skipped_as_read;
      reads_back = reads_back;
      stays =
          λ old new room s x at d e sd t inside more top a b first second.
          record {
            accept_stays = more_room.accept_stays old new room s x at d e sd t inside more top a b first second;
            refusal_stays = more_room.refusal_stays old new room s x at d e sd t inside more top a b first second;
          };
      counts = λ c s at d sd t r says. record { accepted = accepted_count c s at d sd t r says; refused_at = refused_count c s at d sd t r says };
      one_answer = one_answer;
      widths = λ w n f out at new next e. values.number_back out at w n f e;
      cases = every_case;
    }
