-- The cases W1 to W12 of document 01, in one table: what is asked, under the default limits, and the answer that is 01's.
use Rattle.std.specs.Prelude.{ℕ, ◌≡◌, Bool, true, false, List, [], ◌∷◌, pos, Result, ℤ, Option, Some}
use Rattle.wire.specs.Answer.{Answer, gives, refused}
use Rattle.codes.specs.declared.TType.{TType}
use Rattle.codes.specs.declared.TType.TheVariants as T
use Rattle.codes.specs.declared.TMessageType.TheVariants as M
use Rattle.config.specs.Limits.{default_limits}
use Rattle.text.specs.Texts.{span, part_found}
use Rattle.text.specs.declared.Span.{Span}
use Rattle.message.specs.Messages.{message, message_at, name_of}
use Rattle.message.specs.declared.TMessageIdentifier.{TMessageIdentifier}
use Rattle.tree.specs.Answers.{Outcome, ended, cut_off, SkipAnswers}
use Rattle.binary.specs.Binary.{binary}
use Rattle.skip.specs.Skips.{told_skipped, SkipSays}
use Rattle.leaf.specs.declared.Halt.{Halt}
use Rattle.skip.specs.declared.till_depth.Skipped.{Skipped}
use Rattle.write_headers.specs.Outputs.{field_write}
use Rattle.framed.specs.Frames.{frame_at}

pub data Case : Type 0 where
  -- strict or not, the bytes, the name's bytes, the answer
  message_read : Bool → List ℕ → List ℕ → Answer TMessageIdentifier → Case
  -- the type, the depth, the bytes, the answer
  skipped : TType → ℕ → List ℕ → Outcome → Case
  frame_read : List ℕ → Answer (Option Span) → Case
  -- the type, the id, the buffer before and after, the place after
  field_written : TType → Option ℤ → List ℕ → List ℕ → ℕ → Case

-- What the call's promise comes to is the case's answer. The skip's promise is a relation: it admits the answer, and admits no other
abbrev pub Settled : Case → Type 0
Settled (message_read strict s name x) = (message_at strict default_limits.max_string_size s 0 ≡ x) × (part_found s (name_of x) ≡ name)
Settled (skipped t depth s x) =
    SkipAnswers binary default_limits s 0 depth 0 t x × ((r : Result Skipped Halt) → SkipSays default_limits s 0 depth 0 t r → told_skipped r ≡ x)
Settled (frame_read s x) = frame_at default_limits.max_frame_size s 0 ≡ x
Settled (field_written t id old new next) = field_write t id old 0 ≡ gives new next

abbrev pub versioned : List ℕ
versioned = 0x80 ∷ 0x01 ∷ 0x00 ∷ 0x01 ∷ 0x00 ∷ 0x00 ∷ 0x00 ∷ 0x02 ∷ 0x61 ∷ 0x62 ∷ 0x00 ∷ 0x00 ∷ 0x00 ∷ 0x07 ∷ []

abbrev pub unversioned : List ℕ
unversioned = 0x00 ∷ 0x00 ∷ 0x00 ∷ 0x02 ∷ 0x61 ∷ 0x62 ∷ 0x01 ∷ 0x00 ∷ 0x00 ∷ 0x00 ∷ 0x07 ∷ []

abbrev pub two_bytes : List ℕ
two_bytes = 0x03 ∷ 0x00 ∷ 0x00 ∷ 0x00 ∷ 0x02 ∷ 0x05 ∷ 0x06 ∷ []

abbrev pub voids : ℕ → List ℕ
voids n = 0x01 ∷ 0x00 ∷ 0x00 ∷ 0x00 ∷ n ∷ []

abbrev pub i32_field : List ℕ
i32_field = 0x08 ∷ 0x00 ∷ 0x01 ∷ 0x00 ∷ 0x00 ∷ 0x00 ∷ 0x09 ∷ 0x00 ∷ []

abbrev pub table : List Case
table =
    -- W1
    message_read true versioned (0x61 ∷ 0x62 ∷ []) (gives (message (span 8 10) M.Call (pos 7)) 14)
    -- W2
    ∷ message_read false unversioned (0x61 ∷ 0x62 ∷ []) (gives (message (span 4 6) M.Call (pos 7)) 11)
    -- W3
    ∷ message_read true unversioned [] (refused 3 0)
    -- W4
    ∷ skipped T.Bool 1 (0x02 ∷ []) (ended 1 1)
    ∷ skipped T.Bool 0 (0x02 ∷ []) (cut_off 10 0 1)
    -- W5
    ∷ skipped T.List 2 two_bytes (ended 7 3)
    -- W6
    ∷ skipped T.List 1 two_bytes (cut_off 10 5 2)
    -- W7
    ∷ skipped T.List 1 (voids 0x00) (ended 5 1)
    -- W8
    ∷ skipped T.List 2 (voids 0x01) (cut_off 12 5 2)
    -- W9
    ∷ skipped T.Struct 2 i32_field (ended 8 2)
    -- W10
    ∷ skipped T.String 64 (0xFF ∷ 0xFF ∷ 0xFF ∷ 0xFF ∷ []) (cut_off 6 0 1)
    -- W11
    ∷ frame_read (0x00 ∷ 0x00 ∷ 0x00 ∷ 0x00 ∷ []) (gives (Some (span 4 4)) 4)
    -- W12
    ∷ field_written T.Stop (Some (pos 5)) (0xFF ∷ 0xFF ∷ 0xFF ∷ 0xFF ∷ []) (0x00 ∷ 0x00 ∷ 0x05 ∷ 0xFF ∷ []) 3
    ∷ []

-- of every case in a list
abbrev pub Every : List Case → Type 0
Every [] = Unit
Every (x ∷ xs) = Settled x × Every xs
