-- The limits record of document 01: its tests, its defaults, its building, limits as numbers, and when one record leaves more room than another.
use Rattle.std.specs.Prelude.{ℕ, ◌≤◌, Bool, false, cond, eqb, ltb, leb, Option, Some, None, Result, Ok, Err}
use Rattle.wire.specs.Answer.{Answer, gives, refuse_if}
use Rattle.wire.specs.Refusals.{told_refusal}
use Rattle.wire.specs.declared.refusal.Refusal.{Refusal}
use Rattle.config.specs.declared.configuration.TConfiguration.{TConfiguration}

-- "sizes equal to their limit pass; an absent limit refuses nothing"
abbrev pub above : ℕ → Option ℕ → Bool
above n None = false
above n (Some m) = ltb m n

-- "A struct begin is refused (11) at depth at or above the limit"
abbrev pub reached : ℕ → Option ℕ → Bool
reached n None = false
reached n (Some m) = leb m n

-- the record, in 01's order: message, frame, struct depth, container, string
abbrev pub limits : Option ℕ → Option ℕ → Option ℕ → Option ℕ → Option ℕ → TConfiguration
limits message frame depth container string =
    record {
      max_message_size = message;
      max_frame_size = frame;
      max_recursion_depth = depth;
      max_container_size = container;
      max_string_size = string;
    }

abbrev pub default_limits : TConfiguration
default_limits = limits (Some 104857600) (Some 16384000) (Some 64) None (Some 104857600)

abbrev pub no_limits : TConfiguration
no_limits = limits None None None None None

-- limits that a caller passes as numbers: the greatest of 64 bits stands for "absent"
abbrev pub no_limit : ℕ
no_limit = 18446744073709551615

abbrev pub limit_of : ℕ → Option ℕ
limit_of n = cond (eqb n no_limit) None (Some n)

abbrev pub limits_of : ℕ → ℕ → ℕ → ℕ → ℕ → TConfiguration
limits_of message frame structs container string = limits (limit_of message) (limit_of frame) (limit_of structs) (limit_of container) (limit_of string)

-- "both frame and message limits are present and frame is greater"
abbrev pub frame_above : Option ℕ → Option ℕ → Bool
frame_above None message = false
frame_above (Some frame) message = above frame message

-- building refuses 19 at 0, or hands the record on; no byte is passed, so the place after it is 0
unfoldable pub built_from : TConfiguration → Answer TConfiguration
built_from c = refuse_if (frame_above c.max_frame_size c.max_message_size) 19 0 (gives c 0)

abbrev pub told_built : Result TConfiguration Refusal → Answer TConfiguration
told_built (Ok c) = gives c 0
told_built (Err x) = told_refusal x

-- a limit that was kept, raised or removed
abbrev pub Raised : Option ℕ → Option ℕ → Type 0
Raised old None = Unit
Raised None (Some new) = ⊥
Raised (Some old) (Some new) = old ≤ new
