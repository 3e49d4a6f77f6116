-- What writing a message's header comes to, in a buffer at a place.
use Rattle.std.specs.Prelude.{ℕ, Bool, List, ℤ}
use Rattle.std.specs.Int.{w32}
use Rattle.std.proofs.Common.{of_z}
use Rattle.wire.specs.Answer.{Answer}
use Rattle.wire.specs.Writes.{write_at}
use Rattle.codes.specs.declared.TMessageType.{TMessageType}
use Rattle.message.specs.Layouts.{message_layout}
use Rattle.write.specs.Outputs.{named_output}

-- "Strict message: 80 01 00 and type, name, sequence: 12 plus name length. Legacy: 9 plus name length", with 16 and 13 of the name
abbrev pub message_write : Bool → List ℕ → TMessageType → ℤ → List ℕ → ℕ → Answer (List ℕ)
message_write strict name t seq out at = write_at (named_output name (message_layout strict name t (of_z w32 seq)) at) out at
