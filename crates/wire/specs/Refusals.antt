-- 01's numbers for our refusals: a promise goes through these, so it speaks in numbers and places.
use Rattle.std.specs.Prelude.{ℕ, List, ◌++◌, Result, Ok, Err, codes, decimal}
use Rattle.wire.specs.Answer.{Answer, gives, refused}
use Rattle.wire.specs.declared.refusal.Refusal.{Refusal}
use Rattle.wire.specs.declared.refusal.Kind.{Kind}
use Rattle.wire.specs.declared.refusal.Kind.TheVariants as K
use Rattle.wire.specs.declared.cursor.Cursor.{Cursor}

abbrev pub kind_number : Kind → ℕ
kind_number K.ShortInput = 1
kind_number K.StartBeyond = 2
kind_number K.BadVersion = 3
kind_number K.BadMessageType = 4
kind_number K.UnknownType = 5
kind_number K.NegativeSize = 6
kind_number K.StringLimit = 7
kind_number K.ContainerLimit = 8
kind_number K.MessageLimit = 9
kind_number K.SkipDepth = 10
kind_number K.StructDepth = 11
kind_number K.WrongType = 12
kind_number K.NotUtf8 = 13
kind_number K.NoStructOpen = 14
kind_number K.OutputFull = 15
kind_number K.TooLong = 16
kind_number K.Missing = 17
kind_number K.FrameLimit = 18
kind_number K.FrameAboveMessage = 19
kind_number K.DepthBeyond = 20

-- a refusal, in 01's words: the `Err` of every answer
abbrev pub told_refusal : {A : Type 0} → Refusal → Answer A
told_refusal x = refused (kind_number x.kind) x.place

-- what a call tells that reads a value: the value and the place of the moved cursor, or the refusal
abbrev pub told : {A : Type 0} → Result (A × Cursor) Refusal → Answer A
told (Ok r) = gives r.0 r.1.at
told (Err x) = told_refusal x

-- what a call tells that only moves the cursor
abbrev pub told_moved : Result Cursor Refusal → Answer Unit
told_moved (Ok c) = gives tt c.at
told_moved (Err x) = told_refusal x

-- the words that a refusal prints
abbrev pub refusal_text : Refusal → List ℕ
refusal_text x = codes "refused " ++ decimal (kind_number x.kind) ++ codes " at " ++ decimal x.place
