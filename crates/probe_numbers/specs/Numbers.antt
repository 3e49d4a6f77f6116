-- What the numbers of a call stand for: steps and types.
use Rattle.std.specs.Prelude.{ℕ, List, [], ◌∷◌, get_or, None, Option, Some}
use Rattle.codes.specs.declared.TType.{TType}
use Rattle.codes.specs.declared.TType.TheVariants as T
use Rattle.probe_numbers.specs.declared.Plain.TheVariants as P
use Rattle.probe_numbers.specs.declared.Bounded.TheVariants as B
use Rattle.probe_numbers.specs.declared.ReadStep.{ReadStep}
use Rattle.probe_numbers.specs.declared.ReadStep.TheVariants as Step
use Rattle.probe_numbers.specs.declared.Put.TheVariants as U
use Rattle.probe_numbers.specs.declared.Headed.TheVariants as H
use Rattle.probe_numbers.specs.declared.Still.TheVariants as Q
use Rattle.probe_numbers.specs.declared.WriteStep.{WriteStep}
use Rattle.probe_numbers.specs.declared.WriteStep.TheVariants as Write

-- the reads, from 0 on
abbrev pub reads : List (Option ReadStep)
reads =
    Some (Step.Plain P.Byte)  -- 0
    ∷ Some (Step.Plain P.Bool)  -- 1
    ∷ Some (Step.Plain P.I8)  -- 2
    ∷ Some (Step.Plain P.I16)  -- 3
    ∷ Some (Step.Plain P.I32)  -- 4
    ∷ Some (Step.Plain P.I64)  -- 5
    ∷ Some (Step.Plain P.Double)  -- 6
    ∷ Some (Step.Bounded B.Bytes)  -- 7
    ∷ Some (Step.Bounded B.String)  -- 8
    ∷ Some (Step.Plain P.Uuid)  -- 9
    ∷ Some (Step.Plain P.Type)  -- 10
    ∷ Some (Step.Plain P.Field)  -- 11
    ∷ Some (Step.Bounded B.List)  -- 12
    ∷ Some (Step.Bounded B.Set)  -- 13
    ∷ Some (Step.Bounded B.Map)  -- 14
    ∷ Some (Step.Bounded B.StructBegin)  -- 15
    ∷ Some (Step.Bounded B.StructEnd)  -- 16
    ∷ Some (Step.Plain P.MessageType)  -- 17
    ∷ Some (Step.Bounded B.Message)  -- 18
    ∷ Some Step.Scalar  -- 19
    ∷ Some (Step.Plain P.MessageEnd)  -- 20
    ∷ Some (Step.Plain P.FieldEnd)  -- 21
    ∷ Some (Step.Plain P.ListEnd)  -- 22
    ∷ Some (Step.Plain P.SetEnd)  -- 23
    ∷ Some (Step.Plain P.MapEnd)  -- 24
    ∷ Some (Step.Bounded B.Frame)  -- 25
    ∷ Some Step.Skip  -- 26
    ∷ Some (Step.Bounded B.Limits)  -- 27
    ∷ []

abbrev pub read_step_of : ℕ → Option ReadStep
read_step_of b = get_or reads b None

-- the writes, from 0 on
abbrev pub writes : List (Option WriteStep)
writes =
    Some Write.Message  -- 0
    ∷ Some (Write.Still Q.MessageEnd)  -- 1
    ∷ Some (Write.Still Q.StructBegin)  -- 2
    ∷ Some (Write.Still Q.StructEnd)  -- 3
    ∷ Some (Write.Headed H.Field)  -- 4
    ∷ Some (Write.Still Q.FieldEnd)  -- 5
    ∷ Some (Write.Put U.Stop)  -- 6
    ∷ Some (Write.Put U.Byte)  -- 7
    ∷ Some (Write.Put U.Bool)  -- 8
    ∷ Some (Write.Put U.I8)  -- 9
    ∷ Some (Write.Put U.I16)  -- 10
    ∷ Some (Write.Put U.I32)  -- 11
    ∷ Some (Write.Put U.I64)  -- 12
    ∷ Some (Write.Put U.Double)  -- 13
    ∷ Some (Write.Put U.Bytes)  -- 14
    ∷ Some (Write.Put U.String)  -- 15
    ∷ Some Write.Uuid  -- 16
    ∷ Some (Write.Headed H.List)  -- 17
    ∷ Some (Write.Headed H.Set)  -- 18
    ∷ Some Write.Map  -- 19
    ∷ Some (Write.Still Q.ListEnd)  -- 20
    ∷ Some (Write.Still Q.SetEnd)  -- 21
    ∷ Some (Write.Still Q.MapEnd)  -- 22
    ∷ Some (Write.Put U.Frame)  -- 23
    ∷ []

abbrev pub write_step_of : ℕ → Option WriteStep
write_step_of b = get_or writes b None

-- the types, by their index and not by their byte
abbrev pub kinds : List (Option TType)
kinds =
    Some T.Stop  -- 0
    ∷ Some T.Void  -- 1
    ∷ Some T.Bool  -- 2
    ∷ Some T.I08  -- 3
    ∷ Some T.Double  -- 4
    ∷ Some T.I16  -- 5
    ∷ Some T.I32  -- 6
    ∷ Some T.I64  -- 7
    ∷ Some T.String  -- 8
    ∷ Some T.Utf7  -- 9
    ∷ Some T.Struct  -- 10
    ∷ Some T.Map  -- 11
    ∷ Some T.Set  -- 12
    ∷ Some T.List  -- 13
    ∷ Some T.Uuid  -- 14
    ∷ []

abbrev pub kind_of : ℕ → Option TType
kind_of b = get_or kinds b None
