-- The typed scalar read: "one of the scalar kinds with its value"; "any other type asked for is 12, before 1".
use Rattle.std.specs.Prelude.{ℕ, List}
use Rattle.wire.specs.Answer.{Answer, refused, mapped, entry}
use Rattle.codes.specs.declared.TType.{TType}
use Rattle.codes.specs.declared.TType.TheVariants as T
use Rattle.number.specs.Reads.{bool_at, i8_at, i16_at, i32_at, i64_at, double_at}
use Rattle.scalar.specs.declared.Scalar.{Scalar}
use Rattle.scalar.specs.declared.Scalar.TheVariants as S

-- a type that is no scalar kind
unfoldable pub wrong_at : List ℕ → ℕ → Answer Scalar
wrong_at s at = entry s at (refused 12 at)

-- the number's answer, its value in the case of its type
abbrev pub scalar_at : TType → List ℕ → ℕ → Answer Scalar
scalar_at T.Stop s at = wrong_at s at
scalar_at T.Void s at = wrong_at s at
scalar_at T.Bool s at = mapped S.Bool (bool_at s at)
scalar_at T.I08 s at = mapped S.I08 (i8_at s at)
scalar_at T.Double s at = mapped S.Double (double_at s at)
scalar_at T.I16 s at = mapped S.I16 (i16_at s at)
scalar_at T.I32 s at = mapped S.I32 (i32_at s at)
scalar_at T.I64 s at = mapped S.I64 (i64_at s at)
scalar_at T.String s at = wrong_at s at
scalar_at T.Utf7 s at = wrong_at s at
scalar_at T.Struct s at = wrong_at s at
scalar_at T.Map s at = wrong_at s at
scalar_at T.Set s at = wrong_at s at
scalar_at T.List s at = wrong_at s at
scalar_at T.Uuid s at = wrong_at s at
