-- How the values of a type lie in the bytes. Stop, Void and Utf7 have none that can be skipped; a set lies as a list does.
use Rattle.codes.specs.declared.TType.{TType}
use Rattle.codes.specs.declared.TType.TheVariants as T
use Rattle.codes.specs.declared.shape.Shape.{Shape}
use Rattle.codes.specs.declared.shape.Shape.TheVariants.{Fixed, Text, Fields, Items, Pairs, Unfit}

abbrev pub shape_of : TType → Shape
shape_of T.Stop = Unfit
shape_of T.Void = Unfit
shape_of T.Bool = Fixed 1
shape_of T.I08 = Fixed 1
shape_of T.Double = Fixed 8
shape_of T.I16 = Fixed 2
shape_of T.I32 = Fixed 4
shape_of T.I64 = Fixed 8
shape_of T.String = Text
shape_of T.Utf7 = Unfit
shape_of T.Struct = Fields
shape_of T.Map = Pairs
shape_of T.Set = Items
shape_of T.List = Items
shape_of T.Uuid = Fixed 16
