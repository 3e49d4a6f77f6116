-- The binary encoding, as the tree wants an encoding: a value is asked for by its type, and nothing is remembered between fields.
use Rattle.std.specs.Prelude.{ℕ, ◌≡◌, cond, List, length, nat_abs}
use Rattle.wire.specs.Answer.{Answer, refused, mapped, judged, within}
use Rattle.codes.specs.Codes.{is_stop}
use Rattle.codes.specs.Shapes.{shape_of}
use Rattle.codes.specs.declared.TType.{TType}
use Rattle.codes.specs.declared.shape.Shape.{Shape}
use Rattle.codes.specs.declared.shape.Shape.TheVariants as Sh
use Rattle.config.specs.declared.configuration.TConfiguration.{TConfiguration}
use Rattle.text.specs.Texts.{bytes_at}
use Rattle.read.specs.declared.field.TFieldIdentifier.{TFieldIdentifier}
use Rattle.read.specs.declared.container.TListIdentifier.{TListIdentifier}
use Rattle.read.specs.declared.container.TMapIdentifier.{TMapIdentifier}
use Rattle.read.specs.Headers.{field_at, list_at, map_at}
use Rattle.tree.specs.Coding.{View, leaf, fields, items, pairs, Items, Paired, Heading, stop, going, Coding}
use Rattle.binary.specs.Layouts.{TextBytes, HeadBytes, ListBytes, MapBytes}

-- How the tree sees the values of a shape: what is in them; and where nothing is, what is read at their place and which bytes they are
pub record Seen : Type 1 where
  pub view : View
  pub read : TConfiguration → List ℕ → ℕ → Answer Unit
  pub bytes : TConfiguration → List ℕ → Type 0

-- none of them is a value with no value in it
abbrev pub no_leaf : View → Seen
no_leaf v = record { view = v; read = λ c s at. refused 12 at; bytes = λ c b. ⊥ }

-- "a scalar or a UUID passes its bytes; a string its length and body, no UTF-8 check"; "Stop, Void and Utf7 are 12"; the others have values in them
abbrev pub seen_as : Shape → Seen
seen_as (Sh.Fixed n) = record { view = leaf; read = λ c s at. within s at n; bytes = λ c b. length b ≡ n }
seen_as Sh.Text = record { view = leaf; read = λ c s at. judged (bytes_at c.max_string_size s at); bytes = TextBytes }
seen_as Sh.Unfit = no_leaf leaf
seen_as Sh.Fields = no_leaf fields
seen_as Sh.Items = no_leaf items
seen_as Sh.Pairs = no_leaf pairs

-- what the headers that `read` reads say to the tree; a size that was read is not negative
abbrev pub heading : TFieldIdentifier → Heading TType Unit
heading f = cond (is_stop f.field_type) stop (going f.field_type tt)

abbrev pub as_items : TListIdentifier → Items TType
as_items l = record { element = l.element_type; size = nat_abs l.size }

abbrev pub as_paired : TMapIdentifier → Paired TType
as_paired m = record { key = m.key_type; value = m.value_type; size = nat_abs m.size }

abbrev pub binary : Coding
binary =
    record {
      Kind = TType;
      State = Unit;
      view = λ t. (seen_as (shape_of t)).view;
      start = tt;
      leaf_at = λ c t s at. (seen_as (shape_of t)).read c s at;
      field_at = λ u s at. mapped heading (field_at s at);
      list_at = λ c s at. mapped as_items (list_at c s at);
      map_at = λ c s at. mapped as_paired (map_at c s at);
      Leaf = λ c t b. (seen_as (shape_of t)).bytes c b;
      Head = λ u b x. HeadBytes b x;
      ListHead = ListBytes;
      MapHead = MapBytes;
    }
