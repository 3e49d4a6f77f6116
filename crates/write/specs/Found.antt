-- What "reads back" says of a text, a name or a payload: the read gives a value that holds a place, and there stand the bytes that were written.
use Rattle.std.specs.Prelude.{ℕ, ◌≡◌, List}
use Rattle.wire.specs.Answer.{Answer, gives}
use Rattle.text.specs.Texts.{part_marked}
use Rattle.text.specs.declared.Span.{Span}

pub record Finds {A : Type 0} (value : Span → A) (s b : List ℕ) (read : Answer A) (next : ℕ) : Type 0 where
  pub place : Span
  pub gave : gives (value place) next ≡ read
  pub bytes : part_marked s place ≡ b

-- of bytes, strings and UUIDs, which are their place
abbrev pub Found : List ℕ → List ℕ → Answer Span → ℕ → Type 0
Found s b read next = Finds (λ (p : Span). p) s b read next
