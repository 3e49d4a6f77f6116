-- The sizes that fit the limits, whatever the encoding.
use Rattle.std.specs.Prelude.{ℕ, ◌*◌, ◌<◌, ◌≡◌, false}
use Rattle.config.specs.Limits.{above}
use Rattle.config.specs.declared.configuration.TConfiguration.{TConfiguration}

-- a string, "its length and body, no UTF-8 check": the length is not negative (6) and within the string limit (7)
pub record LengthFits (c : TConfiguration) (n : ℕ) : Type 0 where
  pub not_negative : n < 2147483648
  pub string : above n c.max_string_size ≡ false

-- a container of n elements: "Then 6, 8, 9", by rule 9 "size times the least element size must not exceed the message limit"
pub record SizeFits (c : TConfiguration) (least n : ℕ) : Type 0 where
  pub not_negative : n < 2147483648
  pub container : above n c.max_container_size ≡ false
  pub message : above (n * least) c.max_message_size ≡ false
