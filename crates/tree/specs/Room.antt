-- Demand 3's words: "limits raised or removed", and "unless it names a limit or depth that was raised or removed, or short input where bytes were appended".
use Rattle.std.specs.Prelude.{ℕ, ◌≡◌, false, ◌⊎◌, List, []}
use Rattle.config.specs.Limits.{reached, Raised}
use Rattle.config.specs.declared.configuration.TConfiguration.{TConfiguration}

-- a record that leaves a skip at least as much room: each limit was kept, raised or removed. The frame limit is no skip's
pub record Roomier (old new : TConfiguration) : Type 0 where
  pub message : Raised old.max_message_size new.max_message_size
  pub depth : Raised old.max_recursion_depth new.max_recursion_depth
  pub container : Raised old.max_container_size new.max_container_size
  pub string : Raised old.max_string_size new.max_string_size

-- a refusal of this number names nothing that was given room: 1 short input, 7 the string limit, 8 the container limit, 9 the message limit,
-- 10 the skip depth (d before, e after), 11 the struct depth's limit, unless that is not reached below 65,535: there 11 comes "whatever the limit"
pub record Unnamed (old new : TConfiguration) (d e : ℕ) (appended : List ℕ) (n : ℕ) : Type 0 where
  pub short : n ≡ 1 → appended ≡ []
  pub string : n ≡ 7 → old.max_string_size ≡ new.max_string_size
  pub container : n ≡ 8 → old.max_container_size ≡ new.max_container_size
  pub message : n ≡ 9 → old.max_message_size ≡ new.max_message_size
  pub depth : n ≡ 10 → d ≡ e
  pub structs : n ≡ 11 → (old.max_recursion_depth ≡ new.max_recursion_depth) ⊎ (reached 65534 old.max_recursion_depth ≡ false)
