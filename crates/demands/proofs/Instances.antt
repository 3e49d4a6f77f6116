-- Demand 3 at concrete bytes, so that neither of its halves is empty: a list that stays accepted, and a refusal that stays. Assumes nothing.
use Rattle.std.specs.Prelude.{None, Some, Result}
use Prim.Native.Nat.{ℕ, ◌<◌}
use mathlib.Core.Path.{◌≡◌, refl}
use mathlib.Core.List.{List, [], ◌∷◌, ◌++◌}
use native.Mathlib.Omega.{arith}
use borrow.Author.Rules.{rules}
use Rattle.wire.specs.Answer.{gives, refuse_if, and_then, within, item_at}
use Rattle.codes.proofs.Tables.{Each, entry}
use Rattle.codes.specs.declared.TType.TheVariants as T
use Rattle.config.specs.Limits.{limits}
use Rattle.config.specs.declared.configuration.TConfiguration.{TConfiguration}
use Rattle.number.specs.BigEndian.{big}
use Rattle.number.specs.Reads.{number_at}
use Rattle.number.proofs.Widths.{Octets}
use Rattle.text.specs.Texts.{size_at}
use Rattle.read.specs.Headers.{type_at, count_at, list_at}
use Rattle.tree.specs.Answers.{ended, cut_off, Stands, IsCut}
use Rattle.tree.specs.Coding.{items}
use Rattle.tree.proofs.Only.{skip_only}
use Rattle.tree.proofs.Steps as steps
use Rattle.binary.specs.Binary.{binary}
use Rattle.binary.proofs.Binary.{binary_reads}
use Rattle.skip.specs.Skips.{told_skipped, SkipSays}
use Rattle.leaf.specs.declared.Halt.{Halt}
use Rattle.skip.specs.declared.till_depth.Skipped.{Skipped}
use Rattle.demands.proofs.Demands.{demands}

octets : (s : List ℕ) → Each (λ n b. b < 256) 0 s → Octets s
octets s e i = entry (λ n b. b < 256) 0 s 0 e (λ n. omega arith) i

-- the default limits, and so many elements in a container
abbrev most : ℕ → TConfiguration
most n = limits (Some 104857600) (Some 16384000) (Some 64) (Some n) (Some 104857600)

-- the same number of elements, and next to no other limit
abbrev wider : ℕ → TConfiguration
wider n = limits None None (Some 100) (Some n) None

-- a list of one list of two bools
abbrev nested : List ℕ
nested = 0x0F ∷ 0 ∷ 0 ∷ 0 ∷ 1 ∷ 0x02 ∷ 0 ∷ 0 ∷ 0 ∷ 2 ∷ 1 ∷ 1 ∷ []

inner : Stands binary (most 2) nested 5 2 0 T.List 12 3
unfolding list_at type_at count_at size_at number_at item_at big within refuse_if and_then
inner =
    let o = octets nested (search rules) in
    steps.list_stands binary binary_reads (most 2) nested 5 2 0 T.List refl o
    (steps.list_more binary binary_reads (most 2) nested 5 2 0
    (steps.list_more binary binary_reads (most 2) nested 5 2 0
    (steps.list_start binary binary_reads (most 2) nested 5 2 0 o {x = record { element = T.Bool; size = 2 }} {first = 10} (omega arith) refl) (omega arith)
    (steps.leaf_answers binary binary_reads (most 2) nested 10 1 0 o T.Bool (λ z. omega arith) refl (gives tt 11) refl)) (omega arith)
    (steps.leaf_answers binary binary_reads (most 2) nested 11 1 0 o T.Bool (λ z. omega arith) refl (gives tt 12) refl))
    (omega arith)

outer : Stands binary (most 2) nested 0 3 0 T.List 12 4
unfolding list_at type_at count_at size_at number_at item_at big within refuse_if and_then
outer =
    let o = octets nested (search rules) in
    steps.list_stands binary binary_reads (most 2) nested 0 3 0 T.List refl o
    (steps.list_more binary binary_reads (most 2) nested 0 3 0
    (steps.list_start binary binary_reads (most 2) nested 0 3 0 o {x = record { element = T.List; size = 1 }} {first = 5} (omega arith) refl) (omega arith) inner)
    (omega arith)

-- where a container may have one element, the inner list is refused: 8 at 6, two values begun
inner_cut : IsCut binary (most 1) nested 0 3 0 T.List 8 6 2
unfolding list_at type_at count_at size_at number_at item_at big within refuse_if and_then
inner_cut =
    let o = octets nested (search rules) in
    steps.list_cut binary binary_reads (most 1) nested 0 3 0 T.List refl
    (steps.list_start binary binary_reads (most 1) nested 0 3 0 o {x = record { element = T.List; size = 1 }} {first = 5} (omega arith) refl) (omega arith)
    (steps.own_refused binary binary_reads (most 1) nested 5 2 0 T.List items 8 6 (λ z. omega arith) refl refl)

-- so it answers end 12 and count 4, and goes on doing so: depth 3 to 127, limits raised or removed, any bytes appended
pub accepted_still : (x : List ℕ) (a b : Result Skipped Halt) → SkipSays (most 2) nested 0 3 0 T.List a → SkipSays (wider 9) (nested ++ x) 0 127 0 T.List b → told_skipped b ≡ ended 12 4
unfolding refuse_if
accepted_still x a b p q =
    (demands.stays (most 2) (wider 9) (record { message = tt; depth = omega arith; container = omega arith; string = tt }) nested x 0 3 127 0 T.List
    (omega arith) (omega arith) (λ h. omega arith) a b p q).accept_stays 12 4
    (skip_only binary binary_reads (most 2) nested 0 3 0 T.List (told_skipped a) (ended 12 4) p.answers outer)

-- and 8 stays while its own limit is kept
pub refused_still : (x : List ℕ) (a b : Result Skipped Halt) → SkipSays (most 1) nested 0 3 0 T.List a → SkipSays (wider 1) (nested ++ x) 0 127 0 T.List b → told_skipped b ≡ cut_off 8 6 2
unfolding refuse_if
refused_still x a b p q =
    (demands.stays (most 1) (wider 1) (record { message = tt; depth = omega arith; container = omega arith; string = tt }) nested x 0 3 127 0 T.List
    (omega arith) (omega arith) (λ h. omega arith) a b p q).refusal_stays 8 6 2
    (skip_only binary binary_reads (most 1) nested 0 3 0 T.List (told_skipped a) (cut_off 8 6 2) p.answers inner_cut)
    (record {
      short = λ e. absurd (omega arith);
      string = λ e. absurd (omega arith);
      container = λ e. refl;
      message = λ e. absurd (omega arith);
      depth = λ e. absurd (omega arith);
      structs = λ e. absurd (omega arith);
    })
