-- A byte keeps what is known within the rules, and completes one record at most, whose data has room in the buffer. Assumes nothing.
use Prim.Native.Nat.{ℕ, zero, suc, ◌≤◌, ◌<◌}
use mathlib.Core.Path.{◌≡◌, refl}
use mathlib.Core.Bool.{Bool, true, false}
use mathlib.Core.List.{List, [], ◌∷◌}
use native.Mathlib.Omega.{arith}
use borrow.Author.Tests.{ltb-true}
use lib.ListN.{length}
use Rattle.std.proofs.lemmas.Grind.{common_steps}
use Rattle.terms.specs.Lists.{all}
use Rattle.terms.proofs.Laws.{and_left, and_right}
use Rattle.wire.specs.BigEndian.{is_byte}
use Rattle.portions.specs.Fold.{Left}
use Rattle.portions.specs.Stops.{OneCall, unless_given, until_given}
use Rattle.replay_format.specs.Night.{Record}
use Rattle.replay_format.specs.Bytes.{Known, in_head, before_record, at_length, in_length, in_data, ended, head_byte, read_night_byte}
use Rattle.replay_reader.specs.Rules.{numbers_of, reader_rules}

-- what is known keeps the rules if its numbers do; where reading has ended there are none
abbrev pub good : Known → Bool
good (ended why) = true
good known = reader_rules (numbers_of known)

pub record Kept (left : Left Known Record) : Type 0 where
  pub keeps : good left.state ≡ true
  pub given : (x : Record) (y : List Record) → left.gave ≡ x ∷ y → (left.state ≡ before_record false) × (y ≡ []) × (length x.bytes ≤ 65535)

head_good : (there byte : ℕ) → good (head_byte there byte) ≡ true
unfolding reader_rules
head_good zero byte = grind (arith, common_steps)
head_good (suc zero) byte = grind (arith, common_steps)
head_good (suc (suc zero)) byte = grind (arith, common_steps)
head_good (suc (suc (suc zero))) byte = grind (arith, common_steps)
head_good (suc (suc (suc (suc n)))) byte = grind (arith, common_steps)

byte_kept : (known : Known) (byte : ℕ) → good known ≡ true → byte < 256 → Kept (read_night_byte known byte)
unfolding reader_rules
byte_kept (in_head there) byte k w = record { keeps = head_good there byte; given = λ x y e. cc }
byte_kept (before_record is_first) byte k w = record { keeps = grind (arith, common_steps); given = λ x y e. cc }
byte_kept (at_length kind) byte k w = record { keeps = grind (arith, common_steps); given = λ x y e. cc }
byte_kept (in_length kind high) byte k w = record { keeps = grind (arith, common_steps); given = λ x y e. grind (arith, common_steps) }
byte_kept (in_data kind size there) byte k w = record { keeps = grind (arith, common_steps); given = λ x y e. grind (arith, common_steps) }
byte_kept (ended why) byte k w = record { keeps = refl; given = λ x y e. cc }

-- the same of a call up to the first record
pub until : (known : Known) (portion : List ℕ) → good known ≡ true → all is_byte portion ≡ true
    → Kept (record { state = (until_given read_night_byte known portion).state; gave = (until_given read_night_byte known portion).gave })
until known [] k w = record { keeps = k; given = λ x y e. cc }
until known (byte ∷ rest) k w =
    let b = byte_kept known byte k (ltb-true byte 256 (and_left (is_byte byte) (all is_byte rest) w)) in
    go (read_night_byte known byte).gave b.keeps b.given (until (read_night_byte known byte).state rest b.keeps (and_right (is_byte byte) (all is_byte rest) w))
  where
    after : OneCall Known Record
    after = until_given read_night_byte (read_night_byte known byte).state rest

    go : (gave : List Record) → good (read_night_byte known byte).state ≡ true
        → ((x : Record) (y : List Record) → gave ≡ x ∷ y → ((read_night_byte known byte).state ≡ before_record false) × (y ≡ []) × (length x.bytes ≤ 65535))
        → Kept (record { state = after.state; gave = after.gave })
        → Kept (record { state = (unless_given gave (read_night_byte known byte).state after).state; gave = (unless_given gave (read_night_byte known byte).state after).gave })
    go (full ∷ others) keeps given u = record { keeps = keeps; given = λ x y e. let g = given full others refl in grind (arith, common_steps) }
    go [] keeps given u = u

-- a byte gives out one record at most
pub one_at_most : (known : Known) (byte : ℕ) (x : Record) (y : List Record) → (read_night_byte known byte).gave ≡ x ∷ y → y ≡ []
one_at_most (in_head there) byte x y e = cc
one_at_most (before_record is_first) byte x y e = cc
one_at_most (at_length kind) byte x y e = cc
one_at_most (in_length kind high) byte x y e = grind (arith, common_steps)
one_at_most (in_data kind size there) byte x y e = grind (arith, common_steps)
one_at_most (ended why) byte x y e = cc
