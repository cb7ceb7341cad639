-- The same file read byte by byte: what is known after each byte, and the record that a byte completes. It gives what the whole file says,
-- however the file is cut (proofs/Whole).
use Rattle.std.specs.Prelude.{ℕ, zero, suc, ◌+◌, ◌*◌, Bool, true, false, not, List, [], ◌∷◌, ◌++◌, ltb, eqb, length}
use Rattle.terms.specs.Ladder.{◌when◌else◌}
use Rattle.terms.specs.Answers.{Said, refusal, values}
use Rattle.portions.specs.Fold.{Left, quiet, read_all}
use Rattle.replay_format.specs.Night.{Record, Night, has_place, size_fits, data_fits}

-- what is known of the file once some of it was read
pub data Known : Type 0 where
  -- so many bytes of mark and version were there, all of them right; at the start none
  in_head : ℕ → Known
  -- a record is to come; whether it is the first
  before_record : Bool → Known
  -- its kind is there
  at_length : ℕ → Known
  -- and the high byte of its length
  in_length : ℕ → ℕ → Known
  -- its kind, its length, and those bytes of its data that are there, fewer than that
  in_data : ℕ → ℕ → List ℕ → Known
  -- refused: nothing is read any more
  ended : ℕ → Known

-- a record is complete
abbrev pub completes : ℕ → List ℕ → Left Known Record
completes kind bytes = record { state = before_record false; gave = record { kind = kind; bytes = bytes } ∷ [] }

-- the bytes of mark and version, 0 to 4: L, S, T, 0, 1
abbrev pub head_byte : ℕ → ℕ → Known
head_byte zero byte = in_head 1 when eqb byte 76 else ended 26
head_byte (suc zero) byte = in_head 2 when eqb byte 83 else ended 26
head_byte (suc (suc zero)) byte = in_head 3 when eqb byte 84 else ended 26
head_byte (suc (suc (suc zero))) byte = in_head 4 when eqb byte 0 else ended 27
head_byte (suc (suc (suc (suc n)))) byte = before_record true when eqb byte 1 else ended 27

-- one byte
abbrev pub read_night_byte : Known → ℕ → Left Known Record
read_night_byte (in_head there) byte = quiet (head_byte there byte)
read_night_byte (before_record is_first) byte = quiet (at_length byte when has_place is_first byte else ended 28)
read_night_byte (at_length kind) byte = quiet (in_length kind byte)
read_night_byte (in_length kind high) byte =
    quiet (ended 29) when not (size_fits kind (high * 256 + byte)) else
    completes kind [] when eqb (high * 256 + byte) 0 else
    quiet (in_data kind (high * 256 + byte) [])
read_night_byte (in_data kind size there) byte =
    quiet (in_data kind size (there ++ (byte ∷ []))) when not (eqb (suc (length there)) size) else
    quiet (ended 29) when not (data_fits kind (there ++ (byte ∷ []))) else
    completes kind (there ++ (byte ∷ []))
read_night_byte (ended why) byte = quiet (ended why)

-- what the end of the file says
abbrev pub end_says : Known → Said
end_says (in_head there) = refusal 26 when ltb there 3 else refusal 27
end_says (before_record is_first) = refusal 29 when is_first else values []
end_says (at_length kind) = refusal 29
end_says (in_length kind high) = refusal 29
end_says (in_data kind size there) = refusal 29
end_says (ended why) = refusal why

-- a file, byte by byte
abbrev pub night_by_bytes : List ℕ → Night
night_by_bytes file =
    let left = read_all read_night_byte (in_head 0) file in
    record { records = left.gave; ends = end_says left.state }
