-- A recorded night, from document 02, request [1]: the file starts with the three bytes LST and a version number of 16 bits, now 1; then records of
-- a kind byte, a 16-bit length and the data, all big-endian.
use Rattle.std.specs.Prelude.{ℕ, zero, suc, ◌+◌, ◌*◌, Bool, true, false, ◌&&◌, ◌||◌, not, List, [], ◌∷◌, leb, ltb, eqb, length, get_or, take, drop}
use Rattle.terms.specs.Ladder.{◌when◌else◌}
use Rattle.terms.specs.Answers.{Said, refusal, values}

pub record Record : Type 0 where
  pub kind : ℕ
  pub bytes : List ℕ

-- the records that were read, the first first, and how the reading ended: values [] at the end of a whole file, or a refusal
pub record Night : Type 0 where
  pub records : List Record
  pub ends : Said

abbrev pub ends_with : ℕ → Night
ends_with why = record { records = []; ends = refusal why }

infixr 30 ◌then_night◌
-- a night with a record before it
abbrev pub ◌then_night◌ : Record → Night → Night
one then_night rest = record { records = one ∷ rest.records; ends = rest.ends }

-- a big-endian number of 16 bits at the front
abbrev pub front_of16 : List ℕ → ℕ
front_of16 bytes = get_or bytes 0 0 * 256 + get_or bytes 1 0

-- L, S, T
abbrev pub night_mark : List ℕ
night_mark = 76 ∷ 83 ∷ 84 ∷ []

abbrev pub same_bytes : List ℕ → List ℕ → Bool
same_bytes [] [] = true
same_bytes [] (y ∷ ys) = false
same_bytes (x ∷ xs) [] = false
same_bytes (x ∷ xs) (y ∷ ys) = eqb x y && same_bytes xs ys

-- a kind 0 is the first record, and no other is; kinds are 0 to 6
abbrev pub has_place : Bool → ℕ → Bool
has_place is_first kind = eqb kind 0 when is_first else leb 1 kind && leb kind 6

-- how long the data of a kind is: 28 bytes of both ids, s, first number, S, C and K; 8 of a clock; one of a path answer; none of a send or a take; any of
-- a packet, and of bytes submitted
abbrev pub size_fits : ℕ → ℕ → Bool
size_fits kind size =
    eqb size 28 when eqb kind 0 else
    eqb size 8 when eqb kind 3 else
    eqb size 1 when eqb kind 4 else
    eqb size 0 when leb 5 kind else
    true

-- and a path answer is 0 or 1
abbrev pub data_fits : ℕ → List ℕ → Bool
data_fits kind bytes = size_fits kind (length bytes) && (leb (get_or bytes 0 0) 1 || not (eqb kind 4))

-- The records in these bytes, of which there are fewer than the first number; is_first tells whether no record came before.
abbrev pub records_in : ℕ → Bool → List ℕ → Night
records_in zero is_first bytes = ends_with 29
-- no record at all is 29, and else the file is whole
records_in (suc fewer) is_first [] = record { records = []; ends = refusal 29 when is_first else values [] }
records_in (suc fewer) is_first (kind ∷ rest) =
    -- unknown kind, kind 0 repeated or not first: told by the kind byte alone
    ends_with 28 when not (has_place is_first kind) else
    -- cut record: its length, or its data
    ends_with 29 when ltb (length rest) 2 else
    ends_with 29 when ltb (length (drop 2 rest)) (front_of16 rest) else
    -- data that does not fit its kind
    ends_with 29 when not (data_fits kind (take (front_of16 rest) (drop 2 rest))) else
    (record { kind = kind; bytes = take (front_of16 rest) (drop 2 rest) } then_night records_in fewer false (drop (front_of16 rest) (drop 2 rest)))

-- the whole file
unfoldable pub night_of : List ℕ → Night
night_of file =
    -- wrong mark, or a file under three bytes
    ends_with 26 when not (same_bytes (take 3 file) night_mark) else
    -- other version, or a file under five bytes
    ends_with 27 when ltb (length file) 5 else
    ends_with 27 when not (eqb (front_of16 (drop 3 file)) 1) else
    records_in (length file) true (drop 5 file)
