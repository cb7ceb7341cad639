-- A destination: 384 key bytes, certificate type (1), length L (2), L bytes. Its signing key is of a listed type, by which the length of its
-- signatures goes (document 02).
use Rattle.std.specs.Prelude.{ℕ, ◌+◌, Bool, ◌&&◌, ◌||◌, not, List, leb, ltb, eqb, length}
use Rattle.terms.specs.Answers.{Saying, refusal, values}
use Rattle.terms.specs.Ladder.{◌when◌else◌}
use Rattle.wire.specs.BigEndian.{number_at}
use Rattle.packet_keys.specs.Kinds.{signature_length, is_listed}
use Rattle.packet_read.specs.declared.Destination.{Destination}

module _ (bytes : List ℕ) (at : ℕ) where
  abbrev pub certificate_type : ℕ
  certificate_type = number_at 1 (at + 384) bytes

  -- the L of document 01
  abbrev pub certificate_length : ℕ
  certificate_length = number_at 2 (at + 385) bytes

  -- the first two certificate bytes
  abbrev pub key_type : ℕ
  key_type = number_at 2 (at + 387) bytes

  -- in certificate type 5 the key type; certificate type 0 is DSA, type 0 of the list
  abbrev pub signing_type : ℕ
  signing_type = key_type when eqb certificate_type 5 else 0

-- certificate type 0 wants L 0, and type 5 L at least 4; another type is not taken
abbrev pub form_fits : ℕ → ℕ → Bool
form_fits certificate L = eqb L 0 when eqb certificate 0 else (eqb certificate 5 && leb 4 L)

-- the type is listed; key type 3, whose key overruns its field, wants L at least 8
abbrev pub key_fits : ℕ → ℕ → Bool
key_fits kind L = is_listed kind && (not (eqb kind 3) || leb 8 L)

-- the destination that begins at `at`, in an area that ends at `end`
unfoldable pub destination_in : List ℕ → ℕ → ℕ → Saying Destination
destination_in bytes at end =
    -- 3 under 387 bytes
    refusal 3 when ltb end (at + 387) else
    -- 4 for type or L
    refusal 4 when not (form_fits (certificate_type bytes at) (certificate_length bytes at)) else
    -- 3 for its end
    refusal 3 when ltb end (at + (387 + certificate_length bytes at)) else
    -- 4 for the key type
    refusal 4 when not (key_fits (signing_type bytes at) (certificate_length bytes at)) else
    values (record { size = 387 + certificate_length bytes at; signs = signature_length (signing_type bytes at) })

abbrev pub signs_filling : ℕ → Saying Destination → ℕ
signs_filling n (refusal number) = 0
signs_filling n (values d) = d.signs when eqb d.size n else 0

-- how long the signatures of exactly one destination are; 0 where the bytes are none, or have a byte more
unfoldable pub signs_of : List ℕ → ℕ
signs_of bytes = signs_filling (length bytes) (destination_in bytes 0 (length bytes))

-- exactly one destination, no byte more
abbrev pub is_destination : List ℕ → Bool
is_destination bytes = not (eqb (signs_of bytes) 0)
