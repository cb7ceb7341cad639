-- Writing a packet, from document 01: the writer takes the same fields as the reader gives, and the parts as lists.
use Rattle.std.specs.Prelude.{ℕ, ◌+◌, ◌*◌, ◌≤◌, Bool, ◌&&◌, ◌||◌, not, List, [], ◌∷◌, ◌++◌, ltb, eqb, length}
use Rattle.terms.specs.Answers.{Saying, refusal, values, ◌unless_refused◌else◌}
use Rattle.terms.specs.Ladder.{◌when◌else◌}
use Rattle.terms.specs.Lists.{◌at_front_of◌, joined}
use Rattle.wire.specs.BigEndian.{bytes_of, bytes_of_each}
use Rattle.packet_read.specs.Flags.{bit}
use Rattle.packet_read.specs.Destination.{signs_of, is_destination}
use Rattle.packet_read.specs.Options.{signature_at}
use Rattle.packet_write.specs.declared.Fields.{Fields}
use Rattle.packet_write.specs.declared.Written.{Written}

-- It answers the length and where the signature begins, 0 without bit 3.
abbrev pub written : ℕ → ℕ → Saying Written
written n at = values (record { length = n; signature_at = at })

-- a part or number that is given, so many bytes or so much, although its bit is clear
abbrev pub unfit : Bool → ℕ → Bool
unfit there given = not there && ltb 0 given

-- Presence follows the flags: a part or number given for a clear bit must be empty or 0.
abbrev pub parts_unfit : Fields → List ℕ → List ℕ → Bool
parts_unfit f destination signature =
    unfit (bit 6 f.flags) f.delay
    || (unfit (bit 5 f.flags) (length destination)
    || (unfit (bit 7 f.flags) f.max_size
    || unfit (bit 3 f.flags) (length signature)))

-- where the signature begins
abbrev pub signed_at : Fields → List ℕ → List ℕ → ℕ
signed_at f nacks destination = signature_at (22 + 4 * length nacks) f.flags (length destination)

module _ (f : Fields) (nacks destination signature payload : List ℕ) where
  -- how long the packet is
  abbrev pub packet_length : ℕ
  packet_length = signed_at f nacks destination + length signature + length payload

  -- the answer where the output has this much room, by document 01's numbers in its order
  unfoldable pub write_of : ℕ → Saying Written
  write_of room =
      -- more than 255 NACKs to write
      refusal 8 when ltb 255 (length nacks) else
      -- bit 11 without bit 5
      refusal 5 when bit 11 f.flags && not (bit 5 f.flags) else
      -- bit 11 with bit 5
      refusal 6 when bit 11 f.flags && bit 5 f.flags else
      -- parts do not fit the flags: for clear bits
      refusal 9 when parts_unfit f destination signature else
      -- bit 5 wants exactly one destination
      refusal 4 when bit 5 f.flags && not (is_destination destination) else
      -- bit 3 with bit 5 wants as many bytes as the destination's signatures have
      refusal 9 when bit 3 f.flags && (bit 5 f.flags && not (eqb (length signature) (signs_of destination))) else
      -- packet to be written longer than 65,535
      refusal 2 when ltb 65535 packet_length else
      -- output shorter than needed
      refusal 7 when ltb room packet_length else
      written packet_length (signed_at f nacks destination when bit 3 f.flags else 0)

-- The bytes, part by part in wire order.
abbrev pub id_parts : Fields → List (List ℕ)
id_parts f =
    bytes_of 4 f.send_stream_id.0 ∷
    bytes_of 4 f.recv_stream_id.0 ∷
    bytes_of 4 f.seq_nro.0 ∷
    bytes_of 4 f.ack_through.0 ∷ []

-- with so many option bytes
abbrev pub head_parts : Fields → List ℕ → ℕ → List (List ℕ)
head_parts f nacks options =
    id_parts f ++
    (bytes_of 1 (length nacks) ∷
    bytes_of_each 4 nacks ∷
    bytes_of 1 f.resend_delay ∷
    bytes_of 2 f.flags ∷
    bytes_of 2 options ∷ [])

abbrev pub if_there : Bool → ℕ → List ℕ
if_there there x = bytes_of 2 x when there else []

abbrev pub option_parts : Fields → List ℕ → List ℕ → List (List ℕ)
option_parts f destination signature =
    if_there (bit 6 f.flags) f.delay ∷
    destination ∷
    if_there (bit 7 f.flags) f.max_size ∷
    signature ∷ []

module _ (f : Fields) (nacks destination signature payload : List ℕ) where
  unfoldable pub packet_bytes : List ℕ
  packet_bytes =
      joined (head_parts f nacks (length (joined (option_parts f destination signature))))
      ++ (joined (option_parts f destination signature) ++ payload)

  -- bytes beyond the length stay, and a refused call leaves every byte
  abbrev pub output_after : List ℕ → List ℕ
  output_after output =
      packet_bytes at_front_of output unless_refused write_of f nacks destination signature payload (length output) else output

  -- what `put::packet`, which writes, is asked: a packet that is not refused for its lengths
  pub record Fitting (room : ℕ) : Type 0 where
    pub few : length nacks ≤ 255
    pub short : packet_length f nacks destination signature payload ≤ 65535
    pub roomy : packet_length f nacks destination signature payload ≤ room
