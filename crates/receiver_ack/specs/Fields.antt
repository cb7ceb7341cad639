-- The ack fields of a receiver: document 01, "Acknowledgement".
use Rattle.std.specs.Prelude.{ℕ, ◌-◌, ◌^◌, Bool, List, leb, length, get_or, take}
use Rattle.terms.specs.Ladder.{◌when◌else◌}
use Rattle.receiver_state.specs.declared.Receiver.{Receiver}
use Rattle.receiver_ack.specs.Missing.{missing_from}
use Rattle.receiver_ack.specs.declared.AckFields.{AckFields}

-- of the missing numbers, ascending
module _ (missing : List ℕ) where
  abbrev pub at_most255 : Bool
  at_most255 = leb (length missing) 255

  abbrev pub at_least255 : Bool
  at_least255 = leb 255 (length missing)

  -- with at most 255 missing, all missing are NACKs, ascending; with more, the NACKs are the 255 smallest
  abbrev pub ack_nacks : List ℕ
  ack_nacks = missing when at_most255 else take 255 missing

  -- the 256th smallest: 255 stand before it
  abbrev pub smallest256th : ℕ
  smallest256th = get_or missing 255 0

  -- with at most 255 missing, ack-through is highest; with more, it is the 256th smallest less one
  abbrev pub acked_through : ℕ → ℕ
  acked_through highest = highest when at_most255 else (smallest256th - 1)

  -- with 255 or more missing, flag bit 6 and delay 60,001 are set
  abbrev pub ack_flags : ℕ
  ack_flags = 2 ^ 6 when at_least255 else 0

  abbrev pub ack_delay : ℕ
  ack_delay = 60001 when at_least255 else 0

  -- the record of the code, which has the NACKs' count: the numbers themselves stand in the table that it is lent
  abbrev pub ack_record : ℕ → AckFields
  ack_record highest = record {
    nacks = length ack_nacks;
    ack_through = record { 0 = acked_through highest };
    flags = ack_flags;
    delay = ack_delay;
  }

unfoldable pub fields_from : ℕ → ℕ → List ℕ → AckFields
fields_from next highest marks = ack_record (missing_from next highest marks) highest

unfoldable pub nacks_from : ℕ → ℕ → List ℕ → List ℕ
nacks_from next highest marks = ack_nacks (missing_from next highest marks)

-- of a receiver
module _ (r : Receiver) where
  abbrev pub ack_fields_of : AckFields
  ack_fields_of = fields_from r.head.next.0 r.head.highest.0 r.marks

  abbrev pub ack_nacks_of : List ℕ
  ack_nacks_of = nacks_from r.head.next.0 r.head.highest.0 r.marks

  abbrev pub ack_through_of : ℕ
  ack_through_of = ack_fields_of.ack_through.0
