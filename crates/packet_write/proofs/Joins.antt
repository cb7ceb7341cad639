-- Parts written one behind the other are the definition's list of parts, joined. Assumes nothing.
use Prim.Native.Nat.{ℕ, ◌+◌, ◌*◌}
use mathlib.Core.Path.{◌≡◌, refl, ◌∙◌, ap}
use mathlib.Core.Bool.{Bool, true, false}
use mathlib.Core.List.{List, [], ◌∷◌, ◌++◌, append_assoc, append-nil}
use native.Mathlib.Omega.{arith}
use lib.ListN.{length, length-append}
use Rattle.terms.specs.Ladder.{◌when◌else◌}
use Rattle.terms.specs.Lists.{joined}
use Rattle.wire.specs.BigEndian.{bytes_of, bytes_of_each}
use Rattle.wire.proofs.Laws.{length_each}
use Rattle.packet_read.specs.Flags.{bit}
use Rattle.packet_write.specs.Writing.{head_parts, option_parts, packet_bytes, if_there}
use Rattle.packet_write.specs.declared.Fields.{Fields}

-- the ids and numbers of the packet's first 16 bytes
abbrev pub first_numbers : Fields → List ℕ
first_numbers f = f.send_stream_id.0 ∷ f.recv_stream_id.0 ∷ f.seq_nro.0 ∷ f.ack_through.0 ∷ []

pub head_joined : (f : Fields) (nacks : List ℕ) (options : ℕ)
    → bytes_of_each 4 (first_numbers f) ++ (bytes_of 1 (length nacks) ++ bytes_of_each 4 nacks) ++ (bytes_of 1 f.resend_delay ++ bytes_of 2 f.flags ++ bytes_of 2 options)
    ≡ joined (head_parts f nacks options)
head_joined f nacks options = simp append_assoc

pub options_joined : (f : Fields) (destination signature : List ℕ)
    → if_there (bit 6 f.flags) f.delay ++ destination ++ if_there (bit 7 f.flags) f.max_size ++ signature ≡ joined (option_parts f destination signature)
options_joined f destination signature = simp (append_assoc, append-nil)

pub length_if : (there : Bool) (x : ℕ) → length (if_there there x) ≡ (2 when there else 0)
length_if true x = refl
length_if false x = refl

pub length_options : (f : Fields) (destination signature : List ℕ)
    → length (joined (option_parts f destination signature)) ≡ (2 when bit 6 f.flags else 0) + length destination + (2 when bit 7 f.flags else 0) + length signature
length_options f destination signature =
    rw (← options_joined f destination signature, length-append, length-append, length-append, length_if (bit 6 f.flags) f.delay, length_if (bit 7 f.flags) f.max_size)

pub length_head : (f : Fields) (nacks : List ℕ) (options : ℕ) → length (joined (head_parts f nacks options)) ≡ 22 + 4 * length nacks
length_head f nacks options = simp (length-append, length_each) (omega arith)

-- the parts ls, each behind the last, and r behind them
abbrev pub behind : List (List ℕ) → List ℕ → List ℕ
behind [] r = r
behind (l ∷ ls) r = l ++ behind ls r

joined_behind : (ls : List (List ℕ)) (r : List ℕ) → joined ls ++ r ≡ behind ls r
joined_behind [] r = refl
joined_behind (l ∷ ls) r = append_assoc l (joined ls) r ∙ ap (λ (b : List ℕ). l ++ b) (joined_behind ls r)

abbrev pub options_length : Fields → List ℕ → List ℕ → ℕ
options_length f destination signature = length (joined (option_parts f destination signature))

module _ (f : Fields) (nacks destination signature payload : List ℕ) where
  pub packet_behind : packet_bytes f nacks destination signature payload ≡ behind (head_parts f nacks (options_length f destination signature)) (behind (option_parts f destination signature) payload)
  unfolding packet_bytes
  packet_behind =
      ap (λ (b : List ℕ). joined (head_parts f nacks (options_length f destination signature)) ++ b) (joined_behind (option_parts f destination signature) payload)
      ∙ joined_behind (head_parts f nacks (options_length f destination signature)) (behind (option_parts f destination signature) payload)

  pub length_packet : length (packet_bytes f nacks destination signature payload) ≡ 22 + 4 * length nacks + options_length f destination signature + length payload
  unfolding packet_bytes
  length_packet =
      rw (
        length-append (joined (head_parts f nacks (options_length f destination signature))) (joined (option_parts f destination signature) ++ payload),
        length_head f nacks (options_length f destination signature),
        length-append (joined (option_parts f destination signature)) payload,
      )
      (omega arith)
