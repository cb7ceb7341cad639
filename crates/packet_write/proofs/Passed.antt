-- What holds where a packet is written: it passed every rung. Assumes nothing.
use Prim.Native.Nat.{ℕ}
use mathlib.Core.Path.{◌≡◌}
use mathlib.Core.Bool.{false, ◌&&◌, not}
use mathlib.Core.List.{List}
use borrow.Author.Tests.{ltb-false}
use lib.Dec.{ltb, eqb}
use lib.ListN.{length}
use Rattle.terms.specs.Answers.{values}
use Rattle.terms.specs.Ladder.{◌when◌else◌}
use Rattle.terms.proofs.Laws.{past, both_false}
use Rattle.packet_read.specs.Flags.{bit}
use Rattle.packet_read.specs.Destination.{signs_of, is_destination}
use Rattle.packet_write.specs.Writing.{parts_unfit, signed_at, packet_length, write_of, Fitting}
use Rattle.packet_write.specs.declared.Fields.{Fields}
use Rattle.packet_write.specs.declared.Written.{Written}

-- the writer answered w
pub record Passed (f : Fields) (nacks destination signature payload : List ℕ) (room : ℕ) (w : Written) : Type 0 where
  pub fitting : Fitting f nacks destination signature payload room
  pub online : bit 11 f.flags ≡ false
  pub fit : parts_unfit f destination signature ≡ false
  pub form : (bit 5 f.flags && not (is_destination destination)) ≡ false
  pub signed : (bit 3 f.flags && (bit 5 f.flags && not (eqb (length signature) (signs_of destination)))) ≡ false
  pub is : w ≡ record { length = packet_length f nacks destination signature payload; signature_at = signed_at f nacks destination when bit 3 f.flags else 0 }

pub passed : (f : Fields) (nacks destination signature payload : List ℕ) (room : ℕ) (w : Written)
    → write_of f nacks destination signature payload room ≡ values w → Passed f nacks destination signature payload room w
unfolding write_of
passed f nacks destination signature payload room w h =
    let n = packet_length f nacks destination signature payload in
    let a = past 8 (ltb 255 (length nacks)) _ w h in
    let b = past 5 (bit 11 f.flags && not (bit 5 f.flags)) _ w a.1 in
    let c = past 6 (bit 11 f.flags && bit 5 f.flags) _ w b.1 in
    let d = past 9 (parts_unfit f destination signature) _ w c.1 in
    let g = past 4 (bit 5 f.flags && not (is_destination destination)) _ w d.1 in
    let i = past 9 (bit 3 f.flags && (bit 5 f.flags && not (eqb (length signature) (signs_of destination)))) _ w g.1 in
    let j = past 2 (ltb 65535 n) _ w i.1 in
    let k = past 7 (ltb room n) _ w j.1 in
    record {
      fitting = record { few = ltb-false 255 (length nacks) a.0; short = ltb-false 65535 n j.0; roomy = ltb-false room n k.0 };
      online = both_false (bit 11 f.flags) (bit 5 f.flags) b.0 c.0;
      fit = d.0;
      form = g.0;
      signed = i.0;
      is = let e = k.1 in cc;
    }

-- so it may be written
pub fitting : (f : Fields) (nacks destination signature payload : List ℕ) (room : ℕ) (w : Written)
    → write_of f nacks destination signature payload room ≡ values w → Fitting f nacks destination signature payload room
fitting f nacks destination signature payload room w h = (passed f nacks destination signature payload room w h).fitting
