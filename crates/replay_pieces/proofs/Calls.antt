-- The law of one call: what the bytes of its portion say is what it answers, and then what the reader finds in the bytes that it did not use. Assumes nothing.
use Prim.Native.Nat.{ℕ, ◌≤◌}
use mathlib.Core.Path.{◌≡◌, refl, ap, sym, ◌∙◌}
use mathlib.Core.Bool.{true}
use mathlib.Core.List.{List, [], ◌∷◌, ◌++◌}
use native.Mathlib.Omega.{arith}
use borrow.Author.Tests.{le-ltb}
use lib.ListN.{length, drop}
use lib.Seq.{take-append_seam}
use Rattle.std.proofs.lemmas.Grind.{common_steps}
use Rattle.terms.specs.Lists.{all, ◌at_front_of◌}
use Rattle.terms.specs.Answers.{refusal, values}
use Rattle.wire.specs.BigEndian.{is_byte}
use Rattle.portions.specs.Fold.{Left, quiet, behind, read_all}
use Rattle.portions.specs.Stops.{until_given}
use Rattle.portions.proofs.Folds.{in_two}
use Rattle.portions.proofs.Stops as P
use Rattle.replay_format.specs.Night.{Record, Night, ends_with}
use Rattle.replay_format.specs.Bytes.{Known, ended, read_night_byte, end_says}
use Rattle.replay_format.proofs.Whole.{stays}
use Rattle.replay_reader.specs.Rules.{known_of, numbers_of, data_there, reader_rules}
use Rattle.replay_reader.specs.ReadOn.{Onwards, onward_by, read_on_of}
use Rattle.replay_reader.specs.declared.NightReader.{NightReader}
use Rattle.replay_pieces.specs.Offers.{record_met}
use Rattle.replay_pieces.proofs.Kept.{good, Kept, until, one_at_most}

-- what is read, as a night
abbrev pub night_left : Left Known Record → Night
night_left left = record { records = left.gave; ends = end_says left.state }

-- a call that is not refused
pub record Goes (r : NightReader) (portion buffer : List ℕ) (call : Onwards) : Type 0 where
  pub is : read_all read_night_byte (known_of r buffer) portion
      ≡ behind (record_met call.says call.buffer) (read_all read_night_byte (known_of call.reader call.buffer) (drop call.used portion))
  pub in_portion : call.used ≤ length portion
  pub rules : reader_rules call.reader ≡ true
  pub sized : length call.buffer ≡ length buffer

pub record CallLaw (r : NightReader) (portion buffer : List ℕ) (call : Onwards) : Type 0 where
  pub refused : (number : ℕ) → call.says ≡ refusal number → (rest : List ℕ) → night_left (read_all read_night_byte (known_of r buffer) (portion ++ rest)) ≡ ends_with number
  pub goes : (given : List ℕ) → call.says ≡ values given → Goes r portion buffer call

module _ (r : NightReader) (portion buffer : List ℕ) (roomy : 65538 ≤ length buffer) where
  onward_law : (gave : List Record) (used : ℕ) (state : Known) → P.Does read_night_byte one_at_most (known_of r buffer) portion gave used state
      → Kept (record { state = state; gave = gave }) → CallLaw r portion buffer (onward_by r buffer (record { gave = gave; used = used; state = state }))
  unfolding onward_by reader_rules
  onward_law (x ∷ y) used state d u =
      let g = u.given x y refl in
      rw (g.0)
      (record {
        refused = λ number e rest. cc;
        goes = λ given e. record {
          is = d.is ∙ rw (g.0, g.1, take-append_seam x.bytes (drop (length x.bytes) buffer));
          in_portion = d.in_portion;
          rules = refl;
          sized = let l = g.2 in grind (arith, common_steps);
        };
      })
  onward_law [] used (ended why) d u =
      record {
        refused = λ number e rest.
            let so : read_all read_night_byte (known_of r buffer) portion ≡ quiet (ended why) = d.is ∙ stays why (drop used portion) in
            let n : why ≡ number = cc in
            rw (in_two read_night_byte (known_of r buffer) portion rest, so, stays why rest, n);
        goes = λ given e. cc;
      }
  onward_law [] used state d u =
      let back : known_of (numbers_of state) (data_there state at_front_of buffer) ≡ state = grind (arith, common_steps) in
      let fits : length (data_there state) ≤ 65535 = grind (arith, common_steps) in
      record {
        refused = λ number e rest. cc;
        goes = λ given e. record {
          is = d.is ∙ ap (λ (k : Known). read_all read_night_byte k (drop used portion)) (sym back);
          in_portion = d.in_portion;
          rules = u.keeps;
          sized = grind (arith, common_steps);
        };
      }

  pub call_law : reader_rules r ≡ true → all is_byte portion ≡ true → CallLaw r portion buffer (read_on_of r portion buffer)
  unfolding read_on_of reader_rules
  call_law h w =
      let k : good (known_of r buffer) ≡ true = grind (arith, common_steps) in
      let reading = until_given read_night_byte (known_of r buffer) portion in
      rw (h, le-ltb (length buffer) 65538 roomy)
      (onward_law reading.gave reading.used reading.state (P.does read_night_byte one_at_most (known_of r buffer) portion) (until (known_of r buffer) portion k w))
