-- Calls one after another: a host that offers again what was not used is given what the file says. Assumes nothing.
use Prim.Native.Nat.{ℕ, ◌≤◌}
use mathlib.Core.Path.{◌≡◌, refl, ap, sym, ◌∙◌}
use mathlib.Core.Bool.{true}
use mathlib.Core.List.{List, [], ◌∷◌, ◌++◌, append-nil}
use mathlib.Core.Logic.{⊎_elim}
use native.Mathlib.Omega.{arith}
use lib.ListN.{length, take, drop, take-append-drop}
use Rattle.std.proofs.lemmas.Grind.{common_steps}
use Rattle.terms.specs.Ladder.{◌when◌else◌}
use Rattle.terms.specs.Lists.{all}
use Rattle.terms.specs.Answers.{Said, refusal, values, ◌unless_refused◌else◌}
use Rattle.wire.specs.BigEndian.{is_byte}
use Rattle.wire.proofs.RoundTrip.{all_take, all_drop}
use Rattle.portions.specs.Fold.{behind, read_all}
use Rattle.portions.proofs.Folds.{behind_behind}
use Rattle.portions.proofs.Stops.{in_line}
use Rattle.replay_format.specs.Night.{Record, Night, night_of}
use Rattle.replay_format.specs.Bytes.{read_night_byte, end_says}
use Rattle.replay_format.proofs.Whole.{night_read}
use Rattle.replay_reader.specs.Rules.{known_of, reader_rules, night_start}
use Rattle.replay_reader.specs.ReadOn.{Onwards, read_on_of}
use Rattle.replay_reader.specs.Finish.{finish_of}
use Rattle.replay_reader.specs.declared.NightReader.{NightReader}
use Rattle.replay_pieces.specs.Offers.{PiecesRead, record_met, pieces_read, pieces_of, night_pieced}
use Rattle.replay_pieces.specs.Promises.{HoweverPieced}
use Rattle.replay_pieces.proofs.Kept.{one_at_most}
use Rattle.replay_pieces.proofs.Calls.{night_left, Goes, CallLaw, call_law}

record RunLaw (r : NightReader) (buffer file : List ℕ) (p : PiecesRead) : Type 0 where
  refused : (number : ℕ) → p.refused ≡ refusal number → night_left (read_all read_night_byte (known_of r buffer) file) ≡ record { records = p.records; ends = refusal number }
  goes : (given : List ℕ) → p.refused ≡ values given
      → (read_all read_night_byte (known_of r buffer) file ≡ behind p.records (read_all read_night_byte (known_of p.reader p.buffer) p.unused)) × (reader_rules p.reader ≡ true)

run : (r : NightReader) (buffer file sizes : List ℕ) → reader_rules r ≡ true → 65538 ≤ length buffer → all is_byte file ≡ true → RunLaw r buffer file (pieces_read r buffer file sizes)
run r buffer file [] h roomy w =
    record { refused = λ number e. cc; goes = λ given e. (refl, h) }
run r buffer file (size ∷ sizes) h roomy w =
    go call.says refl (λ g. run call.reader call.buffer (drop call.used file) sizes g.rules (omega (arith, g.sized)) (all_drop is_byte call.used file w))
  where
    call : Onwards
    call = read_on_of r (take size file) buffer

    then : PiecesRead
    then = pieces_read call.reader call.buffer (drop call.used file) sizes

    met : List Record
    met = record_met call.says call.buffer

    law : CallLaw r (take size file) buffer call
    law = call_law r (take size file) buffer roomy h (all_take is_byte size file w)

    go : (s : Said) → call.says ≡ s → (Goes r (take size file) buffer call → RunLaw call.reader call.buffer (drop call.used file) then)
        → RunLaw r buffer file
        (record { records = met ++ then.records; refused = then.refused; reader = then.reader; buffer = then.buffer; unused = then.unused } unless_refused s else
        record { records = []; refused = call.says; reader = r; buffer = buffer; unused = file })
    go (refusal number) e again =
        record { refused = λ n q. (rw (take-append-drop size file) at (law.refused n q (drop size file))); goes = λ given q. cc }
    go (values given) e again =
        let g = law.goes given e in
        let a = again g in
        let whole : read_all read_night_byte (known_of r buffer) file ≡ behind met (read_all read_night_byte (known_of call.reader call.buffer) (drop call.used file)) =
        rw (take-append-drop size file) at
        (in_line read_night_byte one_at_most (known_of r buffer) (take size file) (drop size file) met call.used (known_of call.reader call.buffer) g.is g.in_portion) in
        record {
          refused = λ n q.
              ap night_left whole ∙ ap (λ (night : Night). record { records = met ++ night.records; ends = night.ends }) (a.refused n q);
          goes = λ given' q.
              let l = a.goes given' q in
              (whole ∙ ap (behind met) l.0 ∙ behind_behind met then.records (read_all read_night_byte (known_of then.reader then.buffer) then.unused), l.1);
        }

-- what the end of the file says does not depend on the data that is there
ends_so : (r : NightReader) (buffer : List ℕ) → reader_rules r ≡ true → end_says (known_of r buffer) ≡ finish_of r
unfolding finish_of
ends_so r buffer h = rw h (grind (arith, common_steps))

start_keeps : reader_rules night_start ≡ true
unfolding reader_rules
start_keeps = refl

pub however_pieced : HoweverPieced
however_pieced buffer file sizes roomy w done = ⊎_elim used (λ e. refused e.0 e.1) done
  where
    law : RunLaw night_start buffer file (pieces_read night_start buffer file sizes)
    law = run night_start buffer file sizes start_keeps roomy w

    refused : (number : ℕ) → (pieces_read night_start buffer file sizes).refused ≡ refusal number → night_pieced (pieces_of buffer file sizes) ≡ night_of file
    refused number e = rw e (sym (law.refused number e) ∙ night_read file)

    used : (pieces_read night_start buffer file sizes).unused ≡ [] → night_pieced (pieces_of buffer file sizes) ≡ night_of file
    used none = go (pieces_read night_start buffer file sizes).refused refl
      where
        go : (s : Said) → (pieces_read night_start buffer file sizes).refused ≡ s → night_pieced (pieces_of buffer file sizes) ≡ night_of file
        go (refusal number) e = refused number e
        go (values given) e =
            let p = pieces_read night_start buffer file sizes in
            let l = law.goes given e in
            let left : night_left (read_all read_night_byte (known_of night_start buffer) file) ≡ record { records = p.records ++ []; ends = end_says (known_of p.reader p.buffer) } =
            ap night_left l.0 ∙ ap (λ (rest : List ℕ). night_left (behind p.records (read_all read_night_byte (known_of p.reader p.buffer) rest))) none in
            rw e ((λ k. record { records = sym (append-nil p.records) k; ends = sym (ends_so p.reader p.buffer l.1) k }) ∙ sym left ∙ night_read file)
