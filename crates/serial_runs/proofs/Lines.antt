-- Lines of frames: a frame gives its packet, and a reader that has stopped stays so. Assumes nothing.
use Prim.Native.Nat.{ℕ, suc, ◌+◌, ◌*◌, ◌/◌, ◌%◌, ◌≤◌}
use mathlib.Core.Path.{◌≡◌, refl, ap, ◌∙◌}
use mathlib.Core.Bool.{true, false}
use mathlib.Core.List.{List, [], ◌∷◌, ◌++◌, append_assoc}
use native.Mathlib.Omega.{arith}
use borrow.Author.Tests.{eq-eqb, ne_eqb}
use lib.ListN.{length, length-append}
use lib.Seq.{append_snoc}
use Rattle.std.proofs.lemmas.Grind.{common_steps}
use Rattle.terms.proofs.Laws.{and_left, and_right}
use Rattle.portions.specs.Fold.{quiet, behind, read_all}
use Rattle.serial_state.specs.Frames.{idle, within, stopped, is_unfit, read_byte, framed, line_of, fits_line, all_fit_line}

module _ (room : ℕ) where
  pub stays : (bytes : List ℕ) → read_all (read_byte room) stopped bytes ≡ quiet stopped
  stays [] = refl
  stays (b ∷ rest) = rw (stays rest)

  -- the last bytes of a packet, and what comes behind it
  finishes : (size : ℕ) (there : List ℕ) (b : ℕ) (bytes rest : List ℕ) → length there + suc (length bytes) ≡ size
      → read_all (read_byte room) (within size there) (b ∷ bytes ++ rest) ≡ behind ((there ++ b ∷ bytes) ∷ []) (read_all (read_byte room) idle rest)
  finishes size there b [] rest e = rw (eq-eqb (suc (length there)) size (omega arith))
  finishes size there b (c ∷ bytes) rest e =
      let l = length-append there (b ∷ []) in
      rw (ne_eqb (suc (length there)) size (λ q. omega arith), finishes size (there ++ (b ∷ [])) c bytes rest (omega arith))
      (ap (λ (p : List ℕ). behind (p ∷ []) (read_all (read_byte room) idle rest)) (append_snoc there b (c ∷ bytes)))

  -- a packet behind its length
  one_frame : (packet rest : List ℕ) → fits_line room packet ≡ true
      → read_all (read_byte room) idle (framed packet ++ rest) ≡ behind (packet ∷ []) (read_all (read_byte room) idle rest)
  one_frame packet rest h =
      let low : 22 ≤ length packet = grind (arith, common_steps) in
      let fits : is_unfit room (length packet) ≡ false = grind (arith, common_steps) in
      let back : length packet / 256 * 256 + length packet % 256 ≡ length packet = omega arith in
      rw (back, fits) (go packet low)
    where
      go : (p : List ℕ) → 22 ≤ length p → read_all (read_byte room) (within (length p) []) (p ++ rest) ≡ behind (p ∷ []) (read_all (read_byte room) idle rest)
      go [] l = absurd (omega arith)
      go (b ∷ bytes) l = finishes (suc (length bytes)) [] b bytes rest (omega arith)

  -- a line of them
  pub a_line : (packets : List (List ℕ)) (rest : List ℕ) → all_fit_line room packets ≡ true
      → read_all (read_byte room) idle (line_of packets ++ rest) ≡ behind packets (read_all (read_byte room) idle rest)
  a_line [] rest h = refl
  a_line (packet ∷ packets) rest h =
      ap (read_all (read_byte room) idle) (append_assoc (framed packet) (line_of packets) rest)
      ∙ one_frame packet (line_of packets ++ rest) (and_left (fits_line room packet) (all_fit_line room packets) h)
      ∙ ap (behind (packet ∷ [])) (a_line packets rest (and_right (fits_line room packet) (all_fit_line room packets) h))
