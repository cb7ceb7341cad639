-- Read byte by byte, a file gives what it says as a whole. Assumes nothing.
use Prim.Native.Nat.{ℕ, zero, suc, ◌+◌, ◌*◌, ◌≤◌, ◌<◌}
use mathlib.Core.Path.{◌≡◌, refl, ap, sym, ◌∙◌}
use mathlib.Core.Bool.{Bool, true, false, not}
use mathlib.Core.List.{List, [], ◌∷◌, ◌++◌, append-nil}
use native.Mathlib.Omega.{arith}
use borrow.Author.Tests.{ltb-true, ltb-false, ne_eqb}
use lib.Dec.{eqb, ltb}
use lib.ListN.{length, take, drop, length-append, length-take, length-drop, take-append-drop}
use lib.Seq.{append_snoc}
use Rattle.std.proofs.lemmas.Grind.{common_steps}
use Rattle.terms.specs.Ladder.{◌when◌else◌}
use Rattle.portions.specs.Fold.{Left, quiet, read_all}
use Rattle.replay_format.specs.Night.{Record, Night, ends_with, ◌then_night◌, front_of16, has_place, size_fits, data_fits, records_in, night_of}
use Rattle.replay_format.specs.Bytes.{Known, in_head, before_record, at_length, in_data, ended, read_night_byte, end_says, night_by_bytes}

-- what a reader's outcome says as a night
abbrev night_in : Left Known Record → Night
night_in left = record { records = left.gave; ends = end_says left.state }

abbrev from : Known → List ℕ → Night
from reader bytes = night_in (read_all read_night_byte reader bytes)

-- a reader that has ended stays so
pub stays : (why : ℕ) (bytes : List ℕ) → read_all read_night_byte (ended why) bytes ≡ quiet (ended why)
stays why [] = refl
stays why (b ∷ rest) = rw (stays why rest)

module _ (kind size : ℕ) where
  -- data that the file's end cuts
  cut : (there bytes : List ℕ) → length there + length bytes < size → read_all read_night_byte (in_data kind size there) bytes ≡ quiet (in_data kind size (there ++ bytes))
  cut there [] h = rw (append-nil there)
  cut there (b ∷ bytes) h =
      let l = length-append there (b ∷ []) in
      rw (ne_eqb (suc (length there)) size (λ q. omega arith), cut (there ++ (b ∷ [])) bytes (omega arith), append_snoc there b bytes)

  -- data that is there, and what comes behind it
  full : (there : List ℕ) (b : ℕ) (bytes rest : List ℕ) → length there + suc (length bytes) ≡ size
      → from (in_data kind size there) (b ∷ bytes ++ rest)
      ≡ (ends_with 29 when not (data_fits kind (there ++ b ∷ bytes)) else (record { kind = kind; bytes = there ++ b ∷ bytes } then_night from (before_record false) rest))
  full there b [] rest h = grind (arith, common_steps, stays)
  full there b (c ∷ bytes) rest h =
      let l = length-append there (b ∷ []) in
      rw (ne_eqb (suc (length there)) size (λ q. omega arith)) (full (there ++ (b ∷ [])) c bytes rest (omega arith) ∙ rw (append_snoc there b (c ∷ bytes)))

  -- some data, whether the file has all of it or not
  data_read : (bytes : List ℕ) → 0 < size
      → from (in_data kind size []) bytes
      ≡ (ends_with 29 when ltb (length bytes) size else
      ends_with 29 when not (data_fits kind (take size bytes)) else
      (record { kind = kind; bytes = take size bytes } then_night from (before_record false) (drop size bytes)))
  data_read bytes some = go (ltb (length bytes) size) refl (take size bytes) refl
    where
      go : (t : Bool) → ltb (length bytes) size ≡ t → (front : List ℕ) → take size bytes ≡ front
          → from (in_data kind size []) bytes
          ≡ (ends_with 29 when t else ends_with 29 when not (data_fits kind front) else (record { kind = kind; bytes = front } then_night from (before_record false) (drop size bytes)))
      go true e front f = rw (cut [] bytes (omega (arith, ltb-true (length bytes) size e)))
      go false e [] f = absurd (omega (arith, ltb-false (length bytes) size e, length-take size bytes, ap (λ (l : List ℕ). length l) f))
      go false e (b ∷ more) f =
          let parted : bytes ≡ b ∷ more ++ drop size bytes = sym (take-append-drop size bytes) ∙ ap (λ (l : List ℕ). l ++ drop size bytes) f in
          ap (from (in_data kind size [])) parted
          ∙ full [] b more (drop size bytes) (omega (arith, ltb-false (length bytes) size e, length-take size bytes, ap (λ (l : List ℕ). length l) f))

-- data of another size than its kind asks is refused, and so is data that is cut
unfit : (kind size : ℕ) (bytes : List ℕ) (rest : Night) → size_fits kind size ≡ false
    → ends_with 29 ≡ (ends_with 29 when ltb (length bytes) size else ends_with 29 when not (data_fits kind (take size bytes)) else rest)
unfit kind size bytes rest e = let l = length-take size bytes in grind (arith, common_steps)

-- One record, where what comes behind it is read as it should be.
module _ (kind fewer : ℕ) (again : (bytes : List ℕ) → length bytes < fewer → from (before_record false) bytes ≡ records_in fewer false bytes) where
  -- what a record of so many bytes, and all behind it, says
  abbrev said_by : ℕ → List ℕ → Night
  said_by size bytes =
      ends_with 29 when ltb (length bytes) size else
      ends_with 29 when not (data_fits kind (take size bytes)) else
      (record { kind = kind; bytes = take size bytes } then_night records_in fewer false (drop size bytes))

  behind_kind : (rest : List ℕ) → length rest < fewer
      → from (at_length kind) rest ≡ (ends_with 29 when ltb (length rest) 2 else said_by (front_of16 rest) (drop 2 rest))
  behind_kind [] l = refl
  behind_kind (high ∷ []) l = refl
  behind_kind (high ∷ low ∷ bytes) l =
      let size = high * 256 + low in
      let u = unfit kind size bytes in
      let d = data_read kind size bytes in
      let a = again bytes (omega arith) in
      let b = again (drop size bytes) (omega (arith, length-drop size bytes)) in
      grind (arith, common_steps, stays)

  placed : (t : Bool) (rest : List ℕ) → length rest < fewer
      → from (at_length kind when t else ended 28) rest
      ≡ (ends_with 28 when not t else ends_with 29 when ltb (length rest) 2 else said_by (front_of16 rest) (drop 2 rest))
  placed true rest l = behind_kind rest l
  placed false rest l = rw (stays 28 rest)

-- records, one behind the other
records_read : (fewer : ℕ) (is_first : Bool) (bytes : List ℕ) → length bytes < fewer → from (before_record is_first) bytes ≡ records_in fewer is_first bytes
records_read zero is_first bytes h = absurd (omega arith)
records_read (suc fewer) is_first [] h = refl
records_read (suc fewer) is_first (kind ∷ rest) h = placed kind fewer (λ bytes l. records_read fewer false bytes l) (has_place is_first kind) rest (omega arith)

-- the version, and then the records
version_read : (most : ℕ) (rest : List ℕ) → length rest ≤ most
    → from (in_head 3) rest
    ≡ (ends_with 27 when ltb (suc (suc (suc (length rest)))) 5 else ends_with 27 when not (eqb (front_of16 rest) 1) else records_in most true (drop 2 rest))
version_read most [] l = refl
version_read most (d ∷ []) l = grind (arith, common_steps)
version_read most (d ∷ e ∷ rest) l = let r = records_read most true rest (omega arith) in grind (arith, common_steps, stays)

-- the whole file
pub night_read : (file : List ℕ) → night_by_bytes file ≡ night_of file
unfolding night_of
night_read [] = refl
night_read (a ∷ []) = grind (arith, common_steps)
night_read (a ∷ b ∷ []) = grind (arith, common_steps)
night_read (a ∷ b ∷ c ∷ rest) = let v = version_read (suc (suc (suc (length rest)))) rest (omega arith) in grind (arith, common_steps, stays)
