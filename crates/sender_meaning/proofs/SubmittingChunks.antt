-- The bytes in chunks: as many as submit says, none empty, none longer than the chunk size, and joined they are the bytes.
-- Assumes nothing.
use Prim.Native.Nat.{ℕ, zero, suc, ◌+◌, ◌-◌, ◌*◌, ◌≤◌, ◌<◌}
use mathlib.Core.Path.{◌≡◌, sym, ◌∙◌}
use mathlib.Core.List.{List}
use native.Mathlib.Nat.{zero-mul, suc-mul, le-div_iff_mul-le, lt-div-mul-add}
use native.Mathlib.Omega.{arith}
use lib.ListN.{length, take, drop, length-take, length-drop}
use lib.Seq.{take_all, take-add, drop-drop}
use Rattle.terms.specs.Lists.{joined}
use Rattle.sender_submit_answer.specs.Answer.{chunks_of}
use Rattle.sender_meaning.specs.Steps.{chunk_at, chunks_from}

-- so many chunks in a row are so many bytes
pub row_joined : (chunk k count : ℕ) (bytes : List ℕ) → joined (chunks_from chunk k count bytes) ≡ take (count * chunk) (drop (k * chunk) bytes)
row_joined chunk k zero bytes = rw zero-mul
row_joined chunk k (suc count) bytes =
    let e : suc count * chunk ≡ chunk + count * chunk = omega (arith, suc-mul count chunk) in
    let f : k * chunk + chunk ≡ suc k * chunk = sym (suc-mul k chunk) in
    rw (row_joined chunk (suc k) count bytes, e, take-add chunk (count * chunk) (drop (k * chunk) bytes), drop-drop chunk (k * chunk) bytes, f)

-- one chunk in front, and the rest of the row
pub chunk_later : (chunk k : ℕ) (bytes : List ℕ) → chunk_at chunk k (drop chunk bytes) ≡ chunk_at chunk (suc k) bytes
chunk_later chunk k bytes =
    let e : chunk + k * chunk ≡ suc k * chunk = omega (arith, suc-mul k chunk) in
    rw (drop-drop (k * chunk) chunk bytes, e)

module _ (chunk : ℕ) (some : 1 ≤ chunk) where
  -- the bytes end within the last chunk
  pub row_enough : (size : ℕ) → size ≤ chunks_of chunk size * chunk
  row_enough size = omega (arith, lt-div-mul-add {a = size + (chunk - 1)} some)

  pub row_begun : (size k : ℕ) → k < chunks_of chunk size → k * chunk < size
  row_begun size k h =
      let m = (le-div_iff_mul-le {x = suc k} {y = size + (chunk - 1)} some).0 h in
      omega (arith, m, suc-mul k chunk)

  -- The chunks joined are the bytes, ..
  pub chunks_are_bytes : (bytes : List ℕ) → joined (chunks_from chunk 0 (chunks_of chunk (length bytes)) bytes) ≡ bytes
  chunks_are_bytes bytes =
      row_joined chunk 0 (chunks_of chunk (length bytes)) bytes
      ∙ rw zero-mul (take_all (chunks_of chunk (length bytes) * chunk) bytes (row_enough (length bytes)))

  -- .. none is empty, ..
  pub chunk_some : (bytes : List ℕ) (k : ℕ) → k < chunks_of chunk (length bytes) → 1 ≤ length (chunk_at chunk k bytes)
  chunk_some bytes k h = simp (length-take, length-drop) (omega (arith, row_begun (length bytes) k h))

-- .. and none is longer than the chunk size.
pub chunk_most : (chunk k : ℕ) (bytes : List ℕ) → length (chunk_at chunk k bytes) ≤ chunk
chunk_most chunk k bytes = simp length-take (omega arith)
