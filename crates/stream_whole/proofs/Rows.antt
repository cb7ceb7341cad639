-- Lists in a row, by numbers. Assumes nothing.
use Prim.Native.Nat.{ℕ, zero, suc, ◌+◌, ◌≤◌, ◌<◌}
use mathlib.Core.Path.{◌≡◌, refl}
use mathlib.Core.List.{List, [], ◌∷◌, ◌++◌, append_assoc}
use mathlib.Core.Option.{some}
use native.Mathlib.Omega.{arith}
use lib.ListN.{length, get_elem?}
use Rattle.terms.specs.Lists.{joined}
use Rattle.sender_meaning.specs.Steps.{chunk_at, chunks_from}
use Rattle.receiver_runs.specs.History.{Piece}
use Rattle.stream_whole.specs.Whole.{pieces_joined}

-- what so many numbers have, from one of them on, joined
abbrev pub row : (ℕ → List ℕ) → ℕ → ℕ → List ℕ
row f from zero = []
row f from (suc left) = f from ++ row f (suc from) left

pub row_same : (f g : ℕ → List ℕ) (from left : ℕ) → ((n : ℕ) → from ≤ n → n < from + left → f n ≡ g n) → row f from left ≡ row g from left
row_same f g from zero e = refl
row_same f g from (suc left) e =
    rw (e from (omega arith) (omega arith), row_same f g (suc from) left (λ n a b. e n (omega arith) (omega arith)))

-- a row in two
pub row_split : (f : ℕ → List ℕ) (from a b c : ℕ) → c ≡ a + b → row f from c ≡ row f from a ++ row f (from + a) b
row_split f from zero b c e =
    let same : c ≡ b = omega arith in
    let at : from + 0 ≡ from = omega arith in
    rw (same, at)
row_split f from (suc a) b c e =
    let more : c ≡ suc (a + b) = omega arith in
    let at : from + suc a ≡ suc from + a = omega arith in
    rw (more, at, row_split f (suc from) a b (a + b) refl, append_assoc (f from) (row f (suc from) a) (row f (suc from + a) b))

-- a row of chunks
pub row_chunks : (f : ℕ → List ℕ) (chunk from k left : ℕ) (bytes : List ℕ) → ((i : ℕ) → i < left → f (from + i) ≡ chunk_at chunk (k + i) bytes)
    → row f from left ≡ joined (chunks_from chunk k left bytes)
row_chunks f chunk from k zero bytes e = refl
row_chunks f chunk from k (suc left) bytes e =
    let at : from + 0 ≡ from = omega arith in
    let place : k + 0 ≡ k = omega arith in
    let here : f from ≡ chunk_at chunk k bytes = rw (at, place) at (e 0 (omega arith)) in
    let rest = row_chunks f chunk (suc from) (suc k) left bytes
    (λ i h.
    let s : from + suc i ≡ suc from + i = omega arith in
    let t : k + suc i ≡ suc k + i = omega arith in
    rw (s, t) at (e (suc i) (omega arith))) in
    rw (here, rest)

-- pieces in a row
pub row_pieces : (f : ℕ → List ℕ) (from : ℕ) (l : List Piece) → ((k : ℕ) (piece : Piece) → get_elem? l k ≡ some piece → f (from + k) ≡ piece.bytes)
    → pieces_joined l ≡ row f from (length l)
row_pieces f from [] e = refl
row_pieces f from (piece ∷ l) e =
    let at : from + 0 ≡ from = omega arith in
    let here : f from ≡ piece.bytes = rw at at (e 0 piece refl) in
    let rest = row_pieces f (suc from) l (λ k p h. let s : from + suc k ≡ suc from + k = omega arith in rw s at (e (suc k) p h)) in
    rw (here, rest)

-- a place within a list has a piece
pub there : {A : Type 0} (l : List A) (k : ℕ) → k < length l → (x : A) × (get_elem? l k ≡ some x)
there [] k h = absurd (omega arith)
there (x ∷ l) zero h = (x, refl)
there (x ∷ l) (suc k) h = there l k (omega arith)
