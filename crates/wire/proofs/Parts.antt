-- A part written into the rest of a slice that starts where the last part ended. Assumes nothing.
use Prim.Native.Nat.{ℕ, ◌+◌, ◌-◌, ◌≤◌}
use mathlib.Core.Path.{◌≡◌, sym, ◌∙◌, subst}
use mathlib.Core.List.{List, ◌++◌, append_assoc, append-nil}
use native.Mathlib.Omega.{arith}
use borrow.Rule.Slice.PartMut.{put_mid}
use lib.ListN.{length, take, drop, length-append, length-take, length-drop, drop_of_length-le, take-append-drop}
use lib.Seq.{take_all, take_at, drop_at, drop-drop, length-take-le}
use Rattle.terms.specs.Lists.{◌at_front_of◌}

-- what a list holds when its rest, lent from an index on and written at the front, has come back
pub rest_back : (l bytes after : List ℕ) (from : ℕ) → after ≡ bytes at_front_of take (length l - from) (drop from l)
    → take from l ++ (after ++ drop (length l - from) (drop from l)) ≡ take from l ++ (bytes at_front_of drop from l)
rest_back l bytes after from e =
    let short : length (drop from l) ≤ length l - from = simp length-drop (omega arith) in
    rw (e, take_all (length l - from) (drop from l) short, drop_of_length-le (drop from l) short, append-nil)

-- out begins with what is written, w, and goes on as o did; b is written behind w
pub then_put : (w b o out last : List ℕ) (n : ℕ) → out ≡ w at_front_of o → length w ≡ n → n + length b ≤ length o
    → last ≡ b at_front_of (take (length out - n) (drop n out)) → put_mid n (length out - n) out last ≡ (w ++ b) at_front_of o
then_put w b o out last n e l h f =
    let front : take n out ≡ w = rw e (take_at w (drop (length w) o) n l) in
    let back : drop n out ≡ drop n o = rw (e, l) (drop_at w (drop n o) n l) in
    rest_back out b last n f ∙ rw (front, back, drop-drop, length-append, l) (sym (append_assoc w b (drop (n + length b) o)))

-- b is written behind the first n bytes of o
pub put_behind : (o b last : List ℕ) (n : ℕ) → n + length b ≤ length o → last ≡ b at_front_of (take (length o - n) (drop n o))
    → put_mid n (length o - n) o last ≡ (take n o ++ b) at_front_of o
put_behind o b last n h f =
    let l = length-take-le n o (omega arith) in
    then_put (take n o) b o o last n (rw l (sym (take-append-drop n o))) l h f

-- out is o with the n bytes w at its front
pub record Front (w o out : List ℕ) (n : ℕ) : Type 0 where
  pub begins : out ≡ w at_front_of o
  pub long : length w ≡ n
  pub fits : n ≤ length o

pub front_first : (w o out : List ℕ) (n : ℕ) → out ≡ w at_front_of o → length w ≡ n → n ≤ length o → Front w o out n
front_first w o out n e l h = record { begins = e; long = l; fits = h }

-- a list with a front keeps its length
pub front_length : {w o out : List ℕ} {n : ℕ} → Front w o out n → length out ≡ length o
front_length {w} {o} {out} {n} f = rw (f.begins, length-append, length-drop, f.long) (omega (arith, f.fits))

-- b is written behind the front
pub front_more : {w o out : List ℕ} {n : ℕ} → Front w o out n → (b : List ℕ) {last : List ℕ} → n + length b ≤ length o
    → last ≡ b at_front_of (take (length out - n) (drop n out)) → Front (w ++ b) o (put_mid n (length out - n) out last) (n + length b)
front_more {w} {o} {out} {n} f b {last} h e = record {
  begins = then_put w b o out last n f.begins f.long h e;
  long = rw (length-append, f.long);
  fits = h;
}

pub front_at : {w o out : List ℕ} {n : ℕ} (m : ℕ) → n ≡ m → Front w o out n → Front w o out m
front_at {w} {o} {out} m e f = subst (Front w o out) e f

pub front_inside : {w o out : List ℕ} {n : ℕ} → Front w o out n → n ≤ length out
front_inside f = omega (arith, f.fits, front_length f)

-- what still fits o fits the rest behind the front
pub front_room : {w o out : List ℕ} {n : ℕ} → Front w o out n → (k : ℕ) → n + k ≤ length o → k ≤ length (take (length out - n) (drop n out))
front_room f k h = simp (length-take, length-drop) (omega (arith, front_length f))
