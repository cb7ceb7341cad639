-- What is known at each point of a run: the standing of every number follows from what was accepted and taken so far. It holds at the start,
-- where nothing is accepted; an accepted packet's number had no packet before, so its payload is the first of its number; and a take takes the
-- next number, whose bytes are then those of its first packet. Told by the receiver's laws alone. Assumes nothing.
use Prim.Native.Nat.{ℕ, ◌+◌, ◌≤◌, ◌<◌, max}
use mathlib.Core.Path.{◌≡◌, refl, sym, ◌∙◌, ap}
use mathlib.Core.Bool.{◌&&◌}
use mathlib.Core.List.{List, [], ◌∷◌, ◌++◌}
use mathlib.Core.Logic.{◌⊎◌, inr, ⊎_elim}
use mathlib.Core.Option.{Option, none, some}
use native.Mathlib.Decide.{ℕ_discrete, dec_le, dec_lt}
use native.Mathlib.Omega.{arith}
use borrow.Author.Tests.{lt-ltb, le-ltb, le-leb, lt-leb, eq-eqb, ne_eqb}
use lib.Dec.{leb, ltb, eqb}
use lib.ListN.{length, get_elem?, length-append}
use Rattle.terms.specs.Ladder.{◌when◌else◌}
use Rattle.terms.proofs.Laws.{case}
use Rattle.receiver_calls.specs.Meaning.{Standing, taken, held, missing, unseen, standing, Sound}
use Rattle.terms.specs.declared.SeqNo.{SeqNo}
use Rattle.receiver_state.specs.declared.Receiver.{Receiver}
use Rattle.receiver_calls.proofs.Laws.{above_unseen}
use Rattle.receiver_runs.specs.History.{Piece, first_of, highest_of}
use Rattle.receiver_runs.proofs.Pieces.{by_first, first_stays, first_other, first_own, highest_more, at_place}

abbrev held_or : Option (List ℕ) → Standing → Standing
held_or (some bytes) other = held bytes
held_or none other = other

-- the standing of a number, from the next to take, the highest accepted and the number's first accepted packet
abbrev pub told : ℕ → ℕ → Option (List ℕ) → ℕ → Standing
told next highest first n =
    taken when ltb n next else
    held_or first (missing when leb n highest else unseen)

module _ (next highest n : ℕ) (first : Option (List ℕ)) where
  -- what is held has that first packet
  pub told_held : (bytes : List ℕ) → told next highest first n ≡ held bytes → (next ≤ n) × (first ≡ some bytes)
  told_held bytes e =
      case
      (λ (a : n < next). let e' = rw (lt-ltb n next a) at e in let z : ◌≡◌ {A = ℕ} 0 1 = cc in absurd (omega arith))
      (λ (a : n < next → ⊥).
      let e' = rw (le-ltb n next (omega arith)) at e in
      by_first first
      (λ q. case
      (λ (b : n ≤ highest). let e'' = rw (q, le-leb n highest b) at e' in let z : ◌≡◌ {A = ℕ} 0 1 = cc in absurd (omega arith))
      (λ (b : n ≤ highest → ⊥). let e'' = rw (q, lt-leb n highest (omega arith)) at e' in let z : ◌≡◌ {A = ℕ} 0 1 = cc in absurd (omega arith))
      (dec_le n highest))
      (λ x q. let e'' = rw q at e' in let same : x ≡ bytes = cc in (omega arith, cc)))
      (dec_lt n next)

  -- what is missing or unseen has none
  pub told_open : (told next highest first n ≡ missing) ⊎ (told next highest first n ≡ unseen) → (next ≤ n) × (first ≡ none)
  told_open e =
      case
      (λ (a : n < next).
      ⊎_elim
      (λ d. let e' = rw (lt-ltb n next a) at d in let z : ◌≡◌ {A = ℕ} 0 1 = cc in absurd (omega arith))
      (λ d. let e' = rw (lt-ltb n next a) at d in let z : ◌≡◌ {A = ℕ} 0 1 = cc in absurd (omega arith)) e)
      (λ (a : n < next → ⊥).
      by_first first
      (λ q. (omega arith, q))
      (λ x q.
      ⊎_elim
      (λ d. let e' = rw (le-ltb n next (omega arith), q) at d in let z : ◌≡◌ {A = ℕ} 0 1 = cc in absurd (omega arith))
      (λ d. let e' = rw (le-ltb n next (omega arith), q) at d in let z : ◌≡◌ {A = ℕ} 0 1 = cc in absurd (omega arith)) e))
      (dec_lt n next)

-- what is known, with what was accepted and what was taken so far
pub record Known (s slot : ℕ) (r : Receiver) (store : List ℕ) (accepted took : List Piece) : Type 0 where
  pub sound : Sound r store
  pub slot_is : r.head.slot ≡ slot
  pub start_is : r.head.start.0 ≡ s
  pub next_is : r.head.next.0 ≡ s + 1 + length took
  pub highest_is : r.head.highest.0 ≡ highest_of s accepted
  pub stands : (n : ℕ) → standing r store n ≡ told r.head.next.0 r.head.highest.0 (first_of n accepted) n
  pub above : (n : ℕ) (bytes : List ℕ) → first_of n accepted ≡ some bytes → s < n
  -- from s + 1 up to the next to take, each number was taken with the bytes of its first packet, and no other number was
  pub taken_all : (n : ℕ) → s < n → n < r.head.next.0 → (bytes : List ℕ) × (first_of n took ≡ some bytes) × (first_of n accepted ≡ some bytes)
  pub taken_only : (n : ℕ) (bytes : List ℕ) → first_of n took ≡ some bytes → (s < n) × (n < r.head.next.0)
  pub ordered : (k : ℕ) (piece : Piece) → get_elem? took k ≡ some piece → (piece.number ≡ s + 1 + k) × (first_of piece.number accepted ≡ some piece.bytes)

-- a step from r and its store to r' and its store', both sound
module _ (s slot : ℕ) (r r' : Receiver) (store store' : List ℕ) (accepted took : List Piece) (known : Known s slot r store accepted took)
    (sound : Sound r' store') (same-slot : r'.head.slot ≡ r.head.slot) (same_start : r'.head.start ≡ r.head.start) where
  -- a packet comes in: its number, missing or unseen until now, is held with its payload, and the numbers that it leapt over are missing
  module _ (number : ℕ) (payload : List ℕ) (was : (standing r store number ≡ missing) ⊎ (standing r store number ≡ unseen))
      (now_held : standing r' store' number ≡ held payload)
      (others : (m : ℕ) → (m ≡ number → ⊥) → standing r' store' m ≡ (missing when ltb r.head.highest.0 m && ltb m number else standing r store m))
      (next_is : r'.head.next.0 ≡ r.head.next.0) (highest_is : r'.head.highest.0 ≡ max r.head.highest.0 number) where
    -- no packet of that number came before
    is_first_lem : (r.head.next.0 ≤ number) × (first_of number accepted ≡ none)
    is_first_lem = told_open r.head.next.0 r.head.highest.0 number (first_of number accepted) (rw (known.stands number) at was)

    stands_other : (n : ℕ) → (n ≡ number → ⊥)
        → (missing when ltb r.head.highest.0 n && ltb n number else standing r store n) ≡ told r.head.next.0 (max r.head.highest.0 number) (first_of n accepted) n
    stands_other n other =
        case
        (λ (a : r.head.highest.0 < n).
        let un = above_unseen r store n known.sound a in
        let o = told_open r.head.next.0 r.head.highest.0 n (first_of n accepted) (inr (sym (known.stands n) ∙ un)) in
        rw (lt-ltb _ _ a, le-ltb n r.head.next.0 o.0, o.1)
        (case
        (λ (b : n < number). rw (lt-ltb _ _ b, le-leb n (max r.head.highest.0 number) (omega arith)))
        (λ (b : n < number → ⊥). rw (le-ltb n number (omega arith), lt-leb n (max r.head.highest.0 number) (omega (arith, other))) un)
        (dec_lt n number)))
        (λ (a : r.head.highest.0 < n → ⊥).
        rw (le-ltb r.head.highest.0 n (omega arith), known.stands n, le-leb n r.head.highest.0 (omega arith), le-leb n (max r.head.highest.0 number) (omega arith)))
        (dec_lt r.head.highest.0 n)

    pub entered : Known s slot r' store' (accepted ++ (record { number = number; bytes = payload } ∷ [])) took
    entered =
        let p : Piece = record { number = number; bytes = payload } in
        record {
          sound = sound;
          slot_is = same-slot ∙ known.slot_is;
          start_is = ap (λ (x : SeqNo). x.0) same_start ∙ known.start_is;
          next_is = next_is ∙ known.next_is;
          highest_is = omega (arith, highest_more s accepted p, highest_is, known.highest_is);
          stands = λ n.
              case
              (λ (e : n ≡ number).
              rw (e, now_held, first_own number accepted p refl is_first_lem.1, next_is, le-ltb number r.head.next.0 is_first_lem.0))
              (λ (other : n ≡ number → ⊥).
              rw (others n other, first_other n accepted p (λ e. other (sym e)), next_is, highest_is) (stands_other n other))
              (ℕ_discrete n number);
          above = λ n bytes e.
              case
              (λ (q : n ≡ number). omega (arith, is_first_lem.0, known.next_is))
              (λ (other : n ≡ number → ⊥). known.above n bytes (sym (first_other n accepted p (λ q. other (sym q))) ∙ e))
              (ℕ_discrete n number);
          taken_all = λ n a b.
              let t = known.taken_all n a (omega arith) in
              (t.0, t.1, first_stays n accepted (p ∷ []) t.0 t.2);
          taken_only = λ n bytes e. rw next_is (known.taken_only n bytes e);
          ordered = λ k piece e.
              let t = known.ordered k piece e in
              (t.0, first_stays piece.number accepted (p ∷ []) piece.bytes t.1);
        }

  -- a take: the next number was held, and counts as taken from now on
  module _ (bytes : List ℕ) (was : standing r store r.head.next.0 ≡ held bytes)
      (others : (m : ℕ) → standing r' store' m ≡ (taken when eqb m r.head.next.0 else standing r store m))
      (next_is : r'.head.next.0 ≡ r.head.next.0 + 1) (highest_is : r'.head.highest.0 ≡ r.head.highest.0) where
    had : first_of r.head.next.0 accepted ≡ some bytes
    had = (told_held r.head.next.0 r.head.highest.0 r.head.next.0 (first_of r.head.next.0 accepted) bytes (sym (known.stands r.head.next.0) ∙ was)).1

    -- it was not taken before
    not_yet : first_of r.head.next.0 took ≡ none
    not_yet = by_first (first_of r.head.next.0 took) (λ e. e) (λ x e. let o = known.taken_only r.head.next.0 x e in absurd (omega arith))

    pub passed : Known s slot r' store' accepted (took ++ (record { number = r.head.next.0; bytes = bytes } ∷ []))
    passed =
        let p : Piece = record { number = r.head.next.0; bytes = bytes } in
        record {
          sound = sound;
          slot_is = same-slot ∙ known.slot_is;
          start_is = ap (λ (x : SeqNo). x.0) same_start ∙ known.start_is;
          next_is = omega (arith, length-append took (p ∷ []), known.next_is);
          highest_is = highest_is ∙ known.highest_is;
          stands = λ n.
              rw (others n, next_is, highest_is, known.stands n)
              (case
              (λ (e : n ≡ r.head.next.0). rw (eq-eqb _ _ e, lt-ltb n (r.head.next.0 + 1) (omega arith)))
              (λ (other : n ≡ r.head.next.0 → ⊥).
              rw (ne_eqb _ _ other)
              (case
              (λ (a : n < r.head.next.0). rw (lt-ltb _ _ a, lt-ltb n (r.head.next.0 + 1) (omega arith)))
              (λ (a : n < r.head.next.0 → ⊥). rw (le-ltb n r.head.next.0 (omega arith), le-ltb n (r.head.next.0 + 1) (omega (arith, other))))
              (dec_lt n r.head.next.0)))
              (ℕ_discrete n r.head.next.0));
          above = known.above;
          taken_all = λ n a b.
              case
              (λ (e : n ≡ r.head.next.0). (bytes, rw e (first_own r.head.next.0 took p refl not_yet), rw e had))
              (λ (other : n ≡ r.head.next.0 → ⊥).
              let t = known.taken_all n a (omega (arith, other)) in
              (t.0, first_stays n took (p ∷ []) t.0 t.1, t.2))
              (ℕ_discrete n r.head.next.0);
          taken_only = λ n x e.
              case
              (λ (q : n ≡ r.head.next.0). (omega (arith, known.next_is), omega arith))
              (λ (other : n ≡ r.head.next.0 → ⊥).
              let t = known.taken_only n x (sym (first_other n took p (λ q. other (sym q))) ∙ e) in
              (t.0, omega arith))
              (ℕ_discrete n r.head.next.0);
          ordered = λ k piece e.
              ⊎_elim
              (known.ordered k piece)
              (λ h. rw (← h.1) (omega (arith, h.0, known.next_is), had))
              (at_place took p piece k e);
        }
