-- One packet more keeps the state rules: its number is next, which is above all that are stored, and its place was free. Assumes nothing.
use Prim.Native.Nat.{ℕ, ◌+◌, ◌≤◌, ◌<◌}
use mathlib.Core.Path.{◌≡◌, sym, ◌∙◌, ap}
use mathlib.Core.List.{List}
use native.Mathlib.Decide.{ℕ_discrete}
use native.Mathlib.Omega.{arith}
use lib.ListN.{length, length-set}
use lib.Seq.{get_or-set_same, get_or-set_other}
use Rattle.terms.proofs.Laws.{case}
use Rattle.sender_state.specs.Table.{◌!◌}
use Rattle.sender_state.specs.declared.Sender.{Sender}
use Rattle.sender_state.proofs.Facts.{Ruled}
use Rattle.sender_state.proofs.Search.{place_is}
use Rattle.sender_submit_answer.specs.Answer.{free_of}
use Rattle.sender_submit.specs.Chunks.{lowest_free, joined_by, laid_at}
use Rattle.sender_submit.proofs.Storing.{free_place}
use Rattle.sender_meaning.specs.Meaning.{Sound}
use Rattle.sender_meaning.proofs.Stands.{facts}
use Rattle.sender_meaning.proofs.SubmittingTables.{count_kept}

-- what one packet more asks for: a free place below K, a length that a place takes, and a number below the last
pub record Room (s : Sender) (packet : List ℕ) : Type 0 where
  pub free : 1 ≤ free_of s
  pub long : 22 ≤ length packet
  pub short : length packet ≤ s.chunk + 1044
  pub usable : s.next.0 < 4294967295

-- the state and the store after it
abbrev pub grown : Sender → List ℕ → Sender
grown s packet = joined_by s (length packet)

abbrev pub laid : Sender → List ℕ → List ℕ → List ℕ
laid s packet store = laid_at s.chunk (lowest_free s) packet store

-- the lowest free place, and what stands there and elsewhere when it is filled
pub record Spot (s : Sender) (packet : List ℕ) : Type 0 where
  pub below : lowest_free s < s.count
  pub inside : lowest_free s < 192
  pub free : s.marks ! lowest_free s ≡ 0
  pub empty : s.numbers ! lowest_free s ≡ 0
  pub numbers_here : (i : ℕ) → i ≡ lowest_free s → (grown s packet).numbers ! i ≡ s.next.0
  pub lengths_here : (i : ℕ) → i ≡ lowest_free s → (grown s packet).lengths ! i ≡ length packet
  pub marks_here : (i : ℕ) → i ≡ lowest_free s → (grown s packet).marks ! i ≡ 1
  pub numbers_there : (i : ℕ) → (i ≡ lowest_free s → ⊥) → (grown s packet).numbers ! i ≡ s.numbers ! i
  pub lengths_there : (i : ℕ) → (i ≡ lowest_free s → ⊥) → (grown s packet).lengths ! i ≡ s.lengths ! i
  pub marks_there : (i : ℕ) → (i ≡ lowest_free s → ⊥) → (grown s packet).marks ! i ≡ s.marks ! i

module _ (s : Sender) (store : List ℕ) (sound : Sound s store) (packet : List ℕ) where
  -- it is below K, and free
  pub spot : 1 ≤ free_of s → Spot s packet
  spot some =
      let p = lowest_free s in
      let among = free_place s.marks s.count some in
      let inside : p < 192 = omega (arith, among.1, sound.marks_long) in
      let free = place_is s.marks 0 among.1 in
      record {
        below = among.0;
        inside = inside;
        free = free;
        empty = (facts s store sound).no_number p among.1 free;
        numbers_here = λ i e. rw e (get_or-set_same s.numbers p s.next.0 0 (omega (arith, sound.numbers_long)));
        lengths_here = λ i e. rw e (get_or-set_same s.lengths p (length packet) 0 (omega (arith, sound.lengths_long)));
        marks_here = λ i e. rw e (get_or-set_same s.marks p 1 0 (omega (arith, sound.marks_long)));
        numbers_there = λ i o. get_or-set_other s.numbers p i s.next.0 0 o;
        lengths_there = λ i o. get_or-set_other s.lengths p i (length packet) 0 o;
        marks_there = λ i o. get_or-set_other s.marks p i 1 0 o;
      }

module _ (s : Sender) (store : List ℕ) (sound : Sound s store) (packet : List ℕ) (room : Room s packet) where
  at : Spot s packet
  at = spot s store sound packet room.free

  at_or_off : {C : Type 0} (i : ℕ) → (i ≡ lowest_free s → C) → ((i ≡ lowest_free s → ⊥) → C) → C
  at_or_off i f g = case f g (ℕ_discrete i (lowest_free s))

  -- the same index of the marks before
  before : (i : ℕ) → i < length (grown s packet).marks → i < length s.marks
  before i h = simp length-set at h

  -- a mark that is not 0 was not 0 elsewhere
  was : (i : ℕ) → (i ≡ lowest_free s → ⊥) → ((grown s packet).marks ! i ≡ 0 → ⊥) → s.marks ! i ≡ 0 → ⊥
  was i o n z = n (at.marks_there i o ∙ z)

  pub joined_ruled : Ruled (grown s packet)
  joined_ruled =
      let r = facts s store sound in
      let next-most = room.usable in
      record {
        distinct = λ i j h k o a b e.
            at_or_off i
            (λ p. at_or_off j (λ q. o (p ∙ sym q)) (λ q. omega (arith, at.numbers_here i p, at.numbers_there j q, r.low j (before j k) (was j q b))))
            (λ p.
            at_or_off j (λ q. omega (arith, at.numbers_here j q, at.numbers_there i p, r.low i (before i h) (was i p a)))
            (λ q. r.distinct i j (before i h) (before j k) o (was i p a) (was j q b) (sym (at.numbers_there i p) ∙ e ∙ at.numbers_there j q)));
        low = λ i h n.
            at_or_off i
            (λ p. omega (arith, at.numbers_here i p))
            (λ p. omega (arith, at.numbers_there i p, r.low i (before i h) (was i p n)));
        order = λ i j h k a b.
            at_or_off i
            (λ p. absurd (omega (arith, at.marks_here i p)))
            (λ p.
            let flew : s.marks ! i ≡ 2 = sym (at.marks_there i p) ∙ a in
            at_or_off j
            (λ q. omega (arith, at.numbers_here j q, at.numbers_there i p, r.low i (before i h) (λ z. omega arith)))
            (λ q. omega (arith, at.numbers_there i p, at.numbers_there j q, r.order i j (before i h) (before j k) flew (sym (at.marks_there j q) ∙ b))));
        some = λ i h n.
            at_or_off i
            (λ p. omega (arith, at.numbers_here i p, r.next_some))
            (λ p. omega (arith, at.numbers_there i p, r.some i (before i h) (was i p n)));
        next_some = omega arith;
        shut = λ i h c.
            at_or_off i
            (λ p. absurd (omega (arith, at.below)))
            (λ p. at.marks_there i p ∙ r.shut i (before i h) c);
        no_number = λ i h z.
            at_or_off i
            (λ p. absurd (omega (arith, at.marks_here i p)))
            (λ p. at.numbers_there i p ∙ r.no_number i (before i h) (sym (at.marks_there i p) ∙ z));
        no_length = λ i h z.
            at_or_off i
            (λ p. absurd (omega (arith, at.marks_here i p)))
            (λ p. at.lengths_there i p ∙ r.no_length i (before i h) (sym (at.marks_there i p) ∙ z));
        no_time = λ i h z.
            at_or_off i
            (λ p. absurd (omega (arith, at.marks_here i p)))
            (λ p. r.no_time i (before i h) (sym (at.marks_there i p) ∙ z));
        no_resent = λ i h z.
            at_or_off i
            (λ p. absurd (omega (arith, at.marks_here i p)))
            (λ p. r.no_resent i (before i h) (sym (at.marks_there i p) ∙ z));
        not_sent = λ i h e.
            at_or_off i
            (λ p. r.no_time i (before i h) (ap (λ (k : ℕ). s.marks ! k) p ∙ at.free))
            (λ p. r.not_sent i (before i h) (sym (at.marks_there i p) ∙ e));
        unresent = λ i h e.
            at_or_off i
            (λ p. r.no_resent i (before i h) (ap (λ (k : ℕ). s.marks ! k) p ∙ at.free))
            (λ p. r.unresent i (before i h) (sym (at.marks_there i p) ∙ e));
        once_or_more = λ i h. r.once_or_more i (before i h);
        few = rw (count_kept 2 s.marks (lowest_free s) 1 (λ e. omega (arith, at.free)) (λ e. omega arith)) r.few;
        past = λ i h. r.past i (before i h);
        due = r.due;
        window_some = r.window_some;
        window_most = r.window_most;
        timing = r.timing;
        long = λ i h n.
            at_or_off i
            (λ p. omega (arith, at.lengths_here i p, room.long))
            (λ p. omega (arith, at.lengths_there i p, r.long i (before i h) (was i p n)));
        short = λ i h n.
            at_or_off i
            (λ p. omega (arith, at.lengths_here i p, room.short))
            (λ p. omega (arith, at.lengths_there i p, r.short i (before i h) (was i p n)));
        clock_most = r.clock_most;
        known = λ i h.
            at_or_off i
            (λ p. omega (arith, at.marks_here i p))
            (λ p. omega (arith, at.marks_there i p, r.known i (before i h)));
      }
