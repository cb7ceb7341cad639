-- What calls make of a sender's state and store, and one call after another: a number is made once, since a submit makes numbers from next on and
-- next never falls. Assumes nothing.
use Prim.Native.Nat.{ℕ, ◌+◌, ◌-◌, ◌≤◌, ◌<◌}
use mathlib.Core.Path.{◌≡◌, refl, sym, ◌∙◌, ap}
use mathlib.Core.Bool.{Bool, true, false, ◌&&◌, ◌||◌, true≢false}
use mathlib.Core.List.{List, [], ◌∷◌}
use mathlib.Core.Option.{Option, none, some, or_else}
use native.Mathlib.Omega.{arith}
use borrow.Author.Tests.{leb-true, ltb-true}
use lib.Dec.{leb, ltb}
use lib.ListN.{length}
use Rattle.terms.specs.declared.StreamId.{StreamId}
use Rattle.terms.specs.Ladder.{◌when◌else◌}
use Rattle.terms.proofs.Laws.{and_left, and_right, and_both}
use Rattle.terms.specs.Answers.{values}
use Rattle.receiver_state.specs.Rules.{rules_of, slot_fits}
use Rattle.receiver_state.specs.declared.Receiver.{Receiver}
use Rattle.sender_state.specs.declared.Sender.{Sender}
use Rattle.sender_submit.specs.Submit.{submit_of}
use Rattle.sender_submit.specs.Chunks.{data_packet}
use Rattle.sender_meaning.specs.Meaning.{Standing, waits, standing, Sound}
use Rattle.sender_meaning.specs.Steps.{chunk_at, submitted_as}
use Rattle.sender_meaning.proofs.Counts.{by_bool}
use Rattle.sender_meaning.proofs.Stands.{unmade_from}
use Rattle.sender_meaning.proofs.Submitting.{submit_stores, submit_fair}
use Rattle.sender_runs.specs.Runs.{submit, Kept, step_of}
use Rattle.sender_runs.specs.Remembers.{is_usable, fair_to}
use Rattle.sender_runs.proofs.Lives.{Later, SinceSent, later_then, later_same}

-- the standing of a number in what a call leaves
abbrev pub standing_in : Kept → ℕ → Standing
standing_in kept n = standing kept.state kept.store n

-- what calls make of a state and a store, with what they made, which numbers sends told, acks named, and acks named after a send told them
pub record Goes (before after : Kept) (fair : Bool) (made : ℕ → Option (List ℕ)) (sent named acked : ℕ → Bool) : Type 0 where
  pub sound : Sound after.state after.store
  pub long : length after.store ≡ length before.store
  pub chunk_is : after.state.chunk ≡ before.state.chunk
  pub count_is : after.state.count ≡ before.state.count
  pub rises : before.state.next.0 ≤ after.state.next.0
  pub fairly : fair ≡ true
  pub range : (n : ℕ) (packet : List ℕ) → made n ≡ some packet → (before.state.next.0 ≤ n) × (n < after.state.next.0)
  pub fresh : (n : ℕ) (packet : List ℕ) → made n ≡ some packet → Later (sent n) (named n) (acked n) (waits packet) (standing_in after n)
  pub still : (n : ℕ) → made n ≡ none → Later (sent n) (named n) (acked n) (standing_in before n) (standing_in after n)

pub made_or_not : {C : Type 0} (o : Option (List ℕ)) → (o ≡ none → C) → ((packet : List ℕ) → o ≡ some packet → C) → C
made_or_not none f g = f refl
made_or_not (some packet) f g = g packet refl

pub not_made : {C : Type 0} {packet : List ℕ} {o : Option (List ℕ)} → o ≡ some packet → o ≡ none → C
not_made p q = let z : ◌≡◌ {A = ℕ} 0 1 = cc in absurd (omega arith)

-- calls that make nothing
module _ (before after : Kept) (fair : Bool) (made : ℕ → Option (List ℕ)) (sent named : ℕ → Bool) (nothing : (n : ℕ) → made n ≡ none) (f : fair ≡ true) where
  -- and leave the state and the store, and tell and name no number
  pub stayed : Sound before.state before.store → after.state ≡ before.state → after.store ≡ before.store
      → ((n : ℕ) → sent n ≡ false) → ((n : ℕ) → named n ≡ false) → Goes before after fair made sent named (λ n. false)
  stayed sound p q unsent unnamed = record {
    sound = rw (p, q) sound;
    long = rw q;
    chunk_is = rw p;
    count_is = rw p;
    rises = rw p (omega arith);
    fairly = f;
    range = λ n packet e. not_made e (nothing n);
    fresh = λ n packet e. not_made e (nothing n);
    still = λ n e. rw (p, q, unsent n, unnamed n) (later_same false (standing_in before n) (λ _. refl));
  }

  -- and change how numbers stand
  pub changed : Sound after.state after.store → length after.store ≡ length before.store → after.state.chunk ≡ before.state.chunk
      → after.state.count ≡ before.state.count → after.state.next ≡ before.state.next
      → ((n : ℕ) → Later (sent n) (named n) false (standing_in before n) (standing_in after n)) → Goes before after fair made sent named (λ n. false)
  changed sound l c k next means = record {
    sound = sound;
    long = l;
    chunk_is = c;
    count_is = k;
    rises = rw next (omega arith);
    fairly = f;
    range = λ n packet e. not_made e (nothing n);
    fresh = λ n packet e. not_made e (nothing n);
    still = λ n e. means n;
  }

-- one call, and then others
module _ (before mid after : Kept) (fair fair' : Bool) (made made' : ℕ → Option (List ℕ)) (sent named sent' named' acked' acked : ℕ → Bool)
    (counts : (n : ℕ) → SinceSent (sent n) (named' n) (acked' n) (acked n))
    (one : Goes before mid fair made sent named (λ n. false)) (more : Goes mid after fair' made' sent' named' acked') where
  -- what is made later was not told before
  untold : (n : ℕ) (packet : List ℕ) → made n ≡ none → made' n ≡ some packet → sent n ≡ false
  untold n packet z g = (one.still n z).unmade_unsent (unmade_from before.state before.store n (omega (arith, one.rises, (more.range n packet g).0)))

  pub goes_then : Goes before after (fair && fair') (λ n. or_else (made n) (made' n)) (λ n. sent n || sent' n) (λ n. named n || named' n) acked
  unfolding or_else
  goes_then = record {
    sound = more.sound;
    long = more.long ∙ one.long;
    chunk_is = more.chunk_is ∙ one.chunk_is;
    count_is = more.count_is ∙ one.count_is;
    rises = omega (arith, one.rises, more.rises);
    fairly = and_both fair fair' one.fairly more.fairly;
    range = λ n packet h.
        made_or_not (made n)
        (λ z. let g = rw z at h in let w = more.range n packet g in (omega (arith, one.rises), w.1))
        (λ p z. let w = one.range n p z in (w.0, omega (arith, more.rises)));
    fresh = λ n packet h.
        made_or_not (made n)
        (λ z.
        let g = rw z at h in
        let f = untold n packet z g in
        rw f
        (later_then false (named n) (sent' n) (named' n) (acked' n) (acked n) _ _ _ (rw f at (counts n))
        (later_same (named n) (waits packet) (λ e. absurd (true≢false (sym e)))) (more.fresh n packet g)))
        (λ p z.
        let same : p ≡ packet = let g = rw z at h in cc in
        let once : made' n ≡ none = made_or_not (made' n) (λ w. w) (λ q w. absurd (omega (arith, (one.range n p z).1, (more.range n q w).0))) in
        later_then (sent n) (named n) (sent' n) (named' n) (acked' n) (acked n) (waits packet) _ _ (counts n) (rw same at (one.fresh n p z)) (more.still n once));
    still = λ n h.
        made_or_not (made n)
        (λ z. let g = rw z at h in later_then (sent n) (named n) (sent' n) (named' n) (acked' n) (acked n) _ _ _ (counts n) (one.still n z) (more.still n g))
        (λ p z. let g = rw z at h in not_made refl g);
  }

-- a submit is refused with 11 or 10 for the receiver's state alone
pub fair_submit : (s : Sender) (r : Receiver) (to from : StreamId) (bytes store : List ℕ) → Sound s store → fair_to (submit r to from bytes) (submit_of s r to from bytes store).says ≡ true
fair_submit s r to from bytes store sound =
    by_bool (is_usable r)
    (λ t. rw t (submit_fair s r to from bytes store sound (and_left (rules_of r) _ t) (and_right (rules_of r) (slot_fits r.head.slot) t)))
    (λ f. rw f)

-- a submit that is done makes its packets, and leaves every other number as it stood
module _ (kept : Kept) (r : Receiver) (to from : StreamId) (bytes : List ℕ) (sound : Sound kept.state kept.store) (count : ℕ)
    (done : (submit_of kept.state r to from bytes kept.store).says ≡ values (count ∷ [])) (chunk : ℕ) (is : kept.state.chunk ≡ chunk) where
  abbrev pub packet_then : ℕ → List ℕ
  packet_then n = data_packet r to from n (chunk_at chunk (n - kept.state.next.0) bytes)

  abbrev pub made_then : ℕ → Option (List ℕ)
  made_then n =
      some (packet_then n) when leb kept.state.next.0 n && ltb n (kept.state.next.0 + count) else none

  pub submitted : (fair : Bool) → fair ≡ true → Goes kept (step_of kept (submit r to from bytes)).kept fair made_then (λ n. false) (λ n. false) (λ n. false)
  submitted fair f =
      let s = kept.state in
      let st = submit_stores s r to from bytes kept.store count done sound in
      let means : (n : ℕ) → standing_in (step_of kept (submit r to from bytes)).kept n
      ≡ (waits (packet_then n) when leb s.next.0 n && ltb n (s.next.0 + count) else standing_in kept n) =
      λ n. st.means n ∙ ap (λ (c : ℕ). submitted_as (data_packet r to from) c s.next.0 count bytes n (standing_in kept n)) is in
      record {
        sound = st.sound;
        long = st.long;
        chunk_is = st.chunk_is;
        count_is = st.count_is;
        rises = omega (arith, st.next_is);
        fairly = f;
        range = λ n packet e.
            by_bool (leb s.next.0 n && ltb n (s.next.0 + count))
            (λ t. (
              leb-true _ _ (and_left (leb s.next.0 n) _ t),
              omega (arith, st.next_is, ltb-true n (s.next.0 + count) (and_right (leb s.next.0 n) (ltb n (s.next.0 + count)) t)),
            ))
            (λ g. let h = rw g at e in not_made h refl);
        fresh = λ n packet e.
            by_bool (leb s.next.0 n && ltb n (s.next.0 + count))
            (λ t.
            let h = rw t at e in
            let same : packet ≡ packet_then n = cc in
            rw (means n, t, same) (later_same false (waits (packet_then n)) (λ _. refl)))
            (λ g. let h = rw g at e in not_made h refl);
        still = λ n e.
            by_bool (leb s.next.0 n && ltb n (s.next.0 + count))
            (λ t. let h = rw t at e in not_made refl h)
            (λ g. rw (means n, g) (later_same false (standing s kept.store n) (λ _. refl)));
      }
