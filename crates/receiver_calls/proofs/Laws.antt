-- Start, accept and take told by the standing of each number: what a run of calls is reasoned with, in place of the definitions' text.
-- Assumes nothing.
use Prim.Native.Nat.{ℕ, ◌+◌, ◌*◌, ◌%◌, ◌≤◌, ◌<◌, max}
use mathlib.Core.Path.{◌≡◌, refl, ◌∙◌, ap}
use mathlib.Core.Bool.{true, false, ◌&&◌, not}
use mathlib.Core.List.{List, [], ◌∷◌}
use mathlib.Core.Logic.{◌⊎◌, inl, inr}
use native.Mathlib.Decide.{ℕ_discrete, dec_le, dec_lt}
use native.Mathlib.Omega.{arith}
use borrow.Author.Tests.{le-leb, lt-leb, eqb-false, not-false}
use lib.Dec.{leb, ltb, eqb}
use lib.ListN.{length, length-set, length-take, length-drop, get_or-replicate}
use Rattle.std.proofs.lemmas.Bool.Decides.{nat_tests}
use Rattle.terms.specs.declared.SeqNo.{SeqNo}
use Rattle.terms.specs.Ladder.{◌when◌else◌}
use Rattle.terms.specs.Lists.{◌at_front_of◌}
use Rattle.terms.proofs.Laws.{case, and_left, past}
use Rattle.terms.specs.Answers.{Said, refusal, values}
use Rattle.receiver_state.specs.Slots.{length_of, mark_of, offset_of, filled, held_bytes}
use Rattle.receiver_state.specs.Rules.{rules_of, slot_fits, sizes_fit}
use Rattle.receiver_state.specs.Start.{start_said, start_of, fresh, unusable}
use Rattle.receiver_calls.specs.Accept.{accept_said, entering, accept_of}
use Rattle.receiver_calls.specs.Take.{take_said, passing, take_of}
use Rattle.receiver_calls.specs.Meaning.{taken, held, missing, unseen, standing, is_missing, Sound, accept_by, take_by}
use Rattle.receiver_state.specs.declared.Receiver.{Receiver}
use Rattle.receiver_state.proofs.Facts.{Ruled, ruled, rules_of_lem, sized}
use Rattle.receiver_calls.proofs.Outcomes.{slot_in, accept_refused, accept_done, Passed, passed, take_refused, take_done, held_short, Gives, gives}
use Rattle.receiver_calls.proofs.Keeps.{apart, number_is, mark_same, mark_other, accept_keeps, take_keeps}
use Rattle.receiver_calls.proofs.Standings.{is_taken, is_unseen, is_missing_lem, is_held_lem, filled_length, filled_here, filled_other}

-- a number lies below next, above highest, or between them with a free or a held slot
pub where_is : {C : Type 0} (r : Receiver) (n : ℕ) → (n < r.head.next.0 → C) → (r.head.next.0 ≤ n → r.head.highest.0 < n → C)
    → (r.head.next.0 ≤ n → n ≤ r.head.highest.0 → mark_of r.marks n ≡ 0 → C)
    → (r.head.next.0 ≤ n → n ≤ r.head.highest.0 → (mark_of r.marks n ≡ 0 → ⊥) → C) → C
where_is r n below above free full =
    case below
    (λ (a : n < r.head.next.0 → ⊥).
    case (above (omega arith))
    (λ (b : r.head.highest.0 < n → ⊥). case (free (omega arith) (omega arith)) (full (omega arith) (omega arith)) (ℕ_discrete (mark_of r.marks n) 0))
    (dec_lt r.head.highest.0 n))
    (dec_lt n r.head.next.0)

pub facts : (r : Receiver) (store : List ℕ) → Sound r store → Ruled r
facts r store sound = ruled r sound.keeps

-- the bytes of a slot are as many as its mark says
pub held_length : (r : Receiver) (store : List ℕ) → Sound r store → (n : ℕ) → length (held_bytes r.marks r.head.slot store n) ≡ length_of (mark_of r.marks n)
held_length r store sound n =
    let short = held_short r sound.table (facts r store sound) n in
    let sizes = sized r.head.slot (length store) sound.fits in
    simp (length-take, length-drop) (omega (arith, slot_in r.head.slot n (length store) sizes.store))

-- where a number lies, from its standing
module _ (r : Receiver) (store : List ℕ) (n : ℕ) where
  pub taken_below : standing r store n ≡ taken → n < r.head.next.0
  unfolding standing
  taken_below e = grind (arith, nat_tests)

  pub above_unseen : Sound r store → r.head.highest.0 < n → standing r store n ≡ unseen
  above_unseen sound b = is_unseen r store n (omega (arith, (facts r store sound).low)) b

  -- missing, with no store to look at
  pub missing_told : is_missing r n ≡ true → standing r store n ≡ missing
  unfolding standing
  missing_told t = grind (arith, nat_tests)

  pub told_missing : standing r store n ≡ missing → is_missing r n ≡ true
  unfolding standing
  told_missing e = grind (arith, nat_tests)

-- a state that breaks the rules is refused with 11, and sizes that do not fit with 10, whatever else is given
module _ (r : Receiver) where
  pub accept_broken : (number : SeqNo) (payload store : List ℕ) → rules_of r ≡ false → (accept_of r number payload store).says ≡ refusal 11
  unfolding accept_of accept_said
  accept_broken number payload store e = simp e

  pub accept_unfit : (number : SeqNo) (payload store : List ℕ) → rules_of r ≡ true → sizes_fit r.head.slot (length store) ≡ false → (accept_of r number payload store).says ≡ refusal 10
  unfolding accept_of accept_said
  accept_unfit number payload store e f = simp (e, f)

  pub take_broken : (store output : List ℕ) → rules_of r ≡ false → (take_of r store output).says ≡ refusal 11
  unfolding take_of take_said
  take_broken store output e = simp e

  pub take_unfit : (store output : List ℕ) → rules_of r ≡ true → sizes_fit r.head.slot (length store) ≡ false → (take_of r store output).says ≡ refusal 10
  unfolding take_of take_said
  take_unfit store output e f = simp (e, f)

-- an answer is a refusal or gives values
pub by_said : {C : Type 0} (answer : Said) → ((n : ℕ) → answer ≡ refusal n → C) → ((given : List ℕ) → answer ≡ values given → C) → C
by_said (refusal n) f g = f n refl
by_said (values given) f g = g given refl

-- START

module _ (s : SeqNo) (slot : ℕ) (store : List ℕ) where
  -- a refused start leaves a state that no rule allows
  pub start_refused : (n : ℕ) → (start_of s slot (length store)).says ≡ refusal n → (start_of s slot (length store)).state ≡ unusable
  start_refused n e = rw e

  module _ (done : (start_of s slot (length store)).says ≡ values []) where
    pub start_done : (start_of s slot (length store)).state ≡ fresh s slot
    start_done = rw done

    -- up to s a number counts as taken, and above s it is not yet seen
    pub start_standing : (n : ℕ) → standing (start_of s slot (length store)).state store n ≡ (taken when leb n s.0 else unseen)
    start_standing n =
        rw start_done
        (case
        (λ (a : n ≤ s.0). rw (le-leb n s.0 a) (is_taken (fresh s slot) store n (omega arith)))
        (λ (a : n ≤ s.0 → ⊥). rw (lt-leb n s.0 (omega arith)) (is_unseen (fresh s slot) store n (omega arith) (omega arith)))
        (dec_le n s.0))

    pub start_sound : s.0 ≤ 4294967295 → Sound (start_of s slot (length store)).state store
    unfolding start_said
    start_sound width =
        let p10 = past 10 (not (sizes_fit slot (length store))) _ [] done in
        let p12 = past 12 (eqb s.0 4294967295) (values []) [] p10.1 in
        let usable = eqb-false s.0 4294967295 p12.0 in
        rw start_done
        (record {
          table = refl;
          keeps = rules_of_lem (fresh s slot)
              (record {
                one = omega arith;
                late = omega arith;
                low = omega arith;
                far = omega arith;
                top = λ n. absurd (n refl);
                last = omega (arith, usable);
                free = λ k h a. get_or-replicate 512 k 0 0 h;
                short = λ k h. rw (get_or-replicate {A = ℕ} 512 k 0 0 h) (omega arith);
              });
          fits = not-false (sizes_fit slot (length store)) p10.0;
        })

pub unusable_broken : rules_of unusable ≡ false
unfolding rules_of
unusable_broken = refl

-- ACCEPT

-- what an accepted packet changes: its number, missing or not yet seen until now, is held with exactly its payload; the numbers that it
-- leapt over become missing; every other number keeps its standing and its bytes
pub record Entered (r : Receiver) (number : SeqNo) (payload store : List ℕ) : Type 0 where
  pub was : (standing r store number.0 ≡ missing) ⊎ (standing r store number.0 ≡ unseen)
  pub now_held : standing (accept_of r number payload store).state (accept_of r number payload store).lent number.0 ≡ held payload
  pub others : (m : ℕ) → (m ≡ number.0 → ⊥)
      → standing (accept_of r number payload store).state (accept_of r number payload store).lent m
      ≡ (missing when ltb r.head.highest.0 m && ltb m number.0 else standing r store m)
  pub next_is : (accept_of r number payload store).state.head.next ≡ r.head.next
  pub highest_is : (accept_of r number payload store).state.head.highest.0 ≡ max r.head.highest.0 number.0

module _ (r : Receiver) (number : SeqNo) (payload store : List ℕ) where
  accept_is : accept_said r number (length payload) (length store) ≡ (accept_of r number payload store).says
  unfolding accept_of
  accept_is = refl

  -- a refusal changes nothing
  pub accept_nothing : (n : ℕ) → (accept_of r number payload store).says ≡ refusal n
      → ((accept_of r number payload store).state ≡ r) × ((accept_of r number payload store).lent ≡ store)
  accept_nothing n e =
      let k = accept_refused r number payload store n (accept_is ∙ e) in
      (rw k, rw k)

  -- the state with the payload held
  abbrev here : Receiver
  here = entering r number (length payload)

  module _ (given : List ℕ) (done : (accept_of r number payload store).says ≡ values given) where
    became : ((accept_of r number payload store).state ≡ here) × ((accept_of r number payload store).lent ≡ filled store r.head.slot number.0 payload)
    unfolding entering
    became =
        let k = accept_done r number payload store given (accept_is ∙ done) in
        (rw k, rw k)

    ok : Passed r number (length payload) (length store) given
    ok = passed r number (length payload) (length store) given (accept_is ∙ done)

    -- the payload lies within the store
    inside : offset_of r.head.slot number.0 + length payload ≤ length store
    inside = let p = ok in omega (arith, slot_in r.head.slot number.0 (length store) p.sizes.store)

    module _ (sound : Sound r store) where
      now_here : standing here (filled store r.head.slot number.0 payload) number.0 ≡ held payload
      unfolding entering
      now_here =
          let p = ok in
          let same = mark_same r.marks sound.table number.0 (length payload + 1) in
          let e : length_of (length payload + 1) ≡ length payload = omega arith in
          is_held_lem here (filled store r.head.slot number.0 payload) number.0 p.new (omega arith) (λ z. omega (arith, same))
          ∙ ap held (rw (same, e) (filled_here store r.head.slot number.0 payload inside))

      now_there : (m : ℕ) → (m ≡ number.0 → ⊥)
          → standing here (filled store r.head.slot number.0 payload) m ≡ (missing when ltb r.head.highest.0 m && ltb m number.0 else standing r store m)
      unfolding entering standing
      now_there m other =
          let p = ok in
          let f = facts r store sound in
          let number_apart = apart r.head.next.0 m number.0 in
          let elsewhere = mark_other r.marks sound.table number.0 (length payload + 1) m in
          let bytes = filled_other store r.head.slot number.0 payload inside m (length_of (mark_of r.marks m)) (held_short r sound.table f m) p.fits in
          grind (arith, nat_tests, p.new, p.near, f.low, f.far, f.free (m % 512), sound.table, number_is r.head.next.0 m, number_apart, elsewhere, bytes, other)

      pub accept_changes : Entered r number payload store
      unfolding entering
      accept_changes =
          let p = ok in
          record {
            was = where_is r number.0
                (λ a. absurd (omega arith))
                (λ a b. inr (is_unseen r store number.0 a b))
                (λ a b z. inl (is_missing_lem r store number.0 a b z))
                (λ a b z. absurd (z p.free));
            now_held = rw (became.0, became.1) now_here;
            others = λ m o. rw (became.0, became.1) (now_there m o);
            next_is = ap (λ (x : Receiver). x.head.next) became.0;
            highest_is = ap (λ (x : Receiver). x.head.highest.0) became.0;
          }

      entering_sound : number.0 ≤ 4294967295 → Sound here (filled store r.head.slot number.0 payload)
      unfolding entering
      entering_sound width =
          let p = ok in
          record {
            table = simp length-set sound.table;
            keeps = rules_of_lem here
                (accept_keeps r sound.table (facts r store sound) number (length payload)
                p.new p.near (omega (arith, p.usable)) p.fits);
            fits = rw (filled_length store r.head.slot number.0 payload inside) sound.fits;
          }

  -- accept keeps a sound state and store sound, whatever it is given
  pub accept_sound : Sound r store → number.0 ≤ 4294967295 → Sound (accept_of r number payload store).state (accept_of r number payload store).lent
  accept_sound sound width =
      by_said (accept_of r number payload store).says
      (λ n e. let k = accept_nothing n e in rw (k.0, k.1) sound)
      (λ given e. let k = became given e in rw (k.0, k.1) (entering_sound given e sound width))

  -- its answer: 12, or by the standing of the number, so never 11 or 10
  pub accept_answer : Sound r store
      → (accept_of r number payload store).says ≡ (refusal 12 when eqb number.0 4294967295 else accept_by (standing r store number.0) r number.0 (length payload))
  unfolding accept_of accept_said standing
  accept_answer sound =
      let f = facts r store sound in
      let a = sound.keeps in
      let b = sound.fits in
      grind (arith, nat_tests, f.far, f.free (number.0 % 512), sound.table, number_is r.head.next.0 number.0)

  -- none of its refusals is then 11 or 10
  pub accept_fair : Sound r store → (n : ℕ) → (accept_of r number payload store).says ≡ refusal n → (n ≡ 11 → ⊥) × (n ≡ 10 → ⊥)
  unfolding accept_of accept_said
  accept_fair sound n e = let a = sound.keeps in let b = sound.fits in (grind (arith, nat_tests), grind (arith, nat_tests))

-- TAKE

-- what a take changes: the next number was held, its bytes are the output's front, it counts as taken from now on, and every other
-- number keeps its standing and its bytes
pub record Took (r : Receiver) (store output given : List ℕ) : Type 0 where
  pub bytes : List ℕ
  pub was : standing r store r.head.next.0 ≡ held bytes
  pub counted : given ≡ length bytes ∷ []
  pub output_is : (take_of r store output).lent ≡ bytes at_front_of output
  pub others : (m : ℕ) → standing (take_of r store output).state store m ≡ (taken when eqb m r.head.next.0 else standing r store m)
  pub next_is : (take_of r store output).state.head.next.0 ≡ r.head.next.0 + 1
  pub highest_is : (take_of r store output).state.head.highest ≡ r.head.highest

module _ (r : Receiver) (store output : List ℕ) where
  take_is : take_said r (length store) (length output) ≡ (take_of r store output).says
  unfolding take_of
  take_is = refl

  -- a refusal changes nothing
  pub take_nothing : (n : ℕ) → (take_of r store output).says ≡ refusal n → ((take_of r store output).state ≡ r) × ((take_of r store output).lent ≡ output)
  take_nothing n e =
      let k = take_refused r store output n (take_is ∙ e) in
      (rw k, rw k)

  module _ (given : List ℕ) (done : (take_of r store output).says ≡ values given) where
    passed_on : ((take_of r store output).state ≡ passing r) × ((take_of r store output).lent ≡ held_bytes r.marks r.head.slot store r.head.next.0 at_front_of output)
    unfolding passing
    passed_on =
        let k = take_done r store output given (take_is ∙ done) in
        (rw k, rw k)

    module _ (sound : Sound r store) where
      gave : Gives r (length store) (length output) given
      gave = gives r (length store) (length output) given sound.table (take_is ∙ done)

      left_there : (m : ℕ) → standing (passing r) store m ≡ (taken when eqb m r.head.next.0 else standing r store m)
      unfolding passing standing
      left_there m =
          let g = gave in
          let f = facts r store sound in
          let number_apart = apart r.head.next.0 m r.head.next.0 in
          let elsewhere = mark_other r.marks sound.table r.head.next.0 0 m in
          grind (arith, nat_tests, f.far, g.below, number_apart, elsewhere)

      pub take_changes : Took r store output given
      unfolding passing
      take_changes =
          let g = gave in
          record {
            bytes = held_bytes r.marks r.head.slot store r.head.next.0;
            was = is_held_lem r store r.head.next.0 (omega arith) g.below (λ e. omega (arith, g.held));
            counted = let i = g.is in rw (held_length r store sound r.head.next.0) (cc);
            output_is = passed_on.1;
            others = λ m. rw passed_on.0 (left_there m);
            next_is = ap (λ (x : Receiver). x.head.next.0) passed_on.0;
            highest_is = ap (λ (x : Receiver). x.head.highest) passed_on.0;
          }

      passing_sound : Sound (passing r) store
      unfolding passing
      passing_sound =
          let g = gave in
          record {
            table = simp length-set sound.table;
            keeps = rules_of_lem (passing r)
                (take_keeps r sound.table (facts r store sound) g.held g.below);
            fits = sound.fits;
          }

  -- take keeps a sound state and store sound, whatever it is given
  pub take_sound : Sound r store → Sound (take_of r store output).state store
  take_sound sound =
      by_said (take_of r store output).says
      (λ n e. rw (take_nothing n e).0 sound)
      (λ given e. rw (passed_on given e).0 (passing_sound given e sound))

  -- its answer: by the standing of the next number, so never 11 or 10
  pub take_answer : Sound r store → (take_of r store output).says ≡ take_by (standing r store r.head.next.0) (length output)
  unfolding take_of take_said standing
  take_answer sound =
      let f = facts r store sound in
      let a = sound.keeps in
      let b = sound.fits in
      let l = held_length r store sound r.head.next.0 in
      grind (arith, nat_tests, f.free (r.head.next.0 % 512), sound.table, number_is r.head.next.0 r.head.next.0, l)

  pub take_fair : Sound r store → (n : ℕ) → (take_of r store output).says ≡ refusal n → (n ≡ 11 → ⊥) × (n ≡ 10 → ⊥)
  unfolding take_of take_said
  take_fair sound n e = let a = sound.keeps in let b = sound.fits in (grind (arith, nat_tests), grind (arith, nat_tests))

-- WHAT RUNS ARE COUNTED BY

-- a start's slot size, next to take and highest
module _ (s : SeqNo) (slot : ℕ) (store : List ℕ) (done : (start_of s slot (length store)).says ≡ values []) where
  pub start_slot : (start_of s slot (length store)).state.head.slot ≡ slot
  start_slot = ap (λ (x : Receiver). x.head.slot) (start_done s slot store done)

  pub start_next : (start_of s slot (length store)).state.head.next.0 ≡ s.0 + 1
  start_next = ap (λ (x : Receiver). x.head.next.0) (start_done s slot store done)

  pub start_highest : (start_of s slot (length store)).state.head.highest.0 ≡ s.0
  start_highest = ap (λ (x : Receiver). x.head.highest.0) (start_done s slot store done)

-- neither accept nor take changes the slot size
pub accept_slot : (r : Receiver) (number : SeqNo) (payload store : List ℕ) → (accept_of r number payload store).state.head.slot ≡ r.head.slot
unfolding entering
accept_slot r number payload store =
    by_said (accept_of r number payload store).says
    (λ n e. ap (λ (x : Receiver). x.head.slot) (accept_nothing r number payload store n e).0)
    (λ given e. ap (λ (x : Receiver). x.head.slot) (became r number payload store given e).0)

pub take_slot : (r : Receiver) (store output : List ℕ) → (take_of r store output).state.head.slot ≡ r.head.slot
unfolding passing
take_slot r store output =
    by_said (take_of r store output).says
    (λ n e. ap (λ (x : Receiver). x.head.slot) (take_nothing r store output n e).0)
    (λ given e. ap (λ (x : Receiver). x.head.slot) (passed_on r store output given e).0)

-- it is in range,
pub slot_fits_lem : (r : Receiver) (store : List ℕ) → Sound r store → slot_fits r.head.slot ≡ true
unfolding sizes_fit
slot_fits_lem r store sound = and_left (slot_fits r.head.slot) (eqb (length store) (512 * r.head.slot)) sound.fits

-- and it tells the store's length
pub store_length : (r : Receiver) (store : List ℕ) → Sound r store → length store ≡ 512 * r.head.slot
store_length r store sound = (sized r.head.slot (length store) sound.fits).store
