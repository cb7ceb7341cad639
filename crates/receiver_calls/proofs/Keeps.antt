-- An accepted payload, and one taken, keep the state rules. Assumes nothing.
use Prim.Native.Nat.{ℕ, ◌+◌, ◌-◌, ◌%◌, ◌≤◌, ◌<◌, max}
use mathlib.Core.Path.{◌≡◌, refl, sym, ◌∙◌, ap, subst}
use mathlib.Core.List.{List}
use native.Mathlib.Decide.{ℕ_discrete, dec_le}
use native.Mathlib.Omega.{arith}
use lib.ListN.{length, get_or, set, length-set}
use lib.Seq.{get_or-set_same, get_or-set_other}
use Rattle.terms.proofs.Laws.{case}
use Rattle.terms.specs.declared.SeqNo.{SeqNo}
use Rattle.receiver_state.specs.Slots.{mark_of, slot_number}
use Rattle.receiver_state.specs.declared.Receiver.{Receiver}
use Rattle.receiver_calls.specs.Accept.{entering}
use Rattle.receiver_calls.specs.Take.{passing}
use Rattle.receiver_state.proofs.Facts.{Ruled}

-- two numbers of one span have two slots
pub apart : (next m n : ℕ) → next ≤ m → m - next < 512 → next ≤ n → n - next < 512 → (m ≡ n → ⊥) → m % 512 ≡ n % 512 → ⊥
apart next m n a b c d e f = e (omega arith)

-- the number that a slot stands for is the one of the span that has the slot
pub number_is : (next n : ℕ) → next ≤ n → n - next < 512 → slot_number next (n % 512) ≡ n
number_is next n a b = omega arith

number_slot : (next k : ℕ) → k < 512 → slot_number next k % 512 ≡ k
number_slot next k h = omega arith

later : (next m : ℕ) → next ≤ m → m - next < 512 → (m ≡ next → ⊥) → slot_number (next + 1) (m % 512) ≡ m
later next m a b n = number_is (next + 1) m (omega (arith, n)) (omega arith)

-- when next goes on, every slot but its own stands for the number that it stood for
pub number_later : (next k : ℕ) → k < 512 → (k ≡ next % 512 → ⊥) → slot_number (next + 1) k ≡ slot_number next k
number_later next k h n =
    let m = slot_number next k in
    let s : m % 512 ≡ k = number_slot next k h in
    let o : m ≡ next → ⊥ = λ e. n (sym s ∙ ap (λ (x : ℕ). x % 512) e) in
    let low : next ≤ m = omega arith in
    let near : m - next < 512 = omega arith in
    sym (ap (slot_number (next + 1)) s) ∙ later next m low near o

module _ (marks : List ℕ) (long : length marks ≡ 512) (number mark : ℕ) where
  pub mark_same : mark_of (set marks (number % 512) mark) number ≡ mark
  mark_same = get_or-set_same marks (number % 512) mark 0 (omega arith)

  pub mark_other : (m : ℕ) → (m % 512 ≡ number % 512 → ⊥) → mark_of (set marks (number % 512) mark) m ≡ mark_of marks m
  mark_other m n = get_or-set_other marks (number % 512) (m % 512) mark 0 n

  -- a fact of each mark, after a store
  pub each_mark : (P : ℕ → ℕ → Type 0) → P (number % 512) mark → ((k : ℕ) → k < 512 → (k ≡ number % 512 → ⊥) → P k (get_or marks k 0))
      → (k : ℕ) → k < length (set marks (number % 512) mark) → P k (get_or (set marks (number % 512) mark) k 0)
  each_mark P here there k h =
      let l : k < length marks = simp length-set at h in
      case
      (λ (e : k ≡ number % 512). rw (e, get_or-set_same marks (number % 512) mark 0 (omega arith)) here)
      (λ (n : k ≡ number % 512 → ⊥). rw (get_or-set_other marks (number % 512) k mark 0 n) (there k (omega arith) n))
      (ℕ_discrete k (number % 512))

module _ (r : Receiver) (long : length r.marks ≡ 512) (f : Ruled r) where
  abbrev next : ℕ
  next = r.head.next.0

  abbrev highest : ℕ
  highest = r.head.highest.0

  abbrev marks : List ℕ
  marks = r.marks

  pub accept_keeps : (seq : SeqNo) (size : ℕ) → next ≤ seq.0 → seq.0 - next < 512 → seq.0 ≤ 4294967294 → size ≤ r.head.slot → Ruled (entering r seq size)
  unfolding entering
  accept_keeps seq size new near usable fits =
      let number = seq.0 in
      record {
        one = f.one;
        late = f.late;
        low = omega (arith, f.low);
        far = omega (arith, f.far);
        top = λ n.
            case
            (λ (e : max highest number % 512 ≡ number % 512). rw (e, mark_same marks long number (size + 1)) (omega arith))
            (λ (o : max highest number % 512 ≡ number % 512 → ⊥).
            let m : max highest number ≡ highest =
            case (λ (q : number ≤ highest). omega arith) (λ (q : number ≤ highest → ⊥). absurd (o (ap (λ (x : ℕ). x % 512) (omega arith)))) (dec_le number highest) in
            rw (mark_other marks long number (size + 1) (max highest number) o, m) (f.top (omega (arith, n))))
            (ℕ_discrete (max highest number % 512) (number % 512));
        last = omega (arith, f.last);
        free = each_mark marks long number (size + 1) (λ (k m : ℕ). max highest number < slot_number next k → m ≡ 0)
            (λ a. absurd (omega arith))
            (λ k h n a. f.free k (omega arith) (omega arith));
        short = each_mark marks long number (size + 1) (λ (k m : ℕ). m - 1 ≤ r.head.slot)
            (omega arith)
            (λ k h n. f.short k (omega arith));
      }

  pub take_keeps : 1 ≤ mark_of marks next → next ≤ highest → Ruled (passing r)
  unfolding passing
  take_keeps held below = record {
    one = omega arith;
    late = omega (arith, f.late);
    low = omega arith;
    far = omega (arith, f.far);
    top = λ n.
        let o : highest % 512 ≡ next % 512 → ⊥ = apart next highest next below (omega (arith, f.far)) (omega arith) (omega arith) (λ e. n (omega arith)) in
        rw (mark_other marks long next 0 highest o) (f.top (λ e. omega arith));
    last = f.last;
    free = each_mark marks long next 0 (λ (k m : ℕ). highest < slot_number (next + 1) k → m ≡ 0)
        (λ a. refl)
        (λ k h n a. f.free k (omega arith) (subst (λ (x : ℕ). highest < x) (number_later next k h n) a));
    short = each_mark marks long next 0 (λ (k m : ℕ). m - 1 ≤ r.head.slot)
        (omega arith)
        (λ k h n. f.short k (omega arith));
  }
