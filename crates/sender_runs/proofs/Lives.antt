-- What may become of a number's standing: unmade and gone stay, a packet that waits flies once a send tells it, and one that flies is gone once acks
-- name it. Each call's law allows no more. Assumes nothing.
use Prim.Native.Nat.{ℕ}
use mathlib.Core.Path.{◌≡◌, refl, sym, ◌∙◌, ap}
use mathlib.Core.Bool.{Bool, true, false, ◌||◌, true≢false}
use mathlib.Core.List.{List}
use mathlib.Core.Option.{some}
use native.Mathlib.Omega.{arith}
use borrow.Author.Tests.{eqb-true}
use lib.Dec.{eqb}
use Rattle.terms.proofs.Laws.{or_right, or_false_left, or_false_right}
use Rattle.sender_meaning.specs.Meaning.{Standing, unmade, waits, flies, gone, packet_in, does_wait, does_fly}
use Rattle.sender_meaning.specs.Steps.{sent_as, is_named, acked_as, resent_as}
use Rattle.sender_meaning.proofs.Counts.{by_bool}

-- in flight as a packet, whenever it was sent
abbrev pub FliesAs : List ℕ → Standing → Type 0
FliesAs packet x = (packet_in x ≡ some packet) × (does_fly x ≡ true)

-- one standing, and a later one: whether a send told the number between them, whether acks named it, and whether acks did after the send
pub record Later (sent named acked : Bool) (x y : Standing) : Type 0 where
  pub unmade_stays : x ≡ unmade → y ≡ unmade
  pub gone_stays : x ≡ gone → y ≡ gone
  pub unmade_unsent : x ≡ unmade → sent ≡ false
  pub gone_unsent : x ≡ gone → sent ≡ false
  pub waits_on : (packet : List ℕ) → x ≡ waits packet → sent ≡ false → y ≡ waits packet
  pub sent_flies : (packet : List ℕ) → x ≡ waits packet → sent ≡ true → acked ≡ false → FliesAs packet y
  pub acked_gone : (packet : List ℕ) → x ≡ waits packet → acked ≡ true → y ≡ gone
  pub flies_on : (packet : List ℕ) → FliesAs packet x → named ≡ false → FliesAs packet y
  pub named_gone : (packet : List ℕ) → FliesAs packet x → named ≡ true → y ≡ gone

both_false : (a b : Bool) → a ≡ false → b ≡ false → (a || b) ≡ false
both_false a b e f = rw (e, f)

-- acks count from the send on: where the first call told the number those of the others that named it, and else those that did after a send of theirs
pub record SinceSent (sent named' acked' acked : Bool) : Type 0 where
  pub once_sent : sent ≡ true → acked ≡ named'
  pub not_yet : sent ≡ false → acked ≡ acked'

-- one call, and then others
pub later_then : (s n s' n' a' a : Bool) (x y z : Standing) → SinceSent s n' a' a → Later s n false x y → Later s' n' a' y z → Later (s || s') (n || n') a x z
later_then s n s' n' a' a x y z c p q = record {
  unmade_stays = λ e. q.unmade_stays (p.unmade_stays e);
  gone_stays = λ e. q.gone_stays (p.gone_stays e);
  unmade_unsent = λ e. both_false s s' (p.unmade_unsent e) (q.unmade_unsent (p.unmade_stays e));
  gone_unsent = λ e. both_false s s' (p.gone_unsent e) (q.gone_unsent (p.gone_stays e));
  waits_on = λ packet e f. q.waits_on packet (p.waits_on packet e (or_false_left s s' f)) (or_false_right s s' f);
  sent_flies = λ packet e t f.
      by_bool s
      (λ h. q.flies_on packet (p.sent_flies packet e h refl) (sym (c.once_sent h) ∙ f))
      (λ h. q.sent_flies packet (p.waits_on packet e h) (or_right s s' h t) (sym (c.not_yet h) ∙ f));
  acked_gone = λ packet e t.
      by_bool s
      (λ h. q.named_gone packet (p.sent_flies packet e h refl) (sym (c.once_sent h) ∙ t))
      (λ h. q.acked_gone packet (p.waits_on packet e h) (sym (c.not_yet h) ∙ t));
  flies_on = λ packet e f. q.flies_on packet (p.flies_on packet e (or_false_left n n' f)) (or_false_right n n' f);
  named_gone = λ packet e t.
      by_bool n
      (λ h. q.gone_stays (p.named_gone packet e h))
      (λ h. q.named_gone packet (p.flies_on packet e h) (or_right n n' h t));
}

-- the packet that is there later is the one that waited
pub later_packet : (s n a : Bool) (packet other : List ℕ) (y : Standing) → Later s n a (waits packet) y → packet_in y ≡ some other → some packet ≡ some other
later_packet s n a packet other y p e =
    by_bool s
    (λ h.
    by_bool a
    (λ t. let g = p.acked_gone packet refl t in let f = rw g at e in let w : ◌≡◌ {A = ℕ} 0 1 = cc in absurd (omega arith))
    (λ f. sym (p.sent_flies packet refl h f).0 ∙ e))
    (λ f. sym (ap packet_in (p.waits_on packet refl f)) ∙ e)

-- a number that no send tells stays; so does what flies where no acks name it
pub later_same : (named : Bool) (x : Standing) → (does_fly x ≡ true → named ≡ false) → Later false named false x x
later_same named x unnamed = record {
  unmade_stays = λ e. e;
  gone_stays = λ e. e;
  unmade_unsent = λ e. refl;
  gone_unsent = λ e. refl;
  waits_on = λ packet e f. e;
  sent_flies = λ packet e t f. absurd (true≢false (sym t));
  acked_gone = λ packet e t. absurd (true≢false (sym t));
  flies_on = λ packet e f. e;
  named_gone = λ packet e t. absurd (true≢false (sym t ∙ unnamed e.1));
}

-- a send tells it
told_later : (packet : List ℕ) (clock : ℕ) → Later true false false (waits packet) (flies packet clock)
told_later packet clock = record {
  unmade_stays = λ e. absurd (true≢false (ap does_wait e));
  gone_stays = λ e. absurd (true≢false (ap does_wait e));
  unmade_unsent = λ e. absurd (true≢false (ap does_wait e));
  gone_unsent = λ e. absurd (true≢false (ap does_wait e));
  waits_on = λ other e f. absurd (true≢false f);
  sent_flies = λ other e t f. (ap packet_in e, refl);
  acked_gone = λ other e t. absurd (true≢false (sym t));
  flies_on = λ other e f. absurd (true≢false (sym e.1));
  named_gone = λ other e t. absurd (true≢false (sym t));
}

-- it flies, and then flies still or is gone as acks name it
flown_later : (named : Bool) (packet : List ℕ) (sent : ℕ) (y : Standing) → (named ≡ false → FliesAs packet y) → (named ≡ true → y ≡ gone)
    → Later false named false (flies packet sent) y
flown_later named packet sent y on off = record {
  unmade_stays = λ e. absurd (true≢false (ap does_fly e));
  gone_stays = λ e. absurd (true≢false (ap does_fly e));
  unmade_unsent = λ e. refl;
  gone_unsent = λ e. refl;
  waits_on = λ other e f. absurd (true≢false (ap does_fly e));
  sent_flies = λ other e t f. absurd (true≢false (sym t));
  acked_gone = λ other e t. absurd (true≢false (sym t));
  flies_on = λ other e f. ((on f).0 ∙ e.0, (on f).1);
  named_gone = λ other e t. off t;
}

-- send, which tells a number that waits
sent_other : (told clock n : ℕ) (x : Standing) → eqb n told ≡ false → sent_as told clock n x ≡ x
sent_other told clock n unmade f = refl
sent_other told clock n (waits packet) f = rw f
sent_other told clock n (flies packet sent) f = refl
sent_other told clock n gone f = refl

pub sent_later : (told clock n : ℕ) (packet : List ℕ) (x : Standing) → (n ≡ told → x ≡ waits packet) → Later (eqb n told) false false x (sent_as told clock n x)
sent_later told clock n packet x was =
    by_bool (eqb n told)
    (λ t. rw (was (eqb-true n told t), t) (told_later packet clock))
    (λ f. rw (sent_other told clock n x f, f) (later_same false x (λ _. refl)))

pub resent_later : (p : ℕ → Bool) (clock n : ℕ) (x : Standing) → Later false false false x (resent_as p clock n x)
resent_later p clock n unmade = later_same false unmade (λ _. refl)
resent_later p clock n (waits packet) = later_same false (waits packet) (λ _. refl)
resent_later p clock n (flies packet sent) =
    flown_later false packet sent _ (λ _. by_bool (p n) (λ t. rw t (refl, refl)) (λ f. rw f (refl, refl))) (λ t. absurd (true≢false (sym t)))
resent_later p clock n gone = later_same false gone (λ _. refl)

pub acked_later : (through : ℕ) (nacks : List ℕ) (n : ℕ) (x : Standing) → Later false (is_named through nacks n) false x (acked_as through nacks n x)
acked_later through nacks n unmade = later_same (is_named through nacks n) unmade (λ e. absurd (true≢false (sym e)))
acked_later through nacks n (waits packet) = later_same (is_named through nacks n) (waits packet) (λ e. absurd (true≢false (sym e)))
acked_later through nacks n (flies packet sent) = flown_later (is_named through nacks n) packet sent _ (λ f. rw f (refl, refl)) (λ t. rw t)
acked_later through nacks n gone = later_same (is_named through nacks n) gone (λ e. absurd (true≢false (sym e)))
