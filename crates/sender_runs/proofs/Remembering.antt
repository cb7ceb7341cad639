-- Every run of a sender remembers what was submitted until it was sent and acks named it: each call keeps a sound state sound, blames neither the rules nor the sizes,
-- and lets each number's standing become no more than it may. Told by the calls' laws alone. Assumes nothing.
use Prim.Native.Nat.{ℕ, ◌≤◌, ◌<◌, ◌^◌}
use mathlib.Core.Path.{◌≡◌, refl, sym, ◌∙◌, ap}
use mathlib.Core.Bool.{true, false, true≢false}
use mathlib.Core.List.{List, [], ◌∷◌}
use mathlib.Core.Option.{some}
use native.Mathlib.Decide.{dec_le}
use native.Mathlib.Omega.{arith}
use borrow.Author.Tests.{le-leb, lt-leb, ltb-true}
use lib.ListN.{length}
use Rattle.terms.proofs.Laws.{case}
use Rattle.terms.specs.Answers.{values}
use Rattle.receiver_calls.proofs.Laws.{by_said}
use Rattle.sender_send.specs.Send.{send_of}
use Rattle.sender_acks.specs.Acks.{acks_of}
use Rattle.sender_resend.specs.Resend.{resend_of}
use Rattle.sender_submit.specs.Submit.{submit_of}
use Rattle.sender_submit_answer.specs.Answer.{chunks_of}
use Rattle.sender_meaning.specs.Meaning.{gone, standing, does_wait, does_fly, Sound}
use Rattle.sender_meaning.specs.Steps.{goes_again}
use Rattle.sender_meaning.proofs.Counts.{by_bool}
use Rattle.sender_meaning.proofs.Starts.{start_sound, start_standing, start_chunk, start_count, start_next}
use Rattle.sender_meaning.proofs.Submitting.{submit_refused, submit_done}
use Rattle.sender_meaning.proofs.Sends.{send_nothing, send_changes, send_sound, send_fair}
use Rattle.sender_meaning.proofs.Acks.{acks_nothing, acks_changes, acks_sound, acks_fair}
use Rattle.sender_meaning.proofs.Resends.{resend_nothing, resend_changes, resend_sound, resend_fair}
use Rattle.sender_meaning.proofs.Fetches.{fetch_fair}
use Rattle.sender_runs.specs.Runs.{Call, submit, send, acks, resend, fetch, Event, Kept, step_of, kept_after, events_of, Run, begun, history_of}
use Rattle.sender_runs.specs.Remembers.{fair_to, all_fair, made_by, made_in, sent_by, sent_in, named_by, named_in, acked_in, made, standing_of, Remembers}
use Rattle.sender_runs.proofs.Lives.{SinceSent, later_packet, sent_later, resent_later, acked_later}
use Rattle.sender_runs.proofs.Goes.{not_made, Goes, made_or_not, stayed, changed, goes_then, fair_submit, submitted}

-- acks that named a number before a send told it do not count, and those after it do
abbrev telling : Event
telling = record { asked = send 0 []; next = 2; answered = values (1 ∷ 23 ∷ []); output = [] }

abbrev naming : Event
naming = record { asked = acks 1 [] 0; next = 2; answered = values (0 ∷ []); output = [] }

early_acks : acked_in 1 (naming ∷ telling ∷ []) ≡ false
early_acks = refl

later_acks : acked_in 1 (telling ∷ naming ∷ []) ≡ true
later_acks = refl

-- acks count from the send on
acked_counts : (n : ℕ) (e : Event) (rest : List Event) → SinceSent (sent_by n e.asked e.answered) (named_in n rest) (acked_in n rest) (acked_in n (e ∷ rest))
acked_counts n e rest = record { once_sent = λ t. rw t; not_yet = λ f. rw f }

-- every call goes on
step : (chunk : ℕ) (kept : Kept) (call : Call) → kept.state.chunk ≡ chunk → Sound kept.state kept.store
    → Goes kept (step_of kept call).kept (fair_to (step_of kept call).event.asked (step_of kept call).event.answered)
    (λ n. made_by chunk n (step_of kept call).event.asked (step_of kept call).event.next (step_of kept call).event.answered)
    (λ n. sent_by n (step_of kept call).event.asked (step_of kept call).event.answered) (λ n. named_by n (step_of kept call).event.asked (step_of kept call).event.answered) (λ n. false)
step chunk kept (submit r to from bytes) is sound =
    let s = kept.state in
    let store = kept.store in
    let after = (step_of kept (submit r to from bytes)).kept in
    let fair = fair_submit s r to from bytes store sound in
    by_said (submit_of s r to from bytes store).says
    (λ n q.
    let k = submit_refused s r to from bytes store n q in
    stayed kept after _ _ _ _ (λ m. rw q) fair sound k.0 k.1 (λ m. refl) (λ m. refl))
    (λ given q.
    let p : (submit_of s r to from bytes store).says ≡ values (chunks_of s.chunk (length bytes) ∷ []) = q ∙ ap values (submit_done s r to from bytes store given q).gives in
    rw p (submitted kept r to from bytes sound (chunks_of s.chunk (length bytes)) p chunk is _ (rw p at fair)))
step chunk kept (send clock output) is sound =
    let s = kept.state in
    let store = kept.store in
    let after = (step_of kept (send clock output)).kept in
    let fair = send_fair s clock store output sound in
    by_said (send_of s clock store output).says
    (λ n q. stayed kept after _ _ _ _ (λ m. refl) fair sound (send_nothing s clock store output n q).0 refl (λ m. rw q) (λ m. refl))
    (λ given q.
    let c = send_changes s clock store output given q sound in
    changed kept after _ _ _ _ (λ m. refl) fair (send_sound s clock store output sound) refl c.chunk_is c.count_is c.next_is
    (λ n.
    let told : (send_of s clock store output).says ≡ values (c.told ∷ length c.packet ∷ []) = q ∙ ap values c.gives in
    rw (c.now_is n, told) (sent_later c.told clock n c.packet (standing s store n) (λ e. ap (standing s store) e ∙ c.was))))
step chunk kept (acks through nacks clock) is sound =
    let s = kept.state in
    let store = kept.store in
    let after = (step_of kept (acks through nacks clock)).kept in
    let fair = acks_fair s through nacks clock store sound in
    by_said (acks_of s through nacks clock).says
    (λ n q. stayed kept after _ _ _ _ (λ m. refl) fair sound (acks_nothing s through nacks clock n q) refl (λ m. refl) (λ m. rw q))
    (λ given q.
    let c = acks_changes s through nacks clock store sound given q in
    changed kept after _ _ _ _ (λ m. refl) fair (acks_sound s through nacks clock store sound) refl c.chunk_is c.count_is c.next_is
    (λ n. rw (c.now_is n, q) (acked_later through nacks n (standing s store n))))
step chunk kept (resend clock path) is sound =
    let s = kept.state in
    let store = kept.store in
    let after = (step_of kept (resend clock path)).kept in
    let fair = resend_fair s clock path store sound in
    by_said (resend_of s clock path).says
    (λ n q. stayed kept after _ _ _ _ (λ m. refl) fair sound (resend_nothing s clock path n q) refl (λ m. refl) (λ m. refl))
    (λ given q.
    let c = resend_changes s clock path store sound given q in
    changed kept after _ _ _ _ (λ m. refl) fair (resend_sound s clock path store sound) refl c.chunk_is c.count_is c.next_is
    (λ n. rw (c.now_is n) (resent_later (goes_again s clock path) clock n (standing s store n))))
step chunk kept (fetch rank output) is sound =
    stayed kept kept _ _ _ _ (λ m. refl) (fetch_fair kept.state rank kept.store output sound) sound refl refl (λ m. refl) (λ m. refl)

-- and so does every list of calls
steps : (chunk : ℕ) (kept : Kept) (calls : List Call) → kept.state.chunk ≡ chunk → Sound kept.state kept.store
    → Goes kept (kept_after kept calls) (all_fair (events_of kept calls)) (λ n. made_in chunk n (events_of kept calls)) (λ n. sent_in n (events_of kept calls)) (λ n. named_in n (events_of kept calls))
    (λ n. acked_in n (events_of kept calls))
steps chunk kept [] is sound = stayed kept kept true _ _ _ (λ m. refl) refl sound refl refl (λ m. refl) (λ m. refl)
steps chunk kept (call ∷ rest) is sound =
    let one = step chunk kept call is sound in
    goes_then kept (step_of kept call).kept _ _ _ _ _ _ _ _ _ _ _ (λ n. acked_counts n (step_of kept call).event (events_of (step_of kept call).kept rest)) one (steps chunk (step_of kept call).kept rest (one.chunk_is ∙ is) one.sound)

pub remembers : (run : Run) → Remembers run
remembers run =
    let first = run.first in
    let width = ltb-true first.0 (2 ^ 32) run.width in
    let narrow : first.0 < 4294967296 = omega arith in
    let stands = start_standing first run.chunk run.count run.store run.started narrow in
    let next = start_next first run.chunk run.count run.store run.started in
    let chunk = start_chunk first run.chunk run.count run.store run.started in
    let g = steps run.chunk (begun first run.chunk run.count run.store) run.calls chunk (start_sound first run.chunk run.count run.store run.started narrow) in
    record {
      sound = g.sound;
      store_length = g.long;
      chunk_is = g.chunk_is ∙ chunk;
      count_is = g.count_is ∙ start_count first run.chunk run.count run.store run.started;
      never_11_or_10 = g.fairly;
      made_range = λ n packet e. let w = g.range n packet e in (omega (arith, next), w.1);
      unmade_is = λ n h e. (g.still n e).unmade_stays (stands n ∙ rw (le-leb first.0 n h));
      waits_until_sent = λ n packet e. (g.fresh n packet e).waits_on packet refl;
      flies_until_acked = λ n packet e. (g.fresh n packet e).sent_flies packet refl;
      gone_when_acked = λ n packet e. (g.fresh n packet e).acked_gone packet refl;
      sent_made = λ n z.
          case
          (λ (a : first.0 ≤ n). (g.still n z).unmade_unsent (stands n ∙ rw (le-leb first.0 n a)))
          (λ (a : first.0 ≤ n → ⊥). (g.still n z).gone_unsent (stands n ∙ rw (lt-leb first.0 n (omega arith))))
          (dec_le first.0 n);
      as_made = λ n packet e.
          made_or_not (made_in run.chunk n (history_of run))
          (λ z.
          case
          (λ (a : first.0 ≤ n). let u = (g.still n z).unmade_stays (stands n ∙ rw (le-leb first.0 n a)) in let f = rw u at e in not_made f refl)
          (λ (a : first.0 ≤ n → ⊥). let u = (g.still n z).gone_stays (stands n ∙ rw (lt-leb first.0 n (omega arith))) in let f = rw u at e in not_made f refl)
          (dec_le first.0 n))
          (λ p z. z ∙ later_packet _ _ _ p packet _ (g.fresh n p z) e);
      below_first = λ n h.
          made_or_not (made_in run.chunk n (history_of run))
          (λ z. (g.still n z).gone_stays (stands n ∙ rw (lt-leb first.0 n h)))
          (λ p z. absurd (omega (arith, next, (g.range n p z).0)));
    }

-- what was made is gone only where a send told it and acks that came later named it
pub gone_acked : (run : Run) (n : ℕ) (packet : List ℕ) → made run n ≡ some packet → standing_of run n ≡ gone → acked_in n (history_of run) ≡ true
gone_acked run n packet e g =
    let r = remembers run in
    by_bool (acked_in n (history_of run))
    (λ t. t)
    (λ f.
    by_bool (sent_in n (history_of run))
    (λ s. absurd (true≢false (sym (r.flies_until_acked n packet e s f).1 ∙ ap does_fly g)))
    (λ s. absurd (true≢false (sym (ap does_wait (r.waits_until_sent n packet e s)) ∙ ap does_wait g))))

-- what flies was told by a send
pub flies_sent : (run : Run) (n : ℕ) → does_fly (standing_of run n) ≡ true → sent_in n (history_of run) ≡ true
flies_sent run n t =
    let r = remembers run in
    by_bool (sent_in n (history_of run))
    (λ s. s)
    (λ f.
    made_or_not (made run n)
    (λ z.
    case
    (λ (a : run.first.0 ≤ n). absurd (true≢false (sym t ∙ ap does_fly (r.unmade_is n a z))))
    (λ (a : run.first.0 ≤ n → ⊥). absurd (true≢false (sym t ∙ ap does_fly (r.below_first n (omega arith)))))
    (dec_le run.first.0 n))
    (λ p z. absurd (true≢false (sym t ∙ ap does_fly (r.waits_until_sent n p z f)))))
