-- What leaves in a run is what was made: the calls before an event are a run of their own, in which what waits or flies was made so, and send and fetch
-- leave what waits or flies. Told by the calls' laws alone. Assumes nothing.
use Prim.Native.Nat.{ℕ}
use mathlib.Core.Path.{◌≡◌, refl, sym, ◌∙◌, ap}
use mathlib.Core.Bool.{true≢false}
use mathlib.Core.List.{List, [], ◌∷◌, ◌++◌}
use native.Mathlib.Omega.{arith}
use lib.ListN.{length}
use Rattle.terms.specs.Answers.{values}
use Rattle.sender_state.specs.Table.{◌!◌}
use Rattle.sender_state.specs.Numbers.{in_flight}
use Rattle.sender_send.specs.Send.{send_of}
use Rattle.sender_send.specs.Fetch.{fetch_of}
use Rattle.sender_meaning.specs.Meaning.{packet_in, does_fly}
use Rattle.sender_meaning.proofs.Counts.{by_bool}
use Rattle.sender_meaning.proofs.Sends.{send_changes}
use Rattle.sender_meaning.proofs.Fetches.{fetch_gives}
use Rattle.sender_runs.specs.Runs.{Call, submit, send, acks, resend, fetch, Event, Kept, step_of, kept_after, events_of, Run, begun, history_of, end_of}
use Rattle.sender_runs.specs.Remembers.{acked_in}
use Rattle.sender_runs.specs.Leaves.{SendLeaves, FetchLeaves, Leaves}
use Rattle.sender_runs.proofs.Remembering.{remembers, flies_sent}

-- the calls before an event, and its own
record Came (kept : Kept) (earlier : List Event) (e : Event) : Type 0 where
  calls : List Call
  call : Call
  earlier_are : events_of kept calls ≡ earlier
  is : (step_of (kept_after kept calls) call).event ≡ e

came : (kept : Kept) (calls : List Call) (earlier later : List Event) (e : Event) → events_of kept calls ≡ earlier ++ (e ∷ later) → Came kept earlier e
came kept [] [] later e h = let l = ap length h in absurd (omega arith)
came kept [] (x ∷ more) later e h = let l = ap length h in absurd (omega arith)
came kept (call ∷ rest) [] later e h = record { calls = []; call = call; earlier_are = refl; is = cc }
came kept (call ∷ rest) (x ∷ more) later e h =
    let tail : events_of (step_of kept call).kept rest ≡ more ++ (e ∷ later) = cc in
    let first : (step_of kept call).event ≡ x = cc in
    let c = came (step_of kept call).kept rest more later e tail in
    record { calls = call ∷ c.calls; call = c.call; earlier_are = let m = c.earlier_are in rw (first, m); is = c.is }

-- the run of the calls before
abbrev up_to : Run → List Call → Run
up_to run calls = record {
  first = run.first;
  chunk = run.chunk;
  count = run.count;
  store = run.store;
  started = run.started;
  width = run.width;
  calls = calls;
}

-- an event's answer and output are those of its call
by_call : (kept : Kept) (call asked : Call) (e : Event) → (step_of kept call).event ≡ e → e.asked ≡ asked → (step_of kept asked).event ≡ e
by_call kept (submit r to from bytes) asked e is a = let same : submit r to from bytes ≡ asked = ap (λ (x : Event). x.asked) is ∙ a in rw (← same) is
by_call kept (send clock output) asked e is a = let same : send clock output ≡ asked = ap (λ (x : Event). x.asked) is ∙ a in rw (← same) is
by_call kept (acks through nacks clock) asked e is a = let same : acks through nacks clock ≡ asked = ap (λ (x : Event). x.asked) is ∙ a in rw (← same) is
by_call kept (resend clock path) asked e is a = let same : resend clock path ≡ asked = ap (λ (x : Event). x.asked) is ∙ a in rw (← same) is
by_call kept (fetch rank output) asked e is a = let same : fetch rank output ≡ asked = ap (λ (x : Event). x.asked) is ∙ a in rw (← same) is

module _ (run : Run) (calls : List Call) where
  abbrev before : Kept
  before = end_of (up_to run calls)

  send_leaves : (clock : ℕ) (output given : List ℕ) → (send_of before.state clock before.store output).says ≡ values given
      → (e : Event) → e.output ≡ (send_of before.state clock before.store output).lent
      → SendLeaves run (history_of (up_to run calls)) e output given
  send_leaves clock output given done e out =
      let r = remembers (up_to run calls) in
      let c = send_changes before.state clock before.store output given done r.sound in
      record {
        number = c.told;
        size = length c.packet;
        given_is = c.gives;
        as_made = record {
          packet = c.packet;
          was_made = r.as_made c.told c.packet (ap packet_in c.was);
          size_is = refl;
          left_is = out ∙ c.output_is;
        };
      }

  fetch_leaves : (rank : ℕ) (output given : List ℕ) → (fetch_of before.state rank before.store output).says ≡ values given
      → (e : Event) → e.output ≡ (fetch_of before.state rank before.store output).output
      → FetchLeaves run (history_of (up_to run calls)) e output given
  fetch_leaves rank output given done e out =
      let r = remembers (up_to run calls) in
      let f = fetch_gives before.state rank before.store output r.sound given done in
      let n = in_flight before.state ! rank in
      let Made-so = r.as_made n f.packet (ap packet_in f.is) in
      record {
        number = n;
        size = length f.packet;
        given_is = f.gives;
        was_sent = flies_sent (up_to run calls) n (ap does_fly f.is);
        not_acked = by_bool (acked_in n (history_of (up_to run calls)))
            (λ t. absurd (true≢false (sym (ap does_fly f.is) ∙ ap does_fly (r.gone_when_acked n f.packet Made-so t))))
            (λ g. g);
        as_made = record { packet = f.packet; was_made = Made-so; size_is = refl; left_is = out ∙ f.output_is };
      }

pub leaves_as_made : (run : Run) → Leaves run
leaves_as_made run = record {
  by_send = λ earlier later e h clock output given a v.
      let c = came (begun run.first run.chunk run.count run.store) run.calls earlier later e h in
      let is = by_call (end_of (up_to run c.calls)) c.call (send clock output) e c.is a in
      rw (← c.earlier_are) (send_leaves run c.calls clock output given (ap (λ (x : Event). x.answered) is ∙ v) e (sym (ap (λ (x : Event). x.output) is)));
  by_fetch = λ earlier later e h rank output given a v.
      let c = came (begun run.first run.chunk run.count run.store) run.calls earlier later e h in
      let is = by_call (end_of (up_to run c.calls)) c.call (fetch rank output) e c.is a in
      rw (← c.earlier_are) (fetch_leaves run c.calls rank output given (ap (λ (x : Event). x.answered) is ∙ v) e (sym (ap (λ (x : Event). x.output) is)));
}
