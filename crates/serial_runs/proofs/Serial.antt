-- The promises. Assumes nothing.
use Prim.Native.Nat.{ℕ, zero, suc, ◌/◌, ◌%◌, ◌*◌, ◌+◌, ◌<◌}
use mathlib.Core.Path.{◌≡◌, refl, ap, sym, ◌∙◌, subst}
use mathlib.Core.Bool.{true, false, ◌&&◌}
use mathlib.Core.List.{List, [], ◌∷◌, ◌++◌, append-nil}
use mathlib.Core.Logic.{⊎_elim}
use native.Mathlib.Omega.{arith}
use borrow.Author.Tests.{eq-eqb}
use lib.ListN.{length, replicate, length-replicate}
use Rattle.std.proofs.lemmas.Grind.{common_steps}
use Rattle.terms.specs.Lists.{all}
use Rattle.terms.proofs.Laws.{and_left, and_right}
use Rattle.wire.specs.BigEndian.{is_byte}
use Rattle.wire.proofs.RoundTrip.{all_take}
use Rattle.portions.specs.Fold.{Left}
use Rattle.portions.specs.Stops.{OneCall, until_given}
use Rattle.serial_state.specs.Frames.{Coming, idle, half, within, stopped, is_stopped, is_unfit, read_byte, frames_of, line_of}
use Rattle.serial_state.specs.Rules.{coming_of, reader_of, there_in, line_rules}
use Rattle.serial_state.specs.Start.{line_start}
use Rattle.serial_state.specs.declared.LineReader.{LineReader}
use Rattle.serial_state.proofs.Facts.{ruled}
use Rattle.serial_feed.specs.Feed.{heard_by, feed_of}
use Rattle.serial_feed.proofs.Bytes.{within_short}
use Rattle.serial_runs.specs.Offers.{Feeding, all_bytes, reader_after, LeftByCalls, hears_from, HostDone}
use Rattle.serial_runs.specs.Promises.{ElevenExactly, HoweverCut, GetsDone, HonestLine, RefusedLength}
use Rattle.serial_runs.proofs.Lines.{stays, a_line}
use Rattle.serial_runs.proofs.Calls.{Keeps, stopped_is, feed_keeps}
use Rattle.serial_runs.proofs.Along.{heard, gets_done}

-- any calls keep the rules
after_keeps : (r : LineReader) (calls : List Feeding) → line_rules r ≡ true → all_bytes calls ≡ true → line_rules (reader_after r calls) ≡ true
after_keeps r [] h w = h
after_keeps r (call ∷ calls) h w =
    after_keeps (feed_of r call.portion call.buffer).state calls
    (feed_keeps r call.portion call.buffer h (and_left (all is_byte call.portion) (all is_byte call.buffer && all_bytes calls) w))
    (and_right (all is_byte call.buffer) (all_bytes calls) (and_right (all is_byte call.portion) (all is_byte call.buffer && all_bytes calls) w))

bytes_zeros : (n : ℕ) → all is_byte (replicate n 0) ≡ true
bytes_zeros zero = refl
bytes_zeros (suc n) = bytes_zeros n

-- one call leaves what the bytes of its portion leave
one_call : (buffer portion : List ℕ) → (feed_of (line_start buffer) portion buffer).state ≡ reader_of (length buffer) (until_given (read_byte (length buffer)) idle portion).state
unfolding feed_of heard_by line_rules
one_call buffer portion = rw (eq-eqb (length buffer) (length buffer) refl) (go (until_given (read_byte (length buffer)) idle portion))
  where
    go : (one : OneCall Coming (List ℕ)) → (heard_by (length buffer) buffer one).state ≡ reader_of (length buffer) one.state
    go one = grind (arith, common_steps)

-- a state that keeps the rules is left by a start over a buffer of zeros and at most one call
by_zeros : (room : ℕ) (portion : List ℕ) (coming : Coming) → all is_byte portion ≡ true → (until_given (read_byte room) idle portion).state ≡ coming → LeftByCalls (reader_of room coming)
by_zeros room portion coming w e =
    let zeros : List ℕ = replicate room 0 in
    let l : length zeros ≡ room = length-replicate {A = ℕ} room 0 in (
      zeros,
      record { portion = portion; buffer = zeros } ∷ [],
      rw (w, bytes_zeros room),
      one_call zeros portion ∙ rw (l, e),
    )

leaves : (room : ℕ) (coming : Coming) → Keeps room coming → all is_byte (there_in coming) ≡ true → LeftByCalls (reader_of room coming)
unfolding line_rules
leaves room idle k w = by_zeros room [] idle refl refl
leaves room (half high) k w = by_zeros room (high ∷ []) (half high) (grind (arith, common_steps)) refl
leaves room (within size there) k w =
    let back : size / 256 * 256 + size % 256 ≡ size = omega arith in
    let less : length there < size = grind (arith, common_steps) in
    let fits : is_unfit room size ≡ false = grind (arith, common_steps) in
    by_zeros room ((size / 256) ∷ (size % 256) ∷ there) (within size there) (grind (arith, common_steps)) (rw (back, fits, within_short room size [] there (omega arith)))
leaves room stopped k w = by_zeros room (0 ∷ 0 ∷ []) stopped refl refl

-- what is there in a buffer of zeros
zeros_there : (r : LineReader) (n : ℕ) → all is_byte (there_in (coming_of r (replicate n 0))) ≡ true
zeros_there r n = let w = all_take is_byte r.there (replicate n 0) (bytes_zeros n) in grind (arith, common_steps)

start_keeps : (buffer : List ℕ) → line_rules (line_start buffer) ≡ true
unfolding line_rules
start_keeps buffer = refl

pub eleven_exactly : ElevenExactly
eleven_exactly r = (there, back)
  where
    there : line_rules r ≡ true → LeftByCalls r
    there h =
        let zeros : List ℕ = replicate r.room 0 in
        let e = ruled r zeros h (length-replicate {A = ℕ} r.room 0) in
        subst LeftByCalls (sym e) (leaves r.room (coming_of r zeros) (subst (λ (x : LineReader). line_rules x ≡ true) e h) (zeros_there r r.room))

    back : LeftByCalls r → line_rules r ≡ true
    back (buffer, calls, w, e) = subst (λ (x : LineReader). line_rules x ≡ true) e (after_keeps (line_start buffer) calls (start_keeps buffer) w)

-- a host that is done has read the whole line
whole_line : (buffer line sizes : List ℕ) → all is_byte line ≡ true → HostDone (hears_from buffer line sizes)
    → frames_of (length buffer) line
    ≡ record { state = coming_of (hears_from buffer line sizes).state (hears_from buffer line sizes).buffer; gave = (hears_from buffer line sizes).packets }
whole_line buffer line sizes w done =
    let host = hears_from buffer line sizes in
    let h = heard (line_start buffer) buffer line sizes (start_keeps buffer) refl w in
    ⊎_elim
    (λ e. (rw e at h.is) ∙ rw (append-nil host.packets))
    (λ e.
    let s = stopped_is (coming_of host.state host.buffer) (sym h.refusal ∙ e) in
    h.is ∙ rw (s, stays (length buffer) host.unused, append-nil host.packets))
    done

pub however_cut : HoweverCut
however_cut buffer line sizes w done =
    let h = heard (line_start buffer) buffer line sizes (start_keeps buffer) refl w in
    let e = whole_line buffer line sizes w done in
    record {
      packets = sym (ap (λ (x : Left Coming (List ℕ)). x.gave) e);
      refusal = h.refusal ∙ sym (ap (λ (x : Left Coming (List ℕ)). is_stopped x.state) e);
    }

pub always_done : GetsDone
always_done buffer line sizes w some short = gets_done (line_start buffer) buffer line sizes (start_keeps buffer) refl w some short

pub honest_line : HonestLine
honest_line buffer sizes packets fit w done =
    let line = line_of packets in
    let host = hears_from buffer line sizes in
    let read : frames_of (length buffer) line ≡ record { state = idle; gave = packets } =
    ap (frames_of (length buffer)) (sym (append-nil line)) ∙ a_line (length buffer) packets [] fit ∙ rw (append-nil packets) in
    let e = sym (whole_line buffer line sizes w done) ∙ read in
    let h = heard (line_start buffer) buffer line sizes (start_keeps buffer) refl w in
    let known = ruled host.state host.buffer h.rules (h.sized ∙ sym h.room) in
    let nothing : coming_of host.state host.buffer ≡ idle = ap (λ (x : Left Coming (List ℕ)). x.state) e in
    record {
      exactly = ap (λ (x : Left Coming (List ℕ)). x.gave) e;
      none_refused = h.refusal ∙ ap (λ (x : Left Coming (List ℕ)). is_stopped x.state) e;
      as_started = known ∙ rw (nothing, h.room);
    }

pub refused_length : RefusedLength
refused_length buffer sizes packets high low rest fit bad w done =
    let line = line_of packets ++ high ∷ low ∷ rest in
    let a = however_cut buffer line sizes w done in
    let read : frames_of (length buffer) line ≡ record { state = stopped; gave = packets } =
    a_line (length buffer) packets (high ∷ low ∷ rest) fit ∙ rw (bad, stays (length buffer) rest, append-nil packets) in
    (a.packets ∙ ap (λ (x : Left Coming (List ℕ)). x.gave) read, a.refusal ∙ ap (λ (x : Left Coming (List ℕ)). is_stopped x.state) read)
