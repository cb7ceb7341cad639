-- Any two results that a promise allows are equal: answer, state and every lent byte. Assumes nothing.
use Prim.Native.Nat.{ℕ}
use mathlib.Core.Path.{◌≡◌, ap}
use mathlib.Core.List.{List}
use Rattle.terms.proofs.Determined.{determined, told_one, said_of_one}
use Rattle.std.specs.Prelude.{Result, [], ◌∷◌}
use Rattle.terms.specs.declared.Refusal.{Refusal}
use Rattle.sender_state.specs.Answers.{Outcome}
use Rattle.sender_state.specs.declared.Sender.{Sender}
use Rattle.sender_send.specs.Fetch.{Fetches, fetch_of, fetched}
use Rattle.sender_send.specs.Send.{said_sent, send_of, sent_out}
use Rattle.sender_send.specs.declared.Departure.{Departure}
use Rattle.sender_send.specs.declared.Sent.{Sent}

pub fetch_determined : (s : Sender) (rank : ℕ) (store output : List ℕ) (a b : Result ℕ Refusal) (x y : List ℕ)
    → fetched a x ≡ fetch_of s rank store output → fetched b y ≡ fetch_of s rank store output → (a ≡ b) × (x ≡ y)
fetch_determined s rank store output a b x y p q =
    let e = determined p q in
    (said_of_one a b (ap (λ (o : Fetches). o.says) e), ap (λ (o : Fetches). o.output) e)

-- document 01's number and values leave one answer
pub sent_one : (a b : Result Departure Refusal) → said_sent a ≡ said_sent b → a ≡ b
sent_one a b e = told_one (λ (d : Departure). d.number.0 ∷ d.size ∷ []) one a b e where
  one : (x y : Departure) → ◌≡◌ {A = List ℕ} (x.number.0 ∷ x.size ∷ []) (y.number.0 ∷ y.size ∷ []) → x ≡ y
  one x y e =
      let p : x.number.0 ≡ y.number.0 = cc in
      let q : x.size ≡ y.size = cc in
      λ k. record { number = record { 0 = p k }; size = q k }

pub send_determined : (s : Sender) (clock : ℕ) (store output : List ℕ) (a b : Sent) (x y : List ℕ)
    → sent_out a x ≡ send_of s clock store output → sent_out b y ≡ send_of s clock store output → (a ≡ b) × (x ≡ y)
send_determined s clock store output a b x y p q =
    let e = determined p q in
    (λ k. record { answer = sent_one a.answer b.answer (ap (λ (o : Outcome). o.says) e) k; state = (e k).state }, ap (λ (o : Outcome). o.lent) e)
