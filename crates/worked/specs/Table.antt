-- Document 01, "Numbers to check by hand": every line marked P, in its order. Nothing here is computed but the row of NACKs from 1 on.
use Rattle.std.specs.Prelude.{ℕ, zero, suc, ◌%◌, List, [], ◌∷◌, ◌++◌, replicate}
use Rattle.terms.specs.Answers.{refusal, values}
use Rattle.receiver_runs.specs.Runs.{Call, accept, take, acknowledge}
use Rattle.receiver_runs.specs.History.{Piece}
use Rattle.worked.specs.Lines.{Line, receives, hands, grows, smooths, weighs, resends}

-- a packet of the number n with one byte, the number's last one, and with none
abbrev packet : ℕ → Call
packet n = accept (record { 0 = n }) (n % 256 ∷ [])

abbrev empty : ℕ → Call
empty n = accept (record { 0 = n }) []

-- a take into one byte
abbrev taking : Call
taking = take (0 ∷ [])

-- an acknowledgement with the ids 01020304 and 0A0B0C0D, into so many bytes of 0
abbrev asking : ℕ → Call
asking room = acknowledge (record { 0 = 16909060 }) (record { 0 = 168496141 }) (replicate room 0)

-- the front of each ack: the ids and the sequence number 0
abbrev front : List ℕ
front = 1 ∷ 2 ∷ 3 ∷ 4 ∷ 10 ∷ 11 ∷ 12 ∷ 13 ∷ 0 ∷ 0 ∷ 0 ∷ 0 ∷ []

-- so many NACKs from n on, of four bytes each; all of them are below 256
abbrev nacks_from : ℕ → ℕ → List ℕ
nacks_from n zero = []
nacks_from n (suc more) = 0 ∷ 0 ∷ 0 ∷ n ∷ nacks_from (suc n) more

-- resend delay 0, no flag, no option; and resend delay 0, bit 6, two option bytes, the delay 60,001
abbrev plain_end : List ℕ
plain_end = 0 ∷ 0 ∷ 0 ∷ 0 ∷ 0 ∷ []

abbrev delay_end : List ℕ
delay_end = 0 ∷ 0 ∷ 64 ∷ 0 ∷ 2 ∷ 234 ∷ 97 ∷ []

abbrev piece : ℕ → List ℕ → Piece
piece n bytes = record { number = n; bytes = bytes }

abbrev pub table : List Line
table =
    -- s=0: ack-through 0, no NACK, take gives 17
    receives 0 (asking 22 ∷ []) (values (22 ∷ [])) (front ++ (0 ∷ 0 ∷ 0 ∷ 0 ∷ 0 ∷ plain_end)) ∷
    receives 0 (taking ∷ []) (refusal 17) (0 ∷ []) ∷
    -- s=0, accept 1, 2, 5: the whole ack
    receives 0 (packet 1 ∷ packet 2 ∷ packet 5 ∷ asking 30 ∷ []) (values (30 ∷ []))
    (1 ∷ 2 ∷ 3 ∷ 4 ∷ 10 ∷ 11 ∷ 12 ∷ 13 ∷ 0 ∷ 0 ∷ 0 ∷ 0 ∷ 0 ∷ 0 ∷ 0 ∷ 5 ∷ 2 ∷ 0 ∷ 0 ∷ 0 ∷ 3 ∷ 0 ∷ 0 ∷ 0 ∷ 4 ∷ 0 ∷ 0 ∷ 0 ∷ 0 ∷ 0 ∷ []) ∷
    -- s=0, accept 2 (empty), 3, 1, 4: taken as 1, 2, 3, 4
    hands 0 (empty 2 ∷ packet 3 ∷ packet 1 ∷ packet 4 ∷ taking ∷ taking ∷ taking ∷ taking ∷ taking ∷ [])
    (piece 1 (1 ∷ []) ∷ piece 2 [] ∷ piece 3 (3 ∷ []) ∷ piece 4 (4 ∷ []) ∷ []) ∷
    -- s=0, accept 512: ack-through 255, NACKs 1 to 255, delay, 1,044 bytes; then 513 gives 14
    receives 0 (packet 512 ∷ asking 1044 ∷ []) (values (1044 ∷ [])) (front ++ (0 ∷ 0 ∷ 0 ∷ 255 ∷ 255 ∷ (nacks_from 1 255 ++ delay_end))) ∷
    receives 0 (packet 512 ∷ packet 513 ∷ []) (refusal 14) [] ∷
    -- s=0, accept 256 only: ack-through 256, 255 NACKs, delay
    receives 0 (packet 256 ∷ asking 1044 ∷ []) (values (1044 ∷ [])) (front ++ (0 ∷ 0 ∷ 1 ∷ 0 ∷ 255 ∷ (nacks_from 1 255 ++ delay_end))) ∷
    -- 255 only: 254 NACKs, no delay, 1,038 bytes
    receives 0 (packet 255 ∷ asking 1038 ∷ []) (values (1038 ∷ [])) (front ++ (0 ∷ 0 ∷ 0 ∷ 255 ∷ 254 ∷ (nacks_from 1 254 ++ plain_end))) ∷
    -- s=4,294,967,294: that number gives 13, the next 12
    receives 4294967294 (packet 4294967294 ∷ []) (refusal 13) [] ∷
    receives 4294967294 (packet 4294967295 ∷ []) (refusal 12) [] ∷
    -- window 63, 126, 127, 128, 128; 64, 65; resend at 1 stays 1
    grows 63 (126 ∷ 127 ∷ 128 ∷ 128 ∷ []) ∷
    grows 64 (65 ∷ []) ∷
    resends (9001 ∷ []) 1 1 1 ∷
    -- samples 800, 1,600: RTO 2,400; then RTT 900, deviation 500, RTO 2,900 (document 02, request [3])
    smooths (800 ∷ []) 800 400 2400 ∷
    smooths (800 ∷ 1600 ∷ []) 900 500 2900 ∷
    -- old 800 and sample 1,600 give 900; old 1 and sample 0 give 0 (document 02, request [8])
    weighs 800 1600 900 ∷
    weighs 1 0 0 ∷
    -- ages 9,001, 50, 9,001 at RTO 9,000, window 3: one resent, and the window falls by 1; age 9,000: none
    resends (9001 ∷ 50 ∷ 9001 ∷ []) 3 1 2 ∷
    resends (9000 ∷ []) 3 0 3 ∷
    []
