-- The flag bits of document 01: 0 SYNCHRONIZE, 1 CLOSE, 2 RESET, 3 SIGNATURE, 4 signature requested, 5 FROM, 6 DELAY, 7 MAX SIZE,
-- 8 interactive, 9 ECHO, 10 NO ACK, 11 OFFLINE; 12 to 15 are kept as found.
use Rattle.std.specs.Prelude.{ℕ, ◌/◌, ◌%◌, ◌^◌, Bool, eqb}

-- whether bit k is set
abbrev pub bit : ℕ → ℕ → Bool
bit k flags = eqb (flags / 2 ^ k % 2) 1
