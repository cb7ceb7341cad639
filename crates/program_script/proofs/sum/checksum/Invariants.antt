-- The sum stays below its modulus, so that the products fit.
use Prim.Native.Nat.{◌<◌}
use Rattle.program_script.proofs.sum.checksum.Given as goal

abbrev pub invariant-loop-bytes : goal.invariant-loop-bytes
invariant-loop-bytes l = l.sum < 4294967291

abbrev pub invariant-loop-byte : goal.invariant-loop-byte
invariant-loop-byte l = l.sum < 4294967291
